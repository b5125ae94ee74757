-- The table and the stop that are found are those that the tables have for the part.
use Rattle.std.proofs.Common.{◌≡◌, ◌∷◌, ℕ, List, Some, ap, subst, sym, ◌∙◌}
use Rattle.std.specs.Prelude.{OnOk, slice_get}
use Rattle.std.proofs.lemmas.Option.{same_Some}
use Rattle.ec_node_frames.specs.Arriving.{Arrives}
use Rattle.ec_node_frames.specs.Carried.{carried}
use Rattle.ec_node_frames.specs.Spelled.{HaveHomes, frame_by}
use Rattle.ec_node_frames.specs.declared.frames.Headings.{Headings}
use Rattle.ec_parcels.proofs.mover.activations.put_activation.Goals as goal
use Rattle.ec_parcels.specs.Activations.{headings_in}
use Rattle.ec_objects.specs.Values.{TextsFit}
use Rattle.ec_generate.specs.declared.table.OperationTable.{OperationTable}
use Rattle.ec_generate.specs.declared.table.StopEntry.{StopEntry}
use Rattle.ec_stores.specs.Node.{store_of}
use Rattle.ec_things.specs.Store.{Store}
use Rattle.ec_things.specs.Texts.{GetsTexts}
use Rattle.ec_things.specs.Things.{Puts}
use Rattle.ec_world.specs.Group.{Has}
use Rattle.ec_world.specs.declared.key.Key.TheVariants.{Frame}
use Rattle.ec_world.specs.declared.value.Value.{Value}
use Rattle.ec_world.specs.declared.value.Value.TheVariants.{Ref, Str}

-- what is spelled is put
abbrev Spelled : Store → Store → OperationTable → StopEntry → ℕ → ℕ → Headings → List Value → Type 0
Spelled s s' table e process depth h values =
    HaveHomes table (carried e h.pending) values → Puts s s' (Frame process depth) (Some (frame_by table e process depth h values))

pub arrive-requires-clause-texts : goal.arrive-requires-clause-texts
arrive-requires-clause-texts c =
    subst (λ (vs : List Value). TextsFit (store_of c.args.node.now) (Ref c.args.part.now.own ∷ vs)) (sym c.as_slice.ensures)
    c.requires.texts

pub returns-clause-puts : goal.returns-clause-puts
returns-clause-puts c = λ table e is.
    let s = store_of c.args.node.now in
    let s' = store_of c.arrive.new.node in
    let part = c.args.part.now in
    let h = headings_in part in
    let same_table : c.table_at-table.result.now ≡ table =
    same_Some c.table_at-table.result.now table (sym c.table_at-table.ensures ∙ is.its) in
    let same_entry : c.at-entry.result.now ≡ e =
    same_Some c.at-entry.result.now e
    (sym c.at-entry.ensures ∙ ap (λ (t : OperationTable). slice_get t.stops part.stop) same_table ∙ is.stop) in
    subst (λ (t : OperationTable). OnOk c.arrive.result (Arrives s s' t e part.process part.depth h part.values)) same_table
    (subst (λ (x : StopEntry).
    OnOk c.arrive.result (Arrives s s' c.table_at-table.result.now x part.process part.depth h part.values)) same_entry
    (subst (λ (vs : List Value).
    OnOk c.arrive.result (Arrives s s' c.table_at-table.result.now c.at-entry.result.now part.process part.depth h vs))
    c.as_slice.ensures c.arrive.ensures.puts))

pub returns-clause-spelled : goal.returns-clause-spelled
returns-clause-spelled c = λ table e is.
    let s = store_of c.args.node.now in
    let s' = store_of c.arrive.new.node in
    let part = c.args.part.now in
    let h = headings_in part in
    let same_table : c.table_at-table.result.now ≡ table =
    same_Some c.table_at-table.result.now table (sym c.table_at-table.ensures ∙ is.its) in
    let same_entry : c.at-entry.result.now ≡ e =
    same_Some c.at-entry.result.now e
    (sym c.at-entry.ensures ∙ ap (λ (t : OperationTable). slice_get t.stops part.stop) same_table ∙ is.stop) in
    subst (λ (t : OperationTable). OnOk c.arrive.result (Spelled s s' t e part.process part.depth h part.values)) same_table
    (subst (λ (x : StopEntry).
    OnOk c.arrive.result (Spelled s s' c.table_at-table.result.now x part.process part.depth h part.values)) same_entry
    (subst (λ (vs : List Value).
    OnOk c.arrive.result (Spelled s s' c.table_at-table.result.now c.at-entry.result.now part.process part.depth h vs))
    c.as_slice.ensures c.arrive.ensures.spelled))

pub returns-clause-gets : goal.returns-clause-gets
returns-clause-gets c =
    subst (λ (vs : List Value).
    OnOk c.arrive.result
    (GetsTexts (λ text. Has (Ref c.args.part.now.own ∷ vs) (Str text)) (store_of c.args.node.now) (store_of c.arrive.new.node)))
    c.as_slice.ensures c.arrive.ensures.gets
