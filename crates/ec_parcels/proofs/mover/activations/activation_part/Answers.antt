-- The headings are those of the activation that is shown, and the values that are read at its stop are its own.
use Rattle.std.proofs.Common.{◌≡◌, ℕ, ◌<◌, Bool, List, length, ap, subst, sym, ◌∙◌}
use Rattle.std.proofs.lemmas.Option.{same_Some}
use Rattle.ec_activations.specs.Frames.{number_if, stop_of}
use Rattle.ec_node_frames.specs.Carried.{CarriedHere, values_carried}
use Rattle.ec_base.proofs.Lists.{get_within}
use Rattle.ec_parcels.proofs.Stops.{carried_from, stop_of_leaving, table_there}
use Rattle.ec_parcels.proofs.mover.activations.activation_part.Goals as goal
use Rattle.ec_generate.specs.declared.table.StopEntry.{StopEntry}
use Rattle.ec_stores.specs.Node.{store_of}
use Rattle.ec_wire.specs.declared.parcel.ActivationPart.{ActivationPart}
use Rattle.ec_world.specs.declared.value.Value.{Value}

pub table_at-table-requires : goal.table_at-table-requires
table_at-table-requires c =
    let r = c.requires in
    let heads = c.headings_of-headings.ensures r.parts r.homes r.activation r.leaves.shown in
    let t = table_there r.declared r.parts (store_of c.args.node.now).kind r.homes c.args.tables.now r.leaves.has r.activation r.entry
    r.leaves.goes in
    subst (λ n. n < length c.args.tables.now) (sym heads.operation) (get_within c.args.tables.now r.activation.operation t.0 t.1)

pub at-entry-requires : goal.at-entry-requires
at-entry-requires c =
    let r = c.requires in
    let heads = c.headings_of-headings.ensures r.parts r.homes r.activation r.leaves.shown in
    let h = c.headings_of-headings.result in
    get_within c.table_at-table.result.now.stops h.stop r.entry
    (stop_of_leaving (store_of c.args.node.now) c.args.tables.now c.args.process c.args.depth r.declared r.parts r.homes r.activation
    r.entry r.leaves h heads c.table_at-table.result.now c.table_at-table.ensures)

pub carried_values-requires : goal.carried_values-requires
carried_values-requires c =
    let r = c.requires in
    let s = store_of c.args.node.now in
    let heads = c.headings_of-headings.ensures r.parts r.homes r.activation r.leaves.shown in
    let h = c.headings_of-headings.result in
    let table = c.table_at-table.result.now in
    let stop = stop_of_leaving s c.args.tables.now c.args.process c.args.depth r.declared r.parts r.homes r.activation r.entry r.leaves h
    heads table c.table_at-table.ensures in
    let same : r.entry ≡ c.at-entry.result.now = same_Some r.entry c.at-entry.result.now (sym stop ∙ c.at-entry.ensures) in
    record {
      declared = r.declared;
      parts = r.parts;
      homes = r.homes;
      tables = c.args.tables.now;
      activation = r.activation;
      goes =
          subst (λ (x : StopEntry).
          CarriedHere s table x c.args.process c.args.depth h.pending r.declared r.parts r.homes c.args.tables.now r.activation) same
          (carried_from s c.args.tables.now c.args.process c.args.depth r.declared r.parts r.homes r.activation r.entry r.leaves h heads
          table c.table_at-table.ensures);
    }

-- a part of these
abbrev part : ℕ → ℕ → ℕ → ℕ → Bool → ℕ → List Value → ActivationPart
part process depth operation stop is_pending own values = record {
  process = process;
  depth = depth;
  operation = operation;
  stop = stop;
  is_pending = is_pending;
  own = own;
  values = values;
}

pub returns : goal.returns
returns c = λ d p homes a e leaves.
    let s = store_of c.args.node.now in
    let heads = c.headings_of-headings.ensures p homes a leaves.shown in
    let h = c.headings_of-headings.result in
    let table = c.table_at-table.result.now in
    let stop =
    stop_of_leaving s c.args.tables.now c.args.process c.args.depth d p homes a e leaves h heads table c.table_at-table.ensures in
    let same : e ≡ c.at-entry.result.now = same_Some e c.at-entry.result.now (sym stop ∙ c.at-entry.ensures) in
    let carried =
    subst (λ (x : StopEntry). CarriedHere s table x c.args.process c.args.depth h.pending d p homes c.args.tables.now a) same
    (carried_from s c.args.tables.now c.args.process c.args.depth d p homes a e leaves h heads table c.table_at-table.ensures) in
    let values : c.in_ok-values.values ≡ values_carried p a e a.pending =
    c.in_ok-values.ensures d p homes c.args.tables.now a carried
    ∙ ap (λ (x : StopEntry). values_carried p a x h.pending) (sym same)
    ∙ ap (λ b. values_carried p a e b) heads.pending in
    ap (λ n. part c.args.process c.args.depth n h.stop h.pending h.own c.in_ok-values.values) heads.operation
    ∙ ap (λ n. part c.args.process c.args.depth a.operation n h.pending h.own c.in_ok-values.values) heads.stop
    ∙ ap (λ b. part c.args.process c.args.depth a.operation (number_if (stop_of p a)) b h.own c.in_ok-values.values) heads.pending
    ∙ ap (λ n. part c.args.process c.args.depth a.operation (number_if (stop_of p a)) a.pending n c.in_ok-values.values) heads.own
    ∙ ap (part c.args.process c.args.depth a.operation (number_if (stop_of p a)) a.pending a.own) values
