-- Activations whose action is done, or which begin, hold the texts that came with this.
use Rattle.std.proofs.Common.{◌≡◌, ◌≢◌, ℕ, zero, suc, ◌-◌, ◌<◌, ◌≤◌, ◌==◌, true, eq-eqb, List, [], ◌∷◌, ◌++◌, Option, Some, None}
use Rattle.std.proofs.Common.{refl, sym, ap, ◌∙◌, subst, arith}
use Rattle.std.specs.Prelude.{if◌then◌else◌, length, map, slice_get, slice_set}
use Rattle.std.proofs.lemmas.Option.{same_Some}
use Rattle.ec_activations.specs.Frames.{Held, Numbered, at_place, entries_if, frame_thing, held_if, held_in, held_of, or_nil, result_in}
use Rattle.ec_activations.specs.Frames.{stop_of, taker_of, value_in}
use Rattle.ec_base.proofs.Lists.{get_set_same}
use Rattle.ec_cluster.specs.Cluster.{CodeWorld, frame_of, place}
use Rattle.ec_cluster.specs.Images.{homes_on}
use Rattle.ec_cluster.specs.Steps.{WhereIs}
use Rattle.ec_cluster.specs.declared.cluster.Cluster.{Cluster}
use Rattle.ec_cluster.proofs.Finishing.{finished_own}
use Rattle.ec_cluster.proofs.Resting.{OfOperation, of_operation}
use Rattle.ec_cluster.specs.Frames.{BeginsWith, HasImages, tables_on}
use Rattle.ec_code.specs.Activations.{begun, finished, into_variable, operation_at, variables_behind, variables_if, with_result}
use Rattle.ec_code.specs.Fine.{Fine}
use Rattle.ec_code.specs.Typing.{Declared}
use Rattle.ec_code.specs.declared.activation.CodeActivation.{CodeActivation}
use Rattle.ec_code.specs.declared.code.Live.{Live}
use Rattle.ec_code.specs.declared.code.Operation.{Operation}
use Rattle.ec_code.specs.declared.code.Parts.{Parts}
use Rattle.ec_code.specs.declared.code.Variable.{Variable}
use Rattle.ec_code.specs.declared.code.Variable.TheVariants.{Named, Temporary}
use Rattle.ec_machine_code.specs.Limits.{HasLimits}
use Rattle.ec_machine_code.specs.Homes.{IsVariable}
use Rattle.ec_machine_code.specs.declared.homes.Home.{Home}
use Rattle.ec_node_frames.proofs.AtStop.{has_column, no_entry}
use Rattle.ec_node_frames.proofs.Homed.{its_operation}
use Rattle.ec_node_frames.proofs.Items.{filled_up, map_both, put_here}
use Rattle.ec_node_frames.proofs.Rewriting.{IsDone, held_now}
use Rattle.ec_node_frames.specs.Beginning.{HasEntry, first_held, first_held_in, first_value, first_values}
use Rattle.ec_node_frames.specs.Finishing.{HasRoomIn, IsTaken}
use Rattle.ec_node_frames.specs.Frames.{RestsAt}
use Rattle.ec_world.specs.Things.{activation_at}
use Rattle.ec_acts.proofs.Wording.{frame_string}
use Rattle.ec_generate.specs.Entries.{entries_of}
use Rattle.ec_generate.specs.declared.table.OperationTable.{OperationTable}
use Rattle.ec_generate.specs.declared.table.StopEntry.{StopEntry}
use Rattle.ec_cluster.specs.Systems.{Strings}
use Rattle.ec_things.specs.Store.{Store}
use Rattle.ec_world.specs.Group.{Has}
use Rattle.ec_world.specs.declared.node.Kind.{Kind}
use Rattle.ec_world.specs.declared.node.Kind.TheVariants.{Riscv}
use Rattle.ec_world.specs.declared.value.Value.{Value}
use Rattle.ec_world.specs.declared.value.Value.TheVariants.{Ref, Str}

-- ---- what is given is a value of the activation

given_is_done : (a : CodeActivation) (x : Variable) (v : Value) → IsDone a (with_result a x v)
given_is_done a (Named n) v = record { operation = refl; own = refl; at = refl; done = refl }
given_is_done a (Temporary d) v = record { operation = refl; own = refl; at = refl; done = refl }

waits_no_more : (a : CodeActivation) (x : Variable) (v : Value) → (with_result a x v).into ≡ None
waits_no_more a (Named n) v = refl
waits_no_more a (Temporary d) v = refl

module _ (p : Parts) (a : CodeActivation) where
  one_set : (n : ℕ) (v : Value) (at : ℕ) → at ≢ 0 → variables_behind p (with_result a (Named n) v) at ≡ slice_set a.variables n v
  one_set n v zero ne = absurd (ne refl)
  one_set n v (suc at) ne = refl

  value_here : (named : ℕ) (x : Variable) (v : Value) → IsVariable named x → named ≤ length a.variables → a.at ≢ 0 →
      value_in p (with_result a x v) x ≡ v
  value_here named (Named n) v is many ne =
      ap (λ (vs : List Value). or_nil (slice_get vs n)) (one_set n v a.at ne)
      ∙ ap or_nil (get_set_same a.variables n v (omega (arith, is, many)))
  value_here named (Temporary c) v is many ne = ap or_nil (put_here a.temporaries c v)

module _ (d : Declared) (p : Parts) (fine : Fine d p) (limits : HasLimits p) (a : CodeActivation) (e : StopEntry) (rests : RestsAt p a e)
    (l : Live) (result : e.result ≡ Some l) (v : Value) where
  abbrev next : CodeActivation
  next = with_result a l.variable v

  of : OfOperation p a (record { number = rests.number; entry = e })
  of = of_operation p a (record { number = rests.number; entry = e }) rests.is

  value_is : value_in p (with_result a l.variable v) l.variable ≡ v
  value_is =
      let c = has_column d p fine limits a of.operation of.is e rests l result in
      let ne = no_entry d p fine limits a of.operation of.is e rests l result in
      let some : 0 < a.at = omega (arith, ne) in
      let many : length of.operation.variables ≤ length a.variables =
      subst (λ n. n ≤ length a.variables) (ap (λ q. length (variables_if q)) of.is) (rests.named some) in
      value_here p a (length of.operation.variables) l.variable v c.is_variable many ne

  held_given : held_of p (with_result a l.variable v)
      ≡ record { variable = l.variable; value = value_in p (with_result a l.variable v) l.variable }
      ∷ held_in p (with_result a l.variable v) e.live
  held_given =
      held_now p a next (given_is_done a l.variable v) e rests
      ∙ ap (λ r. result_in p next r next.into ++ held_in p next e.live) result
      ∙ ap (λ i. result_in p next (Some l) i ++ held_in p next e.live) (waits_no_more a l.variable v)

  pub holds_given : (homes : Kind → List (List Home)) (process depth : ℕ) →
      Has (frame_thing p homes process depth (with_result a l.variable v)).values v
  holds_given homes process depth = record {
    at = suc zero;
    is = ap (λ (hs : List Held). slice_get (map (λ (h : Held). h.value) hs) zero) held_given ∙ ap Some value_is;
  }

-- so its text is one of each world in which the activation is so
module _ (d : Declared) (c : Cluster) (images : HasImages d c) (w : CodeWorld) (k p depth : ℕ) (a : CodeActivation) (e : StopEntry)
    (text : List ℕ) (rests : RestsAt c.parts a e) (waits : a.into ≡ taker_of e.result) where
  given_by : (r : Option Live) (given : Option Value) → e.result ≡ r → IsTaken r given text →
      activation_at w.processes p depth ≡ Some (finished a given) → place c a.own ≡ Some k → Strings c w k text
  given_by None given f taken is at = absurd taken
  given_by (Some l) None f taken is at = absurd taken
  given_by (Some l) (Some v) f taken is at =
      let has = images Riscv in
      let into : a.into ≡ Some l.variable = waits ∙ ap taker_of f in
      let next : finished a (Some v) ≡ with_result a l.variable v = ap (λ x. into_variable a x v) into in
      let holds = holds_given d c.parts has.fine has.limits a e rests l f v (homes_on c.images) p depth in
      let now : Has (frame_of c p depth (finished a (Some v))).values v =
      subst (λ (b : CodeActivation). Has (frame_of c p depth b).values v) (sym next) holds in
      frame_string c w k p depth (finished a (Some v)) text is (ap (place c) (finished_own a (Some v)) ∙ at)
      (subst (λ (u : Value). Has (frame_of c p depth (finished a (Some v))).values u) taken now)

  pub taken_string : (given : Option Value) → activation_at w.processes p depth ≡ Some (finished a given) →
      WhereIs c a.own (IsTaken e.result given) k text → Strings c w k text
  taken_string given is h = given_by e.result given refl h.1 is h.0

-- where nothing is given, no text is, and no room is needed
pub none_taken : (r : Option Live) (text : List ℕ) → IsTaken r None text → ⊥
none_taken None text h = h
none_taken (Some l) text h = h

pub no_room_needed : (s : Store) (r : Option Live) → HasRoomIn s r None
no_room_needed s None = tt
no_room_needed s (Some l) = tt

-- ---- what an activation begins with

abbrev numbered : ℕ → StopEntry → Numbered
numbered n e = record { number = n; entry = e }

first_stop : (es : List StopEntry) (e : StopEntry) → slice_get es 0 ≡ Some e → e.place ≡ 0 → at_place 0 0 es ≡ Some (numbered 0 e)
first_stop [] e is first = absurd cc
first_stop (f ∷ fs) e is first =
    let same : f ≡ e = same_Some f e is in
    let here : (f.place == 0) ≡ true = eq-eqb f.place 0 (ap (λ (x : StopEntry). x.place) same ∙ first) in
    ap (λ b. if b then Some (numbered 0 f) else at_place 0 1 fs) here ∙ ap (λ (x : StopEntry). Some (numbered 0 x)) same

abbrev with_value : Parts → CodeActivation → Live → Held
with_value p a l = record { variable = l.variable; value = value_in p a l.variable }

module _ (p : Parts) (o : Operation) (operation own : ℕ) (arguments : List Value) (is : operation_at p operation ≡ Some o)
    (table : OperationTable) (stops : table.stops ≡ entries_of o.code) (entry : HasEntry table) where
  abbrev new : CodeActivation
  new = begun operation own arguments

  at_entry : stop_of p (begun operation own arguments) ≡ Some (numbered 0 entry.entry)
  at_entry =
      ap (λ x. at_place 0 0 (entries_if x)) is ∙ ap (at_place 0 0) (sym stops) ∙ first_stop table.stops entry.entry entry.is entry.first

  held_first : held_of p (begun operation own arguments) ≡ map (with_value p (begun operation own arguments)) (first_held table)
  held_first =
      ap (held_if p new) at_entry ∙ map_both (with_value p new) entry.entry.operands entry.entry.live
      ∙ ap (map (with_value p new)) (sym (ap first_held_in entry.is))

  value_first : (x : Variable) → value_in p (begun operation own arguments) x ≡ first_value arguments x
  value_first (Named n) = filled_up arguments (length (variables_if (operation_at p operation)) - length arguments) n
  value_first (Temporary c) = refl

  values_first : (ls : List Live) → map (λ (h : Held). h.value) (map (with_value p (begun operation own arguments)) ls)
      ≡ map (λ (l : Live). first_value arguments l.variable) ls
  values_first [] = refl
  values_first (l ∷ ls) =
      ap (λ (v : Value). v ∷ map (λ (h : Held). h.value) (map (with_value p new) ls)) (value_first l.variable)
      ∙ ap (λ (vs : List Value). first_value arguments l.variable ∷ vs) (values_first ls)

  pub begins_with : (homes : Kind → List (List Home)) (process depth : ℕ) →
      (frame_thing p homes process depth (begun operation own arguments)).values ≡ first_values table own arguments
  begins_with homes process depth =
      ap (λ (hs : List Held). Ref own ∷ map (λ (h : Held). h.value) hs) held_first
      ∙ ap (λ (vs : List Value). Ref own ∷ vs) (values_first (first_held table))

-- its texts are those of each world in which it is there
pub begun_string : (d : Declared) (c : Cluster) → HasImages d c → (w : CodeWorld) (k p depth operation own : ℕ) (arguments : List Value)
    (text : List ℕ) → ((kind : Kind) → (t : OperationTable) × (slice_get (tables_on c kind) operation ≡ Some t) × HasEntry t) →
    activation_at w.processes p depth ≡ Some (begun operation own arguments) → BeginsWith c operation own arguments k text →
    Strings c w k text
begun_string d c images w k p depth operation own arguments text entries is b =
    let kind = b.store.kind in
    let has = images kind in
    let o = its_operation d c.parts kind (homes_on c.images) (tables_on c kind) has operation b.table b.is in
    let e = entries kind in
    let same : e.0 ≡ b.table = same_Some e.0 b.table (sym e.1 ∙ b.is) in
    let entry : HasEntry b.table = subst (λ (t : OperationTable). HasEntry t) same e.2 in
    let values = begins_with c.parts o.0 operation own arguments o.1 b.table o.2.stops entry (homes_on c.images) p depth in
    frame_string c w k p depth (begun operation own arguments) text is b.at
    (subst (λ (vs : List Value). Has vs (Str text)) (sym values) b.has)
