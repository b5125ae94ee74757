-- What goes of activations on members of a group.
use Rattle.std.proofs.Common.{◌≡◌, ◌<◌, ◌≤◌, ◌&&◌, ℕ, zero, suc, Bool, true, false, List, [], ◌∷◌, length, map, Option, Some, None}
use Rattle.std.proofs.Common.{refl, sym, ap, ◌∙◌, subst, arith, inl, inr, ⊎_elim}
use Rattle.std.proofs.lemmas.List.{length-map}
use Rattle.std.proofs.lemmas.Option.{same_Some}
use Rattle.std.specs.Prelude.{if◌then◌else◌, is_some, option_map, slice_get}
use Rattle.ec_activations.specs.Frames.{Held, Numbered, held_in, stop_of, value_in}
use Rattle.ec_node_frames.specs.Carried.{carried, values_carried}
use Rattle.ec_base.proofs.Lists.{get_within}
use Rattle.ec_cluster.proofs.Putting.{shown_there}
use Rattle.ec_cluster.specs.Cluster.{CodeWorld, frame_of}
use Rattle.ec_cluster.specs.declared.cluster.Cluster.{Cluster}
use Rattle.ec_code.specs.Typing.{Declared}
use Rattle.ec_code.specs.declared.activation.CodeActivation.{CodeActivation}
use Rattle.ec_code.specs.declared.code.Live.{Live}
use Rattle.ec_parcels.specs.Activations.{activation_part_of}
use Rattle.ec_parcels.specs.Classes.{ClassTable}
use Rattle.ec_world.specs.Things.{activation_at}
use Rattle.ec_world.specs.declared.key.Key.TheVariants.{Frame}
use Rattle.ec_packing.proofs.Carrying.{IsGood, Knows, can_go, carried_good, entry_of, rests_of}
use Rattle.ec_packing.proofs.Counting.{few_items}
use Rattle.ec_packing.proofs.Frames.{is_of, knows, ranged}
use Rattle.ec_packing.proofs.Joining.{has_up_to, up_to_has}
use Rattle.ec_packing.proofs.Members.{here_is, is_here_it}
use Rattle.ec_packing.proofs.ObjectParts.{has_if, sorted_if, sorted_one}
use Rattle.ec_packing.proofs.Rules.{ActivationBefore}
use Rattle.ec_packing.proofs.Searching.{has_is_in, is_in_has}
use Rattle.ec_packing.proofs.Sorting.{Sorted, sorted_up_to}
use Rattle.ec_packing.specs.Blocks.{AreThere, HasSmallBlock, HaveSmallBlocks}
use Rattle.ec_packing.specs.Narrow.{EachIs}
use Rattle.ec_packing.specs.Packing.{CanGo, activation_goes, activation_if, at_stop, depths_if, is_here, process_goes, up_to}
use Rattle.ec_parcels.specs.Parcels.{ActivationGoes, IsOfActivation}
use Rattle.ec_activations.proofs.Entries.{rests_at_an_entry}
use Rattle.ec_code.specs.SoundValues.{class_in}
use Rattle.ec_generate.specs.declared.table.StopEntry.{StopEntry}
use Rattle.ec_stores.specs.Changes.{FirstBlock}
use Rattle.ec_stores.specs.Node.{NodeData, store_of}
use Rattle.ec_cluster.specs.declared.system.System.{System}
use Rattle.ec_things.specs.Store.{Owned, Store, Tidy}
use Rattle.ec_things.specs.Things.{Shown, frame_if}
use Rattle.ec_wire.specs.declared.parcel.ActivationPart.{ActivationPart}
use Rattle.ec_world.proofs.Members.{has_first, has_none, has_one}
use Rattle.ec_world.specs.Group.{Has, is_in}
use Rattle.ec_world.specs.declared.class.ClassNo.{ClassNo}
use Rattle.ec_world.specs.declared.object.ObjectRec.{ObjectRec}
use Rattle.ec_world.specs.declared.value.Value.{Value}

-- ---- where a part is from

both_true : (a b : Bool) → (a && b) ≡ true → (a ≡ true) × (b ≡ true)
both_true true b e = (refl, e)
both_true false b e = absurd cc

are_true : (a b : Bool) → a ≡ true → b ≡ true → (a && b) ≡ true
are_true true b e f = f
are_true false b e f = absurd cc

module _ (c : Cluster) (w : CodeWorld) (members : List ℕ) (k p depth : ℕ) where
  at_stop_is : (a : CodeActivation) (x : Option Numbered) (part : ActivationPart) → Has (at_stop c w members k p depth a x) part →
      (part.process ≡ p) × (part.depth ≡ depth)
  at_stop_is a None part h = absurd (has_none part h)
  at_stop_is a (Some s) part h =
      let same : part ≡ activation_part_of p depth c.parts a s.entry = has_one (activation_part_of p depth c.parts a s.entry) part h in
      (ap (λ (x : ActivationPart). x.process) same, ap (λ (x : ActivationPart). x.depth) same)

  if_is : (x : Option CodeActivation) (part : ActivationPart) → Has (activation_if c w members k p depth x) part →
      (part.process ≡ p) × (part.depth ≡ depth)
  if_is None part h = absurd (has_none part h)
  if_is (Some a) part h =
      at_stop_is a (stop_of c.parts a) part
      (has_if (is_here c k a.own && is_in a.own members) (at_stop c w members k p depth a (stop_of c.parts a)) part h)

  -- the part of an activation has its process and its depth
  pub part_from : (part : ActivationPart) → Has (activation_goes c w members k p depth) part → (part.process ≡ p) × (part.depth ≡ depth)
  part_from = if_is (activation_at w.processes p depth)

  sorted_stop : (a : CodeActivation) (x : Option Numbered) → Sorted ActivationBefore (at_stop c w members k p depth a x)
  sorted_stop a None = tt
  sorted_stop a (Some s) = sorted_one ActivationBefore (activation_part_of p depth c.parts a s.entry)

  sorted_activation : (x : Option CodeActivation) → Sorted ActivationBefore (activation_if c w members k p depth x)
  sorted_activation None = tt
  sorted_activation (Some a) =
      sorted_if ActivationBefore (is_here c k a.own && is_in a.own members) (at_stop c w members k p depth a (stop_of c.parts a))
      (sorted_stop a (stop_of c.parts a))

  pub sorted_part : Sorted ActivationBefore (activation_goes c w members k p depth)
  sorted_part = sorted_activation (activation_at w.processes p depth)

-- ---- blocks

or_zero : Option ℕ → ℕ
or_zero None = 0
or_zero (Some b) = b

block_in : Option Owned → ℕ
block_in None = 0
block_in (Some r) = or_zero (slice_get r.blocks 0)

-- the first block of an activation, 0 where it has none
block_of : Store → ActivationPart → ℕ
block_of s part = block_in (s.row (Frame part.process part.depth))

block_is : (s : Store) (part : ActivationPart) (b : ℕ) → FirstBlock s (Frame part.process part.depth) b → block_of s part ≡ b
unfolding block_of block_in or_zero
block_is s part b h = ap block_in h.there ∙ ap or_zero h.first

-- those that come one before another have different blocks
blocks_differ : (s : Store) → Tidy s → (x y : ActivationPart) → HasSmallBlock s x → HasSmallBlock s y → ActivationBefore x y →
    block_of s x ≡ block_of s y → ⊥
blocks_differ s tidy x y h g before same =
    let one : h.block ≡ g.block = sym (block_is s x h.block h.first) ∙ same ∙ block_is s y g.block g.first in
    let key : Frame x.process x.depth ≡ Frame y.process y.depth =
    tidy.apart (Frame x.process x.depth) (Frame y.process y.depth) h.first.row g.first.row h.block h.first.there g.first.there
    (record { at = 0; is = h.first.first }) (record { at = 0; is = g.first.first ∙ ap Some (sym one) }) in
    let process : x.process ≡ y.process = cc in
    let depth : x.depth ≡ y.depth = cc in
    ⊎_elim
    (λ (l : x.process < y.process). omega arith)
    (λ (l : (x.process ≡ y.process) × (x.depth < y.depth)). omega (arith, l.1))
    before

-- a node has at most 65,536 of them
pub few_there : (s : Store) (parts : List ActivationPart) → Tidy s → HaveSmallBlocks s parts → Sorted ActivationBefore parts →
    length parts ≤ 65536
few_there s parts tidy have sorted =
    few_items (block_of s) ActivationBefore parts sorted
    (λ x y h g before same. blocks_differ s tidy x y (have h.at x h.is) (have g.at y g.is) before same) 65536
    (λ x h. let b = have h.at x h.is in let e = block_is s x b.block b.first in let l = b.small in omega arith)

positive : (objects : List ObjectRec) (own : ℕ) (class : ClassNo) → class_in objects own ≡ Some class → 0 < own
positive objects zero class e = absurd cc
positive objects (suc own) class e = omega arith

module _ (d : Declared) (s : System) (w : CodeWorld) (table : ClassTable) (members : List ℕ) (from : ℕ)
    (can : CanGo d s w table members from) where
  abbrev c : Cluster
  c = s.cluster

  abbrev pub activation_parts : List ActivationPart
  activation_parts = up_to (process_goes c w members from) (length w.processes)

  -- ---- they come in order

  process_from : (p : ℕ) (part : ActivationPart) → Has (process_goes c w members from p) part → part.process ≡ p
  process_from p part h =
      let z = has_up_to (activation_goes c w members from p) (depths_if (slice_get w.processes p)) part h in
      (part_from c w members from p z.0 part z.1.1).0

  process_sorted : (p : ℕ) → Sorted ActivationBefore (process_goes c w members from p)
  process_sorted p = sorted_up_to ActivationBefore (activation_goes c w members from p) (sorted_part c w members from p)
      (λ i j x y l h g.
      let a = part_from c w members from p i x h in
      let b = part_from c w members from p j y g in
      inr (a.0 ∙ sym b.0, omega (arith, a.1, b.1)))
      (depths_if (slice_get w.processes p))

  pub activations_sorted : Sorted ActivationBefore activation_parts
  activations_sorted = sorted_up_to ActivationBefore (process_goes c w members from) process_sorted
      (λ i j x y l h g. let a = process_from i x h in let b = process_from j y g in inl (omega arith))
      (length w.processes)

  -- ---- each is one that goes

  module _ (p depth : ℕ) (a : CodeActivation) (is : activation_at w.processes p depth ≡ Some a) where
    abbrev pub its : Knows d c.parts w.common.objects a
    its = knows d s w table members from can p depth a is

    abbrev pub entry : StopEntry
    entry = entry_of d c.parts w.common.objects a its

    at_its_stop : at_stop c w members from p depth a (stop_of c.parts a) ≡ activation_part_of p depth c.parts a entry ∷ []
    at_its_stop = ap (at_stop c w members from p depth a)
        (rests_at_an_entry d c.parts w.common.objects a (rests_of d c.parts w.common.objects a its)).1

    -- what is said of a part that is the activation's
    pub record IsPartOf (part : ActivationPart) : Type 0 where
      pub goes : ActivationGoes c w members from p depth a
      pub same : part ≡ activation_part_of p depth c.parts a entry

    pub part_of_it : (part : ActivationPart) → Has (activation_if c w members from p depth (Some a)) part → IsPartOf part
    part_of_it part h = by (is_here c from a.own && is_in a.own members) refl h
      where
        by : (b : Bool) → (is_here c from a.own && is_in a.own members) ≡ b →
            Has (if b then at_stop c w members from p depth a (stop_of c.parts a) else []) part → IsPartOf part
        by false e g = absurd (has_none part g)
        by true e g =
            let both = both_true (is_here c from a.own) (is_in a.own members) e in
            record {
              goes = record {
                member = is_in_has a.own members both.1;
                at = here_is c from a.own both.0;
                is = is;
              };
              same = has_one (activation_part_of p depth c.parts a entry) part
                  (subst (λ (xs : List ActivationPart). Has xs part) at_its_stop g);
            }

    pub goes_there : ActivationGoes c w members from p depth a →
        Has (activation_goes c w members from p depth) (activation_part_of p depth c.parts a entry)
    goes_there g =
        let here = are_true (is_here c from a.own) (is_in a.own members) (is_here_it c from a.own g.at) (has_is_in a.own members g.member) in
        let list = ap (activation_if c w members from p depth) is
        ∙ ap (λ b. if b then at_stop c w members from p depth a (stop_of c.parts a) else []) here ∙ at_its_stop in
        subst (λ (xs : List ActivationPart). Has xs (activation_part_of p depth c.parts a entry)) (sym list)
        (has_first (activation_part_of p depth c.parts a entry) [])

    -- ---- it keeps rules

    pub own_positive : 0 < a.own
    own_positive =
        let r = rests_of d c.parts w.common.objects a its in
        positive w.common.objects a.own r.of.class r.own

    pub values_few : ActivationGoes c w members from p depth a → length (values_carried c.parts a entry a.pending) ≤ 100
    values_few g =
        let few = can.few p depth a entry g (can_go d c.parts w.common.objects a its).rests in
        let one = length-map (held_in c.parts a (carried entry a.pending)) (λ (h : Held). h.value) in
        let two = length-map (carried entry a.pending)
        (λ (l : Live). let h : Held = record { variable = l.variable; value = value_in c.parts a l.variable } in h) in
        omega (arith, few, one, two)

    value_of : (ls : List Live) (i : ℕ) (v : Value) → slice_get (map (λ (h : Held). h.value) (held_in c.parts a ls)) i ≡ Some v →
        (l : Live) × ((slice_get ls i ≡ Some l) × (value_in c.parts a l.variable ≡ v))
    value_of [] i v e = absurd cc
    value_of (l ∷ ls) zero v e = (l, (refl, same_Some (value_in c.parts a l.variable) v e))
    value_of (l ∷ ls) (suc i) v e = value_of ls i v e

    pub values_good : EachIs (IsGood d w.common.objects) (values_carried c.parts a entry a.pending)
    values_good i v e =
        let x = value_of (carried entry a.pending) i v e in
        subst (λ (u : Value). IsGood d w.common.objects u) x.1.1
        (carried_good d c.parts w.common.objects a (ranged d s w table members from can p depth a is) its can.typed i x.0 x.1.0).0

  -- the activation of a part
  pub record Source (part : ActivationPart) : Type 0 where
    pub activation : CodeActivation
    pub is : activation_at w.processes part.process part.depth ≡ Some activation
    pub part_is : IsPartOf part.process part.depth activation is part

  source_at : (p depth : ℕ) (part : ActivationPart) → Has (activation_goes c w members from p depth) part → Source part
  source_at p depth part h =
      let f = part_from c w members from p depth part h in
      let at : Has (activation_goes c w members from part.process part.depth) part =
      subst (λ n. Has (activation_goes c w members from n part.depth) part) (sym f.0)
      (subst (λ n. Has (activation_goes c w members from p n) part) (sym f.1) h) in
      by (activation_at w.processes part.process part.depth) refl at
    where
      by : (x : Option CodeActivation) → activation_at w.processes part.process part.depth ≡ x →
          Has (activation_if c w members from part.process part.depth x) part → Source part
      by None e g = absurd (has_none part g)
      by (Some a) e g = record { activation = a; is = e; part_is = part_of_it part.process part.depth a e part g }

  pub source : (part : ActivationPart) → Has activation_parts part → Source part
  source part h =
      let p = has_up_to (process_goes c w members from) (length w.processes) part h in
      let z = has_up_to (activation_goes c w members from p.0) (depths_if (slice_get w.processes p.0)) part p.1.1 in
      source_at p.0 z.0 part z.1.1

  pub is_activation : (part : ActivationPart) → Has activation_parts part → IsOfActivation c w members from part
  is_activation part h =
      let z = source part h in
      record {
        activation = z.activation;
        entry = entry_of d c.parts w.common.objects z.activation
            (knows d s w table members from can part.process part.depth z.activation z.is);
        goes = z.part_is.goes;
        rests = (can_go d c.parts w.common.objects z.activation
            (knows d s w table members from can part.process part.depth z.activation z.is)).rests;
        is = z.part_is.same;
      }

  pub has_activation : (p depth : ℕ) (a : CodeActivation) → ActivationGoes c w members from p depth a →
      (part : ActivationPart) × (Has activation_parts part × ((part.process ≡ p) × (part.depth ≡ depth)))
  has_activation p depth a g =
      let o = is_of w.processes p depth a g.is in
      let part = activation_part_of p depth c.parts a (entry_of d c.parts w.common.objects a
      (knows d s w table members from can p depth a g.is)) in
      let deep : depth < depths_if (slice_get w.processes p) =
      subst (λ n. depth < n) (sym (ap depths_if o.is_proc)) (get_within o.proc.activations depth a o.there) in (
        part,
        (
          up_to_has (process_goes c w members from) (length w.processes) p part (get_within w.processes p o.proc o.is_proc)
              (up_to_has (activation_goes c w members from p) (depths_if (slice_get w.processes p)) depth part deep
              (goes_there p depth a g.is g)),
          (refl, refl),
        ),
      )

  -- ---- they are at the node

  pub are_there : (n : NodeData) → slice_get c.nodes from ≡ Some n → AreThere (store_of n) activation_parts
  are_there n is i part e =
      let z = source part (record { at = i; is = e }) in
      let shown : Shown (store_of n) (Frame part.process part.depth) (frame_of c part.process part.depth z.activation) =
      shown_there c w from (store_of n) (Frame part.process part.depth) (frame_of c part.process part.depth z.activation)
      can.runs.mirrors.shows (ap (frame_if (frame_of c) part.process part.depth) z.is) z.part_is.goes.at (ap (option_map store_of) is) in
      ap is_some shown.there
