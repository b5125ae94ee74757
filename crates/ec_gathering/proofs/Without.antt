-- What is held of a world is what is held without some owners, and what these weigh.
use Rattle.std.proofs.Common.{◌≡◌, ℕ, ◌+◌, List, [], ◌∷◌, Option, Some, None, true, ap, arith}
use Rattle.std.proofs.lemmas.List.Sums.{sum_by-cons}
use Rattle.std.specs.List.{sum_by}
use Rattle.std.specs.Prelude.{Bool, if◌then◌else◌}
use Rattle.ec_world.specs.Held.{Distinct, if_at}
use Rattle.ec_world.specs.declared.key.Key.{Key}
use Rattle.ec_parcels.proofs.Keys.{not_among, one_more}
use Rattle.ec_parcels.proofs.Rising.{once_first, once_tail}
use Rattle.ec_parcels.specs.Owners.{among}
use Rattle.ec_things.specs.Held.{Held}
use Rattle.ec_things.specs.Things.{Thing, things_of}
use Rattle.ec_things.proofs.Held.{held_turned}
use Rattle.ec_things.specs.Travelling.{HeldBut, Turned, weight_but}
use Rattle.ec_world.proofs.Members.{has_first, has_later}
use Rattle.ec_world.specs.Group.{Has}
use Rattle.ec_world.specs.declared.world.World.{World}

module _ {A : Type 0} (frame : ℕ → ℕ → A → Thing) (place : ℕ → Option ℕ) (k : ℕ) (w : World A) where
  abbrev pub weight_if : Option Thing → ℕ
  weight_if None = 0
  weight_if (Some t) = if_at k t.blocks (place t.home)

  -- the blocks that an owner takes of node k
  abbrev pub key_weight : Key → ℕ
  key_weight key = weight_if (things_of frame w key)

  pub held_without : (keys : List Key) → Distinct keys → ((key : Key) → Has keys key → (t : Thing) × (things_of frame w key ≡ Some t)) →
      HeldBut frame (among keys) place k w + sum_by key_weight keys ≡ Held frame place k w
  held_without [] once there = omega arith
  held_without (key ∷ rest) once there =
      let thing : (t : Thing) × (things_of frame w key ≡ Some t) = there key (has_first key rest) in
      let turned : Turned (among rest) (among (key ∷ rest)) key true = one_more rest key in
      let sum = held_turned frame (among rest) (among (key ∷ rest)) place k w key true thing.0 thing.1 turned in
      let weighs : Bool → ℕ = λ (b : Bool). if b then 0 else if_at k thing.0.blocks (place thing.0.home) in
      let before : weight_but frame (among rest) place k key thing.0 ≡ if_at k thing.0.blocks (place thing.0.home) =
      ap weighs (not_among rest key (once_first key rest once)) in
      let after : weight_but frame (among (key ∷ rest)) place k key thing.0 ≡ 0 = ap weighs turned.here in
      let weight : key_weight key ≡ if_at k thing.0.blocks (place thing.0.home) = ap weight_if thing.1 in
      let others : HeldBut frame (among rest) place k w + sum_by key_weight rest ≡ Held frame place k w =
      held_without rest (once_tail key rest once) (λ other h. there other (has_later key other rest h)) in
      omega (arith, sum, before, after, weight, others, sum_by-cons key_weight key rest)
