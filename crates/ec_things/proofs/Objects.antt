-- An object of a world has changed, at its place.
use Rattle.std.proofs.Common.{◌≡◌, ◌≢◌, ℕ, zero, suc, ◌+◌, Option, Some, refl, ap, arith}
use Rattle.std.specs.Prelude.{slice_get, slice_set}
use Rattle.ec_base.proofs.Lists.{get_set_other, get_set_same, get_within}
use Rattle.ec_world.proofs.Procs.{total_set}
use Rattle.ec_world.specs.Held.{if_at, total}
use Rattle.ec_world.specs.declared.key.Key.{Key}
use Rattle.ec_world.specs.declared.key.Key.TheVariants.{Frame, Object}
use Rattle.ec_things.specs.Changes.{WorldPut}
use Rattle.ec_things.specs.Held.{object_weight}
use Rattle.ec_things.specs.Things.{Thing, object_if, object_thing, things_of}
use Rattle.ec_world.specs.declared.object.ObjectRec.{ObjectRec}
use Rattle.ec_world.specs.declared.world.World.{World}

-- object i + 1 is this one
abbrev pub with_object : {A : Type 0} → World A → ℕ → ObjectRec → World A
with_object w i o = record w { common = record w.common { objects = slice_set w.common.objects i o } }

module _ {A : Type 0} (frame : ℕ → ℕ → A → Thing) where
  pub object_put : (place : ℕ → Option ℕ) (w : World A) (i k : ℕ) (o o' : ObjectRec) → slice_get w.common.objects i ≡ Some o →
      place (suc i) ≡ Some k →
      WorldPut frame place k w (with_object w i o') (Object (suc i)) (Some (object_thing (suc i) o'))
  object_put place w i k o o' is at =
      let old = object_thing (suc i) o in
      let new = object_thing (suc i) o' in
      let there : things_of frame w (Object (suc i)) ≡ Some old = ap (object_if (suc i)) is in
      record {
        thing = record {
          here = ap (object_if (suc i)) (get_set_same w.common.objects i o' (get_within w.common.objects i o is));
          others = others;
        };
        globals = refl;
        sums = λ j.
            let sum : total (object_weight frame place j) 0 (slice_set w.common.objects i o') + object_weight frame place j i o ≡ total
            (object_weight frame place j) 0 w.common.objects + object_weight frame place j i o' =
            total_set (object_weight frame place j) 0 w.common.objects i i o o' is (omega arith) in
            let was : object_weight frame place j i o ≡ if_at j old.blocks (Some k) = ap (if_at j old.blocks) at in
            let here : object_weight frame place j i o' ≡ if_at j new.blocks (Some k) = ap (if_at j new.blocks) at in
            rw there (omega (arith, sum, was, here));
        old_at = rw there at;
        new_at = at;
      }
    where
      others : (key : Key) → key ≢ Object (suc i) → things_of frame (with_object w i o') key ≡ things_of frame w key
      others (Object zero) h = refl
      others (Object (suc j)) h =
          let ne : j ≢ i = λ e. h (ap (λ n. Object (suc n)) e) in
          ap (object_if (suc j)) (get_set_other w.common.objects i j o' ne)
      others (Frame p d) h = refl
