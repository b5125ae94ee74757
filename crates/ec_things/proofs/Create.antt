-- A new object at the place of its maker: first the places grow, then the object is put.
use Rattle.std.proofs.Common.{◌≡◌, ◌≢◌, ℕ, zero, suc, ◌+◌, List, [], ◌∷◌, ◌++◌, length, Option, Some, None, refl, ap}
use Rattle.std.proofs.Common.{◌∙◌, arith}
use Rattle.ec_world.specs.declared.object.ObjectRec.{ObjectRec}
use Rattle.ec_world.specs.declared.world.World.{World}
use Rattle.ec_world.specs.declared.key.Key.{Key}
use Rattle.ec_world.specs.declared.key.Key.TheVariants.{Object, Frame}
use Rattle.ec_things.specs.Store.{Store}
use Rattle.ec_world.specs.Group.{Has}
use Rattle.ec_things.specs.Things.{Thing, things_of, object_thing, object_if}
use Rattle.ec_world.specs.Things.{blocks_of}
use Rattle.ec_world.specs.Held.{if_at, total}
use Rattle.ec_things.specs.Held.{object_weight}
use Rattle.ec_things.specs.Shows.{ShowsWorld}
use Rattle.ec_things.specs.Changes.{WorldPut}
use Rattle.ec_things.proofs.Sums.{summed}
use Rattle.ec_things.proofs.Items.{items, item_is, held_sum, weight}
use Rattle.ec_world.proofs.Procs.{get_end, get_past, get_but_end, total_push}
use Rattle.ec_things.proofs.World.{if_none}

summed_same : {A : Type 0} (f g : A → ℕ) (xs : List A) → ((x : A) → Has xs x → f x ≡ g x) → summed f xs ≡ summed g xs
summed_same f g [] h = refl
summed_same f g (x ∷ xs) h =
    let a : f x ≡ g x = h x (record { at = zero; is = refl }) in
    let b : summed f xs ≡ summed g xs = summed_same f g xs (λ y k. h y (record { at = suc k.at; is = k.is })) in
    omega arith

module _ {A : Type 0} (frame : ℕ → ℕ → A → Thing) where
  -- places of what isn't there don't matter
  pub replaced : (nodes : ℕ → Option Store) (w : World A) (place place' : ℕ → Option ℕ) →
      ((key : Key) (t : Thing) → things_of frame w key ≡ Some t → place' t.home ≡ place t.home) →
      ShowsWorld frame nodes w place → ShowsWorld frame nodes w place'
  replaced nodes w place place' same shows = record {
    things_stand = record {
      each = λ key t e. let z =
          shows.things_stand.each key t e
          in record { node = z.node; store = z.store; home = same key t e ∙ z.home; there = z.there; shown = z.shown };
      only = λ k s key r e f. let z = shows.things_stand.only k s key r e f in (z.0, z.1, same key z.0 z.1 ∙ z.2);
    };
    globals_stand = shows.globals_stand;
    tidy = shows.tidy;
    room = λ k s e.
        let h : summed (weight place' k) (items frame w) ≡ summed (weight place k) (items frame w) =
        summed_same (weight place' k) (weight place k) (items frame w)
        (λ x q. ap (if_at k x.thing.blocks) (same x.key x.thing (item_is frame w x q))) in
        omega (arith, h, held_sum frame place' k w, held_sum frame place k w, shows.room k s e);
  }

  abbrev pub made_world : World A → ObjectRec → World A
  made_world w o = record w { common = record w.common { objects = w.common.objects ++ o ∷ [] } }

  pub made : (place : ℕ → Option ℕ) (w : World A) (o : ObjectRec) (k : ℕ) →
      place (suc (length w.common.objects)) ≡ Some k →
      WorldPut frame place k w (made_world w o) (Object (suc (length w.common.objects)))
      (Some (object_thing (suc (length w.common.objects)) o))
  made place w o k at =
      let none : things_of frame w (Object (suc (length w.common.objects))) ≡ None =
      ap (object_if (suc (length w.common.objects))) (get_past w.common.objects (length w.common.objects) (omega arith)) in
      record {
        thing = record { here = ap (object_if (suc (length w.common.objects))) (get_end w.common.objects o); others = others };
        globals = refl;
        sums = λ j.
            let t : total (object_weight frame place j) 0 (w.common.objects ++ o ∷ []) ≡ total (object_weight frame place j) 0
            w.common.objects + object_weight frame place j (length w.common.objects) o =
            total_push (object_weight frame place j) 0 w.common.objects (length w.common.objects) o (omega arith) in
            let u : object_weight frame place j (length w.common.objects) o ≡ if_at j (blocks_of o) (Some k) =
            ap (if_at j (blocks_of o)) at in
            rw none (omega (arith, t, u, if_none j k));
        old_at = rw none tt;
        new_at = at;
      }
    where
      others : (key : Key) → key ≢ Object (suc (length w.common.objects)) →
          things_of frame (made_world w o) key ≡ things_of frame w key
      others (Object zero) h = refl
      others (Object (suc j)) h =
          let ne : j ≢ length w.common.objects = λ e. h (ap (λ n. Object (suc n)) e) in
          ap (object_if (suc j)) (get_but_end w.common.objects o j ne)
      others (Frame p d) h = refl
