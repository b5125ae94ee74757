-- What nodes show doesn't depend on how a world is told: only its things, its constants and what is held matter.
use Rattle.std.proofs.Common.{◌≡◌, ℕ, zero, suc, ◌+◌, List, [], ◌∷◌, Option, refl, sym, ap, ◌∙◌, arith, subst}
use Rattle.std.specs.Prelude.{map, slice_get}
use Rattle.ec_world.specs.Held.{total}
use Rattle.ec_world.specs.Things.{activation_at}
use Rattle.ec_world.specs.declared.key.Key.{Key}
use Rattle.ec_world.specs.declared.key.Key.TheVariants.{Frame, Object}
use Rattle.ec_things.specs.Held.{Held, object_weight, process_weight}
use Rattle.ec_things.specs.Shows.{Shows, ShowsWorld}
use Rattle.ec_things.specs.Store.{Store}
use Rattle.ec_things.specs.Things.{Thing, frame_if, object_if, things_of}
use Rattle.ec_world.specs.Objects.{object_at}
use Rattle.ec_world.specs.declared.process.Proc.{Proc}
use Rattle.ec_world.specs.declared.value.Value.{Value}
use Rattle.ec_world.specs.declared.world.World.{World}

pub same_things : (nodes : ℕ → Option Store) (things things' : Key → Option Thing) (globals : List Value) (held held' : ℕ → ℕ)
    (place : ℕ → Option ℕ) → ((key : Key) → things' key ≡ things key) → ((k : ℕ) → held' k ≡ held k) →
    Shows nodes things globals held place → Shows nodes things' globals held' place
same_things nodes things things' globals held held' place same rooms shows = record {
  things_stand = record {
    each = λ key t e. shows.things_stand.each key t (sym (same key) ∙ e);
    only = λ k s key r e f. let z = shows.things_stand.only k s key r e f in (z.0, same key ∙ z.1, z.2);
  };
  globals_stand = shows.globals_stand;
  tidy = shows.tidy;
  room = λ k s e. ap (λ n. s.free + n) (rooms k) ∙ shows.room k s e;
}

-- ---- processes whose activations are the same, whatever their statuses are

abbrev pub stacks : {A : Type 0} → List (Proc A) → List (List A)
stacks procs = map (λ q. q.activations) procs

module _ {A : Type 0} (frame : ℕ → ℕ → A → Thing) where
  activations_same : (ps qs : List (Proc A)) → stacks ps ≡ stacks qs → (p d : ℕ) → activation_at ps p d ≡ activation_at qs p d
  activations_same [] [] e p d = refl
  activations_same [] (q ∷ qs) e p d = cc
  activations_same (r ∷ ps) [] e p d = cc
  activations_same (r ∷ ps) (q ∷ qs) e zero d = let h : r.activations ≡ q.activations = cc in ap (λ xs. slice_get xs d) h
  activations_same (r ∷ ps) (q ∷ qs) e (suc p) d = let h : stacks ps ≡ stacks qs = cc in activations_same ps qs h p d

  weights_same : (place : ℕ → Option ℕ) (k i : ℕ) (ps qs : List (Proc A)) → stacks ps ≡ stacks qs →
      total (process_weight frame place k) i ps ≡ total (process_weight frame place k) i qs
  weights_same place k i [] [] e = refl
  weights_same place k i [] (q ∷ qs) e = cc
  weights_same place k i (r ∷ ps) [] e = cc
  weights_same place k i (r ∷ ps) (q ∷ qs) e =
      let h : r.activations ≡ q.activations = cc in
      let t : stacks ps ≡ stacks qs = cc in
      let rest = weights_same place k (suc i) ps qs t in
      rw h (omega (arith, rest))

  pub restated : (nodes : ℕ → Option Store) (w w' : World A) (place : ℕ → Option ℕ) → w'.common.objects ≡ w.common.objects →
      w'.common.globals ≡ w.common.globals → stacks w'.processes ≡ stacks w.processes → ShowsWorld frame nodes w place →
      ShowsWorld frame nodes w' place
  restated nodes w w' place objects globals same shows =
      subst (λ vs. Shows nodes (things_of frame w') vs (λ k. Held frame place k w') place) (sym globals)
      (same_things nodes (things_of frame w) (things_of frame w') w.common.globals (λ k. Held frame place k w) (λ k. Held frame place k w')
      place things rooms shows)
    where
      things : (key : Key) → things_of frame w' key ≡ things_of frame w key
      things (Object oid) = ap (λ os. object_if oid (object_at os oid)) objects
      things (Frame p d) = ap (frame_if frame p d) (activations_same w'.processes w.processes same p d)

      rooms : (k : ℕ) → Held frame place k w' ≡ Held frame place k w
      rooms k =
          let a = ap (total (object_weight frame place k) 0) objects in
          let b = weights_same place k 0 w'.processes w.processes same in
          omega (arith, a, b)
