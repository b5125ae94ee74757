-- A native run: the top activation and its own object have changed at their node, and nothing else.
use Rattle.std.proofs.Common.{◌≡◌, ◌≢◌, ℕ, zero, suc, Option, Some, refl, sym, ap}
use Rattle.std.proofs.Common.{◌∙◌, ◌⊎◌, inl, inr, ⊎_elim}
use Rattle.std.specs.Prelude.{slice_get, slice_set}
use Rattle.ec_world.specs.declared.object.ObjectRec.{ObjectRec}
use Rattle.ec_world.specs.declared.process.Proc.{Proc}
use Rattle.ec_world.specs.declared.world.World.{World}
use Rattle.ec_base.proofs.Lists.{get_set_same, get_set_other, get_within}
use Rattle.ec_world.specs.declared.key.Key.{Key}
use Rattle.ec_world.specs.declared.key.Key.TheVariants.{Object, Frame}
use Rattle.ec_things.specs.Things.{Thing, ThingsPut, things_of, frame_if, object_if, object_thing}
use Rattle.ec_world.specs.Things.{activation_at, blocks_of}
use Rattle.ec_things.proofs.Put.{same_or_not, key_or_not}
use Rattle.ec_world.proofs.Procs.{activation_here, activation_there, activation_is}

-- the world after: object i + 1 and the activation at depth d of process p are others
abbrev pub ran_world : {A : Type 0} → World A → ℕ → ObjectRec → ℕ → Proc A → World A
ran_world w i o p proc =
    record { common = record w.common { objects = slice_set w.common.objects i o }; processes = slice_set w.processes p proc }

module _ {A : Type 0} (frame : ℕ → ℕ → A → Thing) (place : ℕ → Option ℕ)
    (w : World A) (i p d k : ℕ) (o o' : ObjectRec) (proc proc' : Proc A) (a a' : A)
    (object_is : slice_get w.common.objects i ≡ Some o) (is : slice_get w.processes p ≡ Some proc)
    (top : slice_get proc.activations d ≡ Some a) (next : proc'.activations ≡ slice_set proc.activations d a')
    (own : (frame p d a).home ≡ suc i) (own' : (frame p d a').home ≡ suc i) (at : place (suc i) ≡ Some k)
    (size : blocks_of o' ≡ blocks_of o) where
  abbrev w' : World A
  w' = ran_world w i o' p proc'

  abbrev Touched : Key → Type 0
  Touched key = (key ≡ Object (suc i)) ⊎ (key ≡ Frame p d)

  decided : (key : Key) → Touched key ⊎ (Touched key → ⊥)
  decided key = ⊎_elim
      (λ (e : key ≡ Object (suc i)). inl (inl e))
      (λ (h : key ≢ Object (suc i)). ⊎_elim
      (λ (e : key ≡ Frame p d). inl (inr e))
      (λ (g : key ≢ Frame p d). inr (λ t. ⊎_elim (λ (e : key ≡ Object (suc i)). h e) (λ (e : key ≡ Frame p d). g e) t))
      (key_or_not key (Frame p d)))
      (key_or_not key (Object (suc i)))

  old_object : things_of frame w (Object (suc i)) ≡ Some (object_thing (suc i) o)
  old_object = ap (object_if (suc i)) object_is

  new_object : things_of frame w' (Object (suc i)) ≡ Some (object_thing (suc i) o')
  new_object = ap (object_if (suc i)) (get_set_same w.common.objects i o' (get_within w.common.objects i o object_is))

  old_frame : things_of frame w (Frame p d) ≡ Some (frame p d a)
  old_frame = ap (frame_if frame p d) (activation_is w.processes p d proc is ∙ top)

  new_frame : things_of frame w' (Frame p d) ≡ Some (frame p d a')
  new_frame = ap (frame_if frame p d)
      (activation_here w.processes p d proc' (get_within w.processes p proc is) ∙ ap (λ xs. slice_get xs d) next
      ∙ get_set_same proc.activations d a' (get_within proc.activations d a top))

  others : (key : Key) → (Touched key → ⊥) → things_of frame w' key ≡ things_of frame w key
  others (Object zero) h = refl
  others (Object (suc j)) h =
      let ne : j ≢ i = λ e. h (inl (ap (λ n. Object (suc n)) e)) in
      ap (object_if (suc j)) (get_set_other w.common.objects i j o' ne)
  others (Frame q e) h = ⊎_elim
      (λ (same : q ≡ p).
      let off : e ≢ d = λ x. h (inr cc) in
      let there : activation_at (slice_set w.processes p proc') p e ≡ activation_at w.processes p e =
      activation_here w.processes p e proc' (get_within w.processes p proc is) ∙ ap (λ xs. slice_get xs e) next
      ∙ get_set_other proc.activations d e a' off ∙ sym (activation_is w.processes p e proc is) in
      rw same (ap (frame_if frame p e) there))
      (λ (ne : q ≢ p). ap (frame_if frame q e) (activation_there w.processes p q e proc' ne))
      (same_or_not q p)

  pub run_puts : ThingsPut place k Touched (things_of frame w) (things_of frame w')
  run_puts = record {
    decided = decided;
    others = others;
    old_at = λ key t. ⊎_elim
        (λ (e : key ≡ Object (suc i)). rw (e, old_object) at)
        (λ (e : key ≡ Frame p d). rw (e, old_frame) (ap place own ∙ at))
        t;
    new_at = λ key t. ⊎_elim
        (λ (e : key ≡ Object (suc i)). rw (e, new_object) at)
        (λ (e : key ≡ Frame p d). rw (e, new_frame) (ap place own' ∙ at))
        t;
  }
