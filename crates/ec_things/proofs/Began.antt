-- A process has come, with one activation.
use Rattle.std.proofs.Common.{◌≡◌, ◌≢◌, ⊎_elim, ℕ, zero, suc, ◌+◌, [], ◌∷◌, ◌++◌, length, Option, Some, None, refl, sym, ap, ◌∙◌, arith}
use Rattle.std.specs.Prelude.{slice_get}
use Rattle.ec_world.proofs.Procs.{get_but_end, get_end, get_past, total_push}
use Rattle.ec_world.specs.Held.{if_at, total}
use Rattle.ec_world.specs.Things.{activation_at, in_process}
use Rattle.ec_world.specs.declared.key.Key.{Key}
use Rattle.ec_world.specs.declared.key.Key.TheVariants.{Frame, Object}
use Rattle.ec_things.proofs.Put.{same_or_not}
use Rattle.ec_things.proofs.World.{if_none}
use Rattle.ec_things.specs.Changes.{WorldPut}
use Rattle.ec_things.specs.Held.{frame_weight, process_weight}
use Rattle.ec_things.specs.Things.{Thing, frame_if, things_of}
use Rattle.ec_world.specs.declared.process.Proc.{Proc}
use Rattle.ec_world.specs.declared.world.World.{World}

abbrev pub with_new_process : {A : Type 0} → World A → Proc A → World A
with_new_process w q = record w { processes = w.processes ++ q ∷ [] }

module _ {A : Type 0} (frame : ℕ → ℕ → A → Thing) (w : World A) (q : Proc A) (a : A) (one : q.activations ≡ a ∷ []) where
  abbrev number : ℕ
  number = length w.processes

  here : activation_at (w.processes ++ q ∷ []) number 0 ≡ Some a
  here = ap (λ x. in_process x 0) (get_end w.processes q) ∙ ap (λ xs. slice_get xs 0) one

  nothing_before : (d : ℕ) → activation_at w.processes number d ≡ None
  nothing_before d = ap (λ x. in_process x d) (get_past w.processes number (omega arith))

  nothing_above : (d : ℕ) → activation_at (w.processes ++ q ∷ []) number (suc d) ≡ None
  nothing_above d = ap (λ x. in_process x (suc d)) (get_end w.processes q) ∙ ap (λ xs. slice_get xs (suc d)) one

  same_here : (d : ℕ) → d ≢ 0 → activation_at (w.processes ++ q ∷ []) number d ≡ activation_at w.processes number d
  same_here zero h = absurd (h refl)
  same_here (suc d) h = nothing_above d ∙ sym (nothing_before (suc d))

  others : (key : Key) → key ≢ Frame number 0 → things_of frame (with_new_process w q) key ≡ things_of frame w key
  others (Object oid) h = refl
  others (Frame p d) h = ⊎_elim
      (λ (e : p ≡ number).
      let ne : d ≢ 0 = λ z. h cc in
      rw e (ap (frame_if frame number d) (same_here d ne)))
      (λ (ne : p ≢ number). ap (λ x. frame_if frame p d (in_process x d)) (get_but_end w.processes q p ne))
      (same_or_not p number)

  pub process_came : (place : ℕ → Option ℕ) (k : ℕ) → place (frame number 0 a).home ≡ Some k →
      WorldPut frame place k w (with_new_process w q) (Frame number 0) (Some (frame number 0 a))
  process_came place k at =
      let t = frame number 0 a in
      let none : things_of frame w (Frame number 0) ≡ None = ap (frame_if frame number 0) (nothing_before 0) in
      record {
        thing = record { here = ap (frame_if frame number 0) here; others = others };
        globals = refl;
        sums = λ j.
            let sum : total (process_weight frame place j) 0 (w.processes ++ q ∷ []) ≡ total (process_weight frame place j) 0 w.processes
            + process_weight frame place j number q = total_push (process_weight frame place j) 0 w.processes number q (omega arith) in
            let stack : process_weight frame place j number q ≡ total (frame_weight frame place j number) 0 (a ∷ []) =
            ap (total (frame_weight frame place j number) 0) one in
            let is : frame_weight frame place j number 0 a ≡ if_at j t.blocks (Some k) = ap (if_at j t.blocks) at in
            rw none (omega (arith, sum, stack, is, if_none j k));
        old_at = rw none tt;
        new_at = at;
      }
