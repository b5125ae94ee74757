-- What an effect changes of a world: a call, a return, a step of the top.
use Rattle.std.proofs.Common.{◌≡◌, ◌≢◌, ℕ, ◌+◌, [], ◌∷◌, ◌++◌, length, Option, Some, None, refl, sym, ap}
use Rattle.std.proofs.Common.{◌∙◌, arith, ⊎_elim}
use Rattle.std.specs.Prelude.{slice_get, slice_set}
use Rattle.ec_world.specs.declared.common.Common.{Common}
use Rattle.ec_world.specs.declared.process.Proc.{Proc}
use Rattle.ec_world.specs.declared.world.World.{World}
use Rattle.ec_base.proofs.Lists.{get_set_same, get_set_other, get_within}
use Rattle.ec_world.specs.declared.key.Key.{Key}
use Rattle.ec_world.specs.declared.key.Key.TheVariants.{Object, Frame}
use Rattle.ec_things.specs.Things.{Thing, ThingPut, things_of, frame_if}
use Rattle.ec_world.specs.Things.{activation_at}
use Rattle.ec_world.specs.Held.{if_at, total}
use Rattle.ec_things.specs.Held.{Held, process_weight, frame_weight}
use Rattle.ec_things.proofs.Put.{same_or_not}
use Rattle.ec_world.proofs.Procs.{activation_here, activation_there, activation_is, get_end, get_past, get_but_end, total_set, total_push}
use Rattle.ec_things.specs.Changes.{WorldPut}
use Rattle.ec_things.proofs.World.{if_none}

abbrev pub with_process : {A : Type 0} → World A → Common → ℕ → Proc A → World A
with_process w c p proc = record { common = c; processes = slice_set w.processes p proc }

-- the objects and the constants are the same
pub record SameStore (c c' : Common) : Type 0 where
  pub objects : c'.objects ≡ c.objects
  pub globals : c'.globals ≡ c.globals

module _ {A : Type 0} (frame : ℕ → ℕ → A → Thing) (place : ℕ → Option ℕ)
    (w : World A) (c : Common) (same : SameStore w.common c) (p : ℕ) (proc proc' : Proc A)
    (is : slice_get w.processes p ≡ Some proc) where
  -- the activation at depth d alone has changed
  pub record DepthPut (d : ℕ) (old now : Option A) : Type 0 where
    pub before : slice_get proc.activations d ≡ old
    pub here : slice_get proc'.activations d ≡ now
    pub others : (e : ℕ) → e ≢ d → slice_get proc'.activations e ≡ slice_get proc.activations e

  things_put : (d : ℕ) (old now : Option A) → DepthPut d old now →
      ThingPut (things_of frame w) (things_of frame (with_process w c p proc')) (Frame p d) (frame_if frame p d now)
  things_put d old now h = record {
    here = ap (frame_if frame p d) (activation_here w.processes p d proc' (get_within w.processes p proc is) ∙ h.here);
    others = others;
  }
    where
      others : (other : Key) → other ≢ Frame p d → things_of frame (with_process w c p proc') other ≡ things_of frame w other
      others (Object oid) ne = rw same.objects refl
      others (Frame q e) ne = ⊎_elim
          (λ (at : q ≡ p).
          let off : e ≢ d = λ x. ne cc in
          let there : activation_at (slice_set w.processes p proc') p e ≡ activation_at w.processes p e =
          activation_here w.processes p e proc' (get_within w.processes p proc is) ∙ h.others e off
          ∙ sym (activation_is w.processes p e proc is) in
          rw at (ap (frame_if frame p e) there))
          (λ (at : q ≢ p). ap (frame_if frame q e) (activation_there w.processes p q e proc' at))
          (same_or_not q p)

  held_put : (j : ℕ) → Held frame place j (with_process w c p proc') + process_weight frame place j p proc ≡ Held frame place j w
      + process_weight frame place j p proc'
  held_put j =
      let t : total (process_weight frame place j) 0 (slice_set w.processes p proc') + process_weight frame place j p proc ≡ total
      (process_weight frame place j) 0 w.processes + process_weight frame place j p proc' =
      total_set (process_weight frame place j) 0 w.processes p p proc proc' is (omega arith) in
      rw same.objects (omega (arith, t))

  -- an activation more
  pub called : (a : A) (k : ℕ) → proc'.activations ≡ proc.activations ++ a ∷ [] →
      place (frame p (length proc.activations) a).home ≡ Some k →
      WorldPut frame place k w (with_process w c p proc') (Frame p (length proc.activations))
      (Some (frame p (length proc.activations) a))
  called a k e at =
      let past = get_past proc.activations (length proc.activations) (omega arith) in
      let t = frame p (length proc.activations) a in
      let none : things_of frame w (Frame p (length proc.activations)) ≡ None =
      ap (frame_if frame p (length proc.activations)) (activation_is w.processes p (length proc.activations) proc is ∙ past) in
      record {
        thing = things_put (length proc.activations) None (Some a) (record {
          before = past;
          here = rw e (get_end proc.activations a);
          others = λ i ne. rw e (get_but_end proc.activations a i ne);
        });
        globals = same.globals;
        sums = λ j.
            let sum : process_weight frame place j p proc' ≡ process_weight frame place j p proc + frame_weight frame place j p
            (length proc.activations) a =
            rw e (total_push (frame_weight frame place j p) 0 proc.activations (length proc.activations) a (omega arith)) in
            let here : frame_weight frame place j p (length proc.activations) a ≡ if_at j t.blocks (Some k) = ap (if_at j t.blocks) at in
            rw none (omega (arith, if_none j k, held_put j, sum, here));
        old_at = rw none tt;
        new_at = at;
      }

  -- the last activation goes
  pub left : (a : A) (k : ℕ) → proc.activations ≡ proc'.activations ++ a ∷ [] →
      place (frame p (length proc'.activations) a).home ≡ Some k →
      WorldPut frame place k w (with_process w c p proc') (Frame p (length proc'.activations)) None
  left a k e at =
      let there : slice_get proc.activations (length proc'.activations) ≡ Some a = rw e (get_end proc'.activations a) in
      let t = frame p (length proc'.activations) a in
      let thing : things_of frame w (Frame p (length proc'.activations)) ≡ Some t =
      ap (frame_if frame p (length proc'.activations))
      (activation_is w.processes p (length proc'.activations) proc is ∙ there) in
      record {
        thing = things_put (length proc'.activations) (Some a) None (record {
          before = there;
          here = get_past proc'.activations (length proc'.activations) (omega arith);
          others = λ i ne. rw e (sym (get_but_end proc'.activations a i ne));
        });
        globals = same.globals;
        sums = λ j.
            let sum : process_weight frame place j p proc ≡ process_weight frame place j p proc' + frame_weight frame place j p
            (length proc'.activations) a =
            rw e (total_push (frame_weight frame place j p) 0 proc'.activations (length proc'.activations) a (omega arith)) in
            let here : frame_weight frame place j p (length proc'.activations) a ≡ if_at j t.blocks (Some k) = ap (if_at j t.blocks) at in
            rw thing (omega (arith, if_none j k, held_put j, sum, here));
        old_at = rw thing at;
        new_at = tt;
      }

  -- the activation at a depth has changed, with its home and its blocks as they were
  pub stepped : (d : ℕ) (a a' : A) (k : ℕ) → slice_get proc.activations d ≡ Some a →
      proc'.activations ≡ slice_set proc.activations d a' → (frame p d a').home ≡ (frame p d a).home →
      place (frame p d a).home ≡ Some k → WorldPut frame place k w (with_process w c p proc') (Frame p d) (Some (frame p d a'))
  stepped d a a' k there e home at =
      let old = frame p d a in
      let new = frame p d a' in
      let thing : things_of frame w (Frame p d) ≡ Some old =
      ap (frame_if frame p d) (activation_is w.processes p d proc is ∙ there) in
      let new_at : place new.home ≡ Some k = ap place home ∙ at in
      record {
        thing = things_put d (Some a) (Some a') (record {
          before = there;
          here = rw e (get_set_same proc.activations d a' (get_within proc.activations d a there));
          others = λ i ne. rw e (get_set_other proc.activations d i a' ne);
        });
        globals = same.globals;
        sums = λ j.
            let sum : process_weight frame place j p proc' + frame_weight frame place j p d a ≡ process_weight frame place j p proc
            + frame_weight frame place j p d a' =
            rw e (total_set (frame_weight frame place j p) 0 proc.activations d d a a' there (omega arith)) in
            let was : frame_weight frame place j p d a ≡ if_at j old.blocks (Some k) = ap (if_at j old.blocks) at in
            let here : frame_weight frame place j p d a' ≡ if_at j new.blocks (Some k) = ap (if_at j new.blocks) new_at in
            rw thing (omega (arith, held_put j, sum, was, here));
        old_at = rw thing at;
        new_at = new_at;
      }
