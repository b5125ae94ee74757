-- What is held of all that stays, where other owners travel or stand elsewhere.
use Rattle.std.proofs.Common.{◌≡◌, ℕ, zero, suc, ◌+◌, List, Option, Some, None, refl, ap, ◌∙◌, arith}
use Rattle.std.specs.Prelude.{Bool, slice_get, if◌then◌else◌}
use Rattle.ec_world.proofs.Procs.{activation_is}
use Rattle.ec_world.specs.Held.{if_at, total}
use Rattle.ec_world.specs.Things.{in_process}
use Rattle.ec_world.specs.declared.key.Key.{Key}
use Rattle.ec_world.specs.declared.key.Key.TheVariants.{Object, Frame}
use Rattle.ec_things.specs.Things.{Thing, frame_if, object_if, object_thing, things_of}
use Rattle.ec_things.proofs.Totals.{total_but, total_same}
use Rattle.ec_things.specs.Travelling.{HeldBut, Turned, frame_weight, object_weight, process_weight, weight_but}
use Rattle.ec_world.specs.declared.object.ObjectRec.{ObjectRec}
use Rattle.ec_world.specs.declared.process.Proc.{Proc}
use Rattle.ec_world.specs.declared.world.World.{World}

-- the object that is a thing
record ObjectIs (objects : List ObjectRec) (i : ℕ) (t : Thing) : Type 0 where
  object : ObjectRec
  there : slice_get objects i ≡ Some object
  is : t ≡ object_thing (suc i) object

object_is : (objects : List ObjectRec) (i : ℕ) (t : Thing) → object_if (suc i) (slice_get objects i) ≡ Some t → ObjectIs objects i t
object_is objects i t e = by_object (slice_get objects i) refl e
  where
    by_object : (x : Option ObjectRec) → slice_get objects i ≡ x → object_if (suc i) x ≡ Some t → ObjectIs objects i t
    by_object None h e = cc
    by_object (Some o) h e = record { object = o; there = h; is = cc }

module _ {A : Type 0} (frame : ℕ → ℕ → A → Thing) where
  -- the activation that is a thing
  record FrameIs (procs : List (Proc A)) (p d : ℕ) (t : Thing) : Type 0 where
    process : Proc A
    activation : A
    there : slice_get procs p ≡ Some process
    deep : slice_get process.activations d ≡ Some activation
    is : t ≡ frame p d activation

  frame_is : (procs : List (Proc A)) (p d : ℕ) (t : Thing) → frame_if frame p d (in_process (slice_get procs p) d) ≡ Some t →
      FrameIs procs p d t
  frame_is procs p d t e = by_process (slice_get procs p) refl e
    where
      by_activation : (q : Proc A) (x : Option A) → slice_get procs p ≡ Some q → slice_get q.activations d ≡ x →
          frame_if frame p d x ≡ Some t → FrameIs procs p d t
      by_activation q None h f e = cc
      by_activation q (Some a) h f e = record { process = q; activation = a; there = h; deep = f; is = cc }

      by_process : (x : Option (Proc A)) → slice_get procs p ≡ x → frame_if frame p d (in_process x d) ≡ Some t → FrameIs procs p d t
      by_process None h e = cc
      by_process (Some q) h e = by_activation q (slice_get q.activations d) h refl e

  -- a thing weighs the same where it travels as before
  pub weight_same : (travels travels' : Key → Bool) (place : ℕ → Option ℕ) (k : ℕ) (key : Key) (t : Thing) → travels' key ≡ travels key →
      weight_but frame travels' place k key t ≡ weight_but frame travels place k key t
  weight_same travels travels' place k key t e = ap (λ (b : Bool). if b then 0 else if_at k t.blocks (place t.home)) e

  module _ (travels travels' : Key → Bool) (place place' : ℕ → Option ℕ) (k : ℕ) where
    -- each activation of a process weighs the same
    stack_same : (p : ℕ) (q : Proc A) →
        ((d : ℕ) (a : A) → slice_get q.activations d ≡ Some a →
        frame_weight frame travels' place' k p d a ≡ frame_weight frame travels place k p d a) →
        process_weight frame travels' place' k p q ≡ process_weight frame travels place k p q
    stack_same p q same =
        total_same (frame_weight frame travels place k p) (frame_weight frame travels' place' k p) 0 q.activations
        (λ i d a e at. let is : d ≡ i = omega arith in same d a (ap (slice_get q.activations) is ∙ e))

    -- each thing of a world weighs the same
    pub held_same : (w : World A) →
        ((key : Key) (t : Thing) → things_of frame w key ≡ Some t →
        weight_but frame travels' place' k key t ≡ weight_but frame travels place k key t) →
        HeldBut frame travels' place' k w ≡ HeldBut frame travels place k w
    held_same w same = omega (arith, objects, processes)
      where
        objects : total (object_weight frame travels' place' k) 0 w.common.objects ≡ total (object_weight frame travels place k) 0
            w.common.objects
        objects = total_same (object_weight frame travels place k) (object_weight frame travels' place' k) 0 w.common.objects
            (λ i j o e at.
            let is : j ≡ i = omega arith in
            same (Object (suc j)) (object_thing (suc j) o) (ap (object_if (suc j)) (ap (slice_get w.common.objects) is ∙ e)))

        stack : (p : ℕ) (q : Proc A) → slice_get w.processes p ≡ Some q →
            process_weight frame travels' place' k p q ≡ process_weight frame travels place k p q
        stack p q e = stack_same p q (λ d a f. same (Frame p d) (frame p d a)
            (ap (frame_if frame p d) (activation_is w.processes p d q e ∙ f)))

        processes : total (process_weight frame travels' place' k) 0 w.processes ≡ total (process_weight frame travels place k) 0
            w.processes
        processes = total_same (process_weight frame travels place k) (process_weight frame travels' place' k) 0 w.processes
            (λ i p q e at. let is : p ≡ i = omega arith in stack p q (ap (slice_get w.processes) is ∙ e))

  module _ (travels travels' : Key → Bool) (place : ℕ → Option ℕ) (k : ℕ) (w : World A) where
    -- what is held has changed by what a thing weighs
    abbrev pub Weighed : Key → Thing → Type 0
    Weighed key t = HeldBut frame travels' place k w + weight_but frame travels place k key t ≡ HeldBut frame travels place k w
        + weight_but frame travels' place k key t

    -- no activation of a process takes off or lands
    stack_stays : (p : ℕ) (q : Proc A) → ((d : ℕ) → travels' (Frame p d) ≡ travels (Frame p d)) →
        process_weight frame travels' place k p q ≡ process_weight frame travels place k p q
    stack_stays p q same = stack_same travels travels' place place k p q
        (λ d a e. weight_same travels travels' place k (Frame p d) (frame p d a) (same d))

    object_turned : (i : ℕ) (now : Bool) (o : ObjectRec) → slice_get w.common.objects i ≡ Some o →
        Turned travels travels' (Object (suc i)) now → Weighed (Object (suc i)) (object_thing (suc i) o)
    object_turned i now o e turned =
        let objects : total (object_weight frame travels' place k) 0 w.common.objects + object_weight frame travels place k i o ≡ total
        (object_weight frame travels place k) 0 w.common.objects + object_weight frame travels' place k i o =
        total_but (object_weight frame travels place k) (object_weight frame travels' place k) 0 w.common.objects i i o e (omega arith)
        (λ n y ne. weight_same travels travels' place k (Object (suc n)) (object_thing (suc n) y)
        (turned.others (Object (suc n)) (λ x. ne cc))) in
        let processes : total (process_weight frame travels' place k) 0 w.processes ≡ total (process_weight frame travels place k) 0
        w.processes =
        total_same (process_weight frame travels place k) (process_weight frame travels' place k) 0 w.processes
        (λ n p q h at. stack_stays p q (λ d. turned.others (Frame p d) (λ x. cc))) in
        omega arith

    frame_turned : (p d : ℕ) (now : Bool) (q : Proc A) (a : A) → slice_get w.processes p ≡ Some q → slice_get q.activations d ≡ Some a →
        Turned travels travels' (Frame p d) now → Weighed (Frame p d) (frame p d a)
    frame_turned p d now q a e f turned =
        let objects : total (object_weight frame travels' place k) 0 w.common.objects ≡ total (object_weight frame travels place k) 0
        w.common.objects =
        total_same (object_weight frame travels place k) (object_weight frame travels' place k) 0 w.common.objects
        (λ n i o h at. weight_same travels travels' place k (Object (suc i)) (object_thing (suc i) o)
        (turned.others (Object (suc i)) (λ x. cc))) in
        let processes : total (process_weight frame travels' place k) 0 w.processes + process_weight frame travels place k p q ≡ total
        (process_weight frame travels place k) 0 w.processes + process_weight frame travels' place k p q =
        total_but (process_weight frame travels place k) (process_weight frame travels' place k) 0 w.processes p p q e (omega arith)
        (λ n r ne. stack_stays n r (λ m. turned.others (Frame n m) (λ x. ne cc))) in
        let stack : process_weight frame travels' place k p q + frame_weight frame travels place k p d a ≡ process_weight frame travels
        place k p q + frame_weight frame travels' place k p d a =
        total_but (frame_weight frame travels place k p) (frame_weight frame travels' place k p) 0 q.activations d d a f (omega arith)
        (λ n b ne. weight_same travels travels' place k (Frame p n) (frame p n b) (turned.others (Frame p n) (λ x. ne cc))) in
        omega arith

    -- One thing has taken off or landed.
    pub held_turned : (key : Key) (now : Bool) (t : Thing) → things_of frame w key ≡ Some t → Turned travels travels' key now →
        Weighed key t
    held_turned (Object zero) now t e turned = cc
    held_turned (Object (suc i)) now t e turned =
        let here = object_is w.common.objects i t e in
        rw here.is (object_turned i now here.object here.there turned)
    held_turned (Frame p d) now t e turned =
        let here = frame_is w.processes p d t e in
        rw here.is (frame_turned p d now here.process here.activation here.there here.deep turned)
