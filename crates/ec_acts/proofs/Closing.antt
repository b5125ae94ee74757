-- All activations of a process go, one after the other.
use Rattle.std.proofs.Common.{◌≡◌, ◌<◌, ◌≤◌, ℕ, zero, ◌+◌, ◌-◌, List, [], ◌∷◌, ◌++◌, Some, sym, ap, ◌∙◌, subst, arith}
use Rattle.std.proofs.Common.{take}
use Rattle.std.specs.Prelude.{length, slice_get}
use Rattle.std.proofs.lemmas.List.{length-take, take_all}
use Rattle.ec_base.proofs.Lists.{take_next}
use Rattle.ec_cluster.specs.Cluster.{CodeWorld, Shows}
use Rattle.ec_cluster.specs.Steps.{Changes, Nothing}
use Rattle.ec_cluster.specs.declared.cluster.Cluster.{Cluster}
use Rattle.ec_cluster.specs.Frames.{FrameAt, with_stack}
use Rattle.ec_code.specs.declared.activation.CodeActivation.{CodeActivation}
use Rattle.ec_acts.proofs.Effected.{ShowsClosed}
use Rattle.ec_acts.proofs.Owning.{AnswersOwn, below_is}
use Rattle.ec_acts.proofs.Stacking.{frame_at, get_at, restack, stack_with, stacked}
use Rattle.ec_acts.proofs.Wording.{nothing_join, nothing_said}
use Rattle.ec_acts.specs.Taking.{Becomes, HasActivation, ShowsSomeTop, ShowsTop}
use Rattle.ec_world.specs.declared.process.ProcStatus.{ProcStatus}
use Rattle.ec_world.specs.declared.process.ProcStatus.TheVariants.{Ready}
use Rattle.ec_world.specs.declared.stop.Who.{Who}

-- of the activations of a process so many are left, those at the bottom, and no text has come
pub record Closes (c c' : Cluster) (who : Who) (count : ℕ) : Type 0 where
  pub shows : (w : CodeWorld) (below : List CodeActivation) (top : CodeActivation) (status : ProcStatus) → ShowsTop c w below top who →
      Shows c' (with_stack w who.process (take count below) status)
  pub changes : Changes Nothing c c'
  pub whereabouts : c'.whereabouts ≡ c.whereabouts

-- ---- the top goes

pub top_stands : (c : Cluster) (who : Who) → ShowsSomeTop c who → FrameAt c who.process who.depth who.own
top_stands c who some =
    let t = some.shows_top in
    let there : slice_get t.is_top.proc.activations who.depth ≡ Some some.top =
    ap (λ (xs : List CodeActivation). slice_get xs who.depth) t.is_top.stack
    ∙ ap (slice_get (some.below ++ some.top ∷ [])) t.depth ∙ get_at some.below [] some.top in
    frame_at c some.world t.shows who.process t.is_top.proc t.is_top.is who.depth some.top there who.own t.owns

pub top_closed : (c c' : Cluster) (who : Who) → ShowsClosed c c' who.process who.depth who.own → Changes Nothing c c' →
    c'.whereabouts ≡ c.whereabouts → Closes c c' who (who.depth - 0)
top_closed c c' who closes changes whereabouts = record {
  shows = λ w below top status t.
      let d = t.depth in
      let all : take (who.depth - 0) below ≡ below = take_all (who.depth - 0) below (omega (arith, d)) in
      subst (λ (xs : List CodeActivation). Shows c' (with_stack w who.process xs status)) (sym all)
      (closes w t.is_top.proc below top status t.shows t.is_top.is t.is_top.stack t.depth (sym t.owns));
  changes = changes;
  whereabouts = whereabouts;
}

-- ---- the next one

module _ (c now : Cluster) (who : Who) (i : ℕ) (low : i < who.depth) (so : Closes c now who (who.depth - i)) where
  abbrev depth : ℕ
  depth = who.depth - 1 - i

  module _ (w : CodeWorld) (below : List CodeActivation) (top : CodeActivation) (t : ShowsTop c w below top who) where
    last : (a : CodeActivation) × (slice_get below (who.depth - 1 - i) ≡ Some a)
    last = below_is c w below top who t (who.depth - 1 - i) (omega (arith, low))

    abbrev rest : List CodeActivation
    rest = take (who.depth - i) below

    -- the stack that is left ends with it
    rest_is : take (who.depth - i) below ≡ take (who.depth - (i + 1)) below ++ last.0 ∷ []
    rest_is =
        let high : who.depth - i ≡ depth + 1 = omega (arith, low) in
        let one : depth ≡ who.depth - (i + 1) = omega (arith, low) in
        ap (λ n. take n below) high ∙ take_next below depth last.0 last.1 ∙ ap (λ n. take n below ++ last.0 ∷ []) one

    rest_long : who.depth - 1 - i ≡ length (take (who.depth - (i + 1)) below)
    rest_long =
        let d = t.depth in
        let n = length-take (who.depth - (i + 1)) below in
        omega (arith, d, n, low)

    last_there : slice_get rest (who.depth - 1 - i) ≡ Some last.0
    last_there =
        ap (λ (xs : List CodeActivation). slice_get xs depth) rest_is
        ∙ ap (slice_get (take (who.depth - (i + 1)) below ++ last.0 ∷ [])) rest_long ∙ get_at (take (who.depth - (i + 1)) below) [] last.0

    rest_there : (status : ProcStatus) →
        slice_get (with_stack w who.process rest status).processes who.process ≡ Some (stack_with rest status)
    rest_there status = stacked w who.process t.is_top.proc t.is_top.is rest status

    owns_last : (own : ℕ) → AnswersOwn now who.process (who.depth - 1 - i) own → own ≡ last.0.own
    owns_last own answers =
        answers (with_stack w who.process rest Ready) (stack_with rest Ready) last.0 (so.shows w below top Ready t) (rest_there Ready)
        last_there

    here : HasActivation now who.process (who.depth - 1 - i)
    here = record {
      world = with_stack w who.process rest Ready;
      proc = stack_with rest Ready;
      activation = last.0;
      shows = so.shows w below top Ready t;
      is = rest_there Ready;
      there = last_there;
    }

    stands : (own : ℕ) → AnswersOwn now who.process (who.depth - 1 - i) own → FrameAt now who.process (who.depth - 1 - i) own
    stands own answers =
        frame_at now (with_stack w who.process rest Ready) (so.shows w below top Ready t) who.process (stack_with rest Ready)
        (rest_there Ready) depth last.0 last_there own (owns_last own answers)

    closed : (next : Cluster) (own : ℕ) (status : ProcStatus) → AnswersOwn now who.process (who.depth - 1 - i) own →
        ShowsClosed now next who.process (who.depth - 1 - i) own →
        Shows next (with_stack w who.process (take (who.depth - (i + 1)) below) status)
    closed next own status answers closes =
        subst (λ (x : CodeWorld). Shows next x) (restack w who.process rest (take (who.depth - (i + 1)) below) status status)
        (closes (with_stack w who.process rest status) (stack_with rest status) (take (who.depth - (i + 1)) below) last.0 status
        (so.shows w below top status t) (rest_there status) rest_is rest_long (sym (owns_last own answers)))

  pub next_here : ShowsSomeTop c who → HasActivation now who.process (who.depth - 1 - i)
  next_here some = here some.world some.below some.top some.shows_top

  pub next_stands : (own : ℕ) → ShowsSomeTop c who → AnswersOwn now who.process (who.depth - 1 - i) own →
      FrameAt now who.process (who.depth - 1 - i) own
  next_stands own some answers = stands some.world some.below some.top some.shows_top own answers

  pub next_closed : (next : Cluster) (own : ℕ) → AnswersOwn now who.process (who.depth - 1 - i) own →
      ShowsClosed now next who.process (who.depth - 1 - i) own → Changes Nothing now next → next.whereabouts ≡ now.whereabouts →
      Closes c next who (who.depth - (i + 1))
  next_closed next own answers closes changes whereabouts = record {
    shows = λ w below top status t. closed w below top t next own status answers closes;
    changes = nothing_join Nothing c now next so.changes changes;
    whereabouts = whereabouts ∙ so.whereabouts;
  }

-- ---- all have gone

pub all_closed : (c now : Cluster) (who : Who) (i : ℕ) → who.depth ≤ i → Closes c now who (who.depth - i) → (w : CodeWorld)
    (below : List CodeActivation) (top : CodeActivation) (status : ProcStatus) → ShowsTop c w below top who →
    Becomes c now (with_stack w who.process [] status)
all_closed c now who i all so w below top status t =
    let none : who.depth - i ≡ zero = omega (arith, all) in
    let empty : take (who.depth - i) below ≡ [] = ap (λ n. take n below) none in
    let shown : Shows now (with_stack w who.process [] status) =
    subst (λ (xs : List CodeActivation). Shows now (with_stack w who.process xs status)) empty (so.shows w below top status t) in
    record {
      shows = shown;
      texts = nothing_said c now (with_stack w who.process [] status) so.changes shown;
      whereabouts = so.whereabouts;
    }
