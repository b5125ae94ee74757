-- The own objects of the activations of a process, that of the one on top first.
use Rattle.std.proofs.Common.{◌≡◌, ℕ, ◌+◌, ◌-◌, ◌<◌, ◌≤◌, List, [], ◌∷◌, ◌++◌, drop, map, reverse, Some, sym, ap, ◌∙◌, arith}
use Rattle.std.specs.Prelude.{slice_get}
use Rattle.std.proofs.lemmas.List.{drop_all}
use Rattle.ec_base.proofs.Lists.{get_there}
use Rattle.ec_cluster.specs.Cluster.{CodeWorld, Shows}
use Rattle.ec_cluster.specs.declared.cluster.Cluster.{Cluster}
use Rattle.ec_code.specs.declared.activation.CodeActivation.{CodeActivation}
use Rattle.ec_node_frames.proofs.Items.{get_front}
use Rattle.ec_acts.specs.Taking.{HasActivation, ShowsSomeTop, ShowsTop}
use Rattle.ec_world.proofs.Dropping.{one_down}
use Rattle.ec_world.specs.declared.process.Proc.{Proc}
use Rattle.ec_world.specs.declared.stop.Who.{Who}

abbrev pub own_of : CodeActivation → ℕ
own_of a = a.own

-- the own objects of the top and of so many activations below it
abbrev pub OwnsDown : Cluster → Who → ℕ → List ℕ → Type 0
OwnsDown c who count owns =
    (w : CodeWorld) (below : List CodeActivation) (top : CodeActivation) → ShowsTop c w below top who →
    owns ≡ top.own ∷ reverse (map own_of (drop (who.depth - count) below))

-- what a question for an own object answers
abbrev pub AnswersOwn : Cluster → ℕ → ℕ → ℕ → Type 0
AnswersOwn c p depth own =
    (w : CodeWorld) (proc : Proc CodeActivation) (a : CodeActivation) → Shows c w → slice_get w.processes p ≡ Some proc →
    slice_get proc.activations depth ≡ Some a → own ≡ a.own

module _ (c : Cluster) (w : CodeWorld) (below : List CodeActivation) (top : CodeActivation) (who : Who) (t : ShowsTop c w below top who)
    (depth : ℕ) (low : depth < who.depth) where
  -- an activation below the top
  pub below_is : (a : CodeActivation) × (slice_get below depth ≡ Some a)
  below_is = get_there below depth (let d = t.depth in omega (arith, d, low))

  pub below_there : slice_get t.is_top.proc.activations depth ≡ Some below_is.0
  below_there =
      ap (λ (xs : List CodeActivation). slice_get xs depth) t.is_top.stack
      ∙ get_front below (top ∷ []) depth below_is.0 below_is.1

pub has_below : (c : Cluster) (who : Who) (depth : ℕ) → ShowsSomeTop c who → depth < who.depth → HasActivation c who.process depth
has_below c who depth some low =
    let t = some.shows_top in record {
      world = some.world;
      proc = t.is_top.proc;
      activation = (below_is c some.world some.below some.top who t depth low).0;
      shows = t.shows;
      is = t.is_top.is;
      there = below_there c some.world some.below some.top who t depth low;
    }

pub top_owned : (c : Cluster) (who : Who) → OwnsDown c who 0 (who.own ∷ [])
top_owned c who w below top t =
    let d = t.depth in
    let none : drop (who.depth - 0) below ≡ [] = drop_all (who.depth - 0) below (omega (arith, d)) in
    ap (λ o. o ∷ []) t.owns ∙ ap (λ (xs : List CodeActivation). top.own ∷ reverse (map own_of xs)) (sym none)

pub next_owned : (c : Cluster) (who : Who) (i own : ℕ) (owns owns' : List ℕ) → i < who.depth → OwnsDown c who i owns →
    AnswersOwn c who.process (who.depth - 1 - i) own → owns' ≡ owns ++ own ∷ [] → OwnsDown c who (i + 1) owns'
next_owned c who i own owns owns' low so answers more w below top t =
    let depth = who.depth - 1 - i in
    let within : depth < who.depth = omega (arith, low) in
    let a = below_is c w below top who t depth within in
    let is : own ≡ a.0.own =
    answers w t.is_top.proc a.0 t.shows t.is_top.is (below_there c w below top who t depth within) in
    more
    ∙ ap (λ (os : List ℕ). os ++ own ∷ []) (so w below top t)
    ∙ ap (λ o. (top.own ∷ reverse (map own_of (drop (who.depth - i) below))) ++ o ∷ []) is
    ∙ ap (λ (os : List ℕ). top.own ∷ os) (one_down own_of below who.depth i a.0 low a.1)

pub all_owned : (c : Cluster) (who : Who) (i : ℕ) (owns : List ℕ) → who.depth ≤ i → OwnsDown c who i owns → (w : CodeWorld)
    (below : List CodeActivation) (top : CodeActivation) → ShowsTop c w below top who → owns ≡ top.own ∷ reverse (map own_of below)
all_owned c who i owns all so w below top t =
    let none : who.depth - i ≡ 0 = omega (arith, all) in
    so w below top t ∙ ap (λ n. top.own ∷ reverse (map own_of (drop n below))) none
