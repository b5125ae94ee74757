-- Objects get other places, one after another.
use Rattle.std.proofs.Common.{◌≡◌, ◌≢◌, ◌<◌, ◌-◌, ◌^◌, ℕ, ◌+◌, ◌≤◌, List, [], ◌∷◌, ◌++◌, length, take, Option, Some, refl, sym, ap, ◌∙◌, subst, arith, ⊎_elim}
use Rattle.std.proofs.lemmas.Option.{same_Some}
use Rattle.std.specs.Prelude.{Err, IsSome, Ok, OnOk, Result, slice_get}
use Rattle.ec_base.proofs.Lists.{take_next}
use Rattle.ec_carrying.specs.Moves.{AreAll, NotAny}
use Rattle.ec_cluster.proofs.Places.{gives_located, located}
use Rattle.ec_cluster.proofs.Going.{none_went, one_went, still_few, went_on}
use Rattle.ec_cluster.specs.Whereabouts.{FewElsewhere, Gives, Traces, WentTo, made_count, moves_of, place_at}
use Rattle.ec_cluster.specs.Located.{Located, moved_to, with_at}
use Rattle.ec_world.proofs.Keys.{same_or_not}
use Rattle.ec_world.specs.Held.{Distinct}
use Rattle.ec_world.specs.declared.key.Key.TheVariants.{Object}
use Rattle.ec_objects.proofs.Wording.{take_all}
use Rattle.ec_parcels.proofs.Rising.{map_get}
use Rattle.ec_parcels.specs.Owners.{object_keys}
use Rattle.ec_wire.specs.declared.parcel.ObjectPart.{ObjectPart}
use Rattle.ec_world.proofs.Members.{has_back, has_either, has_first, has_front, has_none, has_one}
use Rattle.ec_world.specs.Group.{Has}

-- the first i of some objects have gone to a node, and the others are where all were
pub record Moving (old now : Traces) (objects : List ObjectPart) (from to i : ℕ) : Type 0 where
  pub gone : AreAll now (take i objects) to
  pub left : (j : ℕ) (part : ObjectPart) → i ≤ j → slice_get objects j ≡ Some part → place_at now part.number ≡ Some from
  pub others : (oid : ℕ) → NotAny (take i objects) oid → place_at now oid ≡ place_at old oid
  pub count : made_count now ≡ made_count old
  pub went : WentTo to old now

with_here : {A : Type 0} (f : ℕ → A) (oid : ℕ) (a : A) → with_at f oid a oid ≡ a
with_here f oid a = grind arith

with_other : {A : Type 0} (f : ℕ → A) (oid : ℕ) (a : A) (o : ℕ) → o ≢ oid → with_at f oid a o ≡ f o
with_other f oid a o ne = grind arith

pub some_place : (x : Option ℕ) (k : ℕ) → x ≡ Some k → IsSome x
some_place x k e = rw e refl

-- an object that was looked for is where it was
pub still_there : (d d' : Traces) → ((w : Located) → Gives d w → Gives d' w) → (oid : ℕ) → place_at d' oid ≡ place_at d oid
still_there d d' kept oid = (kept (located d) (gives_located d)).places oid

-- and can move as it could
pub may_move : (d d' : Traces) → ((w : Located) → Gives d w → Gives d' w) → (oid : ℕ) → moves_of d oid < 2 ^ 64 - 1 →
    moves_of d' oid < 2 ^ 64 - 1
may_move d d' kept oid few = subst (λ (m : ℕ). m < 2 ^ 64 - 1) (sym ((kept (located d) (gives_located d)).moves oid)) few

-- and moves on from there
pub goes_from : {A E : Type 0} (r : Result A E) (d d1 d2 : Traces) (oid at to : ℕ) → ((w : Located) → Gives d w → Gives d1 w) →
    place_at d oid ≡ Some at → ((w : Located) → Gives d1 w → OnOk r (Gives d2 (moved_to w oid at to))) →
    OnOk r ((w : Located) (from : ℕ) → Gives d w → place_at d oid ≡ Some from → Gives d2 (moved_to w oid from to))
goes_from (Ok a) d d1 d2 oid at to kept is noted = λ w from gives there.
    subst (λ (k : ℕ). Gives d2 (moved_to w oid k to)) (same_Some at from (sym is ∙ there)) (noted w (kept w gives))
goes_from (Err e) d d1 d2 oid at to kept is noted = tt

module _ (d d' : Traces) (oid from to : ℕ) (noted : (w : Located) → Gives d w → Gives d' (moved_to w oid from to)) where
  moved : Gives d' (moved_to (located d) oid from to)
  moved = noted (located d) (gives_located d)

  goes_there : place_at d' oid ≡ Some to
  goes_there = moved.places oid ∙ with_here (place_at d) oid (Some to)

  others_stay : (o : ℕ) → o ≢ oid → place_at d' o ≡ place_at d o
  others_stay o ne = moved.places o ∙ with_other (place_at d) oid (Some to) o ne

pub none_moved : (d : Traces) (objects : List ObjectPart) (from to : ℕ) → AreAll d objects from → Moving d d objects from to 0
none_moved d objects from to there = record {
  gone = λ part h. absurd (has_none part h);
  left = λ j part l e. there part (record { at = j; is = e });
  others = λ oid h. refl;
  count = refl;
  went = none_went to d d refl;
}

pub next_from : (old now : Traces) (objects : List ObjectPart) (from to i : ℕ) (part : ObjectPart) →
    Moving old now objects from to i → slice_get objects i ≡ Some part → place_at now part.number ≡ Some from
next_from old now objects from to i part so e = so.left i part (omega arith) e

-- it can move once more, as each object elsewhere could
pub next_few : (old now : Traces) (objects : List ObjectPart) (from to i : ℕ) (part : ObjectPart) →
    Moving old now objects from to i → slice_get objects i ≡ Some part → to ≢ from → FewElsewhere to old →
    moves_of now part.number < 2 ^ 64 - 1
next_few old now objects from to i part so e apart few =
    still_few to old now so.went few part.number
    (λ at. apart (same_Some to from (sym at ∙ next_from old now objects from to i part so e)))

module _ (old now new : Traces) (objects : List ObjectPart) (from to i : ℕ) (part : ObjectPart)
    (once : Distinct (object_keys objects)) (so : Moving old now objects from to i) (is : slice_get objects i ≡ Some part)
    (noted : (w : Located) → Gives now w → Gives new (moved_to w part.number from to)) where
  key_at : (j : ℕ) (other : ObjectPart) → slice_get objects j ≡ Some other → slice_get (object_keys objects) j ≡ Some (Object other.number)
  key_at j other e = map_get (λ (o : ObjectPart). Object o.number) objects j other e

  -- objects at two places have two numbers
  apart : (j : ℕ) (other : ObjectPart) → slice_get objects j ≡ Some other → j ≢ i → other.number ≢ part.number
  apart j other e ne same =
      ne (once.once j i (Object part.number) (key_at j other e ∙ ap (λ n. Some (Object n)) same) (key_at i part is))

  next : take (i + 1) objects ≡ take i objects ++ part ∷ []
  next = take_next objects i part is

  gone_too : (other : ObjectPart) → Has (take i objects ++ part ∷ []) other → place_at new other.number ≡ Some to
  gone_too other h = ⊎_elim
      (λ (same : other.number ≡ part.number). ap (place_at new) same ∙ goes_there now new part.number from to noted)
      (λ (ne : other.number ≢ part.number). ⊎_elim
      (λ (b : Has (take i objects) other). others_stay now new part.number from to noted other.number ne ∙ so.gone other b)
      (λ (b : Has (part ∷ []) other). absurd (ne (ap (λ (o : ObjectPart). o.number) (has_one part other b))))
      (has_either other (take i objects) (part ∷ []) h))
      (same_or_not other.number part.number)

  pub one_moved : Moving old new objects from to (i + 1)
  one_moved = record {
    gone = λ other h. gone_too other (subst (λ (os : List ObjectPart). Has os other) next h);
    left = λ j other l e.
        others_stay now new part.number from to noted other.number (apart j other e (λ at. omega arith))
        ∙ so.left j other (omega arith) e;
    others = λ oid h.
        let not : NotAny (take i objects ++ part ∷ []) oid = subst (λ (os : List ObjectPart). NotAny os oid) next h in
        others_stay now new part.number from to noted oid (λ e. not part (has_back part (take i objects) (part ∷ []) (has_first part []))
        (sym e))
        ∙ so.others oid (λ other b. not other (has_front other (take i objects) (part ∷ []) b));
    count = (moved now new part.number from to noted).made ∙ so.count;
    went =
        went_on to old now new so.went
        (one_went now new part.number from to (next_from old now objects from to i part so is) noted);
  }

pub all_moved : (old now : Traces) (objects : List ObjectPart) (from to i : ℕ) → length objects ≤ i →
    Moving old now objects from to i → AreAll now objects to × ((oid : ℕ) → NotAny objects oid → place_at now oid ≡ place_at old oid)
all_moved old now objects from to i all so =
    let whole = take_all objects i all in (
      subst (λ (os : List ObjectPart). AreAll now os to) whole so.gone,
      λ oid h. so.others oid (subst (λ (os : List ObjectPart). NotAny os oid) (sym whole) h),
    )
