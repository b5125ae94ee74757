-- Worlds in which an object is fixed, or is fixed no more.
use Rattle.std.proofs.Common.{◌≡◌, ◌≢◌, ◌∙◌, ◌++◌, ◌∷◌, [], ℕ, zero, suc, Bool, true, false, List, Option, Some, None, ap, refl, subst, sym}
use Rattle.std.proofs.Common.{⊎_elim}
use Rattle.std.proofs.lemmas.List.{set-set}
use Rattle.std.specs.Prelude.{slice_get, slice_set}
use Rattle.ec_base.proofs.Lists.{get_set_other, get_set_same, get_within}
use Rattle.ec_cluster.proofs.Changing.{before_suc}
use Rattle.ec_cluster.specs.Cluster.{CodeWorld, Shows}
use Rattle.ec_cluster.specs.Steps.{with_common}
use Rattle.ec_cluster.specs.declared.cluster.Cluster.{Cluster}
use Rattle.ec_acts.proofs.ObjectsLemmas.{changed_here, length_changed}
use Rattle.ec_gathering.proofs.Along.{but_itself}
use Rattle.ec_gathering.specs.Bringing.{IsLoose, flag_if}
use Rattle.ec_gathering.specs.Gathers.{MayLeave, world_gathered}
use Rattle.ec_gathering.specs.Gathering.{ButFixed}
use Rattle.ec_world.proofs.Keys.{same_or_not}
use Rattle.ec_world.specs.Objects.{changed_if, changed_object, object_at}
use Rattle.ec_world.specs.declared.event.Event.TheVariants.{Moved}
use Rattle.ec_world.specs.declared.object.ObjectRec.{ObjectRec}

abbrev pub flagged_so : Bool → ObjectRec → ObjectRec
flagged_so fixed o = record o { fixed = fixed }

-- ---- one object changes

module _ (objects : List ObjectRec) (change : ObjectRec → ObjectRec) where
  changed_there : (i : ℕ) (o : ObjectRec) → slice_get objects i ≡ Some o →
      changed_object objects (suc i) change ≡ slice_set objects i (change o)
  changed_there i o e = ap (changed_if objects (suc i) change) e ∙ ap (λ x. slice_set objects x (change o)) (before_suc i)

  changed_none : (i : ℕ) → slice_get objects i ≡ None → changed_object objects (suc i) change ≡ objects
  changed_none i e = ap (changed_if objects (suc i) change) e

  -- another object is as it was
  pub changed_other : (x i : ℕ) (o : ObjectRec) → suc i ≢ x → slice_get objects i ≡ Some o →
      slice_get (changed_object objects x change) i ≡ Some o
  changed_other zero i o ne is = is
  changed_other (suc j) i o ne is = by (slice_get objects j) refl
    where
      by : (x : Option ObjectRec) → slice_get objects j ≡ x → slice_get (changed_object objects (suc j) change) i ≡ Some o
      by None e = ap (λ (os : List ObjectRec). slice_get os i) (changed_none j e) ∙ is
      by (Some z) e =
          ap (λ (os : List ObjectRec). slice_get os i) (changed_there j z e)
          ∙ get_set_other objects j i (change z) (λ same. ne (ap suc same))
          ∙ is

-- A second change of an object leaves what both leave together.
changed_again : (objects : List ObjectRec) (f g : ObjectRec → ObjectRec) (x : ℕ) →
    changed_object (changed_object objects x f) x g ≡ changed_object objects x (λ o. g (f o))
changed_again objects f g zero = refl
changed_again objects f g (suc j) = by (slice_get objects j) refl
  where
    by : (x : Option ObjectRec) → slice_get objects j ≡ x →
        changed_object (changed_object objects (suc j) f) (suc j) g ≡ changed_object objects (suc j) (λ o. g (f o))
    by None e =
        ap (λ (os : List ObjectRec). changed_object os (suc j) g) (changed_none objects f j e)
        ∙ changed_none objects g j e
        ∙ sym (changed_none objects (λ o. g (f o)) j e)
    by (Some z) e =
        ap (λ (os : List ObjectRec). changed_object os (suc j) g) (changed_there objects f j z e)
        ∙ changed_there (slice_set objects j (f z)) g j (f z) (get_set_same objects j (f z) (get_within objects j z e))
        ∙ set-set objects j (f z) (g (f z))
        ∙ sym (changed_there objects (λ o. g (f o)) j z e)

-- ---- the flag of an object, if there is one

pub but_flag : (w : CodeWorld) (fixes : Option ℕ) (fixed : Bool) → ButFixed w (with_common w (flag_if w.common fixes fixed))
but_flag w None fixed = but_itself w
but_flag w (Some x) fixed = record {
  processes = refl;
  globals = refl;
  many = length_changed w.common.objects (flagged_so fixed) x;
  each = λ i o is. ⊎_elim
      (λ (same : suc i ≡ x). (
        fixed,
        ap (object_at (changed_object w.common.objects x (flagged_so fixed))) same
            ∙ changed_here w.common.objects (flagged_so fixed) x o (ap (object_at w.common.objects) (sym same) ∙ is),
      ))
      (λ (ne : suc i ≢ x). (o.fixed, changed_other w.common.objects (flagged_so fixed) x i o ne is))
      (same_or_not (suc i) x);
}

-- a member that may leave isn't fixed any more
pub loose_then : (w : CodeWorld) (fixes : Option ℕ) (oid : ℕ) → MayLeave w fixes oid →
    IsLoose (with_common w (flag_if w.common fixes false)) oid
loose_then w None oid may = record { object = may.object; is = may.is; free = may.loose (λ e. cc) }
loose_then w (Some x) zero may = absurd (let e = may.is in cc)
loose_then w (Some x) (suc i) may = ⊎_elim
    (λ (same : suc i ≡ x). record {
      object = flagged_so false may.object;
      is =
          ap (object_at (changed_object w.common.objects x (flagged_so false))) same
          ∙ changed_here w.common.objects (flagged_so false) x may.object (ap (object_at w.common.objects) (sym same) ∙ may.is);
      free = refl;
    })
    (λ (ne : suc i ≢ x). record {
      object = may.object;
      is = changed_other w.common.objects (flagged_so false) x i may.object ne may.is;
      free = may.loose (λ e. let same : x ≡ suc i = cc in ne (sym same));
    })
    (same_or_not (suc i) x)

-- Where the flag is set again the nodes show the world after the move.
pub shows_gathered : (c : Cluster) (w : CodeWorld) (members : List ℕ) (target : ℕ) (fixes : Option ℕ) →
    Shows c (with_common w (flag_if (flag_if w.common fixes false) fixes true)) → Shows c (world_gathered w members target fixes)
shows_gathered c w members target None shows = shows
shows_gathered c w members target (Some x) shows =
    subst (λ (os : List ObjectRec). Shows c (with_common w (record w.common {
      objects = os;
      events = w.common.events ++ Moved members target ∷ [];
    }))) (changed_again w.common.objects (flagged_so false) (flagged_so true) x) shows
