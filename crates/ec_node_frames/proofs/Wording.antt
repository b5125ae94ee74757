-- The word of a reference, and then the words of values.
use Rattle.std.proofs.Common.{◌≡◌, ℕ, zero, suc, List, ◌∷◌, Some, sym, ap, subst, ◌⊎◌, inl, inr, ⊎_elim}
use Rattle.std.specs.Prelude.{slice_get, ◌↔◌}
use Rattle.std.proofs.lemmas.Option.{same_Some}
use Rattle.ec_objects.proofs.Wording.{only_on}
use Rattle.ec_objects.specs.Values.{HasWord, HasWords}
use Rattle.ec_stores.proofs.Numbers.{first_or}
use Rattle.ec_things.proofs.Kept.{carries_of, stands_kept}
use Rattle.ec_things.specs.Store.{Stands, Store}
use Rattle.ec_things.specs.Texts.{InPool}
use Rattle.ec_world.specs.Group.{Has}
use Rattle.ec_world.specs.declared.value.Value.{Value}
use Rattle.ec_world.specs.declared.value.Value.TheVariants.{Str}

module _ (s m s' : Store) (v : Value) (w : ℕ) (values : List Value) (words : List ℕ) (first : HasWord s m v w)
    (others : HasWords m s' values words) where
  each : (i x : ℕ) (u : Value) → slice_get (v ∷ values) i ≡ Some u → slice_get (w ∷ words) i ≡ Some x → Stands s' u x
  each zero x u e f =
      let stands = stands_kept m s' (carries_of m s' others.only.grown) v w first.stands in
      subst (λ (k : Value). Stands s' k x) (same_Some v u e) (subst (λ n. Stands s' v n) (same_Some w x f) stands)
  each (suc i) x u e f = others.are.each i x u e f

  texts : (text : List ℕ) → InPool s' text ↔ (InPool s text ⊎ Has (v ∷ values) (Str text))
  texts text = (
    λ h. ⊎_elim
        (λ (x : InPool m text). ⊎_elim
        (λ (y : InPool s text). inl y)
        (λ (y : v ≡ Str text). inr (record { at = 0; is = ap Some y }))
        ((first.texts text).0 x))
        (λ (x : Has values (Str text)). inr (record { at = suc x.at; is = x.is }))
        ((others.texts text).0 h),
    λ h. (others.texts text).1 (⊎_elim
        (λ (y : InPool s text). inl ((first.texts text).1 (inl y)))
        (λ (y : Has (v ∷ values) (Str text)). ⊎_elim
        (λ (z : Str text ≡ v). inl ((first.texts text).1 (inr (sym z))))
        (λ (z : Has values (Str text)). inr z)
        (first_or v values (Str text) y))
        h),
  )

  pub words_behind : HasWords s s' (v ∷ values) (w ∷ words)
  words_behind = record {
    only = only_on s m s' first.only others.only;
    are = record { many = ap suc others.are.many; each = each };
    texts = texts;
  }
