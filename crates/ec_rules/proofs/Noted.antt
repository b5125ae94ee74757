-- Faults that are noted one after another, and within a part that begins and ends.
use Rattle.std.proofs.Common.{◌≡◌, ℕ, ◌+◌, ◌<◌, ◌&&◌, Bool, true, false, List, [], ◌∷◌, ◌++◌, drop, get_or, length, Option}
use Rattle.std.proofs.Common.{refl, ap, sym, ◌∙◌}
use Rattle.std.proofs.lemmas.List.{at_drop_more}
use Rattle.ec_rules.specs.declared.StaticFault.{StaticFault}
use Rattle.ec_rules.specs.declared.faults.Faults.{Faults}
use Rattle.ec_rules.specs.Lists.{each}
use Rattle.ec_rules.specs.Rules.{is_clean, noted}
use Rattle.ec_rules.proofs.Order.{least_joined}

and_true : (a : Bool) → (a && true) ≡ a
and_true true = refl
and_true false = refl

and_assoc : (a b c : Bool) → ((a && b) && c) ≡ (a && (b && c))
and_assoc true b c = refl
and_assoc false b c = refl

pub clean_joined : (fs gs : List StaticFault) → is_clean (fs ++ gs) ≡ (is_clean fs && is_clean gs)
clean_joined [] gs = refl
clean_joined (f ∷ fs) gs = refl

abbrev faults_of : Option StaticFault → Bool → Faults
faults_of first is_clean = record { first = first; is_clean = is_clean }

pub noted_none : (f : Faults) → noted f [] ≡ f
noted_none f = ap (faults_of f.first) (and_true f.is_clean)

-- first these, then those
pub noted_joined : (f : Faults) (fs gs : List StaticFault) → noted (noted f fs) gs ≡ noted f (fs ++ gs)
noted_joined f fs gs =
    let a = least_joined f.first fs gs in
    let b = and_assoc f.is_clean (is_clean fs) (is_clean gs) in
    let c = clean_joined fs gs in
    cc

module _ {A : Type 0} where
  -- along a list: those of one more part
  pub noted_next : (f : A → List StaticFault) (g h : Faults) (xs : List A) (i : ℕ) (d : A) → i < length xs →
      h ≡ noted g (f (get_or xs i d)) → noted h (each f (drop (i + 1) xs)) ≡ noted g (each f (drop i xs))
  noted_next f g h xs i d lt e =
      ap (λ k. noted k (each f (drop (i + 1) xs))) e
      ∙ noted_joined g (f (get_or xs i d)) (each f (drop (i + 1) xs))
      ∙ sym (at_drop_more (λ ys. noted g (each f ys)) xs i d lt)

  pub noted_item : (f : A → List StaticFault) (g h : Faults) (xs : List A) (i : ℕ) (x : A) → i < length xs → x ≡ get_or xs i x →
      h ≡ noted g (f x) → noted h (each f (drop (i + 1) xs)) ≡ noted g (each f (drop i xs))
  noted_item f g h xs i x lt is e = noted_next f g h xs i x lt (e ∙ ap (λ y. noted g (f y)) is)
