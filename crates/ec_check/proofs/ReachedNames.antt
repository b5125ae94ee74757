-- Each name that is used further out than an object constructor is among those that it captures.
use Rattle.std.proofs.Common.{◌≡◌, ℕ, zero, suc, ◌==◌, ◌||◌, Bool, true, false, List, [], ◌∷◌, ◌++◌, refl, sym, subst, if◌then◌else◌}
use Rattle.ec_ast.specs.declared.Name.{Name}
use Rattle.ec_check.proofs.CapturedNames.{some_not_none}
use Rattle.ec_check.proofs.Every.{Every, every_joined, every_weaker, either}
use Rattle.ec_check.proofs.FirstNames.{still_there, last_there}
use Rattle.ec_types.specs.Names.{Text, has_name}
use Rattle.ec_rules.specs.Captures.{Use, captured_behind, captured, use_outside, uses_outside}

-- The name that is used is among these.
abbrev pub IsReached : List Text → Use → Type 0
IsReached names u = has_name names u.name.text ≡ true

abbrev taken_with : List Text → Name → ℕ → List Text
taken_with taken name out = if (out == 0) || has_name taken name.text then taken else (taken ++ name.text ∷ [])

-- what is captured stays captured
still_captured : (us : List Use) (taken : List Text) (name : Text) → has_name taken name ≡ true →
    has_name (captured_behind taken us) name ≡ true
still_captured [] taken name e = e
still_captured (u ∷ us) taken name e =
    still_captured us (taken_with taken u.name u.out) name
    (either (λ names. has_name names name ≡ true) ((u.out == 0) || has_name taken u.name.text) taken (taken ++ u.name.text ∷ []) e
    (still_there taken u.name.text name e))

then_captured : (taken : List Text) (name : Name) (b : Bool) → has_name taken name.text ≡ b →
    has_name (if b then taken else (taken ++ name.text ∷ [])) name.text ≡ true
then_captured taken name true e = e
then_captured taken name false e = last_there taken name.text

captured_here : (taken : List Text) (name : Name) (out : ℕ) → Every (IsReached (taken_with taken name out)) (use_outside name out)
captured_here taken name zero = tt
captured_here taken name (suc out) = (
  subst (λ b. has_name (if b || has_name taken name.text then taken else (taken ++ name.text ∷ [])) name.text ≡ true)
      (sym (some_not_none out)) (then_captured taken name (has_name taken name.text) refl),
  tt,
)

reached_behind : (us : List Use) (taken : List Text) → Every (IsReached (captured_behind taken us)) (uses_outside us)
reached_behind [] taken = tt
reached_behind (u ∷ us) taken =
    every_joined (IsReached (captured_behind taken (u ∷ us))) (use_outside u.name u.out) (uses_outside us)
    (every_weaker (IsReached (taken_with taken u.name u.out)) (IsReached (captured_behind taken (u ∷ us)))
    (λ v e. still_captured us (taken_with taken u.name u.out) v.name.text e) (use_outside u.name u.out)
    (captured_here taken u.name u.out))
    (reached_behind us (taken_with taken u.name u.out))

pub each_reached : (us : List Use) → Every (IsReached (captured us)) (uses_outside us)
each_reached us = reached_behind us []
