-- Entries of a map that are written as they were.
use Rattle.std.proofs.Common.{◌≡◌, Bool, true, false, cond, List, [], ◌∷◌, Some, refl, ap, sym}
use Rattle.std.specs.Map.{lookup, set_value}
use Rattle.std.specs.Prelude.{Err, Ok, OnErr, Result}

module _ {K X : Type 0} (test : K → Bool) where
  next_same : (b : Bool) (e : K × X) (es : List (K × X)) (w : X) → (lookup test es ≡ Some w → set_value test es w ≡ es) →
      cond b (Some e.1) (lookup test es) ≡ Some w → cond b ((e.0, w) ∷ es) (e ∷ set_value test es w) ≡ e ∷ es
  next_same true e es w h is = let same : e.1 ≡ w = cc in ap (λ x. (e.0, x) ∷ es) (sym same)
  next_same false e es w h is = ap (λ l. e ∷ l) (h is)

  -- the value that is there, written once more
  pub written_same : (es : List (K × X)) (w : X) → lookup test es ≡ Some w → set_value test es w ≡ es
  written_same [] w is = refl
  written_same (e ∷ es) w is = next_same (test e.0) e es w (written_same es w) is

pub on_err : {A E P : Type 0} (r : Result A E) → P → OnErr r P
on_err (Ok a) h = tt
on_err (Err e) h = h

pub then_same : {A E P Q : Type 0} (r : Result A E) → OnErr r P → (P → Q) → OnErr r Q
then_same (Ok a) h then = tt
then_same (Err e) h then = then h
