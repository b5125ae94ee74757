-- The homes of a table fit the code of its operation.
use Rattle.std.proofs.Common.{◌≡◌, ◌≢◌, ℕ, zero, suc, inl, inr, Bool, true, false, ◌||◌, List, [], ◌∷◌, ◌++◌}
use Rattle.std.proofs.Common.{drop, map}
use Rattle.std.proofs.Common.{Some, refl, sym, ap, ◌∙◌, subst, arith}
use Rattle.std.specs.Prelude.{slice_get}
use Rattle.std.proofs.lemmas.Bool.Decides.{nat_tests}
use Rattle.std.proofs.lemmas.Option.{same_Some}
use Rattle.ec_base.proofs.Lists.{get_there}
use Rattle.ec_code.specs.Fine.{Has, IsIn, live_at}
use Rattle.ec_code.specs.declared.code.Line.{Line}
use Rattle.ec_code.specs.declared.code.Live.{Live}
use Rattle.ec_code.specs.declared.code.Variable.{Variable}
use Rattle.ec_code.specs.declared.code.Variable.TheVariants.{Named, Temporary}
use Rattle.ec_machine_code.specs.Limits.{HasColumn}
use Rattle.ec_types.specs.declared.conform.static_type.StaticType.{StaticType}
use Rattle.ec_machine_code.specs.Homes.{AreHomes, IsVariable, IsWithin, column}
use Rattle.ec_machine_code.specs.Meeting.{all_if, live_first, live_in, met_at, met_behind, met_by}
use Rattle.ec_machine_code.specs.declared.homes.Home.{Home}
use Rattle.ec_code.specs.Live.{writes}
use Rattle.ec_code.specs.Marks.{is_among, is_same}

-- ---- lists

in_front : {A : Type 0} (x : A) (xs ys : List A) → IsIn x xs → IsIn x (xs ++ ys)
in_front x [] ys h = absurd h
in_front x (z ∷ xs) ys (inl e) = inl e
in_front x (z ∷ xs) ys (inr h) = inr (in_front x xs ys h)

in_back : {A : Type 0} (x : A) (xs ys : List A) → IsIn x ys → IsIn x (xs ++ ys)
in_back x [] ys h = h
in_back x (z ∷ xs) ys h = inr (in_back x xs ys h)

same_self : (x : Variable) → is_same x x ≡ true
same_self (Named n) = grind (arith, nat_tests)
same_self (Temporary d) = grind (arith, nat_tests)

or_true : (b : Bool) → (b || true) ≡ true
or_true true = refl
or_true false = refl

among : (x : Variable) (ys : List Variable) → IsIn x ys → is_among x ys ≡ true
among x [] h = absurd h
among x (y ∷ ys) (inl e) = ap (λ b. b || is_among x ys) (ap (is_same x) (sym e) ∙ same_self x)
among x (y ∷ ys) (inr h) = ap (λ b. is_same x y || b) (among x ys h) ∙ or_true (is_same x y)

pub has_in : (live : List Live) (x : Variable) (t : StaticType) → Has live x t → IsIn x (map (λ l. l.variable) live)
has_in [] x t h = absurd h
has_in (l ∷ ls) x t (inl e) = inl (ap (λ (k : Live). k.variable) e)
has_in (l ∷ ls) x t (inr h) = inr (has_in ls x t h)

-- ---- what is written meets what is live behind

if_in : (b : Bool) (y : Variable) (ys : List Variable) → b ≡ true → IsIn y ys → IsIn y (all_if b ys)
if_in true y ys e h = h
if_in false y ys e h = absurd cc

live_behind : (code : List Line) (q : ℕ) (x : Variable) (t : StaticType) → Has (live_at code q) x t → IsIn x (live_first (drop q code))
live_behind [] zero x t h = absurd h
live_behind [] (suc q) x t h = absurd h
live_behind (line ∷ code) zero x t h = has_in line.live x t h
live_behind (line ∷ code) (suc q) x t h = live_behind code q x t h

met_here : (x to : Variable) (line : Line) (rest : List Line) → writes line.op ≡ Some to → IsIn x (live_first rest) →
    IsIn to (met_at x line rest)
met_here x to line rest w h =
    let behind = live_first rest in
    let met : IsIn to (met_behind x (Some to) behind) =
    in_back to (all_if (is_same x to) behind) (all_if (is_among x behind) (to ∷ []))
    (if_in (is_among x behind) to (to ∷ []) (among x behind h) (inl refl)) in
    in_back to (all_if (is_among x (live_in line)) (live_in line)) (met_behind x (writes line.op) behind)
    (subst (λ o. IsIn to (met_behind x o behind)) (sym w) met)

met_there : (code : List Line) (q : ℕ) (line : Line) (x to : Variable) → slice_get code q ≡ Some line → writes line.op ≡ Some to →
    IsIn x (live_first (drop (suc q) code)) → IsIn to (met_by x code)
met_there [] q line x to e w h = absurd cc
met_there (l ∷ code) zero line x to e w h =
    let same : l ≡ line = same_Some l line e in
    in_front to (met_at x l code) (met_by x code) (met_here x to l code (ap (λ (k : Line). writes k.op) same ∙ w) h)
met_there (l ∷ code) (suc q) line x to e w h = in_back to (met_at x l code) (met_by x code) (met_there code q line x to e w h)

module _ (named registers : ℕ) (code : List Line) (homes : List Home) (are : AreHomes named 100 registers code homes) where
  -- each variable with a column has a home
  pub has_home : (x : Variable) → HasColumn named x →
      (h : Home) × (slice_get homes (column named x) ≡ Some h) × IsWithin registers 100 h
  has_home x c =
      let there = get_there homes (column named x) (let all = are.all in let low = c.below in omega (arith, all, low)) in
      (there.0, there.1, are.within (column named x) there.0 there.1)

  pub homes_apart : (q : ℕ) (line : Line) (to x : Variable) (t : StaticType) (g h : Home) → slice_get code q ≡ Some line →
      writes line.op ≡ Some to → Has (live_at code (suc q)) x t → x ≢ to → IsVariable named x → IsVariable named to →
      slice_get homes (column named x) ≡ Some g → slice_get homes (column named to) ≡ Some h → g ≢ h
  homes_apart q line to x t g h e w live ne vx vt gx ht =
      are.apart x to g h (ne, met_there code q line x to e w (live_behind code (suc q) x t live)) (vx, gx) (vt, ht)
