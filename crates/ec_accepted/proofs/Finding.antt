-- Classes and operations of a core, and those that they are lowered to, by their numbers.
use Rattle.std.proofs.Common.{◌≡◌, ℕ, zero, suc, ◌+◌, ◌<◌, if◌then◌else◌, List, [], ◌∷◌, map, Some, None}
use Rattle.std.proofs.Common.{refl, ap, ◌∙◌, subst, arith}
use Rattle.std.proofs.lemmas.Bool.{eq-eqb, ne_eqb}
use Rattle.std.proofs.lemmas.List.Elements.{recursion_from_All}
use Rattle.std.specs.List.{All, AllByRecursion as Each}
use Rattle.std.specs.Prelude.{slice_get}
use Rattle.ec_check.proofs.ClassNumbers.{Below, Ascending, ascending}
use Rattle.ec_code.specs.declared.code.Operation.{Operation as Lowered}
use Rattle.ec_core.specs.declared.Class.{Class}
use Rattle.ec_core.specs.declared.Operation.{Operation}
use Rattle.ec_emission.specs.Lowered.{AreOperationsOf, IsOperationOf, IsProgramOf}
use Rattle.ec_meaning.specs.Programs.{Source, class_from, class_number}
use Rattle.ec_places.specs.Rising.{IsRising}
use Rattle.ec_world.specs.Agree.{AllTwo}
use Rattle.ec_world.specs.declared.class.ClassNo.TheVariants.{Made}

pub no_some : {A B : Type 0} → (x : A) → None ≡ Some x → B
no_some x e = cc

pub same_some : {A : Type 0} → (x y : A) → Some x ≡ Some y → x ≡ y
same_some x y e = cc

-- what holds of each holds of the one at a place
each_at : {A : Type 0} (P : A → Type 0) (xs : List A) (k : ℕ) (x : A) → Each P xs → slice_get xs k ≡ Some x → P x
each_at P [] k x h e = no_some x e
each_at P (y ∷ ys) zero x h e = subst P (same_some y x e) h.0
each_at P (y ∷ ys) (suc k) x h e = each_at P ys k x h.1 e

pub all_at : {A : Type 0} (P : A → Type 0) (xs : List A) (k : ℕ) (x : A) → All P xs → slice_get xs k ≡ Some x → P x
all_at P xs k x h e = each_at P xs k x (recursion_from_All P xs h) e

-- ---- classes

abbrev numbers : List Class → List ℕ
numbers cs = map (λ (c : Class). c.number) cs

below_at : (n : ℕ) (cs : List Class) (k : ℕ) (c : Class) → Below n (numbers cs) → slice_get cs k ≡ Some c → n < c.number
below_at n [] k c h e = no_some c e
below_at n (x ∷ cs) zero c h e = subst (λ (y : Class). n < y.number) (same_some x c e) h.0
below_at n (x ∷ cs) (suc k) c h e = below_at n cs k c h.1 e

found_from : (cs : List Class) (n k : ℕ) (c : Class) → Ascending (numbers cs) → slice_get cs k ≡ Some c →
    class_from n cs c.number ≡ n + k
found_from [] n k c a e = no_some c e
found_from (x ∷ cs) n zero c a e =
    let is : x.number ≡ c.number = ap (λ (y : Class). y.number) (same_some x c e) in
    let at : n ≡ n + 0 = omega arith in
    ap (λ b. if b then n else class_from (suc n) cs c.number) (eq-eqb x.number c.number is) ∙ at
found_from (x ∷ cs) n (suc k) c a e =
    let l : x.number < c.number = below_at x.number cs k c a.0 e in
    let other : x.number ≡ c.number → ⊥ = λ f. omega arith in
    let at : suc n + k ≡ n + suc k = omega arith in
    ap (λ b. if b then n else class_from (suc n) cs c.number) (ne_eqb x.number c.number other)
    ∙ found_from cs (suc n) k c a.1 e
    ∙ at

-- A class is found at its place, where no two have one number.
pub class_found : (s : Source) → IsRising (numbers s.core.classes) → (k : ℕ) (c : Class) →
    slice_get s.core.classes k ≡ Some c →
    class_number s c.number ≡ Made k
class_found s rising k c e =
    let at : 0 + k ≡ k = omega arith in
    ap Made (found_from s.core.classes 0 k c (ascending (numbers s.core.classes) rising) e ∙ at)

-- what a list of classes is made to, at a place
pub made_from : {B : Type 0} (f : Class → B) (cs : List Class) (k : ℕ) (b : B) → slice_get (map f cs) k ≡ Some b →
    (c : Class) × (slice_get cs k ≡ Some c) × (f c ≡ b)
made_from f [] k b e = no_some b e
made_from f (c ∷ cs) zero b e = (c, refl, same_some (f c) b e)
made_from f (c ∷ cs) (suc k) b e = made_from f cs k b e

pub made_there : {B : Type 0} (f : Class → B) (cs : List Class) (k : ℕ) (c : Class) → slice_get cs k ≡ Some c →
    slice_get (map f cs) k ≡ Some (f c)
made_there f [] k c e = no_some c e
made_there f (x ∷ cs) zero c e = ap (λ y. Some (f y)) (same_some x c e)
made_there f (x ∷ cs) (suc k) c e = made_there f cs k c e

-- ---- operations

lowered_from : (s : Source) (os : List Operation) (ms : List Lowered) → AllTwo (IsOperationOf s) os ms →
    (n : ℕ) (o : Operation) →
    slice_get os n ≡ Some o → (m : Lowered) × (slice_get ms n ≡ Some m) × IsOperationOf s o m
lowered_from s [] ms h n o e = no_some o e
lowered_from s (x ∷ os) [] h n o e = absurd h
lowered_from s (x ∷ os) (m ∷ ms) h zero o e = (m, refl, subst (λ y. IsOperationOf s y m) (same_some x o e) h.0)
lowered_from s (x ∷ os) (m ∷ ms) h (suc n) o e = lowered_from s os ms h.1 n o e

-- Each operation of the core is lowered to one, behind the program's own.
pub lowered_at : (s : Source) (ms : List Lowered) → AreOperationsOf s ms → (n : ℕ) (o : Operation) →
    slice_get s.core.operations n ≡ Some o → (m : Lowered) × (slice_get ms (suc n) ≡ Some m) × IsOperationOf s o m
lowered_at s [] h n o e = absurd h
lowered_at s (x ∷ ms) h n o e = lowered_from s s.core.operations ms h.1 n o e

pub first_lowered : (s : Source) (ms : List Lowered) → AreOperationsOf s ms →
    (m : Lowered) × (slice_get ms 0 ≡ Some m) × IsProgramOf s m
first_lowered s [] h = absurd h
first_lowered s (x ∷ ms) h = (x, refl, h.0)
