-- The numbers of variables that code reads are all among those that were counted.
use Rattle.std.proofs.Common.{◌≡◌, ℕ, zero, suc, ◌<◌, inl, inr, List, [], ◌∷◌, Some, slice_get, arith, subst}
use Rattle.ec_code.specs.Fine.{IsIn}
use Rattle.ec_code.specs.declared.code.Op.{Op}
use Rattle.ec_code.specs.declared.code.Variable.{Variable}
use Rattle.ec_code.specs.declared.code.Variable.TheVariants.{Named, Temporary}
use Rattle.ec_code.specs.Live.{reads, IsLive, is_read, is_passed}
use Rattle.ec_code.specs.Listed.{with_one, with_all, with_code}
use Rattle.ec_code.specs.declared.extent.Extent.{Extent}

-- the number of the variable is one of these
abbrev pub Covers : Extent → Variable → Type 0
Covers e (Named n) = n < e.named
Covers e (Temporary d) = d < e.temporaries

covers_one : (e : Extent) (x : Variable) → Covers (with_one e x) x
covers_one e (Named n) = omega arith
covers_one e (Temporary d) = omega arith

keeps_one : (e : Extent) (x y : Variable) → Covers e x → Covers (with_one e y) x
keeps_one e (Named m) (Named n) h = omega arith
keeps_one e (Named m) (Temporary d) h = h
keeps_one e (Temporary d) (Named n) h = h
keeps_one e (Temporary d) (Temporary c) h = omega arith

keeps_all : (e : Extent) (ys : List Variable) (x : Variable) → Covers e x → Covers (with_all e ys) x
keeps_all e [] x h = h
keeps_all e (y ∷ ys) x h = keeps_all (with_one e y) ys x (keeps_one e x y h)

covers_all : (e : Extent) (ys : List Variable) (x : Variable) → IsIn x ys → Covers (with_all e ys) x
covers_all e [] x h = absurd h
covers_all e (y ∷ ys) x (inl same) =
    keeps_all (with_one e y) ys x (subst (λ z. Covers (with_one e z) x) same (covers_one e x))
covers_all e (y ∷ ys) x (inr i) = covers_all (with_one e y) ys x i

keeps_code : (e : Extent) (code : List Op) (x : Variable) → Covers e x → Covers (with_code e code) x
keeps_code e [] x h = h
keeps_code e (o ∷ os) x h = keeps_code (with_all e (reads o)) os x (keeps_all e (reads o) x h)

covers_code : (e : Extent) (code : List Op) (q : ℕ) (o : Op) (x : Variable) → slice_get code q ≡ Some o → IsIn x (reads o) →
    Covers (with_code e code) x
covers_code e [] q o x is r = cc
covers_code e (p ∷ os) zero o x is r =
    let one : o ≡ p = cc in
    keeps_code (with_all e (reads p)) os x (subst (λ z. Covers (with_all e (reads z)) x) one (covers_all e (reads o) x r))
covers_code e (p ∷ os) (suc q) o x is r = covers_code (with_all e (reads p)) os q o x is r

pub covers_live : {code : List Op} {q : ℕ} {x : Variable} (e : Extent) → IsLive code q x → Covers (with_code e code) x
covers_live {code} {q} {x} e (is_read o is r) = covers_code e code q o x is r
covers_live e (is_passed o p is w g l) = covers_live e l
