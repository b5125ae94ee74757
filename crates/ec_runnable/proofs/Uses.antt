-- Which temporaries are in use at each place of code, by what its steps read, write and lead to; and code in which the operands of each
-- stop stand above all that is in use behind it.
use Rattle.std.proofs.Common.{◌≡◌, ◌≢◌, ℕ, zero, suc, ◌+◌, ◌-◌, ◌<◌, ◌==◌, if◌then◌else◌, ◌⊎◌, inl, inr, ⊎_elim, Bool, true, false}
use Rattle.std.proofs.Common.{List, [], ◌∷◌, ◌++◌, drop, length, drop-drop, Option, Some, None}
use Rattle.std.proofs.Common.{refl, sym, ap, ◌∙◌, subst, arith, eqb-true, eq-eqb, true≢false}
use Rattle.std.specs.List.{AllByRecursion as Each}
use Rattle.ec_code.specs.Fine.{IsIn}
use Rattle.ec_code.specs.declared.code.Op.{Op}
use Rattle.ec_code.specs.declared.code.Op.TheVariants as op
use Rattle.ec_code.specs.declared.code.StopRow.{StopRow}
use Rattle.ec_code.specs.declared.code.Variable.{Variable}
use Rattle.ec_code.specs.declared.code.Variable.TheVariants.{Named, Temporary}
use Rattle.ec_code.specs.Live.{InOrder, reads, stays, writes}

-- ---- what holds of each

pub each_joined : {A : Type 0} (P : A → Type 0) (xs ys : List A) → Each P xs → Each P ys → Each P (xs ++ ys)
each_joined P [] ys h k = k
each_joined P (x ∷ xs) ys h k = (h.0, each_joined P xs ys h.1 k)

pub each_weaker : {A : Type 0} (P Q : A → Type 0) → ((x : A) → P x → Q x) → (xs : List A) → Each P xs → Each Q xs
each_weaker P Q w [] h = tt
each_weaker P Q w (x ∷ xs) h = (w x h.0, each_weaker P Q w xs h.1)

pub each_in : {A : Type 0} (P : A → Type 0) (xs : List A) (x : A) → Each P xs → IsIn x xs → P x
each_in P [] x h i = absurd i
each_in P (y ∷ ys) x h (inl e) = subst P (sym e) h.0
each_in P (y ∷ ys) x h (inr i) = each_in P ys x h.1 i

-- ---- temporaries in use

-- at a place, by those at each place; none is in use behind the code
abbrev pub uses_at : List (List ℕ) → ℕ → List ℕ
uses_at [] q = []
uses_at (us ∷ uss) zero = us
uses_at (us ∷ uss) (suc q) = uses_at uss q

abbrev pub temporaries_in : List Variable → List ℕ
temporaries_in [] = []
temporaries_in (Named n ∷ xs) = temporaries_in xs
temporaries_in (Temporary d ∷ xs) = d ∷ temporaries_in xs

-- but for this one
abbrev pub but_for : ℕ → List ℕ → List ℕ
but_for d [] = []
but_for d (k ∷ ks) = if k == d then but_for d ks else k ∷ but_for d ks

abbrev pub but_for_written : Option Variable → List ℕ → List ℕ
but_for_written None ks = ks
but_for_written (Some (Named n)) ks = ks
but_for_written (Some (Temporary d)) ks = but_for d ks

-- where a step leads, by those at each place behind it; what leads back leads to a loop top, where none is in use
abbrev pub uses_behind : Op → List (List ℕ) → List ℕ
uses_behind (op.Branch t wanted over) uss = uses_at uss 0 ++ uses_at uss over
uses_behind (op.Jump over) uss = uses_at uss over
uses_behind (op.Again back) uss = []
uses_behind _ uss = uses_at uss 0

-- at a step
abbrev pub uses_of : Op → List (List ℕ) → List ℕ
uses_of o uss = temporaries_in (reads o) ++ but_for_written (writes o) (uses_behind o uss)

-- at each step of code, before those behind it
abbrev pub uses : List Op → List (List ℕ) → List (List ℕ)
uses [] uss = uss
uses (o ∷ os) uss = uses_of o (uses os uss) ∷ uses os uss

-- ---- clear stops

-- a temporary above all of these
abbrev pub IsAbove : List ℕ → Variable → Type 0
IsAbove us (Named n) = ⊥
IsAbove us (Temporary d) = Each (λ k. k < d) us

-- The operands of a stop stand each once; where code goes on they are temporaries above all that is in use behind it, but for what
-- takes the result.
pub record IsClear (row : StopRow) (us : List ℕ) : Type 0 where
  pub in_order : InOrder row.operands
  pub above : stays row.stop ≡ true → Each (IsAbove (but_for_written row.into us)) row.operands

-- `all` are those in use at each place of the code.
abbrev pub IsClearStep : List (List ℕ) → ℕ → Op → List (List ℕ) → Type 0
IsClearStep all place (op.Again back) uss = uses_at all (place - back) ≡ []
IsClearStep all place (op.Rest row) uss = IsClear row (uses_at uss 0)
IsClearStep all place _ uss = Unit {0}

abbrev pub AreClear : List (List ℕ) → ℕ → List Op → List (List ℕ) → Type 0
AreClear all place [] uss = Unit {0}
AreClear all place (o ∷ os) uss = IsClearStep all place o (uses os uss) × AreClear all (suc place) os uss

-- ---- values that are held

-- whether one is held in each temporary, the highest first
abbrev pub IsHeld : List Bool → ℕ → Type 0
IsHeld [] d = ⊥
IsHeld (true ∷ hs) d = (d ≡ length hs) ⊎ IsHeld hs d
IsHeld (false ∷ hs) d = IsHeld hs d

-- what is held of the first is held of the second
abbrev pub Within : List Bool → List Bool → Type 0
Within hs ks = (d : ℕ) → IsHeld hs d → IsHeld ks d

abbrev pub AreHeld : List Bool → List ℕ → Type 0
AreHeld hs us = Each (IsHeld hs) us

pub below : (hs : List Bool) (d : ℕ) → IsHeld hs d → d < length hs
below [] d h = absurd h
below (true ∷ hs) d (inl e) = omega arith
below (true ∷ hs) d (inr h) = let l = below hs d h in omega arith
below (false ∷ hs) d h = let l = below hs d h in omega arith

pub none_held : (us : List ℕ) → AreHeld [] us → us ≡ []
none_held [] h = refl
none_held (u ∷ us) h = absurd h.0

-- ---- code

-- Code wherever it stands, by what is said of what is in use behind it: at its beginning only what is held is in use, and its stops are
-- clear.
pub record Code (ops : List Op) (Behind : List (List ℕ) → Type 0) (hs : List Bool) : Type 0 where
  pub held : (uss : List (List ℕ)) → Behind uss → AreHeld hs (uses_at (uses ops uss) 0)
  pub clear :
      (all : List (List ℕ)) (place : ℕ) (uss : List (List ℕ)) → drop place all ≡ uses ops uss → Behind uss →
      AreClear all place ops uss

-- at the beginning only what is held is in use
abbrev pub From : List Bool → List (List ℕ) → Type 0
From hs uss = AreHeld hs (uses_at uss 0)

-- code that leads from these held values to those
pub record Leads (ops : List Op) (hs ks : List Bool) : Type 0 where
  pub stands : Code ops (From ks) hs

-- ---- lists of what is in use

pub uses_dropped : (uss : List (List ℕ)) (n k : ℕ) → uses_at (drop n uss) k ≡ uses_at uss (n + k)
uses_dropped uss zero k = ap (uses_at uss) (omega arith)
uses_dropped [] (suc n) k = refl
uses_dropped (us ∷ uss) (suc n) k =
    let e : suc (n + k) ≡ suc n + k = omega arith in uses_dropped uss n k ∙ ap (uses_at (us ∷ uss)) e

pub uses_joined : (xs ys : List Op) (uss : List (List ℕ)) → uses (xs ++ ys) uss ≡ uses xs (uses ys uss)
uses_joined [] ys uss = refl
uses_joined (x ∷ xs) ys uss = ap (λ r. uses_of x r ∷ r) (uses_joined xs ys uss)

pub behind_code : (xs : List Op) (uss : List (List ℕ)) → drop (length xs) (uses xs uss) ≡ uss
behind_code [] uss = refl
behind_code (x ∷ xs) uss = behind_code xs uss

-- at a place behind the code
pub past_code : (xs : List Op) (uss : List (List ℕ)) (n : ℕ) → uses_at (uses xs uss) (length xs + n) ≡ uses_at uss n
past_code xs uss n = sym (uses_dropped (uses xs uss) (length xs) n) ∙ ap (λ r. uses_at r n) (behind_code xs uss)

-- ---- one code behind another

pub clear_joined : (all : List (List ℕ)) (place : ℕ) (xs ys : List Op) (uss : List (List ℕ)) → AreClear all place xs (uses ys uss) →
    AreClear all (place + length xs) ys uss → AreClear all place (xs ++ ys) uss
clear_joined all place [] ys uss h k = let e : place + 0 ≡ place = omega arith in subst (λ q. AreClear all q ys uss) e k
clear_joined all place (x ∷ xs) ys uss h k =
    let e : place + suc (length xs) ≡ suc place + length xs = omega arith in (
      subst (λ r. IsClearStep all place x r) (sym (uses_joined xs ys uss)) h.0,
      clear_joined all (suc place) xs ys uss h.1 (subst (λ q. AreClear all q ys uss) e k),
    )

pub join : {Mid Behind : List (List ℕ) → Type 0} {hs ks : List Bool} (xs ys : List Op) → Code xs Mid hs →
    ((uss : List (List ℕ)) → Behind uss → From ks (uses ys uss) → Mid (uses ys uss)) → Code ys Behind ks → Code (xs ++ ys) Behind hs
join {Mid} {Behind} {hs} {ks} xs ys x mid y = record {
  held = λ uss b.
      subst (λ r. From hs r) (sym (uses_joined xs ys uss)) (x.held (uses ys uss) (mid uss b (y.held uss b)));
  clear = λ all place uss e b.
      let here : drop place all ≡ uses xs (uses ys uss) = e ∙ uses_joined xs ys uss in
      let there : drop (place + length xs) all ≡ uses ys uss =
      sym (drop-drop (length xs) place all) ∙ ap (drop (length xs)) here ∙ behind_code xs (uses ys uss) in
      clear_joined all place xs ys uss (x.clear all place (uses ys uss) here (mid uss b (y.held uss b)))
      (y.clear all (place + length xs) uss there b);
}

pub next : (all : List (List ℕ)) (place : ℕ) (us : List ℕ) (uss : List (List ℕ)) → drop place all ≡ us ∷ uss → drop (suc place) all ≡ uss
next all place us uss e =
    let one : suc place ≡ place + 1 = omega arith in
    ap (λ j. drop j all) one ∙ sym (drop-drop 1 place all) ∙ ap (drop 1) e

-- a step before code
pub step : {Behind : List (List ℕ) → Type 0} {hs ks : List Bool} (o : Op) (os : List Op) → Code os Behind ks →
    ((uss : List (List ℕ)) → Behind uss → From ks (uses os uss) → AreHeld hs (uses_of o (uses os uss))) →
    ((all : List (List ℕ)) (place : ℕ) (uss : List (List ℕ)) → drop place all ≡ uses (o ∷ os) uss → Behind uss →
    From ks (uses os uss) → IsClearStep all place o (uses os uss)) → Code (o ∷ os) Behind hs
step {Behind} {hs} {ks} o os y held clear = record {
  held = λ uss b. held uss b (y.held uss b);
  clear = λ all place uss e b. (
    clear all place uss e b (y.held uss b),
    y.clear all (suc place) uss (next all place (uses_of o (uses os uss)) (uses os uss) e) b,
  );
}

-- no code
pub nothing : {hs : List Bool} → Leads [] hs hs
nothing = record { stands = record { held = λ uss b. b; clear = λ all place uss e b. tt } }

-- with more that is held before it, and less behind it
pub less : {hs ks : List Bool} (ops : List Op) (js ls : List Bool) → Within hs js → Within ls ks → Leads ops hs ks → Leads ops js ls
less {hs} {ks} ops js ls p q x =
    let behind : (uss : List (List ℕ)) → From ls uss → From ks uss =
    λ uss b. each_weaker (IsHeld ls) (IsHeld ks) q (uses_at uss 0) b in
    record {
      stands = record {
        held = λ uss b. each_weaker (IsHeld hs) (IsHeld js) p (uses_at (uses ops uss) 0) (x.stands.held uss (behind uss b));
        clear = λ all place uss e b. x.stands.clear all place uss e (behind uss b);
      };
    }

pub lead : {hs js ks : List Bool} (xs ys : List Op) → Leads xs hs js → Leads ys js ks → Leads (xs ++ ys) hs ks
lead xs ys x y = record { stands = join xs ys x.stands (λ uss b h. h) y.stands }

-- ---- what is written

-- what stays held of what is in use
pub but_for_held : (P : ℕ → Type 0) (d : ℕ) (ks : List ℕ) → Each (λ k. (k ≡ d) ⊎ P k) ks → Each P (but_for d ks)
but_for_held P d [] h = tt
but_for_held P d (k ∷ ks) h = by (but_for_held P d ks h.1) (k == d) refl
  where
    by : Each P (but_for d ks) → (b : Bool) → (k == d) ≡ b → Each P (if b then but_for d ks else k ∷ but_for d ks)
    by rest true e = rest
    by rest false e = (⊎_elim (λ (s : k ≡ d). absurd (true≢false (sym (eq-eqb k d s) ∙ e))) (λ (p : P k). p) h.0, rest)

-- what is in use and isn't written
pub but_for_others : (d : ℕ) (ks : List ℕ) (k : ℕ) → IsIn k ks → k ≢ d → IsIn k (but_for d ks)
but_for_others d [] k i ne = absurd i
but_for_others d (j ∷ ks) k (inl same) ne = by (j == d) refl
  where
    by : (b : Bool) → (j == d) ≡ b → IsIn k (if b then but_for d ks else j ∷ but_for d ks)
    by true e = absurd (ne (same ∙ eqb-true j d e))
    by false e = inl same
but_for_others d (j ∷ ks) k (inr i) ne = by (but_for_others d ks k i ne) (j == d) refl
  where
    by : IsIn k (but_for d ks) → (b : Bool) → (j == d) ≡ b → IsIn k (if b then but_for d ks else j ∷ but_for d ks)
    by rest true e = rest
    by rest false e = inr rest
