-- The variables at each line of code whose steps read and write only variables that are there.
use Rattle.std.proofs.Common.{◌≡◌, ℕ, zero, suc, ◌+◌, ◌≤◌, Bool, true, false, List, [], ◌∷◌, length, map, Option, Some, None}
use Rattle.std.proofs.Common.{slice_get, refl, sym, ap, ◌∙◌, subst, inl, inr, ⊎_elim, arith}
use Rattle.ec_check.proofs.Every.{Every, Where}
use Rattle.ec_code.specs.declared.code.Line.{Line}
use Rattle.ec_code.specs.declared.code.Op.{Op}
use Rattle.ec_code.specs.declared.code.Variable.{Variable}
use Rattle.ec_code.specs.declared.code.Variable.TheVariants.{Named, Temporary}
use Rattle.ec_code.specs.Fine.{IsIn}
use Rattle.ec_machine_code.specs.Limits.{HasColumn, HasColumns}
use Rattle.ec_compile.proofs.Within.{Reach, StepReaches}
use Rattle.ec_types.specs.declared.conform.static_type.StaticType.{StaticType}
use Rattle.ec_machine_code.specs.Homes.{HasItsVariables, IsVariable}
use Rattle.ec_machine_code.specs.Meeting.{all_if, live_first, live_in, met_at, met_behind, met_by}
use Rattle.ec_code.proofs.Among.{among_in, in_append, same_is}
use Rattle.ec_code.specs.Live.{IsLive, is_passed, is_read, reads, writes}
use Rattle.ec_code.specs.Marks.{is_among, is_same}
use Rattle.ec_emission.specs.Lowered.{HasLines}
use Rattle.ec_emission.specs.Types.{Around, behind, lines_of, with_types}

-- ---- lists

pub each_is : {A : Type 0} (P : A → Type 0) (xs : List A) → Every P xs → (x : A) → IsIn x xs → P x
each_is P [] h x i = absurd i
each_is P (y ∷ ys) h x (inl e) = subst P (sym e) h.0
each_is P (y ∷ ys) h x (inr i) = each_is P ys h.1 x i

where_is : {A : Type 0} (P : A → Type 0) (o : Option A) → Where P o → (x : A) → o ≡ Some x → P x
where_is P None h x e = cc
where_is P (Some y) h x e = let same : y ≡ x = cc in subst P same h

at_place : {A : Type 0} (P : A → Type 0) (xs : List A) → Every P xs → (q : ℕ) (x : A) → slice_get xs q ≡ Some x → P x
at_place P [] h q x e = cc
at_place P (y ∷ ys) h zero x e = let same : y ≡ x = cc in subst P same h.0
at_place P (y ∷ ys) h (suc q) x e = at_place P ys h.1 q x e

each_at : {A : Type 0} (P : A → Type 0) (xs : List A) → ((q : ℕ) (x : A) → slice_get xs q ≡ Some x → P x) → Every P xs
each_at P [] h = tt
each_at P (x ∷ xs) h = (h 0 x refl, each_at P xs (λ q. h (suc q)))

-- ---- what is live

pub live_reaches : (count top : ℕ) {code : List Op} {q : ℕ} {x : Variable} → Every (StepReaches count top) code → IsLive code q x →
    Reach count top x
live_reaches count top {code} {q} {x} h (is_read o is r) =
    each_is (Reach count top) (reads o) (at_place (StepReaches count top) code h q o is).0 x r
live_reaches count top h (is_passed o p is w g l) = live_reaches count top h l

-- a line of code: its step, and what is live before it
record Found (ops : List Op) (lists : List (List Variable)) (q : ℕ) (line : Line) : Type 0 where
  pub live : List Variable
  pub step_is : slice_get ops q ≡ Some line.op
  pub list_is : slice_get lists q ≡ Some live
  pub live_is : live_in line ≡ live

typed_variables : (w : Around) (ts : List StaticType) (xs : List Variable) → map (λ l. l.variable) (with_types w ts xs) ≡ xs
typed_variables w ts [] = refl
typed_variables w ts (x ∷ xs) = ap (λ r. x ∷ r) (typed_variables w ts xs)

abbrev line_with : Around → List StaticType → Op → List Variable → Line
line_with w ts o xs = record { op = o; live = with_types w ts xs }

found : (w : Around) (ts : List StaticType) (ops : List Op) (lists : List (List Variable)) (q : ℕ) (line : Line) →
    slice_get (lines_of w ts ops lists) q ≡ Some line → Found ops lists q line
found w ts [] lists q line e = cc
found w ts (o ∷ ops) [] q line e = cc
found w ts (o ∷ ops) (xs ∷ lists) zero line e =
    let same : line_with w ts o xs ≡ line = cc in
    record {
      live = xs;
      step_is = ap (λ (l : Line). Some l.op) same;
      list_is = refl;
      live_is = sym (ap live_in same) ∙ typed_variables w ts xs;
    }
found w ts (o ∷ ops) (xs ∷ lists) (suc q) line e =
    let f = found w (behind w ts o) ops lists q line e in
    record { live = f.live; step_is = f.step_is; list_is = f.list_is; live_is = f.live_is }

-- ---- how many

as_long_as : (w : Around) (ts : List StaticType) (ops : List Op) (lists : List (List Variable)) → length lists ≡ length ops →
    length (lines_of w ts ops lists) ≡ length ops
as_long_as w ts [] lists e = refl
as_long_as w ts (o ∷ ops) [] e = absurd (omega arith)
as_long_as w ts (o ∷ ops) (xs ∷ lists) e = ap suc (as_long_as w (behind w ts o) ops lists (omega arith))

pub as_long : (w : Around) (ops : List Op) (code : List Line) → HasLines w ops code → length code ≡ length ops
as_long w ops code h = ap length h.lines ∙ as_long_as w [] ops h.lists h.count

-- ---- columns

reach_column : (count top : ℕ) → count + top ≤ 100 → (x : Variable) → Reach count top x → HasColumn count x
reach_column count top l (Named n) h = record { is_variable = h; below = omega arith }
reach_column count top l (Temporary d) h = record { is_variable = tt; below = omega arith }

pub lines_have : (w : Around) (ops : List Op) (code : List Line) (count top : ℕ) → HasLines w ops code →
    Every (StepReaches count top) ops → count + top ≤ 100 → (q : ℕ) (line : Line) → slice_get code q ≡ Some line → HasColumns count line
lines_have w ops code count top h steps l q line e =
    let f = found w [] ops h.lists q line (subst (λ c. slice_get c q ≡ Some line) h.lines e) in
    let r : StepReaches count top line.op = at_place (StepReaches count top) ops steps q line.op f.step_is in
    record {
      read = λ x i. reach_column count top l x (each_is (Reach count top) (reads line.op) r.0 x i);
      written = λ x i. reach_column count top l x (where_is (Reach count top) (writes line.op) r.1 x i);
      live = λ x i.
          reach_column count top l x
          (live_reaches count top steps ((h.live q f.live f.list_is).live x (subst (λ xs. IsIn x xs) f.live_is i)));
    }

-- ---- variables that meet

module _ (named : ℕ) where
  of_true : (b : Bool) (y : Variable) (ys : List Variable) → IsIn y (all_if b ys) → (b ≡ true) × IsIn y ys
  of_true true y ys i = (refl, i)
  of_true false y ys i = absurd i

  first_is : (rest : List Line) → Every (HasColumns named) rest → (x : Variable) → IsIn x (live_first rest) → IsVariable named x
  first_is [] h x i = absurd i
  first_is (line ∷ rest) h x i = (h.0.live x i).is_variable

  behind_meet : (o : Option Variable) → Where (IsVariable named) o → (rest : List Line) → Every (HasColumns named) rest →
      (x y : Variable) → IsIn y (met_behind x o (live_first rest)) → IsVariable named x × IsVariable named y
  behind_meet None w rest h x y i = absurd i
  behind_meet (Some z) w rest h x y i =
      ⊎_elim
      (λ j.
      let t = of_true (is_same x z) y (live_first rest) j in
      (subst (IsVariable named) (sym (same_is x z t.0)) w, first_is rest h y t.1))
      (λ j.
      let t = of_true (is_among x (live_first rest)) y (z ∷ []) j in
      (first_is rest h x (among_in x (live_first rest) t.0), each_is (IsVariable named) (z ∷ []) (w, tt) y t.1))
      (in_append y (all_if (is_same x z) (live_first rest)) (all_if (is_among x (live_first rest)) (z ∷ [])) i)

  written_is : (line : Line) → HasColumns named line → (o : Option Variable) → writes line.op ≡ o → Where (IsVariable named) o
  written_is line h None e = tt
  written_is line h (Some x) e = (h.written x e).is_variable

  meet_is : (code : List Line) → Every (HasColumns named) code → (x y : Variable) → IsIn y (met_by x code) →
      IsVariable named x × IsVariable named y
  meet_is [] h x y i = absurd i
  meet_is (line ∷ rest) h x y i =
      ⊎_elim
      (λ j.
      ⊎_elim
      (λ k.
      let t = of_true (is_among x (live_in line)) y (live_in line) k in
      ((h.0.live x (among_in x (live_in line) t.0)).is_variable, (h.0.live y t.1).is_variable))
      (λ k. behind_meet (writes line.op) (written_is line h.0 (writes line.op) refl) rest h.1 x y k)
      (in_append y (all_if (is_among x (live_in line)) (live_in line)) (met_behind x (writes line.op) (live_first rest)) j))
      (λ j. meet_is rest h.1 x y j) (in_append y (met_at x line rest) (met_by x rest) i)

  pub has_its_variables : (code : List Line) → ((q : ℕ) (line : Line) → slice_get code q ≡ Some line → HasColumns named line) →
      HasItsVariables named code
  has_its_variables code h = λ x y i. meet_is code (each_at (HasColumns named) code h) x y i
