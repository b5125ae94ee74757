-- Lists of live variables by which code is well typed hold each variable that is live.
use Rattle.std.proofs.Common.{◌≡◌, ◌≢◌, ℕ, zero, suc, ◌+◌, inl, inr, ⊎_elim, Bool, true, false, if◌then◌else◌, List, []}
use Rattle.std.proofs.Common.{◌∷◌, ◌++◌}
use Rattle.std.proofs.Common.{drop, Some, refl, sym, ap, ◌∙◌, subst, arith}
use Rattle.std.specs.Prelude.{slice_get}
use Rattle.ec_code.specs.declared.code.Line.{Line}
use Rattle.ec_code.specs.declared.code.Live.{Live}
use Rattle.ec_code.specs.declared.code.Op.{Op}
use Rattle.ec_code.specs.declared.code.Op.TheVariants as op
use Rattle.ec_code.specs.declared.code.Operand.{Operand}
use Rattle.ec_code.specs.declared.code.Operand.TheVariants as operand
use Rattle.ec_code.specs.declared.code.Operation.{Operation}
use Rattle.ec_code.specs.declared.code.Parts.{Parts}
use Rattle.ec_code.specs.declared.code.StopRow.{StopRow}
use Rattle.ec_code.specs.declared.code.Test.{Test}
use Rattle.ec_code.specs.declared.code.Test.TheVariants as test
use Rattle.ec_code.specs.declared.code.Variable.{Variable}
use Rattle.ec_code.specs.Fine.{IsIn, Has, live_at, live_if, FineOperand, FineTest, Passes, Writes, Behind, HaveTypes}
use Rattle.ec_code.specs.Fine.{GoesOn, FineRow}
use Rattle.ec_code.specs.Fine.{IsTaken}
use Rattle.ec_code.specs.Typing.{Declared, integer, boolean, string, class_type}
use Rattle.ec_types.specs.declared.conform.static_type.StaticType.{StaticType}
use Rattle.ec_accepted.specs.Wide.{ops_of, WideOp, WideCode}
use Rattle.ec_code.proofs.Among.{in_append}
use Rattle.ec_code.specs.Live.{IsLive, is_read, is_passed, read_in, read_by, reads, writes, goes_on, stays}
use Rattle.ec_world.specs.declared.stop.Stop.{Stop}
use Rattle.ec_world.specs.declared.stop.Stop.TheVariants as stop

-- ---- lines

live_beyond : (lines : List Line) (k over : ℕ) → live_at (drop k lines) over ≡ live_at lines (k + over)
live_beyond lines zero over = let at : over ≡ 0 + over = omega arith in ap (live_at lines) at
live_beyond [] (suc k) over = refl
live_beyond (l ∷ ls) (suc k) over =
    let at : suc (k + over) ≡ suc k + over = omega arith in live_beyond ls k over ∙ ap (live_at (l ∷ ls)) at

line_of : (lines : List Line) (q : ℕ) (o : Op) → slice_get (ops_of lines) q ≡ Some o →
    (line : Line) × (slice_get lines q ≡ Some line) × (line.op ≡ o)
line_of [] q o e = cc
line_of (l ∷ ls) zero o e = let same : l.op ≡ o = cc in (l, refl, same)
line_of (l ∷ ls) (suc q) o e = line_of ls q o e

-- ---- what a step reads is held

module _ (d : Declared) (p : Parts) (live : List Live) (x : Variable) where
  operand_held : (a : Operand) (t : StaticType) → FineOperand d p live a t → IsIn x (read_in a) →
      (s : StaticType) × Has live x s
  operand_held (operand.Of y) t h (inl e) = (h.0, subst (λ z. Has live z h.0) (sym e) h.1)
  operand_held (operand.Of y) t h (inr i) = absurd i
  operand_held (operand.Number z) t h i = absurd i
  operand_held (operand.Truth b) t h i = absurd i
  operand_held operand.Nil t h i = absurd i

  two_held :
      (a b : Operand) (s t : StaticType) → FineOperand d p live a s → FineOperand d p live b t →
      IsIn x (read_in a ++ read_in b) → (u : StaticType) × Has live x u
  two_held a b s t h k i = ⊎_elim (operand_held a s h) (operand_held b t k) (in_append x (read_in a) (read_in b) i)

  test_held : (a : Test) → FineTest d p live a → IsIn x (read_by a) → (s : StaticType) × Has live x s
  test_held (test.Holds a) h i = operand_held a boolean h i
  test_held (test.Same a b) h i = two_held a b h.0 h.0 h.2 h.3 i
  test_held (test.Less a b) h i = two_held a b integer integer h.0 h.1 i
  test_held (test.LessEqual a b) h i = two_held a b integer integer h.0 h.1 i
  test_held (test.Divides a b) h i = two_held a b integer integer h.0 h.1 i

  types_held :
      (xs : List Variable) (ts : List StaticType) → HaveTypes d p live xs ts → IsIn x xs → (s : StaticType) × Has live x s
  types_held [] ts h i = absurd i
  types_held (y ∷ xs) [] h i = absurd h
  types_held (y ∷ xs) (t ∷ ts) h (inl e) = (t, subst (λ z. Has live z t) (sym e) h.0)
  types_held (y ∷ xs) (t ∷ ts) h (inr i) = types_held xs ts h.1 i

-- ---- what is held behind a step and isn't written is held before it

module _ (d : Declared) (p : Parts) (number : ℕ) (o : Operation) where
  behind_of : (s : Stop) (T : Type 0) → stays s ≡ true → GoesOn d p number o s T → T
  behind_of (stop.Return gives_self) T e h = absurd (let f : false ≡ true = e in cc)
  behind_of stop.End T e h = absurd (let f : false ≡ true = e in cc)
  behind_of (stop.Fail why line) T e h = absurd (let f : false ≡ true = e in cc)
  behind_of s T e h = h

  stays_if : (b : Bool) (q k : ℕ) → IsIn k (if b then suc q ∷ [] else []) → (b ≡ true) × (k ≡ suc q)
  stays_if true q k (inl e) = (refl, e)
  stays_if true q k (inr i) = absurd i
  stays_if false q k i = absurd i

module _ (d : Declared) (p : Parts) (number : ℕ) (o : Operation) (lines : List Line) (x : Variable) (t : StaticType) where
  passed_back : (q over k : ℕ) (live : List Live) → k ≡ suc q + over → Passes d p (drop (suc q) lines) over live →
      Has (live_at lines k) x t → Has live x t
  passed_back q over k live e h has =
      h.1 x t (subst (λ z. Has z x t) (sym (live_beyond lines (suc q) over)) (subst (λ j. Has (live_at lines j) x t) e has))

  next_back : (q k : ℕ) → k ≡ suc q → Has (live_at lines k) x t → Has (live_at (drop (suc q) lines) 0) x t
  next_back q k e has =
      let f : k ≡ suc q + 0 = omega arith in
      subst (λ z. Has z x t) (sym (live_beyond lines (suc q) 0)) (subst (λ j. Has (live_at lines j) x t) f has)

  written_back : (q k : ℕ) (live : List Live) (to : Variable) (s : StaticType) → IsIn k (suc q ∷ []) → Some to ≢ Some x →
      Writes d p (drop (suc q) lines) to s live → Has (live_at lines k) x t → Has live x t
  written_back q k live to s (inl e) ne h has =
      ⊎_elim (λ g. absurd (ne (ap Some (sym g.0)))) (λ g. g.1) (h.1 x t (next_back q k e has))
  written_back q k live to s (inr i) ne h has = absurd i

  row_back : (q k : ℕ) (live : List Live) (row : StopRow) → IsIn k (if stays row.stop then suc q ∷ [] else []) →
      row.into ≢ Some x → FineRow d p number o (drop (suc q) lines) live row → Has (live_at lines k) x t → Has live x t
  row_back q k live row i ne h has =
      let j = stays_if d p number o (stays row.stop) q k i in
      ⊎_elim (λ g. absurd (ne g.2)) (λ g. g.1)
      ((behind_of d p number o row.stop
      (IsTaken d p row.gives row.into × Behind d p (drop (suc q) lines) row.gives row.into live) j.0 h.behind).1.1 x t
      (next_back q k j.1 has))

  held_back :
      (q k : ℕ) (live : List Live) (step : Op) → IsIn k (goes_on step q) → writes step ≢ Some x →
      WideOp d p number o lines q (drop (suc q) lines) live step → Has (live_at lines k) x t → Has live x t
  held_back q k live (op.Copy to from) i ne h has = written_back q k live to h.0 i ne h.2 has
  held_back q k live (op.Literal to index) i ne h has = written_back q k live to string i ne h.1 has
  held_back q k live (op.Itself to) i ne h has = written_back q k live to (class_type d o.class) i ne h.1 has
  held_back q k live (op.Field to n) i ne h has = written_back q k live to h.0 i ne h.2 has
  held_back q k live (op.SetField n from) (inl e) ne h has =
      let f : k ≡ suc q + 0 = omega arith in passed_back q 0 k live f h.1 has
  held_back q k live (op.SetField n from) (inr i) ne h has = absurd i
  held_back q k live (op.Constant to index) i ne h has = written_back q k live to h.0 i ne h.2 has
  held_back q k live (op.Compute how to left right) i ne h has = written_back q k live to integer i ne h.1 has
  held_back q k live (op.Decide to c wanted) i ne h has = written_back q k live to boolean i ne h.1 has
  held_back q k live (op.Branch c wanted over) (inl e) ne h has =
      let f : k ≡ suc q + 0 = omega arith in passed_back q 0 k live f h.1 has
  held_back q k live (op.Branch c wanted over) (inr (inl e)) ne h has =
      let f : k ≡ suc q + over = omega arith in passed_back q over k live f h.2 has
  held_back q k live (op.Branch c wanted over) (inr (inr i)) ne h has = absurd i
  held_back q k live (op.Jump over) (inl e) ne h has =
      let f : k ≡ suc q + over = omega arith in passed_back q over k live f h has
  held_back q k live (op.Jump over) (inr i) ne h has = absurd i
  held_back q k live (op.Again back) (inl e) ne h has = h.1 x t (subst (λ j. Has (live_at lines j) x t) e has)
  held_back q k live (op.Again back) (inr i) ne h has = absurd i
  held_back q k live (op.Rest row) i ne h has = row_back q k live row i ne h has

-- ---- all that is live is held

module _ (d : Declared) (p : Parts) (number : ℕ) (o : Operation) (lines : List Line) where
  read_held :
      (q : ℕ) (rest : List Line) (live : List Live) (step : Op) → WideOp d p number o lines q rest live step →
      (x : Variable) → IsIn x (reads step) → (t : StaticType) × Has live x t
  read_held q rest live (op.Copy to from) h x i = operand_held d p live x from h.0 h.1 i
  read_held q rest live (op.Literal to index) h x i = absurd i
  read_held q rest live (op.Itself to) h x i = absurd i
  read_held q rest live (op.Field to n) h x i = absurd i
  read_held q rest live (op.SetField n from) h x i = operand_held d p live x from h.0.0 h.0.2 i
  read_held q rest live (op.Constant to index) h x i = absurd i
  read_held q rest live (op.Compute how to left right) h x i = two_held d p live x left right integer integer h.0.0 h.0.1 i
  read_held q rest live (op.Decide to c wanted) h x i = test_held d p live x c h.0 i
  read_held q rest live (op.Branch c wanted over) h x i = test_held d p live x c h.0 i
  read_held q rest live (op.Jump over) h x i = absurd i
  read_held q rest live (op.Again back) h x i = absurd i
  read_held q rest live (op.Rest row) h x i = types_held d p live x row.operands h.types h.are i

  wide_from :
      (q : ℕ) (ls : List Line) → WideCode d p number o lines q ls → (k : ℕ) (line : Line) → slice_get ls k ≡ Some line →
      WideOp d p number o lines (q + k) (drop (suc k) ls) line.live line.op
  wide_from q [] h k line e = cc
  wide_from q (l ∷ ls) h zero line e =
      let same : l ≡ line = cc in
      let at : q ≡ q + 0 = omega arith in
      subst (λ z. WideOp d p number o lines (q + 0) ls z.live z.op) same
      (subst (λ j. WideOp d p number o lines j ls l.live l.op) at h.0)
  wide_from q (l ∷ ls) h (suc k) line e =
      let at : suc q + k ≡ q + suc k = omega arith in
      subst (λ j. WideOp d p number o lines j (drop (suc k) ls) line.live line.op) at (wide_from (suc q) ls h.1 k line e)

  wide_at :
      WideCode d p number o lines 0 lines → (q : ℕ) (line : Line) → slice_get lines q ≡ Some line →
      WideOp d p number o lines q (drop (suc q) lines) line.live line.op
  wide_at h q line e =
      let at : 0 + q ≡ q = omega arith in
      subst (λ j. WideOp d p number o lines j (drop (suc q) lines) line.live line.op) at (wide_from 0 lines h q line e)

  held_at : (q : ℕ) (line : Line) (x : Variable) (t : StaticType) → slice_get lines q ≡ Some line → Has line.live x t →
      Has (live_at lines q) x t
  held_at q line x t e h = subst (λ z. Has (live_if z) x t) (sym e) h

  pub covered : {q : ℕ} {x : Variable} → WideCode d p number o lines 0 lines → IsLive (ops_of lines) q x →
      (t : StaticType) × Has (live_at lines q) x t
  covered {q} {x} h (is_read step is i) =
      let found = line_of lines q step is in
      let wide = wide_at h q found.0 found.1 in
      let r = read_held q (drop (suc q) lines) found.0.live found.0.op wide x
      (subst (λ z. IsIn x (reads z)) (sym found.2) i) in
      (r.0, held_at q found.0 x r.0 found.1 r.1)
  covered {q} {x} h (is_passed step k is ne g l) =
      let found = line_of lines q step is in
      let wide = wide_at h q found.0 found.1 in
      let r = covered h l in (
        r.0,
        held_at q found.0 x r.0 found.1
            (held_back d p number o lines x r.0 q k found.0.live found.0.op
            (subst (λ z. IsIn k (goes_on z q)) (sym found.2) g) (subst (λ z. writes z ≢ Some x) (sym found.2) ne) wide r.1),
      )
