-- Code that is well typed by lists of live variables that hold more than what is live is well typed by what is live alone:
-- what a step reads is live before it, and so is what is live behind it and isn't written.
use Rattle.std.proofs.Common.{◌≡◌, ◌≢◌, ℕ, suc, ◌+◌, ◌-◌, ◌<◌, inl, inr, ⊎_elim, Bool, true, false, List, [], ◌∷◌, ◌++◌}
use Rattle.std.proofs.Common.{if◌then◌else◌, length, Option, Some, None, refl, sym, ap, ◌∙◌, subst, arith}
use Rattle.std.specs.Prelude.{slice_get}
use Rattle.ec_code.specs.declared.code.Line.{Line}
use Rattle.ec_code.specs.declared.code.Live.{Live}
use Rattle.ec_code.specs.declared.code.Op.{Op}
use Rattle.ec_code.specs.declared.code.Op.TheVariants as op
use Rattle.ec_code.specs.declared.code.Operand.{Operand}
use Rattle.ec_code.specs.declared.code.Operand.TheVariants as operand
use Rattle.ec_code.specs.declared.code.Operation.{Operation}
use Rattle.ec_code.specs.declared.code.Parts.{Parts}
use Rattle.ec_code.specs.declared.code.StopRow.{StopRow}
use Rattle.ec_code.specs.declared.code.Test.{Test}
use Rattle.ec_code.specs.declared.code.Test.TheVariants as test
use Rattle.ec_code.specs.declared.code.Variable.{Variable}
use Rattle.ec_code.specs.Fine.{IsIn, Has, live_at, FineOperand, FineTest, Passes, Writes, Behind, HaveTypes, GoesOn}
use Rattle.ec_code.specs.Fine.{FineRow, FineTop}
use Rattle.ec_code.specs.Fine.{FineOp, FineCode, IsTaken}
use Rattle.ec_code.specs.Typing.{Declared, integer, boolean, string, class_type}
use Rattle.ec_types.specs.declared.conform.static_type.StaticType.{StaticType}
use Rattle.ec_accepted.proofs.Narrowed.{AllNarrowed, same_length, live_dropped, has_at, line_from_start, has_from_start}
use Rattle.ec_accepted.specs.Wide.{WideOp, WideCode}
use Rattle.ec_code.proofs.Among.{in_left, in_right}
use Rattle.ec_code.specs.Live.{IsLive, is_read, is_passed, read_in, read_by, reads, writes, goes_on, stays}
use Rattle.ec_world.specs.declared.stop.Stop.{Stop}
use Rattle.ec_world.specs.declared.stop.Stop.TheVariants as stop

-- what holds behind a stop where code goes on there
pub behind_more : (d : Declared) (p : Parts) (number : ℕ) (o : Operation) (s : Stop) (T S : Type 0) → (stays s ≡ true → T →
    S) → GoesOn d p number o s T → GoesOn d p number o s S
behind_more d p number o (stop.Return gives_self) T S f h = tt
behind_more d p number o stop.End T S f h = tt
behind_more d p number o (stop.Fail why line) T S f h = tt
behind_more d p number o s T S f h = f refl h

goes_to_next : (b : Bool) (q : ℕ) → b ≡ true → IsIn (suc q) (if b then suc q ∷ [] else [])
goes_to_next true q e = inl refl
goes_to_next false q e = cc

not_both : {x y : Variable} {w : Option Variable} → w ≡ Some x → x ≢ y → w ≢ Some y
not_both {x} {y} {w} e ne f = ne (let g : Some x ≡ Some y = sym e ∙ f in cc)

none_is : {x : Variable} {w : Option Variable} → w ≡ None → w ≢ Some x
none_is {x} {w} e f = let g : None ≡ Some x = sym e ∙ f in cc

-- One step at a place: what is in the wide list and is live is in the narrow one.
module _ (d : Declared) (p : Parts) (code : List Op) (q : ℕ) (step : Op) (there : slice_get code q ≡ Some step)
    (wide narrow : List Live)
    (kept : (x : Variable) (t : StaticType) → IsLive code q x → Has wide x t → Has narrow x t) where
  -- ---- what is read

  operand_kept :
      (a : Operand) (t : StaticType) → ((x : Variable) → IsIn x (read_in a) → IsIn x (reads step)) →
      FineOperand d p wide a t → FineOperand d p narrow a t
  operand_kept (operand.Of x) t f h = (h.0, kept x h.0 (is_read step there (f x (inl refl))) h.1, h.2)
  operand_kept (operand.Number z) t f h = h
  operand_kept (operand.Truth b) t f h = h
  operand_kept operand.Nil t f h = h

  two_kept :
      (a b : Operand) (s t : StaticType) → ((x : Variable) → IsIn x (read_in a ++ read_in b) → IsIn x (reads step)) →
      FineOperand d p wide a s → FineOperand d p wide b t → FineOperand d p narrow a s × FineOperand d p narrow b t
  two_kept a b s t f h k = (
    operand_kept a s (λ x i. f x (in_left x (read_in a) (read_in b) i)) h,
    operand_kept b t (λ x i. f x (in_right x (read_in a) (read_in b) i)) k,
  )

  test_kept : (a : Test) → ((x : Variable) → IsIn x (read_by a) → IsIn x (reads step)) → FineTest d p wide a →
      FineTest d p narrow a
  test_kept (test.Holds x) f h = operand_kept x boolean f h
  test_kept (test.Same x y) f h = let k = two_kept x y h.0 h.0 f h.2 h.3 in (h.0, h.1, k.0, k.1)
  test_kept (test.Less x y) f h = two_kept x y integer integer f h.0 h.1
  test_kept (test.LessEqual x y) f h = two_kept x y integer integer f h.0 h.1
  test_kept (test.Divides x y) f h = two_kept x y integer integer f h.0 h.1

  types_kept :
      (xs : List Variable) (ts : List StaticType) → ((x : Variable) → IsIn x xs → IsIn x (reads step)) →
      HaveTypes d p wide xs ts → HaveTypes d p narrow xs ts
  types_kept [] [] f h = tt
  types_kept [] (t ∷ ts) f h = absurd h
  types_kept (x ∷ xs) [] f h = absurd h
  types_kept (x ∷ xs) (t ∷ ts) f h =
      (kept x t (is_read step there (f x (inl refl))) h.0, types_kept xs ts (λ y i. f y (inr i)) h.1)

  -- ---- what is passed on

  module _ (ws ns : List Line) (rest : AllNarrowed code (suc q) ws ns) where
    passed :
        (k : ℕ) → IsIn k (goes_on step q) → (x : Variable) (t : StaticType) → writes step ≢ Some x → IsLive code k x →
        Has wide x t → Has narrow x t
    passed k i x t ne l h = kept x t (is_passed step k there ne i l) h

    there_is : (over : ℕ) → over < length ws → over < length ns
    there_is over h = subst (λ z. over < z) (sym (same_length code (suc q) ws ns rest)) h

    passes_kept :
        (over k : ℕ) → k ≡ suc q + over → IsIn k (goes_on step q) → writes step ≡ None → Passes d p ws over wide →
        Passes d p ns over narrow
    passes_kept over k e i none h = (
      there_is over h.0,
      λ x t has.
          let r = has_at (suc q) ws ns rest over x t has in
          passed k i x t (none_is none) (subst (λ z. IsLive code z x) (sym e) r.0) (h.1 x t r.1),
    )

    next_live : (x : Variable) (t : StaticType) → Has (live_at ns 0) x t → IsLive code (suc q) x × Has (live_at ws 0) x t
    next_live x t has =
        let r = has_at (suc q) ws ns rest 0 x t has in
        let e : suc q + 0 ≡ suc q = omega arith in
        (subst (λ z. IsLive code z x) e r.0, r.1)

    writes_kept :
        (to : Variable) (s : StaticType) → IsIn (suc q) (goes_on step q) → writes step ≡ Some to → Writes d p ws to s wide →
        Writes d p ns to s narrow
    writes_kept to s i e h = (
      there_is 0 h.0,
      λ x t has.
          let r = next_live x t has in
          ⊎_elim (λ g. inl g) (λ g. inr (g.0, passed (suc q) i x t (not_both e (λ f. g.0 (sym f))) r.0 g.1)) (h.1 x t r.1),
    )

    behind_kept :
        (given : Option StaticType) (into : Option Variable) → IsIn (suc q) (goes_on step q) → writes step ≡ into →
        Behind d p ws given into wide → Behind d p ns given into narrow
    behind_kept given into i e h = (
      there_is 0 h.0,
      λ x t has.
          let r = next_live x t has in
          ⊎_elim (λ g. inl g) (λ g. inr (g.0, passed (suc q) i x t (λ f. g.0 (sym e ∙ f)) r.0 g.1)) (h.1 x t r.1),
    )

-- Of an operation: its own lines, and lines with more.
module _ (d : Declared) (p : Parts) (number : ℕ) (o : Operation) (code : List Op) (lines : List Line)
    (whole : AllNarrowed code 0 lines o.code) where
  -- ---- a loop's end

  top_kept :
      (q back : ℕ) (wide narrow : List Live) → slice_get code q ≡ Some (op.Again back) →
      ((x : Variable) (t : StaticType) → IsLive code q x → Has wide x t → Has narrow x t) →
      FineTop d p number (record o { code = lines }) q back wide → FineTop d p number o q back narrow
  top_kept q back wide narrow there kept h =
      let found = line_from_start lines o.code whole (q - back) h.line h.is in
      let step : Op = h.line.op in
      let at_top : slice_get code (q - back) ≡ Some step = found.2.there in
      let no_write : writes step ≡ None = ap writes h.rests ∙ h.into in
      let goes : goes_on step (q - back) ≡ suc (q - back) ∷ [] =
      ap (λ z. goes_on z (q - back)) h.rests ∙ ap (λ z. if stays z then suc (q - back) ∷ [] else []) h.stop in
      record {
        within = h.within;
        line = found.0;
        is = found.1;
        row = h.row;
        rests = found.2.same ∙ h.rests;
        stop = h.stop;
        on_itself = h.on_itself;
        operands = h.operands;
        into = h.into;
        live_there = λ x t has.
            let there_has : Has (live_at o.code (suc (q - back))) x t =
            subst (λ z. Has z x t) (live_dropped o.code (suc (q - back))) has in
            let r = has_from_start lines o.code whole (suc (q - back)) x t there_has in
            let wide_has : Has wide x t =
            h.live_there x t (subst (λ z. Has z x t) (sym (live_dropped lines (suc (q - back)))) r.1) in
            let on_top : IsLive code (q - back) x =
            is_passed step (suc (q - back)) at_top (none_is no_write)
            (subst (λ z. IsIn (suc (q - back)) z) (sym goes) (inl refl)) r.0 in
            kept x t (is_passed (op.Again back) (q - back) there (λ e. cc) (inl refl) on_top) wide_has;
      }

  -- ---- each step

  row_kept :
      (q : ℕ) (row : StopRow) (wide narrow : List Live) → slice_get code q ≡ Some (op.Rest row) →
      ((x : Variable) (t : StaticType) → IsLive code q x → Has wide x t → Has narrow x t) → (ws ns : List Line) →
      AllNarrowed code (suc q) ws ns → FineRow d p number o ws wide row → FineRow d p number o ns narrow row
  row_kept q row wide narrow there kept ws ns rest h = record {
    types = h.types;
    are = types_kept d p code q (op.Rest row) there wide narrow kept row.operands h.types (λ x i. i) h.are;
    stop = h.stop;
    behind =
        behind_more d p number o row.stop (IsTaken d p row.gives row.into × Behind d p ws row.gives row.into wide)
        (IsTaken d p row.gives row.into × Behind d p ns row.gives row.into narrow)
        (λ e g. (
          g.0,
          behind_kept d p code q (op.Rest row) there wide narrow kept ws ns rest row.gives row.into
              (goes_to_next (stays row.stop) q e) refl g.1,
        ))
        h.behind;
  }

  op_kept :
      (q : ℕ) (step : Op) (wide narrow : List Live) → slice_get code q ≡ Some step →
      ((x : Variable) (t : StaticType) → IsLive code q x → Has wide x t → Has narrow x t) → (ws ns : List Line) →
      AllNarrowed code (suc q) ws ns → WideOp d p number o lines q ws wide step → FineOp d p number o q ns narrow step
  op_kept q (op.Copy to from) wide narrow there kept ws ns rest h =
      let s : Op = op.Copy to from in (
        h.0,
        operand_kept d p code q s there wide narrow kept from h.0 (λ x i. i) h.1,
        writes_kept d p code q s there wide narrow kept ws ns rest to h.0 (inl refl) refl h.2,
      )
  op_kept q (op.Literal to index) wide narrow there kept ws ns rest h =
      (h.0, writes_kept d p code q (op.Literal to index) there wide narrow kept ws ns rest to string (inl refl) refl h.1)
  op_kept q (op.Itself to) wide narrow there kept ws ns rest h = (
    h.0,
    writes_kept d p code q (op.Itself to) there wide narrow kept ws ns rest to (class_type d o.class) (inl refl) refl h.1,
  )
  op_kept q (op.Field to n) wide narrow there kept ws ns rest h =
      (h.0, h.1, writes_kept d p code q (op.Field to n) there wide narrow kept ws ns rest to h.0 (inl refl) refl h.2)
  op_kept q (op.SetField n from) wide narrow there kept ws ns rest h =
      let s : Op = op.SetField n from in
      let e : suc q ≡ suc q + 0 = omega arith in (
        (h.0.0, h.0.1, operand_kept d p code q s there wide narrow kept from h.0.0 (λ x i. i) h.0.2),
        passes_kept d p code q s there wide narrow kept ws ns rest 0 (suc q) e (inl refl) refl h.1,
      )
  op_kept q (op.Constant to index) wide narrow there kept ws ns rest h =
      (h.0, h.1, writes_kept d p code q (op.Constant to index) there wide narrow kept ws ns rest to h.0 (inl refl) refl h.2)
  op_kept q (op.Compute how to left right) wide narrow there kept ws ns rest h =
      let s : Op = op.Compute how to left right in (
        two_kept d p code q s there wide narrow kept left right integer integer (λ x i. i) h.0.0 h.0.1,
        writes_kept d p code q s there wide narrow kept ws ns rest to integer (inl refl) refl h.1,
      )
  op_kept q (op.Decide to t wanted) wide narrow there kept ws ns rest h =
      let s : Op = op.Decide to t wanted in (
        test_kept d p code q s there wide narrow kept t (λ x i. i) h.0,
        writes_kept d p code q s there wide narrow kept ws ns rest to boolean (inl refl) refl h.1,
      )
  op_kept q (op.Branch t wanted over) wide narrow there kept ws ns rest h =
      let s : Op = op.Branch t wanted over in
      let e : suc q ≡ suc q + 0 = omega arith in
      let f : suc (q + over) ≡ suc q + over = omega arith in (
        test_kept d p code q s there wide narrow kept t (λ x i. i) h.0,
        passes_kept d p code q s there wide narrow kept ws ns rest 0 (suc q) e (inl refl) refl h.1,
        passes_kept d p code q s there wide narrow kept ws ns rest over (suc (q + over)) f (inr (inl refl)) refl h.2,
      )
  op_kept q (op.Jump over) wide narrow there kept ws ns rest h =
      let f : suc (q + over) ≡ suc q + over = omega arith in
      passes_kept d p code q (op.Jump over) there wide narrow kept ws ns rest over (suc (q + over)) f (inl refl) refl h
  op_kept q (op.Again back) wide narrow there kept ws ns rest h = top_kept q back wide narrow there kept h.0
  op_kept q (op.Rest row) wide narrow there kept ws ns rest h = row_kept q row wide narrow there kept ws ns rest h

  code_kept :
      (q : ℕ) (ws ns : List Line) → AllNarrowed code q ws ns → WideCode d p number o lines q ws → FineCode d p number o q ns
  code_kept q [] [] a h = tt
  code_kept q [] (n ∷ ns) a h = absurd a
  code_kept q (w ∷ ws) [] a h = absurd a
  code_kept q (w ∷ ws) (n ∷ ns) a h =
      let kept : FineOp d p number o q ns n.live w.op = op_kept q w.op w.live n.live a.0.there a.0.kept ws ns a.1 h.0 in
      (subst (λ z. FineOp d p number o q ns n.live z) (sym a.0.same) kept, code_kept (suc q) ws ns a.1 h.1)

  pub restricted : WideCode d p number o lines 0 lines → FineCode d p number o 0 o.code
  restricted h = code_kept 0 lines o.code whole h
