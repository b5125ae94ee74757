-- The values at a stop of code with clear stops stand each once, and there are at most 100.
use Rattle.std.proofs.Common.{◌≡◌, ◌≢◌, ℕ, zero, suc, ◌+◌, ◌<◌, ◌≤◌, inl, inr, ⊎_elim, Bool, true, false, List, [], ◌∷◌, ◌++◌, drop}
use Rattle.std.proofs.Common.{length, map, Option, Some, None, slice_get, refl, sym, ap, ap₂, ◌∙◌, subst, arith, if◌then◌else◌}
use Rattle.std.proofs.Common.{length-append, true≢false}
use Rattle.std.proofs.lemmas.List.{length-map}
use Rattle.std.proofs.lemmas.Option.{same_Some}
use Rattle.ec_code.specs.Fine.{IsIn, live_at, live_if}
use Rattle.ec_code.specs.declared.code.Line.{Line}
use Rattle.ec_code.specs.declared.code.Live.{Live}
use Rattle.ec_code.specs.declared.code.Op.{Op}
use Rattle.ec_code.specs.declared.code.Op.TheVariants as op
use Rattle.ec_code.specs.declared.code.StopRow.{StopRow}
use Rattle.ec_code.specs.declared.code.Variable.{Variable}
use Rattle.ec_code.specs.declared.code.Variable.TheVariants.{Named, Temporary}
use Rattle.ec_machine_code.specs.Limits.{HasColumn, HasColumns}
use Rattle.ec_types.specs.declared.conform.static_type.StaticType.{StaticType}
use Rattle.ec_machine_code.specs.Stops.{live_list, stop_of, without}
use Rattle.ec_runnable.proofs.Live.{IsUsed, clear_here, live_used, unwritten}
use Rattle.ec_runnable.proofs.Uses.{AreClear, IsAbove, IsClear, but_for_written, each_in, uses, uses_at, uses_dropped}
use Rattle.ec_runnable.specs.FewValuesLaws.{variables_of}
use Rattle.ec_machine_code.specs.Homes.{IsVariable, column}
use Rattle.ec_code.proofs.Among.{in_append, is_same_self}
use Rattle.ec_code.specs.Live.{InOrder, IsBefore, IsLive, IsLiveList, reads, stays}
use Rattle.ec_code.specs.Marks.{is_same, is_written}
use Rattle.ec_emission.specs.Lowered.{HasLines}
use Rattle.ec_emission.specs.Types.{Around, behind, lines_of, with_types}
use Rattle.ec_generate.specs.Entries.{entries_from, entries_of, entry_of, typed, with_entry}
use Rattle.ec_generate.specs.declared.table.StopEntry.{StopEntry}
use Rattle.ec_world.specs.Group.{Has}

-- ---- variables in order

-- one list behind another
joined_in_order : (xs ys : List Variable) → InOrder xs → InOrder ys → ((x y : Variable) → IsIn x xs → IsIn y ys → IsBefore x y) →
    InOrder (xs ++ ys)
joined_in_order [] ys h k between = k
joined_in_order (x ∷ xs) ys h k between = (
  (λ y i. ⊎_elim (λ j. h.0 y j) (λ j. between x y (inl refl) j) (in_append y xs ys i)),
  joined_in_order xs ys h.1 k (λ z y i j. between z y (inr i) j),
)

before_lower : (named : ℕ) (x y : Variable) → IsVariable named x → IsBefore x y → column named x < column named y
before_lower named (Named m) (Named n) v b = b
before_lower named (Named m) (Temporary e) v b = omega arith
before_lower named (Temporary d) (Named n) v b = absurd b
before_lower named (Temporary d) (Temporary e) v b = omega arith

-- as many as there are columns from one on
few_from : (named least : ℕ) (xs : List Variable) → InOrder xs → ((x : Variable) → IsIn x xs → HasColumn named x) →
    ((x : Variable) → IsIn x xs → least ≤ column named x) → least ≤ 100 → length xs + least ≤ 100
few_from named least [] order columns from l = omega arith
few_from named least (x ∷ xs) order columns from l =
    let h : HasColumn named x = columns x (inl refl) in
    let below : column named x < 100 = h.below in
    let above : least ≤ column named x = from x (inl refl) in
    let rest : length xs + suc (column named x) ≤ 100 =
    few_from named (suc (column named x)) xs order.1 (λ y i. columns y (inr i))
    (λ y i. before_lower named x y h.is_variable (order.0 y i)) (omega arith) in
    omega arith

-- ---- what is live behind a stop

-- what is kept was there, and is not written
kept_in : (into : Option Variable) (ls : List Live) (x : Variable) → IsIn x (variables_of (without into ls)) →
    IsIn x (variables_of ls) × (into ≢ Some x)
kept_in into [] x i = absurd i
kept_in into (l ∷ ls) x i = by (is_written into l.variable) refl i (kept_in into ls x)
  where
    other : (w : Option Variable) → is_written w l.variable ≡ false → w ≢ Some l.variable
    other None e f = cc
    other (Some y) e f =
        let same : y ≡ l.variable = same_Some y l.variable f in
        let differs : is_same l.variable l.variable ≡ false = subst (λ z. is_same l.variable z ≡ false) same e in
        absurd (true≢false (sym (is_same_self l.variable) ∙ differs))

    by : (b : Bool) → is_written into l.variable ≡ b →
        IsIn x (variables_of (if b then without into ls else l ∷ without into ls)) →
        (IsIn x (variables_of (without into ls)) → IsIn x (variables_of ls) × (into ≢ Some x)) →
        IsIn x (variables_of (l ∷ ls)) × (into ≢ Some x)
    by true e j further = let r = further j in (inr r.0, r.1)
    by false e (inl same) further = (inl same, λ f. other into e (f ∙ ap Some same))
    by false e (inr j) further = let r = further j in (inr r.0, r.1)

without_in_order : (into : Option Variable) (ls : List Live) → InOrder (variables_of ls) → InOrder (variables_of (without into ls))
without_in_order into [] h = tt
without_in_order into (l ∷ ls) h = by (is_written into l.variable) (without_in_order into ls h.1)
  where
    by : (b : Bool) → InOrder (variables_of (without into ls)) →
        InOrder (variables_of (if b then without into ls else l ∷ without into ls))
    by true rest = rest
    by false rest = ((λ y i. h.0 y (kept_in into ls y i).0), rest)

-- ---- lines

-- a line of code: its step, and the list of what is live before it
pub record LineIs (ops : List Op) (lists : List (List Variable)) (q : ℕ) (line : Line) : Type 0 where
  pub list : List Variable
  pub step_is : slice_get ops q ≡ Some line.op
  pub list_is : slice_get lists q ≡ Some list
  pub live_is : variables_of line.live ≡ list

variables_typed : (w : Around) (ts : List StaticType) (xs : List Variable) → variables_of (with_types w ts xs) ≡ xs
variables_typed w ts [] = refl
variables_typed w ts (x ∷ xs) = ap (λ r. x ∷ r) (variables_typed w ts xs)

line_is : (w : Around) (ts : List StaticType) (ops : List Op) (lists : List (List Variable)) (q : ℕ) (line : Line) →
    slice_get (lines_of w ts ops lists) q ≡ Some line → LineIs ops lists q line
line_is w ts [] lists q line e = absurd cc
line_is w ts (o ∷ ops) [] q line e = absurd cc
line_is w ts (o ∷ ops) (xs ∷ lists) zero line e =
    let same : record { op = o; live = with_types w ts xs } ≡ line = same_Some _ line e in
    record {
      list = xs;
      step_is = ap (λ (l : Line). Some l.op) same;
      list_is = refl;
      live_is = sym (ap (λ (l : Line). variables_of l.live) same) ∙ variables_typed w ts xs;
    }
line_is w ts (o ∷ ops) (xs ∷ lists) (suc q) line e =
    let r = line_is w (behind w ts o) ops lists q line e in
    record { list = r.list; step_is = r.step_is; list_is = r.list_is; live_is = r.live_is }

-- ---- entries

-- a stop among these lines of code
pub record EntryIs (code : List Line) (q : ℕ) (lines : List Line) (e : StopEntry) : Type 0 where
  pub at : ℕ
  pub line : Line
  pub row : StopRow
  pub there : slice_get lines at ≡ Some line
  pub stops : stop_of line.op ≡ Some row
  pub is : e ≡ entry_of code (q + at) line row

entry_is : (code : List Line) (q : ℕ) (lines : List Line) (n : ℕ) (e : StopEntry) → slice_get (entries_from code q lines) n ≡ Some e →
    EntryIs code q lines e
entry_is code q [] n e h = absurd cc
entry_is code q (line ∷ rest) n e h = by (stop_of line.op) refl n h (entry_is code (suc q) rest)
  where
    further : EntryIs code (suc q) rest e → EntryIs code q (line ∷ rest) e
    further r =
        let place : suc q + r.at ≡ q + suc r.at = omega arith in
        record {
          at = suc r.at;
          line = r.line;
          row = r.row;
          there = r.there;
          stops = r.stops;
          is = r.is ∙ ap (λ j. entry_of code j r.line r.row) place;
        }

    by : (o : Option StopRow) → stop_of line.op ≡ o → (k : ℕ) →
        slice_get (with_entry code q line o (entries_from code (suc q) rest)) k ≡ Some e →
        ((j : ℕ) (d : StopEntry) → slice_get (entries_from code (suc q) rest) j ≡ Some d → EntryIs code (suc q) rest d) →
        EntryIs code q (line ∷ rest) e
    by None f k g more = further (more k e g)
    by (Some row) f zero g more =
        let place : q ≡ q + 0 = omega arith in
        record {
          at = 0;
          line = line;
          row = row;
          there = refl;
          stops = f;
          is = sym (same_Some _ e g) ∙ ap (λ j. entry_of code j line row) place;
        }
    by (Some row) f (suc k) g more = further (more k e g)

step_rests : (o : Op) (row : StopRow) → stop_of o ≡ Some row → o ≡ op.Rest row
step_rests (op.Copy to from) row e = absurd cc
step_rests (op.Literal to index) row e = absurd cc
step_rests (op.Itself to) row e = absurd cc
step_rests (op.Field to n) row e = absurd cc
step_rests (op.SetField n from) row e = absurd cc
step_rests (op.Constant to index) row e = absurd cc
step_rests (op.Compute how to left right) row e = absurd cc
step_rests (op.Decide to t wanted) row e = absurd cc
step_rests (op.Branch t wanted over) row e = absurd cc
step_rests (op.Jump over) row e = absurd cc
step_rests (op.Again back) row e = absurd cc
step_rests (op.Rest r) row e = ap op.Rest (same_Some r row e)

typed_is : (ls : List Live) (x : Variable) → (typed ls x).variable ≡ x
typed_is [] x = refl
typed_is (l ∷ ls) x = by (is_same l.variable x) (typed_is ls x)
  where
    by : (b : Bool) → (typed ls x).variable ≡ x →
        (if b then record { variable = x; of = l.of } else typed ls x).variable ≡ x
    by true e = refl
    by false e = e

all_typed : (ls : List Live) (xs : List Variable) → variables_of (map (typed ls) xs) ≡ xs
all_typed ls [] = refl
all_typed ls (x ∷ xs) = ap₂ (λ y ys. y ∷ ys) (typed_is ls x) (all_typed ls xs)

-- ---- the stops of clear code

-- what is in use, and is not written, is before what stands above all of that
above_used : (us : List ℕ) (into : Option Variable) (x y : Variable) → IsUsed us x → into ≢ Some x →
    IsAbove (but_for_written into us) y → IsBefore x y
above_used us into x (Named n) u ne a = absurd a
above_used us into (Named m) (Temporary e) u ne a = tt
above_used us into (Temporary d) (Temporary e) u ne a =
    each_in (λ k. k < e) (but_for_written into us) d a (unwritten into us d ne u)

module _ (w : Around) (ops : List Op) (code : List Line) (have : HasLines w ops code) (clear : AreClear (uses ops []) 0 ops []) where
  found : (q : ℕ) (line : Line) → slice_get code q ≡ Some line → LineIs ops have.lists q line
  found q line e = line_is w [] ops have.lists q line (subst (λ c. slice_get c q ≡ Some line) have.lines e)

  -- what is live at a place, by the line there
  list_at : (q : ℕ) → (o : Option Line) → slice_get code q ≡ o →
      ((x : Variable) → IsIn x (variables_of (live_if o)) → IsLive ops q x) × InOrder (variables_of (live_if o))
  list_at q None e = ((λ x i. absurd i), tt)
  list_at q (Some line) e =
      let l = found q line e in
      let lives : IsLiveList ops q l.list = have.live q l.list l.list_is in (
        (λ x i. lives.live x (subst (IsIn x) l.live_is i)),
        subst InOrder (sym l.live_is) lives.in_order,
      )

  clear_row : (q : ℕ) (line : Line) (row : StopRow) → slice_get code q ≡ Some line → stop_of line.op ≡ Some row →
      IsClear row (uses_at (uses ops []) (suc q))
  clear_row q line row e f =
      let here : slice_get ops q ≡ Some (op.Rest row) = (found q line e).step_is ∙ ap Some (step_rests line.op row f) in
      let c : IsClear row (uses_at (drop (suc q) (uses ops [])) 0) = clear_here ops clear q (op.Rest row) here in
      let at : suc q + 0 ≡ suc q = omega arith in
      subst (IsClear row) (uses_dropped (uses ops []) (suc q) 0 ∙ ap (uses_at (uses ops [])) at) c

  module _ (q : ℕ) (line : Line) (row : StopRow) (e : slice_get code q ≡ Some line) (f : stop_of line.op ≡ Some row) where
    in_order_by : (b : Bool) → stays row.stop ≡ b →
        InOrder (variables_of (if b then without row.into (live_at code (suc q)) else []) ++ row.operands)
    in_order_by true s =
        let c = clear_row q line row e f in
        let l = list_at (suc q) (slice_get code (suc q)) refl in
        joined_in_order (variables_of (without row.into (live_at code (suc q)))) row.operands
        (without_in_order row.into (live_at code (suc q)) l.1) c.in_order
        (λ x y i j.
        let k = kept_in row.into (live_at code (suc q)) x i in
        above_used (uses_at (uses ops []) (suc q)) row.into x y (live_used ops clear (l.0 x k.0)) k.1
        (each_in (IsAbove (but_for_written row.into (uses_at (uses ops []) (suc q)))) row.operands y (c.above s) j))
    in_order_by false s = (clear_row q line row e f).in_order

    values_in_order : InOrder (variables_of (live_list code q row) ++ row.operands)
    values_in_order = in_order_by (stays row.stop) refl

    -- ---- columns

    module _ (named : ℕ) (columns : (p : ℕ) (l : Line) → slice_get code p ≡ Some l → HasColumns named l) where
      live_column : (o : Option Line) → slice_get code (suc q) ≡ o → (x : Variable) → IsIn x (variables_of (live_if o)) →
          HasColumn named x
      live_column None g x i = absurd i
      live_column (Some l) g x i = (columns (suc q) l g).live x i

      kept_column : (b : Bool) (x : Variable) →
          IsIn x (variables_of (if b then without row.into (live_at code (suc q)) else [])) → HasColumn named x
      kept_column true x i = live_column (slice_get code (suc q)) refl x (kept_in row.into (live_at code (suc q)) x i).0
      kept_column false x i = absurd i

      operand_column : (x : Variable) → IsIn x row.operands → HasColumn named x
      operand_column x i =
          (columns q line e).read x (subst (λ (o : Op). IsIn x (reads o)) (sym (step_rests line.op row f)) i)

      few_values : length row.operands + length (live_list code q row) ≤ 100
      few_values =
          let vs : List Variable = variables_of (live_list code q row) in
          let all : length (vs ++ row.operands) + 0 ≤ 100 =
          few_from named 0 (vs ++ row.operands) values_in_order
          (λ x i. ⊎_elim (λ j. kept_column (stays row.stop) x j) (λ j. operand_column x j) (in_append x vs row.operands i))
          (λ x i. omega arith) (omega arith) in
          let both = length-append vs row.operands in
          let same = length-map (live_list code q row) (λ (l : Live). l.variable) in
          omega (arith, all, both, same)

  -- each value at a stop stands once: what is live behind it, then its operands
  pub entry_in_order : (e : StopEntry) → Has (entries_of code) e → InOrder (variables_of e.live ++ variables_of e.operands)
  entry_in_order e h =
      let r = entry_is code 0 code h.at e h.is in
      let at : 0 + r.at ≡ r.at = omega arith in
      let is : e ≡ entry_of code r.at r.line r.row = r.is ∙ ap (λ j. entry_of code j r.line r.row) at in
      subst (λ (x : StopEntry). InOrder (variables_of x.live ++ variables_of x.operands)) (sym is)
      (subst (λ xs. InOrder (variables_of (live_list code r.at r.row) ++ xs)) (sym (all_typed r.line.live r.row.operands))
      (values_in_order r.at r.line r.row r.there r.stops))

  -- within the columns of a frame there are few
  pub entry_carries : (named : ℕ) → ((p : ℕ) (l : Line) → slice_get code p ≡ Some l → HasColumns named l) → (e : StopEntry) →
      Has (entries_of code) e → length e.operands + length e.live ≤ 100
  entry_carries named columns e h =
      let r = entry_is code 0 code h.at e h.is in
      let at : 0 + r.at ≡ r.at = omega arith in
      let is : e ≡ entry_of code r.at r.line r.row = r.is ∙ ap (λ j. entry_of code j r.line r.row) at in
      let same = length-map r.row.operands (typed r.line.live) in
      let few : length r.row.operands + length (live_list code r.at r.row) ≤ 100 =
      few_values r.at r.line r.row r.there r.stops named columns in
      subst (λ (x : StopEntry). length x.operands + length x.live ≤ 100) (sym is)
      (subst (λ n. n + length (live_list code r.at r.row) ≤ 100) (sym same) few)
