-- Variables that an activation holds at a stop meet, and each has a home.
use Rattle.std.proofs.Common.{◌≡◌, ◌≢◌, ℕ, zero, suc, inl, inr, ⊎_elim, Bool, true, false, true≢false, List, [], ◌∷◌, ◌++◌, drop, map}
use Rattle.std.proofs.Common.{Option, Some, None, refl, sym, ap, ◌∙◌, subst}
use Rattle.std.specs.Prelude.{slice_get}
use Rattle.std.proofs.lemmas.Option.{same_Some}
use Rattle.ec_code.specs.Fine.{Behind, FineOp, FineOperation, FineRow, GoesOn, Has, HaveTypes, IsGiven, IsIn, IsTaken, live_at}
use Rattle.ec_code.specs.Typing.{Declared}
use Rattle.ec_code.specs.declared.code.Line.{Line}
use Rattle.ec_code.specs.declared.code.Live.{Live}
use Rattle.ec_code.specs.declared.code.Op.{Op}
use Rattle.ec_code.specs.declared.code.Op.TheVariants as op
use Rattle.ec_code.specs.declared.code.Operation.{Operation}
use Rattle.ec_code.specs.declared.code.Parts.{Parts}
use Rattle.ec_code.specs.declared.code.StopRow.{StopRow}
use Rattle.ec_code.specs.declared.code.Variable.{Variable}
use Rattle.ec_types.specs.declared.conform.static_type.StaticType.{StaticType}
use Rattle.ec_activations.proofs.Stops.{in_without}
use Rattle.ec_machine_code.specs.Stops.{live_list, stop_of}
use Rattle.ec_machine_code.specs.Meeting.{Meet, all_if, live_first, live_in, met_at, met_behind, met_by}
use Rattle.ec_code.proofs.Among.{in_among, is_same_self}
use Rattle.ec_code.specs.Live.{stays, writes}
use Rattle.ec_code.specs.Marks.{is_among, is_same, is_written}
use Rattle.ec_machine_code.proofs.FineAt.{fine_at}
use Rattle.ec_generate.proofs.Homed.{has_in}
use Rattle.ec_world.specs.declared.stop.Stop.{Stop}
use Rattle.ec_world.specs.declared.stop.Stop.TheVariants as stop

in_front : {A : Type 0} (x : A) (xs ys : List A) → IsIn x xs → IsIn x (xs ++ ys)
in_front x [] ys h = absurd h
in_front x (z ∷ xs) ys (inl e) = inl e
in_front x (z ∷ xs) ys (inr h) = inr (in_front x xs ys h)

in_back : {A : Type 0} (x : A) (xs ys : List A) → IsIn x ys → IsIn x (xs ++ ys)
in_back x [] ys h = h
in_back x (z ∷ xs) ys h = inr (in_back x xs ys h)

if_in : (b : Bool) (y : Variable) (ys : List Variable) → b ≡ true → IsIn y ys → IsIn y (all_if b ys)
if_in true y ys e h = h
if_in false y ys e h = absurd cc

-- ---- what is live at one line meets

met_live : (code : List Line) (q : ℕ) (line : Line) (x y : Variable) → slice_get code q ≡ Some line → IsIn x (live_in line) →
    IsIn y (live_in line) → IsIn y (met_by x code)
met_live [] q line x y e h k = absurd cc
met_live (l ∷ code) zero line x y e h k =
    let same : l ≡ line = same_Some l line e in
    let here : IsIn y (met_at x line code) =
    in_front y (all_if (is_among x (live_in line)) (live_in line)) (met_behind x (writes line.op) (live_first code))
    (if_in (is_among x (live_in line)) y (live_in line) (in_among x (live_in line) h) k) in
    in_front y (met_at x l code) (met_by x code) (subst (λ (z : Line). IsIn y (met_at x z code)) (sym same) here)
met_live (l ∷ code) (suc q) line x y e h k = in_back y (met_at x l code) (met_by x code) (met_live code q line x y e h k)

-- what is written meets what is live behind
written_meets : (x to : Variable) (line : Line) (rest : List Line) → writes line.op ≡ Some to → IsIn x (live_first rest) →
    IsIn x (met_at to line rest)
written_meets x to line rest w h =
    let behind = live_first rest in
    let met : IsIn x (met_behind to (Some to) behind) =
    in_front x (all_if (is_same to to) behind) (all_if (is_among to behind) (to ∷ []))
    (if_in (is_same to to) x behind (is_same_self to) h) in
    in_back x (all_if (is_among to (live_in line)) (live_in line)) (met_behind to (writes line.op) behind)
    (subst (λ o. IsIn x (met_behind to o behind)) (sym w) met)

met_written : (code : List Line) (q : ℕ) (line : Line) (to x : Variable) → slice_get code q ≡ Some line → writes line.op ≡ Some to →
    IsIn x (live_first (drop (suc q) code)) → IsIn x (met_by to code)
met_written [] q line to x e w h = absurd cc
met_written (l ∷ code) zero line to x e w h =
    let same : l ≡ line = same_Some l line e in
    in_front x (met_at to l code) (met_by to code) (written_meets x to l code (ap (λ (k : Line). writes k.op) same ∙ w) h)
met_written (l ∷ code) (suc q) line to x e w h = in_back x (met_at to l code) (met_by to code) (met_written code q line to x e w h)

-- what is live behind a write meets what is written
live_meets : (x to : Variable) (line : Line) (rest : List Line) → writes line.op ≡ Some to → IsIn x (live_first rest) →
    IsIn to (met_at x line rest)
live_meets x to line rest w h =
    let behind = live_first rest in
    let met : IsIn to (met_behind x (Some to) behind) =
    in_back to (all_if (is_same x to) behind) (all_if (is_among x behind) (to ∷ []))
    (if_in (is_among x behind) to (to ∷ []) (in_among x behind h) (inl refl)) in
    in_back to (all_if (is_among x (live_in line)) (live_in line)) (met_behind x (writes line.op) behind)
    (subst (λ o. IsIn to (met_behind x o behind)) (sym w) met)

met_there : (code : List Line) (q : ℕ) (line : Line) (x to : Variable) → slice_get code q ≡ Some line → writes line.op ≡ Some to →
    IsIn x (live_first (drop (suc q) code)) → IsIn to (met_by x code)
met_there [] q line x to e w h = absurd cc
met_there (l ∷ code) zero line x to e w h =
    let same : l ≡ line = same_Some l line e in
    in_front to (met_at x l code) (met_by x code) (live_meets x to l code (ap (λ (k : Line). writes k.op) same ∙ w) h)
met_there (l ∷ code) (suc q) line x to e w h = in_back to (met_at x l code) (met_by x code) (met_there code q line x to e w h)

-- ---- what is live behind

live_first_of : (code : List Line) (q : ℕ) (l : Live) → IsIn l (live_at code q) → IsIn l.variable (live_first (drop q code))
live_first_of [] zero l h = absurd h
live_first_of [] (suc q) l h = absurd h
live_first_of (line ∷ code) zero l h = has_in line.live l.variable l.of h
live_first_of (line ∷ code) (suc q) l h = live_first_of code q l h

live_at_start : (code : List Line) (q : ℕ) → live_at (drop q code) 0 ≡ live_at code q
live_at_start code zero = refl
live_at_start [] (suc q) = refl
live_at_start (l ∷ code) (suc q) = live_at_start code q

going_on : (d : Declared) (p : Parts) (number : ℕ) (o : Operation) (s : Stop) (T : Type 0) → GoesOn d p number o s T → stays s ≡ true → T
going_on d p number o (stop.Return gives_self) T h e = absurd (true≢false (sym e))
going_on d p number o stop.End T h e = absurd (true≢false (sym e))
going_on d p number o (stop.Fail why line) T h e = absurd (true≢false (sym e))
going_on d p number o s T h e = h

written_by : (d : Declared) (p : Parts) (x : Variable) (given : Option StaticType) (into : Option Variable) (t : StaticType) →
    is_written into x ≡ false →
    IsGiven d p given into x t → ⊥
written_by d p x given None t e g = cc (g.2)
written_by d p x given (Some y) t e g =
    let same : y ≡ x = same_Some y x g.2 in
    true≢false (sym (ap (is_same x) same ∙ is_same_self x) ∙ e)

have_operand : (d : Declared) (p : Parts) (live : List Live) (xs : List Variable) (ts : List StaticType) → HaveTypes d p live xs ts →
    (x : Variable) → IsIn x xs →
    IsIn x (map (λ l. l.variable) live)
have_operand d p live [] ts h x i = absurd i
have_operand d p live (y ∷ xs) [] h x i = absurd h
have_operand d p live (y ∷ xs) (t ∷ ts) h x (inl e) = has_in live x t (subst (λ z. Has live z t) (sym e) h.0)
have_operand d p live (y ∷ xs) (t ∷ ts) h x (inr i) = have_operand d p live xs ts h.1 x i

rests_at : (o : Op) (row : StopRow) → stop_of o ≡ Some row → o ≡ op.Rest row
rests_at (op.Rest r) row e = ap op.Rest (same_Some r row e)
rests_at (op.Copy to from) row e = absurd cc
rests_at (op.Literal to index) row e = absurd cc
rests_at (op.Itself to) row e = absurd cc
rests_at (op.Field to field) row e = absurd cc
rests_at (op.SetField field from) row e = absurd cc
rests_at (op.Constant to index) row e = absurd cc
rests_at (op.Compute how to left right) row e = absurd cc
rests_at (op.Decide to t wanted) row e = absurd cc
rests_at (op.Branch t wanted over) row e = absurd cc
rests_at (op.Jump over) row e = absurd cc
rests_at (op.Again back) row e = absurd cc

-- at a stop of a well typed operation
module _ (d : Declared) (p : Parts) (number : ℕ) (o : Operation) (fine : FineOperation d p number o) (q : ℕ) (line : Line) (row : StopRow)
    (there : slice_get o.code q ≡ Some line) (is_row : stop_of line.op ≡ Some row) where
  typed : FineRow d p number o (drop (suc q) o.code) line.live row
  typed = subst (λ k. FineOp d p number o q (drop (suc q) o.code) line.live k) (rests_at line.op row is_row)
      (fine_at d p number o q line fine there)

  pub writes_into : writes line.op ≡ row.into
  writes_into = ap writes (rests_at line.op row is_row)

  pub operand_is_live : (x : Variable) → IsIn x row.operands → IsIn x (live_in line)
  operand_is_live x h = have_operand d p line.live row.operands typed.types typed.are x h

  -- what is in the list of a stop is live behind it, and so before it
  listed : (b : Bool) (l : Live) → stays row.stop ≡ b → IsIn l (live_list o.code q row) →
      IsIn l.variable (live_in line) × IsIn l.variable (live_first (drop (suc q) o.code))
  listed true l s h =
      let w = in_without row.into (live_at o.code (suc q)) l (rw s at h) in
      let behind =
      going_on d p number o row.stop
      (IsTaken d p row.gives row.into × Behind d p (drop (suc q) o.code) row.gives row.into line.live) typed.behind s in
      let start : IsIn l (live_at (drop (suc q) o.code) 0) = subst (λ z. IsIn l z) (sym (live_at_start o.code (suc q))) w.0 in
      let both = behind.1.1 l.variable l.of start in (
        ⊎_elim
            (λ (g : IsGiven d p row.gives row.into l.variable l.of). absurd (written_by d p l.variable row.gives row.into l.of w.1 g))
            (λ (g : (row.into ≢ Some l.variable) × Has line.live l.variable l.of). has_in line.live l.variable l.of g.1)
            both,
        live_first_of o.code (suc q) l w.0,
      )
  listed false l s h = absurd (rw s at h)

  pub live_there : (l : Live) → IsIn l (live_list o.code q row) →
      IsIn l.variable (live_in line) × IsIn l.variable (live_first (drop (suc q) o.code))
  live_there l h = listed (stays row.stop) l refl h

  pub live_meet : (x y : Variable) → IsIn x (live_in line) → IsIn y (live_in line) → x ≢ y → Meet o.code x y
  live_meet x y h k ne = (ne, met_live o.code q line x y there h k)

  pub result_meets : (to x : Variable) → row.into ≡ Some to → IsIn x (live_first (drop (suc q) o.code)) → to ≢ x → Meet o.code to x
  result_meets to x w h ne = (ne, met_written o.code q line to x there (writes_into ∙ w) h)

  pub meets_result : (to x : Variable) → row.into ≡ Some to → IsIn x (live_first (drop (suc q) o.code)) → x ≢ to → Meet o.code x to
  meets_result to x w h ne = (ne, met_there o.code q line x to there (writes_into ∙ w) h)
