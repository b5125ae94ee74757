-- Pieces of an operation's code that are well typed, each from what is held before it, where the code behind it is as
-- wanted.
use Rattle.std.proofs.Common.{◌≡◌, ℕ, zero, suc, ◌+◌, ◌<◌, inl, inr, ⊎_elim, List, [], ◌∷◌, ◌++◌, take, drop, length}
use Rattle.std.proofs.Common.{Some, None, refl, sym, ap, ap₂, ◌∙◌, subst, arith, append_assoc, append-nil}
use Rattle.std.specs.Prelude.{slice_get}
use Rattle.ec_code.specs.declared.code.Line.{Line}
use Rattle.ec_code.specs.declared.code.Live.{Live}
use Rattle.ec_code.specs.declared.code.Op.{Op}
use Rattle.ec_code.specs.declared.code.Operation.{Operation}
use Rattle.ec_code.specs.declared.code.Parts.{Parts}
use Rattle.ec_code.specs.declared.code.Variable.{Variable}
use Rattle.ec_code.specs.declared.code.Variable.TheVariants.{Named, Temporary}
use Rattle.ec_code.specs.Fine.{IsIn, Has, live_at, divisor_of, divisor_at, EachLeadsOn, LeadsOn, Writes, FitsHere}
use Rattle.ec_code.specs.Typing.{Declared}
use Rattle.ec_types.specs.declared.conform.static_type.StaticType.{StaticType}
use Rattle.ec_accepted.proofs.Frames.{Held, Frame, Opens, Within, context, one_more, in_frame, named_there, put_same}
use Rattle.ec_accepted.proofs.Frames.{put_other}
use Rattle.ec_emission.specs.Types.{Around, type_at, put_type, with_written, variable_type, written_type, behind}
use Rattle.ec_accepted.specs.Wide.{ops_of, WideOp, WideCode, AgreeFrom, IsWide}
use Rattle.ec_code.proofs.Among.{in_append}
use Rattle.ec_code.specs.Live.{writes}

ops_append : (xs ys : List Line) → ops_of (xs ++ ys) ≡ ops_of xs ++ ops_of ys
ops_append [] ys = refl
ops_append (x ∷ xs) ys = ap (λ z. x.op ∷ z) (ops_append xs ys)

abbrev no_lines : List Line
no_lines = []

drop_nothing : (n : ℕ) → drop n no_lines ≡ no_lines
drop_nothing zero = refl
drop_nothing (suc n) = refl

drop_from : (all xs rest : List Line) → all ≡ xs ++ rest → drop (length xs) all ≡ rest
drop_from all [] rest e = e
drop_from [] (x ∷ xs) rest e = cc
drop_from (a ∷ all) (x ∷ xs) rest e = drop_from all xs rest (let f : all ≡ xs ++ rest = cc in f)

drop_behind : (all xs rest : List Line) (place : ℕ) → drop place all ≡ xs ++ rest → drop (place + length xs) all ≡ rest
drop_behind all xs rest zero e =
    let at : 0 + length xs ≡ length xs = omega arith in
    ap (λ n. drop n all) at ∙ drop_from all xs rest e
drop_behind [] [] rest (suc place) e = drop_nothing (suc place + 0) ∙ e
drop_behind [] (x ∷ xs) rest (suc place) e = cc
drop_behind (a ∷ all) xs rest (suc place) e =
    let at : suc place + length xs ≡ suc (place + length xs) = omega arith in
    ap (λ n. drop n (a ∷ all)) at ∙ drop_behind all xs rest place e

type_there : (ts : List StaticType) (n k : ℕ) (t : StaticType) → slice_get (take n ts) k ≡ Some t → type_at ts k ≡ t
type_there ts zero k t e = cc
type_there [] (suc n) k t e = cc
type_there (s ∷ ts) (suc n) zero t e = let same : s ≡ t = cc in same
type_there (s ∷ ts) (suc n) (suc k) t e = type_there ts n k t e

-- the operation that the code is of, and its number in a program
pub record Setting : Type 0 where
  pub declared : Declared
  pub parts : Parts
  pub number : ℕ
  pub operation : Operation

abbrev pub around_of : Setting → Around
around_of w = record {
  declared = w.declared;
  constants = w.parts.constants;
  class = w.operation.class;
  variables = w.operation.variables;
}

module _ (w : Setting) where
  -- a value of the one type may stand where the other is wanted
  abbrev pub FitsAs : StaticType → StaticType → Type 0
  FitsAs s t = FitsHere w.declared w.parts s t

  abbrev pub lives : Frame → List Live
  lives f = context w.operation.variables f

  abbrev pub Agrees : List StaticType → List Live → Type 0
  Agrees ts live = (x : Variable) (t : StaticType) → Has live x t → variable_type (around_of w) ts x ≡ t

  -- a step is well typed at a place, among all lines of the code and before the rest of them
  abbrev pub IsFineAt : List Line → ℕ → List Line → List Live → Op → Type 0
  IsFineAt all place rest live step = WideOp w.declared w.parts w.number w.operation all place rest live step

  abbrev pub LeadsTo : List Line → Op → Type 0
  LeadsTo rest step = LeadsOn w.declared w.parts w.number w.operation rest step

  pub record FineStep (all : List Line) (place : ℕ) (rest : List Line) (line : Line) : Type 0 where
    pub typed : IsFineAt all place rest line.live line.op
    pub agrees : (ts : List StaticType) → Agrees ts line.live → Agrees (behind (around_of w) ts line.op) (live_at rest 0)
    pub leads : LeadsTo rest line.op

  abbrev pub FineSteps : List Line → ℕ → List Line → List Line → Type 0
  FineSteps all place [] rest = Unit {0}
  FineSteps all place (l ∷ ls) rest = FineStep all place (ls ++ rest) l × FineSteps all (suc place) ls rest

  -- Each named variable in these lines is one of the operation's.
  abbrev AllNamed : List Line → Type 0
  AllNamed lines = (l : Line) → IsIn l lines → (n : ℕ) (t : StaticType) → Has l.live (Named n) t →
      n < length w.operation.variables

  -- These steps, from a frame on; `Wanted` is what is wanted of the lines behind them.
  pub record Piece (ops : List Op) (f : Frame) (Wanted : List Line → Type 0) : Type 0 where
    pub lines : List Line
    pub are : ops_of lines ≡ ops
    pub opens : (rest : List Line) → Wanted rest → Opens w.operation.variables (lines ++ rest) f
    pub steps : (all : List Line) (place : ℕ) (rest : List Line) → drop place all ≡ lines ++ rest → Wanted rest →
        FineSteps all place lines rest
    pub named : AllNamed lines

  abbrev pub From : Frame → List Line → Type 0
  From f rest = Opens w.operation.variables rest f

  -- the code of what leaves a frame
  abbrev pub Leads : List Op → Frame → Frame → Type 0
  Leads ops f g = Piece ops f (From g)

  steps_append :
      (all xs ys rest : List Line) (place : ℕ) → FineSteps all place xs (ys ++ rest) →
      FineSteps all (place + length xs) ys rest → FineSteps all place (xs ++ ys) rest
  steps_append all [] ys rest place h k =
      let at : place + 0 ≡ place = omega arith in subst (λ j. FineSteps all j ys rest) at k
  steps_append all (x ∷ xs) ys rest place h k =
      let at : place + suc (length xs) ≡ suc place + length xs = omega arith in (
        subst (λ z. FineStep all place z x) (sym (append_assoc xs ys rest)) h.0,
        steps_append all xs ys rest (suc place) h.1 (subst (λ j. FineSteps all j ys rest) at k),
      )

  -- ---- named variables

  pub none_named : AllNamed []
  none_named l i n t has = absurd i

  -- a line of a frame, and others behind it
  pub one_named : (f : Frame) (step : Op) (ls : List Line) → AllNamed ls →
      AllNamed (record { op = step; live = lives f } ∷ ls)
  one_named f step ls h l (inl e) n t has =
      named_there w.operation.variables f n t (subst (λ (z : Line). Has z.live (Named n) t) e has)
  one_named f step ls h l (inr i) n t has = h l i n t has

  -- ---- what a frame opens with

  pub opened_live : (rest : List Line) (f : Frame) → From f rest → live_at rest 0 ≡ lives f
  opened_live [] f h = absurd h
  opened_live (l ∷ ls) f h = h.0

  pub opened_long : (rest : List Line) (f : Frame) → From f rest → 0 < length rest
  opened_long [] f h = absurd h
  opened_long (l ∷ ls) f h = let long : 0 < suc (length ls) = omega arith in long

  pub opened_divisor : (rest : List Line) (f : Frame) → From f rest → divisor_at rest 0 ≡ None
  opened_divisor [] f h = absurd h
  opened_divisor (l ∷ ls) f h = h.1

  -- ---- a step that writes the next temporary

  pub writes_next :
      (known : ℕ) (t : StaticType) (hs us : Held) → Within hs us → FitsAs t t → (rest : List Line) →
      From (record { known = known; held = Some t ∷ hs }) rest →
      Writes w.declared w.parts rest (Temporary (length hs)) t (lives (record { known = known; held = us }))
  writes_next known t hs us within fits rest opens =
      let f : Frame = record { known = known; held = Some t ∷ hs } in (
        opened_long rest f opens,
        λ x s has.
            ⊎_elim (λ r. inl (r.0, subst (λ z. FitsAs t z) (sym r.1) fits)) (λ r. inr r)
            (one_more w.operation.variables known t hs us within x s
            (subst (λ z. Has z x s) (opened_live rest f opens) has)),
      )

  put_agrees :
      (ts : List StaticType) (n : ℕ) (t : StaticType) (x : Variable) → (x ≡ Temporary n → ⊥) →
      variable_type (around_of w) (put_type ts n t) x ≡ variable_type (around_of w) ts x
  put_agrees ts n t (Named k) ne = refl
  put_agrees ts n t (Temporary k) ne = put_other ts n k t (λ e. ne (ap Temporary e))

  pub agrees_next :
      (known : ℕ) (t : StaticType) (hs us : Held) → Within hs us → (step : Op) →
      writes step ≡ Some (Temporary (length hs)) →
      (ts : List StaticType) → written_type (around_of w) ts step ≡ t → (rest : List Line) →
      From (record { known = known; held = Some t ∷ hs }) rest → Agrees ts (lives (record { known = known; held = us })) →
      Agrees (behind (around_of w) ts step) (live_at rest 0)
  agrees_next known t hs us within step to ts of rest opens agrees x s has =
      let f : Frame = record { known = known; held = Some t ∷ hs } in
      let ts_behind : behind (around_of w) ts step ≡ put_type ts (length hs) t = ap₂ (with_written ts) to of in
      ⊎_elim
      (λ r.
      subst (λ z. variable_type (around_of w) z x ≡ s) (sym ts_behind)
      (subst (λ y. variable_type (around_of w) (put_type ts (length hs) t) y ≡ s) (sym r.0)
      (put_same ts (length hs) t ∙ sym r.1)))
      (λ r.
      subst (λ z. variable_type (around_of w) z x ≡ s) (sym ts_behind) (put_agrees ts (length hs) t x r.0 ∙ agrees x s r.1))
      (one_more w.operation.variables known t hs us within x s (subst (λ z. Has z x s) (opened_live rest f opens) has))

  -- ---- whole code

  typed_all :
      (all : List Line) (place : ℕ) (ls : List Line) → FineSteps all place ls [] →
      WideCode w.declared w.parts w.number w.operation all place ls
  typed_all all place [] h = tt
  typed_all all place (l ∷ ls) h =
      (subst (λ z. IsFineAt all place z l.live l.op) (append-nil ls) h.0.typed, typed_all all (suc place) ls h.1)

  leads_all :
      (all : List Line) (place : ℕ) (ls : List Line) → FineSteps all place ls [] →
      EachLeadsOn w.declared w.parts w.number w.operation ls
  leads_all all place [] h = tt
  leads_all all place (l ∷ ls) h =
      (subst (λ z. LeadsTo z l.op) (append-nil ls) h.0.leads, leads_all all (suc place) ls h.1)

  agree_all :
      (all : List Line) (place : ℕ) (ls : List Line) (ts : List StaticType) → Agrees ts (live_at ls 0) →
      FineSteps all place ls [] → AgreeFrom (around_of w) ts ls
  agree_all all place [] ts agrees h = tt
  agree_all all place (l ∷ ls) ts agrees h = (
    agrees,
    agree_all all (suc place) ls (behind (around_of w) ts l.op)
        (subst (λ z. Agrees (behind (around_of w) ts l.op) (live_at z 0)) (append-nil ls) (h.0.agrees ts agrees)) h.1,
  )

  named_agree : (known : ℕ) → Agrees [] (lives (record { known = known; held = [] }))
  named_agree known x t has =
      let f : Frame = record { known = known; held = [] } in
      ⊎_elim
      (λ r. subst (λ z. variable_type (around_of w) [] z ≡ t) (sym r.1) (type_there w.operation.variables known r.0 t r.2))
      (λ r. absurd r.2)
      (in_frame w.operation.variables f x t has)

module _ {w : Setting} where
  -- one behind the other
  pub in_turn :
      {a b : List Op} {f g : Frame} {B C : List Line → Type 0} → Piece w a f B → (y : Piece w b g C) →
      ((rest : List Line) → C rest → From w g (y.lines ++ rest) → B (y.lines ++ rest)) → Piece w (a ++ b) f C
  in_turn {a} {b} {f} {g} {B} {C} x y join = record {
    lines = x.lines ++ y.lines;
    are = ops_append x.lines y.lines ∙ ap (λ z. z ++ ops_of y.lines) x.are ∙ ap (λ z. a ++ z) y.are;
    opens = λ rest c.
        subst (λ z. Opens w.operation.variables z f) (sym (append_assoc x.lines y.lines rest))
        (x.opens (y.lines ++ rest) (join rest c (y.opens rest c)));
    steps = λ all place rest e c.
        let there : drop place all ≡ x.lines ++ (y.lines ++ rest) = e ∙ append_assoc x.lines y.lines rest in
        steps_append w all x.lines y.lines rest place
        (x.steps all place (y.lines ++ rest) there (join rest c (y.opens rest c)))
        (y.steps all (place + length x.lines) rest (drop_behind all x.lines (y.lines ++ rest) place there) c);
    named = λ l i n t has.
        ⊎_elim (λ k. x.named l k n t has) (λ k. y.named l k n t has) (in_append l x.lines y.lines i);
  }

  pub go_on :
      {a b : List Op} {f g : Frame} {C : List Line → Type 0} → Leads w a f g → Piece w b g C → Piece w (a ++ b) f C
  go_on x y = in_turn x y (λ rest c opens. opens)

  -- no step
  pub silent : {f : Frame} {B : List Line → Type 0} → ((rest : List Line) → B rest → From w f rest) → Piece w [] f B
  silent h =
      record { lines = []; are = refl; opens = h; steps = λ all place rest e b. tt; named = none_named w }

  pub nothing : {f : Frame} → Leads w [] f f
  nothing = silent (λ rest h. h)

  -- a step alone, which divides by nothing
  pub one_step :
      {f : Frame} {B : List Line → Type 0} → (step : Op) → divisor_of step ≡ None →
      ((all : List Line) (place : ℕ) (rest : List Line) → B rest →
      drop place all ≡ record { op = step; live = lives w f } ∷ rest →
      FineStep w all place rest (record { op = step; live = lives w f })) →
      Piece w (step ∷ []) f B
  one_step {f} step none fine = record {
    lines = record { op = step; live = lives w f } ∷ [];
    are = refl;
    opens = λ rest b. (refl, none);
    steps = λ all place rest e b. (fine all place rest b e, tt);
    named = one_named w f step [] (none_named w);
  }

  pub pushes :
      (known : ℕ) (t : StaticType) (hs us : Held) → Within hs us → FitsAs w t t → (step : Op) → divisor_of step ≡ None →
      writes step ≡ Some (Temporary (length hs)) →
      ((ts : List StaticType) → Agrees w ts (lives w (record { known = known; held = us })) →
      written_type (around_of w) ts step ≡ t) →
      ((all : List Line) (place : ℕ) (rest : List Line) →
      Writes w.declared w.parts rest (Temporary (length hs)) t (lives w (record { known = known; held = us })) →
      IsFineAt w all place rest (lives w (record { known = known; held = us })) step) →
      ((rest : List Line) → divisor_at rest 0 ≡ None → LeadsTo w rest step) →
      Leads w (step ∷ []) (record { known = known; held = us }) (record { known = known; held = Some t ∷ hs })
  pushes known t hs us within fits step none to of typed leads =
      one_step step none
      (λ all place rest opens e.
      record {
        typed = typed all place rest (writes_next w known t hs us within fits rest opens);
        agrees = λ ts agrees. agrees_next w known t hs us within step to ts (of ts agrees) rest opens agrees;
        leads = leads rest (opened_divisor w rest (record { known = known; held = Some t ∷ hs }) opens);
      })

  -- Whole code that begins with no temporary held is wide.
  pub whole :
      {ops : List Op} (known : ℕ) → (x : Piece w ops (record { known = known; held = [] }) (λ rest. rest ≡ [])) →
      IsWide w.declared w.parts w.number w.operation (around_of w) ops x.lines
  whole known x =
      let f : Frame = record { known = known; held = [] } in
      let fine = x.steps x.lines 0 [] (sym (append-nil x.lines)) refl in
      let opens : Opens w.operation.variables x.lines f =
      subst (λ z. Opens w.operation.variables z f) (append-nil x.lines) (x.opens [] refl) in
      record {
        are = x.are;
        typed = typed_all w x.lines 0 x.lines fine;
        agree =
            agree_all w x.lines 0 x.lines []
            (subst (λ z. Agrees w [] z) (sym (opened_live w x.lines f opens)) (named_agree w known)) fine;
        divisions = leads_all w x.lines 0 x.lines fine;
      }
