-- When silent steps of the source and of its code come to the same stop.
use Rattle.std.proofs.Common.{◌≡◌, ℕ, suc, ◌+◌, ◌≤◌, List, [], ◌∷◌, ◌++◌, length, Option, Some, None, refl, sym, ap, ◌∙◌, subst}
use Rattle.std.proofs.Common.{arith}
use Rattle.std.specs.Prelude.{slice_get}
use Rattle.ec_base.specs.Stack.{below_of}
use Rattle.ec_code.proofs.Held.{all_held}
use Rattle.ec_code.specs.Activations.{Arrived}
use Rattle.ec_code.specs.SoundValues.{AreHeld}
use Rattle.ec_code.specs.Steps as code_steps
use Rattle.ec_code.specs.Steps.{Machine, Done, act, operand_at, variables_at, with_variable}
use Rattle.ec_code.specs.declared.code.Line.{Line}
use Rattle.ec_code.specs.declared.code.Op.{Op}
use Rattle.ec_code.specs.declared.code.Op.TheVariants as op
use Rattle.ec_code.specs.declared.code.Operand.{Operand}
use Rattle.ec_code.specs.declared.code.StopRow.{StopRow}
use Rattle.ec_code.specs.declared.code.Variable.TheVariants as variable
use Rattle.ec_types.specs.declared.conform.static_type.StaticType.{StaticType}
use Rattle.ec_core.specs.declared.Block.{Block}
use Rattle.ec_meaning.proofs.Settling.{one_step, from_after}
use Rattle.ec_meaning.specs.Meaning.{Reached, reached, settle}
use Rattle.ec_meaning.specs.Programs.{Source}
use Rattle.ec_meaning.specs.Running.{after}
use Rattle.ec_meaning.specs.Steps.{Step, Goes, NoCase, block_items, captured_of, gives, gives_if, holding, last, last_two, pushed}
use Rattle.ec_meaning.specs.Steps.{step, with_last}
use Rattle.ec_meaning.specs.Weights.{weight}
use Rattle.ec_meaning.specs.declared.item.Item.{Item}
use Rattle.ec_meaning.specs.declared.item.Item.TheVariants as i
use Rattle.ec_meaning.specs.declared.state.State.{State}
use Rattle.ec_meaning.specs.declared.state.Whose.{Whose}
use Rattle.ec_emission.proofs.Holding.{Has, HoldsAll, holds_kept, holds_own, holds_push, reads}
use Rattle.ec_emission.specs.Ops.{ops}
use Rattle.ec_emission.proofs.Walking.{from, from_done, one_op}
use Rattle.ec_emission.specs.Rows.{into_if}
use Rattle.ec_emission.specs.Stands.{Hold, Kept, Own, IsInvocation, IsLast, Stands, one_more, read}
use Rattle.ec_world.specs.declared.common.Common.{Common}
use Rattle.ec_world.specs.declared.stop.Stop.{Stop}
use Rattle.ec_world.specs.declared.value.Value.{Value}
use Rattle.ec_world.specs.declared.value.Value.TheVariants as value
use Rattle.ec_world.specs.Objects.{object_at}

abbrev pub under : State → State
under st = holding st (below_of st.held)

-- An operation's code: the source and the operation's number, how many names the class of its objects captures, how many named
-- variables there are, the program's literals, and the code, with its lines and the loops in it.
pub record Routine : Type 1 where
  pub source : Source
  pub number : ℕ
  pub captured : ℕ
  pub count : ℕ
  pub literals : List (List ℕ)
  pub code : List Op
  pub lines : List Line
  pub same : code ≡ ops lines
  pub Loop : ℕ → ℕ → Block → Type 0
  pub loops_stand : (top again : ℕ) (b : Block) (xs : List Item) → Loop top again b →
      Stands source number captured count literals code Loop [] (suc again) xs →
      Stands source number captured count literals code Loop [] (suc top) (block_items b ++ i.Again b ∷ xs)

module _ (r : Routine) where
  abbrev pub StandsIn : List Hold → ℕ → List Item → Type 0
  StandsIn hs q xs = Stands r.source r.number r.captured r.count r.literals r.code r.Loop hs q xs

  abbrev pub IsAt : ℕ → Op → Type 0
  IsAt q o = slice_get r.code q ≡ Some o

  -- what is behind a stop at a place that gives a value of a type, or none
  pub data Behind (action : Stop) (gives : Option StaticType) (hs : List Hold) (place : ℕ) (items : List Item) : Type 0 where
    goes_on : StandsIn (one_more gives hs) (suc place) items → Behind action gives hs place items
    is_last : IsLast action → Behind action gives hs place items

module _ (r : Routine) (own : ℕ) where
  abbrev pub itself : Whose
  itself = record { operation = r.number; own = own }

  -- the own object's class captures as many names as the code was made for
  abbrev pub Owns : Common → Type 0
  Owns c = captured_of r.source (object_at c.objects own) ≡ r.captured

  -- a state of the source, with so many values held, and a machine of the code
  pub record Fits (hs : List Hold) (st : State) (m : Machine) : Type 0 where
    pub common : st.common ≡ m.common
    pub variables : st.variables ≡ m.variables
    pub many : r.count ≤ length m.variables
    pub held : HoldsAll own m.variables m.temporaries hs st.held
    pub owns : Owns m.common

  pub record AtStop (x : Reached) (y : Arrived) : Type 0 where
    pub action : x.action ≡ y.action
    pub operands : x.operands ≡ y.operands
    -- Those of an invocation are the values of the variables that the row there names.
    pub reads :
        IsInvocation y.action → (row : StopRow) → IsAt r y.place (op.Rest row) →
        AreHeld row.operands y.variables y.temporaries y.operands
    pub variables : x.variables ≡ y.variables
    pub many : r.count ≤ length y.variables
    pub holds : List Hold
    pub held : HoldsAll own y.variables y.temporaries holds x.held
    pub gives : Option StaticType
    pub into : y.into ≡ into_if gives (length holds)
    pub behind : Behind r y.action gives holds y.place x.items

  abbrev pub AtStops : Option Reached → Option Arrived → Type 0
  AtStops None None = Unit {0}
  AtStops (Some x) (Some y) = AtStop x y
  AtStops None (Some y) = ⊥
  AtStops (Some x) None = ⊥

  pub record Matched (x : Common × Option Reached) (y : Common × Option Arrived) : Type 0 where
    pub common : x.0 ≡ y.0
    pub owns : Owns y.0
    pub stops : AtStops x.1 y.1

  -- ---- values that are held

  pub fits_push : (hs : List Hold) (st : State) (m : Machine) (h : Hold) (v : Value) → Has own m.variables m.temporaries (length hs) h v →
      Fits hs st m → Fits (h ∷ hs) (pushed st v) m
  fits_push hs st m h v a f = record {
    common = f.common;
    variables = f.variables;
    many = f.many;
    held = holds_push own m.variables m.temporaries hs st.held h v a f.held;
    owns = f.owns;
  }

  pub fits_kept : (hs : List Hold) (st : State) (m : Machine) (v : Value) → Fits hs st m →
      Fits (Kept ∷ hs) (pushed st v) (with_variable m (variable.Temporary (length hs)) v)
  fits_kept hs st m v f = record {
    common = f.common;
    variables = f.variables;
    many = f.many;
    held = holds_kept own m.variables m.temporaries hs st.held v f.held;
    owns = f.owns;
  }

  -- the own object, in the temporary above the others
  pub fits_own : (hs : List Hold) (st : State) (m : Machine) → Fits hs st m →
      Fits (Own ∷ hs) (pushed st (value.Ref own)) (with_variable m (variable.Temporary (length hs)) (value.Ref own))
  fits_own hs st m f = record {
    common = f.common;
    variables = f.variables;
    many = f.many;
    held = holds_own own m.variables m.temporaries hs st.held f.held;
    owns = f.owns;
  }

  pub fits_holding : (hs : List Hold) (st : State) (m : Machine) (ks : List Hold) (held : List Value) →
      HoldsAll own m.variables m.temporaries ks held → Fits hs st m → Fits ks (holding st held) m
  fits_holding hs st m ks held a f =
      record { common = f.common; variables = f.variables; many = f.many; held = a; owns = f.owns }

  -- the value held last
  pub record Top (h : Hold) (hs : List Hold) (st : State) (m : Machine) : Type 0 where
    pub value : Value
    pub is : (go : State → Value → Step) → last st go ≡ go (under st) value
    pub here : (x : Operand) → read (length hs) h ≡ Some x → operand_at m x ≡ Some value
    pub fits : Fits hs (under st) m

  pub top : {h : Hold} {hs : List Hold} (st : State) (m : Machine) → Fits (h ∷ hs) st m → Top h hs st m
  top {h = h} {hs = hs} st m f = record {
    value = f.held.value;
    is = λ go. ap (with_last st go) f.held.is;
    here = λ x r. reads own m (length hs) h f.held.value x f.held.here r;
    fits = fits_holding (h ∷ hs) st m hs (below_of st.held) f.held.below f;
  }

  -- the two values held last
  pub record TopTwo (k h : Hold) (hs : List Hold) (st : State) (m : Machine) : Type 0 where
    pub first : Value
    pub second : Value
    pub is : (go : State → Value → Value → Step) → last_two st go ≡ go (under (under st)) first second
    pub here : (x : Operand) → read (length hs) h ≡ Some x → operand_at m x ≡ Some first
    pub here_too : (y : Operand) → read (suc (length hs)) k ≡ Some y → operand_at m y ≡ Some second
    pub fits : Fits hs (under (under st)) m

  pub top_two : {k h : Hold} {hs : List Hold} (st : State) (m : Machine) → Fits (k ∷ h ∷ hs) st m → TopTwo k h hs st m
  top_two st m f =
      let t = top st m f in
      let l = top (under st) m t.fits in
      record {
        first = l.value;
        second = t.value;
        is = λ go. t.is (λ w v. last w (λ z u. go z u v)) ∙ l.is (λ z u. go z u t.value);
        here = l.here;
        here_too = t.here;
        fits = l.fits;
      }

  -- ---- steps

  abbrev pub settled : State → List Item → Common × Option Reached
  settled st items = settle r.source itself (weight items) st items

  abbrev pub left : State → List Item → Step → Common × Option Reached
  left st xs z = from_after r.source itself (after st xs z)

  abbrev pub walked : ℕ → Machine → Common × Option Arrived
  walked q m = from r.literals own r.lines q m

  abbrev pub done : ℕ → Machine → Done → Common × Option Arrived
  done q m d = from_done r.literals own r.lines q m d

  -- from each state and machine that fit
  abbrev pub Meets : List Hold → ℕ → List Item → Type 0
  Meets hs q items = (st : State) (m : Machine) → Fits hs st m → Matched (settled st items) (walked q m)

  pub silent : (st : State) (x : Item) (xs : List Item) (y : Common × Option Arrived) (z : Step) → step r.source itself st x ≡ z →
      Matched (left st xs z) y → Matched (settled st (x ∷ xs)) y
  silent st x xs y z e b = subst (λ k. Matched k y) (sym (one_step r.source itself st x xs ∙ ap (λ k. left st xs k) e)) b

  pub by_op : (x : Common × Option Reached) (q : ℕ) (m : Machine) (o : Op) (d : Done) → IsAt r q o →
      act r.literals own m o ≡ d → Matched x (done q m d) → Matched x (walked q m)
  by_op x q m o d is g b =
      let e : walked q m ≡ done q m d =
      one_op r.literals own r.lines q o m (ap (λ l. slice_get l q) (sym r.same) ∙ is) ∙ ap (done q m) g in
      subst (Matched x) (sym e) b

  pub at_place : (x : Common × Option Reached) (n k : ℕ) (m : Machine) → k ≡ n → Matched x (walked n m) → Matched x (walked k m)
  at_place x n k m e h = subst (λ j. Matched x (walked j m)) (sym e) h

  -- the step behind
  pub next : (x : Common × Option Reached) (q : ℕ) (m : Machine) → Matched x (walked (suc q) m) →
      Matched x (done q m (code_steps.Goes m 0))
  next x q m h = at_place x (suc q) (suc (q + 0)) m (omega arith) h

  -- there is no case
  pub stuck : (st : State) (m : Machine) (hs : List Hold) → Fits hs st m → Matched (st.common, None) (m.common, None)
  stuck st m hs f = record { common = f.common; owns = f.owns; stops = tt }

  -- an item that goes on, and one step of the code
  pub goes : (x : Item) (xs : List Item) (q : ℕ) (o : Op) (hs : List Hold) (st new : State) (m after : Machine) →
      step r.source itself st x ≡ Goes new [] → IsAt r q o → act r.literals own m o ≡ code_steps.Goes after 0 →
      Fits hs new after → Meets hs (suc q) xs → Matched (settled st (x ∷ xs)) (walked q m)
  goes x xs q o hs st new m after e is g f k =
      silent st x xs (walked q m) (Goes new []) e
      (by_op (settled new xs) q m o (code_steps.Goes after 0) is g (next (settled new xs) q after (k new after f)))

  -- an item that gives a value above others, and one step of the code
  pub gives_on : (x : Item) (xs : List Item) (q : ℕ) (o : Op) (ks hs : List Hold) (st new : State) (m : Machine) (v : Option Value) →
      step r.source itself st x ≡ gives_if new v → IsAt r q o →
      act r.literals own m o ≡ code_steps.gives m (variable.Temporary (length hs)) v → Fits ks st m → Fits hs new m →
      Meets (Kept ∷ hs) (suc q) xs → Matched (settled st (x ∷ xs)) (walked q m)
  gives_on x xs q o ks hs st new m None e is g f h k =
      silent st x xs (walked q m) NoCase e (by_op (st.common, None) q m o code_steps.NoCase is g (stuck st m ks f))
  gives_on x xs q o ks hs st new m (Some v) e is g f h k =
      goes x xs q o (Kept ∷ hs) st (pushed new v) m (with_variable m (variable.Temporary (length hs)) v) e is g
      (fits_kept hs new m v h) k

  -- ---- stops

  pub stops : (hs : List Hold) (q : ℕ) (row : StopRow) (operands : List Value) (items : List Item) (gives : Option StaticType)
      (st : State) (m : Machine) → IsAt r q (op.Rest row) →
      act r.literals own m (op.Rest row) ≡ code_steps.Rests row operands → row.into ≡ into_if gives (length hs) →
      (IsInvocation row.stop → variables_at m row.operands ≡ Some operands) → Fits hs st m →
      Behind r row.stop gives hs q items → Matched (st.common, Some (reached row.stop operands st items)) (walked q m)
  stops hs q row operands items gives st m is g i held f b =
      by_op (st.common, Some (reached row.stop operands st items)) q m (op.Rest row) (code_steps.Rests row operands) is g
      (record {
        common = f.common;
        owns = f.owns;
        stops = record {
          action = refl;
          operands = refl;
          reads = λ invokes other at.
              let same : Some (op.Rest row) ≡ Some (op.Rest other) = sym is ∙ at in
              let rows : row ≡ other = cc in
              subst (λ (z : StopRow). AreHeld z.operands m.variables m.temporaries operands) rows
              (all_held m row.operands operands (held invokes));
          variables = f.variables;
          many = f.many;
          holds = hs;
          held = f.held;
          gives = gives;
          into = i;
          behind = b;
        };
      })
