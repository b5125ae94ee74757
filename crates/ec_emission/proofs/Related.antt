-- Activations of the source, and those of its code that follow them.
use Rattle.std.proofs.Common.{◌≡◌, ℕ, suc, Bool, true, false, List, [], length, reverse, Option, Some, None, refl, sym, ap, ◌∙◌, subst}
use Rattle.std.proofs.lemmas.Bool.{true≢false}
use Rattle.std.proofs.lemmas.Option.{same_Some}
use Rattle.std.specs.Prelude.{is_some, slice_get}
use Rattle.ec_code.specs.Activations as of_code
use Rattle.ec_code.specs.Activations.{Arrived, code_meaning, into_variable, operation_at}
use Rattle.ec_code.specs.declared.activation.CodeActivation.{CodeActivation}
use Rattle.ec_code.specs.declared.code.Op.TheVariants as op
use Rattle.ec_code.specs.declared.code.Operation.{Operation}
use Rattle.ec_code.specs.declared.code.Parts.{Parts}
use Rattle.ec_code.specs.declared.code.StopRow.{StopRow}
use Rattle.ec_code.specs.declared.code.Variable.{Variable}
use Rattle.ec_code.specs.declared.code.Variable.TheVariants as variable
use Rattle.ec_code.specs.Typing.{Declared}
use Rattle.ec_types.specs.declared.conform.static_type.StaticType.{StaticType}
use Rattle.ec_meaning.specs.Activations as of_source
use Rattle.ec_meaning.specs.Activations.{source_meaning}
use Rattle.ec_meaning.specs.Meaning.{Reached}
use Rattle.ec_meaning.specs.Programs.{Source}
use Rattle.ec_meaning.specs.Steps.{captured_by}
use Rattle.ec_meaning.specs.declared.activation.SourceActivation.{SourceActivation}
use Rattle.ec_code.specs.SoundValues.{AreHeld, class_in}
use Rattle.ec_emission.proofs.StandsGoing.{GivenAs}
use Rattle.ec_emission.proofs.Meeting.{AtStop, Routine, StandsIn}
use Rattle.ec_emission.specs.Ops.{ops}
use Rattle.ec_emission.specs.Rows.{into_if}
use Rattle.ec_emission.specs.Stands.{IsInvocation, one_more}
use Rattle.ec_world.specs.Agree.{SameRest}
use Rattle.ec_world.specs.declared.common.Common.{Common}
use Rattle.ec_world.specs.declared.stop.Stop.TheVariants.{Entry}
use Rattle.ec_world.specs.declared.value.Value.{Value}
use Rattle.ec_emission.proofs.Classes.{Stays}
use Rattle.ec_emission.specs.Agreement.{IsCodeOf, LoopsStand}
use Rattle.ec_emission.specs.AgreementLaws.{HoldsOperands}

-- ---- activations at stops

-- at the entry of an operation, with these arguments
abbrev pub source_entry : ℕ → ℕ → List Value → Bool → SourceActivation
source_entry number own arguments pending = record {
  operation = number;
  own = own;
  stop = Entry;
  operands = [];
  pending = pending;
  at_entry = true;
  variables = arguments;
  held = [];
  items = [];
}

abbrev pub code_entry : ℕ → ℕ → List Value → Bool → CodeActivation
code_entry number own arguments pending = record {
  operation = number;
  own = own;
  at = 0;
  stop = Entry;
  operands = [];
  into = None;
  pending = pending;
  variables = arguments;
  temporaries = [];
}

-- at a stop that was reached, whose action is to be done
abbrev pub source_at : ℕ → ℕ → Reached → SourceActivation
source_at number own x = record {
  operation = number;
  own = own;
  stop = x.action;
  operands = x.operands;
  pending = true;
  at_entry = false;
  variables = x.variables;
  held = x.held;
  items = reverse x.items;
}

abbrev pub code_at : ℕ → ℕ → Arrived → CodeActivation
code_at number own y = record {
  operation = number;
  own = own;
  at = y.place;
  stop = y.action;
  operands = y.operands;
  into = y.into;
  pending = true;
  variables = y.variables;
  temporaries = y.temporaries;
}

-- ---- actions that are done

abbrev pub Same : SourceActivation → CodeActivation → Type 0
Same a b = SameRest source_meaning code_meaning a b

into_same : (a : SourceActivation) (b : CodeActivation) (to : Option Variable) (v : Value) → Same a b →
    Same (of_source.finished a (Some v)) (into_variable b to v)
into_same a b None v h = record { operation = h.operation; own = h.own; stop = h.stop; pending = refl }
into_same a b (Some (variable.Named n)) v h = record { operation = h.operation; own = h.own; stop = h.stop; pending = refl }
into_same a b (Some (variable.Temporary k)) v h = record { operation = h.operation; own = h.own; stop = h.stop; pending = refl }

-- Activations that rest alike do so once their actions are done.
pub finished_same : (a : SourceActivation) (b : CodeActivation) (given : Option Value) → Same a b →
    Same (of_source.finished a given) (of_code.finished b given)
finished_same a b None h = record { operation = h.operation; own = h.own; stop = h.stop; pending = refl }
finished_same a b (Some v) h = into_same a b b.into v h

into_idle : (b : CodeActivation) (to : Option Variable) (v : Value) → (into_variable b to v).pending ≡ false
into_idle b None v = refl
into_idle b (Some (variable.Named n)) v = refl
into_idle b (Some (variable.Temporary k)) v = refl

pub finished_idle : (b : CodeActivation) (given : Option Value) → (of_code.finished b given).pending ≡ false
finished_idle b None = refl
finished_idle b (Some v) = into_idle b b.into v

into_twice : (b : CodeActivation) (to : Option Variable) (v : Value) →
    into_variable (record b { pending = false }) to v ≡ into_variable b to v
into_twice b None v = refl
into_twice b (Some (variable.Named n)) v = refl
into_twice b (Some (variable.Temporary k)) v = refl

-- what stays of an activation
pub source_keeps : (a : SourceActivation) (given : Option Value) →
    ((of_source.finished a given).operation ≡ a.operation) × ((of_source.finished a given).own ≡ a.own)
source_keeps a None = (refl, refl)
source_keeps a (Some v) = (refl, refl)

into_keeps : (b : CodeActivation) (to : Option Variable) (v : Value) →
    ((into_variable b to v).operation ≡ b.operation) × ((into_variable b to v).own ≡ b.own)
into_keeps b None v = (refl, refl)
into_keeps b (Some (variable.Named n)) v = (refl, refl)
into_keeps b (Some (variable.Temporary k)) v = (refl, refl)

pub code_keeps : (b : CodeActivation) (given : Option Value) →
    ((of_code.finished b given).operation ≡ b.operation) × ((of_code.finished b given).own ≡ b.own)
code_keeps b None = (refl, refl)
code_keeps b (Some v) = into_keeps b b.into v

-- A result may come later.
pub code_twice : (b : CodeActivation) (given : Option Value) → of_code.finished (of_code.finished b None) given ≡ of_code.finished b given
code_twice b None = refl
code_twice b (Some v) = into_twice b b.into v

pub source_twice : (a : SourceActivation) (given : Option Value) →
    of_source.finished (of_source.finished a None) given ≡ of_source.finished a given
source_twice a None = refl
source_twice a (Some v) = refl

-- what is given exactly where a variable takes it
pub given_as : (gives : Option StaticType) (h : ℕ) (given : Option Value) → is_some given ≡ is_some (into_if gives h) →
    GivenAs gives given
given_as None h None e = tt
given_as (Some of) h (Some v) e = tt
given_as None h (Some v) e = absurd (true≢false e)
given_as (Some of) h None e = absurd (true≢false (sym e))

-- ---- related ones

module _ (Loops : LoopsStand) (s : Source) (d : Declared) (p : Parts) (code_of : IsCodeOf Loops s d p) where
  -- the code of an operation, with what is known of it
  abbrev pub routine : (number : ℕ) (o : Operation) → operation_at p number ≡ Some o → Routine
  routine number o is = record {
    source = s;
    number = number;
    captured = captured_by s o.class;
    count = length o.variables;
    literals = p.literals;
    code = ops o.code;
    lines = o.code;
    same = refl;
    Loop = Loops s p number;
    loops_stand = (code_of.operations number o is).loops;
  }

  -- an operation on an object of its class
  pub record On (c : Common) (number own : ℕ) : Type 0 where
    pub code : Operation
    pub is : operation_at p number ≡ Some code
    pub class : class_in c.objects own ≡ Some code.class

  -- a stop of an operation to which both came
  pub record Meet (c : Common) (number own : ℕ) : Type 0 where
    pub on : On c number own
    pub reached : Reached
    pub arrived : Arrived
    pub same : AtStop (routine number on.code on.is) own reached arrived

  -- the code stands for what is to be done behind it
  abbrev pub StandsBehind : (c : Common) (number own : ℕ) → Meet c number own → Type 0
  StandsBehind c number own m =
      StandsIn (routine number m.on.code m.on.is) (one_more m.same.gives m.same.holds) (suc m.arrived.place) m.reached.items

  -- at the entry
  pub record AtEntry (c : Common) (a : SourceActivation) (b : CodeActivation) : Type 0 where
    pub number : ℕ
    pub own : ℕ
    pub on : On c number own
    pub arguments : List Value
    pub many : length arguments ≡ length on.code.parameters
    pub pending : Bool
    pub source : a ≡ source_entry number own arguments pending
    pub code : b ≡ code_entry number own arguments pending

  -- at a stop whose action is to be done
  pub record IsPending (c : Common) (a : SourceActivation) (b : CodeActivation) : Type 0 where
    pub number : ℕ
    pub own : ℕ
    pub meet : Meet c number own
    pub source : a ≡ source_at number own meet.reached
    pub code : b ≡ code_at number own meet.arrived

  -- its action is done, and its result is there, where it gives one
  pub record IsDone (c : Common) (a : SourceActivation) (b : CodeActivation) : Type 0 where
    pub number : ℕ
    pub own : ℕ
    pub meet : Meet c number own
    pub given : Option Value
    pub fits : GivenAs meet.same.gives given
    pub goes_on : StandsBehind c number own meet
    pub source : a ≡ of_source.finished (source_at number own meet.reached) given
    pub code : b ≡ of_code.finished (code_at number own meet.arrived) given

  -- its result is still to come
  pub record Waits (c : Common) (a : SourceActivation) (b : CodeActivation) : Type 0 where
    pub number : ℕ
    pub own : ℕ
    pub meet : Meet c number own
    pub goes_on : StandsBehind c number own meet
    pub source : a ≡ of_source.finished (source_at number own meet.reached) None
    pub code : b ≡ of_code.finished (code_at number own meet.arrived) None

  -- those that lie on top
  pub data Tops (c : Common) (a : SourceActivation) (b : CodeActivation) : Type 0 where
    is_at_entry : AtEntry c a b → Tops c a b
    is_pending : IsPending c a b → Tops c a b
    is_done : IsDone c a b → Tops c a b

  -- ---- how they rest

  meet_same : (c : Common) (number own : ℕ) (m : Meet c number own) → Same (source_at number own m.reached) (code_at number own m.arrived)
  meet_same c number own m = record { operation = refl; own = refl; stop = m.same.action; pending = refl }

  both_same : (a x : SourceActivation) (b y : CodeActivation) → a ≡ x → b ≡ y → Same x y → Same a b
  both_same a x b y e f h = subst (λ z. Same z b) (sym e) (subst (λ z. Same x z) (sym f) h)

  pub tops_same : (c : Common) (a : SourceActivation) (b : CodeActivation) → Tops c a b → Same a b
  tops_same c a b (is_at_entry k) =
      both_same a (source_entry k.number k.own k.arguments k.pending) b (code_entry k.number k.own k.arguments k.pending) k.source k.code
      (record { operation = refl; own = refl; stop = refl; pending = refl })
  tops_same c a b (is_pending k) =
      both_same a (source_at k.number k.own k.meet.reached) b (code_at k.number k.own k.meet.arrived) k.source k.code
      (meet_same c k.number k.own k.meet)
  tops_same c a b (is_done k) =
      let x : SourceActivation = source_at k.number k.own k.meet.reached in
      let y : CodeActivation = code_at k.number k.own k.meet.arrived in
      both_same a (of_source.finished x k.given) b (of_code.finished y k.given) k.source k.code
      (finished_same x y k.given (meet_same c k.number k.own k.meet))

  pub waits_same : (c : Common) (a : SourceActivation) (b : CodeActivation) → Waits c a b → Same a b
  waits_same c a b k =
      let x : SourceActivation = source_at k.number k.own k.meet.reached in
      let y : CodeActivation = code_at k.number k.own k.meet.arrived in
      both_same a (of_source.finished x None) b (of_code.finished y None) k.source k.code
      (finished_same x y None (meet_same c k.number k.own k.meet))

  -- the action of one that is done isn't to be done
  pub done_idle : (c : Common) (a : SourceActivation) (b : CodeActivation) → IsDone c a b → b.pending ≡ false
  done_idle c a b k =
      ap (λ (z : CodeActivation). z.pending) k.code ∙ finished_idle (code_at k.number k.own k.meet.arrived) k.given

  pub tops_operands : (c : Common) (a : SourceActivation) (b : CodeActivation) → Tops c a b → b.pending ≡ true → a.operands ≡ b.operands
  tops_operands c a b (is_at_entry k) t =
      ap (λ (z : SourceActivation). z.operands) k.source ∙ sym (ap (λ (z : CodeActivation). z.operands) k.code)
  tops_operands c a b (is_pending k) t =
      ap (λ (z : SourceActivation). z.operands) k.source ∙ k.meet.same.operands ∙ sym (ap (λ (z : CodeActivation). z.operands) k.code)
  tops_operands c a b (is_done k) t = absurd (true≢false (sym t ∙ done_idle c a b k))

  -- ---- what is held for an invocation

  meet_holds : (c : Common) (number own : ℕ) (m : Meet c number own) (o : Operation) (row : StopRow) → operation_at p number ≡ Some o →
      slice_get (ops o.code) m.arrived.place ≡ Some (op.Rest row) → IsInvocation m.arrived.action →
      AreHeld row.operands m.arrived.variables m.arrived.temporaries m.arrived.operands
  meet_holds c number own m o row is at invokes =
      let same : o ≡ m.on.code = same_Some o m.on.code (sym is ∙ m.on.is) in
      m.same.reads invokes row (subst (λ (z : Operation). slice_get (ops z.code) m.arrived.place ≡ Some (op.Rest row)) same at)

  pub tops_hold : (c : Common) (a : SourceActivation) (b : CodeActivation) → Tops c a b → HoldsOperands p b
  tops_hold c a b (is_at_entry k) = subst (HoldsOperands p) (sym k.code) (λ pending invokes o row is at. absurd invokes)
  tops_hold c a b (is_pending k) =
      subst (HoldsOperands p) (sym k.code) (λ pending invokes o row is at. meet_holds c k.number k.own k.meet o row is at invokes)
  tops_hold c a b (is_done k) = λ pending invokes o row is at. absurd (true≢false (sym pending ∙ done_idle c a b k))

  -- ---- beside what comes later

  abbrev pub on_later : (c e : Common) (number own : ℕ) → Stays c e → On c number own → On e number own
  on_later c e number own l o = record { code = o.code; is = o.is; class = l own o.code.class o.class }

  abbrev pub meet_later : (c e : Common) (number own : ℕ) → Stays c e → Meet c number own → Meet e number own
  meet_later c e number own l m =
      record { on = on_later c e number own l m.on; reached = m.reached; arrived = m.arrived; same = m.same }

  entry_later : (c e : Common) (a : SourceActivation) (b : CodeActivation) → Stays c e → AtEntry c a b → AtEntry e a b
  entry_later c e a b l k = record {
    number = k.number;
    own = k.own;
    on = on_later c e k.number k.own l k.on;
    arguments = k.arguments;
    many = k.many;
    pending = k.pending;
    source = k.source;
    code = k.code;
  }

  pub tops_later : (c e : Common) (a : SourceActivation) (b : CodeActivation) → Stays c e → Tops c a b → Tops e a b
  tops_later c e a b l (is_at_entry k) = is_at_entry (entry_later c e a b l k)
  tops_later c e a b l (is_pending k) =
      is_pending
      (record { number = k.number; own = k.own; meet = meet_later c e k.number k.own l k.meet; source = k.source; code = k.code })
  tops_later c e a b l (is_done k) =
      is_done
      (record {
        number = k.number;
        own = k.own;
        meet = meet_later c e k.number k.own l k.meet;
        given = k.given;
        fits = k.fits;
        goes_on = k.goes_on;
        source = k.source;
        code = k.code;
      })

  pub waits_later : (c e : Common) (a : SourceActivation) (b : CodeActivation) → Stays c e → Waits c a b → Waits e a b
  waits_later c e a b l k = record {
    number = k.number;
    own = k.own;
    meet = meet_later c e k.number k.own l k.meet;
    goes_on = k.goes_on;
    source = k.source;
    code = k.code;
  }

  -- ---- once an action is done

  pub entry_done : (c e : Common) (a : SourceActivation) (b : CodeActivation) → Stays c e → AtEntry c a b → (given : Option Value) →
      is_some given ≡ is_some b.into → Tops e (of_source.finished a given) (of_code.finished b given)
  entry_done c e a b l k None g =
      is_at_entry
      (record {
        number = k.number;
        own = k.own;
        on = on_later c e k.number k.own l k.on;
        arguments = k.arguments;
        many = k.many;
        pending = false;
        source = ap (λ z. of_source.finished z None) k.source;
        code = ap (λ z. of_code.finished z None) k.code;
      })
  entry_done c e a b l k (Some v) g = absurd (true≢false (g ∙ ap (λ (z : CodeActivation). is_some z.into) k.code))

  -- a result that a variable takes is the one that the stop gives
  taken_as : (c : Common) (number own : ℕ) (m : Meet c number own) (given : Option Value) → is_some given ≡ is_some m.arrived.into →
      GivenAs m.same.gives given
  taken_as c number own m given g = given_as m.same.gives (length m.same.holds) given (g ∙ ap is_some m.same.into)

  pub pending_done : (c e : Common) (a : SourceActivation) (b : CodeActivation) → Stays c e → (k : IsPending c a b) →
      StandsBehind c k.number k.own k.meet → (given : Option Value) → is_some given ≡ is_some b.into →
      Tops e (of_source.finished a given) (of_code.finished b given)
  pending_done c e a b l k n given g =
      is_done
      (record {
        number = k.number;
        own = k.own;
        meet = meet_later c e k.number k.own l k.meet;
        given = given;
        fits = taken_as c k.number k.own k.meet given (g ∙ ap (λ (z : CodeActivation). is_some z.into) k.code);
        goes_on = n;
        source = ap (λ z. of_source.finished z given) k.source;
        code = ap (λ z. of_code.finished z given) k.code;
      })

  pub pending_waits : (c e : Common) (a : SourceActivation) (b : CodeActivation) → Stays c e → (k : IsPending c a b) →
      StandsBehind c k.number k.own k.meet → Waits e (of_source.finished a None) (of_code.finished b None)
  pending_waits c e a b l k n = record {
    number = k.number;
    own = k.own;
    meet = meet_later c e k.number k.own l k.meet;
    goes_on = n;
    source = ap (λ z. of_source.finished z None) k.source;
    code = ap (λ z. of_code.finished z None) k.code;
  }

  -- the result of one that waited has come
  pub waits_done : (c e : Common) (a : SourceActivation) (b : CodeActivation) → Stays c e → Waits c a b → (given : Option Value) →
      is_some given ≡ is_some b.into → Tops e (of_source.finished a given) (of_code.finished b given)
  waits_done c e a b l k given g =
      let x : SourceActivation = source_at k.number k.own k.meet.reached in
      let y : CodeActivation = code_at k.number k.own k.meet.arrived in
      is_done
      (record {
        number = k.number;
        own = k.own;
        meet = meet_later c e k.number k.own l k.meet;
        given = given;
        fits = taken_as c k.number k.own k.meet given (g ∙ ap (λ (z : CodeActivation). is_some z.into) k.code);
        goes_on = k.goes_on;
        source = ap (λ z. of_source.finished z given) k.source ∙ source_twice x given;
        code = ap (λ z. of_code.finished z given) k.code ∙ code_twice y given;
      })
