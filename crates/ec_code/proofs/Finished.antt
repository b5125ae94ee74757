-- Activations once their action is done: what is live behind their stop is there and of its type.
use Rattle.std.proofs.Common.{◌≡◌, ◌≢◌, ℕ, zero, suc, ◌<◌, ◌≤◌, ◌+◌, ◌-◌, ◌⊎◌, inl, inr, false, List, [], ◌∷◌, ◌++◌, length, drop, Option}
use Rattle.std.proofs.Common.{Some, None}
use Rattle.std.proofs.Common.{refl, sym, ◌∙◌, ap, subst, arith}
use Rattle.std.specs.Prelude.{slice_get, replicate}
use Rattle.ec_code.specs.Activations.{begun, finished, into_variable, opened, operation_at, variables_behind, variables_if, with_result}
use Rattle.ec_code.specs.declared.activation.CodeActivation.{CodeActivation}
use Rattle.ec_code.specs.declared.code.Line.{Line}
use Rattle.ec_code.specs.declared.code.Op.TheVariants as op
use Rattle.ec_code.specs.declared.code.Operation.{Operation}
use Rattle.ec_code.specs.declared.code.Parts.{Parts}
use Rattle.ec_code.specs.declared.code.StopRow.{StopRow}
use Rattle.ec_code.specs.declared.code.Variable.{Variable}
use Rattle.ec_code.specs.declared.code.Variable.TheVariants.{Named, Temporary}
use Rattle.ec_code.specs.Fine.{Behind, Fine, FineOperation, Has, IsGiven, IsTaken, divisor_at, live_at, live_if}
use Rattle.ec_code.specs.Steps.{with_itself}
use Rattle.ec_code.specs.Typing.{Declared}
use Rattle.ec_types.specs.declared.conform.static_type.StaticType.{StaticType}
use Rattle.ec_types.specs.Fits.{Fits}
use Rattle.ec_world.specs.Agree.{AllTwo}
use Rattle.ec_world.specs.declared.object.ObjectRec.{ObjectRec}
use Rattle.ec_world.specs.declared.value.Value.{Value}
use Rattle.ec_world.specs.declared.value.Value.TheVariants.{Nil}
use Rattle.ec_code.proofs.Held.{none_held}
use Rattle.ec_code.specs.Sound.{LiveBehind, OfGiven, RestsAt, ResultFits, SoundDone, SoundPending, SoundWaiting}
use Rattle.ec_code.specs.SoundValues.{HasType, IsOfType, class_in, held}
use Rattle.ec_code.proofs.Carried.{all_two_get, all_two_length, get_front, goes_on_more}
use Rattle.ec_code.proofs.Reading.{IsThere, held_other, held_same, named_length, set_named, set_temporary}
use Rattle.ec_code.proofs.Silent.{not_opened}
use Rattle.ec_code.proofs.SoundSteps.{code_from, goes_on_both, no_operands, row_at}
use Rattle.ec_code.proofs.Typed.{fits_then, stands}

-- its action is done, and it gets nothing by it
abbrev pub idle : CodeActivation → CodeActivation
idle a = record a { pending = false }

idle_variables : (p : Parts) (a : CodeActivation) (at : ℕ) → variables_behind p (idle a) at ≡ variables_behind p a at
idle_variables p a zero = refl
idle_variables p a (suc at) = refl

-- a variable has got a result
abbrev pub resulting : CodeActivation → Variable → Value → CodeActivation
resulting a x v = record a {
  pending = false;
  into = None;
  variables = set_named a.variables x v;
  temporaries = set_temporary a.temporaries x v;
}

is_resulting : (a : CodeActivation) (x : Variable) (v : Value) → resulting a x v ≡ with_result a x v
is_resulting a (Named n) v = refl
is_resulting a (Temporary k) v = refl

length_replicate : {A : Type 0} (n : ℕ) (x : A) → length (replicate n x) ≡ n
length_replicate zero x = refl
length_replicate (suc n) x = ap suc (length_replicate n x)

length_joined : {A : Type 0} (xs ys : List A) → length (xs ++ ys) ≡ length xs + length ys
length_joined [] ys = omega arith
length_joined (x ∷ xs) ys = let e = length_joined xs ys in omega arith

opened_length : (args : List Value) (n : ℕ) → length args ≤ n → length (opened args n) ≡ n
opened_length args n h =
    let e = length_joined args (replicate (n - length args) Nil) in
    let f = length_replicate (n - length args) Nil in
    omega arith

first_behind : {A : Type 0} (xs : List A) (n : ℕ) → slice_get (drop n xs) 0 ≡ slice_get xs n
first_behind [] zero = refl
first_behind [] (suc n) = refl
first_behind (x ∷ xs) zero = refl
first_behind (x ∷ xs) (suc n) = first_behind xs n

module _ (d : Declared) (p : Parts) (fine : Fine d p) (objects : List ObjectRec) where
  -- ---- it gets nothing

  abbrev idle_rests : (a : CodeActivation) → RestsAt d p objects a → RestsAt d p objects (idle a)
  idle_rests a r = record {
    of = r.of;
    is_operation = r.is_operation;
    line = r.line;
    is_line = r.is_line;
    row = r.row;
    is_row = r.is_row;
    typed = r.typed;
    stop = r.stop;
    own = r.own;
    arguments = r.arguments;
    count = ap length (idle_variables p a a.at) ∙ r.count;
  }

  idle_held : (a : CodeActivation) (x : Variable) (t : StaticType) → IsOfType d objects t (held (variables_behind p a a.at) a.temporaries x)
      → IsOfType d objects t (held (variables_behind p (idle a) a.at) a.temporaries x)
  idle_held a x t h = subst (λ vs. IsOfType d objects t (held vs a.temporaries x)) (sym (idle_variables p a a.at)) h

  idle_live : (a : CodeActivation) (o : Operation) (given : Option StaticType) → LiveBehind d p objects a o given
      → LiveBehind d p objects (idle a) o given
  idle_live a o given h = record { behind = h.behind; taken = h.taken; live = λ x t i. by x t (h.live x t i) }
    where
      by : (x : Variable) (t : StaticType)
          → IsGiven d p given a.into x t ⊎ ((a.into ≢ Some x) × IsOfType d objects t (held (variables_behind p a a.at) a.temporaries x))
          → IsGiven d p given a.into x t ⊎ ((a.into ≢ Some x) × IsOfType d objects t
          (held (variables_behind p (idle a) a.at) a.temporaries x))
      by x t (inl g) = inl g
      by x t (inr g) = inr (g.0, idle_held a x t g.1)

  idle_done : (a : CodeActivation) (r : RestsAt d p objects a) → LiveBehind d p objects a r.of None → SoundDone d p objects (idle a)
  idle_done a r h = record { rests = idle_rests a r; behind = h.behind; live = λ x t i. by x t (h.live x t i) }
    where
      by : (x : Variable) (t : StaticType)
          → IsGiven d p None a.into x t ⊎ ((a.into ≢ Some x) × IsOfType d objects t (held (variables_behind p a a.at) a.temporaries x))
          → IsOfType d objects t (held (variables_behind p (idle a) a.at) a.temporaries x)
      by x t (inl g) = let e = g.1 in cc
      by x t (inr g) = idle_held a x t g.1

  -- ---- it waits for what is called

  serves : (a : CodeActivation) (o : Operation) (result given : Option StaticType) → ResultFits d p objects result given
      → LiveBehind d p objects a o given → LiveBehind d p objects a o result
  serves a o None None f h = h
  serves a o (Some s) (Some g) f h =
      record { behind = h.behind; taken = taken a.into h.taken; live = λ x t i. by x t (h.live x t i) }
    where
      taken : (into : Option Variable) → IsTaken d p (Some g) into → IsTaken d p (Some s) into
      taken None k = k
      taken (Some x) k = tt

      by : (x : Variable) (t : StaticType)
          → IsGiven d p (Some g) a.into x t ⊎ ((a.into ≢ Some x) × IsOfType d objects t (held (variables_behind p a a.at) a.temporaries x))
          → IsGiven d p (Some s) a.into x t ⊎ ((a.into ≢ Some x) × IsOfType d objects t (held (variables_behind p a a.at) a.temporaries x))
      by x t (inl k) =
          let same : k.0 ≡ g = (let e = k.1 in cc) in
          inl (s, refl, k.2, fits_then d p fine s g t f (subst (λ z. Fits d.types z t) same k.3))
      by x t (inr k) = inr k
  serves a o None (Some g) f h = absurd f
  serves a o (Some s) None f h = absurd f

  waiting_live : (a : CodeActivation) (o : Operation) (result given : Option StaticType)
      → (result ≡ given) ⊎ ResultFits d p objects result given
      → LiveBehind d p objects a o given → LiveBehind d p objects a o result
  waiting_live a o result given (inl e) h = subst (λ z. LiveBehind d p objects a o z) (sym e) h
  waiting_live a o result given (inr f) h = serves a o result given f h

  pub waiting_sound : (a : CodeActivation) (h : SoundPending d p objects a) (result : Option StaticType)
      → (result ≡ h.rests.row.gives) ⊎ ResultFits d p objects result h.rests.row.gives
      → LiveBehind d p objects a h.rests.of h.rests.row.gives → SoundWaiting d p objects result (idle a)
  waiting_sound a h result f live = record {
    rests = idle_rests a h.rests;
    into = h.into;
    behind = idle_live a h.rests.of result (waiting_live a h.rests.of result h.rests.row.gives f live);
  }

  -- ---- it gets a result

  module _ (a : CodeActivation) (r : RestsAt d p objects a) (into : a.into ≡ r.row.into) where
    abbrev o : Operation
    o = r.of

    abbrev fine_o : FineOperation d p a.operation o
    fine_o = fine.operations a.operation o r.is_operation

    -- the entry takes nothing
    takes_behind_entry : (at : ℕ) → slice_get o.code at ≡ Some r.line → (x : Variable) → r.row.into ≡ Some x → 0 < at
    takes_behind_entry (suc at) e x k = omega arith
    takes_behind_entry zero e x k =
        let f = fine_o.entry in
        let same : f.line ≡ r.line = (let i = f.is in cc) in
        let rests : op.Rest f.row ≡ op.Rest r.row = sym f.rests ∙ ap (λ (z : Line). z.op) same ∙ r.is_row in
        let rows : f.row ≡ r.row = cc in
        let none : None ≡ Some x = sym f.into ∙ ap (λ (z : StopRow). z.into) rows ∙ k in cc

    is_there : (x : Variable) (t : StaticType) → Has (live_at (drop (suc a.at) o.code) 0) x t → IsThere (length o.variables) x
    is_there (Named n) t h = (code_from d p fine a.operation o fine_o (suc a.at)).named 0 n t h
    is_there (Temporary k) t h = tt

    result_sound : (x : Variable) (s : StaticType) (v : Value) → a.into ≡ Some x → HasType d objects s v
        → LiveBehind d p objects a o (Some s)
        → SoundDone d p objects (resulting a x v)
    result_sound x s v at_x h live =
        let positive : 0 < a.at = takes_behind_entry a.at r.is_line x (sym into ∙ at_x) in
        let before : variables_behind p a a.at ≡ a.variables = not_opened p a a.at positive in
        let after : variables_behind p (resulting a x v) a.at ≡ set_named a.variables x v = not_opened p (resulting a x v) a.at positive in
        let size : length a.variables ≡ length o.variables = ap length (sym before) ∙ r.count in
        record {
          rests = record {
            of = o;
            is_operation = r.is_operation;
            line = r.line;
            is_line = r.is_line;
            row = r.row;
            is_row = r.is_row;
            typed = r.typed;
            stop = r.stop;
            own = r.own;
            arguments = λ z. absurd (omega arith);
            count = ap length after ∙ named_length a.variables x v ∙ size;
          };
          behind = live.behind;
          live = λ y t i.
              subst (λ vs. IsOfType d objects t (held vs (set_temporary a.temporaries x v) y)) (sym after)
              (by before size y t i (live.live y t i));
        }
      where
        by : variables_behind p a a.at ≡ a.variables → length a.variables ≡ length o.variables → (y : Variable) (t : StaticType)
            → Has (live_at (drop (suc a.at) o.code) 0) y t
            → IsGiven d p (Some s) a.into y t ⊎ ((a.into ≢ Some y) × IsOfType d objects t
            (held (variables_behind p a a.at) a.temporaries y))
            → IsOfType d objects t (held (set_named a.variables x v) (set_temporary a.temporaries x v) y)
        by before size y t i (inl g) =
            let same : y ≡ x = (let e = g.2 in cc) in
            let typed : g.0 ≡ s = (let e = g.1 in cc) in
            record {
              value = v;
              is =
                  ap (λ z. held (set_named a.variables x v) (set_temporary a.temporaries x v) z) same
                  ∙ held_same a.variables a.temporaries x v
                  (subst (λ k. IsThere k x) (sym size) (subst (λ z. IsThere (length o.variables) z) same (is_there y t i)));
              fits = stands d p fine objects s t v h (subst (λ z. Fits d.types z t) typed g.3);
            }
        by before size y t i (inr g) =
            let k = g.1 in
            let apart : y ≡ x → ⊥ = (λ e. g.0 (at_x ∙ ap Some (sym e))) in
            record {
              value = k.value;
              is =
                  held_other a.variables a.temporaries x y v k.value apart
                  (ap (λ vs. held vs a.temporaries y) (sym before) ∙ k.is);
              fits = k.fits;
            }

    result_by : (s : StaticType) (v : Value) → HasType d objects s v → LiveBehind d p objects a o (Some s) → (x : Option Variable)
        → a.into ≡ x → SoundDone d p objects (into_variable a x v)
    result_by s v h live None e = absurd (subst (λ z. IsTaken d p (Some s) z) e live.taken)
    result_by s v h live (Some x) e =
        subst (λ z. SoundDone d p objects z) (is_resulting a x v) (result_sound x s v e h live)

    -- what is given comes, where something is
    pub finished_sound : (given : Option StaticType) → LiveBehind d p objects a o given → (v : Option Value) → OfGiven d p objects given v
        → SoundDone d p objects (finished a v)
    finished_sound None live None g = idle_done a r live
    finished_sound (Some s) live (Some v) g = result_by s v g live a.into refl
    finished_sound None live (Some v) g = absurd g
    finished_sound (Some s) live None g = absurd g

  -- ---- a new activation

  argument_held : (o : Operation) (args : List Value) (n : ℕ) → AllTwo (HasType d objects) o.parameters args
      → (x : Variable) (t : StaticType)
      → (k : ℕ) × (x ≡ Named k) × (slice_get o.parameters k ≡ Some t) → IsOfType d objects t (held (opened args n) [] x)
  argument_held o args n h x t e =
      let r = all_two_get (HasType d objects) o.parameters args e.0 t h e.2 in
      record {
        value = r.item;
        is =
            ap (λ z. held (opened args n) [] z) e.1
            ∙ get_front args (replicate (n - length args) Nil) e.0 r.item r.is;
        fits = r.fits;
      }

  begun_live : (number own : ℕ) (o : Operation) (args : List Value) (is : operation_at p number ≡ Some o)
      → AllTwo (HasType d objects) o.parameters args
      → (row : StopRow) (line : Line) (given : Option StaticType) → row.into ≡ None
      → ((x : Variable) (t : StaticType) → Has (live_at o.code 1) x t → (n : ℕ) × (x ≡ Named n) × (slice_get o.parameters n ≡ Some t))
      → (IsTaken d p given row.into × Behind d p (drop 1 o.code) given row.into line.live) × (divisor_at (drop 1 o.code) 0 ≡ None)
      → LiveBehind d p objects (begun number own args) o given
  begun_live number own o args is h row line given into live b = record {
    behind = record { code = b.0.1.0; no_division = b.1 };
    taken = subst (λ z. IsTaken d p given z) into b.0.0;
    live = λ x t i.
        let here : Has (live_at o.code 1) x t = subst (λ z. Has (live_if z) x t) (first_behind o.code 1) i in
        inr ((λ e. cc), argument_held o args (length (variables_if (operation_at p number))) h x t (live x t here));
  }

  pub begun_sound : (number own : ℕ) (o : Operation) (args : List Value) → operation_at p number ≡ Some o
      → class_in objects own ≡ Some o.class
      → AllTwo (HasType d objects) o.parameters args → SoundPending d p objects (begun number own args)
  begun_sound number own o args is at h =
      let f = fine.operations number o is in
      let e = f.entry in
      let r = row_at d p fine number o f 0 e.line e.row e.is e.rests in
      let Known : Type 0 = IsTaken d p e.row.gives e.row.into × Behind d p (drop 1 o.code) e.row.gives e.row.into e.line.live in
      let size : length o.parameters ≡ length args = all_two_length (HasType d objects) o.parameters args h in
      let room : length o.parameters ≤ length o.variables = f.parameters in
      record {
        rests = record {
          of = o;
          is_operation = is;
          line = e.line;
          is_line = e.is;
          row = e.row;
          is_row = e.rests;
          typed = r.typed;
          stop = sym e.stop;
          own = at;
          arguments = λ z. sym size;
          count =
              ap (λ z. length (opened args (length (variables_if z)))) is
              ∙ opened_length args (length o.variables) (subst (λ k. k ≤ length o.variables) size room);
        };
        operands = record {
          values = [];
          are = ap (λ b. with_itself b own []) (sym e.on_itself);
          those = none_held (variables_behind p (begun number own args) 0) [] e.row.operands e.operands;
          fit = no_operands d p fine number o f own objects e.line.live e.row.operands r.typed.types e.operands r.typed.are;
        };
        into = sym e.into;
        behind =
            goes_on_more d p number o e.row.stop (Known × (divisor_at (drop 1 o.code) 0 ≡ None))
            (LiveBehind d p objects (begun number own args) o e.row.gives)
            (begun_live number own o args is h e.row e.line e.row.gives e.into e.live)
            (goes_on_both d p number o e.row.stop Known (divisor_at (drop 1 o.code) 0 ≡ None) r.typed.behind r.no_division);
      }
