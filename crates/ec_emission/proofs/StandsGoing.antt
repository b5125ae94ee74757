-- On behind a stop whose action is done.
use Rattle.std.proofs.Common.{◌≡◌, ℕ, zero, suc, ◌-◌, ◌≤◌, false, List, drop, length, reverse, Option, Some, None}
use Rattle.std.proofs.Common.{refl, sym, ap, ◌∙◌, subst, arith, append-nil}
use Rattle.std.proofs.lemmas.List.{reverse-reverse}
use Rattle.ec_code.specs.Activations as code
use Rattle.ec_code.specs.Activations.{Arrived, code_if, code_silent, into_variable, machine_behind, opened}
use Rattle.ec_code.specs.Activations.{operation_at, variables_behind, variables_if, walk}
use Rattle.ec_code.specs.Steps.{Machine}
use Rattle.ec_code.specs.declared.activation.CodeActivation.{CodeActivation}
use Rattle.ec_code.specs.declared.code.Parts.{Parts}
use Rattle.ec_code.specs.declared.code.Variable.{Variable}
use Rattle.ec_code.specs.declared.code.Variable.TheVariants as variable
use Rattle.ec_types.specs.declared.conform.static_type.StaticType.{StaticType}
use Rattle.ec_meaning.specs.Activations as source
use Rattle.ec_meaning.specs.Meaning as meaning
use Rattle.ec_meaning.specs.Meaning.{Reached, items_behind, settle, source_silent, state_behind}
use Rattle.ec_meaning.specs.Weights.{weight}
use Rattle.ec_meaning.specs.declared.activation.SourceActivation.{SourceActivation}
use Rattle.ec_meaning.specs.declared.item.Item.{Item}
use Rattle.ec_meaning.specs.declared.state.State.{State}
use Rattle.ec_emission.proofs.Holding.{HoldsAll, holds_kept}
use Rattle.ec_emission.proofs.Meeting.{AtStop, Fits, Matched, Owns, Routine, StandsIn, settled, walked}
use Rattle.ec_emission.proofs.Simulating.{silent_alike}
use Rattle.ec_emission.specs.Rows.{into_if}
use Rattle.ec_emission.specs.Stands.{Hold, one_more}
use Rattle.ec_world.specs.declared.common.Common.{Common}
use Rattle.ec_world.specs.declared.value.Value.{Value}

-- A stop that gives a value of a type is done with a value, every other one with none.
abbrev pub GivenAs : Option StaticType → Option Value → Type 0
GivenAs (Some of) (Some v) = Unit {0}
GivenAs None None = Unit {0}
GivenAs (Some of) None = ⊥
GivenAs None (Some v) = ⊥

-- ---- variables that are all there

opened_same : (vs : List Value) (n : ℕ) → n ≤ length vs → opened vs n ≡ vs
opened_same vs n h = let e : n - length vs ≡ 0 = omega arith in rw e (append-nil vs)

variables_same : (p : Parts) (b : CodeActivation) (at : ℕ) → length (variables_if (operation_at p b.operation)) ≤ length b.variables →
    variables_behind p b at ≡ b.variables
variables_same p b zero h = opened_same b.variables (length (variables_if (operation_at p b.operation))) h
variables_same p b (suc at) h = refl

-- ---- activations whose action is done

abbrev pub source_done : SourceActivation → Reached → Option Value → SourceActivation
source_done a x given = source.finished (meaning.rested a (Some x)) given

abbrev pub code_done : CodeActivation → Arrived → Option Value → CodeActivation
code_done b y given = code.finished (code.rested b (Some y)) given

-- what stays of an activation
record SourceKept (a : SourceActivation) (x : Reached) (b : SourceActivation) : Type 0 where
  pub operation : b.operation ≡ a.operation
  pub own : b.own ≡ a.own
  pub entry : b.at_entry ≡ false
  pub items : b.items ≡ reverse x.items

source_kept : (a : SourceActivation) (x : Reached) (given : Option Value) → SourceKept a x (source_done a x given)
source_kept a x None = record { operation = refl; own = refl; entry = refl; items = refl }
source_kept a x (Some v) = record { operation = refl; own = refl; entry = refl; items = refl }

record CodeKept (a b : CodeActivation) (place : ℕ) : Type 0 where
  pub operation : b.operation ≡ a.operation
  pub own : b.own ≡ a.own
  pub at : b.at ≡ place

into_kept : (a : CodeActivation) (to : Option Variable) (v : Value) → CodeKept a (into_variable a to v) a.at
into_kept a None v = record { operation = refl; own = refl; at = refl }
into_kept a (Some (variable.Named n)) v = record { operation = refl; own = refl; at = refl }
into_kept a (Some (variable.Temporary d)) v = record { operation = refl; own = refl; at = refl }

code_kept : (b : CodeActivation) (y : Arrived) (given : Option Value) → CodeKept b (code_done b y given) y.place
code_kept b y None = record { operation = refl; own = refl; at = refl }
code_kept b y (Some v) =
    let k = into_kept (code.rested b (Some y)) y.into v in
    record { operation = k.operation; own = k.own; at = k.at }

module _ (r : Routine) (own : ℕ) (p : Parts) where
  -- of a routine, on an own object
  pub record AreOf (a : SourceActivation) (b : CodeActivation) : Type 0 where
    pub operation : a.operation ≡ r.number
    pub object : a.own ≡ own
    pub object_too : b.own ≡ own
    pub literals : p.literals ≡ r.literals
    pub lines : code_if (operation_at p b.operation) ≡ r.lines
    pub count : length (variables_if (operation_at p b.operation)) ≡ r.count

  -- the code's variables are those that were there
  there : (hs : List Hold) (c : Common) (st : State) (b : CodeActivation) → length (variables_if (operation_at p b.operation)) ≤ r.count →
      r.count ≤ length b.variables → Fits r own hs st (record { common = c; variables = b.variables; temporaries = b.temporaries }) →
      Fits r own hs st (machine_behind p c b)
  there hs c st b n h f =
      subst (λ vs. Fits r own hs st (record { common = c; variables = vs; temporaries = b.temporaries }))
      (sym (variables_same p b b.at (omega arith))) f

  by_given : (a : SourceActivation) (b : CodeActivation) (x : Reached) (y : Arrived) (gives : Option StaticType) (hs : List Hold)
      (c : Common) (given : Option Value) → length (variables_if (operation_at p b.operation)) ≤ r.count → x.variables ≡ y.variables →
      r.count ≤ length y.variables → HoldsAll own y.variables y.temporaries hs x.held → y.into ≡ into_if gives (length hs) → Owns r own c →
      GivenAs gives given →
      Fits r own (one_more gives hs) (state_behind r.source c (source_done a x given) false) (machine_behind p c (code_done b y given))
  by_given a b x y None hs c None n e m h i o g =
      there hs c (state_behind r.source c (source_done a x None) false) (code_done b y None) n m
      (record { common = refl; variables = e; many = m; held = h; owns = o })
  by_given a b x y (Some of) hs c (Some v) n e m h i o g =
      let on : CodeActivation = code.rested b (Some y) in
      let to : CodeActivation = into_variable on (Some (variable.Temporary (length hs))) v in
      let st : State = state_behind r.source c (source_done a x (Some v)) false in
      subst (λ z. Fits r own (one_more (Some of) hs) st (machine_behind p c (into_variable on z v))) (sym i)
      (there (one_more (Some of) hs) c st to n m
      (record { common = refl; variables = e; many = m; held = holds_kept own y.variables y.temporaries hs x.held v h; owns = o }))
  by_given a b x y None hs c (Some v) n e m h i o g = absurd g
  by_given a b x y (Some of) hs c None n e m h i o g = absurd g

  -- Where both came to a stop, they fit again once its action is done.
  pub going_on : (a : SourceActivation) (b : CodeActivation) (x : Reached) (y : Arrived) (e : AtStop r own x y) (c : Common)
      (given : Option Value) → AreOf a b → Owns r own c → GivenAs e.gives given →
      Fits r own (one_more e.gives e.holds) (state_behind r.source c (source_done a x given) false)
      (machine_behind p c (code_done b y given))
  going_on a b x y e c given of o g =
      by_given a b x y e.gives e.holds c given (omega (arith, of.count)) e.variables e.many e.held e.into o g

  -- ---- the silent steps behind it

  source_is : (c : Common) (a : SourceActivation) (items : List Item) → a.operation ≡ r.number → a.own ≡ own → a.at_entry ≡ false →
      reverse a.items ≡ items →
      source_silent r.source c a ≡ meaning.resting a (settled r own (state_behind r.source c a false) items)
  source_is c a items of is e l =
      let st : State = state_behind r.source c a false in
      ap (λ b. meaning.settled r.source a (state_behind r.source c a b) (items_behind r.source a b)) e
      ∙ ap (λ z. meaning.resting a (settle r.source (meaning.whose a) (weight z) st z)) l
      ∙ ap (λ n. meaning.resting a (settle r.source (record { operation = n; own = a.own }) (weight items) st items)) of
      ∙ ap (λ o. meaning.resting a (settle r.source (record { operation = r.number; own = o }) (weight items) st items)) is

  code_is : (c : Common) (b : CodeActivation) (q : ℕ) → p.literals ≡ r.literals → b.own ≡ own →
      code_if (operation_at p b.operation) ≡ r.lines → b.at ≡ q →
      code_silent p c b ≡ code.resting b (walked r own (suc q) (machine_behind p c b))
  code_is c b q t is l e =
      let m : Machine = machine_behind p c b in
      ap (λ ts. code.resting b (walk ts b.own (suc b.at) (drop (suc b.at) (code_if (operation_at p b.operation))) 0 m)) t
      ∙ ap (λ o. code.resting b (walk r.literals o (suc b.at) (drop (suc b.at) (code_if (operation_at p b.operation))) 0 m)) is
      ∙ ap (λ ls. code.resting b (walk r.literals own (suc b.at) (drop (suc b.at) ls) 0 m)) l
      ∙ ap (λ n. code.resting b (walk r.literals own (suc n) (drop (suc n) r.lines) 0 m)) e

  -- what silent steps of both come to
  pub record Alike (c : Common) (a : SourceActivation) (b : CodeActivation) : Type 0 where
    pub reached : Common × Option Reached
    pub arrived : Common × Option Arrived
    pub of_source : source_silent r.source c a ≡ meaning.resting a reached
    pub of_code : code_silent p c b ≡ code.resting b arrived
    pub matched : Matched r own reached arrived

  -- Once the action is done of a stop to which both came, both come to the same stop again.
  pub silent_on : (a : SourceActivation) (b : CodeActivation) (x : Reached) (y : Arrived) (e : AtStop r own x y) (c : Common)
      (given : Option Value) → AreOf a b → Owns r own c → GivenAs e.gives given →
      StandsIn r (one_more e.gives e.holds) (suc y.place) x.items → Alike c (source_done a x given) (code_done b y given)
  silent_on a b x y e c given of o g d =
      let st : State = state_behind r.source c (source_done a x given) false in
      let m : Machine = machine_behind p c (code_done b y given) in
      let k = source_kept a x given in
      let l = code_kept b y given in
      record {
        reached = settled r own st x.items;
        arrived = walked r own (suc y.place) m;
        of_source = source_is c (source_done a x given) x.items (k.operation ∙ of.operation) (k.own ∙ of.object) k.entry
            (ap reverse k.items ∙ reverse-reverse x.items);
        of_code = code_is c (code_done b y given) y.place of.literals (l.own ∙ of.object_too)
            (ap (λ n. code_if (operation_at p n)) l.operation ∙ of.lines) l.at;
        matched = silent_alike r own d st m (going_on a b x y e c given of o g);
      }
