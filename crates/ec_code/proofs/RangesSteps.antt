-- Silent steps keep what they read and write in range, up to the next stop.
use Rattle.std.proofs.Common.{ℕ, zero, suc, ◌-◌, Bool, true, false, List, [], ◌∷◌, drop, length, replicate, Option, Some, None}
use Rattle.std.proofs.Common.{option_map}
use Rattle.std.specs.List.{AllByRecursion as Each}
use Rattle.std.specs.Prelude.{slice_get}
use Rattle.ec_code.specs.Activations.{Arrived, code_if, code_silent, machine_behind, opened, operation_at, resting, variables_behind}
use Rattle.ec_code.specs.Activations.{variables_if, walk, walk_by}
use Rattle.ec_code.specs.Steps.{Done as Step, Goes, Rests, Loops, NoCase, Machine, act, and_others, as_wanted, decides, field_in, gives}
use Rattle.ec_code.specs.Steps.{operand_at}
use Rattle.ec_code.specs.Steps.{own_field, passes, put, rests, stores, tested, variable_at, variables_at, with_field, with_itself}
use Rattle.ec_code.specs.Steps.{with_others}
use Rattle.ec_code.specs.Steps.{with_variable}
use Rattle.ec_code.specs.declared.activation.CodeActivation.{CodeActivation}
use Rattle.ec_code.specs.declared.code.Line.{Line}
use Rattle.ec_code.specs.declared.code.Op.{Op}
use Rattle.ec_code.specs.declared.code.Op.TheVariants as op
use Rattle.ec_code.specs.declared.code.Operand.{Operand}
use Rattle.ec_code.specs.declared.code.Operand.TheVariants as operand
use Rattle.ec_code.specs.declared.code.Operation.{Operation}
use Rattle.ec_code.specs.declared.code.Parts.{Parts}
use Rattle.ec_code.specs.declared.code.StopRow.{StopRow}
use Rattle.ec_code.specs.declared.code.Variable.{Variable}
use Rattle.ec_code.specs.declared.code.Variable.TheVariants.{Named, Temporary}
use Rattle.ec_code.proofs.Carried.{each_append, each_replicate, each_set}
use Rattle.ec_world.specs.Objects.{object_at}
use Rattle.ec_world.specs.Outcomes.{with_element}
use Rattle.ec_world.specs.declared.common.Common.{Common}
use Rattle.ec_world.specs.declared.object.ObjectRec.{ObjectRec}
use Rattle.ec_world.specs.declared.value.Value.{Value}
use Rattle.ec_world.specs.declared.value.Value.TheVariants.{Str, Ref, Nil, Bool as Truth}
use Rattle.ec_code.specs.Code.{SmallCode, SmallLine, SmallOp, SmallOperand, SmallOperation, SmallProgram}
use Rattle.ec_code.specs.RangesValues.{AllInRange, GivenInRange, InRange, IsText}
use Rattle.ec_code.specs.Worlds.{RangedActivation, RangedCommon, RangedMachine, RangedObject, RangedStep}
use Rattle.ec_code.proofs.RangesLists.{IfThere, each_drop, given_get}
use Rattle.ec_code.proofs.Numbers.{on_two_ranged}
use Rattle.ec_code.proofs.RangesObjects.{changed_ranged, element_ranged, object_there}

-- ---- variables

pub put_ranged : (vs : List Value) (i : ℕ) (v : Value) → AllInRange vs → InRange v → AllInRange (put vs i v)
put_ranged [] zero v h r = (r, tt)
put_ranged [] (suc i) v h r = (tt, put_ranged [] i v tt r)
put_ranged (x ∷ xs) zero v h r = (r, h.1)
put_ranged (x ∷ xs) (suc i) v h r = (h.0, put_ranged xs i v h.1 r)

with_ranged : (m : Machine) → RangedMachine m → (x : Variable) (v : Value) → InRange v → RangedMachine (with_variable m x v)
with_ranged m h (Named n) v r =
    record { common = h.common; variables = each_set InRange m.variables n v h.variables r; temporaries = h.temporaries }
with_ranged m h (Temporary k) v r =
    record { common = h.common; variables = h.variables; temporaries = put_ranged m.temporaries k v h.temporaries r }

pub variable_ranged : (m : Machine) → RangedMachine m → (x : Variable) → GivenInRange (variable_at m x)
variable_ranged m h (Named n) = given_get m.variables n h.variables
variable_ranged m h (Temporary k) = given_get m.temporaries k h.temporaries

pub operand_ranged : (m : Machine) → RangedMachine m → (x : Operand) → SmallOperand x → GivenInRange (operand_at m x)
operand_ranged m h (operand.Of x) s = variable_ranged m h x
operand_ranged m h (operand.Number z) s = s
operand_ranged m h (operand.Truth b) s = tt
operand_ranged m h operand.Nil s = tt

-- ---- what steps read

literal_by : (text : Option (List ℕ)) → IfThere IsText text → GivenInRange (option_map Str text)
literal_by None h = tt
literal_by (Some s) h = h

literal_there : (literals : List (List ℕ)) (i : ℕ) → Each IsText literals → IfThere IsText (slice_get literals i)
literal_there [] i h = tt
literal_there (s ∷ ss) zero h = h.0
literal_there (s ∷ ss) (suc i) h = literal_there ss i h.1

literal_ranged : (literals : List (List ℕ)) (i : ℕ) → Each IsText literals → GivenInRange (option_map Str (slice_get literals i))
literal_ranged literals i h = literal_by (slice_get literals i) (literal_there literals i h)

field_by : (r : Option ObjectRec) → IfThere RangedObject r → (n : ℕ) → GivenInRange (field_in r n)
field_by None h n = tt
field_by (Some o) h n = given_get o.fields n h.values

field_ranged : (c : Common) → RangedCommon c → (own n : ℕ) → GivenInRange (own_field c own n)
field_ranged c h own n = field_by (object_at c.objects own) (object_there c.objects own h.objects) n

-- ---- what steps come to

gives_ranged : (m : Machine) → RangedMachine m → (to : Variable) (v : Option Value) → GivenInRange v → RangedStep (gives m to v)
gives_ranged m h to None r = tt
gives_ranged m h to (Some v) r = with_ranged m h to v r

decides_ranged : (m : Machine) → RangedMachine m → (to : Variable) (b : Option Bool) → RangedStep (decides m to b)
decides_ranged m h to None = tt
decides_ranged m h to (Some b) = with_ranged m h to (Truth b) tt

passes_ranged : (m : Machine) → RangedMachine m → (over : ℕ) (b : Option Bool) → RangedStep (passes m over b)
passes_ranged m h over None = tt
passes_ranged m h over (Some true) = h
passes_ranged m h over (Some false) = h

stored : (c : Common) → RangedCommon c → (own n : ℕ) (v : Value) → InRange v → RangedCommon (with_field c own n v)
stored c h own n v r = record {
  nodes = h.nodes;
  objects = changed_ranged c.objects own (with_element n v) h.objects (element_ranged n v r);
  constants = h.constants;
}

stores_ranged : (m : Machine) → RangedMachine m → (own n : ℕ) (v : Option Value) → GivenInRange v → RangedStep (stores m own n v)
stores_ranged m h own n None r = tt
stores_ranged m h own n (Some v) r =
    record { common = stored m.common h.common own n v r; variables = h.variables; temporaries = h.temporaries }

pub itself_ranged : (on_itself : Bool) (own : ℕ) (vs : List Value) → AllInRange vs → AllInRange (with_itself on_itself own vs)
itself_ranged true own [] h = tt
itself_ranged true own (v ∷ vs) h = (tt, h.1)
itself_ranged false own vs h = h

others_ranged : (v : Value) (vs : Option (List Value)) → InRange v → IfThere AllInRange vs → IfThere AllInRange (with_others v vs)
others_ranged v None r h = tt
others_ranged v (Some vs) r h = (r, h)

both_ranged : (v : Option Value) (vs : Option (List Value)) → GivenInRange v → IfThere AllInRange vs → IfThere AllInRange (and_others v vs)
both_ranged None vs r h = tt
both_ranged (Some v) vs r h = others_ranged v vs r h

pub variables_ranged : (m : Machine) → RangedMachine m → (xs : List Variable) → IfThere AllInRange (variables_at m xs)
variables_ranged m h [] = tt
variables_ranged m h (x ∷ xs) = both_ranged (variable_at m x) (variables_at m xs) (variable_ranged m h x) (variables_ranged m h xs)

rests_ranged : (row : StopRow) (own : ℕ) (vs : Option (List Value)) → IfThere AllInRange vs → RangedStep (rests row own vs)
rests_ranged row own None h = tt
rests_ranged row own (Some vs) h = itself_ranged row.on_itself own vs h

-- ---- what is reached

pub record RangedArrived (r : Arrived) : Type 0 where
  pub operands : AllInRange r.operands
  pub variables : AllInRange r.variables
  pub temporaries : AllInRange r.temporaries

abbrev RangedWalk : Common × Option Arrived → Type 0
RangedWalk (c, r) = RangedCommon c × IfThere RangedArrived r

abbrev pub RangedResting : Common × CodeActivation → Type 0
RangedResting (c, a) = RangedCommon c × RangedActivation a

-- ---- a step

module _ (literals : List (List ℕ)) (own : ℕ) (texts : Each IsText literals) where
  pub act_ranged : (m : Machine) → RangedMachine m → (o : Op) → SmallOp o → RangedStep (act literals own m o)
  act_ranged m h (op.Copy to from) s = gives_ranged m h to (operand_at m from) (operand_ranged m h from s)
  act_ranged m h (op.Literal to index) s =
      gives_ranged m h to (option_map Str (slice_get literals index)) (literal_ranged literals index texts)
  act_ranged m h (op.Itself to) s = with_ranged m h to (Ref own) tt
  act_ranged m h (op.Field to n) s = gives_ranged m h to (own_field m.common own n) (field_ranged m.common h.common own n)
  act_ranged m h (op.SetField n from) s = stores_ranged m h own n (operand_at m from) (operand_ranged m h from s)
  act_ranged m h (op.Constant to index) s =
      gives_ranged m h to (slice_get m.common.globals index) (given_get m.common.globals index h.common.constants)
  act_ranged m h (op.Compute how to left right) s =
      gives_ranged m h to _ (on_two_ranged how (operand_at m left) (operand_at m right) (operand_ranged m h left s.0))
  act_ranged m h (op.Decide to t wanted) s = decides_ranged m h to (as_wanted wanted (tested m t))
  act_ranged m h (op.Branch t wanted over) s = passes_ranged m h over (as_wanted wanted (tested m t))
  act_ranged m h (op.Jump over) s = h
  act_ranged m h (op.Again back) s = tt
  act_ranged m h (op.Rest row) s = rests_ranged row own (variables_at m row.operands) (variables_ranged m h row.operands)

  -- ---- steps up to a stop

  walked : (place : ℕ) (next : ℕ → Machine → Common × Option Arrived)
      → ((over : ℕ) (m : Machine) → RangedMachine m → RangedWalk (next over m)) → (m : Machine) → RangedMachine m
      → (d : Step) → RangedStep d → RangedWalk (walk_by place next m d)
  walked place next f m h (Goes new over) r = f over new r
  walked place next f m h (Rests row vs) r =
      (h.common, record { operands = r; variables = h.variables; temporaries = h.temporaries })
  walked place next f m h (Loops back) r =
      (h.common, record { operands = tt; variables = h.variables; temporaries = h.temporaries })
  walked place next f m h NoCase r = (h.common, tt)

  walk_ranged : (code : List Line) → SmallCode code → (place over : ℕ) (m : Machine) → RangedMachine m
      → RangedWalk (walk literals own place code over m)
  walk_ranged [] s place over m h = (h.common, tt)
  walk_ranged (line ∷ rest) s place (suc over) m h = walk_ranged rest s.1 (suc place) over m h
  walk_ranged (line ∷ rest) s place zero m h =
      walked place (walk literals own (suc place) rest) (λ over m. walk_ranged rest s.1 (suc place) over m) m h
      (act literals own m line.op) (act_ranged m h line.op s.0)

  resting_ranged : (a : CodeActivation) → RangedActivation a → (r : Common × Option Arrived) → RangedWalk r → RangedResting (resting a r)
  resting_ranged a h (c, None) w = (w.0, h)
  resting_ranged a h (c, Some r) w =
      (w.0, record { operands = w.1.operands; variables = w.1.variables; temporaries = w.1.temporaries })

-- ---- behind a stop

opened_ranged : (args : List Value) (count : ℕ) → AllInRange args → AllInRange (opened args count)
opened_ranged args count h =
    each_append InRange args (replicate (count - length args) Nil) h (each_replicate InRange (count - length args) Nil tt)

pub behind_ranged : (p : Parts) (a : CodeActivation) (at : ℕ) → AllInRange a.variables → AllInRange (variables_behind p a at)
behind_ranged p a zero h = opened_ranged a.variables (length (variables_if (operation_at p a.operation))) h
behind_ranged p a (suc at) h = h

code_small : (os : List Operation) (n : ℕ) → Each SmallOperation os → SmallCode (code_if (slice_get os n))
code_small [] n h = tt
code_small (o ∷ os) zero h = h.0
code_small (o ∷ os) (suc n) h = code_small os n h.1

-- silent steps from behind a stop to the next one
pub silent_ranged : (p : Parts) → SmallProgram p → (c : Common) → RangedCommon c → (a : CodeActivation) → RangedActivation a
    → RangedResting (code_silent p c a)
silent_ranged p small c h a r =
    let code : List Line = code_if (operation_at p a.operation) in
    resting_ranged p.literals a.own small.literals a r
    (walk p.literals a.own (suc a.at) (drop (suc a.at) code) 0 (machine_behind p c a))
    (walk_ranged p.literals a.own small.literals (drop (suc a.at) code)
    (each_drop SmallLine (suc a.at) code (code_small p.operations a.operation small.operations)) (suc a.at) 0 (machine_behind p c a)
    (record { common = h; variables = behind_ranged p a a.at r.variables; temporaries = r.temporaries }))
