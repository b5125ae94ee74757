-- Silent steps leave the monitors of objects alone.
use Rattle.std.proofs.Common.{◌≡◌, ℕ, zero, suc, ◌-◌, Bool, true, false, List, [], ◌∷◌, drop, Option, Some, None, refl, sym, ◌∙◌, ap, arith}
use Rattle.std.specs.Prelude.{slice_get, slice_set, option_map}
use Rattle.ec_code.specs.Activations.{Arrived, code_if, code_silent, machine_behind, operation_at, resting, walk, walk_by}
use Rattle.ec_code.specs.declared.activation.CodeActivation.{CodeActivation}
use Rattle.ec_code.specs.declared.code.Line.{Line}
use Rattle.ec_code.specs.declared.code.Op.{Op}
use Rattle.ec_code.specs.declared.code.Op.TheVariants as op
use Rattle.ec_code.specs.declared.code.Parts.{Parts}
use Rattle.ec_code.specs.declared.code.StopRow.{StopRow}
use Rattle.ec_code.specs.declared.code.Variable.{Variable}
use Rattle.ec_code.specs.Steps.{Machine, Done, Goes, Rests, Loops, NoCase, act, as_wanted, computed, decides, gives, on_numbers, on_two}
use Rattle.ec_code.specs.Steps.{operand_at}
use Rattle.ec_code.specs.Steps.{own_field, passes, rests, stores, tested, variables_at}
use Rattle.ec_world.specs.Waiting.{KeepsMonitors}
use Rattle.ec_world.specs.Objects.{object_at, changed_if}
use Rattle.ec_world.specs.Outcomes.{monitor_if, monitor_of, with_element}
use Rattle.ec_world.specs.declared.common.Common.{Common}
use Rattle.ec_world.specs.declared.object.ObjectRec.{ObjectRec}
use Rattle.ec_world.specs.declared.value.Value.{Value}
use Rattle.ec_world.specs.declared.value.Value.TheVariants.{Ref, Str, Bool as Truth}
use Rattle.ec_code.specs.Sound.{reached}
use Rattle.ec_code.proofs.Reading.{machine_common}

-- ---- an object changed, but not its monitor

monitor_set : (objects : List ObjectRec) (i j : ℕ) (old new : ObjectRec) → slice_get objects i ≡ Some old → new.monitor ≡ old.monitor
    → monitor_if (slice_get (slice_set objects i new) j) ≡ monitor_if (slice_get objects j)
monitor_set [] i j old new e h = cc
monitor_set (x ∷ xs) zero zero old new e h = let s : x ≡ old = cc in h ∙ ap (λ (r : ObjectRec). r.monitor) (sym s)
monitor_set (x ∷ xs) zero (suc j) old new e h = refl
monitor_set (x ∷ xs) (suc i) zero old new e h = refl
monitor_set (x ∷ xs) (suc i) (suc j) old new e h = monitor_set xs i j old new e h

changed_by : (objects : List ObjectRec) (i q : ℕ) (change : ObjectRec → ObjectRec) → ((r : ObjectRec) → (change r).monitor ≡ r.monitor)
    → (r : Option ObjectRec) → object_at objects i ≡ r
    → monitor_if (object_at (changed_if objects i change r) q) ≡ monitor_if (object_at objects q)
changed_by objects i q change keeps None e = refl
changed_by objects zero q change keeps (Some r) e = cc
changed_by objects (suc i) zero change keeps (Some r) e = refl
changed_by objects (suc i) (suc j) change keeps (Some r) e =
    let s : suc i - 1 ≡ i = omega arith in
    ap (λ n. monitor_if (slice_get (slice_set objects n (change r)) j)) s ∙ monitor_set objects i j r (change r) e (keeps r)

-- ---- one step

abbrev Keeps : ℕ → Machine → Done → Type 0
Keeps q m (Goes new over) = monitor_of new.common q ≡ monitor_of m.common q
Keeps q m (Rests row operands) = Unit {0}
Keeps q m (Loops back) = Unit {0}
Keeps q m NoCase = Unit {0}

module _ (q : ℕ) (m : Machine) where
  gives_keeps : (to : Variable) (v : Option Value) → Keeps q m (gives m to v)
  gives_keeps to None = tt
  gives_keeps to (Some v) = ap (λ c. monitor_of c q) (machine_common m to v)

  decides_keeps : (to : Variable) (b : Option Bool) → Keeps q m (decides m to b)
  decides_keeps to None = tt
  decides_keeps to (Some b) = ap (λ c. monitor_of c q) (machine_common m to (Truth b))

  passes_keeps : (over : ℕ) (b : Option Bool) → Keeps q m (passes m over b)
  passes_keeps over None = tt
  passes_keeps over (Some true) = refl
  passes_keeps over (Some false) = refl

  stores_keeps : (own n : ℕ) (v : Option Value) → Keeps q m (stores m own n v)
  stores_keeps own n None = tt
  stores_keeps own n (Some v) =
      changed_by m.common.objects own q (with_element n v) (λ r. refl) (object_at m.common.objects own) refl

  rests_keeps : (row : StopRow) (own : ℕ) (vs : Option (List Value)) → Keeps q m (rests row own vs)
  rests_keeps row own None = tt
  rests_keeps row own (Some vs) = tt

  act_keeps : (literals : List (List ℕ)) (own : ℕ) (x : Op) → Keeps q m (act literals own m x)
  act_keeps literals own (op.Copy to from) = gives_keeps to (operand_at m from)
  act_keeps literals own (op.Literal to index) = gives_keeps to (option_map Str (slice_get literals index))
  act_keeps literals own (op.Itself to) = gives_keeps to (Some (Ref own))
  act_keeps literals own (op.Field to n) = gives_keeps to (own_field m.common own n)
  act_keeps literals own (op.SetField n from) = stores_keeps own n (operand_at m from)
  act_keeps literals own (op.Constant to index) = gives_keeps to (slice_get m.common.globals index)
  act_keeps literals own (op.Compute how to left right) =
      gives_keeps to (on_two (on_numbers (computed how)) (operand_at m left) (operand_at m right))
  act_keeps literals own (op.Decide to t wanted) = decides_keeps to (as_wanted wanted (tested m t))
  act_keeps literals own (op.Branch t wanted over) = passes_keeps over (as_wanted wanted (tested m t))
  act_keeps literals own (op.Jump over) = refl
  act_keeps literals own (op.Again back) = tt
  act_keeps literals own (op.Rest row) = rests_keeps row own (variables_at m row.operands)

-- ---- up to the next stop

walk_keeps : (q : ℕ) (literals : List (List ℕ)) (own place : ℕ) (code : List Line) (over : ℕ) (m : Machine)
    → monitor_of (walk literals own place code over m).0 q ≡ monitor_of m.common q
walk_keeps q literals own place [] over m = refl
walk_keeps q literals own place (line ∷ rest) (suc over) m = walk_keeps q literals own (suc place) rest over m
walk_keeps q literals own place (line ∷ rest) zero m =
    by (λ over new. walk_keeps q literals own (suc place) rest over new) (act literals own m line.op) (act_keeps q m literals own line.op)
  where
    by : ((over : ℕ) (new : Machine) → monitor_of (walk literals own (suc place) rest over new).0 q ≡ monitor_of new.common q)
        → (done : Done)
        → Keeps q m done → monitor_of (walk_by place (walk literals own (suc place) rest) m done).0 q ≡ monitor_of m.common q
    by more (Goes new over) h = more over new ∙ h
    by more (Rests row operands) h = refl
    by more (Loops back) h = refl
    by more NoCase h = refl

resting_common : (a : CodeActivation) (r : Common × Option Arrived) → (resting a r).0 ≡ r.0
resting_common a (c, r) = refl

pub silent_keeps_monitors : (p : Parts) → KeepsMonitors (code_silent p)
silent_keeps_monitors p c a q =
    ap (λ e. monitor_of e q) (resting_common a (reached p c a))
    ∙ walk_keeps q p.literals a.own (suc a.at) (drop (suc a.at) (code_if (operation_at p a.operation))) 0 (machine_behind p c a)
