-- A world in range stays so, entry by entry. Stacks are argued over effects alone.
use Rattle.std.proofs.Common.{ℕ, zero, suc, ◌≤◌, Bool, true, false, List, [], ◌∷◌, ◌++◌, map, replicate, Option, Some, None}
use Rattle.std.specs.List.{AllByRecursion as Each}
use Rattle.std.specs.Prelude.{slice_get, slice_set}
use Rattle.ec_base.specs.Stack.{top_of, below_of}
use Rattle.ec_code.specs.Activations.{begun, code_meaning, code_silent, finished, into_variable, with_result}
use Rattle.ec_code.specs.Typing.{kind_of}
use Rattle.ec_code.specs.declared.activation.CodeActivation.{CodeActivation}
use Rattle.ec_code.specs.declared.code.Parts.{Parts}
use Rattle.ec_code.specs.declared.code.Variable.{Variable}
use Rattle.ec_code.specs.declared.code.Variable.TheVariants.{Named, Temporary}
use Rattle.ec_monitors.specs.declared.record.MonitorRec.{MonitorRec}
use Rattle.ec_monitors.specs.Monitors.{dropped}
use Rattle.ec_code.proofs.Carried.{each_append, each_replicate, each_set}
use Rattle.ec_code.specs.SoundLaws.{world_after}
use Rattle.ec_world.specs.Moves.{OperatorMove, is_idle_move, moved_unless}
use Rattle.ec_world.specs.Objects.{object_at}
use Rattle.ec_world.specs.Outcomes.{Acted, all_granted, by_holder, dropped_at, dropped_each, dropped_if, monitor_if}
use Rattle.ec_world.specs.Run.{after_entries, after_entry, first_world, node_object, program_object}
use Rattle.ec_world.specs.World.{Action, GoOn, act_if_pending, act_on, acted, advanced, all_readied, begun_for, changed, finish_top}
use Rattle.ec_world.specs.World.{given_up}
use Rattle.ec_world.specs.World.{go_on, go_on_unless, outcome_at, owns_of, readied, ready_stack, settled, stack_at, stack_if_ready, who_of}
use Rattle.ec_world.specs.declared.common.Common.{Common}
use Rattle.ec_world.specs.declared.doing.Outcome.{Outcome}
use Rattle.ec_world.specs.declared.doing.Section.{Section}
use Rattle.ec_world.specs.declared.object.ObjectRec.{ObjectRec}
use Rattle.ec_world.specs.declared.process.Proc.{Proc}
use Rattle.ec_world.specs.declared.process.ProcStatus.{ProcStatus}
use Rattle.ec_world.specs.declared.process.ProcStatus.TheVariants.{Ready, Entry as AtEntry, Cond, Urgent, Ended, Failed}
use Rattle.ec_world.specs.declared.run.RunEntry.{RunEntry}
use Rattle.ec_world.specs.declared.run.RunEntry.TheVariants.{TurnOf, MoveOf}
use Rattle.ec_world.specs.declared.stop.Effect.{Effect}
use Rattle.ec_world.specs.declared.stop.Effect.TheVariants.{GoesOn, Calls, Leaves, Blocks, Ends, Fails}
use Rattle.ec_world.specs.declared.value.Value.{Value}
use Rattle.ec_world.specs.declared.world.World.{World}
use Rattle.ec_code.specs.Actions.{RangedDone, RangedEffect}
use Rattle.ec_code.specs.Code.{SmallProgram}
use Rattle.ec_code.specs.RangesValues.{AllInRange, GivenInRange, InRange}
use Rattle.ec_code.specs.Worlds.{RangedActivation, RangedCommon, RangedObject, RangedProc, RangedWorld, most_nodes}
use Rattle.ec_code.proofs.RangesLists.{IfThere, each_below, each_top}
use Rattle.ec_code.proofs.RangesObjects.{changed_ranged, defaults_ranged}
use Rattle.ec_code.proofs.Outcomes.{outcome_ranged, with_objects}
use Rattle.ec_code.proofs.RangesSteps.{RangedResting, put_ranged, silent_ranged}

-- ---- activations

abbrev pub Stack : List CodeActivation → Type 0
Stack = Each RangedActivation

into_ranged : (a : CodeActivation) → RangedActivation a → (x : Variable) (v : Value) → InRange v → RangedActivation (with_result a x v)
into_ranged a h (Named n) v r =
    record { operands = h.operands; variables = each_set InRange a.variables n v h.variables r; temporaries = h.temporaries }
into_ranged a h (Temporary d) v r =
    record { operands = h.operands; variables = h.variables; temporaries = put_ranged a.temporaries d v h.temporaries r }

result_ranged : (a : CodeActivation) → RangedActivation a → (x : Option Variable) (v : Value) → InRange v
    → RangedActivation (into_variable a x v)
result_ranged a h None v r = record { operands = h.operands; variables = h.variables; temporaries = h.temporaries }
result_ranged a h (Some x) v r = into_ranged a h x v r

pub finished_ranged : (a : CodeActivation) → RangedActivation a → (given : Option Value) → GivenInRange given
    → RangedActivation (finished a given)
finished_ranged a h None r = record { operands = h.operands; variables = h.variables; temporaries = h.temporaries }
finished_ranged a h (Some v) r = result_ranged a h a.into v r

pub begun_ranged : (op own : ℕ) (args : List Value) → AllInRange args → RangedActivation (begun op own args)
begun_ranged op own args r = record { operands = tt; variables = r; temporaries = tt }

-- ---- stacks

push : (xs : List CodeActivation) (a : CodeActivation) → Stack xs → RangedActivation a → Stack (xs ++ a ∷ [])
push xs a h r = each_append RangedActivation xs (a ∷ []) h (r, tt)

finish_ranged : (below : List CodeActivation) (top : Option CodeActivation) (given : Option Value) → Stack below
    → IfThere RangedActivation top → GivenInRange given → Stack (finish_top code_meaning below top given)
finish_ranged below None given h t r = tt
finish_ranged below (Some top) given h t r = push below (finished top given) h (finished_ranged top t given r)

-- an effect
pub changed_stack : (below : List CodeActivation) (top : CodeActivation) (e : Effect) → Stack below → RangedActivation top
    → RangedEffect e → RangedProc (changed code_meaning below top e)
changed_stack below top (GoesOn given) h t r = push below (finished top given) h (finished_ranged top t given r)
changed_stack below top (Calls op own args) h t r =
    push (below ++ finished top None ∷ []) (begun op own args) (push below (finished top None) h (finished_ranged top t None tt))
    (begun_ranged op own args r)
changed_stack below top (Leaves given) h t r =
    finish_ranged (below_of below) (top_of below) given (each_below RangedActivation below h) (each_top RangedActivation below h) r
changed_stack below top (Blocks queue oid) h t r = push below (finished top None) h (finished_ranged top t None tt)
changed_stack below top Ends h t r = tt
changed_stack below top (Fails why line) h t r = tt

-- ---- processes

abbrev pub Procs : List (Proc CodeActivation) → Type 0
Procs = Each RangedProc

status_stack : (s : ProcStatus) (xs : List CodeActivation) → Stack xs → Stack (stack_if_ready s xs)
status_stack Ready xs h = h
status_stack (AtEntry o) xs h = tt
status_stack (Cond o) xs h = tt
status_stack (Urgent o) xs h = tt
status_stack Ended xs h = tt
status_stack (Failed why line) xs h = tt

proc_there : (ps : List (Proc CodeActivation)) (n : ℕ) → Procs ps → IfThere RangedProc (slice_get ps n)
proc_there [] n h = tt
proc_there (p ∷ ps) zero h = h.0
proc_there (p ∷ ps) (suc n) h = proc_there ps n h.1

ready_ranged : (proc : Option (Proc CodeActivation)) → IfThere RangedProc proc → Stack (ready_stack proc)
ready_ranged None h = tt
ready_ranged (Some proc) h = status_stack proc.status proc.activations h

pub stack_ranged : (w : World CodeActivation) (n : ℕ) → RangedWorld w → Stack (stack_at w n)
stack_ranged w n h = ready_ranged (slice_get w.processes n) (proc_there w.processes n h.processes)

readied_ranged : (ps : List (Proc CodeActivation)) (q : ℕ) → Procs ps → (proc : Option (Proc CodeActivation)) → IfThere RangedProc proc
    → Procs (readied ps q proc)
readied_ranged ps q h None r = h
readied_ranged ps q h (Some proc) r = each_set RangedProc ps q (record proc { status = Ready }) h r

all_ready : (ps : List (Proc CodeActivation)) (qs : List ℕ) → Procs ps → Procs (all_readied ps qs)
all_ready ps [] h = h
all_ready ps (q ∷ qs) h =
    all_ready (readied ps q (slice_get ps q)) qs (readied_ranged ps q h (slice_get ps q) (proc_there ps q h))

begins_ranged : (started : Option Section) → Procs (begun_for code_meaning started)
begins_ranged None = tt
begins_ranged (Some section) = ((begun_ranged section.operation section.own [] tt, tt), tt)

-- ---- what a failed process gives up

abbrev Objects : List ObjectRec → Type 0
Objects = Each RangedObject

drop_ranged : (objects : List ObjectRec) (n oid : ℕ) → Objects objects → (m : Option MonitorRec)
    → Objects (dropped_if objects n oid m).0
drop_ranged objects n oid h None = h
drop_ranged objects n oid h (Some m) =
    changed_ranged objects oid (λ o. record o { monitor = Some (by_holder n m (dropped m)).0 }) h (λ o r. r)

drops_ranged : (n : ℕ) (oids : List ℕ) (objects : List ObjectRec) → Objects objects → Objects (dropped_each n oids objects).0
drops_ranged n [] objects h = h
drops_ranged n (oid ∷ oids) objects h =
    drops_ranged n oids (dropped_at objects n oid).0 (drop_ranged objects n oid h (monitor_if (object_at objects oid)))

pub given_up_ranged : (n : ℕ) (owns : List ℕ) (e : Effect) (objects : List ObjectRec) → Objects objects
    → Objects (given_up n owns e objects).0
given_up_ranged n owns (Fails why line) objects h = drops_ranged n owns objects h
given_up_ranged n owns (GoesOn given) objects h = h
given_up_ranged n owns (Calls op own args) objects h = h
given_up_ranged n owns (Leaves given) objects h = h
given_up_ranged n owns (Blocks queue oid) objects h = h
given_up_ranged n owns Ends objects h = h

-- ---- actions

settled_ranged : (w : World CodeActivation) (n : ℕ) (below : List CodeActivation) (top : CodeActivation) (c : Common) (o : Outcome)
    → Procs w.processes → RangedProc (changed code_meaning below top o.effect) → RangedCommon c
    → (x : List ObjectRec × List ℕ) → Objects x.0 → RangedWorld (settled code_meaning w n below top c o x)
settled_ranged w n below top c o ps new h (objects, freed) os =
    let set : List (Proc CodeActivation) = slice_set w.processes n (changed code_meaning below top o.effect) in
    let qs : List ℕ = all_granted o.granted freed in
    record {
      common = with_objects c h objects os;
      processes =
          each_append RangedProc (all_readied set qs) (begun_for code_meaning o.started)
          (all_ready set qs (each_set RangedProc w.processes n (changed code_meaning below top o.effect) ps new))
          (begins_ranged o.started);
    }

acted_world : (w : World CodeActivation) → RangedWorld w → (n : ℕ) (below : List CodeActivation) (top : CodeActivation) → Stack below
    → RangedActivation top → (a : Acted) → IfThere RangedDone a → RangedWorld (acted code_meaning w n below top a)
acted_world w h n below top b t None r = h
acted_world w h n below top b t (Some (c, o)) r =
    settled_ranged w n below top c o h.processes (changed_stack below top o.effect b t r.1) r.0
    (given_up n (owns_of code_meaning below top) o.effect c.objects)
    (given_up_ranged n (owns_of code_meaning below top) o.effect c.objects (let k = r.0 in k.objects))

pending_world : (w : World CodeActivation) → RangedWorld w → (n : ℕ) (below : List CodeActivation) (top : CodeActivation) → Stack below
    → RangedActivation top → (pending : Bool) → RangedWorld (act_if_pending code_meaning w n below top pending)
pending_world w h n below top b t false = h
pending_world w h n below top b t true =
    acted_world w h n below top b t (outcome_at code_meaning w n below top)
    (outcome_ranged w.common h.common (who_of code_meaning n below top) top.stop top.operands t.operands)

act_on_world : (w : World CodeActivation) → RangedWorld w → (n : ℕ) (below : List CodeActivation) (top : Option CodeActivation)
    → Stack below → IfThere RangedActivation top → RangedWorld (act_on code_meaning w n below top)
act_on_world w h n below None b t = h
act_on_world w h n below (Some top) b t = pending_world w h n below top b t top.pending

pub action_ranged : (w : World CodeActivation) (n : ℕ) → RangedWorld w → RangedWorld (Action code_meaning w n)
action_ranged w n h =
    let s : Stack (stack_at w n) = stack_ranged w n h in
    act_on_world w h n (below_of (stack_at w n)) (top_of (stack_at w n)) (each_below RangedActivation (stack_at w n) s)
    (each_top RangedActivation (stack_at w n) s)

-- ---- moves by the operator

moved_ranged : (w : World CodeActivation) → RangedWorld w → (o k : ℕ) (idle : Bool)
    → RangedWorld (record w { common = moved_unless w.common o k idle })
moved_ranged w h o k true = record { common = h.common; processes = h.processes }
moved_ranged w h o k false =
    let c = h.common in
    record { common = record { nodes = c.nodes; objects = c.objects; constants = c.constants }; processes = h.processes }

pub move_ranged : (w : World CodeActivation) (o k : ℕ) → RangedWorld w → RangedWorld (OperatorMove w o k)
move_ranged w o k h = moved_ranged w h o k (is_idle_move w.common o k)

-- ---- silent steps and entries

module _ (p : Parts) (small : SmallProgram p) where
  advanced_world : (w : World CodeActivation) → RangedWorld w → (n : ℕ) (below : List CodeActivation) → Stack below
      → (x : Common × CodeActivation) → RangedResting x → RangedWorld (advanced code_meaning (code_silent p) w n below x)
  advanced_world w h n below b (c, a) r = record {
    common = r.0;
    processes =
        each_set RangedProc w.processes n (record { activations = below ++ a ∷ []; status = Ready }) h.processes (push below a b r.1);
  }

  unless_pending : (w : World CodeActivation) → RangedWorld w → (n : ℕ) (below : List CodeActivation) (top : CodeActivation) → Stack below
      → RangedActivation top → (pending : Bool) → RangedWorld (go_on_unless code_meaning (code_silent p) w n below top pending)
  unless_pending w h n below top b t true = h
  unless_pending w h n below top b t false =
      advanced_world w h n below b (code_silent p w.common top) (silent_ranged p small w.common h.common top t)

  go_on_by : (w : World CodeActivation) → RangedWorld w → (n : ℕ) (below : List CodeActivation) (top : Option CodeActivation)
      → Stack below → IfThere RangedActivation top → RangedWorld (go_on code_meaning (code_silent p) w n below top)
  go_on_by w h n below None b t = h
  go_on_by w h n below (Some top) b t = unless_pending w h n below top b t top.pending

  pub go_on_ranged : (w : World CodeActivation) (n : ℕ) → RangedWorld w → RangedWorld (GoOn code_meaning (code_silent p) w n)
  go_on_ranged w n h =
      let s : Stack (stack_at w n) = stack_ranged w n h in
      go_on_by w h n (below_of (stack_at w n)) (top_of (stack_at w n)) (each_below RangedActivation (stack_at w n) s)
      (each_top RangedActivation (stack_at w n) s)

  pub entry_ranged : (w : World CodeActivation) (e : RunEntry) → RangedWorld w
      → RangedWorld (after_entry code_meaning (code_silent p) w e)
  entry_ranged w (TurnOf n) h = go_on_ranged (Action code_meaning w n) n (action_ranged w n h)
  entry_ranged w (MoveOf o k) h = move_ranged w o k h

  pub entries_ranged : (w : World CodeActivation) (es : List RunEntry) → RangedWorld w
      → RangedWorld (after_entries code_meaning (code_silent p) w es)
  entries_ranged w [] h = h
  entries_ranged w (e ∷ es) h = entries_ranged (after_entry code_meaning (code_silent p) w e) es (entry_ranged w e h)

  -- ---- the start

  start_ranged : (n : ℕ) → n ≤ most_nodes → RangedWorld (first_world code_meaning n p.classes (map kind_of p.constants))
  start_ranged n few = record {
    common = record {
      nodes = few;
      objects =
          each_append RangedObject (replicate n node_object) (program_object ∷ [])
          (each_replicate RangedObject n node_object (record { values = tt; few = tt })) (record { values = tt; few = tt }, tt);
      constants = defaults_ranged (map kind_of p.constants);
    };
    processes = ((begun_ranged 0 (suc n) [] tt, tt), tt);
  }

  pub runs_ranged : (n : ℕ) → n ≤ most_nodes → (entries : List RunEntry) → RangedWorld (world_after p n entries)
  runs_ranged n few entries =
      entries_ranged (first_world code_meaning n p.classes (map kind_of p.constants)) entries (start_ranged n few)
