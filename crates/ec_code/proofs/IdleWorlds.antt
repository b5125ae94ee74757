-- Entries keep what is said of activations whose action is done, and of the program's own object.
use Rattle.std.proofs.Common.{◌≡◌, ℕ, suc, Bool, true, false, List, [], ◌∷◌, ◌++◌, map, replicate, Option, Some, None, refl}
use Rattle.std.specs.List.{AllByRecursion as Each}
use Rattle.std.specs.Prelude.{slice_get, slice_set}
use Rattle.ec_base.specs.Stack.{top_of, below_of}
use Rattle.ec_code.specs.Activations.{begun, code_meaning, code_silent}
use Rattle.ec_code.specs.Fine.{Fine}
use Rattle.ec_code.specs.Typing.{Declared, kind_of}
use Rattle.ec_code.specs.declared.activation.CodeActivation.{CodeActivation}
use Rattle.ec_code.specs.declared.code.Parts.{Parts}
use Rattle.ec_code.proofs.Effects.{effect_goes, effect_taken}
use Rattle.ec_code.proofs.IdleObjects.{Plain, done_plain, given_up_plain, plain_done}
use Rattle.ec_code.proofs.IdleStacks.{Goes, IdleStack, changed_idle, idle_proc, pushed, stack_idle}
use Rattle.ec_code.proofs.IdleSteps.{silent_idle, silent_plain}
use Rattle.ec_code.specs.Idle.{IdleProc, IdleWorld, IsIdle, IsIdleTop, IsPlain}
use Rattle.ec_code.proofs.Carried.{each_append, each_get, each_replicate, each_set}
use Rattle.ec_code.proofs.SoundWorlds.{entry_sound, start_sound}
use Rattle.ec_code.specs.SoundLaws.{world_after}
use Rattle.ec_code.specs.Sound.{SoundWorld}
use Rattle.ec_world.specs.Doings.{Asked, doing_of}
use Rattle.ec_world.specs.Moves.{is_idle_move, moved_unless}
use Rattle.ec_world.specs.Outcomes.{Acted, acted_if, all_granted, done}
use Rattle.ec_world.specs.Run.{after_entries, after_entry, first_world, node_object, program_object}
use Rattle.ec_world.specs.Sights.{sight_of}
use Rattle.ec_world.specs.World.{Action, GoOn, act_if_pending, act_on, acted, advanced, all_readied, begun_for, changed, given_up}
use Rattle.ec_world.specs.World.{go_on, go_on_unless, outcome_at, owns_of, readied, settled, stack_at, who_of}
use Rattle.ec_world.specs.declared.common.Common.{Common}
use Rattle.ec_world.specs.declared.doing.Outcome.{Outcome}
use Rattle.ec_world.specs.declared.doing.Section.{Section}
use Rattle.ec_world.specs.declared.object.ObjectRec.{ObjectRec}
use Rattle.ec_world.specs.declared.process.Proc.{Proc}
use Rattle.ec_world.specs.declared.process.ProcStatus.TheVariants.{Ready}
use Rattle.ec_world.specs.declared.run.RunEntry.{RunEntry}
use Rattle.ec_world.specs.declared.run.RunEntry.TheVariants.{TurnOf, MoveOf}
use Rattle.ec_world.specs.declared.stop.Who.{Who}
use Rattle.ec_world.specs.declared.world.World.{World}

abbrev Procs : List (Proc CodeActivation) → Type 0
Procs = Each IdleProc

-- ---- processes

readied_idle : (ps : List (Proc CodeActivation)) (q : ℕ) → Procs ps → (proc : Option (Proc CodeActivation)) → slice_get ps q ≡ proc →
    Procs (readied ps q proc)
readied_idle ps q h None e = h
readied_idle ps q h (Some proc) e =
    let i = each_get IdleProc ps q proc h e in
    each_set IdleProc ps q (record proc { status = Ready }) h (record { below = i.below; top = i.top })

all_ready : (ps : List (Proc CodeActivation)) (qs : List ℕ) → Procs ps → Procs (all_readied ps qs)
all_ready ps [] h = h
all_ready ps (q ∷ qs) h = all_ready (readied ps q (slice_get ps q)) qs (readied_idle ps q h (slice_get ps q) refl)

new_proc : (op own : ℕ) → IdleProc (record { activations = begun op own [] ∷ []; status = Ready })
new_proc op own = record { below = tt; top = λ done. absurd (let no = done in cc) }

begins_idle : (started : Option Section) → Procs (begun_for code_meaning started)
begins_idle None = tt
begins_idle (Some section) = (new_proc section.operation section.own, tt)

-- ---- actions

settled_idle : (w : World CodeActivation) (n : ℕ) (below : List CodeActivation) (top : CodeActivation) (c : Common) (o : Outcome) →
    Procs w.processes → IdleStack (changed code_meaning below top o.effect).activations → (x : List ObjectRec × List ℕ) → Plain x.0 →
    IdleWorld (settled code_meaning w n below top c o x)
settled_idle w n below top c o ps new (objects, freed) h =
    let set : List (Proc CodeActivation) = slice_set w.processes n (changed code_meaning below top o.effect) in
    let qs : List ℕ = all_granted o.granted freed in
    record {
      objects = h;
      processes =
          each_append IdleProc (all_readied set qs) (begun_for code_meaning o.started)
          (all_ready set qs
          (each_set IdleProc w.processes n (changed code_meaning below top o.effect) ps
          (idle_proc (changed code_meaning below top o.effect) new)))
          (begins_idle o.started);
    }

-- what is done leaves the program's own object plain
abbrev PlainActed : Acted → Type 0
PlainActed None = Unit {0}
PlainActed (Some done) = Plain done.0.objects

plain_if : (c : Common) (who : Who) (asked : Asked) → Plain c.objects → PlainActed (acted_if c who asked)
plain_if c who None h = tt
plain_if c who (Some doing) h = plain_done (done c who doing) (done_plain c who h doing)

module _ (d : Declared) (p : Parts) (fine : Fine d p) (w : World CodeActivation) (n : ℕ) (s : SoundWorld d p w) (h : IdleWorld w) where
  abbrev lower : List CodeActivation
  lower = below_of (stack_at w n)

  acted_idle : (top : CodeActivation) → top_of (stack_at w n) ≡ Some top → top.pending ≡ true → (a : Acted) →
      outcome_at code_meaning w n lower top ≡ a → PlainActed a → IdleWorld (acted code_meaning w n lower top a)
  acted_idle top e pending None is k = h
  acted_idle top e pending (Some (c, o)) is k =
      settled_idle w n lower top c o h.processes
      (changed_idle lower top o.effect (stack_idle w n h).0 (effect_goes d p fine w s n top e pending c o is)
      (effect_taken d p fine w s n top e pending c o is))
      (given_up n (owns_of code_meaning lower top) o.effect c.objects)
      (given_up_plain n (owns_of code_meaning lower top) o.effect c.objects k)

  pending_idle : (top : CodeActivation) → top_of (stack_at w n) ≡ Some top → (pending : Bool) → top.pending ≡ pending →
      IdleWorld (act_if_pending code_meaning w n lower top pending)
  pending_idle top e false f = h
  pending_idle top e true f =
      acted_idle top e f (outcome_at code_meaning w n lower top) refl
      (plain_if w.common (who_of code_meaning n lower top)
      (doing_of (sight_of w.common) (who_of code_meaning n lower top) top.stop top.operands) h.objects)

  act_idle : (top : Option CodeActivation) → top_of (stack_at w n) ≡ top → IdleWorld (act_on code_meaning w n lower top)
  act_idle None e = h
  act_idle (Some top) e = pending_idle top e top.pending refl

  pub action_idle : IdleWorld (Action code_meaning w n)
  action_idle = act_idle (top_of (stack_at w n)) refl

-- ---- silent steps

module _ (p : Parts) (w : World CodeActivation) (n : ℕ) (h : IdleWorld w) where
  advanced_idle : (below : List CodeActivation) → Goes below → (x : Common × CodeActivation) → Plain x.0.objects →
      (x.1.pending ≡ false → IsIdle x.1) → IdleWorld (advanced code_meaning (code_silent p) w n below x)
  advanced_idle below g (c, a) k i = record {
    objects = k;
    processes =
        each_set IdleProc w.processes n (record { activations = below ++ a ∷ []; status = Ready }) h.processes
        (idle_proc (record { activations = below ++ a ∷ []; status = Ready }) (pushed below a g i));
  }

  unless_idle : (below : List CodeActivation) (top : CodeActivation) → Goes below → (top.pending ≡ false → IsIdle top) →
      (pending : Bool) → IdleWorld (go_on_unless code_meaning (code_silent p) w n below top pending)
  unless_idle below top g i true = h
  unless_idle below top g i false =
      advanced_idle below g (code_silent p w.common top) (silent_plain p w.common top h.objects) (silent_idle p w.common top i)

  go_idle : (below : List CodeActivation) (top : Option CodeActivation) → Goes below → IsIdleTop top →
      IdleWorld (go_on code_meaning (code_silent p) w n below top)
  go_idle below None g i = h
  go_idle below (Some top) g i = unless_idle below top g i top.pending

  pub go_on_idle : IdleWorld (GoOn code_meaning (code_silent p) w n)
  go_on_idle =
      let i = stack_idle w n h in
      go_idle (below_of (stack_at w n)) (top_of (stack_at w n)) i.0 i.1

-- ---- entries

moved_idle : (w : World CodeActivation) → IdleWorld w → (o k : ℕ) (idle : Bool) →
    IdleWorld (record w { common = moved_unless w.common o k idle })
moved_idle w h o k true = record { objects = h.objects; processes = h.processes }
moved_idle w h o k false = record { objects = h.objects; processes = h.processes }

module _ (d : Declared) (p : Parts) (fine : Fine d p) where
  pub entry_idle : (w : World CodeActivation) (e : RunEntry) → SoundWorld d p w → IdleWorld w →
      IdleWorld (after_entry code_meaning (code_silent p) w e)
  entry_idle w (TurnOf n) s h = go_on_idle p (Action code_meaning w n) n (action_idle d p fine w n s h)
  entry_idle w (MoveOf o k) s h = moved_idle w h o k (is_idle_move w.common o k)

  entries_idle : (w : World CodeActivation) (es : List RunEntry) → SoundWorld d p w → IdleWorld w →
      IdleWorld (after_entries code_meaning (code_silent p) w es)
  entries_idle w [] s h = h
  entries_idle w (e ∷ es) s h =
      entries_idle (after_entry code_meaning (code_silent p) w e) es (entry_sound d p fine w e s) (entry_idle w e s h)

  start_idle : (n : ℕ) → IdleWorld (first_world code_meaning n p.classes (map kind_of p.constants))
  start_idle n = record {
    objects =
        each_append IsPlain (replicate n node_object) (program_object ∷ [])
        (each_replicate IsPlain n node_object (λ e. refl)) (λ e. refl, tt);
    processes = (new_proc 0 (suc n), tt);
  }

  pub run_idle : (n : ℕ) (entries : List RunEntry) → IdleWorld (world_after p n entries)
  run_idle n entries =
      entries_idle (first_world code_meaning n p.classes (map kind_of p.constants)) entries (start_sound d p fine n) (start_idle n)
