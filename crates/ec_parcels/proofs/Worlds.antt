-- Entries make no vectors but of types that the code makes.
use Rattle.std.proofs.Common.{◌≡◌, ℕ, zero, suc, Bool, true, false, List, [], ◌∷◌, map, replicate, Option, Some, None, refl, sym, ap, ◌∙◌}
use Rattle.ec_base.specs.Stack.{top_of, below_of}
use Rattle.ec_parcels.proofs.Objects.{AreMade, IsMade, MadeActed, changed_made, given_up_made, outcome_made}
use Rattle.ec_parcels.proofs.Types.{type_of_line}
use Rattle.ec_parcels.specs.Vectors.{VectorsAreMade, made_at, made_by, vector_types}
use Rattle.ec_code.specs.Activations.{code_meaning, code_silent}
use Rattle.ec_code.specs.Fine.{Fine}
use Rattle.ec_code.specs.Typing.{Declared, kind_of}
use Rattle.ec_code.specs.declared.activation.CodeActivation.{CodeActivation}
use Rattle.ec_code.specs.declared.code.Parts.{Parts}
use Rattle.ec_code.proofs.Walks.{silent_keeps}
use Rattle.ec_code.proofs.Carried.{each_append, each_object, each_replicate}
use Rattle.ec_code.proofs.Facts.{pending_top}
use Rattle.ec_code.proofs.SoundWorlds.{entry_sound, start_sound}
use Rattle.ec_code.specs.SoundLaws.{world_after}
use Rattle.ec_code.specs.Sound.{RestsAt, SoundWorld}
use Rattle.ec_world.specs.Group.{Has}
use Rattle.ec_world.specs.Moves.{OperatorMove, is_idle_move, moved_unless}
use Rattle.ec_world.specs.Objects.{object_at}
use Rattle.ec_world.specs.Outcomes.{Acted, with_element}
use Rattle.ec_world.specs.Run.{after_entries, after_entry, first_world, node_object, program_object}
use Rattle.ec_world.specs.World.{Action, GoOn, act_if_pending, act_on, acted, advanced, given_up, go_on, go_on_unless, outcome_at, owns_of}
use Rattle.ec_world.specs.World.{settled, stack_at, who_of}
use Rattle.ec_world.specs.declared.class.ClassNo.TheVariants.{Vector}
use Rattle.ec_world.specs.declared.class.VectorType.{VectorType}
use Rattle.ec_world.specs.declared.common.Common.{Common}
use Rattle.ec_world.specs.declared.doing.Outcome.{Outcome}
use Rattle.ec_world.specs.declared.object.ObjectRec.{ObjectRec}
use Rattle.ec_world.specs.declared.run.RunEntry.{RunEntry}
use Rattle.ec_world.specs.declared.run.RunEntry.TheVariants.{TurnOf, MoveOf}
use Rattle.ec_world.specs.declared.stop.Stop.TheVariants as stop
use Rattle.ec_world.specs.declared.world.World.{World}

-- ---- object by object

each_made : (types : List VectorType) (objects : List ObjectRec) →
    ((oid : ℕ) (o : ObjectRec) (of : VectorType) → object_at objects oid ≡ Some o → o.class ≡ Vector of → Has types of) →
    AreMade types objects
each_made types [] f = tt
each_made types (o ∷ os) f = (λ of. f 1 o of refl, each_made types os (λ oid u of e. by oid u of e))
  where
    by : (oid : ℕ) (u : ObjectRec) (of : VectorType) → object_at os oid ≡ Some u → u.class ≡ Vector of → Has types of
    by zero u of e k = absurd cc
    by (suc i) u of e k = f (suc (suc i)) u of e k

module _ (p : Parts) where
  abbrev Made : List ObjectRec → Type 0
  Made = AreMade (vector_types p)

  abbrev IsOne : ObjectRec → Type 0
  IsOne = IsMade (vector_types p)

  by_each : (w : World CodeActivation) → VectorsAreMade p w → Made w.common.objects
  by_each w h = each_made (vector_types p) w.common.objects h

  by_number : (w : World CodeActivation) → Made w.common.objects → VectorsAreMade p w
  by_number w h oid o of e is = each_object IsOne w.common.objects oid o h e of is

  -- ---- actions

  -- a stop of the code makes vectors of one of the program's types
  stop_made : (d : Declared) (objects : List ObjectRec) (a : CodeActivation) → RestsAt d p objects a → (of : VectorType) (line : ℕ) →
      a.stop ≡ stop.NewVector of line → Has (vector_types p) of
  stop_made d objects a r of line e =
      type_of_line p a.operation r.of a.at r.line of r.is_operation r.is_line
      (ap made_by r.is_row ∙ ap made_at (sym r.stop ∙ e))

  settled_made : (w : World CodeActivation) (n : ℕ) (below : List CodeActivation) (top : CodeActivation) (c : Common) (o : Outcome)
      (x : List ObjectRec × List ℕ) → Made x.0 → Made (settled code_meaning w n below top c o x).common.objects
  settled_made w n below top c o (objects, freed) h = h

  module _ (d : Declared) (fine : Fine d p) (w : World CodeActivation) (n : ℕ) (s : SoundWorld d p w) (h : Made w.common.objects) where
    abbrev lower : List CodeActivation
    lower = below_of (stack_at w n)

    acted_made : (top : CodeActivation) (a : Acted) → MadeActed (vector_types p) a →
        Made (acted code_meaning w n lower top a).common.objects
    acted_made top None k = h
    acted_made top (Some (c, o)) k =
        settled_made w n lower top c o (given_up n (owns_of code_meaning lower top) o.effect c.objects)
        (given_up_made (vector_types p) n (owns_of code_meaning lower top) o.effect c.objects k)

    pending_made : (top : CodeActivation) → top_of (stack_at w n) ≡ Some top → (pending : Bool) → top.pending ≡ pending →
        Made (act_if_pending code_meaning w n lower top pending).common.objects
    pending_made top e false f = h
    pending_made top e true f =
        acted_made top (outcome_at code_meaning w n lower top)
        (outcome_made (vector_types p) w.common (who_of code_meaning n lower top) h top.stop top.operands
        (stop_made d w.common.objects top (pending_top d p fine w s n top e f).rests))

    act_made : (top : Option CodeActivation) → top_of (stack_at w n) ≡ top → Made (act_on code_meaning w n lower top).common.objects
    act_made None e = h
    act_made (Some top) e = pending_made top e top.pending refl

    action_each : Made (Action code_meaning w n).common.objects
    action_each = act_made (top_of (stack_at w n)) refl

  pub action_made : (d : Declared) (fine : Fine d p) (w : World CodeActivation) (n : ℕ) → SoundWorld d p w → VectorsAreMade p w →
      VectorsAreMade p (Action code_meaning w n)
  action_made d fine w n s h = by_number (Action code_meaning w n) (action_each d fine w n s (by_each w h))

  -- ---- silent steps

  abbrev MadeCommon : Common → Type 0
  MadeCommon c = Made c.objects

  silent_made : (q : Parts) (c : Common) (a : CodeActivation) → Made c.objects → Made (code_silent q c a).0.objects
  silent_made q c a h =
      silent_keeps MadeCommon q c a
      (λ m n v k. changed_made (vector_types p) m.common.objects a.own (with_element n v) k (λ o i. i)) h

  module _ (q : Parts) (w : World CodeActivation) (n : ℕ) (h : Made w.common.objects) where
    advanced_made : (below : List CodeActivation) (x : Common × CodeActivation) → Made x.0.objects →
        Made (advanced code_meaning (code_silent q) w n below x).common.objects
    advanced_made below (c, a) k = k

    unless_made : (below : List CodeActivation) (top : CodeActivation) (pending : Bool) →
        Made (go_on_unless code_meaning (code_silent q) w n below top pending).common.objects
    unless_made below top true = h
    unless_made below top false = advanced_made below (code_silent q w.common top) (silent_made q w.common top h)

    go_made : (below : List CodeActivation) (top : Option CodeActivation) →
        Made (go_on code_meaning (code_silent q) w n below top).common.objects
    go_made below None = h
    go_made below (Some top) = unless_made below top top.pending

  pub go_on_made : (q : Parts) (w : World CodeActivation) (n : ℕ) → VectorsAreMade p w →
      VectorsAreMade p (GoOn code_meaning (code_silent q) w n)
  go_on_made q w n h =
      by_number (GoOn code_meaning (code_silent q) w n) (go_made q w n (by_each w h) (below_of (stack_at w n)) (top_of (stack_at w n)))

  -- ---- moves by the operator

  unless_moved : (w : World CodeActivation) → Made w.common.objects → (o k : ℕ) (idle : Bool) →
      Made (moved_unless w.common o k idle).objects
  unless_moved w h o k true = h
  unless_moved w h o k false = h

  pub move_made : (w : World CodeActivation) (o k : ℕ) → VectorsAreMade p w → VectorsAreMade p (OperatorMove w o k)
  move_made w o k h = by_number (OperatorMove w o k) (unless_moved w (by_each w h) o k (is_idle_move w.common o k))

  -- ---- runs

  first_made : (n : ℕ) → VectorsAreMade p (first_world code_meaning n p.classes (map kind_of p.constants))
  first_made n =
      by_number (first_world code_meaning n p.classes (map kind_of p.constants))
      (each_append IsOne (replicate n node_object) (program_object ∷ [])
      (each_replicate IsOne n node_object (λ of e. absurd (let no = e in cc))) (λ of e. absurd (let no = e in cc), tt))

  module _ (d : Declared) (fine : Fine d p) where
    entry_made : (w : World CodeActivation) (e : RunEntry) → SoundWorld d p w → VectorsAreMade p w →
        VectorsAreMade p (after_entry code_meaning (code_silent p) w e)
    entry_made w (TurnOf n) s h = go_on_made p (Action code_meaning w n) n (action_made d fine w n s h)
    entry_made w (MoveOf o k) s h = move_made w o k h

    entries_made : (w : World CodeActivation) (es : List RunEntry) → SoundWorld d p w → VectorsAreMade p w →
        VectorsAreMade p (after_entries code_meaning (code_silent p) w es)
    entries_made w [] s h = h
    entries_made w (e ∷ es) s h =
        entries_made (after_entry code_meaning (code_silent p) w e) es (entry_sound d p fine w e s) (entry_made w e s h)

    pub run_made : (n : ℕ) (entries : List RunEntry) → VectorsAreMade p (world_after p n entries)
    run_made n entries =
        entries_made (first_world code_meaning n p.classes (map kind_of p.constants)) entries (start_sound d p fine n) (first_made n)
