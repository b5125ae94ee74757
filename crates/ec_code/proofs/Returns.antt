-- What the actions of returns and of monitors make.
use Rattle.std.proofs.Common.{◌≡◌, ℕ, Bool, true, false, ◌&&◌, if◌then◌else◌, List, [], ◌∷◌, Option, Some, None, refl, sym, ◌∙◌, ap, subst}
use Rattle.std.proofs.lemmas.Bool.{lt-ltb}
use Rattle.std.specs.Prelude.{nat_lt, slice_get, IfSome}
use Rattle.ec_code.specs.declared.code.Operation.{Operation}
use Rattle.ec_code.specs.declared.code.Parts.{Parts}
use Rattle.ec_code.specs.Fine.{Begins, Fine, FineCondition, FineReturn, GivesBack}
use Rattle.ec_code.specs.Typing.{Declared, class_type}
use Rattle.ec_types.specs.declared.conform.static_type.StaticType.{StaticType}
use Rattle.ec_monitors.specs.declared.record.Entry.{Entry as Within}
use Rattle.ec_monitors.specs.declared.record.Entry.TheVariants.{Entered, Queued}
use Rattle.ec_monitors.specs.declared.record.Granted.{Granted}
use Rattle.ec_monitors.specs.declared.record.MonitorRec.{MonitorRec}
use Rattle.ec_monitors.specs.Monitors.{Granting, entered, left, signalled, waited}
use Rattle.ec_world.specs.Agree.{AllTwo}
use Rattle.ec_world.specs.Doings.{Asked, condition_asks, conditions_of, entry_asks, is_inside, return_asks, runs_inside, section_in}
use Rattle.ec_world.specs.Objects.{class_at}
use Rattle.ec_world.specs.Outcomes.{acting, at_condition, by_holder, entering, entry_done, left_behind, monitor_of, return_done, section_on}
use Rattle.ec_world.specs.Outcomes.{signal_done}
use Rattle.ec_world.specs.Outcomes.{signal_effect, wait_done, with_monitor}
use Rattle.ec_world.specs.Sights.{Sight, class_if, class_record, sight_of}
use Rattle.ec_world.specs.declared.class.ClassNo.{ClassNo}
use Rattle.ec_world.specs.declared.class.ClassNo.TheVariants.{Node, Program, Made, Vector}
use Rattle.ec_world.specs.declared.class.ClassRec.{ClassRec}
use Rattle.ec_world.specs.declared.common.Common.{Common}
use Rattle.ec_world.specs.declared.doing.Doing.{Doing}
use Rattle.ec_world.specs.declared.doing.Doing.TheVariants.{Signals, Waits}
use Rattle.ec_world.specs.declared.doing.Section.{Section}
use Rattle.ec_world.specs.declared.object.ObjectRec.{ObjectRec}
use Rattle.ec_world.specs.declared.stop.Effect.{Effect}
use Rattle.ec_world.specs.declared.stop.Effect.TheVariants.{Blocks, Leaves}
use Rattle.ec_world.specs.declared.stop.Queue.TheVariants.{ForCondition}
use Rattle.ec_world.specs.declared.stop.Who.{Who}
use Rattle.ec_world.specs.declared.value.Value.{Value}
use Rattle.ec_world.specs.declared.value.Value.TheVariants.{Ref}
use Rattle.ec_code.specs.Sound.{FineDone, FineEffect, FineObject, FineSection, OfGiven, SoundCommon}
use Rattle.ec_code.specs.SoundValues.{HasType, Later, class_in}
use Rattle.ec_code.proofs.Carried.{each_object, later_changed, later_same, value_later, with_changed}
use Rattle.ec_code.proofs.Done.{Acts, does, none_given}
use Rattle.ec_code.proofs.Typed.{of_object, stands}

module _ (d : Declared) (p : Parts) (fine : Fine d p) (c : Common) (sound : SoundCommon d p c) (number : ℕ) (o : Operation)
    (given : Option StaticType) (who : Who) where
  abbrev sight : Sight
  sight = sight_of c

  abbrev Well : Asked → Type 0
  Well asked = Acts d p c sound o given who asked

  -- ---- monitors

  with_monitor_sound : (own : ℕ) (m : MonitorRec) → SoundCommon d p (with_monitor c own m)
  with_monitor_sound own m =
      with_changed d p c sound own (λ r. record r { monitor = Some m }) (λ r. refl)
      (λ r at. each_object (FineObject d p c.objects) c.objects own r sound.objects at)

  with_monitor_later : (own : ℕ) (m : MonitorRec) → Later c.objects (with_monitor c own m).objects
  with_monitor_later own m = later_changed c.objects own (λ r. record r { monitor = Some m }) (λ r. refl)

  acting_sound : (own : ℕ) (effect : Option Granted → Effect) (started : Option Section)
      → ((objects : List ObjectRec) → Later c.objects objects → (g : Option Granted) → FineEffect d p objects o given (effect g))
      → ((objects : List ObjectRec) → Later c.objects objects → FineSection d p objects started) → (g : Granting)
      → FineDone d p c o given (acting c own effect started g)
  acting_sound own effect started f s (m, granted) = (
    with_monitor_later own m,
    with_monitor_sound own m,
    f (with_monitor c own m).objects (with_monitor_later own m) granted,
    s (with_monitor c own m).objects (with_monitor_later own m),
  )

  entering_sound : (own : ℕ) → given ≡ None → (x : MonitorRec × Within) → FineDone d p c o given (entering c own x)
  entering_sound own g (m, Entered) =
      (with_monitor_later own m, with_monitor_sound own m, none_given d p (with_monitor c own m).objects given g, tt)
  entering_sound own g (m, Queued) = (with_monitor_later own m, with_monitor_sound own m, g, tt)

  entry_by : given ≡ None → (m : Option MonitorRec) → FineDone d p c o given (entry_done c who m)
  entry_by g None = (later_same c.objects, sound, none_given d p c.objects given g, tt)
  entry_by g (Some m) = entering_sound who.own g (entered m who.process)

  pub entry_sound : (inside : Bool) → given ≡ None → Well (entry_asks inside)
  entry_sound true g = entry_by g (monitor_of c who.own)
  entry_sound false g = does d p c sound o given who g

  wait_by : (condition : ℕ) → given ≡ None → (m : Option MonitorRec) → FineDone d p c o given (wait_done c who condition m)
  wait_by condition g None = (later_same c.objects, sound, none_given d p c.objects given g, tt)
  wait_by condition g (Some m) =
      acting_sound who.own (λ granted. Blocks ForCondition who.own) None (λ objects l granted. g) (λ objects l. tt)
      (by_holder who.process m (at_condition m condition (waited m condition)))

  signal_effect_fine : (objects : List ObjectRec) → given ≡ None → (granted : Option Granted)
      → FineEffect d p objects o given (signal_effect who.own granted)
  signal_effect_fine objects g None = none_given d p objects given g
  signal_effect_fine objects g (Some q) = g

  signal_by : (condition : ℕ) → given ≡ None → (m : Option MonitorRec) → FineDone d p c o given (signal_done c who condition m)
  signal_by condition g None = (later_same c.objects, sound, none_given d p c.objects given g, tt)
  signal_by condition g (Some m) =
      acting_sound who.own (signal_effect who.own) None (λ objects l granted. signal_effect_fine objects g granted) (λ objects l. tt)
      (by_holder who.process m (at_condition m condition (signalled m condition)))

  both_true : (a b : Bool) → a ≡ true → b ≡ true → (a && b) ≡ true
  both_true true b h k = k
  both_true false b h k = h

  -- the condition is the own object's, whose monitor the operation has entered
  condition_sound : (condition : ℕ) (act : Doing) → who.operation ≡ number → class_in c.objects who.own ≡ Some o.class
      → FineCondition d p number o condition → Well (Some act) → Well (condition_asks sight who condition act)
  condition_sound condition act is at f h =
      let class : class_record sight who.own ≡ Some f.class =
      ap (λ z. class_if c.classes z) (at ∙ ap Some f.is_class) ∙ ap (λ cs. slice_get cs f.place) sound.classes ∙ f.is in
      let inside : is_inside sight who ≡ true =
      ap (λ z. runs_inside z who.operation) class ∙ ap (λ n. runs_inside (Some f.class) n) is ∙ f.is_inside in
      let below : nat_lt condition (conditions_of (class_record sight who.own)) ≡ true =
      ap (λ z. nat_lt condition (conditions_of z)) class ∙ lt-ltb condition (conditions_of (Some f.class)) f.there in
      subst (λ b. Well (if b then Some act else None))
      (sym (both_true (is_inside sight who) (nat_lt condition (conditions_of (class_record sight who.own))) inside below)) h

  pub wait_sound : (condition : ℕ) → who.operation ≡ number → class_in c.objects who.own ≡ Some o.class
      → FineCondition d p number o condition
      → given ≡ None → Well (condition_asks sight who condition (Waits condition))
  wait_sound condition is at f g = condition_sound condition (Waits condition) is at f (wait_by condition g (monitor_of c who.own))

  pub signal_sound : (condition : ℕ) → who.operation ≡ number → class_in c.objects who.own ≡ Some o.class
      → FineCondition d p number o condition
      → given ≡ None → Well (condition_asks sight who condition (Signals condition))
  signal_sound condition is at f g = condition_sound condition (Signals condition) is at f (signal_by condition g (monitor_of c who.own))

  -- ---- process sections

  section_if : (objects : List ObjectRec) (own k : ℕ) → class_in objects own ≡ Some (Made k) → (section : Option ℕ)
      → IfSome section (λ n. Begins d p n (Made k)) → FineSection d p objects (section_on own section)
  section_if objects own k at None h = tt
  section_if objects own k at (Some n) h = (Made k, at, h)

  section_by : (objects : List ObjectRec) (own k : ℕ) → class_in objects own ≡ Some (Made k) → (r : Option ClassRec)
      → slice_get c.classes k ≡ r
      → FineSection d p objects (section_on own (section_in r))
  section_by objects own k at None e = tt
  section_by objects own k at (Some r) e =
      let here : slice_get p.classes k ≡ Some r = ap (λ cs. slice_get cs k) (sym sound.classes) ∙ e in
      let t = fine.declared k r here in
      let f = fine.classes k t.0 t.1 in
      let same : f.0 ≡ r = (let m = f.1 in cc) in
      section_if objects own k at r.process (subst (λ (z : ClassRec). IfSome z.process (λ n. Begins d p n (Made k))) same f.2.process)

  section_of : (objects : List ObjectRec) (own : ℕ) (k : ClassNo) → class_in objects own ≡ Some k
      → FineSection d p objects (section_on own (section_in (class_at c.classes k)))
  section_of objects own (Made k) at = section_by objects own k at (slice_get c.classes k) refl
  section_of objects own Node at = tt
  section_of objects own Program at = tt
  section_of objects own (Vector of) at = tt

  section_sound : class_in c.objects who.own ≡ Some o.class → (objects : List ObjectRec) → Later c.objects objects
      → FineSection d p objects (section_on who.own (section_in (class_record sight who.own)))
  section_sound at objects later =
      subst (λ z. FineSection d p objects (section_on who.own (section_in (class_if c.classes z)))) (sym at)
      (section_of objects who.own o.class (later who.own o.class at))

  -- ---- returns

  given_later : (objects : List ObjectRec) → Later c.objects objects → (result : Option StaticType) (v : Option Value)
      → OfGiven d p c.objects result v → OfGiven d p objects result v
  given_later objects later None None h = tt
  given_later objects later (Some s) (Some v) h = value_later d p c.objects objects later s v h
  given_later objects later None (Some v) h = absurd h
  given_later objects later (Some s) None h = absurd h

  left_sound : (v : Option Value) (started : Option Section) → OfGiven d p c.objects o.result v → o.is_lowest ≡ false
      → ((objects : List ObjectRec) → Later c.objects objects → FineSection d p objects started) → (m : Option MonitorRec)
      → FineDone d p c o given (left_behind c who v started m)
  left_sound v started h b s None = (later_same c.objects, sound, (h, b), s c.objects (later_same c.objects))
  left_sound v started h b s (Some m) =
      acting_sound who.own (λ granted. Leaves v) started (λ objects l granted. (given_later objects l o.result v h, b)) s
      (by_holder who.process m (left m))

  returned : (v : Option Value) (leaves : Bool) (started : Option Section) → OfGiven d p c.objects o.result v → o.is_lowest ≡ false
      → ((objects : List ObjectRec) → Later c.objects objects → FineSection d p objects started)
      → FineDone d p c o given (return_done c who v leaves started)
  returned v true started h b s = left_sound v started h b s (monitor_of c who.own)
  returned v false started h b s = left_sound v started h b s None

  back_value : (t : StaticType) (v : Value) (result : Option StaticType) → HasType d c.objects t v → GivesBack d p number o (Some t) result
      → OfGiven d p c.objects result (Some v)
  back_value t v None h f = absurd f
  back_value t v (Some s) h f = stands d p fine c.objects t s v h f

  back_none : (result : Option StaticType) → GivesBack d p number o None result → OfGiven d p c.objects result None
  back_none None f = tt
  back_none (Some s) f = absurd f

  back_itself : (own : ℕ) (k : ClassNo) (result : Option StaticType) → class_in c.objects own ≡ Some k
      → GivesBack d p number o (Some (class_type d k)) result → OfGiven d p c.objects result (Some (Ref own))
  back_itself own k None at f = absurd f
  back_itself own k (Some s) at f = of_object d c.objects own k s at f

  pub return_sound : (gives_self : Bool) (ts : List StaticType) (vs : List Value) → class_in c.objects who.own ≡ Some o.class
      → AllTwo (HasType d c.objects) ts vs → FineReturn d p number o gives_self ts → o.is_lowest ≡ false
      → Well (return_asks sight who gives_self vs)
  return_sound true [] [] at h f b =
      returned (Some (Ref who.own)) (is_inside sight who) (section_on who.own (section_in (class_record sight who.own)))
      (back_itself who.own o.class o.result at f) b (section_sound at)
  return_sound false [] [] at h f b = returned None (is_inside sight who) None (back_none o.result f) b (λ objects l. tt)
  return_sound false (t ∷ []) (v ∷ []) at h f b =
      returned (Some v) (is_inside sight who) None (back_value t v o.result h.0 f) b (λ objects l. tt)
  return_sound true (t ∷ ts) vs at h f b = absurd f
  return_sound false (t ∷ u ∷ ts) vs at h f b = absurd f
  return_sound true [] (v ∷ vs) at h f b = absurd h
  return_sound false [] (v ∷ vs) at h f b = absurd h
  return_sound false (t ∷ []) [] at h f b = absurd h
  return_sound false (t ∷ []) (v ∷ u ∷ vs) at h f b = absurd h.1
