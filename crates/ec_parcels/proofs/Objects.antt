-- What is done to a world beside its processes makes no vectors but of the type of its stop: one lemma a doing.
use Rattle.std.proofs.Common.{◌≡◌, ℕ, Bool, true, false, List, [], ◌∷◌, replicate, Option, Some, None, refl, subst, arith}
use Rattle.std.specs.List.{AllByRecursion as Each}
use Rattle.std.specs.Prelude.{slice_get}
use Rattle.ec_monitors.specs.Monitors.{Granting, dropped, entered, left, waited, signalled}
use Rattle.ec_monitors.specs.declared.record.Entry.{Entry as Within}
use Rattle.ec_monitors.specs.declared.record.Granted.{Granted}
use Rattle.ec_monitors.specs.declared.record.MonitorRec.{MonitorRec}
use Rattle.ec_code.proofs.Carried.{each_append, each_changed, each_object}
use Rattle.ec_world.specs.Doings.{Asked, doing_of}
use Rattle.ec_world.specs.Group.{Has}
use Rattle.ec_world.specs.Objects.{changed_object, class_at, element_kind, object_at}
use Rattle.ec_world.specs.Outcomes.{Acted, Done, acted_if, acting, at_condition, by_holder, done, dropped_at, dropped_each, dropped_if}
use Rattle.ec_world.specs.Outcomes.{entering, entry_done, gone, left_behind, made_object, made_vector, monitor_for, monitor_if, monitor_of}
use Rattle.ec_world.specs.Outcomes.{outcome_of, return_done, section_on, signal_done, signal_effect, wait_done, with_element, with_object}
use Rattle.ec_world.specs.Sights.{Sight, sight_of}
use Rattle.ec_world.specs.Values.{default_of, new_fields}
use Rattle.ec_world.specs.World.{given_up}
use Rattle.ec_world.specs.declared.class.ClassNo.{ClassNo}
use Rattle.ec_world.specs.declared.class.ClassNo.TheVariants.{Node, Program, Made, Vector}
use Rattle.ec_world.specs.declared.class.ClassRec.{ClassRec}
use Rattle.ec_world.specs.declared.class.VectorType.{VectorType}
use Rattle.ec_world.specs.declared.common.Common.{Common}
use Rattle.ec_world.specs.declared.doing.Doing.{Doing}
use Rattle.ec_world.specs.declared.doing.Doing.TheVariants.{Passes, Prints, Defines, Stores, Makes, MakesVector, Invokes, Returns}
use Rattle.ec_world.specs.declared.doing.Doing.TheVariants.{Moves, Unfixes, Enters, Waits, Signals, Finishes, Breaks}
use Rattle.ec_world.specs.declared.doing.Section.{Section}
use Rattle.ec_world.specs.declared.object.ObjectRec.{ObjectRec}
use Rattle.ec_world.specs.declared.stop.Effect.{Effect}
use Rattle.ec_world.specs.declared.stop.Effect.TheVariants.{GoesOn, Calls, Leaves, Blocks, Ends, Fails}
use Rattle.ec_world.specs.declared.stop.Queue.TheVariants.{ForCondition}
use Rattle.ec_world.specs.declared.stop.Stop.{Stop}
use Rattle.ec_world.specs.declared.stop.Stop.TheVariants as stop
use Rattle.ec_world.specs.declared.stop.Who.{Who}
use Rattle.ec_world.specs.declared.value.Value.{Value}

-- A vector is made at a stop that makes vectors of its type.
vector_from : (s : Sight) (who : Who) (it : Stop) (vs : List Value) (of : VectorType) (n : ℕ) →
    doing_of s who it vs ≡ Some (MakesVector of n) → (line : ℕ) × (it ≡ stop.NewVector of line)
vector_from s who it vs of n e = grind arith

module _ (types : List VectorType) where
  -- where an object is a vector, it is of one of these types
  abbrev pub IsMade : ObjectRec → Type 0
  IsMade o = (of : VectorType) → o.class ≡ Vector of → Has types of

  abbrev pub AreMade : List ObjectRec → Type 0
  AreMade = Each IsMade

  abbrev MadeDone : Done → Type 0
  MadeDone (c, outcome) = AreMade c.objects

  made_done : (x : Done) → MadeDone x → AreMade x.0.objects
  made_done (c, outcome) h = h

  -- what is done leaves vectors of these types alone
  abbrev pub MadeActed : Acted → Type 0
  MadeActed None = Unit {0}
  MadeActed (Some x) = AreMade x.0.objects

  -- a doing that makes a vector makes one of these types
  abbrev Makings : Doing → Type 0
  Makings doing = (of : VectorType) (n : ℕ) → doing ≡ MakesVector of n → Has types of

  -- ---- one object changed

  pub changed_made : (objects : List ObjectRec) (oid : ℕ) (change : ObjectRec → ObjectRec) → AreMade objects →
      ((o : ObjectRec) → IsMade o → IsMade (change o)) → AreMade (changed_object objects oid change)
  changed_made objects oid change h f =
      each_changed IsMade objects oid change h (λ o at. f o (each_object IsMade objects oid o h at))

  -- ---- a new object

  added : (c : Common) (who : Who) (o : ObjectRec) → AreMade c.objects → IsMade o → AreMade (with_object c who o).objects
  added c who o h f = each_append IsMade c.objects (o ∷ []) h (f, tt)

  new_made : (c : Common) (who : Who) (k : ℕ) (given : List Value) (class : Option ClassRec) → AreMade c.objects →
      MadeDone (made_object c who (Made k) given class)
  new_made c who k given None h = h
  new_made c who k given (Some class) h =
      added c who (record { class = Made k; fields = new_fields given class.fields; fixed = false; monitor = monitor_for class }) h
      (λ of e. absurd (let no = e in cc))

  makes_made : (c : Common) (who : Who) (class : ClassNo) (given : List Value) → AreMade c.objects →
      MadeDone (made_object c who class given (class_at c.classes class))
  makes_made c who (Made k) given h = new_made c who k given (slice_get c.classes k) h
  makes_made c who Node given h = h
  makes_made c who Program given h = h
  makes_made c who (Vector of) given h = h

  vector_made : (c : Common) (who : Who) (of : VectorType) (n : ℕ) → Has types of → AreMade c.objects → MadeDone (made_vector c who of n)
  vector_made c who of n has h =
      added c who
      (record { class = Vector of; fields = replicate n (default_of (element_kind of)); fixed = false; monitor = None }) h
      (λ u e. let is : of ≡ u = (let k = e in cc) in subst (λ v. Has types v) is has)

  -- ---- monitors

  module _ (c : Common) (who : Who) (h : AreMade c.objects) where
    monitored : (oid : ℕ) (m : MonitorRec) → AreMade (changed_object c.objects oid (λ o. record o { monitor = Some m }))
    monitored oid m = changed_made c.objects oid (λ o. record o { monitor = Some m }) h (λ o p. p)

    fixed : (oid : ℕ) (flag : Bool) → AreMade (changed_object c.objects oid (λ o. record o { fixed = flag }))
    fixed oid flag = changed_made c.objects oid (λ o. record o { fixed = flag }) h (λ o p. p)

    gone_made : (members : List ℕ) (to : ℕ) (fixes : Option ℕ) → AreMade (gone c members to fixes).objects
    gone_made members to None = h
    gone_made members to (Some x) = fixed x true

    entering_made : (own : ℕ) (x : MonitorRec × Within) → MadeDone (entering c own x)
    entering_made own (m, within) = monitored own m

    entry_made : (m : Option MonitorRec) → MadeDone (entry_done c who m)
    entry_made None = h
    entry_made (Some m) = entering_made who.own (entered m who.process)

    acting_made : (own : ℕ) (effect : Option Granted → Effect) (started : Option Section) (g : Granting) →
        MadeDone (acting c own effect started g)
    acting_made own effect started (m, granted) = monitored own m

    wait_made : (condition : ℕ) (m : Option MonitorRec) → MadeDone (wait_done c who condition m)
    wait_made condition None = h
    wait_made condition (Some m) =
        acting_made who.own (λ granted. Blocks ForCondition who.own) None
        (by_holder who.process m (at_condition m condition (waited m condition)))

    signal_made : (condition : ℕ) (m : Option MonitorRec) → MadeDone (signal_done c who condition m)
    signal_made condition None = h
    signal_made condition (Some m) =
        acting_made who.own (signal_effect who.own) None (by_holder who.process m (at_condition m condition (signalled m condition)))

    left_made : (given : Option Value) (started : Option Section) (m : Option MonitorRec) → MadeDone (left_behind c who given started m)
    left_made given started None = h
    left_made given started (Some m) = acting_made who.own (λ granted. Leaves given) started (by_holder who.process m (left m))

    return_made : (given : Option Value) (leaves : Bool) (started : Option Section) → MadeDone (return_done c who given leaves started)
    return_made given true started = left_made given started (monitor_of c who.own)
    return_made given false started = left_made given started None

    -- ---- the table

    done_made : (doing : Doing) → Makings doing → MadeDone (done c who doing)
    done_made (Passes given) m = h
    done_made (Prints s) m = h
    done_made (Defines index v) m = h
    done_made (Stores oid i v) m = changed_made c.objects oid (with_element i v) h (λ o p. p)
    done_made (Makes class given) m = makes_made c who class given h
    done_made (MakesVector of n) m = vector_made c who of n (m of n refl) h
    done_made (Invokes op own args) m = h
    done_made (Returns given leaves section) m = return_made given leaves (section_on who.own section)
    done_made (Moves members to fixes) m = gone_made members to fixes
    done_made (Unfixes x) m = fixed x false
    done_made Enters m = entry_made (monitor_of c who.own)
    done_made (Waits condition) m = wait_made condition (monitor_of c who.own)
    done_made (Signals condition) m = signal_made condition (monitor_of c who.own)
    done_made Finishes m = h
    done_made (Breaks why line) m = h

    made_if : (asked : Asked) → ((of : VectorType) (n : ℕ) → asked ≡ Some (MakesVector of n) → Has types of) →
        MadeActed (acted_if c who asked)
    made_if None m = tt
    made_if (Some doing) m = made_done (done c who doing) (done_made doing (λ of n e. m of n (let k = e in cc)))

    pub outcome_made : (it : Stop) (vs : List Value) → ((of : VectorType) (line : ℕ) → it ≡ stop.NewVector of line → Has types of) →
        MadeActed (outcome_of c who it vs)
    outcome_made it vs m =
        made_if (doing_of (sight_of c) who it vs)
        (λ of n e. let from = vector_from (sight_of c) who it vs of n e in m of from.0 from.1)

  -- ---- what a failed process gives up

  drop_made : (objects : List ObjectRec) (n oid : ℕ) → AreMade objects → (m : Option MonitorRec) →
      AreMade (dropped_if objects n oid m).0
  drop_made objects n oid h None = h
  drop_made objects n oid h (Some m) =
      changed_made objects oid (λ o. record o { monitor = Some (by_holder n m (dropped m)).0 }) h (λ o p. p)

  drops_made : (n : ℕ) (oids : List ℕ) (objects : List ObjectRec) → AreMade objects → AreMade (dropped_each n oids objects).0
  drops_made n [] objects h = h
  drops_made n (oid ∷ oids) objects h =
      drops_made n oids (dropped_at objects n oid).0 (drop_made objects n oid h (monitor_if (object_at objects oid)))

  pub given_up_made : (n : ℕ) (owns : List ℕ) (e : Effect) (objects : List ObjectRec) → AreMade objects →
      AreMade (given_up n owns e objects).0
  given_up_made n owns (Fails why line) objects h = drops_made n owns objects h
  given_up_made n owns (GoesOn given) objects h = h
  given_up_made n owns (Calls op own args) objects h = h
  given_up_made n owns (Leaves given) objects h = h
  given_up_made n owns (Blocks queue oid) objects h = h
  given_up_made n owns Ends objects h = h
