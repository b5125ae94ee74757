-- What is done to a world beside its processes: objects of nodes stay such, there is a place for each object, and no other object goes than
-- the members of a group that moves.
use Rattle.std.proofs.Common.{◌≡◌, ◌≤◌, ◌<◌, ◌∙◌, ◌∷◌, ◌++◌, ℕ, suc, Bool, true, false, [], List, length, replicate, Option, Some, None}
use Rattle.std.proofs.Common.{ap, refl, sym, subst, arith}
use Rattle.std.proofs.lemmas.Bool.{true≢false}
use Rattle.std.specs.Prelude.{IsSome}
use Rattle.ec_monitors.specs.Monitors.{Granting, entered, left, signalled, waited}
use Rattle.ec_monitors.specs.declared.record.Entry.{Entry as Within}
use Rattle.ec_monitors.specs.declared.record.Granted.{Granted}
use Rattle.ec_monitors.specs.declared.record.MonitorRec.{MonitorRec}
use Rattle.ec_moving.specs.Placed.{IsNodeAt, IsOnNodes, IsPlaced, place_of}
use Rattle.ec_moving.proofs.Lists.{length_moved, length_push, moved_other, place_push, places_push}
use Rattle.ec_moving.proofs.Objects.{IsHome, Keeps, added_home, changed_keeps, home_class, home_fixed, is_home, kept_same, length_added}
use Rattle.ec_world.specs.declared.class.ClassNo.{ClassNo}
use Rattle.ec_world.proofs.Members.{object_within}
use Rattle.ec_world.specs.declared.class.ClassNo.TheVariants.{Vector}
use Rattle.ec_world.specs.declared.class.ClassRec.{ClassRec}
use Rattle.ec_world.specs.declared.common.Common.{Common}
use Rattle.ec_world.specs.declared.doing.Doing.{Doing}
use Rattle.ec_world.specs.declared.doing.Doing.TheVariants.{Passes, Prints, Defines, Stores, Makes, MakesVector, Invokes, Returns}
use Rattle.ec_world.specs.declared.doing.Doing.TheVariants.{Moves, Unfixes, Enters, Waits, Signals, Finishes, Breaks}
use Rattle.ec_world.specs.declared.doing.Section.{Section}
use Rattle.ec_world.specs.declared.event.Event.{Event}
use Rattle.ec_world.specs.declared.event.Event.TheVariants.{Created, Moved}
use Rattle.ec_world.specs.declared.object.ObjectRec.{ObjectRec}
use Rattle.ec_world.specs.declared.stop.Effect.{Effect}
use Rattle.ec_world.specs.declared.stop.Effect.TheVariants.{Leaves, Blocks}
use Rattle.ec_world.specs.declared.stop.Queue.TheVariants.{ForCondition}
use Rattle.ec_world.specs.declared.stop.Who.{Who}
use Rattle.ec_world.specs.declared.value.Value.{Value}
use Rattle.ec_world.specs.Doings.{is_node}
use Rattle.ec_world.specs.Group.{Has}
use Rattle.ec_world.specs.Objects.{class_at, element_kind, is_node_class, object_at}
use Rattle.ec_world.specs.Outcomes.{acting, at_condition, by_holder, done, entering, entry_done, flagged, gone, left_behind, made_object}
use Rattle.ec_world.specs.Outcomes.{monitor_for, monitor_of, return_done, section_on, signal_done, signal_effect, stored_in, wait_done}
use Rattle.ec_world.specs.Outcomes.{with_element, with_monitor, with_object}
use Rattle.ec_world.specs.Places.{moved, node_or_first, place_in, places}
use Rattle.ec_world.specs.Sights.{class_of}
use Rattle.ec_world.specs.Values.{default_of, new_fields}

-- what is there after something was done: these may have gone, and no other object
pub record Does (c d : Common) (goers : List ℕ) : Type 0 where
  pub nodes : d.nodes ≡ c.nodes
  pub each : length (places c.nodes c.events) ≡ length c.objects → length (places d.nodes d.events) ≡ length d.objects
  pub homes : (x : ℕ) → IsHome (object_at c.objects x) → IsHome (object_at d.objects x)
  pub others : (x : ℕ) → x ≤ length (places c.nodes c.events) → (Has goers x → ⊥) → place_of d x ≡ place_of c x

-- ---- nothing happens to places

same_places : (c d : Common) → d.nodes ≡ c.nodes → d.events ≡ c.events → places d.nodes d.events ≡ places c.nodes c.events
same_places c d n e = ap (λ k. places k d.events) n ∙ ap (λ (es : List Event). places c.nodes es) e

-- as many nodes, the same events, and objects of nodes as before
pub record Still (c d : Common) : Type 0 where
  pub nodes : d.nodes ≡ c.nodes
  pub events : d.events ≡ c.events
  pub keeps : Keeps c.objects d.objects

pub still_place : (c d : Common) (x : ℕ) → Still c d → place_of d x ≡ place_of c x
still_place c d x s = ap (λ (ps : List ℕ). place_in ps x) (same_places c d s.nodes s.events)

pub still_does : (c d : Common) → Still c d → Does c d []
still_does c d s = record {
  nodes = s.nodes;
  each = λ h. ap (λ (ps : List ℕ). length ps) (same_places c d s.nodes s.events) ∙ h ∙ sym s.keeps.count;
  homes = s.keeps.homes;
  others = λ x l out. still_place c d x s;
}

still : (c d : Common) → d.nodes ≡ c.nodes → d.events ≡ c.events → Keeps c.objects d.objects → Does c d []
still c d n e k = still_does c d (record { nodes = n; events = e; keeps = k })

pub same : (c : Common) → Does c c []
same c = still c c refl refl (kept_same c.objects)

-- objects are given up after something was done
pub does_then : (c d : Common) (goers : List ℕ) (objects : List ObjectRec) → Does c d goers → Keeps d.objects objects →
    Does c (record d { objects = objects }) goers
does_then c d goers objects h k = record {
  nodes = h.nodes;
  each = λ e. h.each e ∙ sym k.count;
  homes = λ x g. k.homes x (h.homes x g);
  others = h.others;
}

-- ---- an object more, and a group gone

pub adds : (c : Common) (who : Who) (o : ObjectRec) → Does c (with_object c who o) []
adds c who o = record {
  nodes = refl;
  each = λ e.
      ap (λ (ps : List ℕ). length ps) pushed
      ∙ length_push (places c.nodes c.events) at
      ∙ ap suc e
      ∙ sym (length_added c.objects o);
  homes = λ x. added_home c.objects o x;
  others = λ x l out. ap (λ (ps : List ℕ). place_in ps x) pushed ∙ place_push (places c.nodes c.events) at x l;
}
  where
    at : ℕ
    at = node_or_first (place_in (places c.nodes c.events) who.own)

    pushed : places c.nodes (c.events ++ Created (suc (length c.objects)) who.own ∷ []) ≡ places c.nodes c.events ++ at ∷ []
    pushed = places_push c.nodes c.events (Created (suc (length c.objects)) who.own)

-- the members are numbers of objects
abbrev pub Low : List ℕ → Type 0
Low ms = (m : ℕ) → Has ms m → 0 < m

pub goes_away : (c d : Common) (members : List ℕ) (to : ℕ) → d.nodes ≡ c.nodes → d.events ≡ c.events ++ Moved members to ∷ [] →
    Keeps c.objects d.objects → Low members → Does c d members
goes_away c d members to n e k low = record {
  nodes = n;
  each = λ h.
      ap (λ (ps : List ℕ). length ps) now
      ∙ length_moved (places c.nodes c.events) members node
      ∙ h
      ∙ sym k.count;
  homes = k.homes;
  others = λ x l out.
      ap (λ (ps : List ℕ). place_in ps x) now ∙ moved_other (places c.nodes c.events) members node x low out;
}
  where
    node : ℕ
    node = node_or_first (place_in (places c.nodes c.events) to)

    now : places d.nodes d.events ≡ moved (places c.nodes c.events) members node
    now =
        ap (λ k. places k d.events) n
        ∙ ap (λ (es : List Event). places c.nodes es) e
        ∙ places_push c.nodes c.events (Moved members to)

-- ---- one object changed

fixes_it : (c : Common) (x : ℕ) → Keeps c.objects (flagged c x true).objects
fixes_it c x = changed_keeps c.objects (λ o. record o { fixed = true }) x (λ r at h. (h.0, refl))

unfixes_it : (c : Common) (x : ℕ) → is_node (class_of (object_at c.objects x)) ≡ false → Keeps c.objects (flagged c x false).objects
unfixes_it c x other =
    changed_keeps c.objects (λ o. record o { fixed = false }) x
    (λ r at h.
    absurd (true≢false (sym (ap (λ class. is_node_class class) h.0) ∙ ap (λ o. is_node (class_of o)) (sym at) ∙ other)))

gone_away : (c : Common) (members : List ℕ) (to : ℕ) (fixes : Option ℕ) → Low members → Does c (gone c members to fixes) members
gone_away c members to None low = goes_away c (gone c members to None) members to refl refl (kept_same c.objects) low
gone_away c members to (Some x) low =
    goes_away c (gone c members to (Some x)) members to refl refl (fixes_it (gone c members to None) x) low

-- what an action asks for leaves nodes fixed, and moves numbers of objects
abbrev pub IsFair : Common → Doing → Type 0
IsFair c (Unfixes x) = is_node (class_of (object_at c.objects x)) ≡ false
IsFair c (Moves members to fixes) = Low members
IsFair c _ = Unit {0}

-- whom a doing moves
abbrev pub goers : Doing → List ℕ
goers (Moves members to fixes) = members
goers _ = []

module _ (c : Common) (who : Who) where
  makes : (class : ClassNo) (given : List Value) (k : Option ClassRec) → Does c (made_object c who class given k).0 []
  makes class given None = same c
  makes class given (Some k) =
      adds c who (record { class = class; fields = new_fields given k.fields; fixed = false; monitor = monitor_for k })

  -- ---- monitors

  monitored : (own : ℕ) (m : MonitorRec) → Does c (with_monitor c own m) []
  monitored own m =
      still c (with_monitor c own m) refl refl (changed_keeps c.objects (λ o. record o { monitor = Some m }) own (λ r at h. h))

  enters : (own : ℕ) (x : MonitorRec × Within) → Does c (entering c own x).0 []
  enters own (m, within) = monitored own m

  entry : (m : Option MonitorRec) → Does c (entry_done c who m).0 []
  entry None = same c
  entry (Some m) = enters who.own (entered m who.process)

  acts : (own : ℕ) (effect : Option Granted → Effect) (started : Option Section) (g : Granting) →
      Does c (acting c own effect started g).0 []
  acts own effect started (m, granted) = monitored own m

  waits : (condition : ℕ) (m : Option MonitorRec) → Does c (wait_done c who condition m).0 []
  waits condition None = same c
  waits condition (Some m) =
      acts who.own (λ granted. Blocks ForCondition who.own) None
      (by_holder who.process m (at_condition m condition (waited m condition)))

  signals : (condition : ℕ) (m : Option MonitorRec) → Does c (signal_done c who condition m).0 []
  signals condition None = same c
  signals condition (Some m) =
      acts who.own (signal_effect who.own) None (by_holder who.process m (at_condition m condition (signalled m condition)))

  leaves : (given : Option Value) (started : Option Section) (m : Option MonitorRec) → Does c (left_behind c who given started m).0 []
  leaves given started None = same c
  leaves given started (Some m) = acts who.own (λ granted. Leaves given) started (by_holder who.process m (left m))

  returns : (given : Option Value) (inside : Bool) (started : Option Section) → Does c (return_done c who given inside started).0 []
  returns given true started = leaves given started (monitor_of c who.own)
  returns given false started = same c

  -- ---- the table

  pub does : (doing : Doing) → IsFair c doing → Does c (done c who doing).0 (goers doing)
  does (Passes given) f = same c
  does (Prints s) f = still c (done c who (Prints s)).0 refl refl (kept_same c.objects)
  does (Defines index v) f = still c (done c who (Defines index v)).0 refl refl (kept_same c.objects)
  does (Stores oid i v) f =
      still c (stored_in c oid i v) refl refl (changed_keeps c.objects (with_element i v) oid (λ r at h. h))
  does (Makes class given) f = makes class given (class_at c.classes class)
  does (MakesVector of n) f =
      adds c who (record { class = Vector of; fields = replicate n (default_of (element_kind of)); fixed = false; monitor = None })
  does (Invokes op own args) f = same c
  does (Returns given inside section) f = returns given inside (section_on who.own section)
  does (Moves members to fixes) f = gone_away c members to fixes f
  does (Unfixes x) f = still c (flagged c x false) refl refl (unfixes_it c x f)
  does Enters f = entry (monitor_of c who.own)
  does (Waits condition) f = waits condition (monitor_of c who.own)
  does (Signals condition) f = signals condition (monitor_of c who.own)
  does Finishes f = same c
  does (Breaks why line) f = same c

-- ---- worlds on nodes

node_there : (c : Common) (k : ℕ) → IsNodeAt c k → IsHome (object_at c.objects (suc k))
node_there c k h = is_home (object_at c.objects (suc k)) h.class h.fixed

home_within : (objects : List ObjectRec) (x : ℕ) → IsHome (object_at objects x) → x ≤ length objects
home_within objects x h = inside (object_at objects x) refl h
  where
    inside : (o : Option ObjectRec) → object_at objects x ≡ o → IsHome o → x ≤ length objects
    inside None e k = absurd k
    inside (Some o) e k = (object_within objects x (subst IsSome (sym e) refl)).1

node_still : (c d : Common) (goers : List ℕ) (k : ℕ) → Does c d goers → length (places c.nodes c.events) ≡ length c.objects →
    (Has goers (suc k) → ⊥) → IsNodeAt c k → IsNodeAt d k
node_still c d goers k does each out h =
    let there = node_there c k h in
    let now = does.homes (suc k) there in
    let l : suc k ≤ length (places c.nodes c.events) = (let w = home_within c.objects (suc k) there in omega (arith, w, each)) in
    record {
      class = home_class (object_at d.objects (suc k)) now;
      place = does.others (suc k) l out ∙ h.place;
      fixed = home_fixed (object_at d.objects (suc k)) now;
    }

-- no object of a node goes
pub placed_still : (c d : Common) (goers : List ℕ) → Does c d goers → ((k : ℕ) → IsNodeAt c k → Has goers (suc k) → ⊥) → IsPlaced c →
    IsPlaced d
placed_still c d goers does out h = record {
  each = does.each h.each;
  nodes = λ k l.
      let was : IsNodeAt c k = h.nodes k (subst (λ n. k < n) does.nodes l) in
      node_still c d goers k does h.each (out k was) was;
}

pub on_still : (n : ℕ) (c d : Common) (goers : List ℕ) → Does c d goers → ((k : ℕ) → IsNodeAt c k → Has goers (suc k) → ⊥) → IsOnNodes n c →
    IsOnNodes n d
on_still n c d goers does out h = record { count = does.nodes ∙ h.count; placed = placed_still c d goers does out h.placed }
