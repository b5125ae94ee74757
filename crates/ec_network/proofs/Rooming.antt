-- The room that the second step of an action finds behind the first one.
use Rattle.std.proofs.Common.{◌≡◌, ◌+◌, ◌<◌, ◌≤◌, ◌∷◌, ℕ, zero, suc, Bool, true, false, List, [], ◌++◌, Option, Some, None, refl, sym, ap}
use Rattle.std.proofs.Common.{◌∙◌}
use Rattle.std.proofs.Common.{subst, arith, map}
use Rattle.std.specs.Prelude.{length, slice_get}
use Rattle.ec_activations.specs.Frames.{frame_thing}
use Rattle.ec_base.specs.Stack.{top_of}
use Rattle.ec_cluster.specs.Cluster.{CodeWorld, Shows, frame_of, place, stores}
use Rattle.ec_cluster.specs.Images.{homes_on, image_of}
use Rattle.ec_cluster.specs.Steps.{Changes, Nothing, with_common}
use Rattle.ec_cluster.specs.declared.cluster.Cluster.{Cluster}
use Rattle.ec_cluster.specs.Frames.{tables_on}
use Rattle.ec_code.specs.declared.activation.CodeActivation.{CodeActivation}
use Rattle.ec_code.specs.declared.code.Live.{Live}
use Rattle.ec_acts.specs.Doings.{BringsNothing, OneMore, Places, SamePlaces}
use Rattle.ec_fullness.specs.FittingRoom.{RoomToBegin, RoomToSettle, RoomToTake}
use Rattle.ec_cluster.specs.Whereabouts.{place_at}
use Rattle.ec_fullness.specs.Room.{HasRoomBelow, HasRoomToMake, RoomFor}
use Rattle.ec_cluster.proofs.Before.{before}
use Rattle.ec_network.proofs.Nodes.{free_there, room_in_there, same_texts}
use Rattle.ec_network.proofs.Rooms.{texts_fit_there}
use Rattle.ec_monitors.specs.Monitors.{Granting, entered, left, signalled, waited}
use Rattle.ec_monitors.specs.declared.record.Entry.{Entry as Within}
use Rattle.ec_monitors.specs.declared.record.Entry.TheVariants.{Entered, Queued}
use Rattle.ec_monitors.specs.declared.record.MonitorRec.{MonitorRec}
use Rattle.ec_node_frames.specs.Beginning.{first_values}
use Rattle.ec_node_frames.specs.Finishing.{HasRoomIn}
use Rattle.ec_node_frames.specs.Frames.{RestsAt}
use Rattle.ec_cluster.specs.SystemSteps.{world_done}
use Rattle.ec_cluster.specs.Systems.{Mirrors, Strings}
use Rattle.ec_cluster.specs.declared.system.System.{System}
use Rattle.ec_things.specs.Held.{Held}
use Rattle.ec_things.specs.Store.{Store}
use Rattle.ec_world.specs.Outcomes.{acting, at_condition, by_holder, done, entering, entry_done, left_behind, monitor_of, return_done}
use Rattle.ec_world.specs.Outcomes.{section_on}
use Rattle.ec_world.specs.Outcomes.{signal_done, signal_effect, wait_done}
use Rattle.ec_world.specs.declared.common.Common.{Common}
use Rattle.ec_world.specs.declared.doing.Doing.{Doing}
use Rattle.ec_world.specs.declared.doing.Doing.TheVariants.{Passes, Prints, Defines, Stores, Makes, MakesVector, Invokes, Returns}
use Rattle.ec_world.specs.declared.doing.Doing.TheVariants.{Moves, Unfixes, Enters, Waits, Signals, Finishes, Breaks}
use Rattle.ec_world.specs.declared.doing.Section.{Section}
use Rattle.ec_world.specs.declared.stop.Effect.TheVariants.{Blocks, Leaves}
use Rattle.ec_world.specs.declared.stop.Queue.TheVariants.{ForCondition}
use Rattle.ec_world.specs.declared.stop.Who.{Who}
use Rattle.ec_world.specs.declared.value.Value.{Value}
use Rattle.ec_world.specs.declared.value.Value.TheVariants.{Ref}
use Rattle.ec_code.specs.declared.code.Variable.{Variable}
use Rattle.ec_code.specs.declared.code.Variable.TheVariants.{Named, Temporary}
use Rattle.ec_cluster.specs.Whereabouts.{made_count}
use Rattle.ec_fullness.proofs.Blocks.{held_is, held_moved, object_sum}
use Rattle.ec_fullness.proofs.Needs.{fits_without}
use Rattle.ec_network.proofs.Strings.{more_stay}
use Rattle.ec_node_frames.specs.Beginning.{first_held, first_value}
use Rattle.ec_world.proofs.Procs.{total_push}
use Rattle.ec_world.specs.Held.{if_at}
use Rattle.ec_world.specs.Things.{blocks_of, class_blocks}
use Rattle.ec_world.specs.declared.key.Key.{Key}
use Rattle.ec_things.specs.Held.{object_weight}
use Rattle.ec_things.specs.Things.{Thing, things_of}
use Rattle.ec_world.specs.Group.{Has}
use Rattle.ec_world.specs.Objects.{class_at}
use Rattle.ec_world.specs.Outcomes.{made_object, monitor_for}
use Rattle.ec_world.specs.Values.{new_fields}
use Rattle.ec_world.specs.declared.class.ClassNo.{ClassNo}
use Rattle.ec_world.specs.declared.class.ClassRec.{ClassRec}
use Rattle.ec_world.specs.declared.object.ObjectRec.{ObjectRec}
use Rattle.ec_world.specs.declared.value.Value.TheVariants.{Nil, Str}

-- ---- what wants no room

nothing_in : (s : Store) (r : Option Live) → HasRoomIn s r None
nothing_in s None = tt
nothing_in s (Some l) = tt

pub take_nothing : (c : Cluster) (a : CodeActivation) → RoomToTake c a None
take_nothing c a = λ e rests k s at there. nothing_in s e.result

reference_in : (s : Store) (r : Option Live) (oid : ℕ) → HasRoomIn s r (Some (Ref oid))
reference_in s None oid = tt
reference_in s (Some l) oid = tt

take_reference : (c : Cluster) (a : CodeActivation) (oid : ℕ) → RoomToTake c a (Some (Ref oid))
take_reference c a oid = λ e rests k s at there. reference_in s e.result oid

-- ---- where no text has come and no object has gone

pub frames_same : (Added : ℕ → List ℕ → Type 0) (c c' : Cluster) → Changes Added c c' → frame_of c' ≡ frame_of c
frames_same Added c c' changes =
    ap (λ p. frame_thing p (homes_on c'.images)) changes.parts ∙ ap (λ i. frame_thing c.parts (homes_on i)) changes.images

module _ (old mid : Cluster) (w w' : CodeWorld) (shows : Shows old w) (shows' : Shows mid w') (changes : Changes Nothing old mid)
    (same : SamePlaces old mid) where
  was_at : (oid k : ℕ) → place mid oid ≡ Some k → place old oid ≡ Some k
  was_at oid k at = ap (λ d. place_at d oid) (sym same) ∙ at

  take_there : (a : CodeActivation) (given : Option Value) → RoomToTake old a given → RoomToTake mid a given
  take_there a given room e rests k s' at there =
      let b = before Nothing old mid k s' changes there in
      room_in_there b.store s' e.result given (same_texts old mid w w' k b.store s' shows shows' b.there there b.gets)
      (room e (subst (λ p. RestsAt p a e) changes.parts rests) k b.store (was_at a.own k at) b.there)

  begin_there : ((k : ℕ) → Held (frame_of mid) (place mid) k w' ≡ Held (frame_of old) (place old) k w) → (op own : ℕ)
      (args : List Value) → RoomToBegin old op own args → RoomToBegin mid op own args
  begin_there held op own args room = record {
    block = λ k s' at there.
        let b = before Nothing old mid k s' changes there in
        subst (λ n. 0 < n) (sym (free_there old mid w w' k b.store s' shows shows' b.there there b.gets.room (held k)))
        (room.block k b.store (was_at own k at) b.there);
    texts = λ k s' table at there its.
        let b = before Nothing old mid k s' changes there in
        let t = same_texts old mid w w' k b.store s' shows shows' b.there there b.gets in
        texts_fit_there b.store s' (first_values table own args) t.pool t.free
        (room.texts k b.store table (was_at own k at) b.there
        (ap (λ kind. slice_get (tables_on old kind) op) (sym b.gets.kind)
        ∙ ap (λ i. slice_get (image_of i s'.kind).table.operations op) (sym changes.images) ∙ its));
  }

below_room : (c : Cluster) (x : Option CodeActivation) (given : Option Value) → HasRoomBelow c x given → (a : CodeActivation) → x ≡ Some a →
    RoomToTake c a given
below_room c None given room a e = absurd cc
below_room c (Some b) given room a e = let same : b ≡ a = cc in subst (λ y. RoomToTake c y given) same room

-- ---- monitors

module _ (c : Common) (who : Who) (mid : Cluster) (below : List CodeActivation) (top : CodeActivation) where
  entering_room : (r : MonitorRec × Within) → RoomToSettle mid below top (entering c who.own r).1.effect
  entering_room (m, Entered) = take_nothing mid top
  entering_room (m, Queued) = tt

  enters_room : (m : Option MonitorRec) → RoomToSettle mid below top (entry_done c who m).1.effect
  enters_room None = take_nothing mid top
  enters_room (Some m) = entering_room (entered m who.process)

  waiting_room : (g : Granting) → RoomToSettle mid below top (acting c who.own (λ granted. Blocks ForCondition who.own) None g).1.effect
  waiting_room (m, granted) = tt

  waits_room : (condition : ℕ) (m : Option MonitorRec) → RoomToSettle mid below top (wait_done c who condition m).1.effect
  waits_room condition None = take_nothing mid top
  waits_room condition (Some m) = waiting_room (by_holder who.process m (at_condition m condition (waited m condition)))

  signalling_room : (g : Granting) → RoomToSettle mid below top (acting c who.own (signal_effect who.own) None g).1.effect
  signalling_room (m, None) = take_nothing mid top
  signalling_room (m, Some granted) = tt

  signals_room : (condition : ℕ) (m : Option MonitorRec) → RoomToSettle mid below top (signal_done c who condition m).1.effect
  signals_room condition None = take_nothing mid top
  signals_room condition (Some m) = signalling_room (by_holder who.process m (at_condition m condition (signalled m condition)))

  module _ (given : Option Value) (room : (a : CodeActivation) → top_of below ≡ Some a → RoomToTake mid a given) where
    leaving_room : (started : Option Section) (g : Granting) →
        RoomToSettle mid below top (acting c who.own (λ granted. Leaves given) started g).1.effect
    leaving_room started (m, granted) = room

    left_room : (started : Option Section) (m : Option MonitorRec) → RoomToSettle mid below top (left_behind c who given started m).1.effect
    left_room started None = room
    left_room started (Some m) = leaving_room started (by_holder who.process m (left m))

    returns_room : (leaves : Bool) (started : Option Section) → RoomToSettle mid below top (return_done c who given leaves started).1.effect
    returns_room true started = left_room started (monitor_of c who.own)
    returns_room false started = room

-- ---- a new object

first_has_none : (own : ℕ) (held : List Live) (text : List ℕ) →
    Has (Ref own ∷ map (λ l. first_value [] l.variable) held) (Str text) → ⊥
first_has_none own held text has = by has.at has.is
  where
    nil_is : (x : Variable) → first_value [] x ≡ Nil
    nil_is (Named n) = refl
    nil_is (Temporary d) = refl

    none : (ls : List Live) (i : ℕ) → slice_get (map (λ l. first_value [] l.variable) ls) i ≡ Some (Str text) → ⊥
    none [] i e = absurd cc
    none (l ∷ ls) zero e = let n = nil_is l.variable in cc
    none (l ∷ ls) (suc i) e = none ls i e

    by : (i : ℕ) → slice_get (Ref own ∷ map (λ l. first_value [] l.variable) held) i ≡ Some (Str text) → ⊥
    by zero e = absurd cc
    by (suc i) e = none held i e

-- The node of a new object is its maker's, and had a block more than the object takes.
module _ (old mid : System) (w : CodeWorld) (own : ℕ) (o : ObjectRec) (mirrors : Mirrors old w) (c : Common)
    (shows : Shows mid.cluster (with_common w c)) (objects : c.objects ≡ w.common.objects ++ o ∷ [])
    (texts : Changes (Strings mid.cluster (with_common w c)) old.cluster mid.cluster) (more : OneMore old.cluster mid.cluster own) where
  abbrev pub number : ℕ
  number = suc (length w.common.objects)

  number_is : number ≡ suc (made_count old.cluster.whereabouts)
  number_is = ap suc mirrors.objects

  new_place : place mid.cluster number ≡ place old.cluster own
  new_place = ap (place mid.cluster) number_is ∙ more.new

  -- what was shown is where it was
  home_stays : (key : Key) (t : Thing) → things_of (frame_of old.cluster) w key ≡ Some t →
      place mid.cluster t.home ≡ place old.cluster t.home
  home_stays key t is =
      let shown = mirrors.shows.things_stand.each key t is in
      more_stay old.cluster mid.cluster own more t.home shown.node shown.home ∙ sym shown.home

  held_then : (k : ℕ) → Held (frame_of mid.cluster) (place mid.cluster) k (with_common w c)
      ≡ Held (frame_of old.cluster) (place old.cluster) k w + if_at k (blocks_of o) (place old.cluster own)
  held_then k =
      let before = held_moved old.cluster w (place old.cluster) (place mid.cluster) k home_stays in
      let all = held_is old.cluster (place mid.cluster) k w in
      let now = held_is old.cluster (place mid.cluster) k (with_common w c) in
      let sum : object_sum old.cluster (place mid.cluster) k c.objects
      ≡ object_sum old.cluster (place mid.cluster) k w.common.objects + if_at k (blocks_of o) (place mid.cluster number) =
      ap (object_sum old.cluster (place mid.cluster) k) objects
      ∙ total_push (object_weight (frame_of old.cluster) (place mid.cluster) k) 0 w.common.objects (length w.common.objects) o (omega
      arith) in
      let its = ap (if_at k (blocks_of o)) new_place in
      let frames = ap (λ f. Held f (place mid.cluster) k (with_common w c)) (frames_same _ old.cluster mid.cluster texts) in
      omega (arith, before, all, now, sum, its, frames)

  here : (k n : ℕ) → if_at k n (Some k) ≡ n
  here k n = grind arith

  pub begin_on_new : (op : ℕ) →
      ((k : ℕ) (s : Store) → place old.cluster own ≡ Some k → stores old.cluster k ≡ Some s → suc (blocks_of o) ≤ s.free) →
      RoomToBegin mid.cluster op number []
  begin_on_new op room = record {
    block = λ k s' at there.
        let b = before (Strings mid.cluster (with_common w c)) old.cluster mid.cluster k s' texts there in
        let was : place old.cluster own ≡ Some k = sym new_place ∙ at in
        let fits = room k b.store was b.there in
        let free = mirrors.shows.room k b.store b.there in
        let free' = shows.room k s' there in
        let held = held_then k in
        let its : if_at k (blocks_of o) (place old.cluster own) ≡ blocks_of o = ap (if_at k (blocks_of o)) was ∙ here k (blocks_of o) in
        let size = b.gets.room in
        omega (arith, fits, free, free', held, its, size);
    texts = λ k s' table at there its. fits_without s' (first_values table number [])
        (first_has_none number (first_held table));
  }

made_room_at : (c : Cluster) (maker : ℕ) (class : ClassNo) (given : List Value) (m : ClassRec) →
    HasRoomToMake c maker class given (Some m) → (k : ℕ) (s : Store) → place c maker ≡ Some k → stores c k ≡ Some s →
    suc (class_blocks class (length (new_fields given m.fields))) ≤ s.free
made_room_at c maker class given m room k s at there = (room k s at there).blocks_fit

module _ (old mid : System) (w : CodeWorld) (below : List CodeActivation) (top : CodeActivation) (who : Who) (mirrors : Mirrors old w) where
  makes_room : (class : ClassNo) (given : List Value) (x : Option ClassRec) →
      Mirrors mid (with_common w (made_object w.common who class given x).0) →
      Changes (Strings mid.cluster (with_common w (made_object w.common who class given x).0)) old.cluster mid.cluster →
      OneMore old.cluster mid.cluster who.own → HasRoomToMake old.cluster who.own class given x →
      RoomToSettle mid.cluster below top (made_object w.common who class given x).1.effect
  makes_room class given None mirrors' texts more room = take_nothing mid.cluster top
  makes_room class given (Some m) mirrors' texts more room =
      begin_on_new old mid w who.own
      (record { class = class; fields = new_fields given m.fields; fixed = false; monitor = monitor_for m }) mirrors
      (made_object w.common who class given (Some m)).0 mirrors'.shows refl texts more m.initial
      (made_room_at old.cluster who.own class given m room)

  same_held : (w' : CodeWorld) → w' ≡ w → (Added : ℕ → List ℕ → Type 0) → Changes Added old.cluster mid.cluster →
      SamePlaces old.cluster mid.cluster → (k : ℕ) →
      Held (frame_of mid.cluster) (place mid.cluster) k w' ≡ Held (frame_of old.cluster) (place old.cluster) k w
  same_held w' is Added changes same k =
      ap (λ f. Held f (place mid.cluster) k w') (frames_same Added old.cluster mid.cluster changes)
      ∙ ap (λ d. Held (frame_of old.cluster) (place_at d) k w') same ∙ ap (Held (frame_of old.cluster) (place old.cluster) k) is

  -- Where each node has room for an action, the second step finds it behind the first.
  pub room_behind : (doing : Doing) → Mirrors mid (world_done w who doing) →
      Changes (Strings mid.cluster (world_done w who doing)) old.cluster mid.cluster →
      (BringsNothing doing → Changes Nothing old.cluster mid.cluster) → Places old.cluster mid.cluster who.own doing →
      RoomFor old.cluster below top who doing → RoomToSettle mid.cluster below top (done w.common who doing).1.effect
  room_behind (Passes given) mirrors' texts none same room =
      take_there old.cluster mid.cluster w w mirrors.shows mirrors'.shows (none tt) same top given room
  room_behind (Prints text) mirrors' texts none same room = take_nothing mid.cluster top
  room_behind (Defines index v) mirrors' texts none same room = take_nothing mid.cluster top
  room_behind (Stores oid i v) mirrors' texts none same room = take_nothing mid.cluster top
  room_behind (Makes class given) mirrors' texts none more room =
      makes_room class given (class_at w.common.classes class) mirrors' texts more
      (subst (λ (cs : List ClassRec). HasRoomToMake old.cluster who.own class given (class_at cs class)) (sym mirrors.classes) room)
  room_behind (MakesVector of n) mirrors' texts none more room = take_reference mid.cluster top (suc (length w.common.objects))
  room_behind (Invokes op own args) mirrors' texts none same room =
      begin_there old.cluster mid.cluster w w mirrors.shows mirrors'.shows (none tt) same (same_held w refl Nothing (none tt) same) op own
      args
      (record { block = room.block; texts = room.texts })
  room_behind (Returns given leaves section) mirrors' texts none same room =
      returns_room w.common who mid.cluster below top given
      (λ a is. take_there old.cluster mid.cluster w (world_done w who (Returns given leaves section)) mirrors.shows mirrors'.shows (none tt)
      same a given (below_room old.cluster (top_of below) given room a is))
      leaves (section_on who.own section)
  room_behind (Moves members to fixes) mirrors' texts none same room = absurd same
  room_behind (Unfixes x) mirrors' texts none same room = take_nothing mid.cluster top
  room_behind Enters mirrors' texts none same room = enters_room w.common who mid.cluster below top (monitor_of w.common who.own)
  room_behind (Waits condition) mirrors' texts none same room =
      waits_room w.common who mid.cluster below top condition (monitor_of w.common who.own)
  room_behind (Signals condition) mirrors' texts none same room =
      signals_room w.common who mid.cluster below top condition (monitor_of w.common who.own)
  room_behind Finishes mirrors' texts none same room = tt
  room_behind (Breaks why line) mirrors' texts none same room = tt
