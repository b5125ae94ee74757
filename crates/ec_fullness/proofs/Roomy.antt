-- With room both steps of an action can be taken.
use Rattle.std.proofs.Common.{◌≡◌, ℕ, suc, List, Option, Some, None, refl, sym, subst}
use Rattle.ec_cluster.specs.Cluster.{CodeWorld}
use Rattle.ec_cluster.specs.Makings.{CanMake}
use Rattle.ec_cluster.specs.declared.cluster.Cluster.{Cluster}
use Rattle.ec_cluster.specs.Frames.{HasRoomFor}
use Rattle.ec_code.specs.Typing.{Declared}
use Rattle.ec_code.specs.declared.activation.CodeActivation.{CodeActivation}
use Rattle.ec_code.specs.declared.code.Live.{Live}
use Rattle.ec_code.specs.declared.code.Parts.{Parts}
use Rattle.ec_fullness.proofs.Asking.{its_outcome, its_own}
use Rattle.ec_fullness.proofs.Calls.{call_then, called_then, steady_then}
use Rattle.ec_fullness.proofs.FittingDoings.{doing_is_there}
use Rattle.ec_fullness.proofs.Finishing.{below_takes, can_finish_there, top_takes}
use Rattle.ec_fullness.proofs.Sections.{IsOn, can_start, done_starts}
use Rattle.ec_fullness.specs.Fitting.{BelowTakes, CallIsNew, CalledHasNode, HasNamed, IsMakable, TopTakes}
use Rattle.ec_fullness.specs.FittingRoom.{RoomToDo, RoomToMake, RoomToSettle}
use Rattle.ec_fullness.specs.Waiters.{WaitersStay}
use Rattle.ec_cluster.specs.Whereabouts.{made_count}
use Rattle.ec_node_frames.specs.Finishing.{HasRoomIn}
use Rattle.ec_code.specs.Sound.{FineSection}
use Rattle.ec_generate.specs.declared.table.StopEntry.{StopEntry}
use Rattle.ec_cluster.specs.Acting.{Asks}
use Rattle.ec_cluster.specs.SystemSteps.{ByClass, CanBeDone, CanSettle, CanStart, CanTake, Does, StartsBehind, TakesBelow}
use Rattle.ec_cluster.specs.Systems.{Runs, Steady}
use Rattle.ec_cluster.specs.declared.system.System.{System}
use Rattle.ec_world.specs.Objects.{class_at}
use Rattle.ec_world.specs.Outcomes.{done}
use Rattle.ec_world.specs.Values.{new_fields}
use Rattle.ec_world.specs.declared.class.ClassNo.{ClassNo}
use Rattle.ec_world.specs.declared.class.ClassRec.{ClassRec}
use Rattle.ec_world.specs.declared.doing.Doing.{Doing}
use Rattle.ec_world.specs.declared.doing.Doing.TheVariants.{Passes, Prints, Defines, Stores, Makes, MakesVector, Invokes, Returns}
use Rattle.ec_world.specs.declared.doing.Doing.TheVariants.{Moves, Unfixes, Enters, Waits, Signals, Finishes, Breaks}
use Rattle.ec_world.specs.declared.doing.Outcome.{Outcome}
use Rattle.ec_world.specs.declared.object.ObjectRec.{ObjectRec}
use Rattle.ec_world.specs.declared.stop.Effect.{Effect}
use Rattle.ec_world.specs.declared.stop.Effect.TheVariants.{GoesOn, Calls, Leaves, Blocks, Ends, Fails}
use Rattle.ec_world.specs.declared.stop.Who.{Who}
use Rattle.ec_world.specs.declared.value.Value.{Value}

-- ---- the first step

can_make_there : (c : Cluster) (maker : ℕ) (class : ClassNo) (fields : List Value) → IsMakable c maker class fields →
    RoomToMake c maker class fields → CanMake c maker (suc (made_count c.whereabouts)) class fields
can_make_there c maker class fields h room = record {
  maker_is = h.maker_is;
  next = refl;
  small = h.small;
  few = h.few;
  blocks = room.blocks;
  texts = room.texts;
  new = h.new;
}

by_class : (k : Option ClassRec) (P Q R : ClassRec → Type 0) → ((r : ClassRec) → P r → Q r → R r) → ByClass k P → ByClass k Q → ByClass k R
by_class None P Q R f h g = absurd h
by_class (Some r) P Q R f h g = f r h g

pub can_be_done_there : (c : Cluster) (who : Who) (doing : Doing) → HasNamed c who doing → RoomToDo c who doing → CanBeDone c who doing
can_be_done_there c who (Passes given) h room = tt
can_be_done_there c who (Prints text) h room = tt
can_be_done_there c who (Defines index v) h room = λ k s e. (h k s e, room k s e)
can_be_done_there c who (Stores oid i v) h room = (h, room)
can_be_done_there c who (Makes class given) h room =
    by_class (class_at c.parts.classes class) (λ r. IsMakable c who.own class (new_fields given r.fields))
    (λ r. RoomToMake c who.own class (new_fields given r.fields))
    (λ r. CanMake c who.own (suc (made_count c.whereabouts)) class (new_fields given r.fields))
    (λ r m q. can_make_there c who.own class (new_fields given r.fields) m q) h room
can_be_done_there c who (MakesVector of n) h room = can_make_there c who.own _ _ h room
can_be_done_there c who (Invokes op own args) h room = tt
can_be_done_there c who (Returns given leaves section) h room = h
can_be_done_there c who (Moves members to fixes) h room = absurd room
can_be_done_there c who (Unfixes x) h room = h
can_be_done_there c who Enters h room = h
can_be_done_there c who (Waits condition) h room = h
can_be_done_there c who (Signals condition) h room = h
can_be_done_there c who Finishes h room = tt
can_be_done_there c who (Breaks why line) h room = tt

-- ---- the second step

-- nothing that is given wants no room
nothing_wanted : (c : Cluster) (own : ℕ) (e : StopEntry) → HasRoomFor c own e None
nothing_wanted c own e k s at there = by e.result
  where
    by : (result : Option Live) → HasRoomIn s result None
    by None = tt
    by (Some l) = tt

can_take_there : (c : Cluster) (p : ℕ) (below : List CodeActivation) (top : CodeActivation) (e : Effect) → TopTakes c.parts top e →
    BelowTakes c.parts below e → CallIsNew c p below e → CalledHasNode c e → RoomToSettle c below top e → CanTake c p below top e
can_take_there c p below top (GoesOn given) t b new has room = can_finish_there c top given t (room t.entry t.rests)
can_take_there c p below top (Calls op own args) t b new has room = (
  can_finish_there c top None t (nothing_wanted c top.own t.entry),
  record { own_is = has; new = new.new; room = room.block; entry = new.entry; texts = room.texts },
)
can_take_there c p below top (Leaves given) t b new has room =
    subst (λ a. TakesBelow c a given) (sym b.is)
    (can_finish_there c b.activation given b.takes (room b.activation b.is b.takes.entry b.takes.rests))
can_take_there c p below top (Blocks queue own) t b new has room = can_finish_there c top None t (nothing_wanted c top.own t.entry)
can_take_there c p below top Ends t b new has room = tt
can_take_there c p below top (Fails why line) t b new has room = tt

module _ (d : Declared) (s : System) (w : CodeWorld) (below : List CodeActivation) (top : CodeActivation) (who : Who) (doing : Doing)
    (runs : Runs d s w) (asks : Asks w below top who doing) where
  pub does_with_room : RoomToDo s.cluster who doing → CanBeDone s.cluster who doing
  does_with_room room = can_be_done_there s.cluster who doing (doing_is_there d s w below top who doing runs asks) room

  pub settles_with_room : WaitersStay w → (new : System) (o : Outcome) → Does s new w who doing o →
      RoomToSettle new.cluster below top o.effect → CanSettle new.cluster who.process below top o
  settles_with_room waiters new o does room =
      let before : Outcome = (done w.common who doing).1 in
      let now : List ObjectRec = (done w.common who doing).0.objects in
      let parts : s.cluster.parts ≡ new.cluster.parts = sym does.texts.parts in
      let steady : Steady d new.cluster = steady_then d s w below top who doing runs asks new o does in
      let starts = done_starts w.common who doing in
      record {
        takes = can_take_there new.cluster who.process below top o.effect
            (subst (λ (x : Outcome). TopTakes new.cluster.parts top x.effect) does.answers
            (subst (λ (p : Parts). TopTakes p top before.effect) parts (top_takes d s w below top who doing runs asks)))
            (subst (λ (x : Outcome). BelowTakes new.cluster.parts below x.effect) does.answers
            (subst (λ (p : Parts). BelowTakes p below before.effect) parts (below_takes d s w below top who doing runs asks waiters)))
            (call_then d s w below top who doing runs asks new o does)
            (called_then d s w below top who doing runs asks new o does)
            room;
        starts = subst (λ (x : Outcome). CanStart new.cluster top.own x.started) does.answers
            (can_start d new.cluster now top.own before.started steady.fine steady.images
            (subst (λ (p : Parts). FineSection d p now before.started) parts (its_outcome d s w below top who doing runs asks).3)
            (subst (λ own. IsOn own before.started) (its_own d s w below top who doing runs asks) starts.1));
        behind = subst (λ (x : Outcome). StartsBehind x.effect x.started) does.answers starts.0;
      }
