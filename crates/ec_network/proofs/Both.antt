-- Both steps of an action.
use Rattle.std.proofs.Common.{◌≡◌, ℕ, List, Option, Some, None, ap, subst, arith}
use Rattle.ec_cluster.specs.Cluster.{CodeWorld}
use Rattle.ec_cluster.specs.Steps.{Changes, Nothing}
use Rattle.ec_cluster.specs.declared.cluster.Cluster.{Cluster}
use Rattle.ec_code.specs.Typing.{Declared}
use Rattle.ec_code.specs.declared.activation.CodeActivation.{CodeActivation}
use Rattle.ec_acts.specs.Doings.{BringsNothing, Places}
use Rattle.ec_fullness.proofs.FittingDoings.{doing_is_there}
use Rattle.ec_fullness.proofs.Roomy.{can_be_done_there}
use Rattle.ec_fullness.specs.Fitting.{HasNamed, IsMakable}
use Rattle.ec_fullness.specs.FittingRoom.{RoomToDo, RoomToMake, RoomToSettle}
use Rattle.ec_cluster.specs.Whereabouts.{place_at}
use Rattle.ec_fullness.specs.Room.{HasRoomToMake, RoomFor}
use Rattle.ec_network.proofs.Behind.{acted_behind, can_settle_behind, settles_behind}
use Rattle.ec_network.proofs.Rooming.{frames_same, room_behind}
use Rattle.ec_network.proofs.Strings.{still_there, texts_between}
use Rattle.ec_network.specs.Acts.{AsksOfEach, HasActed}
use Rattle.ec_rooms.proofs.Doing.{doings_keep_places}
use Rattle.ec_acts.specs.Settling.{CanBeSettled, SettlesIn}
use Rattle.ec_cluster.specs.SystemSteps.{ByClass, CanBeDone, Does, Settles, world_done}
use Rattle.ec_cluster.specs.declared.system.System.{System}
use Rattle.ec_world.specs.Objects.{class_at}
use Rattle.ec_world.specs.Values.{new_fields}
use Rattle.ec_world.specs.declared.class.ClassNo.{ClassNo}
use Rattle.ec_world.specs.declared.class.ClassRec.{ClassRec}
use Rattle.ec_world.specs.declared.doing.Doing.{Doing}
use Rattle.ec_world.specs.declared.doing.Doing.TheVariants.{Passes, Prints, Defines, Stores, Makes, MakesVector, Invokes, Returns}
use Rattle.ec_world.specs.declared.doing.Doing.TheVariants.{Moves, Unfixes, Enters, Waits, Signals, Finishes, Breaks}
use Rattle.ec_world.specs.declared.doing.Outcome.{Outcome}
use Rattle.ec_world.specs.declared.stop.Who.{Who}
use Rattle.ec_world.specs.declared.value.Value.{Value}

-- ---- the first step

making_room : (c : Cluster) (maker : ℕ) (class : ClassNo) (given : List Value) (x : Option ClassRec) → HasRoomToMake c maker class given x →
    ByClass x (λ k. IsMakable c maker class (new_fields given k.fields)) →
    ByClass x (λ k. RoomToMake c maker class (new_fields given k.fields))
making_room c maker class given None room named = absurd named
making_room c maker class given (Some m) room named = record {
  blocks = λ k s at there. let fits = (room k s at there).blocks_fit in omega (arith, fits);
  texts = λ k s at there. (room k s at there).texts_fit;
}

room_to_do : (c : Cluster) (below : List CodeActivation) (top : CodeActivation) (who : Who) (doing : Doing) →
    RoomFor c below top who doing → HasNamed c who doing → RoomToDo c who doing
room_to_do c below top who (Passes given) room named = tt
room_to_do c below top who (Prints text) room named = tt
room_to_do c below top who (Defines index v) room named = room
room_to_do c below top who (Stores oid i v) room named = room
room_to_do c below top who (Makes class given) room named =
    making_room c who.own class given (class_at c.parts.classes class) room named
room_to_do c below top who (MakesVector of n) room named = record {
  blocks = λ k s at there. (room k s at there).blocks_fit;
  texts = λ k s at there. (room k s at there).texts_fit;
}
room_to_do c below top who (Invokes op own args) room named = tt
room_to_do c below top who (Returns given leaves section) room named = tt
room_to_do c below top who (Moves members to fixes) room named = absurd room
room_to_do c below top who (Unfixes x) room named = tt
room_to_do c below top who Enters room named = tt
room_to_do c below top who (Waits condition) room named = tt
room_to_do c below top who (Signals condition) room named = tt
room_to_do c below top who Finishes room named = tt
room_to_do c below top who (Breaks why line) room named = tt

module _ (d : Declared) (old : System) (w : CodeWorld) (who : Who) (doing : Doing) (a : AsksOfEach d old w who doing)
    (room : RoomFor old.cluster a.below a.top who doing) where
  pub can_do : CanBeDone old.cluster who doing
  can_do =
      let named = doing_is_there d old w a.below a.top who doing a.goes.runs a.asks in
      can_be_done_there old.cluster who doing named (room_to_do old.cluster a.below a.top who doing room named)

  -- ---- the second step

  module _ (mid : System) (o : Outcome) (does : Does old mid w who doing o)
      (none : BringsNothing doing → Changes Nothing old.cluster mid.cluster)
      (places : Places old.cluster mid.cluster who.own doing) where
    room_to_settle : RoomToSettle mid.cluster a.below a.top o.effect
    room_to_settle = subst (λ (x : Outcome). RoomToSettle mid.cluster a.below a.top x.effect) does.answers
        (room_behind old mid w a.below a.top who a.goes.runs.mirrors doing does.mirrors does.texts none places room)

    pub settles_in : SettlesIn d mid (world_done w who doing) a.below a.top who o
    settles_in = settles_behind d old w who doing a mid o does room_to_settle

    pub can_be_settled : CanBeSettled mid who o
    can_be_settled = can_settle_behind d old w who doing a mid o does room_to_settle

    pub has_acted : (new : System) → Settles mid new (world_done w who doing) who.process a.below a.top o →
        new.cluster.whereabouts ≡ mid.cluster.whereabouts → HasActed d old new w who.process
    has_acted new settled same = acted_behind d old w who doing a mid o does new settled same
        (doings_keep_places d old mid w a.below a.top who doing a.goes.runs a.asks places a.goes.places)
        (texts_between old.cluster mid.cluster new.cluster w a.below a.top who doing o a.goes.runs.mirrors.shows
        (frames_same _ old.cluster mid.cluster does.texts) (still_there old.cluster mid.cluster who.own doing places)
        (λ x. ap (λ e. place_at e x) same))
