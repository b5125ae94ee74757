-- The second step of an action, and what both steps come to.
use Rattle.std.proofs.Common.{◌≡◌, ◌⊎◌, ℕ, List, [], ◌∷◌, sym, ap, ◌∙◌, subst}
use Rattle.std.specs.List.{AllByRecursion as Each}
use Rattle.ec_asking.specs.Typed.{IsTypedOnce}
use Rattle.ec_cluster.specs.Cluster.{CodeWorld}
use Rattle.ec_cluster.specs.Steps.{Changes}
use Rattle.ec_code.specs.Activations.{code_meaning}
use Rattle.ec_code.specs.Typing.{Declared}
use Rattle.ec_code.specs.declared.activation.CodeActivation.{CodeActivation}
use Rattle.ec_code.specs.declared.code.Parts.{Parts}
use Rattle.ec_fullness.proofs.Keeping.{images_after, steady_after, strings_then}
use Rattle.ec_fullness.proofs.Roomy.{settles_with_room}
use Rattle.ec_fullness.specs.FittingRoom.{RoomToSettle}
use Rattle.ec_fullness.specs.Waiters.{BelowStay, WaitersStay}
use Rattle.ec_fullness.proofs.Acting.{action_is}
use Rattle.ec_code.proofs.IdleWorlds.{action_idle}
use Rattle.ec_code.specs.Idle.{IdleProc, IdleWorld}
use Rattle.ec_network.specs.Acts.{AsksOfEach, HasActed}
use Rattle.ec_rooms.proofs.Settling.{settling_keeps_places}
use Rattle.ec_rooms.specs.Places.{HasPlaces}
use Rattle.ec_code.proofs.RangesWorlds.{action_ranged}
use Rattle.ec_acts.specs.Settling.{CanBeSettled, SettlesIn}
use Rattle.ec_code.proofs.SoundWorlds.{action_sound}
use Rattle.ec_code.specs.Sound.{SoundWorld}
use Rattle.ec_cluster.specs.SystemSteps.{Does, Settles, world_done, world_settled}
use Rattle.ec_cluster.specs.Systems.{Mirrors, Runs, Strings}
use Rattle.ec_cluster.specs.declared.system.System.{System}
use Rattle.ec_world.specs.World.{Action}
use Rattle.ec_world.specs.declared.doing.Doing.{Doing}
use Rattle.ec_world.specs.declared.doing.Outcome.{Outcome}
use Rattle.ec_world.specs.declared.process.Proc.{Proc}
use Rattle.ec_world.specs.declared.stop.Who.{Who}

-- ---- the second step

-- those that wait stand where code goes on
waiters_in : (ps : List (Proc CodeActivation)) → Each IdleProc ps → Each BelowStay ps
waiters_in [] h = tt
waiters_in (p ∷ ps) h = (h.0.below, waiters_in ps h.1)

waiters_of : (w : CodeWorld) → IdleWorld w → WaitersStay w
waiters_of w idle = waiters_in w.processes idle.processes

module _ (d : Declared) (old : System) (w : CodeWorld) (who : Who) (doing : Doing) (a : AsksOfEach d old w who doing) (mid : System)
    (o : Outcome) (does : Does old mid w who doing o) where
  -- With room behind the first step, the second one can be taken.
  module _ (room : RoomToSettle mid.cluster a.below a.top o.effect) where
    pub settles_behind : SettlesIn d mid (world_done w who doing) a.below a.top who o
    settles_behind = record {
      images = images_after d _ old.cluster mid.cluster does.texts a.goes.runs.steady.images;
      mirrors = does.mirrors;
      is_top = record { proc = a.asks.is_top.proc; is = a.asks.is_top.is; stack = a.asks.is_top.stack };
      depth = ap (λ (x : Who). x.depth) a.asks.who_is;
      owns = ap (λ (x : Who). x.own) a.asks.who_is;
      can = settles_with_room d old w a.below a.top who doing a.goes.runs a.asks (waiters_of w a.goes.idle) mid o does room;
    }

    pub can_settle_behind : CanBeSettled mid who o
    can_settle_behind = record {
      declared = d;
      world = world_done w who doing;
      below = a.below;
      top = a.top;
      settles = settles_behind;
    }

  -- ---- what is then shown

  -- the world behind both steps
  abbrev behind : CodeWorld
  behind = world_settled (world_done w who doing) who.process a.below a.top o

  -- Objects are where the world between the steps has them, and each text of it was there before, or is one of the world behind both.
  module _ (new : System) (settled : Settles mid new (world_done w who doing) who.process a.below a.top o)
      (same : new.cluster.whereabouts ≡ mid.cluster.whereabouts) (placed : HasPlaces mid.cluster (world_done w who doing))
      (between : (k : ℕ) (text : List ℕ) → Strings mid.cluster (world_done w who doing) k text →
      Strings old.cluster w k text ⊎ Strings new.cluster behind k text) where
    behind_is : behind ≡ Action code_meaning w who.process
    behind_is =
        ap (world_settled (world_done w who doing) who.process a.below a.top) (sym does.answers)
        ∙ sym (action_is w a.below a.top who doing a.asks)

    texts_then : Changes (Strings new.cluster (Action code_meaning w who.process)) old.cluster new.cluster
    texts_then = subst (λ (x : CodeWorld). Changes (Strings new.cluster x) old.cluster new.cluster) behind_is
        (strings_then old.cluster mid.cluster new.cluster w (world_done w who doing) behind does.texts settled.texts
        a.goes.runs.mirrors.shows between)

    runs_then : Runs d new (Action code_meaning w who.process)
    runs_then = record {
      mirrors = subst (λ (x : CodeWorld). Mirrors new x) behind_is settled.mirrors;
      steady = steady_after d _ old.cluster new.cluster texts_then a.goes.runs.steady;
      sound = subst (λ (p : Parts). SoundWorld d p (Action code_meaning w who.process)) (sym texts_then.parts)
          (action_sound d old.cluster.parts a.goes.runs.steady.fine w who.process a.goes.runs.sound);
      ranged = action_ranged w who.process a.goes.runs.ranged;
    }

    pub acted_behind : HasActed d old new w who.process
    acted_behind = record {
      goes = record {
        runs = runs_then;
        idle = action_idle d old.cluster.parts a.goes.runs.steady.fine w who.process a.goes.runs.sound a.goes.idle;
        typed = subst IsTypedOnce (sym texts_then.parts) a.goes.typed;
        places = subst (HasPlaces new.cluster) behind_is
            (settling_keeps_places mid.cluster new.cluster (world_done w who doing) who.process a.below a.top o same placed);
      };
      texts = texts_then;
    }
