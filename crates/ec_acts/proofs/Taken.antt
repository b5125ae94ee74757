-- What is known of one effect is known of the effect that it is.
use Rattle.std.proofs.Common.{◌≡◌, List, ◌∷◌, ◌++◌, [], None, subst}
use Rattle.ec_cluster.specs.Cluster.{CodeWorld}
use Rattle.ec_cluster.specs.declared.cluster.Cluster.{Cluster}
use Rattle.ec_cluster.specs.Frames.{with_stack}
use Rattle.ec_code.specs.Activations.{finished}
use Rattle.ec_code.specs.Typing.{Declared}
use Rattle.ec_code.specs.declared.activation.CodeActivation.{CodeActivation}
use Rattle.ec_acts.specs.Taking.{Becomes, TakesIn, with_changed}
use Rattle.ec_world.specs.World.{waiting}
use Rattle.std.proofs.Common.{ℕ}
use Rattle.ec_world.specs.declared.process.ProcStatus.{ProcStatus}
use Rattle.ec_world.specs.declared.stop.Effect.{Effect}
use Rattle.ec_world.specs.declared.stop.Effect.TheVariants.{Blocks, GoesOn}
use Rattle.ec_world.specs.declared.stop.Queue.{Queue}
use Rattle.ec_world.specs.declared.stop.Who.{Who}

-- the effect has come, in each world that was shown
abbrev pub Takes : Cluster → Cluster → Who → Effect → Type 0
Takes c c' who e =
    (d : Declared) (w : CodeWorld) (below : List CodeActivation) (top : CodeActivation) → TakesIn d c w below top who e →
    Becomes c c' (with_changed w who.process below top e)

pub taken_as : (c c' : Cluster) (who : Who) (e e' : Effect) → e' ≡ e → Takes c c' who e' → Takes c c' who e
taken_as c c' who e e' same takes = subst (λ (x : Effect). Takes c c' who x) same takes

-- a process that waits has its action done
pub blocks_taken : (c c' : Cluster) (who : Who) (queue : Queue) (own : ℕ) →
    ((d : Declared) (w : CodeWorld) (below : List CodeActivation) (top : CodeActivation) (status : ProcStatus) →
    TakesIn d c w below top who (GoesOn None) → Becomes c c' (with_stack w who.process (below ++ finished top None ∷ []) status)) →
    Takes c c' who (Blocks queue own)
blocks_taken c c' who queue own done d w below top t =
    done d w below top (waiting queue own) (record { images = t.images; shows_top = t.shows_top; can = t.can })
