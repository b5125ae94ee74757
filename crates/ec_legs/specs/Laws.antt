-- When activations can go on, and what a system keeps when one has.
use Rattle.std.specs.Prelude.{◌≡◌, ℕ, false, List}
use Rattle.ec_cluster.specs.Cluster.{CodeWorld}
use Rattle.ec_cluster.specs.declared.cluster.Cluster.{Cluster}
use Rattle.ec_code.specs.Activations.{code_meaning, code_silent}
use Rattle.ec_code.specs.Fine.{Fine}
use Rattle.ec_code.specs.Typing.{Declared}
use Rattle.ec_code.specs.declared.activation.CodeActivation.{CodeActivation}
use Rattle.ec_code.specs.declared.code.Parts.{Parts}
use Rattle.ec_legs.specs.Going.{HasCode, HasLiterals, IsDoneTop, Ran}
use Rattle.ec_code.specs.Idle.{IdleWorld, OfClasses}
use Rattle.ec_code.specs.Code.{SmallProgram}
use Rattle.ec_code.specs.Sound.{SoundWorld}
use Rattle.ec_cluster.specs.Acting.{IsTop}
use Rattle.ec_cluster.specs.Systems.{Mirrors, Runs}
use Rattle.ec_cluster.specs.declared.system.System.{System}
use Rattle.ec_world.specs.World.{GoOn}
use Rattle.ec_world.specs.declared.process.ProcStatus.TheVariants.{Ready}

-- The activation on top of a process that is Ready can go on once its action is done, in each world of a run (these are sound and idle) of
-- a program whose operations are of classes or of the program.
abbrev pub IdleTopsGoOn : Type 0
IdleTopsGoOn =
    (d : Declared) (p : Parts) (w : CodeWorld) (n : ℕ) (below : List CodeActivation) (top : CodeActivation) (t : IsTop w n below top) →
    Fine d p → OfClasses p → SoundWorld d p w → IdleWorld w → t.proc.status ≡ Ready → top.pending ≡ false → IsDoneTop w n below top

-- A system ran a world. If it has the same program and images, has only run instructions, and shows the world in which a process has gone
-- on, it runs this world.
abbrev pub SystemsRunOn : Type 0
SystemsRunOn =
    (d : Declared) (s t : System) (w : CodeWorld) (p own count : ℕ) → Runs d s w → SmallProgram s.cluster.parts →
    t.cluster.parts ≡ s.cluster.parts → t.cluster.images ≡ s.cluster.images → Ran s.cluster t.cluster own count →
    Mirrors t (GoOn code_meaning (code_silent s.cluster.parts) w p) → Runs d t (GoOn code_meaning (code_silent s.cluster.parts) w p)

-- Where the program and the images are the same, so is whose code they are.
abbrev pub CodeStays : Type 0
CodeStays = (d : Declared) (c c' : Cluster) → c'.parts ≡ c.parts → c'.images ≡ c.images → HasCode d c → HasCode d c'

-- Instructions change no texts.
abbrev pub LiteralsStay : Type 0
LiteralsStay = (c c' : Cluster) (own count : ℕ) → c'.parts ≡ c.parts → Ran c c' own count → HasLiterals c → HasLiterals c'
