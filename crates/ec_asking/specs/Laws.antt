-- What a system runs is seen of its nodes, and what this asks for besides holds of each world of each run.
use Rattle.ec_asking.specs.Bare.{HasBareProgram, IsBareProgram}
use Rattle.ec_cluster.specs.Cluster.{CodeWorld, Shows}
use Rattle.ec_cluster.specs.declared.cluster.Cluster.{Cluster}
use Rattle.ec_code.specs.Typing.{Declared}
use Rattle.ec_cluster.specs.Seeing.{CanBeSeen, ShowsProgram}
use Rattle.ec_cluster.specs.Systems.{Runs}
use Rattle.ec_cluster.specs.declared.system.System.{System}

-- Nodes show a world that their system runs as one of their program.
abbrev pub WhatRunsIsSeen : Type 0
WhatRunsIsSeen =
    (d : Declared) (s : System) (w : CodeWorld) → Runs d s w → HasBareProgram s.cluster → ShowsProgram s.cluster w

-- They can be seen.
abbrev pub WhatRunsCanBeSeen : Type 0
WhatRunsCanBeSeen = (d : Declared) (s : System) (w : CodeWorld) → Runs d s w → HasBareProgram s.cluster → CanBeSeen s.cluster

-- A world whose program's object has no fields is shown by nodes on which it has none.
abbrev pub WhatIsShownBareIsBare : Type 0
WhatIsShownBareIsBare = (c : Cluster) (w : CodeWorld) → Shows c w → IsBareProgram w.common → HasBareProgram c
