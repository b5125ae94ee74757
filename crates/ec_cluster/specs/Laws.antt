-- What nodes show is what is seen of them.
use Rattle.std.specs.Prelude.{◌≡◌, ◌<◌, ◌^◌, ℕ, Some, length}
use Rattle.ec_cluster.specs.Cluster.{CodeWorld}
use Rattle.ec_cluster.specs.Steps.{HasObject}
use Rattle.ec_cluster.specs.declared.cluster.Cluster.{Cluster}
use Rattle.ec_cluster.specs.Decoded.{seen_common}
use Rattle.ec_cluster.specs.Seeing.{CanBeSeen, ShowsProgram}
use Rattle.ec_world.specs.Objects.{object_at}
use Rattle.ec_world.specs.Sights.{sight_of}
use Rattle.ec_world.specs.declared.object.ObjectRec.{ObjectRec}

-- What the words of nodes spell are the objects of the world that the nodes show: so a reader of the nodes sees this world.
abbrev pub WhatIsShownIsSeen : Type 0
WhatIsShownIsSeen = (c : Cluster) (w : CodeWorld) → ShowsProgram c w →
    ((seen_common c).objects ≡ w.common.objects) × (sight_of (seen_common c) ≡ sight_of w.common)

-- Nodes that show a world of the program that they run can be seen.
abbrev pub WhatIsShownCanBeSeen : Type 0
WhatIsShownCanBeSeen = (c : Cluster) (w : CodeWorld) → ShowsProgram c w → length c.nodes < 2 ^ 32 → CanBeSeen c

-- Each object that is seen is at its place.
abbrev pub WhatIsSeenIsThere : Type 0
WhatIsSeenIsThere = (c : Cluster) (oid : ℕ) (o : ObjectRec) → CanBeSeen c → object_at (seen_common c).objects oid ≡ Some o → HasObject c oid
