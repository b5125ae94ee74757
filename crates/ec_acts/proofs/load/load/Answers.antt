-- What is counted is what is needed.
use Rattle.std.proofs.Common.{length}
use Rattle.ec_acts.proofs.Rooms.{lacks_by, needs_counted, room_by}
use Rattle.ec_acts.proofs.Running.{runs_first}
use Rattle.ec_acts.proofs.load.load.Goals as goal
use Rattle.ec_acts.specs.Loading.{counted, first_needs}

pub returns-in-Some-first_lack-clause-full : goal.returns-in-Some-first_lack-clause-full
returns-in-Some-first_lack-clause-full c =
    let p = c.args.parts in
    let specs = c.args.specs.now in
    lacks_by (counted c.in-Some.bytes) (first_needs p c.args.images (length specs)) specs
    (needs_counted p c.args.images (length specs) c.in-Some.bytes c.in-Some.ensures.some) c.in-Some-first_lack.lack
    c.in-Some-first_lack.ensures.some

pub start-requires-clause-room : goal.start-requires-clause-room
start-requires-clause-room c =
    let p = c.args.parts in
    let specs = c.args.specs.now in
    room_by (counted c.in-Some.bytes) (first_needs p c.args.images (length specs)) specs
    (needs_counted p c.args.images (length specs) c.in-Some.bytes c.in-Some.ensures.some) (length specs)
    c.in_default-first_lack.ensures.none

pub returns-in-Ok-clause-runs : goal.returns-in-Ok-clause-runs
returns-in-Ok-clause-runs c = λ d are.
    runs_first d c.args.parts c.args.images c.args.specs.now c.in-Ok.system c.requires.few c.in-Ok.ensures are
