use Rattle.std.proofs.Common.{◌≡◌, ◌++◌, ℕ, map}
use Rattle.ec_machine_code.specs.Stops.{stop_places}
use Rattle.ec_generate.specs.Puts.{pick}
use Rattle.ec_generate.specs.Sites.{place_there}
use Rattle.ec_generate.proofs.Loops.{rest_stops}
use Rattle.ec_target.specs.Code.{pc_of}
use Rattle.ec_generate.proofs.operation.stops_of.Given as goal

abbrev pub invariant-loop-q : goal.invariant-loop-q
invariant-loop-q g l =
    let address : ℕ → ℕ = λ q. pc_of (place_there (pick g.K.Kind.vocabularies l.span) l.site l.start q) in
    l.stops ++ rest_stops address l.site.code.now l.q ≡ map address (stop_places l.site.code.now)
