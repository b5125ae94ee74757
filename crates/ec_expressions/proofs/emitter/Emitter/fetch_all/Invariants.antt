use Rattle.std.proofs.Common.{◌≡◌, drop}
use Rattle.ec_expressions.specs.Emitting.{fetch_onto}
use Rattle.ec_expressions.proofs.emitter.Emitter.fetch_all.Given as goal

-- the places from n on are fetched
abbrev pub invariant-loop-n : goal.invariant-loop-n
invariant-loop-n l = l.out ≡ fetch_onto l.self l.h l.n (drop l.n l.places) l.initial.out
