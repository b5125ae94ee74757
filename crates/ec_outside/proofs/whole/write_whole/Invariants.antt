use Rattle.std.proofs.Common.{◌≡◌, ◌-◌, ◌≤◌, ◌++◌, length, take}
use Rattle.ec_outside.proofs.whole.write_whole.Given as goal

-- what stands before the place is taken, and there was no fault
abbrev pub invariant-loop-at : goal.invariant-loop-at
invariant-loop-at g l = record {
  within : l.at ≤ length l.text;
  taken : g.K.Sink.tells l.initial.sink → g.K.Sink.taken l.sink ≡ g.K.Sink.taken l.initial.sink ++ take l.at l.text;
  tells : g.K.Sink.tells l.initial.sink → g.K.Sink.tells l.sink;
  faults : g.K.Sink.faults l.sink ≡ g.K.Sink.faults l.initial.sink;
}

abbrev pub decreases-loop-at : goal.decreases-loop-at
decreases-loop-at g l = length l.text - l.at
