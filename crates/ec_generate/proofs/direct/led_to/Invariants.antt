use Rattle.std.proofs.Common.{◌≡◌, drop}
use Rattle.ec_machine_code.specs.Direct.{led_to, marked}
use Rattle.ec_generate.proofs.direct.led_to.Given as goal

-- the lines from this one on are still to be looked at
abbrev pub invariant-loop-place : goal.invariant-loop-place
invariant-loop-place l = marked l.code l.place (drop l.place l.code) l.marks.items ≡ led_to l.code
