use Rattle.ec_generate.proofs.direct.+led_on.Given as goal

-- so many may still be passed
abbrev pub decreases-led_on : goal.decreases-led_on
decreases-led_on l = l.most
