use Rattle.ec_fullness.proofs.laws.first_waiters_stay.Goals as goal

pub returns : goal.returns
returns c p n = (tt, tt)
