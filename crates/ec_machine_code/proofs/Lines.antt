-- What is live at a place of code.
use Rattle.std.proofs.Common.{◌≡◌, ℕ, zero, suc, List, [], ◌∷◌, Some, None, drop, refl, ap}
use Rattle.std.specs.Prelude.{slice_get}
use Rattle.ec_base.proofs.Lists.{drop_at}
use Rattle.ec_code.specs.declared.code.Line.{Line}
use Rattle.ec_machine_code.specs.Meeting.{live_first, live_in}

pub live_there : (code : List Line) (p : ℕ) (line : Line) → slice_get code p ≡ Some line → live_first (drop p code) ≡ live_in line
live_there code p line at = ap live_first (drop_at code p line at)

pub none_there : (code : List Line) (p : ℕ) → slice_get code p ≡ None → live_first (drop p code) ≡ []
none_there [] zero e = refl
none_there [] (suc p) e = refl
none_there (line ∷ code) zero e = cc
none_there (line ∷ code) (suc p) e = none_there code p e
