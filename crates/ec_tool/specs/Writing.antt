-- What is written of an answer.
use Rattle.std.specs.Prelude.{◌≡◌, ℕ, List, ◌++◌}
use Rattle.ec_outside.specs.Fault.{HasRisen}
use Rattle.ec_outside.specs.Whole.{GrowsByFront}
use Rattle.ec_report.specs.declared.status.Status.{Status}
use Rattle.ec_report.specs.declared.status.Status.TheVariants as statuses

-- What is answered of a status and its text: the whole text is written, or the sink has met a fault and has taken a front of it.
pub data ComesOut (Told : Type 0) (taken taken' : List ℕ) (count count' : ℕ) (status : Status) (text : List ℕ) : Status → Type 0 where
  Written : (Told → taken' ≡ taken ++ text) → count' ≡ count → ComesOut Told taken taken' count count' status text status
  Broken : (Told → GrowsByFront taken taken' text) → HasRisen count count' →
      ComesOut Told taken taken' count count' status text statuses.WriteFault
