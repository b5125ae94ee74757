-- What an answer says.
use Rattle.std.specs.Prelude.{◌≡◌, ℕ, List}
use Rattle.ec_report.specs.declared.answer.Answer.{Answer}
use Rattle.ec_report.specs.declared.status.Status.{Status}

-- the answer has this status and this text
abbrev pub Says : Answer → Status → List ℕ → Type 0
Says answer status text = (answer.status ≡ status) × (answer.text.items ≡ text)
