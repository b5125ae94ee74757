-- What a command with one more subcommand is.
use Rattle.std.proofs.Common.{◌≡◌, ◌∙◌, false, IfOk, Result, Ok, Err}
use Rattle.clap.specs.Built.{AddsSubcommand}
use Rattle.clap.specs.Words.{App, app_of, with_subcommand}
use Rattle.clap.specs.declared.Command.{Command, out-Command}

pub added : {E : Type 0} (old sub : Command) (wanted : App) (r : Result Command E) → IfOk r (λ new. AddsSubcommand old sub new)
    → (out-Command sub).has_globals ≡ false → with_subcommand (app_of old) (app_of sub).top ≡ wanted → IfOk r (λ new. app_of new ≡ wanted)
added old sub wanted (Ok new) adds local e = adds.shape local ∙ e
added old sub wanted (Err x) adds local e = tt
