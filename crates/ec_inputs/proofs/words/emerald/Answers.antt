use Rattle.std.proofs.Common.{ap₂}
use Rattle.clap.specs.Words.{App, with_subcommand}
use Rattle.ec_inputs.proofs.Adding.{added}
use Rattle.ec_inputs.proofs.words.emerald.Goals as goal

pub returns : goal.returns
returns c = added _ _ _ _ c.subcommand.ensures c.in_ok-trial.ensures.local
    (ap₂ (λ (a b : App). with_subcommand a b.top) c.in_ok-of_files.ensures c.in_ok-trial.ensures.shape)
