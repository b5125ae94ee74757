use Rattle.std.proofs.Common.{rules, ◌≡◌, ap₂, codes}
use Rattle.clap.specs.Simple.{on_top}
use Rattle.clap.specs.Words.{App, app_of, new_app, with_subcommand}
use Rattle.ec_inputs.specs.Words.{check, mean, run, without_help}
use Rattle.ec_inputs.proofs.Adding.{added}
use Rattle.ec_inputs.proofs.words.of_files.Goals as goal

pub returns : goal.returns
returns c =
    let plain = on_top without_help (new_app (codes "emerald")) in
    let one : app_of c.in_ok-subcommand.field-0 ≡ with_subcommand plain run.top = search rules in
    let two : app_of c.in_ok-subcommand-2.field-0 ≡ with_subcommand (with_subcommand plain run.top) check.top = search rules in
    let last : app_of c.in_ok-run_named-2.field-0 ≡ mean = search rules in
    added _ _ _ _ c.subcommand-3.ensures c.in_ok-run_named-2.ensures.local (ap₂ (λ (a b : App). with_subcommand a b.top) two last)
