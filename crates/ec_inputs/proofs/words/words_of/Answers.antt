use Rattle.std.proofs.Common.{sym, ◌∙◌, ap, ◌≡◌, inl, inr, Some, true, false}
use denote.Enum.Bare.{sameb}
use Rattle.clap.specs.Words.{found_of, rows_of, subcommand_rows_of, is_simple}
use Rattle.clap.specs.contracts.error.kind.ErrorKind.{the_type as kind_type}
use Rattle.clap.specs.declared.error.ErrorKind.TheVariants as kinds
use Rattle.ec_inputs.proofs.Commands.{refused, answered, found_budget, found_trial, pairs, names, simple_too}
use Rattle.ec_inputs.proofs.words.words_of.Goals as goal

pub returns-in-Err-clause-words : goal.returns-in-Err-clause-words
returns-in-Err-clause-words c = sym (refused _ _ _ c.in_ok-command.ensures c.in-Err.ensures.kinds
    (λ e. let f : false ≡ sameb kind_type c.kind.result kinds.OutOfMemory = c.if-eq.ensures in
    let g : sameb kind_type c.kind.result kinds.OutOfMemory ≡ true =
    ap (λ x. sameb kind_type x kinds.OutOfMemory) (c.kind.ensures ∙ e) in cc))

pub command_of-requires-clause-run : goal.command_of-requires-clause-run
command_of-requires-clause-run c is_run =
    let m = c.in-Ok.matches in
    let found : subcommand_rows_of m ≡ Some (c.in-Some.name.now, rows_of (found_of c.in-Some.found.now)) =
    pairs (subcommand_rows_of m) _ _ (names m ∙ sym c.in-Some.ensures.name) (sym c.in-Some.ensures.rows) in
    found_budget _ _ _ _ (inl is_run) c.in_ok-command.ensures c.in-Ok.ensures.kinds
    (sym found ∙ (c.in-Ok.ensures.matches (ap is_simple c.in_ok-command.ensures ∙ simple_too)).1)

pub command_of-requires-clause-mean : goal.command_of-requires-clause-mean
command_of-requires-clause-mean c is_mean =
    let m = c.in-Ok.matches in
    let found : subcommand_rows_of m ≡ Some (c.in-Some.name.now, rows_of (found_of c.in-Some.found.now)) =
    pairs (subcommand_rows_of m) _ _ (names m ∙ sym c.in-Some.ensures.name) (sym c.in-Some.ensures.rows) in
    found_budget _ _ _ _ (inr is_mean) c.in_ok-command.ensures c.in-Ok.ensures.kinds
    (sym found ∙ (c.in-Ok.ensures.matches (ap is_simple c.in_ok-command.ensures ∙ simple_too)).1)

pub command_of-requires-clause-trial : goal.command_of-requires-clause-trial
command_of-requires-clause-trial c is_trial =
    let m = c.in-Ok.matches in
    let found : subcommand_rows_of m ≡ Some (c.in-Some.name.now, rows_of (found_of c.in-Some.found.now)) =
    pairs (subcommand_rows_of m) _ _ (names m ∙ sym c.in-Some.ensures.name) (sym c.in-Some.ensures.rows) in
    found_trial _ _ _ _ is_trial c.in_ok-command.ensures c.in-Ok.ensures.kinds
    (sym found ∙ (c.in-Ok.ensures.matches (ap is_simple c.in_ok-command.ensures ∙ simple_too)).1)

pub returns-in-Some-clause-words : goal.returns-in-Some-clause-words
returns-in-Some-clause-words c =
    let m = c.in-Ok.matches in
    let found : subcommand_rows_of m ≡ Some (c.in-Some.name.now, rows_of (found_of c.in-Some.found.now)) =
    pairs (subcommand_rows_of m) _ _ (names m ∙ sym c.in-Some.ensures.name) (sym c.in-Some.ensures.rows) in
    c.command_of.ensures.words
    ∙ sym (answered _ _ _ c.in_ok-command.ensures c.in-Ok.ensures.kinds
    (sym found ∙ (c.in-Ok.ensures.matches (ap is_simple c.in_ok-command.ensures ∙ simple_too)).1))
