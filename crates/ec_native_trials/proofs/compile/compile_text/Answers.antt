-- What is compiled is the source of an accepted text.
use Rattle.std.proofs.Common.{◌≡◌, rules, sym, subst}
use Rattle.std.proofs.Math.Facts.{Fits-lt-pow}
use Rattle.ec_compile.specs.Texts.{IsOfText}
use Rattle.ec_meaning.specs.Sources.{source_of, source_with}
use Rattle.ec_native_trials.proofs.Bytes.{each_is_byte}
use Rattle.ec_native_trials.proofs.compile.compile_text.Goals as goal

pub compile-requires : goal.compile-requires
compile-requires c =
    let checked = c.in_ok-check.field-0 in
    let is : source_of c.deref-4.result.now ≡ source_with c.args.text.now checked.table checked.core = search rules in
    subst IsOfText (sym is) (record {
      tokens = c.in_ok-lex.field-0;
      program = checked.program;
      bytes = each_is_byte c.args.text.now (λ i. Fits-lt-pow (c.type_inv.text i));
      scanned = c.in_ok-lex.ensures.tokens;
      parsed = search rules;
      core = c.in_ok-check.ensures.accepted;
    })
