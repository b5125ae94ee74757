use Rattle.std.proofs.Common.{◌+◌, ◌<◌, length, sym, ap, ◌∙◌, subst, arith}
use Rattle.mips_delay.proofs.Looking.{unmarked}
use Rattle.mips_isa.specs.OneWord.{one_word}
use Rattle.mips_machine.specs.Hazards.{loads}
use Rattle.mips_waits.proofs.Deciding.{load_looks, looks_load}
use Rattle.mips_waits.specs.Waits.{LeavesRegister}
use Rattle.mips_waits.proofs.needless.is_behind_load.Goals as goal

pub returns-in-Some-clause-yes : goal.returns-in-Some-clause-yes
returns-in-Some-clause-yes c =
    let code = c.args.words.now in
    let j = c.args.j in
    let low : j + 2 < length code = omega (arith, c.if-words-j-lt3.false) in
    let z = c.in-Some.ensures.some in
    λ e. looks_load code j c.in-Some.register low (record {
      load = z.0;
      is = z.1;
      is_load = z.2;
      loads = z.3;
      second = c.if-words-j-ne0.false;
      unled = unmarked code c.args.landed.now c.requires.long c.requires.unled (j + 2) low c.if-landed-j.false;
      free = c.leaves_register.ensures.yes e;
      leaves = c.writes_neither.ensures.yes c.if-not-writes_neither.false;
    })

pub returns-in-Some-clause-no : goal.returns-in-Some-clause-no
returns-in-Some-clause-no c = λ n.
    let code = c.args.words.now in
    let j = c.args.j in
    let z = c.in-Some.ensures.some in
    let l = load_looks code j n in
    let same = one_word l.load z.0 (l.is ∙ sym z.1) in
    c.leaves_register.ensures.no (subst (LeavesRegister code (j + 3)) (sym l.loads ∙ ap loads same ∙ z.3) l.free)
