use Rattle.std.proofs.Common.{◌+◌, ◌<◌, length, arith}
use Rattle.mips_delay.proofs.Looking.{unmarked}
use Rattle.mips_waits.proofs.Deciding.{looks_read, read_looks}
use Rattle.mips_waits.proofs.needless.is_behind_read.Goals as goal

pub returns-clause-yes : goal.returns-clause-yes
returns-clause-yes c =
    let code = c.args.words.now in
    let j = c.args.j in
    let off = unmarked code c.args.landed.now c.requires.long c.requires.unled in
    let low : j + 3 < length code = omega (arith, c.if-words-j-lt4.false) in
    λ e. looks_read code j low (record {
      reads = c.reads.ensures.yes c.if-not-reads.false;
      second = c.if-words-j-ne0.false;
      third = c.if-words-j-ne0-2.false;
      unled = λ k g. (
        off (j + 2) (omega (arith, low)) c.if-landed-j.false k g,
        off (j + 3) low c.if-landed-j-2.false k g,
      );
      free = c.leaves_hilo.ensures.yes e;
    })

pub returns-clause-no : goal.returns-clause-no
returns-clause-no c = λ n. c.leaves_hilo.ensures.no (read_looks c.args.words.now c.args.j n).free
