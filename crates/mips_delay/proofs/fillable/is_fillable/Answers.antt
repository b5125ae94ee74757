use Rattle.std.proofs.Common.{◌≡◌, ◌+◌, ◌<◌, true, false, length, arith}
use Rattle.mips_delay.proofs.Deciding.{fillable_looks, looks_fillable}
use Rattle.mips_delay.proofs.Looking.{unmarked}
use Rattle.mips_delay.proofs.Standing.{clash}
use Rattle.mips_delay.proofs.fillable.is_fillable.Goals as goal
use Rattle.mips_delay.proofs.fillable.is_fillable.Goals.{then-words-j-eq0-via-then-words-j-eq0}
use Rattle.mips_delay.proofs.fillable.is_fillable.Goals.{then-words-j-eq0-via-else-words-j-eq0+then-words-j-ne0}
use Rattle.mips_delay.proofs.fillable.is_fillable.Goals.{then-words-j-eq0-via-else-words-j-eq0+else-words-j-ne0+then-not-is_free}

pub returns-then-words-j-eq0-clause-no : goal.returns-then-words-j-eq0-clause-no
returns-then-words-j-eq0-clause-no c = λ f.
    let l = fillable_looks c.args.words.now c.args.j f in
    let z : false ≡ true = elim c.then-words-j-eq0.branch [
      | then-words-j-eq0-via-then-words-j-eq0 w ↦ absurd (l.some w.if-words-j-eq0.true)
      | then-words-j-eq0-via-else-words-j-eq0+then-words-j-ne0 w ↦ absurd (w.if-words-j-ne0.true l.nothing)
      | then-words-j-eq0-via-else-words-j-eq0+else-words-j-ne0+then-not-is_free w ↦
          absurd (clash w.is_free.result (w.is_free.ensures.no l.free) w.if-not-is_free.true)
    ] in
    z

pub returns-clause-yes : goal.returns-clause-yes
returns-clause-yes c =
    let code = c.args.words.now in
    let j = c.args.j in
    let off = unmarked code c.args.landed.now c.requires.long c.requires.unled in
    let low : j + 2 < length code = omega (arith, c.if-words-j-lt3.false) in
    λ e. looks_fillable code j low (record {
      some = c.if-words-j-eq0.false;
      nothing = c.if-words-j-ne0.false;
      free = c.is_free.ensures.yes c.if-not-is_free.false;
      fits = c.fits.ensures.yes e;
      unled = λ k g. (
        off j (omega (arith, low)) c.if-landed-j.false k g,
        off (j + 1) (omega (arith, low)) c.if-landed-j-2.false k g,
        off (j + 2) low c.if-landed-j-3.false k g,
      );
    })

pub returns-clause-no : goal.returns-clause-no
returns-clause-no c = λ f.
    let z = (fillable_looks c.args.words.now c.args.j f).fits in
    c.fits.ensures.no z.0 z.1 z.2 z.3 z.4
