-- Either the code is as it was, or each pass keeps what it promises.
use Rattle.std.proofs.Common.{sym, subst, arith}
use Rattle.ec_compile.proofs.MipsTightened.{moved_has_few}
use Rattle.ec_compile.proofs.mips_compile.tightened.Goals as goal
use Rattle.mips_delay.proofs.Fits.{filled_fits}
use Rattle.mips_delay.specs.Fillable.{HasNoLinks}

-- ---- as it was

pub returns-then-has_links-clause-keeps : goal.returns-then-has_links-clause-keeps
returns-then-has_links-clause-keeps c = λ p homes was. was

pub returns-then-has_links-clause-fits : goal.returns-then-has_links-clause-fits
returns-then-has_links-clause-fits c = λ p homes n place o fit. fit

pub returns-then-has_links-clause-none_left : goal.returns-then-has_links-clause-none_left
returns-then-has_links-clause-none_left c = λ links.
    absurd (c.has_links.ensures.some c.if-has_links.true (subst HasNoLinks (sym c.as_slice.ensures) links))

-- ---- without needless no-ops, and filled

pub drop_waits-requires-clause-links : goal.drop_waits-requires-clause-links
drop_waits-requires-clause-links c = subst HasNoLinks c.as_slice.ensures (c.has_links.ensures.none c.if-has_links.false)

pub fill-requires-clause-few : goal.fill-requires-clause-few
fill-requires-clause-few c = omega (arith, c.in_ok-dropped.ensures.few_words, c.requires.low)

pub returns-clause-keeps : goal.returns-clause-keeps
returns-clause-keeps c = λ p homes was. c.in_ok-filled.ensures.keeps p homes (c.in_ok-dropped.ensures.keeps p homes was)

pub returns-clause-fits : goal.returns-clause-fits
returns-clause-fits c = λ p homes n place o fit.
    let is = c.in_ok-filled.ensures.filled in
    filled_fits c.in_ok-dropped.dropped c.in_ok-filled.filled is.0 is.1 p homes n place o
    (c.in_ok-dropped.ensures.fits p homes n place o fit)

pub returns-clause-few_words : goal.returns-clause-few_words
returns-clause-few_words c = omega (arith, c.in_ok-dropped.ensures.few_words, c.in_ok-filled.ensures.few_words)

pub returns-clause-few : goal.returns-clause-few
returns-clause-few c =
    let is = c.in_ok-filled.ensures.filled in
    let was = c.in_ok-dropped.ensures.dropped in
    moved_has_few c.in_ok-dropped.dropped c.in_ok-filled.filled is.0 is.1.moved
    (moved_has_few c.args.code c.in_ok-dropped.dropped was.0 was.1.moved c.requires.few)

pub returns-clause-none_left : goal.returns-clause-none_left
returns-clause-none_left c = λ links. c.in_ok-filled.ensures.none_left
