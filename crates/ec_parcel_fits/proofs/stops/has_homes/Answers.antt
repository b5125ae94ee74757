-- One variable more fits, and at the end all do.
use Rattle.std.proofs.Common.{◌≡◌, ◌≢◌, arith, subst, sym, ⊎_elim}
use Rattle.ec_base.proofs.Lists.{get_within}
use Rattle.ec_node_frames.specs.Carried.{carried}
use Rattle.ec_parcel_fits.proofs.stops.has_homes.Goals as goal
use Rattle.ec_parcel_fits.specs.Unfitting.{VariableFits}
use Rattle.ec_world.proofs.Keys.{same_or_not}

pub loop-i-preserved : goal.loop-i-preserved
loop-i-preserved c = λ k lt.
    let held = carried c.args.entry.now c.args.part.now.is_pending in
    ⊎_elim
    (λ (same : k ≡ c.loop-i.i). subst (λ i. VariableFits c.args.table.now held c.args.part.now.values i) (sym same)
    (c.in_ok-variable_fits.ensures.fits c.if-not-branch.false))
    (λ (ne : k ≢ c.loop-i.i). c.loop-i.invariant k (omega (arith, lt, ne)))
    (same_or_not k c.loop-i.i)

pub returns-clause-homes : goal.returns-clause-homes
returns-clause-homes c = λ t.
    let held = carried c.args.entry.now c.args.part.now.is_pending in
    let many = c.requires.many in
    let end = c.loop-i-test.false in
    let count = c.len-i-end.ensures in
    record {
      low = λ k l is.
          let there = get_within held k l is in
          (c.loop-i.invariant k (omega (arith, there, many, end, count))).low l is;
      one_each = λ i j l m v u il jm iv ju same.
          let there = get_within held i l il in
          (c.loop-i.invariant i (omega (arith, there, many, end, count))).one j l m v u il jm iv ju same;
    }
