use Rattle.ec_parser.proofs.Theory.{after_part, after_bound, after_act, after_stuck, lighter, acts_find}
use Rattle.ec_parser.proofs.settle.Goals as goal

pub returns-in-None-choose : goal.returns-in-None-choose
returns-in-None-choose c =
    after_stuck _ _ _ _ _ c.opening.invariant _ _ (rw c.in-Some-Part.field-0-is at c.in-Some-Part.ensures)
    (rw c.in-None-choose.is at c.choose.ensures.none)

pub opening-smaller-in-Continue-1 : goal.opening-smaller-in-Continue-1
opening-smaller-in-Continue-1 c =
    rw (c.in_ok-push_all-in-Some.ensures, rw c.in-Some-Part.field-0-is at c.in-Some-Part.ensures)
    (lighter _ _ _ _ (rw c.in-Some.is at c.choose.ensures.some))

pub opening-preserved-in-Continue-1 : goal.opening-preserved-in-Continue-1
opening-preserved-in-Continue-1 c =
    after_part _ _ _ _ _ c.opening.invariant _ _ _ _ (rw c.in-Some-Part.field-0-is at c.in-Some-Part.ensures)
    (rw c.in-Some.is at c.choose.ensures.some) c.in_ok-push_all-in-Some.ensures

pub opening-preserved-in-Some-Bound : goal.opening-preserved-in-Some-Bound
opening-preserved-in-Some-Bound c = after_bound _ _ _ _ _ c.opening.invariant _ _ (rw c.in-Some-Bound.field-0-is at c.in-Some-Bound.ensures)

pub perform-requires : goal.perform-requires
perform-requires c = acts_find _ _ _ _ _ c.opening.invariant _ _ (rw c.in-Some-Do.field-0-is at c.in-Some-Do.ensures)

pub opening-preserved : goal.opening-preserved
opening-preserved c =
    after_act _ _ _ _ _ c.opening.invariant _ _ _ (rw c.in-Some-Do.field-0-is at c.in-Some-Do.ensures) c.in_ok-perform-in-Some-Do.ensures
