use Rattle.std.proofs.Common.{sym, subst, ◌∙◌}
use Rattle.ec_code.specs.Live.{IsLiveList}
use Rattle.ec_code.proofs.Determined.{same_lists}
use Rattle.ec_code.proofs.Listing.{is_live_list}
use Rattle.ec_code.proofs.live.live_lists.Goals as goal

pub returns-clause-live : goal.returns-clause-live
returns-clause-live c = λ q xs is.
    subst (λ l. IsLiveList c.args.code.now q l) (sym (c.loop-q.invariant.1 q xs is))
    (is_live_list c.args.code.now c.in_ok-named.named c.in_ok-temporaries.temporaries q c.extent_of-extent.result
    c.extent_of-extent.ensures.all c.in_ok-named.ensures.all c.in_ok-temporaries.ensures.all c.in_ok-named.ensures.count
    c.in_ok-temporaries.ensures.count)

pub returns-clause-only : goal.returns-clause-only
returns-clause-only c = λ q xs ys is other.
    c.loop-q.invariant.1 q xs is
    ∙ same_lists
    (is_live_list c.args.code.now c.in_ok-named.named c.in_ok-temporaries.temporaries q c.extent_of-extent.result
    c.extent_of-extent.ensures.all c.in_ok-named.ensures.all c.in_ok-temporaries.ensures.all c.in_ok-named.ensures.count
    c.in_ok-temporaries.ensures.count)
    other
