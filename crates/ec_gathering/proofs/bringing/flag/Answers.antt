-- The flag of the object, if there is one.
use Rattle.std.proofs.Common.{ℕ, Option, sym, subst}
use Rattle.ec_cluster.specs.Cluster.{Shows}
use Rattle.ec_cluster.specs.Steps.{with_common}
use Rattle.ec_gathering.proofs.bringing.flag.Goals as goal
use Rattle.ec_gathering.specs.Bringing.{flag_if}

pub returns-in-Some-clause-shows : goal.returns-in-Some-clause-shows
returns-in-Some-clause-shows c = λ w shows.
    subst (λ (x : Option ℕ). Shows c.set_flag.new.cluster (with_common w (flag_if w.common x c.args.fixed))) (sym c.in-Some.is)
    (c.set_flag.ensures.shows w shows)

pub returns-in_default-clause-shows : goal.returns-in_default-clause-shows
returns-in_default-clause-shows c = λ w shows.
    subst (λ (x : Option ℕ). Shows c.args.cluster.now (with_common w (flag_if w.common x c.args.fixed))) (sym c.in_default.is) shows
