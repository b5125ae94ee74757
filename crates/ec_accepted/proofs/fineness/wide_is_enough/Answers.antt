-- Code is well typed by what is live alone where it is by lists that may hold more.
use Rattle.ec_accepted.proofs.Exact.{each_leads_on, fine_code}
use Rattle.ec_accepted.proofs.fineness.wide_is_enough.Goals as goal

pub returns : goal.returns
returns start d p number o w ops lines wide has = (fine_code wide has, each_leads_on wide has)
