-- Each place has its list.
use Rattle.ec_code.proofs.LiveListsLists.{live_list}
use Rattle.ec_code.proofs.live_lists.each_place_has_its_list.Goals as goal

pub returns : goal.returns
returns start code q = live_list code q
