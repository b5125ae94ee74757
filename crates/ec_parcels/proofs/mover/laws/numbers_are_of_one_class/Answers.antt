-- Each way by the three sorts of numbers.
use Rattle.ec_parcels.proofs.Numbers.{class_again, number_again}
use Rattle.ec_parcels.proofs.mover.laws.numbers_are_of_one_class.Goals as goal

pub returns : goal.returns
returns c = λ t class number keeps. (class_again t keeps class number, number_again t keeps class number)
