use Rattle.ec_formats.proofs.Wholes.{is_spelling, is_read, whole_within, one_value}
use Rattle.ec_formats.proofs.laws.lawful_wholes.Goals as goal

pub returns-clause-one_value : goal.returns-clause-one_value
returns-clause-one_value g c = λ f a b bytes law. one_value f law a b bytes

pub returns-clause-spelled : goal.returns-clause-spelled
returns-clause-spelled g c = λ f a bytes law. is_spelling f law bytes a

pub returns-clause-read : goal.returns-clause-read
returns-clause-read g c = λ f a bytes law. is_read f law bytes a

pub returns-clause-within : goal.returns-clause-within
returns-clause-within g c = λ f left bytes law. whole_within f law bytes left
