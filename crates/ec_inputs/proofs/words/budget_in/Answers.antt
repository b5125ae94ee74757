use Rattle.std.proofs.Common.{◌≡◌, ◌∙◌, refl}
use Rattle.clap.specs.Words.{found_of}
use Rattle.ec_inputs.proofs.Reading.{budget_read}
use Rattle.ec_inputs.proofs.words.budget_in.Goals as goal

pub unwrap-requires : goal.unwrap-requires
unwrap-requires c = let read =
    budget_read (found_of c.args.found.now) c.get_one.result c.get_one.ensures.value c.requires in rw read.some refl

pub returns-clause-number : goal.returns-clause-number
returns-clause-number c =
    let read = budget_read (found_of c.args.found.now) c.get_one.result c.get_one.ensures.value c.requires in
    let same : c.unwrap.result ≡ read.number = cc (c.unwrap.ensures, read.some) in
    same ∙ read.written

pub returns-clause-least : goal.returns-clause-least
returns-clause-least c =
    let read = budget_read (found_of c.args.found.now) c.get_one.result c.get_one.ensures.value c.requires in
    let same : c.unwrap.result ≡ read.number = cc (c.unwrap.ensures, read.some) in
    rw same read.least

pub returns-clause-most : goal.returns-clause-most
returns-clause-most c =
    let read = budget_read (found_of c.args.found.now) c.get_one.result c.get_one.ensures.value c.requires in
    let same : c.unwrap.result ≡ read.number = cc (c.unwrap.ensures, read.some) in
    rw same read.most
