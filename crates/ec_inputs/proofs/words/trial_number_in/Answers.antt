use Rattle.std.proofs.Common.{◌≡◌, ◌∙◌, refl}
use Rattle.clap.specs.Words.{found_of}
use Rattle.ec_inputs.proofs.Reading.{trial_number_read}
use Rattle.ec_inputs.proofs.words.trial_number_in.Goals as goal

pub unwrap-requires : goal.unwrap-requires
unwrap-requires c =
    let read = trial_number_read (found_of c.args.found.now) c.get_one.result c.get_one.ensures.value c.requires in
    rw read.some refl

pub returns : goal.returns
returns c =
    let read = trial_number_read (found_of c.args.found.now) c.get_one.result c.get_one.ensures.value c.requires in
    let same : c.unwrap.result ≡ read.number = cc (c.unwrap.ensures, read.some) in
    same ∙ read.written
