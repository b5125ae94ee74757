use Rattle.std.proofs.Common.{◌∙◌, refl, sym}
use Rattle.ec_forwarding.proofs.Knowing.{found, no_one, read}
use Rattle.ec_forwarding.proofs.known.address_of.Goals as goal

pub unwrap-i-requires : goal.unwrap-i-requires
unwrap-i-requires c = rw (c.index_of.ensures ∙ found c.args.known.now c.args.node c.requires) refl

pub returns : goal.returns
returns c = read c.args.known.now c.args.node _ no_one c.requires (sym c.index_of.ensures ∙ c.unwrap-i.ensures)
