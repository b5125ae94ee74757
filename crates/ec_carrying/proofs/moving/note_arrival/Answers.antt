-- The object is found where it is, and has moved once more.
use Rattle.std.proofs.Common.{◌∙◌}
use Rattle.ec_carrying.proofs.Places.{goes_from, may_move, still_there}
use Rattle.ec_carrying.proofs.moving.note_arrival.Goals as goal

pub note_move-requires : goal.note_move-requires
note_move-requires c = record {
  there =
      still_there c.args.whereabouts.now c.find.new.self c.find.ensures.kept c.args.oid ∙ c.in_ok-from.ensures.found;
  few = may_move c.args.whereabouts.now c.find.new.self c.find.ensures.kept c.args.oid c.requires.few;
}

pub returns : goal.returns
returns c =
    goes_from c.note_move.result c.args.whereabouts.now c.find.new.self c.note_move.new.self c.args.oid c.in_ok-from.from c.args.to
    c.find.ensures.kept c.in_ok-from.ensures.found c.note_move.ensures.ok
