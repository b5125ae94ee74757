-- The next text comes to its number.
use Rattle.std.proofs.Common.{Some, sym, ap, ◌∙◌}
use Rattle.ec_acts.proofs.Interning.{has_room, one_interned}
use Rattle.ec_acts.proofs.fresh.intern_all.Goals as goal
use Rattle.ec_stores.specs.Node.{store_of}

pub intern-requires : goal.intern-requires
intern-requires c = record {
  room = λ new. has_room c.args.texts.now c.loop-i.i (store_of c.args.node.now) (store_of c.loop-i.node) c.loop-i.invariant
      c.in_ok-text.text (c.at.ensures ∙ ap Some (sym c.in_ok-text.ensures)) c.requires.room;
}

pub loop-i-preserved : goal.loop-i-preserved
loop-i-preserved c =
    one_interned c.args.texts.now c.loop-i.i (store_of c.args.node.now) (store_of c.loop-i.node) c.loop-i.invariant c.in_ok-text.text
    (c.at.ensures ∙ ap Some (sym c.in_ok-text.ensures)) c.requires.once (store_of c.intern.new.self) c.in_ok-_place._place
    c.in_ok-_place.ensures
