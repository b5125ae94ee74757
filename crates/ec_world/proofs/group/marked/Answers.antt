use Rattle.std.proofs.Common.{List, ◌∙◌, ap, ◌≡◌, ℕ, ◌+◌, ◌++◌, ◌∷◌, [], drop, Some, true, false}
use Rattle.std.specs.Prelude.{slice_get}
use Rattle.ec_world.specs.Group.{marked_from}
use Rattle.ec_world.proofs.Searching.{marked_next, unmarked_next}
use Rattle.ec_world.proofs.group.marked.Goals as goal
use Rattle.ec_world.proofs.group.marked.Goals.{then-at+in_ok-number_of+in_ok-push, else-at}

pub loop-i-preserved : goal.loop-i-preserved
loop-i-preserved c = elim c.if-at.branch [
  | then-at+in_ok-number_of+in_ok-push w ↦
      let at : slice_get c.args.marks.now c.loop-i.i ≡ Some true = cc (c.at.ensures, w.if-at.true) in
      let items : c.if-at.oids.items ≡ c.loop-i.oids.items ++ (c.loop-i.i + 1) ∷ [] =
      cc (w.oids-is, w.in_ok-push.ensures.items, w.in_ok-number_of.ensures) in
      marked_next c.loop-i.oids.items c.if-at.oids.items c.args.marks.now c.loop-i.i at items ∙ c.loop-i.invariant
  | else-at w ↦
      let at : slice_get c.args.marks.now c.loop-i.i ≡ Some false = cc (c.at.ensures, w.if-at.false) in
      let items : c.if-at.oids.items ≡ c.loop-i.oids.items = cc (w.oids-is) in
      ap (λ (xs : List ℕ). xs ++ marked_from (c.loop-i.i + 1 + 1) (drop (c.loop-i.i + 1) c.args.marks.now)) items
      ∙ unmarked_next c.loop-i.oids.items c.args.marks.now c.loop-i.i at
      ∙ c.loop-i.invariant
]
