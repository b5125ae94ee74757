-- A number of no object, one that is there already, and a new one.
use Rattle.std.proofs.Common.{◌≡◌, Bool, true, false, [], ◌∷◌, ◌++◌, refl}
use Rattle.std.specs.Prelude.{not, Ok, Err, OnOk, Result}
use Rattle.std.specs.Bool.{OnFalse}
use Rattle.ec_cluster.specs.Whereabouts.{made_count}
use Rattle.ec_cluster.proofs.Marking.{as_before, no_object, one_more}
use Rattle.ec_cluster.proofs.seen.searching.Search.find.Goals as goal

on_ok : {X E : Type 0} (P Q : Type 0) (r : Result X E) → (P → Q) → OnOk r P → OnOk r Q
on_ok P Q (Ok x) f h = f h
on_ok P Q (Err e) f h = tt

on_false : (P : Type 0) (b : Bool) → b ≡ false → OnFalse b P → P
on_false P false e h = h
on_false P true e h = absurd cc

was_there : (b d : Bool) → b ≡ not d → b ≡ false → d ≡ true
was_there b true e f = refl
was_there b false e f = cc

was_new : (b d : Bool) → b ≡ not d → b ≡ true → d ≡ false
was_new b true e f = cc
was_new b false e f = refl

pub returns-then-not-has : goal.returns-then-not-has
returns-then-not-has c =
    no_object (made_count c.args.seen.now.whereabouts) c.args.oid c.args.self.now
    (λ p l. let t = c.has.ensures.1 (p, l) in let f = c.if-not-has.true in absurd cc)

pub returns-then-not-branch : goal.returns-then-not-branch
returns-then-not-branch c =
    let there = c.has.ensures.0 c.if-not-has.false in
    as_before (made_count c.args.seen.now.whereabouts) c.args.oid c.args.self.now.members c.insert.new.self c.args.self.now.todo
    c.args.self.now.todo (on_false _ c.in_ok-insert.field-0 c.if-not-branch.true c.in_ok-insert.ensures.unchanged) refl
    (was_there c.in_ok-insert.field-0 _ c.in_ok-insert.ensures.added c.if-not-branch.true) there.0 there.1

pub returns : goal.returns
returns c =
    let there = c.has.ensures.0 c.if-not-has.false in
    on_ok _ _ c.push.result
    (λ (more : c.push.new.self ≡ c.args.self.now.todo ++ c.args.oid ∷ []).
    one_more (made_count c.args.seen.now.whereabouts) c.args.oid c.args.self.now.members c.insert.new.self there.0 there.1
    c.in_ok-insert.ensures.updates c.args.self.now.todo c.push.new.self
    (was_new c.in_ok-insert.field-0 _ c.in_ok-insert.ensures.added c.if-not-branch.false) more)
    c.push.ensures.ok
