use Rattle.std.proofs.Common.{List, ℕ, sym, subst}
use Rattle.ec_stores.specs.Changes.{Refers}
use Rattle.ec_stores.specs.Inside.{data_of}
use Rattle.ec_stores.specs.Node.{Laid, NodeData, store_of}
use Rattle.ec_stores.proofs.Naming.{found_refers, laid_local, made_refers}
use Rattle.ec_stores.proofs.node.NodeStore.local_of.Goals as goal

pub invariant_of-self : goal.invariant_of-self
invariant_of-self c =
    let node = data_of c.self.inside in
    subst (λ (ls : List ℕ). Laid (record node { locals = ls })) (sym c.in_err-word-in-None.ensures.err) c.self.invariant

pub invariant_of-self-in-None : goal.invariant_of-self-in-None
invariant_of-self-in-None c = laid_local (data_of c.self.inside) c.args.oid c.add.new.self c.self.invariant c.in-None.ensures.none
    c.in_ok-word-in-None.ensures.added

pub returns-in-Some : goal.returns-in-Some
returns-in-Some c =
    let node = data_of c.self.inside in
    subst (λ (n : NodeData). Refers (store_of n) (store_of n) c.args.oid c.in-Some.word) c.self.view_is
    (found_refers node c.args.oid c.in-Some.word c.self.invariant c.in-Some.ensures.some)

pub returns-in_ok-word-in-None : goal.returns-in_ok-word-in-None
returns-in_ok-word-in-None c =
    let node = data_of c.self.inside in
    subst (λ (n : NodeData). Refers (store_of n) (store_of (record node { locals = c.add.new.self })) c.args.oid
    c.in_ok-word-in-None.word)
    c.self.view_is
    (made_refers node c.args.oid c.add.new.self c.self.invariant c.in-None.ensures.none c.in_ok-word-in-None.ensures.added
    c.in_ok-word-in-None.word c.in_ok-word-in-None.ensures.number)
