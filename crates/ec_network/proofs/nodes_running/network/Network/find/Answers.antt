-- A search on its system is one on the network.
use Rattle.std.proofs.Common.{◌≤◌, ap, sym, ◌∙◌, subst}
use Rattle.std.specs.Prelude.{IsSome}
use Rattle.ec_cluster.proofs.Places.{gives_located, located}
use Rattle.ec_network.proofs.Found.{left_still, net_still, same, with_known}
use Rattle.ec_network.proofs.Networks.{has_left}
use Rattle.ec_network.proofs.nodes_running.network.Network.find.Goals as goal
use Rattle.ec_network.specs.Nets.{Net, numbers_of}
use Rattle.ec_network.specs.Networks.{IsLoaded}
use Rattle.ec_network.specs.Places.{IsFoundFrom, moves_on, place_on}

pub find-requires : goal.find-requires
find-requires c = record {
  made = subst (λ (n : Net). IsSome (place_on n c.args.oid)) (sym c.self.view_is ∙ sym c.take.ensures.value ∙ c.in-Some.is) c.requires.made;
}

pub invariant_of-self-in-Ok : goal.invariant_of-self-in-Ok
invariant_of-self-in-Ok c =
    let s = c.in-Some.loaded.system in
    let loaded = subst IsLoaded (sym c.take.ensures.value ∙ c.in-Some.is) c.self.invariant in
    has_left s (with_known s c.find.new.self) c.in-Some.loaded.numbers (left_still s c.find.new.self c.find.ensures.kept loaded.0) loaded.1

pub returns-in-Ok-clause-found : goal.returns-in-Ok-clause-found
returns-in-Ok-clause-found c =
    ap (λ (n : Net). place_on n c.args.oid) (sym c.self.view_is ∙ sym c.take.ensures.value ∙ c.in-Some.is) ∙ c.in-Ok.ensures.found

pub returns-in-Ok-clause-hops : goal.returns-in-Ok-clause-hops
returns-in-Ok-clause-hops c =
    subst (λ (n : Net). IsFoundFrom n c.args.oid c.args.from c.in-Ok.found.0 c.in-Ok.found.1) (sym (sym c.self.view_is ∙ sym c.take.ensures.value ∙ c.in-Some.is))
    c.in-Ok.ensures.hops

pub returns-in-Ok-clause-few_hops : goal.returns-in-Ok-clause-few_hops
returns-in-Ok-clause-few_hops c =
    let d = c.in-Some.loaded.system.cluster.whereabouts in
    subst (λ (n : Net). c.in-Ok.found.1 ≤ moves_on n c.args.oid) (sym (sym c.self.view_is ∙ sym c.take.ensures.value ∙ c.in-Some.is))
    (c.in-Ok.ensures.few_hops (located d) (gives_located d))

pub returns-in-Ok-clause-again : goal.returns-in-Ok-clause-again
returns-in-Ok-clause-again c = c.in-Ok.ensures.again

pub returns-in-Ok-clause-shows : goal.returns-in-Ok-clause-shows
returns-in-Ok-clause-shows c =
    net_still c.args.self.now c.in-Some.loaded c.find.new.self (sym c.self.view_is ∙ sym c.take.ensures.value ∙ c.in-Some.is) c.find.ensures.kept

pub returns-in-Ok-clause-places : goal.returns-in-Ok-clause-places
returns-in-Ok-clause-places c = λ x.
    let kept = same c.in-Some.loaded.system c.find.new.self c.find.ensures.kept in
    kept.places x ∙ sym (ap (λ (n : Net). place_on n x) (sym c.self.view_is ∙ sym c.take.ensures.value ∙ c.in-Some.is))

pub returns-in-Ok-clause-moves : goal.returns-in-Ok-clause-moves
returns-in-Ok-clause-moves c = λ x.
    let kept = same c.in-Some.loaded.system c.find.new.self c.find.ensures.kept in
    kept.moves x ∙ sym (ap (λ (n : Net). moves_on n x) (sym c.self.view_is ∙ sym c.take.ensures.value ∙ c.in-Some.is))

pub returns-in-Ok-clause-numbers : goal.returns-in-Ok-clause-numbers
returns-in-Ok-clause-numbers c = λ some. sym (ap numbers_of (sym c.self.view_is ∙ sym c.take.ensures.value ∙ c.in-Some.is))
