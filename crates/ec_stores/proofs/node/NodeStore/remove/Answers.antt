use Rattle.std.proofs.Common.{◌<◌, List, ℕ, length, refl, sym, subst}
use Rattle.std.specs.List.{AllByRecursion}
use Rattle.ec_world.specs.declared.key.Key.TheVariants.{Object as OfObject}
use Rattle.ec_world.specs.Group.{Has}
use Rattle.ec_stores.specs.Changes.{Closed}
use Rattle.ec_stores.specs.Inside.{data_of}
use Rattle.ec_stores.specs.Lists.{GivesList, IsOnce}
use Rattle.ec_stores.specs.Memory.{held}
use Rattle.ec_stores.specs.Node.{NodeData, object_in, owned_object, store_of}
use Rattle.ec_stores.proofs.Comings.{found_is, laid_removed, removed}
use Rattle.ec_stores.proofs.Placing.{its_in, its_once, its_taken, with_owners}
use Rattle.ec_stores.proofs.node.NodeStore.remove.Goals as goal

pub give_list-requires-clause-blocks_in : goal.give_list-requires-clause-blocks_in
give_list-requires-clause-blocks_in c =
    let node = data_of c.self.inside in
    let row = c.in-Some.row in
    let found = found_is (owned_object c.args.oid) (object_in c.self.inside.objects.entries c.args.oid) row c.in-Some.ensures.value in
    subst (λ (l : List ℕ). AllByRecursion (λ b. b < length (held node.memory).links) l) (sym c.as_slice.ensures)
    (its_in node c.self.invariant (OfObject c.args.oid) (owned_object c.args.oid row) found)

pub give_list-requires-clause-once : goal.give_list-requires-clause-once
give_list-requires-clause-once c =
    let node = data_of c.self.inside in
    let row = c.in-Some.row in
    let found = found_is (owned_object c.args.oid) (object_in c.self.inside.objects.entries c.args.oid) row c.in-Some.ensures.value in
    subst (λ (l : List ℕ). IsOnce l) (sym c.as_slice.ensures)
    (its_once node c.self.invariant (OfObject c.args.oid) (owned_object c.args.oid row) found)

pub give_list-requires-clause-taken : goal.give_list-requires-clause-taken
give_list-requires-clause-taken c =
    let node = data_of c.self.inside in
    let row = c.in-Some.row in
    let found = found_is (owned_object c.args.oid) (object_in c.self.inside.objects.entries c.args.oid) row c.in-Some.ensures.value in
    subst (λ (l : List ℕ). (b : ℕ) → Has l b → Has (held node.memory).free b → ⊥) (sym c.as_slice.ensures)
    (its_taken node c.self.invariant (OfObject c.args.oid) (owned_object c.args.oid row) found)

pub invariant_of-self : goal.invariant_of-self
invariant_of-self c =
    let node = data_of c.self.inside in
    laid_removed node c.give_list.new.memory c.self.inside.objects c.remove.new.self c.args.oid c.in-Some.row c.self.invariant refl
    c.in-Some.ensures.value c.remove.ensures.updates
    (subst (λ (l : List ℕ). GivesList node.memory c.give_list.new.memory l) c.as_slice.ensures c.give_list.ensures)

pub returns-clause-closed : goal.returns-clause-closed
returns-clause-closed c =
    let node = data_of c.self.inside in
    subst (λ (n : NodeData). Closed (store_of n)
    (store_of (with_owners node c.give_list.new.memory c.remove.new.self.entries node.frames)) (OfObject c.args.oid)) c.self.view_is
    (removed node c.give_list.new.memory c.self.inside.objects c.remove.new.self c.args.oid c.in-Some.row c.self.invariant refl
    c.in-Some.ensures.value c.remove.ensures.updates
    (subst (λ (l : List ℕ). GivesList node.memory c.give_list.new.memory l) c.as_slice.ensures c.give_list.ensures))
