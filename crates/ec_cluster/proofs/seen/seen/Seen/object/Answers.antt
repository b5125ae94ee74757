-- An object that was noted is at its place.
use Rattle.std.proofs.Common.{◌≡◌, Option, Some, None, refl, sym, subst}
use Rattle.std.specs.Prelude.{IfNone, IsSome}
use Rattle.ec_cluster.specs.declared.cluster.Cluster.{Cluster}
use Rattle.ec_cluster.proofs.FindingLemmas.{found, is_kept, node_within, none_decoded}
use Rattle.ec_cluster.proofs.seen.seen.Seen.object.Goals as goal
use Rattle.ec_cluster.specs.Decoded.{decoded}
use Rattle.ec_cluster.specs.Seeing.{IsSeenAt}
use Rattle.ec_stores.specs.Node.{store_of}
use Rattle.ec_world.specs.Objects.{object_at}

if_none : {X : Type 0} (P : Type 0) (r : Option X) → P → IfNone r P
if_none P None h = h
if_none P (Some x) h = tt

not_there : {X : Type 0} (r : Option X) → r ≡ None → IsSome r → ⊥
not_there None e h = cc
not_there (Some x) e h = cc

pub returns-in_err-place-clause-none : goal.returns-in_err-place-clause-none
returns-in_err-place-clause-none c =
    if_none _ c.from_residual.result
    (subst (λ (k : Cluster). object_at (decoded k) c.args.oid ≡ None) c.self.view_is
    (none_decoded c.self.inside.cluster.now c.args.oid
    (λ p l. not_there c.place.result c.in_err-place.was (c.place.ensures.made.1 (p, l)))))

pub at-node-requires : goal.at-node-requires
at-node-requires c =
    let made = c.in_ok-place.ensures.made.0 refl in
    node_within c.self.inside.cluster.now c.self.invariant c.args.oid made.0 made.1 c.in_ok-place.place (sym c.in_ok-place.ensures.at)

pub unreachable-requires : goal.unreachable-requires
unreachable-requires c =
    let made = c.in_ok-place.ensures.made.0 refl in
    is_kept c.self.inside.cluster.now c.self.invariant c.args.oid made.0 made.1 c.in_ok-place.place c.at-node.result.now
    (sym c.in_ok-place.ensures.at) c.at-node.ensures c.in-None.ensures.none

pub returns-clause-some : goal.returns-clause-some
returns-clause-some c =
    let made = c.in_ok-place.ensures.made.0 refl in
    subst (λ (k : Cluster). IsSeenAt k c.args.oid (store_of c.at-node.result.now) c.in-Some.object) c.self.view_is
    (found c.self.inside.cluster.now c.self.invariant c.args.oid made.0 made.1 c.in_ok-place.place c.at-node.result.now
    (sym c.in_ok-place.ensures.at) c.at-node.ensures c.in-Some.object c.in-Some.ensures.some)
