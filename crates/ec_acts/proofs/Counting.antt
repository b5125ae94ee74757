-- One more object is noted.
use Rattle.std.proofs.Common.{◌≡◌, ◌≢◌, ℕ, suc, List, Some, refl, sym, ◌∙◌, subst, arith}
use Rattle.ec_cluster.proofs.Going.{made_moves}
use Rattle.ec_cluster.proofs.Places.{gives_located, located}
use Rattle.ec_cluster.specs.Cluster.{place}
use Rattle.ec_cluster.specs.Makings.{Made}
use Rattle.ec_cluster.specs.Steps.{HasObject}
use Rattle.ec_cluster.specs.declared.cluster.Cluster.{Cluster}
use Rattle.ec_acts.specs.Doings.{OneMore}
use Rattle.ec_cluster.specs.Whereabouts.{made_count}
use Rattle.ec_cluster.specs.Located.{Located, with_at}
use Rattle.ec_world.specs.declared.object.ObjectRec.{ObjectRec}

with_here : {A : Type 0} (f : ℕ → A) (oid : ℕ) (a : A) → with_at f oid a oid ≡ a
with_here f oid a = grind arith

with_elsewhere : {A : Type 0} (f : ℕ → A) (oid other : ℕ) (a : A) → other ≢ oid → with_at f oid a other ≡ f other
with_elsewhere f oid other a ne = grind arith

module _ (c c' : Cluster) (maker oid : ℕ) (o : ObjectRec) (made : Made c c' maker oid o) where
  -- one object more was noted
  pub one_more : HasObject c maker → made_count c'.whereabouts ≡ suc (made_count c.whereabouts)
  one_more has = (made.noted (located c.whereabouts) has.node (gives_located c.whereabouts) has.at).made

  -- which is where its maker is
  pub new_place : (k : ℕ) → place c maker ≡ Some k → place c' oid ≡ Some k
  new_place k at = (made.noted (located c.whereabouts) k (gives_located c.whereabouts) at).places oid ∙ with_here (place c) oid (Some k)

  -- and each other object is where it was
  pub is_one_more : HasObject c maker → oid ≡ suc (made_count c.whereabouts) → OneMore c c' maker
  is_one_more has number =
      let gives = made.noted (located c.whereabouts) has.node (gives_located c.whereabouts) has.at in
      record {
        count = one_more has;
        new = subst (λ x. place c' x ≡ place c maker) number (new_place has.node has.at ∙ sym has.at);
        others = λ other ne. gives.places other ∙ with_elsewhere (place c) oid other (Some has.node) (λ same. ne (same ∙ number));
        moves = made_moves c.whereabouts c'.whereabouts oid has.node number (λ w gives'. made.noted w has.node gives' has.at);
      }
