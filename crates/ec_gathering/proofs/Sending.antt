-- The parcels of a group from one node more.
use Rattle.std.proofs.Common.{◌≡◌, ◌≢◌, ◌<◌, ◌+◌, ◌∙◌, ◌∷◌, ◌++◌, ℕ, List, [], length, Option, Some, ⊎_elim, ap, arith, refl, subst, sym}
use Rattle.std.proofs.lemmas.Option.{same_Some}
use Rattle.std.specs.Prelude.{IsSome}
use Rattle.ec_parcels.proofs.Numbered.{number_some}
use Rattle.ec_cluster.specs.Cluster.{CodeWorld, place}
use Rattle.ec_cluster.specs.declared.cluster.Cluster.{Cluster}
use Rattle.ec_code.specs.Typing.{Declared}
use Rattle.ec_gathering.proofs.Values.{few_go}
use Rattle.ec_gathering.specs.Gathers.{MayGather}
use Rattle.ec_gathering.specs.Shipping.{AreShipped, IsShipped, froms}
use Rattle.ec_gathering.specs.declared.shipping.Shipment.{Shipment}
use Rattle.ec_parcels.specs.Classes.{ClassTable, number_of}
use Rattle.ec_world.proofs.Keys.{same_or_not}
use Rattle.ec_world.specs.Held.{Distinct}
use Rattle.ec_packing.specs.Packing.{CanGo}
use Rattle.ec_parcels.proofs.Rising.{once_both, once_cons, once_none}
use Rattle.ec_cluster.specs.declared.system.System.{System}
use Rattle.ec_world.proofs.Members.{has_back, has_either, has_first, has_front, has_none, has_one}
use Rattle.ec_world.specs.Group.{Has}
use Rattle.ec_world.specs.Objects.{object_at}
use Rattle.ec_world.specs.declared.class.ClassNo.TheVariants.{Node}
use Rattle.ec_world.specs.declared.object.ObjectRec.{ObjectRec}

-- ---- what goes from a node can be packed

module _ (d : Declared) (s : System) (w : CodeWorld) (table : ClassTable) (members : List ℕ) (target : ℕ) (fixes : Option ℕ)
    (may : MayGather d s w table members target fixes) where
  -- the class of a member has a number
  pub member_numbered : (oid : ℕ) (o : ObjectRec) → Has members oid → object_at w.common.objects oid ≡ Some o →
      IsSome (number_of table o.class)
  member_numbered oid o h is =
      let leave = may.each oid h in
      let same : leave.object ≡ o = same_Some leave.object o (sym leave.is ∙ is) in
      let other : o.class ≢ Node = subst (λ (x : ObjectRec). x.class ≢ Node) same leave.no_node in
      subst (λ (t : ClassTable). IsSome (number_of t o.class)) (sym may.lets.table_is.is)
      (number_some d s.cluster.parts may.lets.runs.steady.fine w may.lets.runs.sound may.lets.between.vectors oid o is other
      may.lets.table_is.written)

  pub can_pack : (from : ℕ) → from < length s.cluster.nodes → CanGo d s w table members from
  can_pack from node = record {
    runs = may.lets.runs;
    bare = may.lets.bare;
    typed = may.lets.typed;
    rest = may.lets.between.rest;
    rising = may.rising;
    node = node;
    numbered = λ oid o goes. member_numbered oid o goes.member goes.is;
    monitors = λ oid o m goes has. may.lets.between.monitors oid o m goes.is has;
    few = λ p depth a e goes rests. few_go s.cluster.parts may.lets.few a e rests;
  }

-- ---- one node more

froms_more : (bs : List Shipment) (b : Shipment) → froms (bs ++ b ∷ []) ≡ froms bs ++ b.from ∷ []
froms_more [] b = refl
froms_more (y ∷ ys) b = ap (λ ks. y.from ∷ ks) (froms_more ys b)

module _ (table : ClassTable) (c : Cluster) (w : CodeWorld) (members : List ℕ) (to : ℕ) where
  -- before any node
  pub none_shipped : AreShipped table c w members to 0 []
  none_shipped = record {
    each = λ b h. absurd (has_none b h);
    once = once_none;
    apart = λ k h. absurd (has_none k h);
    all = λ oid k member at low ne. absurd (omega arith);
  }

  -- a node that has no member, or the one to which the group goes
  pub one_without : (k : ℕ) (bs : List Shipment) → ((oid : ℕ) → Has members oid → place c oid ≡ Some k → k ≡ to) →
      AreShipped table c w members to k bs → AreShipped table c w members to (k + 1) bs
  one_without k bs none ships = record {
    each = ships.each;
    once = ships.once;
    apart = λ j h. let a = ships.apart j h in let l = a.0 in (omega arith, a.1);
    all = λ oid j member at low ne. ⊎_elim
        (λ (same : j ≡ k). absurd (ne (same ∙ none oid member (at ∙ ap Some same))))
        (λ (other : j ≢ k). ships.all oid j member at (omega arith) ne)
        (same_or_not j k);
  }

  -- another node
  pub one_with : (k : ℕ) (bs : List Shipment) (b : Shipment) → k ≢ to → b.from ≡ k → IsShipped table c w members b →
      AreShipped table c w members to k bs → AreShipped table c w members to (k + 1) (bs ++ b ∷ [])
  one_with k bs b ne from shipped ships = record {
    each = λ y h. ⊎_elim
        (λ (old : Has bs y). ships.each y old)
        (λ (last : Has (b ∷ []) y). subst (λ (z : Shipment). IsShipped table c w members z) (sym (has_one b y last)) shipped)
        (has_either y bs (b ∷ []) h);
    once = subst (λ (ks : List ℕ). Distinct ks) (sym (froms_more bs b))
        (once_both (froms bs) (b.from ∷ []) ships.once (once_cons b.from [] (has_none b.from) once_none)
        (λ j h last. let a = ships.apart j h in let l = a.0 in let is : j ≡ b.from = has_one b.from j last in absurd (omega arith)));
    apart = λ j h. ⊎_elim
        (λ (old : Has (froms bs) j). let a = ships.apart j old in let l = a.0 in (omega arith, a.1))
        (λ (last : Has (b.from ∷ []) j).
        let is : j ≡ k = has_one b.from j last ∙ from in (omega arith, λ same. ne (sym is ∙ same)))
        (has_either j (froms bs) (b.from ∷ []) (subst (λ ks. Has ks j) (froms_more bs b) h));
    all = λ oid j member at low other. subst (λ ks. Has ks j) (sym (froms_more bs b)) (⊎_elim
        (λ (same : j ≡ k). has_back j (froms bs) (b.from ∷ []) (subst (Has (b.from ∷ [])) (from ∙ sym same) (has_first b.from [])))
        (λ (earlier : j ≢ k). has_front j (froms bs) (b.from ∷ []) (ships.all oid j member at (omega arith) other))
        (same_or_not j k));
  }
