-- A group goes, or the node is full.
use Rattle.std.proofs.Common.{◌≡◌, ◌∙◌, ℕ, List, Option, false, ap, subst, sym, true}
use Rattle.std.specs.Prelude.{is_some, not}
use Rattle.ec_cluster.proofs.Going.{few_elsewhere, none_moved}
use Rattle.ec_cluster.specs.Cluster.{CodeWorld}
use Rattle.ec_cluster.specs.Whereabouts.{FewMoves, MovedOnce, Traces}
use Rattle.ec_code.specs.Typing.{Declared}
use Rattle.ec_gathering.proofs.Gone.{brings_these, classed_these, fixed_still, fixed_there, gone_once, has_gone, lacking_these, loosened}
use Rattle.ec_gathering.proofs.Gone.{target_placed, to_low}
use Rattle.ec_gathering.proofs.Told.{if_none, if_some, none_told, some_told}
use Rattle.ec_gathering.proofs.gathering.gather.Goals as goal
use Rattle.ec_gathering.proofs.gathering.gather.Goals.{else-is_none, then-is_none+in_ok-bring}
use Rattle.ec_gathering.specs.Gathers.{Gathers, LacksFor, MayGather}
use Rattle.ec_gathering.specs.Shipping.{parcels_of}
use Rattle.ec_gathering.specs.declared.shipping.Shipment.{Shipment}
use Rattle.ec_parcels.specs.Owners.{all_blocks, all_values}
use Rattle.ec_parcels.specs.Classes.{ClassTable}
use Rattle.ec_objects.specs.Lacks.{LacksRoom}
use Rattle.ec_world.specs.declared.room.Lack.{Lack}
use Rattle.ec_cluster.specs.declared.system.System.{System}

pub node_of-to-requires : goal.node_of-to-requires
node_of-to-requires c =
    let h = c.requires.may in
    target_placed h.declared c.args.system.now h.world c.args.numbers.now c.args.members.now c.args.target c.args.fixes h.may

pub lack_of-requires-clause-there : goal.lack_of-requires-clause-there
lack_of-requires-clause-there c =
    let h = c.requires.may in
    let ships = c.in_ok-shipments.ensures h.declared h.world c.args.target c.args.fixes h.may in
    to_low h.declared c.args.system.now h.world c.args.numbers.now c.args.members.now c.args.target c.args.fixes h.may c.node_of-to.result
    c.node_of-to.ensures c.made-made.ensures.table c.in_ok-shipments.shipments.items ships

pub lack_of-requires-clause-classed : goal.lack_of-requires-clause-classed
lack_of-requires-clause-classed c =
    let h = c.requires.may in
    let ships = c.in_ok-shipments.ensures h.declared h.world c.args.target c.args.fixes h.may in
    classed_these h.declared c.args.system.now h.world c.args.numbers.now c.args.members.now c.args.target c.args.fixes h.may
    c.node_of-to.result c.node_of-to.ensures c.made-made.ensures.table c.in_ok-shipments.shipments.items ships
    c.as_slice-shipments.result.now c.as_slice-shipments.ensures.value

pub flag-requires : goal.flag-requires
flag-requires c =
    let h = c.requires.may in
    fixed_there h.declared c.args.system.now h.world c.args.numbers.now c.args.members.now c.args.target c.args.fixes h.may

pub bring-requires-clause-few : goal.bring-requires-clause-few
bring-requires-clause-few c =
    few_elsewhere c.node_of-to.result c.flag.new.cluster.whereabouts
    (subst (λ (d : Traces). FewMoves d) (sym c.flag.ensures.whereabouts) c.requires.few)

pub bring-requires-clause-brings : goal.bring-requires-clause-brings
bring-requires-clause-brings c =
    let h = c.requires.may in
    let s : System = c.args.system.now in
    let table : ClassTable = c.args.numbers.now in
    let members : List ℕ = c.args.members.now in
    let fixes : Option ℕ = c.args.fixes in
    let bs : List Shipment = c.in_ok-shipments.shipments.items in
    let ships = c.in_ok-shipments.ensures h.declared h.world c.args.target fixes h.may in
    let none : is_some c.in_ok-lack.lack ≡ false = c.is_none.ensures ∙ ap not c.if-is_none.true in
    record {
      declared = h.declared;
      world = loosened h.declared s h.world table members c.args.target fixes h.may;
      members = members;
      brings =
          brings_these h.declared s h.world table members c.args.target fixes h.may c.node_of-to.result c.node_of-to.ensures
          c.made-made.ensures.table bs ships c.flag.new.cluster c.flag.ensures.changes c.flag.ensures.whereabouts
          (c.flag.ensures.shows h.world h.may.lets.runs.mirrors.shows) c.as_slice-shipments.result.now c.as_slice-shipments.ensures.value
          (λ store e. none_told c.in_ok-lack.lack none (c.in_ok-lack.ensures.none store e));
    }

pub flag-requires-then-is_none : goal.flag-requires-then-is_none
flag-requires-then-is_none c =
    let h = c.requires.may in
    let s : System = c.args.system.now in
    let table : ClassTable = c.args.numbers.now in
    let members : List ℕ = c.args.members.now in
    let fixes : Option ℕ = c.args.fixes in
    let bs : List Shipment = c.in_ok-shipments.shipments.items in
    let ships = c.in_ok-shipments.ensures h.declared h.world c.args.target fixes h.may in
    let none : is_some c.in_ok-lack.lack ≡ false = c.is_none.ensures ∙ ap not c.if-is_none.true in
    let shows = c.flag.ensures.shows h.world h.may.lets.runs.mirrors.shows in
    let brings =
    brings_these h.declared s h.world table members c.args.target fixes h.may c.node_of-to.result c.node_of-to.ensures
    c.made-made.ensures.table bs ships c.flag.new.cluster c.flag.ensures.changes c.flag.ensures.whereabouts shows
    c.as_slice-shipments.result.now c.as_slice-shipments.ensures.value
    (λ store e. none_told c.in_ok-lack.lack none (c.in_ok-lack.ensures.none store e)) in
    fixed_still h.declared s h.world table members c.args.target fixes h.may c.node_of-to.result c.node_of-to.ensures
    c.made-made.ensures.table bs ships c.flag.new.cluster c.flag.ensures.changes c.flag.ensures.whereabouts shows c.bring.new.cluster
    (c.in_ok-bring.ensures.brought h.declared (loosened h.declared s h.world table members c.args.target fixes h.may) members brings)

pub returns-clause-done : goal.returns-clause-done
returns-clause-done c = if_none c.in_ok-lack.lack (λ none d w may.
    let s : System = c.args.system.now in
    let table : ClassTable = c.args.numbers.now in
    let members : List ℕ = c.args.members.now in
    let fixes : Option ℕ = c.args.fixes in
    let bs : List Shipment = c.in_ok-shipments.shipments.items in
    let ships = c.in_ok-shipments.ensures d w c.args.target fixes may in
    elim c.if-is_none.branch [
      | then-is_none+in_ok-bring v ↦
          let shows = v.flag.ensures.shows w may.lets.runs.mirrors.shows in
          let brings =
          brings_these d s w table members c.args.target fixes may c.node_of-to.result c.node_of-to.ensures c.made-made.ensures.table bs
          ships v.flag.new.cluster v.flag.ensures.changes v.flag.ensures.whereabouts shows c.as_slice-shipments.result.now
          c.as_slice-shipments.ensures.value
          (λ store e. none_told c.in_ok-lack.lack none (c.in_ok-lack.ensures.none store e)) in
          let loose : CodeWorld = loosened d s w table members c.args.target fixes may in
          let brought = v.in_ok-bring.ensures.brought d loose members brings in
          subst (λ (t : System). Gathers s t w members c.args.target fixes) (sym v.system-is)
          (has_gone d s w table members c.args.target fixes may c.node_of-to.result c.node_of-to.ensures c.made-made.ensures.table bs ships
          v.flag.new.cluster v.flag.ensures.changes v.flag.ensures.whereabouts shows v.bring.new.cluster brought
          v.flag-then-is_none.new.cluster v.flag-then-is_none.ensures.changes v.flag-then-is_none.ensures.whereabouts
          (v.flag-then-is_none.ensures.shows loose brought.came.shows))
      | else-is_none v ↦ absurd (let some : is_some c.in_ok-lack.lack ≡ true = c.is_none.ensures ∙ ap not v.if-is_none.false in cc)
    ])

pub returns-clause-full : goal.returns-clause-full
returns-clause-full c = if_some (λ (lack : Lack). (c.if-is_none.system ≡ c.args.system.now) × ((d : Declared) (w : CodeWorld) →
    MayGather d c.args.system.now w c.args.numbers.now c.args.members.now c.args.target c.args.fixes →
    LacksFor c.args.system.now.cluster w c.args.members.now c.args.target c.args.fixes lack)) c.in_ok-lack.lack (λ lack is.
    elim c.if-is_none.branch [
      | then-is_none+in_ok-bring v ↦
          absurd (let none : is_some c.in_ok-lack.lack ≡ false = c.is_none.ensures ∙ ap not v.if-is_none.true in
          let some : is_some c.in_ok-lack.lack ≡ true = ap is_some is in cc)
      | else-is_none v ↦ (
        v.system-is,
        λ d w may.
            let ships = c.in_ok-shipments.ensures d w c.args.target c.args.fixes may in
            lacking_these d c.args.system.now w c.args.numbers.now c.args.members.now c.args.target c.args.fixes may c.node_of-to.result
            c.node_of-to.ensures c.made-made.ensures.table c.in_ok-shipments.shipments.items ships lack c.as_slice-shipments.result.now
            c.as_slice-shipments.ensures.value
            (λ store e. some_told
            (λ (told : Lack). LacksRoom store c.node_of-to.result
            (all_blocks c.args.numbers.now (parcels_of c.as_slice-shipments.result.now))
            (all_values (parcels_of c.as_slice-shipments.result.now)) told)
            c.in_ok-lack.lack lack is (c.in_ok-lack.ensures.some store e)),
      )
    ])

pub returns-clause-moves : goal.returns-clause-moves
returns-clause-moves c =
    let s : System = c.args.system.now in
    elim c.if-is_none.branch [
      | then-is_none+in_ok-bring v ↦
          subst (λ (t : System). MovedOnce s.cluster.whereabouts t.cluster.whereabouts) (sym v.system-is)
          (gone_once c.node_of-to.result s.cluster.whereabouts v.flag.new.cluster.whereabouts v.bring.new.cluster.whereabouts
          v.flag-then-is_none.new.cluster.whereabouts v.flag.ensures.whereabouts v.in_ok-bring.ensures.went
          v.flag-then-is_none.ensures.whereabouts)
      | else-is_none v ↦
          subst (λ (t : System). MovedOnce s.cluster.whereabouts t.cluster.whereabouts) (sym v.system-is) (none_moved s.cluster.whereabouts)
    ]
