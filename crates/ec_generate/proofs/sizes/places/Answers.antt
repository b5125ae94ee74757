use Rattle.std.proofs.Common.{◌≡◌, ◌+◌, ◌∙◌, List, ℕ, ap, arith, drop, length, replicate, subst, suc, sym}
use Rattle.std.specs.Prelude.{slice_get, slice_set}
use Rattle.std.proofs.lemmas.List.{length-replicate}
use Rattle.ec_base.proofs.Lists.{drop_at, get_within, length_set}
use Rattle.ec_generate.specs.Puts.{pick}
use Rattle.ec_generate.specs.Sites.{home_there, ops_there}
use Rattle.ec_generate.proofs.Loops.{filled, last_each, last_long, none_left, size_next}
use Rattle.ec_generate.proofs.Orders.{as_many, in_order}
use Rattle.ec_machine_code.proofs.Direct.{ops_long}
use Rattle.ec_machine_code.specs.Layout.{IsOrder, size_of}
use Rattle.ec_generate.proofs.sizes.places.Goals as goal

pub overflow_add-count : goal.overflow_add-count
overflow_add-count g c = omega (arith, c.len-count.ensures, ops_long c.args.site.now.code.now, c.requires.few)

pub index_mut-requires : goal.index_mut-requires
index_mut-requires g c =
    let order = c.args.site.now.order.now in
    let lt = c.requires.ordered.within c.at-q.result.now (in_order order c.loop-spot.spot c.at-q.result.now c.at-q.ensures) in
    omega (arith, lt, c.loop-spot.places.ok.0, c.loop-spot.invariant.long, c.len-count.ensures)

pub overflow_add-at : goal.overflow_add-at
overflow_add-at g c =
    let few = as_many (length c.args.site.now.code.now) c.args.site.now.order.now c.requires.ordered in
    let lt = get_within c.args.site.now.order.now c.loop-spot.spot c.at-q.result.now c.at-q.ensures in
    omega (arith, few, lt, ops_long c.args.site.now.code.now, c.requires.few, c.loop-spot.invariant.few, c.spot_size-at.ensures.few)

pub loop-spot-preserved : goal.loop-spot-preserved
loop-spot-preserved g c =
    let V = pick g.K.Kind.vocabularies c.args.span in
    let home = home_there c.args.site.now in
    let ops = ops_there c.args.site.now in
    let order = c.args.site.now.order.now in
    let items = c.loop-spot.places.items in
    let at = c.loop-spot.at in
    let spot = c.loop-spot.spot in
    let q = c.at-q.result.now in
    record {
      table = ap (λ n. filled V home ops (slice_set items q at) (at + n) (drop (spot + 1) order)) c.spot_size-at.ensures.is
          ∙ sym (ap (filled V home ops items at) (drop_at order spot q c.at-q.ensures)) ∙ c.loop-spot.invariant.table;
      size = omega (
        arith,
        size_next V home ops order 0 spot q c.at-q.ensures,
        c.loop-spot.invariant.size,
        c.spot_size-at.ensures.is,
      );
      few = omega (arith, c.loop-spot.invariant.few, c.spot_size-at.ensures.few);
      long = length_set items q at ∙ c.loop-spot.invariant.long;
    }

pub returns : goal.returns
returns g c =
    let V = pick g.K.Kind.vocabularies c.args.span in
    let home = home_there c.args.site.now in
    let code = c.args.site.now.code.now in
    let ops = ops_there c.args.site.now in
    let order = c.args.site.now.order.now in
    let items = c.loop-spot.places.items in
    let at = c.loop-spot.at in
    let count = c.len-count.result in
    let first : List ℕ = replicate (count + 1) 0 in
    let ordered : IsOrder (length ops) order = subst (λ k. IsOrder k order) (sym (ops_long code)) c.requires.ordered in
    let none = none_left V home ops order 0 c.loop-spot.spot (omega arith) in
    let nothing = ap (size_of V home ops) none in
    let table : items ≡ filled V home ops first 0 order = sym (ap (filled V home ops items at) none) ∙ c.loop-spot.invariant.table in
    let size : at ≡ size_of V home ops order = omega (arith, nothing, c.loop-spot.invariant.size) in
    let same : count ≡ length ops = omega (arith, c.len-count.ensures, ops_long code) in
    let zeros : length first ≡ count + 1 = length-replicate (count + 1) 0 in
    let long : length first ≡ suc (length ops) = omega (arith, zeros, same) in
    let all = filled V home ops first 0 order in
    let last : c.from_vec.result ≡ slice_set all (length ops) (size_of V home ops order) =
    c.from_vec.ensures ∙ ap (λ t. slice_set t count at) table ∙ ap (λ n. slice_set all n at) same ∙ ap (slice_set all (length ops)) size in
    record {
      count = ap length last ∙ last_long V home ops order ordered first long;
      each = λ q h. ap (λ t. slice_get t q) last ∙ last_each V home ops order ordered first long q h;
    }
