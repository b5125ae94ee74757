use Rattle.std.proofs.Common.{◌≡◌, ◌∙◌, ◌+◌, ◌++◌, ℕ, ap, length, arith, refl}
use Rattle.ec_code.specs.declared.code.Operation.{Operation}
use Rattle.ec_generate.proofs.Fit.{row_at, tables_fit_within}
use Rattle.ec_machine_code.proofs.Direct.{ops_long}
use Rattle.ec_generate.proofs.Makeable.{makeable}
use Rattle.ec_generate.proofs.Placed.{IsPlaced, code_is, is_ordered, near, same_home, same_size, words_are}
use Rattle.ec_generate.proofs.Programs.{codes_more, longer, size_more, words_at, words_more}
use Rattle.ec_generate.proofs.Room.{chosen_sized, fits_room, is_at_most}
use Rattle.ec_generate.proofs.program.lay_out.Goals as goal
use Rattle.ec_machine_code.specs.Layout.{home_of, operation_codes, ops_of, order_of, program_words, size_of_all, words_in}
use Rattle.ec_base.proofs.Lists.{get_within}
use Rattle.ec_machine_code.specs.Limits.{IsSmallOperation}
use Rattle.ec_machine_code.specs.Frames.{slots}
use Rattle.ec_generate.proofs.Listing.{all_at}
use Rattle.ec_generate.specs.Tables.{IsTableOf, all_homes}
use Rattle.ec_world.proofs.Related.{all-length}

pub at-requires : goal.at-requires
at-requires g c =
    let same = all-length (IsTableOf c.requires.tables.registers slots) c.args.parts.now.operations c.args.table.now.operations c.requires.tables.are in
    let there = get_within c.args.parts.now.operations c.loop-n.n c.at-operation.result.now c.at-operation.ensures in
    omega (arith, same, there)

pub at-requires-in-loop-n : goal.at-requires-in-loop-n
at-requires-in-loop-n g c =
    let there = get_within c.args.parts.now.operations c.loop-n.n c.at-operation.result.now c.at-operation.ensures in
    omega (arith, there, c.requires.many)

pub span_of-span-requires-clause-ordered : goal.span_of-span-requires-clause-ordered
span_of-span-requires-clause-ordered g c =
    is_ordered c.args.orders.now c.loop-n.n c.at-operation.result.now c.site_of-site.result c.at-in-loop-n.result.now
    c.at-in-loop-n.ensures c.site_of-site.ensures.order c.site_of-site.ensures.code
    (c.requires.ordered c.loop-n.n c.at-operation.result.now c.at-operation.ensures)

pub put_operation-requires-clause-ordered : goal.put_operation-requires-clause-ordered
put_operation-requires-clause-ordered g c =
    is_ordered c.args.orders.now c.loop-n.n c.at-operation.result.now c.site_of-site.result c.at-in-loop-n.result.now
    c.at-in-loop-n.ensures c.site_of-site.ensures.order c.site_of-site.ensures.code
    (c.requires.ordered c.loop-n.n c.at-operation.result.now c.at-operation.ensures)

pub span_of-span-requires-clause-few : goal.span_of-span-requires-clause-few
span_of-span-requires-clause-few g c =
    let small = all_at IsSmallOperation c.args.parts.now.operations c.loop-n.n c.at-operation.result.now c.requires.limits.operations
    c.at-operation.ensures in
    let code : length c.site_of-site.result.code.now ≡ length c.at-operation.result.now.code = ap length c.site_of-site.ensures.code in
    omega (arith, small.steps, code, ops_long c.site_of-site.result.code.now)

pub put_operation-requires-clause-makeable : goal.put_operation-requires-clause-makeable
put_operation-requires-clause-makeable g c =
    let vs = g.K.Kind.vocabularies in
    let n = c.loop-n.n in
    let o = c.at-operation.result.now in
    let site = c.site_of-site.result in
    let is : IsPlaced vs (all_homes c.args.table.now.operations) c.args.orders.now n o site c.span_of-span.result = record {
      row = c.at.result.now.homes;
      has_row = row_at c.args.table.now.operations c.loop-n.n c.at.result.now c.at.ensures;
      homes_are = c.site_of-site.ensures.homes;
      named = c.site_of-site.ensures.named;
      code = c.site_of-site.ensures.code;
      order = c.at-in-loop-n.result.now;
      has_order = c.at-in-loop-n.ensures;
      order_is = c.site_of-site.ensures.order;
      span_is = c.span_of-span.ensures;
    } in
    makeable c.requires.fine.0 c.args.parts.now c.requires.fine.1 c.requires.limits g.K.Kind.homes (all_homes c.args.table.now.operations)
    n o c.at-operation.ensures
    (tables_fit_within g.K.Kind.homes c.args.parts.now c.args.table.now.operations c.requires.limits c.requires.tables n o
    c.at-operation.ensures) site (same_home vs (all_homes c.args.table.now.operations) c.args.orders.now n o site c.span_of-span.result is)
    c.site_of-site.ensures.code

pub put_operation-requires-clause-near : goal.put_operation-requires-clause-near
put_operation-requires-clause-near g c =
    let vs = g.K.Kind.vocabularies in
    let sized = g.met.K.Kind.sized in
    let homes = (all_homes c.args.table.now.operations) in
    let orders = c.args.orders.now in
    let n = c.loop-n.n in
    let o = c.at-operation.result.now in
    let site = c.site_of-site.result in
    let is : IsPlaced vs homes orders n o site c.span_of-span.result = record {
      row = c.at.result.now.homes;
      has_row = row_at c.args.table.now.operations c.loop-n.n c.at.result.now c.at.ensures;
      homes_are = c.site_of-site.ensures.homes;
      named = c.site_of-site.ensures.named;
      code = c.site_of-site.ensures.code;
      order = c.at-in-loop-n.result.now;
      has_order = c.at-in-loop-n.ensures;
      order_is = c.site_of-site.ensures.order;
      span_is = c.span_of-span.ensures;
    } in
    let room = fits_room vs sized homes orders c.args.parts.now c.requires.limits c.requires.ordered in
    let none : 0 + n ≡ n = omega arith in
    let same = ap (λ j. words_in vs homes orders j o) none in
    near vs homes orders n o site c.span_of-span.result is sized
    (omega (arith, is_at_most vs sized homes orders n 0 c.args.parts.now.operations o c.at-operation.ensures, room.low, same))

pub put_operation-requires-clause-room : goal.put_operation-requires-clause-room
put_operation-requires-clause-room g c =
    let vs = g.K.Kind.vocabularies in
    let sized = g.met.K.Kind.sized in
    let homes = (all_homes c.args.table.now.operations) in
    let orders = c.args.orders.now in
    let n = c.loop-n.n in
    let o = c.at-operation.result.now in
    let site = c.site_of-site.result in
    let os = c.args.parts.now.operations in
    let is : IsPlaced vs homes orders n o site c.span_of-span.result = record {
      row = c.at.result.now.homes;
      has_row = row_at c.args.table.now.operations c.loop-n.n c.at.result.now c.at.ensures;
      homes_are = c.site_of-site.ensures.homes;
      named = c.site_of-site.ensures.named;
      code = c.site_of-site.ensures.code;
      order = c.at-in-loop-n.result.now;
      has_order = c.at-in-loop-n.ensures;
      order_is = c.site_of-site.ensures.order;
      span_is = c.span_of-span.ensures;
    } in
    let room = fits_room vs sized homes orders c.args.parts.now c.requires.limits c.requires.ordered in
    let size = same_size vs homes orders n o site c.span_of-span.result is in
    let each = λ (k : ℕ) (p : Operation). chosen_sized vs sized (home_of homes k p) (ops_of p.code) (order_of vs homes orders k) in
    let new = c.loop-n.words ++ words_at vs homes orders n o (length c.loop-n.words) in
    let more = size_more vs homes orders each os n o c.at-operation.ensures c.loop-n.words new refl (size_of_all vs homes orders 0 os)
    c.loop-n.invariant.size in
    let long = longer vs homes orders each os n o c.at-operation.ensures c.loop-n.words new refl in
    omega (arith, room.low, size, more, long)

pub loop-n-preserved : goal.loop-n-preserved
loop-n-preserved g c =
    let vs = g.K.Kind.vocabularies in
    let sized = g.met.K.Kind.sized in
    let homes = (all_homes c.args.table.now.operations) in
    let orders = c.args.orders.now in
    let n = c.loop-n.n in
    let o = c.at-operation.result.now in
    let site = c.site_of-site.result in
    let os = c.args.parts.now.operations in
    let span = c.span_of-span.result in
    let old = c.loop-n.words in
    let new = c.put_operation.new.words in
    let is : IsPlaced vs homes orders n o site span = record {
      row = c.at.result.now.homes;
      has_row = row_at c.args.table.now.operations c.loop-n.n c.at.result.now c.at.ensures;
      homes_are = c.site_of-site.ensures.homes;
      named = c.site_of-site.ensures.named;
      code = c.site_of-site.ensures.code;
      order = c.at-in-loop-n.result.now;
      has_order = c.at-in-loop-n.ensures;
      order_is = c.site_of-site.ensures.order;
      span_is = c.span_of-span.ensures;
    } in
    let each = λ (k : ℕ) (p : Operation). chosen_sized vs sized (home_of homes k p) (ops_of p.code) (order_of vs homes orders k) in
    let words : new ≡ old ++ words_at vs homes orders n o (length old) =
    c.in_ok-put_operation.ensures.words ∙ ap (λ w. old ++ w) (words_are vs homes orders n o site span is (length old)) in
    let code = c.in_ok-put_operation.ensures.code ∙ code_is vs homes orders n o site span is (length old) in
    record {
      words = words_more vs homes orders each os n o c.at-operation.ensures old new words (program_words vs homes orders 0 0 os) c.loop-n.invariant.words;
      codes = codes_more vs homes orders each os n o c.at-operation.ensures old new words c.loop-n.operations c.push.new.self
          (operation_codes vs homes orders 0 0 os) c.in_ok-put_operation.field-0 c.in_ok-push.ensures.ok code c.loop-n.invariant.codes;
      size = size_more vs homes orders each os n o c.at-operation.ensures old new words (size_of_all vs homes orders 0 os) c.loop-n.invariant.size;
    }

pub returns-clause-room : goal.returns-clause-room
returns-clause-room g c = fits_room g.K.Kind.vocabularies g.met.K.Kind.sized (all_homes c.args.table.now.operations)
    c.args.orders.now c.args.parts.now c.requires.limits c.requires.ordered

pub returns-clause-fit : goal.returns-clause-fit
returns-clause-fit g c = λ n o e.
    tables_fit_within g.K.Kind.homes c.args.parts.now c.args.table.now.operations c.requires.limits c.requires.tables n o e
