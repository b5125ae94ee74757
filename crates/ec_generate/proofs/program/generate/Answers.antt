-- Code that is laid out is faithful, and there is room for it.
use Rattle.std.proofs.Common.{◌≤◌, sym, subst, length, arith}
use Rattle.ec_generate.proofs.Few.{has_few}
use Rattle.ec_generate.proofs.LaidOut.{can_be_laid_out}
use Rattle.ec_generate.proofs.program.generate.Goals as goal
use Rattle.ec_generate.specs.Addresses.{HasFew}
use Rattle.ec_generate.specs.Fits.{EachFits}
use Rattle.ec_generate.specs.Tables.{all_homes}
use Rattle.ec_code.specs.Fine.{Fine}
use Rattle.ec_machine_code.specs.Fitted.{HasFew as HasFewReads}
use Rattle.ec_generate.specs.Tables.{AreTablesWithin}
use Rattle.ec_machine_code.proofs.Faithful.{faithful}
use Rattle.ec_machine_code.proofs.Fitted.{each_fit}
use Rattle.ec_machine_code.proofs.Programs.{long_is}
use Rattle.ec_machine_code.specs.Once.{FaithfulOnce}
use Rattle.ec_machine_code.specs.Speaks.{words_end}
use Rattle.ec_machine_code.specs.declared.code.Code.{Code}

pub lay_out-requires-clause-tables : goal.lay_out-requires-clause-tables
lay_out-requires-clause-tables g c =
    subst (λ p. AreTablesWithin g.K.Kind.homes p c.args.table.now.operations) (sym c.parts-parts.ensures.parts) c.requires.tables

pub returns-clause-faithful : goal.returns-clause-faithful
returns-clause-faithful g c =
    let vs = g.K.Kind.vocabularies in
    let p = c.parts-parts.result.now in
    let homes = all_homes c.args.table.now.operations in
    let orders = c.in_ok-orders.orders in
    let can =
    can_be_laid_out g.M.Target.meaning vs homes orders c.parts-parts.ensures.fits.fine.0 p g.K.Kind.homes c.requires.near c.requires.middle c.requires.far
    c.requires.homes c.parts-parts.ensures.fits.fine.1 c.parts-parts.ensures.fits.numbers c.in_ok-code.ensures.fit c.in_ok-orders.ensures.ordered
    c.in_ok-code.ensures.room in
    subst (λ q. FaithfulOnce g.M.Target.meaning q c.in_ok-code.code homes) c.parts-parts.ensures.parts
    (subst (λ code. FaithfulOnce g.M.Target.meaning p code homes) (sym c.in_ok-code.ensures.code)
    (faithful g.M.Target.meaning vs homes orders c.parts-parts.ensures.fits.fine.0 p can))

pub returns-clause-met : goal.returns-clause-met
returns-clause-met g c = λ d fine_it rests few_it.
    let fine : Fine d c.parts-parts.result.now = subst (Fine d) (sym c.parts-parts.ensures.parts) fine_it in
    let few : HasFewReads d c.parts-parts.result.now = subst (HasFewReads d) (sym c.parts-parts.ensures.parts) few_it in
    let vs = g.K.Kind.vocabularies in
    let p = c.parts-parts.result.now in
    let homes = all_homes c.args.table.now.operations in
    let orders = c.in_ok-orders.orders in
    let can =
    can_be_laid_out g.M.Target.meaning vs homes orders d p g.K.Kind.homes c.requires.near c.requires.middle c.requires.far c.requires.homes fine
    c.parts-parts.ensures.fits.numbers c.in_ok-code.ensures.fit c.in_ok-orders.ensures.ordered c.in_ok-code.ensures.room in
    subst (λ q. EachFits g.M.Target.meaning q c.in_ok-code.code homes) c.parts-parts.ensures.parts
    (subst (λ code. EachFits g.M.Target.meaning p code homes) (sym c.in_ok-code.ensures.code)
    (each_fit g.M.Target.meaning vs homes orders d p can rests few))

pub returns-clause-low : goal.returns-clause-low
returns-clause-low g c =
    let vs = g.K.Kind.vocabularies in
    let p = c.parts-parts.result.now in
    let homes = all_homes c.args.table.now.operations in
    let orders = c.in_ok-orders.orders in
    let long = long_is g.M.Target.meaning vs c.requires.near c.requires.middle c.requires.far homes orders 0 0 p.operations in
    let low = c.in_ok-code.ensures.room.low in
    subst (λ (code : Code). length code.words ≤ words_end) (sym c.in_ok-code.ensures.code) (omega arith)

pub returns-clause-few : goal.returns-clause-few
returns-clause-few g c =
    subst HasFew (sym c.in_ok-code.ensures.code)
    (has_few g.K.Kind.vocabularies (all_homes c.args.table.now.operations) c.in_ok-orders.orders
    c.parts-parts.result.now c.parts-parts.ensures.fits.limits)
