use Rattle.std.proofs.Common.{◌≡◌, Some, None, refl, sym, subst, ◌∙◌}
use Rattle.ec_types.specs.Numbered.{AreNumbered, row_at}
use Rattle.ec_types.specs.Rows.{place_of}
use Rattle.ec_types.proofs.ByNumber.{none_like, found_like}
use Rattle.ec_types.proofs.conform.numbered.NumberedTypes.like.Goals as goal

pub returns-in_err-number-clause-named : goal.returns-in_err-number-clause-named
returns-in_err-number-clause-named c =
    let fields = c.self.inside in
    let numbered : AreNumbered c.args.self.now fields.names fields.rows.items =
    subst (λ types. AreNumbered types fields.names fields.rows.items) c.self.view_is c.self.invariant in
    none_like _ _ _ numbered c.args.other c.args.place _ (rw c.as_slice.ensures.value at (sym c.in_err-number.ensures))

pub returns-in_err-own_place-clause-named : goal.returns-in_err-own_place-clause-named
returns-in_err-own_place-clause-named c =
    let fields = c.self.inside in
    let numbered : AreNumbered c.args.self.now fields.names fields.rows.items =
    subst (λ types. AreNumbered types fields.names fields.rows.items) c.self.view_is c.self.invariant in
    let number = c.in_ok-number.number in
    let there = rw c.as_slice.ensures.value at (sym c.in_ok-number.ensures) in
    let absent : place_of (row_at fields.rows.items c.args.own) number ≡ None =
    rw c.as_slice-2.ensures.value at (sym c.in_err-own_place.ensures) in
    found_like _ _ _ numbered c.args.own c.args.other c.args.place number _ there
    (rw (c.from_residual-in_err-own_place.ensures, absent) refl)

pub returns-clause-named : goal.returns-clause-named
returns-clause-named c =
    let fields = c.self.inside in
    let numbered : AreNumbered c.args.self.now fields.names fields.rows.items =
    subst (λ types. AreNumbered types fields.names fields.rows.items) c.self.view_is c.self.invariant in
    let number = c.in_ok-number.number in
    let there = rw c.as_slice.ensures.value at (sym c.in_ok-number.ensures) in
    let placed : place_of (row_at fields.rows.items c.args.own) number ≡ Some c.in_ok-own_place.own_place =
    rw c.as_slice-2.ensures.value at (sym c.in_ok-own_place.ensures) in
    found_like _ _ _ numbered c.args.own c.args.other c.args.place number _ there
    (c.at.ensures ∙ rw (c.operations.ensures, placed) refl)
