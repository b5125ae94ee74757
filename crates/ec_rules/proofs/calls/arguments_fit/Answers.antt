use Rattle.std.proofs.Common.{◌≡◌, ◌⊎◌, inl, inr, List, [], ◌∷◌, length, refl, sym, ap, ◌∙◌, arith}
use Rattle.std.specs.Iterator.Adapters.{zip_first, zip_second}
use Rattle.std.specs.Slice.Iter.{iter_rest}
use Rattle.ec_types.specs.Table.{Table}
use Rattle.ec_types.specs.declared.conform.static_type.StaticType.{StaticType}
use Rattle.ec_rules.specs.declared.faults.Faults.{Faults}
use Rattle.ec_rules.specs.declared.judged.Judged.{Judged}
use Rattle.ec_rules.specs.Calls.{wrong_arguments_for}
use Rattle.ec_rules.specs.Operands.{must_conform}
use Rattle.ec_rules.specs.Rules.{noted}
use Rattle.ec_rules.proofs.Noted.{noted_joined, noted_none}
use Rattle.ec_rules.proofs.calls.arguments_fit.Goals as goal

none_left : (table : Table) (parameters : List StaticType) (arguments : List Judged) →
    (length parameters ≡ 0) ⊎ (length arguments ≡ 0) → wrong_arguments_for table parameters arguments ≡ []
none_left table [] arguments h = refl
none_left table (p ∷ ps) [] h = refl
none_left table (p ∷ ps) (a ∷ more) (inl e) = absurd (omega arith)
none_left table (p ∷ ps) (a ∷ more) (inr e) = absurd (omega arith)

next : (table : Table) (g h : Faults) (p : StaticType) (a : Judged) (ps parameters : List StaticType)
    (more arguments : List Judged) →
    parameters ≡ p ∷ ps → arguments ≡ a ∷ more → h ≡ noted g (must_conform table p a) →
    noted h (wrong_arguments_for table ps more) ≡ noted g (wrong_arguments_for table parameters arguments)
next table g h p a ps parameters more arguments d e f =
    let j = noted_joined g (must_conform table p a) (wrong_arguments_for table ps more) in
    cc

pub loop-wanted-preserved : goal.loop-wanted-preserved
loop-wanted-preserved c =
    next c.args.table.now c.loop-wanted.faults c.must_conform.new.faults c.in-Some.wanted.now c.in-Some.argument.now _ _ _ _
    c.in-Some.ensures.steps.0 c.in-Some.ensures.steps.1 c.must_conform.ensures
    ∙ c.loop-wanted.invariant

pub returns : goal.returns
returns c =
    let parameters = iter_rest (zip_first c.loop-wanted.wanted-iterator) in
    let arguments = iter_rest (zip_second c.loop-wanted.wanted-iterator) in
    let h : (length parameters ≡ 0) ⊎ (length arguments ≡ 0) =
    elim c.in-None.ensures.steps [ inl p ↦ inl p.1.0 | inr p ↦ inr p.1.0 ] in
    sym (noted_none c.loop-wanted.faults)
    ∙ ap (noted c.loop-wanted.faults) (sym (none_left c.args.table.now parameters arguments h))
    ∙ c.loop-wanted.invariant
