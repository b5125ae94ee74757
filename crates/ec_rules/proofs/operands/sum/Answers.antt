use Rattle.std.proofs.Common.{◌≡◌, ℕ, ◌+◌, ◌<◌, Bool, List, length, drop, get_or, Option, ◌∙◌}
use Rattle.std.proofs.lemmas.List.{at_drop_more}
use Rattle.ec_ast.specs.declared.Span.{Span}
use Rattle.ec_types.specs.declared.conform.static_type.StaticType.{StaticType}
use Rattle.ec_rules.specs.declared.faults.Faults.{Faults}
use Rattle.ec_rules.specs.declared.judged.Added.{Added}
use Rattle.ec_rules.specs.Operands as spec
use Rattle.ec_rules.specs.Rules.{noted}
use Rattle.ec_rules.proofs.Noted.{noted_joined}
use Rattle.ec_rules.proofs.operands.sum.Goals as goal

next : (at : Span) (clean behind : Bool) (left of : Option StaticType) (g h : Faults) (xs : List Added) (i : ℕ) (d : Added) →
    i < length xs → h ≡ noted g (spec.addend_faults at left (get_or xs i d)) →
    behind ≡ spec.is_clean_behind at clean left (get_or xs i d) →
    of ≡ spec.type_if behind (spec.result_type (get_or xs i d).operator) →
    noted h (spec.sum_faults at behind of (drop (i + 1) xs)) ≡ noted g (spec.sum_faults at clean left (drop i xs))
next at clean behind left of g h xs i d lt e b f =
    let x = get_or xs i d in
    let now = spec.is_clean_behind at clean left x in
    let rest = spec.sum_faults at now (spec.type_if now (spec.result_type x.operator)) (drop (i + 1) xs) in
    let j = noted_joined g (spec.addend_faults at left x) rest in
    let k = at_drop_more (λ ys. noted g (spec.sum_faults at clean left ys)) xs i d lt in
    cc

pub loop-a-preserved : goal.loop-a-preserved
loop-a-preserved c =
    next c.args.first.now.at c.loop-a.is_clean c.addend-is_clean.result c.loop-a.left c.type_if-left.result
    c.loop-a.faults c.addend-is_clean.new.faults c.args.addends.now c.loop-a.a-index _
    c.loop-a-test.true c.addend-is_clean.ensures.noted c.addend-is_clean.ensures.clean (cc)
    ∙ c.loop-a.invariant
