-- What a part means, one of its alternatives takes: programs and constants.
use Rattle.std.proofs.Common.{List, refl}
use Rattle.ec_ast.specs.declared.Expression.{Expression}
use Rattle.ec_ast.specs.declared.Link.{Link}
use Rattle.ec_ast.specs.declared.ConstantValue.TheVariants as value
use Rattle.ec_lexer.specs.declared.token.Token.{Token}
use Rattle.ec_parser.specs.declared.grammar.Part.TheVariants as part
use Rattle.ec_parser.specs.declared.values.Values.{Values}
use Rattle.ec_parser.specs.Reads.{first as here, later}
use Rattle.ec_parser.specs.Chains.{postfix_of}
use Rattle.ec_parser.specs.Filled.{rest, top_or}
use Rattle.ec_parser.specs.HasTree.{IsId, IsTypeOption, Ending, IsFlag, IsPrimary, IsPostfix, AreLinks, IsUnary, IsTerm, IsSum, IsRel}
use Rattle.ec_parser.specs.HasTree.{IsNot, IsAnd, IsExpr, IsObject, IsClass, AreConstants}
use Rattle.ec_parser.proofs.Meaning.{Means, a_Program, a_Constants, a_ConstantRest, a_ConstantValue, a_AfterMonitor, a_TermRest, a_AndRest}
use Rattle.ec_parser.proofs.Meaning.{a_Name, a_Typeobject, a_Type, a_ClassRest, a_ObjectRest, a_Expression, a_OrTail, a_AndTail}
use Rattle.ec_parser.proofs.Meaning.{a_NotPrefix, a_CompareTail, a_SumTail, a_TermTail, a_UnaryPrefix, a_PostfixTail, a_Plain, no_compare}
use Rattle.ec_parser.proofs.Meaning.{Linked, IsValue, IsConstantRest, IsClassRest, IsObjectRest, IsCompareTail, IsAndRest, IsTermRest}
use Rattle.ec_parser.proofs.Meaning.{IsAfterMonitor, IsNotPrefix, IsUnaryPrefix, put_value}
use Rattle.ec_parser.proofs.Seq.{finished, token, keep, part as reads_part, made, Taken, took, taken_as}
use Rattle.ec_parser.proofs.Lists.{grown_constant, kept_constant}
use Rattle.ec_parser.proofs.Phrases.{differs, id_first, relinked}

-- a constant's value that begins with a primary
value_of : {vs : Values} {ts us ws zs : List Token} {x y : Expression} {links : List Link} {first last : Ending} → IsPrimary ts us x first →
    AreLinks first us ws links last → IsTermRest (postfix_of x links) ws zs y →
    Taken part.ConstantValue vs ts zs (put_value (value.Expression y) vs)
unfolding rest top_or
value_of (IsPrimary.object (IsObject.object_constructor (IsFlag.with_word e) a b c d f)) l r =
    took (later (later here))
    (keep e (made (reads_part (a_AfterMonitor (IsAfterMonitor.object (IsObjectRest.object a b c d f) (relinked tt (Linked.linked l)) r))
    (finished refl))))
value_of (IsPrimary.object (IsObject.object_constructor IsFlag.without a b c d f)) l r =
    took (later (later (later (later (later here)))))
    (reads_part (a_Plain tt (IsPrimary.object (IsObject.object_constructor IsFlag.without a b c d f)) (differs a (λ x. cc)))
    (made (reads_part (a_PostfixTail (relinked tt (Linked.linked l))) (made (reads_part (a_TermRest r) (made (finished refl)))))))
value_of (IsPrimary.int x0) l r =
    took (later (later (later (later (later here)))))
    (reads_part (a_Plain tt (IsPrimary.int x0) (differs x0 (λ x. cc)))
    (made (reads_part (a_PostfixTail (relinked tt (Linked.linked l))) (made (reads_part (a_TermRest r) (made (finished refl)))))))
value_of (IsPrimary.string x0) l r =
    took (later (later (later (later (later here)))))
    (reads_part (a_Plain tt (IsPrimary.string x0) (differs x0 (λ x. cc)))
    (made (reads_part (a_PostfixTail (relinked tt (Linked.linked l))) (made (reads_part (a_TermRest r) (made (finished refl)))))))
value_of (IsPrimary.true_word x0) l r =
    took (later (later (later (later (later here)))))
    (reads_part (a_Plain tt (IsPrimary.true_word x0) (differs x0 (λ x. cc)))
    (made (reads_part (a_PostfixTail (relinked tt (Linked.linked l))) (made (reads_part (a_TermRest r) (made (finished refl)))))))
value_of (IsPrimary.false_word x0) l r =
    took (later (later (later (later (later here)))))
    (reads_part (a_Plain tt (IsPrimary.false_word x0) (differs x0 (λ x. cc)))
    (made (reads_part (a_PostfixTail (relinked tt (Linked.linked l))) (made (reads_part (a_TermRest r) (made (finished refl)))))))
value_of (IsPrimary.nil_word x0) l r =
    took (later (later (later (later (later here)))))
    (reads_part (a_Plain tt (IsPrimary.nil_word x0) (differs x0 (λ x. cc)))
    (made (reads_part (a_PostfixTail (relinked tt (Linked.linked l))) (made (reads_part (a_TermRest r) (made (finished refl)))))))
value_of (IsPrimary.self_word x0) l r =
    took (later (later (later (later (later here)))))
    (reads_part (a_Plain tt (IsPrimary.self_word x0) (differs x0 (λ x. cc)))
    (made (reads_part (a_PostfixTail (relinked tt (Linked.linked l))) (made (reads_part (a_TermRest r) (made (finished refl)))))))
value_of (IsPrimary.parenthesised x0 x1 x2) l r =
    took (later (later (later (later (later here)))))
    (reads_part (a_Plain tt (IsPrimary.parenthesised x0 x1 x2) (differs x0 (λ x. cc)))
    (made (reads_part (a_PostfixTail (relinked tt (Linked.linked l))) (made (reads_part (a_TermRest r) (made (finished refl)))))))
value_of (IsPrimary.node_at x0 x1 x2 x3 x4 x5) l r =
    took (later (later (later (later (later here)))))
    (reads_part (a_Plain tt (IsPrimary.node_at x0 x1 x2 x3 x4 x5) (differs x0 (λ x. cc)))
    (made (reads_part (a_PostfixTail (relinked tt (Linked.linked l))) (made (reads_part (a_TermRest r) (made (finished refl)))))))
value_of (IsPrimary.node_count x0 x1 x2) l r =
    took (later (later (later (later (later here)))))
    (reads_part (a_Plain tt (IsPrimary.node_count x0 x1 x2) (differs x0 (λ x. cc)))
    (made (reads_part (a_PostfixTail (relinked tt (Linked.linked l))) (made (reads_part (a_TermRest r) (made (finished refl)))))))
value_of (IsPrimary.vector x0 x1 x2 x3 x4 x5 x6 x7 x8 x9 x10) l r =
    took (later (later (later (later (later here)))))
    (reads_part (a_Plain tt (IsPrimary.vector x0 x1 x2 x3 x4 x5 x6 x7 x8 x9 x10) (differs x0 (λ x. cc)))
    (made (reads_part (a_PostfixTail (relinked tt (Linked.linked l))) (made (reads_part (a_TermRest r) (made (finished refl)))))))
value_of (IsPrimary.id x0) l r =
    took (later (later (later (later (later here)))))
    (reads_part (a_Plain tt (IsPrimary.id x0) (id_first x0))
    (made (reads_part (a_PostfixTail (relinked tt (Linked.linked l))) (made (reads_part (a_TermRest r) (made (finished refl)))))))

pub complete_Program : {vs ws : Values} {ts us : List Token} → Means part.Program vs ts us ws → Taken part.Program vs ts us ws
unfolding rest top_or
complete_Program (a_Program h1) = took here (made (reads_part (a_Constants h1) (made (finished refl))))

pub complete_Constants : {vs ws : Values} {ts us : List Token} → Means part.Constants vs ts us ws → Taken part.Constants vs ts us ws
unfolding rest top_or
complete_Constants (a_Constants (AreConstants.class e0 h1 f g h4)) =
    taken_as (grown_constant _ _ _)
    (took here (keep e0 (reads_part (a_Name h1)
    (reads_part (a_ConstantRest (IsConstantRest.plain f (IsValue.class g))) (made (reads_part (a_Constants h4) (finished refl)))))))
complete_Constants (a_Constants (AreConstants.typeobj e0 h1 f g h4)) =
    taken_as (grown_constant _ _ _)
    (took here (keep e0 (reads_part (a_Name h1)
    (reads_part (a_ConstantRest (IsConstantRest.plain f (IsValue.typeobj g)))
    (made (reads_part (a_Constants h4) (finished refl)))))))
complete_Constants (a_Constants (AreConstants.expr e0 h1 IsTypeOption.none f g h4)) =
    taken_as (grown_constant _ _ _)
    (took here (keep e0 (reads_part (a_Name h1)
    (reads_part (a_ConstantRest (IsConstantRest.plain f (IsValue.expr g))) (made (reads_part (a_Constants h4) (finished refl)))))))
complete_Constants (a_Constants (AreConstants.expr e0 h1 (IsTypeOption.some i j) f g h4)) =
    taken_as (grown_constant _ _ _)
    (took here (keep e0 (reads_part (a_Name h1)
    (reads_part (a_ConstantRest (IsConstantRest.typed i j f g)) (made (reads_part (a_Constants h4) (finished refl)))))))
complete_Constants (a_Constants AreConstants.none) = taken_as (kept_constant _) (took (later here) (finished refl))

pub complete_ConstantRest : {vs ws : Values} {ts us : List Token} → Means part.ConstantRest vs ts us ws →
    Taken part.ConstantRest vs ts us ws
unfolding rest top_or
complete_ConstantRest (a_ConstantRest (IsConstantRest.typed e0 h1 e3 h4)) =
    took here (token e0 (reads_part (a_Type h1) (made (token e3 (reads_part (a_Expression h4) (made (finished refl)))))))
complete_ConstantRest (a_ConstantRest (IsConstantRest.plain e1 h2)) =
    took (later here) (made (token e1 (reads_part (a_ConstantValue h2) (finished refl))))

pub complete_ConstantValue : {vs ws : Values} {ts us : List Token} → Means part.ConstantValue vs ts us ws →
    Taken part.ConstantValue vs ts us ws
unfolding rest top_or
complete_ConstantValue (a_ConstantValue (IsValue.class (IsClass.class IsFlag.without a b c d f g))) =
    took here (made (reads_part (a_ClassRest (IsClassRest.class a b c d f g)) (made (finished refl))))
complete_ConstantValue (a_ConstantValue (IsValue.typeobj h0)) = took (later here) (reads_part (a_Typeobject h0) (finished refl))
complete_ConstantValue (a_ConstantValue (IsValue.class (IsClass.class (IsFlag.with_word e1) a b c d f g))) =
    took (later (later here))
    (keep e1 (made (reads_part (a_AfterMonitor (IsAfterMonitor.class (IsClassRest.class a b c d f g))) (finished refl))))
complete_ConstantValue (a_ConstantValue (IsValue.expr (IsExpr.expr (IsAnd.and (IsNot.not a b) c) d))) =
    took (later (later (later here)))
    (reads_part (a_NotPrefix (IsNotPrefix.not a b)) (reads_part (a_AndRest (IsAndRest.rest_of c d)) (made (finished refl))))
complete_ConstantValue
    (a_ConstantValue (IsValue.expr
    (IsExpr.expr (IsAnd.and (IsNot.rel (IsRel.sum_alone (IsSum.sum (IsTerm.term (IsUnary.minus a b) i) j))) c) d))) = took
    (later (later (later (later here))))
    (reads_part (a_UnaryPrefix (IsUnaryPrefix.minus a b))
    (reads_part (a_TermRest (IsTermRest.rest_of i j IsCompareTail.none (IsAndRest.rest_of c d))) (made (finished refl))))
complete_ConstantValue
    (a_ConstantValue (IsValue.expr
    (IsExpr.expr (IsAnd.and (IsNot.rel (IsRel.compared (IsSum.sum (IsTerm.term (IsUnary.minus a b) i) j) k l)) c) d))) = took
    (later (later (later (later here))))
    (reads_part (a_UnaryPrefix (IsUnaryPrefix.minus a b))
    (reads_part (a_TermRest (IsTermRest.rest_of i j (IsCompareTail.compared k l) (IsAndRest.rest_of c d)))
    (made (finished refl))))
complete_ConstantValue
    (a_ConstantValue (IsValue.expr
    (IsExpr.expr (IsAnd.and (IsNot.rel (IsRel.sum_alone (IsSum.sum (IsTerm.term (IsUnary.view a b g h) i) j))) c) d))) = took
    (later (later (later (later here))))
    (reads_part (a_UnaryPrefix (IsUnaryPrefix.view a b g h))
    (reads_part (a_TermRest (IsTermRest.rest_of i j IsCompareTail.none (IsAndRest.rest_of c d))) (made (finished refl))))
complete_ConstantValue
    (a_ConstantValue (IsValue.expr
    (IsExpr.expr (IsAnd.and (IsNot.rel (IsRel.compared (IsSum.sum (IsTerm.term (IsUnary.view a b g h) i) j) k l)) c) d))) = took
    (later (later (later (later here))))
    (reads_part (a_UnaryPrefix (IsUnaryPrefix.view a b g h))
    (reads_part (a_TermRest (IsTermRest.rest_of i j (IsCompareTail.compared k l) (IsAndRest.rest_of c d)))
    (made (finished refl))))
complete_ConstantValue
    (a_ConstantValue (IsValue.expr
    (IsExpr.expr (IsAnd.and (IsNot.rel (IsRel.sum_alone (IsSum.sum (IsTerm.term (IsUnary.is_fixed a b) i) j))) c) d))) = took
    (later (later (later (later here))))
    (reads_part (a_UnaryPrefix (IsUnaryPrefix.is_fixed a b))
    (reads_part (a_TermRest (IsTermRest.rest_of i j IsCompareTail.none (IsAndRest.rest_of c d))) (made (finished refl))))
complete_ConstantValue
    (a_ConstantValue (IsValue.expr
    (IsExpr.expr (IsAnd.and (IsNot.rel (IsRel.compared (IsSum.sum (IsTerm.term (IsUnary.is_fixed a b) i) j) k l)) c) d))) = took
    (later (later (later (later here))))
    (reads_part (a_UnaryPrefix (IsUnaryPrefix.is_fixed a b))
    (reads_part (a_TermRest (IsTermRest.rest_of i j (IsCompareTail.compared k l) (IsAndRest.rest_of c d)))
    (made (finished refl))))
complete_ConstantValue
    (a_ConstantValue (IsValue.expr
    (IsExpr.expr (IsAnd.and (IsNot.rel (IsRel.sum_alone (IsSum.sum (IsTerm.term (IsUnary.postfix_alone (IsPostfix.postfix a b)) i) j)))
    c) d))) = value_of a b (IsTermRest.rest_of i j IsCompareTail.none (IsAndRest.rest_of c d))
complete_ConstantValue
    (a_ConstantValue (IsValue.expr
    (IsExpr.expr (IsAnd.and
    (IsNot.rel (IsRel.compared (IsSum.sum (IsTerm.term (IsUnary.postfix_alone (IsPostfix.postfix a b)) i) j) k l)) c)
    d))) = value_of a b (IsTermRest.rest_of i j (IsCompareTail.compared k l) (IsAndRest.rest_of c d))

pub complete_AfterMonitor : {vs ws : Values} {ts us : List Token} → Means part.AfterMonitor vs ts us ws →
    Taken part.AfterMonitor vs ts us ws
unfolding rest top_or
complete_AfterMonitor (a_AfterMonitor (IsAfterMonitor.class h0)) = took here (reads_part (a_ClassRest h0) (made (finished refl)))
complete_AfterMonitor (a_AfterMonitor (IsAfterMonitor.object h0 h3 h5)) =
    took (later here) (reads_part (a_ObjectRest h0)
    (made (made (reads_part (a_PostfixTail h3) (made (reads_part (a_TermRest h5) (made (finished refl))))))))

pub complete_TermRest : {vs ws : Values} {ts us : List Token} → Means part.TermRest vs ts us ws → Taken part.TermRest vs ts us ws
unfolding rest top_or
complete_TermRest (a_TermRest (IsTermRest.rest_of h1 h4 IsCompareTail.none h7)) =
    took here (made (reads_part (a_TermTail h1)
    (made (made (reads_part (a_SumTail h4) (made (reads_part no_compare (reads_part (a_AndRest h7) (finished refl)))))))))
complete_TermRest (a_TermRest (IsTermRest.rest_of h1 h4 (IsCompareTail.compared b c) h7)) =
    took here (made (reads_part (a_TermTail h1)
    (made (made (reads_part (a_SumTail h4) (made (reads_part (a_CompareTail b c) (reads_part (a_AndRest h7) (finished refl)))))))))

pub complete_AndRest : {vs ws : Values} {ts us : List Token} → Means part.AndRest vs ts us ws → Taken part.AndRest vs ts us ws
unfolding rest top_or
complete_AndRest (a_AndRest (IsAndRest.rest_of h1 h4)) =
    took here (made (reads_part (a_AndTail h1) (made (made (reads_part (a_OrTail h4) (made (finished refl)))))))

pub complete_Name : {vs ws : Values} {ts us : List Token} → Means part.Name vs ts us ws → Taken part.Name vs ts us ws
unfolding rest
complete_Name (a_Name (IsId.other e0)) = took here (keep e0 (finished refl))
complete_Name (a_Name (IsId.create e0)) = took (later here) (keep e0 (finished refl))
complete_Name (a_Name (IsId.putstring e0)) = took (later (later here)) (keep e0 (finished refl))
complete_Name (a_Name (IsId.count e0)) = took (later (later (later here))) (keep e0 (finished refl))
