-- What a part means, one of its alternatives takes: expressions.
use Rattle.std.proofs.Common.{List, refl}
use Rattle.ec_lexer.specs.declared.token.Token.{Token}
use Rattle.ec_parser.specs.declared.grammar.Part.TheVariants as part
use Rattle.ec_parser.specs.declared.values.Values.{Values}
use Rattle.ec_parser.specs.Reads.{first as here, later}
use Rattle.ec_parser.specs.Filled.{rest, top_or}
use Rattle.ec_parser.specs.HasTree.{IsComparison, IsAdditive, IsMultiplicative, IsUnary, IsTerm, AreFactors, IsSum, AreAddends, IsRel}
use Rattle.ec_parser.specs.HasTree.{IsNot, IsAnd, AreNots, IsExpr, AreAnds}
use Rattle.ec_parser.proofs.Meaning.{Means, a_Type, a_Expression, a_OrTail, a_And, a_AndTail, a_Not, a_NotPrefix, a_Rel, a_CompareTail}
use Rattle.ec_parser.proofs.Meaning.{a_CompareWord, a_Sum, a_SumTail, a_SumWord, a_Term, a_TermTail, a_TermWord, a_Unary, a_UnaryPrefix}
use Rattle.ec_parser.proofs.Meaning.{a_Postfix, no_compare, IsNotPrefix, IsUnaryPrefix}
use Rattle.ec_parser.proofs.Seq.{finished, token, keep, part as reads_part, bound, made, Taken, took, taken_as}
use Rattle.ec_parser.proofs.Lists.{grown_expression, kept_expression, grown_addend, kept_addend, grown_factor, kept_factor}

pub complete_Expression : {vs ws : Values} {ts us : List Token} → Means part.Expression vs ts us ws → Taken part.Expression vs ts us ws
unfolding rest top_or
complete_Expression (a_Expression (IsExpr.expr h0 h2)) =
    took here (reads_part (a_And h0) (made (reads_part (a_OrTail h2) (made (finished refl)))))

pub complete_OrTail : {vs ws : Values} {ts us : List Token} → Means part.OrTail vs ts us ws → Taken part.OrTail vs ts us ws
unfolding rest top_or
complete_OrTail (a_OrTail (AreAnds.or_and e0 h1 h3)) =
    taken_as (grown_expression _ _ _) (took here (token e0 (reads_part (a_And h1) (made (reads_part (a_OrTail h3) (finished refl))))))
complete_OrTail (a_OrTail AreAnds.ands_end) = taken_as (kept_expression _) (took (later here) (finished refl))

pub complete_And : {vs ws : Values} {ts us : List Token} → Means part.And vs ts us ws → Taken part.And vs ts us ws
unfolding rest top_or
complete_And (a_And (IsAnd.and h0 h2)) = took here (reads_part (a_Not h0) (made (reads_part (a_AndTail h2) (made (finished refl)))))

pub complete_AndTail : {vs ws : Values} {ts us : List Token} → Means part.AndTail vs ts us ws → Taken part.AndTail vs ts us ws
unfolding rest top_or
complete_AndTail (a_AndTail (AreNots.and_not e0 h1 h3)) =
    taken_as (grown_expression _ _ _) (took here (token e0 (reads_part (a_Not h1) (made (reads_part (a_AndTail h3) (finished refl))))))
complete_AndTail (a_AndTail AreNots.nots_end) = taken_as (kept_expression _) (took (later here) (finished refl))

pub complete_Not : {vs ws : Values} {ts us : List Token} → Means part.Not vs ts us ws → Taken part.Not vs ts us ws
unfolding rest
complete_Not (a_Not (IsNot.not b c)) = took here (reads_part (a_NotPrefix (IsNotPrefix.not b c)) (finished refl))
complete_Not (a_Not (IsNot.rel h0)) = took (later here) (reads_part (a_Rel h0) (finished refl))

pub complete_NotPrefix : {vs ws : Values} {ts us : List Token} → Means part.NotPrefix vs ts us ws → Taken part.NotPrefix vs ts us ws
unfolding rest top_or
complete_NotPrefix (a_NotPrefix (IsNotPrefix.not e0 h1)) =
    took here (bound (keep e0 (reads_part (a_Not h1) (bound (made (finished refl))))))

pub complete_Rel : {vs ws : Values} {ts us : List Token} → Means part.Rel vs ts us ws → Taken part.Rel vs ts us ws
unfolding rest top_or
complete_Rel (a_Rel (IsRel.sum_alone h0)) = took here (reads_part (a_Sum h0) (reads_part no_compare (finished refl)))
complete_Rel (a_Rel (IsRel.compared h0 b c)) = took here (reads_part (a_Sum h0) (reads_part (a_CompareTail b c) (finished refl)))

pub complete_CompareTail : {vs ws : Values} {ts us : List Token} → Means part.CompareTail vs ts us ws → Taken part.CompareTail vs ts us ws
unfolding rest top_or
complete_CompareTail (a_CompareTail h0 h1) = took here (reads_part (a_CompareWord h0) (reads_part (a_Sum h1) (made (finished refl))))
complete_CompareTail no_compare = took (later here) (finished refl)

pub complete_CompareWord : {vs ws : Values} {ts us : List Token} → Means part.CompareWord vs ts us ws → Taken part.CompareWord vs ts us ws
unfolding rest
complete_CompareWord (a_CompareWord (IsComparison.same e0)) = took here (keep e0 (made (finished refl)))
complete_CompareWord (a_CompareWord (IsComparison.not_same e0)) = took (later here) (keep e0 (made (finished refl)))
complete_CompareWord (a_CompareWord (IsComparison.equal e0)) = took (later (later here)) (keep e0 (made (finished refl)))
complete_CompareWord (a_CompareWord (IsComparison.not_equal e0)) = took (later (later (later here))) (keep e0 (made (finished refl)))
complete_CompareWord (a_CompareWord (IsComparison.less e0)) = took (later (later (later (later here)))) (keep e0 (made (finished refl)))
complete_CompareWord (a_CompareWord (IsComparison.less_equal e0)) =
    took (later (later (later (later (later here))))) (keep e0 (made (finished refl)))
complete_CompareWord (a_CompareWord (IsComparison.more e0)) =
    took (later (later (later (later (later (later here)))))) (keep e0 (made (finished refl)))
complete_CompareWord (a_CompareWord (IsComparison.more_equal e0)) =
    took (later (later (later (later (later (later (later here))))))) (keep e0 (made (finished refl)))

pub complete_Sum : {vs ws : Values} {ts us : List Token} → Means part.Sum vs ts us ws → Taken part.Sum vs ts us ws
unfolding rest top_or
complete_Sum (a_Sum (IsSum.sum h0 h2)) = took here (reads_part (a_Term h0) (made (reads_part (a_SumTail h2) (made (finished refl)))))

pub complete_SumTail : {vs ws : Values} {ts us : List Token} → Means part.SumTail vs ts us ws → Taken part.SumTail vs ts us ws
unfolding rest top_or
complete_SumTail (a_SumTail (AreAddends.addend h0 h1 h3)) =
    taken_as (grown_addend _ _ _)
    (took here (reads_part (a_SumWord h0) (reads_part (a_Term h1) (made (reads_part (a_SumTail h3) (finished refl))))))
complete_SumTail (a_SumTail AreAddends.addends_end) = taken_as (kept_addend _) (took (later here) (finished refl))

pub complete_SumWord : {vs ws : Values} {ts us : List Token} → Means part.SumWord vs ts us ws → Taken part.SumWord vs ts us ws
unfolding rest
complete_SumWord (a_SumWord (IsAdditive.plus e0)) = took here (keep e0 (made (finished refl)))
complete_SumWord (a_SumWord (IsAdditive.minus e0)) = took (later here) (keep e0 (made (finished refl)))
complete_SumWord (a_SumWord (IsAdditive.concat e0)) = took (later (later here)) (keep e0 (made (finished refl)))

pub complete_Term : {vs ws : Values} {ts us : List Token} → Means part.Term vs ts us ws → Taken part.Term vs ts us ws
unfolding rest top_or
complete_Term (a_Term (IsTerm.term h0 h2)) = took here (reads_part (a_Unary h0) (made (reads_part (a_TermTail h2) (made (finished refl)))))

pub complete_TermTail : {vs ws : Values} {ts us : List Token} → Means part.TermTail vs ts us ws → Taken part.TermTail vs ts us ws
unfolding rest top_or
complete_TermTail (a_TermTail (AreFactors.factor h0 h1 h3)) =
    taken_as (grown_factor _ _ _)
    (took here (reads_part (a_TermWord h0) (reads_part (a_Unary h1) (made (reads_part (a_TermTail h3) (finished refl))))))
complete_TermTail (a_TermTail AreFactors.factors_end) = taken_as (kept_factor _) (took (later here) (finished refl))

pub complete_TermWord : {vs ws : Values} {ts us : List Token} → Means part.TermWord vs ts us ws → Taken part.TermWord vs ts us ws
unfolding rest
complete_TermWord (a_TermWord (IsMultiplicative.times e0)) = took here (keep e0 (made (finished refl)))
complete_TermWord (a_TermWord (IsMultiplicative.over e0)) = took (later here) (keep e0 (made (finished refl)))
complete_TermWord (a_TermWord (IsMultiplicative.remainder e0)) = took (later (later here)) (keep e0 (made (finished refl)))

pub complete_Unary : {vs ws : Values} {ts us : List Token} → Means part.Unary vs ts us ws → Taken part.Unary vs ts us ws
unfolding rest
complete_Unary (a_Unary (IsUnary.minus b c)) = took here (reads_part (a_UnaryPrefix (IsUnaryPrefix.minus b c)) (finished refl))
complete_Unary (a_Unary (IsUnary.view b c d f)) = took here (reads_part (a_UnaryPrefix (IsUnaryPrefix.view b c d f)) (finished refl))
complete_Unary (a_Unary (IsUnary.is_fixed b c)) = took here (reads_part (a_UnaryPrefix (IsUnaryPrefix.is_fixed b c)) (finished refl))
complete_Unary (a_Unary (IsUnary.postfix_alone h0)) = took (later here) (reads_part (a_Postfix h0) (finished refl))

pub complete_UnaryPrefix : {vs ws : Values} {ts us : List Token} → Means part.UnaryPrefix vs ts us ws → Taken part.UnaryPrefix vs ts us ws
unfolding rest top_or
complete_UnaryPrefix (a_UnaryPrefix (IsUnaryPrefix.minus e0 h1)) =
    took here (bound (keep e0 (reads_part (a_Unary h1) (bound (made (finished refl))))))
complete_UnaryPrefix (a_UnaryPrefix (IsUnaryPrefix.view e0 h1 e3 h4)) =
    took (later here) (bound (keep e0 (reads_part (a_Unary h1) (bound (token e3 (reads_part (a_Type h4) (made (finished refl))))))))
complete_UnaryPrefix (a_UnaryPrefix (IsUnaryPrefix.is_fixed e0 h1)) =
    took (later (later here)) (bound (keep e0 (reads_part (a_Unary h1) (bound (made (finished refl))))))
