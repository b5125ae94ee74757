-- What an alternative of a part takes, the part means: expressions.
use Rattle.std.proofs.Common.{List}
use Rattle.ec_lexer.specs.declared.token.Token.{Token}
use Rattle.ec_parser.specs.declared.grammar.Part.TheVariants as part
use Rattle.ec_parser.specs.declared.grammar.Symbol.{Symbol}
use Rattle.ec_parser.specs.declared.values.Values.{Values}
use Rattle.ec_parser.specs.Rules.{rules}
use Rattle.ec_parser.specs.Reads.{IsRule, first as here, later}
use Rattle.ec_parser.specs.Filled.{rest, top_or}
use Rattle.ec_parser.specs.HasTree.{IsComparison, IsAdditive, IsMultiplicative, IsUnary, IsTerm, AreFactors, IsSum, AreAddends, IsRel}
use Rattle.ec_parser.specs.HasTree.{IsNot, IsAnd, AreNots, IsExpr, AreAnds}
use Rattle.ec_parser.proofs.Meaning.{Means, a_Type, a_Expression, a_OrTail, a_And, a_AndTail, a_Not, a_NotPrefix, a_Rel, a_CompareTail}
use Rattle.ec_parser.proofs.Meaning.{a_CompareWord, a_Sum, a_SumTail, a_SumWord, a_Term, a_TermTail, a_TermWord, a_Unary, a_UnaryPrefix}
use Rattle.ec_parser.proofs.Meaning.{a_Postfix, no_compare, IsNotPrefix, IsUnaryPrefix}
use Rattle.ec_parser.proofs.Seq.{Seq, finished, token, keep, part as reads_part, bound, made, into, same_as}
use Rattle.ec_parser.proofs.Lists.{grown_expression, kept_expression, grown_addend, kept_addend, grown_factor, kept_factor}
use Rattle.ec_parser.proofs.Phrases.{not_prefix, unary_prefix}

pub sound_Expression : {r : List Symbol} {vs ws : Values} {ts us : List Token} → IsRule r (rules part.Expression) → Seq r vs ts us ws →
    Means part.Expression vs ts us ws
unfolding rest top_or
sound_Expression here (reads_part (a_And h0) (made (reads_part (a_OrTail h2) (made (finished q))))) =
    into q (a_Expression (IsExpr.expr h0 h2))
sound_Expression (later x) _ = elim x [ ]

pub sound_OrTail : {r : List Symbol} {vs ws : Values} {ts us : List Token} → IsRule r (rules part.OrTail) → Seq r vs ts us ws →
    Means part.OrTail vs ts us ws
unfolding rest top_or
sound_OrTail here (token e0 (reads_part (a_And h1) (made (reads_part (a_OrTail h3) (finished q))))) =
    into q (same_as (grown_expression _ _ _) (a_OrTail (AreAnds.or_and e0 h1 h3)))
sound_OrTail (later here) (finished q) = into q (same_as (kept_expression _) (a_OrTail AreAnds.ands_end))
sound_OrTail (later (later x)) _ = elim x [ ]

pub sound_And : {r : List Symbol} {vs ws : Values} {ts us : List Token} → IsRule r (rules part.And) → Seq r vs ts us ws →
    Means part.And vs ts us ws
unfolding rest top_or
sound_And here (reads_part (a_Not h0) (made (reads_part (a_AndTail h2) (made (finished q))))) = into q (a_And (IsAnd.and h0 h2))
sound_And (later x) _ = elim x [ ]

pub sound_AndTail : {r : List Symbol} {vs ws : Values} {ts us : List Token} → IsRule r (rules part.AndTail) → Seq r vs ts us ws →
    Means part.AndTail vs ts us ws
unfolding rest top_or
sound_AndTail here (token e0 (reads_part (a_Not h1) (made (reads_part (a_AndTail h3) (finished q))))) =
    into q (same_as (grown_expression _ _ _) (a_AndTail (AreNots.and_not e0 h1 h3)))
sound_AndTail (later here) (finished q) = into q (same_as (kept_expression _) (a_AndTail AreNots.nots_end))
sound_AndTail (later (later x)) _ = elim x [ ]

pub sound_Not : {r : List Symbol} {vs ws : Values} {ts us : List Token} → IsRule r (rules part.Not) → Seq r vs ts us ws →
    Means part.Not vs ts us ws
unfolding rest
sound_Not here (reads_part (a_NotPrefix h0) (finished q)) = into q (a_Not (not_prefix h0))
sound_Not (later here) (reads_part (a_Rel h0) (finished q)) = into q (a_Not (IsNot.rel h0))
sound_Not (later (later x)) _ = elim x [ ]

pub sound_NotPrefix : {r : List Symbol} {vs ws : Values} {ts us : List Token} → IsRule r (rules part.NotPrefix) → Seq r vs ts us ws →
    Means part.NotPrefix vs ts us ws
unfolding rest top_or
sound_NotPrefix here (bound (keep e0 (reads_part (a_Not h1) (bound (made (finished q)))))) = into q (a_NotPrefix (IsNotPrefix.not e0 h1))
sound_NotPrefix (later x) _ = elim x [ ]

pub sound_Rel : {r : List Symbol} {vs ws : Values} {ts us : List Token} → IsRule r (rules part.Rel) → Seq r vs ts us ws →
    Means part.Rel vs ts us ws
unfolding rest top_or
sound_Rel here (reads_part (a_Sum h0) (reads_part no_compare (finished q))) = into q (a_Rel (IsRel.sum_alone h0))
sound_Rel here (reads_part (a_Sum h0) (reads_part (a_CompareTail b c) (finished q))) = into q (a_Rel (IsRel.compared h0 b c))
sound_Rel (later x) _ = elim x [ ]

pub sound_CompareTail : {r : List Symbol} {vs ws : Values} {ts us : List Token} → IsRule r (rules part.CompareTail) → Seq r vs ts us ws →
    Means part.CompareTail vs ts us ws
unfolding rest top_or
sound_CompareTail here (reads_part (a_CompareWord h0) (reads_part (a_Sum h1) (made (finished q)))) = into q (a_CompareTail h0 h1)
sound_CompareTail (later here) (finished q) = into q no_compare
sound_CompareTail (later (later x)) _ = elim x [ ]

pub sound_CompareWord : {r : List Symbol} {vs ws : Values} {ts us : List Token} → IsRule r (rules part.CompareWord) → Seq r vs ts us ws →
    Means part.CompareWord vs ts us ws
unfolding rest
sound_CompareWord here (keep e0 (made (finished q))) = into q (a_CompareWord (IsComparison.same e0))
sound_CompareWord (later here) (keep e0 (made (finished q))) = into q (a_CompareWord (IsComparison.not_same e0))
sound_CompareWord (later (later here)) (keep e0 (made (finished q))) = into q (a_CompareWord (IsComparison.equal e0))
sound_CompareWord (later (later (later here))) (keep e0 (made (finished q))) = into q (a_CompareWord (IsComparison.not_equal e0))
sound_CompareWord (later (later (later (later here)))) (keep e0 (made (finished q))) = into q (a_CompareWord (IsComparison.less e0))
sound_CompareWord (later (later (later (later (later here))))) (keep e0 (made (finished q))) =
    into q (a_CompareWord (IsComparison.less_equal e0))
sound_CompareWord (later (later (later (later (later (later here)))))) (keep e0 (made (finished q))) =
    into q (a_CompareWord (IsComparison.more e0))
sound_CompareWord (later (later (later (later (later (later (later here))))))) (keep e0 (made (finished q))) =
    into q (a_CompareWord (IsComparison.more_equal e0))
sound_CompareWord (later (later (later (later (later (later (later (later x)))))))) _ = elim x [ ]

pub sound_Sum : {r : List Symbol} {vs ws : Values} {ts us : List Token} → IsRule r (rules part.Sum) → Seq r vs ts us ws →
    Means part.Sum vs ts us ws
unfolding rest top_or
sound_Sum here (reads_part (a_Term h0) (made (reads_part (a_SumTail h2) (made (finished q))))) = into q (a_Sum (IsSum.sum h0 h2))
sound_Sum (later x) _ = elim x [ ]

pub sound_SumTail : {r : List Symbol} {vs ws : Values} {ts us : List Token} → IsRule r (rules part.SumTail) → Seq r vs ts us ws →
    Means part.SumTail vs ts us ws
unfolding rest top_or
sound_SumTail here (reads_part (a_SumWord h0) (reads_part (a_Term h1) (made (reads_part (a_SumTail h3) (finished q))))) =
    into q (same_as (grown_addend _ _ _) (a_SumTail (AreAddends.addend h0 h1 h3)))
sound_SumTail (later here) (finished q) = into q (same_as (kept_addend _) (a_SumTail AreAddends.addends_end))
sound_SumTail (later (later x)) _ = elim x [ ]

pub sound_SumWord : {r : List Symbol} {vs ws : Values} {ts us : List Token} → IsRule r (rules part.SumWord) → Seq r vs ts us ws →
    Means part.SumWord vs ts us ws
unfolding rest
sound_SumWord here (keep e0 (made (finished q))) = into q (a_SumWord (IsAdditive.plus e0))
sound_SumWord (later here) (keep e0 (made (finished q))) = into q (a_SumWord (IsAdditive.minus e0))
sound_SumWord (later (later here)) (keep e0 (made (finished q))) = into q (a_SumWord (IsAdditive.concat e0))
sound_SumWord (later (later (later x))) _ = elim x [ ]

pub sound_Term : {r : List Symbol} {vs ws : Values} {ts us : List Token} → IsRule r (rules part.Term) → Seq r vs ts us ws →
    Means part.Term vs ts us ws
unfolding rest top_or
sound_Term here (reads_part (a_Unary h0) (made (reads_part (a_TermTail h2) (made (finished q))))) = into q (a_Term (IsTerm.term h0 h2))
sound_Term (later x) _ = elim x [ ]

pub sound_TermTail : {r : List Symbol} {vs ws : Values} {ts us : List Token} → IsRule r (rules part.TermTail) → Seq r vs ts us ws →
    Means part.TermTail vs ts us ws
unfolding rest top_or
sound_TermTail here (reads_part (a_TermWord h0) (reads_part (a_Unary h1) (made (reads_part (a_TermTail h3) (finished q))))) =
    into q (same_as (grown_factor _ _ _) (a_TermTail (AreFactors.factor h0 h1 h3)))
sound_TermTail (later here) (finished q) = into q (same_as (kept_factor _) (a_TermTail AreFactors.factors_end))
sound_TermTail (later (later x)) _ = elim x [ ]

pub sound_TermWord : {r : List Symbol} {vs ws : Values} {ts us : List Token} → IsRule r (rules part.TermWord) → Seq r vs ts us ws →
    Means part.TermWord vs ts us ws
unfolding rest
sound_TermWord here (keep e0 (made (finished q))) = into q (a_TermWord (IsMultiplicative.times e0))
sound_TermWord (later here) (keep e0 (made (finished q))) = into q (a_TermWord (IsMultiplicative.over e0))
sound_TermWord (later (later here)) (keep e0 (made (finished q))) = into q (a_TermWord (IsMultiplicative.remainder e0))
sound_TermWord (later (later (later x))) _ = elim x [ ]

pub sound_Unary : {r : List Symbol} {vs ws : Values} {ts us : List Token} → IsRule r (rules part.Unary) → Seq r vs ts us ws →
    Means part.Unary vs ts us ws
unfolding rest
sound_Unary here (reads_part (a_UnaryPrefix h0) (finished q)) = into q (a_Unary (unary_prefix h0))
sound_Unary (later here) (reads_part (a_Postfix h0) (finished q)) = into q (a_Unary (IsUnary.postfix_alone h0))
sound_Unary (later (later x)) _ = elim x [ ]

pub sound_UnaryPrefix : {r : List Symbol} {vs ws : Values} {ts us : List Token} → IsRule r (rules part.UnaryPrefix) → Seq r vs ts us ws →
    Means part.UnaryPrefix vs ts us ws
unfolding rest top_or
sound_UnaryPrefix here (bound (keep e0 (reads_part (a_Unary h1) (bound (made (finished q)))))) =
    into q (a_UnaryPrefix (IsUnaryPrefix.minus e0 h1))
sound_UnaryPrefix (later here) (bound (keep e0 (reads_part (a_Unary h1) (bound (token e3 (reads_part (a_Type h4) (made (finished q)))))))) =
    into q (a_UnaryPrefix (IsUnaryPrefix.view e0 h1 e3 h4))
sound_UnaryPrefix (later (later here)) (bound (keep e0 (reads_part (a_Unary h1) (bound (made (finished q)))))) =
    into q (a_UnaryPrefix (IsUnaryPrefix.is_fixed e0 h1))
sound_UnaryPrefix (later (later (later x))) _ = elim x [ ]
