-- What an alternative of a part takes, the part means: programs and constants.
use Rattle.std.proofs.Common.{List}
use Rattle.ec_lexer.specs.declared.token.Token.{Token}
use Rattle.ec_parser.specs.declared.grammar.Part.TheVariants as part
use Rattle.ec_parser.specs.declared.grammar.Symbol.{Symbol}
use Rattle.ec_parser.specs.declared.values.Values.{Values}
use Rattle.ec_parser.specs.Rules.{rules}
use Rattle.ec_parser.specs.Reads.{IsRule, first as here, later}
use Rattle.ec_parser.specs.Filled.{rest, top_or}
use Rattle.ec_parser.specs.HasTree.{IsId, IsFlag, AreConstants}
use Rattle.ec_parser.proofs.Meaning.{Means, a_Program, a_Constants, a_ConstantRest, a_ConstantValue, a_AfterMonitor, a_TermRest, a_AndRest}
use Rattle.ec_parser.proofs.Meaning.{a_Name, a_Typeobject, a_Type, a_ClassRest, a_ObjectRest, a_Expression, a_OrTail, a_AndTail}
use Rattle.ec_parser.proofs.Meaning.{a_NotPrefix, a_CompareTail, a_SumTail, a_TermTail, a_UnaryPrefix, a_PostfixTail, a_Plain, no_compare}
use Rattle.ec_parser.proofs.Meaning.{IsValue, IsConstantRest, IsCompareTail, IsAndRest, IsTermRest, IsAfterMonitor}
use Rattle.ec_parser.proofs.Seq.{Seq, finished, token, keep, part as reads_part, made, into, same_as}
use Rattle.ec_parser.proofs.Lists.{grown_constant, kept_constant}
use Rattle.ec_parser.proofs.Phrases.{constants_more, class_of, not_prefix, unary_prefix, from_not, from_unary, value_from, after_monitor}

pub sound_Program : {r : List Symbol} {vs ws : Values} {ts us : List Token} → IsRule r (rules part.Program) → Seq r vs ts us ws →
    Means part.Program vs ts us ws
unfolding rest top_or
sound_Program here (made (reads_part (a_Constants h1) (made (finished q)))) = into q (a_Program h1)
sound_Program (later x) _ = elim x [ ]

pub sound_Constants : {r : List Symbol} {vs ws : Values} {ts us : List Token} → IsRule r (rules part.Constants) → Seq r vs ts us ws →
    Means part.Constants vs ts us ws
unfolding rest top_or
sound_Constants here (keep e0 (reads_part (a_Name h1) (reads_part (a_ConstantRest h2) (made (reads_part (a_Constants h4) (finished q)))))) =
    into q (same_as (grown_constant _ _ _) (a_Constants (constants_more e0 h1 h2 h4)))
sound_Constants (later here) (finished q) = into q (same_as (kept_constant _) (a_Constants AreConstants.none))
sound_Constants (later (later x)) _ = elim x [ ]

pub sound_ConstantRest : {r : List Symbol} {vs ws : Values} {ts us : List Token} → IsRule r (rules part.ConstantRest) → Seq r vs ts us ws →
    Means part.ConstantRest vs ts us ws
unfolding rest top_or
sound_ConstantRest here (token e0 (reads_part (a_Type h1) (made (token e3 (reads_part (a_Expression h4) (made (finished q))))))) =
    into q (a_ConstantRest (IsConstantRest.typed e0 h1 e3 h4))
sound_ConstantRest (later here) (made (token e1 (reads_part (a_ConstantValue h2) (finished q)))) =
    into q (a_ConstantRest (IsConstantRest.plain e1 h2))
sound_ConstantRest (later (later x)) _ = elim x [ ]

pub sound_ConstantValue : {r : List Symbol} {vs ws : Values} {ts us : List Token} → IsRule r (rules part.ConstantValue) →
    Seq r vs ts us ws → Means part.ConstantValue vs ts us ws
unfolding rest top_or
sound_ConstantValue here (made (reads_part (a_ClassRest h1) (made (finished q)))) =
    into q (a_ConstantValue (IsValue.class (class_of IsFlag.without h1)))
sound_ConstantValue (later here) (reads_part (a_Typeobject h0) (finished q)) = into q (a_ConstantValue (IsValue.typeobj h0))
sound_ConstantValue (later (later here)) (keep e0 (made (reads_part (a_AfterMonitor h2) (finished q)))) =
    into q (a_ConstantValue (after_monitor e0 h2))
sound_ConstantValue (later (later (later here))) (reads_part (a_NotPrefix h0) (reads_part (a_AndRest h1) (made (finished q)))) =
    into q (a_ConstantValue (IsValue.expr (from_not (not_prefix h0) h1)))
sound_ConstantValue (later (later (later (later here)))) (reads_part (a_UnaryPrefix h0) (reads_part (a_TermRest h1) (made (finished q)))) =
    into q (a_ConstantValue (IsValue.expr (from_unary (unary_prefix h0) h1)))
sound_ConstantValue (later (later (later (later (later here)))))
    (reads_part (a_Plain m0 h0 p0) (made (reads_part (a_PostfixTail h2) (made (reads_part (a_TermRest h4) (made (finished q))))))) =
    into q (a_ConstantValue (value_from m0 h0 h2 h4))
sound_ConstantValue (later (later (later (later (later (later x)))))) _ = elim x [ ]

pub sound_AfterMonitor : {r : List Symbol} {vs ws : Values} {ts us : List Token} → IsRule r (rules part.AfterMonitor) → Seq r vs ts us ws →
    Means part.AfterMonitor vs ts us ws
unfolding rest top_or
sound_AfterMonitor here (reads_part (a_ClassRest h0) (made (finished q))) = into q (a_AfterMonitor (IsAfterMonitor.class h0))
sound_AfterMonitor (later here)
    (reads_part (a_ObjectRest h0) (made (made (reads_part (a_PostfixTail h3) (made (reads_part (a_TermRest h5) (made (finished q)))))))) =
    into q (a_AfterMonitor (IsAfterMonitor.object h0 h3 h5))
sound_AfterMonitor (later (later x)) _ = elim x [ ]

pub sound_TermRest : {r : List Symbol} {vs ws : Values} {ts us : List Token} → IsRule r (rules part.TermRest) → Seq r vs ts us ws →
    Means part.TermRest vs ts us ws
unfolding rest top_or
sound_TermRest here (made
    (reads_part (a_TermTail h1)
    (made (made (reads_part (a_SumTail h4) (made (reads_part no_compare (reads_part (a_AndRest h7) (finished q))))))))) = into q
    (a_TermRest (IsTermRest.rest_of h1 h4 IsCompareTail.none h7))
sound_TermRest here (made
    (reads_part (a_TermTail h1)
    (made (made (reads_part (a_SumTail h4) (made (reads_part (a_CompareTail b c) (reads_part (a_AndRest h7) (finished q))))))))) = into
    q (a_TermRest (IsTermRest.rest_of h1 h4 (IsCompareTail.compared b c) h7))
sound_TermRest (later x) _ = elim x [ ]

pub sound_AndRest : {r : List Symbol} {vs ws : Values} {ts us : List Token} → IsRule r (rules part.AndRest) → Seq r vs ts us ws →
    Means part.AndRest vs ts us ws
unfolding rest top_or
sound_AndRest here (made (reads_part (a_AndTail h1) (made (made (reads_part (a_OrTail h4) (made (finished q))))))) =
    into q (a_AndRest (IsAndRest.rest_of h1 h4))
sound_AndRest (later x) _ = elim x [ ]

pub sound_Name : {r : List Symbol} {vs ws : Values} {ts us : List Token} → IsRule r (rules part.Name) → Seq r vs ts us ws →
    Means part.Name vs ts us ws
unfolding rest
sound_Name here (keep e0 (finished q)) = into q (a_Name (IsId.other e0))
sound_Name (later here) (keep e0 (finished q)) = into q (a_Name (IsId.create e0))
sound_Name (later (later here)) (keep e0 (finished q)) = into q (a_Name (IsId.putstring e0))
sound_Name (later (later (later here))) (keep e0 (finished q)) = into q (a_Name (IsId.count e0))
sound_Name (later (later (later (later x)))) _ = elim x [ ]
