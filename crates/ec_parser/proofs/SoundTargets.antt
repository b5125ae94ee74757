-- What an alternative of a part takes, the part means: the rest of a statement behind its first primary.
use Rattle.std.proofs.Common.{List}
use Rattle.ec_lexer.specs.declared.token.Token.{Token}
use Rattle.ec_parser.specs.declared.grammar.Part.TheVariants as part
use Rattle.ec_parser.specs.declared.grammar.Symbol.{Symbol}
use Rattle.ec_parser.specs.declared.values.Values.{Values}
use Rattle.ec_parser.specs.Rules.{rules}
use Rattle.ec_parser.specs.Reads.{IsRule, first as here, later}
use Rattle.ec_parser.specs.Chains.{postfix_of}
use Rattle.ec_parser.specs.Filled.{rest, top_or}
use Rattle.ec_parser.proofs.Meaning.{Means, a_Name, a_AfterName, a_AfterOther, a_AfterIndex, a_AfterField, a_AfterCall, a_Expression}
use Rattle.ec_parser.proofs.Meaning.{a_Arguments, IsRest, IsAfterField}
use Rattle.ec_parser.proofs.Seq.{Seq, finished, token, keep, part as reads_part, bound, made, into}
use Rattle.ec_parser.proofs.Phrases.{after_field}

pub sound_AfterName : {r : List Symbol} {vs ws : Values} {ts us : List Token} → IsRule r (rules part.AfterName) → Seq r vs ts us ws →
    Means part.AfterName vs ts us ws
unfolding rest top_or postfix_of
sound_AfterName here (token e0 (reads_part (a_Expression h1) (made (finished q)))) = into q (a_AfterName (IsRest.assign tt e0 h1))
sound_AfterName (later here) (made (token e1 (reads_part (a_Name h2) (reads_part (a_AfterField h3) (finished q))))) =
    into q (a_AfterName (after_field e1 h2 h3))
sound_AfterName (later (later here))
    (made (bound (keep e1 (reads_part (a_Expression h2) (bound (token e4 (made (reads_part (a_AfterIndex h6) (finished q))))))))) =
    into q (a_AfterName (IsRest.index tt e1 h2 e4 h6))
sound_AfterName (later (later (later x))) _ = elim x [ ]

pub sound_AfterOther : {r : List Symbol} {vs ws : Values} {ts us : List Token} → IsRule r (rules part.AfterOther) → Seq r vs ts us ws →
    Means part.AfterOther vs ts us ws
unfolding rest top_or
sound_AfterOther here (token e0 (reads_part (a_Name h1) (reads_part (a_AfterField h2) (finished q)))) =
    into q (a_AfterOther (after_field e0 h1 h2))
sound_AfterOther (later here)
    (bound (keep e0 (reads_part (a_Expression h1) (bound (token e3 (made (reads_part (a_AfterIndex h5) (finished q)))))))) =
    into q (a_AfterOther (IsRest.index tt e0 h1 e3 h5))
sound_AfterOther (later (later x)) _ = elim x [ ]

pub sound_AfterIndex : {r : List Symbol} {vs ws : Values} {ts us : List Token} → IsRule r (rules part.AfterIndex) → Seq r vs ts us ws →
    Means part.AfterIndex vs ts us ws
unfolding rest top_or
sound_AfterIndex here (made (token e1 (reads_part (a_Expression h2) (made (finished q))))) = into q (a_AfterIndex (IsRest.assign tt e1 h2))
sound_AfterIndex (later here) (token e0 (reads_part (a_Name h1) (reads_part (a_AfterField h2) (finished q)))) =
    into q (a_AfterIndex (after_field e0 h1 h2))
sound_AfterIndex (later (later here))
    (bound (keep e0 (reads_part (a_Expression h1) (bound (token e3 (made (reads_part (a_AfterIndex h5) (finished q)))))))) =
    into q (a_AfterIndex (IsRest.index tt e0 h1 e3 h5))
sound_AfterIndex (later (later (later x))) _ = elim x [ ]

pub sound_AfterField : {r : List Symbol} {vs ws : Values} {ts us : List Token} → IsRule r (rules part.AfterField) → Seq r vs ts us ws →
    Means part.AfterField vs ts us ws
unfolding rest top_or
sound_AfterField here
    (bound (token e0 (made (reads_part (a_Arguments h2) (bound (token e4 (made (reads_part (a_AfterCall h6) (finished q))))))))) =
    into q (a_AfterField (IsAfterField.call e0 h2 e4 h6))
sound_AfterField (later here) (made (token e1 (reads_part (a_Name h2) (reads_part (a_AfterField h3) (finished q))))) =
    into q (a_AfterField (IsAfterField.field (after_field e1 h2 h3)))
sound_AfterField (later (later here)) (made (made (made (finished q)))) = into q (a_AfterField (IsAfterField.field (IsRest.invoke tt)))
sound_AfterField (later (later (later x))) _ = elim x [ ]

pub sound_AfterCall : {r : List Symbol} {vs ws : Values} {ts us : List Token} → IsRule r (rules part.AfterCall) → Seq r vs ts us ws →
    Means part.AfterCall vs ts us ws
unfolding rest top_or
sound_AfterCall here (bound
    (keep e0 (reads_part (a_Expression h1) (bound (token e3 (made (reads_part (a_AfterIndex h5) (finished q)))))))) = into q
    (a_AfterCall (IsRest.index tt e0 h1 e3 h5))
sound_AfterCall (later here) (token e0 (reads_part (a_Name h1) (reads_part (a_AfterField h2) (finished q)))) =
    into q (a_AfterCall (after_field e0 h1 h2))
sound_AfterCall (later (later here)) (made (made (finished q))) = into q (a_AfterCall (IsRest.invoke tt))
sound_AfterCall (later (later (later x))) _ = elim x [ ]
