-- What a part means, one of its alternatives takes: the rest of a statement behind its first primary.
use Rattle.std.proofs.Common.{List, refl}
use Rattle.ec_lexer.specs.declared.token.Token.{Token}
use Rattle.ec_parser.specs.declared.grammar.Part.TheVariants as part
use Rattle.ec_parser.specs.declared.values.Values.{Values}
use Rattle.ec_parser.specs.Reads.{first as here, later}
use Rattle.ec_parser.specs.Chains.{postfix_of}
use Rattle.ec_parser.specs.Filled.{rest, top_or}
use Rattle.ec_parser.proofs.Meaning.{Means, a_Name, a_AfterName, a_AfterOther, a_AfterIndex, a_AfterField, a_AfterCall, a_Expression}
use Rattle.ec_parser.proofs.Meaning.{a_Arguments, IsRest, IsAfterField}
use Rattle.ec_parser.proofs.Seq.{finished, token, keep, part as reads_part, bound, made, Taken, took}

pub complete_AfterName : {vs ws : Values} {ts us : List Token} → Means part.AfterName vs ts us ws → Taken part.AfterName vs ts us ws
unfolding rest top_or postfix_of
complete_AfterName (a_AfterName (IsRest.assign _ e0 h1)) = took here (token e0 (reads_part (a_Expression h1) (made (finished refl))))
complete_AfterName (a_AfterName (IsRest.field e1 h2 c)) =
    took (later here) (made (token e1 (reads_part (a_Name h2) (reads_part (a_AfterField (IsAfterField.field c)) (finished refl)))))
complete_AfterName (a_AfterName (IsRest.call e1 h2 c d f g)) =
    took (later here) (made (token e1 (reads_part (a_Name h2) (reads_part (a_AfterField (IsAfterField.call c d f g)) (finished refl)))))
complete_AfterName (a_AfterName (IsRest.index _ e1 h2 e4 h6)) =
    took (later (later here))
    (made (bound (keep e1 (reads_part (a_Expression h2) (bound (token e4 (made (reads_part (a_AfterIndex h6) (finished refl)))))))))
complete_AfterName (a_AfterName (IsRest.invoke n)) = absurd n

pub complete_AfterOther : {vs ws : Values} {ts us : List Token} → Means part.AfterOther vs ts us ws → Taken part.AfterOther vs ts us ws
unfolding rest top_or
complete_AfterOther (a_AfterOther (IsRest.field e0 h1 c)) =
    took here (token e0 (reads_part (a_Name h1) (reads_part (a_AfterField (IsAfterField.field c)) (finished refl))))
complete_AfterOther (a_AfterOther (IsRest.call e0 h1 c d f g)) =
    took here (token e0 (reads_part (a_Name h1) (reads_part (a_AfterField (IsAfterField.call c d f g)) (finished refl))))
complete_AfterOther (a_AfterOther (IsRest.index _ e0 h1 e3 h5)) =
    took (later here) (bound
    (keep e0 (reads_part (a_Expression h1) (bound (token e3 (made (reads_part (a_AfterIndex h5) (finished refl))))))))
complete_AfterOther (a_AfterOther (IsRest.invoke n)) = absurd n
complete_AfterOther (a_AfterOther (IsRest.assign n b c)) = absurd n

pub complete_AfterIndex : {vs ws : Values} {ts us : List Token} → Means part.AfterIndex vs ts us ws → Taken part.AfterIndex vs ts us ws
unfolding rest top_or
complete_AfterIndex (a_AfterIndex (IsRest.assign _ e1 h2)) =
    took here (made (token e1 (reads_part (a_Expression h2) (made (finished refl)))))
complete_AfterIndex (a_AfterIndex (IsRest.field e0 h1 c)) =
    took (later here) (token e0 (reads_part (a_Name h1) (reads_part (a_AfterField (IsAfterField.field c)) (finished refl))))
complete_AfterIndex (a_AfterIndex (IsRest.call e0 h1 c d f g)) =
    took (later here) (token e0 (reads_part (a_Name h1) (reads_part (a_AfterField (IsAfterField.call c d f g)) (finished refl))))
complete_AfterIndex (a_AfterIndex (IsRest.index _ e0 h1 e3 h5)) =
    took (later (later here))
    (bound (keep e0 (reads_part (a_Expression h1) (bound (token e3 (made (reads_part (a_AfterIndex h5) (finished refl))))))))
complete_AfterIndex (a_AfterIndex (IsRest.invoke n)) = absurd n

pub complete_AfterField : {vs ws : Values} {ts us : List Token} → Means part.AfterField vs ts us ws → Taken part.AfterField vs ts us ws
unfolding rest top_or
complete_AfterField (a_AfterField (IsAfterField.call e0 h2 e4 h6)) =
    took here (bound (token e0
    (made (reads_part (a_Arguments h2) (bound (token e4 (made (reads_part (a_AfterCall h6) (finished refl)))))))))
complete_AfterField (a_AfterField (IsAfterField.field (IsRest.field e1 h2 c))) =
    took (later here) (made (token e1 (reads_part (a_Name h2) (reads_part (a_AfterField (IsAfterField.field c)) (finished refl)))))
complete_AfterField (a_AfterField (IsAfterField.field (IsRest.call e1 h2 c d f g))) =
    took (later here) (made (token e1 (reads_part (a_Name h2) (reads_part (a_AfterField (IsAfterField.call c d f g)) (finished refl)))))
complete_AfterField (a_AfterField (IsAfterField.field (IsRest.invoke _))) = took (later (later here)) (made (made (made (finished refl))))
complete_AfterField (a_AfterField (IsAfterField.field (IsRest.index n b c d f))) = absurd n
complete_AfterField (a_AfterField (IsAfterField.field (IsRest.assign n b c))) = absurd n

pub complete_AfterCall : {vs ws : Values} {ts us : List Token} → Means part.AfterCall vs ts us ws → Taken part.AfterCall vs ts us ws
unfolding rest top_or
complete_AfterCall (a_AfterCall (IsRest.index _ e0 h1 e3 h5)) =
    took here (bound (keep e0 (reads_part (a_Expression h1) (bound (token e3 (made (reads_part (a_AfterIndex h5) (finished refl))))))))
complete_AfterCall (a_AfterCall (IsRest.field e0 h1 c)) =
    took (later here) (token e0 (reads_part (a_Name h1) (reads_part (a_AfterField (IsAfterField.field c)) (finished refl))))
complete_AfterCall (a_AfterCall (IsRest.call e0 h1 c d f g)) =
    took (later here) (token e0 (reads_part (a_Name h1) (reads_part (a_AfterField (IsAfterField.call c d f g)) (finished refl))))
complete_AfterCall (a_AfterCall (IsRest.invoke _)) = took (later (later here)) (made (made (finished refl)))
complete_AfterCall (a_AfterCall (IsRest.assign n b c)) = absurd n
