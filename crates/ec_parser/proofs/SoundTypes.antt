-- What an alternative of a part takes, the part means: types and signatures.
use Rattle.std.proofs.Common.{List}
use Rattle.ec_lexer.specs.declared.token.Token.{Token}
use Rattle.ec_parser.specs.declared.grammar.Part.TheVariants as part
use Rattle.ec_parser.specs.declared.grammar.Symbol.{Symbol}
use Rattle.ec_parser.specs.declared.values.Values.{Values}
use Rattle.ec_parser.specs.Rules.{rules}
use Rattle.ec_parser.specs.Reads.{IsRule, first as here, later}
use Rattle.ec_parser.specs.Filled.{rest, top_or}
use Rattle.ec_parser.specs.HasTree.{IsOpword, IsType, IsSig, AreMoreSigs, AreSigs, IsSigList, IsSigResult, AreSignatures, IsTypeobj}
use Rattle.ec_parser.proofs.Meaning.{Means, a_Name, a_Typeobject, a_Signatures, a_SignatureParameters, a_Sigs, a_MoreSigs}
use Rattle.ec_parser.proofs.Meaning.{a_SignatureResult, a_OperationWord, a_Sig, a_AfterSigName, a_Type, a_PlainType, IsPlainType}
use Rattle.ec_parser.proofs.Meaning.{IsAfterSigName}
use Rattle.ec_parser.proofs.Seq.{Seq, finished, token, keep, part as reads_part, bound, made, into, same_as}
use Rattle.ec_parser.proofs.Lists.{grown_type, kept_type, grown_signature, kept_signature}
use Rattle.ec_parser.proofs.Phrases.{plain_type, sig_named}

pub sound_Typeobject : {r : List Symbol} {vs ws : Values} {ts us : List Token} → IsRule r (rules part.Typeobject) → Seq r vs ts us ws →
    Means part.Typeobject vs ts us ws
unfolding rest top_or
sound_Typeobject here
    (bound (token e0 (reads_part (a_Name h1)
    (made (reads_part (a_Signatures h3) (bound (token e5 (reads_part (a_Name h6) (made (finished q)))))))))) = into q
    (a_Typeobject (IsTypeobj.typeobj e0 h1 h3 e5 h6))
sound_Typeobject (later x) _ = elim x [ ]

pub sound_Signatures : {r : List Symbol} {vs ws : Values} {ts us : List Token} → IsRule r (rules part.Signatures) → Seq r vs ts us ws →
    Means part.Signatures vs ts us ws
unfolding rest top_or
sound_Signatures here
    (reads_part (a_OperationWord h0)
    (reads_part (a_Name h1)
    (reads_part (a_SignatureParameters h2)
    (reads_part (a_SignatureResult h3) (made (reads_part (a_Signatures h5) (finished q))))))) = into q
    (same_as (grown_signature _ _ _) (a_Signatures (AreSignatures.more h0 h1 h2 h3 h5)))
sound_Signatures (later here) (finished q) = into q (same_as (kept_signature _) (a_Signatures AreSignatures.none))
sound_Signatures (later (later x)) _ = elim x [ ]

pub sound_SignatureParameters : {r : List Symbol} {vs ws : Values} {ts us : List Token} → IsRule r (rules part.SignatureParameters) →
    Seq r vs ts us ws → Means part.SignatureParameters vs ts us ws
unfolding rest
sound_SignatureParameters here (bound (token e0 (made (reads_part (a_Sigs h2) (bound (token e4 (finished q))))))) =
    into q (a_SignatureParameters (IsSigList.some e0 h2 e4))
sound_SignatureParameters (later here) (made (finished q)) = into q (a_SignatureParameters IsSigList.none)
sound_SignatureParameters (later (later x)) _ = elim x [ ]

pub sound_Sigs : {r : List Symbol} {vs ws : Values} {ts us : List Token} → IsRule r (rules part.Sigs) → Seq r vs ts us ws →
    Means part.Sigs vs ts us ws
unfolding rest top_or
sound_Sigs here (reads_part (a_Sig h0) (made (reads_part (a_MoreSigs h2) (finished q)))) =
    into q (same_as (grown_type _ _ _) (a_Sigs (AreSigs.some h0 h2)))
sound_Sigs (later here) (finished q) = into q (same_as (kept_type _) (a_Sigs AreSigs.none))
sound_Sigs (later (later x)) _ = elim x [ ]

pub sound_MoreSigs : {r : List Symbol} {vs ws : Values} {ts us : List Token} → IsRule r (rules part.MoreSigs) → Seq r vs ts us ws →
    Means part.MoreSigs vs ts us ws
unfolding rest top_or
sound_MoreSigs here (token e0 (reads_part (a_Sig h1) (made (reads_part (a_MoreSigs h3) (finished q))))) =
    into q (same_as (grown_type _ _ _) (a_MoreSigs (AreMoreSigs.more e0 h1 h3)))
sound_MoreSigs (later here) (finished q) = into q (same_as (kept_type _) (a_MoreSigs AreMoreSigs.none))
sound_MoreSigs (later (later x)) _ = elim x [ ]

pub sound_SignatureResult : {r : List Symbol} {vs ws : Values} {ts us : List Token} → IsRule r (rules part.SignatureResult) →
    Seq r vs ts us ws → Means part.SignatureResult vs ts us ws
unfolding rest top_or
sound_SignatureResult here (token e0 (bound (token e1 (reads_part (a_Sig h2) (bound (token e4 (made (finished q)))))))) =
    into q (a_SignatureResult (IsSigResult.some e0 e1 h2 e4))
sound_SignatureResult (later here) (made (finished q)) = into q (a_SignatureResult IsSigResult.none)
sound_SignatureResult (later (later x)) _ = elim x [ ]

pub sound_OperationWord : {r : List Symbol} {vs ws : Values} {ts us : List Token} → IsRule r (rules part.OperationWord) →
    Seq r vs ts us ws → Means part.OperationWord vs ts us ws
unfolding rest
sound_OperationWord here (token e0 (finished q)) = into q (a_OperationWord (IsOpword.operation e0))
sound_OperationWord (later here) (token e0 (finished q)) = into q (a_OperationWord (IsOpword.function e0))
sound_OperationWord (later (later x)) _ = elim x [ ]

pub sound_Sig : {r : List Symbol} {vs ws : Values} {ts us : List Token} → IsRule r (rules part.Sig) → Seq r vs ts us ws →
    Means part.Sig vs ts us ws
unfolding rest top_or
sound_Sig here (reads_part (a_PlainType h0) (finished q)) = into q (a_Sig (IsSig.unnamed (plain_type h0)))
sound_Sig (later here) (reads_part (a_Name h0) (reads_part (a_AfterSigName h1) (finished q))) = into q (a_Sig (sig_named h0 h1))
sound_Sig (later (later x)) _ = elim x [ ]

pub sound_AfterSigName : {r : List Symbol} {vs ws : Values} {ts us : List Token} → IsRule r (rules part.AfterSigName) → Seq r vs ts us ws →
    Means part.AfterSigName vs ts us ws
unfolding rest top_or
sound_AfterSigName here (token e0 (reads_part (a_Type h1) (made (finished q)))) = into q (a_AfterSigName (IsAfterSigName.typed e0 h1))
sound_AfterSigName (later here) (made (finished q)) = into q (a_AfterSigName IsAfterSigName.alone)
sound_AfterSigName (later (later x)) _ = elim x [ ]

pub sound_Type : {r : List Symbol} {vs ws : Values} {ts us : List Token} → IsRule r (rules part.Type) → Seq r vs ts us ws →
    Means part.Type vs ts us ws
unfolding rest top_or
sound_Type here (reads_part (a_PlainType h0) (finished q)) = into q (a_Type (plain_type h0))
sound_Type (later here) (reads_part (a_Name h0) (made (finished q))) = into q (a_Type (IsType.id h0))
sound_Type (later (later x)) _ = elim x [ ]

pub sound_PlainType : {r : List Symbol} {vs ws : Values} {ts us : List Token} → IsRule r (rules part.PlainType) → Seq r vs ts us ws →
    Means part.PlainType vs ts us ws
unfolding rest top_or
sound_PlainType here (keep e0 (made (finished q))) = into q (a_PlainType (IsPlainType.integer e0))
sound_PlainType (later here) (keep e0 (made (finished q))) = into q (a_PlainType (IsPlainType.boolean e0))
sound_PlainType (later (later here)) (keep e0 (made (finished q))) = into q (a_PlainType (IsPlainType.string e0))
sound_PlainType (later (later (later here))) (keep e0 (made (finished q))) = into q (a_PlainType (IsPlainType.any e0))
sound_PlainType (later (later (later (later here)))) (keep e0 (made (finished q))) = into q (a_PlainType (IsPlainType.node e0))
sound_PlainType (later (later (later (later (later here)))))
    (keep e0 (token e1 (token e2 (bound (token e3 (reads_part (a_Type h4) (bound (token e6 (made (finished q)))))))))) =
    into q (a_PlainType (IsPlainType.vector e0 e1 e2 e3 h4 e6))
sound_PlainType (later (later (later (later (later (later x)))))) _ = elim x [ ]
