-- What a part means, one of its alternatives takes: types and signatures.
use Rattle.std.proofs.Common.{List, refl}
use Rattle.ec_lexer.specs.declared.token.Token.{Token}
use Rattle.ec_parser.specs.declared.grammar.Part.TheVariants as part
use Rattle.ec_parser.specs.declared.values.Values.{Values}
use Rattle.ec_parser.specs.Reads.{first as here, later}
use Rattle.ec_parser.specs.Filled.{rest, top_or}
use Rattle.ec_parser.specs.HasTree.{IsOpword, IsType, IsSig, AreMoreSigs, AreSigs, IsSigList, IsSigResult, AreSignatures, IsTypeobj}
use Rattle.ec_parser.proofs.Meaning.{Means, a_Name, a_Typeobject, a_Signatures, a_SignatureParameters, a_Sigs, a_MoreSigs}
use Rattle.ec_parser.proofs.Meaning.{a_SignatureResult, a_OperationWord, a_Sig, a_AfterSigName, a_Type, a_PlainType, IsPlainType}
use Rattle.ec_parser.proofs.Meaning.{IsAfterSigName}
use Rattle.ec_parser.proofs.Seq.{finished, token, keep, part as reads_part, bound, made, Taken, took, taken_as}
use Rattle.ec_parser.proofs.Lists.{grown_type, kept_type, grown_signature, kept_signature}

pub complete_Typeobject : {vs ws : Values} {ts us : List Token} → Means part.Typeobject vs ts us ws → Taken part.Typeobject vs ts us ws
unfolding rest top_or
complete_Typeobject (a_Typeobject (IsTypeobj.typeobj e0 h1 h3 e5 h6)) =
    took here (bound (token e0
    (reads_part (a_Name h1) (made (reads_part (a_Signatures h3) (bound (token e5 (reads_part (a_Name h6) (made (finished refl))))))))))

pub complete_Signatures : {vs ws : Values} {ts us : List Token} → Means part.Signatures vs ts us ws → Taken part.Signatures vs ts us ws
unfolding rest top_or
complete_Signatures (a_Signatures (AreSignatures.more h0 h1 h2 h3 h5)) =
    taken_as (grown_signature _ _ _)
    (took here (reads_part (a_OperationWord h0)
    (reads_part (a_Name h1)
    (reads_part (a_SignatureParameters h2)
    (reads_part (a_SignatureResult h3) (made (reads_part (a_Signatures h5) (finished refl))))))))
complete_Signatures (a_Signatures AreSignatures.none) = taken_as (kept_signature _) (took (later here) (finished refl))

pub complete_SignatureParameters : {vs ws : Values} {ts us : List Token} → Means part.SignatureParameters vs ts us ws →
    Taken part.SignatureParameters vs ts us ws
unfolding rest
complete_SignatureParameters (a_SignatureParameters (IsSigList.some e0 h2 e4)) =
    took here (bound (token e0 (made (reads_part (a_Sigs h2) (bound (token e4 (finished refl)))))))
complete_SignatureParameters (a_SignatureParameters IsSigList.none) = took (later here) (made (finished refl))

pub complete_Sigs : {vs ws : Values} {ts us : List Token} → Means part.Sigs vs ts us ws → Taken part.Sigs vs ts us ws
unfolding rest top_or
complete_Sigs (a_Sigs (AreSigs.some h0 h2)) =
    taken_as (grown_type _ _ _) (took here (reads_part (a_Sig h0) (made (reads_part (a_MoreSigs h2) (finished refl)))))
complete_Sigs (a_Sigs AreSigs.none) = taken_as (kept_type _) (took (later here) (finished refl))

pub complete_MoreSigs : {vs ws : Values} {ts us : List Token} → Means part.MoreSigs vs ts us ws → Taken part.MoreSigs vs ts us ws
unfolding rest top_or
complete_MoreSigs (a_MoreSigs (AreMoreSigs.more e0 h1 h3)) =
    taken_as (grown_type _ _ _) (took here (token e0 (reads_part (a_Sig h1) (made (reads_part (a_MoreSigs h3) (finished refl))))))
complete_MoreSigs (a_MoreSigs AreMoreSigs.none) = taken_as (kept_type _) (took (later here) (finished refl))

pub complete_SignatureResult : {vs ws : Values} {ts us : List Token} → Means part.SignatureResult vs ts us ws →
    Taken part.SignatureResult vs ts us ws
unfolding rest top_or
complete_SignatureResult (a_SignatureResult (IsSigResult.some e0 e1 h2 e4)) =
    took here (token e0 (bound (token e1 (reads_part (a_Sig h2) (bound (token e4 (made (finished refl))))))))
complete_SignatureResult (a_SignatureResult IsSigResult.none) = took (later here) (made (finished refl))

pub complete_OperationWord : {vs ws : Values} {ts us : List Token} → Means part.OperationWord vs ts us ws →
    Taken part.OperationWord vs ts us ws
unfolding rest
complete_OperationWord (a_OperationWord (IsOpword.operation e0)) = took here (token e0 (finished refl))
complete_OperationWord (a_OperationWord (IsOpword.function e0)) = took (later here) (token e0 (finished refl))

pub complete_Sig : {vs ws : Values} {ts us : List Token} → Means part.Sig vs ts us ws → Taken part.Sig vs ts us ws
unfolding rest top_or
complete_Sig (a_Sig (IsSig.unnamed (IsType.integer x0))) = took here (reads_part (a_PlainType (IsPlainType.integer x0)) (finished refl))
complete_Sig (a_Sig (IsSig.unnamed (IsType.boolean x0))) = took here (reads_part (a_PlainType (IsPlainType.boolean x0)) (finished refl))
complete_Sig (a_Sig (IsSig.unnamed (IsType.string x0))) = took here (reads_part (a_PlainType (IsPlainType.string x0)) (finished refl))
complete_Sig (a_Sig (IsSig.unnamed (IsType.any x0))) = took here (reads_part (a_PlainType (IsPlainType.any x0)) (finished refl))
complete_Sig (a_Sig (IsSig.unnamed (IsType.node x0))) = took here (reads_part (a_PlainType (IsPlainType.node x0)) (finished refl))
complete_Sig (a_Sig (IsSig.unnamed (IsType.vector x0 x1 x2 x3 x4 x5))) =
    took here (reads_part (a_PlainType (IsPlainType.vector x0 x1 x2 x3 x4 x5)) (finished refl))
complete_Sig (a_Sig (IsSig.unnamed (IsType.id h0))) =
    took (later here) (reads_part (a_Name h0) (reads_part (a_AfterSigName IsAfterSigName.alone) (finished refl)))
complete_Sig (a_Sig (IsSig.named h0 b c)) =
    took (later here) (reads_part (a_Name h0) (reads_part (a_AfterSigName (IsAfterSigName.typed b c)) (finished refl)))

pub complete_AfterSigName : {vs ws : Values} {ts us : List Token} → Means part.AfterSigName vs ts us ws →
    Taken part.AfterSigName vs ts us ws
unfolding rest top_or
complete_AfterSigName (a_AfterSigName (IsAfterSigName.typed e0 h1)) = took here (token e0 (reads_part (a_Type h1) (made (finished refl))))
complete_AfterSigName (a_AfterSigName IsAfterSigName.alone) = took (later here) (made (finished refl))

pub complete_Type : {vs ws : Values} {ts us : List Token} → Means part.Type vs ts us ws → Taken part.Type vs ts us ws
unfolding rest top_or
complete_Type (a_Type (IsType.integer x0)) = took here (reads_part (a_PlainType (IsPlainType.integer x0)) (finished refl))
complete_Type (a_Type (IsType.boolean x0)) = took here (reads_part (a_PlainType (IsPlainType.boolean x0)) (finished refl))
complete_Type (a_Type (IsType.string x0)) = took here (reads_part (a_PlainType (IsPlainType.string x0)) (finished refl))
complete_Type (a_Type (IsType.any x0)) = took here (reads_part (a_PlainType (IsPlainType.any x0)) (finished refl))
complete_Type (a_Type (IsType.node x0)) = took here (reads_part (a_PlainType (IsPlainType.node x0)) (finished refl))
complete_Type (a_Type (IsType.vector x0 x1 x2 x3 x4 x5)) =
    took here (reads_part (a_PlainType (IsPlainType.vector x0 x1 x2 x3 x4 x5)) (finished refl))
complete_Type (a_Type (IsType.id h0)) = took (later here) (reads_part (a_Name h0) (made (finished refl)))

pub complete_PlainType : {vs ws : Values} {ts us : List Token} → Means part.PlainType vs ts us ws → Taken part.PlainType vs ts us ws
unfolding rest top_or
complete_PlainType (a_PlainType (IsPlainType.integer e0)) = took here (keep e0 (made (finished refl)))
complete_PlainType (a_PlainType (IsPlainType.boolean e0)) = took (later here) (keep e0 (made (finished refl)))
complete_PlainType (a_PlainType (IsPlainType.string e0)) = took (later (later here)) (keep e0 (made (finished refl)))
complete_PlainType (a_PlainType (IsPlainType.any e0)) = took (later (later (later here))) (keep e0 (made (finished refl)))
complete_PlainType (a_PlainType (IsPlainType.node e0)) = took (later (later (later (later here)))) (keep e0 (made (finished refl)))
complete_PlainType (a_PlainType (IsPlainType.vector e0 e1 e2 e3 h4 e6)) =
    took (later (later (later (later (later here)))))
    (keep e0 (token e1 (token e2 (bound (token e3 (reads_part (a_Type h4) (bound (token e6 (made (finished refl))))))))))
