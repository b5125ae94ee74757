-- What an alternative of a part takes, the part means: blocks and statements.
use Rattle.std.proofs.Common.{List}
use Rattle.ec_lexer.specs.declared.token.Token.{Token}
use Rattle.ec_parser.specs.declared.grammar.Part.TheVariants as part
use Rattle.ec_parser.specs.declared.grammar.Symbol.{Symbol}
use Rattle.ec_parser.specs.declared.values.Values.{Values}
use Rattle.ec_parser.specs.Rules.{rules}
use Rattle.ec_parser.specs.Reads.{IsRule, first as here, later}
use Rattle.ec_parser.specs.Chains.{postfix_of}
use Rattle.ec_parser.specs.Filled.{rest, top_or}
use Rattle.ec_parser.specs.HasTree.{IsPrimary, IsStmt, AreArms, IsElse, IsBlock}
use Rattle.ec_parser.proofs.Meaning.{Means, a_Name, a_Type, a_ObjectRest, a_Initial, a_TypedValue, a_Block, a_Statements, a_Declaration}
use Rattle.ec_parser.proofs.Meaning.{a_Statement, a_AfterName, a_AfterOther, a_ElseIfs, a_Else, a_When, a_Expression, a_OtherPlain}
use Rattle.ec_parser.proofs.Meaning.{IsDeclaration, IsWhen}
use Rattle.ec_parser.proofs.Seq.{Seq, finished, token, keep, part as reads_part, bound, made, into, same_as}
use Rattle.ec_parser.proofs.Lists.{grown_statement, kept_statement, grown_arm, kept_arm}
use Rattle.ec_parser.proofs.Phrases.{object_of, block_more, exit_stmt, rest_stmt, name_stmt}

pub sound_Block : {r : List Symbol} {vs ws : Values} {ts us : List Token} → IsRule r (rules part.Block) → Seq r vs ts us ws →
    Means part.Block vs ts us ws
unfolding rest
sound_Block here (made (reads_part (a_Statements h1) (finished q))) = into q (a_Block h1)
sound_Block (later x) _ = elim x [ ]

pub sound_Statements : {r : List Symbol} {vs ws : Values} {ts us : List Token} → IsRule r (rules part.Statements) → Seq r vs ts us ws →
    Means part.Statements vs ts us ws
unfolding rest top_or
sound_Statements here (reads_part (a_Declaration h0) (made (reads_part (a_Statements h2) (finished q)))) =
    into q (same_as (grown_statement _ _ _) (a_Statements (block_more h0 h2)))
sound_Statements (later here) (finished q) = into q (same_as (kept_statement _) (a_Statements IsBlock.block_end))
sound_Statements (later (later x)) _ = elim x [ ]

pub sound_Declaration : {r : List Symbol} {vs ws : Values} {ts us : List Token} → IsRule r (rules part.Declaration) → Seq r vs ts us ws →
    Means part.Declaration vs ts us ws
unfolding rest top_or
sound_Declaration here
    (token e0 (reads_part (a_Name h1) (token e2 (reads_part (a_Type h3) (reads_part (a_Initial h4) (made (finished q))))))) =
    into q (a_Declaration (IsDeclaration.var e0 h1 e2 h3 h4))
sound_Declaration (later here) (token e0 (reads_part (a_Name h1) (reads_part (a_TypedValue h2) (made (finished q))))) =
    into q (a_Declaration (IsDeclaration.const e0 h1 h2))
sound_Declaration (later (later here)) (reads_part (a_Statement h0) (finished q)) = into q (a_Declaration (IsDeclaration.stmt h0))
sound_Declaration (later (later (later x))) _ = elim x [ ]

pub sound_Statement : {r : List Symbol} {vs ws : Values} {ts us : List Token} → IsRule r (rules part.Statement) → Seq r vs ts us ws →
    Means part.Statement vs ts us ws
unfolding rest top_or postfix_of
sound_Statement here (reads_part (a_Name h0) (made (reads_part (a_AfterName h2) (finished q)))) = into q (a_Statement (name_stmt h0 h2))
sound_Statement (later here) (reads_part (a_OtherPlain h0 p0) (made (reads_part (a_AfterOther h2) (finished q)))) =
    into q (a_Statement (rest_stmt h0 h2))
sound_Statement (later (later here))
    (keep e0 (made (reads_part (a_ObjectRest h2) (made (made (reads_part (a_AfterOther h5) (finished q))))))) =
    into q (a_Statement (rest_stmt (IsPrimary.object (object_of e0 h2)) h5))
sound_Statement (later (later (later here)))
    (keep e0 (token e1 (token e2 (bound (token e3 (reads_part (a_Expression h4) (bound (token e6 (made (finished q)))))))))) =
    into q (a_Statement (IsStmt.print e0 e1 e2 e3 h4 e6))
sound_Statement (later (later (later (later here))))
    (bound (keep e0 (made
    (reads_part (a_Expression h2)
    (token e3 (reads_part (a_Block h4)
    (made (reads_part (a_ElseIfs h6) (reads_part (a_Else h7) (bound (token e9 (token e10 (made (finished q)))))))))))))) = into
    q (a_Statement (IsStmt.if_word e0 h2 e3 h4 h6 h7 e9 e10))
sound_Statement (later (later (later (later (later here)))))
    (bound (keep e0 (reads_part (a_Block h1) (bound (token e3 (token e4 (made (finished q)))))))) =
    into q (a_Statement (IsStmt.loop e0 h1 e3 e4))
sound_Statement (later (later (later (later (later (later here)))))) (keep e0 (reads_part (a_When h1) (made (finished q)))) =
    into q (a_Statement (exit_stmt e0 h1))
sound_Statement (later (later (later (later (later (later (later here))))))) (keep e0 (made (finished q))) =
    into q (a_Statement (IsStmt.return e0))
sound_Statement (later (later (later (later (later (later (later (later here))))))))
    (keep e0 (reads_part (a_Expression h1) (made (finished q)))) = into q (a_Statement (IsStmt.assert e0 h1))
sound_Statement (later (later (later (later (later (later (later (later (later here)))))))))
    (keep e0 (reads_part (a_Expression h1) (token e2 (reads_part (a_Expression h3) (made (finished q)))))) =
    into q (a_Statement (IsStmt.move e0 h1 e2 h3))
sound_Statement (later (later (later (later (later (later (later (later (later (later here))))))))))
    (keep e0 (reads_part (a_Expression h1) (token e2 (reads_part (a_Expression h3) (made (finished q)))))) =
    into q (a_Statement (IsStmt.fix e0 h1 e2 h3))
sound_Statement (later (later (later (later (later (later (later (later (later (later (later here)))))))))))
    (keep e0 (reads_part (a_Expression h1) (token e2 (reads_part (a_Expression h3) (made (finished q)))))) =
    into q (a_Statement (IsStmt.refix e0 h1 e2 h3))
sound_Statement (later (later (later (later (later (later (later (later (later (later (later (later here))))))))))))
    (keep e0 (reads_part (a_Expression h1) (made (finished q)))) = into q (a_Statement (IsStmt.unfix e0 h1))
sound_Statement (later (later (later (later (later (later (later (later (later (later (later (later (later here)))))))))))))
    (keep e0 (reads_part (a_Name h1) (made (finished q)))) = into q (a_Statement (IsStmt.wait e0 h1))
sound_Statement (later (later (later (later (later (later (later (later (later (later (later (later (later (later here))))))))))))))
    (keep e0 (reads_part (a_Name h1) (made (finished q)))) = into q (a_Statement (IsStmt.signal e0 h1))
sound_Statement (later (later (later (later (later (later (later (later (later (later (later (later (later (later (later x)))))))))))))))
    _ = elim x [ ]

pub sound_ElseIfs : {r : List Symbol} {vs ws : Values} {ts us : List Token} → IsRule r (rules part.ElseIfs) → Seq r vs ts us ws →
    Means part.ElseIfs vs ts us ws
unfolding rest top_or
sound_ElseIfs here (token e0
    (reads_part (a_Expression h1) (token e2 (reads_part (a_Block h3) (made (reads_part (a_ElseIfs h5) (finished q))))))) = into q
    (same_as (grown_arm _ _ _) (a_ElseIfs (AreArms.elseif e0 h1 e2 h3 h5)))
sound_ElseIfs (later here) (finished q) = into q (same_as (kept_arm _) (a_ElseIfs AreArms.arms_end))
sound_ElseIfs (later (later x)) _ = elim x [ ]

pub sound_Else : {r : List Symbol} {vs ws : Values} {ts us : List Token} → IsRule r (rules part.Else) → Seq r vs ts us ws →
    Means part.Else vs ts us ws
unfolding rest top_or
sound_Else here (token e0 (reads_part (a_Block h1) (made (finished q)))) = into q (a_Else (IsElse.else_block e0 h1))
sound_Else (later here) (made (finished q)) = into q (a_Else IsElse.no_else)
sound_Else (later (later x)) _ = elim x [ ]

pub sound_When : {r : List Symbol} {vs ws : Values} {ts us : List Token} → IsRule r (rules part.When) → Seq r vs ts us ws →
    Means part.When vs ts us ws
unfolding rest top_or
sound_When here (token e0 (reads_part (a_Expression h1) (made (finished q)))) = into q (a_When (IsWhen.some e0 h1))
sound_When (later here) (made (finished q)) = into q (a_When IsWhen.none)
sound_When (later (later x)) _ = elim x [ ]
