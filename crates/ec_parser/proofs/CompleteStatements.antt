-- What a part means, one of its alternatives takes: blocks and statements.
use Rattle.std.proofs.Common.{List, [], ◌∷◌, ◌++◌, refl, sym, subst, append-nil}
use Rattle.ec_ast.specs.declared.Expression.{Expression}
use Rattle.ec_ast.specs.declared.Link.{Link}
use Rattle.ec_ast.specs.declared.Link.TheVariants as link
use Rattle.ec_ast.specs.declared.Statement.{Statement}
use Rattle.ec_ast.specs.declared.Statement.TheVariants as s
use Rattle.ec_lexer.specs.declared.token.Token.{Token}
use Rattle.ec_parser.specs.declared.terminal.Terminal.TheVariants as t
use Rattle.ec_parser.specs.declared.grammar.Part.TheVariants as part
use Rattle.ec_parser.specs.declared.values.Values.{Values}
use Rattle.ec_parser.specs.Reads.{first as here, later}
use Rattle.ec_parser.specs.Chains.{postfix_of}
use Rattle.ec_parser.specs.Filled.{rest, top_or}
use Rattle.ec_parser.specs.HasTree.{Is, IsTarget, IsInvocation, an_index, a_call, a_field, Ending, IsFlag, IsPrimary, IsPostfix, AreLinks}
use Rattle.ec_parser.specs.HasTree.{IsExpr, IsStmt, AreArms, IsElse, IsBlock, IsObject}
use Rattle.ec_parser.proofs.Meaning.{Means, a_Name, a_Type, a_ObjectRest, a_Initial, a_TypedValue, a_Block, a_Statements, a_Declaration}
use Rattle.ec_parser.proofs.Meaning.{a_Statement, a_AfterName, a_AfterOther, a_ElseIfs, a_Else, a_When, a_Expression, a_OtherPlain}
use Rattle.ec_parser.proofs.Meaning.{IsObjectRest, IsTypedValue, IsDeclaration, IsWhen, IsRest, put_statement}
use Rattle.ec_parser.proofs.Seq.{finished, token, keep, part as reads_part, bound, made, Taken, took, taken_as}
use Rattle.ec_parser.proofs.Lists.{grown_statement, kept_statement, grown_arm, kept_arm}
use Rattle.ec_parser.proofs.Phrases.{differs, moved}

-- what stands behind the first links of a statement, from all its links
rests : {first : Expression} {before last : Ending} {links : List Link} {a : Token} {us vs : List Token} {y : Expression} {ts : List Token}
    {more : List Link} →
    AreLinks before ts (a ∷ us) more last → IsTarget last → Is t.Arrow a → IsExpr us vs y →
    IsRest first before links ts vs (s.Assign (postfix_of first (links ++ more)) y)
rests {first = first} {before = before} {links = links} {a = a} {us = us} {vs = vs} {y = y} AreLinks.links_end n f g =
    subst (λ ls. IsRest first before links (a ∷ us) vs (s.Assign (postfix_of first ls) y)) (sym (append-nil links)) (IsRest.assign n f g)
rests {first = first} {links = links} {vs = vs} {y = y} (AreLinks.field {us = ts} {name = name} {links = more} e h l) n f g =
    IsRest.field e h (subst (λ z. IsRest first a_field (links ++ link.Call name [] ∷ []) ts vs (s.Assign z y))
    (moved first links (link.Call name []) more) (rests l n f g))
rests {first = first} {links = links} {vs = vs} {y = y} (AreLinks.call {us = ts} {name = name} {xs = xs} {links = more} e h i j o l) n f g =
    IsRest.call e h i j o
    (subst (λ z. IsRest first a_call (links ++ link.Call name xs ∷ []) ts vs (s.Assign z y))
    (moved first links (link.Call name xs) more) (rests l n f g))
rests {first = first} {links = links} {vs = vs} {y = y} (AreLinks.index {a = a} {us = ts} {x = x} {links = more} m e h i l) n f g =
    IsRest.index m e h i (subst (λ z. IsRest first an_index (links ++ link.Index x a.at ∷ []) ts vs (s.Assign z y))
    (moved first links (link.Index x a.at) more) (rests l n f g))

invokes : {first : Expression} {before last : Ending} {links : List Link} {us : List Token} {ts : List Token} {more : List Link} →
    AreLinks before ts us more last → IsInvocation last → IsRest first before links ts us (s.Invoke (postfix_of first (links ++ more)))
invokes {first = first} {before = before} {links = links} {us = us} AreLinks.links_end n =
    subst (λ ls. IsRest first before links us us (s.Invoke (postfix_of first ls))) (sym (append-nil links)) (IsRest.invoke n)
invokes {first = first} {links = links} {us = us} (AreLinks.field {us = ts} {name = name} {links = more} e h l) n =
    IsRest.field e h (subst (λ z. IsRest first a_field (links ++ link.Call name [] ∷ []) ts us (s.Invoke z))
    (moved first links (link.Call name []) more) (invokes l n))
invokes {first = first} {links = links} {us = us} (AreLinks.call {us = ts} {name = name} {xs = xs} {links = more} e h i j o l) n =
    IsRest.call e h i j o
    (subst (λ z. IsRest first a_call (links ++ link.Call name xs ∷ []) ts us (s.Invoke z)) (moved first links (link.Call name xs) more)
    (invokes l n))
invokes {first = first} {links = links} {us = us} (AreLinks.index {a = a} {us = ts} {x = x} {links = more} m e h i l) n =
    IsRest.index m e h i (subst (λ z. IsRest first an_index (links ++ link.Index x a.at ∷ []) ts us (s.Invoke z))
    (moved first links (link.Index x a.at) more) (invokes l n))

-- a statement that begins with a primary
begun : {vs : Values} {ts us ws : List Token} {x : Expression} {y : Statement} {last : Ending} → IsPrimary ts us x last →
    IsRest x last [] us ws y → Taken part.Statement vs ts ws (put_statement y vs)
unfolding rest top_or postfix_of
begun (IsPrimary.id h) r = took here (reads_part (a_Name h) (made (reads_part (a_AfterName r) (finished refl))))
begun (IsPrimary.object (IsObject.object_constructor (IsFlag.with_word e) a b c d f)) r =
    took (later (later here))
    (keep e (made (reads_part (a_ObjectRest (IsObjectRest.object a b c d f))
    (made (made (reads_part (a_AfterOther r) (finished refl)))))))
begun (IsPrimary.object (IsObject.object_constructor IsFlag.without a b c d f)) r =
    took (later here) (reads_part
    (a_OtherPlain (IsPrimary.object (IsObject.object_constructor IsFlag.without a b c d f)) (differs a (λ x. cc)))
    (made (reads_part (a_AfterOther r) (finished refl))))
begun (IsPrimary.int x0) r =
    took (later here) (reads_part (a_OtherPlain (IsPrimary.int x0) (differs x0 (λ x. cc)))
    (made (reads_part (a_AfterOther r) (finished refl))))
begun (IsPrimary.string x0) r =
    took (later here) (reads_part (a_OtherPlain (IsPrimary.string x0) (differs x0 (λ x. cc)))
    (made (reads_part (a_AfterOther r) (finished refl))))
begun (IsPrimary.true_word x0) r =
    took (later here) (reads_part (a_OtherPlain (IsPrimary.true_word x0) (differs x0 (λ x. cc)))
    (made (reads_part (a_AfterOther r) (finished refl))))
begun (IsPrimary.false_word x0) r =
    took (later here) (reads_part (a_OtherPlain (IsPrimary.false_word x0) (differs x0 (λ x. cc)))
    (made (reads_part (a_AfterOther r) (finished refl))))
begun (IsPrimary.nil_word x0) r =
    took (later here) (reads_part (a_OtherPlain (IsPrimary.nil_word x0) (differs x0 (λ x. cc)))
    (made (reads_part (a_AfterOther r) (finished refl))))
begun (IsPrimary.self_word x0) r =
    took (later here) (reads_part (a_OtherPlain (IsPrimary.self_word x0) (differs x0 (λ x. cc)))
    (made (reads_part (a_AfterOther r) (finished refl))))
begun (IsPrimary.parenthesised x0 x1 x2) r =
    took (later here) (reads_part (a_OtherPlain (IsPrimary.parenthesised x0 x1 x2) (differs x0 (λ x. cc)))
    (made (reads_part (a_AfterOther r) (finished refl))))
begun (IsPrimary.node_at x0 x1 x2 x3 x4 x5) r =
    took (later here) (reads_part (a_OtherPlain (IsPrimary.node_at x0 x1 x2 x3 x4 x5) (differs x0 (λ x. cc)))
    (made (reads_part (a_AfterOther r) (finished refl))))
begun (IsPrimary.node_count x0 x1 x2) r =
    took (later here) (reads_part (a_OtherPlain (IsPrimary.node_count x0 x1 x2) (differs x0 (λ x. cc)))
    (made (reads_part (a_AfterOther r) (finished refl))))
begun (IsPrimary.vector x0 x1 x2 x3 x4 x5 x6 x7 x8 x9 x10) r =
    took (later here) (reads_part (a_OtherPlain (IsPrimary.vector x0 x1 x2 x3 x4 x5 x6 x7 x8 x9 x10) (differs x0 (λ x. cc)))
    (made (reads_part (a_AfterOther r) (finished refl))))

pub complete_Block : {vs ws : Values} {ts us : List Token} → Means part.Block vs ts us ws → Taken part.Block vs ts us ws
unfolding rest
complete_Block (a_Block h1) = took here (made (reads_part (a_Statements h1) (finished refl)))

pub complete_Statements : {vs ws : Values} {ts us : List Token} → Means part.Statements vs ts us ws → Taken part.Statements vs ts us ws
unfolding rest top_or
complete_Statements (a_Statements (IsBlock.local_var b c d f g h2)) =
    taken_as (grown_statement _ _ _)
    (took here (reads_part (a_Declaration (IsDeclaration.var b c d f g)) (made (reads_part (a_Statements h2) (finished refl)))))
complete_Statements (a_Statements (IsBlock.local_const b c d f g h2)) =
    taken_as (grown_statement _ _ _)
    (took here (reads_part (a_Declaration (IsDeclaration.const b c (IsTypedValue.typed d f g)))
    (made (reads_part (a_Statements h2) (finished refl)))))
complete_Statements (a_Statements (IsBlock.stmt b h2)) =
    taken_as (grown_statement _ _ _)
    (took here (reads_part (a_Declaration (IsDeclaration.stmt b)) (made (reads_part (a_Statements h2) (finished refl)))))
complete_Statements (a_Statements IsBlock.block_end) = taken_as (kept_statement _) (took (later here) (finished refl))

pub complete_Declaration : {vs ws : Values} {ts us : List Token} → Means part.Declaration vs ts us ws → Taken part.Declaration vs ts us ws
unfolding rest top_or
complete_Declaration (a_Declaration (IsDeclaration.var e0 h1 e2 h3 h4)) =
    took here (token e0 (reads_part (a_Name h1) (token e2 (reads_part (a_Type h3) (reads_part (a_Initial h4) (made (finished refl)))))))
complete_Declaration (a_Declaration (IsDeclaration.const e0 h1 h2)) =
    took (later here) (token e0 (reads_part (a_Name h1) (reads_part (a_TypedValue h2) (made (finished refl)))))
complete_Declaration (a_Declaration (IsDeclaration.stmt h0)) = took (later (later here)) (reads_part (a_Statement h0) (finished refl))

pub complete_Statement : {vs ws : Values} {ts us : List Token} → Means part.Statement vs ts us ws → Taken part.Statement vs ts us ws
unfolding rest top_or postfix_of
complete_Statement (a_Statement (IsStmt.assign (IsPostfix.postfix p l) g a b)) = begun p (rests l g a b)
complete_Statement (a_Statement (IsStmt.invoke (IsPostfix.postfix p l) g)) = begun p (invokes l g)
complete_Statement (a_Statement (IsStmt.print e0 e1 e2 e3 h4 e6)) =
    took (later (later (later here)))
    (keep e0 (token e1 (token e2 (bound (token e3 (reads_part (a_Expression h4) (bound (token e6 (made (finished refl))))))))))
complete_Statement (a_Statement (IsStmt.if_word e0 h2 e3 h4 h6 h7 e9 e10)) =
    took (later (later (later (later here))))
    (bound (keep e0 (made
    (reads_part (a_Expression h2)
    (token e3 (reads_part (a_Block h4)
    (made (reads_part (a_ElseIfs h6) (reads_part (a_Else h7) (bound (token e9 (token e10 (made (finished refl))))))))))))))
complete_Statement (a_Statement (IsStmt.loop e0 h1 e3 e4)) =
    took (later (later (later (later (later here)))))
    (bound (keep e0 (reads_part (a_Block h1) (bound (token e3 (token e4 (made (finished refl))))))))
complete_Statement (a_Statement (IsStmt.exit e0)) =
    took (later (later (later (later (later (later here)))))) (keep e0 (reads_part (a_When IsWhen.none) (made (finished refl))))
complete_Statement (a_Statement (IsStmt.exit_when e0 b c)) =
    took (later (later (later (later (later (later here)))))) (keep e0 (reads_part (a_When (IsWhen.some b c)) (made (finished refl))))
complete_Statement (a_Statement (IsStmt.return e0)) =
    took (later (later (later (later (later (later (later here))))))) (keep e0 (made (finished refl)))
complete_Statement (a_Statement (IsStmt.assert e0 h1)) =
    took (later (later (later (later (later (later (later (later here))))))))
    (keep e0 (reads_part (a_Expression h1) (made (finished refl))))
complete_Statement (a_Statement (IsStmt.move e0 h1 e2 h3)) =
    took (later (later (later (later (later (later (later (later (later here)))))))))
    (keep e0 (reads_part (a_Expression h1) (token e2 (reads_part (a_Expression h3) (made (finished refl))))))
complete_Statement (a_Statement (IsStmt.fix e0 h1 e2 h3)) =
    took (later (later (later (later (later (later (later (later (later (later here))))))))))
    (keep e0 (reads_part (a_Expression h1) (token e2 (reads_part (a_Expression h3) (made (finished refl))))))
complete_Statement (a_Statement (IsStmt.refix e0 h1 e2 h3)) =
    took (later (later (later (later (later (later (later (later (later (later (later here)))))))))))
    (keep e0 (reads_part (a_Expression h1) (token e2 (reads_part (a_Expression h3) (made (finished refl))))))
complete_Statement (a_Statement (IsStmt.unfix e0 h1)) =
    took (later (later (later (later (later (later (later (later (later (later (later (later here))))))))))))
    (keep e0 (reads_part (a_Expression h1) (made (finished refl))))
complete_Statement (a_Statement (IsStmt.wait e0 h1)) =
    took (later (later (later (later (later (later (later (later (later (later (later (later (later here)))))))))))))
    (keep e0 (reads_part (a_Name h1) (made (finished refl))))
complete_Statement (a_Statement (IsStmt.signal e0 h1)) =
    took (later (later (later (later (later (later (later (later (later (later (later (later (later (later here))))))))))))))
    (keep e0 (reads_part (a_Name h1) (made (finished refl))))

pub complete_ElseIfs : {vs ws : Values} {ts us : List Token} → Means part.ElseIfs vs ts us ws → Taken part.ElseIfs vs ts us ws
unfolding rest top_or
complete_ElseIfs (a_ElseIfs (AreArms.elseif e0 h1 e2 h3 h5)) =
    taken_as (grown_arm _ _ _)
    (took here (token e0 (reads_part (a_Expression h1)
    (token e2 (reads_part (a_Block h3) (made (reads_part (a_ElseIfs h5) (finished refl))))))))
complete_ElseIfs (a_ElseIfs AreArms.arms_end) = taken_as (kept_arm _) (took (later here) (finished refl))

pub complete_Else : {vs ws : Values} {ts us : List Token} → Means part.Else vs ts us ws → Taken part.Else vs ts us ws
unfolding rest top_or
complete_Else (a_Else (IsElse.else_block e0 h1)) = took here (token e0 (reads_part (a_Block h1) (made (finished refl))))
complete_Else (a_Else IsElse.no_else) = took (later here) (made (finished refl))

pub complete_When : {vs ws : Values} {ts us : List Token} → Means part.When vs ts us ws → Taken part.When vs ts us ws
unfolding rest top_or
complete_When (a_When (IsWhen.some e0 h1)) = took here (token e0 (reads_part (a_Expression h1) (made (finished refl))))
complete_When (a_When IsWhen.none) = took (later here) (made (finished refl))
