-- A source is judged: it is the text of a program, or it is refused for one reason at one place.
use Rattle.std.specs.Prelude.{◌≡◌, ℕ, List, [], ◌∷◌, ◌++◌, length, Option, Some, None}
use Rattle.std.specs.Prelude.{slice_get, codes}
use Rattle.ec_ast.specs.declared.Program.{Program}
use Rattle.ec_lexer.specs.declared.error.LexFault.{LexFault}
use Rattle.ec_lexer.specs.declared.error.LexFault.TheVariants.{StrayByte, UnclosedString, UnknownEscape, LargeInteger, TextTooLong}
use Rattle.ec_lexer.specs.declared.token.Token.{Token}
use Rattle.ec_check.specs.Accepted.{HasCore}
use Rattle.ec_lexer.specs.Faults.{HasFault}
use Rattle.ec_lexer.specs.Tokens.{HasTokens}
use Rattle.ec_meaning.specs.Programs.{Source}
use Rattle.ec_parser.specs.HasTree.{HasTree}
use Rattle.ec_parser.specs.Program.{IsDeep, IsShallow, IsSyntax}
use Rattle.ec_rules.specs.declared.Rule.{Rule}
use Rattle.ec_rules.specs.declared.Rule.TheVariants as rule
use Rattle.ec_rules.specs.declared.StaticFault.{StaticFault}
use Rattle.ec_rules.specs.Faults.{HasFaults, IsAccepted}
use Rattle.ec_tool.specs.declared.source.Refusal.{Refusal}
use Rattle.ec_tool.specs.declared.source.Refusal.TheVariants.{Lexical, Syntax, Deep, Static}
use Rattle.ec_tool.specs.declared.source.SourceError.{SourceError}
use Rattle.ec_tool.specs.declared.source.SourceError.TheVariants.{Refused, Memory}
use Rattle.ec_tool.specs.Places.{place_text}
use Rattle.ec_vector_types.specs.Written.{written_vectors}
use Rattle.ec_world.specs.declared.class.VectorType.{VectorType}

-- ---- programs

-- The text is this program's: it has tokens, which have this tree with no nesting over 64, and the tree breaks no static rule.
pub record IsProgramText (text : List ℕ) (tokens : List Token) (program : Program) : Type 0 where
  pub has_tokens : HasTokens text tokens
  pub has_tree : HasTree tokens program
  pub shallow : IsShallow tokens
  pub is_accepted : IsAccepted program

-- the text is some program's
pub record IsChecked (text : List ℕ) : Type 0 where
  pub tokens : List Token
  pub program : Program
  pub is_program : IsProgramText text tokens program

-- The text is that of a program, and its source is the text with the program's core.
pub record IsMeant (text : List ℕ) (source : Source) : Type 0 where
  pub tokens : List Token
  pub program : Program
  pub is_program : IsProgramText text tokens program
  pub text_is : source.text ≡ text
  pub has_core : HasCore program source.table source.core

-- The vector types that are written in the text of a source, in the order of the text, as often as they are written.
abbrev pub vectors_in : (text : List ℕ) (source : Source) → IsMeant text source → List VectorType
vectors_in text source meant = written_vectors source.table.names meant.tokens

-- ---- refusals

-- where a token begins, or the end of the text where there is none
abbrev pub place_if : List ℕ → Option Token → ℕ
place_if text (Some token) = token.at.from
place_if text None = length text

-- where the token of this number begins, or the end of the text where its number is how many tokens there are
abbrev pub place_of : List ℕ → List Token → ℕ → ℕ
place_of text tokens k = place_if text (slice_get tokens k)

-- the text is no program's, for this reason, at this byte or at its end
pub data IsFaulty (text : List ℕ) : Refusal → ℕ → Type 0 where
  -- it has no tokens, but a fault
  lexical : {at : ℕ} {fault : LexFault} → HasFault text at fault → IsFaulty text (Lexical fault) at
  -- its tokens have no tree: up to this one they begin no program of the language
  syntax : {tokens : List Token} {k : ℕ} → HasTokens text tokens → IsSyntax tokens k → IsFaulty text Syntax (place_of text tokens k)
  -- this token is the first whose nesting is over 64
  deep : {tokens : List Token} {k : ℕ} → HasTokens text tokens → IsDeep tokens k → IsFaulty text Deep (place_of text tokens k)
  -- its tree breaks a static rule: this is the first fault
  static_rule : {tokens : List Token} {program : Program} {faults : List StaticFault} {fault : StaticFault} →
      HasTokens text tokens → HasTree tokens program → IsShallow tokens → HasFaults program faults → slice_get faults 0 ≡ Some fault →
      IsFaulty text (Static fault.rule) fault.at.from

-- the error is why the text is no program's, or want of memory
abbrev pub IsErrorOf : List ℕ → SourceError → Type 0
IsErrorOf text (Refused refused) = IsFaulty text refused.refusal refused.at
IsErrorOf text Memory = Unit {0}

-- ---- the line that says it: `refused E3 at line 3 column 5`

abbrev pub fault_name : LexFault → List ℕ
fault_name StrayByte = codes "L1"
fault_name UnclosedString = codes "L2"
fault_name UnknownEscape = codes "L3"
fault_name LargeInteger = codes "L4"
fault_name TextTooLong = codes "L5"

-- `E` and the number of the rule in the table of rules
abbrev pub rule_name : Rule → List ℕ
rule_name rule.UnknownName = codes "E1"
rule_name rule.DoubledName = codes "E2"
rule_name rule.EndName = codes "E3"
rule_name rule.Mismatch = codes "E4"
rule_name rule.NoOperation = codes "E5"
rule_name rule.Arity = codes "E6"
rule_name rule.Assignment = codes "E7"
rule_name rule.Condition = codes "E8"
rule_name rule.AttachedValue = codes "E9"
rule_name rule.ExitOutside = codes "E10"
rule_name rule.ManyTypes = codes "E11"
rule_name rule.ManyOperations = codes "E12"
rule_name rule.ManyFields = codes "E13"
rule_name rule.ManyParameters = codes "E14"
rule_name rule.ManyVariables = codes "E15"
rule_name rule.Size = codes "E16"

abbrev pub refusal_name : Refusal → List ℕ
refusal_name (Lexical fault) = fault_name fault
refusal_name Syntax = codes "syntax"
refusal_name Deep = codes "deep"
refusal_name (Static rule) = rule_name rule

abbrev pub refused_line : List ℕ → Refusal → ℕ → List ℕ
refused_line text refusal at = codes "refused " ++ refusal_name refusal ++ codes " at " ++ place_text text at ++ 10 ∷ []

-- ---- the line that says that a text is a program's

abbrev pub accepted_line : List ℕ
accepted_line = codes "accepted" ++ 10 ∷ []
