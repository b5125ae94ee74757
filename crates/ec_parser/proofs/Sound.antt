-- What an alternative of a part takes, the part means.
use Rattle.std.proofs.Common.{List}
use Rattle.ec_lexer.specs.declared.token.Token.{Token}
use Rattle.ec_parser.specs.declared.grammar.Part.{Part as Part_of}
use Rattle.ec_parser.specs.declared.grammar.Part.TheVariants as part
use Rattle.ec_parser.specs.declared.grammar.Symbol.{Symbol}
use Rattle.ec_parser.specs.declared.values.Values.{Values}
use Rattle.ec_parser.specs.Rules.{rules}
use Rattle.ec_parser.specs.Reads.{IsRule}
use Rattle.ec_parser.proofs.Meaning.{Means}
use Rattle.ec_parser.proofs.Seq.{Seq}
use Rattle.ec_parser.proofs.SoundConstants.{sound_Program, sound_Constants, sound_ConstantRest, sound_ConstantValue, sound_AfterMonitor}
use Rattle.ec_parser.proofs.SoundConstants.{sound_TermRest, sound_AndRest, sound_Name}
use Rattle.ec_parser.proofs.SoundTypes.{sound_Typeobject, sound_Signatures, sound_SignatureParameters, sound_Sigs, sound_MoreSigs}
use Rattle.ec_parser.proofs.SoundTypes.{sound_SignatureResult, sound_OperationWord, sound_Sig, sound_AfterSigName, sound_Type}
use Rattle.ec_parser.proofs.SoundTypes.{sound_PlainType}
use Rattle.ec_parser.proofs.SoundClasses.{sound_ClassRest, sound_ObjectRest, sound_Parameters, sound_ParameterList, sound_MoreParameters}
use Rattle.ec_parser.proofs.SoundClasses.{sound_Parameter, sound_Body, sound_Members, sound_Initially, sound_Process}
use Rattle.ec_parser.proofs.SoundMembers.{sound_Member, sound_AttachedField, sound_ConstantField, sound_FieldValue, sound_ConditionTail}
use Rattle.ec_parser.proofs.SoundMembers.{sound_OperationRest, sound_OperationResult, sound_Initial, sound_TypedValue}
use Rattle.ec_parser.proofs.SoundStatements.{sound_Block, sound_Statements, sound_Declaration, sound_Statement, sound_ElseIfs, sound_Else}
use Rattle.ec_parser.proofs.SoundStatements.{sound_When}
use Rattle.ec_parser.proofs.SoundTargets.{sound_AfterName, sound_AfterOther, sound_AfterIndex, sound_AfterField, sound_AfterCall}
use Rattle.ec_parser.proofs.SoundExpressions.{sound_Expression, sound_OrTail, sound_And, sound_AndTail, sound_Not, sound_NotPrefix}
use Rattle.ec_parser.proofs.SoundExpressions.{sound_Rel, sound_CompareTail, sound_CompareWord, sound_Sum, sound_SumTail, sound_SumWord}
use Rattle.ec_parser.proofs.SoundExpressions.{sound_Term, sound_TermTail, sound_TermWord, sound_Unary, sound_UnaryPrefix}
use Rattle.ec_parser.proofs.SoundPrimaries.{sound_Postfix, sound_PostfixTail, sound_AfterDot, sound_Arguments, sound_MoreArguments}
use Rattle.ec_parser.proofs.SoundPrimaries.{sound_Primary, sound_Plain, sound_OtherPlain, sound_NodeRest}

pub sound : (p : Part_of) (r : List Symbol) (vs ws : Values) (ts us : List Token) → IsRule r (rules p) → Seq r vs ts us ws →
    Means p vs ts us ws
sound part.Program r vs ws ts us m d = sound_Program m d
sound part.Constants r vs ws ts us m d = sound_Constants m d
sound part.ConstantRest r vs ws ts us m d = sound_ConstantRest m d
sound part.ConstantValue r vs ws ts us m d = sound_ConstantValue m d
sound part.AfterMonitor r vs ws ts us m d = sound_AfterMonitor m d
sound part.TermRest r vs ws ts us m d = sound_TermRest m d
sound part.AndRest r vs ws ts us m d = sound_AndRest m d
sound part.Name r vs ws ts us m d = sound_Name m d
sound part.Typeobject r vs ws ts us m d = sound_Typeobject m d
sound part.Signatures r vs ws ts us m d = sound_Signatures m d
sound part.SignatureParameters r vs ws ts us m d = sound_SignatureParameters m d
sound part.Sigs r vs ws ts us m d = sound_Sigs m d
sound part.MoreSigs r vs ws ts us m d = sound_MoreSigs m d
sound part.SignatureResult r vs ws ts us m d = sound_SignatureResult m d
sound part.OperationWord r vs ws ts us m d = sound_OperationWord m d
sound part.Sig r vs ws ts us m d = sound_Sig m d
sound part.AfterSigName r vs ws ts us m d = sound_AfterSigName m d
sound part.Type r vs ws ts us m d = sound_Type m d
sound part.PlainType r vs ws ts us m d = sound_PlainType m d
sound part.ClassRest r vs ws ts us m d = sound_ClassRest m d
sound part.ObjectRest r vs ws ts us m d = sound_ObjectRest m d
sound part.Parameters r vs ws ts us m d = sound_Parameters m d
sound part.ParameterList r vs ws ts us m d = sound_ParameterList m d
sound part.MoreParameters r vs ws ts us m d = sound_MoreParameters m d
sound part.Parameter r vs ws ts us m d = sound_Parameter m d
sound part.Body r vs ws ts us m d = sound_Body m d
sound part.Members r vs ws ts us m d = sound_Members m d
sound part.Initially r vs ws ts us m d = sound_Initially m d
sound part.Process r vs ws ts us m d = sound_Process m d
sound part.Member r vs ws ts us m d = sound_Member m d
sound part.AttachedField r vs ws ts us m d = sound_AttachedField m d
sound part.ConstantField r vs ws ts us m d = sound_ConstantField m d
sound part.FieldValue r vs ws ts us m d = sound_FieldValue m d
sound part.ConditionTail r vs ws ts us m d = sound_ConditionTail m d
sound part.OperationRest r vs ws ts us m d = sound_OperationRest m d
sound part.OperationResult r vs ws ts us m d = sound_OperationResult m d
sound part.Initial r vs ws ts us m d = sound_Initial m d
sound part.TypedValue r vs ws ts us m d = sound_TypedValue m d
sound part.Block r vs ws ts us m d = sound_Block m d
sound part.Statements r vs ws ts us m d = sound_Statements m d
sound part.Declaration r vs ws ts us m d = sound_Declaration m d
sound part.Statement r vs ws ts us m d = sound_Statement m d
sound part.AfterName r vs ws ts us m d = sound_AfterName m d
sound part.AfterOther r vs ws ts us m d = sound_AfterOther m d
sound part.AfterIndex r vs ws ts us m d = sound_AfterIndex m d
sound part.AfterField r vs ws ts us m d = sound_AfterField m d
sound part.AfterCall r vs ws ts us m d = sound_AfterCall m d
sound part.ElseIfs r vs ws ts us m d = sound_ElseIfs m d
sound part.Else r vs ws ts us m d = sound_Else m d
sound part.When r vs ws ts us m d = sound_When m d
sound part.Expression r vs ws ts us m d = sound_Expression m d
sound part.OrTail r vs ws ts us m d = sound_OrTail m d
sound part.And r vs ws ts us m d = sound_And m d
sound part.AndTail r vs ws ts us m d = sound_AndTail m d
sound part.Not r vs ws ts us m d = sound_Not m d
sound part.NotPrefix r vs ws ts us m d = sound_NotPrefix m d
sound part.Rel r vs ws ts us m d = sound_Rel m d
sound part.CompareTail r vs ws ts us m d = sound_CompareTail m d
sound part.CompareWord r vs ws ts us m d = sound_CompareWord m d
sound part.Sum r vs ws ts us m d = sound_Sum m d
sound part.SumTail r vs ws ts us m d = sound_SumTail m d
sound part.SumWord r vs ws ts us m d = sound_SumWord m d
sound part.Term r vs ws ts us m d = sound_Term m d
sound part.TermTail r vs ws ts us m d = sound_TermTail m d
sound part.TermWord r vs ws ts us m d = sound_TermWord m d
sound part.Unary r vs ws ts us m d = sound_Unary m d
sound part.UnaryPrefix r vs ws ts us m d = sound_UnaryPrefix m d
sound part.Postfix r vs ws ts us m d = sound_Postfix m d
sound part.PostfixTail r vs ws ts us m d = sound_PostfixTail m d
sound part.AfterDot r vs ws ts us m d = sound_AfterDot m d
sound part.Arguments r vs ws ts us m d = sound_Arguments m d
sound part.MoreArguments r vs ws ts us m d = sound_MoreArguments m d
sound part.Primary r vs ws ts us m d = sound_Primary m d
sound part.Plain r vs ws ts us m d = sound_Plain m d
sound part.OtherPlain r vs ws ts us m d = sound_OtherPlain m d
sound part.NodeRest r vs ws ts us m d = sound_NodeRest m d
