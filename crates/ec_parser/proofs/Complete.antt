-- What a part means, one of its alternatives takes.
use Rattle.std.proofs.Common.{List}
use Rattle.ec_lexer.specs.declared.token.Token.{Token}
use Rattle.ec_parser.specs.declared.grammar.Part.{Part as Part_of}
use Rattle.ec_parser.specs.declared.grammar.Part.TheVariants as part
use Rattle.ec_parser.specs.declared.values.Values.{Values}
use Rattle.ec_parser.proofs.Meaning.{Means}
use Rattle.ec_parser.proofs.Seq.{Taken}
use Rattle.ec_parser.proofs.CompleteConstants.{complete_Program, complete_Constants, complete_ConstantRest, complete_ConstantValue}
use Rattle.ec_parser.proofs.CompleteConstants.{complete_AfterMonitor, complete_TermRest, complete_AndRest, complete_Name}
use Rattle.ec_parser.proofs.CompleteTypes.{complete_Typeobject, complete_Signatures, complete_SignatureParameters, complete_Sigs}
use Rattle.ec_parser.proofs.CompleteTypes.{complete_MoreSigs, complete_SignatureResult, complete_OperationWord, complete_Sig}
use Rattle.ec_parser.proofs.CompleteTypes.{complete_AfterSigName, complete_Type, complete_PlainType}
use Rattle.ec_parser.proofs.CompleteClasses.{complete_ClassRest, complete_ObjectRest, complete_Parameters, complete_ParameterList}
use Rattle.ec_parser.proofs.CompleteClasses.{complete_MoreParameters, complete_Parameter, complete_Body, complete_Members}
use Rattle.ec_parser.proofs.CompleteClasses.{complete_Initially, complete_Process}
use Rattle.ec_parser.proofs.CompleteMembers.{complete_Member, complete_AttachedField, complete_ConstantField, complete_FieldValue}
use Rattle.ec_parser.proofs.CompleteMembers.{complete_ConditionTail, complete_OperationRest, complete_OperationResult, complete_Initial}
use Rattle.ec_parser.proofs.CompleteMembers.{complete_TypedValue}
use Rattle.ec_parser.proofs.CompleteStatements.{complete_Block, complete_Statements, complete_Declaration, complete_Statement}
use Rattle.ec_parser.proofs.CompleteStatements.{complete_ElseIfs, complete_Else, complete_When}
use Rattle.ec_parser.proofs.CompleteTargets.{complete_AfterName, complete_AfterOther, complete_AfterIndex, complete_AfterField}
use Rattle.ec_parser.proofs.CompleteTargets.{complete_AfterCall}
use Rattle.ec_parser.proofs.CompleteExpressions.{complete_Expression, complete_OrTail, complete_And, complete_AndTail, complete_Not}
use Rattle.ec_parser.proofs.CompleteExpressions.{complete_NotPrefix, complete_Rel, complete_CompareTail, complete_CompareWord, complete_Sum}
use Rattle.ec_parser.proofs.CompleteExpressions.{complete_SumTail, complete_SumWord, complete_Term, complete_TermTail, complete_TermWord}
use Rattle.ec_parser.proofs.CompleteExpressions.{complete_Unary, complete_UnaryPrefix}
use Rattle.ec_parser.proofs.CompletePrimaries.{complete_Postfix, complete_PostfixTail, complete_AfterDot, complete_Arguments}
use Rattle.ec_parser.proofs.CompletePrimaries.{complete_MoreArguments, complete_Primary, complete_Plain, complete_OtherPlain}
use Rattle.ec_parser.proofs.CompletePrimaries.{complete_NodeRest}

pub complete : (p : Part_of) (vs ws : Values) (ts us : List Token) → Means p vs ts us ws → Taken p vs ts us ws
complete part.Program vs ws ts us m = complete_Program m
complete part.Constants vs ws ts us m = complete_Constants m
complete part.ConstantRest vs ws ts us m = complete_ConstantRest m
complete part.ConstantValue vs ws ts us m = complete_ConstantValue m
complete part.AfterMonitor vs ws ts us m = complete_AfterMonitor m
complete part.TermRest vs ws ts us m = complete_TermRest m
complete part.AndRest vs ws ts us m = complete_AndRest m
complete part.Name vs ws ts us m = complete_Name m
complete part.Typeobject vs ws ts us m = complete_Typeobject m
complete part.Signatures vs ws ts us m = complete_Signatures m
complete part.SignatureParameters vs ws ts us m = complete_SignatureParameters m
complete part.Sigs vs ws ts us m = complete_Sigs m
complete part.MoreSigs vs ws ts us m = complete_MoreSigs m
complete part.SignatureResult vs ws ts us m = complete_SignatureResult m
complete part.OperationWord vs ws ts us m = complete_OperationWord m
complete part.Sig vs ws ts us m = complete_Sig m
complete part.AfterSigName vs ws ts us m = complete_AfterSigName m
complete part.Type vs ws ts us m = complete_Type m
complete part.PlainType vs ws ts us m = complete_PlainType m
complete part.ClassRest vs ws ts us m = complete_ClassRest m
complete part.ObjectRest vs ws ts us m = complete_ObjectRest m
complete part.Parameters vs ws ts us m = complete_Parameters m
complete part.ParameterList vs ws ts us m = complete_ParameterList m
complete part.MoreParameters vs ws ts us m = complete_MoreParameters m
complete part.Parameter vs ws ts us m = complete_Parameter m
complete part.Body vs ws ts us m = complete_Body m
complete part.Members vs ws ts us m = complete_Members m
complete part.Initially vs ws ts us m = complete_Initially m
complete part.Process vs ws ts us m = complete_Process m
complete part.Member vs ws ts us m = complete_Member m
complete part.AttachedField vs ws ts us m = complete_AttachedField m
complete part.ConstantField vs ws ts us m = complete_ConstantField m
complete part.FieldValue vs ws ts us m = complete_FieldValue m
complete part.ConditionTail vs ws ts us m = complete_ConditionTail m
complete part.OperationRest vs ws ts us m = complete_OperationRest m
complete part.OperationResult vs ws ts us m = complete_OperationResult m
complete part.Initial vs ws ts us m = complete_Initial m
complete part.TypedValue vs ws ts us m = complete_TypedValue m
complete part.Block vs ws ts us m = complete_Block m
complete part.Statements vs ws ts us m = complete_Statements m
complete part.Declaration vs ws ts us m = complete_Declaration m
complete part.Statement vs ws ts us m = complete_Statement m
complete part.AfterName vs ws ts us m = complete_AfterName m
complete part.AfterOther vs ws ts us m = complete_AfterOther m
complete part.AfterIndex vs ws ts us m = complete_AfterIndex m
complete part.AfterField vs ws ts us m = complete_AfterField m
complete part.AfterCall vs ws ts us m = complete_AfterCall m
complete part.ElseIfs vs ws ts us m = complete_ElseIfs m
complete part.Else vs ws ts us m = complete_Else m
complete part.When vs ws ts us m = complete_When m
complete part.Expression vs ws ts us m = complete_Expression m
complete part.OrTail vs ws ts us m = complete_OrTail m
complete part.And vs ws ts us m = complete_And m
complete part.AndTail vs ws ts us m = complete_AndTail m
complete part.Not vs ws ts us m = complete_Not m
complete part.NotPrefix vs ws ts us m = complete_NotPrefix m
complete part.Rel vs ws ts us m = complete_Rel m
complete part.CompareTail vs ws ts us m = complete_CompareTail m
complete part.CompareWord vs ws ts us m = complete_CompareWord m
complete part.Sum vs ws ts us m = complete_Sum m
complete part.SumTail vs ws ts us m = complete_SumTail m
complete part.SumWord vs ws ts us m = complete_SumWord m
complete part.Term vs ws ts us m = complete_Term m
complete part.TermTail vs ws ts us m = complete_TermTail m
complete part.TermWord vs ws ts us m = complete_TermWord m
complete part.Unary vs ws ts us m = complete_Unary m
complete part.UnaryPrefix vs ws ts us m = complete_UnaryPrefix m
complete part.Postfix vs ws ts us m = complete_Postfix m
complete part.PostfixTail vs ws ts us m = complete_PostfixTail m
complete part.AfterDot vs ws ts us m = complete_AfterDot m
complete part.Arguments vs ws ts us m = complete_Arguments m
complete part.MoreArguments vs ws ts us m = complete_MoreArguments m
complete part.Primary vs ws ts us m = complete_Primary m
complete part.Plain vs ws ts us m = complete_Plain m
complete part.OtherPlain vs ws ts us m = complete_OtherPlain m
complete part.NodeRest vs ws ts us m = complete_NodeRest m
