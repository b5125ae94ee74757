-- The rules of the grammar, from the constants that the parser runs.
use Rattle.std.specs.Prelude.{List, map}
use Rattle.ec_parser.specs.declared.grammar.Part.{Part}
use Rattle.ec_parser.specs.declared.grammar.Part.TheVariants as part
use Rattle.ec_parser.specs.declared.grammar.Symbol.{Symbol}
use Rattle.ec_parser.specs.declared.grammar.bodies.TheConstants as bodies
use Rattle.ec_parser.specs.declared.grammar.constants.TheConstants as constants
use Rattle.ec_parser.specs.declared.grammar.expressions.TheConstants as expressions
use Rattle.ec_parser.specs.declared.grammar.statements.TheConstants as statements
use Rattle.ec_parser.specs.declared.grammar.types.TheConstants as types

-- the alternatives of a part
abbrev pub rules : Part → List (List Symbol)
rules part.Program = map (λ a. a.now) constants.PROGRAM
rules part.Constants = map (λ a. a.now) constants.CONSTANTS
rules part.ConstantRest = map (λ a. a.now) constants.CONSTANT_REST
rules part.ConstantValue = map (λ a. a.now) constants.CONSTANT_VALUE
rules part.AfterMonitor = map (λ a. a.now) constants.AFTER_MONITOR
rules part.TermRest = map (λ a. a.now) constants.TERM_REST
rules part.AndRest = map (λ a. a.now) constants.AND_REST
rules part.Name = map (λ a. a.now) types.NAME
rules part.Typeobject = map (λ a. a.now) types.TYPEOBJECT
rules part.Signatures = map (λ a. a.now) types.SIGNATURES
rules part.SignatureParameters = map (λ a. a.now) types.SIGNATURE_PARAMETERS
rules part.Sigs = map (λ a. a.now) types.SIGS
rules part.MoreSigs = map (λ a. a.now) types.MORE_SIGS
rules part.SignatureResult = map (λ a. a.now) types.SIGNATURE_RESULT
rules part.OperationWord = map (λ a. a.now) types.OPERATION_WORD
rules part.Sig = map (λ a. a.now) types.SIG
rules part.AfterSigName = map (λ a. a.now) types.AFTER_SIG_NAME
rules part.Type = map (λ a. a.now) types.TYPE
rules part.PlainType = map (λ a. a.now) types.PLAIN_TYPE
rules part.ClassRest = map (λ a. a.now) bodies.CLASS_REST
rules part.ObjectRest = map (λ a. a.now) bodies.OBJECT_REST
rules part.Parameters = map (λ a. a.now) bodies.PARAMETERS
rules part.ParameterList = map (λ a. a.now) bodies.PARAMETER_LIST
rules part.MoreParameters = map (λ a. a.now) bodies.MORE_PARAMETERS
rules part.Parameter = map (λ a. a.now) bodies.PARAMETER
rules part.Body = map (λ a. a.now) bodies.BODY
rules part.Members = map (λ a. a.now) bodies.MEMBERS
rules part.Initially = map (λ a. a.now) bodies.INITIALLY
rules part.Process = map (λ a. a.now) bodies.PROCESS
rules part.Member = map (λ a. a.now) bodies.MEMBER
rules part.AttachedField = map (λ a. a.now) bodies.ATTACHED_FIELD
rules part.ConstantField = map (λ a. a.now) bodies.CONSTANT_FIELD
rules part.FieldValue = map (λ a. a.now) bodies.FIELD_VALUE
rules part.ConditionTail = map (λ a. a.now) bodies.CONDITION_TAIL
rules part.OperationRest = map (λ a. a.now) bodies.OPERATION_REST
rules part.OperationResult = map (λ a. a.now) bodies.OPERATION_RESULT
rules part.Initial = map (λ a. a.now) bodies.INITIAL
rules part.TypedValue = map (λ a. a.now) bodies.TYPED_VALUE
rules part.Block = map (λ a. a.now) statements.BLOCK
rules part.Statements = map (λ a. a.now) statements.STATEMENTS
rules part.Declaration = map (λ a. a.now) statements.DECLARATION
rules part.Statement = map (λ a. a.now) statements.STATEMENT
rules part.AfterName = map (λ a. a.now) statements.AFTER_NAME
rules part.AfterOther = map (λ a. a.now) statements.AFTER_OTHER
rules part.AfterIndex = map (λ a. a.now) statements.AFTER_INDEX
rules part.AfterField = map (λ a. a.now) statements.AFTER_FIELD
rules part.AfterCall = map (λ a. a.now) statements.AFTER_CALL
rules part.ElseIfs = map (λ a. a.now) statements.ELSE_IFS
rules part.Else = map (λ a. a.now) statements.ELSE
rules part.When = map (λ a. a.now) statements.WHEN
rules part.Expression = map (λ a. a.now) expressions.EXPRESSION
rules part.OrTail = map (λ a. a.now) expressions.OR_TAIL
rules part.And = map (λ a. a.now) expressions.AND
rules part.AndTail = map (λ a. a.now) expressions.AND_TAIL
rules part.Not = map (λ a. a.now) expressions.NOT
rules part.NotPrefix = map (λ a. a.now) expressions.NOT_PREFIX
rules part.Rel = map (λ a. a.now) expressions.REL
rules part.CompareTail = map (λ a. a.now) expressions.COMPARE_TAIL
rules part.CompareWord = map (λ a. a.now) expressions.COMPARE_WORD
rules part.Sum = map (λ a. a.now) expressions.SUM
rules part.SumTail = map (λ a. a.now) expressions.SUM_TAIL
rules part.SumWord = map (λ a. a.now) expressions.SUM_WORD
rules part.Term = map (λ a. a.now) expressions.TERM
rules part.TermTail = map (λ a. a.now) expressions.TERM_TAIL
rules part.TermWord = map (λ a. a.now) expressions.TERM_WORD
rules part.Unary = map (λ a. a.now) expressions.UNARY
rules part.UnaryPrefix = map (λ a. a.now) expressions.UNARY_PREFIX
rules part.Postfix = map (λ a. a.now) expressions.POSTFIX
rules part.PostfixTail = map (λ a. a.now) expressions.POSTFIX_TAIL
rules part.AfterDot = map (λ a. a.now) expressions.AFTER_DOT
rules part.Arguments = map (λ a. a.now) expressions.ARGUMENTS
rules part.MoreArguments = map (λ a. a.now) expressions.MORE_ARGUMENTS
rules part.Primary = map (λ a. a.now) expressions.PRIMARY
rules part.Plain = map (λ a. a.now) expressions.PLAIN
rules part.OtherPlain = map (λ a. a.now) expressions.OTHER_PLAIN
rules part.NodeRest = map (λ a. a.now) expressions.NODE_REST
