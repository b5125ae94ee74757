-- What the parser and the proofs need of each part, none of it trusted: the tokens that it may begin with, whether it
-- may have none, what may follow it, and the most steps to its next token.
use Rattle.std.specs.Prelude.{ℕ, Bool, true, false, List, [], ◌∷◌}
use Rattle.ec_parser.specs.declared.terminal.Terminal.{Terminal}
use Rattle.ec_parser.specs.declared.terminal.Terminal.TheVariants as terminal
use Rattle.ec_parser.specs.declared.grammar.Part.{Part}
use Rattle.ec_parser.specs.declared.grammar.Part.TheVariants as part

abbrev pub first : Part → List Terminal
first part.Program = terminal.Const ∷ []
first part.Constants = terminal.Const ∷ []
first part.ConstantRest = terminal.Arrow ∷ terminal.Colon ∷ []
first part.ConstantValue = terminal.Class ∷ terminal.False ∷ terminal.Isfixed ∷ terminal.Monitor ∷ terminal.Nil ∷ terminal.Node ∷
    terminal.Object ∷ terminal.Self_ ∷ terminal.True ∷ terminal.Typeobject ∷ terminal.Vector ∷ terminal.View ∷ terminal.Name ∷
    terminal.Create ∷ terminal.Putstring ∷ terminal.Count ∷ terminal.Number ∷ terminal.Literal ∷ terminal.OpenParenthesis ∷
    terminal.Minus ∷ terminal.Bang ∷ []
first part.AfterMonitor = terminal.Class ∷ terminal.Object ∷ []
first part.TermRest = terminal.And ∷ terminal.Or ∷ terminal.Plus ∷ terminal.Minus ∷ terminal.Times ∷ terminal.Over ∷ terminal.Remainder ∷
    terminal.Concat ∷ terminal.Same ∷ terminal.NotSame ∷ terminal.Equal ∷ terminal.NotEqual ∷ terminal.Less ∷ terminal.LessEqual ∷
    terminal.More ∷ terminal.MoreEqual ∷ []
first part.AndRest = terminal.And ∷ terminal.Or ∷ []
first part.Name = terminal.Name ∷ terminal.Create ∷ terminal.Putstring ∷ terminal.Count ∷ []
first part.Typeobject = terminal.Typeobject ∷ []
first part.Signatures = terminal.Function ∷ terminal.Operation ∷ []
first part.SignatureParameters = terminal.OpenBracket ∷ []
first part.Sigs = terminal.Any ∷ terminal.Boolean ∷ terminal.Integer ∷ terminal.Node ∷ terminal.String ∷ terminal.Vector ∷ terminal.Name ∷
    terminal.Create ∷ terminal.Putstring ∷ terminal.Count ∷ []
first part.MoreSigs = terminal.Comma ∷ []
first part.SignatureResult = terminal.ResultArrow ∷ []
first part.OperationWord = terminal.Function ∷ terminal.Operation ∷ []
first part.Sig = terminal.Any ∷ terminal.Boolean ∷ terminal.Integer ∷ terminal.Node ∷ terminal.String ∷ terminal.Vector ∷ terminal.Name ∷
    terminal.Create ∷ terminal.Putstring ∷ terminal.Count ∷ []
first part.AfterSigName = terminal.Colon ∷ []
first part.Type = terminal.Any ∷ terminal.Boolean ∷ terminal.Integer ∷ terminal.Node ∷ terminal.String ∷ terminal.Vector ∷ terminal.Name ∷
    terminal.Create ∷ terminal.Putstring ∷ terminal.Count ∷ []
first part.PlainType = terminal.Any ∷ terminal.Boolean ∷ terminal.Integer ∷ terminal.Node ∷ terminal.String ∷ terminal.Vector ∷ []
first part.ClassRest = terminal.Class ∷ []
first part.ObjectRest = terminal.Object ∷ []
first part.Parameters = terminal.OpenBracket ∷ []
first part.ParameterList = terminal.Name ∷ terminal.Create ∷ terminal.Putstring ∷ terminal.Count ∷ []
first part.MoreParameters = terminal.Comma ∷ []
first part.Parameter = terminal.Name ∷ terminal.Create ∷ terminal.Putstring ∷ terminal.Count ∷ []
first part.Body = terminal.Attached ∷ terminal.Const ∷ terminal.Export ∷ terminal.Function ∷ terminal.Initially ∷ terminal.Operation ∷
    terminal.Process ∷ terminal.Var ∷ []
first part.Members = terminal.Attached ∷ terminal.Const ∷ terminal.Export ∷ terminal.Function ∷ terminal.Operation ∷ terminal.Var ∷ []
first part.Initially = terminal.Initially ∷ []
first part.Process = terminal.Process ∷ []
first part.Member = terminal.Attached ∷ terminal.Const ∷ terminal.Export ∷ terminal.Function ∷ terminal.Operation ∷ terminal.Var ∷ []
first part.AttachedField = terminal.Const ∷ terminal.Var ∷ []
first part.ConstantField = terminal.Arrow ∷ terminal.Colon ∷ []
first part.FieldValue = terminal.Condition ∷ terminal.False ∷ terminal.Isfixed ∷ terminal.Monitor ∷ terminal.Nil ∷ terminal.Node ∷
    terminal.Object ∷ terminal.Self_ ∷ terminal.True ∷ terminal.Vector ∷ terminal.View ∷ terminal.Name ∷ terminal.Create ∷
    terminal.Putstring ∷ terminal.Count ∷ terminal.Number ∷ terminal.Literal ∷ terminal.OpenParenthesis ∷ terminal.Minus ∷
    terminal.Bang ∷ []
first part.ConditionTail = terminal.OpenBracket ∷ []
first part.OperationRest = terminal.Function ∷ terminal.Operation ∷ []
first part.OperationResult = terminal.ResultArrow ∷ []
first part.Initial = terminal.Arrow ∷ []
first part.TypedValue = terminal.Arrow ∷ terminal.Colon ∷ []
first part.Block = terminal.Assert ∷ terminal.Const ∷ terminal.Exit ∷ terminal.False ∷ terminal.Fix ∷ terminal.If ∷ terminal.Loop ∷
    terminal.Monitor ∷ terminal.Move ∷ terminal.Nil ∷ terminal.Node ∷ terminal.Object ∷ terminal.Refix ∷ terminal.Return ∷ terminal.Self_ ∷
    terminal.Signal ∷ terminal.Stdout ∷ terminal.True ∷ terminal.Unfix ∷ terminal.Var ∷ terminal.Vector ∷ terminal.Wait ∷
    terminal.Name ∷ terminal.Create ∷ terminal.Putstring ∷ terminal.Count ∷ terminal.Number ∷ terminal.Literal ∷
    terminal.OpenParenthesis ∷ []
first part.Statements = terminal.Assert ∷ terminal.Const ∷ terminal.Exit ∷ terminal.False ∷ terminal.Fix ∷ terminal.If ∷ terminal.Loop ∷
    terminal.Monitor ∷ terminal.Move ∷ terminal.Nil ∷ terminal.Node ∷ terminal.Object ∷ terminal.Refix ∷ terminal.Return ∷ terminal.Self_ ∷
    terminal.Signal ∷ terminal.Stdout ∷ terminal.True ∷ terminal.Unfix ∷ terminal.Var ∷ terminal.Vector ∷ terminal.Wait ∷
    terminal.Name ∷ terminal.Create ∷ terminal.Putstring ∷ terminal.Count ∷ terminal.Number ∷ terminal.Literal ∷
    terminal.OpenParenthesis ∷ []
first part.Declaration = terminal.Assert ∷ terminal.Const ∷ terminal.Exit ∷ terminal.False ∷ terminal.Fix ∷ terminal.If ∷ terminal.Loop ∷
    terminal.Monitor ∷ terminal.Move ∷ terminal.Nil ∷ terminal.Node ∷ terminal.Object ∷ terminal.Refix ∷ terminal.Return ∷ terminal.Self_ ∷
    terminal.Signal ∷ terminal.Stdout ∷ terminal.True ∷ terminal.Unfix ∷ terminal.Var ∷ terminal.Vector ∷ terminal.Wait ∷
    terminal.Name ∷ terminal.Create ∷ terminal.Putstring ∷ terminal.Count ∷ terminal.Number ∷ terminal.Literal ∷
    terminal.OpenParenthesis ∷ []
first part.Statement = terminal.Assert ∷ terminal.Exit ∷ terminal.False ∷ terminal.Fix ∷ terminal.If ∷ terminal.Loop ∷ terminal.Monitor ∷
    terminal.Move ∷ terminal.Nil ∷ terminal.Node ∷ terminal.Object ∷ terminal.Refix ∷ terminal.Return ∷ terminal.Self_ ∷ terminal.Signal ∷
    terminal.Stdout ∷ terminal.True ∷ terminal.Unfix ∷ terminal.Vector ∷ terminal.Wait ∷ terminal.Name ∷ terminal.Create ∷
    terminal.Putstring ∷ terminal.Count ∷ terminal.Number ∷ terminal.Literal ∷ terminal.OpenParenthesis ∷ []
first part.AfterName = terminal.Arrow ∷ terminal.OpenBracket ∷ terminal.Dot ∷ []
first part.AfterOther = terminal.OpenBracket ∷ terminal.Dot ∷ []
first part.AfterIndex = terminal.Arrow ∷ terminal.OpenBracket ∷ terminal.Dot ∷ []
first part.AfterField = terminal.OpenBracket ∷ terminal.Dot ∷ []
first part.AfterCall = terminal.OpenBracket ∷ terminal.Dot ∷ []
first part.ElseIfs = terminal.Elseif ∷ []
first part.Else = terminal.Else ∷ []
first part.When = terminal.When ∷ []
first part.Expression = terminal.False ∷ terminal.Isfixed ∷ terminal.Monitor ∷ terminal.Nil ∷ terminal.Node ∷ terminal.Object ∷
    terminal.Self_ ∷ terminal.True ∷ terminal.Vector ∷ terminal.View ∷ terminal.Name ∷ terminal.Create ∷ terminal.Putstring ∷
    terminal.Count ∷ terminal.Number ∷ terminal.Literal ∷ terminal.OpenParenthesis ∷ terminal.Minus ∷ terminal.Bang ∷ []
first part.OrTail = terminal.Or ∷ []
first part.And = terminal.False ∷ terminal.Isfixed ∷ terminal.Monitor ∷ terminal.Nil ∷ terminal.Node ∷ terminal.Object ∷ terminal.Self_ ∷
    terminal.True ∷ terminal.Vector ∷ terminal.View ∷ terminal.Name ∷ terminal.Create ∷ terminal.Putstring ∷ terminal.Count ∷
    terminal.Number ∷ terminal.Literal ∷ terminal.OpenParenthesis ∷ terminal.Minus ∷ terminal.Bang ∷ []
first part.AndTail = terminal.And ∷ []
first part.Not = terminal.False ∷ terminal.Isfixed ∷ terminal.Monitor ∷ terminal.Nil ∷ terminal.Node ∷ terminal.Object ∷ terminal.Self_ ∷
    terminal.True ∷ terminal.Vector ∷ terminal.View ∷ terminal.Name ∷ terminal.Create ∷ terminal.Putstring ∷ terminal.Count ∷
    terminal.Number ∷ terminal.Literal ∷ terminal.OpenParenthesis ∷ terminal.Minus ∷ terminal.Bang ∷ []
first part.NotPrefix = terminal.Bang ∷ []
first part.Rel = terminal.False ∷ terminal.Isfixed ∷ terminal.Monitor ∷ terminal.Nil ∷ terminal.Node ∷ terminal.Object ∷ terminal.Self_ ∷
    terminal.True ∷ terminal.Vector ∷ terminal.View ∷ terminal.Name ∷ terminal.Create ∷ terminal.Putstring ∷ terminal.Count ∷
    terminal.Number ∷ terminal.Literal ∷ terminal.OpenParenthesis ∷ terminal.Minus ∷ []
first part.CompareTail = terminal.Same ∷ terminal.NotSame ∷ terminal.Equal ∷ terminal.NotEqual ∷ terminal.Less ∷ terminal.LessEqual ∷
    terminal.More ∷ terminal.MoreEqual ∷ []
first part.CompareWord = terminal.Same ∷ terminal.NotSame ∷ terminal.Equal ∷ terminal.NotEqual ∷ terminal.Less ∷ terminal.LessEqual ∷
    terminal.More ∷ terminal.MoreEqual ∷ []
first part.Sum = terminal.False ∷ terminal.Isfixed ∷ terminal.Monitor ∷ terminal.Nil ∷ terminal.Node ∷ terminal.Object ∷ terminal.Self_ ∷
    terminal.True ∷ terminal.Vector ∷ terminal.View ∷ terminal.Name ∷ terminal.Create ∷ terminal.Putstring ∷ terminal.Count ∷
    terminal.Number ∷ terminal.Literal ∷ terminal.OpenParenthesis ∷ terminal.Minus ∷ []
first part.SumTail = terminal.Plus ∷ terminal.Minus ∷ terminal.Concat ∷ []
first part.SumWord = terminal.Plus ∷ terminal.Minus ∷ terminal.Concat ∷ []
first part.Term = terminal.False ∷ terminal.Isfixed ∷ terminal.Monitor ∷ terminal.Nil ∷ terminal.Node ∷ terminal.Object ∷ terminal.Self_ ∷
    terminal.True ∷ terminal.Vector ∷ terminal.View ∷ terminal.Name ∷ terminal.Create ∷ terminal.Putstring ∷ terminal.Count ∷
    terminal.Number ∷ terminal.Literal ∷ terminal.OpenParenthesis ∷ terminal.Minus ∷ []
first part.TermTail = terminal.Times ∷ terminal.Over ∷ terminal.Remainder ∷ []
first part.TermWord = terminal.Times ∷ terminal.Over ∷ terminal.Remainder ∷ []
first part.Unary = terminal.False ∷ terminal.Isfixed ∷ terminal.Monitor ∷ terminal.Nil ∷ terminal.Node ∷ terminal.Object ∷ terminal.Self_ ∷
    terminal.True ∷ terminal.Vector ∷ terminal.View ∷ terminal.Name ∷ terminal.Create ∷ terminal.Putstring ∷ terminal.Count ∷
    terminal.Number ∷ terminal.Literal ∷ terminal.OpenParenthesis ∷ terminal.Minus ∷ []
first part.UnaryPrefix = terminal.Isfixed ∷ terminal.View ∷ terminal.Minus ∷ []
first part.Postfix = terminal.False ∷ terminal.Monitor ∷ terminal.Nil ∷ terminal.Node ∷ terminal.Object ∷ terminal.Self_ ∷ terminal.True ∷
    terminal.Vector ∷ terminal.Name ∷ terminal.Create ∷ terminal.Putstring ∷ terminal.Count ∷ terminal.Number ∷ terminal.Literal ∷
    terminal.OpenParenthesis ∷ []
first part.PostfixTail = terminal.OpenBracket ∷ terminal.Dot ∷ []
first part.AfterDot = terminal.OpenBracket ∷ terminal.Dot ∷ []
first part.Arguments = terminal.False ∷ terminal.Isfixed ∷ terminal.Monitor ∷ terminal.Nil ∷ terminal.Node ∷ terminal.Object ∷
    terminal.Self_ ∷ terminal.True ∷ terminal.Vector ∷ terminal.View ∷ terminal.Name ∷ terminal.Create ∷ terminal.Putstring ∷
    terminal.Count ∷ terminal.Number ∷ terminal.Literal ∷ terminal.OpenParenthesis ∷ terminal.Minus ∷ terminal.Bang ∷ []
first part.MoreArguments = terminal.Comma ∷ []
first part.Primary = terminal.False ∷ terminal.Monitor ∷ terminal.Nil ∷ terminal.Node ∷ terminal.Object ∷ terminal.Self_ ∷ terminal.True ∷
    terminal.Vector ∷ terminal.Name ∷ terminal.Create ∷ terminal.Putstring ∷ terminal.Count ∷ terminal.Number ∷ terminal.Literal ∷
    terminal.OpenParenthesis ∷ []
first part.Plain = terminal.False ∷ terminal.Nil ∷ terminal.Node ∷ terminal.Object ∷ terminal.Self_ ∷ terminal.True ∷ terminal.Vector ∷
    terminal.Name ∷ terminal.Create ∷ terminal.Putstring ∷ terminal.Count ∷ terminal.Number ∷ terminal.Literal ∷ terminal.OpenParenthesis ∷
    []
first part.OtherPlain = terminal.False ∷ terminal.Nil ∷ terminal.Node ∷ terminal.Object ∷ terminal.Self_ ∷ terminal.True ∷ terminal.Vector ∷
    terminal.Number ∷ terminal.Literal ∷ terminal.OpenParenthesis ∷ []
first part.NodeRest = terminal.At ∷ terminal.Count ∷ []

abbrev pub nullable : Part → Bool
nullable part.Program = true
nullable part.Constants = true
nullable part.ConstantRest = false
nullable part.ConstantValue = false
nullable part.AfterMonitor = false
nullable part.TermRest = true
nullable part.AndRest = true
nullable part.Name = false
nullable part.Typeobject = false
nullable part.Signatures = true
nullable part.SignatureParameters = true
nullable part.Sigs = true
nullable part.MoreSigs = true
nullable part.SignatureResult = true
nullable part.OperationWord = false
nullable part.Sig = false
nullable part.AfterSigName = true
nullable part.Type = false
nullable part.PlainType = false
nullable part.ClassRest = false
nullable part.ObjectRest = false
nullable part.Parameters = true
nullable part.ParameterList = true
nullable part.MoreParameters = true
nullable part.Parameter = false
nullable part.Body = true
nullable part.Members = true
nullable part.Initially = true
nullable part.Process = true
nullable part.Member = false
nullable part.AttachedField = false
nullable part.ConstantField = false
nullable part.FieldValue = false
nullable part.ConditionTail = true
nullable part.OperationRest = false
nullable part.OperationResult = true
nullable part.Initial = true
nullable part.TypedValue = false
nullable part.Block = true
nullable part.Statements = true
nullable part.Declaration = false
nullable part.Statement = false
nullable part.AfterName = false
nullable part.AfterOther = false
nullable part.AfterIndex = false
nullable part.AfterField = true
nullable part.AfterCall = true
nullable part.ElseIfs = true
nullable part.Else = true
nullable part.When = true
nullable part.Expression = false
nullable part.OrTail = true
nullable part.And = false
nullable part.AndTail = true
nullable part.Not = false
nullable part.NotPrefix = false
nullable part.Rel = false
nullable part.CompareTail = true
nullable part.CompareWord = false
nullable part.Sum = false
nullable part.SumTail = true
nullable part.SumWord = false
nullable part.Term = false
nullable part.TermTail = true
nullable part.TermWord = false
nullable part.Unary = false
nullable part.UnaryPrefix = false
nullable part.Postfix = false
nullable part.PostfixTail = true
nullable part.AfterDot = true
nullable part.Arguments = true
nullable part.MoreArguments = true
nullable part.Primary = false
nullable part.Plain = false
nullable part.OtherPlain = false
nullable part.NodeRest = false

abbrev pub follow : Part → List Terminal
follow part.Program = terminal.EndOfText ∷ []
follow part.Constants = terminal.EndOfText ∷ []
follow part.ConstantRest = terminal.Const ∷ terminal.EndOfText ∷ []
follow part.ConstantValue = terminal.Const ∷ terminal.EndOfText ∷ []
follow part.AfterMonitor = terminal.Const ∷ terminal.EndOfText ∷ []
follow part.TermRest = terminal.Const ∷ terminal.EndOfText ∷ []
follow part.AndRest = terminal.Const ∷ terminal.EndOfText ∷ []
follow part.Name = terminal.And ∷ terminal.As ∷ terminal.Assert ∷ terminal.At ∷ terminal.Attached ∷ terminal.Const ∷ terminal.Else ∷
    terminal.Elseif ∷ terminal.End ∷ terminal.Exit ∷ terminal.Export ∷ terminal.False ∷ terminal.Fix ∷ terminal.Function ∷ terminal.If ∷
    terminal.Initially ∷ terminal.Loop ∷ terminal.Monitor ∷ terminal.Move ∷ terminal.Nil ∷ terminal.Node ∷ terminal.Object ∷
    terminal.Operation ∷ terminal.Or ∷ terminal.Process ∷ terminal.Refix ∷ terminal.Return ∷ terminal.Self_ ∷ terminal.Signal ∷
    terminal.Stdout ∷ terminal.Then ∷ terminal.To ∷ terminal.True ∷ terminal.Unfix ∷ terminal.Var ∷ terminal.Vector ∷
    terminal.Wait ∷ terminal.Name ∷ terminal.Create ∷ terminal.Putstring ∷ terminal.Count ∷ terminal.Number ∷
    terminal.Literal ∷ terminal.Arrow ∷ terminal.ResultArrow ∷ terminal.OpenParenthesis ∷ terminal.CloseParenthesis ∷
    terminal.OpenBracket ∷ terminal.CloseBracket ∷ terminal.Comma ∷ terminal.Colon ∷ terminal.Dot ∷ terminal.Plus ∷
    terminal.Minus ∷ terminal.Times ∷ terminal.Over ∷ terminal.Remainder ∷ terminal.Concat ∷ terminal.Same ∷
    terminal.NotSame ∷ terminal.Equal ∷ terminal.NotEqual ∷ terminal.Less ∷ terminal.LessEqual ∷
    terminal.More ∷ terminal.MoreEqual ∷ terminal.EndOfText ∷ []
follow part.Typeobject = terminal.Const ∷ terminal.EndOfText ∷ []
follow part.Signatures = terminal.End ∷ []
follow part.SignatureParameters = terminal.End ∷ terminal.Function ∷ terminal.Operation ∷ terminal.ResultArrow ∷ []
follow part.Sigs = terminal.CloseBracket ∷ []
follow part.MoreSigs = terminal.CloseBracket ∷ []
follow part.SignatureResult = terminal.End ∷ terminal.Function ∷ terminal.Operation ∷ []
follow part.OperationWord = terminal.Name ∷ terminal.Create ∷ terminal.Putstring ∷ terminal.Count ∷ []
follow part.Sig = terminal.CloseBracket ∷ terminal.Comma ∷ []
follow part.AfterSigName = terminal.CloseBracket ∷ terminal.Comma ∷ []
follow part.Type = terminal.And ∷ terminal.As ∷ terminal.Assert ∷ terminal.At ∷ terminal.Attached ∷ terminal.Const ∷ terminal.Else ∷
    terminal.Elseif ∷ terminal.End ∷ terminal.Exit ∷ terminal.Export ∷ terminal.False ∷ terminal.Fix ∷ terminal.Function ∷ terminal.If ∷
    terminal.Initially ∷ terminal.Loop ∷ terminal.Monitor ∷ terminal.Move ∷ terminal.Nil ∷ terminal.Node ∷ terminal.Object ∷
    terminal.Operation ∷ terminal.Or ∷ terminal.Process ∷ terminal.Refix ∷ terminal.Return ∷ terminal.Self_ ∷ terminal.Signal ∷
    terminal.Stdout ∷ terminal.Then ∷ terminal.To ∷ terminal.True ∷ terminal.Unfix ∷ terminal.Var ∷ terminal.Vector ∷
    terminal.Wait ∷ terminal.Name ∷ terminal.Create ∷ terminal.Putstring ∷ terminal.Count ∷ terminal.Number ∷
    terminal.Literal ∷ terminal.Arrow ∷ terminal.OpenParenthesis ∷ terminal.CloseParenthesis ∷ terminal.CloseBracket ∷
    terminal.Comma ∷ terminal.Plus ∷ terminal.Minus ∷ terminal.Times ∷ terminal.Over ∷ terminal.Remainder ∷
    terminal.Concat ∷ terminal.Same ∷ terminal.NotSame ∷ terminal.Equal ∷ terminal.NotEqual ∷ terminal.Less ∷
    terminal.LessEqual ∷ terminal.More ∷ terminal.MoreEqual ∷ terminal.EndOfText ∷ []
follow part.PlainType = terminal.And ∷ terminal.As ∷ terminal.Assert ∷ terminal.At ∷ terminal.Attached ∷ terminal.Const ∷ terminal.Else ∷
    terminal.Elseif ∷ terminal.End ∷ terminal.Exit ∷ terminal.Export ∷ terminal.False ∷ terminal.Fix ∷ terminal.Function ∷ terminal.If ∷
    terminal.Initially ∷ terminal.Loop ∷ terminal.Monitor ∷ terminal.Move ∷ terminal.Nil ∷ terminal.Node ∷ terminal.Object ∷
    terminal.Operation ∷ terminal.Or ∷ terminal.Process ∷ terminal.Refix ∷ terminal.Return ∷ terminal.Self_ ∷ terminal.Signal ∷
    terminal.Stdout ∷ terminal.Then ∷ terminal.To ∷ terminal.True ∷ terminal.Unfix ∷ terminal.Var ∷ terminal.Vector ∷
    terminal.Wait ∷ terminal.Name ∷ terminal.Create ∷ terminal.Putstring ∷ terminal.Count ∷ terminal.Number ∷
    terminal.Literal ∷ terminal.Arrow ∷ terminal.OpenParenthesis ∷ terminal.CloseParenthesis ∷ terminal.CloseBracket ∷
    terminal.Comma ∷ terminal.Plus ∷ terminal.Minus ∷ terminal.Times ∷ terminal.Over ∷ terminal.Remainder ∷
    terminal.Concat ∷ terminal.Same ∷ terminal.NotSame ∷ terminal.Equal ∷ terminal.NotEqual ∷ terminal.Less ∷
    terminal.LessEqual ∷ terminal.More ∷ terminal.MoreEqual ∷ terminal.EndOfText ∷ []
follow part.ClassRest = terminal.Const ∷ terminal.EndOfText ∷ []
follow part.ObjectRest = terminal.And ∷ terminal.As ∷ terminal.Assert ∷ terminal.At ∷ terminal.Attached ∷ terminal.Const ∷ terminal.Else ∷
    terminal.Elseif ∷ terminal.End ∷ terminal.Exit ∷ terminal.Export ∷ terminal.False ∷ terminal.Fix ∷ terminal.Function ∷ terminal.If ∷
    terminal.Initially ∷ terminal.Loop ∷ terminal.Monitor ∷ terminal.Move ∷ terminal.Nil ∷ terminal.Node ∷ terminal.Object ∷
    terminal.Operation ∷ terminal.Or ∷ terminal.Process ∷ terminal.Refix ∷ terminal.Return ∷ terminal.Self_ ∷ terminal.Signal ∷
    terminal.Stdout ∷ terminal.Then ∷ terminal.To ∷ terminal.True ∷ terminal.Unfix ∷ terminal.Var ∷ terminal.Vector ∷
    terminal.Wait ∷ terminal.Name ∷ terminal.Create ∷ terminal.Putstring ∷ terminal.Count ∷ terminal.Number ∷
    terminal.Literal ∷ terminal.OpenParenthesis ∷ terminal.CloseParenthesis ∷ terminal.OpenBracket ∷
    terminal.CloseBracket ∷ terminal.Comma ∷ terminal.Dot ∷ terminal.Plus ∷ terminal.Minus ∷ terminal.Times ∷
    terminal.Over ∷ terminal.Remainder ∷ terminal.Concat ∷ terminal.Same ∷ terminal.NotSame ∷ terminal.Equal ∷
    terminal.NotEqual ∷ terminal.Less ∷ terminal.LessEqual ∷ terminal.More ∷ terminal.MoreEqual ∷
    terminal.EndOfText ∷ []
follow part.Parameters = terminal.Assert ∷ terminal.Attached ∷ terminal.Const ∷ terminal.End ∷ terminal.Exit ∷ terminal.Export ∷
    terminal.False ∷ terminal.Fix ∷ terminal.Function ∷ terminal.If ∷ terminal.Initially ∷ terminal.Loop ∷ terminal.Monitor ∷
    terminal.Move ∷ terminal.Nil ∷ terminal.Node ∷ terminal.Object ∷ terminal.Operation ∷ terminal.Process ∷ terminal.Refix ∷
    terminal.Return ∷ terminal.Self_ ∷ terminal.Signal ∷ terminal.Stdout ∷ terminal.True ∷ terminal.Unfix ∷ terminal.Var ∷
    terminal.Vector ∷ terminal.Wait ∷ terminal.Name ∷ terminal.Create ∷ terminal.Putstring ∷ terminal.Count ∷ terminal.Number ∷
    terminal.Literal ∷ terminal.ResultArrow ∷ terminal.OpenParenthesis ∷ []
follow part.ParameterList = terminal.CloseBracket ∷ []
follow part.MoreParameters = terminal.CloseBracket ∷ []
follow part.Parameter = terminal.CloseBracket ∷ terminal.Comma ∷ []
follow part.Body = terminal.End ∷ []
follow part.Members = terminal.End ∷ terminal.Initially ∷ terminal.Process ∷ []
follow part.Initially = terminal.End ∷ terminal.Process ∷ []
follow part.Process = terminal.End ∷ []
follow part.Member = terminal.Attached ∷ terminal.Const ∷ terminal.End ∷ terminal.Export ∷ terminal.Function ∷ terminal.Initially ∷
    terminal.Operation ∷ terminal.Process ∷ terminal.Var ∷ []
follow part.AttachedField = terminal.Attached ∷ terminal.Const ∷ terminal.End ∷ terminal.Export ∷ terminal.Function ∷ terminal.Initially ∷
    terminal.Operation ∷ terminal.Process ∷ terminal.Var ∷ []
follow part.ConstantField = terminal.Attached ∷ terminal.Const ∷ terminal.End ∷ terminal.Export ∷ terminal.Function ∷ terminal.Initially ∷
    terminal.Operation ∷ terminal.Process ∷ terminal.Var ∷ []
follow part.FieldValue = terminal.Attached ∷ terminal.Const ∷ terminal.End ∷ terminal.Export ∷ terminal.Function ∷ terminal.Initially ∷
    terminal.Operation ∷ terminal.Process ∷ terminal.Var ∷ []
follow part.ConditionTail = terminal.Attached ∷ terminal.Const ∷ terminal.End ∷ terminal.Export ∷ terminal.Function ∷ terminal.Initially ∷
    terminal.Operation ∷ terminal.Process ∷ terminal.Var ∷ []
follow part.OperationRest = terminal.Attached ∷ terminal.Const ∷ terminal.End ∷ terminal.Export ∷ terminal.Function ∷ terminal.Initially ∷
    terminal.Operation ∷ terminal.Process ∷ terminal.Var ∷ []
follow part.OperationResult = terminal.Assert ∷ terminal.Const ∷ terminal.End ∷ terminal.Exit ∷ terminal.False ∷ terminal.Fix ∷
    terminal.If ∷ terminal.Loop ∷ terminal.Monitor ∷ terminal.Move ∷ terminal.Nil ∷ terminal.Node ∷ terminal.Object ∷ terminal.Refix ∷
    terminal.Return ∷ terminal.Self_ ∷ terminal.Signal ∷ terminal.Stdout ∷ terminal.True ∷ terminal.Unfix ∷ terminal.Var ∷
    terminal.Vector ∷ terminal.Wait ∷ terminal.Name ∷ terminal.Create ∷ terminal.Putstring ∷ terminal.Count ∷ terminal.Number ∷
    terminal.Literal ∷ terminal.OpenParenthesis ∷ []
follow part.Initial = terminal.Assert ∷ terminal.Attached ∷ terminal.Const ∷ terminal.Else ∷ terminal.Elseif ∷ terminal.End ∷
    terminal.Exit ∷ terminal.Export ∷ terminal.False ∷ terminal.Fix ∷ terminal.Function ∷ terminal.If ∷ terminal.Initially ∷ terminal.Loop ∷
    terminal.Monitor ∷ terminal.Move ∷ terminal.Nil ∷ terminal.Node ∷ terminal.Object ∷ terminal.Operation ∷ terminal.Process ∷
    terminal.Refix ∷ terminal.Return ∷ terminal.Self_ ∷ terminal.Signal ∷ terminal.Stdout ∷ terminal.True ∷ terminal.Unfix ∷
    terminal.Var ∷ terminal.Vector ∷ terminal.Wait ∷ terminal.Name ∷ terminal.Create ∷ terminal.Putstring ∷ terminal.Count ∷
    terminal.Number ∷ terminal.Literal ∷ terminal.OpenParenthesis ∷ []
follow part.TypedValue = terminal.Assert ∷ terminal.Attached ∷ terminal.Const ∷ terminal.Else ∷ terminal.Elseif ∷ terminal.End ∷
    terminal.Exit ∷ terminal.Export ∷ terminal.False ∷ terminal.Fix ∷ terminal.Function ∷ terminal.If ∷ terminal.Initially ∷ terminal.Loop ∷
    terminal.Monitor ∷ terminal.Move ∷ terminal.Nil ∷ terminal.Node ∷ terminal.Object ∷ terminal.Operation ∷ terminal.Process ∷
    terminal.Refix ∷ terminal.Return ∷ terminal.Self_ ∷ terminal.Signal ∷ terminal.Stdout ∷ terminal.True ∷ terminal.Unfix ∷
    terminal.Var ∷ terminal.Vector ∷ terminal.Wait ∷ terminal.Name ∷ terminal.Create ∷ terminal.Putstring ∷ terminal.Count ∷
    terminal.Number ∷ terminal.Literal ∷ terminal.OpenParenthesis ∷ []
follow part.Block = terminal.Else ∷ terminal.Elseif ∷ terminal.End ∷ []
follow part.Statements = terminal.Else ∷ terminal.Elseif ∷ terminal.End ∷ []
follow part.Declaration = terminal.Assert ∷ terminal.Const ∷ terminal.Else ∷ terminal.Elseif ∷ terminal.End ∷ terminal.Exit ∷
    terminal.False ∷ terminal.Fix ∷ terminal.If ∷ terminal.Loop ∷ terminal.Monitor ∷ terminal.Move ∷ terminal.Nil ∷ terminal.Node ∷
    terminal.Object ∷ terminal.Refix ∷ terminal.Return ∷ terminal.Self_ ∷ terminal.Signal ∷ terminal.Stdout ∷ terminal.True ∷
    terminal.Unfix ∷ terminal.Var ∷ terminal.Vector ∷ terminal.Wait ∷ terminal.Name ∷ terminal.Create ∷ terminal.Putstring ∷
    terminal.Count ∷ terminal.Number ∷ terminal.Literal ∷ terminal.OpenParenthesis ∷ []
follow part.Statement = terminal.Assert ∷ terminal.Const ∷ terminal.Else ∷ terminal.Elseif ∷ terminal.End ∷ terminal.Exit ∷ terminal.False ∷
    terminal.Fix ∷ terminal.If ∷ terminal.Loop ∷ terminal.Monitor ∷ terminal.Move ∷ terminal.Nil ∷ terminal.Node ∷ terminal.Object ∷
    terminal.Refix ∷ terminal.Return ∷ terminal.Self_ ∷ terminal.Signal ∷ terminal.Stdout ∷ terminal.True ∷ terminal.Unfix ∷
    terminal.Var ∷ terminal.Vector ∷ terminal.Wait ∷ terminal.Name ∷ terminal.Create ∷ terminal.Putstring ∷ terminal.Count ∷
    terminal.Number ∷ terminal.Literal ∷ terminal.OpenParenthesis ∷ []
follow part.AfterName = terminal.Assert ∷ terminal.Const ∷ terminal.Else ∷ terminal.Elseif ∷ terminal.End ∷ terminal.Exit ∷ terminal.False ∷
    terminal.Fix ∷ terminal.If ∷ terminal.Loop ∷ terminal.Monitor ∷ terminal.Move ∷ terminal.Nil ∷ terminal.Node ∷ terminal.Object ∷
    terminal.Refix ∷ terminal.Return ∷ terminal.Self_ ∷ terminal.Signal ∷ terminal.Stdout ∷ terminal.True ∷ terminal.Unfix ∷
    terminal.Var ∷ terminal.Vector ∷ terminal.Wait ∷ terminal.Name ∷ terminal.Create ∷ terminal.Putstring ∷ terminal.Count ∷
    terminal.Number ∷ terminal.Literal ∷ terminal.OpenParenthesis ∷ []
follow part.AfterOther = terminal.Assert ∷ terminal.Const ∷ terminal.Else ∷ terminal.Elseif ∷ terminal.End ∷ terminal.Exit ∷
    terminal.False ∷ terminal.Fix ∷ terminal.If ∷ terminal.Loop ∷ terminal.Monitor ∷ terminal.Move ∷ terminal.Nil ∷ terminal.Node ∷
    terminal.Object ∷ terminal.Refix ∷ terminal.Return ∷ terminal.Self_ ∷ terminal.Signal ∷ terminal.Stdout ∷ terminal.True ∷
    terminal.Unfix ∷ terminal.Var ∷ terminal.Vector ∷ terminal.Wait ∷ terminal.Name ∷ terminal.Create ∷ terminal.Putstring ∷
    terminal.Count ∷ terminal.Number ∷ terminal.Literal ∷ terminal.OpenParenthesis ∷ []
follow part.AfterIndex = terminal.Assert ∷ terminal.Const ∷ terminal.Else ∷ terminal.Elseif ∷ terminal.End ∷ terminal.Exit ∷
    terminal.False ∷ terminal.Fix ∷ terminal.If ∷ terminal.Loop ∷ terminal.Monitor ∷ terminal.Move ∷ terminal.Nil ∷ terminal.Node ∷
    terminal.Object ∷ terminal.Refix ∷ terminal.Return ∷ terminal.Self_ ∷ terminal.Signal ∷ terminal.Stdout ∷ terminal.True ∷
    terminal.Unfix ∷ terminal.Var ∷ terminal.Vector ∷ terminal.Wait ∷ terminal.Name ∷ terminal.Create ∷ terminal.Putstring ∷
    terminal.Count ∷ terminal.Number ∷ terminal.Literal ∷ terminal.OpenParenthesis ∷ []
follow part.AfterField = terminal.Assert ∷ terminal.Const ∷ terminal.Else ∷ terminal.Elseif ∷ terminal.End ∷ terminal.Exit ∷
    terminal.False ∷ terminal.Fix ∷ terminal.If ∷ terminal.Loop ∷ terminal.Monitor ∷ terminal.Move ∷ terminal.Nil ∷ terminal.Node ∷
    terminal.Object ∷ terminal.Refix ∷ terminal.Return ∷ terminal.Self_ ∷ terminal.Signal ∷ terminal.Stdout ∷ terminal.True ∷
    terminal.Unfix ∷ terminal.Var ∷ terminal.Vector ∷ terminal.Wait ∷ terminal.Name ∷ terminal.Create ∷ terminal.Putstring ∷
    terminal.Count ∷ terminal.Number ∷ terminal.Literal ∷ terminal.OpenParenthesis ∷ []
follow part.AfterCall = terminal.Assert ∷ terminal.Const ∷ terminal.Else ∷ terminal.Elseif ∷ terminal.End ∷ terminal.Exit ∷ terminal.False ∷
    terminal.Fix ∷ terminal.If ∷ terminal.Loop ∷ terminal.Monitor ∷ terminal.Move ∷ terminal.Nil ∷ terminal.Node ∷ terminal.Object ∷
    terminal.Refix ∷ terminal.Return ∷ terminal.Self_ ∷ terminal.Signal ∷ terminal.Stdout ∷ terminal.True ∷ terminal.Unfix ∷
    terminal.Var ∷ terminal.Vector ∷ terminal.Wait ∷ terminal.Name ∷ terminal.Create ∷ terminal.Putstring ∷ terminal.Count ∷
    terminal.Number ∷ terminal.Literal ∷ terminal.OpenParenthesis ∷ []
follow part.ElseIfs = terminal.Else ∷ terminal.End ∷ []
follow part.Else = terminal.End ∷ []
follow part.When = terminal.Assert ∷ terminal.Const ∷ terminal.Else ∷ terminal.Elseif ∷ terminal.End ∷ terminal.Exit ∷ terminal.False ∷
    terminal.Fix ∷ terminal.If ∷ terminal.Loop ∷ terminal.Monitor ∷ terminal.Move ∷ terminal.Nil ∷ terminal.Node ∷ terminal.Object ∷
    terminal.Refix ∷ terminal.Return ∷ terminal.Self_ ∷ terminal.Signal ∷ terminal.Stdout ∷ terminal.True ∷ terminal.Unfix ∷
    terminal.Var ∷ terminal.Vector ∷ terminal.Wait ∷ terminal.Name ∷ terminal.Create ∷ terminal.Putstring ∷ terminal.Count ∷
    terminal.Number ∷ terminal.Literal ∷ terminal.OpenParenthesis ∷ []
follow part.Expression = terminal.Assert ∷ terminal.At ∷ terminal.Attached ∷ terminal.Const ∷ terminal.Else ∷ terminal.Elseif ∷
    terminal.End ∷ terminal.Exit ∷ terminal.Export ∷ terminal.False ∷ terminal.Fix ∷ terminal.Function ∷ terminal.If ∷ terminal.Initially ∷
    terminal.Loop ∷ terminal.Monitor ∷ terminal.Move ∷ terminal.Nil ∷ terminal.Node ∷ terminal.Object ∷ terminal.Operation ∷
    terminal.Process ∷ terminal.Refix ∷ terminal.Return ∷ terminal.Self_ ∷ terminal.Signal ∷ terminal.Stdout ∷ terminal.Then ∷
    terminal.To ∷ terminal.True ∷ terminal.Unfix ∷ terminal.Var ∷ terminal.Vector ∷ terminal.Wait ∷ terminal.Name ∷
    terminal.Create ∷ terminal.Putstring ∷ terminal.Count ∷ terminal.Number ∷ terminal.Literal ∷ terminal.OpenParenthesis ∷
    terminal.CloseParenthesis ∷ terminal.CloseBracket ∷ terminal.Comma ∷ terminal.EndOfText ∷ []
follow part.OrTail = terminal.Assert ∷ terminal.At ∷ terminal.Attached ∷ terminal.Const ∷ terminal.Else ∷ terminal.Elseif ∷ terminal.End ∷
    terminal.Exit ∷ terminal.Export ∷ terminal.False ∷ terminal.Fix ∷ terminal.Function ∷ terminal.If ∷ terminal.Initially ∷ terminal.Loop ∷
    terminal.Monitor ∷ terminal.Move ∷ terminal.Nil ∷ terminal.Node ∷ terminal.Object ∷ terminal.Operation ∷ terminal.Process ∷
    terminal.Refix ∷ terminal.Return ∷ terminal.Self_ ∷ terminal.Signal ∷ terminal.Stdout ∷ terminal.Then ∷ terminal.To ∷
    terminal.True ∷ terminal.Unfix ∷ terminal.Var ∷ terminal.Vector ∷ terminal.Wait ∷ terminal.Name ∷ terminal.Create ∷
    terminal.Putstring ∷ terminal.Count ∷ terminal.Number ∷ terminal.Literal ∷ terminal.OpenParenthesis ∷
    terminal.CloseParenthesis ∷ terminal.CloseBracket ∷ terminal.Comma ∷ terminal.EndOfText ∷ []
follow part.And = terminal.Assert ∷ terminal.At ∷ terminal.Attached ∷ terminal.Const ∷ terminal.Else ∷ terminal.Elseif ∷ terminal.End ∷
    terminal.Exit ∷ terminal.Export ∷ terminal.False ∷ terminal.Fix ∷ terminal.Function ∷ terminal.If ∷ terminal.Initially ∷ terminal.Loop ∷
    terminal.Monitor ∷ terminal.Move ∷ terminal.Nil ∷ terminal.Node ∷ terminal.Object ∷ terminal.Operation ∷ terminal.Or ∷
    terminal.Process ∷ terminal.Refix ∷ terminal.Return ∷ terminal.Self_ ∷ terminal.Signal ∷ terminal.Stdout ∷ terminal.Then ∷
    terminal.To ∷ terminal.True ∷ terminal.Unfix ∷ terminal.Var ∷ terminal.Vector ∷ terminal.Wait ∷ terminal.Name ∷
    terminal.Create ∷ terminal.Putstring ∷ terminal.Count ∷ terminal.Number ∷ terminal.Literal ∷ terminal.OpenParenthesis ∷
    terminal.CloseParenthesis ∷ terminal.CloseBracket ∷ terminal.Comma ∷ terminal.EndOfText ∷ []
follow part.AndTail = terminal.Assert ∷ terminal.At ∷ terminal.Attached ∷ terminal.Const ∷ terminal.Else ∷ terminal.Elseif ∷ terminal.End ∷
    terminal.Exit ∷ terminal.Export ∷ terminal.False ∷ terminal.Fix ∷ terminal.Function ∷ terminal.If ∷ terminal.Initially ∷ terminal.Loop ∷
    terminal.Monitor ∷ terminal.Move ∷ terminal.Nil ∷ terminal.Node ∷ terminal.Object ∷ terminal.Operation ∷ terminal.Or ∷
    terminal.Process ∷ terminal.Refix ∷ terminal.Return ∷ terminal.Self_ ∷ terminal.Signal ∷ terminal.Stdout ∷ terminal.Then ∷
    terminal.To ∷ terminal.True ∷ terminal.Unfix ∷ terminal.Var ∷ terminal.Vector ∷ terminal.Wait ∷ terminal.Name ∷
    terminal.Create ∷ terminal.Putstring ∷ terminal.Count ∷ terminal.Number ∷ terminal.Literal ∷ terminal.OpenParenthesis ∷
    terminal.CloseParenthesis ∷ terminal.CloseBracket ∷ terminal.Comma ∷ terminal.EndOfText ∷ []
follow part.Not = terminal.And ∷ terminal.Assert ∷ terminal.At ∷ terminal.Attached ∷ terminal.Const ∷ terminal.Else ∷ terminal.Elseif ∷
    terminal.End ∷ terminal.Exit ∷ terminal.Export ∷ terminal.False ∷ terminal.Fix ∷ terminal.Function ∷ terminal.If ∷ terminal.Initially ∷
    terminal.Loop ∷ terminal.Monitor ∷ terminal.Move ∷ terminal.Nil ∷ terminal.Node ∷ terminal.Object ∷ terminal.Operation ∷
    terminal.Or ∷ terminal.Process ∷ terminal.Refix ∷ terminal.Return ∷ terminal.Self_ ∷ terminal.Signal ∷ terminal.Stdout ∷
    terminal.Then ∷ terminal.To ∷ terminal.True ∷ terminal.Unfix ∷ terminal.Var ∷ terminal.Vector ∷ terminal.Wait ∷
    terminal.Name ∷ terminal.Create ∷ terminal.Putstring ∷ terminal.Count ∷ terminal.Number ∷ terminal.Literal ∷
    terminal.OpenParenthesis ∷ terminal.CloseParenthesis ∷ terminal.CloseBracket ∷ terminal.Comma ∷ terminal.EndOfText ∷
    []
follow part.NotPrefix = terminal.And ∷ terminal.Assert ∷ terminal.At ∷ terminal.Attached ∷ terminal.Const ∷ terminal.Else ∷
    terminal.Elseif ∷ terminal.End ∷ terminal.Exit ∷ terminal.Export ∷ terminal.False ∷ terminal.Fix ∷ terminal.Function ∷ terminal.If ∷
    terminal.Initially ∷ terminal.Loop ∷ terminal.Monitor ∷ terminal.Move ∷ terminal.Nil ∷ terminal.Node ∷ terminal.Object ∷
    terminal.Operation ∷ terminal.Or ∷ terminal.Process ∷ terminal.Refix ∷ terminal.Return ∷ terminal.Self_ ∷ terminal.Signal ∷
    terminal.Stdout ∷ terminal.Then ∷ terminal.To ∷ terminal.True ∷ terminal.Unfix ∷ terminal.Var ∷ terminal.Vector ∷
    terminal.Wait ∷ terminal.Name ∷ terminal.Create ∷ terminal.Putstring ∷ terminal.Count ∷ terminal.Number ∷
    terminal.Literal ∷ terminal.OpenParenthesis ∷ terminal.CloseParenthesis ∷ terminal.CloseBracket ∷ terminal.Comma ∷
    terminal.EndOfText ∷ []
follow part.Rel = terminal.And ∷ terminal.Assert ∷ terminal.At ∷ terminal.Attached ∷ terminal.Const ∷ terminal.Else ∷ terminal.Elseif ∷
    terminal.End ∷ terminal.Exit ∷ terminal.Export ∷ terminal.False ∷ terminal.Fix ∷ terminal.Function ∷ terminal.If ∷ terminal.Initially ∷
    terminal.Loop ∷ terminal.Monitor ∷ terminal.Move ∷ terminal.Nil ∷ terminal.Node ∷ terminal.Object ∷ terminal.Operation ∷
    terminal.Or ∷ terminal.Process ∷ terminal.Refix ∷ terminal.Return ∷ terminal.Self_ ∷ terminal.Signal ∷ terminal.Stdout ∷
    terminal.Then ∷ terminal.To ∷ terminal.True ∷ terminal.Unfix ∷ terminal.Var ∷ terminal.Vector ∷ terminal.Wait ∷
    terminal.Name ∷ terminal.Create ∷ terminal.Putstring ∷ terminal.Count ∷ terminal.Number ∷ terminal.Literal ∷
    terminal.OpenParenthesis ∷ terminal.CloseParenthesis ∷ terminal.CloseBracket ∷ terminal.Comma ∷ terminal.EndOfText ∷
    []
follow part.CompareTail = terminal.And ∷ terminal.Assert ∷ terminal.At ∷ terminal.Attached ∷ terminal.Const ∷ terminal.Else ∷
    terminal.Elseif ∷ terminal.End ∷ terminal.Exit ∷ terminal.Export ∷ terminal.False ∷ terminal.Fix ∷ terminal.Function ∷ terminal.If ∷
    terminal.Initially ∷ terminal.Loop ∷ terminal.Monitor ∷ terminal.Move ∷ terminal.Nil ∷ terminal.Node ∷ terminal.Object ∷
    terminal.Operation ∷ terminal.Or ∷ terminal.Process ∷ terminal.Refix ∷ terminal.Return ∷ terminal.Self_ ∷ terminal.Signal ∷
    terminal.Stdout ∷ terminal.Then ∷ terminal.To ∷ terminal.True ∷ terminal.Unfix ∷ terminal.Var ∷ terminal.Vector ∷
    terminal.Wait ∷ terminal.Name ∷ terminal.Create ∷ terminal.Putstring ∷ terminal.Count ∷ terminal.Number ∷
    terminal.Literal ∷ terminal.OpenParenthesis ∷ terminal.CloseParenthesis ∷ terminal.CloseBracket ∷ terminal.Comma ∷
    terminal.EndOfText ∷ []
follow part.CompareWord = terminal.False ∷ terminal.Isfixed ∷ terminal.Monitor ∷ terminal.Nil ∷ terminal.Node ∷ terminal.Object ∷
    terminal.Self_ ∷ terminal.True ∷ terminal.Vector ∷ terminal.View ∷ terminal.Name ∷ terminal.Create ∷ terminal.Putstring ∷
    terminal.Count ∷ terminal.Number ∷ terminal.Literal ∷ terminal.OpenParenthesis ∷ terminal.Minus ∷ []
follow part.Sum = terminal.And ∷ terminal.Assert ∷ terminal.At ∷ terminal.Attached ∷ terminal.Const ∷ terminal.Else ∷ terminal.Elseif ∷
    terminal.End ∷ terminal.Exit ∷ terminal.Export ∷ terminal.False ∷ terminal.Fix ∷ terminal.Function ∷ terminal.If ∷ terminal.Initially ∷
    terminal.Loop ∷ terminal.Monitor ∷ terminal.Move ∷ terminal.Nil ∷ terminal.Node ∷ terminal.Object ∷ terminal.Operation ∷
    terminal.Or ∷ terminal.Process ∷ terminal.Refix ∷ terminal.Return ∷ terminal.Self_ ∷ terminal.Signal ∷ terminal.Stdout ∷
    terminal.Then ∷ terminal.To ∷ terminal.True ∷ terminal.Unfix ∷ terminal.Var ∷ terminal.Vector ∷ terminal.Wait ∷
    terminal.Name ∷ terminal.Create ∷ terminal.Putstring ∷ terminal.Count ∷ terminal.Number ∷ terminal.Literal ∷
    terminal.OpenParenthesis ∷ terminal.CloseParenthesis ∷ terminal.CloseBracket ∷ terminal.Comma ∷ terminal.Same ∷
    terminal.NotSame ∷ terminal.Equal ∷ terminal.NotEqual ∷ terminal.Less ∷ terminal.LessEqual ∷ terminal.More ∷
    terminal.MoreEqual ∷ terminal.EndOfText ∷ []
follow part.SumTail = terminal.And ∷ terminal.Assert ∷ terminal.At ∷ terminal.Attached ∷ terminal.Const ∷ terminal.Else ∷ terminal.Elseif ∷
    terminal.End ∷ terminal.Exit ∷ terminal.Export ∷ terminal.False ∷ terminal.Fix ∷ terminal.Function ∷ terminal.If ∷ terminal.Initially ∷
    terminal.Loop ∷ terminal.Monitor ∷ terminal.Move ∷ terminal.Nil ∷ terminal.Node ∷ terminal.Object ∷ terminal.Operation ∷
    terminal.Or ∷ terminal.Process ∷ terminal.Refix ∷ terminal.Return ∷ terminal.Self_ ∷ terminal.Signal ∷ terminal.Stdout ∷
    terminal.Then ∷ terminal.To ∷ terminal.True ∷ terminal.Unfix ∷ terminal.Var ∷ terminal.Vector ∷ terminal.Wait ∷
    terminal.Name ∷ terminal.Create ∷ terminal.Putstring ∷ terminal.Count ∷ terminal.Number ∷ terminal.Literal ∷
    terminal.OpenParenthesis ∷ terminal.CloseParenthesis ∷ terminal.CloseBracket ∷ terminal.Comma ∷ terminal.Same ∷
    terminal.NotSame ∷ terminal.Equal ∷ terminal.NotEqual ∷ terminal.Less ∷ terminal.LessEqual ∷ terminal.More ∷
    terminal.MoreEqual ∷ terminal.EndOfText ∷ []
follow part.SumWord = terminal.False ∷ terminal.Isfixed ∷ terminal.Monitor ∷ terminal.Nil ∷ terminal.Node ∷ terminal.Object ∷
    terminal.Self_ ∷ terminal.True ∷ terminal.Vector ∷ terminal.View ∷ terminal.Name ∷ terminal.Create ∷ terminal.Putstring ∷
    terminal.Count ∷ terminal.Number ∷ terminal.Literal ∷ terminal.OpenParenthesis ∷ terminal.Minus ∷ []
follow part.Term = terminal.And ∷ terminal.Assert ∷ terminal.At ∷ terminal.Attached ∷ terminal.Const ∷ terminal.Else ∷ terminal.Elseif ∷
    terminal.End ∷ terminal.Exit ∷ terminal.Export ∷ terminal.False ∷ terminal.Fix ∷ terminal.Function ∷ terminal.If ∷ terminal.Initially ∷
    terminal.Loop ∷ terminal.Monitor ∷ terminal.Move ∷ terminal.Nil ∷ terminal.Node ∷ terminal.Object ∷ terminal.Operation ∷
    terminal.Or ∷ terminal.Process ∷ terminal.Refix ∷ terminal.Return ∷ terminal.Self_ ∷ terminal.Signal ∷ terminal.Stdout ∷
    terminal.Then ∷ terminal.To ∷ terminal.True ∷ terminal.Unfix ∷ terminal.Var ∷ terminal.Vector ∷ terminal.Wait ∷
    terminal.Name ∷ terminal.Create ∷ terminal.Putstring ∷ terminal.Count ∷ terminal.Number ∷ terminal.Literal ∷
    terminal.OpenParenthesis ∷ terminal.CloseParenthesis ∷ terminal.CloseBracket ∷ terminal.Comma ∷ terminal.Plus ∷
    terminal.Minus ∷ terminal.Concat ∷ terminal.Same ∷ terminal.NotSame ∷ terminal.Equal ∷ terminal.NotEqual ∷
    terminal.Less ∷ terminal.LessEqual ∷ terminal.More ∷ terminal.MoreEqual ∷ terminal.EndOfText ∷ []
follow part.TermTail = terminal.And ∷ terminal.Assert ∷ terminal.At ∷ terminal.Attached ∷ terminal.Const ∷ terminal.Else ∷ terminal.Elseif ∷
    terminal.End ∷ terminal.Exit ∷ terminal.Export ∷ terminal.False ∷ terminal.Fix ∷ terminal.Function ∷ terminal.If ∷ terminal.Initially ∷
    terminal.Loop ∷ terminal.Monitor ∷ terminal.Move ∷ terminal.Nil ∷ terminal.Node ∷ terminal.Object ∷ terminal.Operation ∷
    terminal.Or ∷ terminal.Process ∷ terminal.Refix ∷ terminal.Return ∷ terminal.Self_ ∷ terminal.Signal ∷ terminal.Stdout ∷
    terminal.Then ∷ terminal.To ∷ terminal.True ∷ terminal.Unfix ∷ terminal.Var ∷ terminal.Vector ∷ terminal.Wait ∷
    terminal.Name ∷ terminal.Create ∷ terminal.Putstring ∷ terminal.Count ∷ terminal.Number ∷ terminal.Literal ∷
    terminal.OpenParenthesis ∷ terminal.CloseParenthesis ∷ terminal.CloseBracket ∷ terminal.Comma ∷ terminal.Plus ∷
    terminal.Minus ∷ terminal.Concat ∷ terminal.Same ∷ terminal.NotSame ∷ terminal.Equal ∷ terminal.NotEqual ∷
    terminal.Less ∷ terminal.LessEqual ∷ terminal.More ∷ terminal.MoreEqual ∷ terminal.EndOfText ∷ []
follow part.TermWord = terminal.False ∷ terminal.Isfixed ∷ terminal.Monitor ∷ terminal.Nil ∷ terminal.Node ∷ terminal.Object ∷
    terminal.Self_ ∷ terminal.True ∷ terminal.Vector ∷ terminal.View ∷ terminal.Name ∷ terminal.Create ∷ terminal.Putstring ∷
    terminal.Count ∷ terminal.Number ∷ terminal.Literal ∷ terminal.OpenParenthesis ∷ terminal.Minus ∷ []
follow part.Unary = terminal.And ∷ terminal.As ∷ terminal.Assert ∷ terminal.At ∷ terminal.Attached ∷ terminal.Const ∷ terminal.Else ∷
    terminal.Elseif ∷ terminal.End ∷ terminal.Exit ∷ terminal.Export ∷ terminal.False ∷ terminal.Fix ∷ terminal.Function ∷ terminal.If ∷
    terminal.Initially ∷ terminal.Loop ∷ terminal.Monitor ∷ terminal.Move ∷ terminal.Nil ∷ terminal.Node ∷ terminal.Object ∷
    terminal.Operation ∷ terminal.Or ∷ terminal.Process ∷ terminal.Refix ∷ terminal.Return ∷ terminal.Self_ ∷ terminal.Signal ∷
    terminal.Stdout ∷ terminal.Then ∷ terminal.To ∷ terminal.True ∷ terminal.Unfix ∷ terminal.Var ∷ terminal.Vector ∷
    terminal.Wait ∷ terminal.Name ∷ terminal.Create ∷ terminal.Putstring ∷ terminal.Count ∷ terminal.Number ∷
    terminal.Literal ∷ terminal.OpenParenthesis ∷ terminal.CloseParenthesis ∷ terminal.CloseBracket ∷ terminal.Comma ∷
    terminal.Plus ∷ terminal.Minus ∷ terminal.Times ∷ terminal.Over ∷ terminal.Remainder ∷ terminal.Concat ∷
    terminal.Same ∷ terminal.NotSame ∷ terminal.Equal ∷ terminal.NotEqual ∷ terminal.Less ∷ terminal.LessEqual ∷
    terminal.More ∷ terminal.MoreEqual ∷ terminal.EndOfText ∷ []
follow part.UnaryPrefix = terminal.And ∷ terminal.As ∷ terminal.Assert ∷ terminal.At ∷ terminal.Attached ∷ terminal.Const ∷ terminal.Else ∷
    terminal.Elseif ∷ terminal.End ∷ terminal.Exit ∷ terminal.Export ∷ terminal.False ∷ terminal.Fix ∷ terminal.Function ∷ terminal.If ∷
    terminal.Initially ∷ terminal.Loop ∷ terminal.Monitor ∷ terminal.Move ∷ terminal.Nil ∷ terminal.Node ∷ terminal.Object ∷
    terminal.Operation ∷ terminal.Or ∷ terminal.Process ∷ terminal.Refix ∷ terminal.Return ∷ terminal.Self_ ∷ terminal.Signal ∷
    terminal.Stdout ∷ terminal.Then ∷ terminal.To ∷ terminal.True ∷ terminal.Unfix ∷ terminal.Var ∷ terminal.Vector ∷
    terminal.Wait ∷ terminal.Name ∷ terminal.Create ∷ terminal.Putstring ∷ terminal.Count ∷ terminal.Number ∷
    terminal.Literal ∷ terminal.OpenParenthesis ∷ terminal.CloseParenthesis ∷ terminal.CloseBracket ∷ terminal.Comma ∷
    terminal.Plus ∷ terminal.Minus ∷ terminal.Times ∷ terminal.Over ∷ terminal.Remainder ∷ terminal.Concat ∷
    terminal.Same ∷ terminal.NotSame ∷ terminal.Equal ∷ terminal.NotEqual ∷ terminal.Less ∷ terminal.LessEqual ∷
    terminal.More ∷ terminal.MoreEqual ∷ terminal.EndOfText ∷ []
follow part.Postfix = terminal.And ∷ terminal.As ∷ terminal.Assert ∷ terminal.At ∷ terminal.Attached ∷ terminal.Const ∷ terminal.Else ∷
    terminal.Elseif ∷ terminal.End ∷ terminal.Exit ∷ terminal.Export ∷ terminal.False ∷ terminal.Fix ∷ terminal.Function ∷ terminal.If ∷
    terminal.Initially ∷ terminal.Loop ∷ terminal.Monitor ∷ terminal.Move ∷ terminal.Nil ∷ terminal.Node ∷ terminal.Object ∷
    terminal.Operation ∷ terminal.Or ∷ terminal.Process ∷ terminal.Refix ∷ terminal.Return ∷ terminal.Self_ ∷ terminal.Signal ∷
    terminal.Stdout ∷ terminal.Then ∷ terminal.To ∷ terminal.True ∷ terminal.Unfix ∷ terminal.Var ∷ terminal.Vector ∷
    terminal.Wait ∷ terminal.Name ∷ terminal.Create ∷ terminal.Putstring ∷ terminal.Count ∷ terminal.Number ∷
    terminal.Literal ∷ terminal.OpenParenthesis ∷ terminal.CloseParenthesis ∷ terminal.CloseBracket ∷ terminal.Comma ∷
    terminal.Plus ∷ terminal.Minus ∷ terminal.Times ∷ terminal.Over ∷ terminal.Remainder ∷ terminal.Concat ∷
    terminal.Same ∷ terminal.NotSame ∷ terminal.Equal ∷ terminal.NotEqual ∷ terminal.Less ∷ terminal.LessEqual ∷
    terminal.More ∷ terminal.MoreEqual ∷ terminal.EndOfText ∷ []
follow part.PostfixTail = terminal.And ∷ terminal.As ∷ terminal.Assert ∷ terminal.At ∷ terminal.Attached ∷ terminal.Const ∷ terminal.Else ∷
    terminal.Elseif ∷ terminal.End ∷ terminal.Exit ∷ terminal.Export ∷ terminal.False ∷ terminal.Fix ∷ terminal.Function ∷ terminal.If ∷
    terminal.Initially ∷ terminal.Loop ∷ terminal.Monitor ∷ terminal.Move ∷ terminal.Nil ∷ terminal.Node ∷ terminal.Object ∷
    terminal.Operation ∷ terminal.Or ∷ terminal.Process ∷ terminal.Refix ∷ terminal.Return ∷ terminal.Self_ ∷ terminal.Signal ∷
    terminal.Stdout ∷ terminal.Then ∷ terminal.To ∷ terminal.True ∷ terminal.Unfix ∷ terminal.Var ∷ terminal.Vector ∷
    terminal.Wait ∷ terminal.Name ∷ terminal.Create ∷ terminal.Putstring ∷ terminal.Count ∷ terminal.Number ∷
    terminal.Literal ∷ terminal.OpenParenthesis ∷ terminal.CloseParenthesis ∷ terminal.CloseBracket ∷ terminal.Comma ∷
    terminal.Plus ∷ terminal.Minus ∷ terminal.Times ∷ terminal.Over ∷ terminal.Remainder ∷ terminal.Concat ∷
    terminal.Same ∷ terminal.NotSame ∷ terminal.Equal ∷ terminal.NotEqual ∷ terminal.Less ∷ terminal.LessEqual ∷
    terminal.More ∷ terminal.MoreEqual ∷ terminal.EndOfText ∷ []
follow part.AfterDot = terminal.And ∷ terminal.As ∷ terminal.Assert ∷ terminal.At ∷ terminal.Attached ∷ terminal.Const ∷ terminal.Else ∷
    terminal.Elseif ∷ terminal.End ∷ terminal.Exit ∷ terminal.Export ∷ terminal.False ∷ terminal.Fix ∷ terminal.Function ∷ terminal.If ∷
    terminal.Initially ∷ terminal.Loop ∷ terminal.Monitor ∷ terminal.Move ∷ terminal.Nil ∷ terminal.Node ∷ terminal.Object ∷
    terminal.Operation ∷ terminal.Or ∷ terminal.Process ∷ terminal.Refix ∷ terminal.Return ∷ terminal.Self_ ∷ terminal.Signal ∷
    terminal.Stdout ∷ terminal.Then ∷ terminal.To ∷ terminal.True ∷ terminal.Unfix ∷ terminal.Var ∷ terminal.Vector ∷
    terminal.Wait ∷ terminal.Name ∷ terminal.Create ∷ terminal.Putstring ∷ terminal.Count ∷ terminal.Number ∷
    terminal.Literal ∷ terminal.OpenParenthesis ∷ terminal.CloseParenthesis ∷ terminal.CloseBracket ∷ terminal.Comma ∷
    terminal.Plus ∷ terminal.Minus ∷ terminal.Times ∷ terminal.Over ∷ terminal.Remainder ∷ terminal.Concat ∷
    terminal.Same ∷ terminal.NotSame ∷ terminal.Equal ∷ terminal.NotEqual ∷ terminal.Less ∷ terminal.LessEqual ∷
    terminal.More ∷ terminal.MoreEqual ∷ terminal.EndOfText ∷ []
follow part.Arguments = terminal.CloseBracket ∷ []
follow part.MoreArguments = terminal.CloseBracket ∷ []
follow part.Primary = terminal.And ∷ terminal.As ∷ terminal.Assert ∷ terminal.At ∷ terminal.Attached ∷ terminal.Const ∷ terminal.Else ∷
    terminal.Elseif ∷ terminal.End ∷ terminal.Exit ∷ terminal.Export ∷ terminal.False ∷ terminal.Fix ∷ terminal.Function ∷ terminal.If ∷
    terminal.Initially ∷ terminal.Loop ∷ terminal.Monitor ∷ terminal.Move ∷ terminal.Nil ∷ terminal.Node ∷ terminal.Object ∷
    terminal.Operation ∷ terminal.Or ∷ terminal.Process ∷ terminal.Refix ∷ terminal.Return ∷ terminal.Self_ ∷ terminal.Signal ∷
    terminal.Stdout ∷ terminal.Then ∷ terminal.To ∷ terminal.True ∷ terminal.Unfix ∷ terminal.Var ∷ terminal.Vector ∷
    terminal.Wait ∷ terminal.Name ∷ terminal.Create ∷ terminal.Putstring ∷ terminal.Count ∷ terminal.Number ∷
    terminal.Literal ∷ terminal.OpenParenthesis ∷ terminal.CloseParenthesis ∷ terminal.OpenBracket ∷
    terminal.CloseBracket ∷ terminal.Comma ∷ terminal.Dot ∷ terminal.Plus ∷ terminal.Minus ∷ terminal.Times ∷
    terminal.Over ∷ terminal.Remainder ∷ terminal.Concat ∷ terminal.Same ∷ terminal.NotSame ∷ terminal.Equal ∷
    terminal.NotEqual ∷ terminal.Less ∷ terminal.LessEqual ∷ terminal.More ∷ terminal.MoreEqual ∷
    terminal.EndOfText ∷ []
follow part.Plain = terminal.And ∷ terminal.As ∷ terminal.Assert ∷ terminal.At ∷ terminal.Attached ∷ terminal.Const ∷ terminal.Else ∷
    terminal.Elseif ∷ terminal.End ∷ terminal.Exit ∷ terminal.Export ∷ terminal.False ∷ terminal.Fix ∷ terminal.Function ∷ terminal.If ∷
    terminal.Initially ∷ terminal.Loop ∷ terminal.Monitor ∷ terminal.Move ∷ terminal.Nil ∷ terminal.Node ∷ terminal.Object ∷
    terminal.Operation ∷ terminal.Or ∷ terminal.Process ∷ terminal.Refix ∷ terminal.Return ∷ terminal.Self_ ∷ terminal.Signal ∷
    terminal.Stdout ∷ terminal.Then ∷ terminal.To ∷ terminal.True ∷ terminal.Unfix ∷ terminal.Var ∷ terminal.Vector ∷
    terminal.Wait ∷ terminal.Name ∷ terminal.Create ∷ terminal.Putstring ∷ terminal.Count ∷ terminal.Number ∷
    terminal.Literal ∷ terminal.OpenParenthesis ∷ terminal.CloseParenthesis ∷ terminal.OpenBracket ∷
    terminal.CloseBracket ∷ terminal.Comma ∷ terminal.Dot ∷ terminal.Plus ∷ terminal.Minus ∷ terminal.Times ∷
    terminal.Over ∷ terminal.Remainder ∷ terminal.Concat ∷ terminal.Same ∷ terminal.NotSame ∷ terminal.Equal ∷
    terminal.NotEqual ∷ terminal.Less ∷ terminal.LessEqual ∷ terminal.More ∷ terminal.MoreEqual ∷
    terminal.EndOfText ∷ []
follow part.OtherPlain = terminal.And ∷ terminal.As ∷ terminal.Assert ∷ terminal.At ∷ terminal.Attached ∷ terminal.Const ∷ terminal.Else ∷
    terminal.Elseif ∷ terminal.End ∷ terminal.Exit ∷ terminal.Export ∷ terminal.False ∷ terminal.Fix ∷ terminal.Function ∷ terminal.If ∷
    terminal.Initially ∷ terminal.Loop ∷ terminal.Monitor ∷ terminal.Move ∷ terminal.Nil ∷ terminal.Node ∷ terminal.Object ∷
    terminal.Operation ∷ terminal.Or ∷ terminal.Process ∷ terminal.Refix ∷ terminal.Return ∷ terminal.Self_ ∷ terminal.Signal ∷
    terminal.Stdout ∷ terminal.Then ∷ terminal.To ∷ terminal.True ∷ terminal.Unfix ∷ terminal.Var ∷ terminal.Vector ∷
    terminal.Wait ∷ terminal.Name ∷ terminal.Create ∷ terminal.Putstring ∷ terminal.Count ∷ terminal.Number ∷
    terminal.Literal ∷ terminal.OpenParenthesis ∷ terminal.CloseParenthesis ∷ terminal.OpenBracket ∷
    terminal.CloseBracket ∷ terminal.Comma ∷ terminal.Dot ∷ terminal.Plus ∷ terminal.Minus ∷ terminal.Times ∷
    terminal.Over ∷ terminal.Remainder ∷ terminal.Concat ∷ terminal.Same ∷ terminal.NotSame ∷ terminal.Equal ∷
    terminal.NotEqual ∷ terminal.Less ∷ terminal.LessEqual ∷ terminal.More ∷ terminal.MoreEqual ∷
    terminal.EndOfText ∷ []
follow part.NodeRest = terminal.And ∷ terminal.As ∷ terminal.Assert ∷ terminal.At ∷ terminal.Attached ∷ terminal.Const ∷ terminal.Else ∷
    terminal.Elseif ∷ terminal.End ∷ terminal.Exit ∷ terminal.Export ∷ terminal.False ∷ terminal.Fix ∷ terminal.Function ∷ terminal.If ∷
    terminal.Initially ∷ terminal.Loop ∷ terminal.Monitor ∷ terminal.Move ∷ terminal.Nil ∷ terminal.Node ∷ terminal.Object ∷
    terminal.Operation ∷ terminal.Or ∷ terminal.Process ∷ terminal.Refix ∷ terminal.Return ∷ terminal.Self_ ∷ terminal.Signal ∷
    terminal.Stdout ∷ terminal.Then ∷ terminal.To ∷ terminal.True ∷ terminal.Unfix ∷ terminal.Var ∷ terminal.Vector ∷
    terminal.Wait ∷ terminal.Name ∷ terminal.Create ∷ terminal.Putstring ∷ terminal.Count ∷ terminal.Number ∷
    terminal.Literal ∷ terminal.OpenParenthesis ∷ terminal.CloseParenthesis ∷ terminal.OpenBracket ∷
    terminal.CloseBracket ∷ terminal.Comma ∷ terminal.Dot ∷ terminal.Plus ∷ terminal.Minus ∷ terminal.Times ∷
    terminal.Over ∷ terminal.Remainder ∷ terminal.Concat ∷ terminal.Same ∷ terminal.NotSame ∷ terminal.Equal ∷
    terminal.NotEqual ∷ terminal.Less ∷ terminal.LessEqual ∷ terminal.More ∷ terminal.MoreEqual ∷
    terminal.EndOfText ∷ []

abbrev pub weight : Part → ℕ
weight part.Program = 5
weight part.Constants = 2
weight part.ConstantRest = 3
weight part.ConstantValue = 5
weight part.AfterMonitor = 4
weight part.TermRest = 23
weight part.AndRest = 9
weight part.Name = 2
weight part.Typeobject = 3
weight part.Signatures = 3
weight part.SignatureParameters = 3
weight part.Sigs = 4
weight part.MoreSigs = 2
weight part.SignatureResult = 2
weight part.OperationWord = 2
weight part.Sig = 3
weight part.AfterSigName = 2
weight part.Type = 3
weight part.PlainType = 2
weight part.ClassRest = 3
weight part.ObjectRest = 3
weight part.Parameters = 3
weight part.ParameterList = 4
weight part.MoreParameters = 2
weight part.Parameter = 3
weight part.Body = 16
weight part.Members = 7
weight part.Initially = 3
weight part.Process = 3
weight part.Member = 6
weight part.AttachedField = 2
weight part.ConstantField = 2
weight part.FieldValue = 15
weight part.ConditionTail = 3
weight part.OperationRest = 4
weight part.OperationResult = 2
weight part.Initial = 2
weight part.TypedValue = 3
weight part.Block = 8
weight part.Statements = 6
weight part.Declaration = 5
weight part.Statement = 4
weight part.AfterName = 4
weight part.AfterOther = 3
weight part.AfterIndex = 3
weight part.AfterField = 4
weight part.AfterCall = 3
weight part.ElseIfs = 2
weight part.Else = 2
weight part.When = 2
weight part.Expression = 13
weight part.OrTail = 2
weight part.And = 12
weight part.AndTail = 2
weight part.Not = 11
weight part.NotPrefix = 3
weight part.Rel = 10
weight part.CompareTail = 3
weight part.CompareWord = 2
weight part.Sum = 9
weight part.SumTail = 3
weight part.SumWord = 2
weight part.Term = 8
weight part.TermTail = 3
weight part.TermWord = 2
weight part.Unary = 7
weight part.UnaryPrefix = 3
weight part.Postfix = 6
weight part.PostfixTail = 3
weight part.AfterDot = 3
weight part.Arguments = 14
weight part.MoreArguments = 2
weight part.Primary = 5
weight part.Plain = 4
weight part.OtherPlain = 3
weight part.NodeRest = 2
