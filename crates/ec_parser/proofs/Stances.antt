-- Where each part may stand among the nestings that the tokens themselves tell, with the test of the table for it.
use Rattle.std.specs.Prelude.{◌≡◌, Bool, true, false, not, ◌&&◌, if◌then◌else◌, List, [], ◌∷◌, Option, Some, None, refl}
use denote.Enum.Bare.{sameb}
use Rattle.ec_parser.specs.contracts.grammar.Opened.{the_type as opened_type}
use Rattle.ec_parser.specs.declared.terminal.Terminal.{Terminal}
use Rattle.ec_parser.specs.declared.grammar.Part.{Part as Part_of}
use Rattle.ec_parser.specs.declared.grammar.Part.TheVariants as part
use Rattle.ec_parser.specs.declared.grammar.Opened.{Opened}
use Rattle.ec_parser.specs.declared.grammar.Opened.TheVariants as o
use Rattle.ec_parser.specs.declared.grammar.Bound.TheVariants.{Opens, Closes}
use Rattle.ec_parser.specs.declared.grammar.Symbol.{Symbol}
use Rattle.ec_parser.specs.declared.grammar.Symbol.TheVariants.{Token, Keep, Part, Bound, Do}
use Rattle.ec_parser.specs.Rules.{rules}
use Rattle.ec_parser.specs.Sizes.{follow}
use Rattle.ec_parser.specs.Reads.{opened}
use Rattle.ec_parser.specs.Follow.{starts_with}
use Rattle.ec_parser.specs.Nesting.{Behind, operand, end, other, behind, goes_on, closes, opens}
use Rattle.ec_parser.proofs.Table.{implies}

-- ---- where a part may stand

abbrev pub is_operand : Behind → Bool
is_operand operand = true
is_operand _ = false

abbrev pub is_end : Behind → Bool
is_end end = true
is_end _ = false

abbrev pub is_other : Behind → Bool
is_other other = true
is_other _ = false

-- no operand would end before what stands here
abbrev pub is_fresh : Behind → Option Opened → Bool
is_fresh operand (Some o.Operand) = false
is_fresh operand (Some o.Not) = false
is_fresh b t = true

-- among the innermost is none that ends with an operand, but that of a `!`
abbrev pub may_compare : Option Opened → Bool
may_compare (Some o.Operand) = false
may_compare (Some o.View) = false
may_compare t = true

-- nor that
abbrev pub is_outer : Option Opened → Bool
is_outer (Some o.Not) = false
is_outer (Some o.Typeobject) = false
is_outer t = may_compare t

abbrev pub is_typeobject : Option Opened → Bool
is_typeobject (Some o.Typeobject) = true
is_typeobject t = false

-- the part may stand behind this, where this is the innermost that is open
abbrev pub stands : Part_of → Behind → Option Opened → Bool
stands part.Name b t = is_fresh b t
stands part.ObjectRest b t = is_fresh b t
stands part.OtherPlain b t = is_fresh b t
stands part.Plain b t = is_fresh b t
stands part.Primary b t = is_fresh b t
stands part.Postfix b t = is_fresh b t
stands part.Type b t = is_fresh b t
stands part.PlainType b t = is_fresh b t
stands part.NodeRest b t = is_fresh b t
stands part.Unary b t = is_other b
stands part.UnaryPrefix b t = is_other b
stands part.PostfixTail b t = is_operand b
stands part.AfterDot b t = is_operand b
stands part.Not b t = is_other b && may_compare t
stands part.NotPrefix b t = is_other b && may_compare t
stands part.Rel b t = is_other b && may_compare t
stands part.Sum b t = is_other b && may_compare t
stands part.Term b t = is_other b && may_compare t
stands part.CompareTail b t = is_operand b && may_compare t
stands part.SumTail b t = is_operand b && may_compare t
stands part.TermTail b t = is_operand b && may_compare t
stands part.CompareWord b t = is_operand b && may_compare t
stands part.SumWord b t = is_operand b && may_compare t
stands part.TermWord b t = is_operand b && may_compare t
stands part.Signatures b t = is_operand b && is_typeobject t
stands part.SignatureParameters b t = is_operand b && is_typeobject t
stands part.SignatureResult b t = is_operand b && is_typeobject t
stands part.OperationWord b t = is_operand b && is_typeobject t
stands part.Expression b t = is_other b && is_outer t
stands part.And b t = is_other b && is_outer t
stands part.ConstantValue b t = is_other b && is_outer t
stands part.FieldValue b t = is_other b && is_outer t
stands part.AfterMonitor b t = is_other b && is_outer t
stands part.When b t = is_other b && is_outer t
stands part.Arguments b t = is_other b && is_outer t
stands part.Program b t = not (is_end b) && is_outer t
stands part.Constants b t = not (is_end b) && is_outer t
stands part.Sigs b t = not (is_end b) && is_outer t
stands part.Sig b t = not (is_end b) && is_outer t
stands part.ParameterList b t = not (is_end b) && is_outer t
stands part.Parameter b t = not (is_end b) && is_outer t
stands part.Typeobject b t = not (is_end b) && is_outer t
stands part.ClassRest b t = not (is_end b) && is_outer t
stands part.AttachedField b t = not (is_end b) && is_outer t
stands part.OperationRest b t = not (is_end b) && is_outer t
stands part.Process b t = not (is_end b) && is_outer t
stands part.Block b t = not (is_end b) && is_outer t
stands part.Statements b t = not (is_end b) && is_outer t
stands part.Declaration b t = not (is_end b) && is_outer t
stands part.Statement b t = not (is_end b) && is_outer t
stands part.ElseIfs b t = not (is_end b) && is_outer t
stands part.Else b t = not (is_end b) && is_outer t
stands _ b t = is_operand b && is_outer t

-- what a token behind the part may stand behind
abbrev pub leaves : Part_of → Behind → Bool
leaves part.OperationWord b = is_other b
leaves part.CompareWord b = is_other b
leaves part.SumWord b = is_other b
leaves part.TermWord b = is_other b
leaves part.Program b = not (is_end b)
leaves part.Constants b = not (is_end b)
leaves part.Sigs b = not (is_end b)
leaves part.ParameterList b = not (is_end b)
leaves part.Body b = not (is_end b)
leaves part.Initially b = not (is_end b)
leaves part.Process b = not (is_end b)
leaves part.Block b = not (is_end b)
leaves part.Statements b = not (is_end b)
leaves part.Declaration b = not (is_end b)
leaves part.Statement b = not (is_end b)
leaves part.ElseIfs b = not (is_end b)
leaves part.Else b = not (is_end b)
leaves part.When b = not (is_end b)
leaves part.Arguments b = not (is_end b)
leaves _ b = is_operand b

-- ---- the walk over a list of symbols

-- Where a symbol stands: behind such a token, or where the next token is still to open a nesting, or to close one.
pub data Place : Type 0 where
  plain : Behind → Place
  opening : Behind → Place
  closing : Opened → Behind → Place

abbrev pub stood : Place → Behind
stood (plain b) = b
stood (opening b) = b
stood (closing x b) = b

abbrev pub is_plain : Place → Bool
is_plain (plain b) = true
is_plain _ = false

-- the innermost of a list, before those of which the innermost is t
abbrev pub top : Option Opened → List Opened → Option Opened
top t [] = t
top t (x ∷ xs) = Some x

-- no operand ends before the token
abbrev pub stays : Behind → Terminal → Option Opened → Bool
stays operand k (Some x) = goes_on x k
stays b k t = true

abbrev pub is_none : Option Opened → Bool
is_none None = true
is_none (Some x) = false

abbrev pub is_some : Opened → Option Opened → Bool
is_some x None = false
is_some x (Some y) = sameb opened_type x y

-- The token leaves these open, of the list that stands before others of which the innermost is t.
abbrev pub suits : Place → Terminal → Option Opened → List Opened → Bool
suits (plain b) k t os = stays b k (top t os) && (not (closes k) && is_none (opens b k (top t os)))
suits (opening b) k t [] = false
suits (opening b) k t (x ∷ os) = stays b k (top t os) && (not (closes k) && is_some x (opens b k (top t os)))
suits (closing x b) k t os = stays b k (Some x) && (closes k && is_none (opens b k (top t os)))

-- the alternative is a token that suits
abbrev pub is_token : Part_of → Place → Option Opened → List Opened → List Symbol → Bool
is_token p place t os (Token k ∷ []) = suits place k t os && leaves p (behind k)
is_token p place t os _ = false

abbrev pub all_of : (List Symbol → Bool) → List (List Symbol) → Bool
all_of f [] = true
all_of f (r ∷ rs) = f r && all_of f rs

-- where the next token is to open a nesting, a part is that token
abbrev pub fits : Place → Part_of → Option Opened → List Opened → Bool
fits (plain b) p t os = stands p b (top t os)
fits (opening b) p t os = all_of (is_token p (opening b) t os) (rules p)
fits (closing x b) p t os = false

-- these end with an operand, and with no token of their own
abbrev pub ends_alone : Opened → Bool
ends_alone o.Operand = true
ends_alone o.Not = true
ends_alone _ = false

-- no operand goes on with one of these
abbrev pub none_goes_on : Opened → List Terminal → Bool
none_goes_on x [] = true
none_goes_on x (k ∷ ks) = not (goes_on x k) && none_goes_on x ks

abbrev pub ends_here : (Behind → Bool) → Place → Bool
ends_here e (plain b) = e b
ends_here e _ = false

-- it holds wherever what is behind the part may stand
abbrev pub each : Part_of → (Behind → Bool) → Bool
each p f = implies (leaves p operand) (f operand) && (implies (leaves p end) (f end) && implies (leaves p other) (f other))

-- Each symbol stands where it may. What is behind the list begins with these, its innermost is t, and e says what it may stand behind.
abbrev pub walks : (Behind → Bool) → List Terminal → Option Opened → Place → List Symbol → Bool
walks e f t place [] = ends_here e place
walks e f t place (Token k ∷ s) = suits place k t (opened s) && walks e f t (plain (behind k)) s
walks e f t place (Keep k ∷ s) = suits place k t (opened s) && walks e f t (plain (behind k)) s
walks e f t place (Part p ∷ s) = fits place p t (opened s) && each p (λ b. walks e f t (plain b) s)
walks e f t place (Bound (Opens x) ∷ s) = is_plain place && walks e f t (opening (stood place)) s
walks e f t place (Bound (Closes x) ∷ s) = is_plain place &&
    (if ends_alone x then is_operand (stood place) && (none_goes_on x (starts_with s f) && walks e f t place s) else walks e f t
    (closing x (stood place)) s)
walks e f t place (Do a ∷ s) = walks e f t place s

-- what is opened in the list is there to be opened
abbrev pub is_filled : List Opened → Bool
is_filled [] = false
is_filled (x ∷ xs) = true

abbrev pub is_balanced : List Symbol → Bool
is_balanced [] = true
is_balanced (Token k ∷ s) = is_balanced s
is_balanced (Keep k ∷ s) = is_balanced s
is_balanced (Part p ∷ s) = is_balanced s
is_balanced (Bound (Opens x) ∷ s) = is_filled (opened s) && is_balanced s
is_balanced (Bound (Closes x) ∷ s) = is_balanced s
is_balanced (Do a ∷ s) = is_balanced s

-- ---- the test of the table

-- an alternative closes what it opens, and no more
abbrev pub closes_all : List Symbol → Bool
closes_all r = is_balanced r && not (is_filled (opened r))

abbrev pub walks_at : Part_of → Behind → Option Opened → Bool
walks_at p b t = implies (stands p b t) (all_of (walks (leaves p) (follow p) t (plain b)) (rules p))

abbrev pub for_tops : (Option Opened → Bool) → Bool
for_tops f = f None &&
    (f (Some o.Bracket) && (f (Some o.Word) && (f (Some o.Typeobject) && (f (Some o.Operand) && (f (Some o.View) && f (Some o.Not))))))

abbrev pub all_walk : Part_of → Bool
all_walk p = for_tops (walks_at p operand) && (for_tops (walks_at p end) && for_tops (walks_at p other))

pub closed : (p : Part_of) → all_of closes_all (rules p) ≡ true
closed part.Program = refl
closed _ = refl

pub walked : (p : Part_of) → all_walk p ≡ true
walked part.Program = refl
walked _ = refl
