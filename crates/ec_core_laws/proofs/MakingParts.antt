-- What is shown of each part of a tree, where its classes are among those of the program: each new object in its core has a
-- class that fits the way in which it is made, and so has each one in the operations that are made within it.
use Rattle.std.proofs.Common.{◌≡◌, ℕ, List, [], ◌∷◌, ◌++◌, map, sym, subst}
use Rattle.std.specs.Prelude.{Any, Contains}
use Rattle.ec_check.proofs.Every.{Every, every_joined, every_left, every_right}
use Rattle.ec_check.specs.Numbers.{Number, Kept, Constructed, Created, Begun, Condition, joined, in_expression}
use Rattle.ec_check.specs.Numbers.{in_statement, in_block}
use Rattle.ec_check.specs.Parts.{Part, Piece, StatementPart, LinkPart, FactorPart, AddendPart, ArmPart, SectionPart}
use Rattle.ec_check.specs.Parts.{OperationPart, MemberPart, BodyPart, ObjectPart, AnExpression, AStatement, Made}
use Rattle.ec_check.specs.Parts.{nothing_made, both_made}
use Rattle.ec_check.specs.Places.{Env}
use Rattle.ec_check.specs.Resolving.{all_made, cores_of}
use Rattle.ec_core.specs.declared.Class.{Class}
use Rattle.ec_core.specs.declared.Operation.{Operation}
use Rattle.ec_core_laws.proofs.Trees as trees
use Rattle.ec_core_laws.specs.Makings.{HoldsOneOfTwo, BeginsBare}
use Rattle.ec_types.specs.declared.scopes.globals.Global.{Global}
use Rattle.ec_types.specs.declared.scopes.globals.Meaning.{Meaning}
use Rattle.ec_types.specs.declared.scopes.globals.Meaning.TheVariants as means

-- ---- the class of a new object

-- the class with a number, whose objects a constructor makes
abbrev pub IsConstructed : ℕ → Class → Type 0
IsConstructed n c = (c.number ≡ n) × (c.parameters ≡ 0)

-- the class with a number, whose objects `create` makes
abbrev pub IsCreated : ℕ → Class → Type 0
IsCreated n c = (c.number ≡ n) × (c.captured ≡ [])

-- such a class is there
abbrev pub IsThere : List Class → Number → Type 0
IsThere classes (Kept place) = Unit {0}
IsThere classes (Constructed n values) = Any (IsConstructed n) classes
IsThere classes (Created n arguments) = Any (IsCreated n) classes
IsThere classes (Begun n) = Unit {0}
IsThere classes (Condition n) = Unit {0}

-- what a constant means, where it is a class
abbrev pub MeaningIsThere : List Class → Meaning → Type 0
MeaningIsThere classes (means.Value of) = Unit {0}
MeaningIsThere classes (means.Class c) = Any (IsCreated c.number) classes
MeaningIsThere classes means.Typeobject = Unit {0}

abbrev pub IsGlobal : List Class → Global → Type 0
IsGlobal classes g = MeaningIsThere classes g.meaning

-- what a part begins with: the classes of the program are there, and its own are among them
pub record Taken (classes : List Class) (globals : List Global) (cs : List Class) : Type 0 where
  pub known : Every (IsGlobal classes) globals
  pub within : Every (Contains classes) cs

-- An operation makes its objects right, and begins as it should.
abbrev pub OperationMakes : List Class → Operation → Type 0
OperationMakes classes o = Every (IsThere classes) (in_block o.block) × BeginsBare o

-- what is shown, of its numbers and of what is made within it
pub record Makes (classes : List Class) (ns : List Number) (m : Made) : Type 0 where
  pub numbers : Every (IsThere classes) ns
  pub operations : Every (OperationMakes classes) m.operations
  pub holders : Every HoldsOneOfTwo m.classes

-- ---- one part behind another

pub first_taken : {classes : List Class} {globals : List Global} (cs ds : List Class) → Taken classes globals (cs ++ ds) →
    Taken classes globals cs
first_taken {classes} cs ds t = record { known = t.known; within = every_left (Contains classes) cs ds t.within }

pub second_taken : {classes : List Class} {globals : List Global} (cs ds : List Class) → Taken classes globals (cs ++ ds) →
    Taken classes globals ds
second_taken {classes} cs ds t = record { known = t.known; within = every_right (Contains classes) cs ds t.within }

pub none_make : {classes : List Class} → Makes classes [] nothing_made
none_make = record { numbers = tt; operations = tt; holders = tt }

pub both_make : {classes : List Class} (ns ms : List Number) (a b : Made) → Makes classes ns a → Makes classes ms b →
    Makes classes (ns ++ ms) (both_made a b)
both_make {classes} ns ms a b h k = record {
  numbers = every_joined (IsThere classes) ns ms h.numbers k.numbers;
  operations = every_joined (OperationMakes classes) a.operations b.operations h.operations k.operations;
  holders = every_joined HoldsOneOfTwo a.classes b.classes h.holders k.holders;
}

pub same_make : {classes : List Class} {ns ms : List Number} {m : Made} → ns ≡ ms → Makes classes ms m → Makes classes ns m
same_make {classes} e h =
    record { numbers = subst (Every (IsThere classes)) (sym e) h.numbers; operations = h.operations; holders = h.holders }

-- a number before others
pub one_more : {classes : List Class} (n : Number) (ns : List Number) {m : Made} → IsThere classes n → Makes classes ns m →
    Makes classes (n ∷ ns) m
one_more n ns there h = record { numbers = (there, h.numbers); operations = h.operations; holders = h.holders }

-- ---- each kind of part

abbrev pub PartMakes : Part → Type 0
PartMakes p = (classes : List Class) (env : Env) → Taken classes env.scope.globals (p.made env.scope).classes →
    Makes classes (in_expression (p.core env)) (p.made env.scope)

abbrev pub StatementMakes : StatementPart → Type 0
StatementMakes x = (classes : List Class) (env : Env) → Taken classes env.scope.globals (x.made env.scope).classes →
    Makes classes (in_statement (x.core env)) (x.made env.scope)

abbrev pub PieceMakes : Piece → Type 0
PieceMakes b = (classes : List Class) (env : Env) → Taken classes env.scope.globals (b.made env.scope).classes →
    Makes classes (in_block (b.core env)) (b.made env.scope)

abbrev pub PartHas : Part → Type 0
PartHas = trees.PartHas PartMakes StatementMakes PieceMakes

abbrev pub LinkHas : LinkPart → Type 0
LinkHas = trees.LinkHas PartMakes StatementMakes PieceMakes

abbrev pub FactorHas : FactorPart → Type 0
FactorHas = trees.FactorHas PartMakes StatementMakes PieceMakes

abbrev pub AddendHas : AddendPart → Type 0
AddendHas = trees.AddendHas PartMakes StatementMakes PieceMakes

abbrev pub ArmHas : ArmPart → Type 0
ArmHas = trees.ArmHas PartMakes StatementMakes PieceMakes

abbrev pub PieceHas : Piece → Type 0
PieceHas = trees.PieceHas PartMakes StatementMakes PieceMakes

abbrev pub SectionHas : SectionPart → Type 0
SectionHas = trees.SectionHas PartMakes StatementMakes PieceMakes

abbrev pub OperationHas : OperationPart → Type 0
OperationHas = trees.OperationHas PartMakes StatementMakes PieceMakes

abbrev pub MemberHas : MemberPart → Type 0
MemberHas = trees.MemberHas PartMakes StatementMakes PieceMakes

abbrev pub BodyHas : BodyPart → Type 0
BodyHas = trees.BodyHas PartMakes StatementMakes PieceMakes

-- An object constructor has no parameters.
abbrev pub ObjectHas : ObjectPart → Type 0
ObjectHas o = trees.ObjectHas PartMakes StatementMakes PieceMakes o × (o.holder.parameters ≡ [])

abbrev pub ExpressionHas : AnExpression → Type 0
ExpressionHas = trees.ExpressionHas PartMakes StatementMakes PieceMakes

abbrev pub StatementHas : AStatement → Type 0
StatementHas = trees.StatementHas PartMakes StatementMakes PieceMakes

-- ---- lists of parts

pub parts_make : (classes : List Class) (env : Env) (ps : List Part) → Every PartHas ps →
    Taken classes env.scope.globals (all_made env.scope ps).classes →
    Makes classes (joined (map in_expression (cores_of env ps))) (all_made env.scope ps)
parts_make classes env [] h t = none_make
parts_make classes env (p ∷ ps) h t =
    both_make (in_expression (p.core env)) (joined (map in_expression (cores_of env ps))) (p.made env.scope)
    (all_made env.scope ps)
    (h.0.1 classes env (first_taken (p.made env.scope).classes (all_made env.scope ps).classes t))
    (parts_make classes env ps h.1 (second_taken (p.made env.scope).classes (all_made env.scope ps).classes t))
