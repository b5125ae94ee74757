-- The rules by their numbers, faults, and the order in which faults are listed.
use Rattle.std.specs.Prelude.{ℕ, ◌==◌, nat_lt, ◌&&◌, ◌||◌, Bool, true, false, if◌then◌else◌, List, [], ◌∷◌, Option, Some, None}
use Rattle.ec_ast.specs.declared.Span.{Span}
use Rattle.ec_rules.specs.declared.Rule.{Rule}
use Rattle.ec_rules.specs.declared.Rule.TheVariants as rule
use Rattle.ec_rules.specs.declared.StaticFault.{StaticFault}
use Rattle.ec_rules.specs.declared.faults.Faults.{Faults}

-- the number of a rule in the table of rules
abbrev pub number_of : Rule → ℕ
number_of rule.UnknownName = 1
number_of rule.DoubledName = 2
number_of rule.EndName = 3
number_of rule.Mismatch = 4
number_of rule.NoOperation = 5
number_of rule.Arity = 6
number_of rule.Assignment = 7
number_of rule.Condition = 8
number_of rule.AttachedValue = 9
number_of rule.ExitOutside = 10
number_of rule.ManyTypes = 11
number_of rule.ManyOperations = 12
number_of rule.ManyFields = 13
number_of rule.ManyParameters = 14
number_of rule.ManyVariables = 15
number_of rule.Size = 16

-- ---- faults

abbrev pub fault : Rule → Span → List StaticFault
fault rule at = record { rule = rule; at = at } ∷ []

-- the rule is broken there where the test fails
abbrev pub fault_unless : Bool → Rule → Span → List StaticFault
fault_unless holds rule at = if holds then [] else fault rule at

abbrev pub fault_if : Bool → Rule → Span → List StaticFault
fault_if breaks rule at = if breaks then fault rule at else []

abbrev pub is_clean : List StaticFault → Bool
is_clean [] = true
is_clean (f ∷ fs) = false

-- ---- their order: by place, then by rule

abbrev pub is_earlier : Span → Span → Bool
is_earlier a b = nat_lt a.from b.from || ((a.from == b.from) && nat_lt a.to b.to)

abbrev pub is_same_place : Span → Span → Bool
is_same_place a b = (a.from == b.from) && (a.to == b.to)

abbrev pub is_before : StaticFault → StaticFault → Bool
is_before f g = is_earlier f.at g.at || (is_same_place f.at g.at && nat_lt (number_of f.rule) (number_of g.rule))

-- with one more fault, before the first that isn't before it
abbrev pub insert : StaticFault → List StaticFault → List StaticFault
insert f [] = f ∷ []
insert f (g ∷ gs) = if is_before g f then g ∷ insert f gs else f ∷ (g ∷ gs)

abbrev pub in_order : List StaticFault → List StaticFault
in_order [] = []
in_order (f ∷ fs) = insert f (in_order fs)

-- ---- the first of faults in any order, as they are met

abbrev pub lesser : Option StaticFault → StaticFault → Option StaticFault
lesser None f = Some f
lesser (Some g) f = if is_before f g then Some f else Some g

-- the first of the one found so far and these
abbrev pub least_of : Option StaticFault → List StaticFault → Option StaticFault
least_of so_far [] = so_far
least_of so_far (f ∷ fs) = least_of (lesser so_far f) fs

-- ---- what is kept of the faults that are met: the first, and whether none was met since a part began

abbrev pub no_faults : Faults
no_faults = record { first = None; is_clean = true }

abbrev pub noted : Faults → List StaticFault → Faults
noted faults more = record { first = least_of faults.first more; is_clean = faults.is_clean && is_clean more }

abbrev pub begun : Faults → Faults
begun faults = record { first = faults.first; is_clean = true }

abbrev pub ended : Faults → Bool → Faults
ended faults was_clean = record { first = faults.first; is_clean = was_clean && faults.is_clean }
