-- The order of faults is total, and the first fault of the list in order is the least of the faults as they are met.
use Rattle.std.proofs.Common.{◌≡◌, ℕ, ◌<◌, ◌-◌, ◌==◌, ◌&&◌, ◌||◌, ◌⊎◌, inl, inr, Bool, true, false, if◌then◌else◌, List, [], ◌∷◌}
use Rattle.std.proofs.Common.{◌++◌, Option, Some, None, nat_lt, Decides, refl, sym, ap, ◌∙◌, arith, slice_get}
use Rattle.std.proofs.lemmas.Bool.{cases_order}
use Rattle.std.proofs.lemmas.Bool.Decides.{Decides-and, Decides-eqb, Decides-like, Decides-ltb, Decides-or}
use Rattle.ec_rules.specs.declared.Rule.{Rule}
use Rattle.ec_rules.specs.declared.Rule.TheVariants as rule
use Rattle.ec_rules.specs.declared.StaticFault.{StaticFault}
use Rattle.ec_rules.specs.Rules.{number_of, is_before, insert, in_order, lesser, least_of}

-- ---- three numbers, by the first, then by the second, then by the third

data Precedes (a b c x y z : ℕ) : Type 0 where
  by_first : a < x → Precedes a b c x y z
  by_second : a ≡ x → b < y → Precedes a b c x y z
  by_third : a ≡ x → b ≡ y → c < z → Precedes a b c x y z

precedes_trans : (a b c x y z u v w : ℕ) → Precedes a b c x y z → Precedes x y z u v w → Precedes a b c u v w
precedes_trans a b c x y z u v w (by_first p) (by_first q) = by_first (omega arith)
precedes_trans a b c x y z u v w (by_first p) (by_second e q) = by_first (omega arith)
precedes_trans a b c x y z u v w (by_first p) (by_third e f q) = by_first (omega arith)
precedes_trans a b c x y z u v w (by_second d p) (by_first q) = by_first (omega arith)
precedes_trans a b c x y z u v w (by_second d p) (by_second e q) = by_second (omega arith) (omega arith)
precedes_trans a b c x y z u v w (by_second d p) (by_third e f q) = by_second (omega arith) (omega arith)
precedes_trans a b c x y z u v w (by_third d k p) (by_first q) = by_first (omega arith)
precedes_trans a b c x y z u v w (by_third d k p) (by_second e q) = by_second (omega arith) (omega arith)
precedes_trans a b c x y z u v w (by_third d k p) (by_third e f q) = by_third (omega arith) (omega arith) (omega arith)

-- one stands before the other, or they are the same
data Compared (a b c x y z : ℕ) : Type 0 where
  before : Precedes a b c x y z → Compared a b c x y z
  behind : Precedes x y z a b c → Compared a b c x y z
  same : a ≡ x → b ≡ y → c ≡ z → Compared a b c x y z

compare_third : (a b c x y z : ℕ) → a ≡ x → b ≡ y → (c ≡ z) ⊎ ((c < z) ⊎ (z < c)) → Compared a b c x y z
compare_third a b c x y z d e (inl f) = same d e f
compare_third a b c x y z d e (inr (inl f)) = before (by_third d e f)
compare_third a b c x y z d e (inr (inr f)) = behind (by_third (sym d) (sym e) f)

compare_second : (a b c x y z : ℕ) → a ≡ x → (b ≡ y) ⊎ ((b < y) ⊎ (y < b)) → Compared a b c x y z
compare_second a b c x y z d (inl e) = compare_third a b c x y z d e (cases_order c z)
compare_second a b c x y z d (inr (inl e)) = before (by_second d e)
compare_second a b c x y z d (inr (inr e)) = behind (by_second (sym d) e)

compare_first : (a b c x y z : ℕ) → (a ≡ x) ⊎ ((a < x) ⊎ (x < a)) → Compared a b c x y z
compare_first a b c x y z (inl d) = compare_second a b c x y z d (cases_order b y)
compare_first a b c x y z (inr (inl d)) = before (by_first d)
compare_first a b c x y z (inr (inr d)) = behind (by_first d)

-- ---- faults

abbrev Before : StaticFault → StaticFault → Type 0
Before f g = Precedes f.at.from f.at.to (number_of f.rule) g.at.from g.at.to (number_of g.rule)

abbrev precedes : ℕ → ℕ → ℕ → ℕ → ℕ → ℕ → Bool
precedes a b c x y z = (nat_lt a x || ((a == x) && nat_lt b y)) || (((a == x) && (b == y)) && nat_lt c z)

to_precedes : (a b c x y z : ℕ) → ((a < x) ⊎ ((a ≡ x) × (b < y))) ⊎ (((a ≡ x) × (b ≡ y)) × (c < z)) → Precedes a b c x y z
to_precedes a b c x y z (inl (inl p)) = by_first p
to_precedes a b c x y z (inl (inr p)) = by_second p.0 p.1
to_precedes a b c x y z (inr p) = by_third p.0.0 p.0.1 p.1

from_precedes : (a b c x y z : ℕ) → Precedes a b c x y z → ((a < x) ⊎ ((a ≡ x) × (b < y))) ⊎ (((a ≡ x) × (b ≡ y)) × (c < z))
from_precedes a b c x y z (by_first p) = inl (inl p)
from_precedes a b c x y z (by_second d p) = inl (inr (d, p))
from_precedes a b c x y z (by_third d e p) = inr ((d, e), p)

precedes_decides : (a b c x y z : ℕ) → Decides (precedes a b c x y z) (Precedes a b c x y z)
precedes_decides a b c x y z =
    Decides-like _ (to_precedes a b c x y z) (from_precedes a b c x y z)
    (Decides-or (nat_lt a x || ((a == x) && nat_lt b y)) (((a == x) && (b == y)) && nat_lt c z)
    (Decides-or (nat_lt a x) ((a == x) && nat_lt b y) (Decides-ltb a x)
    (Decides-and (a == x) (nat_lt b y) (Decides-eqb a x) (Decides-ltb b y)))
    (Decides-and ((a == x) && (b == y)) (nat_lt c z) (Decides-and (a == x) (b == y) (Decides-eqb a x) (Decides-eqb b y))
    (Decides-ltb c z)))

before_decides : (f g : StaticFault) → Decides (is_before f g) (Before f g)
before_decides f g = precedes_decides f.at.from f.at.to (number_of f.rule) g.at.from g.at.to (number_of g.rule)

-- the rules in the order of their numbers
abbrev rules_by_number : List Rule
rules_by_number =
    rule.UnknownName ∷ rule.DoubledName ∷ rule.EndName ∷ rule.Mismatch ∷ rule.NoOperation ∷ rule.Arity ∷ rule.Assignment ∷
    rule.Condition
    ∷ rule.AttachedValue ∷ rule.ExitOutside ∷ rule.ManyTypes ∷ rule.ManyOperations ∷ rule.ManyFields ∷ rule.ManyParameters ∷
    rule.ManyVariables
    ∷ rule.Size ∷ []

rule_of_number : (r : Rule) → slice_get rules_by_number (number_of r - 1) ≡ Some r
rule_of_number rule.UnknownName = refl
rule_of_number rule.DoubledName = refl
rule_of_number rule.EndName = refl
rule_of_number rule.Mismatch = refl
rule_of_number rule.NoOperation = refl
rule_of_number rule.Arity = refl
rule_of_number rule.Assignment = refl
rule_of_number rule.Condition = refl
rule_of_number rule.AttachedValue = refl
rule_of_number rule.ExitOutside = refl
rule_of_number rule.ManyTypes = refl
rule_of_number rule.ManyOperations = refl
rule_of_number rule.ManyFields = refl
rule_of_number rule.ManyParameters = refl
rule_of_number rule.ManyVariables = refl
rule_of_number rule.Size = refl

-- no two rules have one number
same_rule : (r s : Rule) → number_of r ≡ number_of s → r ≡ s
same_rule r s e =
    let n = ap (λ (k : ℕ). slice_get rules_by_number (k - 1)) e in
    let a = rule_of_number r in
    let b = rule_of_number s in
    cc

abbrev fault_of : Rule → ℕ → ℕ → StaticFault
fault_of rule from to = record { rule = rule; at = record { from = from; to = to } }

same_fault : (f g : StaticFault) → f.at.from ≡ g.at.from → f.at.to ≡ g.at.to → number_of f.rule ≡ number_of g.rule → f ≡ g
same_fault f g a b c =
    let r = same_rule f.rule g.rule c in
    let e : fault_of f.rule f.at.from f.at.to ≡ fault_of g.rule g.at.from g.at.to = cc in
    e

-- ---- what the comparisons of two and of three say

before_trans : (a b c : StaticFault) → is_before b a ≡ true → is_before c b ≡ true → is_before c a ≡ true
before_trans a b c p q =
    (before_decides c a).1 (precedes_trans _ _ _ _ _ _ _ _ _ ((before_decides c b).0 q) ((before_decides b a).0 p))

-- a fault that isn't before another stands behind it, or is the same
not_before : (f g : StaticFault) → is_before f g ≡ false → (is_before g f ≡ true) ⊎ (f ≡ g)
not_before f g n = by_order (compare_first _ _ _ _ _ _ (cases_order f.at.from g.at.from))
  where
    by_order : Compared f.at.from f.at.to (number_of f.rule) g.at.from g.at.to (number_of g.rule) →
        (is_before g f ≡ true) ⊎ (f ≡ g)
    by_order (before p) = absurd (let t = (before_decides f g).1 p in cc)
    by_order (behind p) = inl ((before_decides g f).1 p)
    by_order (same a b c) = inr (same_fault f g a b c)

before_not_trans : (a b c : StaticFault) → is_before b a ≡ false → is_before c b ≡ false → is_before c a ≡ true → ⊥
before_not_trans a b c p q r = by_order (not_before b a p)
  where
    by_order : (is_before a b ≡ true) ⊎ (b ≡ a) → ⊥
    by_order (inl n) = let t = before_trans b a c n r in cc
    by_order (inr e) = let t = ap (is_before c) e in cc

-- ---- the least of two

abbrev merged : Option StaticFault → Option StaticFault → Option StaticFault
merged None o = o
merged (Some f) None = Some f
merged (Some f) (Some g) = if is_before g f then Some g else Some f

lesser_merged : (o : Option StaticFault) (f : StaticFault) → lesser o f ≡ merged o (Some f)
lesser_merged None f = refl
lesser_merged (Some g) f = refl

-- the three by the outcomes of their comparisons
assoc_step : (a b c : StaticFault) (ba cb ca : Bool) → is_before b a ≡ ba → is_before c b ≡ cb → is_before c a ≡ ca →
    merged (merged (Some a) (Some b)) (Some c) ≡ merged (Some a) (merged (Some b) (Some c))
assoc_step a b c true true true p q r = rw (p, q, r) refl
assoc_step a b c true true false p q r = absurd (let t = before_trans a b c p q in cc)
assoc_step a b c true false ca p q r = simp (p, q) refl
assoc_step a b c false true ca p q r = simp (p, q) refl
assoc_step a b c false false true p q r = absurd (before_not_trans a b c p q r)
assoc_step a b c false false false p q r = simp (p, q, r) refl

merged_assoc : (a b c : Option StaticFault) → merged (merged a b) c ≡ merged a (merged b c)
merged_assoc None b c = refl
merged_assoc (Some a) None c = refl
merged_assoc (Some a) (Some b) None = none_behind (is_before b a)
  where
    none_behind : (h : Bool) → merged (if h then Some b else Some a) None ≡ (if h then Some b else Some a)
    none_behind true = refl
    none_behind false = refl
merged_assoc (Some a) (Some b) (Some c) = assoc_step a b c (is_before b a) (is_before c b) (is_before c a) refl refl refl

-- ---- lists

pub least_of_merged : (o : Option StaticFault) (fs : List StaticFault) → least_of o fs ≡ merged o (least_of None fs)
least_of_merged None fs = refl
least_of_merged (Some g) [] = refl
least_of_merged (Some g) (f ∷ fs) =
    least_of_merged (lesser (Some g) f) fs
    ∙ ap (λ (o : Option StaticFault). merged o (least_of None fs)) (lesser_merged (Some g) f)
    ∙ merged_assoc (Some g) (Some f) (least_of None fs)
    ∙ ap (merged (Some g)) (sym (least_of_merged (Some f) fs))

first_inserted : (f : StaticFault) (gs : List StaticFault) → slice_get (insert f gs) 0 ≡ merged (Some f) (slice_get gs 0)
first_inserted f [] = refl
first_inserted f (g ∷ gs) = by_outcome (is_before g f)
  where
    by_outcome : (h : Bool) → slice_get (if h then g ∷ insert f gs else f ∷ (g ∷ gs)) 0 ≡ (if h then Some g else Some f)
    by_outcome true = refl
    by_outcome false = refl

pub first_in_order : (fs : List StaticFault) → slice_get (in_order fs) 0 ≡ least_of None fs
first_in_order [] = refl
first_in_order (f ∷ fs) =
    first_inserted f (in_order fs)
    ∙ ap (merged (Some f)) (first_in_order fs)
    ∙ sym (least_of_merged (Some f) fs)

pub least_joined : (so_far : Option StaticFault) (fs gs : List StaticFault) →
    least_of so_far (fs ++ gs) ≡ least_of (least_of so_far fs) gs
least_joined so_far [] gs = refl
least_joined so_far (f ∷ fs) gs = least_joined (lesser so_far f) fs gs
