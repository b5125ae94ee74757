-- Names that are declared without a doubled one: each is none of those before it, and none of those that were taken.
use Rattle.std.proofs.Common.{◌≡◌, Bool, true, false, List, [], ◌∷◌, ◌++◌, map, refl, sym, ◌∙◌, subst, append_assoc}
use Rattle.std.proofs.lemmas.List.{append-nil}
use Rattle.std.proofs.lemmas.Bool.{or_parts, or_from, false_from_ne_true}
use Rattle.ec_ast.specs.declared.Name.{Name}
use Rattle.ec_ast.specs.declared.Parameter.{Parameter}
use Rattle.ec_ast.specs.declared.Signature.{Signature}
use Rattle.ec_ast.specs.declared.Span.{Span}
use Rattle.ec_check.proofs.Every.{none_left, none_right, not_both}
use Rattle.ec_check.proofs.RangedParts.{map_both}
use Rattle.ec_check.specs.Operations.{AreDistinct}
use Rattle.ec_types.proofs.NamesLemmas.{is_same_symmetric, has_name_more}
use Rattle.ec_types.specs.Types.{operation_names, operation_of, operations_from}
use Rattle.ec_types.specs.declared.conform.operations.NamedOperation.{NamedOperation}
use Rattle.ec_types.specs.Names.{Text, is_same, has_name}
use Rattle.ec_rules.specs.Doubled.{doubled_behind}
use Rattle.ec_rules.specs.Members.{parameter_names}
use Rattle.ec_rules.specs.Rules.{fault_if}
use Rattle.ec_rules.specs.declared.Rule.{Rule}

-- ---- names that are there

absent_parts : (own : Text) (names : List Text) (name : Text) → has_name (own ∷ names) name ≡ false →
    (is_same own name ≡ false) × (has_name names name ≡ false)
absent_parts own names name e = or_parts (is_same own name) (has_name names name) (sym (has_name_more own names name) ∙ e)

absent_from : (own : Text) (names : List Text) (name : Text) → is_same own name ≡ false → has_name names name ≡ false →
    has_name (own ∷ names) name ≡ false
absent_from own names name e f = has_name_more own names name ∙ or_from (is_same own name) (has_name names name) e f

absent_left : (names more : List Text) (name : Text) → has_name (names ++ more) name ≡ false → has_name names name ≡ false
absent_left [] more name e = refl
absent_left (own ∷ names) more name e =
    let parts : (is_same own name ≡ false) × (has_name (names ++ more) name ≡ false) = absent_parts own (names ++ more) name e in
    absent_from own names name parts.0 (absent_left names more name parts.1)

absent_right : (names more : List Text) (name : Text) → has_name (names ++ more) name ≡ false → has_name more name ≡ false
absent_right [] more name e = e
absent_right (own ∷ names) more name e = absent_right names more name (absent_parts own (names ++ more) name e).1

absent_both : (names more : List Text) (name : Text) → has_name names name ≡ false → has_name more name ≡ false →
    has_name (names ++ more) name ≡ false
absent_both [] more name e f = f
absent_both (own ∷ names) more name e f =
    let parts : (is_same own name ≡ false) × (has_name names name ≡ false) = absent_parts own names name e in
    absent_from own (names ++ more) name parts.0 (absent_both names more name parts.1 f)

other_way : (a b : Text) → is_same a b ≡ false → is_same b a ≡ false
other_way a b e =
    false_from_ne_true (is_same b a) (λ f. not_both (sym e ∙ is_same_symmetric b a f))

-- ---- names that are new

-- each is none of those taken and those before it
abbrev pub AreNew : List Text → List Text → Type 0
AreNew taken [] = Unit {0}
AreNew taken (name ∷ names) = (has_name taken name ≡ false) × AreNew (taken ++ name ∷ []) names

-- what isn't among the ones isn't among the others
abbrev pub AreFewer : List Text → List Text → Type 0
AreFewer few many = (name : Text) → has_name many name ≡ false → has_name few name ≡ false

pub fewer_behind : (few many : List Text) (name : Text) → AreFewer few many → AreFewer few (many ++ name ∷ [])
fewer_behind few many name h other e = h other (absent_left many (name ∷ []) other e)

pub fewer_both : (few many : List Text) (name : Text) → AreFewer few many → AreFewer (few ++ name ∷ []) (many ++ name ∷ [])
fewer_both few many name h other e =
    absent_both few (name ∷ []) other (h other (absent_left many (name ∷ []) other e)) (absent_right many (name ∷ []) other e)

-- new names are none of those that come behind them
later_names : (taken : List Text) (name : Text) (names : List Text) →
    ((other : Text) → has_name taken other ≡ false → is_same name other ≡ false) → AreNew taken names → has_name names name ≡ false
later_names taken name [] w h = refl
later_names taken name (other ∷ names) w h =
    absent_from other names name (other_way name other (w other h.0))
    (later_names (taken ++ other ∷ []) name names (λ x e. w x (absent_left taken (other ∷ []) x e)) h.1)

pub are_distinct : (taken names : List Text) → AreNew taken names → AreDistinct names
are_distinct taken [] h = tt
are_distinct taken (name ∷ names) h = (
  later_names (taken ++ name ∷ []) name names
      (λ other e. (absent_parts name [] other (absent_right taken (name ∷ []) other e)).0) h.1,
  are_distinct (taken ++ name ∷ []) names h.1,
)

-- ---- without a doubled name

pub not_there : (b : Bool) (rule : Rule) (at : Span) → fault_if b rule at ≡ [] → b ≡ false
not_there true rule at e = cc
not_there false rule at e = refl

abbrev texts : List Name → List Text
texts names = map (λ (n : Name). n.text) names

pub are_new : (taken : List Text) (names : List Name) → doubled_behind taken names ≡ [] → AreNew taken (texts names)
are_new taken [] e = tt
are_new taken (name ∷ names) e =
    (not_there (has_name taken name.text) _ name.at (none_left _ _ e), are_new (taken ++ name.text ∷ []) names (none_right _ _ e))

-- those behind the parameters of a class
pub behind_parameters : (taken : List Text) (ps : List Parameter) (names : List Name) →
    doubled_behind taken (parameter_names ps ++ names) ≡ [] → doubled_behind (taken ++ map (λ p. p.name.text) ps) names ≡ []
behind_parameters taken [] names e = subst (λ ts. doubled_behind ts names ≡ []) (sym (append-nil taken)) e
behind_parameters taken (p ∷ ps) names e =
    subst (λ ts. doubled_behind ts names ≡ []) (append_assoc taken (p.name.text ∷ []) (map (λ p. p.name.text) ps))
    (behind_parameters (taken ++ p.name.text ∷ []) ps names (none_right _ _ e))

-- ---- the operations of a type

-- None of them is left out, where their names are new.
pub all_from : (names : List Text) (os : List NamedOperation) (ss : List Signature) →
    AreNew (operation_names os) (map (λ (s : Signature). s.name.text) ss) →
    operations_from names os ss ≡ os ++ map (operation_of names) ss
all_from names os [] h = sym (append-nil os)
all_from names os (s ∷ ss) h =
    let more : AreNew (operation_names (os ++ operation_of names s ∷ [])) (map (λ (s : Signature). s.name.text) ss) =
    subst (λ ts. AreNew ts (map (λ (s : Signature). s.name.text) ss))
    (sym (map_both (λ (o : NamedOperation). o.name) os (operation_of names s ∷ []))) h.1 in
    rw h.0
    (all_from names (os ++ operation_of names s ∷ []) ss more
    ∙ append_assoc os (operation_of names s ∷ []) (map (operation_of names) ss))
