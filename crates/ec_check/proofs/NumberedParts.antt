-- What is made within a part of a tree, by the types that are declared within it: its classes have the numbers of these
-- types, and each of its operations is of one of its classes; and where no fault is within it, and the numbers rise, each
-- class has the operations of its type.
use Rattle.std.proofs.Common.{◌≡◌, ℕ, ◌==◌, ◌&&◌, Bool, true, false, if◌then◌else◌, List, [], ◌∷◌, ◌++◌, map, refl, sym, ap, ◌∙◌}
use Rattle.std.proofs.Common.{subst, append_assoc}
use Rattle.std.proofs.lemmas.Bool.{eq-eqb, ne_eqb}
use Rattle.std.proofs.lemmas.List.{append-nil}
use Rattle.ec_check.proofs.ClassNumbers.{Below, Apart, Ascending, below_apart, ascending_left, ascending_right, each_below, apart_before}
use Rattle.ec_check.proofs.ClassNumbers.{numbers_declared, StandsAt}
use Rattle.ec_check.proofs.Every.{Every, every_joined, every_left, every_right, every_weaker, none_left, none_right}
use Rattle.ec_check.proofs.RangedParts.{map_both}
use Rattle.ec_check.specs.Operations.{is_of_class, operations_of_class, exported_of, AreDistinct}
use Rattle.ec_check.specs.Parts.{Made, nothing_made, both_made}
use Rattle.ec_check.specs.Resolving.{just_operation}
use Rattle.ec_check.specs.WellTyped.{is_named}
use Rattle.ec_types.specs.Conforms.{operations_at}
use Rattle.ec_types.specs.Table.{Table}
use Rattle.ec_types.specs.declared.conform.declared.DeclaredType.{DeclaredType}
use Rattle.ec_core.specs.declared.Class.{Class}
use Rattle.ec_core.specs.declared.Operation.{Operation}
use Rattle.ec_rules.specs.declared.StaticFault.{StaticFault}

-- ---- lists

pub none_both : {A : Type 0} (xs ys : List A) → xs ≡ [] → ys ≡ [] → xs ++ ys ≡ []
none_both xs ys e f = ap (λ zs. zs ++ ys) e ∙ f

-- ---- the operations of a class

pub class_both : (n : ℕ) (os ps : List Operation) →
    operations_of_class n (os ++ ps) ≡ operations_of_class n os ++ operations_of_class n ps
class_both n [] ps = refl
class_both n (o ∷ os) ps =
    ap (λ r. (if is_of_class n o then o ∷ [] else []) ++ r) (class_both n os ps)
    ∙ sym (append_assoc (if is_of_class n o then o ∷ [] else []) (operations_of_class n os) (operations_of_class n ps))

none_of_class : (n : ℕ) (os ps : List Operation) → operations_of_class n os ≡ [] → operations_of_class n ps ≡ [] →
    operations_of_class n (os ++ ps) ≡ []
none_of_class n os ps e f = class_both n os ps ∙ none_both (operations_of_class n os) (operations_of_class n ps) e f

-- a class has these named operations
pub record Has (table : Table) (os : List Operation) (c : Class) : Type 0 where
  pub names : AreDistinct (map (λ o. o.name) os)
  pub exported : exported_of os ≡ operations_at table.types c.number

abbrev pub Owns : Table → List Operation → Class → Type 0
Owns table os c = Has table (operations_of_class c.number os) c

-- Operations of other classes may stand behind or before.
owns_behind : (table : Table) (os ps : List Operation) (c : Class) → operations_of_class c.number ps ≡ [] → Owns table os c →
    Owns table (os ++ ps) c
owns_behind table os ps c e h =
    subst (λ qs. Has table qs c)
    (sym
    (class_both c.number os ps ∙ ap (λ r. operations_of_class c.number os ++ r) e ∙ append-nil (operations_of_class c.number os)))
    h

owns_before : (table : Table) (os ps : List Operation) (c : Class) → operations_of_class c.number os ≡ [] → Owns table ps c →
    Owns table (os ++ ps) c
owns_before table os ps c e h =
    subst (λ qs. Has table qs c) (sym (class_both c.number os ps ∙ ap (λ r. r ++ operations_of_class c.number ps) e)) h

-- ---- what is made

abbrev pub numbers_of : List Class → List ℕ
numbers_of cs = map (λ c. c.number) cs

abbrev pub NoneOf : List Operation → ℕ → Type 0
NoneOf os n = operations_of_class n os ≡ []

all_behind : (table : Table) (os ps : List Operation) (cs : List Class) → Every (NoneOf ps) (numbers_of cs) →
    Every (Owns table os) cs → Every (Owns table (os ++ ps)) cs
all_behind table os ps [] e h = tt
all_behind table os ps (c ∷ cs) e h = (owns_behind table os ps c e.0 h.0, all_behind table os ps cs e.1 h.1)

all_before : (table : Table) (os ps : List Operation) (cs : List Class) → Every (NoneOf os) (numbers_of cs) →
    Every (Owns table ps) cs → Every (Owns table (os ++ ps)) cs
all_before table os ps [] e h = tt
all_before table os ps (c ∷ cs) e h = (owns_before table os ps c e.0 h.0, all_before table os ps cs e.1 h.1)

-- by the types that are declared and the faults within
pub record Numbered (table : Table) (m : Made) (ts : List DeclaredType) (fs : List StaticFault) : Type 0 where
  pub numbers : numbers_of m.classes ≡ numbers_declared table ts
  pub others : (n : ℕ) → Apart n (numbers_of m.classes) → NoneOf m.operations n
  pub owned : fs ≡ [] → Every (StandsAt table) ts → Ascending (numbers_of m.classes) → Every (Owns table m.operations) m.classes

-- The same within the body of the class with a number, which has some operations there.
pub record NumberedIn (table : Table) (class : ℕ) (os : List Operation) (m : Made) (ts : List DeclaredType)
    (fs : List StaticFault) : Type 0 where
  pub numbers : numbers_of m.classes ≡ numbers_declared table ts
  pub others : (n : ℕ) → (class ≡ n → ⊥) → Apart n (numbers_of m.classes) → NoneOf m.operations n
  pub those : Apart class (numbers_of m.classes) → operations_of_class class m.operations ≡ os
  pub owned : fs ≡ [] → Every (StandsAt table) ts → Ascending (numbers_of m.classes) → Apart class (numbers_of m.classes) →
      Every (Owns table m.operations) m.classes

pub nothing_numbered : {table : Table} {fs : List StaticFault} → Numbered table nothing_made [] fs
nothing_numbered = record { numbers = refl; others = λ n a. refl; owned = λ e s a. tt }

-- with more faults
pub numbered_within : {table : Table} {m : Made} {ts : List DeclaredType} {fs gs : List StaticFault} → (gs ≡ [] → fs ≡ []) →
    Numbered table m ts fs → Numbered table m ts gs
numbered_within w h = record { numbers = h.numbers; others = h.others; owned = λ e s a. h.owned (w e) s a }

pub within_class : {table : Table} {m : Made} {ts : List DeclaredType} {fs : List StaticFault} (class : ℕ) →
    Numbered table m ts fs → NumberedIn table class [] m ts fs
within_class class h = record {
  numbers = h.numbers;
  others = λ n d a. h.others n a;
  those = λ a. h.others class a;
  owned = λ e s r a. h.owned e s r;
}

-- ---- one behind another

numbers_both : (cs ds : List Class) → numbers_of (cs ++ ds) ≡ numbers_of cs ++ numbers_of ds
numbers_both cs ds = map_both (λ c. c.number) cs ds

both_declared : (table : Table) (cs ds : List Class) (ts us : List DeclaredType) → numbers_of cs ≡ numbers_declared table ts →
    numbers_of ds ≡ numbers_declared table us → numbers_of (cs ++ ds) ≡ numbers_declared table (ts ++ us)
both_declared table cs ds ts us e f =
    numbers_both cs ds ∙ ap (λ ns. ns ++ numbers_of ds) e ∙ ap (λ ns. numbers_declared table ts ++ ns) f ∙ sym (map_both _ ts us)

-- what is said of the numbers of two lists of classes, one behind the other
abbrev split : (P : List ℕ → Type 0) (cs ds : List Class) → P (numbers_of (cs ++ ds)) → P (numbers_of cs ++ numbers_of ds)
split P cs ds h = subst P (numbers_both cs ds) h

-- no operation of the one's classes is among the other's
first_apart : (os : List Operation) (ns ms : List ℕ) → ((n : ℕ) → Apart n ms → NoneOf os n) → Ascending (ns ++ ms) →
    Every (NoneOf os) ns
first_apart os ns ms h a =
    every_weaker (λ n. Below n ms) (NoneOf os) (λ n b. h n (below_apart n ms b)) ns (each_below ns ms a)

second_apart : (os : List Operation) (ns ms : List ℕ) → ((n : ℕ) → Apart n ns → NoneOf os n) → Ascending (ns ++ ms) →
    Every (NoneOf os) ms
second_apart os ns ms h a = every_weaker (λ m. Apart m ns) (NoneOf os) h ms (apart_before ns ms (each_below ns ms a))

pub both_numbered : {table : Table} {a b : Made} {ts us : List DeclaredType} {fs gs : List StaticFault} →
    Numbered table a ts fs → Numbered table b us gs → Numbered table (both_made a b) (ts ++ us) (fs ++ gs)
both_numbered {table} {a} {b} {ts} {us} {fs} {gs} h k = record {
  numbers = both_declared table a.classes b.classes ts us h.numbers k.numbers;
  others = λ n z.
      let apart : Apart n (numbers_of a.classes ++ numbers_of b.classes) = split (Apart n) a.classes b.classes z in
      none_of_class n a.operations b.operations
      (h.others n (every_left (λ m. (m ≡ n) → ⊥) (numbers_of a.classes) (numbers_of b.classes) apart))
      (k.others n (every_right (λ m. (m ≡ n) → ⊥) (numbers_of a.classes) (numbers_of b.classes) apart));
  owned = λ e s z.
      let rise : Ascending (numbers_of a.classes ++ numbers_of b.classes) = split Ascending a.classes b.classes z in
      every_joined (Owns table (a.operations ++ b.operations)) a.classes b.classes
      (all_behind table a.operations b.operations a.classes
      (first_apart b.operations (numbers_of a.classes) (numbers_of b.classes) k.others rise)
      (h.owned (none_left fs gs e) (every_left (StandsAt table) ts us s)
      (ascending_left (numbers_of a.classes) (numbers_of b.classes) rise)))
      (all_before table a.operations b.operations b.classes
      (second_apart a.operations (numbers_of a.classes) (numbers_of b.classes) h.others rise)
      (k.owned (none_right fs gs e) (every_right (StandsAt table) ts us s)
      (ascending_right (numbers_of a.classes) (numbers_of b.classes) rise)));
}

-- one, with nothing behind it
pub one_numbered : {table : Table} {m : Made} {ts : List DeclaredType} {fs gs : List StaticFault} → (gs ≡ [] → fs ≡ []) →
    Numbered table m ts fs → Numbered table (both_made m nothing_made) ts gs
one_numbered {table} {m} {ts} {fs} {gs} w h =
    subst (λ us. Numbered table (both_made m nothing_made) us gs) (append-nil ts)
    (numbered_within (λ e. none_both fs [] (w e) refl) (both_numbered h nothing_numbered))

-- ---- within a class

both_every : {A : Type 0} (P Q R : A → Type 0) → ((x : A) → P x → Q x → R x) → (xs : List A) → Every P xs → Every Q xs → Every R xs
both_every P Q R w [] h k = tt
both_every P Q R w (x ∷ xs) h k = (w x h.0 k.0, both_every P Q R w xs h.1 k.1)

first_apart_in : (class : ℕ) (os : List Operation) (ns ms : List ℕ) → ((n : ℕ) → (class ≡ n → ⊥) → Apart n ms → NoneOf os n) →
    Apart class ns → Ascending (ns ++ ms) → Every (NoneOf os) ns
first_apart_in class os ns ms h c a =
    both_every (λ n. (n ≡ class) → ⊥) (λ n. Below n ms) (NoneOf os)
    (λ n d b. h n (λ e. d (sym e)) (below_apart n ms b)) ns c (each_below ns ms a)

second_apart_in : (class : ℕ) (os : List Operation) (ns ms : List ℕ) → ((n : ℕ) → (class ≡ n → ⊥) → Apart n ns → NoneOf os n) →
    Apart class ms → Ascending (ns ++ ms) → Every (NoneOf os) ms
second_apart_in class os ns ms h c a =
    both_every (λ n. (n ≡ class) → ⊥) (λ m. Apart m ns) (NoneOf os) (λ n d b. h n (λ e. d (sym e)) b) ms c
    (apart_before ns ms (each_below ns ms a))

pub both_in : {table : Table} {class : ℕ} {os ps : List Operation} {a b : Made} {ts us : List DeclaredType}
    {fs gs : List StaticFault} →
    NumberedIn table class os a ts fs → NumberedIn table class ps b us gs →
    NumberedIn table class (os ++ ps) (both_made a b) (ts ++ us) (fs ++ gs)
both_in {table} {class} {os} {ps} {a} {b} {ts} {us} {fs} {gs} h k = record {
  numbers = both_declared table a.classes b.classes ts us h.numbers k.numbers;
  others = λ n d z.
      let apart : Apart n (numbers_of a.classes ++ numbers_of b.classes) = split (Apart n) a.classes b.classes z in
      none_of_class n a.operations b.operations
      (h.others n d (every_left (λ m. (m ≡ n) → ⊥) (numbers_of a.classes) (numbers_of b.classes) apart))
      (k.others n d (every_right (λ m. (m ≡ n) → ⊥) (numbers_of a.classes) (numbers_of b.classes) apart));
  those = λ z.
      let apart : Apart class (numbers_of a.classes ++ numbers_of b.classes) = split (Apart class) a.classes b.classes z in
      class_both class a.operations b.operations
      ∙ ap (λ r. r ++ operations_of_class class b.operations)
      (h.those (every_left (λ m. (m ≡ class) → ⊥) (numbers_of a.classes) (numbers_of b.classes) apart))
      ∙ ap (λ r. os ++ r) (k.those (every_right (λ m. (m ≡ class) → ⊥) (numbers_of a.classes) (numbers_of b.classes) apart));
  owned = λ e s z y.
      let rise : Ascending (numbers_of a.classes ++ numbers_of b.classes) = split Ascending a.classes b.classes z in
      let apart : Apart class (numbers_of a.classes ++ numbers_of b.classes) = split (Apart class) a.classes b.classes y in
      let left : Apart class (numbers_of a.classes) =
      every_left (λ m. (m ≡ class) → ⊥) (numbers_of a.classes) (numbers_of b.classes) apart in
      let right : Apart class (numbers_of b.classes) =
      every_right (λ m. (m ≡ class) → ⊥) (numbers_of a.classes) (numbers_of b.classes) apart in
      every_joined (Owns table (a.operations ++ b.operations)) a.classes b.classes
      (all_behind table a.operations b.operations a.classes
      (first_apart_in class b.operations (numbers_of a.classes) (numbers_of b.classes) k.others left rise)
      (h.owned (none_left fs gs e) (every_left (StandsAt table) ts us s)
      (ascending_left (numbers_of a.classes) (numbers_of b.classes) rise) left))
      (all_before table a.operations b.operations b.classes
      (second_apart_in class a.operations (numbers_of a.classes) (numbers_of b.classes) h.others right rise)
      (k.owned (none_right fs gs e) (every_right (StandsAt table) ts us s)
      (ascending_right (numbers_of a.classes) (numbers_of b.classes) rise) right));
}

-- ---- one operation of the class

of_another : (n : ℕ) (o : Operation) → (o.class ≡ n → ⊥) → operations_of_class n (o ∷ []) ≡ []
of_another n o d = rw (ne_eqb o.class n d) refl

named_there : (o : Operation) → is_named o.kind ≡ true → operations_of_class o.class (o ∷ []) ≡ o ∷ []
named_there o e = rw (eq-eqb o.class o.class refl, e) refl

without_name : (n : ℕ) (o : Operation) → is_named o.kind ≡ false → operations_of_class n (o ∷ []) ≡ []
without_name n o e = by (o.class == n) (is_named o.kind) e
  where
    by : (b c : Bool) → c ≡ false → (if b && c then o ∷ [] else []) ++ [] ≡ []
    by true true e = cc
    by true false e = refl
    by false c e = refl

pub named_in : (table : Table) (o : Operation) → is_named o.kind ≡ true → NumberedIn table o.class (o ∷ []) (just_operation o) [] []
named_in table o e = record {
  numbers = refl;
  others = λ n d a. of_another n o d;
  those = λ a. named_there o e;
  owned = λ f s r a. tt;
}

pub nameless_in : (table : Table) (o : Operation) → is_named o.kind ≡ false → NumberedIn table o.class [] (just_operation o) [] []
nameless_in table o e = record {
  numbers = refl;
  others = λ n d a. without_name n o e;
  those = λ a. without_name o.class o e;
  owned = λ f s r a. tt;
}

pub in_within : {table : Table} {class : ℕ} {os : List Operation} {m : Made} {ts : List DeclaredType} {fs gs : List StaticFault} →
    (gs ≡ [] → fs ≡ []) → NumberedIn table class os m ts fs → NumberedIn table class os m ts gs
in_within w h = record { numbers = h.numbers; others = h.others; those = h.those; owned = λ e s r a. h.owned (w e) s r a }
