-- With which operations the objects of a class begin: one that makes them, and a process section where there is one.
use Rattle.std.proofs.Common.{◌≡◌, ℕ, zero, suc, ◌+◌, ◌==◌, ◌&&◌, Bool, true, false, if◌then◌else◌, List, [], ◌∷◌, Option}
use Rattle.std.proofs.Common.{Some, None}
use Rattle.std.proofs.Common.{refl, sym, ◌∙◌, subst, arith}
use Rattle.std.proofs.lemmas.Bool.{eqb-true}
use Rattle.std.specs.Prelude.{slice_get, IfSome}
use Rattle.ec_core.specs.declared.Kind.{Kind}
use Rattle.ec_core.specs.declared.Kind.TheVariants as kind
use Rattle.ec_core.specs.declared.Operation.{Operation}
use Rattle.ec_core_laws.specs.Beginnings as begins
use Rattle.ec_core_laws.specs.Beginnings.{count_of_class}
use Rattle.ec_accepted.proofs.Finding.{no_some, same_some}
use Rattle.ec_meaning.specs.Programs.{initial_from, section_from, is_initial, is_section}

-- an operation of a class and of a kind, at a place
pub record Stands (os : List Operation) (class : ℕ) (k : Kind) (i : ℕ) : Type 0 where
  pub operation : Operation
  pub is : slice_get os i ≡ Some operation
  pub of_class : operation.class ≡ class
  pub of_kind : operation.kind ≡ k

abbrev StandsFrom : List Operation → ℕ → ℕ → Kind → ℕ → Type 0
StandsFrom os n class k number = (i : ℕ) × (number ≡ n + i) × Stands os class k i

one_more : (os : List Operation) (o : Operation) (n class number : ℕ) (k : Kind) → StandsFrom os (suc n) class k number →
    StandsFrom (o ∷ os) n class k number
one_more os o n class number k f =
    let at : suc n + f.0 ≡ n + suc f.0 = omega arith in
    (suc f.0, f.1 ∙ at, record { operation = f.2.operation; is = f.2.is; of_class = f.2.of_class; of_kind = f.2.of_kind })

here : (os : List Operation) (o : Operation) (n class : ℕ) (k : Kind) → o.kind ≡ k → (o.class == class) ≡ true →
    StandsFrom (o ∷ os) n class k n
here os o n class k e f =
    let at : n ≡ n + 0 = omega arith in
    (0, at, record { operation = o; is = refl; of_class = eqb-true o.class class f; of_kind = e })

-- ---- the making of an object

abbrev one_if : Bool → ℕ
one_if b = if b then 1 else 0

none_counted : (n : ℕ) → 0 + n ≡ 1 → n ≡ 1
none_counted n e = omega arith

further : (os : List Operation) (o : Operation) (n class : ℕ) →
    StandsFrom os (suc n) class kind.Initial (initial_from (suc n) os class) →
    StandsFrom (o ∷ os) n class kind.Initial (initial_from (suc n) os class)
further os o n class f = one_more os o n class (initial_from (suc n) os class) kind.Initial f

initial_here :
    (os : List Operation) (o : Operation) (n class : ℕ) (k : Kind) (b : Bool) → o.kind ≡ k → (o.class == class) ≡ b →
    one_if (begins.is_initial k && b) + count_of_class begins.is_initial class os ≡ 1 →
    (count_of_class begins.is_initial class os ≡ 1 → StandsFrom os (suc n) class kind.Initial (initial_from (suc n) os
    class)) →
    StandsFrom (o ∷ os) n class kind.Initial (if b && is_initial k then n else initial_from (suc n) os class)
initial_here os o n class kind.Initial true e f h later = here os o n class kind.Initial e f
initial_here os o n class kind.Initial false e f h later = further os o n class (later (none_counted (count_of_class
    begins.is_initial class os) h))
initial_here os o n class kind.Named true e f h later = further os o n class (later (none_counted (count_of_class
    begins.is_initial class os) h))
initial_here os o n class kind.Named false e f h later = further os o n class (later (none_counted (count_of_class
    begins.is_initial class os) h))
initial_here os o n class kind.Process true e f h later = further os o n class (later (none_counted (count_of_class
    begins.is_initial class os) h))
initial_here os o n class kind.Process false e f h later = further os o n class (later (none_counted (count_of_class
    begins.is_initial class os) h))

pub initial_stands : (os : List Operation) (n class : ℕ) → count_of_class begins.is_initial class os ≡ 1 →
    StandsFrom os n class kind.Initial (initial_from n os class)
initial_stands [] n class h = none_there zero h
  where
    none_there : {A : Type 0} → (x : ℕ) → x ≡ suc x → A
    none_there x e = absurd (omega arith)
initial_stands (o ∷ os) n class h =
    initial_here os o n class o.kind (o.class == class) refl refl h (λ e. initial_stands os (suc n) class e)

-- ---- a process section

section_here :
    (os : List Operation) (o : Operation) (n class number : ℕ) (k : Kind) (b : Bool) → o.kind ≡ k → (o.class == class) ≡ b →
    (if b && is_section k then Some n else section_from (suc n) os class) ≡ Some number →
    (section_from (suc n) os class ≡ Some number → StandsFrom os (suc n) class kind.Process number) →
    StandsFrom (o ∷ os) n class kind.Process number
section_here os o n class number kind.Process true e f h later =
    let found : StandsFrom (o ∷ os) n class kind.Process n = here os o n class kind.Process e f in
    (found.0, sym (same_some n number h) ∙ found.1, found.2)
section_here os o n class number kind.Process false e f h later = one_more os o n class number kind.Process (later h)
section_here os o n class number kind.Named true e f h later = one_more os o n class number kind.Process (later h)
section_here os o n class number kind.Named false e f h later = one_more os o n class number kind.Process (later h)
section_here os o n class number kind.Initial true e f h later = one_more os o n class number kind.Process (later h)
section_here os o n class number kind.Initial false e f h later = one_more os o n class number kind.Process (later h)

pub section_stands : (os : List Operation) (n class number : ℕ) → section_from n os class ≡ Some number →
    StandsFrom os n class kind.Process number
section_stands [] n class number h = no_some number h
section_stands (o ∷ os) n class number h =
    section_here os o n class number o.kind (o.class == class) refl refl h (λ e. section_stands os (suc n) class number e)

if_some : (x : Option ℕ) (P : ℕ → Type 0) → ((n : ℕ) → x ≡ Some n → P n) → IfSome x P
if_some None P f = tt
if_some (Some n) P f = f n refl

pub each_section : (os : List Operation) (n class : ℕ) (P : ℕ → Type 0) →
    ((i : ℕ) → Stands os class kind.Process i → P (n + i)) → IfSome (section_from n os class) P
each_section os n class P f =
    if_some (section_from n os class) P
    (λ number e.
    let at = section_stands os n class number e in
    subst P (sym at.1) (f at.0 at.2))
