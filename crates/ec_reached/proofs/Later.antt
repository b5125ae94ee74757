-- What processes share keeps its nodes, its classes, and which class each object is of.
use Rattle.std.proofs.Common.{◌≡◌, ◌∙◌, ℕ, true, List, Option, Some, None, refl, sym, ap, subst}
use Rattle.ec_world.specs.declared.class.ClassNo.{ClassNo}
use Rattle.ec_world.specs.declared.class.ClassRec.{ClassRec}
use Rattle.ec_world.specs.declared.common.Common.{Common}
use Rattle.ec_world.specs.declared.object.ObjectRec.{ObjectRec}
use Rattle.ec_world.specs.Doings.{runs_inside}
use Rattle.ec_world.specs.Objects.{object_at, operation_in}
use Rattle.ec_world.specs.Sights.{class_of, class_if}
use Rattle.ec_reached.specs.Stacks.{class_on}

-- each object that is there is of the class that it was
abbrev pub Stays : List ObjectRec → List ObjectRec → Type 0
Stays before after = (o : ℕ) (k : ClassNo) → class_of (object_at before o) ≡ Some k → class_of (object_at after o) ≡ Some k

pub record Later (c d : Common) : Type 0 where
  pub nodes : d.nodes ≡ c.nodes
  pub classes : d.classes ≡ c.classes
  pub objects : Stays c.objects d.objects

pub same_later : (c : Common) → Later c c
same_later c = record { nodes = refl; classes = refl; objects = λ o k e. e }

-- objects are given up after something was done
pub later_then : (c d : Common) (objects : List ObjectRec) → Later c d → Stays d.objects objects → Later c (record d { objects = objects })
later_then c d objects h s = record { nodes = h.nodes; classes = h.classes; objects = λ o k e. s o k (h.objects o k e) }

pub stays_by : (before after : List ObjectRec) → ((o : ℕ) → class_of (object_at after o) ≡ class_of (object_at before o)) → Stays before after
stays_by before after same o k e = same o ∙ e

module _ (c d : Common) (h : Later c d) where
  class_later : (o : ℕ) (t : Option ClassNo) → class_of (object_at c.objects o) ≡ t → (k : ClassRec) → class_if c.classes t ≡ Some k →
      class_on d o ≡ Some k
  class_later o None is k e = absurd cc
  class_later o (Some class) is k e =
      ap (class_if d.classes) (h.objects o class is) ∙ ap (λ ks. class_if ks (Some class)) h.classes ∙ e

  -- the class of an object that is there stays
  pub class_stays : (o : ℕ) (k : ClassRec) → class_on c o ≡ Some k → class_on d o ≡ Some k
  class_stays o k e = class_later o (class_of (object_at c.objects o)) refl k e

  by_case : (f : Option ClassRec → Type 0) → (f None → ⊥) → (o : ℕ) (t : Option ClassRec) → class_on c o ≡ t → f (class_on c o) →
      f (class_on d o)
  by_case f never o None is x = absurd (never (subst f is x))
  by_case f never o (Some k) is x = subst f (is ∙ sym (class_stays o k is)) x

  -- so does what holds of it, and doesn't hold where there is none
  pub by_class : (f : Option ClassRec → Type 0) → (f None → ⊥) → (o : ℕ) → f (class_on c o) → f (class_on d o)
  by_class f never o x = by_case f never o (class_on c o) refl x

  pub named_later : (o name op : ℕ) → operation_in (class_on c o) name ≡ Some op → operation_in (class_on d o) name ≡ Some op
  named_later o name op e = by_class (λ t. operation_in t name ≡ Some op) (λ k. absurd cc) o e

  pub inside_later : (o op : ℕ) → runs_inside (class_on c o) op ≡ true → runs_inside (class_on d o) op ≡ true
  inside_later o op e = by_class (λ t. runs_inside t op ≡ true) (λ k. absurd cc) o e

  -- of an object that is there the class is the one that it was
  pub class_same : (o : ℕ) (k : ClassNo) → class_of (object_at c.objects o) ≡ Some k → class_on d o ≡ class_on c o
  class_same o k is =
      ap (class_if d.classes) (h.objects o k is) ∙ ap (λ ks. class_if ks (Some k)) h.classes ∙ sym (ap (class_if c.classes) is)
