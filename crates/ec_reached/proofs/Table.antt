-- Which stop asks for what.
use Rattle.std.proofs.Common.{◌≡◌, ◌∙◌, ℕ, Bool, true, false, List, ◌∷◌, Option, Some, None, refl, sym, ap, arith}
use Rattle.std.specs.Prelude.{◌&&◌, nat_lt, IsSome, if◌then◌else◌}
use Rattle.ec_world.specs.declared.class.ClassNo.{ClassNo}
use Rattle.ec_world.specs.declared.class.ClassRec.{ClassRec}
use Rattle.ec_world.specs.declared.doing.Doing.{Doing}
use Rattle.ec_world.specs.declared.doing.Doing.TheVariants.{Makes, Invokes, Returns, Enters, Waits, Signals, Finishes}
use Rattle.ec_world.specs.declared.stop.Stop.{Stop}
use Rattle.ec_world.specs.declared.stop.Stop.TheVariants as stop
use Rattle.ec_world.specs.declared.stop.Who.{Who}
use Rattle.ec_world.specs.declared.value.Value.{Value}
use Rattle.ec_world.specs.declared.value.Value.TheVariants.{Ref}
use Rattle.ec_world.specs.Doings.{doing_of, is_inside, conditions_of, section_in, new_asks, condition_asks}
use Rattle.ec_world.specs.Objects.{operation_in}
use Rattle.ec_world.specs.Sights.{Sight, class_if, class_record}

known : (class : ClassNo) (vs given : List Value) (k : Option ClassRec) → new_asks class vs k ≡ Some (Makes class given) → IsSome k
known class vs given None e = absurd cc
known class vs given (Some k) e = refl

pub both_true : (a b : Bool) → (a && b) ≡ true → (a ≡ true) × (b ≡ true)
both_true true b e = (refl, e)
both_true false b e = absurd cc

tested : (b : Bool) (act asked : Doing) → (if b then Some act else None) ≡ Some asked → b ≡ true
tested true act asked e = refl
tested false act asked e = absurd cc

-- a condition is one of the own object, in whose monitor the operation runs
in_conditions : (s : Sight) (who : Who) (condition : ℕ) (act asked : Doing) → condition_asks s who condition act ≡ Some asked →
    (is_inside s who ≡ true) × (nat_lt condition (conditions_of (class_record s who.own)) ≡ true)
in_conditions s who condition act asked e =
    both_true (is_inside s who) (nat_lt condition (conditions_of (class_record s who.own)))
    (tested (is_inside s who && nat_lt condition (conditions_of (class_record s who.own))) act asked e)

module _ (s : Sight) (who : Who) (it : Stop) (vs : List Value) where
  pub invokes : (op own : ℕ) (args : List Value) → doing_of s who it vs ≡ Some (Invokes op own args) →
      (name : ℕ) × ((line : ℕ) × (it ≡ stop.Invoke name line))
  invokes op own args e = grind arith

  pub receives : (op own : ℕ) (args : List Value) → doing_of s who it vs ≡ Some (Invokes op own args) → vs ≡ Ref own ∷ args
  receives op own args e = grind arith

  pub names : (op own name line : ℕ) (args : List Value) → doing_of s who it vs ≡ Some (Invokes op own args) → it ≡ stop.Invoke name line →
      operation_in (class_record s own) name ≡ Some op
  names op own name line args e f = grind arith

  pub makes : (class : ClassNo) (given : List Value) → doing_of s who it vs ≡ Some (Makes class given) → it ≡ stop.New class
  makes class given e = grind arith

  pub makes_known : (class : ClassNo) (given : List Value) → doing_of s who it vs ≡ Some (Makes class given) →
      IsSome (class_if s.classes (Some class))
  makes_known class given e =
      known class vs given (class_if s.classes (Some class)) (sym (ap (λ t. doing_of s who t vs) (makes class given e)) ∙ e)

  pub returns : (given : Option Value) (inside : Bool) (section : Option ℕ) → doing_of s who it vs ≡ Some (Returns given inside section) →
      (gives_self : Bool) × (it ≡ stop.Return gives_self)
  returns given inside section e = grind arith

  pub returns_inside : (given : Option Value) (inside : Bool) (section : Option ℕ) →
      doing_of s who it vs ≡ Some (Returns given inside section) → inside ≡ is_inside s who
  returns_inside given inside section e = grind arith

  pub returns_section : (given : Option Value) (inside : Bool) (op : ℕ) →
      doing_of s who it vs ≡ Some (Returns given inside (Some op)) → section_in (class_record s who.own) ≡ Some op
  returns_section given inside op e = grind arith

  pub enters : doing_of s who it vs ≡ Some Enters → (it ≡ stop.Entry) × (is_inside s who ≡ true)
  enters e = grind arith

  at_wait : (condition : ℕ) → doing_of s who it vs ≡ Some (Waits condition) → it ≡ stop.Wait condition
  at_wait condition e = grind arith

  pub waits : (condition : ℕ) → doing_of s who it vs ≡ Some (Waits condition) →
      (it ≡ stop.Wait condition) × (is_inside s who ≡ true) × (nat_lt condition (conditions_of (class_record s who.own)) ≡ true)
  waits condition e =
      let at = at_wait condition e in
      let own = in_conditions s who condition (Waits condition) (Waits condition) (sym (ap (λ t. doing_of s who t vs) at) ∙ e) in
      (at, own.0, own.1)

  at_signal : (condition : ℕ) → doing_of s who it vs ≡ Some (Signals condition) → it ≡ stop.Signal condition
  at_signal condition e = grind arith

  pub signals : (condition : ℕ) → doing_of s who it vs ≡ Some (Signals condition) →
      (it ≡ stop.Signal condition) × (is_inside s who ≡ true) × (nat_lt condition (conditions_of (class_record s who.own)) ≡ true)
  signals condition e =
      let at = at_signal condition e in
      let own = in_conditions s who condition (Signals condition) (Signals condition) (sym (ap (λ t. doing_of s who t vs) at) ∙ e) in
      (at, own.0, own.1)

  pub finishes : doing_of s who it vs ≡ Some Finishes → it ≡ stop.End
  finishes e = grind arith
