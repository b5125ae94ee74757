-- What holds of the empty text and of each text of a core holds of each literal of its code.
use Rattle.std.proofs.Common.{ℕ, Bool, true, false, if◌then◌else◌, List, [], ◌∷◌, ◌++◌, All}
use Rattle.std.proofs.lemmas.List.Elements.{recursion_from_All}
use Rattle.std.specs.List.{AllByRecursion as Each}
use Rattle.ec_core.specs.Literals.{Texts, texts_of, texts_of_block}
use Rattle.ec_core.specs.declared.Constant.{Constant}
use Rattle.ec_core.specs.declared.Core.{Core}
use Rattle.ec_core.specs.declared.Operation.{Operation}
use Rattle.ec_emission.specs.Expressions.{has_text}
use Rattle.ec_emission.specs.Literals.{literals_of, texts_of_constants, texts_of_operations, with_new}
use Rattle.ec_code.proofs.Carried.{each_append}

module _ (P : List ℕ → Type 0) where
  abbrev Is : Texts → Type 0
  Is = Each P

  constants_are : (cs : List Constant) → Each (λ (c : Constant). All P (texts_of c.value)) cs → Is (texts_of_constants cs)
  constants_are [] h = tt
  constants_are (c ∷ cs) h =
      each_append P (texts_of c.value) (texts_of_constants cs)
      (recursion_from_All P (texts_of c.value) h.0) (constants_are cs h.1)

  operations_are : (os : List Operation) → Each (λ (o : Operation). All P (texts_of_block o.block)) os
      → Is (texts_of_operations os)
  operations_are [] h = tt
  operations_are (o ∷ os) h =
      each_append P (texts_of_block o.block) (texts_of_operations os)
      (recursion_from_All P (texts_of_block o.block) h.0) (operations_are os h.1)

  grown_is : (there : Texts) (t : List ℕ) (b : Bool) → Is there → P t → Is (if b then there else there ++ t ∷ [])
  grown_is there t true h k = h
  grown_is there t false h k = each_append P there (t ∷ []) h (k, tt)

  with_new_are : (there ts : Texts) → Is there → Is ts → Is (with_new there ts)
  with_new_are there [] h k = h
  with_new_are there (t ∷ ts) h k =
      with_new_are (if has_text there t then there else there ++ t ∷ []) ts (grown_is there t (has_text there t) h k.0) k.1

  -- what holds of the empty text and of each text of a core
  pub literals_are : (c : Core) → P [] → All (λ (o : Operation). All P (texts_of_block o.block)) c.operations
      → All (λ (x : Constant). All P (texts_of x.value)) c.constants → Is (literals_of c)
  literals_are c e os cs =
      let constants : Texts = texts_of_constants c.constants in
      let operations : Texts = texts_of_operations c.operations in
      with_new_are ([] ∷ []) (constants ++ operations) (e, tt)
      (each_append P constants operations
      (constants_are c.constants (recursion_from_All (λ (x : Constant). All P (texts_of x.value)) c.constants cs))
      (operations_are c.operations (recursion_from_All (λ (o : Operation). All P (texts_of_block o.block)) c.operations os)))
