-- What the typing of three-address code says of the step at a place.
use Rattle.std.proofs.Common.{◌≡◌, ℕ, zero, suc, ◌+◌, List, [], ◌∷◌, drop, Some, subst, arith}
use Rattle.std.specs.Prelude.{slice_get}
use Rattle.std.proofs.lemmas.Option.{same_Some}
use Rattle.ec_code.specs.Fine.{FineCode, FineOp, FineOperation}
use Rattle.ec_code.specs.Typing.{Declared}
use Rattle.ec_code.specs.declared.code.Line.{Line}
use Rattle.ec_code.specs.declared.code.Operation.{Operation}
use Rattle.ec_code.specs.declared.code.Parts.{Parts}

module _ (d : Declared) (p : Parts) (number : ℕ) (o : Operation) where
  fine_from :
      (code : List Line) (first q : ℕ) (line : Line) → FineCode d p number o first code → slice_get code q ≡ Some line →
      FineOp d p number o (first + q) (drop (suc q) code) line.live line.op
  fine_from [] first q line fine e = absurd cc
  fine_from (l ∷ rest) first zero line fine e =
      let same : l ≡ line = same_Some l line e in
      let none : first ≡ first + 0 = omega arith in
      subst (λ n. FineOp d p number o n rest line.live line.op) none
      (subst (λ x. FineOp d p number o first rest x.live x.op) same fine.0)
  fine_from (l ∷ rest) first (suc q) line fine e =
      let next : suc first + q ≡ first + suc q = omega arith in
      subst (λ n. FineOp d p number o n (drop (suc q) rest) line.live line.op) next (fine_from rest (suc first) q line fine.1 e)

  pub fine_at :
      (q : ℕ) (line : Line) → FineOperation d p number o → slice_get o.code q ≡ Some line →
      FineOp d p number o q (drop (suc q) o.code) line.live line.op
  fine_at q line fine e =
      let none : 0 + q ≡ q = omega arith in
      subst (λ n. FineOp d p number o n (drop (suc q) o.code) line.live line.op) none (fine_from o.code 0 q line fine.code e)
