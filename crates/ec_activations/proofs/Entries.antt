-- The stop at a place of the code is found among the entries.
use Rattle.std.proofs.Common.{◌≡◌, ◌≢◌, ℕ, zero, suc, ◌+◌, ◌==◌, Bool, true, false, List, [], ◌∷◌, Option, Some, None, refl, sym, ap}
use Rattle.std.proofs.Common.{◌∙◌, subst}
use Rattle.std.proofs.Common.{arith, eqb-true}
use Rattle.std.specs.Prelude.{if◌then◌else◌, slice_get}
use Rattle.std.proofs.lemmas.Option.{same_Some}
use Rattle.ec_activations.specs.Frames.{Numbered, at_place, entries_if, stop_of}
use Rattle.ec_code.specs.Activations.{operation_at}
use Rattle.ec_code.specs.Typing.{Declared}
use Rattle.ec_code.specs.declared.activation.CodeActivation.{CodeActivation}
use Rattle.ec_code.specs.declared.code.Line.{Line}
use Rattle.ec_code.specs.declared.code.Op.{Op}
use Rattle.ec_code.specs.declared.code.Op.TheVariants.{Rest}
use Rattle.ec_code.specs.declared.code.Parts.{Parts}
use Rattle.ec_code.specs.declared.code.StopRow.{StopRow}
use Rattle.ec_machine_code.specs.Stops as stops
use Rattle.ec_activations.specs.RestingLaws.{EachRestsAtAnEntry, its_entry}
use Rattle.ec_code.specs.Sound.{RestsAt}
use Rattle.ec_generate.specs.Entries.{entries_from, entries_of, entry_of, with_entry}
use Rattle.ec_world.specs.declared.object.ObjectRec.{ObjectRec}

is_itself : (n : ℕ) → (n == n) ≡ true
is_itself n = grind arith

is_another : (m n : ℕ) → m ≢ n → (m == n) ≡ false
is_another m n h = grind arith

module _ (code : List Line) (line : Line) (row : StopRow) where
  -- found from a place on, by some number
  record Found (n place : ℕ) (lines : List Line) (q : ℕ) : Type 0 where
    number : ℕ
    is : at_place place n (entries_from code q lines) ≡ Some (record { number = number; entry = entry_of code place line row })

  skip : (n place q : ℕ) (first : Line) (rest : List Line) (r : Option StopRow) → stops.stop_of first.op ≡ r → q ≢ place →
      ((m : ℕ) → Found m place rest (suc q)) → Found n place (first ∷ rest) q
  skip n place q first rest None e ne more =
      let f = more n in
      record { number = f.number; is = ap (λ x. at_place place n (with_entry code q first x (entries_from code (suc q) rest))) e ∙ f.is }
  skip n place q first rest (Some x) e ne more =
      let f = more (suc n) in
      record {
        number = f.number;
        is = ap (λ y. at_place place n (with_entry code q first y (entries_from code (suc q) rest))) e
            ∙ ap (λ (b : Bool). if b then Some (record { number = n; entry = entry_of code q first x })
            else at_place place (suc n) (entries_from code (suc q) rest)) (is_another q place ne)
            ∙ f.is;
      }

  found : (i n q : ℕ) (lines : List Line) → slice_get lines i ≡ Some line → line.op ≡ Rest row → Found n (q + i) lines q
  found i n q [] e r = absurd cc
  found zero n q (first ∷ rest) e r =
      let same : first ≡ line = same_Some first line e in
      let stop : stops.stop_of first.op ≡ Some row = ap (λ (l : Line). stops.stop_of l.op) same ∙ ap stops.stop_of r in
      let here : q + 0 ≡ q = omega arith in
      record {
        number = n;
        is = ap (λ x. at_place (q + 0) n (with_entry code q first x (entries_from code (suc q) rest))) stop
            ∙ ap (λ (b : Bool). if b then Some (record { number = n; entry = entry_of code q first row })
            else at_place (q + 0) (suc n) (entries_from code (suc q) rest)) (ap (λ x. q == x) here ∙ is_itself q)
            ∙ ap (λ (l : Line). Some (record { number = n; entry = entry_of code q l row })) same
            ∙ ap (λ x. Some (record { number = n; entry = entry_of code x line row })) (sym here);
      }
  found (suc i) n q (first ∷ rest) e r =
      let next : suc q + i ≡ q + suc i = omega arith in
      skip n (q + suc i) q first rest (stops.stop_of first.op) refl (let l = next in omega arith)
      (λ m. subst (λ x. Found m x rest (suc q)) next (found i m (suc q) rest e r))

pub rests_at_an_entry : (d : Declared) (p : Parts) (objects : List ObjectRec) (a : CodeActivation) (r : RestsAt d p objects a) →
    (n : ℕ) × (stop_of p a ≡ Some (record { number = n; entry = its_entry d p objects a r }))
rests_at_an_entry d p objects a r =
    let f = found r.of.code r.line r.row a.at 0 0 r.of.code r.is_line r.is_row in
    let at : 0 + a.at ≡ a.at = omega arith in (
      f.number,
      ap (λ o. at_place a.at 0 (entries_if o)) r.is_operation
          ∙ subst (λ x. at_place x 0 (entries_of r.of.code) ≡ Some
          (record { number = f.number; entry = entry_of r.of.code x r.line r.row })) at f.is,
    )
