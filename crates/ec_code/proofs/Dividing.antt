-- The program that divides is well typed.
use Rattle.std.proofs.Common.{◌≡◌, ◌≢◌, ℕ, zero, suc, ◌<◌, ◌⊎◌, inl, inr, List, [], ◌∷◌, Some, refl, sym, ap}
use Rattle.std.proofs.Common.{subst, arith, pos}
use Rattle.std.proofs.lemmas.List.Elements.{All-nil}
use Rattle.std.specs.Prelude.{drop, slice_get}
use Rattle.ec_code.specs.declared.code.Live.{Live}
use Rattle.ec_code.specs.declared.code.Operand.TheVariants as operand
use Rattle.ec_code.specs.declared.code.Operation.{Operation}
use Rattle.ec_code.specs.declared.code.StopRow.{StopRow}
use Rattle.ec_code.specs.declared.code.Variable.{Variable}
use Rattle.ec_code.specs.declared.code.Variable.TheVariants.{Named, Temporary}
use Rattle.ec_code.specs.Fine.{Fine, FineCode, FineNumbers, FineOperation, FineRow, Has, IsGiven, live_at}
use Rattle.ec_code.specs.Typing.{integer, string}
use Rattle.ec_types.specs.declared.conform.named_type.NamedType.{NamedType}
use Rattle.ec_types.specs.declared.conform.static_type.StaticType.{StaticType}
use Rattle.ec_types.specs.Fits.{Fits}
use Rattle.ec_types.specs.Known.{IsOperationOfProgram}
use Rattle.std.specs.List.{All}
use Rattle.ec_world.specs.declared.process.Cause.TheVariants as cause
use Rattle.ec_world.specs.declared.stop.Stop.TheVariants as stop
use Rattle.ec_code.specs.Example.{dividing, lines, main_operation, nothing_declared, number_held, number_named, row, text_held, text_row}
use Rattle.ec_code.proofs.Typed.{fit_at_once}

numbers_fit : Fits [] integer integer
numbers_fit = fit_at_once [] integer integer tt tt refl

texts_fit : Fits [] string string
texts_fit = fit_at_once [] string string tt tt refl

-- what alone is live is what was written
written : (to x : Variable) (s t : StaticType) (live : List Live) → Fits [] s s
    → Has (record { variable = to; of = s } ∷ []) x t → ((x ≡ to) × Fits [] s t) ⊎ ((x ≢ to) × Has live x t)
written to x s t live f (inl e) =
    let same : t ≡ s = ap (λ (l : Live). l.of) e in
    inl (ap (λ (l : Live). l.variable) e, subst (λ z. Fits [] s z) (sym same) f)
written to x s t live f (inr e) = absurd e

numbers : FineNumbers nothing_declared dividing (number_held ∷ []) (operand.Of (Temporary 0)) (operand.Number (pos 2))
numbers = ((integer, inl refl, numbers_fit), numbers_fit)

named_there : (place n : ℕ) (t : StaticType) → Has (live_at lines place) (Named n) t → n < 1
named_there zero n t h = absurd h
named_there (suc zero) n t h = absurd h
named_there (suc (suc zero)) n t (inl e) = let f : Named n ≡ Temporary 0 = ap (λ (l : Live). l.variable) e in cc
named_there (suc (suc zero)) n t (inr e) = absurd e
named_there (suc (suc (suc zero))) n t h = absurd h
named_there (suc (suc (suc (suc zero)))) n t (inl e) = let f : Named n ≡ Temporary 0 = ap (λ (l : Live). l.variable) e in cc
named_there (suc (suc (suc (suc zero)))) n t (inr e) = absurd e
named_there (suc (suc (suc (suc (suc zero))))) n t (inl e) =
    let same : n ≡ 0 = (let f = ap (λ (l : Live). l.variable) e in cc) in omega arith
named_there (suc (suc (suc (suc (suc zero))))) n t (inr e) = absurd e
named_there (suc (suc (suc (suc (suc (suc zero)))))) n t (inl e) = let f : Named n ≡ Temporary 0 = ap (λ (l : Live). l.variable) e in cc
named_there (suc (suc (suc (suc (suc (suc zero)))))) n t (inr e) = absurd e
named_there (suc (suc (suc (suc (suc (suc (suc zero))))))) n t h = absurd h
named_there (suc (suc (suc (suc (suc (suc (suc (suc place)))))))) n t h = absurd h

abbrev FineHere : ℕ → List Live → StopRow → Type 0
FineHere place live r = FineRow nothing_declared dividing 0 main_operation (drop (suc place) lines) live r

entry_fine : FineHere 0 [] (row stop.Entry [])
entry_fine = record { types = []; are = tt; stop = (tt, refl); behind = (tt, (omega arith, λ x t h. absurd h)) }

failing_fine : FineHere 3 [] (row (stop.Fail cause.ZeroDivisor 1) [])
failing_fine = record { types = []; are = tt; stop = tt; behind = tt }

text_fine : FineHere 5 (number_named ∷ []) text_row
text_fine = record {
  types = integer ∷ [];
  are = (inl refl, tt);
  stop = (inl (numbers_fit, tt), refl);
  behind = (tt, (omega arith, λ x t h. given x t h));
}
  where
    given : (x : Variable) (t : StaticType) → Has (text_held ∷ []) x t
        → IsGiven nothing_declared dividing (Some string) (Some (Temporary 0)) x t
        ⊎ ((Some (Temporary 0) ≢ Some x) × Has (number_named ∷ []) x t)
    given x t (inl e) =
        let same : t ≡ string = ap (λ (l : Live). l.of) e in
        inl (string, refl, ap (λ (l : Live). Some l.variable) (sym e), subst (λ z. Fits [] string z) (sym same) texts_fit)
    given x t (inr e) = absurd e

print_fine : FineHere 6 (text_held ∷ []) (row stop.Print (Temporary 0 ∷ []))
print_fine = record {
  types = string ∷ [];
  are = (inl refl, tt);
  stop = ((texts_fit, tt), refl);
  behind = (tt, (omega arith, λ x t h. absurd h));
}

end_fine : FineHere 7 [] (row stop.End [])
end_fine = record { types = []; are = tt; stop = tt; behind = tt }

code_fine : FineCode nothing_declared dividing 0 main_operation 0 lines
code_fine = (
  entry_fine,
  (
    (integer, numbers_fit, (omega arith, λ x t h. written (Temporary 0) x integer t [] numbers_fit h)),
    (
      (numbers, (omega arith, λ x t h. absurd h), (omega arith, λ x t h. h)),
      (
        failing_fine,
        (
          (numbers, (omega arith, λ x t h. written (Named 0) x integer t (number_held ∷ []) numbers_fit h)),
          (text_fine, (print_fine, (end_fine, tt))),
        ),
      ),
    ),
  ),
)

main_fine : FineOperation nothing_declared dividing 0 main_operation
main_fine = record {
  code = code_fine;
  divisions = (refl, (refl, ((tt, refl), (tt, (refl, (refl, (refl, (tt, tt))))))));
  named = named_there;
  entry = record {
    line = _;
    is = refl;
    row = _;
    rests = refl;
    stop = refl;
    on_itself = refl;
    operands = refl;
    into = refl;
    live = λ x t h. absurd h;
  };
  parameters = omega arith;
}

operations : (n : ℕ) (o : Operation) → slice_get dividing.operations n ≡ Some o → FineOperation nothing_declared dividing n o
operations zero o e =
    let same : main_operation ≡ o = cc in
    subst (λ z. FineOperation nothing_declared dividing 0 z) same main_fine
operations (suc n) o e = cc

pub dividing_fine : Fine nothing_declared dividing
dividing_fine = record {
  begins = record { operation = main_operation; is = refl; of = refl; lowest = refl; parameters = refl };
  few = omega arith;
  known = All-nil (λ (t : NamedType). All (IsOperationOfProgram []) t.operations);
  operations = operations;
  classes = λ k t e. cc;
  declared = λ k c e. cc;
  constants = λ i t e. cc;
}
