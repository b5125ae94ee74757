-- Temporaries, one after another.
use Rattle.std.proofs.Common.{◌≡◌, ℕ, zero, suc, ◌+◌, [], ◌∷◌, ◌++◌, ap, ◌∙◌, arith}
use Rattle.ec_code.specs.declared.code.Variable.TheVariants as variable
use Rattle.ec_emission.specs.Rows.{temporaries}

later : (h k : ℕ) → temporaries h (suc k) ≡ temporaries h k ++ variable.Temporary (h + k) ∷ []
later h zero = let e : h ≡ h + 0 = omega arith in ap (λ n. variable.Temporary n ∷ []) e
later h (suc k) =
    let e : suc h + k ≡ h + suc k = omega arith in
    ap (λ xs. variable.Temporary h ∷ xs) (later (suc h) k ∙ ap (λ n. temporaries (suc h) k ++ variable.Temporary n ∷ []) e)

pub one_more : (h k : ℕ) → temporaries h (k + 1) ≡ temporaries h k ++ variable.Temporary (h + k) ∷ []
one_more h k = let e : k + 1 ≡ suc k = omega arith in ap (temporaries h) e ∙ later h k
