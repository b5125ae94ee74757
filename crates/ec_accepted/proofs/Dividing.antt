-- Where steps lead to divisions doesn't depend on what is live.
use Rattle.std.proofs.Common.{◌≡◌, ℕ, zero, suc, not, List, [], ◌∷◌, None, refl, sym, ap, ◌∙◌, subst}
use Rattle.ec_code.specs.declared.code.Line.{Line}
use Rattle.ec_code.specs.declared.code.Op.{Op}
use Rattle.ec_code.specs.declared.code.Op.TheVariants as op
use Rattle.ec_code.specs.declared.code.Operation.{Operation}
use Rattle.ec_code.specs.declared.code.Parts.{Parts}
use Rattle.ec_code.specs.Fine.{divisor_at, divisor_of, EachLeadsOn, LeadsOn, Tells}
use Rattle.ec_code.specs.Typing.{Declared}
use Rattle.ec_accepted.proofs.Narrowed.{AllNarrowed}
use Rattle.ec_accepted.proofs.Restricting.{behind_more}

same_divisor : (code : List Op) (q : ℕ) (ws ns : List Line) → AllNarrowed code q ws ns → (k : ℕ) →
    divisor_at ns k ≡ divisor_at ws k
same_divisor code q [] [] a k = refl
same_divisor code q [] (n ∷ ns) a k = absurd a
same_divisor code q (w ∷ ws) [] a k = absurd a
same_divisor code q (w ∷ ws) (n ∷ ns) a zero = ap divisor_of a.0.same
same_divisor code q (w ∷ ws) (n ∷ ns) a (suc k) = same_divisor code (suc q) ws ns a.1 k

module _ (d : Declared) (p : Parts) (number : ℕ) (o : Operation) where
  one_leads :
      (ws ns : List Line) → ((k : ℕ) → divisor_at ns k ≡ divisor_at ws k) → (step : Op) → LeadsOn d p number o ws step →
      LeadsOn d p number o ns step
  one_leads ws ns same (op.Branch t wanted over) h =
      (subst (Tells t (not wanted)) (sym (same 0)) h.0, subst (Tells t wanted) (sym (same over)) h.1)
  one_leads ws ns same (op.Jump over) h = same over ∙ h
  one_leads ws ns same (op.Again back) h = tt
  one_leads ws ns same (op.Rest row) h =
      behind_more d p number o row.stop (divisor_at ws 0 ≡ None) (divisor_at ns 0 ≡ None) (λ e g. same 0 ∙ g) h
  one_leads ws ns same step h = same 0 ∙ h

  each_leads : (code : List Op) (q : ℕ) (ws ns : List Line) → AllNarrowed code q ws ns → EachLeadsOn d p number o ws →
      EachLeadsOn d p number o ns
  each_leads code q [] [] a h = tt
  each_leads code q [] (n ∷ ns) a h = absurd a
  each_leads code q (w ∷ ws) [] a h = absurd a
  each_leads code q (w ∷ ws) (n ∷ ns) a h = (
    subst (LeadsOn d p number o ns) (sym a.0.same) (one_leads ws ns (same_divisor code (suc q) ws ns a.1) w.op h.0),
    each_leads code (suc q) ws ns a.1 h.1,
  )

  pub lead_on :
      (code : List Op) (ws ns : List Line) → AllNarrowed code 0 ws ns → EachLeadsOn d p number o ws →
      EachLeadsOn d p number o ns
  lead_on code ws ns a h = each_leads code 0 ws ns a h
