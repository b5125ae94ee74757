-- Whom a release grants.
use Rattle.std.proofs.Common.{◌≡◌, ℕ, List, [], ◌∷◌, Option, Some, None, refl, sym}
use Rattle.ec_base.specs.Stack.{top_of, below_of}
use Rattle.ec_base.proofs.Stacks.{top_of_none}
use Rattle.ec_monitors.specs.declared.record.Hold.{Hold}
use Rattle.ec_monitors.specs.declared.record.MonitorRec.{MonitorRec}
use Rattle.ec_monitors.specs.Monitors.{released}

abbrev seen : Option Hold → List ℕ → List Hold → List (List Hold) → MonitorRec
seen holder entry urgent conditions = record { holder = holder; entry = entry; urgent = urgent; conditions = conditions }

module _ (m : MonitorRec) (holder : Option Hold) (entry : List ℕ) (urgent urgent' : List Hold) (conditions : List (List Hold))
    (is : seen holder entry urgent conditions ≡ m) (top : None ≡ top_of urgent) (below : urgent' ≡ below_of urgent) where
  nobody : urgent ≡ []
  nobody = top_of_none urgent (sym top)

  pub first_granted : (p : ℕ) (ps : List ℕ) → entry ≡ p ∷ ps →
      released m ≡ (seen (Some (record { process = p; depth = 1 })) ps urgent' conditions, Some (record { process = p }))
  first_granted p ps e = rw (← is, below, nobody, e) refl

  pub none_granted : (entry' : List ℕ) → entry ≡ [] → entry' ≡ [] → released m ≡ (seen None entry' urgent' conditions, None)
  none_granted entry' e f = rw (← is, below, nobody, e, f) refl
