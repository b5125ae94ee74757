use Rattle.std.proofs.Common.{◌≡◌, ◌≤◌, ℕ, suc, Bool, Some, List, length, ap, ◌∙◌, subst}
use Rattle.std.specs.Prelude.{slice_get}
use Rattle.mips_delay.specs.Choice.{set_at}
use Rattle.mips_delay.specs.Places.{place}
use Rattle.mips_delay.proofs.moves.Moves.of.Goals as goal

pub invariant_of-result : goal.invariant_of-result
invariant_of-result c =
    let same = c.as_slice.ensures.value in
    let places = c.in_ok-places.places.items in
    record {
      few = c.requires.few;
      long = c.in_ok-places.ensures.long ∙ ap (λ (l : List Bool). suc (length l)) same;
      each = subst (λ (l : List Bool). (i : ℕ) → i ≤ length l → slice_get places i ≡ Some (place (set_at l) i)) same
          c.in_ok-places.ensures.each;
      within = c.requires.within;
    }
