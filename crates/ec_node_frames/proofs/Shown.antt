-- What a node that shows an activation has in its frame.
use Rattle.std.proofs.Common.{◌≡◌, ℕ, ◌<◌, ◌==◌, Bool, true, false, List, Some, refl, sym, ap, ◌∙◌, subst, arith}
use Rattle.std.specs.Prelude.{if◌then◌else◌, IsSome, slice_get}
use Rattle.std.proofs.lemmas.Option.{same_Some}
use Rattle.ec_activations.specs.Frames.{frame_thing, headings, number_if, stop_of}
use Rattle.ec_code.specs.declared.activation.CodeActivation.{CodeActivation}
use Rattle.ec_code.specs.declared.code.Parts.{Parts}
use Rattle.ec_machine_code.specs.declared.homes.Home.{Home}
use Rattle.ec_node_frames.specs.Frames.{AreHeadings, IsFrame}
use Rattle.ec_world.specs.declared.key.Key.TheVariants.{Frame}
use Rattle.ec_stores.specs.Changes.{OwnsWord, WordIs}
use Rattle.ec_things.specs.Store.{Owned, Store, word_of}
use Rattle.ec_things.specs.Things.{Shown}
use Rattle.ec_world.specs.declared.node.Kind.{Kind}

pub owns_word : (s : Store) (process depth i : ℕ) → IsFrame s process depth → i < 128 → OwnsWord s (Frame process depth) i
owns_word s process depth i here low = record {
  row = here.row;
  there = here.there;
  within = (let one = here.one in omega (arith, one, low));
}

pub is_here : (s : Store) (process depth : ℕ) → IsFrame s process depth → IsSome (s.row (Frame process depth))
is_here s process depth here = subst IsSome (sym here.there) refl

-- the same rows, the same frames
pub frame_kept : (s s' : Store) (process depth : ℕ) → s'.row (Frame process depth) ≡ s.row (Frame process depth) →
    IsFrame s process depth → IsFrame s' process depth
frame_kept s s' process depth same here = record { row = here.row; there = same ∙ here.there; one = here.one }

truth_of_word : (b : Bool) (w : ℕ) → w ≡ (if b then 1 else 0) → (w == 1) ≡ b
truth_of_word true w e = ap (λ k. k == 1) e
truth_of_word false w e = ap (λ k. k == 1) e

module _ (s : Store) (p : Parts) (homes : Kind → List (List Home)) (process depth : ℕ) (a : CodeActivation)
    (shown : Shown s (Frame process depth) (frame_thing p homes process depth a)) where
  -- an activation that is shown is there
  pub shown_here : IsFrame s process depth
  shown_here = record { row = shown.row; there = shown.there; one = shown.spells.counted }

  heading_is : (i n w : ℕ) → slice_get (headings p process depth a) i ≡ Some n → WordIs s (Frame process depth) i w → w ≡ n
  heading_is i n w e is =
      let row : is.row ≡ shown.row = same_Some is.row shown.row (sym is.there ∙ shown.there) in
      same_Some w n (sym is.is ∙ ap (λ (r : Owned). word_of s r.blocks i) row ∙ shown.spells.heads i n e)

  pub headings_are : (operation stop pending own : ℕ) → WordIs s (Frame process depth) 2 operation →
      WordIs s (Frame process depth) 3 stop → WordIs s (Frame process depth) 4 pending → WordIs s (Frame process depth) 5 own →
      AreHeadings p a (record { operation = operation; stop = stop; pending = pending == 1; own = own })
  headings_are operation stop pending own first second third fourth = record {
    operation = heading_is 2 a.operation operation refl first;
    stop = heading_is 3 (number_if (stop_of p a)) stop refl second;
    pending = truth_of_word a.pending pending (heading_is 4 (if a.pending then 1 else 0) pending refl third);
    own = heading_is 5 a.own own refl fourth;
  }
