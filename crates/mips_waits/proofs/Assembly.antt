-- What is written word by word and operation by operation is the code without its needless no-ops; and what is promised of it.
use Rattle.std.proofs.Common.{◌≡◌, ℕ, ◌<◌, ◌≤◌, Bool, true, false, List, length, map, Some, sym, ◌∙◌, subst, arith}
use Rattle.std.proofs.lemmas.Option.{same_Some}
use Rattle.std.specs.Prelude.{slice_get, slice_index}
use Rattle.ec_machine_code.specs.Speaks.{words_end}
use Rattle.ec_machine_code.specs.Stops.{stops_if, words_before}
use Rattle.ec_machine_code.specs.declared.code.Code.{Code}
use Rattle.ec_target.proofs.Places.{word_at-pc_of}
use Rattle.ec_target.specs.Code.{pc_of, word_at}
use Rattle.mips_delay.proofs.Assembly.{moved_so}
use Rattle.mips_delay.proofs.Fits.{moved_fits}
use Rattle.mips_delay.proofs.Kept.{place_small}
use Rattle.mips_delay.proofs.Order.{place_less}
use Rattle.mips_delay.proofs.Standing.{low_of}
use Rattle.mips_delay.specs.Fill.{KeepsFaithful, TakesNoMoreSteps}
use Rattle.mips_delay.specs.Fillable.{HasNoLinks}
use Rattle.mips_delay.specs.Fitting.{KeepsFits}
use Rattle.mips_delay.specs.Places.{IsKept, drops, moved_to, place}
use Rattle.mips_waits.proofs.Follows.{dropped_has_no_links, dropped_is_short, dropped_keeps}
use Rattle.mips_waits.specs.Dropped.{Dropped}
use Rattle.mips_waits.specs.Waits.{IsNeedless}
use Rattle.mips_waits.specs.Words.{SkipsWords}

module _ (old new : List ℕ) (skips : ℕ → Bool) (each : (j : ℕ) → skips j ≡ true → IsNeedless old j)
    (all : (j : ℕ) → IsNeedless old j → skips j ≡ true) (long : length new ≡ place skips (length old))
    (stands : (i : ℕ) → i < length old → drops skips i ≡ false → IsKept skips i (slice_index old i) (slice_index new (place skips i))) where
  old_is : (i w : ℕ) → word_at old (pc_of i) ≡ Some w → slice_index old i ≡ w
  old_is i w at = same_Some (slice_index old i) w (sym (word_at-pc_of old i (low_of old i w at)) ∙ at)

  new_at : (i : ℕ) → i < length old → drops skips i ≡ false → word_at new (pc_of (place skips i)) ≡ Some (slice_index new (place skips i))
  new_at i low stays =
      let less = place_less skips i (length old) stays low in
      word_at-pc_of new (place skips i) (omega (arith, less, long))

  skips_words : SkipsWords old new skips
  skips_words = record {
    each = each;
    all = all;
    kept = λ i w stays at.
        let low = low_of old i w at in (
          slice_index new (place skips i),
          new_at i low stays,
          subst (λ z. IsKept skips i z (slice_index new (place skips i))) (old_is i w at) (stands i low stays),
        );
    long = long;
  }

pub dropped_so : (old new : Code) (skips : ℕ → Bool) → ((j : ℕ) → skips j ≡ true → IsNeedless old.words j) →
    ((j : ℕ) → IsNeedless old.words j → skips j ≡ true) → length new.words ≡ place skips (length old.words) →
    ((i : ℕ) → i < length old.words → drops skips i ≡ false →
    IsKept skips i (slice_index old.words i) (slice_index new.words (place skips i))) →
    length new.operations ≡ length old.operations →
    ((op : ℕ) → op ≤ length old.operations → words_before new.operations op ≡ place skips (words_before old.operations op)) →
    ((op : ℕ) → op < length old.operations →
    stops_if (slice_get new.operations op) ≡ map (moved_to skips) (stops_if (slice_get old.operations op))) →
    Dropped old new skips
dropped_so old new skips each all long stands many begins stops = record {
  words = skips_words old.words new.words skips each all long stands;
  moved = moved_so old new skips many begins stops;
}

-- ---- what is promised

pub record Promised (old new : Code) : Type 0 where
  pub skips : ℕ → Bool
  pub dropped : Dropped old new skips
  pub few_words : length new.words ≤ length old.words
  pub keeps : KeepsFaithful old new
  pub fits : KeepsFits old new
  pub few_steps : TakesNoMoreSteps old new
  pub links : HasNoLinks new.words

pub promised : (old new : Code) (skips : ℕ → Bool) → HasNoLinks old.words → length old.words ≤ words_end → Dropped old new skips →
    Promised old new
promised old new skips links few D =
    let long = D.words.long in
    let small = place_small skips (length old.words) in
    record {
      skips = skips;
      dropped = D;
      few_words = omega (arith, long, small);
      keeps = dropped_keeps old new skips links few D;
      fits = moved_fits old new skips D.moved;
      few_steps = dropped_is_short old new skips links few D;
      links = dropped_has_no_links old new skips links few D;
    }
