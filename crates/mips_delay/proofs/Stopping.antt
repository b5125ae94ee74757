-- Stops of a code whose words have moved: they are one to one, and lie in their operations.
use Rattle.std.proofs.Common.{◌≡◌, ℕ, ◌+◌, Bool, false, length, Option, None, Some, refl, sym, ap, ◌∙◌, arith}
use Rattle.std.proofs.lemmas.Option.{same_Some}
use Rattle.std.specs.Option.{option_map}
use Rattle.ec_machine_code.specs.Once.{IsWordOf}
use Rattle.ec_machine_code.specs.Stops.{address_of, words_before, words_of}
use Rattle.ec_machine_code.specs.declared.code.Code.{Code}
use Rattle.ec_passes.specs.Following.{KeepsStops, LiesIn, StopsAt}
use Rattle.ec_target.proofs.Places.{place_of_word}
use Rattle.ec_target.specs.Code.{pc_of, word_at}
use Rattle.mips_code.specs.Meaning.{mips_meaning}
use Rattle.mips_delay.proofs.Kept.{moved_word}
use Rattle.mips_delay.proofs.Order.{GoApart, origin, origin_stays, place_less, place_of_origin, place_rises, same_of_place}
use Rattle.mips_delay.proofs.Runs.{stop_word}
use Rattle.mips_delay.specs.Fill.{Moved}
use Rattle.mips_delay.specs.Places.{drops, moved_to, place}

module _ (old new : Code) (fills : ℕ → Bool) (M : Moved old new fills) where
  -- where a stop at word i goes
  pub stop_moved : (op n i : ℕ) → address_of old op n ≡ Some (pc_of i) → address_of new op n ≡ Some (pc_of (place fills i))
  stop_moved op n i e = M.stops op n ∙ ap (option_map (moved_to fills)) e ∙ ap Some (moved_word fills i)

  pub record StopWord (op n a : ℕ) : Type 0 where
    pub i : ℕ
    pub at : a ≡ pc_of i
    pub is : word_at old.words (pc_of i) ≡ Some stop_word
    pub new_at : address_of new op n ≡ Some (pc_of (place fills i))

  pub stop_word_of : (op n a : ℕ) → StopsAt mips_meaning old op n a → StopWord op n a
  stop_word_of op n a h =
      let z = place_of_word old.words a stop_word h.1 in
      record {
        i = z.0;
        at = z.2;
        is = ap (word_at old.words) (sym z.2) ∙ h.1;
        new_at = stop_moved op n z.0 (h.0 ∙ ap Some z.2);
      }

  mapped : (o : Option ℕ) (b : ℕ) → option_map (moved_to fills) o ≡ Some b → (a : ℕ) × (o ≡ Some a)
  mapped None b e = absurd (cc)
  mapped (Some a) b e = (a, refl)

module _ (old new : Code) (fills : ℕ → Bool) (M : Moved old new fills) (apart : GoApart fills) where
  abbrev from : ℕ → ℕ
  from q = origin fills apart q

  -- a word belongs to the operation of the word from which it comes
  pub word_own : (op q : ℕ) → IsWordOf old op (from q) → IsWordOf new op q
  word_own op q (low, high) =
      let begins = M.begins op in
      let ends = M.ends op in
      let is = place_of_origin fills apart q in
      let up = place_rises fills (words_before old.operations op) (from q) low in
      let down = place_less fills (from q) (words_before old.operations op + words_of old op)
      (origin_stays fills apart q) high in
      (omega (arith, begins, up, is), omega (arith, ends, down, is))

  module _ (long : length new.words ≡ place fills (length old.words))
      (stands : (i : ℕ) → word_at old.words (pc_of i) ≡ Some stop_word →
      (drops fills i ≡ false) × (word_at new.words (pc_of (place fills i)) ≡ Some stop_word))
      (stood : (i : ℕ) → drops fills i ≡ false → word_at new.words (pc_of (place fills i)) ≡ Some stop_word →
      word_at old.words (pc_of i) ≡ Some stop_word) where
    from_stop : (q : ℕ) → word_at new.words (pc_of q) ≡ Some stop_word → word_at old.words (pc_of (from q)) ≡ Some stop_word
    from_stop q at =
        stood (from q) (origin_stays fills apart q)
        (ap (λ k. word_at new.words (pc_of k)) (place_of_origin fills apart q) ∙ at)

    pub stops_kept : KeepsStops mips_meaning old new
    stops_kept = record {
      there = λ op n a h.
          let z = stop_word_of old new fills M op n a h in
          (pc_of (place fills z.i), (z.new_at, (stands z.i z.is).1));
      back = λ op n b e. mapped old new fills M (address_of old op n) b (sym (M.stops op n) ∙ e);
      only = λ b at.
          let z = place_of_word new.words b stop_word at in
          let there = from_stop z.0 (ap (word_at new.words) (sym z.2) ∙ at) in (
            pc_of (from z.0),
            there,
            λ op n e. stop_moved old new fills M op n (from z.0) e
                ∙ ap Some (ap pc_of (place_of_origin fills apart z.0) ∙ sym z.2),
          );
      apart = λ op n k m a c b h g e f.
          let x = stop_word_of old new fills M op n a h in
          let y = stop_word_of old new fills M k m c g in
          let p : pc_of (place fills x.i) ≡ pc_of (place fills y.i) =
          same_Some (pc_of (place fills x.i)) b (sym x.new_at ∙ e) ∙ sym (same_Some (pc_of (place fills y.i)) b (sym y.new_at ∙ f)) in
          let same : x.i ≡ y.i = same_of_place fills x.i y.i (stands x.i x.is).0 (stands y.i y.is).0 (omega (arith, p)) in
          x.at ∙ ap pc_of same ∙ sym y.at;
      whole = λ e. M.whole ∙ ap (place fills) e ∙ sym long;
      within = λ op n a b h e lies.
          let x = stop_word_of old new fills M op n a h in
          inside op a b x.i x.at (same_Some b (pc_of (place fills x.i)) (sym e ∙ x.new_at)) (stands x.i x.is).0 lies;
    }
      where
        inside : (op a b i : ℕ) → a ≡ pc_of i → b ≡ pc_of (place fills i) → drops fills i ≡ false → LiesIn old op a → LiesIn new op b
        inside op a b i at to kept (low, high) =
            let begins = M.begins op in
            let ends = M.ends op in
            let up = place_rises fills (words_before old.operations op) i (omega (arith, low, at)) in
            let down = place_less fills i (words_before old.operations op + words_of old op) kept (omega (arith, high, at)) in
            (omega (arith, begins, up, to), omega (arith, ends, down, to))
