-- What is written word by word and operation by operation is the code with its slots filled.
use Rattle.std.proofs.Common.{◌≡◌, ◌⊎◌, ℕ, zero, suc, ◌+◌, ◌<◌, ◌≤◌, Bool, true, false, cond, List, [], ◌∷◌, length, map}
use Rattle.std.proofs.Common.{Some}
use Rattle.std.proofs.Common.{refl, sym, ap, ◌∙◌, subst, ⊎_elim, arith}
use Rattle.std.proofs.lemmas.Option.{same_Some, slice_get_past, slice_get-map}
use Rattle.std.specs.Option.{option_map}
use Rattle.std.specs.Prelude.{slice_get, slice_index}
use Rattle.ec_machine_code.specs.Stops.{stops_if, words_before, words_if, words_in_all}
use Rattle.ec_machine_code.specs.declared.code.Code.{Code}
use Rattle.ec_machine_code.specs.declared.code.OperationCode.{OperationCode}
use Rattle.ec_target.proofs.Places.{word_at-pc_of}
use Rattle.ec_target.specs.Code.{pc_of, word_at}
use Rattle.mips_delay.proofs.Kept.{next_place, not_true, outside_drops}
use Rattle.mips_delay.proofs.Order.{place_less, same_or_not}
use Rattle.mips_delay.proofs.Standing.{clash, low_of, one_there, turn_not_moves, turn_not_nothing}
use Rattle.mips_delay.specs.Choice.{IsMoved, Stands}
use Rattle.mips_delay.specs.Fill.{Filled, Moved}
use Rattle.mips_delay.specs.Fillable.{Fillable}
use Rattle.mips_delay.specs.Places.{FillsWords, IsKept, Retargets, SwapsAt, drops, is_within, moved_to, place}
use Rattle.mips_delay.specs.Swap.{MayFill, is_turn}
use Rattle.mips_isa.specs.OneWord.{one_word}
use Rattle.mips_isa.specs.Words.{word_of}
use Rattle.mips_isa.specs.declared.instr.Instr.{Instr}

-- ---- words

module _ (old : List ℕ) (fills : ℕ → Bool) (each : (j : ℕ) → fills j ≡ true → Fillable old j) where
  -- neither the first word of a filled place nor its branch is a no-op that goes
  nothing_at : (i : ℕ) → drops fills i ≡ true → word_at old (pc_of i) ≡ Some 0
  nothing_at zero h = absurd (cc)
  nothing_at (suc zero) h = absurd (cc)
  nothing_at (suc (suc j)) h = (each j h).third

  pub first_stays : (j : ℕ) → fills j ≡ true → drops fills j ≡ false
  first_stays j h =
      let x = each j h in
      not_true (drops fills j) (λ d. x.no_nothing (same_Some (word_of x.moves) 0 (sym x.first ∙ nothing_at j d)))

  pub second_stays : (j : ℕ) → fills j ≡ true → drops fills (suc j) ≡ false
  second_stays j h =
      let x = each j h in
      not_true (drops fills (suc j)) (λ d.
      turn_not_nothing x.branch x.may.turn (same_Some (word_of x.branch) 0 (sym x.second ∙ nothing_at (suc j) d)))

  second_unfilled : (j : ℕ) → fills j ≡ true → fills (suc j) ≡ false
  second_unfilled j h = not_true (fills (suc j)) (λ k.
      let x = each j h in
      let y = each (suc j) k in
      turn_not_moves y.moves x.branch y.may.no_jump x.may.turn (one_there old (suc j) y.moves x.branch y.first x.second))

  second_within : (j : ℕ) → fills j ≡ true → is_within fills (suc j) ≡ true
  second_within j h = ap (λ b. cond b true (drops fills (suc j))) h

  module _ (new : List ℕ) (all : (j : ℕ) → Fillable old j → fills j ≡ true) (long : length new ≡ place fills (length old))
      (stands : (i : ℕ) → i < length old → drops fills i ≡ false → Stands old fills i (slice_index new (place fills i))) where
    -- the word where word i went
    new_at : (i : ℕ) → i < length old → drops fills i ≡ false →
        word_at new (pc_of (place fills i)) ≡ Some (slice_index new (place fills i))
    new_at i low stays =
        let less = place_less fills i (length old) stays low in
        word_at-pc_of new (place fills i) (omega (arith, less, long))

    old_is : (i w : ℕ) → word_at old (pc_of i) ≡ Some w → slice_index old i ≡ w
    old_is i w at = same_Some (slice_index old i) w (sym (word_at-pc_of old i (low_of old i w at)) ∙ at)

    module _ (j : ℕ) (h : fills j ≡ true) where
      abbrev x : Fillable old j
      x = each j h

      -- the branch, led along
      led : Retargets fills (suc j) (place fills j) (slice_index old (suc j)) (slice_index new (place fills j))
      led = ⊎_elim
          (λ (z : (fills j ≡ true) × IsMoved fills (suc j) (place fills j) (slice_index old (suc j)) (slice_index new (place fills j))).
          is_led z.1)
          (λ (z : ((k : ℕ) × (j ≡ suc k) × (fills k ≡ true) × (slice_index new (place fills j) ≡ slice_index old k))
          ⊎ ((fills j ≡ false) × (is_within fills j ≡ false)
          × IsKept fills j (slice_index old j) (slice_index new (place fills j)))). ⊎_elim
          (λ (y : (k : ℕ) × (j ≡ suc k) × (fills k ≡ true) × (slice_index new (place fills j) ≡ slice_index old k)).
          absurd (clash (fills j) h (ap fills y.1 ∙ second_unfilled y.0 y.2)))
          (λ (y : (fills j ≡ false) × (is_within fills j ≡ false)
          × IsKept fills j (slice_index old j) (slice_index new (place fills j))).
          absurd (clash (fills j) h y.0))
          z)
          (stands j (low_of old j (word_of x.moves) x.first) (first_stays j h))
        where
          is_led : IsMoved fills (suc j) (place fills j) (slice_index old (suc j)) (slice_index new (place fills j)) →
              Retargets fills (suc j) (place fills j) (slice_index old (suc j)) (slice_index new (place fills j))
          is_led z = ⊎_elim
              (λ (r : Retargets fills (suc j) (place fills j) (slice_index old (suc j)) (slice_index new (place fills j))). r)
              (λ (q : (slice_index new (place fills j) ≡ slice_index old (suc j))
              × ((b : Instr) → slice_index old (suc j) ≡ word_of b → is_turn b ≡ false)).
              absurd (clash (is_turn x.branch) x.may.turn (q.1 x.branch (old_is (suc j) (word_of x.branch) x.second))))
              z

      -- the word behind it
      slot_is : slice_index new (place fills (suc j)) ≡ slice_index old j
      slot_is = ⊎_elim
          (λ (z : (fills (suc j) ≡ true)
          × IsMoved fills (suc (suc j)) (place fills (suc j)) (slice_index old (suc (suc j))) (slice_index new (place fills (suc j)))).
          absurd (clash (fills (suc j)) z.0 (second_unfilled j h)))
          (λ (z : ((k : ℕ) × (suc j ≡ suc k) × (fills k ≡ true) × (slice_index new (place fills (suc j)) ≡ slice_index old k))
          ⊎ ((fills (suc j) ≡ false) × (is_within fills (suc j) ≡ false)
          × IsKept fills (suc j) (slice_index old (suc j)) (slice_index new (place fills (suc j))))). ⊎_elim
          (λ (y : (k : ℕ) × (suc j ≡ suc k) × (fills k ≡ true) × (slice_index new (place fills (suc j)) ≡ slice_index old k)).
          let same : y.0 ≡ j = (let e = y.1 in omega (arith, e)) in
          y.3 ∙ ap (slice_index old) same)
          (λ (y : (fills (suc j) ≡ false) × (is_within fills (suc j) ≡ false)
          × IsKept fills (suc j) (slice_index old (suc j)) (slice_index new (place fills (suc j)))).
          absurd (clash (is_within fills (suc j)) (second_within j h) y.1))
          z)
          (stands (suc j) (low_of old (suc j) (word_of x.branch) x.second) (second_stays j h))

      swaps_at : SwapsAt old new fills j
      swaps_at =
          let one : j + 1 ≡ suc j = omega arith in
          let two : j + 2 ≡ suc (suc j) = omega arith in
          let next : place fills j + 1 ≡ place fills (suc j) = (let e = next_place fills j (first_stays j h) in omega (arith, e)) in
          let same : led.branch ≡ x.branch =
          one_word led.branch x.branch (sym led.was ∙ old_is (suc j) (word_of x.branch) x.second) in
          record {
            moves = x.moves;
            branch = led.branch;
            led = led.led;
            swaps = record {
              may = subst (λ b. MayFill x.moves b) (sym same) x.may;
              same = led.same;
              first = x.first;
              second = ap (λ k. word_at old (pc_of k)) one ∙ x.second ∙ ap (λ b. Some (word_of b)) (sym same);
              third = ap (λ k. word_at old (pc_of k)) two ∙ x.third;
              turn = new_at j (low_of old j (word_of x.moves) x.first) (first_stays j h) ∙ ap Some led.is;
              slot = ap (λ k. word_at new (pc_of k)) next
                  ∙ new_at (suc j) (low_of old (suc j) (word_of x.branch) x.second) (second_stays j h)
                  ∙ ap Some (slot_is ∙ old_is j (word_of x.moves) x.first);
            };
            leads = led.leads;
          }

    kept_at : (i w : ℕ) → fills i ≡ false → is_within fills i ≡ false → word_at old (pc_of i) ≡ Some w →
        (v : ℕ) × (word_at new (pc_of (place fills i)) ≡ Some v) × IsKept fills i w v
    kept_at i w unfilled outside at =
        let low = low_of old i w at in
        let stays = outside_drops fills i outside in (
          slice_index new (place fills i),
          new_at i low stays,
          subst (λ z. IsKept fills i z (slice_index new (place fills i))) (old_is i w at) (⊎_elim
              (λ (z : (fills i ≡ true) × IsMoved fills (suc i) (place fills i) (slice_index old (suc i)) (slice_index new (place fills i))).
              absurd (clash (fills i) z.0 unfilled))
              (λ (z : ((k : ℕ) × (i ≡ suc k) × (fills k ≡ true) × (slice_index new (place fills i) ≡ slice_index old k))
              ⊎ ((fills i ≡ false) × (is_within fills i ≡ false)
              × IsKept fills i (slice_index old i) (slice_index new (place fills i)))). ⊎_elim
              (λ (y : (k : ℕ) × (i ≡ suc k) × (fills k ≡ true) × (slice_index new (place fills i) ≡ slice_index old k)).
              absurd (clash (is_within fills i) (ap (is_within fills) y.1 ∙ second_within y.0 y.2) outside))
              (λ (y : (fills i ≡ false) × (is_within fills i ≡ false)
              × IsKept fills i (slice_index old i) (slice_index new (place fills i))). y.2)
              z)
              (stands i low stays)),
        )

    pub fills_words : FillsWords old new fills
    fills_words = record { each = each; all = all; swaps = swaps_at; kept = kept_at; long = long }

-- ---- operations

pub before_next : (os : List OperationCode) (op : ℕ) → words_before os op + words_if (slice_get os op) ≡ words_before os (suc op)
before_next [] op = refl
before_next (o ∷ []) zero = omega arith
before_next (o ∷ p ∷ os) zero = omega arith
before_next (o ∷ os) (suc op) =
    let rest = before_next os op in
    let all : words_before (o ∷ os) (suc op) + words_if (slice_get (o ∷ os) (suc op)) ≡ words_before (o ∷ os) (suc (suc op)) =
    omega (arith, rest) in
    all

before_all : (os : List OperationCode) (op : ℕ) → length os ≤ op → words_before os op ≡ words_in_all os
before_all [] op h = refl
before_all (o ∷ os) zero h = absurd (omega (arith, h))
before_all (o ∷ os) (suc op) h = ap (λ n. o.words + n) (before_all os op (omega (arith, h)))

module _ (fills : ℕ → Bool) (old new : List OperationCode) (many : length new ≡ length old)
    (begins : (op : ℕ) → op ≤ length old → words_before new op ≡ place fills (words_before old op))
    (stops : (op : ℕ) → op < length old → stops_if (slice_get new op) ≡ map (moved_to fills) (stops_if (slice_get old op))) where
  whole_so : words_in_all new ≡ place fills (words_in_all old)
  whole_so =
      sym (before_all new (length old) (omega (arith, many))) ∙ begins (length old) (omega arith)
      ∙ ap (place fills) (before_all old (length old) (omega arith))

  begins_so : (op : ℕ) → words_before new op ≡ place fills (words_before old op)
  begins_so op = ⊎_elim
      (λ (e : op ≡ length old). begins op (omega (arith, e)))
      (λ (ne : (op < length old) ⊎ (length old < op)). ⊎_elim
      (λ (l : op < length old). begins op (omega (arith, l)))
      (λ (l : length old < op).
      before_all new op (omega (arith, l, many)) ∙ whole_so ∙ ap (place fills) (sym (before_all old op (omega (arith, l)))))
      ne)
      (same_or_not op (length old))

  ends_so : (op : ℕ) →
      words_before new op + words_if (slice_get new op) ≡ place fills (words_before old op + words_if (slice_get old op))
  ends_so op = before_next new op ∙ begins_so (suc op) ∙ ap (place fills) (sym (before_next old op))

  no_stops : (op : ℕ) → length old ≤ op → stops_if (slice_get new op) ≡ map (moved_to fills) (stops_if (slice_get old op))
  no_stops op h =
      ap stops_if (slice_get_past new op (omega (arith, h, many)))
      ∙ ap (λ o. map (moved_to fills) (stops_if o)) (sym (slice_get_past old op h))

  stops_so : (op : ℕ) → stops_if (slice_get new op) ≡ map (moved_to fills) (stops_if (slice_get old op))
  stops_so op = ⊎_elim
      (λ (e : op ≡ length old). no_stops op (omega (arith, e)))
      (λ (ne : (op < length old) ⊎ (length old < op)). ⊎_elim
      (λ (l : op < length old). stops op l)
      (λ (l : length old < op). no_stops op (omega (arith, l)))
      ne)
      (same_or_not op (length old))

  pub address_so : (op n : ℕ) →
      slice_get (stops_if (slice_get new op)) n ≡ option_map (moved_to fills) (slice_get (stops_if (slice_get old op)) n)
  address_so op n = ap (λ l. slice_get l n) (stops_so op) ∙ slice_get-map (moved_to fills) (stops_if (slice_get old op)) n

-- ---- codes

pub moved_so : (old new : Code) (fills : ℕ → Bool) → length new.operations ≡ length old.operations →
    ((op : ℕ) → op ≤ length old.operations → words_before new.operations op ≡ place fills (words_before old.operations op)) →
    ((op : ℕ) → op < length old.operations →
    stops_if (slice_get new.operations op) ≡ map (moved_to fills) (stops_if (slice_get old.operations op))) →
    Moved old new fills
moved_so old new fills many begins stops = record {
  stops = address_so fills old.operations new.operations many begins stops;
  begins = begins_so fills old.operations new.operations many begins stops;
  ends = ends_so fills old.operations new.operations many begins stops;
  whole = whole_so fills old.operations new.operations many begins stops;
  many = many;
}

pub filled_so : (old new : Code) (fills : ℕ → Bool) → ((j : ℕ) → fills j ≡ true → Fillable old.words j) →
    ((j : ℕ) → Fillable old.words j → fills j ≡ true) → length new.words ≡ place fills (length old.words) →
    ((i : ℕ) → i < length old.words → drops fills i ≡ false → Stands old.words fills i (slice_index new.words (place fills i))) →
    length new.operations ≡ length old.operations →
    ((op : ℕ) → op ≤ length old.operations → words_before new.operations op ≡ place fills (words_before old.operations op)) →
    ((op : ℕ) → op < length old.operations →
    stops_if (slice_get new.operations op) ≡ map (moved_to fills) (stops_if (slice_get old.operations op))) →
    Filled old new fills
filled_so old new fills each all long stands many begins stops = record {
  words = fills_words old.words fills each new.words all long stands;
  moved = moved_so old new fills many begins stops;
}
