-- Ways through code from rest to rest, and what a machine holds behind them.
use Rattle.std.proofs.Common.{◌≡◌, ◌≢◌, ℕ, zero, suc, ◌+◌, ◌<◌, ◌≤◌, ◌⊎◌, List, [], ◌∷◌, ◌++◌, length, Some, inl, inr}
use Rattle.std.proofs.Common.{refl, sym, ap, ◌∙◌, arith, ⊎_elim, cond, true, false}
use Rattle.std.specs.Prelude.{slice_get, ◌==◌}
use Rattle.std.proofs.lemmas.Bool.Decides.{nat_tests}
use Rattle.ec_base.specs.Bytes.{Bytes}
use Rattle.ec_machine_code.specs.Speaks.{HasAt, Sees}
use Rattle.ec_target.proofs.Climbing.{climbs_append, climbs_none, climbs_one, climbs_wider}
use Rattle.ec_target.specs.Code.{pc_of, word_at}
use Rattle.ec_target.specs.Paths.{Climbs}
use Rattle.mips_machine.specs.Machine.{mips_goes, mips_place, mips_register, mips_rests}
use Rattle.mips_machine.specs.declared.machine.MipsMachine.{MipsMachine}
use Rattle.mips_code.specs.Meaning.{mips_meaning}

-- ---- words of code, one behind another

pub get_front : (xs ys : List ℕ) (i v : ℕ) → slice_get xs i ≡ Some v → slice_get (xs ++ ys) i ≡ Some v
get_front [] ys i v e = absurd (cc)
get_front (x ∷ xs) ys zero v e = e
get_front (x ∷ xs) ys (suc i) v e = get_front xs ys i v e

pub get_back : (xs ys : List ℕ) (k v : ℕ) → slice_get ys k ≡ Some v → slice_get (xs ++ ys) (length xs + k) ≡ Some v
get_back [] ys k v e = let n : 0 + k ≡ k = omega arith in ap (slice_get ys) n ∙ e
get_back (x ∷ xs) ys k v e =
    let n : suc (length xs) + k ≡ suc (length xs + k) = omega arith in
    ap (slice_get (x ∷ xs ++ ys)) n ∙ get_back xs ys k v e

pub has_front : (code : List ℕ) (i : ℕ) (xs ys : List ℕ) → HasAt code i (xs ++ ys) → HasAt code i xs
has_front code i xs ys h k w e = h k w (get_front xs ys k w e)

pub has_back : (code : List ℕ) (i : ℕ) (xs ys : List ℕ) → HasAt code i (xs ++ ys) → HasAt code (i + length xs) ys
has_back code i xs ys h k w e =
    let on : i + length xs + k ≡ i + (length xs + k) = omega arith in
    ap (λ j. word_at code (pc_of j)) on ∙ h (length xs + k) w (get_back xs ys k w e)

pub rest_at : (code : List ℕ) (i w : ℕ) (ws : List ℕ) → HasAt code i (w ∷ ws) → HasAt code (i + 1) ws
rest_at code i w ws has k u e =
    let on : i + 1 + k ≡ i + suc k = omega arith in
    ap (λ j. word_at code (pc_of j)) on ∙ has (suc k) u e

-- the k-th of these words
pub nth_at : (code : List ℕ) (i : ℕ) (ws : List ℕ) (k w pc : ℕ) → HasAt code i ws → pc ≡ pc_of (i + k) → slice_get ws k ≡ Some w →
    word_at code pc ≡ Some w
nth_at code i ws k w pc has e get = ap (word_at code) e ∙ has k w get

-- ---- ways

-- by words that rise from word `from` on and lie below word `end`, to a word, where the machine is n and the memory is c
pub record Way (code : List ℕ) (m : MipsMachine) (b : Bytes) (from end to : ℕ) (n : MipsMachine) (c : Bytes) : Type 0 where
  pub climbs : Climbs (mips_goes code) mips_place m b from end n c
  pub at : n.flow.pc ≡ pc_of to

module _ (code : List ℕ) where
  pub way_none : (m : MipsMachine) (b : Bytes) (from to : ℕ) → from ≤ to → m.flow.pc ≡ pc_of to → Way code m b from to to m b
  way_none m b from to rise at = record { climbs = climbs_none (mips_goes code) mips_place m b from to rise; at = at }

  pub way_by : (m n : MipsMachine) (b c : Bytes) (from end to : ℕ) → Climbs (mips_goes code) mips_place m b from end n c →
      n.flow.pc ≡ pc_of to → Way code m b from end to n c
  way_by m n b c from end to climbs at = record { climbs = climbs; at = at }

  -- one word
  pub way_one : (m n : MipsMachine) (b c : Bytes) (i : ℕ) → m.flow.pc ≡ pc_of i → mips_goes code m b n c →
      n.flow.pc ≡ pc_of (i + 1) → Way code m b i (i + 1) (i + 1) n c
  way_one m n b c i here st at = way_by m n b c i (i + 1) (i + 1) (climbs_one (mips_goes code) mips_place i m b n c here st) at

  -- one way behind another, by words behind those of the first
  pub way_on : (m n u : MipsMachine) (b c d : Bytes) (from mid low end to on : ℕ) → Way code m b from mid to n c →
      Way code n c low end on u d → mid ≤ low → Way code m b from end on u d
  way_on m n u b c d from mid low end to on v w rise = record {
    climbs = climbs_append (mips_goes code) mips_place m b from low n c end u d
        (climbs_wider (mips_goes code) mips_place m b from mid from low n c (omega arith) rise v.climbs) w.climbs;
    at = w.at;
  }

  -- among more words, to the same one
  pub way_to : (m n : MipsMachine) (b c : Bytes) (from end low high to on : ℕ) → Way code m b from end to n c → low ≤ from → end ≤ high →
      to ≡ on → Way code m b low high on n c
  way_to m n b c from end low high to on w p q e =
      record { climbs = climbs_wider (mips_goes code) mips_place m b from end low high n c p q w.climbs; at = w.at ∙ ap pc_of e }

-- ---- what registers hold

pub same_or_not : (x y : ℕ) → (x ≡ y) ⊎ (x ≢ y)
same_or_not zero zero = inl refl
same_or_not zero (suc y) = inr (λ e. (cc))
same_or_not (suc x) zero = inr (λ e. (cc))
same_or_not (suc x) (suc y) = ⊎_elim
    (λ (e : x ≡ y). inl (ap suc e))
    (λ (ne : x ≢ y). inr (λ (e : suc x ≡ suc y). ne (omega (arith, e))))
    (same_or_not x y)

-- a register holds a word, and but for it and the scratch registers each holds what it did
pub record Gave (m n : MipsMachine) (r w : ℕ) : Type 0 where
  pub rests : mips_rests n
  pub holds : mips_register n r ≡ w
  pub others : (q : ℕ) → 12 ≤ q → q ≢ r → mips_register n q ≡ mips_register m q

module _ (f own : ℕ) where
  abbrev pub Seen : MipsMachine → (ℕ → ℕ) → Type 0
  Seen m held = Sees mips_meaning f own m held

  -- where only scratch registers are others
  pub seen_still : (m n : MipsMachine) (held : ℕ → ℕ) → mips_rests n →
      ((q : ℕ) → 12 ≤ q → mips_register n q ≡ mips_register m q) → Seen m held → Seen n held
  seen_still m n held rests others g = record {
    rests = rests;
    frame = others 30 (omega arith) ∙ g.frame;
    owns = others 23 (omega arith) ∙ g.owns;
    home = λ k h. others (16 + k) (omega arith) ∙ g.home k h;
  }

  -- and where one more is, which is scratch too
  pub seen_gave : (m n : MipsMachine) (held : ℕ → ℕ) (r w : ℕ) → r < 12 → Gave m n r w → Seen m held → Seen n held
  seen_gave m n held r w low gave g =
      seen_still m n held gave.rests (λ q h. gave.others q h (λ e. omega (arith, h, e, low))) g

  -- or which is a home
  pub seen_home : (m n : MipsMachine) (held : ℕ → ℕ) (k w : ℕ) → k < 6 → Gave m n (16 + k) w → Seen m held →
      Seen n (λ j. cond (j == k) w (held j))
  seen_home m n held k w low gave g = record {
    rests = gave.rests;
    frame = gave.others 30 (omega arith) (λ e. omega (arith, e, low)) ∙ g.frame;
    owns = gave.others 23 (omega arith) (λ e. omega (arith, e, low)) ∙ g.owns;
    home = λ j h. ⊎_elim
        (λ (e : j ≡ k).
        let test : (j == k) ≡ true = grind (arith, nat_tests) in
        ap (λ q. mips_register n (16 + q)) e ∙ gave.holds ∙ sym (ap (λ t. cond t w (held j)) test))
        (λ (ne : j ≢ k).
        let test : (j == k) ≡ false = grind (arith, nat_tests) in
        gave.others (16 + j) (omega arith) (λ e. ne (omega (arith, e))) ∙ g.home j h ∙ sym (ap (λ t. cond t w (held j)) test))
        (same_or_not j k);
  }
