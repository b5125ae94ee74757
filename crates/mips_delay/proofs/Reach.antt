-- Where words go, jumps and branches still reach: distances only shrink.
use Rattle.std.proofs.Common.{◌≡◌, ◌≢◌, ◌⊎◌, ℕ, zero, suc, ◌+◌, ◌-◌, ◌*◌, ◌/◌, ◌%◌, ◌<◌, ◌≤◌, ◌^◌, Bool, true, false, cond, List}
use Rattle.std.proofs.Common.{length, Some, refl}
use Rattle.std.proofs.Common.{sym, ap, ◌∙◌, subst, inl, inr, ⊎_elim, arith}
use Rattle.std.proofs.lemmas.Bool.Decides.{nat_tests}
use Rattle.std.specs.Prelude.{◌&&◌, ◌==◌, nat_le, nat_lt, slice_index}
use Rattle.ec_machine_code.specs.Speaks.{words_end}
use Rattle.ec_target.proofs.Places.{word_at-pc_of}
use Rattle.ec_target.specs.Code.{code_base, pc_of}
use Rattle.mips_delay.proofs.Kept.{moved_word, next_place, place_small}
use Rattle.mips_delay.proofs.Order.{place_rises, same_or_not}
use Rattle.mips_delay.specs.Choice.{CanLead, IsNear, LeadAlong}
use Rattle.mips_delay.specs.Fillable.{Fillable, GoesTo}
use Rattle.mips_delay.specs.Places.{drops, moved_to, place}
use Rattle.mips_delay.specs.Swap.{is_turn, turned_to}
use Rattle.mips_isa.specs.Words.{word_of}
use Rattle.mips_isa.specs.declared.field.Sixteen.{Sixteen}
use Rattle.mips_isa.specs.declared.instr.Instr.{Instr}
use Rattle.mips_isa.specs.declared.instr.Instr.TheVariants.{BranchIf, BranchOnZero, J}
use Rattle.mips_machine.specs.Step.{branch_target}
use Rattle.mips_machine.specs.Values.{plus}

-- ---- places come no further apart

near_by : (b : Bool) (x : ℕ) → cond b x (suc x) ≤ suc x
near_by true x = omega arith
near_by false x = omega arith

pub place_near : (fills : ℕ → Bool) (i k : ℕ) → i ≤ k → place fills k + i ≤ place fills i + k
place_near fills i zero h = let e : zero ≡ i = omega (arith, h) in subst (λ x. place fills 0 + x ≤ place fills x + 0) e (omega arith)
place_near fills i (suc k) h = ⊎_elim
    (λ (e : i ≡ suc k). subst (λ x. place fills x + i ≤ place fills i + x) e (omega arith))
    (λ (ne : (i < suc k) ⊎ (suc k < i)). ⊎_elim
    (λ (l : i < suc k).
    let low : i ≤ k = omega (arith, l) in
    let below = place_near fills i k low in
    let up : place fills (suc k) ≤ suc (place fills k) = near_by (drops fills k) (place fills k) in
    let all : place fills (suc k) + i ≤ place fills i + suc k = omega (arith, below, up) in
    all)
    (λ (l : suc k < i). absurd (omega (arith, l, h)))
    ne)
    (same_or_not i (suc k))

-- ---- addresses

-- an address of a word, or one below the code
address_is : (a : ℕ) → a % 4 ≡ 0 → (a < code_base) ⊎ ((k : ℕ) × (a ≡ pc_of k))
address_is a even = ⊎_elim
    (λ (e : a ≡ code_base). inr (0, (omega (arith, e))))
    (λ (ne : (a < code_base) ⊎ (code_base < a)). ⊎_elim
    (λ (l : a < code_base). inl l)
    (λ (l : code_base < a). inr ((a - code_base) / 4, (omega (arith, l, even))))
    ne)
    (same_or_not a code_base)

moved_low : (fills : ℕ → Bool) (a : ℕ) → a < code_base → moved_to fills a ≡ a
moved_low fills a low =
    let test : (nat_le code_base a && (a % 4 == 0)) ≡ false = grind (arith, nat_tests) in
    ap (λ t. cond t (pc_of (place fills ((a - code_base) / 4))) a) test

-- ---- a branch reaches no further than its offset

abbrev far : Bool → ℕ → ℕ
far b n = cond b n (n + (2 ^ 32 - 2 ^ 16))

reach_by : (b : Bool) (i n : ℕ) → i < words_end → n < 2 ^ 16 → (b ≡ true → n < 2 ^ 15) → (b ≡ false → 2 ^ 15 ≤ n) →
    IsNear (pc_of i) (plus (plus (pc_of i) 4) (4 * far b n))
reach_by true i n small fits low high =
    let l = low refl in
    (omega arith, omega (arith, small, l), omega (arith, small), omega arith, omega (arith, small, l), omega (arith, small, l))
reach_by false i n small fits low high =
    let h = high refl in (
      omega arith,
      omega (arith, small, h, fits),
      omega (arith, small),
      omega arith,
      omega (arith, small, h, fits),
      omega (arith, small, h, fits),
    )

branch_near : (i : ℕ) (offset : Sixteen) → i < words_end → IsNear (pc_of i) (branch_target (pc_of i) offset)
branch_near i offset small =
    reach_by (nat_lt offset.bits (2 ^ 15)) i offset.bits small offset.in_range (λ e. (grind (arith, nat_tests)))
    (λ e. (grind (arith, nat_tests)))

-- word i goes to `to` and word k to p, and they come no further apart
record Closer (i k to p : ℕ) : Type 0 where
  back : (to + k ≤ p + i) ⊎ (to ≤ p)
  onward : (p + i ≤ to + k) ⊎ (p ≤ suc to)

low_near : (i to goal : ℕ) → i < words_end → to ≤ i → IsNear (pc_of i) goal → goal < code_base → IsNear (pc_of to) goal
low_near i to goal small less (a, b, c, d, e, f) low =
    (omega arith, b, omega (arith, small, less), d, omega (arith, e, less), omega (arith, low))

word_near : (i k to p : ℕ) → i < words_end → to ≤ i → p ≤ k → IsNear (pc_of i) (pc_of k) → Closer i k to p → IsNear (pc_of to) (pc_of p)
word_near i k to p small less down (a, b, c, d, e, f) closer = (
  omega arith,
  omega arith,
  omega (arith, small, less),
  omega (arith, d, down),
  ⊎_elim (λ (h : to + k ≤ p + i). (omega (arith, h, e))) (λ (h : to ≤ p). (omega (arith, h))) closer.back,
  ⊎_elim (λ (h : p + i ≤ to + k). (omega (arith, h, f))) (λ (h : p ≤ suc to). (omega (arith, h))) closer.onward,
)

moved_near : (fills : ℕ → Bool) (i to goal : ℕ) → i < words_end → to ≤ i → IsNear (pc_of i) goal →
    ((k : ℕ) → goal ≡ pc_of k → Closer i k to (place fills k)) → IsNear (pc_of to) (moved_to fills goal)
moved_near fills i to goal small less near closer = ⊎_elim
    (λ (low : goal < code_base).
    subst (λ g. IsNear (pc_of to) g) (sym (moved_low fills goal low)) (low_near i to goal small less near low))
    (λ (z : (k : ℕ) × (goal ≡ pc_of k)).
    subst (λ g. IsNear (pc_of to) g) (sym (ap (moved_to fills) z.1 ∙ moved_word fills z.0))
    (word_near i z.0 to (place fills z.0) small less (place_small fills z.0) (subst (λ g. IsNear (pc_of i) g) z.1 near) (closer z.0 z.1)))
    (address_is goal near.1)

-- ---- a jump

moved_jump : (fills : ℕ → Bool) (goal : ℕ) → goal % 4 ≡ 0 → goal < 2 ^ 28 → (moved_to fills goal < 2 ^ 28) × (moved_to fills goal % 4 ≡ 0)
moved_jump fills goal even small = ⊎_elim
    (λ (low : goal < code_base).
    subst (λ g. (g < 2 ^ 28) × (g % 4 ≡ 0)) (sym (moved_low fills goal low)) (small, even))
    (λ (z : (k : ℕ) × (goal ≡ pc_of k)).
    let down = place_small fills z.0 in
    let is = z.1 in
    subst (λ g. (g < 2 ^ 28) × (g % 4 ≡ 0)) (sym (ap (moved_to fills) z.1 ∙ moved_word fills z.0))
    (omega (arith, down, is, small), omega arith))
    (address_is goal even)

-- ---- so each can lead along

module _ (old : List ℕ) (fills : ℕ → Bool) (few : length old ≤ words_end) where
  Closers : (i to : ℕ) (b : Instr) → Type 0
  Closers i to b = (k : ℕ) → turned_to b (pc_of i) ≡ pc_of k → Closer i k to (place fills k)

  can : (i to : ℕ) (b : Instr) → i < length old → to ≤ i → is_turn b ≡ true → Closers i to b →
      CanLead b (pc_of to) (moved_to fills (turned_to b (pc_of i)))
  unfolding Closers
  can i to (J target) low less turns closer =
      let words = target.in_range in
      let even : turned_to (J target) (pc_of i) % 4 ≡ 0 = omega (arith, low, few, words) in
      let small : turned_to (J target) (pc_of i) < 2 ^ 28 = omega (arith, low, few, words) in
      let z = moved_jump fills (turned_to (J target) (pc_of i)) even small in
      (omega (arith, low, few, less), z.0, z.1)
  can i to (BranchIf branch rs rt offset) low less turns closer =
      let small : i < words_end = omega (arith, low, few) in
      moved_near fills i to (branch_target (pc_of i) offset) small less (branch_near i offset small) closer
  can i to (BranchOnZero branch rs offset) low less turns closer =
      let small : i < words_end = omega (arith, low, few) in
      moved_near fills i to (branch_target (pc_of i) offset) small less (branch_near i offset small) closer
  can i to _ low less turns closer = absurd (cc)

  kept_closer : (i k : ℕ) → Closer i k (place fills i) (place fills k)
  kept_closer i k = ⊎_elim
      (λ (e : i ≡ k).
      subst (λ x. Closer i x (place fills i) (place fills x)) e (record { back = inr (omega arith); onward = inl (omega arith) }))
      (λ (ne : (i < k) ⊎ (k < i)). ⊎_elim
      (λ (l : i < k).
      let near = place_near fills i k (omega (arith, l)) in
      let up = place_rises fills i k (omega (arith, l)) in
      record { back = inr up; onward = inl (omega (arith, near)) })
      (λ (l : k < i).
      let near = place_near fills k i (omega (arith, l)) in
      let up = place_rises fills k i (omega (arith, l)) in
      record { back = inl (omega (arith, near)); onward = inr (omega (arith, up)) })
      ne)
      (same_or_not i k)

  -- a branch that keeps its place among those that stay
  pub kept_leads : (i : ℕ) (b : Instr) → i < length old → is_turn b ≡ true →
      CanLead b (pc_of (place fills i)) (moved_to fills (turned_to b (pc_of i)))
  unfolding Closers
  kept_leads i b low turns = can i (place fills i) b low (place_small fills i) turns (λ k e. kept_closer i k)

module _ (old : List ℕ) (fills : ℕ → Bool) (few : length old ≤ words_end) (each : (j : ℕ) → fills j ≡ true → Fillable old j)
    (stays : (j : ℕ) → fills j ≡ true → (drops fills j ≡ false) × (drops fills (suc j) ≡ false)) where
  filled_closer : (j k : ℕ) → fills j ≡ true → k ≢ j → k ≢ suc j → k ≢ suc (suc j) → Closer (suc j) k (place fills j) (place fills k)
  filled_closer j k h a b c = ⊎_elim
      (λ (e : k ≡ j). absurd (a e))
      (λ (ne : (k < j) ⊎ (j < k)). ⊎_elim
      (λ (l : k < j).
      let near = place_near fills k j (omega (arith, l)) in
      let up = place_rises fills k j (omega (arith, l)) in
      record { back = inl (omega (arith, near)); onward = inr (omega (arith, up)) })
      (λ (l : j < k). behind (past l))
      ne)
      (same_or_not k j)
    where
      past : j < k → suc (suc (suc j)) ≤ k
      past l = omega (arith, l, b, c)

      behind : suc (suc (suc j)) ≤ k → Closer (suc j) k (place fills j) (place fills k)
      behind l =
          let near = place_near fills (suc (suc (suc j))) k l in
          let up = place_rises fills (suc (suc (suc j))) k l in
          let one = next_place fills j (stays j h).0 in
          let two = next_place fills (suc j) (stays j h).1 in
          let three : place fills (suc (suc (suc j))) ≡ place fills (suc (suc j)) =
          ap (λ t. cond t (place fills (suc (suc j))) (suc (place fills (suc (suc j))))) h in
          record { back = inr (omega (arith, up, one, two, three)); onward = inl (omega (arith, near, one, two, three)) }

  pub lead_along : LeadAlong old fills
  unfolding Closers
  lead_along i b low is turns = (
    λ stay. kept_leads old fills few i b low turns,
    λ j e h. filled i j b e low is turns h,
  )
    where
      closers_filled : (j : ℕ) (b : Instr) → suc j < length old → word_of b ≡ slice_index old (suc j) → is_turn b ≡ true → fills j ≡ true →
          Closers old fills few (suc j) (place fills j) b
      closers_filled j b low is turns h = λ k e.
          let led : GoesTo old k =
          record { from = suc j; by = b; stands = word_at-pc_of old (suc j) low ∙ ap Some (sym is); turns = turns; leads = e } in
          let z = (each j h).unled k led in
          filled_closer j k h z.0 z.1 z.2

      filled : (i j : ℕ) (b : Instr) → i ≡ suc j → i < length old → word_of b ≡ slice_index old i → is_turn b ≡ true → fills j ≡ true →
          CanLead b (pc_of (place fills j)) (moved_to fills (turned_to b (pc_of i)))
      filled i j b e low is turns h =
          let down = place_small fills j in
          subst (λ x. CanLead b (pc_of (place fills j)) (moved_to fills (turned_to b (pc_of x)))) (sym e)
          (can old fills few (suc j) (place fills j) b (subst (λ x. x < length old) e low) (omega (arith, down)) turns
          (closers_filled j b (subst (λ x. x < length old) e low) (is ∙ ap (slice_index old) e) turns h))
