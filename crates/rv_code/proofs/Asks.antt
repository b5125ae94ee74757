-- What the words of questions and jumps do.
use Rattle.std.proofs.Common.{◌≡◌, ℕ, ◌+◌, ◌-◌, ◌*◌, ◌^◌, ◌<◌, ◌≤◌, List, [], ◌∷◌, ◌++◌, refl, sym, ap, ◌∙◌, arith, cond}
use Rattle.std.proofs.Common.{true, false}
use Rattle.std.proofs.Common.{◌≢◌, Some, ⊎_elim, lit<, subst}
use Rattle.std.proofs.lemmas.Bool.{cases_lt}
use Rattle.std.proofs.lemmas.Bool.Decides.{nat_tests}
use Rattle.std.specs.Prelude.{Bool, if◌then◌else◌, nat_lt, not}
use Rattle.ec_machine_code.specs.Frames.{most_blocks}
use Rattle.ec_machine_code.specs.Micro.{CanAsk, Sight, asked, related}
use Rattle.ec_machine_code.specs.Speaks.{Ends, HasAt, Sees, words_end}
use Rattle.ec_machine_code.specs.declared.step.Question.{Question}
use Rattle.ec_machine_code.specs.declared.step.Relation.{Relation}
use Rattle.ec_machine_code.specs.declared.step.Relation.TheVariants.{Less, Same}
use Rattle.ec_world.specs.Same.{is_same_truth}
use Rattle.ec_target.proofs.Climbing.{climbs_append, climbs_first, climbs_one, climbs_wider}
use Rattle.ec_target.specs.Code.{pc_of, word_at}
use Rattle.rv_isa.specs.Parts.{high_of, low_of}
use Rattle.rv_isa.specs.declared.field.BranchOffset.{BranchOffset}
use Rattle.rv_isa.specs.declared.field.JumpOffset.{JumpOffset}
use Rattle.rv_isa.specs.declared.field.Register.{Register}
use Rattle.rv_isa.specs.declared.field.Twelve.{Twelve}
use Rattle.rv_isa.specs.declared.field.Twenty.{Twenty}
use Rattle.rv_machine.proofs.Effects.{branch_goes, branch_passes, high_low, lui_goes, moved, register-wrote_other}
use Rattle.rv_machine.proofs.Effects.{register-wrote_same, wrote}
use Rattle.rv_machine.specs.Machine.{rv_goes, rv_register}
use Rattle.rv_machine.specs.Values.{extended, is_taken, plus}
use Rattle.rv_machine.specs.declared.machine.RvMachine.{RvMachine}
use Rattle.rv_code.proofs.Places.{back_at, first_at, front_at, rest_at}
use Rattle.rv_code.proofs.Results.{Both, Value, both_sources, first_register, second_register, still_seen}
use Rattle.rv_code.proofs.Runs.{Run, jump_goes, jump_there_goes, pc, x5}
use Rattle.rv_code.specs.Meaning.{rv_meaning}
use Rattle.rv_code.specs.Sized.{few_fetched}
use Rattle.rv_code.specs.Words.{both_words, branch_distance, branch_of, branch_word, distance, far_jump_words, far_words, fetch_size, jump}
use Rattle.rv_code.specs.Words.{jump_there, jump_words, lui, middle_words, near_words, source_register}

-- ---- distances

-- a branch forward comes to its word
forward_is : (p from to d : ℕ) → p ≡ pc_of from → from ≤ to → to ≤ words_end → d ≡ 4 * (to - from) → d < 2 ^ 12 →
    pc_of to ≡ plus p (extended 13 d)
forward_is p from to d at on high e near =
    let small : nat_lt d (2 ^ 12) ≡ true = grind (arith, nat_tests) in
    let there : plus p d ≡ pc_of to = omega (arith, at, on, high, e) in
    sym (ap (λ t. plus p (cond t d (d + (2 ^ 32 - 2 ^ 13)))) small ∙ there)

-- a branch either way comes to its word
branch_is : (from to : ℕ) → from ≤ words_end → to ≤ words_end → to < from + 2 ^ 10 → from ≤ to + 2 ^ 10 →
    pc_of to ≡ plus (pc_of from) (extended 13 (branch_distance from to))
branch_is from to low high near far = ⊎_elim
    (λ (lt : branch_distance from to < 2 ^ 12).
    let t : nat_lt (branch_distance from to) (2 ^ 12) ≡ true = grind (arith, nat_tests) in
    sym (ap (λ b. plus (pc_of from) (cond b (branch_distance from to) (branch_distance from to + (2 ^ 32 - 2 ^ 13)))) t
    ∙ omega (arith, low, high, near, far, lt)))
    (λ (le : 2 ^ 12 ≤ branch_distance from to).
    let t : nat_lt (branch_distance from to) (2 ^ 12) ≡ false = grind (arith, nat_tests) in
    sym (ap (λ b. plus (pc_of from) (cond b (branch_distance from to) (branch_distance from to + (2 ^ 32 - 2 ^ 13)))) t
    ∙ omega (arith, low, high, near, far, le)))
    (cases_lt (branch_distance from to) (2 ^ 12))

-- a jump comes to its word
target_is : (from to : ℕ) → from ≤ words_end → to ≤ words_end → to < from + 2 ^ 18 → from < to + 2 ^ 18 →
    pc_of to ≡ plus (pc_of from) (extended 21 (distance from to))
target_is from to low high near far = ⊎_elim
    (λ (lt : distance from to < 2 ^ 20).
    let t : nat_lt (distance from to) (2 ^ 20) ≡ true = grind (arith, nat_tests) in
    sym (ap (λ b. plus (pc_of from) (cond b (distance from to) (distance from to + (2 ^ 32 - 2 ^ 21)))) t
    ∙ omega (arith, low, high, near, far, lt)))
    (λ (le : 2 ^ 20 ≤ distance from to).
    let t : nat_lt (distance from to) (2 ^ 20) ≡ false = grind (arith, nat_tests) in
    sym (ap (λ b. plus (pc_of from) (cond b (distance from to) (distance from to + (2 ^ 32 - 2 ^ 21)))) t
    ∙ omega (arith, low, high, near, far, le)))
    (cases_lt (distance from to) (2 ^ 20))

-- ---- answers

taken_is : (relation : Relation) (wanted : Bool) (a b : ℕ) →
    is_taken (branch_of relation wanted) a b ≡ is_same_truth wanted (related relation a b)
taken_is Same true a b = refl
taken_is Same false a b = refl
taken_is Less true a b = refl
taken_is Less false a b = refl

not_wanted : (wanted t : Bool) → is_same_truth (not wanted) t ≡ not (is_same_truth wanted t)
not_wanted true t = refl
not_wanted false true = refl
not_wanted false false = refl

abbrev eight : BranchOffset
eight = record { bits = 8; in_range = lit< tt; even = refl }

abbrev twelve : BranchOffset
twelve = record { bits = 12; in_range = lit< tt; even = refl }

module _ (code : List ℕ) (f own : ℕ) (v : Sight) where
  abbrev Seen : RvMachine → Type 0
  Seen m = Sees rv_meaning f own m v.home

  -- from a machine that shows the sight to another one, with the same memory
  abbrev Comes : RvMachine → (from end to : ℕ) → Type 0
  Comes m from end to = Ends rv_meaning f own code m v from end to v

  -- only the place is another
  seen_at : (m : RvMachine) (pc : ℕ) → Seen m → Seen (moved m pc)
  seen_at m pc g = record { rests = tt; frame = g.frame; owns = g.owns; home = g.home }

  joined : (m : RvMachine) (from mid end i to : ℕ) (first : Comes m from mid i) → Comes first.last mid end to → Comes m from end to
  joined m from mid end i to first second = record {
    last = second.last;
    climbs = climbs_append (rv_goes code) pc m v.bytes from mid first.last v.bytes end second.last v.bytes first.climbs second.climbs;
    at = second.at;
    sees = second.sees;
  }

  -- ---- jumps

  pub jumped : (i to : ℕ) (m : RvMachine) → HasAt code i (jump_words i to) → m.pc ≡ pc_of i → i + 1 ≤ words_end → to ≤ words_end →
      to < i + 2 ^ 18 → i < to + 2 ^ 18 → Seen m → Comes m i (i + 1) to
  jumped i to m has at low high near far g =
      let offset : JumpOffset = record { bits = distance i to; in_range = omega arith; even = omega (arith, near, far) } in
      let target = target_is i to (omega (arith, low)) high near far ∙ ap (λ p. plus p (extended 21 (distance i to))) (sym at) in
      let here = first_at code i (jump (distance i to)) m.pc [] has at in
      let goes = jump_goes code m v.bytes offset (pc_of to) target (omega arith) here in
      record {
        last = moved m (pc_of to);
        climbs = climbs_one (rv_goes code) pc i m v.bytes (moved m (pc_of to)) v.bytes at goes;
        at = refl;
        sees = seen_at m (pc_of to) g;
      }

  pub far_jumped : (i to : ℕ) (m : RvMachine) → HasAt code i (far_jump_words to) → m.pc ≡ pc_of i → i + 2 ≤ words_end → to ≤ words_end →
      Seen m → Comes m i (i + 2) to
  far_jumped i to m has at low high g =
      let there = pc_of to in
      let upper : Twenty = record { bits = high_of there; in_range = omega arith } in
      let lower : Twelve = record { bits = low_of there; in_range = omega arith } in
      let high_part = high_of there * 2 ^ 12 in
      let second = jump_there 5 (low_of there) in
      let n = wrote m 5 high_part in
      let here = first_at code i (lui 5 (high_of there)) m.pc (second ∷ []) has at in
      let one = lui_goes code m v.bytes x5 upper here (omega (arith, at, low)) (omega arith) in
      let at1 : n.pc ≡ pc_of (i + 1) = omega (arith, at) in
      let next = first_at code (i + 1) second n.pc [] (rest_at code i (lui 5 (high_of there)) (second ∷ []) has) at1 in
      let small : there < 2 ^ 32 = omega (arith, high) in
      let holds = register-wrote_same m 5 high_part (omega arith) (omega arith) in
      let target = sym (ap (λ x. plus x (extended 12 (low_of there))) holds ∙ high_low there small) in
      let two = jump_there_goes code n v.bytes x5 lower there target (omega arith) next in
      let last = moved n there in
      let others = λ (q : ℕ) (ne : q ≢ 5). register-wrote_other m 5 high_part q ne in
      record {
        last = last;
        climbs = climbs_first (rv_goes code) pc i (i + 2) m v.bytes n v.bytes last v.bytes at (omega arith) one
            (climbs_wider (rv_goes code) pc n v.bytes (i + 1) (i + 1 + 1) (i + 1) (i + 2) last v.bytes (omega arith) (omega arith)
            (climbs_one (rv_goes code) pc (i + 1) n v.bytes last v.bytes at1 two));
        at = refl;
        sees = record {
          rests = tt;
          frame = others 8 (λ e. omega (arith, e)) ∙ g.frame;
          owns = others 9 (λ e. omega (arith, e)) ∙ g.owns;
          home = λ k h. others (18 + k) (λ e. omega (arith, e)) ∙ g.home k h;
        };
      }

-- ---- questions

module _ (code : List ℕ) (f own : ℕ) (f_small : f < most_blocks) (v : Sight) (q : Question) (can : CanAsk rv_meaning f own q v) where
  abbrev Fetched : RvMachine → RvMachine → Type 0
  Fetched m n = Both code f own f_small v q.left q.right m n

  abbrev answer : Bool
  answer = asked rv_meaning f own q v.home v.bytes

  abbrev is_related : Bool
  is_related = related q.relation (Value code f own f_small v q.left) (Value code f own f_small v q.right)

  abbrev left : Register
  left = first_register code f own f_small v q.left can.0

  abbrev right : Register
  right = second_register code f own f_small v q.right can.1

  -- whether the branch is taken
  takes : (wanted : Bool) (m n : RvMachine) → Fetched m n →
      is_taken (branch_of q.relation wanted) (rv_register n (source_register 5 q.left)) (rv_register n (source_register 6 q.right))
      ≡ is_same_truth wanted is_related
  takes wanted m n p =
      ap (λ a. is_taken (branch_of q.relation wanted) a (rv_register n (source_register 6 q.right))) p.left
      ∙ ap (is_taken (branch_of q.relation wanted) (Value code f own f_small v q.left)) p.right
      ∙ taken_is q.relation wanted (Value code f own f_small v q.left) (Value code f own f_small v q.right)

  -- behind the words that bring the sources, a step that changes the place alone
  ends : (m : RvMachine) (from i end to : ℕ) (r : Run code v.bytes m from i (Fetched m)) (place : ℕ) →
      rv_goes code r.last v.bytes (moved r.last place) v.bytes → place ≡ pc_of to → i + 1 ≤ end → Seen code f own v m →
      Comes code f own v m from end to
  ends m from i end to r place goes at small g = record {
    last = moved r.last place;
    climbs = climbs_wider (rv_goes code) pc m v.bytes from (i + 1) from end (moved r.last place) v.bytes (omega arith) small
        (climbs_append (rv_goes code) pc m v.bytes from i r.last v.bytes (i + 1) (moved r.last place) v.bytes r.climbs
        (climbs_one (rv_goes code) pc i r.last v.bytes (moved r.last place) v.bytes r.at goes));
    at = at;
    sees = seen_at code f own v r.last place (still_seen code f own f_small v m r.last r.is.others g);
  }

  -- where the branch leads to the word itself
  near_end : (t : Bool) → answer ≡ t → (i to : ℕ) (m : RvMachine)
      (r : Run code v.bytes m i (i + fetch_size q) (Fetched m)) →
      word_at code r.last.pc ≡ Some (branch_word q q.wanted (branch_distance (i + fetch_size q) to)) →
      i + (fetch_size q + 1) ≤ words_end → to ≤ words_end → to ≤ i + 1020 → i ≤ to + 1020 → Seen code f own v m →
      Comes code f own v m i (i + (fetch_size q + 1)) (if t then to else i + (fetch_size q + 1))
  near_end t e i to m r here low high close back g =
      let from = i + fetch_size q in
      let d = branch_distance from to in
      let few = few_fetched q in
      let offset : BranchOffset =
      record { bits = d; in_range = omega arith; even = omega (arith, low, high, close, back, few) } in
      let there = branch_is from to (omega (arith, low)) high (omega (arith, close)) (omega (arith, back, few))
      ∙ ap (λ p. plus p (extended 13 d)) (sym r.at) in
      let at1 = r.at in
      by t (takes q.wanted m r.last r.is ∙ e) offset refl there (omega (arith, at1, low))
    where
      by : (t : Bool) →
          is_taken (branch_of q.relation q.wanted) (rv_register r.last left.number) (rv_register r.last right.number) ≡ t →
          (offset : BranchOffset) → offset.bits ≡ branch_distance (i + fetch_size q) to →
          pc_of to ≡ plus r.last.pc (extended 13 (branch_distance (i + fetch_size q) to)) → r.last.pc + 4 < 2 ^ 32 →
          Comes code f own v m i (i + (fetch_size q + 1)) (if t then to else i + (fetch_size q + 1))
      by true taken offset bits there small =
          let goes = branch_goes code r.last v.bytes (branch_of q.relation q.wanted) left right offset (pc_of to) taken
          (there ∙ ap (λ d. plus r.last.pc (extended 13 d)) (sym bits)) (omega arith)
          (here ∙ ap (λ d. Some (branch_word q q.wanted d)) (sym bits)) in
          ends m i (i + fetch_size q) (i + (fetch_size q + 1)) to r (pc_of to) goes refl (omega arith) g
      by false not_taken offset bits there small =
          let at1 = r.at in
          let goes = branch_passes code r.last v.bytes (branch_of q.relation q.wanted) left right offset not_taken
          (here ∙ ap (λ d. Some (branch_word q q.wanted d)) (sym bits)) small in
          ends m i (i + fetch_size q) (i + (fetch_size q + 1)) (i + (fetch_size q + 1)) r (r.last.pc + 4) goes (omega (arith, at1))
          (omega arith) g

  pub near : (i to : ℕ) (m : RvMachine) → HasAt code i (near_words q i to) → m.pc ≡ pc_of i → i + (fetch_size q + 1) ≤ words_end →
      to ≤ words_end → to ≤ i + 1020 → i ≤ to + 1020 → Seen code f own v m →
      Comes code f own v m i (i + (fetch_size q + 1)) (if answer then to else i + (fetch_size q + 1))
  near i to m has at low high close back g =
      let ws = both_words q.left q.right in
      let u = branch_word q q.wanted (branch_distance (i + fetch_size q) to) in
      let r = both_sources code f own f_small v q.left q.right can.0 can.1 i m (front_at code i ws (u ∷ []) has) at
      (omega (arith, low)) g in
      near_end answer refl i to m r (first_at code (i + fetch_size q) u r.last.pc [] (back_at code i ws (u ∷ []) has) r.at)
      low high close back g

  -- where the branch leads past a jump of so many words
  past_end : (t : Bool) → answer ≡ t → (size all : ℕ) (offset : BranchOffset) → offset.bits ≡ 4 * (size + 1) → size ≤ 2 →
      all ≡ fetch_size q + 1 + size → (i to : ℕ) (m : RvMachine)
      (r : Run code v.bytes m i (i + fetch_size q) (Fetched m)) →
      word_at code r.last.pc ≡ Some (branch_word q (not q.wanted) offset.bits) →
      ((n : RvMachine) → n.pc ≡ pc_of (i + fetch_size q + 1) → Seen code f own v n →
      Comes code f own v n (i + fetch_size q + 1) (i + fetch_size q + 1 + size) to) → i + all ≤ words_end →
      Seen code f own v m → Comes code f own v m i (i + all) (if t then to else i + all)
  past_end true e size all offset long few whole i to m r here jumps low g =
      let at1 = r.at in
      let turned = takes (not q.wanted) m r.last r.is ∙ not_wanted q.wanted is_related ∙ ap not e in
      let goes = branch_passes code r.last v.bytes (branch_of q.relation (not q.wanted)) left right offset turned here
      (omega (arith, at1, low, whole)) in
      let on : r.last.pc + 4 ≡ pc_of (i + fetch_size q + 1) = omega (arith, at1) in
      let first = ends m i (i + fetch_size q) (i + fetch_size q + 1) (i + fetch_size q + 1) r (r.last.pc + 4) goes on (omega arith) g in
      let sum : i + fetch_size q + 1 + size ≡ i + all = omega (arith, whole) in
      subst (λ end. Comes code f own v m i end to) sum
      (joined code f own v m i (i + fetch_size q + 1) (i + fetch_size q + 1 + size) (i + fetch_size q + 1) to first
      (jumps first.last first.at first.sees))
  past_end false e size all offset long few whole i to m r here jumps low g =
      let turned = takes (not q.wanted) m r.last r.is ∙ not_wanted q.wanted is_related ∙ ap not e in
      let d : offset.bits ≡ 4 * ((i + all) - (i + fetch_size q)) = omega (arith, long, whole) in
      let there = forward_is r.last.pc (i + fetch_size q) (i + all) offset.bits r.at (omega (arith, whole)) low d
      (omega (arith, long, few)) in
      let goes = branch_goes code r.last v.bytes (branch_of q.relation (not q.wanted)) left right offset (pc_of (i + all)) turned there
      (omega arith) here in
      ends m i (i + fetch_size q) (i + all) (i + all) r (pc_of (i + all)) goes refl (omega (arith, whole)) g

  past : (size all : ℕ) (offset : BranchOffset) → offset.bits ≡ 4 * (size + 1) → size ≤ 2 → all ≡ fetch_size q + 1 + size →
      (i to : ℕ) (m : RvMachine) (jump : List ℕ) →
      HasAt code i (both_words q.left q.right ++ branch_word q (not q.wanted) offset.bits ∷ jump) → m.pc ≡ pc_of i →
      (HasAt code (i + fetch_size q + 1) jump → (n : RvMachine) → n.pc ≡ pc_of (i + fetch_size q + 1) → Seen code f own v n →
      Comes code f own v n (i + fetch_size q + 1) (i + fetch_size q + 1 + size) to) → i + all ≤ words_end →
      Seen code f own v m → Comes code f own v m i (i + all) (if answer then to else i + all)
  past size all offset long few whole i to m jump has at jumps low g =
      let ws = both_words q.left q.right in
      let u = branch_word q (not q.wanted) offset.bits in
      let r = both_sources code f own f_small v q.left q.right can.0 can.1 i m (front_at code i ws (u ∷ jump) has) at
      (omega (arith, low, whole)) g in
      let back = back_at code i ws (u ∷ jump) has in
      past_end answer refl size all offset long few whole i to m r (first_at code (i + fetch_size q) u r.last.pc jump back r.at)
      (jumps (rest_at code (i + fetch_size q) u jump back)) low g

  pub middle : (i to : ℕ) (m : RvMachine) → HasAt code i (middle_words q i to) → m.pc ≡ pc_of i → i + (fetch_size q + 2) ≤ words_end →
      to ≤ words_end → to + 8 ≤ i + 2 ^ 18 → i + 8 ≤ to + 2 ^ 18 → Seen code f own v m →
      Comes code f own v m i (i + (fetch_size q + 2)) (if answer then to else i + (fetch_size q + 2))
  middle i to m has at low high close back g =
      let few = few_fetched q in
      past 1 (fetch_size q + 2) eight refl (omega arith) (omega arith) i to m (jump_words (i + fetch_size q + 1) to) has at
      (λ jump n on seen.
      jumped code f own v (i + fetch_size q + 1) to n jump on (omega (arith, low)) high (omega (arith, close))
      (omega (arith, back, few)) seen)
      low g

  pub far : (i to : ℕ) (m : RvMachine) → HasAt code i (far_words q to) → m.pc ≡ pc_of i → i + (fetch_size q + 3) ≤ words_end →
      to ≤ words_end → Seen code f own v m →
      Comes code f own v m i (i + (fetch_size q + 3)) (if answer then to else i + (fetch_size q + 3))
  far i to m has at low high g =
      past 2 (fetch_size q + 3) twelve refl (omega arith) (omega arith) i to m (far_jump_words to) has at
      (λ jump n on seen. far_jumped code f own v (i + fetch_size q + 1) to n jump on (omega (arith, low)) high seen)
      low g
