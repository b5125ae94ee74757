-- Jumps and questions.
use Rattle.std.proofs.Common.{◌≡◌, ℕ, ◌+◌, ◌-◌, ◌*◌, ◌^◌, ◌<◌, ◌≤◌, List, [], ◌∷◌, ◌++◌, length, length-append, refl, sym}
use Rattle.std.proofs.Common.{⊎_elim, ap, ◌∙◌, subst, arith, cond, true, false, lit<}
use mathlib.Core.List.{append_assoc}
use Rattle.std.specs.Prelude.{Bool, ◌==◌, int_lt, nat_lt, not}
use Rattle.std.specs.Int.{w32, cast_signed, from_bool}
use Rattle.std.proofs.lemmas.Bool.{cases_lt}
use Rattle.std.proofs.lemmas.Bool.Decides.{nat_tests}
use Rattle.ec_base.specs.Bytes.{Bytes}
use Rattle.ec_machine_code.specs.Frames.{most_blocks}
use Rattle.ec_machine_code.specs.Micro.{CanFind, Sight, asked, related}
use Rattle.ec_machine_code.specs.Speaks.{AskLaw, Ends, HasAt, JumpLaw, words_end}
use Rattle.ec_machine_code.specs.declared.step.Relation.{Relation}
use Rattle.ec_machine_code.specs.declared.step.Relation.TheVariants.{Less, Same}
use Rattle.ec_machine_code.specs.declared.step.Source.{Source}
use Rattle.ec_world.specs.Same.{is_same_truth}
use Rattle.ec_target.specs.Code.{pc_of}
use Rattle.mips_isa.specs.declared.field.Sixteen.{Sixteen}
use Rattle.mips_isa.specs.declared.field.Target.{Target}
use Rattle.mips_isa.specs.declared.instr.Branch.{Branch}
use Rattle.mips_machine.proofs.Effects.{branch_climbs, jump_climbs, moved}
use Rattle.mips_machine.specs.Machine.{mips_register, mips_rests}
use Rattle.mips_machine.specs.Step.{branch_target}
use Rattle.mips_machine.specs.Values.{extended, is_taken, plus}
use Rattle.mips_machine.specs.declared.machine.MipsMachine.{MipsMachine}
use Rattle.mips_code.specs.Meaning.{mips_meaning}
use Rattle.mips_code.specs.Sized.{few_asked}
use Rattle.mips_code.specs.Words.{branch, branch_at, branch_by, branch_distance, branch_of, compared_words, jump_words, mips_far, mips_near, no_op}
use Rattle.mips_code.specs.Words.{source_register, source_words, taken_where}
use Rattle.mips_code.proofs.SourcesLemmas.{Word, reg, sixteen, source_low}
use Rattle.mips_code.proofs.Ways.{Seen, Way, has_back, has_front, nth_at, rest_at, seen_still, way_by, way_on, way_to}
use Rattle.mips_code.proofs.Works.{both_got, less_made}

-- ---- jumps

jumps : (code : List ℕ) (n : MipsMachine) (b : Bytes) (k to : ℕ) → mips_rests n → n.flow.pc ≡ pc_of k → k + 2 ≤ words_end →
    to ≤ words_end → HasAt code k (jump_words k to) → Way code n b k (k + 2) to (moved n (pc_of to)) b
jumps code n b k to rest pc low high has =
    let target : Target = record { words = 2 ^ 20 + to; in_range = omega (arith, high) } in
    way_by code n (moved n (pc_of to)) b b k (k + 2) to
    (jump_climbs code n b rest k pc target (pc_of to) (omega (arith, pc, low))
    (nth_at code k (jump_words k to) 0 _ n.flow.pc has (omega (arith, pc)) refl)
    (nth_at code k (jump_words k to) 1 0 (n.flow.pc + 4) has (omega (arith, pc)) refl) (omega (arith, pc, low))) refl

-- where a machine only goes to another place
module _ (f own : ℕ) where
  seen_moved : (m n : MipsMachine) (held : ℕ → ℕ) (pc : ℕ) → ((q : ℕ) → 12 ≤ q → mips_register n q ≡ mips_register m q) →
      Seen f own m held → Seen f own (moved n pc) held
  seen_moved m n held pc others g = seen_still f own m (moved n pc) held refl others g

  pub jump_law_near : JumpLaw mips_meaning f own mips_near
  jump_law_near code i to s v has at low high near far g =
      let way = jumps code s v.bytes i to g.rests at low high has in
      record {
        last = moved s (pc_of to);
        climbs = way.climbs;
        at = way.at;
        sees = seen_moved s s v.home (pc_of to) (λ q h. refl) g;
      }

  pub jump_law_far : JumpLaw mips_meaning f own mips_far
  jump_law_far code i to s v has at low high near far g =
      let way = jumps code s v.bytes i to g.rests at low high has in
      record {
        last = moved s (pc_of to);
        climbs = way.climbs;
        at = way.at;
        sees = seen_moved s s v.home (pc_of to) (λ q h. refl) g;
      }

-- ---- branches

lands_by : (t : Bool) (x y i j : ℕ) → x ≡ pc_of i → y ≡ pc_of j → cond t x y ≡ pc_of (cond t i j)
lands_by true x y i j e f = e
lands_by false x y i j e f = f

-- the branch at word k with this offset leads to a word
record Leads (k offset to : ℕ) : Type 0 where
  in_range : offset < 2 ^ 16
  lands : plus (plus (pc_of k) 4) (4 * extended 16 offset) ≡ pc_of to

leads_forward : (k offset : ℕ) → k + 1 + offset ≤ words_end → offset < 2 ^ 15 → Leads k offset (k + 1 + offset)
leads_forward k offset high small =
    let test : nat_lt offset (2 ^ 15) ≡ true = grind (arith, nat_tests) in
    record {
      in_range = omega (arith, small);
      lands = ap (λ z. plus (plus (pc_of k) 4) (4 * cond z offset (offset + (2 ^ 32 - 2 ^ 16)))) test ∙ omega (arith, high);
    }

leads_either : (k to : ℕ) → k + 1 ≤ words_end → to ≤ words_end → to < k + 1 + 2 ^ 15 → k + 1 ≤ to + 2 ^ 15 →
    Leads k (branch_distance (k + 1) to) to
leads_either k to low high near far = record {
  in_range = omega arith;
  lands = ⊎_elim
      (λ (lt : branch_distance (k + 1) to < 2 ^ 15).
      let d = branch_distance (k + 1) to in
      let t : nat_lt d (2 ^ 15) ≡ true = grind (arith, nat_tests) in
      ap (λ z. plus (plus (pc_of k) 4) (4 * cond z d (d + (2 ^ 32 - 2 ^ 16)))) t ∙ omega (arith, low, high, near, far, lt))
      (λ (le : 2 ^ 15 ≤ branch_distance (k + 1) to).
      let d = branch_distance (k + 1) to in
      let t : nat_lt d (2 ^ 15) ≡ false = grind (arith, nat_tests) in
      ap (λ z. plus (plus (pc_of k) 4) (4 * cond z d (d + (2 ^ 32 - 2 ^ 16)))) t ∙ omega (arith, low, high, near, far, le))
      (cases_lt (branch_distance (k + 1) to) (2 ^ 15));
}

-- a branch that is taken where a test says so leads to its word, or behind its slot
turns : (code : List ℕ) (t : Bool) (row : Branch) (n : MipsMachine) (b : Bytes) (k p q offset to : ℕ) → mips_rests n → n.flow.pc ≡ pc_of k →
    k + 2 ≤ words_end → Leads k offset to → p < 2 ^ 5 → q < 2 ^ 5 →
    is_taken row (mips_register n p) (mips_register n q) ≡ t → HasAt code k (branch row p q offset ∷ no_op ∷ []) →
    Way code n b k (k + 2) (cond t to (k + 2)) (moved n (pc_of (cond t to (k + 2)))) b
turns code t row n b k p q offset to rest pc low leads small_p small_q e has =
    let off : Sixteen = sixteen offset leads.in_range in
    let target : branch_target n.flow.pc off ≡ pc_of to =
    ap (λ z. plus (plus z 4) (4 * extended 16 offset)) pc ∙ leads.lands in
    let behind : plus (plus n.flow.pc 4) 4 ≡ pc_of (k + 2) = omega (arith, pc, low) in
    let lands : cond (is_taken row (mips_register n p) (mips_register n q)) (branch_target n.flow.pc off) (plus (plus n.flow.pc 4) 4)
    ≡ pc_of (cond t to (k + 2)) =
    ap (λ z. cond z (branch_target n.flow.pc off) (plus (plus n.flow.pc 4) 4)) e ∙ lands_by t (branch_target n.flow.pc off)
    (plus (plus n.flow.pc 4) 4) to (k + 2) target behind in
    way_by code n (moved n (pc_of (cond t to (k + 2)))) b b k (k + 2) (cond t to (k + 2))
    (branch_climbs code n b rest k pc row (reg p small_p) (reg q small_q) off (pc_of (cond t to (k + 2))) lands
    (nth_at code k (branch row p q offset ∷ no_op ∷ []) 0 _ n.flow.pc has (omega (arith, pc)) refl)
    (nth_at code k (branch row p q offset ∷ no_op ∷ []) 1 0 (n.flow.pc + 4) has (omega (arith, pc)) refl) (omega (arith, pc, low))) refl

-- ---- the branch of a question

same_taken : (wanted : Bool) (x y : ℕ) → is_taken (branch_of wanted) x y ≡ is_same_truth wanted (x == y)
same_taken true x y = refl
same_taken false x y = refl

less_taken : (wanted less : Bool) → is_taken (branch_of (not wanted)) (from_bool less) 0 ≡ is_same_truth wanted less
less_taken true true = refl
less_taken true false = refl
less_taken false true = refl
less_taken false false = refl

conds : (t : Bool) (x y u w : ℕ) → x ≡ u → y ≡ w → cond t x y ≡ cond t u w
conds true x y u w e f = e
conds false x y u w e f = f

-- only scratch registers are others, and the machine rests at another place
record Asked (code : List ℕ) (n : MipsMachine) (b : Bytes) (from end at : ℕ) : Type 0 where
  before : MipsMachine
  to : ℕ
  way : Way code n b from end at (moved before to) b
  others : (q : ℕ) → 12 ≤ q → mips_register before q ≡ mips_register n q

-- through the words before a branch, to where it is taken if a test says so
record Compared (code : List ℕ) (s : MipsMachine) (b : Bytes) (from end : ℕ) (row : Branch) (p q : ℕ) (t : Bool) : Type 0 where
  last : MipsMachine
  way : Way code s b from end end last b
  rests : mips_rests last
  decides : is_taken row (mips_register last p) (mips_register last q) ≡ t
  others : (r : ℕ) → 12 ≤ r → mips_register last r ≡ mips_register s r

-- and through that branch
branched : (code : List ℕ) (s : MipsMachine) (b : Bytes) (i k : ℕ) (row : Branch) (p q : ℕ) (t : Bool) (offset to : ℕ) (ws : List ℕ) →
    Compared code s b i k row p q t → k + 2 ≤ words_end → Leads k offset to → p < 2 ^ 5 → q < 2 ^ 5 →
    HasAt code k (branch row p q offset ∷ no_op ∷ ws) → Asked code s b i (k + 2) (cond t to (k + 2))
branched code s b i k row p q t offset to ws c low leads small_p small_q has =
    let there = cond t to (k + 2) in
    let way = turns code t row c.last b k p q offset to c.rests c.way.at low leads small_p small_q c.decides
    (has_front code k (branch row p q offset ∷ no_op ∷ []) ws has) in
    record {
      before = c.last;
      to = pc_of there;
      way = way_on code s c.last (moved c.last (pc_of there)) b b b i k k (k + 2) k there c.way way (omega arith);
      others = c.others;
    }

-- ---- questions

module _ (f own : ℕ) where
  module _ (code : List ℕ) (f_small : f < most_blocks) (own_small : own < most_blocks) (s : MipsMachine) (v : Sight) (i : ℕ)
      (g : Seen f own s v.home) (at : s.flow.pc ≡ pc_of i) (left right : Source) (can_left : CanFind mips_meaning f own left v.home v.bytes)
      (can_right : CanFind mips_meaning f own right v.home v.bytes) where
    abbrev X : ℕ
    X = Word code f own f_small own_small left v.home v.bytes

    abbrev Y : ℕ
    Y = Word code f own f_small own_small right v.home v.bytes

    -- so many words on
    abbrev behind : Relation → ℕ
    behind r = i + length (compared_words r left right)

    abbrev Answers : Relation → Bool → Branch → ℕ → ℕ → Type 0
    Answers r wanted row p q = Compared code s v.bytes i (behind r) row p q (is_same_truth wanted (related r X Y))

    same_compared : (wanted : Bool) (ws : List ℕ) → behind Same ≤ words_end → HasAt code i (compared_words Same left right ++ ws) →
        Answers Same wanted (branch_of wanted) (source_register 8 left) (source_register 9 right)
    same_compared wanted ws low has =
        let ws1 = source_words 8 left in
        let ws2 = source_words 9 right in
        let long = length-append ws1 ws2 in
        let k = i + length (ws1 ++ ws2) in
        let room : k ≤ words_end = low in
        let both = both_got code f own f_small own_small s v i g at left right ws can_left can_right (omega (arith, room, long))
        (subst (HasAt code i) (append_assoc ws1 ws2 ws) has) in
        record {
          last = both.last;
          way = way_to code s both.last v.bytes v.bytes i (i + length ws1 + length ws2) i k (i + length ws1 + length ws2) k both.way
              (omega arith) (omega (arith, long)) (omega (arith, long));
          rests = both.rests;
          decides = ap (λ z. is_taken (branch_of wanted) z (mips_register both.last (source_register 9 right))) both.left_holds
              ∙ ap (is_taken (branch_of wanted) X) both.right_holds ∙ same_taken wanted X Y;
          others = both.others;
        }

    less_compared : (wanted : Bool) (ws : List ℕ) → behind Less ≤ words_end → HasAt code i (compared_words Less left right ++ ws) →
        Answers Less wanted (branch_of (not wanted)) 8 0
    less_compared wanted ws low has =
        let less = int_lt (cast_signed w32 X) (cast_signed w32 Y) in
        let made = less_made code f own f_small own_small s v i g at 8 (omega arith) (lit< tt) left right can_left can_right low
        (has_front code i (compared_words Less left right) ws has) in
        record {
          last = made.last;
          way = made.way;
          rests = made.gave.rests;
          decides = ap (λ z. is_taken (branch_of (not wanted)) z 0) made.gave.holds ∙ less_taken wanted less;
          others = λ r h. made.gave.others r h (λ e. omega (arith, e, h));
        }

    -- through the words of a question up to its branch's slot
    turned : (r : Relation) (wanted : Bool) (offset to : ℕ) (ws : List ℕ) →
        HasAt code i (compared_words r left right ++ taken_where r wanted left right offset ∷ no_op ∷ ws) → behind r + 2 ≤ words_end →
        Leads (behind r) offset to → Asked code s v.bytes i (behind r + 2) (cond (is_same_truth wanted (related r X Y)) to (behind r + 2))
    turned Same wanted offset to ws has low leads =
        let a = source_register 8 left in
        let c = source_register 9 right in
        let word = taken_where Same wanted left right offset in
        branched code s v.bytes i (behind Same) (branch_of wanted) a c (is_same_truth wanted (related Same X Y)) offset to ws
        (same_compared wanted (word ∷ no_op ∷ ws) (omega (arith, low)) has) low leads
        (source_low code f own f_small own_small left v.home v.bytes 8 can_left (lit< tt))
        (source_low code f own f_small own_small right v.home v.bytes 9 can_right (lit< tt))
        (has_back code i (compared_words Same left right) (word ∷ no_op ∷ ws) has)
    turned Less wanted offset to ws has low leads =
        let word = taken_where Less wanted left right offset in
        branched code s v.bytes i (behind Less) (branch_of (not wanted)) 8 0 (is_same_truth wanted (related Less X Y)) offset to ws
        (less_compared wanted (word ∷ no_op ∷ ws) (omega (arith, low)) has) low leads (lit< tt) (lit< tt)
        (has_back code i (compared_words Less left right) (word ∷ no_op ∷ ws) has)

  pub near_law : AskLaw mips_meaning f own mips_near
  near_law code q i to s v f_small own_small has at room high near back g can =
      let few = few_asked q in
      let offset = branch_distance (i + branch_at q + 1) to in
      let leads = leads_either (i + branch_at q) to (omega (arith, room)) high (omega (arith, near)) (omega (arith, back, few)) in
      let done = turned code f_small own_small s v i g at q.left q.right can.0 can.1 q.relation q.wanted offset to [] has
      (omega (arith, room)) leads in
      let t = asked mips_meaning f own q v.home v.bytes in
      let same : cond t to (i + branch_at q + 2) ≡ cond t to (i + (branch_at q + 2)) =
      conds t to (i + branch_at q + 2) to (i + (branch_at q + 2)) refl (omega arith) in
      let way = way_to code s (moved done.before done.to) v.bytes v.bytes i (i + branch_at q + 2) i
      (i + (branch_at q + 2)) (cond t to (i + branch_at q + 2)) (cond t to (i + (branch_at q + 2))) done.way
      (omega arith) (omega arith) same in
      record {
        last = moved done.before done.to;
        climbs = way.climbs;
        at = way.at;
        sees = seen_moved f own s done.before v.home done.to done.others g;
      }

  -- where the opposite branch isn't taken, a jump follows
  far_by : (opposite answer : Bool) → answer ≡ not opposite → (code : List ℕ) (size i to : ℕ) (s : MipsMachine) (v : Sight) →
      Asked code s v.bytes i (i + size + 2) (cond opposite (i + size + 1 + 3) (i + size + 2)) → i + (size + 4) ≤ words_end → to ≤ words_end →
      Seen f own s v.home → HasAt code (i + size + 2) (jump_words (i + size + 2) to) →
      Ends mips_meaning f own code s v i (i + (size + 4)) (cond answer to (i + (size + 4))) v
  far_by true answer e code size i to s v done room high g has =
      let at : cond answer to (i + (size + 4)) ≡ i + size + 4 = ap (λ t. cond t to (i + (size + 4))) e ∙ omega arith in
      let way = way_to code s (moved done.before done.to) v.bytes v.bytes i (i + size + 2) i (i + (size + 4)) (i + size + 1 + 3)
      (cond answer to (i + (size + 4))) done.way (omega arith) (omega arith) (omega (arith, at)) in
      record {
        last = moved done.before done.to;
        climbs = way.climbs;
        at = way.at;
        sees = seen_moved f own s done.before v.home done.to done.others g;
      }
  far_by false answer e code size i to s v done room high g has =
      let n = moved done.before done.to in
      let jump = jumps code n v.bytes (i + size + 2) to refl done.way.at (omega (arith, room, high)) high has in
      let way = way_on code s n (moved n (pc_of to)) v.bytes v.bytes v.bytes i (i + size + 2) (i + size + 2) (i + size + 2 + 2)
      (i + size + 2) to done.way jump (omega arith) in
      let at : to ≡ cond answer to (i + (size + 4)) = sym (ap (λ t. cond t to (i + (size + 4))) e) in
      let all = way_to code s (moved n (pc_of to)) v.bytes v.bytes i (i + size + 2 + 2) i (i + (size + 4)) to
      (cond answer to (i + (size + 4))) way (omega arith) (omega arith) at in
      record {
        last = moved n (pc_of to);
        climbs = all.climbs;
        at = all.at;
        sees = seen_moved f own s done.before v.home (pc_of to) done.others g;
      }

  opposite_is : (wanted t : Bool) → is_same_truth wanted t ≡ not (is_same_truth (not wanted) t)
  opposite_is true true = refl
  opposite_is true false = refl
  opposite_is false true = refl
  opposite_is false false = refl

  pub far_law : AskLaw mips_meaning f own mips_far
  far_law code q i to s v f_small own_small has at room high near back g can =
      let k = i + branch_at q + 2 in
      let word = branch_by q (not q.wanted) 3 in
      let last = jump_words k to in
      let leads = leads_forward (i + branch_at q) 3 (omega (arith, room)) (lit< tt) in
      let done = turned code f_small own_small s v i g at q.left q.right can.0 can.1 q.relation (not q.wanted) 3 (i + branch_at q + 1 + 3) last has
      (omega (arith, room)) leads in
      let behind = has_back code i (compared_words q.relation q.left q.right) (word ∷ no_op ∷ last) has in
      let jump = rest_at code (i + branch_at q + 1) no_op last (rest_at code (i + branch_at q) word (no_op ∷ last) behind) in
      let here : i + branch_at q + 1 + 1 ≡ k = omega arith in
      let x = Word code f own f_small own_small q.left v.home v.bytes in
      let y = Word code f own f_small own_small q.right v.home v.bytes in
      let r = related q.relation x y in
      far_by (is_same_truth (not q.wanted) r) (is_same_truth q.wanted r) (opposite_is q.wanted r) code (branch_at q) i to s v done room high
      g (subst (λ z. HasAt code z last) here jump)
