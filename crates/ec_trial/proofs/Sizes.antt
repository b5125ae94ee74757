-- How much is drawn, and how long the texts of it are.
use Rattle.std.proofs.Common.{◌≡◌, ℕ, zero, suc, ◌+◌, ◌*◌, ◌/◌, ◌<◌, ◌≤◌, Bool, true, false, if◌then◌else◌, List, [], ◌∷◌, ◌++◌}
use Rattle.std.proofs.Common.{length, refl, ap, arith, length-append, All}
use Rattle.std.proofs.Math.Nat.{mod-lt}
use Rattle.std.proofs.lemmas.Fmt.{length-decimal-le}
use Rattle.std.proofs.lemmas.List.Elements.{All-nil, All-cons, All-head, All-tail}
use Rattle.std.specs.Fmt.{decimal}
use Rattle.ec_report.specs.Report.{kind_text}
use Rattle.ec_world.specs.declared.node.Kind.{Kind}
use Rattle.ec_world.specs.declared.node.Kind.TheVariants.{Riscv, Mips}
use Rattle.ec_world.specs.declared.run.RunEntry.{RunEntry}
use Rattle.ec_world.specs.declared.run.RunEntry.TheVariants.{TurnOf, MoveOf}
use Rattle.ec_trial.specs.Draws.{answer, state_after, drawn, is_move, entry_from, draws_of_entry, drawn_from, kinds_from}
use Rattle.ec_trial.specs.Draws.{entries_from, node_count, worker_count}
use Rattle.ec_trial.specs.Laws.{IsSmall, IsEntryFor, AreShort}
use Rattle.ec_trial.specs.Texts.{cell_class, shared_line, worker_class, worker_line, worker_lines, source_text, node_text, node_texts}
use Rattle.ec_trial.specs.Texts.{nodes_text, entry_line, entry_lines, schedule_text}

-- ---- how much is drawn

answer-lt : (m x : ℕ) → 0 < m → answer m x < m
unfolding answer
answer-lt m x h = mod-lt (x / 65536) h

length-kinds : (count x : ℕ) → length (kinds_from count x) ≡ count
length-kinds zero x = refl
length-kinds (suc count) x = ap suc (length-kinds count (state_after 1 x))

length-entries : (count w m x : ℕ) → length (entries_from count w m x) ≡ count
unfolding entries_from
length-entries zero w m x = refl
length-entries (suc count) w m x = ap suc (length-entries count w m (state_after (draws_of_entry x) x))

pub small : (n : ℕ) → IsSmall (drawn_from n)
unfolding drawn_from
small n =
    let w = answer-lt 7 (state_after 1 n) (omega arith) in
    let t = answer-lt 20 (state_after 2 n) (omega arith) in
    let s = answer-lt 1000 (state_after 3 n) (omega arith) in
    let m = answer-lt 6 (state_after 4 n) (omega arith) in
    record {
      two_workers = omega arith;
      eight_workers = omega arith;
      most_rounds = omega arith;
      most_start = s;
      one_node = omega arith;
      six_nodes = omega arith;
      kinds = length-kinds (node_count n) (state_after 4 n);
      entries = length-entries 300 (worker_count n) (node_count n) (state_after (4 + node_count n) n);
    }

-- ---- what entries name

one_of : (b : Bool) (w m o k p : ℕ) → IsEntryFor w m (MoveOf o k) → IsEntryFor w m (TurnOf p) →
    IsEntryFor w m (if b then MoveOf o k else TurnOf p)
one_of true w m o k p move turn = move
one_of false w m o k p move turn = turn

entry-for : (w m x : ℕ) → 0 < m → IsEntryFor w m (entry_from w m x)
entry-for w m x h =
    let o = answer-lt (2 * w + 2) (state_after 2 x) (omega arith) in
    let k = answer-lt m (state_after 3 x) h in
    let p = answer-lt (w + 1) (state_after 2 x) (omega arith) in
    one_of (is_move x) w m (m + 1 + drawn 2 (2 * w + 2) x) (drawn 3 m x) (drawn 2 (w + 1) x) (omega arith, omega arith, k) p

entries-for : (count w m x : ℕ) → 0 < m → All (IsEntryFor w m) (entries_from count w m x)
unfolding entries_from
entries-for zero w m x h = All-nil (IsEntryFor w m)
entries-for (suc count) w m x h =
    All-cons (IsEntryFor w m) (entry_from w m x) (entries_from count w m (state_after (draws_of_entry x) x)) (entry-for w m x h)
    (entries-for count w m (state_after (draws_of_entry x) x) h)

pub named : (n : ℕ) → All (IsEntryFor (drawn_from n).workers (drawn_from n).nodes) (drawn_from n).entries
unfolding drawn_from
named n = entries-for 300 (worker_count n) (node_count n) (state_after (4 + node_count n) n) (omega arith)

-- ---- the texts

one_digit : (n : ℕ) → n < 10 → length (decimal n) ≤ 1
one_digit n h = length-decimal-le 1 n (omega arith) h (omega arith)

two_digits : (n : ℕ) → n < 100 → length (decimal n) ≤ 2
two_digits n h = length-decimal-le 2 n (omega arith) h (omega arith)

four_digits : (n : ℕ) → n < 10000 → length (decimal n) ≤ 4
four_digits n h = length-decimal-le 4 n (omega arith) h (omega arith)

length-entry_line : (w m : ℕ) (e : RunEntry) → w ≤ 8 → m ≤ 6 → IsEntryFor w m e → length (entry_line e) ≤ 14
length-entry_line w m (TurnOf p) hw hm f = let d = two_digits p (omega arith) in simp length-append (omega arith)
length-entry_line w m (MoveOf o k) hw hm f =
    let d = two_digits o (omega arith) in
    let e = one_digit k (omega arith) in
    simp length-append (omega arith)

length-entry_lines : (w m : ℕ) (es : List RunEntry) → w ≤ 8 → m ≤ 6 → All (IsEntryFor w m) es →
    length (entry_lines es) ≤ 14 * length es
length-entry_lines w m [] hw hm f = omega arith
length-entry_lines w m (e ∷ es) hw hm f =
    let one = length-entry_line w m e hw hm (All-head (IsEntryFor w m) e es f) in
    let rest = length-entry_lines w m es hw hm (All-tail (IsEntryFor w m) e es f) in
    rw (length-append (entry_line e) (entry_lines es)) (omega arith)

length-kind_text : (kind : Kind) → length (kind_text kind) ≤ 5
length-kind_text Riscv = omega arith
length-kind_text Mips = omega arith

length-node_text : (j : ℕ) (kind : Kind) → j < 10 → length (node_text j kind) ≤ 63
length-node_text j kind h =
    let d = one_digit j h in
    let k = length-kind_text kind in
    simp length-append (omega arith)

length-node_texts : (j : ℕ) (kinds : List Kind) → j + length kinds ≤ 10 → length (node_texts j kinds) ≤ 63 * length kinds
length-node_texts j [] h = omega arith
length-node_texts j (kind ∷ kinds) h =
    let one = length-node_text j kind (omega arith) in
    let rest = length-node_texts (suc j) kinds (omega arith) in
    rw (length-append (node_text j kind) (node_texts (suc j) kinds)) (omega arith)

length-worker_line : (i : ℕ) → i < 10 → length (worker_line i) ≤ 33
length-worker_line i h = let d = one_digit i h in simp length-append (omega arith)

length-worker_lines : (i count : ℕ) → i + count ≤ 10 → length (worker_lines i count) ≤ 33 * count
length-worker_lines i zero h = omega arith
length-worker_lines i (suc count) h =
    let one = length-worker_line i (omega arith) in
    let rest = length-worker_lines (suc i) count (omega arith) in
    rw (length-append (worker_line i) (worker_lines (suc i) count)) (omega arith)

length-cell_class : length cell_class ≤ 250
unfolding cell_class
length-cell_class = omega arith

length-worker_class : (rounds : ℕ) → rounds < 10000 → length (worker_class rounds) ≤ 400
unfolding worker_class
length-worker_class rounds h = let d = four_digits rounds h in simp length-append (omega arith)

length-shared_line : (start : ℕ) → start < 10000 → length (shared_line start) ≤ 40
length-shared_line start h = let d = four_digits start h in simp length-append (omega arith)

length-four : (a b c d : List ℕ) → length (a ++ b ++ c ++ d) ≡ length a + length b + length c + length d
length-four a b c d = simp length-append

pub short : (n : ℕ) → AreShort (drawn_from n)
unfolding source_text nodes_text schedule_text
short n =
    let d = drawn_from n in
    let s = small n in
    let shared = length-shared_line d.start (omega arith) in
    let class = length-worker_class d.rounds (omega arith) in
    let workers = length-worker_lines 0 d.workers (omega arith) in
    let nodes = length-node_texts 0 d.kinds (omega arith) in
    let entries = length-entry_lines d.workers d.nodes d.entries s.eight_workers s.six_nodes (named n) in
    record {
      source = rw (length-four cell_class (shared_line d.start) (worker_class d.rounds) (worker_lines 0 d.workers))
          (omega (arith, length-cell_class));
      nodes = omega arith;
      schedule = omega arith;
    }
