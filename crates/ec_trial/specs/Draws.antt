-- What a trial is made of, drawn from its number.
use Rattle.std.specs.Prelude.{ℕ, zero, suc, ◌+◌, ◌*◌, ◌/◌, ◌%◌, ◌^◌, ◌==◌, Bool, if◌then◌else◌, List, [], ◌∷◌}
use Rattle.ec_world.specs.declared.node.Kind.{Kind}
use Rattle.ec_world.specs.declared.node.Kind.TheVariants.{Riscv, Mips}
use Rattle.ec_world.specs.declared.run.RunEntry.{RunEntry}
use Rattle.ec_world.specs.declared.run.RunEntry.TheVariants.{TurnOf, MoveOf}
use Rattle.ec_trial.specs.declared.drawn.Drawn.{Drawn}

-- ---- the generator

-- the state behind a state (Press, Teukolsky, Vetterling, Flannery, Numerical Recipes in C, 1992, section 7.1: the quick generator)
unfoldable pub next_state : ℕ → ℕ
next_state x = (x * 1664525 + 1013904223) % 2 ^ 32

-- what a draw answers, one of m numbers from 0: its state's upper half, mod m
unfoldable pub answer : ℕ → ℕ → ℕ
answer m x = x / 65536 % m

-- the state after so many draws from state x on
abbrev pub state_after : ℕ → ℕ → ℕ
state_after zero x = x
state_after (suc count) x = next_state (state_after count x)

-- what the draw of this number, from 1, answers from state x on, as one of m
abbrev pub drawn : ℕ → ℕ → ℕ → ℕ
drawn number m x = answer m (state_after number x)

-- ---- the kinds of the nodes: one draw of 2 for each

abbrev pub kind_of : ℕ → Kind
kind_of zero = Riscv
kind_of (suc k) = Mips

-- the kinds of so many nodes, from state x on
abbrev pub kinds_from : ℕ → ℕ → List Kind
kinds_from zero x = []
kinds_from (suc count) x = kind_of (drawn 1 2 x) ∷ kinds_from count (state_after 1 x)

-- ---- the entries: one in five is a move

abbrev pub is_move : ℕ → Bool
is_move x = drawn 1 5 x == 0

-- An entry for w workers on m nodes, from state x on. The program's own object has the number m + 1, the shared cell the next one,
-- and each worker and its cell one each; process 0 is the one that evaluates constants, and each worker has one.
abbrev pub entry_from : ℕ → ℕ → ℕ → RunEntry
entry_from w m x = if is_move x then MoveOf (m + 1 + drawn 2 (2 * w + 2) x) (drawn 3 m x) else TurnOf (drawn 2 (w + 1) x)

abbrev pub draws_of_entry : ℕ → ℕ
draws_of_entry x = if is_move x then 3 else 2

-- so many entries, from state x on
unfoldable pub entries_from : ℕ → ℕ → ℕ → ℕ → List RunEntry
entries_from zero w m x = []
entries_from (suc count) w m x = entry_from w m x ∷ entries_from count w m (state_after (draws_of_entry x) x)

-- ---- all of it

abbrev pub worker_count : ℕ → ℕ
worker_count n = 2 + drawn 1 7 n

abbrev pub node_count : ℕ → ℕ
node_count n = 1 + drawn 4 6 n

-- the number of entries
abbrev pub entry_count : ℕ
entry_count = 300

-- what is drawn from n: four numbers, the kinds, the entries
unfoldable pub drawn_from : ℕ → Drawn
drawn_from n = record {
  workers = worker_count n;
  rounds = 100 * (1 + drawn 2 20 n);
  start = drawn 3 1000 n;
  nodes = node_count n;
  kinds = kinds_from (node_count n) (state_after 4 n);
  entries = entries_from entry_count (worker_count n) (node_count n) (state_after (4 + node_count n) n);
}
