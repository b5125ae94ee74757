-- What is still to be drawn or written, one step further.
use Rattle.std.proofs.Common.{◌≡◌, ℕ, zero, suc, ◌+◌, ◌-◌, ◌<◌, ◌≤◌, List, [], ◌∷◌, ◌++◌, refl, ap, sym, ◌∙◌, arith, add-suc}
use Rattle.std.proofs.Common.{append_assoc, append-nil, add-one}
use Rattle.ec_world.specs.declared.node.Kind.{Kind}
use Rattle.ec_world.specs.declared.run.RunEntry.{RunEntry}
use Rattle.ec_trial.specs.Draws.{next_state, state_after, drawn, kind_of, kinds_from, entry_from, draws_of_entry, entries_from}
use Rattle.ec_trial.specs.Texts.{worker_line, worker_lines}

left : (count i : ℕ) → i < count → count - i ≡ suc (count - (i + 1))
left count i h = omega arith

none-left : (count i : ℕ) → count ≤ i → count - i ≡ 0
none-left count i h = omega arith

pub kinds-next : (old new whole : List Kind) (kind : Kind) (count i x y : ℕ) → i < count → new ≡ old ++ kind ∷ [] →
    kind ≡ kind_of (drawn 1 2 x) → y ≡ state_after 1 x → old ++ kinds_from (count - i) x ≡ whole →
    new ++ kinds_from (count - (i + 1)) y ≡ whole
kinds-next old new whole kind count i x y h n k s e = rw (n, k, s, append_assoc) (rw (left count i h) at e)

pub entries-next : (old new whole : List RunEntry) (entry : RunEntry) (count i w m x y : ℕ) → i < count → new ≡ old ++ entry ∷ [] →
    entry ≡ entry_from w m x → y ≡ state_after (draws_of_entry x) x → old ++ entries_from (count - i) w m x ≡ whole →
    new ++ entries_from (count - (i + 1)) w m y ≡ whole
unfolding entries_from
entries-next old new whole entry count i w m x y h n k s e = rw (n, k, s, append_assoc) (rw (left count i h) at e)

pub entries-end : (old whole : List RunEntry) (count i w m x : ℕ) → count ≤ i → old ++ entries_from (count - i) w m x ≡ whole →
    old ≡ whole
unfolding entries_from
entries-end old whole count i w m x h e = sym (append-nil old) ∙ (rw (none-left count i h) at e)

pub workers-next : (old new whole : List ℕ) (count i : ℕ) → i < count → new ≡ old ++ worker_line i →
    old ++ worker_lines i (count - i) ≡ whole → new ++ worker_lines (i + 1) (count - (i + 1)) ≡ whole
workers-next old new whole count i h n e =
    let k = rw (left count i h) at e in
    let s : worker_lines (suc i) (count - (i + 1)) ≡ worker_lines (i + 1) (count - (i + 1)) =
    ap (λ (j : ℕ). worker_lines j (count - (i + 1))) (sym (add-one i)) in
    rw (n, append_assoc old (worker_line i) (worker_lines (i + 1) (count - (i + 1))), ← s) k

-- draws in two parts
pub state-sum : (a b x : ℕ) → state_after (a + b) x ≡ state_after b (state_after a x)
state-sum a zero x = let e : a + zero ≡ a = omega arith in rw e refl
state-sum a (suc b) x = rw add-suc (ap next_state (state-sum a b x))
