-- What is left of lines, entry by entry.
use Rattle.std.proofs.Common.{◌≡◌, ◌==◌, ℕ, zero, suc, ◌+◌, ◌-◌, ◌<◌, ◌≤◌, List, [], ◌∷◌, ◌++◌, drop, take, length, get_or}
use Rattle.std.proofs.Common.{replicate, Some, refl, sym, ap, ◌∙◌, arith, add-one}
use Rattle.std.proofs.lemmas.Bool.Decides.{nat_tests}
use Rattle.ec_world.specs.declared.run.Entry.{Entry}
use Rattle.ec_world.specs.declared.run.Entry.TheVariants.{Turn, Move}
use Rattle.ec_world.specs.declared.run.RunEntry.{RunEntry}
use Rattle.ec_world.specs.Run.{entries_of, expanded, tail_of}
use Rattle.ec_report.specs.Lines.{HasLeft, entry_count, entry_of, first_of, left_of}

-- one of equal entries is taken, or all of them
one_taken : (x : RunEntry) (ys : List RunEntry) (n t : ℕ) → t < n → drop t (replicate n x ++ ys) ≡ x ∷ drop (suc t) (replicate n x ++ ys)
one_taken x ys zero t h = absurd (omega arith)
one_taken x ys (suc n) zero h = refl
one_taken x ys (suc n) (suc t) h = one_taken x ys n t (omega arith)

all_taken : (x : RunEntry) (ys : List RunEntry) (n : ℕ) → drop n (replicate n x ++ ys) ≡ ys
all_taken x ys zero = refl
all_taken x ys (suc n) = all_taken x ys n

-- a line stands for equal entries
equal_entries : (e : Entry) (ys : List RunEntry) → entries_of e ++ ys ≡ replicate (entry_count e) (entry_of e) ++ ys
equal_entries (Turn p times) ys = refl
equal_entries (Move o k) ys = refl

module _ (e : Entry) (es : List Entry) (t : ℕ) (h : t < entry_count e) where
  taken : left_of (e ∷ es) t ≡ entry_of e ∷ left_of (e ∷ es) (suc t)
  taken =
      ap (drop t) (equal_entries e (expanded es))
      ∙ (one_taken (entry_of e) (expanded es) (entry_count e) t h
      ∙ ap (λ (l : List RunEntry). entry_of e ∷ drop (suc t) l) (sym (equal_entries e (expanded es))))

  pub first_left : Some (entry_of e) ≡ first_of (left_of (e ∷ es) t)
  first_left = ap first_of (sym taken)

  pub rest_left : left_of (e ∷ es) (t + 1) ≡ tail_of (left_of (e ∷ es) t)
  rest_left = rw (add-one t) (ap tail_of (sym taken))

  pub none_of_line_left : entry_count e ≤ t + 1 → expanded es ≡ tail_of (left_of (e ∷ es) t)
  none_of_line_left k =
      let n : suc t ≡ entry_count e = omega arith in
      let all : left_of (e ∷ es) (suc t) ≡ expanded es =
      ap (drop (suc t)) (equal_entries e (expanded es))
      ∙ (ap (λ (j : ℕ). drop j (replicate (entry_count e) (entry_of e) ++ expanded es)) n
      ∙ all_taken (entry_of e) (expanded es) (entry_count e)) in
      sym all ∙ ap tail_of (sym taken)

-- ---- the first line of some

all_of : {A : Type 0} (xs : List A) → take (length xs) xs ≡ xs
all_of [] = refl
all_of (x ∷ xs) = ap (λ ys. x ∷ ys) (all_of xs)

module _ (d : Entry) (t : ℕ) where
  pub first_at : (ls : List Entry) (x : RunEntry) → 1 ≤ length ls → HasLeft ls t → x ≡ entry_of (get_or ls 0 d) →
      Some x ≡ first_of (left_of ls t)
  first_at [] x some h e = absurd (omega arith)
  first_at (l ∷ ls) x some h e = ap (λ (y : RunEntry). Some y) e ∙ first_left l ls t h

  pub rest_at : (ls : List Entry) → 1 ≤ length ls → HasLeft ls t → left_of ls (t + 1) ≡ tail_of (left_of ls t)
  rest_at [] some h = absurd (omega arith)
  rest_at (l ∷ ls) some h = rest_left l ls t h

  pub behind_at : (ls : List Entry) (n : ℕ) → 1 ≤ length ls → HasLeft ls t → n ≡ entry_count (get_or ls 0 d) → n ≤ t + 1 →
      expanded (take (length ls - 1) (drop 1 ls)) ≡ tail_of (left_of ls t)
  behind_at [] n some h e k = absurd (omega arith)
  behind_at (l ∷ ls) n some h e k =
      let one : length (l ∷ ls) - 1 ≡ length ls = omega arith in
      rw (one, all_of ls) (none_of_line_left l ls t h (rw e at k))
