-- Each temporary that is live at a place of code with clear stops is in use there.
use Rattle.std.proofs.Common.{◌≡◌, ◌≢◌, ℕ, zero, suc, ◌+◌, inl, inr, Bool, true, false, List, [], ◌∷◌, drop, if◌then◌else◌}
use Rattle.std.proofs.Common.{Option, Some, None, slice_get, sym, ap, ◌∙◌, subst, arith}
use Rattle.std.proofs.lemmas.Option.{same_Some}
use Rattle.ec_code.specs.Fine.{IsIn}
use Rattle.ec_code.specs.declared.code.Op.{Op}
use Rattle.ec_code.specs.declared.code.Op.TheVariants as op
use Rattle.ec_code.specs.declared.code.Variable.{Variable}
use Rattle.ec_code.specs.declared.code.Variable.TheVariants.{Named, Temporary}
use Rattle.ec_runnable.proofs.Uses.{AreClear, IsClearStep, but_for_others, but_for_written, temporaries_in, uses, uses_at, uses_behind}
use Rattle.ec_runnable.proofs.Uses.{uses_dropped, uses_of}
use Rattle.ec_code.proofs.Among.{in_left, in_right}
use Rattle.ec_code.specs.Live.{IsLive, goes_on, is_passed, is_read, reads, stays, writes}

-- the temporary is among these; of a named variable nothing is said
abbrev pub IsUsed : List ℕ → Variable → Type 0
IsUsed us (Named n) = Unit {0}
IsUsed us (Temporary d) = IsIn d us

-- ---- what is read, written and passed

read_used : (xs : List Variable) (x : Variable) → IsIn x xs → IsUsed (temporaries_in xs) x
read_used [] x i = absurd i
read_used (y ∷ xs) (Named n) i = tt
read_used (Named m ∷ xs) (Temporary d) (inl e) = absurd (let f : Temporary d ≡ Named m = e in cc)
read_used (Named m ∷ xs) (Temporary d) (inr i) = read_used xs (Temporary d) i
read_used (Temporary k ∷ xs) (Temporary d) (inl e) = inl (let f : Temporary d ≡ Temporary k = e in cc)
read_used (Temporary k ∷ xs) (Temporary d) (inr i) = inr (read_used xs (Temporary d) i)

pub unwritten : (w : Option Variable) (us : List ℕ) (d : ℕ) → w ≢ Some (Temporary d) → IsIn d us → IsIn d (but_for_written w us)
unwritten None us d ne i = i
unwritten (Some (Named n)) us d ne i = i
unwritten (Some (Temporary k)) us d ne i = but_for_others k us d i (λ e. ne (ap (λ j. Some (Temporary j)) (sym e)))

-- ---- the uses at a place and behind it

here_used : (ops : List Op) (q : ℕ) (o : Op) → slice_get ops q ≡ Some o →
    uses_at (uses ops []) q ≡ uses_of o (drop (suc q) (uses ops []))
here_used [] q o e = absurd cc
here_used (x ∷ ops) zero o e = ap (λ (z : Op). uses_of z (uses ops [])) (same_Some x o e)
here_used (x ∷ ops) (suc q) o e = here_used ops q o e

clear_at : (all : List (List ℕ)) (place : ℕ) (ops : List Op) (q : ℕ) (o : Op) → AreClear all place ops [] → slice_get ops q ≡ Some o →
    IsClearStep all (place + q) o (drop (suc q) (uses ops []))
clear_at all place [] q o h e = absurd cc
clear_at all place (x ∷ ops) zero o h e =
    let at : place ≡ place + 0 = omega arith in
    subst (λ (j : ℕ). IsClearStep all j o (uses ops [])) at
    (subst (λ (z : Op). IsClearStep all place z (uses ops [])) (same_Some x o e) h.0)
clear_at all place (x ∷ ops) (suc q) o h e =
    let at : suc place + q ≡ place + suc q = omega arith in
    subst (λ (j : ℕ). IsClearStep all j o (drop (suc q) (uses ops []))) at (clear_at all (suc place) ops q o h.1 e)

module _ (all : List (List ℕ)) (q d : ℕ) where
  abbrev rest : List (List ℕ)
  rest = drop (suc q) all

  abbrev pub Used : ℕ → Type 0
  Used p = IsIn d (uses_at all p)

  next_used : (p : ℕ) → IsIn p (suc q ∷ []) → Used p → IsIn d (uses_at (drop (suc q) all) 0)
  next_used p (inl e) i =
      let at : suc q ≡ suc q + 0 = omega arith in
      subst (IsIn d) (sym (uses_dropped all (suc q) 0)) (subst Used (e ∙ at) i)
  next_used p (inr none) i = absurd none

  further_used : (over p : ℕ) → IsIn p (suc (q + over) ∷ []) → Used p → IsIn d (uses_at (drop (suc q) all) over)
  further_used over p (inl e) i =
      let at : suc (q + over) ≡ suc q + over = omega arith in
      subst (IsIn d) (sym (uses_dropped all (suc q) over)) (subst Used (e ∙ at) i)
  further_used over p (inr none) i = absurd none

  stays_used : (b : Bool) (p : ℕ) → IsIn p (if b then suc q ∷ [] else []) → Used p → IsIn d (uses_at (drop (suc q) all) 0)
  stays_used true p g i = next_used p g i
  stays_used false p g i = absurd g

  back_used : (o : Op) (p : ℕ) → IsIn p (goes_on o q) → IsClearStep all q o (drop (suc q) all) → Used p →
      IsIn d (uses_behind o (drop (suc q) all))
  back_used (op.Copy to from) p g c i = next_used p g i
  back_used (op.Literal to index) p g c i = next_used p g i
  back_used (op.Itself to) p g c i = next_used p g i
  back_used (op.Field to n) p g c i = next_used p g i
  back_used (op.SetField n from) p g c i = next_used p g i
  back_used (op.Constant to index) p g c i = next_used p g i
  back_used (op.Compute how to left right) p g c i = next_used p g i
  back_used (op.Decide to t wanted) p g c i = next_used p g i
  back_used (op.Branch t wanted over) p (inl e) c i = in_left d _ _ (next_used p (inl e) i)
  back_used (op.Branch t wanted over) p (inr g) c i = in_right d _ _ (further_used over p g i)
  back_used (op.Jump over) p g c i = further_used over p g i
  back_used (op.Again back) p (inl e) c i = absurd (subst (IsIn d) (ap (uses_at all) e ∙ c) i)
  back_used (op.Again back) p (inr none) c i = absurd none
  back_used (op.Rest row) p g c i = stays_used (stays row.stop) p g i

-- ---- what is live

module _ (ops : List Op) (clear : AreClear (uses ops []) 0 ops []) where
  passed_used : (x : Variable) (q : ℕ) (o : Op) (p : ℕ) → slice_get ops q ≡ Some o → writes o ≢ Some x → IsIn p (goes_on o q) →
      IsUsed (uses_at (uses ops []) p) x → IsUsed (uses_at (uses ops []) q) x
  passed_used (Named n) q o p is ne g u = tt
  passed_used (Temporary d) q o p is ne g u =
      let all : List (List ℕ) = uses ops [] in
      let at : 0 + q ≡ q = omega arith in
      let c : IsClearStep all q o (drop (suc q) all) =
      subst (λ (j : ℕ). IsClearStep all j o (drop (suc q) all)) at (clear_at all 0 ops q o clear is) in
      subst (IsIn d) (sym (here_used ops q o is))
      (in_right d (temporaries_in (reads o)) _ (unwritten (writes o) _ d ne (back_used all q d o p g c u)))

  read_here : (x : Variable) (q : ℕ) (o : Op) → slice_get ops q ≡ Some o → IsIn x (reads o) → IsUsed (uses_at (uses ops []) q) x
  read_here (Named n) q o is i = tt
  read_here (Temporary d) q o is i =
      subst (IsIn d) (sym (here_used ops q o is)) (in_left d (temporaries_in (reads o)) _ (read_used (reads o) (Temporary d) i))

  pub live_used : {q : ℕ} {x : Variable} → IsLive ops q x → IsUsed (uses_at (uses ops []) q) x
  live_used {q} {x} (is_read o is i) = read_here x q o is i
  live_used {q} {x} (is_passed o p is ne g l) = passed_used x q o p is ne g (live_used l)

  -- the stop at a place, by what is in use behind it
  pub clear_here : (q : ℕ) (o : Op) → slice_get ops q ≡ Some o → IsClearStep (uses ops []) q o (drop (suc q) (uses ops []))
  clear_here q o is =
      let at : 0 + q ≡ q = omega arith in
      subst (λ (j : ℕ). IsClearStep (uses ops []) j o (drop (suc q) (uses ops []))) at (clear_at (uses ops []) 0 ops q o clear is)
