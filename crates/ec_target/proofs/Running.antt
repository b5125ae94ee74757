-- Runs, step by step.
use Rattle.std.proofs.Common.{◌≡◌, ℕ, zero, suc, ◌+◌, ◌<◌, ◌≤◌, ◌^◌, refl, sym, ◌∙◌, subst, arith}
use Rattle.ec_base.specs.Bytes.{Bytes}
use Rattle.ec_target.specs.declared.outcome.Trap.{Trap}
use Rattle.ec_target.specs.Runs.{Going, Standing, Trapping, Leads, Native, IsEnd, Halts, IsOneWay, AreApart}

module _ {S : Type 0} (goes : Going S) where
  -- ---- how runs are put together

  pub leads_none : (m : S) (b : Bytes) → Leads goes m b 0 m b
  unfolding Leads
  leads_none m b = (refl, refl)

  -- one step before a run
  pub leads_first : (m : S) (b : Bytes) (u : S) (d : Bytes) (k : ℕ) (n : S) (c : Bytes) → goes m b u d → Leads goes u d k n c →
      Leads goes m b (suc k) n c
  unfolding Leads
  leads_first m b u d k n c st rest = (u, d, st, rest)

  pub leads_one : (m : S) (b : Bytes) (n : S) (c : Bytes) → goes m b n c → Leads goes m b 1 n c
  leads_one m b n c st = leads_first m b n c 0 n c st (leads_none n c)

  -- one step behind a run
  pub leads_more : (m : S) (b : Bytes) (k : ℕ) (n : S) (c : Bytes) (u : S) (d : Bytes) → Leads goes m b k n c → goes n c u d →
      Leads goes m b (k + 1) u d
  unfolding Leads
  leads_more m b zero n c u d (e, f) st = (u, d, subst (λ x. goes x b u d) e (subst (λ y. goes n y u d) f st), (refl, refl))
  leads_more m b (suc k) n c u d (v, w, first, rest) st =
      subst (λ j. Leads goes m b j u d) (let e : suc (k + 1) ≡ suc k + 1 = omega arith in e) (v, w, first, leads_more v w k n c u d rest st)

  -- one run behind another
  pub leads_append : (m : S) (b : Bytes) (j : ℕ) (n : S) (c : Bytes) (k : ℕ) (u : S) (d : Bytes) → Leads goes m b j n c →
      Leads goes n c k u d → Leads goes m b (j + k) u d
  unfolding Leads
  leads_append m b zero n c k u d (e, f) far =
      let none : k ≡ zero + k = omega arith in
      subst (λ i. Leads goes m b i u d) none (subst (λ x. Leads goes x b k u d) e (subst (λ y. Leads goes n y k u d) f far))
  leads_append m b (suc j) n c k u d (v, w, first, rest) far =
      subst (λ i. Leads goes m b i u d) (let e : suc (j + k) ≡ suc j + k = omega arith in e)
      (v, w, first, leads_append v w j n c k u d rest far)

  pub same_end : (m : S) (b : Bytes) (k : ℕ) (n : S) (c : Bytes) (u : S) (d : Bytes) → u ≡ n → d ≡ c → Leads goes m b k n c →
      Leads goes m b k u d
  same_end m b k n c u d e f l = subst (λ x. Leads goes m b k x d) (sym e) (subst (λ y. Leads goes m b k n y) (sym f) l)

  -- ---- where runs end

  -- a run that ends isn't passed
  pub not_past : IsOneWay goes → (m : S) (b : Bytes) (j k : ℕ) (n : S) (c : Bytes) (u : S) (d : Bytes) → Leads goes m b j n c →
      IsEnd goes n c → Leads goes m b k u d → k ≤ j
  unfolding Leads
  not_past one m b j zero n c u d l end far = omega arith
  not_past one m b zero (suc k) n c u d (e, f) end (v, w, first, rest) =
      absurd (end v w (subst (λ x. goes x c v w) (sym e) (subst (λ y. goes m y v w) (sym f) first)))
  not_past one m b (suc j) (suc k) n c u d (x, y, here, others) end (v, w, first, rest) =
      let same = one m b x y v w here first in
      let below = not_past one v w j k n c u d
      (subst (λ p. Leads goes p w j n c) same.0 (subst (λ q. Leads goes x q j n c) same.1 others)) end rest in
      omega arith

  -- a run that halts doesn't go on behind 2^64 - 1 steps
  pub not_on : IsOneWay goes → (m : S) (b : Bytes) (k : ℕ) (n : S) (c : Bytes) (u : S) (d : Bytes) → Halts goes m b →
      Leads goes m b k n c → 18446744073709551615 ≤ k → goes n c u d → ⊥
  not_on one m b k n c u d (j, t, e, below, leads, end) l far more =
      let past = not_past one m b j (k + 1) t e u d leads end (leads_more m b k n c u d l more) in
      omega arith

  -- so many steps lead to one state
  pub same_after : IsOneWay goes → (m : S) (b : Bytes) (k : ℕ) (n : S) (c : Bytes) (u : S) (d : Bytes) → Leads goes m b k n c →
      Leads goes m b k u d → (n ≡ u) × (c ≡ d)
  unfolding Leads
  same_after one m b zero n c u d (e, f) (g, h) = (e ∙ sym g, f ∙ sym h)
  same_after one m b (suc k) n c u d (x, y, first, rest) (v, w, first', rest') =
      let s = one m b x y v w first first' in
      same_after one v w k n c u d (subst (λ p. Leads goes p w k n c) s.0 (subst (λ q. Leads goes x q k n c) s.1 rest)) rest'

  -- two runs that end are one
  pub one_end : IsOneWay goes → (m : S) (b : Bytes) (j k : ℕ) (n : S) (c : Bytes) (u : S) (d : Bytes) → Leads goes m b j n c →
      IsEnd goes n c → Leads goes m b k u d → IsEnd goes u d → (j ≡ k) × (n ≡ u) × (c ≡ d)
  one_end one m b j k n c u d l e r f =
      let p = not_past one m b j k n c u d l e r in
      let q = not_past one m b k j u d n c r f l in
      let same : j ≡ k = omega arith in
      let ends = same_after one m b k n c u d (subst (λ i. Leads goes m b i n c) same l) r in
      (same, ends.0, ends.1)

-- ---- runs to a stop

module _ {S : Type 0} (goes : Going S) (stops : Standing S) (traps : Trapping S) (one : IsOneWay goes)
    (apart : AreApart goes stops traps) where
  -- a run to a stop is one: its length and where it ends
  pub one_native : (m : S) (b : Bytes) (j k : ℕ) (n : S) (c : Bytes) (u : S) (d : Bytes) → Native goes stops m b j n c →
      Native goes stops m b k u d → (j ≡ k) × (n ≡ u) × (c ≡ d)
  one_native m b j k n c u d l r =
      one_end goes one m b j k n c u d l.0 (λ v w st. apart.stop_stays n c v w l.1 st) r.0 (λ v w st. apart.stop_stays u d v w r.1 st)

  -- no state before the end of a run to a stop is at a stop
  pub no_stop_before : (m : S) (b : Bytes) (k : ℕ) (n : S) (c : Bytes) (j : ℕ) (u : S) (d : Bytes) → Native goes stops m b k n c →
      Leads goes m b j u d → stops u d → j ≡ k
  no_stop_before m b k n c j u d native leads stop = (one_native m b j k u d n c (leads, stop) native).0

  -- no state on the way to a stop traps
  pub native_no_trap : (m : S) (b : Bytes) (k : ℕ) (n : S) (c : Bytes) (j : ℕ) (u : S) (d : Bytes) (trap : Trap) →
      Native goes stops m b k n c → Leads goes m b j u d → traps u d trap → ⊥
  native_no_trap m b k n c j u d trap native leads t =
      let e = one_end goes one m b j k u d n c leads (λ v w st. apart.trap_stays u d trap v w t st) native.0
      (λ v w st. apart.stop_stays n c v w native.1 st) in
      apart.no_stop u d trap t (subst (λ x. stops x d) (sym e.1) (subst (λ y. stops n y) (sym e.2) native.1))

  pub native_halts : (m : S) (b : Bytes) (k : ℕ) (n : S) (c : Bytes) → Native goes stops m b k n c → k < 2 ^ 64 → Halts goes m b
  native_halts m b k n c native small = (k, n, c, small, native.0, λ v w st. apart.stop_stays n c v w native.1 st)
