-- Lists of live variables that hold more than what is live, and those that hold what is live alone, line by line.
use Rattle.std.proofs.Common.{◌≡◌, ℕ, zero, suc, ◌+◌, List, [], ◌∷◌, drop, length, Some, refl, ap, subst, arith}
use Rattle.std.specs.Prelude.{slice_get}
use Rattle.ec_code.specs.declared.code.Line.{Line}
use Rattle.ec_code.specs.declared.code.Op.{Op}
use Rattle.ec_code.specs.declared.code.Variable.{Variable}
use Rattle.ec_code.specs.Fine.{Has, live_at}
use Rattle.ec_types.specs.declared.conform.static_type.StaticType.{StaticType}
use Rattle.ec_code.specs.Live.{IsLive}

-- a line at a place of code, with more and with exactly what is live there
pub record Narrowed (code : List Op) (q : ℕ) (w n : Line) : Type 0 where
  pub there : slice_get code q ≡ Some w.op
  pub same : n.op ≡ w.op
  pub only : (x : Variable) (t : StaticType) → Has n.live x t → IsLive code q x × Has w.live x t
  pub kept : (x : Variable) (t : StaticType) → IsLive code q x → Has w.live x t → Has n.live x t

-- from a place on
abbrev pub AllNarrowed : List Op → ℕ → List Line → List Line → Type 0
AllNarrowed code q [] [] = Unit {0}
AllNarrowed code q [] (n ∷ ns) = ⊥
AllNarrowed code q (w ∷ ws) [] = ⊥
AllNarrowed code q (w ∷ ws) (n ∷ ns) = Narrowed code q w n × AllNarrowed code (suc q) ws ns

pub same_length : (code : List Op) (q : ℕ) (ws ns : List Line) → AllNarrowed code q ws ns → length ns ≡ length ws
same_length code q [] [] a = refl
same_length code q [] (n ∷ ns) a = absurd a
same_length code q (w ∷ ws) [] a = absurd a
same_length code q (w ∷ ws) (n ∷ ns) a = ap suc (same_length code (suc q) ws ns a.1)

pub live_dropped : (lines : List Line) (k : ℕ) → live_at (drop k lines) 0 ≡ live_at lines k
live_dropped lines zero = refl
live_dropped [] (suc k) = refl
live_dropped (l ∷ ls) (suc k) = live_dropped ls k

module _ {code : List Op} where
  line_at :
      (q : ℕ) (ws ns : List Line) → AllNarrowed code q ws ns → (k : ℕ) (w : Line) → slice_get ws k ≡ Some w →
      (n : Line) × (slice_get ns k ≡ Some n) × Narrowed code (q + k) w n
  line_at q [] ns a k w e = cc
  line_at q (v ∷ ws) [] a k w e = absurd a
  line_at q (v ∷ ws) (n ∷ ns) a zero w e =
      let same : v ≡ w = cc in
      let at : q ≡ q + 0 = omega arith in
      (n, refl, subst (λ z. Narrowed code (q + 0) z n) same (subst (λ z. Narrowed code z v n) at a.0))
  line_at q (v ∷ ws) (n ∷ ns) a (suc k) w e =
      let r = line_at (suc q) ws ns a.1 k w e in
      let at : suc q + k ≡ q + suc k = omega arith in
      (r.0, r.1, subst (λ z. Narrowed code z w r.0) at r.2)

  pub has_at :
      (q : ℕ) (ws ns : List Line) → AllNarrowed code q ws ns → (k : ℕ) (x : Variable) (t : StaticType) →
      Has (live_at ns k) x t → IsLive code (q + k) x × Has (live_at ws k) x t
  has_at q [] [] a k x t h = absurd h
  has_at q [] (n ∷ ns) a k x t h = absurd a
  has_at q (w ∷ ws) [] a k x t h = absurd a
  has_at q (w ∷ ws) (n ∷ ns) a zero x t h =
      let r = a.0.only x t h in
      let at : q ≡ q + 0 = omega arith in
      (subst (λ z. IsLive code z x) at r.0, r.1)
  has_at q (w ∷ ws) (n ∷ ns) a (suc k) x t h =
      let r = has_at (suc q) ws ns a.1 k x t h in
      let at : suc q + k ≡ q + suc k = omega arith in
      (subst (λ z. IsLive code z x) at r.0, r.1)

  -- from the beginning
  pub line_from_start :
      (ws ns : List Line) → AllNarrowed code 0 ws ns → (k : ℕ) (w : Line) → slice_get ws k ≡ Some w →
      (n : Line) × (slice_get ns k ≡ Some n) × Narrowed code k w n
  line_from_start ws ns a k w e =
      let r = line_at 0 ws ns a k w e in
      let at : 0 + k ≡ k = omega arith in
      (r.0, r.1, subst (λ z. Narrowed code z w r.0) at r.2)

  pub has_from_start :
      (ws ns : List Line) → AllNarrowed code 0 ws ns → (k : ℕ) (x : Variable) (t : StaticType) → Has (live_at ns k) x t →
      IsLive code k x × Has (live_at ws k) x t
  has_from_start ws ns a k x t h =
      let r = has_at 0 ws ns a k x t h in
      let at : 0 + k ≡ k = omega arith in
      (subst (λ z. IsLive code z x) at r.0, r.1)
