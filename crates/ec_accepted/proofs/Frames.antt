-- What is held at a place of an operation's code, with types: named variables up to a number, and temporaries. A frame
-- holds more than what is live.
use Rattle.std.proofs.Common.{◌≡◌, ◌≢◌, ℕ, zero, suc, ◌+◌, ◌<◌, ◌⊎◌, inl, inr, ⊎_elim, List, [], ◌∷◌, ◌++◌, take, length}
use Rattle.std.proofs.Common.{Option, Some, None, refl, sym, ap, ap₂, ◌∙◌, subst, arith}
use Rattle.std.specs.Prelude.{slice_get}
use Rattle.ec_code.specs.declared.code.Line.{Line}
use Rattle.ec_code.specs.declared.code.Live.{Live}
use Rattle.ec_code.specs.declared.code.Variable.{Variable}
use Rattle.ec_code.specs.declared.code.Variable.TheVariants.{Named, Temporary}
use Rattle.ec_code.specs.Fine.{Has, divisor_of}
use Rattle.ec_types.specs.declared.conform.static_type.StaticType.{StaticType}
use Rattle.ec_emission.specs.Types.{type_at, put_type}
use Rattle.ec_code.proofs.Among.{in_append, in_left, in_right}

abbrev typed : Variable → StaticType → Live
typed x t = record { variable = x; of = t }

-- A temporary without a type holds nothing that is read. The highest temporary stands first.
abbrev pub Held : Type 0
Held = List (Option StaticType)

pub record Frame : Type 0 where
  pub known : ℕ
  pub held : Held

abbrev named_from : ℕ → List StaticType → List Live
named_from n [] = []
named_from n (t ∷ ts) = record { variable = Named n; of = t } ∷ named_from (suc n) ts

abbrev held_lives : Held → List Live
held_lives [] = []
held_lives (None ∷ hs) = held_lives hs
held_lives (Some t ∷ hs) = record { variable = Temporary (length hs); of = t } ∷ held_lives hs

abbrev pub context : List StaticType → Frame → List Live
context variables f = named_from 0 (take f.known variables) ++ held_lives f.held

-- The code begins with such a line, which divides by nothing.
abbrev pub Opens : List StaticType → List Line → Frame → Type 0
Opens variables [] f = ⊥
Opens variables (l ∷ ls) f = (l.live ≡ context variables f) × (divisor_of l.op ≡ None)

-- ---- temporaries

abbrev IsHeld : Held → ℕ → StaticType → Type 0
IsHeld [] d t = ⊥
IsHeld (None ∷ hs) d t = IsHeld hs d t
IsHeld (Some s ∷ hs) d t = ((d ≡ length hs) × (t ≡ s)) ⊎ IsHeld hs d t

abbrev pub Within : Held → Held → Type 0
Within hs us = (d : ℕ) (t : StaticType) → IsHeld hs d t → IsHeld us d t

held_below : (hs : Held) (d : ℕ) (t : StaticType) → IsHeld hs d t → d < length hs
held_below [] d t h = absurd h
held_below (None ∷ hs) d t h = let b : d < length hs = held_below hs d t h in omega arith
held_below (Some s ∷ hs) d t (inl e) = let f : d ≡ length hs = e.0 in omega arith
held_below (Some s ∷ hs) d t (inr h) = let b : d < length hs = held_below hs d t h in omega arith

held_listed : (hs : Held) (d : ℕ) (t : StaticType) → IsHeld hs d t → Has (held_lives hs) (Temporary d) t
held_listed [] d t h = absurd h
held_listed (None ∷ hs) d t h = held_listed hs d t h
held_listed (Some s ∷ hs) d t (inl e) = inl (ap₂ (λ i u. typed (Temporary i) u) e.0 e.1)
held_listed (Some s ∷ hs) d t (inr h) = inr (held_listed hs d t h)

listed_held : (hs : Held) (x : Variable) (t : StaticType) → Has (held_lives hs) x t →
    (d : ℕ) × (x ≡ Temporary d) × IsHeld hs d t
listed_held [] x t h = absurd h
listed_held (None ∷ hs) x t h = listed_held hs x t h
listed_held (Some s ∷ hs) x t (inl e) =
    (length hs, ap (λ (l : Live). l.variable) e, inl (refl, ap (λ (l : Live). l.of) e))
listed_held (Some s ∷ hs) x t (inr h) = let r = listed_held hs x t h in (r.0, r.1, inr r.2)

-- ---- named variables

named_listed : (n : ℕ) (ts : List StaticType) (k : ℕ) (t : StaticType) → slice_get ts k ≡ Some t →
    Has (named_from n ts) (Named (n + k)) t
named_listed n [] k t e = cc
named_listed n (s ∷ ts) zero t e =
    let of : t ≡ s = cc in
    let at : n + 0 ≡ n = omega arith in
    inl (ap₂ (λ i u. typed (Named i) u) at of)
named_listed n (s ∷ ts) (suc k) t e =
    let at : suc n + k ≡ n + suc k = omega arith in
    inr (subst (λ j. Has (named_from (suc n) ts) (Named j) t) at (named_listed (suc n) ts k t e))

listed_named : (n : ℕ) (ts : List StaticType) (x : Variable) (t : StaticType) → Has (named_from n ts) x t →
    (k : ℕ) × (x ≡ Named (n + k)) × (slice_get ts k ≡ Some t)
listed_named n [] x t h = absurd h
listed_named n (s ∷ ts) x t (inl e) =
    let at : n ≡ n + 0 = omega arith in
    (0, ap (λ (l : Live). l.variable) e ∙ ap Named at, ap Some (sym (ap (λ (l : Live). l.of) e)))
listed_named n (s ∷ ts) x t (inr h) =
    let r = listed_named (suc n) ts x t h in
    let at : suc n + r.0 ≡ n + suc r.0 = omega arith in
    (suc r.0, r.1 ∙ ap Named at, r.2)

same_named : (n k : ℕ) → Named n ≡ Named k → n ≡ k
same_named n k e = cc

taken_below : (n : ℕ) (ts : List StaticType) (k : ℕ) (t : StaticType) → slice_get (take n ts) k ≡ Some t → k < length ts
taken_below zero ts k t e = cc
taken_below (suc n) [] k t e = cc
taken_below (suc n) (s ∷ ts) zero t e = let long : 0 < suc (length ts) = omega arith in long
taken_below (suc n) (s ∷ ts) (suc k) t e = let below : k < length ts = taken_below n ts k t e in omega arith

not_named : {A : Type 0} → (n d : ℕ) → Named n ≡ Temporary d → A
not_named n d e = cc

same_temporary : (d e : ℕ) → Temporary d ≡ Temporary e → d ≡ e
same_temporary d e f = cc

-- ---- the types of temporaries, one of them set

pub put_same : (ts : List StaticType) (d : ℕ) (t : StaticType) → type_at (put_type ts d t) d ≡ t
put_same [] zero t = refl
put_same [] (suc d) t = put_same [] d t
put_same (u ∷ ts) zero t = refl
put_same (u ∷ ts) (suc d) t = put_same ts d t

pub put_other : (ts : List StaticType) (d e : ℕ) (t : StaticType) → (e ≡ d → ⊥) → type_at (put_type ts d t) e ≡ type_at ts e
put_other [] zero zero t ne = absurd (ne refl)
put_other [] zero (suc e) t ne = refl
put_other [] (suc d) zero t ne = refl
put_other [] (suc d) (suc e) t ne = put_other [] d e t (λ f. ne (ap suc f))
put_other (u ∷ ts) zero zero t ne = absurd (ne refl)
put_other (u ∷ ts) zero (suc e) t ne = refl
put_other (u ∷ ts) (suc d) zero t ne = refl
put_other (u ∷ ts) (suc d) (suc e) t ne = put_other ts d e t (λ f. ne (ap suc f))

-- ---- contexts

module _ (variables : List StaticType) where
  -- what a frame holds: a named variable, or a temporary
  pub in_frame :
      (f : Frame) (x : Variable) (t : StaticType) → Has (context variables f) x t →
      ((k : ℕ) × (x ≡ Named k) × (slice_get (take f.known variables) k ≡ Some t))
      ⊎ ((d : ℕ) × (x ≡ Temporary d) × IsHeld f.held d t)
  in_frame f x t h =
      ⊎_elim (λ i. inl (from_zero (listed_named 0 (take f.known variables) x t i))) (λ i. inr (listed_held f.held x t i))
      (in_append (typed x t) (named_from 0 (take f.known variables)) (held_lives f.held) h)
    where
      from_zero : (k : ℕ) × (x ≡ Named (0 + k)) × (slice_get (take f.known variables) k ≡ Some t) →
          (k : ℕ) × (x ≡ Named k) × (slice_get (take f.known variables) k ≡ Some t)
      from_zero r = let at : 0 + r.0 ≡ r.0 = omega arith in (r.0, r.1 ∙ ap Named at, r.2)

  pub named_in :
      (f : Frame) (k : ℕ) (t : StaticType) → slice_get (take f.known variables) k ≡ Some t →
      Has (context variables f) (Named k) t
  named_in f k t e =
      let at : 0 + k ≡ k = omega arith in
      in_left (typed (Named k) t) (named_from 0 (take f.known variables)) (held_lives f.held)
      (subst (λ j. Has (named_from 0 (take f.known variables)) (Named j) t) at
      (named_listed 0 (take f.known variables) k t e))

  pub held_in : (f : Frame) (d : ℕ) (t : StaticType) → IsHeld f.held d t → Has (context variables f) (Temporary d) t
  held_in f d t h =
      in_right (typed (Temporary d) t) (named_from 0 (take f.known variables)) (held_lives f.held)
      (held_listed f.held d t h)

  -- fewer temporaries
  pub fewer_held :
      (known : ℕ) (hs us : Held) → Within hs us → (x : Variable) (t : StaticType) →
      Has (context variables (record { known = known; held = hs })) x t →
      Has (context variables (record { known = known; held = us })) x t
  fewer_held known hs us within x t h =
      let f : Frame = record { known = known; held = hs } in
      let g : Frame = record { known = known; held = us } in
      ⊎_elim (λ r. subst (λ z. Has (context variables g) z t) (sym r.1) (named_in g r.0 t r.2))
      (λ r. subst (λ z. Has (context variables g) z t) (sym r.1) (held_in g r.0 t (within r.0 t r.2))) (in_frame f x t h)

  -- one temporary more: it, or what was there
  pub one_more :
      (known : ℕ) (s : StaticType) (hs us : Held) → Within hs us → (x : Variable) (t : StaticType) →
      Has (context variables (record { known = known; held = Some s ∷ hs })) x t →
      ((x ≡ Temporary (length hs)) × (t ≡ s))
      ⊎ ((x ≢ Temporary (length hs)) × Has (context variables (record { known = known; held = us })) x t)
  one_more known s hs us within x t h =
      let f : Frame = record { known = known; held = Some s ∷ hs } in
      let g : Frame = record { known = known; held = us } in
      ⊎_elim
      (λ r.
      inr (
        (λ e. not_named r.0 (length hs) (sym r.1 ∙ e)),
        subst (λ z. Has (context variables g) z t) (sym r.1) (named_in g r.0 t r.2),
      ))
      (λ r. temporary r.0 r.1 r.2) (in_frame f x t h)
    where
      temporary : (d : ℕ) → x ≡ Temporary d → ((d ≡ length hs) × (t ≡ s)) ⊎ IsHeld hs d t →
          ((x ≡ Temporary (length hs)) × (t ≡ s))
          ⊎ ((x ≢ Temporary (length hs)) × Has (context variables (record { known = known; held = us })) x t)
      temporary d e (inl r) = inl (e ∙ ap Temporary r.0, r.1)
      temporary d e (inr r) =
          let g : Frame = record { known = known; held = us } in
          let below : d < length hs = held_below hs d t r in
          inr (
            (λ f. let same : d ≡ length hs = same_temporary d (length hs) (sym e ∙ f) in omega arith),
            subst (λ z. Has (context variables g) z t) (sym e) (held_in g d t (within d t r)),
          )

  -- a named variable in a frame is one of these
  pub named_there : (f : Frame) (n : ℕ) (t : StaticType) → Has (context variables f) (Named n) t → n < length variables
  named_there f n t h =
      ⊎_elim
      (λ r.
      let below : r.0 < length variables = taken_below f.known variables r.0 t r.2 in
      let same : n ≡ r.0 = same_named n r.0 r.1 in
      omega arith)
      (λ r. not_named n r.0 r.1) (in_frame f (Named n) t h)
