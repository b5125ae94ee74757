-- What is wanted of the lines behind the code of a statement: they begin where all named variables are known and no
-- value is held;
-- and so do those that an exit leads to.
use Rattle.std.proofs.Common.{◌≡◌, ℕ, zero, suc, ◌+◌, ◌-◌, ◌<◌, List, [], ◌∷◌, ◌++◌, drop, length, take, Some, None}
use Rattle.std.proofs.Common.{refl, sym, ap, ◌∙◌, subst, arith, ⊎_elim}
use Rattle.std.proofs.lemmas.List.{drop-drop, drop_at, length-drop, length-map}
use Rattle.std.specs.Prelude.{slice_get}
use Rattle.ec_code.specs.declared.code.Line.{Line}
use Rattle.ec_code.specs.declared.code.Op.{Op}
use Rattle.ec_code.specs.declared.code.Variable.{Variable}
use Rattle.ec_code.specs.declared.code.Variable.TheVariants.{Named}
use Rattle.ec_code.specs.Fine.{Has, Passes, divisor_at, live_at}
use Rattle.ec_types.specs.declared.conform.static_type.StaticType.{StaticType}
use Rattle.ec_accepted.proofs.Frames.{Held, Frame, context, fewer_held, in_frame, named_in}
use Rattle.ec_accepted.proofs.Narrowed.{live_dropped}
use Rattle.ec_accepted.proofs.Pieces.{Setting, Agrees, From, Piece, around_of, opened_divisor, opened_live, opened_long}
use Rattle.ec_accepted.proofs.Shown.{frame, live_in}
use Rattle.ec_emission.specs.Types.{type_at, variable_type}

-- ---- lists

no_some : {A B : Type 0} → (x : A) → None ≡ Some x → B
no_some x e = cc

same_some : {A : Type 0} → (x y : A) → Some x ≡ Some y → x ≡ y
same_some x y e = cc

taken : (n : ℕ) (ts : List StaticType) (k : ℕ) (t : StaticType) → slice_get (take n ts) k ≡ Some t →
    (k < n) × (slice_get ts k ≡ Some t)
taken zero ts k t e = no_some t e
taken (suc n) [] k t e = no_some t e
taken (suc n) (u ∷ ts) zero t e = let l : 0 < suc n = omega arith in (l, e)
taken (suc n) (u ∷ ts) (suc k) t e =
    let r = taken n ts k t e in
    let b : k < n = r.0 in
    let l : suc k < suc n = omega arith in
    (l, r.1)

pub taking : (n : ℕ) (ts : List StaticType) (k : ℕ) (t : StaticType) → k < n → slice_get ts k ≡ Some t →
    slice_get (take n ts) k ≡ Some t
taking zero ts k t l e = absurd (omega arith)
taking (suc n) [] k t l e = no_some t e
taking (suc n) (u ∷ ts) zero t l e = e
taking (suc n) (u ∷ ts) (suc k) t l e = let b : k < n = omega arith in taking n ts k t b e

type_there : (ts : List StaticType) (k : ℕ) (t : StaticType) → slice_get ts k ≡ Some t → type_at ts k ≡ t
type_there [] k t e = no_some t e
type_there (u ∷ ts) zero t e = same_some u t e
type_there (u ∷ ts) (suc k) t e = type_there ts k t e

pub within_length : (ts : List StaticType) (k : ℕ) (t : StaticType) → slice_get ts k ≡ Some t → k < length ts
within_length [] k t e = no_some t e
within_length (u ∷ ts) zero t e = let l : 0 < suc (length ts) = omega arith in l
within_length (u ∷ ts) (suc k) t e = let b : k < length ts = within_length ts k t e in omega arith

dropped_divisor : (lines : List Line) (k : ℕ) → divisor_at (drop k lines) 0 ≡ divisor_at lines k
dropped_divisor lines zero = refl
dropped_divisor [] (suc k) = refl
dropped_divisor (l ∷ ls) (suc k) = dropped_divisor ls k

-- so many named variables are known, and values are held
abbrev pub held_at : ℕ → Held → Frame
held_at known hs = record { known = known; held = hs }

module _ (w : Setting) where
  abbrev pub types : List StaticType
  types = w.operation.variables

  -- ---- lines that begin with a frame

  pub opened : (f : Frame) (rest : List Line) → From w f rest → (x : Variable) (t : StaticType) → Has (live_at rest 0) x t →
      Has (context types f) x t
  opened f rest h x t has = subst (λ z. Has z x t) (opened_live w rest f h) has

  -- ---- named variables alone

  -- a variable that is known, where no value is held
  pub record Known (known : ℕ) (x : Variable) (t : StaticType) : Type 0 where
    pub number : ℕ
    pub is : x ≡ Named number
    pub below : number < known
    pub of : slice_get types number ≡ Some t

  pub known_in : (known : ℕ) (x : Variable) (t : StaticType) → Has (context types (held_at known [])) x t → Known known x t
  known_in known x t has =
      ⊎_elim
      (λ r. let e = taken known types r.0 t r.2 in record { number = r.0; is = r.1; below = e.0; of = e.1 })
      (λ r. absurd r.2) (in_frame types (held_at known []) x t has)

  pub in_known : (known : ℕ) (hs : Held) (x : Variable) (t : StaticType) → Known known x t →
      Has (context types (held_at known hs)) x t
  in_known known hs x t k =
      subst (λ z. Has (context types (held_at known hs)) z t) (sym k.is)
      (named_in types (held_at known hs) k.number t (taking known types k.number t k.below k.of))

  -- Each has its declared type, whatever the temporaries have.
  pub agreed : (known : ℕ) (rest : List Line) → From w (held_at known []) rest → (ts : List StaticType) →
      Agrees w ts (live_at rest 0)
  agreed known rest h ts x t has =
      let k : Known known x t = known_in known x t (opened (held_at known []) rest h x t has) in
      subst (λ z. variable_type (around_of w) ts z ≡ t) (sym k.is) (type_there types k.number t k.of)

  -- ---- lines where statements begin

  abbrev pub Begins : List Line → Type 0
  Begins rest = From w (frame w []) rest

  -- and so do those behind so many of them
  abbrev pub Continues : ℕ → List Line → Type 0
  Continues left rest = Begins rest × Begins (drop left rest)

  pub fewer : (hs : Held) (x : Variable) (t : StaticType) → Has (live_in w []) x t → Has (live_in w hs) x t
  fewer hs x t has = fewer_held types (length types) [] hs (λ d u h. absurd h) x t has

  pub passes : (hs : Held) (rest : List Line) (k : ℕ) → Begins (drop k rest) →
      Passes w.declared w.parts rest k (live_in w hs)
  passes hs rest k h =
      let long : 0 < length (drop k rest) = opened_long w (drop k rest) (frame w []) h in
      let l : length (drop k rest) ≡ length rest - k = length-drop k rest in
      let there : k < length rest = omega arith in (
        there,
        λ x t has.
            fewer hs x t (opened (frame w []) (drop k rest) h x t (subst (λ z. Has z x t) (sym (live_dropped rest k)) has)),
      )

  pub divides_nothing : (rest : List Line) (k : ℕ) → Begins (drop k rest) → divisor_at rest k ≡ None
  divides_nothing rest k h = sym (dropped_divisor rest k) ∙ opened_divisor w (drop k rest) (frame w []) h

  -- ---- behind the lines of a piece

  pub lines_length : {ops : List Op} {f : Frame} {B : List Line → Type 0} → (y : Piece w ops f B) →
      length y.lines ≡ length ops
  lines_length y = sym (length-map y.lines (λ (l : Line). l.op)) ∙ ap length y.are

  pub behind_piece : {ops : List Op} {f : Frame} {B : List Line → Type 0} → (y : Piece w ops f B) (rest : List Line) →
      drop (length ops) (y.lines ++ rest) ≡ rest
  behind_piece {ops} y rest = drop_at y.lines rest (length ops) (lines_length y)

  pub further_behind : {ops : List Op} {f : Frame} {B : List Line → Type 0} →
      (y : Piece w ops f B) (left : ℕ) (rest : List Line) →
      drop (length ops + left) (y.lines ++ rest) ≡ drop left rest
  further_behind {ops} y left rest =
      sym (drop-drop left (length ops) (y.lines ++ rest)) ∙ ap (λ z. drop left z) (behind_piece y rest)

  -- ---- less that is wanted, and the same code

  pub wanting : {ops : List Op} {f : Frame} {B C : List Line → Type 0} → Piece w ops f B → ((rest : List Line) →
      C rest → B rest) →
      Piece w ops f C
  wanting x g = record {
    lines = x.lines;
    are = x.are;
    opens = λ rest c. x.opens rest (g rest c);
    steps = λ all place rest e c. x.steps all place rest e (g rest c);
    named = x.named;
  }

  pub as_ops : {ops more : List Op} {f : Frame} {B : List Line → Type 0} → ops ≡ more → Piece w ops f B → Piece w more f B
  as_ops {f = f} {B = B} e x = subst (λ z. Piece w z f B) e x
