-- Steps that give a named variable or a field a value.
use Rattle.std.proofs.Common.{◌≡◌, ◌≢◌, ℕ, suc, ◌<◌, ◌⊎◌, inl, inr, ⊎_elim, List, [], ◌∷◌, length, Some, None}
use Rattle.std.proofs.Common.{refl, sym, ap, ◌∙◌, subst, arith}
use Rattle.std.proofs.lemmas.Bool.{cases_eq, cases_lt}
use Rattle.std.specs.Prelude.{slice_get}
use Rattle.ec_code.specs.declared.code.Line.{Line}
use Rattle.ec_code.specs.declared.code.Op.{Op}
use Rattle.ec_code.specs.declared.code.Op.TheVariants as op
use Rattle.ec_code.specs.declared.code.Operand.{Operand}
use Rattle.ec_code.specs.declared.code.Variable.{Variable}
use Rattle.ec_code.specs.declared.code.Variable.TheVariants.{Named}
use Rattle.ec_code.specs.Fine.{Has, Writes, divisor_at, divisor_of}
use Rattle.ec_code.specs.Typing.{field_types, string}
use Rattle.ec_types.specs.declared.conform.static_type.StaticType.{StaticType}
use Rattle.ec_accepted.proofs.Frames.{Held, context}
use Rattle.ec_accepted.proofs.Pieces.{Setting, FitsAs, From, IsFineAt, LeadsTo, Piece, around_of, one_step}
use Rattle.ec_accepted.proofs.Pieces.{opened_divisor, opened_long}
use Rattle.ec_accepted.proofs.Shown.{IsOf, fine_operand, frame, live_in}
use Rattle.ec_accepted.proofs.Reaching.{Begins, Known, agreed, held_at, in_known, known_in, opened, passes, types}
use Rattle.ec_emission.specs.Types.{behind}

same_name : (m n : ℕ) → Named m ≡ Named n → m ≡ n
same_name m n e = cc

same_type : (t u : StaticType) → Some t ≡ Some u → t ≡ u
same_type t u e = cc

module _ (w : Setting) where
  -- Those that are known behind a step are known before it, but for the variable that is written.
  abbrev pub Covers : ℕ → ℕ → ℕ → Type 0
  Covers known n more = (k : ℕ) → k < more → (k ≡ n) ⊎ (k < known)

  pub all_covered : (known n : ℕ) → Covers known n known
  all_covered known n k l = inr l

  pub one_covered : (n : ℕ) → Covers n n (suc n)
  one_covered n k l = ⊎_elim (λ b. inr b) (λ b. let e : k ≡ n = omega arith in inl e) (cases_lt k n)

  named_written : (known n more : ℕ) (hs : Held) → Covers known n more → (s u : StaticType) →
      slice_get (types w) n ≡ Some u →
      FitsAs w s u → (x : Variable) (t : StaticType) → Known w more x t →
      ((x ≡ Named n) × FitsAs w s t) ⊎ ((x ≢ Named n) × Has (context (types w) (held_at known hs)) x t)
  named_written known n more hs covers s u at fits x t k = ⊎_elim here other (cases_eq k.number n)
    where
      here : k.number ≡ n → ((x ≡ Named n) × FitsAs w s t) ⊎ ((x ≢ Named n) × Has (context (types w) (held_at known hs))
          x t)
      here e =
          let same : u ≡ t = same_type u t (sym at ∙ ap (λ j. slice_get (types w) j) (sym e) ∙ k.of) in
          inl (k.is ∙ ap Named e, subst (λ z. FitsAs w s z) same fits)

      other : (k.number ≡ n → ⊥) →
          ((x ≡ Named n) × FitsAs w s t) ⊎ ((x ≢ Named n) × Has (context (types w) (held_at known hs)) x t)
      other ne =
          let before : k.number < known = ⊎_elim (λ e. absurd (ne e)) (λ l. l) (covers k.number k.below) in
          inr (
            (λ e. ne (same_name k.number n (sym k.is ∙ e))),
            in_known w known hs x t (record { number = k.number; is = k.is; below = before; of = k.of }),
          )

  writes_named : (known n more : ℕ) (hs : Held) → Covers known n more → (s u : StaticType) →
      slice_get (types w) n ≡ Some u →
      FitsAs w s u → (rest : List Line) → From w (held_at more []) rest →
      Writes w.declared w.parts rest (Named n) s (context (types w) (held_at known hs))
  writes_named known n more hs covers s u at fits rest opens = (
    opened_long w rest (held_at more []) opens,
    λ x t has.
        named_written known n more hs covers s u at fits x t (known_in w more x t (opened w (held_at more []) rest opens
        x t has)),
  )

  -- a step that gives a named variable a value of a type that fits there
  sets :
      (known n more : ℕ) (hs : Held) → Covers known n more → (s u : StaticType) → slice_get (types w) n ≡ Some u →
      FitsAs w s u →
      (step : Op) → divisor_of step ≡ None →
      ((all : List Line) (place : ℕ) (rest : List Line) →
      Writes w.declared w.parts rest (Named n) s (context (types w) (held_at known hs)) →
      IsFineAt w all place rest (context (types w) (held_at known hs)) step) →
      ((rest : List Line) → divisor_at rest 0 ≡ None → LeadsTo w rest step) →
      Piece w (step ∷ []) (held_at known hs) (From w (held_at more []))
  sets known n more hs covers s u at fits step none typed leads =
      one_step step none
      (λ all place rest opens e.
      record {
        typed = typed all place rest (writes_named known n more hs covers s u at fits rest opens);
        agrees = λ ts a. agreed w more rest opens (behind (around_of w) ts step);
        leads = leads rest (opened_divisor w rest (held_at more []) opens);
      })

  pub copies :
      (known n more : ℕ) (hs : Held) → Covers known n more → (a : Operand) (s u : StaticType) →
      IsOf (context (types w) (held_at known hs)) a s → FitsAs w s s → FitsAs w s u → slice_get (types w) n ≡ Some u →
      Piece w (op.Copy (Named n) a ∷ []) (held_at known hs) (From w (held_at more []))
  copies known n more hs covers a s u is own fits at =
      sets known n more hs covers s u at fits (op.Copy (Named n) a) refl
      (λ all place rest writes.
      (s, fine_operand w.declared w.parts (context (types w) (held_at known hs)) a s s is own, writes))
      (λ rest e. e)

  pub copies_text :
      (known n more index : ℕ) → Covers known n more → (u : StaticType) → FitsAs w string u →
      slice_get (types w) n ≡ Some u →
      index < length w.parts.literals →
      Piece w (op.Literal (Named n) index ∷ []) (held_at known []) (From w (held_at more []))
  copies_text known n more index covers u fits at there =
      sets known n more [] covers string u at fits (op.Literal (Named n) index) refl (λ all place rest writes. (
        there,
        writes,
      ))
      (λ rest e. e)

  -- a step that gives a field of the own object a value
  pub keeps :
      (n : ℕ) (hs : Held) (a : Operand) (s u : StaticType) → IsOf (live_in w hs) a s → FitsAs w s u →
      slice_get (field_types w.declared w.operation.class) n ≡ Some u →
      Piece w (op.SetField n a ∷ []) (frame w hs) (Begins w)
  keeps n hs a s u is fits at =
      one_step (op.SetField n a) refl
      (λ all place rest opens e.
      record {
        typed = ((u, at, fine_operand w.declared w.parts (live_in w hs) a s u is fits), passes w hs rest 0 opens);
        agrees = λ ts b. agreed w (length (types w)) rest opens (behind (around_of w) ts (op.SetField n a));
        leads = opened_divisor w rest (frame w []) opens;
      })
