-- What one step of three-address code comes to, by its place.
use Rattle.std.proofs.Common.{◌≡◌, ℕ, zero, suc, ◌+◌, List, [], ◌∷◌, map, drop, drop-drop, Option, Some, refl, ap, ◌∙◌, arith}
use Rattle.std.specs.Prelude.{slice_get}
use Rattle.ec_code.specs.Activations.{Arrived, walk, walk_by}
use Rattle.ec_code.specs.Steps.{Machine, Done, Goes, Rests, Loops, NoCase, act}
use Rattle.ec_code.specs.declared.code.Line.{Line}
use Rattle.ec_code.specs.declared.code.Op.{Op}
use Rattle.ec_emission.specs.Ops.{ops}
use Rattle.ec_world.specs.declared.common.Common.{Common}

-- the line at a place
pub record At (lines : List Line) (q : ℕ) (o : Op) : Type 0 where
  pub line : Line
  pub from : drop q lines ≡ line ∷ drop (suc q) lines
  pub has : line.op ≡ o

line_at : (lines : List Line) (q : ℕ) (o : Op) → slice_get (ops lines) q ≡ Some o → At lines q o
line_at [] q o e = cc
line_at (l ∷ lines) zero o e = let f : l.op ≡ o = cc in record { line = l; from = refl; has = f }
line_at (l ∷ lines) (suc q) o e = let r = line_at lines q o e in record { line = r.line; from = r.from; has = r.has }

module _ (literals : List (List ℕ)) (own : ℕ) where
  -- steps that are passed over
  later : (rest : List Line) (p over n : ℕ) (m : Machine) → n ≡ p + over →
      walk literals own p rest over m ≡ walk literals own n (drop over rest) 0 m
  later rest p zero n m e = ap (λ k. walk literals own k rest 0 m) (omega arith)
  later [] p (suc over) n m e = refl
  later (l ∷ rest) p (suc over) n m e = later rest (suc p) over n m (omega arith)

  module _ (lines : List Line) where
    -- from a place on
    abbrev pub from : ℕ → Machine → Common × Option Arrived
    from q m = walk literals own q (drop q lines) 0 m

    -- what is come to behind the step at a place
    abbrev pub from_done : ℕ → Machine → Done → Common × Option Arrived
    from_done q m d = walk_by q (λ over new. from (suc (q + over)) new) m d

    onward : (q : ℕ) (m : Machine) (d : Done) →
        walk_by q (walk literals own (suc q) (drop (suc q) lines)) m d ≡ from_done q m d
    onward q m (Goes new over) =
        let e : suc q + over ≡ suc (q + over) = omega arith in
        later (drop (suc q) lines) (suc q) over (suc (q + over)) new (omega arith)
        ∙ ap (λ l. walk literals own (suc (q + over)) l 0 new) (drop-drop over (suc q) lines ∙ ap (λ j. drop j lines) e)
    onward q m (Rests row operands) = refl
    onward q m (Loops back) = refl
    onward q m NoCase = refl

    pub one_op : (q : ℕ) (o : Op) (m : Machine) → slice_get (ops lines) q ≡ Some o →
        from q m ≡ from_done q m (act literals own m o)
    one_op q o m e =
        let r = line_at lines q o e in
        ap (λ l. walk literals own q l 0 m) r.from
        ∙ ap (λ p. walk_by q (walk literals own (suc q) (drop (suc q) lines)) m (act literals own m p)) r.has
        ∙ onward q m (act literals own m o)
