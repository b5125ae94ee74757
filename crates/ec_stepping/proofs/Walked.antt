-- A walk, step by step.
use Rattle.std.proofs.Common.{◌≡◌, ℕ, zero, suc, ◌+◌, ◌<◌, ◌≤◌, List, [], ◌∷◌, length, get_or, Option, Some, None, drop, refl, sym, ap, ◌∙◌}
use Rattle.std.proofs.Common.{arith}
use Rattle.std.specs.Prelude.{slice_get}
use Rattle.ec_base.proofs.Lists.{drop_at}
use Rattle.ec_code.specs.Activations.{Arrived, walk, walk_by}
use Rattle.ec_code.specs.Steps.{Machine, Done, Goes, Rests, Loops, NoCase, act}
use Rattle.ec_code.specs.declared.code.Line.{Line}
use Rattle.ec_code.specs.declared.code.Op.{Op}
use Rattle.ec_code.specs.declared.code.Op.TheVariants as op
use Rattle.ec_code.specs.declared.code.StopRow.{StopRow}
use Rattle.ec_stepping.specs.Stepping.{On, Resting, Looping, Stuck, after, rests_as, rests_at}
use Rattle.ec_world.specs.declared.common.Common.{Common}
use Rattle.ec_world.specs.declared.value.Value.{Value}

drop_nothing : {A : Type 0} (n : ℕ) → drop {A = A} n [] ≡ []
drop_nothing zero = refl
drop_nothing (suc n) = refl

drop_drop : {A : Type 0} (a b : ℕ) (xs : List A) → drop b (drop a xs) ≡ drop (a + b) xs
drop_drop zero b xs = let e : b ≡ 0 + b = omega arith in ap (λ k. drop k xs) e
drop_drop (suc a) b [] = drop_nothing b ∙ sym (drop_nothing (suc a + b))
drop_drop (suc a) b (x ∷ xs) =
    let e : suc (a + b) ≡ suc a + b = omega arith in drop_drop a b xs ∙ ap (λ k. drop k (x ∷ xs)) e

-- what is read of a list within it
pub there : {A : Type 0} (xs : List A) (i : ℕ) (x : A) → i < length xs → x ≡ get_or xs i x → slice_get xs i ≡ Some x
there [] i x h e = absurd (omega (arith, h))
there (y ∷ xs) zero x h e = ap Some (sym e)
there (y ∷ xs) (suc i) x h e = there xs i x (omega (arith, h)) e

abbrev pub nowhere : ℕ → Machine → Common × Option Arrived
nowhere over n = (n.common, None)

module _ (literals : List (List ℕ)) (own : ℕ) where
  abbrev Walk : Type 0
  Walk = Common × Option Arrived

  -- steps that are passed over
  passed : (rest : List Line) (place over : ℕ) (m : Machine) →
      walk literals own place rest over m ≡ walk literals own (place + over) (drop over rest) 0 m
  passed [] place zero m = refl
  passed [] place (suc over) m = refl
  passed (line ∷ rest) place zero m =
      let same : place ≡ place + 0 = omega arith in ap (λ k. walk literals own k (line ∷ rest) 0 m) same
  passed (line ∷ rest) place (suc over) m =
      let same : suc place + over ≡ place + suc over = omega arith in
      passed rest (suc place) over m ∙ ap (λ k. walk literals own k (drop over rest) 0 m) same

  module _ (code : List Line) (place : ℕ) (line : Line) (at : slice_get code place ≡ Some line) where
    abbrev next : ℕ → Machine → Walk
    next = walk literals own (suc place) (drop (place + 1) code)

    here : (m : Machine) → walk literals own place (drop place code) 0 m ≡ walk_by place next m (act literals own m line.op)
    here m = ap (λ l. walk literals own place l 0 m) (drop_at code place line at)

    goes_by : (m n : Machine) (d : Done) (over : ℕ) → On n over ≡ after m d → walk_by place next m d ≡ next over n
    goes_by m n (Goes new k) over e = cc
    goes_by m n (Rests row operands) over e = cc
    goes_by m n (Loops back) over e = cc
    goes_by m n NoCase over e = cc

    -- a step that goes on
    pub goes : (m n : Machine) (over : ℕ) → On n over ≡ after m (act literals own m line.op) →
        walk literals own (place + (1 + over)) (drop (place + (1 + over)) code) 0 n
        ≡ walk literals own place (drop place code) 0 m
    goes m n over e =
        let far : suc place + over ≡ place + (1 + over) = omega arith in
        let off : (place + 1) + over ≡ place + (1 + over) = omega arith in
        sym (
        here m ∙ goes_by m n (act literals own m line.op) over e
        ∙ passed (drop (place + 1) code) (suc place) over n
        ∙ ap (λ l. walk literals own (suc place + over) l 0 n) (drop_drop (place + 1) over code)
        ∙ ap (λ k. walk literals own k (drop ((place + 1) + over) code) 0 n) far
        ∙ ap (λ k. walk literals own (place + (1 + over)) (drop k code) 0 n) off
        )

    at_row : (m n : Machine) (row : StopRow) (d : Done) (operands : List Value) → Resting n row operands ≡ after m d →
        walk_by place next m d ≡ walk_by place nowhere n (Rests row operands)
    at_row m n row (Rests r os) operands e = cc
    at_row m n row (Goes new k) operands e = cc
    at_row m n row (Loops back) operands e = cc
    at_row m n row NoCase operands e = cc

    at_none : (m n : Machine) (d : Done) → Stuck n ≡ after m d → walk_by place next m d ≡ walk_by place nowhere n NoCase
    at_none m n (Rests r os) e = cc
    at_none m n (Goes new k) e = cc
    at_none m n (Loops back) e = cc
    at_none m n NoCase e = cc

    rests_by : (m n : Machine) (o : Op) (d : Done) (operands : List Value) → rests_at n o operands ≡ after m d →
        walk_by place next m d ≡ walk_by place nowhere n (rests_as o operands)
    rests_by m n (op.Rest row) d operands e = at_row m n row d operands e
    rests_by m n _ d operands e = at_none m n d e

    -- a step that rests
    pub rests : (m n : Machine) (operands : List Value) → rests_at n line.op operands ≡ after m (act literals own m line.op) →
        walk literals own place (drop place code) 0 m ≡ walk_by place nowhere n (rests_as line.op operands)
    rests m n operands e = here m ∙ rests_by m n line.op (act literals own m line.op) operands e

    loops_by : (m n : Machine) (d : Done) (back : ℕ) → Looping n back ≡ after m d →
        walk_by place next m d ≡ walk_by place nowhere n (Loops back)
    loops_by m n (Loops b) back e = cc
    loops_by m n (Goes new k) back e = cc
    loops_by m n (Rests r os) back e = cc
    loops_by m n NoCase back e = cc

    -- a step back to the top of a loop
    pub loops : (m n : Machine) (back : ℕ) → Looping n back ≡ after m (act literals own m line.op) →
        walk literals own place (drop place code) 0 m ≡ walk_by place nowhere n (Loops back)
    loops m n back e = here m ∙ loops_by m n (act literals own m line.op) back e

    -- a step without a case
    pub stuck : (m n : Machine) → Stuck n ≡ after m (act literals own m line.op) →
        walk literals own place (drop place code) 0 m ≡ (n.common, None)
    stuck m n e = here m ∙ at_none m n (act literals own m line.op) e

-- behind the code nothing is left
pub at_end : (literals : List (List ℕ)) (own : ℕ) (code : List Line) (place : ℕ) (m : Machine) → length code ≤ place →
    walk literals own place (drop place code) 0 m ≡ (m.common, None)
at_end literals own code place m h = ap (λ l. walk literals own place l 0 m) (dropped place code h)
  where
    dropped : (k : ℕ) (l : List Line) → length l ≤ k → drop k l ≡ []
    dropped zero [] h = refl
    dropped zero (x ∷ l) h = absurd (omega arith)
    dropped (suc k) [] h = refl
    dropped (suc k) (x ∷ l) h = dropped k l (omega arith)
