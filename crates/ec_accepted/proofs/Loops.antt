-- The code of a loop: its body stands between the loop top and the step that leads back there.
use Rattle.std.proofs.Common.{◌≡◌, ℕ, zero, suc, ◌+◌, ◌-◌, inr, ⊎_elim, List, [], ◌∷◌, ◌++◌, drop, length, Some, None}
use Rattle.std.proofs.Common.{refl, sym, ap}
use Rattle.std.proofs.Common.{◌∙◌, subst, arith, append_assoc}
use Rattle.std.proofs.lemmas.List.{map-append}
use Rattle.std.specs.Prelude.{slice_get}
use Rattle.ec_code.specs.declared.code.Line.{Line}
use Rattle.ec_code.specs.declared.code.Op.{Op}
use Rattle.ec_code.specs.declared.code.Op.TheVariants as op
use Rattle.ec_code.specs.declared.code.Variable.{Variable}
use Rattle.ec_code.specs.Fine.{Has, live_at, live_if}
use Rattle.ec_emission.specs.Statements.{Done, loop_code}
use Rattle.ec_accepted.proofs.Pieces.{Setting, FineStep, FineSteps, Piece, around_of, none_named, one_named}
use Rattle.ec_accepted.proofs.Pieces.{opened_divisor, opened_long}
use Rattle.ec_accepted.proofs.Shown.{frame, live_in}
use Rattle.ec_accepted.proofs.Blocks.{IsFine}
use Rattle.ec_accepted.proofs.Reaching.{Begins, Continues, agreed, lines_length, opened, types}
use Rattle.ec_code.proofs.Among.{in_append}
use Rattle.ec_emission.specs.Types.{behind}
use Rattle.ec_emission.specs.Rows.{bare_row}
use Rattle.ec_world.specs.declared.stop.Stop.TheVariants as stop

no_line : {A : Type 0} → (x : Line) (xs : List Line) → [] ≡ x ∷ xs → A
no_line x xs e = cc

first_there : (all : List Line) (place : ℕ) (x : Line) (xs : List Line) → drop place all ≡ x ∷ xs →
    slice_get all place ≡ Some x
first_there [] zero x xs e = no_line x xs e
first_there [] (suc place) x xs e = no_line x xs e
first_there (l ∷ ls) zero x xs e = let same : l ≡ x = cc in ap Some same
first_there (l ∷ ls) (suc place) x xs e = first_there ls place x xs e

rest_there : (all : List Line) (place : ℕ) (x : Line) (xs : List Line) → drop place all ≡ x ∷ xs → drop (suc place) all ≡ xs
rest_there [] zero x xs e = no_line x xs e
rest_there [] (suc place) x xs e = no_line x xs e
rest_there (l ∷ ls) zero x xs e = let same : ls ≡ xs = cc in same
rest_there (l ∷ ls) (suc place) x xs e = rest_there ls place x xs e

no_variable : (x : Variable) → None ≡ Some x → ⊥
no_variable x e = cc

module _ (w : Setting) where
  joined : (all xs ys rest : List Line) (place : ℕ) → FineSteps w all place xs (ys ++ rest) →
      FineSteps w all (place + length xs) ys rest → FineSteps w all place (xs ++ ys) rest
  joined all [] ys rest place h k =
      let at : place + 0 ≡ place = omega arith in subst (λ j. FineSteps w all j ys rest) at k
  joined all (x ∷ xs) ys rest place h k =
      let at : place + suc (length xs) ≡ suc place + length xs = omega arith in (
        subst (λ z. FineStep w all place z x) (sym (append_assoc xs ys rest)) h.0,
        joined all xs ys rest (suc place) h.1 (subst (λ j. FineSteps w all j ys rest) at k),
      )

  module _ (inner : List Op) (body : Piece w inner (frame w []) (Continues w 1)) where
    abbrev top : Line
    top = record { op = op.Rest (bare_row stop.LoopTop); live = live_in w [] }

    abbrev again : Line
    again = record { op = op.Again (suc (length inner)); live = live_in w [] }

    -- behind the loop top
    abbrev turn : List Line
    turn = body.lines ++ again ∷ []

    body_behind : (rest : List Line) → Begins w rest → Continues w 1 (again ∷ rest)
    body_behind rest h = ((refl, refl), h)

    turn_begins : (rest : List Line) → Begins w rest → Begins w (turn ++ rest)
    turn_begins rest h =
        subst (λ z. Begins w z) (sym (append_assoc body.lines (again ∷ []) rest)) (body.opens (again ∷ rest) (body_behind
        rest h))

    top_fine : (all : List Line) (place : ℕ) (rest : List Line) → Begins w rest → FineStep w all place rest top
    top_fine all place rest h = record {
      typed = record {
        types = [];
        are = tt;
        stop = (tt, refl);
        behind =
            (tt, (opened_long w rest (frame w []) h, λ x t has. inr (no_variable x, opened w (frame w []) rest h x t has)));
      };
      agrees = λ ts a. agreed w (length (types w)) rest h (behind (around_of w) ts top.op);
      leads = opened_divisor w rest (frame w []) h;
    }

    again_fine : (all : List Line) (place : ℕ) (rest : List Line) → slice_get all place ≡ Some top →
        drop (suc place) all ≡ turn ++ rest → Begins w rest → FineStep w all (suc place + length body.lines) rest again
    again_fine all place rest e f h =
        let l : length body.lines ≡ length inner = lines_length w body in
        let q : ℕ = suc place + length body.lines in
        let back : ℕ = suc (length inner) in
        let at : q - back ≡ place = omega arith in
        record {
          typed = (
            record {
              within = omega arith;
              line = top;
              is = ap (λ j. slice_get all j) at ∙ e;
              row = bare_row stop.LoopTop;
              rests = refl;
              stop = refl;
              on_itself = refl;
              operands = refl;
              into = refl;
              live_there = λ x t has.
                  opened w (frame w []) (turn ++ rest) (turn_begins rest h) x t
                  (subst (λ z. Has (live_at z 0) x t) (ap (λ j. drop (suc j) all) at ∙ f) has);
            },
            λ x t has. subst (λ z. Has (live_if z) x t) (ap (λ j. slice_get all j) at ∙ e) has,
          );
          agrees = λ ts a. agreed w (length (types w)) rest h (behind (around_of w) ts again.op);
          leads = tt;
        }

    loop_steps : (all : List Line) (place : ℕ) (rest : List Line) → drop place all ≡ top ∷ (turn ++ rest) → Begins w rest →
        FineSteps w all place (top ∷ turn) rest
    loop_steps all place rest e h =
        let there : slice_get all place ≡ Some top = first_there all place top (turn ++ rest) e in
        let next : drop (suc place) all ≡ turn ++ rest = rest_there all place top (turn ++ rest) e in (
          top_fine all place (turn ++ rest) (turn_begins rest h),
          joined all body.lines (again ∷ []) rest (suc place)
              (body.steps all (suc place) (again ∷ rest) (next ∙ append_assoc body.lines (again ∷ []) rest) (body_behind
              rest h))
              (again_fine all place rest there next h, tt),
        )

    pub loop_piece : Piece w (op.Rest (bare_row stop.LoopTop) ∷ (inner ++ op.Again (suc (length inner)) ∷ [])) (frame w
        []) (Begins w)
    loop_piece = record {
      lines = top ∷ turn;
      are =
          ap (λ z. op.Rest (bare_row stop.LoopTop) ∷ z)
          (map-append (λ (l : Line). l.op) body.lines (again ∷ []) ∙ ap (λ z. z ++ op.Again (suc (length inner)) ∷ [])
          body.are);
      opens = λ rest h. (refl, refl);
      steps = loop_steps;
      named =
          one_named w (frame w []) top.op turn
          (λ l i n t has.
          ⊎_elim (λ k. body.named l k n t has) (λ k. one_named w (frame w []) again.op [] (none_named w) l k n t has)
          (in_append l body.lines (again ∷ []) i));
    }

  pub loop_fine : (body : Done) → IsFine w body → Piece w (loop_code body) (frame w []) (Begins w)
  loop_fine body h = loop_piece (body.code 1) (h 1)
