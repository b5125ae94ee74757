-- Code that a test passes over: `and` and `or`.
use Rattle.std.proofs.Common.{◌≡◌, ℕ, zero, suc, ◌<◌, inl, Bool, not, List, [], ◌∷◌, ◌++◌, length, drop, Option, Some, None}
use Rattle.std.proofs.Common.{refl, sym, ap}
use Rattle.std.proofs.Common.{◌∙◌, subst, arith}
use Rattle.ec_code.specs.declared.code.Line.{Line}
use Rattle.ec_code.specs.declared.code.Op.{Op}
use Rattle.ec_code.specs.declared.code.Op.TheVariants as op
use Rattle.ec_code.specs.declared.code.Operand.{Operand}
use Rattle.ec_code.specs.declared.code.Test.{Test}
use Rattle.ec_code.specs.declared.code.Test.TheVariants as test
use Rattle.ec_code.specs.declared.code.Variable.{Variable}
use Rattle.ec_code.specs.Fine.{Has, FineTest, Passes, Tells, divisor_at, live_at}
use Rattle.ec_code.specs.Typing.{boolean}
use Rattle.ec_types.specs.declared.conform.static_type.StaticType.{StaticType}
use Rattle.ec_emission.specs.Expressions.{Emitted, needed_code}
use Rattle.ec_accepted.proofs.FinenessForms.{above_one}
use Rattle.ec_accepted.proofs.Frames.{Held, Frame, fewer_held, held_in}
use Rattle.ec_accepted.proofs.Pieces.{Setting, one_named, lives, FitsAs, FineStep, From, Leads, go_on, nothing, opened_live}
use Rattle.ec_accepted.proofs.Pieces.{opened_long}
use Rattle.ec_accepted.proofs.Pieces.{opened_divisor}
use Rattle.ec_accepted.proofs.Shown.{fine_operand, frame, live_in, Goes, Works}
use Rattle.ec_accepted.specs.Wide.{ops_of}
use Rattle.ec_emission.specs.Leaves.{temporary}

-- ---- behind so many lines

drop_next : (all : List Line) (place : ℕ) (l : Line) (ls : List Line) → drop place all ≡ l ∷ ls → drop (suc place) all ≡ ls
drop_next [] zero l ls e = cc
drop_next [] (suc place) l ls e = cc
drop_next (a ∷ all) zero l ls e = let same : all ≡ ls = cc in same
drop_next (a ∷ all) (suc place) l ls e = drop_next all place l ls e

live_behind : (ls rest : List Line) → live_at (ls ++ rest) (length ls) ≡ live_at rest 0
live_behind [] rest = refl
live_behind (l ∷ ls) rest = live_behind ls rest

divisor_behind : (ls rest : List Line) → divisor_at (ls ++ rest) (length ls) ≡ divisor_at rest 0
divisor_behind [] rest = refl
divisor_behind (l ∷ ls) rest = divisor_behind ls rest

long_behind : (ls rest : List Line) → 0 < length rest → length ls < length (ls ++ rest)
long_behind [] rest h = h
long_behind (l ∷ ls) rest h = let long : length ls < length (ls ++ rest) = long_behind ls rest h in omega arith

same_long : (ls : List Line) → length (ops_of ls) ≡ length ls
same_long [] = refl
same_long (l ∷ ls) = ap suc (same_long ls)

nothing_told : (t : Test) (b : Bool) (o : Option Operand) → o ≡ None → Tells t b o
nothing_told t b o e = subst (λ z. Tells t b z) (sym e) tt

module _ (w : Setting) (t : Test) (wanted : Bool) (over : ℕ) (f g : Frame) where
  abbrev test_line : Line
  test_line = record { op = op.Branch t wanted over; live = lives w g }

  -- what is held in the frame of the code is held before the test
  abbrev Keeps : Type 0
  Keeps = (x : Variable) (s : StaticType) → Has (lives w f) x s → Has (lives w g) x s

  into_code : (rest : List Line) → Keeps → From w f rest → Passes w.declared w.parts rest 0 (lives w g)
  into_code rest keeps opens =
      (opened_long w rest f opens, λ x s has. keeps x s (subst (λ z. Has z x s) (opened_live w rest f opens) has))

  past_code : (ls rest : List Line) → length ls ≡ over → From w g rest →
      Passes w.declared w.parts (ls ++ rest) over (lives w g)
  past_code ls rest long opens =
      let live : live_at (ls ++ rest) over ≡ lives w g =
      ap (live_at (ls ++ rest)) (sym long) ∙ live_behind ls rest ∙ opened_live w rest g opens in (
        subst (λ n. n < length (ls ++ rest)) long (long_behind ls rest (opened_long w rest g opens)),
        λ x s has. subst (λ z. Has z x s) live has,
      )

  fine_skip :
      (all : List Line) (place : ℕ) (ls rest : List Line) → length ls ≡ over → Keeps →
      FineTest w.declared w.parts (lives w g) t →
      From w f (ls ++ rest) → From w g rest → FineStep w all place (ls ++ rest) test_line
  fine_skip all place ls rest long keeps fine code opens = record {
    typed = (fine, into_code (ls ++ rest) keeps code, past_code ls rest long opens);
    agrees = λ ts agrees x s has.
        agrees x s (keeps x s (subst (λ z. Has z x s) (opened_live w (ls ++ rest) f code) has));
    leads = (
      nothing_told t (not wanted) (divisor_at (ls ++ rest) 0) (opened_divisor w (ls ++ rest) f code),
      nothing_told t wanted (divisor_at (ls ++ rest) over)
          (ap (divisor_at (ls ++ rest)) (sym long) ∙ divisor_behind ls rest ∙ opened_divisor w rest g opens),
    );
  }

module _ (w : Setting) where
  abbrev pub EachTruth : List Emitted → Type 0
  EachTruth [] = Unit {0}
  EachTruth (e ∷ es) = Works w e boolean × EachTruth es

module _ {w : Setting} where
  -- a test and the code behind it, which is passed over where the test comes out as wanted
  skips :
      {ops : List Op} {f g : Frame} → (t : Test) → (wanted : Bool) → Keeps w t wanted (length ops) f g →
      FineTest w.declared w.parts (lives w g) t → Leads w ops f g → Leads w (op.Branch t wanted (length ops) ∷ ops) g g
  skips {ops} {f} {g} t wanted keeps fine y =
      let long : length y.lines ≡ length ops = sym (same_long y.lines) ∙ ap length y.are in
      record {
        lines = test_line w t wanted (length ops) f g ∷ y.lines;
        are = ap (λ z. op.Branch t wanted (length ops) ∷ z) y.are;
        opens = λ rest opens. (refl, refl);
        steps = λ all place rest e opens. (
          fine_skip w t wanted (length ops) f g all place y.lines rest long keeps fine (y.opens rest opens) opens,
          y.steps all (suc place) rest
              (drop_next all place (test_line w t wanted (length ops) f g) (y.lines ++ rest) e) opens,
        );
        named = one_named w g (op.Branch t wanted (length ops)) y.lines y.named;
      }

  -- ---- and, or

  one_needed :
      (wanted : Bool) → {e : Emitted} → FitsAs w boolean boolean → Works w e boolean → (hs : Held) →
      Goes w (op.Branch (test.Holds (temporary (length hs))) wanted (length (e.code (length hs))) ∷ e.code (length hs))
      (Some boolean ∷ hs) (Some boolean ∷ hs)
  one_needed wanted {e} fits v hs =
      let us : Held = Some boolean ∷ hs in
      let known : ℕ = length w.operation.variables in
      skips (test.Holds (temporary (length hs))) wanted
      (λ x s has. fewer_held w.operation.variables known hs us (above_one (Some boolean) hs) x s has)
      (fine_operand w.declared w.parts (live_in w us) (temporary (length hs)) boolean boolean
      (held_in w.operation.variables (frame w us) (length hs) boolean (inl (refl, refl))) fits)
      (v.code hs)

  pub all_needed :
      (wanted : Bool) (es : List Emitted) → FitsAs w boolean boolean → EachTruth w es → (hs : Held) →
      Goes w (needed_code wanted es (length hs)) (Some boolean ∷ hs) (Some boolean ∷ hs)
  all_needed wanted [] fits h hs = nothing
  all_needed wanted (e ∷ es) fits h hs = go_on (one_needed wanted fits h.0 hs) (all_needed wanted es fits h.1 hs)
