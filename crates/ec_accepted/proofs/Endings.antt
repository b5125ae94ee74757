-- The stops with which the code of operations begins and ends, and the defaults behind the beginning.
use Rattle.std.proofs.Common.{◌≡◌, ℕ, zero, suc, ◌+◌, List, [], ◌∷◌, drop, length, Some, None, refl, sym, ap, ◌∙◌}
use Rattle.std.proofs.Common.{subst, arith}
use Rattle.std.specs.Prelude.{slice_get}
use Rattle.ec_code.specs.declared.code.Line.{Line}
use Rattle.ec_code.specs.declared.code.Op.TheVariants as op
use Rattle.ec_code.specs.declared.code.StopRow.{StopRow}
use Rattle.ec_code.specs.declared.code.Variable.{Variable}
use Rattle.ec_code.specs.Fine.{Behind, GoesOn, Has, IsTaken, divisor_at, live_at}
use Rattle.ec_types.specs.declared.conform.static_type.StaticType.{StaticType}
use Rattle.ec_emission.specs.Statements.{defaults_from, entry}
use Rattle.ec_accepted.proofs.Pieces.{Setting, Agrees, From, Leads, Piece, around_of, go_on, one_step, silent}
use Rattle.ec_accepted.proofs.Shown.{frame, live_in}
use Rattle.ec_accepted.proofs.Stopping.{FineAction, HaveHere, stop_alone}
use Rattle.ec_accepted.proofs.FineProgramsForms.{gives_default}
use Rattle.ec_accepted.proofs.Reaching.{held_at, known_in, Known, types}
use Rattle.ec_accepted.proofs.Stages.{IsSound, Stage}
use Rattle.ec_accepted.proofs.Writing.{one_covered}
use Rattle.ec_emission.specs.Types.{behind, variable_type}
use Rattle.ec_emission.specs.Rows.{bare_row}
use Rattle.ec_world.specs.declared.stop.Stop.TheVariants as stop

module _ (w : Setting) where
  -- what is live in the lines behind, if anything, is known where no value is held
  abbrev pub Keeps : List Line → Type 0
  Keeps rest = (x : Variable) (t : StaticType) → Has (live_at rest 0) x t → Has (live_in w []) x t

  abbrev GoesOver : StopRow → Type 0 → Type 0
  GoesOver row T = GoesOn w.declared w.parts w.number w.operation row.stop T

  -- a stop behind which no code goes on
  pub ends :
      {B : List Line → Type 0} → (row : StopRow) (ts : List StaticType) → HaveHere w (frame w []) row.operands ts →
      FineAction w row.on_itself row.stop ts row.gives →
      ((rest : List Line) →
      GoesOver row (IsTaken w.declared w.parts row.gives row.into × Behind w.declared w.parts rest row.gives row.into
      (live_in w []))) →
      ((rest : List Line) → GoesOver row (divisor_at rest 0 ≡ None)) → ((rest : List Line) → B rest → Keeps rest) →
      Piece w (op.Rest row ∷ []) (frame w []) B
  ends row ts have fine over leads keeps =
      one_step (op.Rest row) refl
      (λ all place rest b e.
      record {
        typed = record { types = ts; are = have; stop = fine; behind = over rest };
        agrees = λ us agrees x t has. kept us agrees x t (keeps rest b x t has);
        leads = leads rest;
      })
    where
      kept : (us : List StaticType) → Agrees w us (live_in w []) → (x : Variable) (t : StaticType) →
          Has (live_in w []) x t →
          variable_type (around_of w) (behind (around_of w) us (op.Rest row)) x ≡ t
      kept us agrees x t has =
          let k : Known w (length (types w)) x t = known_in w (length (types w)) x t has in
          let same :
          variable_type (around_of w) (behind (around_of w) us (op.Rest row)) x ≡ variable_type (around_of w) us x =
          subst
          (λ z.
          variable_type (around_of w) (behind (around_of w) us (op.Rest row)) z ≡ variable_type (around_of w) us z)
          (sym k.is) refl in
          same ∙ agrees x t has

  -- the entry stop, with so many variables known
  pub enters : (known : ℕ) → Leads w (entry ∷ []) (held_at known []) (held_at known [])
  enters known = stop_alone known [] [] (λ d t h. h) (bare_row stop.Entry) refl refl [] tt (tt, refl)

first_of_rest : (ts : List StaticType) (n : ℕ) (t : StaticType) (us : List StaticType) → t ∷ us ≡ drop n ts →
    slice_get ts n ≡ Some t
first_of_rest [] zero t us e = cc
first_of_rest [] (suc n) t us e = cc
first_of_rest (s ∷ ts) zero t us e = let same : s ≡ t = cc in ap Some same
first_of_rest (s ∷ ts) (suc n) t us e = first_of_rest ts n t us e

next_of_rest : (ts : List StaticType) (n : ℕ) (t : StaticType) (us : List StaticType) → t ∷ us ≡ drop n ts →
    us ≡ drop (suc n) ts
next_of_rest [] zero t us e = cc
next_of_rest [] (suc n) t us e = cc
next_of_rest (s ∷ ts) zero t us e = let same : us ≡ ts = cc in same
next_of_rest (s ∷ ts) (suc n) t us e = next_of_rest ts n t us e

module _ (g : Stage) (sound : IsSound g) where
  abbrev w : Setting
  w = g.setting

  -- The variables from one on get their defaults, where those before it are known.
  pub defaults_fine : (ts : List StaticType) (n : ℕ) → ts ≡ drop n (types w) → n + length ts ≡ length (types w) →
      Leads w (defaults_from g.source g.captured (types w) w.parts.literals g.leaves n ts) (held_at n []) (frame w [])
  defaults_fine [] n e l =
      let all : length (types w) ≡ n = omega arith in
      silent (λ rest h. subst (λ k. From w (held_at k []) rest) all h)
  defaults_fine (t ∷ ts) n e l =
      let more : suc n + length ts ≡ length (types w) = omega arith in
      go_on (gives_default g sound n n (suc n) (one_covered w n) t (first_of_rest (types w) n t ts e))
      (defaults_fine ts (suc n) (next_of_rest (types w) n t ts e) more)
