-- What is held behind the code of an expression needn't be read: the code is well typed as well where less is live
-- behind it.
use Rattle.std.proofs.Common.{◌≡◌, ℕ, zero, suc, ◌+◌, ◌-◌, ◌<◌, ◌≤◌, not, List, [], ◌∷◌, ◌++◌, drop, take, length, Option}
use Rattle.std.proofs.Common.{Some, None, refl}
use Rattle.std.proofs.Common.{sym, ap, ◌∙◌, subst, arith, take-append-drop, length-append, length-drop}
use Rattle.std.proofs.lemmas.List.{drop_at, length-take-le}
use Rattle.std.specs.Prelude.{slice_get}
use Rattle.ec_code.specs.declared.code.Line.{Line}
use Rattle.ec_code.specs.declared.code.Live.{Live}
use Rattle.ec_code.specs.declared.code.Op.{Op}
use Rattle.ec_code.specs.declared.code.Op.TheVariants as op
use Rattle.ec_code.specs.declared.code.Variable.{Variable}
use Rattle.ec_code.specs.Fine.{Behind, FineTop, Has, IsTaken, Passes, Tells, Writes, divisor_at, divisor_of, live_at}
use Rattle.ec_code.specs.Typing.{boolean, class_type, integer, string}
use Rattle.ec_types.specs.declared.conform.static_type.StaticType.{StaticType}
use Rattle.ec_accepted.proofs.Frames.{Held, Frame}
use Rattle.ec_accepted.proofs.Narrowed.{live_dropped}
use Rattle.ec_accepted.proofs.Pieces.{Setting, FineSteps, From, IsFineAt, LeadsTo, Piece}
use Rattle.ec_accepted.proofs.Restricting.{behind_more}
use Rattle.ec_accepted.proofs.Shown.{Goes, frame, live_in}
use Rattle.ec_accepted.proofs.Reaching.{Begins, fewer}

-- ---- lines with less that is live

abbrev Fewer : List Line → List Line → Type 0
Fewer [] [] = Unit {0}
Fewer [] (m ∷ ms) = ⊥
Fewer (l ∷ ls) [] = ⊥
Fewer (l ∷ ls) (m ∷ ms) =
    (l.op ≡ m.op) × ((x : Variable) (t : StaticType) → Has l.live x t → Has m.live x t) × Fewer ls ms

fewer_itself : (ls : List Line) → Fewer ls ls
fewer_itself [] = tt
fewer_itself (l ∷ ls) = (refl, λ x t h. h, fewer_itself ls)

fewer_behind : (before ls ms : List Line) → Fewer ls ms → Fewer (before ++ ls) (before ++ ms)
fewer_behind [] ls ms f = f
fewer_behind (b ∷ before) ls ms f = (refl, λ x t h. h, fewer_behind before ls ms f)

fewer_length : (ls ms : List Line) → Fewer ls ms → length ms ≡ length ls
fewer_length [] [] f = refl
fewer_length [] (m ∷ ms) f = absurd f
fewer_length (l ∷ ls) [] f = absurd f
fewer_length (l ∷ ls) (m ∷ ms) f = ap suc (fewer_length ls ms f.2)

fewer_live : (ls ms : List Line) → Fewer ls ms → (k : ℕ) (x : Variable) (t : StaticType) → Has (live_at ls k) x t →
    Has (live_at ms k) x t
fewer_live [] ms f k x t h = absurd h
fewer_live (l ∷ ls) [] f k x t h = absurd f
fewer_live (l ∷ ls) (m ∷ ms) f zero x t h = f.1 x t h
fewer_live (l ∷ ls) (m ∷ ms) f (suc k) x t h = fewer_live ls ms f.2 k x t h

fewer_divisor : (ls ms : List Line) → Fewer ls ms → (k : ℕ) → divisor_at ls k ≡ divisor_at ms k
fewer_divisor [] [] f k = refl
fewer_divisor [] (m ∷ ms) f k = absurd f
fewer_divisor (l ∷ ls) [] f k = absurd f
fewer_divisor (l ∷ ls) (m ∷ ms) f zero = ap divisor_of f.0
fewer_divisor (l ∷ ls) (m ∷ ms) f (suc k) = fewer_divisor ls ms f.2 k

fewer_there : (ls ms : List Line) → Fewer ls ms → (k : ℕ) (m : Line) → slice_get ms k ≡ Some m →
    (l : Line) × (slice_get ls k ≡ Some l) × (l.op ≡ m.op)
fewer_there [] [] f k m e = cc
fewer_there [] (n ∷ ms) f k m e = absurd f
fewer_there (l ∷ ls) [] f k m e = absurd f
fewer_there (l ∷ ls) (n ∷ ms) f zero m e = let same : n ≡ m = cc in (l, refl, f.0 ∙ ap (λ (z : Line). z.op) same)
fewer_there (l ∷ ls) (n ∷ ms) f (suc k) m e = fewer_there ls ms f.2 k m e

module _ (w : Setting) (few many : List Line) (all : Fewer few many) where
  -- ---- one step

  module _ (place : ℕ) (live : List Live) (ls ms : List Line) (rest : Fewer ls ms) where
    there : (k : ℕ) → k < length ms → k < length ls
    there k h = let same : length ms ≡ length ls = fewer_length ls ms rest in omega arith

    writes_fewer : (to : Variable) (s : StaticType) → Writes w.declared w.parts ms to s live →
        Writes w.declared w.parts ls to s live
    writes_fewer to s h = (there 0 h.0, λ x t has. h.1 x t (fewer_live ls ms rest 0 x t has))

    passes_fewer : (k : ℕ) → Passes w.declared w.parts ms k live → Passes w.declared w.parts ls k live
    passes_fewer k h = (there k h.0, λ x t has. h.1 x t (fewer_live ls ms rest k x t has))

    behind_fewer : (given : Option StaticType) (into : Option Variable) → Behind w.declared w.parts ms given into live →
        Behind w.declared w.parts ls given into live
    behind_fewer given into h = (there 0 h.0, λ x t has. h.1 x t (fewer_live ls ms rest 0 x t has))

    top_fewer : (back : ℕ) → FineTop w.declared w.parts w.number (record w.operation { code = many }) place back live →
        FineTop w.declared w.parts w.number (record w.operation { code = few }) place back live
    top_fewer back h =
        let found = fewer_there few many all (place - back) h.line h.is in
        record {
          within = h.within;
          line = found.0;
          is = found.1;
          row = h.row;
          rests = found.2 ∙ h.rests;
          stop = h.stop;
          on_itself = h.on_itself;
          operands = h.operands;
          into = h.into;
          live_there = λ x t has.
              h.live_there x t
              (subst (λ z. Has z x t) (sym (live_dropped many (suc (place - back))))
              (fewer_live few many all (suc (place - back)) x t
              (subst (λ z. Has z x t) (live_dropped few (suc (place - back))) has)));
        }

    step_fewer : (step : Op) → IsFineAt w many place ms live step → IsFineAt w few place ls live step
    step_fewer (op.Copy to from) h = (h.0, h.1, writes_fewer to h.0 h.2)
    step_fewer (op.Literal to index) h = (h.0, writes_fewer to string h.1)
    step_fewer (op.Itself to) h = (h.0, writes_fewer to (class_type w.declared w.operation.class) h.1)
    step_fewer (op.Field to n) h = (h.0, h.1, writes_fewer to h.0 h.2)
    step_fewer (op.SetField n from) h = (h.0, passes_fewer 0 h.1)
    step_fewer (op.Constant to index) h = (h.0, h.1, writes_fewer to h.0 h.2)
    step_fewer (op.Compute how to left right) h = (h.0, writes_fewer to integer h.1)
    step_fewer (op.Decide to t wanted) h = (h.0, writes_fewer to boolean h.1)
    step_fewer (op.Branch t wanted over) h = (h.0, passes_fewer 0 h.1, passes_fewer over h.2)
    step_fewer (op.Jump over) h = passes_fewer over h
    step_fewer (op.Again back) h = (top_fewer back h.0, λ x t has. h.1 x t (fewer_live few many all (place - back) x t has))
    step_fewer (op.Rest row) h = record {
      types = h.types;
      are = h.are;
      stop = h.stop;
      behind =
          behind_more w.declared w.parts w.number w.operation row.stop
          (IsTaken w.declared w.parts row.gives row.into × Behind w.declared w.parts ms row.gives row.into live)
          (IsTaken w.declared w.parts row.gives row.into × Behind w.declared w.parts ls row.gives row.into live)
          (λ e g. (g.0, behind_fewer row.gives row.into g.1)) h.behind;
    }

    leads_fewer : (step : Op) → LeadsTo w ms step → LeadsTo w ls step
    leads_fewer (op.Branch t wanted over) h = (
      subst (Tells t (not wanted)) (sym (fewer_divisor ls ms rest 0)) h.0,
      subst (Tells t wanted) (sym (fewer_divisor ls ms rest over)) h.1,
    )
    leads_fewer (op.Jump over) h = fewer_divisor ls ms rest over ∙ h
    leads_fewer (op.Again back) h = tt
    leads_fewer (op.Rest row) h =
        behind_more w.declared w.parts w.number w.operation row.stop (divisor_at ms 0 ≡ None) (divisor_at ls 0 ≡ None)
        (λ e g. fewer_divisor ls ms rest 0 ∙ g) h
    leads_fewer step h = fewer_divisor ls ms rest 0 ∙ h

  -- ---- steps

  steps_fewer : (place : ℕ) (own ls ms : List Line) → Fewer ls ms → FineSteps w many place own ms →
      FineSteps w few place own ls
  steps_fewer place [] ls ms f h = tt
  steps_fewer place (l ∷ own) ls ms f h =
      let rest : Fewer (own ++ ls) (own ++ ms) = fewer_behind own ls ms f in (
        record {
          typed = step_fewer place l.live (own ++ ls) (own ++ ms) rest l.op h.0.typed;
          agrees = λ ts agrees x t has. h.0.agrees ts agrees x t (fewer_live (own ++ ls) (own ++ ms) rest 0 x t has);
          leads = leads_fewer place l.live (own ++ ls) (own ++ ms) rest l.op h.0.leads;
        },
        steps_fewer (suc place) own ls ms f h.1,
      )

-- ---- code whose value nothing reads

module _ (w : Setting) where
  opens_other : (f : Frame) (own ls ms : List Line) → From w f (own ++ ms) → From w f ls → From w f (own ++ ls)
  opens_other f [] ls ms h k = k
  opens_other f (l ∷ own) ls ms h k = h

  -- the first of these lines, with values held
  abbrev holding : Held → Line → Line
  holding us l = record { op = l.op; live = live_in w us }

  one_fewer : (us : Held) (l : Line) (ls : List Line) → Begins w (l ∷ ls) → Fewer (l ∷ ls) (holding us l ∷ ls)
  one_fewer us l ls b = (refl, λ x t h. fewer w us x t (subst (λ z. Has z x t) b.0 h), fewer_itself ls)

  module _ (ops : List Op) (us : Held) (x : Goes w ops [] us) where
    unread_opens : (rest : List Line) → Begins w rest → From w (frame w []) (x.lines ++ rest)
    unread_opens [] b = absurd b
    unread_opens (l ∷ ls) b =
        opens_other (frame w []) x.lines (l ∷ ls) (holding us l ∷ ls) (x.opens (holding us l ∷ ls) (refl, b.1)) b

    unread_steps : (all : List Line) (place : ℕ) (rest : List Line) → drop place all ≡ x.lines ++ rest → Begins w rest →
        FineSteps w all place x.lines rest
    unread_steps all place [] e b = absurd b
    unread_steps all place (l ∷ ls) e b =
        let before : List Line = take place all in
        let many : List Line = before ++ (x.lines ++ holding us l ∷ ls) in
        let a : length (drop place all) ≡ length all - place = length-drop place all in
        let c : length (x.lines ++ l ∷ ls) ≡ length x.lines + suc (length ls) = length-append x.lines (l ∷ ls) in
        let d : length (drop place all) ≡ length (x.lines ++ l ∷ ls) = ap length e in
        let within : place ≤ length all = omega arith in
        let is_before : length before ≡ place = length-take-le place all within in
        let split : all ≡ before ++ (x.lines ++ l ∷ ls) = sym (take-append-drop place all) ∙ ap (λ z. before ++ z) e in
        let own : Fewer (l ∷ ls) (holding us l ∷ ls) = one_fewer us l ls b in
        let whole : Fewer all many =
        subst (λ z. Fewer z many) (sym split)
        (fewer_behind before (x.lines ++ l ∷ ls) (x.lines ++ holding us l ∷ ls)
        (fewer_behind x.lines (l ∷ ls) (holding us l ∷ ls) own)) in
        steps_fewer w all many whole place x.lines (l ∷ ls) (holding us l ∷ ls) own
        (x.steps many place (holding us l ∷ ls) (drop_at before (x.lines ++ holding us l ∷ ls) place is_before) (refl, b.1))

    pub unread : Piece w ops (frame w []) (Begins w)
    unread = record { lines = x.lines; are = x.are; opens = unread_opens; steps = unread_steps; named = x.named }
