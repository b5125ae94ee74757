-- Stops that take what is held in the highest temporaries.
use Rattle.std.proofs.Common.{◌≡◌, ℕ, inl, inr, ⊎_elim, List, [], ◌∷◌, length}
use Rattle.std.proofs.Common.{Option, Some, None, refl, sym, ap, subst, Bool}
use Rattle.ec_code.specs.declared.code.Line.{Line}
use Rattle.ec_code.specs.declared.code.Live.{Live}
use Rattle.ec_code.specs.declared.code.Op.TheVariants as op
use Rattle.ec_code.specs.declared.code.Operation.{Operation}
use Rattle.ec_code.specs.declared.code.Parts.{Parts}
use Rattle.ec_code.specs.declared.code.StopRow.{StopRow}
use Rattle.ec_code.specs.declared.code.Variable.{Variable}
use Rattle.ec_code.specs.declared.code.Variable.TheVariants.{Temporary}
use Rattle.ec_code.specs.Fine.{Has, divisor_at, Behind, HaveTypes, GoesOn, FineStop, FineStopIf, FineOwn, IsTaken}
use Rattle.ec_code.specs.Typing.{Declared}
use Rattle.ec_types.specs.declared.conform.static_type.StaticType.{StaticType}
use Rattle.ec_accepted.proofs.Frames.{Held, Frame, Within, context, held_in, fewer_held, one_more}
use Rattle.ec_accepted.proofs.Pieces.{Setting, around_of, lives, FitsAs, From, Leads, one_step, opened_live, opened_long}
use Rattle.ec_accepted.proofs.Pieces.{opened_divisor}
use Rattle.ec_accepted.proofs.Pieces.{agrees_next}
use Rattle.ec_emission.specs.Types.{given_type, with_written, variable_type}
use Rattle.ec_emission.specs.Rows.{rest_row, own_row, temporaries}
use Rattle.ec_world.specs.declared.stop.Stop.{Stop}
use Rattle.ec_world.specs.declared.stop.Stop.TheVariants as stop

-- what is held behind what may give no value
abbrev pub held_if : Option StaticType → Held → Held
held_if None hs = hs
held_if (Some t) hs = Some t ∷ hs

-- ---- values one above the other

abbrev pub above : Held → List StaticType → Held
above hs [] = hs
above hs (t ∷ ts) = above (Some t ∷ hs) ts

within_above : (hs : Held) (ts : List StaticType) → Within hs (above hs ts)
within_above hs [] d t h = h
within_above hs (s ∷ ts) d t h = within_above (Some s ∷ hs) ts d t (inr h)

module _ (d : Declared) (p : Parts) (variables : List StaticType) (known : ℕ) where
  types_above :
      (hs us : Held) (ts : List StaticType) → Within (above hs ts) us →
      HaveTypes d p (context variables (record { known = known; held = us })) (temporaries (length hs) (length ts)) ts
  types_above hs us [] within = tt
  types_above hs us (t ∷ ts) within = (
    held_in variables (record { known = known; held = us }) (length hs) t
        (within (length hs) t (within_above (Some t ∷ hs) ts (length hs) t (inl (refl, refl)))),
    types_above (Some t ∷ hs) us ts within,
  )

-- what holds anyway holds where code goes on behind a stop
going : (d : Declared) (p : Parts) (number : ℕ) (o : Operation) (s : Stop) (T : Type 0) → T → GoesOn d p number o s T
going d p number o (stop.Return gives_self) T h = tt
going d p number o stop.End T h = tt
going d p number o (stop.Fail why line) T h = tt
going d p number o s T h = h

module _ (w : Setting) where
  -- ---- what is behind a stop

  behind_given :
      (known : ℕ) (t : StaticType) (hs us : Held) → Within hs us → FitsAs w t t → (rest : List Line) →
      From w (record { known = known; held = Some t ∷ hs }) rest →
      Behind w.declared w.parts rest (Some t) (Some (Temporary (length hs))) (lives w (record { known = known; held = us }))
  behind_given known t hs us within fits rest opens =
      let f : Frame = record { known = known; held = Some t ∷ hs } in (
        opened_long w rest f opens,
        λ x s has.
            ⊎_elim (λ r. inl (t, refl, ap Some (sym r.0), subst (λ z. FitsAs w t z) (sym r.1) fits))
            (λ r. inr ((λ e. r.0 (let same : Temporary (length hs) ≡ x = cc in sym same)), r.1))
            (one_more w.operation.variables known t hs us within x s
            (subst (λ z. Has z x s) (opened_live w rest f opens) has)),
      )

  behind_nothing :
      (known : ℕ) (hs us : Held) → Within hs us → (rest : List Line) → From w (record { known = known; held = hs }) rest →
      Behind w.declared w.parts rest None None (lives w (record { known = known; held = us }))
  behind_nothing known hs us within rest opens =
      let f : Frame = record { known = known; held = hs } in (
        opened_long w rest f opens,
        λ x s has.
            inr (
              (λ e. cc),
              fewer_held w.operation.variables known hs us within x s
                  (subst (λ z. Has z x s) (opened_live w rest f opens) has),
            ),
      )

  taken :
      (rest : List Line) (live : List Live) (t : Option StaticType) (x : Option Variable) (gives : Option StaticType)
      (into : Option Variable) → gives ≡ t → into ≡ x → IsTaken w.declared w.parts t x →
      Behind w.declared w.parts rest t x live →
      IsTaken w.declared w.parts gives into × Behind w.declared w.parts rest gives into live
  taken rest live t x gives into e f h k =
      subst (λ u. IsTaken w.declared w.parts u into × Behind w.declared w.parts rest u into live) (sym e)
      (subst (λ y. IsTaken w.declared w.parts t y × Behind w.declared w.parts rest t y live) (sym f) (h, k))

  -- ---- what stops take and give

  abbrev pub HaveHere : Frame → List Variable → List StaticType → Type 0
  HaveHere f xs ts = HaveTypes w.declared w.parts (lives w f) xs ts

  abbrev pub FineAction : Bool → Stop → List StaticType → Option StaticType → Type 0
  FineAction on_itself action ts given = FineStopIf w.declared w.parts w.number w.operation on_itself action ts given

  abbrev GoesBehind : StopRow → List Line → List Live → Type 0
  GoesBehind row rest live =
      GoesOn w.declared w.parts w.number w.operation row.stop
      (IsTaken w.declared w.parts row.gives row.into × Behind w.declared w.parts rest row.gives row.into live)

  goes_behind :
      (row : StopRow) (rest : List Line) (live : List Live) →
      IsTaken w.declared w.parts row.gives row.into × Behind w.declared w.parts rest row.gives row.into live →
      GoesBehind row rest live
  goes_behind row rest live h =
      going w.declared w.parts w.number w.operation row.stop
      (IsTaken w.declared w.parts row.gives row.into × Behind w.declared w.parts rest row.gives row.into live) h

  leads_behind :
      (row : StopRow) (rest : List Line) → divisor_at rest 0 ≡ None →
      GoesOn w.declared w.parts w.number w.operation row.stop (divisor_at rest 0 ≡ None)
  leads_behind row rest h = going w.declared w.parts w.number w.operation row.stop (divisor_at rest 0 ≡ None) h

module _ {w : Setting} where
  -- a row of a stop that gives a value into the temporary above what is kept
  stop_giving :
      (known : ℕ) (t : StaticType) (hs us : Held) → Within hs us → FitsAs w t t → (row : StopRow) → row.gives ≡ Some t →
      row.into ≡ Some (Temporary (length hs)) → (ts : List StaticType) →
      HaveHere w (record { known = known; held = us }) row.operands ts → FineAction w row.on_itself row.stop ts (Some t) →
      Leads w (op.Rest row ∷ []) (record { known = known; held = us }) (record { known = known; held = Some t ∷ hs })
  stop_giving known t hs us within fits row gives into ts have fine =
      one_step (op.Rest row) refl
      (λ all place rest opens e.
      let live : List Live = lives w (record { known = known; held = us }) in
      record {
        typed = record {
          types = ts;
          are = have;
          stop = subst (λ z. FineAction w row.on_itself row.stop ts z) (sym gives) fine;
          behind =
              goes_behind w row rest live
              (taken w rest live (Some t) (Some (Temporary (length hs))) row.gives row.into gives into tt
              (behind_given w known t hs us within fits rest opens));
        };
        agrees = λ types agrees.
            agrees_next w known t hs us within (op.Rest row) into types (ap given_type gives) rest opens agrees;
        leads = leads_behind w row rest (opened_divisor w rest (record { known = known; held = Some t ∷ hs }) opens);
      })

  pub stop_alone :
      (known : ℕ) (hs us : Held) → Within hs us → (row : StopRow) → row.gives ≡ None → row.into ≡ None →
      (ts : List StaticType) →
      HaveHere w (record { known = known; held = us }) row.operands ts → FineAction w row.on_itself row.stop ts None →
      Leads w (op.Rest row ∷ []) (record { known = known; held = us }) (record { known = known; held = hs })
  stop_alone known hs us within row gives into ts have fine =
      one_step (op.Rest row) refl
      (λ all place rest opens e.
      let f : Frame = record { known = known; held = hs } in
      let live : List Live = lives w (record { known = known; held = us }) in
      record {
        typed = record {
          types = ts;
          are = have;
          stop = subst (λ z. FineAction w row.on_itself row.stop ts z) (sym gives) fine;
          behind =
              goes_behind w row rest live
              (taken w rest live None None row.gives row.into gives into tt
              (behind_nothing w known hs us within rest opens));
        };
        agrees = λ types agrees x s has.
            let there : Has (lives w f) x s = subst (λ z. Has z x s) (opened_live w rest f opens) has in
            subst (λ z. variable_type (around_of w) (with_written types z (given_type row.gives)) x ≡ s) (sym into)
            (agrees x s (fewer_held w.operation.variables known hs us within x s there));
        leads = leads_behind w row rest (opened_divisor w rest f opens);
      })

  -- ---- a stop with what is held in so many of the highest temporaries

  pub rests :
      (known : ℕ) (t : StaticType) (hs : Held) (ts : List StaticType) → FitsAs w t t → (action : Stop) →
      FineStop w.declared w.parts w.number w.operation action ts (Some t) →
      Leads w (op.Rest (rest_row action (length hs) (length ts) (Some t)) ∷ [])
      (record { known = known; held = above hs ts })
      (record { known = known; held = Some t ∷ hs })
  rests known t hs ts fits action fine =
      stop_giving known t hs (above hs ts) (within_above hs ts) fits (rest_row action (length hs) (length ts) (Some t))
      refl refl ts
      (types_above w.declared w.parts w.operation.variables known hs (above hs ts) ts (λ e s h. h)) fine

  pub rests_only :
      (known : ℕ) (hs : Held) (ts : List StaticType) → (action : Stop) →
      FineStop w.declared w.parts w.number w.operation action ts None →
      Leads w (op.Rest (rest_row action (length hs) (length ts) None) ∷ []) (record { known = known; held = above hs ts })
      (record { known = known; held = hs })
  rests_only known hs ts action fine =
      stop_alone known hs (above hs ts) (within_above hs ts) (rest_row action (length hs) (length ts) None) refl refl ts
      (types_above w.declared w.parts w.operation.variables known hs (above hs ts) ts (λ e s h. h)) fine

  -- whether it gives a value or none
  pub rests_with :
      (known : ℕ) (hs : Held) (ts : List StaticType) → (gives : Option StaticType) →
      ((t : StaticType) → gives ≡ Some t → FitsAs w t t) → (action : Stop) →
      FineStop w.declared w.parts w.number w.operation action ts gives →
      Leads w (op.Rest (rest_row action (length hs) (length ts) gives) ∷ []) (record { known = known; held = above hs ts })
      (record { known = known; held = held_if gives hs })
  rests_with known hs ts None fits action fine = rests_only known hs ts action fine
  rests_with known hs ts (Some t) fits action fine = rests known t hs ts (fits t refl) action fine

  -- ---- the same on the own object, which is held first

  own_giving :
      (known : ℕ) (t : StaticType) (hs : Held) (ts : List StaticType) → FitsAs w t t → (action : Stop) →
      FineOwn w.declared w.parts w.number w.operation action ts (Some t) →
      Leads w (op.Rest (own_row action (length hs) (length ts) (Some t)) ∷ [])
      (record { known = known; held = above hs ts })
      (record { known = known; held = Some t ∷ hs })
  own_giving known t hs ts fits action fine =
      stop_giving known t hs (above hs ts) (within_above hs ts) fits (own_row action (length hs) (length ts) (Some t))
      refl refl ts
      (types_above w.declared w.parts w.operation.variables known hs (above hs ts) ts (λ e s h. h)) fine

  own_only :
      (known : ℕ) (hs : Held) (ts : List StaticType) → (action : Stop) →
      FineOwn w.declared w.parts w.number w.operation action ts None →
      Leads w (op.Rest (own_row action (length hs) (length ts) None) ∷ []) (record { known = known; held = above hs ts })
      (record { known = known; held = hs })
  own_only known hs ts action fine =
      stop_alone known hs (above hs ts) (within_above hs ts) (own_row action (length hs) (length ts) None) refl refl ts
      (types_above w.declared w.parts w.operation.variables known hs (above hs ts) ts (λ e s h. h)) fine

  pub own_with :
      (known : ℕ) (hs : Held) (ts : List StaticType) → (gives : Option StaticType) →
      ((t : StaticType) → gives ≡ Some t → FitsAs w t t) → (action : Stop) →
      FineOwn w.declared w.parts w.number w.operation action ts gives →
      Leads w (op.Rest (own_row action (length hs) (length ts) gives) ∷ []) (record { known = known; held = above hs ts })
      (record { known = known; held = held_if gives hs })
  own_with known hs ts None fits action fine = own_only known hs ts action fine
  own_with known hs ts (Some t) fits action fine = own_giving known t hs ts (fits t refl) action fine
