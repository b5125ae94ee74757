-- Silent steps lead a done activation of a sound world to a pending one.
use Rattle.std.proofs.Common.{◌≡◌, ◌≢◌, ℕ, zero, suc, ◌<◌, ◌⊎◌, inl, inr, true, List, length, drop, Option, Some, None, refl, sym, ◌∙◌, ap}
use Rattle.std.proofs.Common.{subst, arith}
use Rattle.std.specs.Prelude.{IsSome}
use Rattle.ec_code.specs.Activations.{Arrived, code_if, code_silent, machine_behind, operation_at, rested, resting, variables_behind, walk}
use Rattle.ec_code.specs.declared.activation.CodeActivation.{CodeActivation}
use Rattle.ec_code.specs.declared.code.Operation.{Operation}
use Rattle.ec_code.specs.declared.code.Parts.{Parts}
use Rattle.ec_code.specs.declared.code.Variable.{Variable}
use Rattle.ec_code.specs.Fine.{Fine, FineOperation, IsGiven, divisor_at, live_at}
use Rattle.ec_code.specs.Typing.{Declared}
use Rattle.ec_types.specs.declared.conform.static_type.StaticType.{StaticType}
use Rattle.ec_world.specs.declared.common.Common.{Common}
use Rattle.ec_world.specs.declared.object.ObjectRec.{ObjectRec}
use Rattle.ec_code.specs.Sound.{LiveBehind, SoundCommon, SoundDone, SoundPending, reached}
use Rattle.ec_code.specs.SoundValues.{AreHeld, IsOfType, Later, held}
use Rattle.ec_code.proofs.Carried.{goes_on_more}
use Rattle.ec_code.proofs.Reading.{IsNotZero, machine_held}
use Rattle.ec_code.proofs.SoundSteps.{ArrivedWell, BehindArrived, Going, WalkEnds, code_from, walk_sound}

-- what silent steps come to
pub record Advanced (d : Declared) (p : Parts) (c : Common) (a : CodeActivation) (e : Common) (b : CodeActivation) : Type 0 where
  pub later : Later c.objects e.objects
  pub common : SoundCommon d p e
  pub operation : b.operation ≡ a.operation
  pub pending : b.pending ≡ true
  pub top : SoundPending d p e.objects b

-- behind a stop that isn't the entry the variables are as they are
pub not_opened : (p : Parts) (a : CodeActivation) (at : ℕ) → 0 < at → variables_behind p a at ≡ a.variables
not_opened p a zero h = absurd (omega arith)
not_opened p a (suc at) h = refl

module _ (d : Declared) (p : Parts) (fine : Fine d p) (c : Common) (sound : SoundCommon d p c) (a : CodeActivation)
    (done : SoundDone d p c.objects a) where
  abbrev o : Operation
  o = done.rests.of

  abbrev fine_o : FineOperation d p a.operation o
  fine_o = fine.operations a.operation o done.rests.is_operation

  abbrev Ends : Common × Option Arrived → Type 0
  Ends r = WalkEnds d p fine a.operation o fine_o a.own c r

  going : Going d p fine a.operation o fine_o a.own (machine_behind p c a) (live_at (drop (suc a.at) o.code) 0)
      (divisor_at (drop (suc a.at) o.code) 0)
  going = record {
    sound = sound;
    mine = done.rests.own;
    count = done.rests.count;
    hold = λ x t i.
        let r = done.live x t i in
        record { value = r.value; is = machine_held (machine_behind p c a) x ∙ r.is; fits = r.fits };
    divides = subst (λ z. IsNotZero (machine_behind p c a) z) (sym done.behind.no_division) tt;
  }

  pub reached_well : Ends (reached p c a)
  reached_well =
      let code : code_if (operation_at p a.operation) ≡ o.code = ap code_if done.rests.is_operation in
      subst (λ z. Ends (walk p.literals a.own (suc a.at) (drop (suc a.at) z) 0 (machine_behind p c a))) (sym code)
      (walk_sound d p fine a.operation o fine_o a.own (drop (suc a.at) o.code) (suc a.at)
      (code_from d p fine a.operation o fine_o (suc a.at)) (omega arith)
      0 done.behind.code (machine_behind p c a) going)

  live_behind : (objects : List ObjectRec) (r : Arrived) → 0 < r.place → (given : Option StaticType)
      → BehindArrived d p fine a.operation o fine_o a.own objects r given → LiveBehind d p objects (rested a (Some r)) o given
  live_behind objects r positive given h =
      let same : variables_behind p (rested a (Some r)) r.place ≡ r.variables = not_opened p (rested a (Some r)) r.place positive in
      record { behind = h.behind; taken = h.taken; live = λ x t i. by same x t (h.live x t i) }
    where
      by : variables_behind p (rested a (Some r)) r.place ≡ r.variables → (x : Variable) (t : StaticType)
          → IsGiven d p given r.into x t ⊎ ((r.into ≢ Some x) × IsOfType d objects t (held r.variables r.temporaries x))
          → IsGiven d p given r.into x t
          ⊎ ((r.into ≢ Some x) × IsOfType d objects t (held (variables_behind p (rested a (Some r)) r.place) r.temporaries x))
      by same x t (inl e) = inl e
      by same x t (inr e) = inr (e.0, subst (λ vs. IsOfType d objects t (held vs r.temporaries x)) (sym same) e.1)

  pending_at : (e : Common) (r : Arrived) → Later c.objects e.objects → ArrivedWell d p fine a.operation o fine_o a.own e.objects r
      → SoundPending d p e.objects (rested a (Some r))
  pending_at e r later w = record {
    rests = record {
      of = o;
      is_operation = done.rests.is_operation;
      line = w.line;
      is_line = w.is_line;
      row = w.row;
      is_row = w.is_row;
      typed = w.typed;
      stop = w.stop;
      own = later a.own o.class done.rests.own;
      arguments = λ z. let l = w.positive in absurd (omega arith);
      count = ap length (not_opened p (rested a (Some r)) r.place w.positive) ∙ w.count;
    };
    operands = record {
      values = w.operands.values;
      are = w.operands.are;
      those = subst (λ vs. AreHeld w.row.operands vs r.temporaries w.operands.values)
          (sym (not_opened p (rested a (Some r)) r.place w.positive)) w.operands.those;
      fit = w.operands.fit;
    };
    into = w.into;
    behind =
        goes_on_more d p a.operation o w.row.stop (BehindArrived d p fine a.operation o fine_o a.own e.objects r w.row.gives)
        (LiveBehind d p e.objects (rested a (Some r)) o w.row.gives) (live_behind e.objects r w.positive w.row.gives) w.behind;
  }

  advanced_by : (r : Common × Option Arrived) → Ends r → let z = resting a r in Advanced d p c a z.0 z.1
  advanced_by (e, None) h = absurd h
  advanced_by (e, Some r) h =
      record { later = h.0; common = h.1; operation = refl; pending = refl; top = pending_at e r h.0 h.2 }

  pub silent_sound : let z = code_silent p c a in Advanced d p c a z.0 z.1
  silent_sound = advanced_by (reached p c a) reached_well

  stop_by : (r : Common × Option Arrived) → Ends r → IsSome r.1
  stop_by (e, None) h = absurd h
  stop_by (e, Some r) h = refl

  -- the walk reaches a stop
  pub reaches : IsSome (reached p c a).1
  reaches = stop_by (reached p c a) reached_well
