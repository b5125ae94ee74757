-- The activations that an action lets go on wait for what comes to them.
use Rattle.std.proofs.Common.{◌≡◌, ◌⊎◌, ◌<◌, ◌≤◌, ℕ, suc, Bool, true, false, inl, inr, ⊎_elim, List, [], ◌∷◌, length, Option, Some, None}
use Rattle.std.proofs.Common.{refl, ap, ◌∙◌, subst, arith}
use Rattle.std.specs.Prelude.{if◌then◌else◌}
use Rattle.std.proofs.lemmas.Option.{same_Some}
use Rattle.ec_activations.specs.Frames.{taker_of}
use Rattle.ec_base.proofs.Stacks.{below_of-push, top_of-push}
use Rattle.ec_base.specs.Stack.{below_of, top_of}
use Rattle.ec_cluster.specs.Cluster.{CodeWorld}
use Rattle.ec_code.specs.Activations.{operation_at, variables_if}
use Rattle.ec_code.specs.Fine.{live_at}
use Rattle.ec_code.specs.Typing.{Declared}
use Rattle.ec_code.specs.declared.activation.CodeActivation.{CodeActivation}
use Rattle.ec_code.specs.declared.code.Parts.{Parts}
use Rattle.ec_code.specs.declared.code.Variable.{Variable}
use Rattle.ec_types.specs.declared.conform.static_type.StaticType.{StaticType}
use Rattle.ec_machine_code.specs.Stops.{without}
use Rattle.ec_fullness.proofs.Acting.{top_is}
use Rattle.ec_fullness.proofs.Effects.{GoerWaits, Waiting, WaitingIf}
use Rattle.ec_fullness.proofs.Values.{IsLast, WaitsAt}
use Rattle.ec_code.specs.Live.{stays}
use Rattle.ec_node_frames.specs.Frames.{RestsAt as Resting}
use Rattle.ec_activations.proofs.Entries.{rests_at_an_entry}
use Rattle.ec_activations.proofs.Operands.{waits_for}
use Rattle.ec_activations.specs.RestingLaws.{its_entry}
use Rattle.ec_code.proofs.Carried.{each_get}
use Rattle.ec_code.proofs.Facts.{each_is_there, pending_top}
use Rattle.ec_code.specs.Sound.{Chain, RestsAt, SoundProc, SoundTower, Waits}
use Rattle.ec_generate.specs.Entries.{result_of}
use Rattle.ec_cluster.specs.Acting.{Asks}
use Rattle.ec_cluster.specs.Systems.{Runs}
use Rattle.ec_cluster.specs.declared.system.System.{System}
use Rattle.ec_world.specs.declared.doing.Doing.{Doing}
use Rattle.ec_world.specs.declared.object.ObjectRec.{ObjectRec}
use Rattle.ec_world.specs.declared.stop.Effect.{Effect}
use Rattle.ec_world.specs.declared.stop.Effect.TheVariants.{GoesOn, Calls, Leaves, Blocks, Ends, Fails}
use Rattle.ec_world.specs.declared.stop.Who.{Who}

module _ (d : Declared) (p : Parts) (objects : List ObjectRec) (a : CodeActivation) (r : RestsAt d p objects a) where
  rests_here : Resting p a (its_entry d p objects a r)
  rests_here =
      let n = rests_at_an_entry d p objects a r in
      record { number = n.0; is = n.1; named = named }
    where
      named : 0 < a.at → length (variables_if (operation_at p a.operation)) ≤ length a.variables
      named behind =
          let many = each_is_there d p objects a r behind in
          let its = ap (λ o. length (variables_if o)) r.is_operation in
          omega (arith, many, its)

  split : (into : Option Variable) (gives : Option StaticType) → (into ≡ taker_of (result_of into gives)) ⊎ (result_of into gives ≡ None)
  split None None = inl refl
  split None (Some t) = inl refl
  split (Some x) None = inr refl
  split (Some x) (Some t) = inl refl

  waits_or_last : a.into ≡ r.row.into →
      (a.into ≡ taker_of (its_entry d p objects a r).result) ⊎ IsLast (its_entry d p objects a r)
  waits_or_last into = ⊎_elim
      (λ (waits : r.row.into ≡ taker_of (result_of r.row.into r.row.gives)). inl (into ∙ waits))
      (λ (none : result_of r.row.into r.row.gives ≡ None). by none (stays r.row.stop) refl)
      (split r.row.into r.row.gives)
    where
      by : result_of r.row.into r.row.gives ≡ None → (b : Bool) → stays r.row.stop ≡ b →
          (a.into ≡ taker_of (its_entry d p objects a r).result) ⊎ IsLast (its_entry d p objects a r)
      by none true e = inl (waits_for d p objects a r into e)
      by none false e = inr (record {
        result = none;
        live = ap (λ (b : Bool). if b then without r.row.into (live_at r.of.code (suc a.at)) else []) e;
      })

  pub waits_here : a.into ≡ r.row.into → WaitsAt p a (its_entry d p objects a r)
  waits_here into = record { rests = rests_here; waits = waits_or_last into }

module _ (d : Declared) (p : Parts) (objects : List ObjectRec) where
  -- the last of those that wait for one another waits for an operation
  last_waits : (xs : List CodeActivation) (op : ℕ) (b : CodeActivation) → Chain d p objects xs op → top_of xs ≡ Some b →
      Waits d p objects b op
  last_waits [] op b h e = absurd cc
  last_waits (x ∷ []) op b h e = subst (λ z. Waits d p objects z op) (same_Some x b e) h
  last_waits (x ∷ y ∷ ys) op b h e = last_waits (y ∷ ys) op b h.1 e

module _ (d : Declared) (s : System) (w : CodeWorld) (below : List CodeActivation) (top : CodeActivation) (who : Who) (doing : Doing)
    (runs : Runs d s w) (asks : Asks w below top who doing) (places : ℕ → Option ℕ) where
  pub top_waiting : Waiting s.cluster places top
  top_waiting =
      let h = pending_top d s.cluster.parts runs.steady.fine w runs.sound who.process top (top_is w below top who doing asks) asks.pending
      in
      record {
        entry = its_entry d s.cluster.parts w.common.objects top h.rests;
        at = waits_here d s.cluster.parts w.common.objects top h.rests h.into;
      }

  tower : SoundTower d s.cluster.parts w.common.objects below (Some top)
  tower =
      let is_sound = each_get (SoundProc d s.cluster.parts w.common.objects) w.processes who.process asks.is_top.proc runs.sound.processes
      asks.is_top.is in
      let xs = asks.is_top.proc.activations in
      let under : below_of xs ≡ below = ap below_of asks.is_top.stack ∙ below_of-push below top in
      let over : top_of xs ≡ Some top = ap top_of asks.is_top.stack ∙ top_of-push below top in
      subst (λ x. SoundTower d s.cluster.parts w.common.objects below x) over
      (subst (λ x. SoundTower d s.cluster.parts w.common.objects x (top_of xs)) under is_sound.tower)

  pub below_waiting : (b : CodeActivation) → top_of below ≡ Some b → Waiting s.cluster places b
  below_waiting b e =
      let h = last_waits d s.cluster.parts w.common.objects below top.operation b tower.0 e in
      record {
        entry = its_entry d s.cluster.parts w.common.objects b h.waits.rests;
        at = waits_here d s.cluster.parts w.common.objects b h.waits.rests h.waits.into;
      }

  waiting_if : (b : Option CodeActivation) → top_of below ≡ b → WaitingIf s.cluster places b
  waiting_if None e = tt
  waiting_if (Some b) e = below_waiting b e

  pub goer_waits : (e : Effect) → GoerWaits s.cluster places below top e
  goer_waits (GoesOn given) = top_waiting
  goer_waits (Calls op own args) = top_waiting
  goer_waits (Leaves given) = waiting_if (top_of below) refl
  goer_waits (Blocks queue own) = top_waiting
  goer_waits Ends = tt
  goer_waits (Fails why line) = tt
