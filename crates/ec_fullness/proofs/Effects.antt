-- What an effect of an action brings to nodes: texts that are taken or that a new activation holds, and the block of this.
use Rattle.std.proofs.Common.{◌≡◌, ℕ, zero, suc, ◌+◌, inl, ⊎_elim, List, [], ◌∷◌, ◌++◌, length, Option, Some, None}
use Rattle.std.proofs.Common.{refl, sym, ap, ◌∙◌, subst, arith}
use Rattle.std.specs.Prelude.{slice_get}
use Rattle.std.proofs.lemmas.Option.{same_Some}
use Rattle.ec_base.proofs.Stacks.{stack_parts, top_of_none}
use Rattle.ec_base.specs.Stack.{below_of, top_of}
use Rattle.ec_cluster.specs.Cluster.{CodeWorld, frame_of}
use Rattle.ec_cluster.specs.declared.cluster.Cluster.{Cluster}
use Rattle.ec_cluster.proofs.Finishing.{finished_own}
use Rattle.ec_code.specs.Activations.{begun, code_meaning, finished}
use Rattle.ec_code.specs.Fine.{Fine}
use Rattle.ec_code.specs.Typing.{Declared}
use Rattle.ec_code.specs.declared.activation.CodeActivation.{CodeActivation}
use Rattle.ec_machine_code.specs.Limits.{HasLimits}
use Rattle.ec_fullness.proofs.Begun.{no_text_begun}
use Rattle.ec_fullness.proofs.Blocks.{one, summed_push, top_finished}
use Rattle.ec_fullness.proofs.Stacks.{after, all_after, all_push, begun_stacks, there_after}
use Rattle.ec_fullness.proofs.Values.{WaitsAt, finished_before, finished_takes, none_taken, values_of}
use Rattle.ec_fullness.specs.Fullness.{Wants}
use Rattle.ec_node_frames.proofs.Items.{get_front}
use Rattle.ec_node_frames.specs.Finishing.{IsTaken}
use Rattle.ec_world.proofs.Procs.{activation_is, get_end}
use Rattle.ec_world.specs.Held.{if_at}
use Rattle.ec_world.specs.Things.{activation_at}
use Rattle.ec_world.specs.declared.key.Key.{Key}
use Rattle.ec_world.specs.declared.key.Key.TheVariants.{Frame, Object}
use Rattle.ec_generate.specs.declared.table.StopEntry.{StopEntry}
use Rattle.ec_things.proofs.Sums.{summed}
use Rattle.ec_things.specs.Texts.{IsHeld}
use Rattle.ec_things.specs.Things.{Thing, frame_if, object_if, object_thing, things_of}
use Rattle.ec_world.specs.Group.{Has}
use Rattle.ec_world.specs.Objects.{object_at}
use Rattle.ec_world.specs.World.{changed, finish_top}
use Rattle.ec_world.specs.declared.common.Common.{Common}
use Rattle.ec_world.specs.declared.doing.Outcome.{Outcome}
use Rattle.ec_world.specs.declared.doing.Section.{Section}
use Rattle.ec_world.specs.declared.object.ObjectRec.{ObjectRec}
use Rattle.ec_world.specs.declared.process.Proc.{Proc}
use Rattle.ec_world.specs.declared.stop.Effect.{Effect}
use Rattle.ec_world.specs.declared.stop.Effect.TheVariants.{GoesOn, Calls, Leaves, Blocks, Ends, Fails}
use Rattle.ec_world.specs.declared.value.Value.{Value}
use Rattle.ec_world.specs.declared.value.Value.TheVariants.{Str}

-- ---- what comes

module _ (c : Cluster) (places : ℕ → Option ℕ) where
  -- an activation waits for what the stop gives at which it rests
  pub record Waiting (a : CodeActivation) : Type 0 where
    pub entry : StopEntry
    pub at : WaitsAt c.parts a entry

  -- a text comes to it
  pub record TakenBy (a : CodeActivation) (given : Option Value) (k : ℕ) (text : List ℕ) : Type 0 where
    pub waiting : Waiting a
    pub place : places a.own ≡ Some k
    pub takes : IsTaken waiting.entry.result given text

  -- a new activation holds a text
  pub record BegunWith (operation own : ℕ) (arguments : List Value) (k : ℕ) (text : List ℕ) : Type 0 where
    pub place : places own ≡ Some k
    pub has : Has (values_of c.parts (begun operation own arguments)) (Str text)

  abbrev pub TakenIf : Option CodeActivation → Option Value → ℕ → List ℕ → Type 0
  TakenIf None given k text = ⊥
  TakenIf (Some a) given k text = TakenBy a given k text

  -- the texts that come to a node by an effect on the activation on top of these
  abbrev pub Brought : List CodeActivation → CodeActivation → Effect → ℕ → List ℕ → Type 0
  Brought below top (GoesOn given) k text = TakenBy top given k text
  Brought below top (Calls op own args) k text = BegunWith op own args k text
  Brought below top (Leaves given) k text = TakenIf (top_of below) given k text
  Brought below top (Blocks queue own) k text = ⊥
  Brought below top Ends k text = ⊥
  Brought below top (Fails why line) k text = ⊥

  abbrev pub WaitingIf : Option CodeActivation → Type 0
  WaitingIf None = Unit {0}
  WaitingIf (Some a) = Waiting a

  -- the activation that goes on waits for what comes to it
  abbrev pub GoerWaits : List CodeActivation → CodeActivation → Effect → Type 0
  GoerWaits below top (GoesOn given) = Waiting top
  GoerWaits below top (Calls op own args) = Waiting top
  GoerWaits below top (Leaves given) = WaitingIf (top_of below)
  GoerWaits below top (Blocks queue own) = Waiting top
  GoerWaits below top Ends = Unit {0}
  GoerWaits below top (Fails why line) = Unit {0}

module _ (d : Declared) (c : Cluster) (fine : Fine d c.parts) (limits : HasLimits c.parts) (places : ℕ → Option ℕ)
    (w : CodeWorld) (p : ℕ) (below : List CodeActivation) (top : CodeActivation) (proc : Proc CodeActivation)
    (is : slice_get w.processes p ≡ Some proc) (stack : proc.activations ≡ below ++ top ∷ []) where
  -- ---- the texts of activations

  module _ {T : Type 0} (k : ℕ) (text : List ℕ) (old : Wants c places w k text → T) where
    abbrev OrNew : CodeActivation → Type 0
    OrNew a = places a.own ≡ Some k → Has (values_of c.parts a) (Str text) → T

    old_one : (q depth : ℕ) (a : CodeActivation) → activation_at w.processes q depth ≡ Some a → OrNew a
    old_one q depth a e at has = old (inl (record {
      key = Frame q depth;
      thing = frame_of c q depth a;
      is = ap (frame_if (frame_of c) q depth) e;
      at = at;
      has = has;
    }))

    in_stack : (depth : ℕ) (a : CodeActivation) → slice_get (below ++ top ∷ []) depth ≡ Some a → OrNew a
    in_stack depth a e = old_one p depth a (activation_is w.processes p depth proc is ∙ ap (λ xs. slice_get xs depth) stack ∙ e)

    in_below : (depth : ℕ) (a : CodeActivation) → slice_get below depth ≡ Some a → OrNew a
    in_below depth a e = in_stack depth a (get_front below (top ∷ []) depth a e)

    top_old : OrNew top
    top_old = in_stack (length below) top (get_end below top)

    goes : (a : CodeActivation) (given : Option Value) → OrNew a → (waiting : Waiting c places a) →
        (TakenBy c places a given k text → T) → OrNew (finished a given)
    goes a given before waiting came at has =
        let place : places a.own ≡ Some k = ap places (sym (finished_own a given)) ∙ at in
        ⊎_elim
        (λ (h : Has (values_of c.parts a) (Str text)). before place h)
        (λ (t : IsTaken waiting.entry.result given text). came (record { waiting = waiting; place = place; takes = t }))
        (finished_before d c.parts fine limits a waiting.entry waiting.at given text has)

    goes_without : (a : CodeActivation) → OrNew a → (waiting : Waiting c places a) → OrNew (finished a None)
    goes_without a before waiting =
        goes a None before waiting (λ t. absurd (none_taken t.waiting.entry.result text t.takes))

    -- the activation below that takes what is given, and those below it
    leaves_to : (b : Option CodeActivation) (given : Option Value) → top_of below ≡ b → WaitingIf c places b →
        (TakenIf c places b given k text → T) → (depth : ℕ) (a : CodeActivation) →
        slice_get (finish_top code_meaning (below_of below) b given) depth ≡ Some a → OrNew a
    leaves_to None given e waiting came depth a g = absurd cc
    leaves_to (Some b) given e waiting came depth a g =
        let parts = stack_parts below b e in
        let lower : (i : ℕ) (x : CodeActivation) → slice_get (below_of below) i ≡ Some x → OrNew x =
        λ i x f. in_below i x (ap (λ xs. slice_get xs i) parts ∙ get_front (below_of below) (b ∷ []) i x f) in
        let here : OrNew b =
        in_below (length (below_of below)) b (ap (λ xs. slice_get xs (length (below_of below))) parts ∙ get_end (below_of below) b) in
        all_push OrNew (below_of below) (finished b given) lower (goes b given here waiting came) depth a g

    -- each activation of the process after an effect
    by_effect : (e : Effect) → GoerWaits c places below top e → (Brought c places below top e k text → T) →
        (depth : ℕ) (a : CodeActivation) → slice_get (changed code_meaning below top e).activations depth ≡ Some a → OrNew a
    by_effect (GoesOn given) waiting came depth a g =
        all_push OrNew below (finished top given) in_below (goes top given top_old waiting came) depth a g
    by_effect (Calls op own args) waiting came depth a g =
        all_push OrNew (below ++ finished top None ∷ []) (begun op own args)
        (all_push OrNew below (finished top None) in_below (goes_without top top_old waiting))
        (λ at has. came (record { place = at; has = has })) depth a g
    by_effect (Leaves given) waiting came depth a g = leaves_to (top_of below) given refl waiting came depth a g
    by_effect (Blocks queue own) waiting came depth a g =
        all_push OrNew below (finished top None) in_below (goes_without top top_old waiting) depth a g
    by_effect Ends waiting came depth a g = absurd cc
    by_effect (Fails why line) waiting came depth a g = absurd cc

    begins : (s : Option Section) (q : ℕ) (xs : List CodeActivation) →
        slice_get (begun_stacks w p below top w.common (record { effect = Ends; granted = None; started = s }) ([], [])) q ≡ Some xs →
        (depth : ℕ) (a : CodeActivation) → slice_get xs depth ≡ Some a → OrNew a
    begins None q xs e depth a g = absurd cc
    begins (Some s) zero xs e depth a g =
        let first : begun s.operation s.own [] ∷ [] ≡ xs = same_Some _ xs e in
        only depth (ap (λ (ys : List CodeActivation). slice_get ys depth) first ∙ g)
      where
        only : (i : ℕ) → slice_get (begun s.operation s.own [] ∷ []) i ≡ Some a → OrNew a
        only zero f at has =
            let it : begun s.operation s.own [] ≡ a = same_Some _ a f in
            absurd
            (no_text_begun c.parts s.operation s.own text
            (subst (λ (x : CodeActivation). Has (values_of c.parts x) (Str text)) (sym it) has))
        only (suc i) f at has = absurd cc
    begins (Some s) (suc q) xs e depth a g = absurd cc

    -- A text that is wanted after an action was wanted before, or the effect brought it, or it is in a constant or in an object.
    pub wanted_before : (common : Common) (o : Outcome) (g : List ObjectRec × List ℕ) → GoerWaits c places below top o.effect →
        (Brought c places below top o.effect k text → T) → (Has common.globals (Str text) → T) →
        ((oid : ℕ) (x : ObjectRec) → object_at g.0 oid ≡ Some x → places oid ≡ Some k → Has x.fields (Str text) → T) →
        Wants c places (after w p below top common o g) k text → T
    wanted_before common o g waiting came globals objects wants = ⊎_elim
        (λ (h : IsHeld (things_of (frame_of c) (after w p below top common o g)) places k text).
        of_key h.key h.thing h.is h.at h.has)
        (λ (h : Has common.globals (Str text)). globals h)
        wants
      where
        frames : (q depth : ℕ) (a : CodeActivation) → activation_at (after w p below top common o g).processes q depth ≡ Some a → OrNew a
        frames = all_after w p below top common o g OrNew old_one (by_effect o.effect waiting came) (begins o.started)

        of_frame : (q depth : ℕ) (x : Option CodeActivation) →
            activation_at (after w p below top common o g).processes q depth ≡ x →
            (t : Thing) → frame_if (frame_of c) q depth x ≡ Some t → places t.home ≡ Some k → Has t.values (Str text) → T
        of_frame q depth None e t f at has = absurd cc
        of_frame q depth (Some a) e t f at has =
            let same : frame_of c q depth a ≡ t = same_Some (frame_of c q depth a) t f in
            frames q depth a e (ap (λ (x : Thing). places x.home) same ∙ at)
            (subst (λ (x : Thing). Has x.values (Str text)) (sym same) has)

        of_object : (oid : ℕ) (x : Option ObjectRec) → object_at g.0 oid ≡ x → (t : Thing) → object_if oid x ≡ Some t →
            places t.home ≡ Some k → Has t.values (Str text) → T
        of_object oid None e t f at has = absurd cc
        of_object oid (Some x) e t f at has =
            let same : object_thing oid x ≡ t = same_Some (object_thing oid x) t f in
            objects oid x e (ap (λ (y : Thing). places y.home) same ∙ at)
            (subst (λ (y : Thing). Has y.values (Str text)) (sym same) has)

        of_key : (key : Key) (t : Thing) → things_of (frame_of c) (after w p below top common o g) key ≡ Some t →
            places t.home ≡ Some k → Has t.values (Str text) → T
        of_key (Object oid) t e at has = of_object oid (object_at g.0 oid) refl t e at has
        of_key (Frame q depth) t e at has =
            of_frame q depth (activation_at (after w p below top common o g).processes q depth) refl t e at has

  -- ---- what came is wanted

  module _ (common : Common) (o : Outcome) (g : List ObjectRec × List ℕ) (k : ℕ) (text : List ℕ) where
    abbrev now : CodeWorld
    now = after w p below top common o g

    held_now : (depth : ℕ) (a : CodeActivation) → slice_get (changed code_meaning below top o.effect).activations depth ≡ Some a →
        places a.own ≡ Some k → Has (values_of c.parts a) (Str text) → Wants c places now k text
    held_now depth a e at has = inl (record {
      key = Frame p depth;
      thing = frame_of c p depth a;
      is = ap (frame_if (frame_of c) p depth) (there_after w p below top common o g proc is depth ∙ e);
      at = at;
      has = has;
    })

    taken_now : (depth : ℕ) (a : CodeActivation) (given : Option Value) →
        slice_get (changed code_meaning below top o.effect).activations depth ≡ Some (finished a given) →
        TakenBy c places a given k text → Wants c places now k text
    taken_now depth a given e t =
        held_now depth (finished a given) e (ap places (finished_own a given) ∙ t.place)
        (finished_takes d c.parts fine limits a t.waiting.entry t.waiting.at given text t.takes)

    pub brought_now : (e : Effect) → o.effect ≡ e → Brought c places below top e k text → Wants c places now k text
    brought_now (GoesOn given) f t =
        taken_now (length below) top given
        (ap (λ x. slice_get (changed code_meaning below top x).activations (length below)) f ∙ get_end below (finished top given)) t
    brought_now (Calls op own args) f b =
        let depth = length (below ++ finished top None ∷ []) in
        held_now depth (begun op own args)
        (ap (λ x. slice_get (changed code_meaning below top x).activations depth) f
        ∙ get_end (below ++ finished top None ∷ []) (begun op own args)) b.place b.has
    brought_now (Leaves given) f t = to (top_of below) refl t
      where
        to : (b : Option CodeActivation) → top_of below ≡ b → TakenIf c places b given k text → Wants c places now k text
        to None e u = absurd u
        to (Some b) e u =
            let depth = length (below_of below) in
            taken_now depth b given
            (ap (λ x. slice_get (changed code_meaning below top x).activations depth) f
            ∙ ap (λ x. slice_get (finish_top code_meaning (below_of below) x given) depth) e
            ∙ get_end (below_of below) (finished b given)) u
    brought_now (Blocks queue own) f t = absurd t
    brought_now Ends f t = absurd t
    brought_now (Fails why line) f t = absurd t

-- ---- the blocks of activations

module _ (c : Cluster) (places : ℕ → Option ℕ) (k : ℕ) (below : List CodeActivation) (top : CodeActivation) where
  abbrev weight_of : Effect → ℕ
  weight_of e = summed (one c places k) (changed code_meaning below top e).activations

  abbrev weight : ℕ
  weight = summed (one c places k) (below ++ top ∷ [])

  pub goes_weight : (given : Option Value) → weight_of (GoesOn given) ≡ weight
  goes_weight given = top_finished c places k below top given

  pub calls_weight : (op own : ℕ) (args : List Value) → weight_of (Calls op own args) ≡ weight + if_at k 1 (places own)
  calls_weight op own args =
      let a = summed_push (one c places k) (below ++ finished top None ∷ []) (begun op own args) in
      let b = top_finished c places k below top None in
      omega (arith, a, b)

  pub leaves_weight : (given : Option Value) → weight_of (Leaves given) + if_at k 1 (places top.own) ≡ weight
  leaves_weight given =
      let a = to (top_of below) refl in
      let b = summed_push (one c places k) below top in
      omega (arith, a, b)
    where
      to : (b : Option CodeActivation) → top_of below ≡ b →
          summed (one c places k) (finish_top code_meaning (below_of below) b given) ≡ summed (one c places k) below
      to None e = ap (summed (one c places k)) (sym (top_of_none below e))
      to (Some b) e =
          top_finished c places k (below_of below) b given ∙ ap (summed (one c places k)) (sym (stack_parts below b e))
