-- An effect has come to the activation on top of a process.
use Rattle.std.proofs.Common.{◌≡◌, ◌≤◌, ℕ, suc, ◌+◌, ◌-◌, List, [], ◌∷◌, ◌++◌, Option, Some, None, refl, sym, ap, ◌∙◌}
use Rattle.std.proofs.Common.{subst, arith, append_assoc, length-append}
use Rattle.std.specs.Prelude.{length, slice_get}
use Rattle.ec_base.proofs.Stacks.{stack_parts}
use Rattle.ec_base.specs.Stack.{below_of, top_of}
use Rattle.ec_cluster.specs.Cluster.{CodeWorld, Shows}
use Rattle.ec_cluster.specs.Images.{homes_on, image_of}
use Rattle.ec_cluster.specs.Steps.{Changes, Nothing, WhereIs}
use Rattle.ec_cluster.specs.declared.cluster.Cluster.{Cluster}
use Rattle.ec_cluster.specs.declared.cluster.Images.{Images}
use Rattle.ec_cluster.specs.Frames.{BeginsWith, CanBegin, FrameAt, HasImages, HasRoomFor, RestsOn, with_stack}
use Rattle.ec_code.specs.Activations.{begun, code_meaning, finished}
use Rattle.ec_code.specs.Typing.{Declared}
use Rattle.ec_code.specs.declared.activation.CodeActivation.{CodeActivation}
use Rattle.ec_code.specs.declared.code.Parts.{Parts}
use Rattle.ec_node_frames.specs.Finishing.{IsTaken}
use Rattle.ec_node_frames.specs.Frames.{HasTables, RestsAt}
use Rattle.ec_world.specs.Things.{activation_at}
use Rattle.ec_acts.proofs.Doing.{begun_string, no_room_needed, none_taken}
use Rattle.ec_acts.proofs.Finished.{ChangesFinished, ShowsFinished, can_finish, finished_changes, finished_shown, finished_string}
use Rattle.ec_acts.proofs.Owning.{AnswersOwn}
use Rattle.ec_acts.proofs.Stacking.{frame_at, get_at, restack, stack_with, stacked, stacked_at}
use Rattle.ec_acts.proofs.Wording.{strings_join, strings_moved}
use Rattle.ec_acts.specs.Taking.{Becomes, HasActivation, TakesIn}
use Rattle.ec_generate.specs.declared.table.StopEntry.{StopEntry}
use Rattle.ec_cluster.proofs.Pools.{strings_come}
use Rattle.ec_cluster.specs.SystemSteps.{CanFinish, TakesBelow}
use Rattle.ec_world.specs.World.{finish_top}
use Rattle.ec_world.specs.declared.node.Kind.{Kind}
use Rattle.ec_world.specs.declared.process.Proc.{Proc}
use Rattle.ec_world.specs.declared.process.ProcStatus.{ProcStatus}
use Rattle.ec_world.specs.declared.process.ProcStatus.TheVariants.{Ready}
use Rattle.ec_world.specs.declared.stop.Effect.TheVariants.{GoesOn, Calls, Leaves}
use Rattle.ec_world.specs.declared.stop.Who.{Who}
use Rattle.ec_world.specs.declared.value.Value.{Value}

-- ---- what steps leave

abbrev images_by : Declared → Parts → Images → Type 0
images_by d parts images = (kind : Kind) → HasTables d parts kind (homes_on images) (image_of images kind).table.operations

-- the images of the program are its own behind each step
pub images_moved : (Added : ℕ → List ℕ → Type 0) (d : Declared) (c c' : Cluster) → Changes Added c c' → HasImages d c → HasImages d c'
images_moved Added d c c' changes has =
    subst (λ (x : Parts). images_by d x c'.images) (sym changes.parts)
    (subst (λ (x : Images). images_by d c.parts x) (sym changes.images) has)

-- what the closing of an activation leaves
abbrev pub ShowsClosed : Cluster → Cluster → ℕ → ℕ → ℕ → Type 0
ShowsClosed c c' p depth own =
    (w : CodeWorld) (proc : Proc CodeActivation) (below : List CodeActivation) (a : CodeActivation) (status : ProcStatus) →
    Shows c w → slice_get w.processes p ≡ Some proc → proc.activations ≡ below ++ a ∷ [] → depth ≡ length below → a.own ≡ own →
    Shows c' (with_stack w p below status)

-- what the beginning of an activation leaves
abbrev pub ShowsBegun : Cluster → Cluster → ℕ → ℕ → CodeActivation → Type 0
ShowsBegun c c' p depth a =
    (d : Declared) (w : CodeWorld) (proc : Proc CodeActivation) (status : ProcStatus) → HasImages d c → Shows c w →
    slice_get w.processes p ≡ Some proc → depth ≡ length proc.activations →
    Shows c' (with_stack w p (proc.activations ++ a ∷ []) status)

-- ---- the action is done

module _ (d : Declared) (c : Cluster) (w : CodeWorld) (below : List CodeActivation) (top : CodeActivation) (who : Who)
    (given : Option Value) (t : TakesIn d c w below top who (GoesOn given)) where
  can_go_on : CanFinish c top given
  can_go_on = t.can

  pub top_can : (e : StopEntry) × RestsOn c who.process who.depth who.own e × HasRoomFor c who.own e given
  top_can =
      let s = t.shows_top in
      can_finish d c w t.images s.shows who.process who.depth who.own s.is_top.proc s.is_top.is below [] top s.is_top.stack s.depth s.owns
      given can_go_on

  module _ (c' : Cluster) (status : ProcStatus) (shows : ShowsFinished c c' who.process who.depth who.own given)
      (changes : ChangesFinished c c' who.process who.depth who.own given) (whereabouts : c'.whereabouts ≡ c.whereabouts) where
    abbrev gone_on : CodeWorld
    gone_on = with_stack w who.process (below ++ finished top given ∷ []) status

    pub top_done : Becomes c c' (with_stack w who.process (below ++ finished top given ∷ []) status)
    top_done =
        let s = t.shows_top in
        let proc = s.is_top.proc in
        let shown = finished_shown d c w t.images s.shows who.process who.depth who.own proc s.is_top.is below [] top s.is_top.stack s.depth
        s.owns given can_go_on c' status shows in
        let come = finished_changes d c w t.images s.shows who.process who.depth who.own proc s.is_top.is below [] top s.is_top.stack
        s.depth s.owns given can_go_on c' changes in
        let at : activation_at gone_on.processes who.process who.depth ≡ Some (finished top given) =
        ap (activation_at gone_on.processes who.process) s.depth
        ∙ stacked_at w who.process proc s.is_top.is below [] (finished top given) status in
        record {
          shows = shown;
          texts = strings_come (WhereIs c who.own (IsTaken can_go_on.entry.result given)) c c' gone_on come shown
              (λ k text h. strings_moved c c' gone_on k text come.parts come.images whereabouts
              (finished_string d c w t.images s.shows who.process who.depth who.own proc s.is_top.is below [] top s.is_top.stack s.depth
              s.owns given can_go_on gone_on k text at h));
          whereabouts = whereabouts;
        }

-- ---- a new activation lies on top

module _ (d : Declared) (c : Cluster) (w : CodeWorld) (below : List CodeActivation) (top : CodeActivation) (who : Who) (op own : ℕ)
    (args : List Value) (t : TakesIn d c w below top who (Calls op own args)) where
  can_call : CanFinish c top None × CanBegin c who.process (suc (length below)) op own args
  can_call = t.can

  pub can_begin : (depth : ℕ) → depth ≡ who.depth + 1 → CanBegin c who.process depth op own args
  can_begin depth is =
      let s = t.shows_top.depth in
      let high : depth ≡ suc (length below) = omega (arith, is, s) in
      subst (λ n. CanBegin c who.process n op own args) (sym high) can_call.1

  abbrev new : CodeActivation
  new = begun op own args

  module _ (c1 : Cluster) (depth : ℕ) (is : depth ≡ who.depth + 1) (changes : Changes (BeginsWith c op own args) c c1)
      (whereabouts : c1.whereabouts ≡ c.whereabouts) (shown : ShowsBegun c c1 who.process depth (begun op own args)) where
    abbrev above : List CodeActivation
    above = t.shows_top.is_top.proc.activations ++ new ∷ []

    above_is : t.shows_top.is_top.proc.activations ++ begun op own args ∷ [] ≡ below ++ top ∷ (begun op own args ∷ [])
    above_is =
        ap (λ (xs : List CodeActivation). xs ++ new ∷ []) t.shows_top.is_top.stack ∙ append_assoc below (top ∷ []) (new ∷ [])

    shows_above : (status : ProcStatus) → Shows c1 (with_stack w who.process above status)
    shows_above status =
        let s = t.shows_top in
        let n = length-append below (top ∷ []) in
        let many : length s.is_top.proc.activations ≡ length (below ++ top ∷ []) = ap length s.is_top.stack in
        let low = s.depth in
        let high : depth ≡ length s.is_top.proc.activations = omega (arith, is, low, n, many) in
        shown d w s.is_top.proc status t.images s.shows s.is_top.is high

    still : CanFinish c1 top None
    still = record {
      entry = can_call.0.entry;
      rests = subst (λ (q : Parts). RestsAt q top can_call.0.entry) (sym changes.parts) can_call.0.rests;
      waits = can_call.0.waits;
      room = λ k s at there. no_room_needed s can_call.0.entry.result;
    }

    pub then_can : (e : StopEntry) × RestsOn c1 who.process who.depth who.own e × HasRoomFor c1 who.own e None
    then_can =
        let s = t.shows_top in
        can_finish d c1 (with_stack w who.process above Ready) (images_moved (BeginsWith c op own args) d c c1 changes t.images)
        (shows_above Ready) who.process who.depth who.own (stack_with above Ready)
        (stacked w who.process s.is_top.proc s.is_top.is above Ready) below (new ∷ []) top above_is s.depth s.owns None still

    module _ (c2 : Cluster) (status : ProcStatus) (finishes : ShowsFinished c1 c2 who.process who.depth who.own None)
        (then_changes : ChangesFinished c1 c2 who.process who.depth who.own None) (then_whereabouts : c2.whereabouts ≡ c1.whereabouts) where
      abbrev called_stack : List CodeActivation
      called_stack = (below ++ finished top None ∷ []) ++ new ∷ []

      abbrev called_world : CodeWorld
      called_world = with_stack w who.process called_stack status

      new_there : activation_at called_world.processes who.process (suc (length below)) ≡ Some (begun op own args)
      new_there =
          let s = t.shows_top in
          let n = length-append below (finished top None ∷ []) in
          let high : suc (length below) ≡ length (below ++ finished top None ∷ []) = omega (arith, n) in
          ap (activation_at called_world.processes who.process) high
          ∙ stacked_at w who.process s.is_top.proc s.is_top.is (below ++ finished top None ∷ []) [] new status

      pub called : Becomes c c2
          (with_stack w who.process ((below ++ finished top None ∷ []) ++ begun op own args ∷ []) status)
      called =
          let s = t.shows_top in
          let w1 : CodeWorld = with_stack w who.process above Ready in
          let images1 = images_moved (BeginsWith c op own args) d c c1 changes t.images in
          let there1 = stacked w who.process s.is_top.proc s.is_top.is above Ready in
          let shown2 = finished_shown d c1 w1 images1 (shows_above Ready) who.process who.depth who.own (stack_with above Ready) there1
          below (new ∷ []) top above_is s.depth s.owns None still c2 status finishes in
          let come2 = finished_changes d c1 w1 images1 (shows_above Ready) who.process who.depth who.own (stack_with above Ready) there1
          below (new ∷ []) top above_is s.depth s.owns None still c2 then_changes in
          let once : Shows c2 (with_stack w who.process (below ++ finished top None ∷ (new ∷ [])) status) =
          subst (λ (x : CodeWorld). Shows c2 x) (restack w who.process above (below ++ finished top None ∷ (new ∷ [])) Ready status)
          shown2 in
          let regrouped : Shows c2 called_world =
          subst (λ (xs : List CodeActivation). Shows c2 (with_stack w who.process xs status))
          (sym (append_assoc below (finished top None ∷ []) (new ∷ []))) once in
          record {
            shows = regrouped;
            texts = strings_join (BeginsWith c op own args) (WhereIs c1 who.own (IsTaken still.entry.result None)) c c1 c2 called_world
                changes come2 regrouped
                (λ k text h. strings_moved c c2 called_world k text (come2.parts ∙ changes.parts) (come2.images ∙ changes.images)
                (then_whereabouts ∙ whereabouts)
                (begun_string d c t.images called_world k who.process (suc (length below)) op own args text can_call.1.entry new_there h))
                (λ k text h. absurd (none_taken still.entry.result text h.1));
            whereabouts = then_whereabouts ∙ whereabouts;
          }

-- ---- the activation on top goes

module _ (d : Declared) (c : Cluster) (w : CodeWorld) (below : List CodeActivation) (top : CodeActivation) (who : Who)
    (given : Option Value) (t : TakesIn d c w below top who (Leaves given)) where
  -- the activation below it
  record HasLower : Type 0 where
    lower : CodeActivation
    is : top_of below ≡ Some lower
    can : CanFinish c lower given

  lower_by : (x : Option CodeActivation) → top_of below ≡ x → TakesBelow c x given → HasLower
  lower_by None e h = absurd h
  lower_by (Some a) e h = record { lower = a; is = e; can = h }

  has_lower : HasLower
  has_lower = lower_by (top_of below) refl t.can

  abbrev low : List CodeActivation
  low = below_of below

  below_parts : below ≡ below_of below ++ has_lower.lower ∷ []
  below_parts = stack_parts below has_lower.lower has_lower.is

  depth_is : who.depth ≡ length (below_of below) + 1
  depth_is =
      let s = t.shows_top.depth in
      let n = length-append low (has_lower.lower ∷ []) in
      let many : length below ≡ length (low ++ has_lower.lower ∷ []) = ap length below_parts in
      omega (arith, s, n, many)

  pub deep : 1 ≤ who.depth
  deep = let h = depth_is in omega (arith, h)

  lower_depth : who.depth - 1 ≡ length (below_of below)
  lower_depth = let h = depth_is in omega (arith, h)

  stack_is : t.shows_top.is_top.proc.activations ≡ below_of below ++ has_lower.lower ∷ (top ∷ [])
  stack_is =
      t.shows_top.is_top.stack ∙ ap (λ (xs : List CodeActivation). xs ++ top ∷ []) below_parts
      ∙ append_assoc low (has_lower.lower ∷ []) (top ∷ [])

  lower_there : slice_get t.shows_top.is_top.proc.activations (who.depth - 1) ≡ Some has_lower.lower
  lower_there =
      ap (λ (xs : List CodeActivation). slice_get xs (who.depth - 1)) stack_is
      ∙ ap (slice_get (low ++ has_lower.lower ∷ (top ∷ []))) lower_depth ∙ get_at low (top ∷ []) has_lower.lower

  pub has_lower_one : HasActivation c who.process (who.depth - 1)
  has_lower_one = record {
    world = w;
    proc = t.shows_top.is_top.proc;
    activation = has_lower.lower;
    shows = t.shows_top.shows;
    is = t.shows_top.is_top.is;
    there = lower_there;
  }

  module _ (own : ℕ) (answers : AnswersOwn c who.process (who.depth - 1) own) where
    owns_lower : own ≡ has_lower.lower.own
    owns_lower = answers w t.shows_top.is_top.proc has_lower.lower t.shows_top.shows t.shows_top.is_top.is lower_there

    pub lower_can : (e : StopEntry) × RestsOn c who.process (who.depth - 1) own e × HasRoomFor c own e given
    lower_can =
        let s = t.shows_top in
        can_finish d c w t.images s.shows who.process (who.depth - 1) own s.is_top.proc s.is_top.is low (top ∷ []) has_lower.lower stack_is
        lower_depth owns_lower given has_lower.can

    module _ (c1 : Cluster) (finishes : ShowsFinished c c1 who.process (who.depth - 1) own given) where
      abbrev next : CodeActivation
      next = finished has_lower.lower given

      abbrev high : List CodeActivation
      high = low ++ next ∷ (top ∷ [])

      shows_high : (status : ProcStatus) → Shows c1 (with_stack w who.process high status)
      shows_high status =
          let s = t.shows_top in
          finished_shown d c w t.images s.shows who.process (who.depth - 1) own s.is_top.proc s.is_top.is low (top ∷ []) has_lower.lower
          stack_is lower_depth owns_lower given has_lower.can c1 status finishes

      high_there : (status : ProcStatus) →
          slice_get (with_stack w who.process high status).processes who.process ≡ Some (stack_with high status)
      high_there status = stacked w who.process t.shows_top.is_top.proc t.shows_top.is_top.is high status

      high_is : below_of below ++ finished has_lower.lower given ∷ (top ∷ [])
          ≡ (below_of below ++ finished has_lower.lower given ∷ []) ++ top ∷ []
      high_is = sym (append_assoc low (next ∷ []) (top ∷ []))

      high_depth : who.depth ≡ length (below_of below ++ finished has_lower.lower given ∷ [])
      high_depth =
          let h = depth_is in
          let n = length-append low (next ∷ []) in
          omega (arith, h, n)

      pub top_there : FrameAt c1 who.process who.depth who.own
      top_there =
          let there : slice_get high who.depth ≡ Some top =
          ap (λ (xs : List CodeActivation). slice_get xs who.depth) high_is
          ∙ ap (slice_get ((low ++ next ∷ []) ++ top ∷ [])) high_depth ∙ get_at (low ++ next ∷ []) [] top in
          frame_at c1 (with_stack w who.process high Ready) (shows_high Ready) who.process (stack_with high Ready) (high_there Ready)
          who.depth top there who.own t.shows_top.owns

      module _ (changes : ChangesFinished c c1 who.process (who.depth - 1) own given) (whereabouts : c1.whereabouts ≡ c.whereabouts)
          (c2 : Cluster) (status : ProcStatus) (closes : ShowsClosed c1 c2 who.process who.depth who.own)
          (then_changes : Changes Nothing c1 c2) (then_whereabouts : c2.whereabouts ≡ c1.whereabouts) where
        abbrev left_world : CodeWorld
        left_world = with_stack w who.process (low ++ next ∷ []) status

        next_there : activation_at left_world.processes who.process (who.depth - 1) ≡ Some (finished has_lower.lower given)
        next_there =
            ap (activation_at left_world.processes who.process) lower_depth
            ∙ stacked_at w who.process t.shows_top.is_top.proc t.shows_top.is_top.is low [] next status

        left_so : Becomes c c2 (with_stack w who.process (below_of below ++ finished has_lower.lower given ∷ []) status)
        left_so =
            let s = t.shows_top in
            let come = finished_changes d c w t.images s.shows who.process (who.depth - 1) own s.is_top.proc s.is_top.is low (top ∷ [])
            has_lower.lower stack_is lower_depth owns_lower given has_lower.can c1 changes in
            let shown : Shows c2 (with_stack (with_stack w who.process high status) who.process (low ++ next ∷ []) status) =
            closes (with_stack w who.process high status) (stack_with high status) (low ++ next ∷ []) top status (shows_high status)
            (high_there status) high_is high_depth (sym s.owns) in
            let once : Shows c2 left_world =
            subst (λ (x : CodeWorld). Shows c2 x) (restack w who.process high (low ++ next ∷ []) status status) shown in
            record {
              shows = once;
              texts = strings_join (WhereIs c own (IsTaken has_lower.can.entry.result given)) Nothing c c1 c2 left_world come then_changes
                  once
                  (λ k text h. strings_moved c c2 left_world k text (then_changes.parts ∙ come.parts) (then_changes.images ∙ come.images)
                  (then_whereabouts ∙ whereabouts)
                  (finished_string d c w t.images s.shows who.process (who.depth - 1) own s.is_top.proc s.is_top.is low (top ∷ [])
                  has_lower.lower stack_is lower_depth owns_lower given has_lower.can left_world k text next_there h))
                  (λ k text n. absurd n);
              whereabouts = then_whereabouts ∙ whereabouts;
            }

        pub left : Becomes c c2 (with_stack w who.process (finish_top code_meaning (below_of below) (top_of below) given) status)
        left =
            let same : finish_top code_meaning low (top_of below) given ≡ low ++ next ∷ [] =
            ap (λ (x : Option CodeActivation). finish_top code_meaning low x given) has_lower.is in
            subst (λ (xs : List CodeActivation). Becomes c c2 (with_stack w who.process xs status)) (sym same) left_so
