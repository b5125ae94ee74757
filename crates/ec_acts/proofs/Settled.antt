-- An outcome is settled step by step: monitors are given up, the effect comes, processes are Ready, and a section begins.
use Rattle.std.proofs.Common.{◌≡◌, ◌<◌, ℕ, List, [], ◌∷◌, ◌++◌, Option, Some, None, refl, sym, ap, ◌∙◌, subst}
use Rattle.std.specs.Prelude.{length, option_map, slice_get, slice_set}
use Rattle.std.proofs.lemmas.Option.{slice_get-map}
use Rattle.ec_activations.proofs.Stops.{mapped}
use Rattle.ec_base.proofs.Lists.{get_within, length_set}
use Rattle.ec_cluster.specs.Cluster.{CodeWorld, frame_of, place, stores}
use Rattle.ec_cluster.specs.Images.{image_of}
use Rattle.ec_cluster.specs.Steps.{Changes, Nothing}
use Rattle.ec_cluster.specs.declared.cluster.Cluster.{Cluster}
use Rattle.ec_cluster.specs.declared.cluster.Images.{Images}
use Rattle.ec_cluster.specs.Frames.{CanBegin, HasImages}
use Rattle.ec_code.specs.Activations.{code_meaning}
use Rattle.ec_code.specs.Typing.{Declared}
use Rattle.ec_code.specs.declared.activation.CodeActivation.{CodeActivation}
use Rattle.ec_node_frames.proofs.Items.{get_front}
use Rattle.ec_world.specs.Things.{activation_at, in_process}
use Rattle.ec_world.specs.declared.key.Key.{Key}
use Rattle.ec_world.specs.declared.key.Key.TheVariants.{Frame, Object}
use Rattle.ec_acts.proofs.Effected.{images_moved}
use Rattle.ec_acts.proofs.Following.{can_start}
use Rattle.ec_acts.proofs.Mirrored.{given_length, mirrors_still, world_with}
use Rattle.ec_acts.proofs.Readied.{map_set, rows_many, rows_of, rows_readied_are, stacks_kept}
use Rattle.ec_acts.proofs.Wording.{nothing_join, strings_join, strings_kept, strings_moved}
use Rattle.ec_acts.specs.Rows.{row_readied, rows_readied}
use Rattle.ec_acts.specs.Settling.{CanBeSettled, SettlesIn}
use Rattle.ec_acts.specs.Taking.{Becomes, CanBeTaken, CanFollow, GivesUp, ShowsSomeTop, ShowsTop, TakesIn, with_changed, with_objects}
use Rattle.ec_acts.specs.Taking.{with_section}
use Rattle.ec_cluster.specs.SystemSteps.{CanStart, CanTake, Settles, StartsBehind}
use Rattle.ec_cluster.specs.Systems.{Mirrors, Strings, row_of}
use Rattle.ec_cluster.specs.declared.system.ProcessRow.{ProcessRow}
use Rattle.ec_cluster.specs.declared.system.System.{System}
use Rattle.ec_things.proofs.Same.{restated, stacks}
use Rattle.ec_things.specs.Things.{Thing, frame_if, things_of}
use Rattle.ec_world.specs.Outcomes.{all_granted}
use Rattle.ec_world.specs.World.{all_readied, begun_for, changed, given_up, owns_of}
use Rattle.ec_world.specs.declared.doing.Outcome.{Outcome}
use Rattle.ec_world.specs.declared.doing.Section.{Section}
use Rattle.ec_world.specs.declared.object.ObjectRec.{ObjectRec}
use Rattle.ec_world.specs.declared.process.Proc.{Proc}
use Rattle.ec_world.specs.declared.process.ProcStatus.TheVariants.{Ready}
use Rattle.ec_world.specs.declared.stop.Effect.{Effect}
use Rattle.ec_world.specs.declared.stop.Effect.TheVariants.{GoesOn, Calls, Leaves, Blocks, Ends, Fails}
use Rattle.ec_world.specs.declared.stop.Who.{Who}
use Rattle.ec_world.specs.declared.value.Value.{Value}

-- ---- activations that stay

still_in : (ps qs more : List (Proc CodeActivation)) → stacks qs ≡ stacks ps → (q depth : ℕ) (a : CodeActivation)
    (x : Option (Proc CodeActivation)) → slice_get ps q ≡ x → in_process x depth ≡ Some a → activation_at (qs ++ more) q depth ≡ Some a
still_in ps qs more same q depth a None e f = absurd cc
still_in ps qs more same q depth a (Some proc) e f =
    let was : slice_get (stacks ps) q ≡ Some proc.activations =
    slice_get-map (λ (r : Proc CodeActivation). r.activations) ps q ∙ ap (option_map (λ (r : Proc CodeActivation). r.activations)) e in
    let now : slice_get (stacks qs) q ≡ Some proc.activations = ap (λ (xs : List (List CodeActivation)). slice_get xs q) same ∙ was in
    let m = mapped (λ (r : Proc CodeActivation). r.activations) qs q proc.activations now in
    ap (λ (y : Option (Proc CodeActivation)). in_process y depth) (get_front qs more q m.0 m.1)
    ∙ ap (λ (xs : List CodeActivation). slice_get xs depth) (sym m.2) ∙ f

frame_is : (c : Cluster) (p depth : ℕ) (x : Option CodeActivation) (t : Thing) → frame_if (frame_of c) p depth x ≡ Some t →
    (a : CodeActivation) × (x ≡ Some a)
frame_is c p depth None t e = absurd cc
frame_is c p depth (Some a) t e = (a, refl)

-- things of a world are those of one with the same objects and stacks, and more processes
still_things : (c : Cluster) (w : CodeWorld) (qs more : List (Proc CodeActivation)) → stacks qs ≡ stacks w.processes → (key : Key)
    (t : Thing) → things_of (frame_of c) w key ≡ Some t → things_of (frame_of c) (record w { processes = qs ++ more }) key ≡ Some t
still_things c w qs more same (Object oid) t e = e
still_things c w qs more same (Frame q depth) t e =
    let a = frame_is c q depth (activation_at w.processes q depth) t e in
    let now : activation_at (qs ++ more) q depth ≡ activation_at w.processes q depth =
    still_in w.processes qs more same q depth a.0 (slice_get w.processes q) refl a.1 ∙ sym a.1 in
    ap (frame_if (frame_of c) q depth) now ∙ e

-- ---- a section begins only behind a return

started_behind : (e : Effect) (section : Section) → StartsBehind e (Some section) → (given : Option Value) × (e ≡ Leaves given)
started_behind (GoesOn given) section h = absurd cc
started_behind (Calls op own args) section h = absurd cc
started_behind (Leaves given) section h = (given, refl)
started_behind (Blocks queue own) section h = absurd cc
started_behind Ends section h = absurd cc
started_behind (Fails why line) section h = absurd cc

-- ---- rows and processes are as many

one_long : (rows : List ProcessRow) (q : ℕ) (x : Option ProcessRow) → length (row_readied rows q x) ≡ length rows
one_long rows q None = refl
one_long rows q (Some row) = length_set rows q (record row { status = Ready })

rows_long : (qs : List ℕ) (rows : List ProcessRow) → length (rows_readied rows qs) ≡ length rows
rows_long [] rows = refl
rows_long (q ∷ qs) rows = rows_long qs (row_readied rows q (slice_get rows q)) ∙ one_long rows q (slice_get rows q)

abbrev CanBeginAs : Cluster → ℕ → Section → Type 0
CanBeginAs c n section = CanBegin c n 0 section.operation section.own []

-- ---- the steps

pub shows_some_top : (s : System) (who : Who) (o : Outcome) → CanBeSettled s who o → ShowsSomeTop s.cluster who
shows_some_top s who o can =
    let x = can.settles in record {
      world = can.world;
      below = can.below;
      top = can.top;
      shows_top = record { shows = x.mirrors.shows; is_top = x.is_top; depth = x.depth; owns = x.owns };
    }

pub row_there : (s : System) (who : Who) (o : Outcome) → CanBeSettled s who o → who.process < length s.processes
row_there s who o can =
    let x = can.settles in
    get_within s.processes who.process (row_of x.is_top.proc)
    (ap (λ (rows : List ProcessRow). slice_get rows who.process) x.mirrors.rows ∙ slice_get-map row_of can.world.processes who.process
    ∙ ap (option_map row_of) x.is_top.is)

module _ (s : System) (d : Declared) (w : CodeWorld) (below : List CodeActivation) (top : CodeActivation) (who : Who) (o : Outcome)
    (x : SettlesIn d s w below top who o) where
  abbrev given : List ObjectRec × List ℕ
  given = given_up who.process (owns_of code_meaning below top) o.effect w.common.objects

  pub top_shown : ShowsTop s.cluster w below top who
  top_shown = record { shows = x.mirrors.shows; is_top = x.is_top; depth = x.depth; owns = x.owns }

  -- the world with what a failed process has given up
  abbrev w1 : CodeWorld
  w1 = with_objects w given.0

  module _ (c1 : Cluster) (freed : List ℕ) (gives : GivesUp c1 w who.process (owns_of code_meaning below top) o.effect freed)
      (quiet : Changes Nothing s.cluster c1) (whereabouts1 : c1.whereabouts ≡ s.cluster.whereabouts)
      (takes : CanTake s.cluster who.process below top o.effect → CanTake c1 who.process below top o.effect) where
    takes_there : TakesIn d c1 w1 below top who o.effect
    takes_there = record {
      images = images_moved Nothing d s.cluster c1 quiet x.images;
      shows_top = record {
        shows = gives.shows;
        is_top = record { proc = x.is_top.proc; is = x.is_top.is; stack = x.is_top.stack };
        depth = x.depth;
        owns = x.owns;
      };
      can = takes x.can.takes;
    }

    pub can_take : CanBeTaken c1 who o.effect
    can_take = record { declared = d; world = w1; below = below; top = top; takes = takes_there }

    module _ (c2 : Cluster)
        (becomes_so : (d' : Declared) (w' : CodeWorld) (below' : List CodeActivation) (top' : CodeActivation) →
        TakesIn d' c1 w' below' top' who o.effect → Becomes c1 c2 (with_changed w' who.process below' top' o.effect)) where
      abbrev w2 : CodeWorld
      w2 = with_changed w1 who.process below top o.effect

      pub becomes : Becomes c1 c2 (with_changed (with_objects w (given_up who.process (owns_of code_meaning below top) o.effect
          w.common.objects).0) who.process below top o.effect)
      becomes = becomes_so d w1 below top takes_there

      -- those that were granted a monitor are Ready
      abbrev procs : List (Proc CodeActivation)
      procs = all_readied w2.processes (all_granted o.granted freed)

      abbrev w3 : CodeWorld
      w3 = world_with w given.0 procs

      stacks_same : stacks (all_readied (with_changed (with_objects w (given_up who.process (owns_of code_meaning below top) o.effect
          w.common.objects).0) who.process below top o.effect).processes (all_granted o.granted freed))
          ≡ stacks (with_changed (with_objects w (given_up who.process (owns_of code_meaning below top) o.effect
          w.common.objects).0) who.process below top o.effect).processes
      stacks_same = stacks_kept w2.processes (all_granted o.granted freed)

      changes2 : Changes (Strings c2 w2) s.cluster c2
      changes2 = nothing_join (Strings c2 w2) s.cluster c1 c2 quiet becomes.texts

      module _ (row : ProcessRow)
          (row_so : (below' : List CodeActivation) (top' : CodeActivation) → who.depth ≡ length below' →
          row ≡ row_of (changed code_meaning below' top' o.effect))
          (rows : List ProcessRow) (rows_are : rows ≡ rows_readied (slice_set s.processes who.process row) (all_granted o.granted freed))
        where
          abbrev s3 : System
          s3 = record { cluster = c2; processes = rows; output = s.output }

          rows_now : rows ≡ rows_of procs
          rows_now =
              let set : slice_set s.processes who.process row ≡ rows_of w2.processes =
              ap (slice_set s.processes who.process) (row_so below top x.depth)
              ∙ ap (λ (rs : List ProcessRow). slice_set rs who.process (row_of (changed code_meaning below top o.effect))) x.mirrors.rows
              ∙ sym (map_set row_of w.processes who.process (changed code_meaning below top o.effect)) in
              rows_are ∙ ap (λ (rs : List ProcessRow). rows_readied rs (all_granted o.granted freed)) set
              ∙ sym (rows_readied_are w2.processes (all_granted o.granted freed))

          pub mirrors_readied : Mirrors (record { cluster = c2; processes = rows; output = s.output })
              (world_with w (given_up who.process (owns_of code_meaning below top) o.effect w.common.objects).0
              (all_readied (with_changed w who.process below top o.effect).processes (all_granted o.granted freed)))
          mirrors_readied =
              mirrors_still (Strings c2 w2) s s3 w given.0 procs x.mirrors changes2 (becomes.whereabouts ∙ whereabouts1) refl
              (given_length who.process (owns_of code_meaning below top) o.effect w.common.objects)
              (restated (frame_of c2) (stores c2) w2 w3 (place c2) refl refl stacks_same becomes.shows) rows_now

          pub images_readied : HasImages d c2
          images_readied = images_moved (Strings c2 w2) d s.cluster c2 changes2 x.images

          -- the section can begin
          follow_by : (started : Option Section) → o.started ≡ started →
              CanFollow (record { cluster = c2; processes = rows; output = s.output }) started
          follow_by None e = tt
          follow_by (Some section) e =
              let behind = started_behind o.effect section (subst (λ (y : Option Section). StartsBehind o.effect y) e x.can.behind) in
              let starts : CanStart s.cluster top.own (Some section) =
              subst (λ (y : Option Section). CanStart s.cluster top.own y) e x.can.starts in
              let starts1 : CanStart c1 top.own (Some section) = (
                starts.0,
                λ kind.
                    let y = starts.1 kind in (
                      y.0,
                      ap (λ (i : Images). slice_get (image_of i kind).table.operations section.operation) quiet.images ∙ y.1,
                      y.2,
                    ),
              ) in
              let takes1 : TakesIn d c1 w1 below top who (Leaves behind.0) =
              subst (λ (f : Effect). TakesIn d c1 w1 below top who f) behind.1 takes_there in
              let becomes1 : Becomes c1 c2 (with_changed w1 who.process below top (Leaves behind.0)) =
              subst (λ (f : Effect). Becomes c1 c2 (with_changed w1 who.process below top f)) behind.1 becomes in
              let many : length w.processes ≡ length rows =
              sym (ap length x.mirrors.rows ∙ rows_many w.processes) ∙ sym (ap length rows_are
              ∙ rows_long (all_granted o.granted freed) (slice_set s.processes who.process row) ∙ length_set s.processes who.process row) in
              subst (λ n. CanBeginAs c2 n section) many (can_start d c1 c2 w1 below top who behind.0 takes1 becomes1 section starts1)

          pub can_follow : CanFollow (record { cluster = c2; processes = rows; output = s.output }) o.started
          can_follow = follow_by o.started refl

          -- and then all is settled
          module _ (s4 : System)
              (mirrors_so : (d' : Declared) (w' : CodeWorld) → HasImages d' c2 → Mirrors s3 w' → Mirrors s4 (with_section w' o.started))
              (changes_so : (d' : Declared) (w' : CodeWorld) → HasImages d' c2 → Mirrors s3 w' →
              Changes (Strings s4.cluster (with_section w' o.started)) c2 s4.cluster)
              (whereabouts4 : s4.cluster.whereabouts ≡ c2.whereabouts) where
            abbrev w4 : CodeWorld
            w4 = with_section w3 o.started

            mirrors_then : Mirrors s4 w4
            mirrors_then = mirrors_so d w3 images_readied mirrors_readied

            changes_then : Changes (Strings s4.cluster w4) c2 s4.cluster
            changes_then = changes_so d w3 images_readied mirrors_readied

            changes_all : Changes (Strings s4.cluster w4) s.cluster s4.cluster
            changes_all =
                strings_join (Strings c2 w2) (Strings s4.cluster w4) s.cluster c2 s4.cluster w4 changes2 changes_then mirrors_then.shows
                (λ k text h. strings_moved c2 s4.cluster w4 k text changes_then.parts changes_then.images whereabouts4
                (strings_kept c2 w2 w4 k text (still_things c2 w2 procs (begun_for code_meaning o.started) stacks_same) refl h))
                (λ k text h. h)

            abbrev with_freed : List ℕ → CodeWorld
            with_freed these =
                with_section (world_with w given.0 (all_readied w2.processes (all_granted o.granted these))) o.started

            pub settled_so : Settles s s4 w who.process below top o
            settled_so = record {
              mirrors = subst (λ (these : List ℕ). Mirrors s4 (with_freed these)) gives.freed_are mirrors_then;
              texts = subst (λ (these : List ℕ). Changes (Strings s4.cluster (with_freed these)) s.cluster s4.cluster) gives.freed_are
                  changes_all;
            }
