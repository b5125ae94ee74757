-- A network follows the run: at the load, and from one entry to the next.
use Rattle.std.proofs.Common.{◌≡◌, ◌⊎◌, ℕ, suc, List, [], ◌∷◌, ◌++◌, length, Some, below_none, below_more, refl, sym}
use Rattle.std.proofs.Common.{ap, subst, ◌∙◌, ◌<◌, ◌≤◌, ◌-◌, ◌^◌, None, add-one, arith}
use Rattle.std.proofs.lemmas.Option.{same_Some}
use Rattle.ec_cluster.proofs.Going.{first_none}
use Rattle.ec_cluster.specs.Cluster.{CodeWorld}
use Rattle.ec_cluster.specs.Whereabouts.{MovedOnce, Traces, moves_of}
use Rattle.ec_cluster.specs.declared.cluster.Cluster.{Cluster}
use Rattle.ec_cluster.specs.declared.cluster.Images.{Images}
use Rattle.ec_code.specs.Activations.{code_meaning, code_silent}
use Rattle.ec_code.specs.declared.activation.CodeActivation.{CodeActivation}
use Rattle.ec_code.specs.declared.code.Parts.{Parts}
use Rattle.ec_report.proofs.Coming.{comes_first, comes_next, entry_is, run_more, run_start_is}
use Rattle.ec_report.specs.Driver.{IsDone, IsNext, IsRefused}
use Rattle.ec_report.specs.Progress.{IsStep, Progress, advanced, at_start}
use Rattle.ec_report.specs.declared.driver.Refusal.{Refusal}
use Rattle.ec_report.specs.declared.step.Step.TheVariants.{Does}
use Rattle.ec_network.specs.Acts.{FoundFull}
use Rattle.ec_acts.specs.Loaded.{Loaded}
use Rattle.ec_acts.specs.Worlds.{world_first}
use Rattle.ec_native_run.proofs.Entries.{GoneOn, along_none, along_push, move_leaves, rest_leaves, stay_leaves, turn_leaves}
use Rattle.ec_native_run.specs.Entries.{Along, EntryOf}
use Rattle.ec_native_run.specs.Following.{Follows, FullNext, HasCome, refusal_of}
use Rattle.ec_world.specs.declared.room.Lack.{Lack}
use Rattle.ec_world.specs.declared.room.Part.{Part}
use Rattle.ec_native_run.specs.Runs.{AreNodes}
use Rattle.ec_network.proofs.Networks.{is_running}
use Rattle.ec_network.specs.Nets.{AreCode, Net, system_of}
use Rattle.ec_network.specs.Networks.{CanRun, KeepsNumbers, NetLoaded, NetMoved, NetMoveRefused, NetRefused, NetTurned}
use Rattle.ec_network.specs.Places.{known_on, moves_on}
use Rattle.ec_network.specs.Standing.{Stands}
use Rattle.ec_network.specs.declared.nodes_running.turns.Did.{Did}
use Rattle.ec_network.specs.declared.nodes_running.turns.Did.TheVariants.{Acted, Idle, Moved}
use Rattle.ec_network.specs.declared.nodes_running.turns.NetError.{NetError}
use Rattle.ec_network.specs.declared.nodes_running.turns.NetError.TheVariants.{Full, Memory}
use Rattle.ec_rooms.proofs.Full.{found_full}
use Rattle.ec_rooms.proofs.Loads.{loads_full}
use Rattle.ec_rooms.specs.Rooms.{FullAt, Literals, Strings, held}
use Rattle.ec_rooms.specs.Runs.{NextFull, PoolAfter, action_if, after_action, code_run, next_action}
use Rattle.ec_rooms.specs.Standing.{HavePools}
use Rattle.ec_code.proofs.SoundWorlds.{action_sound, move_sound}
use Rattle.ec_code.specs.Sound.{SoundWorld}
use Rattle.ec_cluster.specs.declared.system.System.{System}
use Rattle.ec_world.proofs.Entries.{run_world}
use Rattle.ec_world.specs.Run.{RunState, after_entries, after_entry, statuses_of, stepped}
use Rattle.ec_world.specs.declared.class.VectorType.{VectorType}
use Rattle.ec_world.specs.declared.node.NodeSpec.{NodeSpec}
use Rattle.ec_world.specs.declared.process.ProcStatus.{ProcStatus}
use Rattle.ec_world.specs.declared.run.Entry.{Entry}
use Rattle.ec_world.specs.declared.run.RunEntry.{RunEntry}
use Rattle.ec_world.specs.declared.run.RunEntry.TheVariants.{MoveOf as AMove, TurnOf as ATurn}

-- ---- texts of pools

pools_first : (p : Parts) (n : ℕ) (schedule : List Entry) (c : Cluster) → HavePools c (Literals p) → HavePools c (PoolAfter p n schedule 0)
unfolding PoolAfter
pools_first p n schedule c h = h

pools_more : (p : Parts) (n : ℕ) (schedule : List Entry) (k : ℕ) (c : Cluster) →
    HavePools c (λ node text. PoolAfter p n schedule k node text ⊎ Strings p (next_action p n schedule k) node text) →
    HavePools c (PoolAfter p n schedule (suc k))
unfolding PoolAfter
pools_more p n schedule k c h = h

-- ---- the load

module _ (p : Parts) (images : Images) (specs : List NodeSpec) (schedule : List Entry) (budget : ℕ) (net : Net) (nodes : AreNodes specs)
    (can : CanRun p images specs) (written : List VectorType) (l : NetLoaded p written images specs net) (few : budget < 2 ^ 64) where
  abbrev own : Parts
  own = l.start.cluster.parts

  abbrev world : CodeWorld
  world = world_first (length specs) own

  loaded_is : Loaded own l.start.cluster.images specs l.start
  loaded_is =
      subst (λ (x : Parts). Loaded x l.start.cluster.images specs l.start) (sym l.loaded.parts)
      (subst (λ (x : Images). Loaded p x specs l.start) (sym l.loaded.images_are) l.loaded)

  code_is : AreCode can.loads.declared own l.start.cluster.images
  code_is =
      subst (λ (x : Parts). AreCode can.loads.declared x l.start.cluster.images) (sym l.loaded.parts)
      (subst (λ (x : Images). AreCode can.loads.declared p x) (sym l.loaded.images_are) can.code)

  stands_first : Stands can.loads.declared l.start world
  stands_first =
      subst (λ (x : Parts). Stands can.loads.declared l.start (world_first (length specs) x)) (sym l.loaded.parts)
      (l.stands can.loads.declared can.loads.tables can.code)

  first_come : HasCome specs l.start schedule budget (statuses_of world) (at_start schedule) l.start world
  first_come = record {
    nodes = nodes;
    loaded = loaded_is;
    declared = can.loads.declared;
    code = code_is;
    parts = refl;
    comes = comes_first code_meaning (code_silent own) world schedule budget world refl;
    stands = stands_first;
    along =
        subst (λ (es : List RunEntry). Along own l.start world es l.start)
        (sym (ap (λ (r : RunState CodeActivation). r.done) (run_start_is code_meaning (code_silent own) world schedule)))
        (along_none own l.start world);
    fits = below_none (λ j. (node need free : ℕ) (part : Part) → NextFull own specs schedule j node part need free → ⊥);
    shows = record {
      mirrors = loaded_is.mirrors;
      sizes = loads_full.sizes own l.start.cluster.images specs l.start loaded_is;
      pools = pools_first own (length specs) schedule l.start.cluster
          (loads_full.pools own l.start.cluster.images specs l.start loaded_is);
    };
    few = few;
    moves = λ x. let none = l.loaded.whereabouts.moves x ∙ first_none (length specs) x in omega (arith, none);
  }

  -- what was just loaded follows the run
  pub first_follows : (statuses : List ProcStatus) × Follows specs net schedule budget statuses (at_start schedule) net
  first_follows = (
    statuses_of world,
    record { start = l.start; started = l.is; now = l.start; is = l.is; numbers = refl; world = world; come = first_come },
  )

-- ---- the entry that comes next

module _ (specs : List NodeSpec) (start : System) (schedule : List Entry) (budget : ℕ) (statuses : List ProcStatus) (progress : Progress)
    (now : System) (w : CodeWorld) (h : HasCome specs start schedule budget statuses progress now w) where
  abbrev parts : Parts
  parts = start.cluster.parts

  abbrev n : ℕ
  n = length specs

  abbrev begins : CodeWorld
  begins = world_first (length specs) start.cluster.parts

  abbrev here : RunState CodeActivation
  here = code_run start.cluster.parts (length specs) schedule progress.done

  abbrev Pool : ℕ → List ℕ → Type 0
  Pool = PoolAfter start.cluster.parts (length specs) schedule progress.done

  module _ (e : RunEntry) (step : IsStep statuses budget progress (Does e)) where
    abbrev next : CodeWorld
    next = after_entry code_meaning (code_silent start.cluster.parts) w e

    action_is : next_action parts n schedule progress.done ≡ after_action w e
    action_is =
        ap (action_if here.world) (entry_is code_meaning (code_silent parts) begins schedule budget statuses progress w h.comes e step)
        ∙ ap (λ (v : CodeWorld). after_action v e) (sym h.comes.world_is)

    more : code_run parts n schedule (suc progress.done) ≡ stepped code_meaning (code_silent parts) here (Some e)
    more = run_more code_meaning (code_silent parts) begins schedule budget statuses progress w h.comes e step

    done_is : (code_run parts n schedule (suc progress.done)).done ≡ here.done ++ e ∷ []
    done_is = ap (λ (r : RunState CodeActivation). r.done) more

    abbrev IsFullFrom : CodeWorld → CodeWorld → ℕ → Part → ℕ → ℕ → Type 0
    IsFullFrom v x = FullAt specs (held parts v) (held parts x) Pool (Strings parts x)

    -- what is full for the world now is full for the run
    full_next : (node need free : ℕ) (part : Part) → IsFullFrom w (after_action w e) node part need free →
        NextFull parts specs schedule progress.done node part need free
    full_next node need free part full =
        subst (λ (v : CodeWorld). IsFullFrom v (next_action parts n schedule progress.done) node part need free) h.comes.world_is
        (subst (λ (x : CodeWorld). IsFullFrom w x node part need free) (sym action_is) full)

    full_here : (node need free : ℕ) (part : Part) → NextFull parts specs schedule progress.done node part need free →
        IsFullFrom w (after_action w e) node part need free
    full_here node need free part full =
        subst (λ (x : CodeWorld). IsFullFrom w x node part need free) action_is
        (subst (λ (v : CodeWorld). IsFullFrom v (next_action parts n schedule progress.done) node part need free)
        (sym h.comes.world_is) full)

    module _ (new : System) (g : GoneOn specs h.declared parts now w e Pool new)
        (once : MovedOnce now.cluster.whereabouts new.cluster.whereabouts) where
      along_more : Along parts start begins (code_run parts n schedule (suc progress.done)).done new
      along_more =
          let world : w ≡ after_entries code_meaning (code_silent parts) begins here.done =
          h.comes.world_is ∙ run_world code_meaning (code_silent parts) begins schedule progress.done in
          let entry = subst (λ (v : CodeWorld). EntryOf now new v e) world g.entry in
          subst (λ (es : List RunEntry). Along parts start begins es new) (sym done_is)
          (along_push parts start begins here.done e now new h.along entry)

      pools_next : HavePools new.cluster (PoolAfter parts n schedule (suc progress.done))
      pools_next =
          pools_more parts n schedule progress.done new.cluster
          (subst (λ (x : CodeWorld). HavePools new.cluster (λ node text. Pool node text ⊎ Strings parts x node text)) (sym action_is)
          g.pools)

      come_next : HasCome specs start schedule budget (statuses_of next) (advanced progress e) new next
      come_next = record {
        nodes = h.nodes;
        loaded = h.loaded;
        declared = h.declared;
        code = h.code;
        parts = g.parts;
        comes = comes_next code_meaning (code_silent parts) begins schedule budget statuses progress w h.comes e step next refl;
        stands = g.stands;
        along = rw (add-one progress.done) along_more;
        fits = below_more (λ j. (node need free : ℕ) (part : Part) → NextFull parts specs schedule j node part need free → ⊥)
            progress.done h.fits (λ node need free part full. g.room node need free part (full_here node need free part full));
        shows = record {
          mirrors = g.stands.works.goes.runs.mirrors;
          sizes = g.sizes;
          pools = rw (add-one progress.done) pools_next;
        };
        few = h.few;
        moves = λ x. let before = h.moves x in let then = once x in omega (arith, before, then);
      }

-- ---- what the network answers

-- what the nodes of a network know is what those of its system do
known_is : (net : Net) (s : System) → system_of net ≡ Some s → known_on net ≡ s.cluster.whereabouts
known_is None s e = absurd cc
known_is (Some n) s e = ap (λ (x : System). x.cluster.whereabouts) (same_Some n.system s e)

-- each object has moved at most once more, if any
abbrev HasMoved : Net → Net → Type 0
HasMoved net net' = (x : ℕ) → moves_on net' x ≤ suc (moves_on net x)

-- an entry that is done leads to what follows the run one entry further
abbrev GoesTo : List NodeSpec → Net → List Entry → ℕ → Progress → RunEntry → Net → Type 0
GoesTo specs old schedule budget progress e net' =
    (after : List ProcStatus) × Follows specs old schedule budget after (advanced progress e) net'

module _ (specs : List NodeSpec) (old : Net) (schedule : List Entry) (budget : ℕ) (statuses : List ProcStatus) (progress : Progress)
    (net : Net) (f : Follows specs old schedule budget statuses progress net) where
  abbrev come : HasCome specs f.start schedule budget statuses progress f.now f.world
  come = f.come

  abbrev PoolHere : ℕ → List ℕ → Type 0
  PoolHere = PoolAfter f.start.cluster.parts (length specs) schedule progress.done

  module _ (e : RunEntry) (step : IsStep statuses budget progress (Does e)) where
    -- told over the program that the system has
    follows_next : (net' : Net) (new : System) → system_of net' ≡ Some new → KeepsNumbers net net' → HasMoved net net' →
        GoneOn specs f.come.declared f.now.cluster.parts f.now f.world e PoolHere new → GoesTo specs old schedule budget progress e net'
    follows_next net' new is keeps moved g =
        let its : GoneOn specs f.come.declared f.start.cluster.parts f.now f.world e PoolHere new =
        subst (λ (p : Parts). GoneOn specs f.come.declared p f.now f.world e PoolHere new) f.come.parts g in (
          statuses_of (after_entry code_meaning (code_silent f.start.cluster.parts) f.world e),
          record {
            start = f.start;
            started = f.started;
            now = new;
            is = is;
            numbers = keeps (is_running net' new is) ∙ f.numbers;
            world = after_entry code_meaning (code_silent f.start.cluster.parts) f.world e;
            come = come_next specs f.start schedule budget statuses progress f.now f.world f.come e step new its
                (subst (λ (d : Traces). MovedOnce d new.cluster.whereabouts) (known_is net f.now f.is)
                (subst (λ (d : Traces). MovedOnce (known_on net) d) (known_is net' new is) moved));
          },
        )

    -- one that finds a node full leaves the network as it was
    stays_full : (net' : Net) (new : System) → system_of net' ≡ Some new → KeepsNumbers net net' → (lack : Lack) →
        SoundWorld f.come.declared f.now.cluster.parts (after_action f.world e) →
        FoundFull f.now new f.world (after_action f.world e) lack →
        Follows specs old schedule budget statuses progress net'
        × FullNext specs old schedule progress.done lack.node lack.part lack.need lack.free
    stays_full net' new is keeps lack sound found =
        let goes = f.come.stands.works.goes in
        let full = found_full PoolHere f.come.declared specs f.now f.world (after_action f.world e) lack goes.runs sound f.come.shows
        goes.places found.finds in
        let its = subst (λ (q : Parts). FullAt specs (held q f.world) (held q (after_action f.world e)) PoolHere
        (Strings q (after_action f.world e)) lack.node lack.part lack.need lack.free) f.come.parts full in (
          record {
            start = f.start;
            started = f.started;
            now = f.now;
            is = is ∙ ap Some found.same;
            numbers = keeps (is_running net' new is) ∙ f.numbers;
            world = f.world;
            come = f.come;
          },
          λ start started.
              let begun : f.start ≡ start = same_Some f.start start (sym f.started ∙ started) in
              subst (λ (s : System). NextFull s.cluster.parts specs schedule progress.done lack.node lack.part lack.need lack.free) begun
              (full_next specs f.start schedule budget statuses progress f.now f.world f.come e step lack.node lack.need lack.free
              lack.part its),
        )

  -- a turn
  module _ (p : ℕ) (step : IsStep statuses budget progress (Does (ATurn p))) (net' : Net) (keeps : KeepsNumbers net net') where
    pub turn_acted : (steps : ℕ) → NetTurned net net' p (Acted steps) → HasMoved net net' → GoesTo specs old schedule budget progress (ATurn p) net'
    turn_acted steps turned once =
        let t = turned f.come.declared f.now f.world f.is f.come.stands in
        follows_next (ATurn p) step net' t.system t.is keeps once
        (turn_leaves specs f.come.declared f.now t.system f.world PoolHere f.come.stands f.come.shows p steps t.told)

    pub turn_idle : NetTurned net net' p Idle → HasMoved net net' → GoesTo specs old schedule budget progress (ATurn p) net'
    turn_idle turned once =
        let t = turned f.come.declared f.now f.world f.is f.come.stands in
        follows_next (ATurn p) step net' t.system t.is keeps once
        (rest_leaves specs f.come.declared f.now t.system f.world PoolHere f.come.stands f.come.shows p t.told)

    -- one that finds a node full leaves the network as it was
    pub turn_full : (lack : Lack) → NetRefused net net' p (Full lack) →
        Follows specs old schedule budget statuses progress net'
        × FullNext specs old schedule progress.done lack.node lack.part lack.need lack.free
    turn_full lack refused =
        let t = refused.1 f.come.declared f.now f.world f.is f.come.stands in
        let runs = f.come.stands.works.goes.runs in
        let sound = action_sound f.come.declared f.now.cluster.parts runs.steady.fine f.world p runs.sound in
        stays_full (ATurn p) step net' t.system t.is keeps lack sound t.told

  -- a move by the operator
  module _ (o k : ℕ) (step : IsStep statuses budget progress (Does (AMove o k))) (net' : Net)
      (keeps : KeepsNumbers net net') where
    pub move_idle : NetMoved net net' o k Idle → HasMoved net net' → GoesTo specs old schedule budget progress (AMove o k) net'
    move_idle moved once =
        let t = moved f.come.declared f.now f.world f.is f.come.stands in
        follows_next (AMove o k) step net' t.system t.is keeps once
        (stay_leaves specs f.come.declared f.now t.system f.world PoolHere f.come.stands f.come.shows o k t.told)

    pub move_done : NetMoved net net' o k Moved → HasMoved net net' → GoesTo specs old schedule budget progress (AMove o k) net'
    move_done moved once =
        let t = moved f.come.declared f.now f.world f.is f.come.stands in
        follows_next (AMove o k) step net' t.system t.is keeps once
        (move_leaves specs f.come.declared f.now t.system f.world PoolHere f.come.stands f.come.shows o k t.told)

    pub move_full : (lack : Lack) → NetMoveRefused net net' o k (Full lack) →
        Follows specs old schedule budget statuses progress net'
        × FullNext specs old schedule progress.done lack.node lack.part lack.need lack.free
    move_full lack refused =
        let t = refused.1 f.come.declared f.now f.world f.is f.come.stands in
        let runs = f.come.stands.works.goes.runs in
        let sound = move_sound f.come.declared f.now.cluster.parts runs.steady.fine f.world o k runs.sound in
        stays_full (AMove o k) step net' t.system t.is keeps lack sound t.told

-- ---- entries, as they are given

-- each object can move once more where an entry is next
pub may_move : (specs : List NodeSpec) (net : Net) (e : RunEntry) → IsNext (Follows specs) (FullNext specs) e net →
    (x : ℕ) → moves_on net x < 2 ^ 64 - 1
may_move specs net e next x =
    let f = next.stands in
    let known = subst (λ (d : Traces). moves_of d x ≤ next.progress.done) (sym (known_is net f.now f.is)) (f.come.moves x) in
    let few = f.come.few in
    let before = next.next.2 in
    omega (arith, known, few, before)

module _ (specs : List NodeSpec) (net net' : Net) (keeps : KeepsNumbers net net') (entry : RunEntry) where
  abbrev IsDoneBy : RunEntry → Type 0
  IsDoneBy e = IsDone (Follows specs) (FullNext specs) e net net'

  abbrev IsRefusedBy : RunEntry → Refusal → Type 0
  IsRefusedBy e r = IsRefused (Follows specs) (FullNext specs) e net net' r

  module _ (p : ℕ) (is : entry ≡ ATurn p) where
    turned_done : (did : Did) → NetTurned net net' p did → HasMoved net net' → IsDoneBy (ATurn p)
    turned_done (Acted steps) turned once = λ old schedule budget statuses progress f step.
        turn_acted specs old schedule budget statuses progress net f p step net' keeps steps turned once
    turned_done Idle turned once = λ old schedule budget statuses progress f step.
        turn_idle specs old schedule budget statuses progress net f p step net' keeps turned once
    turned_done Moved turned once = λ old schedule budget statuses progress f step.
        absurd (turned f.come.declared f.now f.world f.is f.come.stands).told

    turned_refused : (e : NetError) → NetRefused net net' p e → IsRefusedBy (ATurn p) (refusal_of e)
    turned_refused (Full lack) refused = λ old schedule budget statuses progress f step.
        turn_full specs old schedule budget statuses progress net f p step net' keeps lack refused
    turned_refused (Memory e) refused = tt

    pub turn_done : (did : Did) → NetTurned net net' p did → HasMoved net net' → IsDoneBy entry
    turn_done did turned once = subst (λ (e : RunEntry). IsDoneBy e) (sym is) (turned_done did turned once)

    pub turn_refused : (e : NetError) (r : Refusal) → r ≡ refusal_of e → NetRefused net net' p e → IsRefusedBy entry r
    turn_refused e r why refused =
        subst (λ (x : Refusal). IsRefusedBy entry x) (sym why)
        (subst (λ (x : RunEntry). IsRefusedBy x (refusal_of e)) (sym is) (turned_refused e refused))

  module _ (o k : ℕ) (is : entry ≡ AMove o k) where
    moved_refused : (e : NetError) → NetMoveRefused net net' o k e → IsRefusedBy (AMove o k) (refusal_of e)
    moved_refused (Full lack) refused = λ old schedule budget statuses progress f step.
        move_full specs old schedule budget statuses progress net f o k step net' keeps lack refused
    moved_refused (Memory e) refused = tt

    shift_done : (did : Did) → NetMoved net net' o k did → HasMoved net net' → IsDoneBy (AMove o k)
    shift_done Moved moved once = λ old schedule budget statuses progress f step.
        move_done specs old schedule budget statuses progress net f o k step net' keeps moved once
    shift_done Idle moved once = λ old schedule budget statuses progress f step.
        move_idle specs old schedule budget statuses progress net f o k step net' keeps moved once
    shift_done (Acted steps) moved once = λ old schedule budget statuses progress f step.
        absurd (moved f.come.declared f.now f.world f.is f.come.stands).told

    pub moved_done : (did : Did) → NetMoved net net' o k did → HasMoved net net' → IsDoneBy entry
    moved_done did moved once = subst (λ (e : RunEntry). IsDoneBy e) (sym is) (shift_done did moved once)

    pub move_refused : (e : NetError) (r : Refusal) → r ≡ refusal_of e → NetMoveRefused net net' o k e → IsRefusedBy entry r
    move_refused e r why refused =
        subst (λ (x : Refusal). IsRefusedBy entry x) (sym why)
        (subst (λ (x : RunEntry). IsRefusedBy x (refusal_of e)) (sym is) (moved_refused e refused))
