-- What an entry leaves of nodes: that each had room, and their sizes and texts.
use Rattle.std.proofs.Common.{◌≡◌, ◌⊎◌, ◌++◌, ◌∷◌, [], ℕ, inl, ⊎_elim, List, Some, refl, sym, ap, ◌∙◌, subst, arith}
use Rattle.std.proofs.lemmas.Option.{same_Some}
use Rattle.std.specs.Prelude.{option_map}
use Rattle.ec_base.proofs.Lists.{get_there}
use Rattle.ec_base.specs.Stack.{below_of, top_of}
use Rattle.ec_cluster.proofs.Putting.{is_node}
use Rattle.ec_cluster.specs.Cluster.{CodeWorld, stores}
use Rattle.ec_cluster.specs.declared.cluster.Cluster.{Cluster}
use Rattle.ec_code.specs.Activations.{code_meaning, code_silent}
use Rattle.ec_code.specs.Typing.{Declared}
use Rattle.ec_code.specs.declared.activation.CodeActivation.{CodeActivation}
use Rattle.ec_code.specs.declared.code.Parts.{Parts}
use Rattle.ec_legs.specs.Going.{Ran, SameRoom}
use Rattle.ec_native_run.specs.Entries.{Along, EntryOf}
use Rattle.ec_native_run.specs.Entries.EntryOf.{Moves, Rests, Stays, Turns}
use Rattle.ec_network.specs.Moving.{MovedTo}
use Rattle.ec_network.specs.Showing.{NoMove, NoTurn, RanOrRested, RanToStop, Rested}
use Rattle.ec_network.specs.Standing.{Stands}
use Rattle.ec_network.specs.Turns.{TurnOf}
use Rattle.ec_rooms.specs.Places.{HasPlaces}
use Rattle.ec_rooms.proofs.Coming.{steps_had}
use Rattle.ec_rooms.proofs.Nodes.{same_nodes}
use Rattle.ec_rooms.specs.Laws.{HasRoomFor}
use Rattle.ec_rooms.specs.Rooms.{Strings}
use Rattle.ec_rooms.specs.Runs.{after_action}
use Rattle.ec_rooms.specs.Standing.{HavePools, HaveSizes, ShowsWith}
use Rattle.ec_stores.specs.Node.{store_of}
use Rattle.ec_cluster.specs.declared.system.System.{System}
use Rattle.ec_things.specs.Store.{Store}
use Rattle.ec_world.specs.Moves.{OperatorMove}
use Rattle.ec_world.specs.Run.{after_entries, after_entry}
use Rattle.ec_world.specs.World.{Action, act_on}
use Rattle.ec_world.specs.declared.node.NodeSpec.{NodeSpec}
use Rattle.ec_world.specs.declared.run.RunEntry.{RunEntry}
use Rattle.ec_world.specs.declared.run.RunEntry.TheVariants.{MoveOf as AMove, TurnOf as ATurn}

-- ---- chains of entries

pub along_none : (p : Parts) (s : System) (w : CodeWorld) → Along p s w [] s
unfolding Along
along_none p s w = refl

-- one entry more
pub along_push : (p : Parts) (s : System) (w : CodeWorld) (es : List RunEntry) (e : RunEntry) (m t : System) → Along p s w es m →
    EntryOf m t (after_entries code_meaning (code_silent p) w es) e → Along p s w (es ++ e ∷ []) t
unfolding Along
along_push p s w [] e m t a h = (t, subst (λ (x : System). EntryOf x t w e) a h, refl)
along_push p s w (x ∷ es) e m t a h = (a.0, a.1, along_push p a.0 (after_entry code_meaning (code_silent p) w x) es e m t a.2 h)

-- ---- native code keeps sizes and texts

-- what a node was before
record Before (c : Cluster) (k : ℕ) (s' : Store) : Type 0 where
  store : Store
  there : stores c k ≡ Some store
  same : SameRoom store s'

ran_before : (c c' : Cluster) (own count k : ℕ) (s' : Store) → Ran c c' own count → stores c' k ≡ Some s' → Before c k s'
ran_before c c' own count k s' ran there =
    let l = is_node c' k s' there in
    let n = get_there c.nodes k (omega (arith, l, ran.nodes)) in
    let is : stores c k ≡ Some (store_of n.0) = ap (option_map store_of) n.1 in
    let x = ran.each k (store_of n.0) is in
    let same : x.0 ≡ s' = same_Some x.0 s' (sym x.1 ∙ there) in
    record { store = store_of n.0; there = is; same = subst (λ (t : Store). SameRoom (store_of n.0) t) same x.2.same }

-- a system after some code has run, or none, that keeps the program, the sizes and the texts
record Kept (specs : List NodeSpec) (Pool : ℕ → List ℕ → Type 0) (old new : System) : Type 0 where
  parts : new.cluster.parts ≡ old.cluster.parts
  sizes : HaveSizes specs new.cluster
  pools : HavePools new.cluster Pool

module _ (specs : List NodeSpec) (Pool : ℕ → List ℕ → Type 0) (old : System) (sizes : HaveSizes specs old.cluster)
    (pools : HavePools old.cluster Pool) where
  ran_kept : (new : System) (own count : ℕ) → new.cluster.parts ≡ old.cluster.parts → Ran old.cluster new.cluster own count →
      Kept specs Pool old new
  ran_kept new own count parts ran = record {
    parts = parts;
    sizes = record {
      nodes = ran.nodes ∙ sizes.nodes;
      blocks = λ k spec s is there.
          let b = ran_before old.cluster new.cluster own count k s ran there in
          b.same.room ∙ sizes.blocks k spec b.store is b.there;
      text = λ k spec s is there.
          let b = ran_before old.cluster new.cluster own count k s ran there in
          b.same.text_room ∙ sizes.text k spec b.store is b.there;
    };
    pools = λ k s text there.
        let b = ran_before old.cluster new.cluster own count k s ran there in
        let had = pools k b.store text b.there in (
          λ h. had.0 (h.0, sym (b.same.text h.0) ∙ h.1),
          λ h. (let x = had.1 h in (x.0, b.same.text x.0 ∙ x.1)),
        );
  }

  after_kept : (new : System) (w : CodeWorld) (p steps : ℕ) → RanOrRested old new w p steps → Kept specs Pool old new
  after_kept new w p steps after = ⊎_elim
      (λ (went : RanToStop old new w p steps). ran_kept new went.top.own steps went.parts went.ran)
      (λ (rested : Rested old new w p × (steps ≡ 0)).
      subst (λ (s : System). Kept specs Pool old s) (sym rested.0.same) (record { parts = refl; sizes = sizes; pools = pools }))
      after

-- ---- what an entry leaves

-- The nodes had room for the action of an entry. They have the program and the sizes that they had, the texts that they had with those of
-- the world after the action, and stand in the world after the entry.
pub record GoneOn (specs : List NodeSpec) (d : Declared) (p : Parts) (old : System) (w : CodeWorld) (e : RunEntry)
    (Pool : ℕ → List ℕ → Type 0) (new : System) : Type 0 where
  pub entry : EntryOf old new w e
  pub parts : new.cluster.parts ≡ p
  pub stands : Stands d new (after_entry code_meaning (code_silent p) w e)
  pub room : HasRoomFor p specs w (after_action w e) Pool
  pub sizes : HaveSizes specs new.cluster
  pub pools : HavePools new.cluster (λ k text. Pool k text ⊎ Strings p (after_action w e) k text)

-- a process with nothing to do has no action
no_action : (w : CodeWorld) (p : ℕ) (old new : System) → NoTurn old new w p → Action code_meaning w p ≡ w
no_action w p old new t = ap (λ (xs : List CodeActivation). act_on code_meaning w p (below_of xs) (top_of xs)) t.none

module _ (specs : List NodeSpec) (d : Declared) (old new : System) (w : CodeWorld) (Pool : ℕ → List ℕ → Type 0) (stands : Stands d old w)
    (shows : ShowsWith specs old w Pool) where
  abbrev parts : Parts
  parts = old.cluster.parts

  -- an action, and then native code
  pub turn_leaves : (p steps : ℕ) → TurnOf d old new w p steps → GoneOn specs d parts old w (ATurn p) Pool new
  turn_leaves p steps t =
      let goes = stands.works.goes in
      let took = t.took in
      let middle = took.acted.shows in
      let had = steps_had Pool d specs old took.middle w (Action code_meaning w p) goes.runs shows goes.places
      (record { mirrors = middle.mirrors; places = middle.places; texts = took.acted.texts }) in
      let kept = after_kept specs (λ k text. Pool k text ⊎ Strings parts (Action code_meaning w p) k text) took.middle had.sizes had.pools
      new (Action code_meaning w p) p steps took.after in
      record {
        entry = Turns p steps took;
        parts = kept.parts ∙ took.acted.texts.parts;
        stands = t.stands;
        room = had.room;
        sizes = kept.sizes;
        pools = kept.pools;
      }

  -- nodes that show the world after the action as they are
  same_leaves : (e : RunEntry) → EntryOf old new w e → new ≡ old → Stands d old (after_entry code_meaning (code_silent parts) w e) →
      ShowsWith specs old (after_action w e) Pool → HasPlaces old.cluster (after_action w e) → GoneOn specs d parts old w e Pool new
  same_leaves e entry same then shown placed =
      let was = same_nodes Pool specs old w (after_action w e) shows stands.works.goes.places shown placed in
      record {
        entry = entry;
        parts = ap (λ (s : System). s.cluster.parts) same;
        stands = subst (λ (s : System). Stands d s (after_entry code_meaning (code_silent parts) w e)) (sym same) then;
        room = was.room;
        sizes = subst (λ (s : System). HaveSizes specs s.cluster) (sym same) shows.sizes;
        pools = subst (λ (s : System). HavePools s.cluster (λ k text. Pool k text ⊎ Strings parts (after_action w e) k text)) (sym same)
            (λ k s text there.
            let l = is_node old.cluster k s there in
            let spec = get_there specs k (omega (arith, l, shows.sizes.nodes)) in
            let had = shows.pools k s text there in (
              λ h. inl (had.0 h),
              λ h. had.1 (⊎_elim
                  (λ (x : Pool k text). x)
                  (λ (x : Strings parts (after_action w e) k text). was.texts k spec.0 text spec.1 x)
                  h),
            ));
      }

  -- nothing to do
  pub rest_leaves : (p : ℕ) → NoTurn old new w p → GoneOn specs d parts old w (ATurn p) Pool new
  rest_leaves p t = same_leaves (ATurn p) (Rests p t) t.same
      (subst (λ (v : CodeWorld). Stands d old v) (sym t.nothing) stands)
      (subst (λ (v : CodeWorld). ShowsWith specs old v Pool) (sym (no_action w p old new t)) shows)
      (subst (λ (v : CodeWorld). HasPlaces old.cluster v) (sym (no_action w p old new t)) stands.works.goes.places)

  -- an idle move
  pub stay_leaves : (o k : ℕ) → NoMove old new w o k → GoneOn specs d parts old w (AMove o k) Pool new
  stay_leaves o k t = same_leaves (AMove o k) (Stays o k t) t.same
      (subst (λ (v : CodeWorld). Stands d old v) (sym t.nothing) stands)
      (subst (λ (v : CodeWorld). ShowsWith specs old v Pool) (sym t.nothing) shows)
      (subst (λ (v : CodeWorld). HasPlaces old.cluster v) (sym t.nothing) stands.works.goes.places)

  -- a move by the operator
  pub move_leaves : (o k : ℕ) → MovedTo d old new w o k → GoneOn specs d parts old w (AMove o k) Pool new
  move_leaves o k moved =
      let goes = stands.works.goes in
      let comes = moved.moved.comes in
      let had = steps_had Pool d specs old new w (OperatorMove w o k) goes.runs shows goes.places
      (record { mirrors = comes.shows.mirrors; places = comes.shows.places; texts = comes.texts }) in
      record {
        entry = Moves o k moved.moved;
        parts = comes.texts.parts;
        stands = moved.stands;
        room = had.room;
        sizes = had.sizes;
        pools = had.pools;
      }
