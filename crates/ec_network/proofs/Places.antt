-- What moves on the nodes of a network: by the laws of worlds, since nodes have each object where the events of their world have it.
use Rattle.std.proofs.Common.{◌≡◌, ◌<◌, ◌⊎◌, ◌∙◌, ℕ, suc, List, Some, ap, inl, inr, subst, sym, ⊎_elim}
use Rattle.ec_cluster.specs.Cluster.{CodeWorld, place}
use Rattle.ec_cluster.specs.declared.cluster.Cluster.{Cluster}
use Rattle.ec_cluster.specs.declared.system.System.{System}
use Rattle.ec_code.specs.Activations.{code_meaning, code_silent}
use Rattle.ec_code.specs.Typing.{Declared}
use Rattle.ec_moving.proofs.Silent.{code_keeps_places}
use Rattle.ec_moving.proofs.Worlds.{action_brings, fixed_objects_stay, move_brings, others_stay}
use Rattle.ec_moving.specs.Placed.{ComeTo, IsFixed, Refixes, place_of}
use Rattle.ec_network.proofs.Networks.{for_standing}
use Rattle.ec_network.specs.Moving.{MovedIn}
use Rattle.ec_network.specs.Nets.{Net, system_of}
use Rattle.ec_network.specs.Places.{FixedObjectsStay, FixedStay, FixedStayUnlessRefixed, GoTogether, MovesBringTheGroup, NodesAreHome}
use Rattle.ec_network.specs.Places.{NodesStay, OthersStayInTurns, TurnsBringTheGroup, WentTogether, place_on}
use Rattle.ec_network.specs.Showing.{turned}
use Rattle.ec_network.specs.Standing.{Stands, StandsInSome}
use Rattle.ec_network.specs.Turns.{TurnedIn, TurnOf}
use Rattle.ec_network.specs.declared.nodes_running.network.Numbered.{Numbered}
use Rattle.ec_network.specs.declared.nodes_running.turns.Did.{Did}
use Rattle.ec_network.specs.declared.nodes_running.turns.Did.TheVariants.{Idle, Acted, Moved}
use Rattle.ec_rooms.specs.Places.{HasPlaces}
use Rattle.ec_world.specs.Group.{group_of}
use Rattle.ec_world.specs.Moves.{OperatorMove}
use Rattle.ec_world.specs.World.{Action}

-- ---- from worlds to nodes

-- what stays in worlds stays on nodes, and what comes to a node in worlds comes there
module _ (c c' : Cluster) (w w' : CodeWorld) (before : HasPlaces c w) (after : HasPlaces c' w') where
  stays_on : (x : ℕ) → place_of w'.common x ≡ place_of w.common x → place c' x ≡ place c x
  stays_on x e = after.placed x ∙ e ∙ sym (before.placed x)

  stays_or : {T : Type 0} (x : ℕ) → (place_of w'.common x ≡ place_of w.common x) ⊎ T → (place c' x ≡ place c x) ⊎ T
  stays_or {T = T} x h =
      ⊎_elim (λ (e : place_of w'.common x ≡ place_of w.common x). inl (stays_on x e)) (λ (t : T). inr t) h

  come_on : (members : List ℕ) (node : ℕ) → ComeTo (place_of w.common) (place_of w'.common) members node →
      ComeTo (place c) (place c') members node
  come_on members node come = record {
    together = λ m has. after.placed m ∙ come.together m has;
    others = λ x out. stays_on x (come.others x out);
  }

-- ---- turns

module _ (d : Declared) (old new : System) (w : CodeWorld) (p steps : ℕ) (s : Stands d old w) (turn : TurnOf d old new w p steps) where
  then_silent : (x : ℕ) → place_of (turned old w p).common x ≡ place_of (Action code_meaning w p).common x
  then_silent x =
      (others_stay code_meaning).by_silent_steps (code_silent old.cluster.parts) (Action code_meaning w p) p x
      (code_keeps_places old.cluster.parts)

  come_then : (members : List ℕ) (node : ℕ) → ComeTo (place_of w.common) (place_of (Action code_meaning w p).common) members node →
      ComeTo (place_of w.common) (place_of (turned old w p).common) members node
  come_then members node come = record {
    together = λ m has. then_silent m ∙ come.together m has;
    others = λ x out. then_silent x ∙ come.others x out;
  }

pub turns_bring : TurnsBringTheGroup
turns_bring d old new w p steps x target node it s turn asks may at =
    come_on old.cluster new.cluster w (turned old w p) s.works.goes.places turn.took.shows.places (group_of w.common x) node
    (come_then d old new w p steps s turn (group_of w.common x) node
    (action_brings code_meaning w p x target node it s.placed asks may (sym (s.works.goes.places.placed target) ∙ at)))

pub others_stay_in_turns : OthersStayInTurns
others_stay_in_turns d old new w p steps x s turn there =
    stays_or old.cluster new.cluster w (turned old w p) s.works.goes.places turn.took.shows.places x
    ((others_stay code_meaning).by_turn (code_silent old.cluster.parts) w p x (code_keeps_places old.cluster.parts) s.placed there)

-- ---- moves by the operator

pub moves_bring : MovesBringTheGroup
moves_bring d old new w o k s moved =
    come_on old.cluster new.cluster w (OperatorMove w o k) s.works.goes.places moved.moved.comes.shows.places (group_of w.common o) k
    (move_brings.goes w o k s.placed moved.moved.moves)

-- ---- fixed objects and nodes

pub fixed_stay : FixedObjectsStay
fixed_stay = record {
  by_turn = λ d old new w p steps x s turn fixed.
      stays_or old.cluster new.cluster w (turned old w p) s.works.goes.places turn.took.shows.places x
      ((fixed_objects_stay code_meaning).by_turn (code_silent old.cluster.parts) w p x (code_keeps_places old.cluster.parts) s.placed
      fixed);
  by_move = λ d old new w o k x s moved fixed.
      stays_on old.cluster new.cluster w (OperatorMove w o k) s.works.goes.places moved.moved.comes.shows.places x
      ((fixed_objects_stay code_meaning).by_move w o k x fixed);
}

pub nodes_stay : NodesStay
nodes_stay d s w k stands within =
    let here = stands.placed.nodes k (subst (λ n. k < n) (sym stands.works.goes.runs.mirrors.nodes) within) in
    stands.works.goes.places.placed (suc k) ∙ here.place

-- ---- what a caller is told

same_place : (s t : System) → t ≡ s → (x : ℕ) → place t.cluster x ≡ place s.cluster x
same_place s t same x = ap (λ (y : System). place y.cluster x) same

pub nodes_home : (t : Numbered) → StandsInSome t.system → NodesAreHome (Some t)
nodes_home t some k within = nodes_stay some.0 t.system some.1.0 k some.1.1 within

fixed_turned : (d : Declared) (s t : System) (w : CodeWorld) (p : ℕ) (did : Did) → Stands d s w → TurnedIn d s t w p did → (x : ℕ) →
    IsFixed w.common x → (place t.cluster x ≡ place s.cluster x) ⊎ Refixes code_meaning w p x
fixed_turned d s t w p Idle stands idle x fixed = inl (same_place s t idle.same x)
fixed_turned d s t w p (Acted steps) stands turn x fixed = fixed_stay.by_turn d s t w p steps x stands turn fixed
fixed_turned d s t w p Moved stands none x fixed = absurd none

pub net_fixed_turned : (old : Net) (s t : Numbered) (p : ℕ) (did : Did) → old ≡ Some s →
    ((d : Declared) (w : CodeWorld) → Stands d s.system w → TurnedIn d s.system t.system w p did) → FixedStayUnlessRefixed old (Some t) p
net_fixed_turned old s t p did is told =
    for_standing _ old s.system (ap system_of is) (λ d w stands x fixed.
    subst (λ (n : Net). (place t.system.cluster x ≡ place_on n x) ⊎ Refixes code_meaning w p x) (sym is)
    (fixed_turned d s.system t.system w p did stands (told d w stands) x fixed))

fixed_moved : (d : Declared) (s t : System) (w : CodeWorld) (o k : ℕ) (did : Did) → Stands d s w → MovedIn d s t w o k did → (x : ℕ) →
    IsFixed w.common x → place t.cluster x ≡ place s.cluster x
fixed_moved d s t w o k Idle stands idle x fixed = same_place s t idle.same x
fixed_moved d s t w o k (Acted steps) stands none x fixed = absurd none
fixed_moved d s t w o k Moved stands moved x fixed = fixed_stay.by_move d s t w o k x stands moved fixed

pub net_fixed_moved : (old : Net) (s t : Numbered) (o k : ℕ) (did : Did) → old ≡ Some s →
    ((d : Declared) (w : CodeWorld) → Stands d s.system w → MovedIn d s.system t.system w o k did) → FixedStay old (Some t)
net_fixed_moved old s t o k did is told =
    for_standing _ old s.system (ap system_of is) (λ d w stands x fixed.
    subst (λ (n : Net). place t.system.cluster x ≡ place_on n x) (sym is)
    (fixed_moved d s.system t.system w o k did stands (told d w stands) x fixed))

went_together : (d : Declared) (s t : Numbered) (w : CodeWorld) (o k : ℕ) (did : Did) → Stands d s.system w →
    MovedIn d s.system t.system w o k did → WentTogether (Some s) (Some t) w o k did
went_together d s t w o k Idle stands idle = same_place s.system t.system idle.same
went_together d s t w o k (Acted steps) stands none = none
went_together d s t w o k Moved stands moved = moves_bring d s.system t.system w o k stands moved

pub net_together : (old : Net) (s t : Numbered) (o k : ℕ) (did : Did) → old ≡ Some s →
    ((d : Declared) (w : CodeWorld) → Stands d s.system w → MovedIn d s.system t.system w o k did) → GoTogether old (Some t) o k did
net_together old s t o k did is told =
    for_standing _ old s.system (ap system_of is) (λ d w stands.
    subst (λ (n : Net). WentTogether n (Some t) w o k did) (sym is) (went_together d s t w o k did stands (told d w stands)))
