-- What became of the objects of a world.
use Rattle.std.specs.Prelude.{ℕ, zero, suc, ◌+◌, ◌==◌, if◌then◌else◌, Option, Some, None}
use Rattle.ec_forwarding.specs.Forwardings.{count_of_move}

-- How many objects were made, which have the numbers from 1 on; the node at which each is; and how often each has moved.
pub record Located : Type 0 where
  pub made : ℕ
  pub place : ℕ → Option ℕ
  pub moves : ℕ → ℕ

abbrev pub nothing_made : Located
nothing_made = record { made = 0; place = λ oid. None; moves = λ oid. 0 }

-- the same for each object but one
abbrev pub with_at : {A : Type 0} → (ℕ → A) → ℕ → A → ℕ → A
with_at f oid a o = if o == oid then a else f o

-- the next object is made at node k
abbrev pub made_at : Located → ℕ → ℕ → Located
made_at w oid k = record { made = suc w.made; place = with_at w.place oid (Some k); moves = with_at w.moves oid 0 }

-- an object goes from one node to another, or to the same
abbrev pub moved_to : Located → ℕ → ℕ → ℕ → Located
moved_to w oid from to = record w {
  place = with_at w.place oid (Some to);
  moves = with_at w.moves oid (w.moves oid + count_of_move from to);
}

-- the objects that are there first: each node's own, which is at it, and the program's, which is at node 0
abbrev pub nodes_made : ℕ → Located
nodes_made zero = nothing_made
nodes_made (suc k) = made_at (nodes_made k) (suc k) k

abbrev pub first_made : ℕ → Located
first_made n = made_at (nodes_made n) (suc n) 0
