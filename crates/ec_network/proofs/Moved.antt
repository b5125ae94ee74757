-- A move by the operator, as a reader of the nodes finds it, and the world after it.
use Rattle.std.proofs.Common.{◌≡◌, ℕ, zero, suc, ◌||◌, Bool, true, false, not, List, [], ◌∷◌, Option, Some, None, refl, sym, ap, ◌∙◌, subst, arith}
use Rattle.std.proofs.lemmas.Option.{same_Some}
use Rattle.std.specs.Prelude.{IsSome, if◌then◌else◌, is_some, nat_lt}
use Rattle.ec_asking.specs.Typed.{IsTypedOnce}
use Rattle.ec_base.proofs.Lists.{get_there}
use Rattle.ec_cluster.specs.Cluster.{CodeWorld, place}
use Rattle.ec_cluster.specs.Steps.{Changes}
use Rattle.ec_cluster.specs.declared.cluster.Cluster.{Cluster}
use Rattle.ec_code.specs.Typing.{Declared}
use Rattle.ec_code.specs.declared.code.Parts.{Parts}
use Rattle.ec_fullness.proofs.Keeping.{steady_after}
use Rattle.ec_gathering.proofs.Moves.{operator_may}
use Rattle.ec_gathering.specs.Gathers.{Gathers, LacksFor, LetsGo, MayGather, world_gathered}
use Rattle.ec_fullness.specs.Fullness.{gathered}
use Rattle.ec_legs.proofs.GoingKeeping.{code_kept}
use Rattle.ec_code.proofs.IdleWorlds.{entry_idle}
use Rattle.ec_code.specs.Idle.{OfClasses}
use Rattle.ec_network.specs.Acts.{FoundFull}
use Rattle.ec_packing.proofs.Worlds.{move_between}
use Rattle.ec_packing.specs.Between.{IsBetween}
use Rattle.ec_parcels.specs.Classes.{ClassTable}
use Rattle.ec_world.specs.declared.room.Lack.{Lack}
use Rattle.ec_network.proofs.Homes.{move_placed}
use Rattle.ec_network.proofs.Standing.{literals_after}
use Rattle.ec_network.specs.Moving.{MovedTo, is_idle_seen, members_moved, members_seen}
use Rattle.ec_network.specs.Showing.{NoMove}
use Rattle.ec_network.specs.Standing.{HasNumbers, Stands, Works}
use Rattle.ec_rooms.proofs.Moving.{gone_place, moves_keep_places}
use Rattle.ec_rooms.specs.Full.{FindsFull}
use Rattle.ec_rooms.specs.Places.{HasPlaces, place_of}
use Rattle.ec_code.proofs.RangesWorlds.{move_ranged}
use Rattle.ec_code.specs.Code.{SmallProgram}
use Rattle.ec_code.proofs.SoundWorlds.{move_sound}
use Rattle.ec_code.specs.Sound.{SoundWorld}
use Rattle.ec_cluster.specs.Systems.{Mirrors, Strings}
use Rattle.ec_cluster.specs.declared.system.System.{System}
use Rattle.ec_generate.specs.Limits.{CarriesFew, FewConditions}
use Rattle.ec_world.specs.Doings.{any_fixed as any_seen}
use Rattle.ec_world.proofs.Members.{object_within}
use Rattle.ec_world.specs.Group.{Has, any_fixed, group_of, is_in}
use Rattle.ec_world.specs.Moves.{OperatorMove, is_idle_move, is_there, moved_unless}
use Rattle.ec_world.specs.Objects.{fixed_if, object_at}
use Rattle.ec_world.specs.Places.{places}
use Rattle.ec_world.specs.Sights.{Sight, class_of, sight_of}
use Rattle.ec_world.specs.declared.common.Common.{Common}
use Rattle.ec_world.specs.declared.object.ObjectRec.{ObjectRec}
use Rattle.ec_world.specs.declared.run.RunEntry.TheVariants.{MoveOf}

-- ---- whom it moves

any_same : (c : Common) (members : List ℕ) → any_seen (sight_of c) members ≡ any_fixed c members
any_same c [] = refl
any_same c (m ∷ ms) = ap (λ (b : Bool). fixed_if (object_at c.objects m) || b) (any_same c ms)

there_same : (o : Option ObjectRec) → is_some (class_of o) ≡ is_there o
there_same None = refl
there_same (Some o) = refl

-- a world sees of itself whether a move is idle
idle_same : (c : Common) (o k : ℕ) → is_idle_seen (sight_of c) o k ≡ is_idle_move c o k
idle_same c o k =
    ap (λ (b : Bool). not b || (not (nat_lt k c.nodes) || any_seen (sight_of c) (group_of c o))) (there_same (object_at c.objects o))
    ∙ ap (λ (b : Bool). not (is_there (object_at c.objects o)) || (not (nat_lt k c.nodes) || b)) (any_same c (group_of c o))

-- what is seen of a world is moved in it
pub members_are : (seen : Common) (w : CodeWorld) (o k : ℕ) (members : Option (List ℕ)) → members ≡ members_seen (sight_of seen) o k →
    sight_of seen ≡ sight_of w.common → members ≡ members_moved w.common o k
members_are seen w o k members is same =
    is ∙ ap (λ (s : Sight). members_seen s o k) same
    ∙ ap (λ (b : Bool). if b then None else Some (group_of w.common o)) (idle_same w.common o k)

none_idle : (idle : Bool) (group : List ℕ) → None ≡ (if idle then None else Some group) → idle ≡ true
none_idle true group e = refl
none_idle false group e = absurd cc

some_moves : (idle : Bool) (group members : List ℕ) → Some members ≡ (if idle then None else Some group) →
    (idle ≡ false) × (members ≡ group)
some_moves true group members e = absurd cc
some_moves false group members e = (refl, same_Some members group e)

-- ---- places

-- an object of the world is somewhere
object_is_placed : (c : Cluster) (w : CodeWorld) (oid : ℕ) → HasPlaces c w → IsSome (object_at w.common.objects oid) →
    (to : ℕ) × (place c oid ≡ Some to)
object_is_placed c w zero has some = absurd cc
object_is_placed c w (suc i) has some =
    let l = object_within w.common.objects (suc i) some in
    let at = get_there (places w.common.nodes w.common.events) i (omega (arith, l.1, has.each)) in
    (at.0, has.placed (suc i) ∙ at.1)

-- once a group has gone, it is where the events have it
gathered_is_placed : (c : Cluster) (w : CodeWorld) (members : List ℕ) (target to : ℕ) →
    ((oid : ℕ) → Has members oid → IsSome (object_at w.common.objects oid)) → place c target ≡ Some to → HasPlaces c w → (oid : ℕ) →
    gathered (place c) members to oid ≡ place_of (world_gathered w members target None) oid
gathered_is_placed c w members target to there at has oid =
    ap (λ x. if is_in oid members then Some to else x) (has.placed oid)
    ∙ sym (gone_place w members target None there has.each to (sym (has.placed target) ∙ at) oid)

-- ---- the world after it

module _ (d : Declared) (s : System) (w : CodeWorld) (o k : ℕ) (stands : Stands d s w) where
  -- an idle move leaves the world as it is
  pub not_moved : None ≡ members_moved w.common o k → NoMove s s w o k
  not_moved none =
      let idle = none_idle (is_idle_move w.common o k) (group_of w.common o) none in
      record { idle = idle; same = refl; nothing = ap (λ (b : Bool). record w { common = moved_unless w.common o k b }) idle }

  module _ (members : List ℕ) (is : Some members ≡ members_moved w.common o k) (table : ClassTable) (numbers : HasNumbers s table) where
    moves : is_idle_move w.common o k ≡ false
    moves = (some_moves (is_idle_move w.common o k) (group_of w.common o) members is).0

    group : members ≡ group_of w.common o
    group = (some_moves (is_idle_move w.common o k) (group_of w.common o) members is).1

    lets : LetsGo d s w table
    lets = record {
      runs = stands.works.goes.runs;
      bare = stands.works.goes.idle.objects;
      typed = stands.works.goes.typed;
      between = stands.between;
      few = stands.works.few;
      table_is = numbers;
    }

    -- the group may go
    pub may : (target : ℕ) → target ≡ suc k → MayGather d s w table members target None
    may target node =
        subst (λ (t : ℕ). MayGather d s w table members t None) (sym node)
        (subst (λ (ms : List ℕ). MayGather d s w table ms (suc k) None) (sym group) (operator_may d s w table o k lets moves))

    gathered_is : world_gathered w members (suc k) None ≡ OperatorMove w o k
    gathered_is =
        ap (λ (ms : List ℕ). world_gathered w ms (suc k) None) group
        ∙ ap (λ (b : Bool). record w { common = moved_unless w.common o k b }) (sym moves)

    there : (target : ℕ) → target ≡ suc k → (oid : ℕ) → Has members oid → IsSome (object_at w.common.objects oid)
    there target node oid has =
        let leaves = (may target node).each oid has in ap is_some leaves.is

    target_there : (target : ℕ) → target ≡ suc k → (to : ℕ) × (place s.cluster target ≡ Some to)
    target_there target node = object_is_placed s.cluster w target stands.works.goes.places (may target node).target_there

    -- once it has gone, the system stands in the world after the move
    module _ (target : ℕ) (node : target ≡ suc k) (t : System) (came : Gathers s t w members target None) where
      texts_then : Changes (Strings t.cluster (OperatorMove w o k)) s.cluster t.cluster
      texts_then =
          subst (λ (x : CodeWorld). Changes (Strings t.cluster x) s.cluster t.cluster) gathered_is
          (subst (λ (x : ℕ). Changes (Strings t.cluster (world_gathered w members x None)) s.cluster t.cluster) node came.texts)

      mirrors_then : Mirrors t (OperatorMove w o k)
      mirrors_then =
          subst (λ (x : CodeWorld). Mirrors t x) gathered_is
          (subst (λ (x : ℕ). Mirrors t (world_gathered w members x None)) node came.mirrors)

      places_then : HasPlaces t.cluster (OperatorMove w o k)
      places_then =
          let to = target_there target node in
          subst (λ (x : CodeWorld). HasPlaces t.cluster x) gathered_is
          (subst (λ (x : ℕ). HasPlaces t.cluster (world_gathered w members x None)) node
          (moves_keep_places s.cluster t.cluster w members target None (there target node)
          (record { node = to.0; there = to.1; each = λ oid. came.places oid to.0 to.1 })
          stands.works.goes.places))

      works_then : Works d t (OperatorMove w o k)
      works_then =
          let works = stands.works in
          let runs = works.goes.runs in
          let parts = sym texts_then.parts in
          record {
            goes = record {
              runs = record {
                mirrors = mirrors_then;
                steady = steady_after d _ s.cluster t.cluster texts_then runs.steady;
                sound = subst (λ (p : Parts). SoundWorld d p (OperatorMove w o k)) parts
                    (move_sound d s.cluster.parts runs.steady.fine w o k runs.sound);
                ranged = move_ranged w o k runs.ranged;
              };
              idle = entry_idle d s.cluster.parts runs.steady.fine w (MoveOf o k) runs.sound works.goes.idle;
              typed = subst IsTypedOnce parts works.goes.typed;
              places = places_then;
            };
            code = code_kept d s.cluster t.cluster texts_then.parts texts_then.images works.code;
            literals = literals_after _ s.cluster t.cluster texts_then works.literals;
            small = subst SmallProgram parts works.small;
            classes = subst OfClasses parts works.classes;
            few = subst CarriesFew parts works.few;
            conditions = subst FewConditions parts works.conditions;
          }

      pub has_moved : MovedTo d s t w o k
      has_moved = record {
        moved = record {
          moves = moves;
          comes = record { shows = record { mirrors = mirrors_then; places = places_then }; texts = texts_then };
        };
        stands = record {
          works = works_then;
          between = subst (λ (p : Parts). IsBetween p (OperatorMove w o k)) (sym texts_then.parts)
              (move_between s.cluster.parts w o k stands.between);
          placed = move_placed w o k stands.placed;
        };
      }

    -- where the node lacks room for it, it is full for the world after the move
    pub found_full : (target : ℕ) → target ≡ suc k → (lack : Lack) → LacksFor s.cluster w members target None lack →
        FoundFull s s w (OperatorMove w o k) lack
    found_full target node lack lacks =
        let to = target_there target node in
        let is : world_gathered w members target None ≡ OperatorMove w o k =
        ap (λ (x : ℕ). world_gathered w members x None) node ∙ gathered_is in
        record {
          same = refl;
          finds = subst (λ (x : CodeWorld). FindsFull s.cluster w x lack) is (record {
            at = gathered (place s.cluster) members to.0;
            agree = λ oid x e.
                gathered_is_placed s.cluster w members target to.0 (there target node) to.1 stands.works.goes.places oid;
            full = lacks to.0 to.1;
          });
        }
