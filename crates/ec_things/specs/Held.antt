-- How many blocks a world holds at a node.
use Rattle.std.specs.Prelude.{ℕ, suc, ◌+◌, Option}
use Rattle.ec_world.specs.Held.{if_at, total}
use Rattle.ec_things.specs.Things.{Thing, object_thing}
use Rattle.ec_world.specs.declared.object.ObjectRec.{ObjectRec}
use Rattle.ec_world.specs.declared.process.Proc.{Proc}
use Rattle.ec_world.specs.declared.world.World.{World}

module _ {A : Type 0} (frame : ℕ → ℕ → A → Thing) (place : ℕ → Option ℕ) (k : ℕ) where
  abbrev pub thing_weight : Thing → ℕ
  thing_weight t = if_at k t.blocks (place t.home)

  abbrev pub object_weight : ℕ → ObjectRec → ℕ
  object_weight i o = thing_weight (object_thing (suc i) o)

  abbrev pub frame_weight : ℕ → ℕ → A → ℕ
  frame_weight p d a = thing_weight (frame p d a)

  abbrev pub process_weight : ℕ → Proc A → ℕ
  process_weight p proc = total (frame_weight p) 0 proc.activations

  -- the blocks of each object there, and of each activation there
  abbrev pub Held : World A → ℕ
  Held w = total object_weight 0 w.common.objects + total process_weight 0 w.processes
