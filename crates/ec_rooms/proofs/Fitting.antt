-- A node that has room for what a world then holds there, and for the texts of its pool and those of that world, doesn't lack any.
use Rattle.std.proofs.Common.{◌≡◌, ◌≤◌, ◌+◌, ◌⊎◌, ℕ, inl, inr, ⊎_elim, List, Some, arith}
use Rattle.std.specs.Prelude.{slice_get}
use Rattle.ec_world.specs.Held.{Fits, Lacks}
use Rattle.ec_world.specs.declared.room.Needs.{Needs}
use Rattle.ec_world.specs.declared.room.Part.{Part}
use Rattle.ec_world.specs.declared.room.Part.TheVariants.{Blocks, Text}
use Rattle.ec_rooms.proofs.Bytes.{bytes_both, bytes_le}
use Rattle.ec_rooms.specs.Rooms.{FullAt, NeedsOf}
use Rattle.ec_things.specs.Texts.{BytesOf}
use Rattle.ec_world.specs.declared.node.NodeSpec.{NodeSpec}

-- A node of this size has so many blocks, and room for these texts.
pub record Holds (spec : NodeSpec) (blocks : ℕ) (Texts : List ℕ → Type 0) : Type 0 where
  pub blocks_fit : blocks ≤ spec.blocks
  pub bytes : ℕ
  pub bytes_are : BytesOf Texts bytes
  pub bytes_fit : bytes ≤ spec.text

abbrev pub Both : (List ℕ → Type 0) → (List ℕ → Type 0) → List ℕ → Type 0
Both Pool Wanted text = Pool text ⊎ Wanted text

pub needs_fit : (spec : NodeSpec) (before after : ℕ) (Pool Wanted : List ℕ → Type 0) (n : Needs) →
    Holds spec after (Both Pool Wanted) → NeedsOf spec before after Pool Wanted n → Fits n
needs_fit spec before after Pool Wanted n holds needs =
    let all : n.bytes + needs.used ≤ holds.bytes =
    bytes_le (λ text. (Wanted text × (Pool text → ⊥)) ⊎ Pool text) (Both Pool Wanted) (n.bytes + needs.used) holds.bytes
    (λ text h. ⊎_elim (λ (new : Wanted text × (Pool text → ⊥)). inr new.0) (λ (old : Pool text). inl old) h)
    (bytes_both (λ text. Wanted text × (Pool text → ⊥)) Pool n.bytes needs.used (λ text new old. new.1 old) needs.bytes needs.used_is)
    holds.bytes_are in (
      omega (arith, holds.blocks_fit, needs.blocks, needs.free_blocks),
      omega (arith, all, holds.bytes_fit, needs.free_bytes),
    )

pub lacks_none : (part : Part) (n : Needs) (need free : ℕ) → Fits n → Lacks part n need free → ⊥
lacks_none Blocks n need free fits lacks = absurd (omega (arith, fits.0, lacks.2))
lacks_none Text n need free fits lacks = absurd (omega (arith, fits.1, lacks.3))

pub never_full : (specs : List NodeSpec) (before after : ℕ → ℕ) (Pool Wanted : ℕ → List ℕ → Type 0) →
    ((k : ℕ) (spec : NodeSpec) → slice_get specs k ≡ Some spec → Holds spec (after k) (Both (Pool k) (Wanted k))) →
    (k need free : ℕ) (part : Part) → FullAt specs before after Pool Wanted k part need free → ⊥
never_full specs before after Pool Wanted holds k need free part full =
    lacks_none part full.needs need free
    (needs_fit full.spec (before k) (after k) (Pool k) (Wanted k) full.needs (holds k full.spec full.there) full.are) full.lacks
