-- There is one node at most that is the first to lack room, and one thing that it lacks.
use Rattle.std.proofs.Common.{◌≡◌, ◌<◌, ℕ, ⊎_elim, List, refl, sym, ◌∙◌, subst, arith, ◌⊎◌}
use Rattle.std.proofs.lemmas.Bool.{cases_order}
use Rattle.std.proofs.lemmas.Option.{same_Some}
use Rattle.std.specs.Prelude.{length}
use Rattle.ec_acts.specs.Worlds.{world_first}
use Rattle.ec_world.specs.Held.{Lacks}
use Rattle.ec_world.specs.declared.room.Needs.{Needs}
use Rattle.ec_world.specs.declared.room.Part.{Part}
use Rattle.ec_world.specs.declared.room.Part.TheVariants.{Blocks, Text}
use Rattle.ec_rooms.proofs.Bytes.{bytes_once}
use Rattle.ec_rooms.proofs.Fitting.{lacks_none}
use Rattle.ec_rooms.specs.Laws.{FullIsOne, IsOne, SameLack}
use Rattle.ec_rooms.specs.Rooms.{FullAt, Literals, NeedsOf, NoTexts, Strings, held, nothing}
use Rattle.ec_rooms.specs.Runs.{PoolAfter, code_run, next_action}
use Rattle.ec_world.specs.declared.node.NodeSpec.{NodeSpec}

-- the same numbers
pub record SameNeeds (n m : Needs) : Type 0 where
  pub blocks : n.blocks ≡ m.blocks
  pub free_blocks : n.free_blocks ≡ m.free_blocks
  pub bytes : n.bytes ≡ m.bytes
  pub free_bytes : n.free_bytes ≡ m.free_bytes

-- What is needed of a node depends on no order.
pub same_needs : (spec : NodeSpec) (before after : ℕ) (Pool Wanted : List ℕ → Type 0) (n m : Needs) →
    NeedsOf spec before after Pool Wanted n → NeedsOf spec before after Pool Wanted m → SameNeeds n m
same_needs spec before after Pool Wanted n m a b =
    let used = bytes_once Pool a.used b.used a.used_is b.used_is in
    record {
      blocks = a.blocks ∙ sym b.blocks;
      free_blocks = a.free_blocks ∙ sym b.free_blocks;
      bytes = bytes_once (λ text. Wanted text × (Pool text → ⊥)) n.bytes m.bytes a.bytes b.bytes;
      free_bytes = omega (arith, used, a.free_bytes, b.free_bytes);
    }

one_part : (k : ℕ) (part other : Part) (n m : Needs) (need free need' free' : ℕ) → SameNeeds n m → Lacks part n need free →
    Lacks other m need' free' → SameLack k part need free k other need' free'
one_part k Blocks Blocks n m need free need' free' same a b = record {
  node_is = refl;
  part_is = refl;
  need_is = a.0 ∙ same.blocks ∙ sym b.0;
  free_is = a.1 ∙ same.free_blocks ∙ sym b.1;
}
one_part k Text Text n m need free need' free' same a b = record {
  node_is = refl;
  part_is = refl;
  need_is = a.0 ∙ same.bytes ∙ sym b.0;
  free_is = a.1 ∙ same.free_bytes ∙ sym b.1;
}
one_part k Blocks Text n m need free need' free' same a b = absurd (omega (arith, same.blocks, same.free_blocks, a.2, b.2))
one_part k Text Blocks n m need free need' free' same a b = absurd (omega (arith, same.blocks, same.free_blocks, a.2, b.2))

module _ (specs : List NodeSpec) (before after : ℕ → ℕ) (Pool Wanted : ℕ → List ℕ → Type 0) where
  abbrev Full : ℕ → Part → ℕ → ℕ → Type 0
  Full = FullAt specs before after Pool Wanted

  -- a node before one that is the first has room
  not_before : (j k : ℕ) (part other : Part) (need free need' free' : ℕ) → Full j part need free → Full k other need' free' → j < k → ⊥
  not_before j k part other need free need' free' f g low =
      lacks_none part f.needs need free (g.earlier j f.spec f.needs low f.there f.are) f.lacks

  here : (k : ℕ) (part other : Part) (need free need' free' : ℕ) → Full k part need free → Full k other need' free' →
      SameLack k part need free k other need' free'
  here k part other need free need' free' f g =
      let spec : g.spec ≡ f.spec = same_Some g.spec f.spec (sym g.there ∙ f.there) in
      let are : NeedsOf f.spec (before k) (after k) (Pool k) (Wanted k) g.needs =
      subst (λ (s : NodeSpec). NeedsOf s (before k) (after k) (Pool k) (Wanted k) g.needs) spec g.are in
      one_part k part other f.needs g.needs need free need' free'
      (same_needs f.spec (before k) (after k) (Pool k) (Wanted k) f.needs g.needs f.are are) f.lacks g.lacks

  one_node : (j k : ℕ) (part other : Part) (need free need' free' : ℕ) → Full j part need free → Full k other need' free' → j ≡ k
  one_node j k part other need free need' free' f g = ⊎_elim
      (λ (same : j ≡ k). same)
      (λ (apart : (j < k) ⊎ (k < j)). ⊎_elim
      (λ (low : j < k). absurd (not_before j k part other need free need' free' f g low))
      (λ (low : k < j). absurd (not_before k j other part need' free' need free g f low))
      apart)
      (cases_order j k)

  at_all : IsOne Full
  at_all j k part other need free need' free' f g =
      let same : j ≡ k = one_node j k part other need free need' free' f g in
      subst (λ n. SameLack j part need free n other need' free') same
      (here j part other need free need' free' f (subst (λ n. Full n other need' free') (sym same) g))

pub one_full : FullIsOne
one_full = record {
  load = λ p specs. at_all specs nothing (held p (world_first (length specs) p)) NoTexts (Literals p);
  next = λ p specs schedule k. at_all specs (held p (code_run p (length specs) schedule k).world)
      (held p (next_action p (length specs) schedule k)) (PoolAfter p (length specs) schedule k)
      (Strings p (next_action p (length specs) schedule k));
}
