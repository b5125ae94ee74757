-- Room at nodes for the first world.
use Rattle.std.proofs.Common.{◌≡◌, ◌≢◌, ℕ, suc, ◌+◌, ◌≤◌, List, Some, refl, sym, ap, ◌∙◌, subst, arith, ⊎_elim}
use Rattle.std.specs.Prelude.{drop, length, slice_get}
use Rattle.std.proofs.lemmas.Option.{same_Some}
use Rattle.ec_activations.specs.Frames.{frame_thing}
use Rattle.ec_base.proofs.Lists.{drop_at, get_within}
use Rattle.ec_cluster.specs.Images.{homes_on}
use Rattle.ec_cluster.specs.declared.cluster.Images.{Images}
use Rattle.ec_code.specs.declared.code.Parts.{Parts}
use Rattle.ec_cluster.specs.Located.{nodes_made, with_at}
use Rattle.ec_acts.proofs.LoadingHolding.{held_first}
use Rattle.ec_acts.specs.Fresh.{CanHold}
use Rattle.ec_acts.specs.Loading.{CanLoad, HaveRoom, LacksFirst, counted, first_needs}
use Rattle.ec_acts.specs.Worlds.{first_blocks, first_place, world_first}
use Rattle.ec_world.specs.Held.{Fits, Lacks}
use Rattle.ec_world.specs.Words.{text_bytes}
use Rattle.ec_world.specs.declared.room.Lack.{Lack}
use Rattle.ec_world.specs.declared.room.Needs.{Needs}
use Rattle.ec_things.proofs.Put.{same_or_not}
use Rattle.ec_things.specs.Held.{Held}
use Rattle.ec_world.specs.declared.node.Kind.TheVariants.{Riscv}
use Rattle.ec_world.specs.declared.node.NodeSpec.{NodeSpec}

-- the bytes of the next text and of those behind it
pub next_bytes : (texts : List (List ℕ)) (i : ℕ) (text : List ℕ) → slice_get texts i ≡ Some text →
    text_bytes (drop i texts) ≡ length text + text_bytes (drop (i + 1) texts)
next_bytes texts i text e = ap text_bytes (drop_at texts i text e)

-- ---- what is counted

with_here : {A : Type 0} (f : ℕ → A) (oid : ℕ) (a : A) → with_at f oid a oid ≡ a
with_here f oid a = grind arith

pub program_place : (n : ℕ) → first_place n (suc n) ≡ Some 0
program_place n = with_here (nodes_made n).place (suc n) (Some 0)

abbrev needs : ℕ → ℕ → ℕ → ℕ → Needs
needs blocks free_blocks bytes free_bytes =
    record { blocks = blocks; free_blocks = free_blocks; bytes = bytes; free_bytes = free_bytes }

pub needs_counted : (p : Parts) (images : Images) (n bytes : ℕ) → bytes ≡ text_bytes p.literals → (k : ℕ) (spec : NodeSpec) →
    counted bytes k spec ≡ first_needs p images n k spec
needs_counted p images n bytes is k spec =
    let held : Held (frame_thing p (homes_on images)) (first_place n) k (world_first n p) ≡ first_blocks k =
    held_first p p (homes_on images) (first_place n) k n n (program_place n) in
    ap (λ b. needs (first_blocks k) spec.blocks b spec.text) is ∙ ap (λ b. needs b spec.blocks (text_bytes p.literals) spec.text) (sym held)

module _ (a b : ℕ → NodeSpec → Needs) (specs : List NodeSpec) (same : (k : ℕ) (spec : NodeSpec) → a k spec ≡ b k spec) where
  pub room_by : (count : ℕ) → HaveRoom a specs count → HaveRoom b specs count
  room_by count room k spec l e = subst (λ (n : Needs). Fits n) (same k spec) (room k spec l e)

  pub lacks_by : (lack : Lack) → LacksFirst a specs lack → LacksFirst b specs lack
  lacks_by lack h = record {
    spec = h.spec;
    is = h.is;
    lacks = subst (λ (n : Needs). Lacks lack.part n lack.need lack.free) (same lack.node h.spec) h.lacks;
    earlier = room_by lack.node h.earlier;
  }

-- ---- one node after another

module _ (a : ℕ → NodeSpec → Needs) (specs : List NodeSpec) where
  pub none_lacks : HaveRoom a specs 0
  none_lacks k spec l e = absurd (omega arith)

  module _ (k : ℕ) (spec : NodeSpec) (room : HaveRoom a specs k) (is : slice_get specs k ≡ Some spec) where
    pub one_has_room : Fits (a k spec) → HaveRoom a specs (k + 1)
    one_has_room fits j other l e = ⊎_elim
        (λ (same : j ≡ k).
        let got : slice_get specs k ≡ Some other = ap (slice_get specs) (sym same) ∙ e in
        subst (λ x. Fits (a x other)) (sym same) (subst (λ (x : NodeSpec). Fits (a k x)) (same_Some spec other (sym is ∙ got)) fits))
        (λ (ne : j ≢ k). room j other (omega arith) e)
        (same_or_not j k)

    pub it_lacks : (lack : Lack) → lack.node ≡ k → Lacks lack.part (a k spec) lack.need lack.free → LacksFirst a specs lack
    it_lacks lack at lacks = record {
      spec = spec;
      is = ap (slice_get specs) at ∙ is;
      lacks = subst (λ x. Lacks lack.part (a x spec) lack.need lack.free) (sym at) lacks;
      earlier = subst (λ x. HaveRoom a specs x) (sym at) room;
    }

-- ---- what the room of a node is for

module _ (p : Parts) (images : Images) (specs : List NodeSpec) (can : CanLoad p images specs)
    (room : HaveRoom (first_needs p images (length specs)) specs (length specs)) where
  pub can_hold : (k : ℕ) (spec : NodeSpec) → slice_get specs k ≡ Some spec → CanHold p spec
  can_hold k spec e = record {
    size = can.sizes k spec e;
    constants = (can.tables Riscv).limits.constants;
    once = can.once;
    empty = can.empty;
    room = (room k spec (get_within specs k spec e) e).1;
  }

  pub two_blocks : (spec : NodeSpec) → slice_get specs 0 ≡ Some spec → 2 ≤ spec.blocks
  two_blocks spec e =
      let fits = (room 0 spec can.some e).0 in
      let two = ap (λ (n : Needs). n.blocks) (needs_counted p images (length specs) (text_bytes p.literals) refl 0 spec) in
      omega (arith, fits, two)
