-- What a store shows, it shows after a change of other owners.
use Rattle.std.proofs.Common.{◌≡◌, ℕ, ◌/◌, ◌%◌, ◌<◌, List, Option, Some}
use Rattle.std.proofs.Common.{None, refl, ap, ◌∙◌, arith}
use Rattle.std.specs.Prelude.{slice_get}
use Rattle.ec_world.specs.declared.value.Value.{Value}
use Rattle.ec_world.specs.declared.value.Value.TheVariants.{Int, Str, Ref, Nil, Bool as Truth}
use Rattle.ec_world.specs.declared.key.Key.{Key}
use Rattle.ec_things.specs.Store.{Store, Owned, Stands, StandsAt, Grown, KeptRow, word_in, word_of}
use Rattle.ec_world.specs.Group.{Has}
use Rattle.ec_things.specs.Things.{Thing, Spells, Shown}

-- the kind is the same, and references and texts only grow
pub record Carries (s s' : Store) : Type 0 where
  pub kind : s'.kind ≡ s.kind
  pub local : (i oid : ℕ) → s.local i ≡ Some oid → s'.local i ≡ Some oid
  pub text : (i : ℕ) (t : List ℕ) → s.text i ≡ Some t → s'.text i ≡ Some t

pub carries_of : (s s' : Store) → Grown s s' → Carries s s'
carries_of s s' g = record { kind = g.kind; local = g.local; text = g.text }

pub stands_kept : (s s' : Store) → Carries s s' → (v : Value) (word : ℕ) → Stands s v word → Stands s' v word
stands_kept s s' g (Int z) word h = h
stands_kept s s' g (Truth b) word h = h
stands_kept s s' g (Str t) word h = g.text word t h
stands_kept s s' g (Ref oid) word h = g.local word oid h
stands_kept s s' g Nil word h = h

-- the words of some blocks are the same
pub record SameWords (s s' : Store) (blocks : List ℕ) : Type 0 where
  pub same : (b i : ℕ) → Has blocks b → i < 128 → s'.word b i ≡ s.word b i

word_in_kept : (s s' : Store) (blocks : List ℕ) (j i n : ℕ) (b : Option ℕ) → SameWords s s' blocks → i < 128 →
    slice_get blocks j ≡ b → word_in s b i ≡ Some n → word_in s' b i ≡ Some n
word_in_kept s s' blocks j i n None w l e h = cc
word_in_kept s s' blocks j i n (Some b) w l e h = w.same b i (record { at = j; is = e }) l ∙ h

pub word_kept : (s s' : Store) (blocks : List ℕ) (i n : ℕ) → SameWords s s' blocks → word_of s blocks i ≡ Some n →
    word_of s' blocks i ≡ Some n
word_kept s s' blocks i n w h = word_in_kept s s' blocks (i / 128) (i % 128) n (slice_get blocks (i / 128)) w (omega arith) refl h

pub at_kept : (s s' : Store) (blocks : List ℕ) (at : ℕ) (v : Value) → Carries s s' → SameWords s s' blocks → StandsAt s blocks at v →
    StandsAt s' blocks at v
at_kept s s' blocks at v g w h = record {
  word = h.word;
  there = word_kept s s' blocks at h.word w h.there;
  stands = stands_kept s s' g v h.word h.stands;
}

pub spells_kept : (s s' : Store) (r : Owned) (t : Thing) → Carries s s' → SameWords s s' r.blocks → Spells s r t → Spells s' r t
spells_kept s s' r t g w h = record {
  home = h.home;
  counted = h.counted;
  size = h.size;
  class = h.class;
  fixed = h.fixed;
  monitor = h.monitor;
  heads = λ i n e. word_kept s s' r.blocks i n w (h.heads i n e);
  values = λ i v e.
      let x = h.values i v e in
      (x.0, ap (λ k. t.spot k i) g.kind ∙ x.1, at_kept s s' r.blocks x.0 v g w x.2);
}

pub shown_kept : (s s' : Store) (key : Key) (t : Thing) → Carries s s' → KeptRow s s' key → Shown s key t → Shown s' key t
shown_kept s s' key t g k h = record {
  row = h.row;
  there = k.row ∙ h.there;
  spells = spells_kept s s' h.row t g (record { same = λ b i x l. k.words h.row b i h.there x l }) h.spells;
}
