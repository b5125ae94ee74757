-- A node's memory: the bytes of its blocks and globals, and which blocks are free.
use Rattle.std.specs.Prelude.{◌≡◌, ◌≢◌, ℕ, zero, suc, ◌+◌, ◌-◌, ◌*◌, ◌<◌, ◌≤◌, List, [], ◌∷◌, ◌++◌, length, Option, None}
use Rattle.std.specs.Prelude.{if◌then◌else◌, nat_le, slice_get, slice_index, take, drop, replicate, refl}
use Rattle.std.proofs.Common.{◌∙◌}
use Rattle.std.specs.List.{AllByRecursion}

-- bytes of blocks and globals, for each block the one that it leads to, and the free blocks in order
pub record Store : Type 0 where
  pub blocks : List ℕ
  pub globals : List ℕ
  pub links : List ℕ
  pub free : List ℕ

abbrev pub blocks_base : ℕ
blocks_base = 0x10000000

abbrev pub globals_base : ℕ
globals_base = 0x20000000

-- block b lies at 0x10000000 + 512 * b, and the globals from 0x20000000 on
abbrev pub store_byte : Store → ℕ → Option ℕ
store_byte s at =
    if nat_le globals_base at then slice_get s.globals (at - globals_base)
    else if nat_le blocks_base at then slice_get s.blocks (at - blocks_base) else None

-- xs with ys written over it from a place on
abbrev pub overwritten : List ℕ → ℕ → List ℕ → List ℕ
overwritten xs at ys = take at xs ++ (ys ++ drop (at + length ys) xs)

-- the blocks of a list: its first, and then the next of each
unfoldable pub chain : List ℕ → ℕ → ℕ → List ℕ
chain links first zero = []
chain links first (suc n) = first ∷ chain links (slice_index links first) n

-- where a list leads after n blocks
unfoldable pub after : List ℕ → ℕ → ℕ → ℕ
after links first zero = first
after links first (suc n) = after links (slice_index links first) n

-- x is none of these
abbrev pub IsApart : ℕ → List ℕ → Type 0
IsApart x ys = AllByRecursion (λ y. x ≢ y) ys

-- no number is there twice
abbrev pub AreApart : List ℕ → Type 0
AreApart [] = Unit {0}
AreApart (x ∷ xs) = IsApart x xs × AreApart xs

-- what each memory keeps: 512 bytes a block, its limits, and no free block twice
pub record IsWhole (s : Store) : Type 0 where
  pub blocks_long : length s.blocks ≡ 512 * length s.links
  pub few_blocks : length s.links ≤ 65536
  pub few_globals : length s.globals ≤ 4194304
  pub in_range : AllByRecursion (λ b. b < length s.links) s.free
  pub apart : AreApart s.free

-- two memories that differ in their bytes alone
pub record SameLists (old new : Store) : Type 0 where
  pub links : new.links ≡ old.links
  pub free : new.free ≡ old.free
  pub blocks : length new.blocks ≡ length old.blocks
  pub globals : length new.globals ≡ length old.globals

pub same_lists : (s : Store) → SameLists s s
same_lists s = record { links = refl; free = refl; blocks = refl; globals = refl }

pub same_lists_on : (a b c : Store) → SameLists a b → SameLists b c → SameLists a c
same_lists_on a b c p q =
    record { links = q.links ∙ p.links; free = q.free ∙ p.free; blocks = q.blocks ∙ p.blocks; globals = q.globals ∙ p.globals }

-- n free blocks become the list that begins at first, and nothing else changes
pub record Takes (old new : Store) (first n : ℕ) : Type 0 where
  pub list : old.free ≡ chain old.links first n ++ new.free
  pub links : new.links ≡ old.links
  pub blocks : new.blocks ≡ old.blocks
  pub globals : new.globals ≡ old.globals

-- a list of n blocks becomes free, and nothing else changes, also no link of another block
pub record Gives (old new : Store) (first n : ℕ) : Type 0 where
  pub free : new.free ≡ chain old.links first n ++ old.free
  pub sized : length new.links ≡ length old.links
  pub links : (b : ℕ) → IsApart b (chain old.links first n) → slice_index new.links b ≡ slice_index old.links b
  pub blocks : new.blocks ≡ old.blocks
  pub globals : new.globals ≡ old.globals

-- n blocks, each of which leads to the one behind it
abbrev pub IsRising : List ℕ → ℕ → Type 0
IsRising links n = (length links ≡ n) × ((k : ℕ) → k < n → slice_index links k ≡ k + 1)

-- all blocks free, all bytes zero
pub record IsNew (s : Store) (blocks globals : ℕ) : Type 0 where
  pub all_blocks : s.blocks ≡ replicate (512 * blocks) 0
  pub all_globals : s.globals ≡ replicate (4 * globals) 0
  pub links : length s.links ≡ blocks
  pub free : length s.free ≡ blocks
