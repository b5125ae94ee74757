-- Words of a memory of either kind after a write.
use Rattle.std.proofs.Common.{◌≡◌, ◌≢◌, ℕ, ◌%◌, ◌^◌, ◌<◌, List, [], ◌∷◌, ◌++◌, length, Some, refl, ap, ◌∙◌}
use Rattle.byteorder.specs.Numbers.{big_number-reads_back, little_number-reads_back, length-bytes_high_first, length-bytes_low_first}
use Rattle.ec_memory.proofs.Words.{word_written, word_other}
use Rattle.ec_memory.specs.Words.{word_in}
use Rattle.ec_memory.specs.Store.{store_byte}
use Rattle.ec_world.specs.declared.node.Kind.{Kind}
use Rattle.ec_world.specs.declared.node.Kind.TheVariants.{Riscv, Mips}
use Rattle.ec_stores.specs.Memory.{bytes_of, byte_in, held, number_of, word_at, WritesAt}
use Rattle.ec_stores.specs.declared.memory.NodeMemory.{NodeMemory}

-- ---- the laws of either order

pub length_of : (kind : Kind) (n x : ℕ) → length (bytes_of kind n x) ≡ n
length_of Riscv n x = length-bytes_low_first 0 n x
length_of Mips n x = length-bytes_high_first n x

pub reads_back : (kind : Kind) (n x : ℕ) (rest : List ℕ) → x < 256 ^ n → number_of kind n (bytes_of kind n x ++ rest) ≡ x
reads_back Riscv n x rest h = little_number-reads_back n x rest h
reads_back Mips n x rest h = big_number-reads_back n x rest h

pub zeros : (kind : Kind) → number_of kind 4 (0 ∷ 0 ∷ 0 ∷ 0 ∷ []) ≡ 0
zeros Riscv = refl
zeros Mips = refl

-- ---- one word

module _ (kind : Kind) (m m' : NodeMemory) (at w : ℕ) (bytes : WritesAt kind m m' at w) where
  pub written_here : w < 2 ^ 32 → word_at kind m' at ≡ Some w
  written_here few = ap (λ b. word_in (number_of kind) b at) bytes
      ∙ word_written (number_of kind) (bytes_of kind) (reads_back kind) (length_of kind) (byte_in m) at w few

  pub written_other : (a : ℕ) → a % 4 ≡ 0 → at % 4 ≡ 0 → a ≢ at → word_at kind m' a ≡ word_at kind m a
  written_other a even even' ne = ap (λ b. word_in (number_of kind) b a) bytes
      ∙ word_other (number_of kind) (bytes_of kind) (reads_back kind) (length_of kind) (byte_in m) at w a even even' ne

-- no word changes where no byte does
pub same_word : (kind : Kind) (m m' : NodeMemory) (at : ℕ) → (held m').blocks ≡ (held m).blocks → (held m').globals ≡ (held m).globals →
    word_at kind m' at ≡ word_at kind m at
same_word kind m m' at b g = ap (λ bytes. word_in (number_of kind) bytes at)
    (ap (λ (xs : List ℕ). store_byte (record { blocks = xs; globals = (held m').globals; links = []; free = [] })) b
    ∙ ap (λ (xs : List ℕ). store_byte (record { blocks = (held m).blocks; globals = xs; links = []; free = [] })) g)
