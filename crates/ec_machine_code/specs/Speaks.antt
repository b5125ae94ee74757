-- What a kind of machine gives: words for each step, and laws on what they do from a state that shows a sight.
use Rattle.std.specs.Prelude.{◌≡◌, ◌≢◌, ℕ, ◌+◌, ◌<◌, ◌≤◌, List, length, Some, slice_get, if◌then◌else◌}
use Rattle.ec_base.specs.Bytes.{Bytes}
use Rattle.ec_machine_code.specs.Frames.{block_at, most_blocks}
use Rattle.ec_machine_code.specs.Machine.{MachineMeaning}
use Rattle.ec_target.specs.Code.{pc_of, word_at}
use Rattle.ec_target.specs.Paths.{Climbs}
use Rattle.ec_target.specs.Runs.{ReadsBack, WritesBytes}
use Rattle.ec_machine_code.specs.Micro.{Can, CanAsk, Sight, asked, does}
use Rattle.ec_machine_code.specs.declared.step.Question.{Question}
use Rattle.ec_machine_code.specs.declared.step.Step.{Step}

-- Words are numbered from 0. All of them, and the address behind the last, lie below the first block: a jump of MIPS names no address
-- from there on.
abbrev pub words_end : ℕ
words_end = 0x03EFFFFF

-- The words of a kind of machine: of a step; of a question that is asked at word `from` and leads to word `to` where the answer is
-- yes; of a jump at word `from` to word `to`; and of a stop. A question and a jump reach so many words far, forward and back.
pub record Vocabulary : Type 0 where
  pub step_words : Step → List ℕ
  pub ask_words : Question → ℕ → ℕ → List ℕ
  pub ask_size : Question → ℕ
  pub jump_words : ℕ → ℕ → List ℕ
  pub jump_size : ℕ
  pub stop_word : ℕ
  pub reach : ℕ

-- these words stand in the code from word i on
abbrev pub HasAt : List ℕ → ℕ → List ℕ → Type 0
HasAt code i ws = (k w : ℕ) → slice_get ws k ≡ Some w → word_at code (pc_of (i + k)) ≡ Some w

module _ {S : Type 0} (M : MachineMeaning S) (f own : ℕ) where
  -- a state shows what homes hold, with the addresses of frame and own object in the base registers
  pub record Sees (s : S) (held : ℕ → ℕ) : Type 0 where
    pub rests : M.rests s
    pub frame : M.register s M.frame_base ≡ block_at f
    pub owns : M.register s M.own_base ≡ block_at own
    pub home : (k : ℕ) → k < M.homes → M.register s (M.first_home + k) ≡ held k

  -- from a state, by words that rise from word `from` on and lie below word `end`, to one at word `to` that shows another sight
  pub record Ends (code : List ℕ) (s : S) (v : Sight) (from end to : ℕ) (after : Sight) : Type 0 where
    pub last : S
    pub climbs : Climbs (M.goes code) M.place s v.bytes from end last after.bytes
    pub at : M.place last ≡ pc_of to
    pub sees : Sees last after.home

  abbrev pub StepLaw : Vocabulary → Type 0
  StepLaw V =
      (code : List ℕ) (m : Step) (i : ℕ) (s : S) (v : Sight) → f < most_blocks → own < most_blocks →
      HasAt code i (V.step_words m) → M.place s ≡ pc_of i → i + length (V.step_words m) ≤ words_end →
      Sees s v.home → Can M f own m v →
      Ends code s v i (i + length (V.step_words m)) (i + length (V.step_words m)) (does M f own m v)

  abbrev pub AskLaw : Vocabulary → Type 0
  AskLaw V =
      (code : List ℕ) (q : Question) (i to : ℕ) (s : S) (v : Sight) → f < most_blocks → own < most_blocks →
      HasAt code i (V.ask_words q i to) → M.place s ≡ pc_of i → i + V.ask_size q ≤ words_end → to ≤ words_end →
      to ≤ i + V.reach → i ≤ to + V.reach →
      Sees s v.home → CanAsk M f own q v →
      Ends code s v i (i + V.ask_size q) (if asked M f own q v.home v.bytes then to else i + V.ask_size q) v

  abbrev pub JumpLaw : Vocabulary → Type 0
  JumpLaw V =
      (code : List ℕ) (i to : ℕ) (s : S) (v : Sight) →
      HasAt code i (V.jump_words i to) → M.place s ≡ pc_of i → i + V.jump_size ≤ words_end → to ≤ words_end →
      to ≤ i + V.reach → i ≤ to + V.reach →
      Sees s v.home →
      Ends code s v i (i + V.jump_size) to v

-- none of these words is another one
abbrev pub IsNone : ℕ → List ℕ → Type 0
IsNone w ws = (k : ℕ) → slice_get ws k ≢ Some w

pub record Speaks {S : Type 0} (M : MachineMeaning S) (V : Vocabulary) : Type 0 where
  pub stop_same : V.stop_word ≡ M.stop_word
  pub reads_back : ReadsBack M.number M.bytes_of
  pub length_bytes : WritesBytes M.bytes_of
  -- sizes
  pub asks_size : (q : Question) (from to : ℕ) → length (V.ask_words q from to) ≡ V.ask_size q
  pub jumps_size : (from to : ℕ) → length (V.jump_words from to) ≡ V.jump_size
  -- none of the words is a stop
  pub no_step : (m : Step) → IsNone M.stop_word (V.step_words m)
  pub no_ask : (q : Question) (from to : ℕ) → IsNone M.stop_word (V.ask_words q from to)
  pub no_jump : (from to : ℕ) → IsNone M.stop_word (V.jump_words from to)
  -- what they do
  pub step : (f own : ℕ) → StepLaw M f own V
  pub ask : (f own : ℕ) → AskLaw M f own V
  pub jump : (f own : ℕ) → JumpLaw M f own V
  -- a stop word stops, with no register being loaded
  pub halt : (code : List ℕ) (s : S) (b : Bytes) → M.rests s → word_at code (M.place s) ≡ Some M.stop_word → M.stops code s b
  pub is_loaded : (s : S) → M.rests s → M.is_loaded s
