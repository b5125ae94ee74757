-- When words can be written.
use Rattle.std.specs.Prelude.{◌≡◌, ℕ, ◌<◌, ◌≤◌, ◌^◌, length}
use Rattle.ec_machine_code.specs.Frames.{block_words, slots}
use Rattle.ec_generate.specs.declared.kind.Span.{Span}
use Rattle.ec_generate.specs.declared.kind.Span.TheVariants.{Near, Middle, Far}
use Rattle.ec_machine_code.specs.Homes.{IsWithin}
use Rattle.ec_machine_code.specs.Layout.{Vocabularies}
use Rattle.ec_machine_code.specs.Speaks.{Vocabulary, words_end}
use Rattle.ec_machine_code.specs.declared.step.Question.{Question}
use Rattle.ec_machine_code.specs.declared.step.Source.{Source}
use Rattle.ec_machine_code.specs.declared.step.Source.TheVariants as source
use Rattle.ec_machine_code.specs.declared.step.Step.{Step}
use Rattle.ec_machine_code.specs.declared.step.Step.TheVariants as step

abbrev pub pick : Vocabularies → Span → Vocabulary
pick vs Near = vs.near
pick vs Middle = vs.middle
pick vs Far = vs.far

-- ---- what a kind is asked to write: each home is one that it has

abbrev pub CanPutSource : ℕ → Source → Type 0
CanPutSource homes (source.Home h) = IsWithin homes slots h
CanPutSource homes (source.Word n) = Unit {0}

abbrev pub CanPutQuestion : ℕ → Question → Type 0
CanPutQuestion homes q = CanPutSource homes q.left × CanPutSource homes q.right

abbrev pub CanPut : ℕ → Step → Type 0
CanPut homes (step.Move into from) = IsWithin homes slots into × CanPutSource homes from
CanPut homes (step.Itself into) = IsWithin homes slots into
CanPut homes (step.Field into field) = IsWithin homes slots into × (field < block_words)
CanPut homes (step.SetField field from) = (field < block_words) × CanPutSource homes from
CanPut homes (step.Constant into index) = IsWithin homes slots into × (index < 2 ^ 20)
CanPut homes (step.Work how into left right) = IsWithin homes slots into × CanPutSource homes left × CanPutSource homes right
CanPut homes (step.Decide into q) = IsWithin homes slots into × CanPutQuestion homes q

-- ---- sizes

-- No step or question has more words than this,
abbrev pub most_words : ℕ
most_words = 20

-- and no jump more than this.
abbrev pub most_jump_words : ℕ
most_jump_words = 4

-- questions and jumps have as many words as they say, and none has many
pub record IsSized (V : Vocabulary) : Type 0 where
  pub asks : (q : Question) (from to : ℕ) → length (V.ask_words q from to) ≡ V.ask_size q
  pub jumps : (from to : ℕ) → length (V.jump_words from to) ≡ V.jump_size
  pub step : (m : Step) → length (V.step_words m) ≤ most_words
  pub ask : (q : Question) → V.ask_size q ≤ most_words
  pub jump : V.jump_size ≤ most_jump_words

pub record Sized (vs : Vocabularies) : Type 0 where
  pub near : IsSized vs.near
  pub middle : IsSized vs.middle
  pub far : IsSized vs.far
  pub reaches : words_end ≤ vs.far.reach
