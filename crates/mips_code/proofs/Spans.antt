-- What is the same however far words reach.
use Rattle.std.proofs.Common.{◌≡◌, ℕ, ◌+◌, ◌^◌, [], ◌∷◌, length, refl, ap, ◌∙◌}
use Rattle.ec_generate.specs.Puts.{pick}
use Rattle.ec_generate.specs.declared.kind.Span.{Span}
use Rattle.ec_generate.specs.declared.kind.Span.TheVariants.{Near, Middle, Far}
use Rattle.ec_machine_code.specs.declared.step.Step.{Step}
use Rattle.mips_code.specs.Sized.{mips_vocabularies, step_length}
use Rattle.mips_code.specs.Sizes.{step_size}
use Rattle.mips_code.specs.Words.{jump, no_op, step_words}

pub same_steps : (span : Span) (m : Step) → (pick mips_vocabularies span).step_words m ≡ step_words m
same_steps Near m = refl
same_steps Middle m = refl
same_steps Far m = refl

pub steps_size : (span : Span) (m : Step) → length ((pick mips_vocabularies span).step_words m) ≡ step_size m
steps_size span m = ap length (same_steps span m) ∙ step_length m

pub same_jumps : (span : Span) (from to : ℕ) → (pick mips_vocabularies span).jump_words from to ≡ jump (2 ^ 20 + to) ∷ no_op ∷ []
same_jumps Near from to = refl
same_jumps Middle from to = refl
same_jumps Far from to = refl

pub jumps_size : (span : Span) → (pick mips_vocabularies span).jump_size ≡ 2
jumps_size Near = refl
jumps_size Middle = refl
jumps_size Far = refl

pub same_stop : (span : Span) → (pick mips_vocabularies span).stop_word ≡ 0x0000000C
same_stop Near = refl
same_stop Middle = refl
same_stop Far = refl
