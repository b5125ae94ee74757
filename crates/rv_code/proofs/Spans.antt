-- What is the same however far words reach.
use Rattle.std.proofs.Common.{◌≡◌, length, refl, ap, ◌∙◌}
use Rattle.ec_generate.specs.Puts.{pick}
use Rattle.ec_generate.specs.declared.kind.Span.{Span}
use Rattle.ec_generate.specs.declared.kind.Span.TheVariants.{Near, Middle, Far}
use Rattle.ec_machine_code.specs.declared.step.Step.{Step}
use Rattle.rv_code.specs.Sized.{step_length}
use Rattle.rv_code.specs.Sizes.{step_size}
use Rattle.rv_code.specs.Words.{rv_vocabularies, step_words}

pub same_steps : (span : Span) (m : Step) → (pick rv_vocabularies span).step_words m ≡ step_words m
same_steps Near m = refl
same_steps Middle m = refl
same_steps Far m = refl

pub steps_size : (span : Span) (m : Step) → length ((pick rv_vocabularies span).step_words m) ≡ step_size m
steps_size span m = ap length (same_steps span m) ∙ step_length m

pub same_stop : (span : Span) → (pick rv_vocabularies span).stop_word ≡ 0x00000073
same_stop Near = refl
same_stop Middle = refl
same_stop Far = refl
