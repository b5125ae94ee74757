-- The meaning of the source's activations to a world.
use Rattle.std.specs.Prelude.{ℕ, true, false, List, [], ◌∷◌, ◌++◌, Option, Some, None}
use Rattle.ec_meaning.specs.declared.activation.SourceActivation.{SourceActivation}
use Rattle.ec_world.specs.Meaning.{ActivationMeaning}
use Rattle.ec_world.specs.declared.stop.Stop.TheVariants.{Entry}
use Rattle.ec_world.specs.declared.value.Value.{Value}

-- a result is held from now on
abbrev pub finished : SourceActivation → Option Value → SourceActivation
finished a None = record a { pending = false }
finished a (Some v) = record a { pending = false; held = a.held ++ v ∷ [] }

abbrev pub begun : ℕ → ℕ → List Value → SourceActivation
begun op own args = record {
  operation = op;
  own = own;
  stop = Entry;
  operands = [];
  pending = true;
  at_entry = true;
  variables = args;
  held = [];
  items = [];
}

abbrev pub source_meaning : ActivationMeaning SourceActivation
source_meaning = record {
  operation = λ a. a.operation;
  own = λ a. a.own;
  stop = λ a. a.stop;
  operands = λ a. a.operands;
  is_pending = λ a. a.pending;
  begun = begun;
  finished = finished;
}
