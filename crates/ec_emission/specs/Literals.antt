-- The literals of a program: the empty text, and then each text of its core, once, in the order of the text.
use Rattle.std.specs.Prelude.{if◌then◌else◌, List, [], ◌∷◌, ◌++◌}
use Rattle.ec_core.specs.Literals.{Texts, texts_of, texts_of_block}
use Rattle.ec_core.specs.declared.Constant.{Constant}
use Rattle.ec_core.specs.declared.Core.{Core}
use Rattle.ec_core.specs.declared.Operation.{Operation}
use Rattle.ec_emission.specs.Expressions.{has_text}

abbrev pub texts_of_constants : List Constant → Texts
texts_of_constants [] = []
texts_of_constants (c ∷ cs) = texts_of c.value ++ texts_of_constants cs

abbrev pub texts_of_operations : List Operation → Texts
texts_of_operations [] = []
texts_of_operations (o ∷ os) = texts_of_block o.block ++ texts_of_operations os

-- ---- each once

-- those that are there, and behind them each of the others that is new
abbrev pub with_new : Texts → Texts → Texts
with_new there [] = there
with_new there (t ∷ ts) = with_new (if has_text there t then there else there ++ t ∷ []) ts

abbrev pub literals_of : Core → Texts
literals_of core = with_new ([] ∷ []) (texts_of_constants core.constants ++ texts_of_operations core.operations)
