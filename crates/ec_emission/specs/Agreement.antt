-- When a program's three-address code is that of its source.
use Rattle.std.specs.Prelude.{◌≡◌, ℕ, suc, List, [], ◌∷◌, ◌++◌, drop, length, map, Some, slice_get}
use Rattle.ec_code.specs.Activations.{opened, walk}
use Rattle.ec_code.specs.declared.code.Operation.{Operation}
use Rattle.ec_code.specs.declared.code.Parts.{Parts}
use Rattle.ec_code.specs.Fine.{Fine}
use Rattle.ec_code.specs.Typing.{Declared, kind_of}
use Rattle.ec_core.specs.declared.Block.{Block}
use Rattle.ec_meaning.specs.Meaning.{defaults, items_if}
use Rattle.ec_meaning.specs.Programs.{Source, classes_of, globals_of, operation_at}
use Rattle.ec_meaning.specs.Steps.{block_items, captured_by, types_if}
use Rattle.ec_meaning.specs.declared.item.Item.{Item}
use Rattle.ec_meaning.specs.declared.item.Item.TheVariants as i
use Rattle.ec_emission.specs.Ops.{ops}
use Rattle.ec_emission.specs.Stands.{Hold, Stands}
use Rattle.ec_world.specs.declared.common.Common.{Common}
use Rattle.ec_world.specs.declared.value.Value.{Value}

-- How loops stand in code, as whoever writes code knows it: in the code of a source's operation of a number, which is of these parts,
-- that of a loop over a block stands from its loop top at one place to the step at another that leads back.
abbrev pub LoopsStand : Type 1
LoopsStand = Source → Parts → ℕ → ℕ → ℕ → Block → Type 0

module _ (Loops : LoopsStand) (s : Source) (p : Parts) (number : ℕ) (o : Operation) where
  -- The code of the operation of this number stands, from a place on, for what is still to do, with these values held.
  abbrev pub StandsFor : List Hold → ℕ → List Item → Type 0
  StandsFor hs at items =
      Stands s number (captured_by s o.class) (length o.variables) p.literals (ops o.code) (Loops s p number) hs at items

  -- the variables with which the source begins: the arguments, and the defaults of the others' types
  abbrev pub begins_with : List Value → List Value
  begins_with arguments = arguments ++ defaults (drop (length arguments) (types_if (operation_at s number)))

  -- It is the code of the source's operation of this number.
  pub record IsCode : Type 0 where
    -- as many named variables as the source has
    pub variables : length o.variables ≡ length (types_if (operation_at s number))
    -- Behind the entry stop, which stands at place 0, silent steps lead to the body, with the variables with which the source
    -- begins.
    pub body : ℕ
    pub begins :
        (own : ℕ) (c : Common) (arguments temporaries : List Value) → length arguments ≡ length o.parameters →
        walk p.literals own 1 (drop 1 o.code) 0
        (record { common = c; variables = opened arguments (length o.variables); temporaries = temporaries })
        ≡ walk p.literals own body (drop body o.code) 0
        (record { common = c; variables = begins_with arguments; temporaries = temporaries })
    -- There the code stands for all that the operation does.
    pub stands : StandsFor [] body (items_if s (operation_at s number))
    -- Behind the loop top of each loop it stands for the body and for the next turn.
    pub loops :
        (top again : ℕ) (b : Block) (items : List Item) → Loops s p number top again b → StandsFor [] (suc again) items →
        StandsFor [] (suc top) (block_items b ++ i.Again b ∷ items)

-- The code of a program: well typed, with the source's classes and kinds of constants, and each operation's code.
pub record IsCodeOf (Loops : LoopsStand) (s : Source) (d : Declared) (p : Parts) : Type 0 where
  pub fine : Fine d p
  pub classes : p.classes ≡ classes_of s
  pub constants : map kind_of p.constants ≡ globals_of s
  pub operations : (number : ℕ) (o : Operation) → slice_get p.operations number ≡ Some o → IsCode Loops s p number o
