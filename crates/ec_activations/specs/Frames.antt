-- An activation that rests at a stop, as a node keeps it in a frame of 128 words: which values have words there, and in which order
-- (Steensgaard and Jul 1995: at a bus stop all kinds of machines agree on what is live, and a table of each kind says where it lies).
use Rattle.std.specs.Prelude.{ℕ, zero, suc, ◌==◌, false, if◌then◌else◌, List, [], ◌∷◌, ◌++◌, length, map, Option, Some}
use Rattle.std.specs.Prelude.{None, slice_get}
use Rattle.std.specs.Option.{option_map}
use Rattle.ec_code.specs.Activations.{operation_at, variables_behind, variables_if}
use Rattle.ec_code.specs.declared.activation.CodeActivation.{CodeActivation}
use Rattle.ec_code.specs.declared.code.Live.{Live}
use Rattle.ec_code.specs.declared.code.Operation.{Operation}
use Rattle.ec_code.specs.declared.code.Parts.{Parts}
use Rattle.ec_code.specs.declared.code.Variable.{Variable}
use Rattle.ec_code.specs.declared.code.Variable.TheVariants.{Named, Temporary}
use Rattle.ec_machine_code.specs.Frames.{home_word, own_reference}
use Rattle.ec_machine_code.specs.Stops.{home_in}
use Rattle.ec_machine_code.specs.declared.homes.Home.{Home}
use Rattle.ec_generate.specs.Entries.{entries_of}
use Rattle.ec_generate.specs.declared.table.StopEntry.{StopEntry}
use Rattle.ec_things.specs.Things.{Thing}
use Rattle.ec_world.specs.declared.node.Kind.{Kind}
use Rattle.ec_world.specs.declared.value.Value.{Value}
use Rattle.ec_world.specs.declared.value.Value.TheVariants.{Nil, Ref}

-- ---- the stop

-- a stop of an operation with its number there, from 0 in the order of the code
pub record Numbered : Type 0 where
  pub number : ℕ
  pub entry : StopEntry

-- the stop at a place of the code among some, the first of which has this number
abbrev pub at_place : ℕ → ℕ → List StopEntry → Option Numbered
at_place place number [] = None
at_place place number (e ∷ es) = if e.place == place then Some (record { number = number; entry = e }) else at_place place (suc number) es

abbrev pub entries_if : Option Operation → List StopEntry
entries_if None = []
entries_if (Some o) = entries_of o.code

-- the stop at which an activation rests
abbrev pub stop_of : Parts → CodeActivation → Option Numbered
stop_of p a = at_place a.at 0 (entries_if (operation_at p a.operation))

-- ---- what is held

-- a variable, and its value
pub record Held : Type 0 where
  pub variable : Variable
  pub value : Value

abbrev pub or_nil : Option Value → Value
or_nil None = Nil
or_nil (Some v) = v

-- Behind its entry all named variables of an activation are there; before, its arguments alone.
abbrev pub value_in : Parts → CodeActivation → Variable → Value
value_in p a (Named n) = or_nil (slice_get (variables_behind p a a.at) n)
value_in p a (Temporary d) = or_nil (slice_get a.temporaries d)

abbrev pub held_in : Parts → CodeActivation → List Live → List Held
held_in p a ls = map (λ l. record { variable = l.variable; value = value_in p a l.variable }) ls

-- the variable that takes what a stop gives
abbrev pub taker_of : Option Live → Option Variable
taker_of None = None
taker_of (Some l) = Some l.variable

-- What a stop gives has come where the action is done and no variable waits for it any more.
abbrev pub result_in : Parts → CodeActivation → Option Live → Option Variable → List Held
result_in p a (Some l) None = held_in p a (l ∷ [])
result_in p a (Some l) (Some x) = []
result_in p a None into = []

-- While the action is pending its operands are held, and then what it gave; and always what is live behind the stop.
abbrev pub held_at : Parts → CodeActivation → StopEntry → List Held
held_at p a e = (if a.pending then held_in p a e.operands else result_in p a e.result a.into) ++ held_in p a e.live

abbrev pub held_if : Parts → CodeActivation → Option Numbered → List Held
held_if p a None = []
held_if p a (Some s) = held_at p a s.entry

abbrev pub held_of : Parts → CodeActivation → List Held
held_of p a = held_if p a (stop_of p a)

-- ---- the frame

abbrev pub number_if : Option Numbered → ℕ
number_if None = 0
number_if (Some s) = s.number

-- words 0 to 5 of a frame: process, depth, operation, stop, whether its action is pending, and the own object's number
abbrev pub headings : Parts → ℕ → ℕ → CodeActivation → List ℕ
headings p process depth a =
    process ∷ depth ∷ a.operation ∷ number_if (stop_of p a) ∷ (if a.pending then 1 else 0) ∷ a.own ∷ []

-- the word of a frame that a variable has while the activation rests, by the homes of each operation's variables on a kind
abbrev pub variable_word : List (List Home) → Parts → ℕ → Variable → Option ℕ
variable_word homes p op x = option_map home_word (home_in homes op (length (variables_if (operation_at p op))) x)

abbrev pub word_if : List (List Home) → Parts → ℕ → Option Held → Option ℕ
word_if homes p op None = None
word_if homes p op (Some h) = variable_word homes p op h.variable

-- the word of value i: the node's own reference to the own object comes first
abbrev pub word_for : List (List Home) → Parts → CodeActivation → ℕ → Option ℕ
word_for homes p a zero = Some own_reference
word_for homes p a (suc i) = word_if homes p a.operation (slice_get (held_of p a) i)

-- An activation is a thing of one block at the place of its own object, on a kind by the homes that its variables have there.
abbrev pub frame_thing : Parts → (Kind → List (List Home)) → ℕ → ℕ → CodeActivation → Thing
frame_thing p homes process depth a = record {
  home = a.own;
  blocks = 1;
  size = 0;
  class = None;
  fixed = false;
  monitor = None;
  heads = headings p process depth a;
  values = Ref a.own ∷ map (λ h. h.value) (held_of p a);
  spot = λ kind i. word_for (homes kind) p a i;
}
