-- Numbers of classes on the wire.
use Rattle.std.specs.Prelude.{ℕ, ◌+◌, ◌-◌, ◌<◌, ◌==◌, List, length, Option, Some, None, if◌then◌else◌, nat_lt, option_map, position}
use Rattle.std.specs.Prelude.{slice_get}
use Rattle.ec_world.specs.Held.{Distinct}
use Rattle.ec_world.specs.Objects.{is_same_vector}
use Rattle.ec_world.specs.declared.class.ClassNo.{ClassNo}
use Rattle.ec_world.specs.declared.class.ClassNo.TheVariants.{Node, Program, Made, Vector}
use Rattle.ec_world.specs.declared.class.VectorType.{VectorType}

-- the number of the class of the program's own object, which is the last one of 32 bits
abbrev pub program_number : ℕ
program_number = 4294967295

-- how many classes and object constructors a program has, and the vector types whose numbers follow theirs
pub record ClassTable : Type 0 where
  pub made : ℕ
  pub vectors : List VectorType

-- Each vector type stands once, and all their numbers are below the program's own.
pub record IsClassTable (t : ClassTable) : Type 0 where
  pub once : Distinct t.vectors
  pub few : t.made + length t.vectors < program_number

-- ---- the number of a class

abbrev pub made_number : ℕ → ℕ → Option ℕ
made_number made place = if nat_lt place made then Some place else None

-- the first place of a vector type among some
abbrev pub place_of : List VectorType → VectorType → Option ℕ
place_of vectors of = position (λ v. is_same_vector v of) vectors

abbrev pub vector_number : ClassTable → VectorType → Option ℕ
vector_number t of = option_map (λ place. t.made + place) (place_of t.vectors of)

-- A class or object constructor has its place, and vector types follow. The object of a node never goes, so its class has no number.
abbrev pub number_of : ClassTable → ClassNo → Option ℕ
number_of t Node = None
number_of t Program = Some program_number
number_of t (Made place) = made_number t.made place
number_of t (Vector of) = vector_number t of

-- ---- the class of a number

abbrev pub vector_of : ClassTable → ℕ → Option ClassNo
vector_of t number = option_map Vector (slice_get t.vectors (number - t.made))

abbrev pub class_of : ClassTable → ℕ → Option ClassNo
class_of t number =
    if nat_lt number t.made then Some (Made number) else if number == program_number then Some Program else vector_of t number
