-- A step that is replaced, by how many stand behind it.
use Rattle.std.specs.Prelude.{ℕ, List, reverse, slice_set}
use Rattle.ec_code.specs.declared.code.Op.{Op}

abbrev pub with_other : List Op → ℕ → Op → List Op
with_other code behind op = reverse (slice_set (reverse code) behind op)
