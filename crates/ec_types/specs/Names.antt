-- Names in the order of their declarations, and which of them a name means.
use Rattle.std.specs.Prelude.{ℕ, ◌+◌, Bool, if◌then◌else◌, List, [], ◌∷◌, Option, Some, None, is_some}
use Rattle.std.specs.Str.{str_eq_ignore_ascii_case}

-- the letters of a name, by their bytes
abbrev pub Text : Type 0
Text = List ℕ

-- Case isn't significant in names.
abbrev pub is_same : Text → Text → Bool
is_same a b = str_eq_ignore_ascii_case a b

-- the number of the first of these names that is the same as a name; they are those from n on
abbrev pub first_from : ℕ → List Text → Text → Option ℕ
first_from n [] name = None
first_from n (own ∷ names) name = if is_same own name then Some n else first_from (n + 1) names name

-- A doubled name means the first of its declarations.
abbrev pub first_named : List Text → Text → Option ℕ
first_named names name = first_from 0 names name

abbrev pub has_name : List Text → Text → Bool
has_name names name = is_some (first_named names name)
