-- Lists of the variables that are marked at a place, and how many numbers of variables there are.
use Rattle.std.specs.Prelude.{ℕ, suc, ◌+◌, ◌≤◌, ◌^◌, max, Bool, List, [], ◌∷◌, ◌++◌, if◌then◌else◌}
use Rattle.ec_code.specs.declared.code.Op.{Op}
use Rattle.ec_code.specs.declared.code.Variable.{Variable}
use Rattle.ec_code.specs.declared.code.Variable.TheVariants.{Named, Temporary}
use Rattle.ec_code.specs.Live.{reads}
use Rattle.ec_code.specs.Marks.{is_marked, AreLive}
use Rattle.ec_code.specs.declared.extent.Extent.{Extent}
use Rattle.ec_code.specs.declared.rows.Kind.{Kind}
use Rattle.ec_code.specs.declared.rows.Kind.TheVariants as kind

-- ---- numbers of variables

-- the numbers of this variable too
abbrev pub with_one : Extent → Variable → Extent
with_one e (Named n) = record e { named = max e.named (n + 1) }
with_one e (Temporary d) = record e { temporaries = max e.temporaries (d + 1) }

abbrev pub with_all : Extent → List Variable → Extent
with_all e [] = e
with_all e (x ∷ xs) = with_all (with_one e x) xs

-- those of what each step reads
abbrev pub with_code : Extent → List Op → Extent
with_code e [] = e
with_code e (o ∷ os) = with_code (with_all e (reads o)) os

-- Numbers of variables have 32 bits.
abbrev pub IsSmall : Extent → Type 0
IsSmall e = (e.named ≤ 2 ^ 32) × (e.temporaries ≤ 2 ^ 32)

-- ---- rows: marks of the variables of a kind, by their numbers

abbrev pub variable_of : Kind → ℕ → Variable
variable_of kind.Named n = Named n
variable_of kind.Temporary d = Temporary d

-- of the variables from a number on
abbrev pub AreRows : List Op → Kind → ℕ → List (List Bool) → Type 0
AreRows code k n [] = Unit {0}
AreRows code k n (marks ∷ rows) = AreLive code (variable_of k n) marks × AreRows code k (suc n) rows

abbrev pub marked_at : Kind → ℕ → List (List Bool) → ℕ → List Variable
marked_at k n [] q = []
marked_at k n (marks ∷ rows) q =
    if is_marked marks q then variable_of k n ∷ marked_at k (suc n) rows q else marked_at k (suc n) rows q

abbrev pub listed : List (List Bool) → List (List Bool) → ℕ → List Variable
listed named temporaries q = marked_at kind.Named 0 named q ++ marked_at kind.Temporary 0 temporaries q
