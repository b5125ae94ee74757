-- The stop at which an activation rests, by its number and by its place.
use Rattle.std.proofs.Common.{◌≡◌, ◌≢◌, ℕ, zero, suc, ◌+◌, ◌==◌, Bool, true, false, List, [], ◌∷◌, Option, Some, None, refl, sym, ap, ◌∙◌}
use Rattle.std.proofs.Common.{arith, eqb-true, eq-eqb}
use Rattle.std.specs.Prelude.{if◌then◌else◌, slice_get}
use Rattle.std.proofs.lemmas.Option.{same_Some}
use Rattle.ec_activations.specs.Frames.{Numbered, at_place}
use Rattle.ec_code.specs.declared.code.Line.{Line}
use Rattle.ec_code.specs.declared.code.StopRow.{StopRow}
use Rattle.ec_machine_code.specs.Stops.{places_from, stop_of, with_place}
use Rattle.ec_machine_code.proofs.Stops.{numbered}
use Rattle.ec_generate.specs.Entries.{entries_from, entry_of, with_entry}

-- the number of a stop, behind so many others, is that of its place
abbrev pub HasNumber : List Line → ℕ → ℕ → ℕ → ℕ → Type 0
HasNumber lines q place first number = (n : ℕ) × (number ≡ first + n) × (slice_get (places_from q lines) n ≡ Some place)

pub has_number : (code : List Line) (place first q : ℕ) (lines : List Line) (s : Numbered) →
    at_place place first (entries_from code q lines) ≡ Some s → HasNumber lines q place first s.number
has_number code place first q [] s e = absurd cc
has_number code place first q (line ∷ rest) s e =
    let further = λ (k : ℕ) (f : at_place place k (entries_from code (suc q) rest) ≡ Some s).
    has_number code place k (suc q) rest s f in
    by further (stop_of line.op) e
  where
    Further : Type 0
    Further = (k : ℕ) → at_place place k (entries_from code (suc q) rest) ≡ Some s → HasNumber rest (suc q) place k s.number

    Here : Option StopRow → Type 0
    Here o = (n : ℕ) × (s.number ≡ first + n) × (slice_get (with_place q o (places_from (suc q) rest)) n ≡ Some place)

    found : Further → (row : StopRow) (b : Bool) → (q == place) ≡ b →
        (if b then Some (record { number = first; entry = entry_of code q line row })
        else at_place place (suc first) (entries_from code (suc q) rest)) ≡ Some s → Here (Some row)
    found further row true same f =
        let at : q ≡ place = eqb-true q place same in
        let number : s.number ≡ first = ap (λ (k : Numbered). k.number) (same_Some s _ (sym f)) in
        (0, omega arith, ap Some at)
    found further row false same f = let h = further (suc first) f in let number = h.1 in (suc h.0, omega arith, h.2)

    by : Further → (o : Option StopRow) →
        at_place place first (with_entry code q line o (entries_from code (suc q) rest)) ≡ Some s → Here o
    by further None f = further first f
    by further (Some row) f = found further row (q == place) refl f

-- at the place of a stop there is one
abbrev pub Found : List Line → List Line → ℕ → ℕ → ℕ → ℕ → Type 0
Found code lines q place first n =
    (s : Numbered) × (at_place place first (entries_from code q lines) ≡ Some s) × (s.number ≡ first + n)

not_same : (q place : ℕ) → q ≢ place → (q == place) ≡ false
not_same q place ne = by (q == place) refl
  where
    by : (b : Bool) → (q == place) ≡ b → b ≡ false
    by true e = absurd (ne (eqb-true q place e))
    by false e = refl

pub find : (code : List Line) (place first q : ℕ) (lines : List Line) (n : ℕ) → slice_get (places_from q lines) n ≡ Some place →
    Found code lines q place first n
find code place first q [] n e = absurd cc
find code place first q (line ∷ rest) n e =
    let further = λ (k m : ℕ) (f : slice_get (places_from (suc q) rest) m ≡ Some place). find code place k (suc q) rest m f in
    by further (stop_of line.op) n e
  where
    Further : Type 0
    Further = (k m : ℕ) → slice_get (places_from (suc q) rest) m ≡ Some place → Found code rest (suc q) place k m

    Here : Option StopRow → ℕ → Type 0
    Here o n = (s : Numbered) × (at_place place first (with_entry code q line o (entries_from code (suc q) rest)) ≡ Some s)
        × (s.number ≡ first + n)

    chosen : StopRow → Bool → Option Numbered
    chosen row b =
        if b then Some (record { number = first; entry = entry_of code q line row })
        else at_place place (suc first) (entries_from code (suc q) rest)

    by : Further → (o : Option StopRow) (n : ℕ) → slice_get (with_place q o (places_from (suc q) rest)) n ≡ Some place → Here o n
    by further None n f = further first n f
    by further (Some row) zero f = (
      record { number = first; entry = entry_of code q line row },
      ap (chosen row) (eq-eqb q place (same_Some q place f)),
      omega arith,
    )
    by further (Some row) (suc n) f =
        let h = further (suc first) n f in
        let behind = (numbered rest (suc q) n place f).sum in
        let number = h.2 in
        (h.0, ap (chosen row) (not_same q place (λ e. absurd (omega arith))) ∙ h.1, omega arith)
