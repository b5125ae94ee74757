-- The stop at which an activation rests, and the variables that it holds there.
use Rattle.std.proofs.Common.{◌≡◌, ℕ, zero, suc, ◌==◌, inl, inr, Bool, true, false, List, [], ◌∷◌, ◌++◌, drop, map}
use Rattle.std.proofs.Common.{Option, Some, None, refl, sym, ap, ◌∙◌, subst, eqb-true}
use Rattle.std.specs.Prelude.{if◌then◌else◌, slice_get}
use Rattle.std.proofs.lemmas.Option.{same_Some}
use Rattle.ec_activations.specs.Frames.{Numbered, at_place}
use Rattle.ec_code.specs.Fine.{IsIn}
use Rattle.ec_code.specs.declared.code.Line.{Line}
use Rattle.ec_code.specs.declared.code.Live.{Live}
use Rattle.ec_code.specs.declared.code.StopRow.{StopRow}
use Rattle.ec_code.specs.declared.code.Variable.{Variable}
use Rattle.ec_machine_code.specs.Stops.{stop_of, without}
use Rattle.ec_code.specs.Marks.{is_written}
use Rattle.ec_generate.specs.Entries.{entries_from, entry_of, with_entry}
use Rattle.ec_generate.specs.declared.table.StopEntry.{StopEntry}

-- ---- the stop

dropped : {A : Type 0} (xs : List A) (q : ℕ) (x : A) (rest : List A) → drop q xs ≡ x ∷ rest →
    (slice_get xs q ≡ Some x) × (drop (suc q) xs ≡ rest)
dropped [] zero x rest e = absurd cc
dropped [] (suc q) x rest e = absurd cc
dropped (y ∷ xs) zero x rest e = (cc, cc)
dropped (y ∷ xs) (suc q) x rest e = dropped xs q x rest e

-- the line and the row of a stop that stands in the table of some code
pub record StandsThere (code : List Line) (place : ℕ) (e : StopEntry) : Type 0 where
  pub line : Line
  pub is_line : slice_get code place ≡ Some line
  pub row : StopRow
  pub is_row : stop_of line.op ≡ Some row
  pub is : e ≡ entry_of code place line row

pub stands_there : (code : List Line) (place number q : ℕ) (lines : List Line) (s : Numbered) → drop q code ≡ lines →
    at_place place number (entries_from code q lines) ≡ Some s → StandsThere code place s.entry
stands_there code place number q [] s d e = absurd cc
stands_there code place number q (line ∷ rest) s d e =
    let h = dropped code q line rest d in
    let further = λ (n : ℕ) (f : at_place place n (entries_from code (suc q) rest) ≡ Some s).
    stands_there code place n (suc q) rest s h.1 f in
    by further (stop_of line.op) refl h.0 e
  where
    Further : Type 0
    Further = (n : ℕ) → at_place place n (entries_from code (suc q) rest) ≡ Some s → StandsThere code place s.entry

    found : Further → (row : StopRow) (b : Bool) → stop_of line.op ≡ Some row → slice_get code q ≡ Some line → (q == place) ≡ b →
        (if b then Some (record { number = number; entry = entry_of code q line row })
        else at_place place (suc number) (entries_from code (suc q) rest)) ≡ Some s → StandsThere code place s.entry
    found further row true r there same f =
        let at : q ≡ place = eqb-true q place same in
        let is : s ≡ record { number = number; entry = entry_of code q line row } = cc in
        record {
          line = line;
          is_line = subst (λ n. slice_get code n ≡ Some line) at there;
          row = row;
          is_row = r;
          is = subst (λ n. s.entry ≡ entry_of code n line row) at (ap (λ (k : Numbered). k.entry) is);
        }
    found further row false r there same f = further (suc number) f

    by : Further → (o : Option StopRow) → stop_of line.op ≡ o → slice_get code q ≡ Some line →
        at_place place number (with_entry code q line o (entries_from code (suc q) rest)) ≡ Some s → StandsThere code place s.entry
    by further None r there f = further number f
    by further (Some row) r there f = found further row (q == place) r there refl f

-- ---- what is held

pub each_of : {A : Type 0} (P : A → Type 0) (xs ys : List A) → ((i : ℕ) (x : A) → slice_get xs i ≡ Some x → P x) →
    ((i : ℕ) (y : A) → slice_get ys i ≡ Some y → P y) → (i : ℕ) (z : A) → slice_get (xs ++ ys) i ≡ Some z → P z
each_of P [] ys first second i z e = second i z e
each_of P (x ∷ xs) ys first second zero z e = first zero z e
each_of P (x ∷ xs) ys first second (suc i) z e = each_of P xs ys (λ j y. first (suc j) y) second i z e

pub in_list : {A : Type 0} (xs : List A) (i : ℕ) (x : A) → slice_get xs i ≡ Some x → IsIn x xs
in_list [] i x e = absurd cc
in_list (y ∷ xs) zero x e = inl (same_Some x y (sym e))
in_list (y ∷ xs) (suc i) x e = inr (in_list xs i x e)

pub mapped : {A B : Type 0} (f : A → B) (xs : List A) (i : ℕ) (y : B) → slice_get (map f xs) i ≡ Some y →
    (x : A) × (slice_get xs i ≡ Some x) × (y ≡ f x)
mapped f [] i y e = absurd cc
mapped f (x ∷ xs) zero y e = (x, refl, same_Some y (f x) (sym e))
mapped f (x ∷ xs) (suc i) y e = mapped f xs i y e

-- what is live but for what is written
pub in_without : (into : Option Variable) (ls : List Live) (l : Live) → IsIn l (without into ls) →
    IsIn l ls × (is_written into l.variable ≡ false)
in_without into [] l h = absurd h
in_without into (k ∷ ls) l h = by (λ g. in_without into ls l g) (is_written into k.variable) refl h
  where
    by : (IsIn l (without into ls) → IsIn l ls × (is_written into l.variable ≡ false)) → (b : Bool) → is_written into k.variable ≡ b →
        IsIn l (if b then without into ls else k ∷ without into ls) → IsIn l (k ∷ ls) × (is_written into l.variable ≡ false)
    by rest true w g = let r = rest g in (inr r.0, r.1)
    by rest false w (inl e) = (inl e, ap (λ (x : Live). is_written into x.variable) e ∙ w)
    by rest false w (inr g) = let r = rest g in (inr r.0, r.1)
