-- The stops of a code's lines, with one line more; and where operations and their tables go together.
use Rattle.std.proofs.Common.{◌≡◌, ℕ, suc, ◌+◌, List, [], ◌∷◌, ◌++◌, append_assoc, drop, Option, Some, None}
use Rattle.std.proofs.Common.{refl}
use Rattle.std.proofs.Common.{sym, ap, ◌∙◌, subst, arith}
use Rattle.std.specs.Prelude.{slice_get, All}
use Rattle.std.proofs.lemmas.List.Elements.{All-get_or}
use Rattle.std.proofs.lemmas.Option.{same_Some, slice_get-get_or}
use Rattle.ec_base.proofs.Lists.{drop_at, get_within}
use Rattle.ec_code.specs.declared.code.Line.{Line}
use Rattle.ec_code.specs.declared.code.StopRow.{StopRow}
use Rattle.ec_machine_code.specs.Stops.{stop_of}
use Rattle.ec_generate.specs.Entries.{entries_from, stop_here, stop_if, with_entry}
use Rattle.ec_generate.specs.declared.table.StopEntry.{StopEntry}
use Rattle.ec_world.specs.Agree.{AllTwo}

with_rest : (code : List Line) (q : ℕ) (line : Line) (o : Option StopRow) (rest : List StopEntry) →
    with_entry code q line o rest ≡ with_entry code q line o [] ++ rest
with_rest code q line None rest = refl
with_rest code q line (Some row) rest = refl

pub one_stop : (code : List Line) (q : ℕ) (line : Line) (old new all : List StopEntry) → slice_get code q ≡ Some line →
    old ++ entries_from code q (drop q code) ≡ all → new ≡ old ++ stop_here code q →
    new ++ entries_from code (q + 1) (drop (q + 1) code) ≡ all
one_stop code q line old new all there so_far is =
    let next : suc q ≡ q + 1 = omega arith in
    let rest : List StopEntry = entries_from code (q + 1) (drop (q + 1) code) in
    let here : entries_from code q (drop q code) ≡ stop_here code q ++ rest =
    ap (entries_from code q) (drop_at code q line there)
    ∙ ap (λ k. with_entry code q line (stop_of line.op) (entries_from code k (drop (q + 1) code))) next
    ∙ with_rest code q line (stop_of line.op) rest ∙ sym (ap (λ o. stop_if code q o ++ rest) there) in
    ap (λ l. l ++ rest) is ∙ append_assoc old (stop_here code q) rest ∙ sym (ap (λ l. old ++ l) here) ∙ so_far

-- one more of two lists that go together
pub two_more : {A B : Type 0} (R : A → B → Type 0) (xs : List A) (ys : List B) (x : A) (y : B) → AllTwo R xs ys → R x y →
    AllTwo R (xs ++ x ∷ []) (ys ++ y ∷ [])
two_more R [] [] x y h r = (r, tt)
two_more R [] (b ∷ ys) x y h r = absurd h
two_more R (a ∷ xs) [] x y h r = absurd h
two_more R (a ∷ xs) (b ∷ ys) x y h r = (h.0, two_more R xs ys x y h.1 r)

pub all_at : {A : Type 0} (P : A → Type 0) (xs : List A) (k : ℕ) (x : A) → All P xs → slice_get xs k ≡ Some x → P x
all_at P xs k x all e =
    let h = get_within xs k x e in
    subst P (same_Some _ _ (sym (slice_get-get_or xs k x h) ∙ e)) (All-get_or P xs k x h all)
