-- The types of the vectors that code makes: each line's is among them. Those that are numbered: each stands once, the written ones first.
use Rattle.std.proofs.Common.{◌≡◌, ℕ, zero, suc, ◌<◌, ◌==◌, ◌||◌, ◌⊎◌, inl, inr, ⊎_elim, Bool, true, false, List, [], ◌∷◌, ◌++◌}
use Rattle.std.proofs.Common.{◌+◌, cond, not, length, Option, Some, None, refl, sym, ap, ◌∙◌, subst, arith}
use Rattle.std.proofs.lemmas.List.{append-nil, append_assoc}
use Rattle.std.specs.List.{position_or_len}
use Rattle.std.specs.Prelude.{if◌then◌else◌, slice_get}
use Rattle.ec_parcels.specs.ClassNumbersLaws.{ComeFirst}
use Rattle.ec_parcels.specs.Vectors.{each_once, has_type, made_on, numbered_types, vector_types, with_lines, with_made, with_operations, with_type}
use Rattle.ec_parcels.specs.Vectors.{with_types}
use Rattle.ec_code.specs.declared.code.Line.{Line}
use Rattle.ec_code.specs.declared.code.Operation.{Operation}
use Rattle.ec_code.specs.declared.code.Parts.{Parts}
use Rattle.ec_parcels.proofs.Numbers.{vector_one, vector_same}
use Rattle.ec_world.specs.Held.{Distinct}
use Rattle.ec_world.proofs.Members.{has_back, has_either, has_first, has_front, has_later, has_none, has_one, has_parts}
use Rattle.ec_world.specs.Group.{Has}
use Rattle.ec_world.specs.Objects.{is_same_vector}
use Rattle.ec_world.specs.declared.class.VectorType.{VectorType}

abbrev Types : Type 0
Types = List VectorType

never : {A : Type 0} → false ≡ true → A
never h = absurd cc

-- ---- a type that is there, or not

found : (types : Types) (of : VectorType) → has_type types of ≡ true → Has types of
found [] of e = never e
found (t ∷ ts) of e = by (is_same_vector t of) refl e (found ts of)
  where
    by : (b : Bool) → is_same_vector t of ≡ b → (b || has_type ts of) ≡ true → (has_type ts of ≡ true → Has ts of) → Has (t ∷ ts) of
    by true same e rest = subst (λ u. Has (t ∷ ts) u) (vector_one t of same) (has_first t ts)
    by false same e rest = has_later t of ts (rest e)

missing : (types : Types) (of : VectorType) → has_type types of ≡ false → Has types of → ⊥
missing [] of e h = has_none of h
missing (t ∷ ts) of e h = by (is_same_vector t of) refl e (missing ts of) (has_parts t of ts h)
  where
    by : (b : Bool) → is_same_vector t of ≡ b → (b || has_type ts of) ≡ false → (has_type ts of ≡ false → Has ts of → ⊥) →
        (of ≡ t) ⊎ Has ts of → ⊥
    by true same e rest k = cc
    by false same e rest (inl is) =
        let other : is_same_vector t t ≡ false = subst (λ u. is_same_vector t u ≡ false) is same in
        never (sym other ∙ vector_same t)
    by false same e rest (inr k) = rest e k

-- a type that is there is found, by its place
pub placed : (types : Types) (of : VectorType) → Has types of → position_or_len (λ t. is_same_vector t of) types < length types
placed [] of h = absurd (has_none of h)
placed (t ∷ ts) of h = by (is_same_vector t of) refl (placed ts of) (has_parts t of ts h)
  where
    rest : ℕ
    rest = position_or_len (λ t. is_same_vector t of) ts

    by : (b : Bool) → is_same_vector t of ≡ b → (Has ts of → rest < length ts) → (of ≡ t) ⊎ Has ts of →
        cond (not b) (1 + rest) 0 < suc (length ts)
    by true same f k = omega arith
    by false same f (inl is) =
        let other : is_same_vector t t ≡ false = subst (λ u. is_same_vector t u ≡ false) is same in
        never (sym other ∙ vector_same t)
    by false same f (inr k) = let below = f k in omega arith

-- ---- one type more

type_kept : (types : Types) (of x : VectorType) → Has types x → Has (with_type types of) x
type_kept types of x h = by (has_type types of)
  where
    by : (b : Bool) → Has (if b then types else types ++ of ∷ []) x
    by true = h
    by false = has_front x types (of ∷ []) h

type_there : (types : Types) (of : VectorType) → Has (with_type types of) of
type_there types of = by (has_type types of) refl
  where
    by : (b : Bool) → has_type types of ≡ b → Has (if b then types else types ++ of ∷ []) of
    by true e = found types of e
    by false e = has_back of types (of ∷ []) (has_first of [])

made_kept : (types : Types) (made : Option VectorType) (x : VectorType) → Has types x → Has (with_made types made) x
made_kept types None x h = h
made_kept types (Some of) x h = type_kept types of x h

made_there : (types : Types) (made : Option VectorType) (x : VectorType) → made ≡ Some x → Has (with_made types made) x
made_there types None x e = cc
made_there types (Some of) x e = let is : of ≡ x = cc in subst (λ u. Has (with_type types of) u) is (type_there types of)

-- ---- those of lines and of operations

lines_kept : (types : Types) (lines : List Line) (x : VectorType) → Has types x → Has (with_lines types lines) x
lines_kept types [] x h = h
lines_kept types (line ∷ rest) x h = lines_kept (with_made types (made_on line)) rest x (made_kept types (made_on line) x h)

lines_there : (types : Types) (lines : List Line) (i : ℕ) (line : Line) (x : VectorType) → slice_get lines i ≡ Some line →
    made_on line ≡ Some x → Has (with_lines types lines) x
lines_there types [] i line x e made = cc
lines_there types (l ∷ rest) zero line x e made =
    let same : l ≡ line = cc in
    lines_kept (with_made types (made_on l)) rest x (made_there types (made_on l) x (ap made_on same ∙ made))
lines_there types (l ∷ rest) (suc i) line x e made = lines_there (with_made types (made_on l)) rest i line x e made

operations_kept : (types : Types) (os : List Operation) (x : VectorType) → Has types x → Has (with_operations types os) x
operations_kept types [] x h = h
operations_kept types (o ∷ os) x h = operations_kept (with_lines types o.code) os x (lines_kept types o.code x h)

operations_there : (types : Types) (os : List Operation) (n : ℕ) (o : Operation) (i : ℕ) (line : Line) (x : VectorType) →
    slice_get os n ≡ Some o → slice_get o.code i ≡ Some line → made_on line ≡ Some x → Has (with_operations types os) x
operations_there types [] n o i line x e at made = cc
operations_there types (q ∷ os) zero o i line x e at made =
    let same : o ≡ q = cc in
    operations_kept (with_lines types q.code) os x
    (lines_there types q.code i line x (subst (λ (u : Operation). slice_get u.code i ≡ Some line) same at) made)
operations_there types (q ∷ os) (suc n) o i line x e at made = operations_there (with_lines types q.code) os n o i line x e at made

-- the type that a line of the code makes is among the program's
pub type_of_line : (p : Parts) (n : ℕ) (o : Operation) (i : ℕ) (line : Line) (x : VectorType) → slice_get p.operations n ≡ Some o →
    slice_get o.code i ≡ Some line → made_on line ≡ Some x → Has (vector_types p) x
type_of_line p n o i line x e at made = operations_there [] p.operations n o i line x e at made

-- ---- each once

tail_once : (x : VectorType) (xs : Types) → Distinct (x ∷ xs) → Distinct xs
tail_once x xs once =
    record { once = λ i j y e f. let same : suc i ≡ suc j = once.once (suc i) (suc j) y e f in omega (arith, same) }

with_first : (x : VectorType) (rest : Types) → (Has rest x → ⊥) → Distinct rest → Distinct (x ∷ rest)
with_first x rest absent once = record { once = part }
  where
    no : (i : ℕ) (y : VectorType) → Some x ≡ Some y → slice_get rest i ≡ Some y → ⊥
    no i y e f = absent (record { at = i; is = f ∙ sym e })

    part : (i j : ℕ) (y : VectorType) → slice_get (x ∷ rest) i ≡ Some y → slice_get (x ∷ rest) j ≡ Some y → i ≡ j
    part zero zero y e f = refl
    part zero (suc j) y e f = absurd (no j y e f)
    part (suc i) zero y e f = absurd (no i y f e)
    part (suc i) (suc j) y e f = ap suc (once.once i j y e f)

first_absent : (x : VectorType) (xs : Types) → Distinct (x ∷ xs) → Has xs x → ⊥
first_absent x xs once h = let same : zero ≡ suc h.at = once.once zero (suc h.at) x refl h.is in absurd cc

push_once : (xs : Types) (x : VectorType) → Distinct xs → (Has xs x → ⊥) → Distinct (xs ++ x ∷ [])
push_once [] x once absent = with_first x [] (has_none x) once
push_once (y ∷ ys) x once absent =
    with_first y (ys ++ x ∷ []) apart (push_once ys x (tail_once y ys once) (λ h. absent (has_later y x ys h)))
  where
    apart : Has (ys ++ x ∷ []) y → ⊥
    apart h = ⊎_elim
        (λ (k : Has ys y). first_absent y ys once k)
        (λ (k : Has (x ∷ []) y). absent (subst (λ u. Has (y ∷ ys) u) (has_one x y k) (has_first y ys)))
        (has_either y ys (x ∷ []) h)

type_once : (types : Types) (of : VectorType) → Distinct types → Distinct (with_type types of)
type_once types of once = by (has_type types of) refl
  where
    by : (b : Bool) → has_type types of ≡ b → Distinct (if b then types else types ++ of ∷ [])
    by true e = once
    by false e = push_once types of once (missing types of e)

made_once : (types : Types) (made : Option VectorType) → Distinct types → Distinct (with_made types made)
made_once types None once = once
made_once types (Some of) once = type_once types of once

lines_once : (types : Types) (lines : List Line) → Distinct types → Distinct (with_lines types lines)
lines_once types [] once = once
lines_once types (line ∷ rest) once = lines_once (with_made types (made_on line)) rest (made_once types (made_on line) once)

operations_once : (types : Types) (os : List Operation) → Distinct types → Distinct (with_operations types os)
operations_once types [] once = once
operations_once types (o ∷ os) once = operations_once (with_lines types o.code) os (lines_once types o.code once)

list_once : (types list : Types) → Distinct types → Distinct (with_types types list)
list_once types [] once = once
list_once types (of ∷ rest) once = list_once (with_type types of) rest (type_once types of once)

none_once : Distinct {A = VectorType} []
none_once = record { once = λ i j x e f. absurd cc }

-- those that are written, and those of some operations
pub all_once : (written : Types) (os : List Operation) → Distinct (with_operations (each_once written) os)
all_once written os = operations_once (each_once written) os (list_once [] written none_once)

pub types_once : (p : Parts) (written : Types) → Distinct (numbered_types p written)
types_once p written = all_once written p.operations

-- ---- the written ones first

-- some types begin with others
record Begins (types more : Types) : Type 0 where
  rest : Types
  are : more ≡ types ++ rest

begins_so : (types more : Types) → more ≡ types → Begins types more
begins_so types more same = record { rest = []; are = same ∙ sym (append-nil types) }

begins_on : (a b c : Types) → Begins a b → Begins b c → Begins a c
begins_on a b c f g = record { rest = f.rest ++ g.rest; are = g.are ∙ (ap (λ x. x ++ g.rest) f.are ∙ append_assoc a f.rest g.rest) }

type_begins : (types : Types) (of : VectorType) → Begins types (with_type types of)
type_begins types of = by (has_type types of)
  where
    by : (b : Bool) → Begins types (if b then types else types ++ of ∷ [])
    by true = begins_so types types refl
    by false = record { rest = of ∷ []; are = refl }

made_begins : (types : Types) (made : Option VectorType) → Begins types (with_made types made)
made_begins types None = begins_so types types refl
made_begins types (Some of) = type_begins types of

lines_begin : (types : Types) (lines : List Line) → Begins types (with_lines types lines)
lines_begin types [] = begins_so types types refl
lines_begin types (line ∷ rest) =
    let more = with_made types (made_on line) in
    begins_on types more (with_lines more rest) (made_begins types (made_on line)) (lines_begin more rest)

operations_begin : (types : Types) (os : List Operation) → Begins types (with_operations types os)
operations_begin types [] = begins_so types types refl
operations_begin types (o ∷ os) =
    let more = with_lines types o.code in
    begins_on types more (with_operations more os) (lines_begin types o.code) (operations_begin more os)

pub written_first : (p : Parts) (written : Types) → ComeFirst p written
written_first p written =
    let found = operations_begin (each_once written) p.operations in record { rest = found.rest; are = found.are }

-- ---- none but the written ones

type_same : (types : Types) (of : VectorType) → Has types of → with_type types of ≡ types
type_same types of h = by (has_type types of) refl
  where
    by : (b : Bool) → has_type types of ≡ b → (if b then types else types ++ of ∷ []) ≡ types
    by true e = refl
    by false e = absurd (missing types of e h)

made_same : (types : Types) (made : Option VectorType) → ((x : VectorType) → made ≡ Some x → Has types x) → with_made types made ≡ types
made_same types None among = refl
made_same types (Some of) among = type_same types of (among of refl)

lines_same : (types : Types) (lines : List Line) →
    ((i : ℕ) (line : Line) (x : VectorType) → slice_get lines i ≡ Some line → made_on line ≡ Some x → Has types x) →
    with_lines types lines ≡ types
lines_same types [] among = refl
lines_same types (line ∷ rest) among =
    let same = made_same types (made_on line) (λ x made. among zero line x refl made) in
    ap (λ m. with_lines m rest) same ∙ lines_same types rest (λ i l x e made. among (suc i) l x e made)

operations_same : (types : Types) (os : List Operation) →
    ((n : ℕ) (o : Operation) (i : ℕ) (line : Line) (x : VectorType) → slice_get os n ≡ Some o → slice_get o.code i ≡ Some line →
    made_on line ≡ Some x → Has types x) → with_operations types os ≡ types
operations_same types [] among = refl
operations_same types (o ∷ os) among =
    let same = lines_same types o.code (λ i l x e made. among zero o i l x refl e made) in
    ap (λ m. with_operations m os) same ∙ operations_same types os (λ n q i l x e at made. among (suc n) q i l x e at made)

list_kept : (types list : Types) (x : VectorType) → Has types x → Has (with_types types list) x
list_kept types [] x h = h
list_kept types (of ∷ rest) x h = list_kept (with_type types of) rest x (type_kept types of x h)

list_there : (types list : Types) (x : VectorType) → Has list x → Has (with_types types list) x
list_there types [] x h = absurd (has_none x h)
list_there types (of ∷ rest) x h = ⊎_elim
    (λ (is : x ≡ of). list_kept (with_type types of) rest x (subst (λ u. Has (with_type types of) u) (sym is) (type_there types of)))
    (λ (k : Has rest x). list_there (with_type types of) rest x k)
    (has_parts of x rest h)

pub none_but : (p : Parts) (written : Types) → ((of : VectorType) → Has (vector_types p) of → Has written of) →
    numbered_types p written ≡ each_once written
none_but p written all =
    operations_same (each_once written) p.operations
    (λ n o i line x e at made. list_there [] written x (all x (type_of_line p n o i line x e at made)))

-- ---- those that the code makes are numbered

-- each of some types is among more
abbrev Within : Types → Types → Type 0
Within types more = (y : VectorType) → Has types y → Has more y

type_either : (types : Types) (of x : VectorType) → Has (with_type types of) x → Has types x ⊎ (x ≡ of)
type_either types of x = by (has_type types of)
  where
    by : (b : Bool) → Has (if b then types else types ++ of ∷ []) x → Has types x ⊎ (x ≡ of)
    by true h = inl h
    by false h = ⊎_elim (λ (k : Has types x). inl k) (λ (k : Has (of ∷ []) x). inr (has_one of x k)) (has_either x types (of ∷ []) h)

type_within : (types more : Types) (of : VectorType) → Within types more → Within (with_type types of) (with_type more of)
type_within types more of f x h = ⊎_elim
    (λ (k : Has types x). type_kept more of x (f x k))
    (λ (is : x ≡ of). subst (λ u. Has (with_type more of) u) (sym is) (type_there more of))
    (type_either types of x h)

made_within : (types more : Types) (made : Option VectorType) → Within types more → Within (with_made types made) (with_made more made)
made_within types more None f = f
made_within types more (Some of) f = type_within types more of f

lines_within : (types more : Types) (lines : List Line) → Within types more → Within (with_lines types lines) (with_lines more lines)
lines_within types more [] f = f
lines_within types more (line ∷ rest) f =
    lines_within (with_made types (made_on line)) (with_made more (made_on line)) rest (made_within types more (made_on line) f)

operations_within : (types more : Types) (os : List Operation) → Within types more →
    Within (with_operations types os) (with_operations more os)
operations_within types more [] f = f
operations_within types more (o ∷ os) f =
    operations_within (with_lines types o.code) (with_lines more o.code) os (lines_within types more o.code f)

pub made_numbered : (p : Parts) (written : Types) (of : VectorType) → Has (vector_types p) of → Has (numbered_types p written) of
made_numbered p written of h =
    operations_within [] (each_once written) p.operations (λ y k. absurd (has_none y k)) of h
