-- In the frame of each activation of a well typed program each value has a word, and values that have one word are one.
use Rattle.std.proofs.Common.{◌≡◌, ◌≢◌, ℕ, zero, suc, ◌≤◌, ◌⊎◌, inl, inr, ⊎_elim, Bool, true, false, List, [], ◌∷◌, ◌++◌, drop, length, map}
use Rattle.std.proofs.Common.{Option, Some, None, refl, sym, ap, ◌∙◌, subst}
use Rattle.std.specs.Option.{option_map}
use Rattle.std.specs.Prelude.{if◌then◌else◌, slice_get}
use Rattle.std.proofs.lemmas.Option.{same_Some}
use Rattle.ec_activations.proofs.Meeting.{live_meet, live_there, meets_result, operand_is_live, result_meets, writes_into}
use Rattle.ec_activations.proofs.Stops.{StandsThere, each_of, stands_there}
use Rattle.ec_activations.proofs.Words.{has_word, held_is, in_typed, one_value_here, result_variable}
use Rattle.ec_activations.specs.Frames.{Held, Numbered, at_place, entries_if, held_at, held_if, held_in, held_of, result_in, value_in}
use Rattle.ec_activations.specs.Frames.{variable_word}
use Rattle.ec_code.specs.Activations.{operation_at, variables_if}
use Rattle.ec_code.specs.Fine.{Fine, IsIn}
use Rattle.ec_code.specs.Typing.{Declared}
use Rattle.ec_code.specs.declared.activation.CodeActivation.{CodeActivation}
use Rattle.ec_code.specs.declared.code.Live.{Live}
use Rattle.ec_code.specs.declared.code.Operation.{Operation}
use Rattle.ec_code.specs.declared.code.Parts.{Parts}
use Rattle.ec_code.specs.declared.code.Variable.{Variable}
use Rattle.ec_machine_code.specs.Limits.{HasColumn, HasLimits, IsSmallOperation}
use Rattle.ec_machine_code.specs.Frames.{home_word, slots}
use Rattle.ec_machine_code.specs.Stops.{live_list, row_or_empty}
use Rattle.ec_machine_code.specs.Homes.{column}
use Rattle.ec_machine_code.specs.Meeting.{Meet, live_first, live_in}
use Rattle.ec_machine_code.specs.declared.homes.Home.{Home}
use Rattle.ec_generate.proofs.Listing.{all_at}
use Rattle.ec_generate.specs.Entries.{entries_of, result_of, typed}
use Rattle.ec_generate.specs.Tables.{AreTablesOf, IsTableOf, all_homes}
use Rattle.ec_generate.specs.declared.table.OperationTable.{OperationTable}
use Rattle.ec_generate.specs.declared.table.StopEntry.{StopEntry}
use Rattle.ec_world.specs.Agree.{AllTwo}

pub all_two_at : {A B : Type 0} (R : A → B → Type 0) (xs : List A) (ys : List B) (i : ℕ) (x : A) → AllTwo R xs ys → slice_get xs i ≡ Some x →
    (y : B) × (slice_get ys i ≡ Some y) × R x y
all_two_at R [] ys i x all e = absurd cc
all_two_at R (z ∷ xs) [] i x all e = absurd all
all_two_at R (z ∷ xs) (y ∷ ys) zero x all e = (y, refl, subst (λ w. R w y) (same_Some z x e) all.0)
all_two_at R (z ∷ xs) (y ∷ ys) (suc i) x all e = all_two_at R xs ys i x all.1 e

get_homes : (ts : List OperationTable) (i : ℕ) (t : OperationTable) → slice_get ts i ≡ Some t →
    slice_get (all_homes ts) i ≡ Some t.homes
get_homes [] i t e = absurd cc
get_homes (u ∷ ts) zero t e = ap (λ (x : OperationTable). Some x.homes) (same_Some u t e)
get_homes (u ∷ ts) (suc i) t e = get_homes ts i t e

-- What an activation holds: variables that meet, each with a column, and their values.
pub record HeldApart (p : Parts) (o : Operation) (a : CodeActivation) (hs : List Held) : Type 1 where
  pub S : Variable → Type 0
  pub columns : (x : Variable) → S x → HasColumn (length o.variables) x
  pub meet : (x y : Variable) → S x → S y → x ≢ y → Meet o.code x y
  pub each : (i : ℕ) (h : Held) → slice_get hs i ≡ Some h → (h.value ≡ value_in p a h.variable) × S h.variable

module _ (d : Declared) (p : Parts) (fine : Fine d p) (limits : HasLimits p) (a : CodeActivation) (o : Operation)
    (is : operation_at p a.operation ≡ Some o) where
  small : IsSmallOperation o
  small = all_at IsSmallOperation p.operations a.operation o limits.operations is

  module _ (e : StopEntry) (st : StandsThere o.code a.at e) where
    abbrev after : List Variable
    after = live_first (drop (suc a.at) o.code)

    operands_are : e.operands ≡ map (typed st.line.live) st.row.operands
    operands_are = ap (λ (x : StopEntry). x.operands) st.is

    live_are : e.live ≡ live_list o.code a.at st.row
    live_are = ap (λ (x : StopEntry). x.live) st.is

    result_is : e.result ≡ result_of st.row.into st.row.gives
    result_is = ap (λ (x : StopEntry). x.result) st.is

    there : (l : Live) → IsIn l e.live → IsIn l.variable (live_in st.line) × IsIn l.variable after
    there l h =
        live_there d p a.operation o (fine.operations a.operation o is) a.at st.line st.row st.is_line st.is_row l
        (subst (λ z. IsIn l z) live_are h)

    while_pending : HeldApart p o a (held_in p a e.operands ++ held_in p a e.live)
    while_pending = record {
      S = λ x. IsIn x (live_in st.line);
      columns = λ x h. (small.lines a.at st.line st.is_line).live x h;
      meet = λ x y h k ne.
          live_meet d p a.operation o (fine.operations a.operation o is) a.at st.line st.row st.is_line st.is_row x y h k ne;
      each = each_of (λ h. (h.value ≡ value_in p a h.variable) × IsIn h.variable (live_in st.line)) (held_in p a e.operands)
          (held_in p a e.live)
          (held_is p a e.operands (λ x. IsIn x (live_in st.line)) (λ l h.
          operand_is_live d p a.operation o (fine.operations a.operation o is) a.at st.line st.row st.is_line st.is_row l.variable
          (in_typed st.line.live st.row.operands l (subst (λ z. IsIn l z) operands_are h))))
          (held_is p a e.live (λ x. IsIn x (live_in st.line)) (λ l h. (there l h).0));
    }

    -- what the stop gave, or what is live behind it
    abbrev IsBehind : Variable → Type 0
    IsBehind x = (st.row.into ≡ Some x) ⊎ (IsIn x (live_in st.line) × IsIn x after)

    behind_column : (x : Variable) → IsBehind x → HasColumn (length o.variables) x
    behind_column x (inl h) =
        (small.lines a.at st.line st.is_line).written x
        (writes_into d p a.operation o (fine.operations a.operation o is) a.at st.line st.row st.is_line st.is_row ∙ h)
    behind_column x (inr h) = (small.lines a.at st.line st.is_line).live x h.0

    behind_meet : (x y : Variable) → IsBehind x → IsBehind y → x ≢ y → Meet o.code x y
    behind_meet x y (inl h) (inl k) ne = absurd (ne (same_Some x y (sym h ∙ k)))
    behind_meet x y (inl h) (inr k) ne =
        result_meets d p a.operation o (fine.operations a.operation o is) a.at st.line st.row st.is_line st.is_row x y h k.1 ne
    behind_meet x y (inr h) (inl k) ne =
        meets_result d p a.operation o (fine.operations a.operation o is) a.at st.line st.row st.is_line st.is_row y x k h.1 ne
    behind_meet x y (inr h) (inr k) ne =
        live_meet d p a.operation o (fine.operations a.operation o is) a.at st.line st.row st.is_line st.is_row x y h.0 k.0 ne

    result_held : (r : Option Live) (into : Option Variable) → e.result ≡ r → (i : ℕ) (h : Held) →
        slice_get (result_in p a r into) i ≡ Some h → (h.value ≡ value_in p a h.variable) × IsBehind h.variable
    result_held None into f i h g = absurd cc
    result_held (Some l) (Some x) f i h g = absurd cc
    result_held (Some l) None f i h g =
        held_is p a (l ∷ []) IsBehind (λ m q. ⊎_elim
        (λ (same : m ≡ l). inl (result_variable st.row.into st.row.gives m (sym result_is ∙ f ∙ ap Some (sym same))))
        (λ (none : ⊥). absurd none)
        q) i h g

    when_done : HeldApart p o a (result_in p a e.result a.into ++ held_in p a e.live)
    when_done = record {
      S = IsBehind;
      columns = behind_column;
      meet = behind_meet;
      each = each_of (λ h. (h.value ≡ value_in p a h.variable) × IsBehind h.variable) (result_in p a e.result a.into) (held_in p a e.live)
          (result_held e.result a.into refl) (held_is p a e.live IsBehind (λ l h. inr (there l h)));
    }

    held_apart : (b : Bool) → a.pending ≡ b → HeldApart p o a (held_at p a e)
    held_apart true f =
        subst (λ b. HeldApart p o a ((if b then held_in p a e.operands else result_in p a e.result a.into) ++ held_in p a e.live)) (sym f)
        while_pending
    held_apart false f =
        subst (λ b. HeldApart p o a ((if b then held_in p a e.operands else result_in p a e.result a.into) ++ held_in p a e.live)) (sym f)
        when_done

  -- the values that are held by what is known of the stop
  nothing_held : (i : ℕ) (h : Held) → slice_get (held_if p a None) i ≡ Some h → ⊥
  nothing_held i h e = cc

  held_here : (s : Option Numbered) → at_place a.at 0 (entries_of o.code) ≡ s → HeldApart p o a (held_if p a s)
  held_here None e = record {
    S = λ x. ⊥;
    columns = λ x h. absurd h;
    meet = λ x y h k ne. absurd h;
    each = λ i h f. absurd (nothing_held i h f);
  }
  held_here (Some s) e = held_apart s.entry (stands_there o.code a.at 0 0 o.code s refl e) a.pending refl

  same_held : held_of p a ≡ held_if p a (at_place a.at 0 (entries_of o.code))
  same_held = ap (λ x. held_if p a (at_place a.at 0 (entries_if x))) is

  pub apart_here : HeldApart p o a (held_of p a)
  apart_here = subst (HeldApart p o a) (sym same_held) (held_here (at_place a.at 0 (entries_of o.code)) refl)

  module _ (registers : ℕ) (few : registers ≤ 20) (ts : List OperationTable) (tables : AreTablesOf registers slots p ts)
      (homes : List (List Home)) (homes_are : homes ≡ all_homes ts) where
    abbrev table : OperationTable
    table = (all_two_at (IsTableOf registers slots) p.operations ts a.operation o tables is).0

    row_is : row_or_empty (slice_get homes a.operation) ≡ table.homes
    row_is =
        let t = all_two_at (IsTableOf registers slots) p.operations ts a.operation o tables is in
        ap row_or_empty (ap (λ (hs : List (List Home)). slice_get hs a.operation) homes_are ∙ get_homes ts a.operation t.0 t.1)

    named_is : length (variables_if (operation_at p a.operation)) ≡ table.named
    named_is =
        let t = all_two_at (IsTableOf registers slots) p.operations ts a.operation o tables is in
        ap (λ x. length (variables_if x)) is ∙ sym t.2.named

    word_is : (x : Variable) → variable_word homes p a.operation x ≡ option_map home_word (slice_get table.homes (column table.named x))
    word_is x =
        ap (λ (r : List Home). option_map home_word (slice_get r (column (length (variables_if (operation_at p a.operation))) x))) row_is
        ∙ ap (λ n. option_map home_word (slice_get table.homes (column n x))) named_is

    pub one_value : (i j at : ℕ) (h k : Held) → slice_get (held_of p a) i ≡ Some h → slice_get (held_of p a) j ≡ Some k →
        variable_word homes p a.operation h.variable ≡ Some at → variable_word homes p a.operation k.variable ≡ Some at →
        h.value ≡ k.value
    one_value i j at h k e f g q =
        let t = all_two_at (IsTableOf registers slots) p.operations ts a.operation o tables is in
        one_value_here p a t.0.named registers o.code t.0.homes t.2.homes few apart_here.S
        (λ x s. subst (λ n. HasColumn n x) (sym t.2.named) (apart_here.columns x s)) apart_here.meet h k at (apart_here.each i h e)
        (apart_here.each j k f) (sym (word_is h.variable) ∙ g) (sym (word_is k.variable) ∙ q)

    pub each_word : (i : ℕ) (h : Held) → slice_get (held_of p a) i ≡ Some h →
        (g : Home) × (variable_word homes p a.operation h.variable ≡ Some (home_word g))
    each_word i h e =
        let t = all_two_at (IsTableOf registers slots) p.operations ts a.operation o tables is in
        let w = has_word p a t.0.named registers o.code t.0.homes t.2.homes few apart_here.S
        (λ x s. subst (λ n. HasColumn n x) (sym t.2.named) (apart_here.columns x s)) apart_here.meet h (apart_here.each i h e) in
        (w.0, word_is h.variable ∙ w.1)
