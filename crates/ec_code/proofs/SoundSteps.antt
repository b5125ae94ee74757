-- Silent steps keep what is live, own fields and all else of their types, up to the next stop, which they reach.
use Rattle.std.proofs.Common.{◌≡◌, ◌≢◌, ℕ, zero, suc, ◌<◌, ◌-◌, ◌⊎◌, inl, inr, Bool, true, false, List, [], ◌∷◌, length, drop, Option, Some}
use Rattle.std.proofs.Common.{None}
use Rattle.std.proofs.Common.{refl, sym, ◌∙◌, ap, subst, arith}
use Rattle.std.specs.Prelude.{slice_get, slice_set, option_map, not}
use Rattle.ec_code.specs.Activations.{Arrived, arrived, walk_by, walk}
use Rattle.ec_code.specs.declared.code.Arithmetic.{Arithmetic}
use Rattle.ec_code.specs.declared.code.Line.{Line}
use Rattle.ec_code.specs.declared.code.Live.{Live}
use Rattle.ec_code.specs.declared.code.Op.{Op}
use Rattle.ec_code.specs.declared.code.Op.TheVariants as op
use Rattle.ec_code.specs.declared.code.Operand.{Operand}
use Rattle.ec_code.specs.declared.code.Operation.{Operation}
use Rattle.ec_code.specs.declared.code.Parts.{Parts}
use Rattle.ec_code.specs.declared.code.StopRow.{StopRow}
use Rattle.ec_code.specs.declared.code.Test.{Test}
use Rattle.ec_code.specs.declared.code.Variable.{Variable}
use Rattle.ec_code.specs.declared.code.Variable.TheVariants.{Named, Temporary}
use Rattle.ec_code.specs.Fine.{EachLeadsOn, Fine, FineCode, FineOp, FineOperation, FineRow, FineTest, FineTop, GoesOn as IfGoesOn, Has}
use Rattle.ec_code.specs.Fine.{Behind, FineNumbers, FineOperand, HaveTypes, IsGiven, IsTaken, LeadsOn, Passes, Tells, Writes, divisor_at}
use Rattle.ec_code.specs.Fine.{divisor_in}
use Rattle.ec_code.specs.Fine.{divisor_of, live_at}
use Rattle.ec_code.specs.Steps.{Machine, Done, Goes, Rests, Loops, NoCase, act, as_wanted, decides, gives, own_field, passes, field_in}
use Rattle.ec_code.specs.Steps.{rests}
use Rattle.ec_code.specs.Steps.{stores, tested, variable_at, variables_at, with_field, with_itself, with_variable, on_two, on_numbers}
use Rattle.ec_code.specs.Steps.{computed, operand_at}
use Rattle.ec_code.specs.Typing.{Declared, boolean, class_type, field_types, integer, string}
use Rattle.ec_types.specs.declared.conform.static_type.StaticType.{StaticType}
use Rattle.ec_types.specs.Fits.{Fits}
use Rattle.ec_world.specs.Same.{is_same_truth}
use Rattle.ec_world.specs.Agree.{AllTwo}
use Rattle.ec_world.specs.Objects.{object_at, changed_object}
use Rattle.ec_world.specs.Outcomes.{with_element}
use Rattle.ec_world.specs.declared.class.ClassNo.{ClassNo}
use Rattle.ec_world.specs.declared.class.ClassNo.TheVariants.{Node, Program, Made, Vector}
use Rattle.ec_world.specs.declared.common.Common.{Common}
use Rattle.ec_world.specs.declared.object.ObjectRec.{ObjectRec}
use Rattle.ec_world.specs.declared.stop.Stop.{Stop}
use Rattle.ec_world.specs.declared.stop.Stop.TheVariants as stop
use Rattle.ec_world.specs.declared.value.Value.{Value}
use Rattle.ec_world.specs.declared.value.Value.TheVariants.{Int, Str, Ref, Bool as Truth}
use Rattle.ec_code.proofs.Held.{all_held, none_held}
use Rattle.ec_code.specs.Sound.{CodeBehind, FineFields, FineObject, OperandsFit, SoundCommon}
use Rattle.ec_code.specs.SoundValues.{HasType, IsOfType, Later, class_in, held}
use Rattle.ec_code.proofs.Carried.{all_two_get, all_two_set, each_object, get_there, goes_on_more, later_changed, later_same, later_then}
use Rattle.ec_code.proofs.Carried.{read_later}
use Rattle.ec_code.proofs.Carried.{there, with_changed}
use Rattle.ec_code.proofs.Reading.{IsNotZero, IsThere, all_read, computed_of, held_other, held_same, machine_held, named_length}
use Rattle.ec_code.proofs.Reading.{operand_as}
use Rattle.ec_code.proofs.Reading.{set_named, set_temporary, tested_of, told}
use Rattle.ec_code.proofs.Typed.{fits_itself, of_int, of_object, of_text, of_truth, stands}

-- ---- lists

drop_next : {A : Type 0} (xs : List A) (n : ℕ) (x : A) (rest : List A) → drop n xs ≡ x ∷ rest → drop (suc n) xs ≡ rest
drop_next [] zero x rest e = cc
drop_next [] (suc n) x rest e = cc
drop_next (y ∷ ys) zero x rest e = let s : ys ≡ rest = cc in s
drop_next (y ∷ ys) (suc n) x rest e = drop_next ys n x rest e

drop_none : {A : Type 0} (xs : List A) (n : ℕ) → drop n xs ≡ [] → drop (suc n) xs ≡ []
drop_none [] zero e = refl
drop_none [] (suc n) e = refl
drop_none (y ∷ ys) zero e = cc
drop_none (y ∷ ys) (suc n) e = drop_none ys n e

get_drop : {A : Type 0} (xs : List A) (n : ℕ) (x : A) (rest : List A) → drop n xs ≡ x ∷ rest → slice_get xs n ≡ Some x
get_drop [] zero x rest e = cc
get_drop [] (suc n) x rest e = cc
get_drop (y ∷ ys) zero x rest e = let s : y ≡ x = cc in ap Some s
get_drop (y ∷ ys) (suc n) x rest e = get_drop ys n x rest e

get_beyond : {A : Type 0} (xs : List A) (n : ℕ) → drop n xs ≡ [] → slice_get xs n ≡ None
get_beyond [] zero e = refl
get_beyond [] (suc n) e = refl
get_beyond (y ∷ ys) zero e = cc
get_beyond (y ∷ ys) (suc n) e = get_beyond ys n e

-- two facts of what holds where code goes on behind a stop
pub goes_on_both : (d : Declared) (p : Parts) (number : ℕ) (o : Operation) (s : Stop) (T S : Type 0) → IfGoesOn d p number o s T
    → IfGoesOn d p number o s S → IfGoesOn d p number o s (T × S)
goes_on_both d p number o (stop.Return gives_self) T S h k = tt
goes_on_both d p number o stop.End T S h k = tt
goes_on_both d p number o (stop.Fail why line) T S h k = tt
goes_on_both d p number o s T S h k = (h, k)

module _ (d : Declared) (p : Parts) (fine : Fine d p) (number : ℕ) (o : Operation) (fine_o : FineOperation d p number o) where
  -- ---- the code from a place on

  pub record CodeFrom (place : ℕ) (code : List Line) : Type 0 where
    pub is : drop place o.code ≡ code
    pub typed : FineCode d p number o place code
    pub divisions : EachLeadsOn d p number o code
    pub named : (i n : ℕ) (t : StaticType) → Has (live_at code i) (Named n) t → n < length o.variables

  tail : (place : ℕ) (line : Line) (rest : List Line) → CodeFrom place (line ∷ rest) → CodeFrom (suc place) rest
  tail place line rest s = record {
    is = drop_next o.code place line rest s.is;
    typed = s.typed.1;
    divisions = s.divisions.1;
    named = λ i n t h. s.named (suc i) n t h;
  }

  code_next : (place : ℕ) (code : List Line) → drop place o.code ≡ code → CodeFrom place code
      → CodeFrom (suc place) (drop (suc place) o.code)
  code_next place [] e s =
      let none = drop_none o.code place e in
      subst (λ z. CodeFrom (suc place) z) (sym none)
      (record { is = none; typed = tt; divisions = tt; named = λ i n t h. absurd h })
  code_next place (line ∷ rest) e s =
      subst (λ z. CodeFrom (suc place) z) (sym (drop_next o.code place line rest e)) (tail place line rest s)

  pub code_from : (place : ℕ) → CodeFrom place (drop place o.code)
  code_from zero = record { is = refl; typed = fine_o.code; divisions = fine_o.divisions; named = fine_o.named }
  code_from (suc place) = code_next place (drop place o.code) refl (code_from place)

  -- a stop of the operation
  pub record RowAt (at : ℕ) (line : Line) (row : StopRow) : Type 0 where
    pub typed : FineRow d p number o (drop (suc at) o.code) line.live row
    pub no_division : IfGoesOn d p number o row.stop (divisor_at (drop (suc at) o.code) 0 ≡ None)

  row_by : (at : ℕ) (line : Line) (row : StopRow) → slice_get o.code at ≡ Some line → line.op ≡ op.Rest row → (code : List Line)
      → drop at o.code ≡ code → CodeFrom at code → RowAt at line row
  row_by at line row e k [] f s = let none = get_beyond o.code at f in cc
  row_by at line row e k (first ∷ rest) f s =
      let same : first ≡ line = (let g = get_drop o.code at first rest f in cc) in
      let here : rest ≡ drop (suc at) o.code = sym (drop_next o.code at first rest f) in
      let typed : FineOp d p number o at rest line.live line.op =
      subst (λ (z : Line). FineOp d p number o at rest z.live z.op) same s.typed.0 in
      let leads : LeadsOn d p number o rest line.op = subst (λ (z : Line). LeadsOn d p number o rest z.op) same s.divisions.0 in
      record {
        typed =
            subst (λ z. FineRow d p number o z line.live row) here
            (subst (λ z. FineOp d p number o at rest line.live z) k typed);
        no_division =
            subst (λ z. IfGoesOn d p number o row.stop (divisor_at z 0 ≡ None)) here (subst (λ z. LeadsOn d p number o rest z) k leads);
      }

  pub row_at : (at : ℕ) (line : Line) (row : StopRow) → slice_get o.code at ≡ Some line → line.op ≡ op.Rest row → RowAt at line row
  row_at at line row e k = row_by at line row e k (drop at o.code) refl (code_from at)

  -- the entry is no loop top
  behind_entry : (at : ℕ) (line : Line) (row : StopRow) → slice_get o.code at ≡ Some line → line.op ≡ op.Rest row
      → row.stop ≡ stop.LoopTop → 0 < at
  behind_entry (suc at) line row e k s = omega arith
  behind_entry zero line row e k s =
      let f = fine_o.entry in
      let same : f.line ≡ line = (let i = f.is in cc) in
      let rests : op.Rest f.row ≡ op.Rest row = sym f.rests ∙ ap (λ (z : Line). z.op) same ∙ k in
      let rows : f.row ≡ row = cc in
      let stops : stop.Entry ≡ stop.LoopTop = sym f.stop ∙ ap (λ (z : StopRow). z.stop) rows ∙ s in cc

  -- ---- where steps lead

  module _ (own : ℕ) where
    -- before a step: what is live is there and of its type, and what it divides by isn't 0
    pub record Going (m : Machine) (live : List Live) (by : Option Operand) : Type 0 where
      pub sound : SoundCommon d p m.common
      pub mine : class_in m.common.objects own ≡ Some o.class
      pub count : length m.variables ≡ length o.variables
      pub hold : (x : Variable) (t : StaticType) → Has live x t → IsOfType d m.common.objects t (variable_at m x)
      pub divides : IsNotZero m by

    pub record RestsWell (objects : List ObjectRec) (rest : List Line) (live : List Live) (x : Op) (row : StopRow) (operands : List Value)
        (variables temporaries : List Value) : Type 0 where
      pub is : x ≡ op.Rest row
      pub typed : FineRow d p number o rest live row
      pub operands_fit : OperandsFit d p objects row.on_itself own typed.types operands row.operands variables temporaries

    abbrev StepsWell : ℕ → List Line → List Live → Op → Machine → Done → Type 0
    StepsWell place rest live x m (Goes new over) =
        (over < length rest) × Later m.common.objects new.common.objects × Going new (live_at rest over) (divisor_at rest over)
    StepsWell place rest live x m (Rests row operands) =
        RestsWell m.common.objects rest live x row operands m.variables m.temporaries
    StepsWell place rest live x m (Loops back) = FineTop d p number o place back live
    StepsWell place rest live x m NoCase = ⊥

    module _ (place : ℕ) (line : Line) (rest : List Line) (code : CodeFrom place (line ∷ rest)) (m : Machine)
        (g : Going m line.live (divisor_of line.op)) (x : Op) where
      abbrev objects : List ObjectRec
      objects = m.common.objects

      abbrev Well : Done → Type 0
      Well = StepsWell place rest line.live x m

      -- ---- a variable is set

      is_there : (y : Variable) (t : StaticType) → Has (live_at rest 0) y t → IsThere (length m.variables) y
      is_there (Named n) t h = subst (λ k. n < k) (sym g.count) (code.named 1 n t h)
      is_there (Temporary k) t h = tt

      abbrev with_set : Variable → Value → Machine
      with_set to v = record { common = m.common; variables = set_named m.variables to v; temporaries = set_temporary m.temporaries to v }

      is_set : (to : Variable) (v : Value) → with_set to v ≡ with_variable m to v
      is_set (Named n) v = refl
      is_set (Temporary k) v = refl

      set_holds : (s : StaticType) (v : Value) (to : Variable) → HasType d objects s v → Writes d p rest to s line.live
          → (y : Variable) (t : StaticType)
          → Has (live_at rest 0) y t → IsOfType d objects t (variable_at (with_set to v) y)
      set_holds s v to h w y t i = by (w.1 y t i)
        where
          by : ((y ≡ to) × Fits d.types s t) ⊎ ((y ≢ to) × Has line.live y t) → IsOfType d objects t (variable_at (with_set to v) y)
          by (inl e) = record {
            value = v;
            is =
                machine_held (with_set to v) y
                ∙ ap (λ z. held (set_named m.variables to v) (set_temporary m.temporaries to v) z) e.0
                ∙ held_same m.variables m.temporaries to v (subst (λ z. IsThere (length m.variables) z) e.0 (is_there y t i));
            fits = stands d p fine objects s t v h e.1;
          }
          by (inr e) =
              let r = g.hold y t e.1 in
              record {
                value = r.value;
                is =
                    machine_held (with_set to v) y
                    ∙ held_other m.variables m.temporaries to y v r.value e.0 (sym (machine_held m y) ∙ r.is);
                fits = r.fits;
              }

      writes : (s : StaticType) (v : Value) (to : Variable) → HasType d objects s v → Writes d p rest to s line.live
          → divisor_at rest 0 ≡ None
          → Well (Goes (with_variable m to v) 0)
      writes s v to h w none =
          subst (λ z. Well (Goes z 0)) (is_set to v) (
            w.0,
            later_same objects,
            record {
              sound = g.sound;
              mine = g.mine;
              count = named_length m.variables to v ∙ g.count;
              hold = set_holds s v to h w;
              divides = subst (λ z. IsNotZero (with_set to v) z) (sym none) tt;
            },
          )

      writes_read : (s : StaticType) (read : Option Value) (to : Variable) → IsOfType d objects s read → Writes d p rest to s line.live
          → divisor_at rest 0 ≡ None → Well (gives m to read)
      writes_read s read to h w none =
          subst (λ z. Well (gives m to z)) (sym h.is) (writes s h.value to h.fits w none)

      -- ---- steps are passed over

      passing : (over : ℕ) → Passes d p rest over line.live → IsNotZero m (divisor_at rest over) → Well (Goes m over)
      passing over w z = (
        w.0,
        later_same objects,
        record { sound = g.sound; mine = g.mine; count = g.count; hold = λ y t i. g.hold y t (w.1 y t i); divides = z },
      )

      branches : (t : Test) (came_out wanted : Bool) (over : ℕ) → FineTest d p line.live t → tested m t ≡ Some came_out
          → Passes d p rest 0 line.live
          → Passes d p rest over line.live → Tells t (not wanted) (divisor_at rest 0) → Tells t wanted (divisor_at rest over)
          → Well (passes m over (Some (is_same_truth wanted came_out)))
      branches t true true over f e w u a b = passing over u (told d p fine objects m line.live g.hold t true f e (divisor_at rest over) b)
      branches t false true over f e w u a b = passing 0 w (told d p fine objects m line.live g.hold t false f e (divisor_at rest 0) a)
      branches t true false over f e w u a b = passing 0 w (told d p fine objects m line.live g.hold t true f e (divisor_at rest 0) a)
      branches t false false over f e w u a b = passing over u (told d p fine objects m line.live g.hold t false f e (divisor_at rest over)
          b)

      -- ---- fields of the own object

      field_get : (k : ClassNo) (fs : List Value) (n : ℕ) (s : StaticType) → FineFields d p objects k fs
          → slice_get (field_types d k) n ≡ Some s
          → IsOfType d objects s (slice_get fs n)
      field_get (Made k) fs n s h e =
          let r = all_two_get (HasType d objects) (field_types d (Made k)) fs n s h.1 e in
          record { value = r.item; is = r.is; fits = r.fits }
      field_get Node fs n s h e = cc
      field_get Program fs n s h e = cc
      field_get (Vector of) fs n s h e = cc

      own_read : (n : ℕ) (s : StaticType) → slice_get (field_types d o.class) n ≡ Some s → IsOfType d objects s (own_field m.common own n)
      own_read n s e =
          let r = there objects own o.class g.mine in
          let f = each_object (FineObject d p objects) objects own r.object g.sound.objects r.is in
          let h = field_get o.class r.object.fields n s (subst (λ k. FineFields d p objects k r.object.fields) r.class f) e in
          record { value = h.value; is = ap (λ z. field_in z n) r.is ∙ h.is; fits = h.fits }

      field_set : (k : ClassNo) (fs : List Value) (n : ℕ) (s : StaticType) (v : Value) → FineFields d p objects k fs
          → slice_get (field_types d k) n ≡ Some s → HasType d objects s v → FineFields d p objects k (slice_set fs n v)
      field_set (Made k) fs n s v h e f = (h.0, all_two_set (HasType d objects) (field_types d (Made k)) fs n s v h.1 e f)
      field_set Node fs n s v h e f = tt
      field_set Program fs n s v h e f = tt
      field_set (Vector of) fs n s v h e f = cc

      own_set : (n : ℕ) (t : StaticType) (v : Value) → slice_get (field_types d o.class) n ≡ Some t → HasType d objects t v
          → (r : ObjectRec)
          → object_at objects own ≡ Some r → FineObject d p objects (with_element n v r)
      own_set n t v e h r at =
          let q = there objects own o.class g.mine in
          let same : r ≡ q.object = (let i = q.is in cc) in
          let class : r.class ≡ o.class = ap (λ (z : ObjectRec). z.class) same ∙ q.class in
          subst (λ k. FineFields d p objects k (slice_set r.fields n v)) (sym class)
          (field_set o.class r.fields n t v
          (subst (λ k. FineFields d p objects k r.fields) class (each_object (FineObject d p objects) objects own r g.sound.objects at)) e
          h)

      stores_value : (n : ℕ) (t : StaticType) (v : Value) → slice_get (field_types d o.class) n ≡ Some t → HasType d objects t v
          → Passes d p rest 0 line.live → divisor_at rest 0 ≡ None → Well (Goes (record m { common = with_field m.common own n v }) 0)
      stores_value n t v e h w none =
          let later = later_changed objects own (with_element n v) (λ r. refl) in
          let new : Machine = record m { common = with_field m.common own n v } in (
            w.0,
            later,
            record {
              sound = with_changed d p m.common g.sound own (with_element n v) (λ r. refl) (own_set n t v e h);
              mine = later own o.class g.mine;
              count = g.count;
              hold = λ y u i.
                  let h = g.hold y u (w.1 y u i) in
                  let r = read_later d p objects (changed_object objects own (with_element n v)) later u (variable_at m y) h in
                  record { value = r.value; is = machine_held new y ∙ sym (machine_held m y) ∙ r.is; fits = r.fits };
              divides = subst (λ z. IsNotZero new z) (sym none) tt;
            },
          )

      -- ---- the step

      reads : (y : Operand) (t : StaticType) → FineOperand d p line.live y t → IsOfType d objects t (operand_at m y)
      reads y t f = operand_as d p fine objects m line.live g.hold y t f

      literal_sound : (to : Variable) (index : ℕ) → index < length p.literals → Writes d p rest to string line.live
          → divisor_at rest 0 ≡ None
          → Well (gives m to (option_map Str (slice_get p.literals index)))
      literal_sound to index l w none =
          let t = get_there p.literals index l in
          writes_read string (option_map Str (slice_get p.literals index)) to
          (record { value = Str t.item; is = ap (option_map Str) t.is; fits = of_text d objects t.item }) w none

      constant_read : (index : ℕ) (s : StaticType) → slice_get p.constants index ≡ Some s
          → IsOfType d objects s (slice_get m.common.globals index)
      constant_read index s e =
          let r = all_two_get (HasType d objects) p.constants m.common.globals index s g.sound.constants e in
          record { value = r.item; is = r.is; fits = r.fits }

      set_sound : (n : ℕ) (t : StaticType) (y : Operand) → slice_get (field_types d o.class) n ≡ Some t → FineOperand d p line.live y t
          → Passes d p rest 0 line.live → divisor_at rest 0 ≡ None → Well (stores m own n (operand_at m y))
      set_sound n t y e f w none =
          let r = reads y t f in
          subst (λ z. Well (stores m own n z)) (sym r.is) (stores_value n t r.value e r.fits w none)

      decide_sound : (to : Variable) (t : Test) (wanted : Bool) → FineTest d p line.live t → Writes d p rest to boolean line.live
          → divisor_at rest 0 ≡ None → Well (decides m to (as_wanted wanted (tested m t)))
      decide_sound to t wanted f w none =
          let r = tested_of d p fine objects m line.live g.hold t f in
          subst (λ z. Well (decides m to (as_wanted wanted z))) (sym r.is)
          (writes boolean (Truth (is_same_truth wanted r.came_out)) to (of_truth d objects (is_same_truth wanted r.came_out)) w none)

      branch_sound : (t : Test) (wanted : Bool) (over : ℕ) → FineTest d p line.live t → Passes d p rest 0 line.live
          → Passes d p rest over line.live
          → Tells t (not wanted) (divisor_at rest 0) → Tells t wanted (divisor_at rest over)
          → Well (passes m over (as_wanted wanted (tested m t)))
      branch_sound t wanted over f w u a b =
          let r = tested_of d p fine objects m line.live g.hold t f in
          subst (λ z. Well (passes m over (as_wanted wanted z))) (sym r.is) (branches t r.came_out wanted over f r.is w u a b)

      rest_sound : (row : StopRow) → x ≡ op.Rest row → FineRow d p number o rest line.live row
          → Well (rests row own (variables_at m row.operands))
      rest_sound row is f =
          let r = all_read d p fine objects m line.live g.hold row.operands f.types f.are in
          subst (λ z. Well (rests row own z)) (sym r.are)
          (record {
            is = is;
            typed = f;
            operands_fit = record { values = r.values; are = refl; those = all_held m row.operands r.values r.are; fit = r.fit };
          })

      compute_sound : (how : Arithmetic) (to : Variable) (left right : Operand) → FineNumbers d p line.live left right
          → Writes d p rest to integer line.live → IsNotZero m (divisor_in how right) → divisor_at rest 0 ≡ None
          → Well (gives m to (on_two (on_numbers (computed how)) (operand_at m left) (operand_at m right)))
      compute_sound how to left right f w n none =
          let r = computed_of d p fine objects m line.live g.hold how left right f n in
          writes_read integer (on_two (on_numbers (computed how)) (operand_at m left) (operand_at m right)) to
          (record { value = Int r.number; is = r.is; fits = of_int d objects r.number }) w none

      pub step_sound : (y : Op) → x ≡ y → FineOp d p number o place rest line.live y → LeadsOn d p number o rest y
          → IsNotZero m (divisor_of y)
          → Well (act p.literals own m y)
      step_sound (op.Copy to from) is f l n = writes_read f.0 (operand_at m from) to (reads from f.0 f.1) f.2 l
      step_sound (op.Literal to index) is f l n = literal_sound to index f.0 f.1 l
      step_sound (op.Itself to) is f l n =
          writes (class_type d o.class) (Ref own) to
          (of_object d objects own o.class (class_type d o.class) g.mine (fits_itself d p fine (class_type d o.class) f.0)) f.1 l
      step_sound (op.Field to k) is f l n = writes_read f.0 (own_field m.common own k) to (own_read k f.0 f.1) f.2 l
      step_sound (op.SetField k from) is f l n = set_sound k f.0.0 from f.0.1 f.0.2 f.1 l
      step_sound (op.Constant to index) is f l n = writes_read f.0 (slice_get m.common.globals index) to (constant_read index f.0 f.1) f.2 l
      step_sound (op.Compute how to left right) is f l n = compute_sound how to left right f.0 f.1 n l
      step_sound (op.Decide to t wanted) is f l n = decide_sound to t wanted f.0 f.1 l
      step_sound (op.Branch t wanted over) is f l n = branch_sound t wanted over f.0 f.1 f.2 l.0 l.1
      step_sound (op.Jump over) is f l n = passing over f (subst (λ z. IsNotZero m z) (sym l) tt)
      step_sound (op.Again back) is f l n = f
      step_sound (op.Rest row) is f l n = rest_sound row is f

    -- ---- the stop that is reached

    -- what holds behind it
    pub record BehindArrived (objects : List ObjectRec) (r : Arrived) (given : Option StaticType) : Type 0 where
      pub behind : CodeBehind o r.place
      pub taken : IsTaken d p given r.into
      pub live :
          (x : Variable) (t : StaticType) → Has (live_at (drop (suc r.place) o.code) 0) x t →
          IsGiven d p given r.into x t ⊎ ((r.into ≢ Some x) × IsOfType d objects t (held r.variables r.temporaries x))

    pub record ArrivedWell (objects : List ObjectRec) (r : Arrived) : Type 0 where
      pub line : Line
      pub is_line : slice_get o.code r.place ≡ Some line
      pub row : StopRow
      pub is_row : line.op ≡ op.Rest row
      pub typed : FineRow d p number o (drop (suc r.place) o.code) line.live row
      pub stop : r.action ≡ row.stop
      pub operands : OperandsFit d p objects row.on_itself own typed.types r.operands row.operands r.variables r.temporaries
      pub into : r.into ≡ row.into
      pub positive : 0 < r.place
      pub count : length r.variables ≡ length o.variables
      pub behind : IfGoesOn d p number o row.stop (BehindArrived objects r row.gives)

    abbrev pub WalkEnds : Common → Common × Option Arrived → Type 0
    WalkEnds c (e, None) = ⊥
    WalkEnds c (e, Some r) = Later c.objects e.objects × SoundCommon d p e × ArrivedWell e.objects r

    behind_given : (objects : List ObjectRec) (m : Machine) (live : List Live)
        → ((x : Variable) (t : StaticType) → Has live x t → IsOfType d objects t (variable_at m x))
        → (place : ℕ) (action : Stop) (operands : List Value) (into : Option Variable) (given : Option StaticType)
        → (IsTaken d p given into × Behind d p (drop (suc place) o.code) given into live) × (divisor_at (drop (suc place) o.code) 0 ≡ None)
        → BehindArrived objects (arrived m action operands into place) given
    behind_given objects m live hold place action operands into given b =
        record { behind = record { code = b.0.1.0; no_division = b.1 }; taken = b.0.0; live = λ x t i. by x t (b.0.1.1 x t i) }
      where
        by : (x : Variable) (t : StaticType) → IsGiven d p given into x t ⊎ ((into ≢ Some x) × Has live x t)
            → IsGiven d p given into x t ⊎ ((into ≢ Some x) × IsOfType d objects t (held m.variables m.temporaries x))
        by x t (inl e) = inl e
        by x t (inr e) =
            let r = hold x t e.1 in
            inr (e.0, record { value = r.value; is = sym (machine_held m x) ∙ r.is; fits = r.fits })

    -- at a stop in the code
    arrives_here : (place : ℕ) (line : Line) (rest : List Line) → CodeFrom place (line ∷ rest) → 0 < place → (m : Machine)
        → Going m line.live (divisor_of line.op) → (row : StopRow) (operands : List Value)
        → RestsWell m.common.objects rest line.live line.op row operands m.variables m.temporaries
        → ArrivedWell m.common.objects (arrived m row.stop operands row.into place)
    arrives_here place line rest code positive m g row operands h =
        let objects : List ObjectRec = m.common.objects in
        let behind : List Line = drop (suc place) o.code in
        let is_line : slice_get o.code place ≡ Some line = get_drop o.code place line rest code.is in
        let here : rest ≡ behind = sym (drop_next o.code place line rest code.is) in
        let r : RestsWell objects behind line.live line.op row operands m.variables m.temporaries =
        subst (λ z. RestsWell objects z line.live line.op row operands m.variables m.temporaries) here h in
        let given : Option StaticType = row.gives in
        let at = row_at place line row is_line r.is in
        let Known : Type 0 = IsTaken d p given row.into × Behind d p behind given row.into line.live in
        record {
          line = line;
          is_line = is_line;
          row = row;
          is_row = r.is;
          typed = r.typed;
          stop = refl;
          operands = r.operands_fit;
          into = refl;
          positive = positive;
          count = g.count;
          behind =
              goes_on_more d p number o row.stop (Known × (divisor_at behind 0 ≡ None))
              (BehindArrived objects (arrived m row.stop operands row.into place) given)
              (behind_given objects m line.live g.hold place row.stop operands row.into given)
              (goes_on_both d p number o row.stop Known (divisor_at behind 0 ≡ None) r.typed.behind at.no_division);
        }

    pub no_operands : (objects : List ObjectRec) (live : List Live) (xs : List Variable) (ts : List StaticType) → xs ≡ []
        → HaveTypes d p live xs ts
        → AllTwo (HasType d objects) ts []
    no_operands objects live [] [] e h = tt
    no_operands objects live [] (t ∷ ts) e h = absurd h
    no_operands objects live (x ∷ xs) ts e h = cc

    -- at the top of the loop
    arrives_back : (place back : ℕ) (live : List Live) (m : Machine) (by : Option Operand) → Going m live by
        → FineTop d p number o place back live
        → ArrivedWell m.common.objects (arrived m stop.LoopTop [] None (place - back))
    arrives_back place back live m by g top =
        let objects : List ObjectRec = m.common.objects in
        let top_place : ℕ = place - back in
        let behind : List Line = drop (suc top_place) o.code in
        let at = row_at top_place top.line top.row top.is top.rests in
        let given : Option StaticType = top.row.gives in
        let Known : Type 0 = IsTaken d p given top.row.into × Behind d p behind given top.row.into top.line.live in
        let r : Arrived = arrived m stop.LoopTop [] None top_place in
        record {
          line = top.line;
          is_line = top.is;
          row = top.row;
          is_row = top.rests;
          typed = at.typed;
          stop = sym top.stop;
          operands = record {
            values = [];
            are = ap (λ b. with_itself b own []) (sym top.on_itself);
            those = none_held m.variables m.temporaries top.row.operands top.operands;
            fit = no_operands objects top.line.live top.row.operands at.typed.types top.operands at.typed.are;
          };
          into = sym top.into;
          positive = behind_entry top_place top.line top.row top.is top.rests top.stop;
          count = g.count;
          behind =
              goes_on_more d p number o top.row.stop (Known × (divisor_at behind 0 ≡ None)) (BehindArrived objects r given)
              (λ b. record {
                behind = record { code = b.0.1.0; no_division = b.1 };
                taken = subst (λ z. IsTaken d p given z) top.into b.0.0;
                live = λ x t i.
                    let h = g.hold x t (top.live_there x t i) in
                    inr ((λ e. cc), record { value = h.value; is = sym (machine_held m x) ∙ h.is; fits = h.fits });
              })
              (goes_on_both d p number o top.row.stop Known (divisor_at behind 0 ≡ None) at.typed.behind at.no_division);
        }

    -- ---- up to the stop

    goes_then : (c : Common) (e : Common) → Later c.objects e.objects → (r : Common × Option Arrived) → WalkEnds e r → WalkEnds c r
    goes_then c e later (new, None) k = k
    goes_then c e later (new, Some r) k = (later_then c.objects e.objects new.objects later k.0, k.1, k.2)

    stepped : (place : ℕ) (line : Line) (rest : List Line) → CodeFrom place (line ∷ rest) → 0 < place → (m : Machine)
        → Going m line.live (divisor_of line.op) → (done : Done) → StepsWell place rest line.live line.op m done
        → ((over : ℕ) → over < length rest → (new : Machine) → Going new (live_at rest over) (divisor_at rest over)
        → WalkEnds new.common (walk p.literals own (suc place) rest over new))
        → WalkEnds m.common (walk_by place (walk p.literals own (suc place) rest) m done)
    stepped place line rest code positive m g (Goes new over) h more =
        goes_then m.common new.common h.1 (walk p.literals own (suc place) rest over new) (more over h.0 new h.2)
    stepped place line rest code positive m g (Rests row operands) h more =
        (later_same m.common.objects, g.sound, arrives_here place line rest code positive m g row operands h)
    stepped place line rest code positive m g (Loops back) h more =
        (later_same m.common.objects, g.sound, arrives_back place back line.live m (divisor_of line.op) g h)
    stepped place line rest code positive m g NoCase h more = absurd h

    pub walk_sound : (code : List Line) (place : ℕ) → CodeFrom place code → 0 < place → (over : ℕ) → over < length code → (m : Machine)
        → Going m (live_at code over) (divisor_at code over) → WalkEnds m.common (walk p.literals own place code over m)
    walk_sound [] place code positive over l m g = absurd (omega arith)
    walk_sound (line ∷ rest) place code positive (suc over) l m g =
        walk_sound rest (suc place) (tail place line rest code) (omega arith) over (omega arith) m g
    walk_sound (line ∷ rest) place code positive zero l m g =
        stepped place line rest code positive m g (act p.literals own m line.op)
        (step_sound place line rest code m g line.op line.op refl code.typed.0 code.divisions.0 g.divides)
        (λ over k new h. walk_sound rest (suc place) (tail place line rest code) (omega arith) over k new h)
