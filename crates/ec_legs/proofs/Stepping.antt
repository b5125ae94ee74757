-- A sound activation whose action is done can step: what is live behind its stop has its value, and silent steps reach a stop.
use Rattle.std.proofs.Common.{◌≡◌, ℕ, zero, suc, true, false, List, [], ◌∷◌, drop, Option, Some, None, refl, sym, ap}
use Rattle.std.proofs.Common.{◌∙◌, subst, arith}
use Rattle.std.specs.Prelude.{IsSome, slice_get}
use Rattle.std.proofs.lemmas.Option.{same_Some}
use Rattle.ec_code.specs.Activations.{Arrived, code_if, machine_behind, walk}
use Rattle.ec_code.specs.Fine.{Fine, FineCode, FineOp, Has, live_at, live_if}
use Rattle.ec_code.specs.Steps.{Machine, field_in, own_field, variable_at}
use Rattle.ec_code.specs.Typing.{Declared, field_types}
use Rattle.ec_code.specs.declared.activation.CodeActivation.{CodeActivation}
use Rattle.ec_code.specs.declared.code.Line.{Line}
use Rattle.ec_code.specs.declared.code.Op.TheVariants as op
use Rattle.ec_code.specs.declared.code.Operand.{Operand}
use Rattle.ec_code.specs.declared.code.Operation.{Operation}
use Rattle.ec_code.specs.declared.code.Parts.{Parts}
use Rattle.ec_code.specs.declared.code.Variable.{Variable}
use Rattle.ec_code.specs.declared.code.Variable.TheVariants.{Named, Temporary}
use Rattle.ec_types.specs.declared.conform.static_type.StaticType.{StaticType}
use Rattle.ec_machine_code.specs.Standing.{FitsWord, HasWhatIsSet}
use Rattle.ec_machine_code.specs.Stops.{stop_in, stop_of}
use Rattle.ec_legs.proofs.Ranging.{variable_fits}
use Rattle.ec_legs.specs.Legs.{CanStep}
use Rattle.ec_code.specs.Live.{stays}
use Rattle.ec_code.specs.Worlds.{RangedActivation, RangedCommon}
use Rattle.ec_activations.proofs.Entries.{rests_at_an_entry}
use Rattle.ec_activations.specs.RestingLaws.{its_entry}
use Rattle.ec_code.proofs.Carried.{all_two_get, each_object}
use Rattle.ec_code.proofs.Carried as carried
use Rattle.ec_code.proofs.Silent.{reaches}
use Rattle.ec_code.specs.Sound.{FineFields, FineObject, SoundCommon, SoundDone, reached}
use Rattle.ec_code.specs.SoundValues.{HasType, held}
use Rattle.ec_world.specs.declared.class.ClassNo.{ClassNo}
use Rattle.ec_world.specs.declared.class.ClassNo.TheVariants.{Node, Program, Made, Vector}
use Rattle.ec_world.specs.declared.common.Common.{Common}
use Rattle.ec_world.specs.declared.object.ObjectRec.{ObjectRec}
use Rattle.ec_world.specs.declared.value.Value.{Value}

pub get_drop : {A : Type 0} (n : ℕ) (xs : List A) → slice_get (drop n xs) zero ≡ slice_get xs n
get_drop zero [] = refl
get_drop zero (x ∷ xs) = refl
get_drop (suc n) [] = refl
get_drop (suc n) (x ∷ xs) = get_drop n xs

some_second : {A B : Type 0} (x : A × Option B) → IsSome x.1 → (b : B) × (x ≡ (x.0, Some b))
some_second (a, None) h = absurd (let e = h in cc)
some_second (a, Some b) h = (b, refl)

machine_held : (m : Machine) (x : Variable) → variable_at m x ≡ held m.variables m.temporaries x
machine_held m (Named n) = refl
machine_held m (Temporary n) = refl

-- the step of a line
fine_at : (d : Declared) (p : Parts) (number : ℕ) (o : Operation) (place q : ℕ) (lines : List Line) (line : Line) →
    FineCode d p number o place lines → slice_get lines q ≡ Some line →
    (rest : List Line) × ((at : ℕ) × FineOp d p number o at rest line.live line.op)
fine_at d p number o place q [] line h e = cc
fine_at d p number o place zero (x ∷ xs) line h e =
    subst (λ (l : Line). (rest : List Line) × ((at : ℕ) × FineOp d p number o at rest l.live l.op)) (same_Some x line e)
    (xs, (place, h.0))
fine_at d p number o place (suc q) (x ∷ xs) line h e = fine_at d p number o (suc place) q xs line h.1 e

-- a field of a class is there
field_there : (d : Declared) (p : Parts) (objects : List ObjectRec) (class : ClassNo) (fields : List Value) (n : ℕ) (t : StaticType) →
    FineFields d p objects class fields → slice_get (field_types d class) n ≡ Some t → (v : Value) × (slice_get fields n ≡ Some v)
field_there d p objects (Made k) fields n t fine e =
    let r = all_two_get (HasType d objects) (field_types d (Made k)) fields n t fine.1 e in (r.item, r.is)
field_there d p objects Node fields n t fine e = absurd cc
field_there d p objects Program fields n t fine e = absurd cc
field_there d p objects (Vector of) fields n t fine e = absurd cc

module _ (d : Declared) (p : Parts) (fine : Fine d p) (c : Common) (sound : SoundCommon d p c) (a : CodeActivation)
    (done : SoundDone d p c.objects a) where
  abbrev o : Operation
  o = done.rests.of

  -- each field to which the code stores is there
  stored_there : (q n : ℕ) (line : Line) (from : Operand) → slice_get o.code q ≡ Some line → line.op ≡ op.SetField n from →
      (v : Value) × (own_field c a.own n ≡ Some v)
  stored_there q n line from is e =
      let here = fine_at d p a.operation o 0 q o.code line (fine.operations a.operation o done.rests.is_operation).code is in
      let stores : FineOp d p a.operation o here.1.0 here.0 line.live (op.SetField n from) =
      subst (λ x. FineOp d p a.operation o here.1.0 here.0 line.live x) e here.1.1 in
      let own = carried.there c.objects a.own o.class done.rests.own in
      let fields : FineFields d p c.objects o.class own.object.fields =
      subst (λ k. FineFields d p c.objects k own.object.fields) own.class
      (each_object (FineObject d p c.objects) c.objects a.own own.object sound.objects own.is) in
      let field = field_there d p c.objects o.class own.object.fields n stores.0.0 fields stores.0.1 in
      (field.0, ap (λ x. field_in x n) own.is ∙ field.1)

  has_what_is_set : HasWhatIsSet o a.own (machine_behind p c a)
  has_what_is_set = record { variables = (let count = done.rests.count in omega arith); fields = stored_there }

  module _ (ranged : RangedCommon c) (values : RangedActivation a) where
    lives : (x : Variable) (t : StaticType) → Has (live_at o.code (suc a.at)) x t →
        (v : Value) × (variable_at (machine_behind p c a) x ≡ Some v) × FitsWord v
    lives x t h =
        let r = done.live x t (subst (λ l. Has l x t) (sym (ap live_if (get_drop (suc a.at) o.code))) h) in
        let is : variable_at (machine_behind p c a) x ≡ Some r.value = machine_held (machine_behind p c a) x ∙ r.is in
        (r.value, is, variable_fits p c a x r.value ranged values is)

    walk_is : reached p c a ≡ walk p.literals a.own (suc a.at) (drop (suc a.at) o.code) 0 (machine_behind p c a)
    walk_is =
        ap (λ lines. walk p.literals a.own (suc a.at) (drop (suc a.at) lines) 0 (machine_behind p c a))
        (ap code_if done.rests.is_operation)

    comes : (r : Arrived) × (reached p c a ≡ ((reached p c a).0, Some r))
    comes = some_second (reached p c a) (reaches d p fine c sound a done)

    pub can_step : a.pending ≡ false → a.into ≡ None → stays a.stop ≡ true → CanStep p c a
    can_step pending taken stays_on =
        let entry = rests_at_an_entry d p c.objects a done.rests in
        record {
          operation = o;
          is_operation = done.rests.is_operation;
          stop = record { number = entry.0; entry = its_entry d p c.objects a done.rests };
          is_stop = entry.1;
          row = done.rests.row;
          is_row = ap stop_in done.rests.is_line ∙ ap stop_of done.rests.is_row;
          stays_on = ap stays (sym done.rests.stop) ∙ stays_on;
          done = pending;
          taken = taken;
          has = has_what_is_set;
          live = lives;
          common = (reached p c a).0;
          reached = comes.0;
          walks = sym walk_is ∙ comes.1;
        }
