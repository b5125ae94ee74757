-- What an activation holds in its frame: all that is live behind its stop, once the action is done; and where it rests again, the
-- operands of the stop and what is live behind it.
use Rattle.std.proofs.Common.{◌≡◌, ℕ, zero, suc, inl, inr, Bool, true, false, List, [], ◌∷◌, ◌++◌, map}
use Rattle.std.proofs.Common.{Option, Some, None, refl, sym, ap, ◌∙◌, subst, eqb-true}
use Rattle.std.specs.Prelude.{if◌then◌else◌, slice_get}
use Rattle.std.proofs.lemmas.Option.{same_Some}
use Rattle.ec_activations.proofs.Stops.{each_of, in_list, mapped}
use Rattle.ec_activations.specs.Frames.{Held, held_at, held_in, or_nil, result_in, value_in}
use Rattle.ec_code.specs.Activations.{variables_behind}
use Rattle.ec_code.specs.Fine.{GoesOn, Has as HasLive, IsIn, IsTaken}
use Rattle.ec_code.specs.Steps.{Machine, variable_at}
use Rattle.ec_code.specs.Typing.{Declared}
use Rattle.ec_code.specs.declared.activation.CodeActivation.{CodeActivation}
use Rattle.ec_code.specs.declared.code.Live.{Live}
use Rattle.ec_code.specs.declared.code.Operation.{Operation}
use Rattle.ec_code.specs.declared.code.Parts.{Parts}
use Rattle.ec_code.specs.declared.code.Variable.{Variable}
use Rattle.ec_code.specs.declared.code.Variable.TheVariants.{Named, Temporary}
use Rattle.ec_types.specs.declared.conform.static_type.StaticType.{StaticType}
use Rattle.ec_machine_code.specs.Stops.{without}
use Rattle.ec_code.specs.Live.{stays}
use Rattle.ec_code.specs.Marks.{is_same, is_written}
use Rattle.ec_generate.specs.Entries.{result_of, typed}
use Rattle.ec_generate.specs.declared.table.StopEntry.{StopEntry}
use Rattle.ec_world.specs.Group.{Has}
use Rattle.ec_world.specs.declared.stop.Stop.{Stop}
use Rattle.ec_world.specs.declared.stop.Stop.TheVariants as stop
use Rattle.ec_world.specs.declared.value.Value.{Value}

-- ---- lists

pub has_in : {A : Type 0} (xs : List A) (x : A) → IsIn x xs → Has xs x
has_in [] x h = absurd h
has_in (y ∷ xs) x (inl e) = record { at = 0; is = ap Some (sym e) }
has_in (y ∷ xs) x (inr h) = let t = has_in xs x h in record { at = suc t.at; is = t.is }

pub has_mapped : {A B : Type 0} (f : A → B) (xs : List A) (x : A) → Has xs x → Has (map f xs) (f x)
has_mapped {A} f xs x h = record { at = h.at; is = by xs h.at h.is }
  where
    by : (ys : List A) (i : ℕ) → slice_get ys i ≡ Some x → slice_get (map f ys) i ≡ Some (f x)
    by [] i e = cc
    by (y ∷ ys) zero e = ap Some (ap f (same_Some y x e))
    by (y ∷ ys) (suc i) e = by ys i e

has_front : {A : Type 0} (xs ys : List A) (x : A) → Has xs x → Has (xs ++ ys) x
has_front {A} xs ys x h = record { at = h.at; is = by xs h.at h.is }
  where
    by : (zs : List A) (i : ℕ) → slice_get zs i ≡ Some x → slice_get (zs ++ ys) i ≡ Some x
    by [] i e = cc
    by (z ∷ zs) zero e = e
    by (z ∷ zs) (suc i) e = by zs i e

has_back : {A : Type 0} (xs ys : List A) (x : A) → Has ys x → Has (xs ++ ys) x
has_back [] ys x h = h
has_back (z ∷ xs) ys x h = let t = has_back xs ys x h in record { at = suc t.at; is = t.is }

-- ---- variables

one_variable : (x y : Variable) → is_same x y ≡ true → x ≡ y
one_variable (Named m) (Named n) e = ap Named (eqb-true m n e)
one_variable (Temporary m) (Temporary n) e = ap Temporary (eqb-true m n e)
one_variable (Named m) (Temporary n) e = absurd cc
one_variable (Temporary m) (Named n) e = absurd cc

-- what is live and isn't written is live beside what is written
in_without : (into : Option Variable) (ls : List Live) (l : Live) → IsIn l ls → is_written into l.variable ≡ false →
    IsIn l (without into ls)
in_without into [] l h w = absurd h
in_without into (k ∷ ls) l h w = by (λ g. in_without into ls l g w) (is_written into k.variable) refl h
  where
    by : (IsIn l ls → IsIn l (without into ls)) → (b : Bool) → is_written into k.variable ≡ b → IsIn l (k ∷ ls) →
        IsIn l (if b then without into ls else k ∷ without into ls)
    by rest true e (inl same) = absurd (let is = ap (λ (x : Live). is_written into x.variable) same in let no : ⊥ = cc in no)
    by rest true e (inr g) = rest g
    by rest false e (inl same) = inl same
    by rest false e (inr g) = inr (rest g)

-- ---- what is held behind a stop

pub goes_on : (d : Declared) (p : Parts) (n : ℕ) (o : Operation) (s : Stop) (T : Type 0) → stays s ≡ true → GoesOn d p n o s T → T
goes_on d p n o (stop.Return gives_self) T e h = absurd cc
goes_on d p n o stop.End T e h = absurd cc
goes_on d p n o (stop.Fail why line) T e h = absurd cc
goes_on d p n o s T e h = h

-- a variable with its value
abbrev pub held : Parts → CodeActivation → Variable → Held
held p a x = record { variable = x; value = value_in p a x }

-- what a stop has given is held
result_held : (d : Declared) (p : Parts) (a : CodeActivation) (given : Option StaticType) (into : Option Variable) (x : Variable) →
    IsTaken d p given into → is_written into x ≡ true → Has (result_in p a (result_of into given) None) (held p a x)
result_held d p a given None x taken w = absurd cc
result_held d p a None (Some y) x taken w = absurd taken
result_held d p a (Some s) (Some y) x taken w = record { at = 0; is = ap (λ z. Some (held p a z)) (sym (one_variable x y w)) }

-- what is live behind a stop is held once its action is done
pub behind_held : (d : Declared) (p : Parts) (a : CodeActivation) (e : StopEntry) (given : Option StaticType) (into : Option Variable)
    (alive : List Live) (x : Variable) (t : StaticType) → IsTaken d p given into → a.pending ≡ false → a.into ≡ None →
    e.result ≡ result_of into given → e.live ≡ without into alive → HasLive alive x t → Has (held_at p a e) (held p a x)
behind_held d p a e given into alive x t taken done none result live h =
    subst (λ (b : Bool). Has ((if b then held_in p a e.operands else result_in p a e.result a.into) ++ held_in p a e.live) (held p a x))
    (sym done)
    (subst (λ i. Has (result_in p a e.result i ++ held_in p a e.live) (held p a x)) (sym none)
    (subst (λ r. Has (result_in p a r None ++ held_in p a e.live) (held p a x)) (sym result)
    (subst (λ ls. Has (result_in p a (result_of into given) None ++ held_in p a ls) (held p a x)) (sym live)
    (by (is_written into x) refl))))
  where
    by : (b : Bool) → is_written into x ≡ b →
        Has (result_in p a (result_of into given) None ++ held_in p a (without into alive)) (held p a x)
    by true w =
        has_front (result_in p a (result_of into given) None) (held_in p a (without into alive)) (held p a x)
        (result_held d p a given into x taken w)
    by false w =
        let l : Live = record { variable = x; of = t } in
        has_back (result_in p a (result_of into given) None) (held_in p a (without into alive)) (held p a x)
        (has_mapped (λ (k : Live). held p a k.variable) (without into alive) l
        (has_in (without into alive) l (in_without into alive l h w)))

-- ---- what is held at a stop

typed_variable : (live : List Live) (x : Variable) → (typed live x).variable ≡ x
typed_variable [] x = refl
typed_variable (l ∷ ls) x = by (is_same l.variable x) refl (typed_variable ls x)
  where
    by : (b : Bool) → is_same l.variable x ≡ b → (typed ls x).variable ≡ x →
        (if b then record { variable = x; of = l.of } else typed ls x).variable ≡ x
    by true e r = refl
    by false e r = r

in_typed : (live : List Live) (xs : List Variable) (l : Live) → IsIn l (map (typed live) xs) → IsIn l.variable xs
in_typed live [] l h = absurd h
in_typed live (x ∷ xs) l (inl e) = inl (ap (λ (k : Live). k.variable) e ∙ typed_variable live x)
in_typed live (x ∷ xs) l (inr h) = inr (in_typed live xs l h)

-- of the held values of variables each is one
held_one : (p : Parts) (a : CodeActivation) (ls : List Live) (P : Variable → Type 0) → ((l : Live) → IsIn l ls → P l.variable) →
    (i : ℕ) (h : Held) → slice_get (held_in p a ls) i ≡ Some h → (h.value ≡ value_in p a h.variable) × P h.variable
held_one p a ls P each i h e =
    let m = mapped (λ (l : Live). held p a l.variable) ls i h e in
    let variable : h.variable ≡ m.0.variable = ap (λ (k : Held). k.variable) m.2 in
    let value : h.value ≡ value_in p a m.0.variable = ap (λ (k : Held). k.value) m.2 in
    (value ∙ ap (value_in p a) (sym variable), subst P (sym variable) (each m.0 (in_list ls i m.0 m.1)))

-- while the action is pending, each held value is that of an operand or of what is live behind the stop
pub pending_held : (p : Parts) (a : CodeActivation) (e : StopEntry) (here : List Live) (operands : List Variable) (P : Variable → Type 0) →
    a.pending ≡ true → e.operands ≡ map (typed here) operands → ((x : Variable) → IsIn x operands → P x) →
    ((l : Live) → IsIn l e.live → P l.variable) → (i : ℕ) (h : Held) → slice_get (held_at p a e) i ≡ Some h →
    (h.value ≡ value_in p a h.variable) × P h.variable
pending_held p a e here operands P pending are first second i h f =
    each_of (λ (k : Held). (k.value ≡ value_in p a k.variable) × P k.variable) (held_in p a e.operands) (held_in p a e.live)
    (held_one p a e.operands P (λ l g. first l.variable (in_typed here operands l (subst (λ ls. IsIn l ls) are g))))
    (held_one p a e.live P second) i h
    (subst
    (λ (b : Bool). slice_get ((if b then held_in p a e.operands else result_in p a e.result a.into) ++ held_in p a e.live) i ≡ Some h)
    pending f)

-- ---- values

or_front : (xs ys : List Value) (i : ℕ) (v : Value) → slice_get xs i ≡ Some v → slice_get (xs ++ ys) i ≡ Some v
or_front [] ys i v e = cc
or_front (x ∷ xs) ys zero v e = e
or_front (x ∷ xs) ys (suc i) v e = or_front xs ys i v e

or_nil_is : (o : Option Value) (v : Value) → o ≡ Some v → or_nil o ≡ v
or_nil_is None v e = cc
or_nil_is (Some u) v e = same_Some u v e

-- the value of a variable that is there just behind a stop
pub value_behind : (p : Parts) (a : CodeActivation) (m : Machine) (x : Variable) (v : Value) → m.variables ≡ variables_behind p a a.at →
    m.temporaries ≡ a.temporaries → variable_at m x ≡ Some v → value_in p a x ≡ v
value_behind p a m (Named n) v e f is =
    or_nil_is (slice_get (variables_behind p a a.at) n) v (ap (λ (vs : List Value). slice_get vs n) (sym e) ∙ is)
value_behind p a m (Temporary n) v e f is =
    or_nil_is (slice_get a.temporaries n) v (ap (λ (vs : List Value). slice_get vs n) (sym f) ∙ is)

-- and at one that silent steps have come to, also where that is an entry
named_at : (p : Parts) (a : CodeActivation) (n : ℕ) (v : Value) → slice_get a.variables n ≡ Some v → (at : ℕ) →
    slice_get (variables_behind p a at) n ≡ Some v
named_at p a n v e zero = or_front a.variables _ n v e
named_at p a n v e (suc at) = e

pub value_at : (p : Parts) (a : CodeActivation) (m : Machine) (x : Variable) (v : Value) → m.variables ≡ a.variables →
    m.temporaries ≡ a.temporaries → variable_at m x ≡ Some v → value_in p a x ≡ v
value_at p a m (Named n) v e f is =
    or_nil_is (slice_get (variables_behind p a a.at) n) v
    (named_at p a n v (ap (λ (vs : List Value). slice_get vs n) (sym e) ∙ is) a.at)
value_at p a m (Temporary n) v e f is =
    or_nil_is (slice_get a.temporaries n) v (ap (λ (vs : List Value). slice_get vs n) (sym f) ∙ is)
