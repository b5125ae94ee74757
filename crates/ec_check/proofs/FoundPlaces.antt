-- A name that is found has a place, and something is there.
use Rattle.std.proofs.Common.{◌≡◌, ℕ, zero, suc, ◌+◌, ◌<◌, ◌≤◌, Bool, true, false, List, [], ◌∷◌, ◌++◌, length, map, Option, Some, None}
use Rattle.std.proofs.Common.{refl, sym, ap, ◌∙◌, subst, is_some, if◌then◌else◌, arith}
use Rattle.std.specs.Prelude.{Any, Contains}
use Rattle.std.proofs.lemmas.List.{length-map}
use Rattle.ec_base.specs.Stack.{top_of, below_of}
use Rattle.ec_check.proofs.Every.{Every, Where, either, not_both}
use Rattle.ec_check.specs.Numbers.{Whole, Limits, IsPlace}
use Rattle.ec_check.specs.Places.{Env, number_or, number_named, names_of, fields_of, conditions_of, number_at_or, held_place}
use Rattle.ec_check.specs.Places.{place_found, place_of}
use Rattle.ec_core.specs.declared.Class.{Class}
use Rattle.ec_core.specs.declared.Place.TheVariants as place
use Rattle.ec_types.specs.Names.{Text, first_from, first_named, has_name, is_same}
use Rattle.ec_rules.specs.Names.{is_found}
use Rattle.ec_types.specs.declared.scopes.entries.Entry.{Entry}
use Rattle.ec_types.specs.declared.scopes.globals.ClassMeant.{ClassMeant}
use Rattle.ec_types.specs.declared.scopes.globals.Global.{Global}
use Rattle.ec_types.specs.declared.scopes.globals.Meaning.{Meaning}
use Rattle.ec_types.specs.declared.scopes.globals.Meaning.TheVariants as means
use Rattle.ec_types.specs.declared.scopes.object.Object.{Object}
use Rattle.ec_types.specs.declared.scopes.scope.Found.{Found}
use Rattle.ec_types.specs.declared.scopes.scope.Found.TheVariants as found
use Rattle.ec_types.specs.declared.scopes.scope.Scope.{Scope}
use Rattle.ec_types.specs.Scopes.{entry_named, meaning_named, found_meaning, held_or, found_within, find, class_meant}
use Rattle.ec_types.specs.Scopes.{unless_value, class_named}
use Rattle.ec_types.specs.Scopes.{innermost, locals_of, is_local, outside}

-- ---- how many objects further out something is found

abbrev pub held_out : Found → Option ℕ
held_out (found.Held h) = Some h.out
held_out (found.Constant of) = None
held_out found.Nothing = None

pub never_held : (m : Option Meaning) → held_out (found_meaning m) ≡ None
never_held None = refl
never_held (Some (means.Value of)) = refl
never_held (Some (means.Class c)) = refl
never_held (Some means.Typeobject) = refl

abbrev pub AtLeast : ℕ → Found → Type 0
AtLeast n f = (k : ℕ) → held_out f ≡ Some k → n ≤ k

pub at_least_held : (n : ℕ) (entry : Option Entry) (f : Found) → AtLeast (suc n) f → AtLeast n (held_or n entry f)
at_least_held n None f h = λ k e. let l : suc n ≤ k = h k e in omega arith
at_least_held n (Some x) f h = λ k e. let s : n ≡ k = cc in omega arith

-- ---- what is the own object's is among its locals and fields

abbrev pub own_entries : Option Object → List Entry
own_entries o = locals_of o ++ fields_of o

entry_at_last : (entry : Option Entry) (f : Found) → AtLeast 1 f → held_out (held_or 0 entry f) ≡ Some 0 → is_some entry ≡ true
entry_at_last None f h e = let l : 1 ≤ 0 = h 0 e in absurd (omega arith)
entry_at_last (Some x) f h e = refl

own_entry_in : (name : Text) (f : Found) (o : Object) (os : List Object) → AtLeast (suc (length os)) f →
    held_out (found_within name f (o ∷ os)) ≡ Some 0 → is_some (entry_named (own_entries (top_of (o ∷ os))) name) ≡ true
own_entry_in name f o [] h e = entry_at_last (entry_named (o.locals ++ o.fields) name) f h e
own_entry_in name f o (p ∷ os) h e =
    own_entry_in name (held_or (length (p ∷ os)) (entry_named (o.locals ++ o.fields) name) f) p os
    (at_least_held (length (p ∷ os)) (entry_named (o.locals ++ o.fields) name) f h) e

own_entry_among : (name : Text) (f : Found) (os : List Object) → held_out f ≡ None →
    held_out (found_within name f os) ≡ Some 0 → is_some (entry_named (own_entries (top_of os)) name) ≡ true
own_entry_among name f [] n e = cc
own_entry_among name f (o ∷ os) n e = own_entry_in name f o os (λ k s. cc) e

pub own_entry : (scope : Scope) (name : Text) → held_out (find scope name) ≡ Some 0 →
    is_some (entry_named (own_entries (innermost scope)) name) ≡ true
own_entry scope name =
    own_entry_among name (found_meaning (meaning_named scope.globals name)) scope.objects
    (never_held (meaning_named scope.globals name))

-- ---- what is further out is found from outside

abbrev Outward : Found → Found → Type 0
Outward f g = (k : ℕ) → held_out f ≡ Some (suc k) → held_out g ≡ Some k

length_below : (o : Object) (os : List Object) → length (below_of (o ∷ os)) ≡ length os
length_below o [] = refl
length_below o (p ∷ os) = ap suc (length_below p os)

outward_held : (n m : ℕ) → n ≡ suc m → (entry : Option Entry) (f g : Found) → Outward f g →
    Outward (held_or n entry f) (held_or m entry g)
outward_held n m e None f g h = h
outward_held n m e (Some x) f g h = λ k s. let t : n ≡ suc k = cc in let u : m ≡ k = omega arith in ap Some u

outward_last : (entry : Option Entry) (f g : Found) → Outward f g → Outward (held_or 0 entry f) g
outward_last None f g h = h
outward_last (Some x) f g h = λ k s. let t : 0 ≡ suc k = cc in absurd (omega arith)

outward_within : (name : Text) (f g : Found) (o : Object) (os : List Object) → Outward f g →
    Outward (found_within name f (o ∷ os)) (found_within name g (below_of (o ∷ os)))
outward_within name f g o [] h = outward_last (entry_named (o.locals ++ o.fields) name) f g h
outward_within name f g o (p ∷ os) h =
    outward_within name (held_or (length (p ∷ os)) (entry_named (o.locals ++ o.fields) name) f)
    (held_or (length (below_of (p ∷ os))) (entry_named (o.locals ++ o.fields) name) g) p os
    (outward_held (length (p ∷ os)) (length (below_of (p ∷ os))) (ap suc (sym (length_below p os)))
    (entry_named (o.locals ++ o.fields) name) f g h)

outward_among : (name : Text) (f : Found) (os : List Object) → held_out f ≡ None →
    Outward (found_within name f os) (found_within name f (below_of os))
outward_among name f [] n = λ k s. cc
outward_among name f (o ∷ os) n = outward_within name f f o os (λ k s. cc)

pub outward : (scope : Scope) (name : Text) (k : ℕ) → held_out (find scope name) ≡ Some (suc k) →
    held_out (find (outside scope) name) ≡ Some k
outward scope name =
    outward_among name (found_meaning (meaning_named scope.globals name)) scope.objects
    (never_held (meaning_named scope.globals name))

-- where there is no object, nothing is held
pub held_nowhere : (scope : Scope) (name : Text) (n : ℕ) → scope.objects ≡ [] → held_out (find scope name) ≡ Some n → ⊥
held_nowhere scope name n none e =
    let f : held_out (found_within name (found_meaning (meaning_named scope.globals name)) []) ≡ Some n =
    subst (λ os. held_out (found_within name (found_meaning (meaning_named scope.globals name)) os) ≡ Some n) none e in
    let g : held_out (found_meaning (meaning_named scope.globals name)) ≡ None = never_held (meaning_named scope.globals name) in
    cc

-- ---- numbers of names

pub first_below : (n : ℕ) (names : List Text) (name : Text) → Where (λ k. k < n + length names) (first_from n names name)
first_below n [] name = tt
first_below n (own ∷ names) name =
    either (Where (λ k. k < n + length (own ∷ names))) (is_same own name) (Some n) (first_from (n + 1) names name)
    (omega arith) (later (first_from (n + 1) names name) (first_below (n + 1) names name))
  where
    later : (o : Option ℕ) → Where (λ k. k < n + 1 + length names) o → Where (λ k. k < n + length (own ∷ names)) o
    later None h = tt
    later (Some k) h = omega arith

pub number_below : (o : Option ℕ) (n : ℕ) → Where (λ k. k < n) o → 0 < n → number_or o < n
number_below None n h l = l
number_below (Some k) n h l = h

pub named_below : (names : List Text) (name : Text) → 0 < length names → number_named names name < length names
named_below names name l =
    let h : number_or (first_named names name) < 0 + length names =
    number_below (first_named names name) (0 + length names) (first_below 0 names name) (omega arith) in
    omega arith

pub some_names : (names : List Text) (name : Text) → has_name names name ≡ true → 0 < length names
some_names [] name e = not_both e
some_names (own ∷ names) name e = omega arith

entry_below : (entries : List Entry) (name : Text) → 0 < length entries → number_named (names_of entries) name < length entries
entry_below entries name l =
    let e : length (names_of entries) ≡ length entries = length-map entries (λ e. e.name) in
    let h : number_named (names_of entries) name < length (names_of entries) = named_below (names_of entries) name (omega arith) in
    omega arith

entry_has_name : (n : ℕ) (entries : List Entry) (name : Text) → is_some (entry_named (entries ++ []) name) ≡ true →
    is_some (first_from n (names_of entries) name) ≡ true
entry_has_name n [] name e = e
entry_has_name n (x ∷ xs) name e =
    here (is_same x.name name) e (entry_has_name (n + 1) xs name)
  where
    here : (b : Bool) → is_some (if b then Some x else entry_named (xs ++ []) name) ≡ true →
        (is_some (entry_named (xs ++ []) name) ≡ true → is_some (first_from (n + 1) (names_of xs) name) ≡ true) →
        is_some (if b then Some n else first_from (n + 1) (names_of xs) name) ≡ true
    here true e k = refl
    here false e k = k e

-- what is no local is a field
some_fields : (locals fields : List Entry) (name : Text) → is_some (entry_named (locals ++ fields) name) ≡ true →
    has_name (names_of locals) name ≡ false → 0 < length fields
some_fields locals [] name e n =
    let s : has_name (names_of locals) name ≡ true = entry_has_name 0 locals name e in not_both (sym n ∙ s)
some_fields locals (x ∷ xs) name e n = omega arith

number_in : (limit : ℕ) (numbers : List ℕ) (at : ℕ) → Every (λ n. n < limit) numbers → at < length numbers →
    number_at_or numbers at < limit
number_in limit [] at h l = absurd (omega arith)
number_in limit (n ∷ ns) zero h l = h.0
number_in limit (n ∷ ns) (suc at) h l = number_in limit ns at h.1 (omega arith)

-- ---- constants and classes

abbrev There : {A : Type 0} → (A → Type 0) → Option A → Type 0
There P None = ⊥
There P (Some x) = P x

number_there : (P : ℕ → Type 0) (o : Option ℕ) → There P o → P (number_or o)
number_there P None h = absurd h
number_there P (Some n) h = h

abbrev pub ValueAt : Whole → ℕ → Meaning → Type 0
ValueAt whole n (means.Value of) = Contains whole.constants n
ValueAt whole n (means.Class c) = Unit {0}
ValueAt whole n means.Typeobject = Unit {0}

abbrev pub ValuesFrom : Whole → ℕ → List Global → Type 0
ValuesFrom whole n [] = Unit {0}
ValuesFrom whole n (g ∷ gs) = ValueAt whole n g.meaning × ValuesFrom whole (n + 1) gs

abbrev pub IsClass : Whole → ClassMeant → Type 0
IsClass whole c = Any (λ (d : Class). (d.number ≡ c.number) × (d.parameters ≡ length c.parameters)) whole.classes

abbrev pub ClassThere : Whole → Meaning → Type 0
ClassThere whole (means.Value of) = Unit {0}
ClassThere whole (means.Class c) = IsClass whole c
ClassThere whole means.Typeobject = Unit {0}

-- the constants of the program are those in scope
pub record GlobalsAre (whole : Whole) (globals : List Global) : Type 0 where
  pub values : ValuesFrom whole 0 globals
  pub classes : Every (λ (g : Global). ClassThere whole g.meaning) globals

abbrev IsValue : Option Meaning → Type 0
IsValue None = ⊥
IsValue (Some (means.Value of)) = Unit {0}
IsValue (Some (means.Class c)) = ⊥
IsValue (Some means.Typeobject) = ⊥

value_here : (whole : Whole) (n : ℕ) (m : Meaning) (later : Option Meaning) (first : Option ℕ) → ValueAt whole n m → (b : Bool) →
    IsValue (if b then Some m else later) → (IsValue later → There (Contains whole.constants) first) →
    There (Contains whole.constants) (if b then Some n else first)
value_here whole n m later first h false v k = k v
value_here whole n (means.Value of) later first h true v k = h
value_here whole n (means.Class c) later first h true v k = absurd v
value_here whole n means.Typeobject later first h true v k = absurd v

value_number : (whole : Whole) (n : ℕ) (gs : List Global) (name : Text) → ValuesFrom whole n gs →
    IsValue (meaning_named gs name) → There (Contains whole.constants) (first_from n (map (λ g. g.name) gs) name)
value_number whole n [] name h v = v
value_number whole n (g ∷ gs) name h v =
    value_here whole n g.meaning (meaning_named gs name) (first_from (n + 1) (map (λ g. g.name) gs) name) h.0
    (is_same g.name name) v (value_number whole (n + 1) gs name h.1)

abbrev IsConstant : Found → Type 0
IsConstant (found.Held h) = ⊥
IsConstant (found.Constant of) = Unit {0}
IsConstant found.Nothing = ⊥

held_constant : (out : ℕ) (entry : Option Entry) (f : Found) → IsConstant (held_or out entry f) → IsConstant f
held_constant out None f h = h
held_constant out (Some x) f h = absurd h

constant_within : (name : Text) (f : Found) (os : List Object) → IsConstant (found_within name f os) → IsConstant f
constant_within name f [] h = h
constant_within name f (o ∷ os) h =
    held_constant (length os) (entry_named (o.locals ++ o.fields) name) f
    (constant_within name (held_or (length os) (entry_named (o.locals ++ o.fields) name) f) os h)

constant_is_value : (m : Option Meaning) → IsConstant (found_meaning m) → IsValue m
constant_is_value None h = h
constant_is_value (Some (means.Value of)) h = tt
constant_is_value (Some (means.Class c)) h = h
constant_is_value (Some means.Typeobject) h = h

found_is_value : (scope : Scope) (name : Text) → IsConstant (find scope name) → IsValue (meaning_named scope.globals name)
found_is_value scope name h =
    constant_is_value (meaning_named scope.globals name)
    (constant_within name (found_meaning (meaning_named scope.globals name)) scope.objects h)

class_here : (whole : Whole) (m : Meaning) → ClassThere whole m → Where (IsClass whole) (class_meant (Some m))
class_here whole (means.Value of) h = tt
class_here whole (means.Class c) h = h
class_here whole means.Typeobject h = tt

class_among : (whole : Whole) (gs : List Global) (name : Text) → Every (λ (g : Global). ClassThere whole g.meaning) gs →
    Where (IsClass whole) (class_meant (meaning_named gs name))
class_among whole [] name h = tt
class_among whole (g ∷ gs) name h =
    either (λ m. Where (IsClass whole) (class_meant m)) (is_same g.name name) (Some g.meaning) (meaning_named gs name)
    (class_here whole g.meaning h.0) (class_among whole gs name h.1)

class_unless : (whole : Whole) (f : Found) (c : Option ClassMeant) → Where (IsClass whole) c → Where (IsClass whole) (unless_value f c)
class_unless whole (found.Held h) c k = tt
class_unless whole (found.Constant of) c k = tt
class_unless whole found.Nothing c k = k

pub class_is_there : (whole : Whole) (scope : Scope) (name : Text) → GlobalsAre whole scope.globals →
    Where (IsClass whole) (class_named scope name)
class_is_there whole scope name g =
    class_unless whole (find scope name) (class_meant (meaning_named scope.globals name))
    (class_among whole scope.globals name g.classes)

-- ---- places

-- what is in scope at a place is there, by these limits
pub record Fits (limits : Limits) (env : Env) : Type 0 where
  pub numbers : Every (λ n. n < limits.variables) env.numbers
  pub locals : length (locals_of (innermost env.scope)) ≤ length env.numbers
  pub fields : length (fields_of (innermost env.scope)) ≤ limits.fields
  pub conditions : length (conditions_of (innermost env.scope)) ≤ limits.conditions
  pub captures : length env.captures ≤ limits.captured
  pub globals : GlobalsAre limits.whole env.scope.globals

own_place_is : (limits : Limits) (env : Env) (name : Text) → Fits limits env →
    is_some (entry_named (own_entries (innermost env.scope)) name) ≡ true → (b : Bool) → is_local env.scope name ≡ b →
    IsPlace limits
    (if b then place.Variable (number_at_or env.numbers (number_named (names_of (locals_of (innermost env.scope))) name))
    else place.Field (number_named (names_of (fields_of (innermost env.scope))) name))
own_place_is limits env name fits e true is =
    let e : length (names_of (locals_of (innermost env.scope))) ≡ length (locals_of (innermost env.scope)) =
    length-map (locals_of (innermost env.scope)) (λ e. e.name) in
    let some : 0 < length (names_of (locals_of (innermost env.scope))) = some_names _ name is in
    let below : number_named (names_of (locals_of (innermost env.scope))) name < length (locals_of (innermost env.scope)) =
    entry_below (locals_of (innermost env.scope)) name (omega arith) in
    let fit : length (locals_of (innermost env.scope)) ≤ length env.numbers = fits.locals in
    number_in limits.variables env.numbers (number_named (names_of (locals_of (innermost env.scope))) name) fits.numbers
    (omega arith)
own_place_is limits env name fits e false is =
    let some : 0 < length (fields_of (innermost env.scope)) =
    some_fields (locals_of (innermost env.scope)) (fields_of (innermost env.scope)) name e is in
    let below : number_named (names_of (fields_of (innermost env.scope))) name < length (fields_of (innermost env.scope)) =
    entry_below (fields_of (innermost env.scope)) name some in
    let fit : length (fields_of (innermost env.scope)) ≤ limits.fields = fits.fields in
    omega arith

held_place_is : (limits : Limits) (env : Env) (name : Text) → Fits limits env → (out : ℕ) →
    held_out (find env.scope name) ≡ Some out → ((k : ℕ) → out ≡ suc k → 0 < length env.captures) →
    IsPlace limits (held_place env name out)
held_place_is limits env name fits zero e reach =
    own_place_is limits env name fits (own_entry env.scope name e) (is_local env.scope name) refl
held_place_is limits env name fits (suc out) e reach =
    let below : number_named env.captures name < length env.captures = named_below env.captures name (reach out refl) in
    let fit : length env.captures ≤ limits.captured = fits.captures in
    omega arith

found_place_is : (limits : Limits) (env : Env) (name : Text) → Fits limits env → (f : Found) → find env.scope name ≡ f →
    is_found f ≡ true → ((k : ℕ) → held_out f ≡ Some (suc k) → 0 < length env.captures) → IsPlace limits (place_found env name f)
found_place_is limits env name fits (found.Held h) e is reach =
    held_place_is limits env name fits h.out (ap held_out e) (λ k s. reach k (ap Some s))
found_place_is limits env name fits (found.Constant of) e is reach =
    number_there (Contains limits.whole.constants) (first_named (map (λ g. g.name) env.scope.globals) name)
    (value_number limits.whole 0 env.scope.globals name fits.globals.values
    (found_is_value env.scope name (subst IsConstant (sym e) tt)))
found_place_is limits env name fits found.Nothing e is reach = not_both is

-- the place of a name that is found; where it is further out, something is captured
pub place_is : (limits : Limits) (env : Env) (name : Text) → Fits limits env → is_found (find env.scope name) ≡ true →
    ((k : ℕ) → held_out (find env.scope name) ≡ Some (suc k) → 0 < length env.captures) → IsPlace limits (place_of env name)
place_is limits env name fits is reach = found_place_is limits env name fits (find env.scope name) refl is reach

pub held_is_found : (f : Found) (n : ℕ) → held_out f ≡ Some n → is_found f ≡ true
held_is_found (found.Held h) n e = refl
held_is_found (found.Constant of) n e = cc
held_is_found found.Nothing n e = cc
