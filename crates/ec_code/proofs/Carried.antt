-- What holds of values still holds once objects are added and changed.
use Rattle.std.proofs.Common.{◌≡◌, ℕ, zero, suc, ◌<◌, ◌-◌, ◌⊎◌, inl, inr, Bool, true, false, List, [], ◌∷◌, ◌++◌, length, Option, Some}
use Rattle.std.proofs.Common.{None, refl, sym}
use Rattle.std.proofs.Common.{◌∙◌, ap, subst, arith}
use Rattle.std.specs.Prelude.{slice_get, slice_set, drop, replicate, option_map, ◌≢◌}
use Rattle.std.specs.List.{AllByRecursion as Each}
use Rattle.ec_base.specs.Stack.{top_of, below_of}
use Rattle.ec_code.specs.Activations.{variables_behind}
use Rattle.ec_code.specs.declared.activation.CodeActivation.{CodeActivation}
use Rattle.ec_code.specs.declared.code.Live.{Live}
use Rattle.ec_code.specs.declared.code.Operation.{Operation}
use Rattle.ec_code.specs.declared.code.Parts.{Parts}
use Rattle.ec_code.specs.declared.code.Variable.{Variable}
use Rattle.ec_code.specs.Fine.{GoesOn as IfGoesOn, IsGiven}
use Rattle.ec_code.specs.Typing.{Declared, class_type, element_static, field_types}
use Rattle.ec_types.specs.declared.conform.static_type.StaticType.{StaticType}
use Rattle.ec_world.specs.Agree.{AllTwo}
use Rattle.ec_world.specs.Objects.{object_at, changed_if, changed_object}
use Rattle.ec_world.specs.Sights.{class_of}
use Rattle.ec_world.specs.declared.class.ClassNo.{ClassNo}
use Rattle.ec_world.specs.declared.class.ClassNo.TheVariants.{Node, Program, Made, Vector}
use Rattle.ec_world.specs.declared.common.Common.{Common}
use Rattle.ec_world.specs.declared.event.Event.{Event}
use Rattle.ec_world.specs.declared.object.ObjectRec.{ObjectRec}
use Rattle.ec_world.specs.declared.process.Proc.{Proc}
use Rattle.ec_world.specs.declared.stop.Stop.{Stop}
use Rattle.ec_world.specs.declared.stop.Stop.TheVariants as stop
use Rattle.ec_world.specs.declared.value.Value.{Value}
use Rattle.ec_world.specs.declared.value.Value.TheVariants.{Int, Str, Ref, Nil, Bool as Truth}
use Rattle.ec_code.specs.Sound.{FineFields, FineObject, SoundCommon, HoldAll, RestsAt, LiveBehind, SoundPending, SoundDone, TopIs}
use Rattle.ec_code.specs.Sound.{Waits, Chain, SoundTower, SoundProc}
use Rattle.ec_code.specs.SoundValues.{HasType, IsOfType, Later, class_in, held, own_type}

-- ---- lists

pub all_two_right : {A B : Type 0} (R S : A → B → Type 0) → ((a : A) (b : B) → R a b → S a b) → (xs : List A) (ys : List B) → AllTwo R xs ys
    → AllTwo S xs ys
all_two_right R S f [] [] h = tt
all_two_right R S f (x ∷ xs) (y ∷ ys) h = (f x y h.0, all_two_right R S f xs ys h.1)
all_two_right R S f [] (y ∷ ys) h = absurd h
all_two_right R S f (x ∷ xs) [] h = absurd h

-- one more on the right at a place
pub all_two_set : {A B : Type 0} (R : A → B → Type 0) (xs : List A) (ys : List B) (i : ℕ) (a : A) (b : B) → AllTwo R xs ys
    → slice_get xs i ≡ Some a → R a b → AllTwo R xs (slice_set ys i b)
all_two_set R [] [] i a b h e k = tt
all_two_set R (x ∷ xs) (y ∷ ys) zero a b h e k = let s : a ≡ x = cc in (subst (λ z. R z b) s k, h.1)
all_two_set R (x ∷ xs) (y ∷ ys) (suc i) a b h e k = (h.0, all_two_set R xs ys i a b h.1 e k)
all_two_set R [] (y ∷ ys) i a b h e k = absurd h
all_two_set R (x ∷ xs) [] i a b h e k = absurd h

-- what stands on the right where something stands on the left
pub record OnRight {A B : Type 0} (R : A → B → Type 0) (a : A) (ys : List B) (i : ℕ) : Type 0 where
  pub item : B
  pub is : slice_get ys i ≡ Some item
  pub fits : R a item

pub all_two_get : {A B : Type 0} (R : A → B → Type 0) (xs : List A) (ys : List B) (i : ℕ) (a : A) → AllTwo R xs ys → slice_get xs i ≡ Some a
    → OnRight R a ys i
all_two_get R [] [] i a h e = cc
all_two_get R (x ∷ xs) (y ∷ ys) zero a h e = let s : x ≡ a = cc in record { item = y; is = refl; fits = subst (λ z. R z y) s h.0 }
all_two_get R (x ∷ xs) (y ∷ ys) (suc i) a h e = let r = all_two_get R xs ys i a h.1 e in record { item = r.item; is = r.is; fits = r.fits }
all_two_get R [] (y ∷ ys) i a h e = absurd h
all_two_get R (x ∷ xs) [] i a h e = absurd h

pub all_two_append : {A B : Type 0} (R : A → B → Type 0) (xs : List A) (ys : List B) (xs' : List A) (ys' : List B) → AllTwo R xs ys
    → AllTwo R xs' ys' → AllTwo R (xs ++ xs') (ys ++ ys')
all_two_append R [] [] xs' ys' h k = k
all_two_append R (x ∷ xs) (y ∷ ys) xs' ys' h k = (h.0, all_two_append R xs ys xs' ys' h.1 k)
all_two_append R [] (y ∷ ys) xs' ys' h k = absurd h
all_two_append R (x ∷ xs) [] xs' ys' h k = absurd h

pub all_two_length : {A B : Type 0} (R : A → B → Type 0) (xs : List A) (ys : List B) → AllTwo R xs ys → length xs ≡ length ys
all_two_length R [] [] h = refl
all_two_length R (x ∷ xs) (y ∷ ys) h = ap suc (all_two_length R xs ys h.1)
all_two_length R [] (y ∷ ys) h = absurd h
all_two_length R (x ∷ xs) [] h = absurd h

pub get_below : {A : Type 0} (xs : List A) (i : ℕ) (x : A) → slice_get xs i ≡ Some x → i < length xs
get_below [] i x e = cc
get_below (y ∷ ys) zero x e = omega arith
get_below (y ∷ ys) (suc i) x e = let l = get_below ys i x e in omega arith

pub record There {A : Type 0} (xs : List A) (i : ℕ) : Type 0 where
  pub item : A
  pub is : slice_get xs i ≡ Some item

pub get_there : {A : Type 0} (xs : List A) (i : ℕ) → i < length xs → There xs i
get_there [] i h = absurd (omega arith)
get_there (x ∷ xs) zero h = record { item = x; is = refl }
get_there (x ∷ xs) (suc i) h = let t = get_there xs i (omega arith) in record { item = t.item; is = t.is }

pub all_two_drop : {A B : Type 0} (R : A → B → Type 0) (xs ys : List A) (zs : List B) (n : ℕ) → length xs ≡ n → AllTwo R (xs ++ ys) zs
    → AllTwo R ys (drop n zs)
all_two_drop R [] ys zs zero e h = h
all_two_drop R [] ys zs (suc n) e h = absurd (omega arith)
all_two_drop R (x ∷ xs) ys (z ∷ zs) (suc n) e h = all_two_drop R xs ys zs n (omega arith) h.1
all_two_drop R (x ∷ xs) ys (z ∷ zs) zero e h = absurd (omega arith)
all_two_drop R (x ∷ xs) ys [] n e h = absurd h

pub each_replicate : {A : Type 0} (P : A → Type 0) (n : ℕ) (x : A) → P x → Each P (replicate n x)
each_replicate P zero x h = tt
each_replicate P (suc n) x h = (h, each_replicate P n x h)

pub option_case : {A : Type 0} (P : Option A → Type 0) (x : Option A) → (x ≡ None → P None) → ((a : A) → x ≡ Some a → P (Some a)) → P x
option_case P None f g = f refl
option_case P (Some a) f g = g a refl

pub each_more : {A : Type 0} (P Q : A → Type 0) → ((x : A) → P x → Q x) → (xs : List A) → Each P xs → Each Q xs
each_more P Q f [] h = tt
each_more P Q f (x ∷ xs) h = (f x h.0, each_more P Q f xs h.1)

pub each_append : {A : Type 0} (P : A → Type 0) (xs ys : List A) → Each P xs → Each P ys → Each P (xs ++ ys)
each_append P [] ys h k = k
each_append P (x ∷ xs) ys h k = (h.0, each_append P xs ys h.1 k)

pub each_set : {A : Type 0} (P : A → Type 0) (xs : List A) (i : ℕ) (y : A) → Each P xs → P y → Each P (slice_set xs i y)
each_set P [] i y h k = tt
each_set P (x ∷ xs) zero y h k = (k, h.1)
each_set P (x ∷ xs) (suc i) y h k = (h.0, each_set P xs i y h.1 k)

pub each_get : {A : Type 0} (P : A → Type 0) (xs : List A) (i : ℕ) (x : A) → Each P xs → slice_get xs i ≡ Some x → P x
each_get P [] i x h e = cc
each_get P (y ∷ ys) zero x h e = let s : y ≡ x = cc in subst (λ z. P z) s h.0
each_get P (y ∷ ys) (suc i) x h e = each_get P ys i x h.1 e

-- ---- objects

pub later_same : (objects : List ObjectRec) → Later objects objects
later_same objects o k e = e

pub later_then : (a b c : List ObjectRec) → Later a b → Later b c → Later a c
later_then a b c f g o k e = g o k (f o k e)

pub get_front : {A : Type 0} (xs ys : List A) (i : ℕ) (x : A) → slice_get xs i ≡ Some x → slice_get (xs ++ ys) i ≡ Some x
get_front [] ys i x e = cc
get_front (z ∷ zs) ys zero x e = e
get_front (z ∷ zs) ys (suc i) x e = get_front zs ys i x e

pub get_end : {A : Type 0} (xs : List A) (x : A) → slice_get (xs ++ x ∷ []) (length xs) ≡ Some x
get_end [] x = refl
get_end (y ∷ ys) x = get_end ys x

-- an object that is there
pub record IsThere (objects : List ObjectRec) (o : ℕ) (k : ClassNo) : Type 0 where
  pub object : ObjectRec
  pub is : object_at objects o ≡ Some object
  pub class : object.class ≡ k

there_by : (objects : List ObjectRec) (o : ℕ) (k : ClassNo) (r : Option ObjectRec) → object_at objects o ≡ r → class_of r ≡ Some k
    → IsThere objects o k
there_by objects o k None e h = cc
there_by objects o k (Some r) e h = record { object = r; is = e; class = cc }

pub there : (objects : List ObjectRec) (o : ℕ) (k : ClassNo) → class_in objects o ≡ Some k → IsThere objects o k
there objects o k e = there_by objects o k (object_at objects o) refl e

object_front : (objects more : List ObjectRec) (o : ℕ) (r : ObjectRec) → object_at objects o ≡ Some r
    → object_at (objects ++ more) o ≡ Some r
object_front objects more zero r e = cc
object_front objects more (suc i) r e = get_front objects more i r e

pub later_append : (objects more : List ObjectRec) → Later objects (objects ++ more)
later_append objects more o k e =
    let t = there objects o k e in
    ap class_of (object_front objects more o t.object t.is) ∙ ap Some t.class

class_set : (objects : List ObjectRec) (i j : ℕ) (old new : ObjectRec) → slice_get objects i ≡ Some old → new.class ≡ old.class
    → class_of (slice_get (slice_set objects i new) j) ≡ class_of (slice_get objects j)
class_set [] i j old new e h = cc
class_set (x ∷ xs) zero zero old new e h = let s : x ≡ old = cc in ap Some (h ∙ ap (λ (r : ObjectRec). r.class) (sym s))
class_set (x ∷ xs) zero (suc j) old new e h = refl
class_set (x ∷ xs) (suc i) zero old new e h = refl
class_set (x ∷ xs) (suc i) (suc j) old new e h = class_set xs i j old new e h

later_if : (objects : List ObjectRec) (i : ℕ) (change : ObjectRec → ObjectRec) → ((r : ObjectRec) → (change r).class ≡ r.class)
    → (r : Option ObjectRec) → object_at objects i ≡ r → Later objects (changed_if objects i change r)
later_if objects i change keeps None e o k h = h
later_if objects zero change keeps (Some r) e o k h = cc
later_if objects (suc i) change keeps (Some r) e zero k h = h
later_if objects (suc i) change keeps (Some r) e (suc j) k h =
    let s : suc i - 1 ≡ i = omega arith in
    ap (λ n. class_of (slice_get (slice_set objects n (change r)) j)) s ∙ class_set objects i j r (change r) e (keeps r) ∙ h

pub later_changed : (objects : List ObjectRec) (i : ℕ) (change : ObjectRec → ObjectRec) → ((r : ObjectRec) → (change r).class ≡ r.class)
    → Later objects (changed_object objects i change)
later_changed objects i change keeps = later_if objects i change keeps (object_at objects i) refl

pub each_object : (P : ObjectRec → Type 0) (objects : List ObjectRec) (o : ℕ) (r : ObjectRec) → Each P objects
    → object_at objects o ≡ Some r → P r
each_object P objects zero r h e = cc
each_object P objects (suc i) r h e = each_get P objects i r h e

each_if : (P : ObjectRec → Type 0) (objects : List ObjectRec) (i : ℕ) (change : ObjectRec → ObjectRec) → (r : Option ObjectRec)
    → object_at objects i ≡ r → Each P objects → ((r : ObjectRec) → object_at objects i ≡ Some r → P (change r))
    → Each P (changed_if objects i change r)
each_if P objects i change None e h f = h
each_if P objects zero change (Some r) e h f = cc
each_if P objects (suc i) change (Some r) e h f =
    let s : i ≡ suc i - 1 = omega arith in
    subst (λ n. Each P (slice_set objects n (change r))) s (each_set P objects i (change r) h (f r e))

pub each_changed : (P : ObjectRec → Type 0) (objects : List ObjectRec) (i : ℕ) (change : ObjectRec → ObjectRec) → Each P objects
    → ((r : ObjectRec) → object_at objects i ≡ Some r → P (change r)) → Each P (changed_object objects i change)
each_changed P objects i change h f = each_if P objects i change (object_at objects i) refl h f

-- what holds behind a stop where code goes on there
pub goes_on_more : (d : Declared) (p : Parts) (number : ℕ) (o : Operation) (s : Stop) (T S : Type 0) → (T → S)
    → IfGoesOn d p number o s T → IfGoesOn d p number o s S
goes_on_more d p number o (stop.Return gives_self) T S f h = tt
goes_on_more d p number o stop.End T S f h = tt
goes_on_more d p number o (stop.Fail why line) T S f h = tt
goes_on_more d p number o s T S f h = f h

-- ---- what is carried over

module _ (d : Declared) (p : Parts) (a b : List ObjectRec) (later : Later a b) where
  own_by : (o : ℕ) (s : StaticType) (k : Option ClassNo) → class_in a o ≡ k → option_map (class_type d) k ≡ Some s
      → option_map (class_type d) (class_in b o) ≡ Some s
  own_by o s None e h = cc
  own_by o s (Some k) e h = ap (option_map (class_type d)) (later o k e) ∙ h

  own_later : (v : Value) (s : StaticType) → own_type d a v ≡ Some s → own_type d b v ≡ Some s
  own_later (Int z) s h = h
  own_later (Truth c) s h = h
  own_later (Str t) s h = h
  own_later Nil s h = h
  own_later (Ref o) s h = own_by o s (class_in a o) refl h

  pub value_later : (t : StaticType) (v : Value) → HasType d a t v → HasType d b t v
  value_later t v h = record { of = h.of; is = own_later v h.of h.is; fits = h.fits }

  pub read_later : (t : StaticType) (v : Option Value) → IsOfType d a t v → IsOfType d b t v
  read_later t v h = record { value = h.value; is = h.is; fits = value_later t h.value h.fits }

  pub values_later : (ts : List StaticType) (vs : List Value) → AllTwo (HasType d a) ts vs → AllTwo (HasType d b) ts vs
  values_later ts vs h = all_two_right (HasType d a) (HasType d b) value_later ts vs h

  pub fields_later : (k : ClassNo) (vs : List Value) → FineFields d p a k vs → FineFields d p b k vs
  fields_later (Made k) vs h = (h.0, values_later (field_types d (Made k)) vs h.1)
  fields_later (Vector of) vs h =
      each_more (HasType d a (element_static of)) (HasType d b (element_static of)) (value_later (element_static of)) vs h
  fields_later Node vs h = tt
  fields_later Program vs h = tt

  pub objects_later : (rs : List ObjectRec) → Each (FineObject d p a) rs → Each (FineObject d p b) rs
  objects_later rs h = each_more (FineObject d p a) (FineObject d p b) (λ r f. fields_later r.class r.fields f) rs h

  pub hold_later : (vs ts : List Value) (live : List Live) → HoldAll d p a vs ts live → HoldAll d p b vs ts live
  hold_later vs ts live h x t i = read_later t (held vs ts x) (h x t i)

  abbrev pub rests_later : (x : CodeActivation) → RestsAt d p a x → RestsAt d p b x
  rests_later x h = record {
    of = h.of;
    is_operation = h.is_operation;
    line = h.line;
    is_line = h.is_line;
    row = h.row;
    is_row = h.is_row;
    typed = h.typed;
    stop = h.stop;
    own = later x.own h.of.class h.own;
    arguments = h.arguments;
    count = h.count;
  }

  pub behind_later : (x : CodeActivation) (o : Operation) (given : Option StaticType) → LiveBehind d p a x o given
      → LiveBehind d p b x o given
  behind_later x o given h = record { behind = h.behind; taken = h.taken; live = λ y t i. by y t (h.live y t i) }
    where
      by : (y : Variable) (t : StaticType)
          → IsGiven d p given x.into y t
          ⊎ ((x.into ≢ Some y) × IsOfType d a t (held (variables_behind p x x.at) x.temporaries y))
          → IsGiven d p given x.into y t
          ⊎ ((x.into ≢ Some y) × IsOfType d b t (held (variables_behind p x x.at) x.temporaries y))
      by y t (inl g) = inl g
      by y t (inr g) = inr (g.0, read_later t (held (variables_behind p x x.at) x.temporaries y) g.1)

  waits_later : (x : CodeActivation) (op : ℕ) → Waits d p a x op → Waits d p b x op
  waits_later x op h = record {
    called = h.called;
    is = h.is;
    waits = record {
      rests = rests_later x h.waits.rests;
      into = h.waits.into;
      behind = behind_later x h.waits.rests.of h.called.result h.waits.behind;
    };
  }

  pub chain_later : (xs : List CodeActivation) (op : ℕ) → Chain d p a xs op → Chain d p b xs op
  chain_later [] op h = tt
  chain_later (x ∷ []) op h = waits_later x op h
  chain_later (x ∷ y ∷ ys) op h = (waits_later x y.operation h.0, chain_later (y ∷ ys) op h.1)

  abbrev pub pending_later : (x : CodeActivation) → SoundPending d p a x → SoundPending d p b x
  pending_later x h = record {
    rests = rests_later x h.rests;
    operands = record {
      values = h.operands.values;
      are = h.operands.are;
      those = h.operands.those;
      fit = values_later h.rests.typed.types h.operands.values h.operands.fit;
    };
    into = h.into;
    behind =
        goes_on_more d p x.operation h.rests.of h.rests.row.stop (LiveBehind d p a x h.rests.of h.rests.row.gives)
        (LiveBehind d p b x h.rests.of h.rests.row.gives) (behind_later x h.rests.of h.rests.row.gives) h.behind;
  }

  pub done_later : (x : CodeActivation) → SoundDone d p a x → SoundDone d p b x
  done_later x h = record {
    rests = rests_later x h.rests;
    behind = record { code = h.behind.code; no_division = h.behind.no_division };
    live = λ y t i. read_later t (held (variables_behind p x x.at) x.temporaries y) (h.live y t i);
  }

  top_later : (x : CodeActivation) (done : Bool) → TopIs d p a x done → TopIs d p b x done
  top_later x true h = pending_later x h
  top_later x false h = done_later x h

  tower_later : (xs : List CodeActivation) (top : Option CodeActivation) → SoundTower d p a xs top → SoundTower d p b xs top
  tower_later xs None h = tt
  tower_later xs (Some x) h = (chain_later xs x.operation h.0, h.1, top_later x x.pending h.2)

  pub procs_later : (ps : List (Proc CodeActivation)) → Each (SoundProc d p a) ps → Each (SoundProc d p b) ps
  procs_later ps h =
      each_more (SoundProc d p a) (SoundProc d p b)
      (λ q k. record { tower = tower_later (below_of q.activations) (top_of q.activations) k.tower; top = k.top }) ps h

-- ---- what processes share, once objects are added or changed

module _ (d : Declared) (p : Parts) (c : Common) (sound : SoundCommon d p c) where
  -- the objects after, with these of them fine
  pub with_objects : (objects : List ObjectRec) → Later c.objects objects → Each (FineObject d p objects) objects
      → SoundCommon d p (record c { objects = objects })
  with_objects objects later h = record {
    classes = sound.classes;
    objects = h;
    constants = values_later d p c.objects objects later p.constants c.globals sound.constants;
    nodes = λ k l. later (suc k) Node (sound.nodes k l);
  }

  pub with_changed : (i : ℕ) (change : ObjectRec → ObjectRec) → ((r : ObjectRec) → (change r).class ≡ r.class)
      → ((r : ObjectRec) → object_at c.objects i ≡ Some r → FineObject d p c.objects (change r))
      → SoundCommon d p (record c { objects = changed_object c.objects i change })
  with_changed i change keeps f =
      let later = later_changed c.objects i change keeps in
      let objects = changed_object c.objects i change in
      with_objects objects later
      (objects_later d p c.objects objects later objects (each_changed (FineObject d p c.objects) c.objects i change sound.objects f))

  pub with_more : (r : ObjectRec) → FineObject d p c.objects r → SoundCommon d p (record c { objects = c.objects ++ r ∷ [] })
  with_more r f =
      let objects = c.objects ++ r ∷ [] in
      let later = later_append c.objects (r ∷ []) in
      with_objects objects later
      (objects_later d p c.objects objects later objects (each_append (FineObject d p c.objects) c.objects (r ∷ []) sound.objects (f, tt)))

-- what happens is no matter
pub with_events : (d : Declared) (p : Parts) (c : Common) (events : List Event) → SoundCommon d p c → SoundCommon d p
    (record c { events = events })
with_events d p c events s = record { classes = s.classes; objects = s.objects; constants = s.constants; nodes = s.nodes }
