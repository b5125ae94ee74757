-- Owners in a parcel stand each once, since objects and activations rise.
use Rattle.std.proofs.Common.{◌≡◌, ℕ, zero, suc, ◌+◌, ◌^◌, ◌<◌, ◌&&◌, ◌||◌, ◌⊎◌, Bool, true, false, List, [], ◌∷◌, ◌++◌, length, map, take}
use Rattle.std.proofs.Common.{Some, refl, sym, ap, ◌∙◌, arith, inl, inr, ⊎_elim}
use Rattle.std.specs.Prelude.{nat_lt, slice_get}
use Rattle.std.proofs.lemmas.Option.{same_Some}
use Rattle.std.proofs.lemmas.Bool.Decides.{nat_tests}
use Rattle.ec_base.proofs.Lists.{get_there, get_within}
use Rattle.ec_base.specs.Stack.{top_of}
use Rattle.ec_formats.proofs.ListLaws.{each_fits}
use Rattle.ec_formats.proofs.Steps.{first_of_both, second_of_both}
use Rattle.ec_formats.specs.Fields.{at_most}
use Rattle.ec_formats.specs.Lists.{list, list_of}
use Rattle.ec_world.specs.Held.{Distinct}
use Rattle.ec_world.specs.declared.key.Key.{Key}
use Rattle.ec_world.specs.declared.key.Key.TheVariants.{Frame, Object}
use Rattle.ec_parcels.specs.Laws.{KeysAreOnce}
use Rattle.ec_parcels.specs.Owners.{frame_keys, object_keys}
use Rattle.ec_wire.specs.WireForm.{KeepsRules, activation, depth_follows, last_number, monitor, most, object, process_follows, value}
use Rattle.ec_wire.specs.declared.parcel.ActivationPart.{ActivationPart}
use Rattle.ec_wire.specs.declared.parcel.Contents.{Contents}
use Rattle.ec_wire.specs.declared.parcel.ObjectPart.{ObjectPart}
use Rattle.ec_world.proofs.Members.{has_either, has_first, has_later, has_none}
use Rattle.ec_world.specs.Group.{Has}

-- ---- lists in which no item stands twice

module _ {A : Type 0} where
  pub once_tail : (x : A) (xs : List A) → Distinct (x ∷ xs) → Distinct xs
  once_tail x xs once =
      record { once = λ i j y e f. let same : suc i ≡ suc j = once.once (suc i) (suc j) y e f in omega (arith, same) }

  pub once_first : (x : A) (xs : List A) → Distinct (x ∷ xs) → Has xs x → ⊥
  once_first x xs once h = let bad : zero ≡ suc h.at = once.once zero (suc h.at) x refl h.is in cc

  pub once_cons : (x : A) (xs : List A) → (Has xs x → ⊥) → Distinct xs → Distinct (x ∷ xs)
  once_cons x xs absent once = record { once = part }
    where
      no : (i : ℕ) (y : A) → Some x ≡ Some y → slice_get xs i ≡ Some y → ⊥
      no i y e f = absent (record { at = i; is = f ∙ ap Some (sym (same_Some x y e)) })

      part : (i j : ℕ) (y : A) → slice_get (x ∷ xs) i ≡ Some y → slice_get (x ∷ xs) j ≡ Some y → i ≡ j
      part zero zero y e f = refl
      part zero (suc j) y e f = absurd (no j y e f)
      part (suc i) zero y e f = absurd (no i y f e)
      part (suc i) (suc j) y e f = ap suc (once.once i j y e f)

  pub once_none : Distinct {A = A} []
  once_none = record { once = λ i j y e f. absurd (has_none y (record { at = i; is = e })) }

  pub once_both : (xs ys : List A) → Distinct xs → Distinct ys → ((x : A) → Has xs x → Has ys x → ⊥) → Distinct (xs ++ ys)
  once_both [] ys a b apart = b
  once_both (x ∷ xs) ys a b apart =
      once_cons x (xs ++ ys)
      (λ h. ⊎_elim (λ (g : Has xs x). once_first x xs a g) (λ (g : Has ys x). apart x (has_first x xs) g) (has_either x xs ys h))
      (once_both xs ys (once_tail x xs a) b (λ y h g. apart y (has_later x y xs h) g))

-- ---- items that come one before another

-- what stands just before a place
top_before : {A : Type 0} (xs : List A) (i : ℕ) (x : A) → slice_get xs i ≡ Some x → top_of (take (suc i) xs) ≡ Some x
top_before [] i x e = absurd cc
top_before (y ∷ []) zero x e = e
top_before (y ∷ []) (suc i) x e = absurd cc
top_before (y ∷ z ∷ zs) zero x e = e
top_before (y ∷ z ∷ zs) (suc i) x e = top_before (z ∷ zs) i x e

module _ {A : Type 0} (Before : A → A → Type 0) (on : (a b c : A) → Before a b → Before b c → Before a c) (xs : List A)
    (next : (i : ℕ) (x y : A) → slice_get xs i ≡ Some x → slice_get xs (suc i) ≡ Some y → Before x y) where
  -- where each item comes before the next, it comes before all that are behind it
  pub comes_before : (i n : ℕ) (x y : A) → slice_get xs i ≡ Some x → slice_get xs (i + suc n) ≡ Some y → Before x y
  comes_before i zero x y e f =
      let at : i + 1 ≡ suc i = omega arith in
      next i x y e (ap (slice_get xs) (sym at) ∙ f)
  comes_before i (suc n) x y e f =
      let l = get_within xs (i + suc (suc n)) y f in
      let z = get_there xs (i + suc n) (omega arith) in
      let at : i + suc (suc n) ≡ suc (i + suc n) = omega arith in
      on x z.0 y (comes_before i n x z.0 e z.1) (next (i + suc n) z.0 y z.1 (ap (slice_get xs) (sym at) ∙ f))

-- ---- objects

below : (n m : ℕ) → nat_lt n m ≡ true → n < m
below n m e = grind (arith, nat_tests)

abbrev NumberBefore : ObjectPart → ObjectPart → Type 0
NumberBefore a b = a.number < b.number

object_after : (before : List ObjectPart) (last o : ObjectPart) → top_of before ≡ Some last → (object before).fits o ≡ true →
    NumberBefore last o
object_after before last o top fits =
    let bound : nat_lt (last_number (top_of before)) o.number ≡ true = second_of_both _ _ (first_of_both _ _ fits) in
    below last.number o.number (ap (λ t. nat_lt (last_number t) o.number) (sym top) ∙ bound)

pub objects_fit : (x : Contents) → KeepsRules x → (i : ℕ) (o : ObjectPart) → slice_get x.objects i ≡ Some o →
    (object (take i x.objects)).fits o ≡ true
objects_fit x rules =
    let listed : (list most object).fits x.objects ≡ true = first_of_both ((list most object).fits x.objects) _ rules in
    each_fits object x.objects (second_of_both (nat_lt (length x.objects) (2 ^ 32) && at_most most (length x.objects)) _ listed)

pub objects_rise : (x : Contents) → KeepsRules x → (i n : ℕ) (a b : ObjectPart) → slice_get x.objects i ≡ Some a →
    slice_get x.objects (i + suc n) ≡ Some b → a.number < b.number
objects_rise x rules = comes_before NumberBefore (λ a b c h g. omega arith) x.objects
    (λ i a b e f. object_after (take (suc i) x.objects) a b (top_before x.objects i a e) (objects_fit x rules (suc i) b f))

-- an object has less than 2^32 values
pub few_values : (x : Contents) → KeepsRules x → (part : ObjectPart) → Has x.objects part → length part.values < 2 ^ 32
few_values x rules part h =
    let fits = objects_fit x rules h.at part h.is in
    let values : (list_of 16384 value).fits part.values ≡ true = second_of_both _ _ (second_of_both _ _ fits) in
    below (length part.values) (2 ^ 32) (first_of_both _ _ (first_of_both _ _ values))

-- ---- activations

-- by process, then by depth
abbrev pub ActivationBefore : ActivationPart → ActivationPart → Type 0
ActivationBefore a b = (a.process < b.process) ⊎ ((a.process ≡ b.process) × (a.depth < b.depth))

before_on : (a b c : ActivationPart) → ActivationBefore a b → ActivationBefore b c → ActivationBefore a c
before_on a b c h g = ⊎_elim
    (λ (p : a.process < b.process). inl (⊎_elim
    (λ (q : b.process < c.process). omega arith)
    (λ (q : (b.process ≡ c.process) × (b.depth < c.depth)). omega (arith, q.0))
    g))
    (λ (p : (a.process ≡ b.process) × (a.depth < b.depth)). ⊎_elim
    (λ (q : b.process < c.process). inl (omega (arith, p.0)))
    (λ (q : (b.process ≡ c.process) × (b.depth < c.depth)). inr (p.0 ∙ q.0, omega (arith, p.1, q.1)))
    g)
    h

follows : (last b : ActivationPart) → process_follows (Some last) b.process ≡ true → depth_follows (Some last) b.process b.depth ≡ true →
    ActivationBefore last b
follows last b process depth = by (nat_lt last.process b.process) refl depth
  where
    by : (t : Bool) → nat_lt last.process b.process ≡ t → t || nat_lt last.depth b.depth ≡ true → ActivationBefore last b
    by true e f = inl (below last.process b.process e)
    by false e f = inr (grind (arith, nat_tests), below last.depth b.depth f)

activation_after : (before : List ActivationPart) (last b : ActivationPart) → top_of before ≡ Some last →
    (activation before).fits b ≡ true → ActivationBefore last b
activation_after before last b top fits =
    let process : process_follows (top_of before) b.process ≡ true = second_of_both _ _ (first_of_both _ _ fits) in
    let depth : depth_follows (top_of before) b.process b.depth ≡ true =
    second_of_both _ _ (first_of_both _ _ (second_of_both _ _ fits)) in
    follows last b (ap (λ t. process_follows t b.process) (sym top) ∙ process)
    (ap (λ t. depth_follows t b.process b.depth) (sym top) ∙ depth)

activations_fit : (x : Contents) → KeepsRules x → (i : ℕ) (b : ActivationPart) → slice_get x.activations i ≡ Some b →
    (activation (take i x.activations)).fits b ≡ true
activations_fit x rules =
    let behind : (list most monitor).fits x.monitors && (list most activation).fits x.activations ≡ true =
    second_of_both ((list most object).fits x.objects) _ rules in
    let listed : (list most activation).fits x.activations ≡ true = second_of_both ((list most monitor).fits x.monitors) _ behind in
    each_fits activation x.activations
    (second_of_both (nat_lt (length x.activations) (2 ^ 32) && at_most most (length x.activations)) _ listed)

pub activations_rise : (x : Contents) → KeepsRules x → (i n : ℕ) (a b : ActivationPart) → slice_get x.activations i ≡ Some a →
    slice_get x.activations (i + suc n) ≡ Some b → ActivationBefore a b
activations_rise x rules = comes_before ActivationBefore before_on x.activations
    (λ i a b e f. activation_after (take (suc i) x.activations) a b (top_before x.activations i a e) (activations_fit x rules (suc i) b f))

-- ---- their owners

-- the first place is behind the second
abbrev Behind : ℕ → ℕ → Type 0
Behind j i = (n : ℕ) × (j ≡ i + suc n)

-- two places are the same, or one is behind the other
place_or : (i j : ℕ) → (i ≡ j) ⊎ (Behind j i ⊎ Behind i j)
place_or zero zero = inl refl
place_or zero (suc j) = inr (inl (j, omega arith))
place_or (suc i) zero = inr (inr (i, omega arith))
place_or (suc i) (suc j) = ⊎_elim
    (λ (e : i ≡ j). inl (ap suc e))
    (λ (o : Behind j i ⊎ Behind i j). inr (⊎_elim
    (λ (l : Behind j i). inl (l.0, omega (arith, l.1)))
    (λ (r : Behind i j). inr (r.0, omega (arith, r.1)))
    o))
    (place_or i j)

module _ {A B : Type 0} (f : A → B) where
  -- an item of a mapped list is that of an item
  pub get_mapped : (xs : List A) (i : ℕ) (y : B) → slice_get (map f xs) i ≡ Some y → (x : A) × (slice_get xs i ≡ Some x) × (f x ≡ y)
  get_mapped [] i y e = absurd cc
  get_mapped (x ∷ xs) zero y e = (x, refl, cc)
  get_mapped (x ∷ xs) (suc i) y e = get_mapped xs i y e

  pub map_get : (xs : List A) (i : ℕ) (x : A) → slice_get xs i ≡ Some x → slice_get (map f xs) i ≡ Some (f x)
  map_get [] i x e = absurd cc
  map_get (y ∷ ys) zero x e = cc
  map_get (y ∷ ys) (suc i) x e = map_get ys i x e

  -- where items further behind have other images, each image stands once
  once_mapped : (xs : List A) →
      ((i n : ℕ) (x y : A) → slice_get xs i ≡ Some x → slice_get xs (i + suc n) ≡ Some y → f x ≡ f y → ⊥) → Distinct (map f xs)
  once_mapped xs differ = record { once = λ i j y e g. by i j y e g (place_or i j) }
    where
      never : (i n j : ℕ) (y : B) → j ≡ i + suc n → slice_get (map f xs) i ≡ Some y → slice_get (map f xs) j ≡ Some y → ⊥
      never i n j y at e g =
          let a = get_mapped xs i y e in
          let b = get_mapped xs j y g in
          differ i n a.0 b.0 a.1 (ap (slice_get xs) (sym at) ∙ b.1) (a.2 ∙ sym b.2)

      by : (i j : ℕ) (y : B) → slice_get (map f xs) i ≡ Some y → slice_get (map f xs) j ≡ Some y → (i ≡ j) ⊎ (Behind j i ⊎ Behind i j) →
          i ≡ j
      by i j y e g place = ⊎_elim
          (λ (same : i ≡ j). same)
          (λ (o : Behind j i ⊎ Behind i j). ⊎_elim
          (λ (l : Behind j i). absurd (never i l.0 j y l.1 e g))
          (λ (r : Behind i j). absurd (never j r.0 i y r.1 g e))
          o)
          place

pub objects_once : (x : Contents) → KeepsRules x → Distinct (object_keys x.objects)
objects_once x rules = once_mapped (λ (o : ObjectPart). Object o.number) x.objects
    (λ i n a b e f same. (let l = objects_rise x rules i n a b e f in let is : a.number ≡ b.number = cc in omega arith))

frames_differ : (a b : ActivationPart) → ActivationBefore a b → Frame a.process a.depth ≡ Frame b.process b.depth → ⊥
frames_differ a b h same =
    let process : a.process ≡ b.process = cc in
    let depth : a.depth ≡ b.depth = cc in
    ⊎_elim
    (λ (p : a.process < b.process). omega arith)
    (λ (p : (a.process ≡ b.process) × (a.depth < b.depth)). omega (arith, p.1))
    h

pub frames_once : (x : Contents) → KeepsRules x → Distinct (frame_keys x.activations)
frames_once x rules = once_mapped (λ (a : ActivationPart). Frame a.process a.depth) x.activations
    (λ i n a b e f same. frames_differ a b (activations_rise x rules i n a b e f) same)

apart : (x : Contents) (key : Key) → Has (object_keys x.objects) key → Has (frame_keys x.activations) key → ⊥
apart x key h g =
    let o = get_mapped (λ (p : ObjectPart). Object p.number) x.objects h.at key h.is in
    let a = get_mapped (λ (p : ActivationPart). Frame p.process p.depth) x.activations g.at key g.is in
    let same = o.2 ∙ sym a.2 in
    cc

pub keys_once : KeysAreOnce
keys_once x rules = once_both (object_keys x.objects) (frame_keys x.activations) (objects_once x rules) (frames_once x rules) (apart x)
