-- How many activations of a process have asked to enter a monitor, once one of them has acted.
use Rattle.std.proofs.Common.{◌≡◌, ◌∙◌, ◌∷◌, ◌++◌, ◌≤◌, ◌+◌, ◌==◌, ℕ, zero, suc, Bool, true, false, [], List, map, reverse}
use Rattle.std.proofs.Common.{Option, Some, None, ⊎_elim, refl, sym, ap, subst, arith}
use Rattle.std.proofs.lemmas.Bool.Decides.{Decides-eqb}
use Rattle.std.proofs.lemmas.List.{reverse-append}
use Rattle.std.specs.Prelude.{◌&&◌, not}
use Rattle.ec_base.proofs.Stacks.{stack_parts, top_of_none}
use Rattle.ec_base.specs.Stack.{below_of, top_of}
use Rattle.ec_monitors.specs.Standing.{one_if}
use Rattle.ec_world.proofs.Counting.{count_if}
use Rattle.ec_world.proofs.Members.{has_back, has_first, has_front, has_later, has_none, has_parts}
use Rattle.ec_world.specs.declared.class.ClassNo.{ClassNo}
use Rattle.ec_world.specs.declared.class.ClassNo.TheVariants.{Node, Program, Made, Vector}
use Rattle.ec_world.specs.declared.class.ClassRec.{ClassRec}
use Rattle.ec_world.specs.declared.common.Common.{Common}
use Rattle.ec_world.specs.declared.stop.Effect.{Effect}
use Rattle.ec_world.specs.declared.stop.Effect.TheVariants.{GoesOn, Calls as CallsFor, Leaves, Blocks, Ends, Fails}
use Rattle.ec_world.specs.declared.stop.Stop.{Stop}
use Rattle.ec_world.specs.declared.stop.Stop.TheVariants as stop
use Rattle.ec_world.specs.declared.value.Value.{Value}
use Rattle.ec_world.specs.Doings.{is_section, runs_inside}
use Rattle.ec_world.specs.Group.{Has}
use Rattle.ec_world.specs.Meaning.{ActivationMeaning}
use Rattle.ec_world.specs.Objects.{object_at, operation_in}
use Rattle.ec_world.specs.Sights.{class_if, class_of}
use Rattle.ec_world.specs.World.{changed, finish_top, owns_of}
use Rattle.ec_reached.proofs.Later.{Later, class_same}
use Rattle.ec_reached.proofs.Shapes.{is_staying}
use Rattle.ec_reached.specs.Depths.{has_asked, times_asked}
use Rattle.ec_reached.specs.Meant.{IsNotCalled, StaysItself, is_coming, is_entry}
use Rattle.ec_reached.specs.Stacks.{Begins, Calls, EachCalls, IsCalled, LowestBegins, class_on, runs_within}

-- ---- the objects of activations are there

abbrev pub IsObject : Common → ℕ → Type 0
IsObject c o = (k : ClassNo) × (class_of (object_at c.objects o) ≡ Some k)

class_object : (c : Common) (o : ℕ) (t : Option ClassNo) → class_of (object_at c.objects o) ≡ t → (k : ClassRec) →
    class_if c.classes t ≡ Some k → IsObject c o
class_object c o None is k e = absurd cc
class_object c o (Some class) is k e = (class, is)

class_is_object : (c : Common) (o : ℕ) (k : ClassRec) → class_on c o ≡ Some k → IsObject c o
class_is_object c o k e = class_object c o (class_of (object_at c.objects o)) refl k e

named_object : (c : Common) (o name op : ℕ) (t : Option ClassRec) → class_on c o ≡ t → operation_in t name ≡ Some op → IsObject c o
named_object c o name op None is e = absurd cc
named_object c o name op (Some k) is e = class_is_object c o k is

called_object : (c : Common) (it : Stop) (vs : List Value) (op own : ℕ) → IsCalled c it vs op own → IsObject c own
called_object c (stop.Invoke name line) vs op own h = named_object c own name op (class_on c own) refl h.named
called_object c (stop.New class) vs op own h = (class, h.is_class)
called_object c it vs op own h = absurd h

-- ---- operations that are called

has_class : (classes : List ClassRec) (t : Option ClassNo) (k : ClassRec) → class_if classes t ≡ Some k → Has classes k
has_class classes None k e = absurd cc
has_class classes (Some Node) k e = absurd cc
has_class classes (Some Program) k e = absurd cc
has_class classes (Some (Vector of)) k e = absurd cc
has_class classes (Some (Made i)) k e = record { at = i; is = e }

named_class : (c : Common) (o name op : ℕ) (t : Option ClassRec) → class_on c o ≡ t → operation_in t name ≡ Some op →
    IsNotCalled c.classes op → ⊥
named_class c o name op None is e n = absurd cc
named_class c o name op (Some k) is e n = n.named k name (has_class c.classes (class_of (object_at c.objects o)) k is) e

-- what is called is an operation that a class has for calls
not_called : (c : Common) (it : Stop) (vs : List Value) (op own : ℕ) → IsCalled c it vs op own → IsNotCalled c.classes op → ⊥
not_called c (stop.Invoke name line) vs op own h n = named_class c own name op (class_on c own) refl h.named n
not_called c (stop.New class) vs op own h n = n.initial h.of (has_class c.classes (Some class) h.of h.is) h.initial
not_called c it vs op own h n = h

-- ---- counts

count_both : (a b : Bool) → one_if (a && b) ≡ count_if a (one_if b)
count_both true b = refl
count_both false b = refl

one_true : (a b : Bool) → 1 ≤ one_if (a && b) → a ≡ true
one_true true b h = refl
one_true false b h = absurd (omega arith)

and_true : (b : Bool) → (b && true) ≡ b
and_true true = refl
and_true false = refl

pub and_false : (b : Bool) → (b && false) ≡ false
and_false true = refl
and_false false = refl

has_reverse : {B : Type 0} (xs : List B) (x : B) → Has xs x → Has (reverse xs) x
has_reverse [] x h = absurd (has_none x h)
has_reverse (y ∷ ys) x h =
    subst (λ zs. Has zs x) (sym (reverse-append (y ∷ []) ys))
    (⊎_elim (λ (e : x ≡ y). subst (λ z. Has (reverse ys ++ y ∷ []) z) (sym e) (has_back y (reverse ys) (y ∷ []) (has_first y [])))
    (λ (k : Has ys x). has_front x (reverse ys) (y ∷ []) (has_reverse ys x k)) (has_parts y x ys h))

module _ {A : Type 0} (M : ActivationMeaning A) where
  -- the objects of these activations are there
  abbrev pub AllThere : Common → List A → Type 0
  AllThere c [] = Unit {0}
  AllThere c (a ∷ more) = IsObject c (M.own a) × AllThere c more

  begins_there : (c : Common) (p : ℕ) (a : A) → Begins M c p a → IsObject c (M.own a)
  begins_there c zero a h = (Program, ap (λ o. class_of (object_at c.objects o)) h.own ∙ h.class)
  begins_there c (suc p) a h = class_is_object c (M.own a) h.of h.is

  there_from : (c : Common) (a : A) (xs : List A) → IsObject c (M.own a) → EachCalls M c (a ∷ xs) → AllThere c (a ∷ xs)
  there_from c a [] h k = (h, tt)
  there_from c a (b ∷ bs) h k =
      (h, there_from c b bs (called_object c (M.stop a) (M.operands a) (M.operation b) (M.own b) k.0.called) k.1)

  pub all_there : (c : Common) (p : ℕ) (xs : List A) → LowestBegins M c p xs → EachCalls M c xs → AllThere c xs
  all_there c p [] h k = tt
  all_there c p (a ∷ xs) h k = there_from c a xs (begins_there c p a h) k

  -- ---- one activation

  abbrev pub asks : Common → ℕ → A → ℕ
  asks c o a = one_if (has_asked M c o a)

  pub within_later : (c d : Common) → Later c d → (a : A) → IsObject c (M.own a) → runs_within M d a ≡ runs_within M c a
  within_later c d l a h = ap (λ k. runs_inside k (M.operation a)) (class_same c d l (M.own a) h.0 h.1)

  pub asked_later : (c d : Common) → Later c d → (o : ℕ) (xs : List A) → AllThere c xs → times_asked M d o xs ≡ times_asked M c o xs
  asked_later c d l o [] h = refl
  asked_later c d l o (a ∷ more) h =
      let k = asked_later c d l o more h.1 in
      let e : asks d o a ≡ asks c o a = ap (λ b. one_if ((M.own a == o) && (b && not (is_coming M a)))) (within_later c d l a h.0) in
      omega arith

  module _ (c : Common) (o : ℕ) where
    -- it is one that may ask
    abbrev pub may_ask : A → ℕ
    may_ask a = one_if ((M.own a == o) && runs_within M c a)

    asks_by : (a : A) (b : Bool) → is_coming M a ≡ b → asks c o a ≡ count_if (not b) (may_ask a)
    asks_by a true e =
        ap (λ b. one_if ((M.own a == o) && (runs_within M c a && not b))) e
        ∙ ap (λ b. one_if ((M.own a == o) && b)) (and_false (runs_within M c a)) ∙ ap one_if (and_false (M.own a == o))
    asks_by a false e =
        ap (λ b. one_if ((M.own a == o) && (runs_within M c a && not b))) e
        ∙ ap (λ b. one_if ((M.own a == o) && b)) (and_true (runs_within M c a))

    pub coming_asks : (a : A) → is_coming M a ≡ true → asks c o a ≡ 0
    coming_asks a e = asks_by a true e

    pub come_asks : (a : A) → is_coming M a ≡ false → asks c o a ≡ may_ask a
    come_asks a e = asks_by a false e

    -- of the same operation and on the same object
    pub may_same : (a b : A) → M.operation b ≡ M.operation a → M.own b ≡ M.own a → may_ask b ≡ may_ask a
    may_same a b e f =
        ap (λ n. one_if ((n == o) && runs_inside (class_on c n) (M.operation b))) f
        ∙ ap (λ n. one_if ((M.own a == o) && runs_inside (class_on c (M.own a)) n)) e

    pub asked_push : (xs : List A) (x : A) → times_asked M c o (xs ++ x ∷ []) ≡ times_asked M c o xs + asks c o x
    asked_push [] x = omega arith
    asked_push (y ∷ ys) x = let k = asked_push ys x in omega arith

    -- who asked is on the object
    asked_own : (xs : List A) → 1 ≤ times_asked M c o xs → Has (map M.own xs) o
    asked_own [] h = absurd (omega arith)
    asked_own (a ∷ more) h = by (λ k. asked_own more k) (has_asked M c o a) refl
      where
        by : (1 ≤ times_asked M c o more → Has (map M.own more) o) → (b : Bool) → has_asked M c o a ≡ b → Has (map M.own (a ∷ more)) o
        by rest true e =
            let t : (M.own a == o) ≡ true = one_true (M.own a == o) (runs_within M c a && not (is_coming M a))
            (let n : one_if (has_asked M c o a) ≡ 1 = ap one_if e in omega arith) in
            let same : M.own a ≡ o = (Decides-eqb (M.own a) o).0 t in
            subst (λ z. Has (map M.own (a ∷ more)) z) same (has_first (M.own a) (map M.own more))
        by rest false e =
            let n : one_if (has_asked M c o a) ≡ 0 = ap one_if e in
            has_later (M.own a) o (map M.own more) (rest (omega arith))

    pub asked_owns : (below : List A) (top : A) → 1 ≤ times_asked M c o (below ++ top ∷ []) → Has (owns_of M below top) o
    asked_owns below top h = by (has_asked M c o top) refl
      where
        k : times_asked M c o (below ++ top ∷ []) ≡ times_asked M c o below + asks c o top
        k = asked_push below top

        by : (b : Bool) → has_asked M c o top ≡ b → Has (owns_of M below top) o
        by true e =
            let t : (M.own top == o) ≡ true = one_true (M.own top == o) (runs_within M c top && not (is_coming M top))
            (let n : one_if (has_asked M c o top) ≡ 1 = ap one_if e in omega arith) in
            let same : M.own top ≡ o = (Decides-eqb (M.own top) o).0 t in
            subst (λ z. Has (owns_of M below top) z) same (has_first (M.own top) (reverse (map M.own below)))
        by false e =
            let n : one_if (has_asked M c o top) ≡ 0 = ap one_if e in
            has_later (M.own top) o (reverse (map M.own below))
            (has_reverse (map M.own below) o (asked_own below (let s = k in omega arith)))

    -- ---- the process that acts

    module _ (stays : StaysItself M) where
      pub not_pending : (a : A) → M.is_pending a ≡ false → is_coming M a ≡ false
      not_pending a e = ap (λ b. is_entry (M.stop a) && b) e ∙ and_false (is_entry (M.stop a))

      pub done_asks : (a : A) (given : Option Value) → asks c o (M.finished a given) ≡ may_ask a
      done_asks a given =
          let f = stays.finished a given in
          come_asks (M.finished a given) (not_pending (M.finished a given) f.done)
          ∙ may_same a (M.finished a given) f.operation f.own

      begun_asks : (op own : ℕ) (args : List Value) → asks c o (M.begun op own args) ≡ 0
      begun_asks op own args =
          let n = stays.begun op own args in
          coming_asks (M.begun op own args) (ap (λ t. is_entry t && M.is_pending (M.begun op own args)) n.stop ∙ n.pending)

      pub begun_none : (op own : ℕ) → times_asked M c o (M.begun op own [] ∷ []) ≡ 0
      begun_none op own = let k = begun_asks op own [] in omega arith

      -- its activation on top stays, its action done
      pub stay_asked : (below : List A) (top : A) (e : Effect) → is_staying e ≡ true →
          times_asked M c o (changed M below top e).activations ≡ times_asked M c o below + may_ask top
      stay_asked below top (GoesOn given) e =
          let k = asked_push below (M.finished top given) in let d = done_asks top given in omega arith
      stay_asked below top (Blocks queue own) e =
          let k = asked_push below (M.finished top None) in let d = done_asks top None in omega arith
      stay_asked below top (CallsFor op own args) e =
          let k = asked_push below (M.finished top None) in
          let d = done_asks top None in
          let j = asked_push (below ++ M.finished top None ∷ []) (M.begun op own args) in
          let z = begun_asks op own args in
          omega arith
      stay_asked below top (Leaves given) e = absurd cc
      stay_asked below top Ends e = absurd cc
      stay_asked below top (Fails why line) e = absurd cc

      -- whoever lies below it has its action done
      pub left_asked : (below : List A) (top : A) (given : Option Value) →
          ((x : A) → top_of below ≡ Some x → M.is_pending x ≡ false) →
          times_asked M c o (changed M below top (Leaves given)).activations ≡ times_asked M c o below
      left_asked below top given h = by (top_of below) refl
        where
          by : (t : Option A) → top_of below ≡ t → times_asked M c o (finish_top M (below_of below) t given) ≡ times_asked M c o below
          by None e = sym (ap (times_asked M c o) (top_of_none below e))
          by (Some x) e =
              let k = asked_push (below_of below) (M.finished x given) in
              let j = asked_push (below_of below) x in
              let d = done_asks x given in
              let w = come_asks x (not_pending x (h x e)) in
              let s : times_asked M c o below ≡ times_asked M c o (below_of below ++ x ∷ []) = ap (times_asked M c o) (stack_parts below x e) in
              omega arith

  -- ---- who lies below

  pub below_calls : (c : Common) (xs : List A) (x y : A) → EachCalls M c (xs ++ x ∷ []) → top_of xs ≡ Some y → Calls M c y x
  below_calls c [] x y h e = absurd cc
  below_calls c (a ∷ []) x y h e = let same : a ≡ y = cc in subst (λ z. Calls M c z x) same h.0
  below_calls c (a ∷ b ∷ bs) x y h e = below_calls c (b ∷ bs) x y h.1 e

  -- an activation whose operation no class has for a call is the lowest
  pub lowest_alone : (c : Common) (below : List A) (top : A) → EachCalls M c (below ++ top ∷ []) → IsNotCalled c.classes (M.operation top) →
      below ≡ []
  lowest_alone c below top h n = by (top_of below) refl
    where
      by : (t : Option A) → top_of below ≡ t → below ≡ []
      by None e = top_of_none below e
      by (Some x) e =
          let k = below_calls c below top x h e in
          absurd (not_called c (M.stop x) (M.operands x) (M.operation top) (M.own top) k.called n)

  section_outside : (k : ClassRec) (op : ℕ) → k.process ≡ Some op → runs_inside (Some k) op ≡ false
  section_outside k op e =
      ap (λ t. k.monitored && not (is_section t op)) e
      ∙ ap (λ b. k.monitored && not b) ((Decides-eqb op op).1 refl) ∙ and_false k.monitored

  -- the lowest activation of a process runs in no monitor
  pub lowest_outside : (c : Common) (p : ℕ) (a : A) → Begins M c p a → runs_within M c a ≡ false
  lowest_outside c zero a h =
      ap (λ n. runs_inside (class_if c.classes (class_of (object_at c.objects n))) (M.operation a)) h.own
      ∙ ap (λ t. runs_inside (class_if c.classes t) (M.operation a)) h.class
  lowest_outside c (suc p) a h =
      ap (λ t. runs_inside t (M.operation a)) h.is ∙ section_outside h.of (M.operation a) h.section
