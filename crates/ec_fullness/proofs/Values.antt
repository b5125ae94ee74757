-- The texts that an activation holds once its action is done: those that it held, and what it takes of what the stop gives.
use Rattle.std.proofs.Common.{◌≡◌, ◌≢◌, ◌⊎◌, ℕ, zero, suc, ◌+◌, ◌<◌, ◌≤◌, inl, inr, ⊎_elim, List, [], ◌∷◌, ◌++◌, length, map}
use Rattle.std.proofs.Common.{Option, Some, None, false, refl, sym, ap, ◌∙◌, subst, arith}
use Rattle.std.specs.Prelude.{if◌then◌else◌, slice_get, slice_set}
use Rattle.std.proofs.lemmas.Option.{same_Some}
use Rattle.ec_activations.proofs.Stops.{in_list, mapped}
use Rattle.ec_activations.specs.Frames.{Held, held_if, held_in, held_of, or_nil, result_in, taker_of, value_in}
use Rattle.ec_base.proofs.Lists.{get_set_other, get_set_same}
use Rattle.ec_cluster.proofs.Resting.{OfOperation, of_operation}
use Rattle.ec_code.specs.Activations.{finished, into_variable, variables_behind, variables_if, with_result}
use Rattle.ec_code.specs.Fine.{Fine}
use Rattle.ec_code.specs.Typing.{Declared}
use Rattle.ec_code.specs.declared.activation.CodeActivation.{CodeActivation}
use Rattle.ec_code.specs.declared.code.Live.{Live}
use Rattle.ec_code.specs.declared.code.Parts.{Parts}
use Rattle.ec_code.specs.declared.code.Variable.{Variable}
use Rattle.ec_code.specs.declared.code.Variable.TheVariants.{Named, Temporary}
use Rattle.ec_machine_code.specs.Limits.{HasLimits}
use Rattle.ec_machine_code.specs.Homes.{IsVariable}
use Rattle.ec_node_frames.proofs.AtStop.{has_column, no_entry, not_taken}
use Rattle.ec_node_frames.proofs.Done.{ended_is_done}
use Rattle.ec_node_frames.proofs.Items.{get_behind, get_map, put_beside, put_here}
use Rattle.ec_node_frames.proofs.Rewriting.{IsDone, held_now}
use Rattle.ec_node_frames.specs.Finishing.{IsTaken}
use Rattle.ec_node_frames.specs.Frames.{RestsAt}
use Rattle.ec_generate.specs.declared.table.StopEntry.{StopEntry}
use Rattle.ec_world.specs.Group.{Has}
use Rattle.ec_world.specs.declared.value.Value.{Value}
use Rattle.ec_world.specs.declared.value.Value.TheVariants.{Ref, Str}

-- ---- what an activation holds

-- the values in its frame
abbrev pub values_of : Parts → CodeActivation → List Value
values_of p a = Ref a.own ∷ map (λ (h : Held). h.value) (held_of p a)

-- a text is the value of a variable at a place among some
pub record Holds (p : Parts) (a : CodeActivation) (ls : List Live) (text : List ℕ) : Type 0 where
  pub at : ℕ
  pub live : Live
  pub there : slice_get ls at ≡ Some live
  pub is : value_in p a live.variable ≡ Str text

pub has_either : {A : Type 0} (xs ys : List A) (i : ℕ) (x : A) → slice_get (xs ++ ys) i ≡ Some x → Has xs x ⊎ Has ys x
has_either [] ys i x e = inr (record { at = i; is = e })
has_either (z ∷ zs) ys zero x e = inl (record { at = zero; is = e })
has_either (z ∷ zs) ys (suc i) x e = ⊎_elim
    (λ (h : Has zs x). inl (record { at = suc h.at; is = h.is }))
    (λ (h : Has ys x). inr h)
    (has_either zs ys i x e)

-- something held has a text as its value
pub record HoldsText (hs : List Held) (text : List ℕ) : Type 0 where
  pub at : ℕ
  pub held : Held
  pub there : slice_get hs at ≡ Some held
  pub is : held.value ≡ Str text

-- a text in the frame is the value of something held
pub held_text : (p : Parts) (a : CodeActivation) (text : List ℕ) → Has (values_of p a) (Str text) → HoldsText (held_of p a) text
held_text p a text h = by h.at h.is
  where
    by : (i : ℕ) → slice_get (values_of p a) i ≡ Some (Str text) → HoldsText (held_of p a) text
    by zero e = absurd cc
    by (suc i) e =
        let m = mapped (λ (x : Held). x.value) (held_of p a) i (Str text) e in
        record { at = i; held = m.0; there = m.1; is = sym m.2 }

text_held : (p : Parts) (a : CodeActivation) (text : List ℕ) (i : ℕ) (h : Held) → slice_get (held_of p a) i ≡ Some h →
    h.value ≡ Str text → Has (values_of p a) (Str text)
text_held p a text i h e is = record { at = suc i; is = get_map (λ (x : Held). x.value) (held_of p a) i h e ∙ ap Some is }

-- one of the values of some variables
pub in_held : (p : Parts) (a : CodeActivation) (ls : List Live) (text : List ℕ) (i : ℕ) (h : Held) →
    slice_get (held_in p a ls) i ≡ Some h →
    h.value ≡ Str text → Holds p a ls text
in_held p a ls text i h e is =
    let m = mapped (λ (l : Live). record { variable = l.variable; value = value_in p a l.variable }) ls i h e in
    record { at = i; live = m.0; there = m.1; is = sym (ap (λ (x : Held). x.value) m.2) ∙ is }

-- ---- values of variables

abbrev ended : CodeActivation → CodeActivation
ended a = record a { pending = false }

same_behind : (p : Parts) (a : CodeActivation) (n : ℕ) → variables_behind p (ended a) n ≡ variables_behind p a n
same_behind p a zero = refl
same_behind p a (suc n) = refl

same_value : (p : Parts) (a : CodeActivation) (x : Variable) → value_in p (ended a) x ≡ value_in p a x
same_value p a (Named n) = ap (λ (vs : List Value). or_nil (slice_get vs n)) (same_behind p a a.at)
same_value p a (Temporary d) = refl

given_is_done : (a : CodeActivation) (x : Variable) (v : Value) → IsDone a (with_result a x v)
given_is_done a (Named n) v = record { operation = refl; own = refl; at = refl; done = refl }
given_is_done a (Temporary d) v = record { operation = refl; own = refl; at = refl; done = refl }

waits_no_more : (a : CodeActivation) (x : Variable) (v : Value) → (with_result a x v).into ≡ None
waits_no_more a (Named n) v = refl
waits_no_more a (Temporary d) v = refl

still_waits : (p : Parts) (a : CodeActivation) (r : Option Live) (into : Option Variable) → into ≡ taker_of r → result_in p a r into ≡ []
still_waits p a None into e = refl
still_waits p a (Some l) into e = ap (result_in p a (Some l)) e

no_place : {A : Type 0} (xs : List A) (i : ℕ) (x : A) → xs ≡ [] → slice_get xs i ≡ Some x → ⊥
no_place [] i x e h = cc
no_place (y ∷ ys) i x e h = cc

module _ (p : Parts) (a : CodeActivation) where
  all_there : (at : ℕ) → at ≢ 0 → variables_behind p a at ≡ a.variables
  all_there zero ne = absurd (ne refl)
  all_there (suc at) ne = refl

  one_set : (n : ℕ) (v : Value) (at : ℕ) → at ≢ 0 → variables_behind p (with_result a (Named n) v) at ≡ slice_set a.variables n v
  one_set n v zero ne = absurd (ne refl)
  one_set n v (suc at) ne = refl

  none_set : (c : ℕ) (v : Value) (at : ℕ) → variables_behind p (with_result a (Temporary c) v) at ≡ variables_behind p a at
  none_set c v zero = refl
  none_set c v (suc at) = refl

  value_here : (named : ℕ) (x : Variable) (v : Value) → IsVariable named x → named ≤ length a.variables → a.at ≢ 0 →
      value_in p (with_result a x v) x ≡ v
  value_here named (Named n) v is many ne =
      ap (λ (vs : List Value). or_nil (slice_get vs n)) (one_set n v a.at ne)
      ∙ ap or_nil (get_set_same a.variables n v (omega (arith, is, many)))
  value_here named (Temporary c) v is many ne = ap or_nil (put_here a.temporaries c v)

  value_beside : (x : Variable) (v : Value) (y : Variable) → y ≢ x → a.at ≢ 0 → value_in p (with_result a x v) y ≡ value_in p a y
  value_beside (Named n) v (Named k) apart ne =
      ap (λ (vs : List Value). or_nil (slice_get vs k)) (one_set n v a.at ne)
      ∙ ap or_nil (get_set_other a.variables n k v (λ q. apart (ap Named q)))
      ∙ sym (ap (λ (vs : List Value). or_nil (slice_get vs k)) (all_there a.at ne))
  value_beside (Named n) v (Temporary k) apart ne = refl
  value_beside (Temporary c) v (Named k) apart ne = ap (λ (vs : List Value). or_nil (slice_get vs k)) (none_set c v a.at)
  value_beside (Temporary c) v (Temporary k) apart ne = put_beside a.temporaries c k v (λ q. apart (ap Temporary q))

-- ---- the action is done

-- a stop behind which nothing is held
pub record IsLast (e : StopEntry) : Type 0 where
  pub result : e.result ≡ None
  pub live : e.live ≡ []

-- An activation rests at a stop, and waits for what this gives, or holds nothing behind it.
pub record WaitsAt (p : Parts) (a : CodeActivation) (e : StopEntry) : Type 0 where
  pub rests : RestsAt p a e
  pub waits : (a.into ≡ taker_of e.result) ⊎ IsLast e

module _ (p : Parts) (a : CodeActivation) (e : StopEntry) (rests : RestsAt p a e) where
  -- what is live behind the stop is held already
  live_before : (text : List ℕ) → Holds p a e.live text → Has (values_of p a) (Str text)
  live_before text h =
      let front : List Held = if a.pending then held_in p a e.operands else result_in p a e.result a.into in
      let one : Held = record { variable = h.live.variable; value = value_in p a h.live.variable } in
      let behind : slice_get (held_in p a e.live) h.at ≡ Some one =
      get_map (λ (l : Live). record { variable = l.variable; value = value_in p a l.variable }) e.live h.at h.live h.there in
      text_held p a text (length front + h.at) one
      (ap (λ s. slice_get (held_if p a s) (length front + h.at)) rests.is
      ∙ get_behind front (held_in p a e.live) (length front + h.at) h.at refl ∙ behind) h.is

  module _ (a' : CodeActivation) (done : IsDone a a') where
    -- a text held afterwards is what the stop gave, or is live behind it
    after_cases : (text : List ℕ) → Has (values_of p a') (Str text) →
        HoldsText (result_in p a' e.result a'.into) text ⊎ Holds p a' e.live text
    after_cases text h =
        let x = held_text p a' text h in
        let there = ap (λ (hs : List Held). slice_get hs x.at) (sym (held_now p a a' done e rests)) ∙ x.there in
        ⊎_elim
        (λ (f : Has (result_in p a' e.result a'.into) x.held). inl (record { at = f.at; held = x.held; there = f.is; is = x.is }))
        (λ (b : Has (held_in p a' e.live) x.held). inr (in_held p a' e.live text b.at x.held b.is x.is))
        (has_either (result_in p a' e.result a'.into) (held_in p a' e.live) x.at x.held there)

    -- nothing is held behind the last stop
    last_holds_none : IsLast e → (text : List ℕ) → Has (values_of p a') (Str text) → ⊥
    last_holds_none last text h = ⊎_elim
        (λ (r : HoldsText (result_in p a' e.result a'.into) text).
        no_place (result_in p a' e.result a'.into) r.at r.held (ap (λ r. result_in p a' r a'.into) last.result) r.there)
        (λ (l : Holds p a' e.live text). no_place e.live l.at l.live last.live l.there)
        (after_cases text h)

finished_is_done : (a : CodeActivation) (given : Option Value) → IsDone a (finished a given)
finished_is_done a None = ended_is_done a
finished_is_done a (Some v) = by a.into
  where
    by : (x : Option Variable) → IsDone a (into_variable a x v)
    by None = ended_is_done a
    by (Some x) = given_is_done a x v

module _ (d : Declared) (p : Parts) (fine : Fine d p) (limits : HasLimits p) (a : CodeActivation) (e : StopEntry) (rests : RestsAt p a e)
    (waits : a.into ≡ taker_of e.result) where
  -- nothing comes where the action is done and nothing is taken
  ended_before : (text : List ℕ) → Has (values_of p (ended a)) (Str text) → Has (values_of p a) (Str text)
  ended_before text h = ⊎_elim
      (λ (r : HoldsText (result_in p (ended a) e.result a.into) text).
      absurd
      (no_place (result_in p (ended a) e.result a.into) r.at r.held (still_waits p (ended a) e.result a.into waits) r.there))
      (λ (l : Holds p (ended a) e.live text).
      live_before p a e rests text
      (record { at = l.at; live = l.live; there = l.there; is = sym (same_value p a l.live.variable) ∙ l.is }))
      (after_cases p a e rests (ended a) (ended_is_done a) text h)

  -- ---- something is taken

  module _ (l : Live) (v : Value) (result : e.result ≡ Some l) where
    abbrev next : CodeActivation
    next = with_result a l.variable v

    of : OfOperation p a (record { number = rests.number; entry = e })
    of = of_operation p a (record { number = rests.number; entry = e }) rests.is

    not_first : a.at ≢ 0
    not_first = no_entry d p fine limits a of.operation of.is e rests l result

    value_is : value_in p next l.variable ≡ v
    value_is =
        let c = has_column d p fine limits a of.operation of.is e rests l result in
        let some : 0 < a.at = (let ne = not_first in omega (arith, ne)) in
        let many : length of.operation.variables ≤ length a.variables =
        subst (λ n. n ≤ length a.variables) (ap (λ q. length (variables_if q)) of.is) (rests.named some) in
        value_here p a (length of.operation.variables) l.variable v c.is_variable many not_first

    value_kept : (j : ℕ) (k : Live) → slice_get e.live j ≡ Some k → value_in p next k.variable ≡ value_in p a k.variable
    value_kept j k is =
        let ne = not_taken d p fine limits a of.operation of.is e rests l result k (in_list e.live j k is) in
        value_beside p a l.variable v k.variable ne not_first

    result_is : result_in p next e.result next.into ≡ held_in p next (l ∷ [])
    result_is = ap (λ r. result_in p next r next.into) result ∙ ap (result_in p next (Some l)) (waits_no_more a l.variable v)

    next_before : (text : List ℕ) → Has (values_of p next) (Str text) → Has (values_of p a) (Str text) ⊎ (v ≡ Str text)
    next_before text h = ⊎_elim
        (λ (r : HoldsText (result_in p next e.result next.into) text).
        inr (of_result r.at r.held (ap (λ (hs : List Held). slice_get hs r.at) (sym result_is) ∙ r.there) r.is))
        (λ (k : Holds p next e.live text).
        inl (live_before p a e rests text
        (record { at = k.at; live = k.live; there = k.there; is = sym (value_kept k.at k.live k.there) ∙ k.is })))
        (after_cases p a e rests next (given_is_done a l.variable v) text h)
      where
        of_result : (i : ℕ) (x : Held) → slice_get (held_in p next (l ∷ [])) i ≡ Some x → x.value ≡ Str text → v ≡ Str text
        of_result zero x e f =
            let same : record { variable = l.variable; value = value_in p next l.variable } ≡ x = same_Some _ x e in
            sym value_is ∙ ap (λ (h : Held). h.value) same ∙ f
        of_result (suc i) x e f = absurd cc

    next_takes : (text : List ℕ) → v ≡ Str text → Has (values_of p next) (Str text)
    next_takes text is =
        let one : Held = record { variable = l.variable; value = value_in p next l.variable } in
        text_held p next text 0 one
        (ap (λ (hs : List Held). slice_get hs 0) (held_now p a next (given_is_done a l.variable v) e rests)
        ∙ ap (λ (hs : List Held). slice_get (hs ++ held_in p next e.live) 0) result_is) (value_is ∙ is)

  -- ---- both

  nothing_waits : (v : Value) → e.result ≡ None → finished a (Some v) ≡ ended a
  nothing_waits v none = ap (λ x. into_variable a x v) (waits ∙ ap taker_of none)

  one_waits : (l : Live) (v : Value) → e.result ≡ Some l → finished a (Some v) ≡ with_result a l.variable v
  one_waits l v is = ap (λ x. into_variable a x v) (waits ∙ ap taker_of is)

  waiting_before : (given : Option Value) (text : List ℕ) → Has (values_of p (finished a given)) (Str text) →
      Has (values_of p a) (Str text) ⊎ IsTaken e.result given text
  waiting_before None text h = inl (ended_before text h)
  waiting_before (Some v) text h = by e.result refl
    where
      by : (r : Option Live) → e.result ≡ r → Has (values_of p a) (Str text) ⊎ IsTaken e.result (Some v) text
      by None none =
          inl (ended_before text (subst (λ (x : CodeActivation). Has (values_of p x) (Str text)) (nothing_waits v none) h))
      by (Some l) is = ⊎_elim
          (λ (old : Has (values_of p a) (Str text)). inl old)
          (λ (new : v ≡ Str text). inr (subst (λ (r : Option Live). IsTaken r (Some v) text) (sym is) new))
          (next_before l v is text (subst (λ (x : CodeActivation). Has (values_of p x) (Str text)) (one_waits l v is) h))

  waiting_takes : (given : Option Value) (text : List ℕ) → IsTaken e.result given text →
      Has (values_of p (finished a given)) (Str text)
  waiting_takes given text h = by e.result given refl h
    where
      by : (r : Option Live) (g : Option Value) → e.result ≡ r → IsTaken r g text → Has (values_of p (finished a g)) (Str text)
      by None g is t = absurd t
      by (Some l) None is t = absurd t
      by (Some l) (Some v) is t =
          subst (λ (x : CodeActivation). Has (values_of p x) (Str text)) (sym (one_waits l v is)) (next_takes l v is text t)

module _ (d : Declared) (p : Parts) (fine : Fine d p) (limits : HasLimits p) (a : CodeActivation) (e : StopEntry) (at : WaitsAt p a e)
  where
    -- a text that is held afterwards was held, or is taken
    pub finished_before : (given : Option Value) (text : List ℕ) → Has (values_of p (finished a given)) (Str text) →
        Has (values_of p a) (Str text) ⊎ IsTaken e.result given text
    finished_before given text h = ⊎_elim
        (λ (waits : a.into ≡ taker_of e.result). waiting_before d p fine limits a e at.rests waits given text h)
        (λ (last : IsLast e). absurd
        (last_holds_none p a e at.rests (finished a given) (finished_is_done a given) last text h))
        at.waits

    -- what is taken is held
    pub finished_takes : (given : Option Value) (text : List ℕ) → IsTaken e.result given text →
        Has (values_of p (finished a given)) (Str text)
    finished_takes given text h = ⊎_elim
        (λ (waits : a.into ≡ taker_of e.result). waiting_takes d p fine limits a e at.rests waits given text h)
        (λ (last : IsLast e). absurd (subst (λ (r : Option Live). IsTaken r given text) last.result h))
        at.waits

pub none_taken : (r : Option Live) (text : List ℕ) → IsTaken r None text → ⊥
none_taken None text h = h
none_taken (Some l) text h = h
