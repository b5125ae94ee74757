-- One queue of several is changed.
use Rattle.std.proofs.Common.{◌≡◌, ℕ, zero, suc, ◌+◌, ◌<◌, ◌≤◌, List, [], ◌∷◌, ◌++◌, length, take, add-one, get_or, Option, Some}
use Rattle.std.proofs.Common.{None, refl, sym, ap, ◌∙◌, arith}
use Rattle.std.specs.Prelude.{slice_get, slice_set, replicate, IfSome, IfNone}
use Rattle.std.proofs.lemmas.List.{length-append}
use Rattle.ec_base.proofs.Lists.{set_there}
use Rattle.std.specs.Global.{Vec}
use Rattle.std.specs.Vec.{vec_capacity}
use Rattle.ec_monitors.specs.declared.record.Hold.{Hold}
use Rattle.ec_monitors.specs.Room.{EachHasRoom, held_count, waiting_count, queues, present}
use Rattle.ec_monitors.specs.Monitors.{queue_at}

pub queue_there : (qs : List (Vec Hold)) (c : ℕ) (q : Vec Hold) → slice_get qs c ≡ Some q → queue_at (slice_get (queues qs) c) ≡ q.items
queue_there [] c q e = absurd cc
queue_there (r ∷ qs) zero q e = let s : r ≡ q = cc in ap (λ (v : Vec Hold). v.items) s
queue_there (r ∷ qs) (suc c) q e = queue_there qs c q e

pub queues_set : (qs : List (Vec Hold)) (c : ℕ) (q : Vec Hold) → queues (slice_set qs c q) ≡ slice_set (queues qs) c q.items
queues_set [] c q = refl
queues_set (r ∷ qs) zero q = refl
queues_set (r ∷ qs) (suc c) q = ap (λ (rest : List (List Hold)). r.items ∷ rest) (queues_set qs c q)

pub count_set : (qs : List (Vec Hold)) (c : ℕ) (q q' : Vec Hold) → slice_get qs c ≡ Some q →
    waiting_count (slice_set qs c q') + length q.items ≡ waiting_count qs + length q'.items
count_set [] c q q' e = absurd cc
count_set (r ∷ qs) zero q q' e = let s : r ≡ q = cc in rw s (omega arith)
count_set (r ∷ qs) (suc c) q q' e = let h = count_set qs c q q' e in omega arith

pub count_at_least : (qs : List (Vec Hold)) (c : ℕ) (q : Vec Hold) → slice_get qs c ≡ Some q → length q.items ≤ waiting_count qs
count_at_least [] c q e = absurd cc
count_at_least (r ∷ qs) zero q e = let s : r ≡ q = cc in rw s (omega arith)
count_at_least (r ∷ qs) (suc c) q e = let h = count_at_least qs c q e in omega arith

pub room_at : (n : ℕ) (qs : List (Vec Hold)) (c : ℕ) (q : Vec Hold) → slice_get qs c ≡ Some q → EachHasRoom n qs → n ≤ vec_capacity q
room_at n [] c q e h = absurd cc
room_at n (r ∷ qs) zero q e h = let s : r ≡ q = cc in rw (← s) h.0
room_at n (r ∷ qs) (suc c) q e h = room_at n qs c q e h.1

pub room_set : (n : ℕ) (qs : List (Vec Hold)) (c : ℕ) (q q' : Vec Hold) → slice_get qs c ≡ Some q →
    vec_capacity q ≤ vec_capacity q' → EachHasRoom n qs → EachHasRoom n (slice_set qs c q')
room_set n [] c q q' e le h = absurd cc
room_set n (r ∷ qs) zero q q' e le h = let s : r ≡ q = cc in let k : n ≤ vec_capacity q = rw (← s) h.0 in (omega arith, h.1)
room_set n (r ∷ qs) (suc c) q q' e le h = (h.0, room_set n qs c q q' e le h.1)

pub got : {A : Type 0} (xs : List A) (i : ℕ) (x : A) → i < length xs → x ≡ get_or xs i x → slice_get xs i ≡ Some x
got [] i x h e = absurd (omega arith)
got (y ∷ ys) zero x h e = ap Some (sym e)
got (y ∷ ys) (suc i) x h e = got ys i x (omega arith) e

queues_get : (qs : List (Vec Hold)) (c : ℕ) (q : Vec Hold) → slice_get qs c ≡ Some q → slice_get (queues qs) c ≡ Some q.items
queues_get [] c q e = absurd cc
queues_get (r ∷ qs) zero q e = let s : r ≡ q = cc in ap (λ (v : Vec Hold). Some v.items) s
queues_get (r ∷ qs) (suc c) q e = queues_get qs c q e

-- one queue of these is changed
module _ (qs : List (Vec Hold)) (c : ℕ) (q q' : Vec Hold) (at : slice_get qs c ≡ Some q) where
  pub pushed : (h : Hold) → q'.items ≡ q.items ++ h ∷ [] →
      queues (slice_set qs c q') ≡ slice_set (queues qs) c (queue_at (slice_get (queues qs) c) ++ h ∷ [])
  pushed h e = queues_set qs c q' ∙ ap (slice_set (queues qs) c) (e ∙ ap (λ (r : List Hold). r ++ h ∷ []) (sym (queue_there qs c q at)))

  pub pushed_count : (h : Hold) → q'.items ≡ q.items ++ h ∷ [] → waiting_count (slice_set qs c q') ≡ waiting_count qs + 1
  pushed_count h e =
      let k = count_set qs c q q' at in
      let l : length q'.items ≡ length q.items + 1 = ap length e ∙ length-append q.items (h ∷ []) in
      omega arith

  pub first_is : (r : Option Hold) → IfSome r (λ x. q.items ≡ x ∷ q'.items) →
      IfSome r (λ x. (rest : List Hold) × (queue_at (slice_get (queues qs) c) ≡ x ∷ rest)
      × (queues (slice_set qs c q') ≡ slice_set (queues qs) c rest))
  first_is None e = tt
  first_is (Some x) e = (q'.items, queue_there qs c q at ∙ e, queues_set qs c q')

  pub none_is : (r : Option Hold) → IfNone r (q.items ≡ []) → IfNone r (q'.items ≡ []) →
      IfNone r ((queue_at (slice_get (queues qs) c) ≡ []) × (queues (slice_set qs c q') ≡ queues qs))
  none_is None e f = (
    queue_there qs c q at ∙ e,
    queues_set qs c q' ∙ ap (slice_set (queues qs) c) (f ∙ sym e)
        ∙ set_there (queues qs) c q.items (queues_get qs c q at),
  )
  none_is (Some x) e f = tt

  pub first_count : (r : Option Hold) → IfSome r (λ x. length q'.items + 1 ≡ length q.items) → IfNone r (q.items ≡ []) →
      IfNone r (q'.items ≡ []) → waiting_count qs ≡ waiting_count (slice_set qs c q') + held_count r
  first_count None d e f = let k = count_set qs c q q' at in let l : length q'.items ≡ length q.items = ap length (f ∙ sym e) in omega arith
  first_count (Some x) d e f = let k = count_set qs c q q' at in omega arith

pub signal_fits : (room : ℕ) (holder : Option Hold) (h next : Hold) (entry : List ℕ) (urgent urgent' : List Hold)
    (qs qs' : List (Vec Hold)) → holder ≡ Some h → urgent' ≡ urgent ++ h ∷ [] → waiting_count qs ≡ waiting_count qs' + 1
    → present holder entry urgent qs ≤ room → present (Some next) entry urgent' qs' ≤ room
signal_fits room holder h next entry urgent urgent' qs qs' is e k fits =
    let l : length urgent' ≡ length urgent + 1 = ap length e ∙ length-append urgent (h ∷ []) in
    let one : held_count holder ≡ 1 = ap held_count is in
    omega arith

pub none_fits : (room : ℕ) (holder : Option Hold) (entry : List ℕ) (urgent : List Hold) (qs qs' : List (Vec Hold)) →
    waiting_count qs ≡ waiting_count qs' + 0
    → present holder entry urgent qs ≤ room → present holder entry urgent qs' ≤ room
none_fits room holder entry urgent qs qs' k fits = omega arith

pub wait_room : (room : ℕ) (holder : Option Hold) (h : Hold) (entry : List ℕ) (urgent : List Hold) (qs : List (Vec Hold)) →
    holder ≡ Some h → present holder entry urgent qs ≤ room → waiting_count qs < room
wait_room room holder h entry urgent qs is fits = let one : held_count holder ≡ 1 = ap held_count is in omega arith

pub wait_fits : (room : ℕ) (holder : Option Hold) (h : Hold) (entry : List ℕ) (urgent : List Hold) (qs qs' : List (Vec Hold)) →
    holder ≡ Some h → waiting_count qs' ≡ waiting_count qs + 1
    → present holder entry urgent qs ≤ room → present None entry urgent qs' ≤ room
wait_fits room holder h entry urgent qs qs' is k fits = let one : held_count holder ≡ 1 = ap held_count is in omega arith

-- a queue that was given room
module _ (qs : List (Vec Hold)) (c : ℕ) (q q' : Vec Hold) (at : slice_get qs c ≡ Some q) (same : q'.items ≡ q.items) where
  pub same_queues : queues (slice_set qs c q') ≡ queues qs
  same_queues = queues_set qs c q' ∙ ap (slice_set (queues qs) c) same ∙ set_there (queues qs) c q.items (queues_get qs c q at)

  pub same_count : waiting_count (slice_set qs c q') ≡ waiting_count qs
  same_count = let k = count_set qs c q q' at in let l : length q'.items ≡ length q.items = ap length same in omega arith

pub room_take : (n : ℕ) (qs : List (Vec Hold)) (c : ℕ) (q' : Vec Hold) → n ≤ vec_capacity q' → EachHasRoom n (take c qs) →
    EachHasRoom n (take (c + 1) (slice_set qs c q'))
room_take n [] zero q' le h = tt
room_take n [] (suc c) q' le h = rw add-one tt
room_take n (r ∷ qs) zero q' le h = (le, tt)
room_take n (r ∷ qs) (suc c) q' le h = rw add-one (h.0, rw add-one at (room_take n qs c q' le h.1))

-- one queue more

pub queues-push : (qs : List (Vec Hold)) (q : Vec Hold) → queues (qs ++ q ∷ []) ≡ queues qs ++ q.items ∷ []
queues-push [] q = refl
queues-push (r ∷ qs) q = ap (λ (rest : List (List Hold)). r.items ∷ rest) (queues-push qs q)

pub count-push : (qs : List (Vec Hold)) (q : Vec Hold) → waiting_count (qs ++ q ∷ []) ≡ waiting_count qs + length q.items
count-push [] q = omega arith
count-push (r ∷ qs) q = let h = count-push qs q in omega arith

pub room-push : (n : ℕ) (qs : List (Vec Hold)) (q : Vec Hold) → EachHasRoom n qs → n ≤ vec_capacity q → EachHasRoom n (qs ++ q ∷ [])
room-push n [] q h k = (k, tt)
room-push n (r ∷ qs) q h k = (h.0, room-push n qs q h.1 k)

module _ {A : Type 0} where
  pub replicate-push : (n : ℕ) (x : A) → replicate n x ++ x ∷ [] ≡ replicate (n + 1) x
  replicate-push zero x = refl
  replicate-push (suc n) x = rw add-one (ap (λ (rest : List A). x ∷ rest) (rw add-one at (replicate-push n x)))

-- an empty queue more
module _ (made new : List (Vec Hold)) (q : Vec Hold) (more : new ≡ made ++ q ∷ []) where
  pub empty-items : q.items ≡ [] → (n : ℕ) → queues made ≡ replicate n [] → queues new ≡ replicate (n + 1) []
  empty-items empty n before = ap queues more ∙ queues-push made q ∙ rw (before, empty) (replicate-push n [])

  pub empty-none : q.items ≡ [] → waiting_count made ≡ 0 → waiting_count new ≡ 0
  empty-none empty before =
      let k : waiting_count new ≡ waiting_count made + length q.items = ap waiting_count more ∙ count-push made q in
      let l : length q.items ≡ 0 = ap length empty in
      omega arith

  pub empty-room : EachHasRoom 0 made → EachHasRoom 0 new
  empty-room before = rw more (room-push 0 made q before (omega arith))
