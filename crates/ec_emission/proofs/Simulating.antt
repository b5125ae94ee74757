-- Silent steps of the source and its code come to the same stop.
use Rattle.std.proofs.Common.{ℕ, suc, ◌+◌, List, [], ◌∷◌, ◌++◌, refl, ◌∙◌}
use Rattle.ec_code.specs.Steps as code_steps
use Rattle.ec_code.specs.declared.code.Op.TheVariants as op
use Rattle.ec_meaning.specs.Meaning.{behind_loop}
use Rattle.ec_meaning.specs.Steps.{Goes, Breaks, Returns, holding, last_two}
use Rattle.ec_meaning.specs.declared.item.Item.{Item}
use Rattle.ec_meaning.specs.declared.item.Item.TheVariants as i
use Rattle.ec_emission.proofs.Meeting.{IsAt, Meets, Routine, StandsIn, by_op, fits_holding, settled, silent, top_two, walked}
use Rattle.ec_emission.proofs.Storing as store
use Rattle.ec_emission.proofs.Stopping as stop
use Rattle.ec_emission.proofs.Truths as truth
use Rattle.ec_emission.proofs.Values as value
use Rattle.ec_emission.proofs.Values.{ComesTo}
use Rattle.ec_emission.specs.Stands.{Hold}
use Rattle.ec_emission.specs.Stands as at

module _ (r : Routine) (own : ℕ) where
  jumps : (hs : List Hold) (q over : ℕ) (xs : List Item) → IsAt r q (op.Jump over) → Meets r own hs (suc (q + over)) xs →
      Meets r own hs q xs
  jumps hs q over xs is k st m f =
      by_op r own (settled r own st xs) q m (op.Jump over) (code_steps.Goes m over) is refl (k st m f)

  opens : (hs : List Hold) (q : ℕ) (x : Item) (xs more : List Item) → ComesTo r own x (λ st. Goes st more) → Meets r own hs q (more ++ xs) →
      Meets r own hs q (x ∷ xs)
  opens hs q x xs more e k st m f = silent r own st x xs (walked r own q m) (Goes st more) (e st) (k st m f)

  opens_with_two : (hs : List Hold) (h k : Hold) (q : ℕ) (x : Item) (xs more : List Item) →
      ComesTo r own x (λ st. last_two st (λ below u v. Goes st more)) → Meets r own (k ∷ h ∷ hs) q (more ++ xs) →
      Meets r own (k ∷ h ∷ hs) q (x ∷ xs)
  opens_with_two hs h k q x xs more e n st m f =
      silent r own st x xs (walked r own q m) (Goes st more) (e st ∙ (top_two r own st m f).is (λ below u v. Goes st more)) (n st m f)

  breaks : (hs : List Hold) (q : ℕ) (x : Item) (xs : List Item) → ComesTo r own x (λ st. Breaks st) → Meets r own hs q (behind_loop xs) →
      Meets r own hs q (x ∷ xs)
  breaks hs q x xs e k st m f = silent r own st x xs (walked r own q m) (Breaks st) (e st) (k st m f)

  returns : (hs : List Hold) (q : ℕ) (x : Item) (xs : List Item) → ComesTo r own x (λ st. Returns st) → Meets r own hs q (i.Leave ∷ []) →
      Meets r own hs q (x ∷ xs)
  returns hs q x xs e k st m f = silent r own st x xs (walked r own q m) (Returns st) (e st) (k st m f)

  discards : (hs : List Hold) (q : ℕ) (xs : List Item) → Meets r own [] q xs → Meets r own hs q (i.Discard ∷ xs)
  discards hs q xs k st m f =
      silent r own st i.Discard xs (walked r own q m) (Goes (holding st []) []) refl
      (k (holding st []) m (fits_holding r own hs st m [] [] refl f))

  -- Where the code stands for what is to be done, both come to the same stop, and the code behind the stop stands for what is
  -- to be done there.
  pub silent_alike : {hs : List Hold} {q : ℕ} {items : List Item} → StandsIn r hs q items → Meets r own hs q items
  silent_alike (at.jumps {xs = xs} over is d) = jumps _ _ over xs is (silent_alike d)
  silent_alike (at.opens {x = x} {xs = xs} more e d) = opens _ _ x xs more (e own) (silent_alike d)
  silent_alike (at.opens_with_two {x = x} {xs = xs} more e d) = opens_with_two _ _ _ _ x xs more (e own) (silent_alike d)
  silent_alike (at.breaks {x = x} {xs = xs} e d) = breaks _ _ x xs (e own) (silent_alike d)
  silent_alike (at.returns {x = x} {xs = xs} e d) = returns _ _ x xs (e own) (silent_alike d)
  silent_alike (at.discards {xs = xs} d) = discards _ _ xs (silent_alike d)
  silent_alike (at.says {x = x} {xs = xs} l e t d) = value.says r own _ _ x xs l (e own) t (silent_alike d)
  silent_alike (at.is_own {x = x} {xs = xs} e is d) = value.is_own r own _ _ x xs (e own) is (silent_alike d)
  silent_alike (at.copies {x = x} {xs = xs} l e is d) = value.copies r own _ _ x xs l (e own) is (silent_alike d)
  silent_alike (at.literal {x = x} {xs = xs} text index e g is d) = value.literal r own _ _ x xs text index (e own) g is (silent_alike d)
  silent_alike (at.itself {x = x} {xs = xs} e is d) = value.gives_itself r own _ _ x xs (e own) is (silent_alike d)
  silent_alike (at.fetches {x = x} {xs = xs} p e is d) = value.fetches r own _ _ x xs p (e own) is (silent_alike d)
  silent_alike (at.negates {xs = xs} a g is d) = value.negates r own _ _ _ xs a g is (silent_alike d)
  silent_alike (at.computes {x = x} {xs = xs} how go e g a b u v is d) =
      value.computes r own _ _ _ _ x xs how go (e own) g a b u v is (silent_alike d)
  silent_alike (at.divides_by {xs = xs} e a b u v is fails two d) =
      value.divides_by r own _ _ _ _ _ _ xs e a b u v is fails two (silent_alike d)
  silent_alike (at.decides {x = x} {xs = xs} e is d) = truth.decides r own _ _ _ x xs _ _ e is (silent_alike d)
  silent_alike (at.and_then {x = x} {xs = xs} over is d c) = truth.and_thens r own _ _ x xs over is (silent_alike d) (silent_alike c)
  silent_alike (at.or_else {x = x} {xs = xs} over is d c) = truth.or_elses r own _ _ x xs over is (silent_alike d) (silent_alike c)
  silent_alike (at.branches b arms other xs over e is d c) =
      truth.branches r own b arms other xs _ over e is (silent_alike d) (silent_alike c)
  silent_alike (at.exits xs over e is d c) = truth.exits r own xs _ over e is (silent_alike d) (silent_alike c)
  silent_alike (at.requires pl xs e is fails d) = truth.requires r own pl xs _ e is fails (silent_alike d)
  silent_alike (at.stores_variable {xs = xs} a g is d) = store.stores_variable r own _ _ _ xs a g is (silent_alike d)
  silent_alike (at.stores_field {xs = xs} a g is d) = store.stores_field r own _ _ _ xs a g is (silent_alike d)
  silent_alike (at.stores_nothing {xs = xs} e d) = store.stores_nothing r own _ _ _ xs (e own) (silent_alike d)
  silent_alike (at.resets {x = x} {xs = xs} l v g e is d) = store.resets r own _ _ x xs l v g (e own) is (silent_alike d)
  silent_alike (at.resets_text {x = x} {xs = xs} text e g is d) = store.resets_text r own _ _ _ x xs text (e own) g is (silent_alike d)
  silent_alike (at.enters {xs = xs} is d) = stop.enters r own _ _ xs is d
  silent_alike (at.again {xs = xs} back is l d) = stop.again r own _ _ xs back is l d
  silent_alike (at.rests {xs = xs} hs gives is d) = stop.rests r own hs _ _ _ xs gives is d
  silent_alike (at.calls_own {xs = xs} hs gives is d) = stop.calls_own r own hs _ _ _ xs gives is d
  silent_alike (at.waits {x = x} {xs = xs} e is d) = stop.waits r own _ _ x _ xs (e own) is d
  silent_alike (at.leaves {x = x} {xs = xs} l e is) = stop.leaves r own _ _ x _ xs l (e own) is
  silent_alike (at.gives_back {x = x} {xs = xs} e is) = stop.gives_back r own _ _ _ x xs (e own) is
  silent_alike (at.is_over {xs = xs} is) = stop.is_over r own _ _ xs is
