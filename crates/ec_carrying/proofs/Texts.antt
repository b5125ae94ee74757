-- Room for the texts of values, some of which have come.
use Rattle.std.proofs.Common.{◌≡◌, ◌≢◌, ℕ, ◌+◌, ◌≤◌, ◌⊎◌, List, [], ◌∷◌, ◌++◌, length, Some, refl, sym, ap, subst, arith, inl, inr}
use Rattle.std.proofs.Common.{⊎_elim}
use Rattle.std.specs.Prelude.{◌↔◌, slice_get}
use Rattle.ec_world.specs.Held.{Distinct}
use Rattle.ec_world.specs.Words.{text_bytes}
use Rattle.ec_objects.proofs.Wording.{pool_or_not}
use Rattle.ec_objects.specs.Values.{TextsFit}
use Rattle.ec_parcels.proofs.Rising.{once_both, once_cons, once_first, once_tail}
use Rattle.ec_things.proofs.Sums.{summed, summed_le}
use Rattle.ec_things.specs.Store.{Store, Tidy}
use Rattle.ec_things.specs.Texts.{GetsTexts, InPool}
use Rattle.ec_world.proofs.Members.{has_back, has_either, has_first, has_front, has_later, has_none, has_one, has_parts}
use Rattle.ec_world.specs.Group.{Has}
use Rattle.ec_world.specs.declared.value.Value.{Value}
use Rattle.ec_world.specs.declared.value.Value.TheVariants.{Int, Str, Ref, Nil, Bool as Truth}

-- ---- bytes

text_sum : (xs : List (List ℕ)) → text_bytes xs ≡ summed length xs
text_sum [] = refl
text_sum (x ∷ xs) = ap (λ n. length x + n) (text_sum xs)

bytes_both : (xs ys : List (List ℕ)) → text_bytes (xs ++ ys) ≡ text_bytes xs + text_bytes ys
bytes_both [] ys = omega arith
bytes_both (x ∷ xs) ys = let rest = bytes_both xs ys in omega (arith, rest)

-- texts that are among others have no more bytes
pub bytes_among : (xs ys : List (List ℕ)) → Distinct xs → ((x : List ℕ) → Has xs x → Has ys x) → text_bytes xs ≤ text_bytes ys
bytes_among xs ys once among =
    let le : summed length xs ≤ summed length ys = summed_le length length xs ys once (λ x h. inr (among x h, omega arith)) in
    omega (arith, le, text_sum xs, text_sum ys)

-- ---- those texts of a list of which something holds

module _ (D : List ℕ → Type 0) (decided : (text : List ℕ) → D text ⊎ (D text → ⊥)) where
  record Those (xs : List (List ℕ)) : Type 0 where
    those : List (List ℕ)
    once : Distinct xs → Distinct those
    these : (text : List ℕ) → Has those text ↔ (Has xs text × D text)

  one_more_if : (x : List ℕ) (xs : List (List ℕ)) → Those xs → D x ⊎ (D x → ⊥) → Those (x ∷ xs)
  one_more_if x xs t (inl d) = record {
    those = x ∷ t.those;
    once = λ once. once_cons x t.those (λ h. once_first x xs once ((t.these x).0 h).0) (t.once (once_tail x xs once));
    these = λ text. (
      λ h. ⊎_elim
          (λ (e : text ≡ x). (subst (λ (y : List ℕ). Has (x ∷ xs) y) (sym e) (has_first x xs), subst (λ (y : List ℕ). D y) (sym e) d))
          (λ (l : Has t.those text). (has_later x text xs ((t.these text).0 l).0, ((t.these text).0 l).1))
          (has_parts x text t.those h),
      λ h. ⊎_elim
          (λ (e : text ≡ x). subst (λ (y : List ℕ). Has (x ∷ t.those) y) (sym e) (has_first x t.those))
          (λ (l : Has xs text). has_later x text t.those ((t.these text).1 (l, h.1)))
          (has_parts x text xs h.0),
    );
  }
  one_more_if x xs t (inr d) = record {
    those = t.those;
    once = λ once. t.once (once_tail x xs once);
    these = λ text. (
      λ h. (has_later x text xs ((t.these text).0 h).0, ((t.these text).0 h).1),
      λ h. ⊎_elim
          (λ (e : text ≡ x). absurd (d (subst (λ (y : List ℕ). D y) e h.1)))
          (λ (l : Has xs text). (t.these text).1 (l, h.1))
          (has_parts x text xs h.0),
    );
  }

  those_of : (xs : List (List ℕ)) → Those xs
  those_of [] = record {
    those = [];
    once = λ once. once;
    these = λ text. (λ h. absurd (has_none text h), λ h. absurd (has_none text h.0));
  }
  those_of (x ∷ xs) = one_more_if x xs (those_of xs) (decided x)

-- ---- texts of values

-- a value is a text, or not
text_or_not : (v : Value) (text : List ℕ) → (v ≡ Str text) ⊎ (v ≢ Str text)
text_or_not (Str t) text = ⊎_elim
    (λ (h : (i : ℕ) × (slice_get (t ∷ []) i ≡ Some text)). inl (ap Str (sym (has_one t text (record { at = h.0; is = h.1 })))))
    (λ (n : ((i : ℕ) × (slice_get (t ∷ []) i ≡ Some text)) → ⊥). inr (λ e. n (0, (let same : t ≡ text = cc in ap Some same))))
    (pool_or_not (t ∷ []) text)
text_or_not (Int z) text = inr (λ e. cc)
text_or_not (Truth b) text = inr (λ e. cc)
text_or_not (Ref o) text = inr (λ e. cc)
text_or_not Nil text = inr (λ e. cc)

-- it is one of some, or not
has_or_not : (values : List Value) (text : List ℕ) → Has values (Str text) ⊎ (Has values (Str text) → ⊥)
has_or_not [] text = inr (λ h. has_none (Str text) h)
has_or_not (v ∷ vs) text = ⊎_elim
    (λ (e : v ≡ Str text). inl (subst (λ (u : Value). Has (v ∷ vs) u) e (has_first v vs)))
    (λ (ne : v ≢ Str text). ⊎_elim
    (λ (h : Has vs (Str text)). inl (has_later v (Str text) vs h))
    (λ (n : Has vs (Str text) → ⊥). inr (λ h. ⊎_elim
    (λ (e : Str text ≡ v). ne (sym e))
    (λ (l : Has vs (Str text)). n l)
    (has_parts v (Str text) vs h)))
    (has_or_not vs text))
    (text_or_not v text)

-- a node has it, or not
in_pool_or_not : (s : Store) → Tidy s → (text : List ℕ) → InPool s text ⊎ (InPool s text → ⊥)
in_pool_or_not s tidy text = ⊎_elim
    (λ (h : (i : ℕ) × (slice_get tidy.filled.texts i ≡ Some text)). inl ((tidy.filled.these text).0 (record { at = h.0; is = h.1 })))
    (λ (n : ((i : ℕ) × (slice_get tidy.filled.texts i ≡ Some text)) → ⊥). inr (λ p.
    let h = (tidy.filled.these text).1 p in n (h.at, h.is)))
    (pool_or_not tidy.filled.texts text)

-- ---- room for fewer

-- where all of some values have room, so have those in front
pub front_fits : (s : Store) (front back : List Value) → TextsFit s (front ++ back) → TextsFit s front
front_fits s front back fit = record {
  bytes = text_bytes found.those;
  needs = record {
    texts = found.those;
    once = found.once fit.needs.once;
    these = λ text. (
      λ h. let x = (found.these text).0 h in (x.1, ((fit.needs.these text).0 x.0).1),
      λ h. (found.these text).1 ((fit.needs.these text).1 (has_front (Str text) front back h.0, h.1), h.0),
    );
    bytes = refl;
  };
  fits =
      let fewer = bytes_among found.those fit.needs.texts (found.once fit.needs.once) (λ text h. ((found.these text).0 h).0) in
      let f = fit.fits in
      let b = fit.needs.bytes in
      omega (arith, fewer);
}
  where
    found : Those (λ text. Has front (Str text)) (has_or_not front) fit.needs.texts
    found = those_of (λ text. Has front (Str text)) (has_or_not front) fit.needs.texts

-- values that are no texts want no room
pub no_text_fits : (s : Store) (v : Value) (values : List Value) → ((text : List ℕ) → v ≡ Str text → ⊥) → TextsFit s values →
    TextsFit s (v ∷ values)
no_text_fits s v values none fit = record {
  bytes = fit.bytes;
  needs = record {
    texts = fit.needs.texts;
    once = fit.needs.once;
    these = λ text. (
      λ h. let x = (fit.needs.these text).0 h in (has_later v (Str text) values x.0, x.1),
      λ h. (fit.needs.these text).1 (
        ⊎_elim (λ (e : Str text ≡ v). absurd (none text (sym e))) (λ (l : Has values (Str text)). l) (has_parts v (Str text) values h.0),
        h.1,
      ),
    );
    bytes = fit.needs.bytes;
  };
  fits = fit.fits;
}

module _ (s s' : Store) (front back : List Value) (fit : TextsFit s (front ++ back)) (tidy : Tidy s) (tidy' : Tidy s')
    (gets : GetsTexts (λ text. Has front (Str text)) s s') where
  abbrev Left : List ℕ → Type 0
  Left text = Has back (Str text) × (InPool s' text → ⊥)

  left_or_not : (text : List ℕ) → Left text ⊎ (Left text → ⊥)
  left_or_not text = ⊎_elim
      (λ (h : Has back (Str text)). ⊎_elim
      (λ (p : InPool s' text). inr (λ l. l.1 p))
      (λ (n : InPool s' text → ⊥). inl (h, n))
      (in_pool_or_not s' tidy' text))
      (λ (n : Has back (Str text) → ⊥). inr (λ l. n l.0))
      (has_or_not back text)

  found : Those Left left_or_not fit.needs.texts
  found = those_of Left left_or_not fit.needs.texts

  once : Distinct (found.those ++ tidy'.filled.texts)
  once = once_both found.those tidy'.filled.texts (found.once fit.needs.once) tidy'.filled.once
      (λ text h g. ((found.these text).0 h).1.1 ((tidy'.filled.these text).0 g))

  -- a text that is in the pool now was there, or was wanted
  was_either : (text : List ℕ) → Has tidy'.filled.texts text → Has (fit.needs.texts ++ tidy.filled.texts) text
  was_either text h = ⊎_elim
      (λ (old : InPool s text). has_back text fit.needs.texts tidy.filled.texts ((tidy.filled.these text).1 old))
      (λ (new : Has front (Str text)). ⊎_elim
      (λ (old : InPool s text). has_back text fit.needs.texts tidy.filled.texts ((tidy.filled.these text).1 old))
      (λ (n : InPool s text → ⊥). has_front text fit.needs.texts tidy.filled.texts
      ((fit.needs.these text).1 (has_front (Str text) front back new, n)))
      (in_pool_or_not s tidy text))
      ((gets.texts text).0 ((tidy'.filled.these text).0 h))

  among : (text : List ℕ) → Has (found.those ++ tidy'.filled.texts) text → Has (fit.needs.texts ++ tidy.filled.texts) text
  among text h = ⊎_elim
      (λ (l : Has found.those text). has_front text fit.needs.texts tidy.filled.texts ((found.these text).0 l).0)
      (λ (p : Has tidy'.filled.texts text). was_either text p)
      (has_either text found.those tidy'.filled.texts h)

  -- what has room behind values whose texts have come has room still
  pub back_fits : TextsFit s' back
  back_fits = record {
    bytes = text_bytes found.those;
    needs = record {
      texts = found.those;
      once = found.once fit.needs.once;
      these = λ text. (
        λ h. ((found.these text).0 h).1,
        λ h. (found.these text).1 (
          (fit.needs.these text).1 (has_back (Str text) front back h.0, λ old. h.1 ((gets.texts text).1 (inl old))),
          h,
        ),
      );
      bytes = refl;
    };
    fits =
        let fewer = bytes_among (found.those ++ tidy'.filled.texts) (fit.needs.texts ++ tidy.filled.texts) once among in
        let now = bytes_both found.those tidy'.filled.texts in
        let before = bytes_both fit.needs.texts tidy.filled.texts in
        let room = gets.text_room in
        let f = fit.fits in
        let b = fit.needs.bytes in
        let all = tidy.filled.bytes in
        let all' = tidy'.filled.bytes in
        omega (arith, fewer, now, before);
  }
