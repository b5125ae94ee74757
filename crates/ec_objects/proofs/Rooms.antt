-- The room that texts take, each once.
use Rattle.std.proofs.Common.{◌≡◌, ◌≢◌, ℕ, suc, ◌+◌, List, ◌∷◌, length, Some, refl, sym, ap, ◌∙◌, subst, arith, ◌⊎◌, inl, inr, ⊎_elim}
use Rattle.std.specs.Prelude.{slice_get, ◌↔◌}
use Rattle.std.specs.List.{remove}
use Rattle.ec_world.specs.Words.{text_bytes}
use Rattle.ec_objects.proofs.Removing.{bytes_of_one, bytes_removed, distinct_removed, has_removed, left_was}
use Rattle.ec_objects.specs.Values.{HasRoom, Spends, TextsFit}
use Rattle.ec_stores.proofs.Numbers.{first_or}
use Rattle.ec_things.specs.Store.{Store}
use Rattle.ec_things.specs.Texts.{InPool}
use Rattle.ec_world.specs.Group.{Has}
use Rattle.ec_world.specs.declared.value.Value.{Value}
use Rattle.ec_world.specs.declared.value.Value.TheVariants.{Int, Str, Ref, Nil, Bool as Truth}

has_next : {A : Type 0} (x : A) (xs : List A) (y : A) → Has xs y → Has (x ∷ xs) y
has_next x xs y h = record { at = suc h.at; is = h.is }

module _ (s s' : Store) (v : Value) (vs : List Value) (fit : TextsFit s (v ∷ vs))
    (texts : (text : List ℕ) → InPool s' text ↔ (InPool s text ⊎ (v ≡ Str text))) where
  -- no text has come
  nothing_came : s'.text_free ≡ s.text_free → ((text : List ℕ) → v ≡ Str text → InPool s text) → TextsFit s' vs
  nothing_came free old = record {
    bytes = fit.bytes;
    needs = record {
      texts = fit.needs.texts;
      once = fit.needs.once;
      these = λ text. (
        λ h.
            let w = (fit.needs.these text).0 h in (
              ⊎_elim (λ (is : Str text ≡ v). absurd (w.1 (old text (sym is)))) (λ (x : Has vs (Str text)). x)
                  (first_or v vs (Str text) w.0),
              λ p. w.1 (⊎_elim (λ (x : InPool s text). x) (λ (x : v ≡ Str text). old text x) ((texts text).0 p)),
            ),
        λ h. (fit.needs.these text).1 (has_next v vs (Str text) h.0, λ p. h.1 ((texts text).1 (inl p))),
      );
      bytes = fit.needs.bytes;
    };
    fits = (let f = fit.fits in omega arith);
  }

  -- this text has come
  one_came : (t : List ℕ) → v ≡ Str t → (InPool s t → ⊥) → s'.text_free + length t ≡ s.text_free → TextsFit s' vs
  one_came t is new free =
      let there = (fit.needs.these t).1 (record { at = 0; is = ap Some is }, new) in
      record {
        bytes = text_bytes (remove fit.needs.texts there.at);
        needs = record {
          texts = remove fit.needs.texts there.at;
          once = distinct_removed fit.needs.texts there.at fit.needs.once;
          these = λ text. (
            λ h.
                let l = left_was fit.needs.texts there.at t text fit.needs.once there.is h in
                let w = (fit.needs.these text).0 l.0 in
                let not_it : v ≢ Str text = λ q. (let same : text ≡ t = cc in l.1 same) in (
                  ⊎_elim (λ (q : Str text ≡ v). absurd (not_it (sym q))) (λ (x : Has vs (Str text)). x) (first_or v vs (Str text) w.0),
                  λ p. ⊎_elim (λ (x : InPool s text). w.1 x) (λ (x : v ≡ Str text). not_it x) ((texts text).0 p),
                ),
            λ h.
                let o = (fit.needs.these text).1 (has_next v vs (Str text) h.0, λ p. h.1 ((texts text).1 (inl p))) in
                has_removed fit.needs.texts there.at o.at text o.is (λ q.
                let at : slice_get fit.needs.texts there.at ≡ Some text = ap (slice_get fit.needs.texts) (sym q) ∙ o.is in
                let same : text ≡ t = (let e = there.is in cc) in
                h.1 ((texts text).1 (inr (is ∙ ap Str (sym same))))),
          );
          bytes = refl;
        };
        fits = (let r = bytes_removed fit.needs.texts there.at t there.is in let f = fit.fits in let b = fit.needs.bytes in omega arith);
      }

  next_fits : (u : Value) → v ≡ u → ((t : List ℕ) → InPool s t ⊎ (InPool s t → ⊥)) → Spends s s' u → TextsFit s' vs
  next_fits (Str t) is decided spends = ⊎_elim
      (λ (x : InPool s t). nothing_came (spends.0 x) (λ text e. (let same : t ≡ text = cc in subst (λ (l : List ℕ). InPool s l) same x)))
      (λ (x : InPool s t → ⊥). one_came t is x (spends.1 x))
      (decided t)
  next_fits (Int z) is decided spends = nothing_came spends (λ text e. cc)
  next_fits (Truth b) is decided spends = nothing_came spends (λ text e. cc)
  next_fits (Ref o) is decided spends = nothing_came spends (λ text e. cc)
  next_fits Nil is decided spends = nothing_came spends (λ text e. cc)

  pub texts_fit_next : ((t : List ℕ) → InPool s t ⊎ (InPool s t → ⊥)) → Spends s s' v → TextsFit s' vs
  texts_fit_next decided spends = next_fits v refl decided spends

room_of : (s : Store) (v u : Value) (vs : List Value) → v ≡ u → TextsFit s (v ∷ vs) → HasRoom s u
room_of s v (Str t) vs is fit = λ new.
    let there = (fit.needs.these t).1 (record { at = 0; is = ap Some is }, new) in
    let one = bytes_of_one fit.needs.texts there.at t there.is in
    let f = fit.fits in
    let b = fit.needs.bytes in
    omega arith
room_of s v (Int z) vs is fit = tt
room_of s v (Truth b) vs is fit = tt
room_of s v (Ref o) vs is fit = tt
room_of s v Nil vs is fit = tt

-- where all texts have room, the first has
pub first_has_room : (s : Store) (v : Value) (vs : List Value) → TextsFit s (v ∷ vs) → HasRoom s v
first_has_room s v vs fit = room_of s v v vs refl fit
