-- The place of a text among others when one more comes behind them, and the map that holds the places.
use Rattle.std.proofs.Common.{◌≡◌, ℕ, suc, ◌+◌, Bool, true, false, true≢false, ◌&&◌, cond, if◌then◌else◌, List, [], ◌∷◌}
use Rattle.std.proofs.Common.{◌++◌, length}
use Rattle.std.proofs.Common.{Some, None, Option, Vec, BTreeMap, refl, sym, ap, ◌∙◌, arith}
use Rattle.std.specs.Prelude.{is_some}
use Rattle.std.specs.BTreeMap.{Updates, get, is_at}
use Rattle.std.specs.Cmp.Lexicographic.{bytes_decides}
use Rattle.std.specs.Option.{unwrap_or}
use Rattle.std.proofs.lemmas.Map.Text.{is_eq-slice_cmp}
use lib.Dec.{eqb}
use lib.Pointwise.{pointwise}
use Rattle.ec_emission.specs.Expressions.{is_text, has_text, literal_from}
use Rattle.ec_core.specs.Literals.{Texts}
use Rattle.ec_expressions.specs.Places.{ArePlaces, by_bytes, place_from}

-- ---- texts that are the same

by_first : (first p q : Bool) → p ≡ q → (first && p) ≡ (if first then q else false)
by_first true p q e = e
by_first false p q e = refl

same_text : (s t : List ℕ) → pointwise eqb s t ≡ is_text s t
same_text [] [] = refl
same_text [] (b ∷ t) = refl
same_text (a ∷ s) [] = refl
same_text (a ∷ s) (b ∷ t) = by_first (eqb a b) (pointwise eqb s t) (is_text s t) (same_text s t)

text_is : (s t : List ℕ) → is_text s t ≡ true → s ≡ t
text_is s t e = (bytes_decides s t).0 (same_text s t ∙ e)

-- a text that is the same as one isn't the same as another that differs from that
differs : (t own text : List ℕ) → is_text t own ≡ false → is_text t text ≡ true → is_text own text ≡ false
differs t own text apart same = by (is_text own text) refl
  where
    by : (b : Bool) → is_text own text ≡ b → is_text own text ≡ false
    by false e = e
    by true e = absurd (true≢false (sym same ∙ ap (is_text t) (sym (text_is own text e)) ∙ apart))

-- ---- the place of a text, and whether it is there

pub has_place : (n : ℕ) (ts : Texts) (text : List ℕ) → is_some (place_from n ts text) ≡ has_text ts text
has_place n [] text = refl
has_place n (t ∷ ts) text = by (has_place (suc n) ts text) (is_text t text) refl
  where
    by : is_some (place_from (suc n) ts text) ≡ has_text ts text → (b : Bool) → is_text t text ≡ b
        → is_some (place_from n (t ∷ ts) text) ≡ has_text (t ∷ ts) text
    by behind true same = rw same refl
    by behind false apart = rw apart behind

place_is : (n : ℕ) (ts : Texts) (text : List ℕ) → unwrap_or (place_from n ts text) (n + length ts) ≡ literal_from n ts text
place_is n [] text = let e : n + 0 ≡ n = omega arith in e
place_is n (t ∷ ts) text = by (place_is (suc n) ts text) (is_text t text) refl
  where
    count : n + suc (length ts) ≡ suc n + length ts
    count = omega arith

    by : unwrap_or (place_from (suc n) ts text) (suc n + length ts) ≡ literal_from (suc n) ts text
        → (b : Bool) → is_text t text ≡ b
        → unwrap_or (place_from n (t ∷ ts) text) (n + length (t ∷ ts)) ≡ literal_from n (t ∷ ts) text
    by behind true same = rw same refl
    by behind false apart = rw apart (ap (unwrap_or (place_from (suc n) ts text)) count ∙ behind)

pub place_at : (ts : Texts) (text : List ℕ) → unwrap_or (place_from 0 ts text) (length ts) ≡ literal_from 0 ts text
place_at ts text =
    let count : length ts ≡ 0 + length ts = omega arith in
    ap (unwrap_or (place_from 0 ts text)) count ∙ place_is 0 ts text

-- ---- one text more

not_first : (first rest : Bool) → (if first then true else rest) ≡ false → first ≡ false
not_first true rest e = e
not_first false rest e = refl

not_behind : (first rest : Bool) → (if first then true else rest) ≡ false → rest ≡ false
not_behind true rest e = cc
not_behind false rest e = e

place_pushed : (n : ℕ) (ts : Texts) (own text : List ℕ) → has_text ts own ≡ false
    → place_from n (ts ++ own ∷ []) text ≡ cond (is_text own text) (Some (n + length ts)) (place_from n ts text)
place_pushed n [] own text h =
    let count : n ≡ n + 0 = omega arith in ap (λ i. cond (is_text own text) (Some i) None) count
place_pushed n (t ∷ ts) own text h =
    by (place_pushed (suc n) ts own text (not_behind (is_text t own) (has_text ts own) h))
    (not_first (is_text t own) (has_text ts own) h) (is_text t text) refl
  where
    count : suc n + length ts ≡ n + suc (length ts)
    count = omega arith

    by : place_from (suc n) (ts ++ own ∷ []) text
        ≡ cond (is_text own text) (Some (suc n + length ts)) (place_from (suc n) ts text)
        → is_text t own ≡ false → (b : Bool) → is_text t text ≡ b
        → place_from n ((t ∷ ts) ++ own ∷ []) text
        ≡ cond (is_text own text) (Some (n + length (t ∷ ts))) (place_from n (t ∷ ts) text)
    by behind other true same =
        let apart : is_text own text ≡ false = differs t own text other same in
        rw (same, apart) refl
    by behind other false apart =
        rw apart (behind ∙ ap (λ i. cond (is_text own text) (Some i) (place_from (suc n) ts text)) count)

place_behind : (ts : Texts) (own text : List ℕ) → has_text ts own ≡ false
    → place_from 0 (ts ++ own ∷ []) text ≡ cond (is_text own text) (Some (length ts)) (place_from 0 ts text)
place_behind ts own text h =
    let count : 0 + length ts ≡ length ts = omega arith in
    place_pushed 0 ts own text h ∙ ap (λ i. cond (is_text own text) (Some i) (place_from 0 ts text)) count

module _ {Y : Type 0} where
  -- whether two keys are the same
  at_key : (mine its : Vec ℕ Y) → is_at (by_bytes mine) its ≡ is_text mine.items its.items
  at_key mine its = is_eq-slice_cmp mine.items its.items ∙ same_text mine.items its.items

  -- a text comes that wasn't there
  pub are_places_entered : (old new : BTreeMap (Vec ℕ Y) ℕ) (texts : Texts) (own : List ℕ) (key : Vec ℕ Y) (place : ℕ)
      → key.items ≡ own → place ≡ length texts → has_text texts own ≡ false
      → Updates by_bytes old new key (Some place) → ArePlaces old texts → ArePlaces new (texts ++ own ∷ [])
  are_places_entered old new texts own key place is behind absent updates places = λ its.
      let same = at_key key its in
      updates.0 its ∙ rw (same, is, places its, behind) (sym (place_behind texts own its.items absent))
