-- A node whose pool has the same texts has the same room for text.
use Rattle.std.proofs.Common.{◌≡◌, ◌≤◌, ℕ, List, None, refl, sym, subst, arith, inl, ⊎_elim}
use Rattle.std.specs.Prelude.{◌↔◌, length}
use Rattle.ec_world.specs.Words.{text_bytes}
use Rattle.ec_objects.specs.Values.{HasRoom, TextsFit}
use Rattle.ec_things.proofs.Sums.{new_bytes_once}
use Rattle.ec_things.specs.Store.{Store, Tidy}
use Rattle.ec_things.specs.Texts.{GetsTexts, InPool, NewBytes}
use Rattle.ec_world.specs.Group.{Has}
use Rattle.ec_world.specs.declared.value.Value.{Value}
use Rattle.ec_world.specs.declared.value.Value.TheVariants.{Int, Str, Ref, Nil, Bool as Truth}

-- two nodes have the same texts
abbrev pub SamePool : Store → Store → Type 0
SamePool s s' = (text : List ℕ) → InPool s' text ↔ InPool s text

pub text_free_same : (s s' : Store) → Tidy s → Tidy s' → s'.text_room ≡ s.text_room → SamePool s s' → s'.text_free ≡ s.text_free
text_free_same s s' t t' room same =
    let e : Store = record s { text = λ i. None } in
    let old : NewBytes (InPool s) e (text_bytes t.filled.texts) = record {
      texts = t.filled.texts;
      once = t.filled.once;
      these = λ text. (
        λ h. ((t.filled.these text).0 h, λ (x : InPool e text). absurd (let y = x.1 in cc)),
        λ h. (t.filled.these text).1 h.0,
      );
      bytes = refl;
    } in
    let new : NewBytes (InPool s) e (text_bytes t'.filled.texts) = record {
      texts = t'.filled.texts;
      once = t'.filled.once;
      these = λ text. (
        λ h. ((same text).0 ((t'.filled.these text).0 h), λ (x : InPool e text). absurd (let y = x.1 in cc)),
        λ h. (t'.filled.these text).1 ((same text).1 h.0),
      );
      bytes = refl;
    } in
    let bytes = new_bytes_once (InPool s) e (text_bytes t.filled.texts) (text_bytes t'.filled.texts) old new in
    omega (arith, t.filled.bytes, t'.filled.bytes, room, bytes)

pub room_there : (s s' : Store) (v : Value) → SamePool s s' → s'.text_free ≡ s.text_free → HasRoom s v → HasRoom s' v
room_there s s' (Str t) same free has =
    λ (new : InPool s' t → ⊥). subst (λ n. length t ≤ n) (sym free) (has (λ (old : InPool s t). new ((same t).1 old)))
room_there s s' (Int z) same free has = tt
room_there s s' (Truth b) same free has = tt
room_there s s' (Ref o) same free has = tt
room_there s s' Nil same free has = tt

pub new_bytes_there : (Wanted : List ℕ → Type 0) (s s' : Store) (n : ℕ) → SamePool s s' → NewBytes Wanted s n → NewBytes Wanted s' n
new_bytes_there Wanted s s' n same new = record {
  texts = new.texts;
  once = new.once;
  these = λ text. (
    λ h. let x = (new.these text).0 h in (x.0, λ (y : InPool s' text). x.1 ((same text).0 y)),
    λ h. (new.these text).1 (h.0, λ (y : InPool s text). h.1 ((same text).1 y)),
  );
  bytes = new.bytes;
}

pub texts_fit_there : (s s' : Store) (values : List Value) → SamePool s s' → s'.text_free ≡ s.text_free → TextsFit s values →
    TextsFit s' values
texts_fit_there s s' values same free fit = record {
  bytes = fit.bytes;
  needs = new_bytes_there (λ text. Has values (Str text)) s s' fit.bytes same fit.needs;
  fits = subst (λ n. fit.bytes ≤ n) (sym free) fit.fits;
}

-- a node of a cluster whose nodes got no text
pub no_text_came : (s s' : Store) → GetsTexts (λ text. ⊥) s s' → SamePool s s'
no_text_came s s' gets = λ text. (
  λ h. ⊎_elim (λ (old : InPool s text). old) (λ (x : ⊥). absurd x) ((gets.texts text).0 h),
  λ h. (gets.texts text).1 (inl h),
)
