-- A node whose texts grow, but get none, has the texts that it had.
use Rattle.std.proofs.Common.{◌≡◌, ℕ, List, Option, Some, None, refl, sym, ap, ◌∙◌}
use Rattle.ec_acts.specs.Fresh.{SameSize}
use Rattle.ec_things.specs.Store.{Store, Tidy}
use Rattle.ec_things.specs.Texts.{InPool}

module _ (s s' : Store) (tidy : Tidy s') (kept : (i : ℕ) (t : List ℕ) → s.text i ≡ Some t → s'.text i ≡ Some t)
    (none_new : (t : List ℕ) → InPool s' t → InPool s t) where
  pub texts_same : (i : ℕ) → s'.text i ≡ s.text i
  texts_same i = by (s.text i) refl
    where
      absent : (y : Option (List ℕ)) → s.text i ≡ None → s'.text i ≡ y → s'.text i ≡ None
      absent None e f = f
      absent (Some t) e f =
          let h = none_new t (i, f) in
          let same : h.0 ≡ i = tidy.texts h.0 i t (kept h.0 t h.1) f in
          let was : s.text i ≡ Some t = ap s.text (sym same) ∙ h.1 in
          absurd cc

      by : (x : Option (List ℕ)) → s.text i ≡ x → s'.text i ≡ x
      by None e = absent (s'.text i) e refl
      by (Some t) e = kept i t e

pub same_self : (s : Store) → Tidy s → SameSize s s
same_self s tidy =
    record { kind = refl; rows = λ key. refl; room = refl; free = refl; text_room = refl; count = refl; tidy = tidy }

pub same_on : (a b c : Store) → SameSize a b → SameSize b c → SameSize a c
same_on a b c p q = record {
  kind = q.kind ∙ p.kind;
  rows = λ key. q.rows key ∙ p.rows key;
  room = q.room ∙ p.room;
  free = q.free ∙ p.free;
  text_room = q.text_room ∙ p.text_room;
  count = q.count ∙ p.count;
  tidy = q.tidy;
}
