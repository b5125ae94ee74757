-- Constants get their defaults one after another.
use Rattle.std.proofs.Common.{◌≡◌, ◌≢◌, ℕ, ◌+◌, ◌<◌, List, [], Some, refl, sym, ap, ◌∙◌, subst, arith, ⊎_elim}
use Rattle.std.specs.Prelude.{IsSome, is_some, slice_get}
use Rattle.std.proofs.lemmas.Option.{same_Some}
use Rattle.ec_code.specs.Typing.{kind_of}
use Rattle.ec_types.specs.declared.conform.static_type.StaticType.{StaticType}
use Rattle.ec_acts.proofs.Keeping.{same_on, same_self, texts_same}
use Rattle.ec_acts.specs.Fresh.{Defaulted}
use Rattle.ec_objects.specs.Values.{HasRoom}
use Rattle.ec_things.proofs.Kept.{Carries, stands_kept}
use Rattle.ec_things.proofs.Put.{same_or_not}
use Rattle.ec_things.specs.Changes.{PutsGlobal}
use Rattle.ec_things.specs.Shows.{GlobalStands}
use Rattle.ec_things.specs.Store.{Store, Tidy}
use Rattle.ec_things.specs.Texts.{GetsTexts, InPool}
use Rattle.ec_world.specs.Values.{default_of}
use Rattle.ec_world.specs.declared.value.Value.{Value}
use Rattle.ec_world.specs.declared.value.Value.TheVariants.{Str}
use Rattle.ec_world.specs.declared.value.ValueType.{ValueType}
use Rattle.ec_world.specs.declared.value.ValueType.TheVariants.{Integer, Boolean, Bytes, Reference}

-- the only text of a default is the empty one
empty_text : (of : ValueType) (t : List ℕ) → default_of of ≡ Str t → t ≡ []
empty_text Integer t e = absurd cc
empty_text Boolean t e = absurd cc
empty_text Bytes t e = cc
empty_text Reference t e = absurd cc

pub default_fits : (s : Store) (of : ValueType) (v : Value) → v ≡ default_of of → HasRoom s v
default_fits s of v e = subst (λ (x : Value). HasRoom s x) (sym e) (by of)
  where
    by : (k : ValueType) → HasRoom s (default_of k)
    by Integer = tt
    by Boolean = tt
    by Bytes = λ h. omega arith
    by Reference = tt

pub none_defaulted : (types : List StaticType) (s : Store) → Tidy s → Defaulted types 0 s s
none_defaulted types s tidy = record {
  same = same_self s tidy;
  texts = λ i. refl;
  each = λ i t l e. absurd (omega arith);
  behind = λ i l. refl;
}

module _ (types : List StaticType) (n : ℕ) (old now new : Store) (so : Defaulted types n old now) (empty : InPool old []) (t : StaticType)
    (is : slice_get types n ≡ Some t) (v : Value) (default : v ≡ default_of (kind_of t)) (puts : PutsGlobal now new n v)
    (gets : GetsTexts (λ text. v ≡ Str text) now new) where
  none_new : (text : List ℕ) → InPool new text → InPool now text
  none_new text h = ⊎_elim
      (λ (old_one : InPool now text). old_one)
      (λ (new_one : v ≡ Str text).
      let is_empty : text ≡ [] = empty_text (kind_of t) text (sym default ∙ new_one) in
      (empty.0, so.texts empty.0 ∙ empty.1 ∙ ap Some (sym is_empty)))
      ((gets.texts text).0 h)

  carries : Carries now new
  carries = record { kind = puts.kind; local = puts.local; text = puts.text }

  each_now : (i : ℕ) (u : StaticType) → i < n + 1 → slice_get types i ≡ Some u → GlobalStands new i (default_of (kind_of u))
  each_now i u l e = ⊎_elim
      (λ (same : i ≡ n).
      let got : slice_get types n ≡ Some u = ap (slice_get types) (sym same) ∙ e in
      let type_is : t ≡ u = same_Some t u (sym is ∙ got) in
      subst (λ k. GlobalStands new k (default_of (kind_of u))) (sym same)
      (subst (λ (x : Value). GlobalStands new n x) (default ∙ ap (λ x. default_of (kind_of x)) type_is) puts.here))
      (λ (ne : i ≢ n). let g = so.each i u (omega arith) e in record {
        word = g.word;
        there = puts.others i ne ∙ g.there;
        stands = stands_kept now new carries (default_of (kind_of u)) g.word g.stands;
      })
      (same_or_not i n)

  pub one_defaulted : Defaulted types (n + 1) old new
  one_defaulted = record {
    same = same_on old now new so.same (record {
      kind = puts.kind;
      rows = λ key. (puts.rows key).row;
      room = puts.room;
      free = puts.free;
      text_room = gets.text_room;
      count = puts.count;
      tidy = puts.tidy so.same.tidy;
    });
    texts = λ i. texts_same now new (puts.tidy so.same.tidy) puts.text none_new i ∙ so.texts i;
    each = each_now;
    behind = λ i l. puts.others i (omega arith) ∙ so.behind i (omega arith);
  }

-- the next constant is there
pub still_constant : (types : List StaticType) (n : ℕ) (old now : Store) → Defaulted types n old now → old.global n ≡ Some 0 →
    IsSome (now.global n)
still_constant types n old now so there = ap is_some (so.behind n (omega arith) ∙ there)
