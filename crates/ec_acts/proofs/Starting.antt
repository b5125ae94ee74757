-- A fresh node with the literals and then with the constants.
use Rattle.std.proofs.Common.{◌≡◌, ℕ, ◌+◌, ◌<◌, List, [], ◌∷◌, ◌++◌, length, Some, sym, ap, ◌∙◌, subst, arith}
use Rattle.std.proofs.Common.{⊎_elim}
use Rattle.std.specs.Prelude.{slice_get}
use Rattle.std.proofs.lemmas.Option.{same_Some}
use Rattle.ec_base.proofs.Lists.{get_within}
use Rattle.ec_code.specs.declared.code.Parts.{Parts}
use Rattle.ec_acts.proofs.Interning.{all_interned}
use Rattle.ec_acts.specs.Fresh.{AreAtFirst, CanHold, Defaulted, Interned, IsAtFirst}
use Rattle.ec_stores.proofs.Numbers.{end_or, length_more}
use Rattle.ec_stores.specs.Changes.{IsFresh}
use Rattle.ec_stores.specs.Node.{NodeData, store_of}
use Rattle.ec_things.specs.Store.{Store}
use Rattle.ec_things.specs.Texts.{InPool}
use Rattle.ec_world.specs.declared.node.NodeSpec.{NodeSpec}

module _ (p : Parts) (spec : NodeSpec) (can : CanHold p spec) (fresh texts : Store) (constants : ℕ)
    (is : IsFresh fresh spec.kind spec.blocks spec.text constants) (interned : Interned p.literals (length p.literals) fresh texts) where
  texts_are : (i : ℕ) → texts.text i ≡ slice_get p.literals i
  texts_are = all_interned p.literals (length p.literals) fresh texts (omega arith) interned

  pub empty_there : InPool texts []
  empty_there = (can.empty.at, texts_are can.empty.at ∙ can.empty.is)

  pub constants_there : constants ≡ length p.constants → (i : ℕ) → i < length p.constants → texts.global i ≡ Some 0
  constants_there many i l = interned.global i ∙ is.constants i (omega (arith, many, l))

  pub at_first : (s : Store) → Defaulted p.constants (length p.constants) texts s → IsAtFirst p spec s
  at_first s defaulted = record {
    size = record {
      kind = defaulted.same.kind ∙ interned.same.kind ∙ is.kind_is;
      room = defaulted.same.room ∙ interned.same.room ∙ is.room_is;
      text_room = defaulted.same.text_room ∙ interned.same.text_room ∙ is.text_room_is;
      count = defaulted.same.count ∙ interned.same.count ∙ is.count_is;
      texts = λ i. defaulted.texts i ∙ texts_are i;
    };
    rows = λ key. defaulted.same.rows key ∙ interned.same.rows key ∙ is.rows key;
    constants = λ i t e. defaulted.each i t (get_within p.constants i t e) e;
    free = defaulted.same.free ∙ interned.same.free ∙ is.free_is;
    tidy = defaulted.same.tidy;
  }

-- ---- one node after another

pub none_at_first : (p : Parts) (specs : List NodeSpec) (nodes : List NodeData) → nodes ≡ [] → AreAtFirst p specs 0 nodes
none_at_first p specs nodes none = record {
  many = ap length none;
  each = λ k spec node e f. absurd (nothing k node (ap (λ (ns : List NodeData). slice_get ns k) (sym none) ∙ f));
}
  where
    nothing : (k : ℕ) (node : NodeData) → slice_get [] k ≡ Some node → ⊥
    nothing k node e = absurd cc

pub one_at_first : (p : Parts) (specs : List NodeSpec) (n : ℕ) (nodes now : List NodeData) (node : NodeData) (spec : NodeSpec) →
    AreAtFirst p specs n nodes → slice_get specs n ≡ Some spec → IsAtFirst p spec (store_of node) → now ≡ nodes ++ node ∷ [] →
    AreAtFirst p specs (n + 1) now
one_at_first p specs n nodes now node spec so is first now_is = record {
  many = ap length now_is ∙ length_more nodes node ∙ (let m = so.many in omega (arith, m));
  each = λ k spec' node' e f. ⊎_elim
      (λ (old : slice_get nodes k ≡ Some node'). so.each k spec' node' e old)
      (λ (new : (k ≡ length nodes) × (node' ≡ node)).
      let at : k ≡ n = new.0 ∙ so.many in
      let got : slice_get specs n ≡ Some spec' = ap (slice_get specs) (sym at) ∙ e in
      let same : spec ≡ spec' = same_Some spec spec' (sym is ∙ got) in
      subst (λ (x : NodeSpec). IsAtFirst p x (store_of node')) same
      (subst (λ (x : NodeData). IsAtFirst p spec (store_of x)) (sym new.1) first))
      (end_or nodes node k node' (ap (λ (ns : List NodeData). slice_get ns k) (sym now_is) ∙ f));
}
