-- Two steps on nodes, the texts of which are those of both.
use Rattle.std.proofs.Common.{◌⊎◌, ◌∙◌, ℕ, List, inl, inr, ⊎_elim}
use Rattle.ec_cluster.specs.Steps.{Changes, Nothing}
use Rattle.ec_cluster.specs.declared.cluster.Cluster.{Cluster}
use Rattle.ec_things.specs.Store.{Store}
use Rattle.ec_things.specs.Texts.{GetsTexts, InPool}

module _ (A B C : ℕ → List ℕ → Type 0) (first : (k : ℕ) (text : List ℕ) → A k text → C k text)
    (second : (k : ℕ) (text : List ℕ) → B k text → C k text) (either : (k : ℕ) (text : List ℕ) → C k text → A k text ⊎ B k text) where
  gets_both : (k : ℕ) (s s1 s2 : Store) → GetsTexts (A k) s s1 → GetsTexts (B k) s1 s2 → GetsTexts (C k) s s2
  gets_both k s s1 s2 one two = record {
    kind = two.kind ∙ one.kind;
    room = two.room ∙ one.room;
    text_room = two.text_room ∙ one.text_room;
    count = two.count ∙ one.count;
    texts = λ text. (
      λ h. ⊎_elim
          (λ (between : InPool s1 text). ⊎_elim
          (λ (old : InPool s text). inl old)
          (λ (came : A k text). inr (first k text came))
          ((one.texts text).0 between))
          (λ (came : B k text). inr (second k text came))
          ((two.texts text).0 h),
      λ h. ⊎_elim
          (λ (old : InPool s text). (two.texts text).1 (inl ((one.texts text).1 (inl old))))
          (λ (came : C k text). ⊎_elim
          (λ (a : A k text). (two.texts text).1 (inl ((one.texts text).1 (inr a))))
          (λ (b : B k text). (two.texts text).1 (inr b))
          (either k text came))
          h,
    );
    stay = λ i text h. two.stay i text (one.stay i text h);
  }

  pub changes_both : (c c1 c2 : Cluster) → Changes A c c1 → Changes B c1 c2 → Changes C c c2
  changes_both c c1 c2 one two = record {
    parts = two.parts ∙ one.parts;
    images = two.images ∙ one.images;
    nodes = two.nodes ∙ one.nodes;
    each = λ k s e.
        let x = one.each k s e in
        let y = two.each k x.0 x.1 in
        (y.0, y.1, gets_both k s x.0 y.0 x.2 y.2);
  }

-- A step that brings no text, and another one.
pub changes_behind : (A : ℕ → List ℕ → Type 0) (c c1 c2 : Cluster) → Changes Nothing c c1 → Changes A c1 c2 → Changes A c c2
changes_behind A c c1 c2 = changes_both Nothing A A (λ k text none. absurd none) (λ k text a. a) (λ k text a. inr a) c c1 c2

pub changes_before : (A : ℕ → List ℕ → Type 0) (c c1 c2 : Cluster) → Changes A c c1 → Changes Nothing c1 c2 → Changes A c c2
changes_before A c c1 c2 = changes_both A Nothing A (λ k text a. a) (λ k text none. absurd none) (λ k text a. inl a) c c1 c2
