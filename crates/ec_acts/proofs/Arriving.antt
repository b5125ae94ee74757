-- The system that is loaded.
use Rattle.std.proofs.Common.{◌≡◌, ℕ, suc, List, [], ◌∷◌, map, Some, refl, sym, ap, ◌∙◌, arith, inl, ⊎_elim}
use Rattle.std.specs.Prelude.{length, slice_get}
use Rattle.ec_base.proofs.Lists.{get_there}
use Rattle.ec_cluster.proofs.Putting.{is_node, shown_there}
use Rattle.ec_cluster.specs.Cluster.{CodeWorld, frame_of, place, stores}
use Rattle.ec_cluster.specs.declared.cluster.Cluster.{Cluster}
use Rattle.ec_cluster.specs.declared.cluster.Images.{Images}
use Rattle.ec_code.specs.Typing.{kind_of}
use Rattle.ec_code.specs.declared.code.Parts.{Parts}
use Rattle.ec_cluster.specs.Located.{first_made}
use Rattle.ec_acts.specs.Loaded.{Loaded}
use Rattle.ec_acts.specs.Loading.{HaveRoom, IsSet, first_needs}
use Rattle.ec_acts.specs.Worlds.{world_first}
use Rattle.ec_cluster.specs.Systems.{Strings}
use Rattle.ec_cluster.specs.declared.system.ProcessRow.{ProcessRow}
use Rattle.ec_things.proofs.Texts.{shown_text}
use Rattle.ec_things.specs.Store.{Store}
use Rattle.ec_things.specs.Texts.{InPool, IsHeld}
use Rattle.ec_things.specs.Things.{things_of}
use Rattle.ec_world.specs.Group.{Has}
use Rattle.ec_world.specs.Values.{default_of}
use Rattle.ec_world.specs.declared.node.NodeSpec.{NodeSpec}
use Rattle.ec_world.specs.declared.process.ProcStatus.TheVariants.{Ready}
use Rattle.ec_world.specs.declared.value.Value.TheVariants.{Str}

mapped_length : {A B : Type 0} (f : A → B) (xs : List A) → length (map f xs) ≡ length xs
mapped_length f [] = refl
mapped_length f (x ∷ xs) = ap suc (mapped_length f xs)

module _ (p : Parts) (images : Images) (specs : List NodeSpec) (c : Cluster) (rows : List ProcessRow) (output : List ℕ)
    (set : IsSet p images specs (world_first (length specs) p) (first_made (length specs)) c) where
  abbrev w : CodeWorld
  w = world_first (length specs) p

  -- the literals are the texts of each node
  its_texts : (k : ℕ) (s : Store) → stores c k ≡ Some s → (i : ℕ) → s.text i ≡ slice_get p.literals i
  its_texts k s e =
      let spec = get_there specs k (let l = is_node c k s e in let n = set.nodes in omega (arith, l, n)) in
      (set.sizes k spec.0 s spec.1 e).texts

  -- each text of the world is there
  string_there : (k : ℕ) (s : Store) (text : List ℕ) → stores c k ≡ Some s → Strings c w k text → InPool s text
  string_there k s text e h = ⊎_elim
      (λ (held : IsHeld (things_of (frame_of c) w) (place c) k text).
      shown_text s held.key held.thing text (shown_there c w k s held.key held.thing set.shows held.is held.at e) held.has)
      (λ (constant : Has w.common.globals (Str text)).
      let g = set.shows.globals_stand k s constant.at (Str text) e constant.is in
      (g.word, g.stands))
      h

  pub loaded : rows ≡ record { activations = 1; status = Ready } ∷ [] → output ≡ [] →
      HaveRoom (first_needs p images (length specs)) specs (length specs) →
      Loaded p images specs (record { cluster = c; processes = rows; output = output })
  loaded one nothing room = record {
    parts = set.parts;
    images_are = set.images_are;
    nodes = set.nodes;
    mirrors = record {
      shows = set.shows;
      rows = one;
      output = nothing;
      nodes = sym set.nodes;
      classes = ap (λ (q : Parts). q.classes) (sym set.parts);
      objects = set.many ∙ sym set.whereabouts.made;
      constants = mapped_length default_of (map kind_of p.constants) ∙ mapped_length kind_of p.constants
          ∙ ap (λ (q : Parts). length q.constants) (sym set.parts);
    };
    sizes = set.sizes;
    texts = λ k s text e. (
      λ h. inl (record { at = h.0; is = sym (its_texts k s e h.0) ∙ h.1 }),
      λ h. ⊎_elim
          (λ (literal : Has p.literals text). (literal.at, its_texts k s e literal.at ∙ literal.is))
          (λ (string : Strings c w k text). string_there k s text e string)
          h,
    );
    whereabouts = set.whereabouts;
    fits = room;
  }
