-- A node file that is read has 1 to 64 nodes, of either kind, whose sizes are within the limits.
use Rattle.std.proofs.Common.{◌≡◌, ◌∙◌, refl, sym, ap, ℕ, zero, suc, ◌≤◌, Bool, true, false, ◌==◌, List, [], ◌∷◌, length, Option}
use Rattle.std.proofs.Common.{Some, None, subst, arith, codes, if◌then◌else◌}
use Rattle.std.specs.Prelude.{ℤ, pos, negsuc, Result, Ok, nat_le, option_map, option_and_then, slice_get}
use Rattle.std.specs.List.{list_all}
use Rattle.std.proofs.lemmas.Bool.Decides.{nat_tests}
use Rattle.toml.specs.Data.{Members, as_array, as_integer, get_member}
use Rattle.ec_world.specs.declared.node.NodeSpec.{NodeSpec}
use Rattle.ec_inputs.specs.declared.nodes.NodeRule.{NodeRule}
use Rattle.ec_inputs.specs.declared.nodes.NodeRule.TheVariants as rule
use Rattle.ec_inputs.specs.Nodes.{Text, NodesOf, nodes_of, nodes_by, nodes_in, node_of, number_at, whole, kind_of}
use Rattle.ec_inputs.specs.Nodes.{tables_of, tables_in, counted, is_fit_count, key_count, document_of, has_keys, have_names}
use Rattle.ec_inputs.specs.Nodes.{have_kinds, holds, given, ◌>>=◌, longest, most_nodes, most_blocks, most_text}

-- a node whose blocks and text are within the limits
pub record IsSized (spec : NodeSpec) : Type 0 where
  pub blocks : spec.blocks ≤ most_blocks
  pub text : spec.text ≤ most_text

-- as many such nodes as there may be
pub record AreSized (specs : List NodeSpec) : Type 0 where
  pub some : 1 ≤ length specs
  pub few : length specs ≤ most_nodes
  pub each : (k : ℕ) (spec : NodeSpec) → slice_get specs k ≡ Some spec → IsSized spec

-- as many things as there may be nodes
abbrev IsFit : {A : Type 0} → List A → Type 0
IsFit xs = (1 ≤ length xs) × (length xs ≤ most_nodes)

-- ---- one step of a chain

then_some : {A B : Type 0} (f : A → Option B) (o : Option A) (b : B) → option_and_then f o ≡ Some b →
    (a : A) × (o ≡ Some a) × (f a ≡ Some b)
then_some f (Some a) b e = (a, refl, e)
then_some f None b e = let bad : ⊥ = cc in absurd bad

map_some : {A B : Type 0} (f : A → B) (o : Option A) (b : B) → option_map f o ≡ Some b → (a : A) × (o ≡ Some a) × (f a ≡ b)
map_some f (Some a) b e = (a, refl, cc)
map_some f None b e = let bad : ⊥ = cc in absurd bad

holds_ok : {B : Type 0} (r : NodeRule) (b : Bool) (f : Unit {0} → Result B NodeRule) (x : B) → (holds r b >>= f) ≡ Ok x → f tt ≡ Ok x
holds_ok r true f x e = e
holds_ok r false f x e = let bad : ⊥ = cc in absurd bad

given_ok : {A : Type 0} (r : NodeRule) (o : Option A) (x : A) → given r o ≡ Ok x → o ≡ Some x
given_ok r (Some a) x e = cc
given_ok r None x e = let bad : ⊥ = cc in absurd bad

given_then : {A B : Type 0} (r : NodeRule) (o : Option A) (f : A → Result B NodeRule) (x : B) → (given r o >>= f) ≡ Ok x →
    (a : A) × (o ≡ Some a) × (f a ≡ Ok x)
given_then r (Some a) f x e = (a, refl, e)
given_then r None f x e = let bad : ⊥ = cc in absurd bad

-- ---- one table

whole_within : (most : ℕ) (z : ℤ) (n : ℕ) → whole most z ≡ Some n → n ≤ most
whole_within most (pos m) n e = go (nat_le m most) refl e
  where
    go : (b : Bool) → nat_le m most ≡ b → (if b then Some m else None) ≡ Some n → n ≤ most
    go true h k =
        let low : m ≤ most = grind (arith, nat_tests) in
        let same : m ≡ n = cc in
        subst (λ (x : ℕ). x ≤ most) same low
    go false h k = let bad : ⊥ = cc in absurd bad
whole_within most (negsuc m) n e = let bad : ⊥ = cc in absurd bad

number_within : (key : Text) (most : ℕ) (t : Members) (n : ℕ) → number_at key most t ≡ Some n → n ≤ most
unfolding number_at
number_within key most t n e =
    let found = then_some (whole most) (option_and_then as_integer (get_member key t)) n e in
    whole_within most found.0 n found.2

node_sized : (t : Members) (spec : NodeSpec) → node_of t ≡ Some spec → IsSized spec
unfolding node_of
node_sized t spec e =
    let kind = then_some _ (kind_of t) spec e in
    let blocks = then_some _ (number_at (codes "blocks") most_blocks t) spec kind.2 in
    let text = map_some _ (number_at (codes "text") most_text t) spec blocks.2 in
    subst IsSized text.2
    (record {
      blocks = number_within (codes "blocks") most_blocks t blocks.0 blocks.1;
      text = number_within (codes "text") most_text t text.0 text.1;
    })

-- ---- several tables

-- the first node and the others, where there are nodes of a first table and others
record IsFirst (t : Members) (ts : List Members) (specs : List NodeSpec) : Type 0 where
  first : NodeSpec
  others : List NodeSpec
  same : first ∷ others ≡ specs
  its_node : node_of t ≡ Some first
  their_nodes : nodes_in ts ≡ Some others

first_node : (t : Members) (ts : List Members) (specs : List NodeSpec) → nodes_in (t ∷ ts) ≡ Some specs → IsFirst t ts specs
first_node t ts specs e =
    let first = then_some (λ node. option_map (λ nodes. node ∷ nodes) (nodes_in ts)) (node_of t) specs e in
    let others = map_some (λ nodes. first.0 ∷ nodes) (nodes_in ts) specs first.2 in
    record { first = first.0; others = others.0; same = others.2; its_node = first.1; their_nodes = others.1 }

-- each table has one node
as_many : (ts : List Members) (specs : List NodeSpec) → nodes_in ts ≡ Some specs → length ts ≡ length specs
as_many [] specs e = let same : [] ≡ specs = cc in ap length same
as_many (t ∷ ts) specs e =
    let found = first_node t ts specs e in
    subst (λ (xs : List NodeSpec). suc (length ts) ≡ length xs) found.same (ap suc (as_many ts found.others found.their_nodes))

each_sized : (ts : List Members) (specs : List NodeSpec) → nodes_in ts ≡ Some specs → (k : ℕ) (spec : NodeSpec) →
    slice_get specs k ≡ Some spec → IsSized spec
each_sized [] specs e k spec at =
    let none : [] ≡ specs = cc in
    let there = subst (λ (xs : List NodeSpec). slice_get xs k ≡ Some spec) (sym none) at in
    let bad : ⊥ = cc in absurd bad
each_sized (t ∷ ts) specs e k spec at =
    let found = first_node t ts specs e in
    go k found (subst (λ (xs : List NodeSpec). slice_get xs k ≡ Some spec) (sym found.same) at)
    (λ i there. each_sized ts found.others found.their_nodes i spec there)
  where
    go : (i : ℕ) → (found : IsFirst t ts specs) → slice_get (found.first ∷ found.others) i ≡ Some spec →
        ((j : ℕ) → slice_get found.others j ≡ Some spec → IsSized spec) → IsSized spec
    go zero found there more = node_sized t spec (found.its_node ∙ there)
    go (suc j) found there more = more j there

-- ---- the file

counted_fit : (found ts : List Members) → counted found ≡ Some ts → IsFit ts
counted_fit found ts e = go (is_fit_count (length found)) refl e
  where
    go : (b : Bool) → is_fit_count (length found) ≡ b → (if b then Some found else None) ≡ Some ts → IsFit ts
    go true h k =
        let same : found ≡ ts = cc in
        subst (λ (xs : List Members). IsFit xs) same (grind (arith, nat_tests), grind (arith, nat_tests))
    go false h k = let bad : ⊥ = cc in absurd bad

fit_tables : (document : Members) (ts : List Members) → tables_of document ≡ Some ts → IsFit ts
unfolding tables_of
fit_tables document ts e = go (key_count document == 1) e
  where
    go : (b : Bool) →
        (if b then option_and_then counted
        (option_and_then tables_in (option_and_then as_array (get_member (codes "node") document))) else None) ≡ Some ts → IsFit ts
    go true h =
        let found = then_some counted (option_and_then tables_in (option_and_then as_array (get_member (codes "node") document))) ts h in
        counted_fit found.0 ts found.2
    go false h = let bad : ⊥ = cc in absurd bad

nodes_found : (ts : List Members) (specs : List NodeSpec) → nodes_by ts ≡ Ok specs → nodes_in ts ≡ Some specs
unfolding nodes_by
nodes_found ts specs e =
    let a = holds_ok rule.Keys (list_all has_keys ts) _ specs e in
    let b = holds_ok rule.Name (have_names ts) _ specs a in
    let c = holds_ok rule.Kind (have_kinds ts) _ specs b in
    given_ok rule.Size (nodes_in ts) specs c

sized_in_document : (document : Members) (specs : List NodeSpec) → nodes_of document ≡ Ok specs → AreSized specs
sized_in_document document specs e =
    let found = given_then rule.Tables (tables_of document) nodes_by specs e in
    let fit = fit_tables document found.0 found.1 in
    let nodes = nodes_found found.0 specs found.2 in
    let same = as_many found.0 specs nodes in
    record {
      some = subst (λ (n : ℕ). 1 ≤ n) same fit.0;
      few = subst (λ (n : ℕ). n ≤ most_nodes) same fit.1;
      each = each_sized found.0 specs nodes;
    }

pub sized_nodes : (bytes : Text) (specs : List NodeSpec) → NodesOf bytes ≡ Ok specs → AreSized specs
unfolding NodesOf
sized_nodes bytes specs e =
    let short = holds_ok rule.Length (nat_le (length bytes) longest) _ specs e in
    let document = given_then rule.Document (document_of bytes) nodes_of specs short in
    sized_in_document document.0 specs document.2
