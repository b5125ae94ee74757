-- What a node file says.
use Rattle.std.specs.Prelude.{ℕ, ℤ, pos, negsuc, ◌+◌, ◌==◌, ◌&&◌, nat_le, not, Bool, true, false, List, [], ◌∷◌, length, Option}
use Rattle.std.specs.Prelude.{Some, None, is_some, unwrap_or, option_map, option_and_then, Result, Ok, Err, codes, if◌then◌else◌}
use Rattle.std.specs.List.{list_all, list_any}
use Rattle.std.specs.Char.{is_ascii_alphanumeric}
use Rattle.std.specs.Str.{bytes_eq, is_utf8}
use Rattle.toml.specs.Data.{Items, Members, no_items, item, no_members, member, get_member, as_str, as_integer, as_array, as_table}
use Rattle.toml.specs.Parse.{parse_document}
use Rattle.ec_world.specs.declared.node.Kind.{Kind}
use Rattle.ec_world.specs.declared.node.Kind.TheVariants.{Riscv, Mips}
use Rattle.ec_world.specs.declared.node.NodeSpec.{NodeSpec}
use Rattle.ec_inputs.specs.declared.nodes.NodeRule.{NodeRule}
use Rattle.ec_inputs.specs.declared.nodes.NodeRule.TheVariants as rule
use Rattle.ec_inputs.specs.declared.nodes.NodesError.{NodesError}
use Rattle.ec_inputs.specs.declared.nodes.NodesError.TheVariants.{Refused, Memory}

abbrev pub Text : Type 0
Text = List ℕ

-- ---- limits

-- bytes of a file
abbrev pub longest : ℕ
longest = 1048576

-- nodes of a file
abbrev pub most_nodes : ℕ
most_nodes = 64

-- bytes of a name
abbrev pub longest_name : ℕ
longest_name = 16

-- blocks of a node, and bytes of its text
abbrev pub most_blocks : ℕ
most_blocks = 65536

abbrev pub most_text : ℕ
most_text = 16777216

-- ---- the document and its tables

-- the table that the bytes are as a TOML document, by toml's own definition
unfoldable pub document_of : Text → Option Members
document_of bytes = if is_utf8 bytes then parse_document bytes else None

abbrev pub key_count : Members → ℕ
key_count no_members = 0
key_count (member k d ms) = key_count ms + 1

-- the tables that the items are, unless one is none
abbrev pub tables_in : Items → Option (List Members)
tables_in no_items = Some []
tables_in (item d ds) = option_and_then (λ t. option_map (λ ts. t ∷ ts) (tables_in ds)) (as_table d)

-- as many as there may be
abbrev pub is_fit_count : ℕ → Bool
is_fit_count n = nat_le 1 n && nat_le n most_nodes

abbrev pub counted : List Members → Option (List Members)
counted ts = if is_fit_count (length ts) then Some ts else None

-- the tables of the array at `node`, the one key
unfoldable pub tables_of : Members → Option (List Members)
tables_of document =
    if key_count document == 1
    then option_and_then counted (option_and_then tables_in (option_and_then as_array (get_member (codes "node") document)))
    else None

-- ---- one table

abbrev pub has : Text → Members → Bool
has key t = is_some (get_member key t)

-- the keys are `name`, `kind`, `blocks` and `text`
unfoldable pub has_keys : Members → Bool
has_keys t = key_count t == 4 && has (codes "name") t && has (codes "kind") t && has (codes "blocks") t && has (codes "text") t

-- the string at a key, empty where there is none
unfoldable pub string_at : Text → Members → Text
string_at key t = unwrap_or (option_and_then as_str (get_member key t)) []

-- 1 to 16 letters and digits
abbrev pub is_name : Text → Bool
is_name text = nat_le 1 (length text) && nat_le (length text) longest_name && list_all is_ascii_alphanumeric text

abbrev pub name_of : Members → Text
name_of t = string_at (codes "name") t

-- the kinds, one line each
abbrev pub kind_named : Text → Option Kind
kind_named text =
    if bytes_eq text (codes "riscv") then Some Riscv else
    if bytes_eq text (codes "mips") then Some Mips else
    None

abbrev pub kind_of : Members → Option Kind
kind_of t = kind_named (string_at (codes "kind") t)

-- a whole number from 0 to a limit
abbrev pub whole : ℕ → ℤ → Option ℕ
whole most (pos n) = if nat_le n most then Some n else None
whole most (negsuc n) = None

unfoldable pub number_at : Text → ℕ → Members → Option ℕ
number_at key most t = option_and_then (whole most) (option_and_then as_integer (get_member key t))

-- ---- the tables together

abbrev pub is_among : Text → List Members → Bool
is_among name ts = list_any (λ t. bytes_eq (name_of t) name) ts

-- no name is there twice
abbrev pub have_own_names : List Members → Bool
have_own_names [] = true
have_own_names (t ∷ ts) = not (is_among (name_of t) ts) && have_own_names ts

abbrev pub have_names : List Members → Bool
have_names ts = list_all (λ t. is_name (name_of t)) ts && have_own_names ts

abbrev pub have_kinds : List Members → Bool
have_kinds ts = list_all (λ t. is_some (kind_of t)) ts

-- the node of a table
unfoldable pub node_of : Members → Option NodeSpec
node_of t =
    option_and_then
    (λ kind. option_and_then (λ blocks. option_map (λ text. record { name = name_of t; kind = kind; blocks = blocks; text = text })
    (number_at (codes "text") most_text t)) (number_at (codes "blocks") most_blocks t)) (kind_of t)

-- the nodes of the tables, unless a table has none
abbrev pub nodes_in : List Members → Option (List NodeSpec)
nodes_in [] = Some []
nodes_in (t ∷ ts) = option_and_then (λ node. option_map (λ nodes. node ∷ nodes) (nodes_in ts)) (node_of t)

-- ---- the file

-- where a test holds, what follows; else the rule that it stands for
infixl 10 ◌>>=◌
abbrev pub ◌>>=◌ : {A B : Type 0} → Result A NodeRule → (A → Result B NodeRule) → Result B NodeRule
(Ok a) >>= f = f a
(Err r) >>= f = Err r

abbrev pub holds : NodeRule → Bool → Result (Unit {0}) NodeRule
holds r true = Ok tt
holds r false = Err r

abbrev pub given : {A : Type 0} → NodeRule → Option A → Result A NodeRule
given r (Some a) = Ok a
given r None = Err r

-- The nodes of some tables, or the least rule that fails. Where the last line is reached each table has a name and
-- a kind, so a node is lacking only for the size of its blocks or its text.
unfoldable pub nodes_by : List Members → Result (List NodeSpec) NodeRule
nodes_by ts =
    holds rule.Keys (list_all has_keys ts) >>= (λ _.
    holds rule.Name (have_names ts) >>= (λ _.
    holds rule.Kind (have_kinds ts) >>= (λ _.
    given rule.Size (nodes_in ts))))

-- the nodes of a document, or the least rule that fails
abbrev pub nodes_of : Members → Result (List NodeSpec) NodeRule
nodes_of document = given rule.Tables (tables_of document) >>= nodes_by

-- The nodes that the bytes of a file say, or the least rule that fails.
unfoldable pub NodesOf : Text → Result (List NodeSpec) NodeRule
NodesOf bytes =
    holds rule.Length (nat_le (length bytes) longest) >>= (λ _.
    given rule.Document (document_of bytes) >>= nodes_of)

-- a fact of the rule that an error names; none of want of memory
abbrev pub IfRefused : NodesError → (NodeRule → Type 0) → Type 0
IfRefused (Refused r) P = P r
IfRefused Memory P = Unit {0}
