-- When a node file is refused before its tables are looked at.
use Rattle.std.proofs.Common.{◌≡◌, refl, ◌<◌, ◌≤◌, Bool, true, false, length, Some, None, arith, if◌then◌else◌}
use Rattle.std.specs.Prelude.{Err, IsUtf8, nat_le}
use Rattle.std.specs.Str.{is_utf8}
use Rattle.std.proofs.lemmas.Str.{IsUtf8-from_is_utf8, is_utf8-from_IsUtf8}
use Rattle.std.proofs.lemmas.Bool.Decides.{nat_tests}
use Rattle.toml.specs.Data.{Members}
use Rattle.toml.specs.Parse.{parse_document}
use Rattle.ec_inputs.specs.Nodes.{Text, NodesOf, document_of, nodes_of, longest}
use Rattle.ec_inputs.specs.declared.nodes.NodeRule.TheVariants as rule

pub document_read : (bytes : Text) (d : Members) → IsUtf8 bytes → parse_document bytes ≡ Some d → document_of bytes ≡ Some d
unfolding document_of
document_read bytes d u e = rw (is_utf8-from_IsUtf8 bytes u) e

pub document_refused : (bytes : Text) → (IsUtf8 bytes → parse_document bytes ≡ None) → document_of bytes ≡ None
unfolding document_of
document_refused bytes h = go (is_utf8 bytes) refl
  where
    go : (b : Bool) → is_utf8 bytes ≡ b → (if b then parse_document bytes else None) ≡ None
    go true e = h (IsUtf8-from_is_utf8 bytes e)
    go false e = refl

pub too_long : (bytes : Text) → longest < length bytes → NodesOf bytes ≡ Err rule.Length
unfolding NodesOf
too_long bytes h =
    let e : nat_le (length bytes) longest ≡ false = grind (arith, nat_tests) in
    rw e refl

fits : (bytes : Text) → length bytes ≤ longest → nat_le (length bytes) longest ≡ true
fits bytes h = grind (arith, nat_tests)

pub of_document : (bytes : Text) (d : Members) → length bytes ≤ longest → document_of bytes ≡ Some d → NodesOf bytes ≡ nodes_of d
unfolding NodesOf
of_document bytes d h e = rw (fits bytes h, e) refl

pub no_document : (bytes : Text) → length bytes ≤ longest → document_of bytes ≡ None → NodesOf bytes ≡ Err rule.Document
unfolding NodesOf
no_document bytes h e = rw (fits bytes h, e) refl
