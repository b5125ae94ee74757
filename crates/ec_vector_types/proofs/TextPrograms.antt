-- Each vector type that the tree of a text makes is written in the text.
use Rattle.std.proofs.Common.{◌≡◌, true, List, [], ◌∷◌, ◌++◌, map, ap, sym, subst}
use Rattle.std.specs.Prelude.{if◌then◌else◌}
use Rattle.ec_ast.specs.declared.Class.{Class}
use Rattle.ec_ast.specs.declared.Constant.{Constant}
use Rattle.ec_ast.specs.declared.Program.{Program}
use Rattle.ec_ast.specs.declared.TypeName.{TypeName}
use Rattle.ec_ast.specs.declared.Typeobject.{Typeobject}
use Rattle.ec_check.proofs.Every.{Every, every_weaker}
use Rattle.ec_lexer.specs.declared.token.Token.{Token}
use Rattle.ec_meaning.specs.Types.{vector_type}
use Rattle.ec_parser.specs.HasTree.{IsClass, IsType, IsTypeobj, AreConstants, HasTree, program}
use Rattle.ec_places.proofs.Skipped.{flag, type_option, params_option, signatures}
use Rattle.ec_types.specs.Names.{Text}
use Rattle.ec_types.specs.Types.{type_of, vector_of}
use Rattle.ec_vector_types.proofs.Reading.{read, vector_read}
use Rattle.ec_vector_types.proofs.TextParts.{Taken, arrived, passed, vector, and_then, past, skipped, written}
use Rattle.ec_vector_types.proofs.TextTrees.{body, expr}
use Rattle.ec_vector_types.proofs.TreeMade.{Written, joined, written_in_program, written_in_value}
use Rattle.ec_vector_types.specs.Written.{is_vector, type_at, vectors_at, written_vectors}
use Rattle.ec_world.proofs.Members.{has_back, has_first}
use Rattle.ec_world.specs.Group.{Has}
use Rattle.ec_world.specs.declared.class.VectorType.{VectorType}

-- ---- constants

class_taken : {ts us : List Token} {x : Class} → IsClass ts us x → Taken ts us (written.body x.body)
class_taken (IsClass.class is e f ps h g i) =
    and_then (skipped (flag is))
    (passed (passed (and_then (skipped (params_option ps)) (past (body h) (passed (passed arrived))))))

typeobject : {ts us : List Token} {x : Typeobject} → IsTypeobj ts us x → Taken ts us []
typeobject (IsTypeobj.typeobj e f h g i) = passed (passed (past (skipped (signatures h)) (passed (passed arrived))))

constants : {ts us : List Token} {xs : List Constant} → AreConstants ts us xs →
    Taken ts us (joined (map (λ constant. written_in_value constant.value) xs))
constants AreConstants.none = arrived
constants (AreConstants.class e f g h k) = passed (passed (passed (and_then (class_taken h) (constants k))))
constants (AreConstants.typeobj e f g h k) = passed (passed (passed (and_then (typeobject h) (constants k))))
constants (AreConstants.expr e f of g h k) =
    passed (passed (and_then (skipped (type_option of)) (passed (and_then (expr h) (constants k)))))

all_taken : {ts : List Token} {x : Program} → HasTree ts x → Taken ts [] (written_in_program x)
all_taken (program h) = constants h

-- ---- the vector types of tokens

module _ (names : List Text) where
  -- the type of vectors of such elements is among those of the tokens
  abbrev pub IsWritten : List Token → TypeName → Type 0
  IsWritten ts of = Has (written_vectors names ts) (vector_type (vector_of (type_of names of)))

  later : (a : Token) (ts : List Token) (of : TypeName) → IsWritten ts of → IsWritten (a ∷ ts) of
  later a ts of h = has_back (vector_type (vector_of (type_of names of))) (vectors_at names a ts) (written_vectors names ts) h

  first_written : (a : Token) (ts : List Token) (x : VectorType) → is_vector a ≡ true → vector_type (type_at names (a ∷ ts)) ≡ x →
      Has (written_vectors names (a ∷ ts)) x
  first_written a ts x e same =
      subst (λ (v : _). Has ((if v then vector_type (type_at names (a ∷ ts)) ∷ [] else []) ++ written_vectors names ts) x) (sym e)
      (subst (λ (y : VectorType). Has (y ∷ written_vectors names ts) x) (sym same) (has_first x (written_vectors names ts)))

  here : (a b c d : Token) {ts us : List Token} {of : TypeName} → is_vector a ≡ true → IsType ts us of →
      IsWritten (a ∷ b ∷ c ∷ d ∷ ts) of
  here a b c d {ts} {us} {of} e h =
      first_written a (b ∷ c ∷ d ∷ ts) (vector_type (vector_of (type_of names of))) e
      (ap vector_type (vector_read names a b c d ts (type_of names of) e (read names h)))

  each_later : (a : Token) (ts : List Token) (ns : Written) → Every (IsWritten ts) ns → Every (IsWritten (a ∷ ts)) ns
  each_later a ts ns h = every_weaker (IsWritten ts) (IsWritten (a ∷ ts)) (λ of k. later a ts of k) ns h

  each_written : {ts us : List Token} {ns : Written} → Taken ts us ns → Every (IsWritten ts) ns
  each_written arrived = tt
  each_written (passed {a} {ts} {us} {ns} k) = each_later a ts ns (each_written k)
  each_written (vector {a} {b} {c} {d} {ts} {us} {vs} {of} {ns} e h k) = (
    here a b c d e h,
    each_later a (b ∷ c ∷ d ∷ ts) ns (each_later b (c ∷ d ∷ ts) ns (each_later c (d ∷ ts) ns (each_later d ts ns (each_written k)))),
  )

  pub text_writes : (tokens : List Token) (x : Program) → HasTree tokens x → Every (IsWritten tokens) (written_in_program x)
  text_writes tokens x h = each_written (all_taken h)
