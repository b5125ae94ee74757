-- Where no argument is a text, a new activation holds none.
use Rattle.std.proofs.Common.{◌≡◌, ℕ, zero, suc, List, [], Some, refl, sym, arith}
use Rattle.std.specs.Prelude.{slice_get}
use Rattle.ec_activations.proofs.Stops.{mapped}
use Rattle.ec_activations.specs.Frames.{or_nil}
use Rattle.ec_code.specs.declared.code.Live.{Live}
use Rattle.ec_code.specs.declared.code.Variable.{Variable}
use Rattle.ec_code.specs.declared.code.Variable.TheVariants.{Named, Temporary}
use Rattle.ec_node_frames.specs.Beginning.{first_held, first_value, first_values}
use Rattle.ec_objects.specs.Values.{TextsFit}
use Rattle.ec_generate.specs.declared.table.OperationTable.{OperationTable}
use Rattle.ec_things.specs.Store.{Store}
use Rattle.ec_world.specs.Group.{Has}
use Rattle.ec_world.specs.declared.value.Value.{Value}
use Rattle.ec_world.specs.declared.value.Value.TheVariants.{Str}

fits_without : (s : Store) (vs : List Value) → ((text : List ℕ) → Has vs (Str text) → ⊥) → TextsFit s vs
fits_without s vs none = record {
  bytes = 0;
  needs = record {
    texts = [];
    once = record { once = λ i j x e f. cc };
    these = λ text. (
      λ (h : Has [] text). let e = h.is in cc,
      λ h. absurd (none text h.0),
    );
    bytes = refl;
  };
  fits = omega arith;
}

module _ (arguments : List Value) (none : (n : ℕ) (text : List ℕ) → or_nil (slice_get arguments n) ≡ Str text → ⊥) where
  no_text : (x : Variable) (text : List ℕ) → first_value arguments x ≡ Str text → ⊥
  no_text (Named n) text e = none n text e
  no_text (Temporary c) text e = cc

  no_text_held : (table : OperationTable) (own i : ℕ) (text : List ℕ) → slice_get (first_values table own arguments) i ≡ Some (Str text) → ⊥
  no_text_held table own zero text e = cc
  no_text_held table own (suc i) text e =
      let m = mapped (λ (l : Live). first_value arguments l.variable) (first_held table) i (Str text) e in
      no_text m.0.variable text (sym m.2)

  pub no_texts_begun : (s : Store) (table : OperationTable) (own : ℕ) → TextsFit s (first_values table own arguments)
  no_texts_begun s table own = fits_without s (first_values table own arguments) (λ text h. no_text_held table own h.at text h.is)
