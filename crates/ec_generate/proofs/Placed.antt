-- An operation of a program, where it is laid out: its words, sizes and places are those of the program's layout.
use Rattle.std.proofs.Common.{◌≡◌, ℕ, ◌≤◌, List, length, map, Some, sym, ap, ◌∙◌, subst}
use Rattle.std.specs.Prelude.{slice_get}
use Rattle.ec_code.specs.declared.code.Line.{Line}
use Rattle.ec_code.specs.declared.code.Operation.{Operation}
use Rattle.ec_code.specs.declared.code.Variable.{Variable}
use Rattle.ec_machine_code.specs.Stops.{row_or_empty, stop_places}
use Rattle.ec_machine_code.specs.declared.code.OperationCode.{OperationCode}
use Rattle.ec_generate.specs.Puts.{Sized, pick}
use Rattle.ec_generate.specs.Sites.{code_there, home_there, ops_there, size_there}
use Rattle.ec_generate.specs.declared.kind.Span.{Span}
use Rattle.ec_generate.specs.declared.site.Site.{Site}
use Rattle.ec_generate.proofs.Programs.{words_at}
use Rattle.ec_generate.proofs.Room.{chosen_near}
use Rattle.ec_machine_code.specs.Homes.{column}
use Rattle.ec_machine_code.specs.declared.homes.Home.{Home}
use Rattle.ec_machine_code.specs.Layout.{IsOrder, Vocabularies, chosen, home_of, home_or, operation_words, ops_of, order_of, place, size_of}
use Rattle.ec_machine_code.specs.Layout.{stop_addresses}
use Rattle.ec_machine_code.specs.Layout.{vocabulary_of, words_in}
use Rattle.ec_machine_code.specs.Speaks.{Vocabulary, words_end}
use Rattle.ec_target.specs.Code.{pc_of}

-- the homes of variables by those of their columns
abbrev by_row : ℕ → List Home → Variable → Home
by_row named row x = home_or (slice_get row (column named x))

-- a function of the words, the homes and the code of an operation
same_four : {A : Type 0} (F : Vocabulary → (Variable → Home) → List Line → List ℕ → A) (V W : Vocabulary) (g h : Variable → Home)
    (k l : List Line) (r t : List ℕ) → V ≡ W → g ≡ h → k ≡ l → r ≡ t → F V g k r ≡ F W h l t
same_four F V W g h k l r t a b c d =
    ap (λ x. F x g k r) a ∙ ap (λ x. F W x k r) b ∙ ap (λ x. F W h x r) c ∙ ap (λ x. F W h l x) d

abbrev code_by : ℕ → Vocabulary → (Variable → Home) → List Line → List ℕ → OperationCode
code_by start V home code order = record {
  words = size_of V home (ops_of code) order;
  stops = map (λ q. pc_of (place V home (ops_of code) order start q)) (stop_places code);
}

-- a site has the order of its operation
pub is_ordered :
    (orders : List (List ℕ)) (n : ℕ) (o : Operation) (site : Site) (order : List ℕ) → slice_get orders n ≡ Some order →
    site.order.now ≡ order → site.code.now ≡ o.code → IsOrder (length o.code) (row_or_empty (slice_get orders n)) →
    IsOrder (length site.code.now) site.order.now
is_ordered orders n o site order has same code h =
    subst (λ (k : List Line). IsOrder (length k) site.order.now) (sym code)
    (subst (IsOrder (length o.code)) (ap row_or_empty has ∙ sym same) h)

-- an operation, with the site and the words that it gets
pub record IsPlaced (vs : Vocabularies) (homes : List (List Home)) (orders : List (List ℕ)) (n : ℕ) (o : Operation) (site : Site)
    (span : Span) : Type 0 where
  pub row : List Home
  pub has_row : slice_get homes n ≡ Some row
  pub homes_are : site.homes.now ≡ row
  pub named : site.named ≡ length o.variables
  pub code : site.code.now ≡ o.code
  pub order : List ℕ
  pub has_order : slice_get orders n ≡ Some order
  pub order_is : site.order.now ≡ order
  pub span_is : pick vs span ≡ chosen vs (home_there site) (ops_there site) site.order.now

module _ (vs : Vocabularies) (homes : List (List Home)) (orders : List (List ℕ)) (n : ℕ) (o : Operation) (site : Site) (span : Span)
    (is : IsPlaced vs homes orders n o site span) where
  pub same_home : home_there site ≡ home_of homes n o
  same_home =
      ap (λ k. by_row k site.homes.now) is.named ∙ ap (by_row (length o.variables)) (is.homes_are ∙ sym (ap row_or_empty is.has_row))

  pub same_order : site.order.now ≡ order_of vs homes orders n
  same_order = is.order_is ∙ sym (ap row_or_empty is.has_order)

  pub same_words : pick vs span ≡ vocabulary_of vs homes orders n o
  same_words =
      is.span_is ∙ ap (λ h. chosen vs h (ops_there site) site.order.now) same_home
      ∙ ap (λ l. chosen vs (home_of homes n o) (ops_of l) site.order.now) is.code
      ∙ ap (λ r. chosen vs (home_of homes n o) (ops_of o.code) r) same_order

  pub same_size : size_there (pick vs span) site ≡ words_in vs homes orders n o
  same_size = same_four (λ V h l r. size_of V h (ops_of l) r) _ _ _ _ _ _ _ _ same_words same_home is.code same_order

  pub words_are : (start : ℕ) → operation_words (pick vs span) (home_there site) (ops_there site) site.order.now start
      ≡ words_at vs homes orders n o start
  words_are start =
      same_four (λ V h l r. operation_words V h (ops_of l) r start) _ _ _ _ _ _ _ _ same_words same_home is.code same_order

  pub code_is : (start : ℕ) → code_there (pick vs span) site start
      ≡ record { words = words_in vs homes orders n o; stops = stop_addresses vs homes orders n start o }
  code_is start = same_four (code_by start) _ _ _ _ _ _ _ _ same_words same_home is.code same_order

  pub near : Sized vs → words_in vs homes orders n o ≤ words_end → size_there (pick vs span) site ≤ (pick vs span).reach
  near sized low =
      let far = chosen_near vs sized (home_of homes n o) (ops_of o.code) (order_of vs homes orders n) low in
      let size = same_size in
      subst (λ V. size_there (pick vs span) site ≤ V.reach) (sym same_words)
      (subst (λ k. k ≤ (vocabulary_of vs homes orders n o).reach) (sym size) far)
