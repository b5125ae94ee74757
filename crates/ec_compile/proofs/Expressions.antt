-- The code of each expression is short, and reads and writes only variables that are there: one induction over expressions.
use Rattle.std.proofs.Common.{◌≡◌, ℕ, suc, ◌+◌, ◌*◌, ◌<◌, ◌≤◌, max, Bool, true, false, ◌&&◌, List, [], ◌∷◌, ◌++◌, length, map}
use Rattle.std.proofs.Common.{pos, sym, subst, arith}
use Rattle.ec_check.proofs.Every.{Every, every_left, every_right}
use Rattle.ec_check.specs.Numbers.{Number as Named, joined, in_expression, in_link, in_addend}
use Rattle.ec_check.specs.Numbers.{in_factor, expression_numbers, link_numbers, addend_numbers, factor_numbers}
use Rattle.ec_code.specs.Typing.{integer}
use Rattle.ec_code.specs.declared.code.Op.TheVariants as op
use Rattle.ec_code.specs.declared.code.Variable.TheVariants as variable
use Rattle.ec_compile.proofs.Forms.{IsCounted, comparison_sized, fetch_all_within, inverted_sized, itself_sized, joined_applies}
use Rattle.ec_compile.proofs.Forms.{multiplied_applies, negated_sized, read_sized, stop_within, then_stop_sized}
use Rattle.ec_compile.proofs.Sized.{Applies, Follows, Holds, Sized, as_leaf_sized, by_code_sized, kept_holds}
use Rattle.ec_compile.proofs.Within.{Within, into_reaches, join, more, nothing, one, step, temporaries_reach}
use Rattle.ec_types.specs.Types.{named}
use Rattle.ec_core.specs.declared.Addend.{Addend, roll-Addend, map-Addend, fold-Addend, fold-roll-Addend}
use Rattle.ec_core.specs.declared.Expression.{Expression, roll-Expression, map-Expression, ind-Expression, fold-roll-Expression}
use Rattle.ec_core.specs.declared.Expression.TheOpen.{Expression-F, Link-F, Addend-F, Factor-F}
use Rattle.ec_core.specs.declared.Factor.{Factor, roll-Factor, map-Factor, fold-Factor, fold-roll-Factor}
use Rattle.ec_core.specs.declared.Link.{Link, roll-Link, map-Link, fold-Link, fold-roll-Link}
use Rattle.ec_core_laws.specs.Measures.{all_of, all_behind, greatest_of, stacked_of, expression_size, link_size, factor_size, addend_size}
use Rattle.ec_core_laws.specs.Measures.{size_of, size_of_link, size_of_factor, size_of_addend, expression_height, link_height}
use Rattle.ec_core_laws.specs.Measures.{factor_height, addend_height, height_of, height_of_link, height_of_factor, height_of_addend}
use Rattle.ec_core_laws.specs.Captures.{expression_captures, link_captures, factor_captures, addend_captures, captures_of}
use Rattle.ec_core_laws.specs.Captures.{captures_of_link, captures_of_factor, captures_of_addend}
use Rattle.ec_emission.specs.Expressions.{Applied, Emitted, Following, addend_code, all_code, all_fit, applied_code}
use Rattle.ec_emission.specs.Expressions.{builtin_type, chain, chain_code, emitted, expression_code, factor_code, fetch_all, fits_here}
use Rattle.ec_emission.specs.Expressions.{kept}
use Rattle.ec_emission.specs.Expressions.{link_code, links_code, literal_number, needed_code, own_call, own_code, by_code}
use Rattle.ec_emission.specs.Expressions.{stop_order}
use Rattle.ec_core.specs.Literals.{Texts}
use Rattle.ec_meaning.specs.Programs.{Source, class_number, line, name_number}
use Rattle.ec_meaning.specs.Steps.{stop_of}
use Rattle.ec_emission.specs.Leaves.{Number, Truth, Nil}
use Rattle.ec_emission.specs.Rows.{own_row, rest_row}
use Rattle.ec_world.specs.declared.stop.Stop.{Stop}
use Rattle.ec_world.specs.declared.stop.Stop.TheVariants as stop

module _ (s : Source) (captured count : ℕ) (literals : Texts) where
  abbrev of_layer : Expression-F Emitted Following Applied Applied → Emitted
  of_layer = expression_code s captured count literals

  abbrev of_link_layer : Link-F Emitted Following Applied Applied → Following
  of_link_layer = link_code s captured count literals

  abbrev of_addend_layer : Addend-F Emitted Following Applied Applied → Applied
  of_addend_layer = addend_code s captured count literals

  abbrev of_factor_layer : Factor-F Emitted Following Applied Applied → Applied
  of_factor_layer = factor_code s captured count literals

  abbrev code_of : Expression → Emitted
  code_of = emitted s captured count literals

  abbrev of_link : Link → Following
  of_link = fold-Link Emitted Following Applied Applied of_layer of_link_layer of_addend_layer of_factor_layer

  abbrev of_addend : Addend → Applied
  of_addend = fold-Addend Emitted Following Applied Applied of_layer of_link_layer of_addend_layer of_factor_layer

  abbrev of_factor : Factor → Applied
  of_factor = fold-Factor Emitted Following Applied Applied of_layer of_link_layer of_addend_layer of_factor_layer

  -- Each variable in a part is one of so many.
  abbrev Counts : List Named → Type 0
  Counts ns = Every (IsCounted count) ns

  -- Fewer steps than two for each node and one for each captured value.
  abbrev pub IsSized : Expression → Type 0
  IsSized x =
      Every (IsCounted count) (in_expression x) →
      Sized count (height_of x) (2 * size_of x + captures_of x) (emitted s captured count literals x)

  abbrev LinkSized : Link → Type 0
  LinkSized x =
      Counts (in_link x) → Follows count (height_of_link x) (2 * size_of_link x + captures_of_link x) (of_link x)

  abbrev AddendSized : Addend → Type 0
  AddendSized x =
      Counts (in_addend x) → Applies count (height_of_addend x) (2 * size_of_addend x + captures_of_addend x) (of_addend x)

  abbrev FactorSized : Factor → Type 0
  FactorSized x =
      Counts (in_factor x) → Applies count (height_of_factor x) (2 * size_of_factor x + captures_of_factor x) (of_factor x)

  abbrev ExpressionHeld : Type 0
  ExpressionHeld = (x : Expression) × IsSized x

  abbrev LinkHeld : Type 0
  LinkHeld = (x : Link) × LinkSized x

  abbrev AddendHeld : Type 0
  AddendHeld = (x : Addend) × AddendSized x

  abbrev FactorHeld : Type 0
  FactorHeld = (x : Factor) × FactorSized x

  abbrev bare_x : ExpressionHeld → Expression
  bare_x x = x.0

  abbrev bare_l : LinkHeld → Link
  bare_l x = x.0

  abbrev bare_a : AddendHeld → Addend
  bare_a x = x.0

  abbrev bare_f : FactorHeld → Factor
  bare_f x = x.0

  abbrev Layer : Type 0
  Layer = Expression-F ExpressionHeld LinkHeld AddendHeld FactorHeld

  abbrev LinkLayer : Type 0
  LinkLayer = Link-F ExpressionHeld LinkHeld AddendHeld FactorHeld

  abbrev AddendLayer : Type 0
  AddendLayer = Addend-F ExpressionHeld LinkHeld AddendHeld FactorHeld

  abbrev FactorLayer : Type 0
  FactorLayer = Factor-F ExpressionHeld LinkHeld AddendHeld FactorHeld

  abbrev bare : Layer → Expression-F Expression Link Addend Factor
  bare = map-Expression ExpressionHeld LinkHeld AddendHeld FactorHeld Expression Link Addend Factor bare_x bare_l bare_a bare_f

  abbrev bare_link : LinkLayer → Link-F Expression Link Addend Factor
  bare_link = map-Link ExpressionHeld LinkHeld AddendHeld FactorHeld Expression Link Addend Factor bare_x bare_l bare_a bare_f

  abbrev bare_addend : AddendLayer → Addend-F Expression Link Addend Factor
  bare_addend = map-Addend ExpressionHeld LinkHeld AddendHeld FactorHeld Expression Link Addend Factor bare_x bare_l bare_a bare_f

  abbrev bare_factor : FactorLayer → Factor-F Expression Link Addend Factor
  bare_factor = map-Factor ExpressionHeld LinkHeld AddendHeld FactorHeld Expression Link Addend Factor bare_x bare_l bare_a bare_f

  abbrev coded : Expression-F Expression Link Addend Factor → Expression-F Emitted Following Applied Applied
  coded = map-Expression Expression Link Addend Factor Emitted Following Applied Applied code_of of_link of_addend of_factor

  abbrev coded_link : Link-F Expression Link Addend Factor → Link-F Emitted Following Applied Applied
  coded_link = map-Link Expression Link Addend Factor Emitted Following Applied Applied code_of of_link of_addend of_factor

  abbrev coded_addend : AddendLayer → Applied
  coded_addend y =
      of_addend_layer
      (map-Addend Expression Link Addend Factor Emitted Following Applied Applied code_of of_link of_addend of_factor (bare_addend y))

  abbrev coded_factor : FactorLayer → Applied
  coded_factor y =
      of_factor_layer
      (map-Factor Expression Link Addend Factor Emitted Following Applied Applied code_of of_link of_addend of_factor (bare_factor y))

  -- the numbers, sizes, heights and captured values of what is in a layer
  abbrev Numbers : Type 0
  Numbers = List Named

  abbrev numbers_in : Layer → Numbers
  numbers_in y =
      expression_numbers
      (map-Expression Expression Link Addend Factor Numbers Numbers Numbers Numbers in_expression in_link in_addend in_factor (bare y))

  abbrev size_in : Layer → ℕ
  size_in y =
      expression_size (map-Expression Expression Link Addend Factor ℕ ℕ ℕ ℕ size_of size_of_link size_of_addend size_of_factor (bare y))

  abbrev height_in : Layer → ℕ
  height_in y =
      expression_height
      (map-Expression Expression Link Addend Factor ℕ ℕ ℕ ℕ height_of height_of_link height_of_addend height_of_factor (bare y))

  abbrev captures_in : Layer → ℕ
  captures_in y =
      expression_captures
      (map-Expression Expression Link Addend Factor ℕ ℕ ℕ ℕ captures_of captures_of_link captures_of_addend captures_of_factor
      (bare y))

  abbrev link_numbers_in : LinkLayer → Numbers
  link_numbers_in y =
      link_numbers
      (map-Link Expression Link Addend Factor Numbers Numbers Numbers Numbers in_expression in_link in_addend in_factor (bare_link y))

  abbrev link_size_in : LinkLayer → ℕ
  link_size_in y =
      link_size (map-Link Expression Link Addend Factor ℕ ℕ ℕ ℕ size_of size_of_link size_of_addend size_of_factor (bare_link y))

  abbrev link_height_in : LinkLayer → ℕ
  link_height_in y =
      link_height
      (map-Link Expression Link Addend Factor ℕ ℕ ℕ ℕ height_of height_of_link height_of_addend height_of_factor (bare_link y))

  abbrev link_captures_in : LinkLayer → ℕ
  link_captures_in y =
      link_captures
      (map-Link Expression Link Addend Factor ℕ ℕ ℕ ℕ captures_of captures_of_link captures_of_addend captures_of_factor (bare_link y))

  -- ---- lists of expressions

  abbrev numbers_of_all : List ExpressionHeld → Numbers
  numbers_of_all xs = joined (map in_expression (map bare_x xs))

  abbrev budget_of_all : List ExpressionHeld → ℕ
  budget_of_all xs = 2 * all_of (map size_of (map bare_x xs)) + all_of (map captures_of (map bare_x xs))

  abbrev codes : List ExpressionHeld → List Emitted
  codes xs = map code_of (map bare_x xs)

  abbrev heights : List ExpressionHeld → List ℕ
  heights xs = map height_of (map bare_x xs)

  -- one above the other: `held` of them are held above a base when the first is worked out
  all_within : (xs : List ExpressionHeld) → Counts (numbers_of_all xs) → (base held h top : ℕ) → h ≡ base + held →
      base + stacked_of held (heights xs) ≤ top → Within count top (budget_of_all xs) (all_code (codes xs) h)
  all_within [] n base held h top e l = more 0 _ [] (omega arith) nothing
  all_within (x ∷ xs) n base held h top e l =
      let k = x.1 (every_left (IsCounted count) (in_expression x.0) (numbers_of_all xs) n) in
      let u : k.most < 2 * size_of x.0 + captures_of x.0 = k.under in
      more (k.most + budget_of_all xs) _ _ (omega arith)
      (join k.most (budget_of_all xs) ((code_of x.0).code h) (all_code (codes xs) (suc h)) (k.holds.code h top (omega arith))
      (all_within xs (every_right (IsCounted count) (in_expression x.0) (numbers_of_all xs) n) base (held + 1) (suc h) top (omega arith)
      (omega arith)))

  -- there is room for all of them
  all_room : (xs : List ExpressionHeld) → Counts (numbers_of_all xs) → (base held h top : ℕ) → h ≡ base + held → h ≤ top →
      base + stacked_of held (heights xs) ≤ top → h + length (codes xs) ≤ top
  all_room [] n base held h top e r l = omega arith
  all_room (x ∷ xs) n base held h top e r l =
      let k = x.1 (every_left (IsCounted count) (in_expression x.0) (numbers_of_all xs) n) in
      let v : 1 ≤ height_of x.0 = k.holds.some in
      let rest : suc h + length (codes xs) ≤ top =
      all_room xs (every_right (IsCounted count) (in_expression x.0) (numbers_of_all xs) n) base (held + 1) (suc h) top (omega arith)
      (omega arith) (omega arith) in
      omega arith

  -- ---- and, or

  needed_within : (wanted : Bool) (xs : List ExpressionHeld) → Counts (numbers_of_all xs) → (h top : ℕ) → h < top →
      h + greatest_of (heights xs) ≤ top →
      Within count top (2 * all_behind (map size_of (map bare_x xs)) + all_of (map captures_of (map bare_x xs)))
      (needed_code wanted (codes xs) h)
  needed_within wanted [] n h top r l = more 0 _ [] (omega arith) nothing
  needed_within wanted (x ∷ xs) n h top r l =
      let k = x.1 (every_left (IsCounted count) (in_expression x.0) (numbers_of_all xs) n) in
      let u : k.most < 2 * size_of x.0 + captures_of x.0 = k.under in
      let b : ℕ = 2 * all_behind (map size_of (map bare_x xs)) + all_of (map captures_of (map bare_x xs)) in
      more (1 + (k.most + b)) _ _ (omega arith)
      (step (k.most + b) _ _ ((r, tt), tt)
      (join k.most b ((code_of x.0).code h) (needed_code wanted (codes xs) h) (k.holds.code h top (omega arith))
      (needed_within wanted xs (every_right (IsCounted count) (in_expression x.0) (numbers_of_all xs) n) h top r (omega arith))))

  -- ---- links

  abbrev numbers_of_links : List LinkHeld → Numbers
  numbers_of_links xs = joined (map in_link (map bare_l xs))

  abbrev budget_of_links : List LinkHeld → ℕ
  budget_of_links xs = 2 * all_of (map size_of_link (map bare_l xs)) + all_of (map captures_of_link (map bare_l xs))

  abbrev followings : List LinkHeld → List Following
  followings xs = map of_link (map bare_l xs)

  abbrev link_heights : List LinkHeld → List ℕ
  link_heights xs = map height_of_link (map bare_l xs)

  links_within : (xs : List LinkHeld) → Counts (numbers_of_links xs) → (h top : ℕ) → h < top →
      h + greatest_of (link_heights xs) ≤ top → Within count top (budget_of_links xs) (links_code (followings xs) h)
  links_within [] n h top r l = more 0 _ [] (omega arith) nothing
  links_within (x ∷ xs) n h top r l =
      let k = x.1 (every_left (IsCounted count) (in_link x.0) (numbers_of_links xs) n) in
      let b : ℕ = 2 * size_of_link x.0 + captures_of_link x.0 in
      more (b + budget_of_links xs) _ _ (omega arith)
      (join b (budget_of_links xs) ((of_link x.0).code h) (links_code (followings xs) h) (k.code h top r (omega arith))
      (links_within xs (every_right (IsCounted count) (in_link x.0) (numbers_of_links xs) n) h top r (omega arith)))

  own_within : (xs : List LinkHeld) → Counts (numbers_of_links xs) → (h top : ℕ) → h < top →
      h + greatest_of (link_heights xs) ≤ top → Within count top (budget_of_links xs) (own_code (followings xs) h)
  own_within [] n h top r l = more 0 _ [] (omega arith) nothing
  own_within (x ∷ xs) n h top r l =
      let k = x.1 (every_left (IsCounted count) (in_link x.0) (numbers_of_links xs) n) in
      let b : ℕ = 2 * size_of_link x.0 + captures_of_link x.0 in
      more (b + budget_of_links xs) _ _ (omega arith)
      (join b (budget_of_links xs) ((of_link x.0).own_code h) (links_code (followings xs) h) (k.own h top r (omega arith))
      (links_within xs (every_right (IsCounted count) (in_link x.0) (numbers_of_links xs) n) h top r (omega arith)))

  chain_within : {v m : ℕ} {x : Emitted} (k : Holds count v m x) (xs : List LinkHeld) → Counts (numbers_of_links xs) → (h top : ℕ) →
      h + max v (greatest_of (link_heights xs)) ≤ top → (own : Bool) →
      Within count top (m + budget_of_links xs) (chain_code x (followings xs) h own)
  chain_within {v} {m} {x} k xs n h top l true =
      let e : 1 ≤ v = k.some in
      join m (budget_of_links xs) (x.code h) (own_code (followings xs) h) (k.code h top (omega arith))
      (own_within xs n h top (omega arith) (omega arith))
  chain_within {v} {m} {x} k xs n h top l false =
      let e : 1 ≤ v = k.some in
      join m (budget_of_links xs) (x.code h) (links_code (followings xs) h) (k.code h top (omega arith))
      (links_within xs n h top (omega arith) (omega arith))

  chain_sized : (x : ExpressionHeld) (xs : List LinkHeld) → Counts (in_expression x.0 ++ numbers_of_links xs) → (b : ℕ) →
      (2 * size_of x.0 + captures_of x.0) + budget_of_links xs ≤ b →
      Sized count (max (height_of x.0) (greatest_of (link_heights xs))) b (chain (code_of x.0) (followings xs))
  chain_sized x xs n b l =
      let k = x.1 (every_left (IsCounted count) (in_expression x.0) (numbers_of_links xs) n) in
      let u : k.most < 2 * size_of x.0 + captures_of x.0 = k.under in
      let v : 1 ≤ height_of x.0 = k.holds.some in
      let more : Counts (numbers_of_links xs) = every_right (IsCounted count) (in_expression x.0) (numbers_of_links xs) n in
      let own : Bool = own_call (code_of x.0).is_itself (followings xs) in
      record {
        most = k.most + budget_of_links xs;
        under = omega arith;
        holds = record {
          some = omega arith;
          leaf = tt;
          code = λ h top r. chain_within k.holds xs more h top r own;
        };
        condition = λ h top r. record { code = chain_within k.holds xs more h top r own; asks = (omega arith, tt) };
      }

  -- ---- sums and products

  abbrev budget_of_factors : List FactorHeld → ℕ
  budget_of_factors xs = 2 * all_of (map size_of_factor (map bare_f xs)) + all_of (map captures_of_factor (map bare_f xs))

  factors_within : {v m : ℕ} {x : Emitted} (k : Holds count v m x) (xs : List FactorHeld) →
      Counts (joined (map in_factor (map bare_f xs))) → (h top : ℕ) → h + v ≤ top →
      h + greatest_of (map height_of_factor (map bare_f xs)) ≤ top →
      Within count top (m + budget_of_factors xs) (applied_code (map of_factor (map bare_f xs)) x h)
  factors_within {v} {m} {x} k [] n h top l r = more m _ _ (omega arith) (k.code h top l)
  factors_within {v} {m} {x} k (f ∷ fs) n h top l r =
      let e : 1 ≤ v = k.some in
      let a = f.1 (every_left (IsCounted count) (in_factor f.0) (joined (map in_factor (map bare_f fs))) n) in
      let b : ℕ = 2 * size_of_factor f.0 + captures_of_factor f.0 in
      more ((m + b) + (0 + budget_of_factors fs)) _ _ (omega arith)
      (join (m + b) (0 + budget_of_factors fs) ((of_factor f.0).code x h) (applied_code (map of_factor (map bare_f fs)) kept h)
      (a.code v m x k h top l (omega arith))
      (factors_within kept_holds fs (every_right (IsCounted count) (in_factor f.0) (joined (map in_factor (map bare_f fs))) n) h top
      (omega arith) (omega arith)))

  abbrev budget_of_addends : List AddendHeld → ℕ
  budget_of_addends xs = 2 * all_of (map size_of_addend (map bare_a xs)) + all_of (map captures_of_addend (map bare_a xs))

  addends_within : {v m : ℕ} {x : Emitted} (k : Holds count v m x) (xs : List AddendHeld) →
      Counts (joined (map in_addend (map bare_a xs))) → (h top : ℕ) → h + v ≤ top →
      h + greatest_of (map height_of_addend (map bare_a xs)) ≤ top →
      Within count top (m + budget_of_addends xs) (applied_code (map of_addend (map bare_a xs)) x h)
  addends_within {v} {m} {x} k [] n h top l r = more m _ _ (omega arith) (k.code h top l)
  addends_within {v} {m} {x} k (f ∷ fs) n h top l r =
      let e : 1 ≤ v = k.some in
      let a = f.1 (every_left (IsCounted count) (in_addend f.0) (joined (map in_addend (map bare_a fs))) n) in
      let b : ℕ = 2 * size_of_addend f.0 + captures_of_addend f.0 in
      more ((m + b) + (0 + budget_of_addends fs)) _ _ (omega arith)
      (join (m + b) (0 + budget_of_addends fs) ((of_addend f.0).code x h) (applied_code (map of_addend (map bare_a fs)) kept h)
      (a.code v m x k h top l (omega arith))
      (addends_within kept_holds fs (every_right (IsCounted count) (in_addend f.0) (joined (map in_addend (map bare_a fs))) n) h top
      (omega arith) (omega arith)))

  -- ---- and, or, whole

  needed_sized : (wanted : Bool) (x : ExpressionHeld) (xs : List ExpressionHeld) → Counts (in_expression x.0 ++ numbers_of_all xs) →
      Sized count (max (height_of x.0) (greatest_of (heights xs)))
      (2 * (size_of x.0 + all_behind (map size_of (map bare_x xs))) + (captures_of x.0 + all_of (map captures_of (map bare_x xs))))
      (by_code (fits_here (code_of x.0) && all_fit (codes xs)) (λ h. (code_of x.0).code h ++ needed_code wanted (codes xs) h))
  needed_sized wanted x xs c =
      let k = x.1 (every_left (IsCounted count) (in_expression x.0) (numbers_of_all xs) c) in
      let u : k.most < 2 * size_of x.0 + captures_of x.0 = k.under in
      let v : 1 ≤ height_of x.0 = k.holds.some in
      let b : ℕ = 2 * all_behind (map size_of (map bare_x xs)) + all_of (map captures_of (map bare_x xs)) in
      by_code_sized (max (height_of x.0) (greatest_of (heights xs))) _ (k.most + b) _ _ (omega arith) (omega arith)
      (λ h top l.
      join k.most b ((code_of x.0).code h) (needed_code wanted (codes xs) h) (k.holds.code h top (omega arith))
      (needed_within wanted xs (every_right (IsCounted count) (in_expression x.0) (numbers_of_all xs) c) h top (omega arith)
      (omega arith)))

  -- ---- one layer

  layer : (y : Layer) → Counts (numbers_in y) → Sized count (height_in y) (2 * size_in y + captures_in y) (of_layer (coded (bare y)))
  layer (Expression-F.Number n) c = as_leaf_sized (Number (pos n)) tt _ (omega arith)
  layer (Expression-F.Literal text) c =
      by_code_sized 1 _ 1 _ _ (omega arith) (omega arith)
      (λ h top l. one (op.Literal (variable.Temporary h) (literal_number s captured count literals text)) (tt, omega arith))
  layer (Expression-F.Truth b) c = as_leaf_sized (Truth b) tt _ (omega arith)
  layer Expression-F.Nil c = as_leaf_sized Nil tt _ (omega arith)
  layer Expression-F.Itself c = itself_sized _ (omega arith)
  layer (Expression-F.Read p) c = read_sized s captured count literals p c.0 _ (omega arith)
  layer Expression-F.NodeCount c =
      by_code_sized 1 _ 1 _ _ (omega arith) (omega arith)
      (λ h top l. stop_within top stop.NodeCount h 0 integer (omega arith) (omega arith))
  layer (Expression-F.NodeAt x at) c = then_stop_sized _ _ _ _ _ _ (x.1 c) (omega arith)
  layer (Expression-F.NewVector of x at) c = then_stop_sized _ _ _ _ _ _ (x.1 c) (omega arith)
  layer (Expression-F.Construct class places) c =
      by_code_sized (max 1 (length places)) _ (length places + 1) _ _ (omega arith) (omega arith)
      (λ h top l.
      join (length places) 1 (fetch_all s captured count literals places h) _
      (fetch_all_within s captured count literals places c.1 h top (omega arith))
      (stop_within top (stop.New (class_number s class)) h (length places) (named class) (omega arith) (omega arith)))
  layer (Expression-F.Create class xs) c =
      by_code_sized (max 1 (stacked_of 0 (heights xs))) _ (budget_of_all xs + 1) _ _ (omega arith) (omega arith)
      (λ h top l.
      join (budget_of_all xs) 1 (all_code (codes xs) h) _ (all_within xs c.1 h 0 h top (omega arith) (omega arith))
      (stop_within top (stop.New (class_number s class)) h (length (codes xs)) (named class)
      (all_room xs c.1 h 0 h top (omega arith) (omega arith) (omega arith)) (omega arith)))
  layer (Expression-F.Chain head xs) c = chain_sized head xs c _ (omega arith)
  layer (Expression-F.Negative x) c = negated_sized _ _ _ _ _ (x.1 c) (omega arith)
  layer (Expression-F.Not x) c = inverted_sized _ _ _ _ _ (x.1 c) (omega arith)
  layer (Expression-F.View x of at) c = then_stop_sized _ _ _ _ _ _ (x.1 c) (omega arith)
  layer (Expression-F.IsFixed x at) c = then_stop_sized _ _ _ _ _ _ (x.1 c) (omega arith)
  layer (Expression-F.Term first xs) c =
      let k = first.1 (every_left (IsCounted count) (in_expression first.0) _ c) in
      let u : k.most < 2 * size_of first.0 + captures_of first.0 = k.under in
      let v : 1 ≤ height_of first.0 = k.holds.some in
      by_code_sized (max (height_of first.0) (greatest_of (map height_of_factor (map bare_f xs)))) _ (k.most + budget_of_factors xs) _ _
      (omega arith) (omega arith)
      (λ h top l. factors_within k.holds xs (every_right (IsCounted count) (in_expression first.0) _ c) h top (omega arith) (omega arith))
  layer (Expression-F.Sum first xs) c =
      let k = first.1 (every_left (IsCounted count) (in_expression first.0) _ c) in
      let u : k.most < 2 * size_of first.0 + captures_of first.0 = k.under in
      let v : 1 ≤ height_of first.0 = k.holds.some in
      by_code_sized (max (height_of first.0) (greatest_of (map height_of_addend (map bare_a xs)))) _ (k.most + budget_of_addends xs) _ _
      (omega arith) (omega arith)
      (λ h top l. addends_within k.holds xs (every_right (IsCounted count) (in_expression first.0) _ c) h top (omega arith) (omega arith))
  layer (Expression-F.Compare x how what y) c =
      comparison_sized (x.1 (every_left (IsCounted count) (in_expression x.0) _ c))
      (y.1 (every_right (IsCounted count) (in_expression x.0) _ c))
      _ (omega arith) how (stop_order how what)
  layer (Expression-F.And first xs) c = needed_sized false first xs c
  layer (Expression-F.Or first xs) c = needed_sized true first xs c

  -- ---- links, and what stands to the right of operators

  link_layer : (y : LinkLayer) → Counts (link_numbers_in y) →
      Follows count (link_height_in y) (2 * link_size_in y + link_captures_in y) (of_link_layer (coded_link (bare_link y)))
  link_layer (Link-F.Invoke name xs result at) c =
      let action : Stop = stop.Invoke (name_number s name) (line s at) in
      record {
        code = λ h top l r.
            let room : suc h + length (codes xs) ≤ top = all_room xs c h 1 (suc h) top (omega arith) (omega arith) (omega arith) in
            more (budget_of_all xs + 1) _ _ (omega arith)
            (join (budget_of_all xs) 1 (all_code (codes xs) (suc h)) _ (all_within xs c h 1 (suc h) top (omega arith) (omega arith))
            (one (op.Rest (rest_row action h (suc (length (codes xs))) result))
            (temporaries_reach count top h (suc (length (codes xs))) (omega arith), into_reaches count top result h l)));
        own = λ h top l r.
            let room : suc h + length (codes xs) ≤ top = all_room xs c h 1 (suc h) top (omega arith) (omega arith) (omega arith) in
            more (budget_of_all xs + 1) _ _ (omega arith)
            (join (budget_of_all xs) 1 (all_code (codes xs) (suc h)) _ (all_within xs c h 1 (suc h) top (omega arith) (omega arith))
            (one (op.Rest (own_row action h (suc (length (codes xs))) result))
            (temporaries_reach count top h (suc (length (codes xs))) (omega arith), into_reaches count top result h l)));
      }
  link_layer (Link-F.Call builtin xs at) c = record {
    code = λ h top l r.
        let room : suc h + length (codes xs) ≤ top = all_room xs c h 1 (suc h) top (omega arith) (omega arith) (omega arith) in
        more (budget_of_all xs + 1) _ _ (omega arith)
        (join (budget_of_all xs) 1 (all_code (codes xs) (suc h)) _ (all_within xs c h 1 (suc h) top (omega arith) (omega arith))
        (stop_within top (stop_of builtin (line s at)) h (suc (length (codes xs))) (builtin_type builtin) (omega arith) l));
    own = λ h top l r. more 0 _ [] (omega arith) nothing;
  }
  link_layer (Link-F.Element x of at) c =
      let k = x.1 c in
      let u : k.most < 2 * size_of x.0 + captures_of x.0 = k.under in
      let v : 1 ≤ height_of x.0 = k.holds.some in
      record {
        code = λ h top l r.
            more (k.most + 1) _ _ (omega arith)
            (join k.most 1 ((code_of x.0).code (suc h)) _ (k.holds.code (suc h) top (omega arith))
            (stop_within top (stop.Get (line s at)) h 2 of (omega arith) l));
        own = λ h top l r. more 0 _ [] (omega arith) nothing;
      }

  -- ---- the induction

  -- two steps for each node, and one for each captured value
  abbrev budget : Expression → ℕ
  budget x = 2 * size_of x + captures_of x

  abbrev link_budget : Link → ℕ
  link_budget x = 2 * size_of_link x + captures_of_link x

  abbrev addend_budget : Addend → ℕ
  addend_budget x = 2 * size_of_addend x + captures_of_addend x

  abbrev factor_budget : Factor → ℕ
  factor_budget x = 2 * size_of_factor x + captures_of_factor x

  expression_from : (x : Expression-F Expression Link Addend Factor) (y : Layer) → bare y ≡ x → IsSized (roll-Expression x)
  expression_from x y is =
      subst (λ (z : Expression-F Expression Link Addend Factor). IsSized (roll-Expression z)) is
      (λ c.
      subst (λ (k : Emitted). Sized count (height_of (roll-Expression (bare y))) (budget (roll-Expression (bare y))) k)
      (sym (fold-roll-Expression Emitted Following Applied Applied of_layer of_link_layer of_addend_layer of_factor_layer (bare y)))
      (subst (λ (n : ℕ). Sized count n (budget (roll-Expression (bare y))) (of_layer (coded (bare y))))
      (sym (fold-roll-Expression ℕ ℕ ℕ ℕ expression_height link_height addend_height factor_height (bare y)))
      (subst (λ (n : ℕ). Sized count (height_in y) (2 * n + captures_of (roll-Expression (bare y))) (of_layer (coded (bare y))))
      (sym (fold-roll-Expression ℕ ℕ ℕ ℕ expression_size link_size addend_size factor_size (bare y)))
      (subst (λ (n : ℕ). Sized count (height_in y) (2 * size_in y + n) (of_layer (coded (bare y))))
      (sym (fold-roll-Expression ℕ ℕ ℕ ℕ expression_captures link_captures addend_captures factor_captures (bare y)))
      (layer y
      (subst (λ (ns : Numbers). Counts ns)
      (fold-roll-Expression Numbers Numbers Numbers Numbers expression_numbers link_numbers addend_numbers factor_numbers (bare y)) c))))))

  link_from : (x : Link-F Expression Link Addend Factor) (y : LinkLayer) → bare_link y ≡ x → LinkSized (roll-Link x)
  link_from x y is =
      subst (λ (z : Link-F Expression Link Addend Factor). LinkSized (roll-Link z)) is
      (λ c.
      subst (λ (k : Following). Follows count (height_of_link (roll-Link (bare_link y))) (link_budget (roll-Link (bare_link y))) k)
      (sym (fold-roll-Link Emitted Following Applied Applied of_layer of_link_layer of_addend_layer of_factor_layer (bare_link y)))
      (subst (λ (n : ℕ). Follows count n (link_budget (roll-Link (bare_link y))) (of_link_layer (coded_link (bare_link y))))
      (sym (fold-roll-Link ℕ ℕ ℕ ℕ expression_height link_height addend_height factor_height (bare_link y)))
      (subst
      (λ (n : ℕ).
      Follows count (link_height_in y) (2 * n + captures_of_link (roll-Link (bare_link y))) (of_link_layer (coded_link (bare_link y))))
      (sym (fold-roll-Link ℕ ℕ ℕ ℕ expression_size link_size addend_size factor_size (bare_link y)))
      (subst (λ (n : ℕ). Follows count (link_height_in y) (2 * link_size_in y + n) (of_link_layer (coded_link (bare_link y))))
      (sym (fold-roll-Link ℕ ℕ ℕ ℕ expression_captures link_captures addend_captures factor_captures (bare_link y)))
      (link_layer y
      (subst (λ (ns : Numbers). Counts ns)
      (fold-roll-Link Numbers Numbers Numbers Numbers expression_numbers link_numbers addend_numbers factor_numbers (bare_link y)) c))))))

  addend_from : (x : Addend-F Expression Link Addend Factor) (y : AddendLayer) → bare_addend y ≡ x → AddendSized (roll-Addend x)
  addend_from x y is =
      subst (λ (z : Addend-F Expression Link Addend Factor). AddendSized (roll-Addend z)) is
      (λ c.
      subst
      (λ (k : Applied). Applies count (height_of_addend (roll-Addend (bare_addend y))) (addend_budget (roll-Addend (bare_addend y))) k)
      (sym (fold-roll-Addend Emitted Following Applied Applied of_layer of_link_layer of_addend_layer of_factor_layer (bare_addend y)))
      (subst (λ (n : ℕ). Applies count n (addend_budget (roll-Addend (bare_addend y))) (coded_addend y))
      (sym (fold-roll-Addend ℕ ℕ ℕ ℕ expression_height link_height addend_height factor_height (bare_addend y)))
      (subst
      (λ (n : ℕ). Applies count (1 + height_of y.value.0) (2 * n + captures_of_addend (roll-Addend (bare_addend y))) (coded_addend y))
      (sym (fold-roll-Addend ℕ ℕ ℕ ℕ expression_size link_size addend_size factor_size (bare_addend y)))
      (subst (λ (n : ℕ). Applies count (1 + height_of y.value.0) (2 * (1 + size_of y.value.0) + n) (coded_addend y))
      (sym (fold-roll-Addend ℕ ℕ ℕ ℕ expression_captures link_captures addend_captures factor_captures (bare_addend y)))
      (joined_applies y.operator _ _ _ (code_of y.value.0) (line s y.at) _
      (y.value.1
      (subst (λ (ns : Numbers). Counts ns)
      (fold-roll-Addend Numbers Numbers Numbers Numbers expression_numbers link_numbers addend_numbers factor_numbers (bare_addend y)) c))
      (omega arith))))))

  factor_from : (x : Factor-F Expression Link Addend Factor) (y : FactorLayer) → bare_factor y ≡ x → FactorSized (roll-Factor x)
  factor_from x y is =
      subst (λ (z : Factor-F Expression Link Addend Factor). FactorSized (roll-Factor z)) is
      (λ c.
      subst
      (λ (k : Applied). Applies count (height_of_factor (roll-Factor (bare_factor y))) (factor_budget (roll-Factor (bare_factor y))) k)
      (sym (fold-roll-Factor Emitted Following Applied Applied of_layer of_link_layer of_addend_layer of_factor_layer (bare_factor y)))
      (subst (λ (n : ℕ). Applies count n (factor_budget (roll-Factor (bare_factor y))) (coded_factor y))
      (sym (fold-roll-Factor ℕ ℕ ℕ ℕ expression_height link_height addend_height factor_height (bare_factor y)))
      (subst
      (λ (n : ℕ). Applies count (1 + height_of y.value.0) (2 * n + captures_of_factor (roll-Factor (bare_factor y))) (coded_factor y))
      (sym (fold-roll-Factor ℕ ℕ ℕ ℕ expression_size link_size addend_size factor_size (bare_factor y)))
      (subst (λ (n : ℕ). Applies count (1 + height_of y.value.0) (2 * (1 + size_of y.value.0) + n) (coded_factor y))
      (sym (fold-roll-Factor ℕ ℕ ℕ ℕ expression_captures link_captures addend_captures factor_captures (bare_factor y)))
      (multiplied_applies y.operator _ _ _ (code_of y.value.0) (line s y.at) _
      (y.value.1
      (subst (λ (ns : Numbers). Counts ns)
      (fold-roll-Factor Numbers Numbers Numbers Numbers expression_numbers link_numbers addend_numbers factor_numbers (bare_factor y)) c))
      (omega arith))))))

  pub is_sized : (x : Expression) → IsSized x
  is_sized = ind-Expression IsSized LinkSized AddendSized FactorSized expression_from link_from addend_from factor_from
