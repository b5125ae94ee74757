-- Each act and part finds the values that it takes.
use Rattle.std.proofs.Common.{◌≡◌, Bool, true, false, ◌&&◌, cond, List, [], ◌∷◌, ◌++◌, Option, Some, None, eqb, eqb-true, get_or, refl, sym}
use Rattle.std.proofs.Common.{◌∙◌, ap, subst, append_assoc}
use Rattle.std.specs.Prelude.{option_and_then}
use Rattle.ec_parser.specs.declared.terminal.Terminal.{Terminal}
use Rattle.ec_parser.specs.declared.terminal.Terminal.TheVariants as terminal
use Rattle.ec_lexer.specs.declared.token.Token.{Token as Word}
use Rattle.ec_parser.specs.declared.grammar.Act.{Act}
use Rattle.ec_parser.specs.declared.grammar.Act.TheVariants as act'
use Rattle.ec_parser.specs.declared.grammar.Bound.{Bound as Bound_of}
use Rattle.ec_parser.specs.declared.grammar.Part.{Part as Part_of}
use Rattle.ec_parser.specs.declared.grammar.Part.TheVariants as part
use Rattle.ec_parser.specs.declared.grammar.Symbol.{Symbol}
use Rattle.ec_parser.specs.declared.grammar.Symbol.TheVariants.{Token, Keep, Part, Bound, Do}
use Rattle.ec_parser.specs.declared.values.Values.{Values}
use Rattle.ec_parser.specs.Rules.{rules}
use Rattle.ec_parser.specs.Reads.{IsRule, first as here, later}
use Rattle.ec_parser.specs.Filled.{rest}
use Rattle.ec_parser.specs.Values.{act, keep, no_values}
use Rattle.ec_parser.specs.Fits.{Stack, all_stacks, number, a_name, has_top, without, without_all, Holds, below, kept_as, takes, gives}
use Rattle.ec_parser.specs.Fits.{part_takes, part_gives, run, Fits, Finds, a_program}
use Rattle.ec_parser.proofs.Sets.{and_left, and_right}

abbrev same_list : List Stack → List Stack → Bool
same_list [] [] = true
same_list (x ∷ xs) (y ∷ ys) = eqb (number x) (number y) && same_list xs ys
same_list _ _ = false

abbrev gives_list : Option (List Stack) → List Stack → Bool
gives_list None ys = false
gives_list (Some xs) ys = same_list xs ys

abbrev all_fit : Part_of → List (List Symbol) → Bool
all_fit p [] = true
all_fit p (r ∷ rs) = gives_list (run r (part_takes p)) (part_gives p) && all_fit p rs

fitting : (p : Part_of) → all_fit p (rules p) ≡ true
fitting part.Program = refl
fitting _ = refl

at_number : (k : Stack) → get_or all_stacks (number k) a_name ≡ k
at_number a_name = refl
at_number _ = refl

same_stack : (a b : Stack) → eqb (number a) (number b) ≡ true → a ≡ b
same_stack a b h =
    let same : number a ≡ number b = eqb-true (number a) (number b) h in
    sym (at_number a) ∙ ap (λ n. get_or all_stacks n a_name) same ∙ at_number b

is_same : (xs ys : List Stack) → same_list xs ys ≡ true → xs ≡ ys
is_same [] [] h = refl
is_same [] (y ∷ ys) h = absurd (let f : false ≡ true = h in cc)
is_same (x ∷ xs) [] h = absurd (let f : false ≡ true = h in cc)
is_same (x ∷ xs) (y ∷ ys) h =
    let a : x ≡ y = same_stack x y (and_left (eqb (number x) (number y)) (same_list xs ys) h) in
    let b : xs ≡ ys = is_same xs ys (and_right (eqb (number x) (number y)) (same_list xs ys) h) in
    cc

gives_same : (o : Option (List Stack)) (ys : List Stack) → gives_list o ys ≡ true → o ≡ Some ys
gives_same None ys h = absurd (let f : false ≡ true = h in cc)
gives_same (Some xs) ys h = ap Some (is_same xs ys h)

fits_in : (p : Part_of) (r : List Symbol) (rs : List (List Symbol)) → IsRule r rs → all_fit p rs ≡ true →
    run r (part_takes p) ≡ Some (part_gives p)
fits_in p r _ (here {rs = rs}) h =
    gives_same (run r (part_takes p)) (part_gives p) (and_left (gives_list (run r (part_takes p)) (part_gives p)) (all_fit p rs) h)
fits_in p r _ (later {q = q} {rs = rs} m) h =
    fits_in p r rs m (and_right (gives_list (run q (part_takes p)) (part_gives p)) (all_fit p rs) h)

fits : (p : Part_of) (r : List Symbol) → IsRule r (rules p) → run r (part_takes p) ≡ Some (part_gives p)
fits p r m = fits_in p r (rules p) m (fitting p)

-- an act takes its values and puts one on the stack that it gives to
act_takes : (a : Act) (vs : Values) → without (gives a) (act a vs) ≡ without_all (takes a) vs
unfolding rest
act_takes act'.BeginConstants vs = refl
act_takes _ vs = refl

act_has : (a : Act) (vs : Values) → has_top (gives a) (act a vs)
act_has act'.BeginConstants vs = tt
act_has _ vs = tt

kept_top : (k : Terminal) (t : Word) (vs : Values) → has_top (kept_as k) (keep k t vs)
kept_top terminal.Name t vs = tt
kept_top _ t vs = tt

kept_below : (k : Terminal) (t : Word) (vs : Values) → without (kept_as k) (keep k t vs) ≡ vs
unfolding rest
kept_below terminal.Name t vs = refl
kept_below _ t vs = refl

holds_left : (ts ks : List Stack) (vs : Values) → Holds (ts ++ ks) vs → Holds ts vs
holds_left [] ks vs h = tt
holds_left (t ∷ ts) ks vs h = (h.0, holds_left ts ks (without t vs) h.1)

holds_right : (ts ks : List Stack) (vs : Values) → Holds (ts ++ ks) vs → Holds ks (without_all ts vs)
holds_right [] ks vs h = h
holds_right (t ∷ ts) ks vs h = holds_right ts ks (without t vs) h.1

below_more : (ts ks more left : List Stack) → below ts ks ≡ Some left → below ts (ks ++ more) ≡ Some (left ++ more)
below_more [] ks more left e = let f : ks ≡ left = cc in ap (λ x. Some (x ++ more)) f
below_more (t ∷ ts) [] more left e = cc
below_more (t ∷ ts) (k ∷ ks) more left e = go (eqb (number t) (number k)) e (λ f. below_more ts ks more left f)
  where
    go : (b : Bool) → cond b (below ts ks) None ≡ Some left → (below ts ks ≡ Some left → below ts (ks ++ more) ≡ Some (left ++ more)) →
        cond b (below ts (ks ++ more)) None ≡ Some (left ++ more)
    go true e f = f e
    go false e f = cc

below_split : (ts ks left : List Stack) → below ts ks ≡ Some left → ks ≡ ts ++ left
below_split [] ks left e = cc
below_split (t ∷ ts) [] left e = cc
below_split (t ∷ ts) (k ∷ ks) left e = go (eqb (number t) (number k)) refl e (λ f. below_split ts ks left f)
  where
    go : (b : Bool) → eqb (number t) (number k) ≡ b → cond b (below ts ks) None ≡ Some left → (below ts ks ≡ Some left → ks ≡ ts ++ left) →
        k ∷ ks ≡ t ∷ (ts ++ left)
    go true q e f = let same : t ≡ k = same_stack t k q in let tail : ks ≡ ts ++ left = f e in cc
    go false q e f = cc

-- the symbols of a rule do the same with more below
framed : (xs s : List Symbol) (ks more out : List Stack) → run xs ks ≡ Some out → run (xs ++ s) (ks ++ more) ≡ run s (out ++ more)
framed [] s ks more out e = let f : ks ≡ out = cc in ap (λ x. run s (x ++ more)) f
framed (Token k ∷ xs) s ks more out e = framed xs s ks more out e
framed (Keep k ∷ xs) s ks more out e = framed xs s (kept_as k ∷ ks) more out e
framed (Bound o ∷ xs) s ks more out e = framed xs s ks more out e
framed (Part p ∷ xs) s ks more out e = go (below (part_takes p) ks) refl e (λ left f. framed xs s (part_gives p ++ left) more out f)
  where
    go : (o : Option (List Stack)) → below (part_takes p) ks ≡ o → option_and_then (λ left. run xs (part_gives p ++ left)) o ≡ Some out →
        ((left : List Stack) → run xs (part_gives p ++ left) ≡ Some out →
        run (xs ++ s) ((part_gives p ++ left) ++ more) ≡ run s (out ++ more)) →
        option_and_then (λ left. run (xs ++ s) (part_gives p ++ left)) (below (part_takes p) (ks ++ more)) ≡ run s (out ++ more)
    go None b e f = cc
    go (Some left) b e f = rw (below_more (part_takes p) ks more left b, ← append_assoc (part_gives p) left more) (f left e)
framed (Do a ∷ xs) s ks more out e = go (below (takes a) ks) refl e (λ left f. framed xs s (gives a ∷ left) more out f)
  where
    go : (o : Option (List Stack)) → below (takes a) ks ≡ o → option_and_then (λ left. run xs (gives a ∷ left)) o ≡ Some out →
        ((left : List Stack) → run xs (gives a ∷ left) ≡ Some out → run (xs ++ s) (gives a ∷ (left ++ more)) ≡ run s (out ++ more)) →
        option_and_then (λ left. run (xs ++ s) (gives a ∷ left)) (below (takes a) (ks ++ more)) ≡ run s (out ++ more)
    go None b e f = cc
    go (Some left) b e f = rw (below_more (takes a) ks more left b) (f left e)

expands : (p : Part_of) (r : List Symbol) (s : List Symbol) (ks out : List Stack) → IsRule r (rules p) → run (Part p ∷ s) ks ≡ Some out →
    run (r ++ s) ks ≡ Some out
expands p r s ks out m h = go (below (part_takes p) ks) refl h
  where
    go : (o : Option (List Stack)) → below (part_takes p) ks ≡ o → option_and_then (λ left. run s (part_gives p ++ left)) o ≡ Some out →
        run (r ++ s) ks ≡ Some out
    go None b h = cc
    go (Some left) b h = rw (below_split (part_takes p) ks left b) (framed r s (part_takes p) left (part_gives p) (fits p r m) ∙ h)

pub fits_part : (p : Part_of) (r s : List Symbol) (vs : Values) → IsRule r (rules p) → Fits (Part p ∷ s) vs → Fits (r ++ s) vs
fits_part p r s vs m h = (h.0, h.1, expands p r s h.0 (a_program ∷ []) m h.2)

pub fits_token : (k : Terminal) (s : List Symbol) (vs : Values) → Fits (Token k ∷ s) vs → Fits s vs
fits_token k s vs h = (h.0, h.1, h.2)

pub fits_bound : (o : Bound_of) (s : List Symbol) (vs : Values) → Fits (Bound o ∷ s) vs → Fits s vs
fits_bound o s vs h = (h.0, h.1, h.2)

pub fits_keep : (k : Terminal) (t : Word) (s : List Symbol) (vs : Values) → Fits (Keep k ∷ s) vs → Fits s (keep k t vs)
fits_keep k t s vs h = (kept_as k ∷ h.0, (kept_top k t vs, subst (λ x. Holds h.0 x) (sym (kept_below k t vs)) h.1), h.2)

record Found (a : Act) (s : List Symbol) (vs : Values) : Type 0 where
  finds : Finds a vs
  fits : Fits s (act a vs)

found : (a : Act) (s : List Symbol) (vs : Values) → Fits (Do a ∷ s) vs → Found a s vs
found a s vs h = go (below (takes a) h.0) refl h.2
  where
    go : (o : Option (List Stack)) → below (takes a) h.0 ≡ o → option_and_then (λ left. run s (gives a ∷ left)) o ≡ Some (a_program ∷ []) →
        Found a s vs
    go None b e = cc
    go (Some left) b e =
        let all : Holds (takes a ++ left) vs = subst (λ ks. Holds ks vs) (below_split (takes a) h.0 left b) h.1 in
        record {
          finds = holds_left (takes a) left vs all;
          fits = (gives a ∷ left, (act_has a vs, subst (λ x. Holds left x) (sym (act_takes a vs)) (holds_right (takes a) left vs all)), e);
        }

pub finds_act : (a : Act) (s : List Symbol) (vs : Values) → Fits (Do a ∷ s) vs → Finds a vs
finds_act a s vs h = (found a s vs h).finds

pub fits_act : (a : Act) (s : List Symbol) (vs : Values) → Fits (Do a ∷ s) vs → Fits s (act a vs)
fits_act a s vs h = (found a s vs h).fits

pub fits_start : Fits (Part part.Program ∷ []) no_values
fits_start = ([], tt, refl)
