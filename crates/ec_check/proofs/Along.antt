-- The making of one part after another, along a list: what is made so far, with what the rest will make, is what all make.
use Rattle.std.proofs.Common.{◌≡◌, ℕ, ◌+◌, ◌<◌, ◌≤◌, List, [], ◌∷◌, ◌++◌, drop, get_or, length, refl, sym, ap, ◌∙◌, append_assoc}
use Rattle.std.proofs.lemmas.List.{append-nil, at_drop_more, drop_all}
use Rattle.ec_check.proofs.Steps.{made_joined, made_none, same_made}
use Rattle.ec_check.specs.Making.{HasGone, HasMade, env_of, made_of}
use Rattle.ec_check.specs.Parts.{Made, StatementPart, both_made, nothing_made}
use Rattle.ec_check.specs.Places.{Env}
use Rattle.ec_check.specs.Resolving.{behind, behind_all, locals_of_statements, statements_made}
use Rattle.ec_check.specs.declared.resolver.Resolver.{Resolver}
use Rattle.ec_types.specs.declared.conform.static_type.StaticType.{StaticType}
use Rattle.ec_types.specs.declared.scopes.scope.Scope.{Scope}

-- ---- what is left of a list

pub drop_more : {A : Type 0} (xs : List A) (i : ℕ) (x : A) → i < length xs → x ≡ get_or xs i x → drop i xs ≡ x ∷ drop (i + 1) xs
drop_more xs i x lt is = at_drop_more (λ ys. ys) xs i x lt ∙ ap (λ y. y ∷ drop (i + 1) xs) (sym is)

-- found so far, and one more
pub found_next : {A B : Type 0} (f : A → B) (values : List A → List B) → ((x : A) (ys : List A) → values (x ∷ ys) ≡ f x ∷ values ys) →
    (found next : List B) (xs : List A) (i : ℕ) (x : A) (v : B) → i < length xs → x ≡ get_or xs i x →
    next ≡ found ++ v ∷ [] → v ≡ f x → next ++ values (drop (i + 1) xs) ≡ found ++ values (drop i xs)
found_next f values cons found next xs i x v lt is e h =
    ap (λ n. n ++ values (drop (i + 1) xs)) (e ∙ ap (λ y. found ++ y ∷ []) h)
    ∙ append_assoc found (f x ∷ []) (values (drop (i + 1) xs))
    ∙ ap (λ r. found ++ r) (sym (cons x (drop (i + 1) xs)) ∙ sym (ap values (drop_more xs i x lt is)))

pub found_end : {A B : Type 0} (values : List A → List B) → values [] ≡ [] → (found : List B) (xs : List A) (i : ℕ) → length xs ≤ i →
    found ≡ found ++ values (drop i xs)
found_end values none found xs i le = sym (ap (λ r. found ++ r) (ap values (drop_all i xs le) ∙ none) ∙ append-nil found)

-- ---- where the place is kept

pub record AlongMade (start now : Resolver) (rest all : Made) : Type 0 where
  pub place : env_of now ≡ env_of start
  pub types : now.variables.types ≡ start.variables.types
  pub made : both_made (made_of now.made) rest ≡ both_made (made_of start.made) all

pub along_first : (r : Resolver) (all : Made) → AlongMade r r all all
along_first r all = record { place = refl; types = refl; made = refl }

pub along_next : {start now next : Resolver} {m all : Made} (rest : Made) →
    AlongMade start now (both_made m rest) all → HasMade now next m → AlongMade start next rest all
along_next {start} {now} {next} {m} {all} rest a h = record {
  place = h.place ∙ a.place;
  types = h.types ∙ a.types;
  made = ap (λ x. both_made x rest) h.made ∙ made_joined (made_of now.made) m rest ∙ a.made;
}

pub along_same : {start now : Resolver} {rest other all : Made} → rest ≡ other → AlongMade start now rest all →
    AlongMade start now other all
along_same {start} {now} e a = record {
  place = a.place;
  types = a.types;
  made = ap (both_made (made_of now.made)) (sym e) ∙ a.made;
}

pub along_end : {start now : Resolver} {all : Made} → AlongMade start now nothing_made all → HasMade start now all
along_end {start} {now} a = record { place = a.place; types = a.types; made = sym (made_none (made_of now.made)) ∙ a.made }

-- over a list
module _ {A : Type 0} (one : A → Made) (all : List A → Made)
    (cons : (x : A) (ys : List A) → all (x ∷ ys) ≡ both_made (one x) (all ys)) where
  pub over_next : {start now next : Resolver} (xs : List A) (i : ℕ) (x : A) → i < length xs → x ≡ get_or xs i x →
      AlongMade start now (all (drop i xs)) (all xs) → HasMade now next (one x) → AlongMade start next (all (drop (i + 1) xs)) (all xs)
  over_next xs i x lt is a h =
      along_next (all (drop (i + 1) xs)) (along_same (ap all (drop_more xs i x lt is) ∙ cons x (drop (i + 1) xs)) a) h

  pub over_end : {start now : Resolver} (xs : List A) (i : ℕ) → all [] ≡ nothing_made → length xs ≤ i →
      AlongMade start now (all (drop i xs)) (all xs) → HasMade start now (all xs)
  over_end xs i none le a = along_end (along_same (ap all (drop_all i xs le) ∙ none) a)

-- what is made at the next place
pub made_in : {start now next : Resolver} {rest all : Made} (f : Scope → Made) →
    AlongMade start now rest all → HasMade now next (f now.walk.scope) → HasMade now next (f start.walk.scope)
made_in f a h = same_made (ap f (ap (λ (e : Env). e.scope) a.place)) h

-- lists found so far, and one more
pub each_next : {A B : Type 0} (f : A → List B) (values : List A → List B) → ((x : A) (ys : List A) → values (x ∷ ys) ≡ f x ++ values ys) →
    (found next : List B) (xs : List A) (i : ℕ) (x : A) (own : List B) → i < length xs → x ≡ get_or xs i x →
    next ≡ found ++ own → own ≡ f x → next ++ values (drop (i + 1) xs) ≡ found ++ values (drop i xs)
each_next f values cons found next xs i x own lt is e h =
    ap (λ n. n ++ values (drop (i + 1) xs)) (e ∙ ap (λ y. found ++ y) h)
    ∙ append_assoc found (f x) (values (drop (i + 1) xs))
    ∙ ap (λ r. found ++ r) (sym (cons x (drop (i + 1) xs)) ∙ sym (ap values (drop_more xs i x lt is)))

-- ---- where the place is another

pub record AlongGone (start now : Resolver) (end all_end : Env) (locals all_locals : List StaticType) (rest all : Made) : Type 0 where
  pub place : end ≡ all_end
  pub types : now.variables.types ++ locals ≡ start.variables.types ++ all_locals
  pub made : both_made (made_of now.made) rest ≡ both_made (made_of start.made) all

pub gone_first : (r : Resolver) (end : Env) (locals : List StaticType) (all : Made) → AlongGone r r end end locals locals all all
gone_first r end locals all = record { place = refl; types = refl; made = refl }

pub gone_next : {start now next : Resolver} {end all_end middle : Env} {ls locals all_locals : List StaticType} {m rest all : Made} →
    AlongGone start now end all_end (ls ++ locals) all_locals (both_made m rest) all →
    HasGone now next middle ls m → AlongGone start next end all_end locals all_locals rest all
gone_next {start} {now} {next} {end} {all_end} {middle} {ls} {locals} {all_locals} {m} {rest} {all} a h = record {
  place = a.place;
  types = ap (λ x. x ++ locals) h.types ∙ append_assoc now.variables.types ls locals ∙ a.types;
  made = ap (λ x. both_made x rest) h.made ∙ made_joined (made_of now.made) m rest ∙ a.made;
}

pub gone_end : {start now : Resolver} {all_end : Env} {all_locals : List StaticType} {all : Made} →
    AlongGone start now (env_of now) all_end [] all_locals nothing_made all → HasGone start now all_end all_locals all
gone_end {start} {now} a = record {
  place = a.place;
  types = sym (append-nil now.variables.types) ∙ a.types;
  made = sym (made_none (made_of now.made)) ∙ a.made;
}

-- ---- statements

abbrev pub AlongStatements : Resolver → Resolver → List StatementPart → List StatementPart → Type 0
AlongStatements start now rest all =
    AlongGone start now (behind_all (env_of now) rest) (behind_all (env_of start) all)
    (locals_of_statements rest now.walk.scope) (locals_of_statements all start.walk.scope)
    (statements_made rest now.walk.scope) (statements_made all start.walk.scope)

abbrev along_end_of : Resolver → Resolver → Env → Scope → List StatementPart → List StatementPart → Type 0
along_end_of start now env scope rest all =
    AlongGone start now (behind_all env rest) (behind_all (env_of start) all)
    (locals_of_statements rest scope) (locals_of_statements all start.walk.scope)
    (statements_made rest scope) (statements_made all start.walk.scope)

moved : {start now : Resolver} {env other : Env} {scope another : Scope} (rest all : List StatementPart) →
    env ≡ other → scope ≡ another → along_end_of start now env scope rest all → along_end_of start now other another rest all
moved {start} {now} {env} {other} {scope} {another} rest all e s a = record {
  place = sym (ap (λ x. behind_all x rest) e) ∙ a.place;
  types = ap (λ x. now.variables.types ++ locals_of_statements rest x) (sym s) ∙ a.types;
  made = ap (λ x. both_made (made_of now.made) (statements_made rest x)) (sym s) ∙ a.made;
}

pub statement_next : {start now next : Resolver} (x : StatementPart) (more all : List StatementPart) →
    AlongStatements start now (x ∷ more) all →
    HasGone now next (behind (env_of now) x) (x.locals now.walk.scope) (x.made now.walk.scope) →
    AlongStatements start next more all
statement_next {start} {now} {next} x more all a h =
    let scope = ap (λ (e : Env). e.scope) h.place in
    moved more all (sym h.place) (sym scope) (gone_next a h)
