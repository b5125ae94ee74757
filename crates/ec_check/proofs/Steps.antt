-- The making of parts, one after another.
use Rattle.std.proofs.Common.{◌≡◌, ℕ, List, [], ◌++◌, length, refl, sym, ap, ◌∙◌, append_assoc}
use Rattle.std.proofs.lemmas.List.{append-nil}
use Rattle.ec_check.specs.Making.{HasGone, HasMade, env_of, made_of}
use Rattle.ec_check.specs.Parts.{Made, both_made, nothing_made}
use Rattle.ec_check.specs.Places.{Env}
use Rattle.ec_check.specs.declared.resolver.Resolver.{Resolver}
use Rattle.ec_types.specs.declared.conform.static_type.StaticType.{StaticType}
use Rattle.ec_core.specs.declared.Class.{Class}
use Rattle.ec_core.specs.declared.Operation.{Operation}
use Rattle.ec_judge.specs.declared.walk.Walk.{Walk}
use Rattle.ec_types.specs.Names.{Text}
use Rattle.ec_types.specs.declared.scopes.scope.Scope.{Scope}

abbrev env_with : Scope → List Text → List ℕ → ℕ → Env
env_with scope captures numbers count = record { scope = scope; captures = captures; numbers = numbers; count = count }

-- ---- what is made

abbrev made_from : List Class → List Operation → Made
made_from classes operations = record { classes = classes; operations = operations }

made_ap : {cs ds : List Class} {os ps : List Operation} → cs ≡ ds → os ≡ ps → made_from cs os ≡ made_from ds ps
made_ap {cs} {ds} {os} {ps} e f = ap (λ x. made_from x os) e ∙ ap (made_from ds) f

pub made_none : (m : Made) → both_made m nothing_made ≡ m
made_none m = made_ap (append-nil m.classes) (append-nil m.operations)

pub made_joined : (a b c : Made) → both_made (both_made a b) c ≡ both_made a (both_made b c)
made_joined a b c = made_ap (append_assoc a.classes b.classes c.classes) (append_assoc a.operations b.operations c.operations)

-- ---- where the place is kept

pub kept : {a b : Resolver} {m : Made} → HasMade a b m → b.walk.scope ≡ a.walk.scope
kept h = ap (λ (e : Env). e.scope) h.place

pub unmade : (r : Resolver) → HasMade r r nothing_made
unmade r = record { place = refl; types = refl; made = sym (made_none (made_of r.made)) }

pub then : {a b c : Resolver} {m n : Made} → HasMade a b m → HasMade b c n → HasMade a c (both_made m n)
then {a} {b} {c} {m} {n} h k = record {
  place = k.place ∙ h.place;
  types = k.types ∙ h.types;
  made = k.made ∙ ap (λ x. both_made x n) h.made ∙ made_joined (made_of a.made) m n;
}

pub same_made : {a b : Resolver} {m n : Made} → m ≡ n → HasMade a b m → HasMade a b n
same_made {a} e h = record { place = h.place; types = h.types; made = h.made ∙ ap (both_made (made_of a.made)) e }

-- where what is made depends on the scope
pub then_in : {a b c : Resolver} {m : Made} (f : Scope → Made) →
    HasMade a b m → HasMade b c (f b.walk.scope) → HasMade a c (both_made m (f a.walk.scope))
then_in f h k = then h (same_made (ap f (kept h)) k)

pub none_then : {a b c : Resolver} {m : Made} → HasMade a b nothing_made → HasMade b c m → HasMade a c m
none_then h k = then h k

-- ---- where the place is another

pub gone_same : {a b : Resolver} {e f : Env} {ls ks : List StaticType} {m n : Made} →
    e ≡ f → ls ≡ ks → m ≡ n → HasGone a b e ls m → HasGone a b f ks n
gone_same {a} p q s h = record {
  place = h.place ∙ p;
  types = h.types ∙ ap (λ x. a.variables.types ++ x) q;
  made = h.made ∙ ap (both_made (made_of a.made)) s;
}

pub gone_made : {a b : Resolver} {m : Made} → HasMade a b m → HasGone a b (env_of a) [] m
gone_made {a} h = record { place = h.place; types = h.types ∙ sym (append-nil a.variables.types); made = h.made }

pub gone_on : {a b c : Resolver} {e f : Env} {ls ks : List StaticType} {m n : Made} →
    HasGone a b e ls m → HasGone b c f ks n → HasGone a c f (ls ++ ks) (both_made m n)
gone_on {a} {b} {c} {e} {f} {ls} {ks} {m} {n} h k = record {
  place = k.place;
  types = k.types ∙ ap (λ x. x ++ ks) h.types ∙ append_assoc a.variables.types ls ks;
  made = k.made ∙ ap (λ x. both_made x n) h.made ∙ made_joined (made_of a.made) m n;
}

-- behind what leaves the place
pub made_gone : {a b c : Resolver} {f : Env} {ks : List StaticType} {m n : Made} →
    HasMade a b m → HasGone b c f ks n → HasGone a c f ks (both_made m n)
made_gone h k = gone_on (gone_made h) k

-- ---- what is judged aside

abbrev pub walking : Resolver → Walk → Resolver
walking r walk = record { walk = walk; captures = r.captures; variables = r.variables; made = r.made }

pub aside : (r : Resolver) (walk : Walk) → walk.scope ≡ r.walk.scope → HasMade r (walking r walk) nothing_made
aside r walk e = record {
  place = ap (λ s. env_with s r.captures r.variables.numbers.items (length r.variables.types)) e;
  types = refl;
  made = sym (made_none (made_of r.made));
}
