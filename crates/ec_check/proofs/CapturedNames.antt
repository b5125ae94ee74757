-- What is used within an object constructor from further out is captured, and is found outside of it.
use Rattle.std.proofs.Common.{◌≡◌, ℕ, zero, suc, ◌<◌, ◌==◌, ◌||◌, Bool, true, false, List, [], ◌∷◌, ◌++◌, length, Some}
use Rattle.std.proofs.Common.{refl, sym, ap, ◌∙◌, subst, if◌then◌else◌, append_assoc, arith}
use Rattle.std.proofs.lemmas.Bool.{eqb-true}
use Rattle.ec_ast.specs.declared.Name.{Name}
use Rattle.ec_base.proofs.Stacks.{below_of-push}
use Rattle.ec_check.proofs.Every.{Every, every_joined, every_left, every_right, none_left, none_right, either, not_both}
use Rattle.ec_check.proofs.FoundPlaces.{held_out, outward}
use Rattle.ec_types.specs.Names.{Text, has_name}
use Rattle.ec_rules.specs.Captures.{Use, use_of, captured_behind, captured, use_outside, uses_outside}
use Rattle.ec_types.proofs.Innermost.{below_of-change}
use Rattle.ec_types.specs.declared.scopes.object.Object.{Object}
use Rattle.ec_types.specs.declared.scopes.scope.Found.{Found}
use Rattle.ec_types.specs.declared.scopes.scope.Found.TheVariants as found
use Rattle.ec_types.specs.declared.scopes.scope.Scope.{Scope}
use Rattle.ec_types.specs.Scopes.{find, outside, change_innermost, within}

-- ---- uses one behind another

pub outside_joined : (us vs : List Use) → uses_outside (us ++ vs) ≡ uses_outside us ++ uses_outside vs
outside_joined [] vs = refl
outside_joined (u ∷ us) vs =
    ap (λ x. use_outside u.name u.out ++ x) (outside_joined us vs)
    ∙ sym (append_assoc (use_outside u.name u.out) (uses_outside us) (uses_outside vs))

pub none_outside_left : (us vs : List Use) → uses_outside (us ++ vs) ≡ [] → uses_outside us ≡ []
none_outside_left us vs e = none_left (uses_outside us) (uses_outside vs) (sym (outside_joined us vs) ∙ e)

pub none_outside_right : (us vs : List Use) → uses_outside (us ++ vs) ≡ [] → uses_outside vs ≡ []
none_outside_right us vs e = none_right (uses_outside us) (uses_outside vs) (sym (outside_joined us vs) ∙ e)

-- ---- each use of something further out finds it outside

abbrev pub HeldAt : Scope → Use → Type 0
HeldAt scope u = held_out (find scope u.name.text) ≡ Some u.out

abbrev pub UsesHeld : Scope → List Use → Type 0
UsesHeld scope us = Every (HeldAt (outside scope)) (uses_outside us)

pub held_both : (scope : Scope) (us vs : List Use) → UsesHeld scope us → UsesHeld scope vs → UsesHeld scope (us ++ vs)
held_both scope us vs h k =
    subst (Every (HeldAt (outside scope))) (sym (outside_joined us vs))
    (every_joined (HeldAt (outside scope)) (uses_outside us) (uses_outside vs) h k)

held_further : (scope : Scope) (name : Name) (out : ℕ) → held_out (find scope name.text) ≡ Some out →
    Every (HeldAt (outside scope)) (use_outside name out)
held_further scope name zero e = tt
held_further scope name (suc k) e = (outward scope name.text k e, tt)

held_if_found : (scope : Scope) (name : Name) (f : Found) → find scope name.text ≡ f → UsesHeld scope (use_of name f)
held_if_found scope name (found.Held h) e =
    every_joined (HeldAt (outside scope)) (use_outside name h.out) [] (held_further scope name h.out (ap held_out e)) tt
held_if_found scope name (found.Constant of) e = tt
held_if_found scope name found.Nothing e = tt

pub held_name : (scope : Scope) (name : Name) → UsesHeld scope (use_of name (find scope name.text))
held_name scope name = held_if_found scope name (find scope name.text) refl

further_each : (scope : Scope) (us : List Use) → Every (HeldAt scope) us → UsesHeld scope us
further_each scope [] h = tt
further_each scope (u ∷ us) h =
    every_joined (HeldAt (outside scope)) (use_outside u.name u.out) (uses_outside us) (held_further scope u.name u.out h.0)
    (further_each scope us h.1)

-- what is used within an object, outside of it
pub held_outside : (scope inner : Scope) (us : List Use) → outside inner ≡ scope → UsesHeld inner us →
    UsesHeld scope (uses_outside us)
held_outside scope inner us e h =
    further_each scope (uses_outside us) (subst (λ s. Every (HeldAt s) (uses_outside us)) e h)

-- ---- what is outside

abbrev pub with_objects : Scope → List Object → Scope
with_objects scope objects = record scope { objects = objects }

pub outside_within : (scope : Scope) (o : Object) → outside (within scope o) ≡ scope
outside_within scope o = ap (with_objects scope) (below_of-push scope.objects o)

pub outside_changed : (f : Object → Object) (scope : Scope) →
    outside (with_objects scope (change_innermost f scope.objects)) ≡ outside scope
outside_changed f scope = ap (with_objects scope) (below_of-change f scope.objects)

pub held_changed : (f : Object → Object) (scope : Scope) (us : List Use) →
    UsesHeld (with_objects scope (change_innermost f scope.objects)) us → UsesHeld scope us
held_changed f scope us h = subst (λ s. Every (HeldAt s) (uses_outside us)) (outside_changed f scope) h

-- ---- the captured names

pub some_not_none : (out : ℕ) → (suc out == 0) ≡ false
some_not_none out = apart (suc out == 0) refl
  where
    apart : (b : Bool) → (suc out == 0) ≡ b → (suc out == 0) ≡ false
    apart true e = let z : suc out ≡ 0 = eqb-true (suc out) 0 e in absurd (omega arith)
    apart false e = e

behind_first : (P : Text → Type 0) (taken : List Text) (name : Name) (out : ℕ) (b : Bool) → Every P taken →
    Every (λ (u : Use). P u.name.text) (use_outside name out) →
    Every P (if (out == 0) || b then taken else (taken ++ name.text ∷ []))
behind_first P taken name zero b t h = t
behind_first P taken name (suc out) b t h =
    subst (λ x. Every P (if x || b then taken else (taken ++ name.text ∷ []))) (sym (some_not_none out))
    (either (Every P) b taken (taken ++ name.text ∷ []) t (every_joined P taken (name.text ∷ []) t (h.0, tt)))

each_behind : (P : Text → Type 0) (taken : List Text) (us : List Use) → Every P taken →
    Every (λ (u : Use). P u.name.text) (uses_outside us) → Every P (captured_behind taken us)
each_behind P taken [] t h = t
each_behind P taken (u ∷ us) t h =
    each_behind P (if (u.out == 0) || has_name taken u.name.text then taken else (taken ++ u.name.text ∷ [])) us
    (behind_first P taken u.name u.out (has_name taken u.name.text) t
    (every_left (λ (u : Use). P u.name.text) (use_outside u.name u.out) (uses_outside us) h))
    (every_right (λ (u : Use). P u.name.text) (use_outside u.name u.out) (uses_outside us) h)

-- each of them is the name of something further out
pub each_captured : (P : Text → Type 0) (us : List Use) → Every (λ (u : Use). P u.name.text) (uses_outside us) →
    Every P (captured us)
each_captured P us h = each_behind P [] us tt h

-- ---- where nothing is captured, nothing further out is used

grown : (taken : List Text) (name : Text) → taken ++ name ∷ [] ≡ [] → ⊥
grown [] name e = cc
grown (t ∷ ts) name e = cc

record NoneBehind (taken : List Text) (name : Name) (out : ℕ) : Type 0 where
  before : taken ≡ []
  here : use_outside name out ≡ []

none_new : (taken : List Text) (name : Name) (out : ℕ) (b : Bool) → has_name taken name.text ≡ b →
    (if b then taken else (taken ++ name.text ∷ [])) ≡ [] → ⊥
none_new [] name out true e h = not_both e
none_new (t ∷ ts) name out true e h = cc
none_new taken name out false e h = grown taken name.text h

none_first : (taken : List Text) (name : Name) (out : ℕ) →
    (if (out == 0) || has_name taken name.text then taken else (taken ++ name.text ∷ [])) ≡ [] → NoneBehind taken name out
none_first taken name zero h = record { before = h; here = refl }
none_first taken name (suc out) h =
    absurd
    (none_new taken name out (has_name taken name.text) refl
    (subst (λ x. (if x || has_name taken name.text then taken else (taken ++ name.text ∷ [])) ≡ []) (some_not_none out) h))

record NoneUsed (taken : List Text) (us : List Use) : Type 0 where
  before : taken ≡ []
  later : uses_outside us ≡ []

none_behind : (taken : List Text) (us : List Use) → captured_behind taken us ≡ [] → NoneUsed taken us
none_behind taken [] e = record { before = e; later = refl }
none_behind taken (u ∷ us) e =
    let more : NoneUsed (if (u.out == 0) || has_name taken u.name.text then taken else (taken ++ u.name.text ∷ [])) us =
    none_behind (if (u.out == 0) || has_name taken u.name.text then taken else (taken ++ u.name.text ∷ [])) us e in
    let first : NoneBehind taken u.name u.out = none_first taken u.name u.out more.before in
    record {
      before = first.before;
      later = ap (λ x. x ++ uses_outside us) first.here ∙ more.later;
    }

pub none_captured : (us : List Use) → captured us ≡ [] → uses_outside us ≡ []
none_captured us e = (none_behind [] us e).later

-- ---- what is captured where something further out is used

reached_at : (name : Name) (out k : ℕ) → use_outside name out ++ [] ≡ [] → out ≡ suc k → ⊥
reached_at name zero k e s = cc
reached_at name (suc out) k e s = cc

nothing_reached : (name : Name) (f : Found) (k : ℕ) → uses_outside (use_of name f) ≡ [] → held_out f ≡ Some (suc k) → ⊥
nothing_reached name (found.Held h) k e s = let t : h.out ≡ suc k = cc in reached_at name h.out k e t
nothing_reached name (found.Constant of) k e s = cc
nothing_reached name found.Nothing k e s = cc

pub reached : (captures : List Text) (name : Name) (f : Found) → (captures ≡ [] → uses_outside (use_of name f) ≡ []) →
    (k : ℕ) → held_out f ≡ Some (suc k) → 0 < length captures
reached [] name f h k s = absurd (nothing_reached name f k (h refl) s)
reached (c ∷ cs) name f h k s = omega arith

abbrev pub Reached : List Text → Use → Type 0
Reached captures u = (k : ℕ) → u.out ≡ suc k → 0 < length captures

reached_none : (us : List Use) → uses_outside us ≡ [] → Every (Reached []) us
reached_none [] e = tt
reached_none (u ∷ us) e = (
  (λ k s. absurd (reached_at u.name u.out k (ap (λ x. x ++ []) (none_left (use_outside u.name u.out) (uses_outside us) e)) s)),
  reached_none us (none_right (use_outside u.name u.out) (uses_outside us) e),
)

reached_some : (c : Text) (cs : List Text) (us : List Use) → Every (Reached (c ∷ cs)) us
reached_some c cs [] = tt
reached_some c cs (u ∷ us) = ((λ k s. omega arith), reached_some c cs us)

pub reached_each : (captures : List Text) (us : List Use) → (captures ≡ [] → uses_outside us ≡ []) → Every (Reached captures) us
reached_each [] us h = reached_none us (h refl)
reached_each (c ∷ cs) us h = reached_some c cs us
