-- Lists of kinds as sets.
use Rattle.std.proofs.Common.{◌≡◌, Bool, true, false, ◌||◌, ◌&&◌, List, [], ◌∷◌, ◌++◌, refl, inl, inr, ◌⊎◌, rules}
use denote.Enum.Bare.{same_true}
use Rattle.ec_parser.specs.contracts.terminal.Terminal.{the_type}
use Rattle.ec_parser.specs.declared.terminal.Terminal.{Terminal}
use Rattle.ec_parser.specs.Choose.{has_kind, same_kind}
use Rattle.ec_parser.proofs.Table.{is_subset}

pub or_cases : (a b : Bool) → (a || b) ≡ true → (a ≡ true) ⊎ (b ≡ true)
or_cases true b h = inl refl
or_cases false b h = inr h

pub and_left : (a b : Bool) → (a && b) ≡ true → a ≡ true
and_left true b h = refl
and_left false b h = h

pub and_right : (a b : Bool) → (a && b) ≡ true → b ≡ true
and_right true b h = h
and_right false b h = absurd (let e : false ≡ true = h in cc)

pub or_left : (a b : Bool) → a ≡ true → (a || b) ≡ true
or_left true b h = refl
or_left false b h = absurd (let e : false ≡ true = h in cc)

pub or_right : (a b : Bool) → b ≡ true → (a || b) ≡ true
or_right true b h = refl
or_right false b h = h

pub same_kinds : (a b : Terminal) → same_kind a b ≡ true → a ≡ b
same_kinds a b h = same_true the_type (search rules) a b h

pub has-append : (k : Terminal) (xs ys : List Terminal) → has_kind k (xs ++ ys) ≡ true → (has_kind k xs ≡ true) ⊎ (has_kind k ys ≡ true)
has-append k [] ys h = inr h
has-append k (x ∷ xs) ys h = elim (or_cases (same_kind k x) (has_kind k (xs ++ ys)) h) [
  | inl e ↦ inl (or_left (same_kind k x) (has_kind k xs) e)
  | inr e ↦ elim (has-append k xs ys e) [ inl f ↦ inl (or_right (same_kind k x) (has_kind k xs) f) | inr f ↦ inr f ]
]

pub has-append_left : (k : Terminal) (xs ys : List Terminal) → has_kind k xs ≡ true → has_kind k (xs ++ ys) ≡ true
has-append_left k [] ys h = absurd (let e : false ≡ true = h in cc)
has-append_left k (x ∷ xs) ys h = elim (or_cases (same_kind k x) (has_kind k xs) h) [
  | inl e ↦ or_left (same_kind k x) (has_kind k (xs ++ ys)) e
  | inr e ↦ or_right (same_kind k x) (has_kind k (xs ++ ys)) (has-append_left k xs ys e)
]

pub has-append_right : (k : Terminal) (xs ys : List Terminal) → has_kind k ys ≡ true → has_kind k (xs ++ ys) ≡ true
has-append_right k [] ys h = h
has-append_right k (x ∷ xs) ys h = or_right (same_kind k x) (has_kind k (xs ++ ys)) (has-append_right k xs ys h)

pub subset : (k : Terminal) (xs ys : List Terminal) → is_subset xs ys ≡ true → has_kind k xs ≡ true → has_kind k ys ≡ true
subset k [] ys s h = absurd (let e : false ≡ true = h in cc)
subset k (x ∷ xs) ys s h = elim (or_cases (same_kind k x) (has_kind k xs) h) [
  | inl e ↦ rw (same_kinds k x e) (and_left (has_kind x ys) (is_subset xs ys) s)
  | inr e ↦ subset k xs ys (and_right (has_kind x ys) (is_subset xs ys) s) e
]
