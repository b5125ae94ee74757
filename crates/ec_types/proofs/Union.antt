-- Two relations in one, which meets the clauses where both do.
use Rattle.std.proofs.Common.{◌≡◌, ℕ, ◌<◌, true, ◌||◌, ◌⊎◌, inl, inr, List, length}
use Rattle.std.proofs.lemmas.Bool.{or_cases, or_left, or_right}
use Rattle.ec_types.specs.Conforms.{Relation, meets, most_types, IsClosed}
use Rattle.ec_types.specs.declared.conform.named_type.NamedType.{NamedType}
use Rattle.ec_types.proofs.Striking.{meets_more}

module _ (types : List NamedType) (p q : Relation) where
  abbrev pub union : Relation
  union a b = p a b || q a b

  pub in_first : (a b : ℕ) → p a b ≡ true → union a b ≡ true
  in_first a b h = or_left (p a b) (q a b) h

  pub in_second : (a b : ℕ) → q a b ≡ true → union a b ≡ true
  in_second a b h = or_right (p a b) (q a b) h

  pub union_closed : IsClosed types p → IsClosed types q → IsClosed types union
  union_closed c d = record {
    left = λ a b h. left a b (or_cases (p a b) (q a b) h);
    right = λ a b h. right a b (or_cases (p a b) (q a b) h);
    clauses = λ a b i j h. clauses a b i j (or_cases (p a b) (q a b) h);
  }
    where
      left : (a b : ℕ) → (p a b ≡ true) ⊎ (q a b ≡ true) → a < length types
      left a b (inl h) = c.left a b h
      left a b (inr h) = d.left a b h

      right : (a b : ℕ) → (p a b ≡ true) ⊎ (q a b ≡ true) → b < length types
      right a b (inl h) = c.right a b h
      right a b (inr h) = d.right a b h

      clauses : (a b : ℕ) → a < most_types → b < most_types → (p a b ≡ true) ⊎ (q a b ≡ true) → meets types union a b ≡ true
      clauses a b i j (inl h) = meets_more types p union in_first a b (c.clauses a b i j h)
      clauses a b i j (inr h) = meets_more types q union in_second a b (d.clauses a b i j h)
