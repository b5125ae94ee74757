-- Lists of bytes, and what was taken from their front.
use Rattle.std.proofs.Common.{◌≡◌, ℕ, suc, ◌+◌, ◌≤◌, List, ◌∷◌, ◌++◌, length, take, drop, sym, ap, ◌∙◌, append_assoc, arith, inl, inr}
use Rattle.std.proofs.lemmas.Bool.{cases_lt}
use Rattle.std.proofs.lemmas.List.{length-append, length-take, get_or-drop, get_or-take, get_or_past}
use Rattle.ec_formats.specs.Format.{IsBytes, Takes}

pub IsBytes-drop : (n : ℕ) (bytes : List ℕ) → IsBytes bytes → IsBytes (drop n bytes)
IsBytes-drop n bytes h i = rw get_or-drop (h (n + i))

pub IsBytes-take : (n : ℕ) (bytes : List ℕ) → IsBytes bytes → IsBytes (take n bytes)
IsBytes-take n bytes h i =
    elim (cases_lt i n) [
      | inl lt ↦ rw (get_or-take n bytes i 0 lt) (h i)
      | inr le ↦ rw (get_or_past (take n bytes) i 0 (omega (arith, length-take n bytes))) (omega arith)
    ]

pub IsBytes-rest : (b : ℕ) (bytes : List ℕ) → IsBytes (b ∷ bytes) → IsBytes bytes
IsBytes-rest b bytes h i = h (suc i)

-- one spelling behind another
pub Takes-then : (a x b y c : List ℕ) → Takes a x b → Takes b y c → Takes a (x ++ y) c
Takes-then a x b y c p q = record {
  parts = p.parts ∙ ap (λ (t : List ℕ). x ++ t) q.parts ∙ sym (append_assoc x y c);
  rest_fits = q.rest_fits;
}

-- one byte before a spelling
pub Takes-behind : (b : ℕ) (bytes spelling rest : List ℕ) → Takes bytes spelling rest → Takes (b ∷ bytes) (b ∷ spelling) rest
Takes-behind b bytes spelling rest t = record { parts = ap (λ (r : List ℕ). b ∷ r) t.parts; rest_fits = t.rest_fits }

-- what is left is no more than what there was
pub rest_within : (bytes spelling rest : List ℕ) → Takes bytes spelling rest → length rest ≤ length bytes
rest_within bytes spelling rest t =
    let e : length bytes ≡ length spelling + length rest = ap length t.parts ∙ length-append spelling rest in
    omega arith
