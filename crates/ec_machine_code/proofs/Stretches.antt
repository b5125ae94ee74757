-- Words of code that stand behind one another, and runs through them.
use Rattle.std.proofs.Common.{◌≡◌, ℕ, zero, suc, ◌+◌, ◌<◌, ◌≤◌, ◌⊎◌, List, [], ◌∷◌, ◌++◌, length, drop, Some, refl, ap, ◌∙◌}
use Rattle.std.proofs.Common.{arith, inl, inr, ⊎_elim, length-append}
use Rattle.std.specs.Prelude.{slice_get}
use Rattle.ec_machine_code.specs.Frames.{most_blocks}
use Rattle.ec_machine_code.specs.Machine.{MachineMeaning}
use Rattle.ec_machine_code.specs.Layout.{words_of_steps}
use Rattle.ec_machine_code.specs.Micro.{Can, Sight, does}
use Rattle.ec_machine_code.specs.Speaks.{Ends, HasAt, Sees, Speaks, Vocabulary, words_end}
use Rattle.ec_machine_code.specs.declared.step.Step.{Step}
use Rattle.ec_target.proofs.Climbing.{climbs_append, climbs_none, climbs_wider}
use Rattle.ec_target.specs.Code.{pc_of, word_at}

-- ---- items of lists

pub get_append :
    {A : Type 0} (xs ys : List A) (i : ℕ) (v : A) → slice_get (xs ++ ys) i ≡ Some v →
    (slice_get xs i ≡ Some v) ⊎ ((k : ℕ) × (i ≡ length xs + k) × (slice_get ys k ≡ Some v))
get_append [] ys i v e = inr (i, omega arith, e)
get_append (x ∷ xs) ys zero v e = inl e
get_append {A} (x ∷ xs) ys (suc i) v e = ⊎_elim
    (λ (h : slice_get xs i ≡ Some v). inl h)
    (λ (h : (k : ℕ) × (i ≡ length xs + k) × (slice_get ys k ≡ Some v)). inr (h.0, omega (arith, h.1), h.2))
    (get_append xs ys i v e)

pub get_front : {A : Type 0} (xs ys : List A) (i : ℕ) (v : A) → slice_get xs i ≡ Some v → slice_get (xs ++ ys) i ≡ Some v
get_front [] ys i v e = cc
get_front (x ∷ xs) ys zero v e = e
get_front (x ∷ xs) ys (suc i) v e = get_front xs ys i v e

get_back : {A : Type 0} (xs ys : List A) (k : ℕ) (v : A) → slice_get ys k ≡ Some v → slice_get (xs ++ ys) (length xs + k) ≡ Some v
get_back [] ys k v e = let n : 0 + k ≡ k = omega arith in ap (slice_get ys) n ∙ e
get_back (x ∷ xs) ys k v e =
    let n : suc (length xs) + k ≡ suc (length xs + k) = omega arith in
    ap (slice_get (x ∷ xs ++ ys)) n ∙ get_back xs ys k v e

pub get_drop : {A : Type 0} (xs : List A) (n : ℕ) (x : A) (rest : List A) → drop n xs ≡ x ∷ rest → slice_get xs n ≡ Some x
get_drop [] zero x rest e = cc
get_drop [] (suc n) x rest e = cc
get_drop (y ∷ ys) zero x rest e = let s : y ≡ x = cc in ap Some s
get_drop (y ∷ ys) (suc n) x rest e = get_drop ys n x rest e

pub drop_next : {A : Type 0} (xs : List A) (n : ℕ) (x : A) (rest : List A) → drop n xs ≡ x ∷ rest → drop (suc n) xs ≡ rest
drop_next [] zero x rest e = cc
drop_next [] (suc n) x rest e = cc
drop_next (y ∷ ys) zero x rest e = let s : ys ≡ rest = cc in s
drop_next (y ∷ ys) (suc n) x rest e = drop_next ys n x rest e

pub get_behind : {A : Type 0} (xs : List A) (n k : ℕ) → slice_get (drop n xs) k ≡ slice_get xs (n + k)
get_behind xs zero k = let n : k ≡ 0 + k = omega arith in ap (slice_get xs) n
get_behind [] (suc n) k = refl
get_behind (x ∷ xs) (suc n) k = let m : suc (n + k) ≡ suc n + k = omega arith in get_behind xs n k ∙ ap (slice_get (x ∷ xs)) m

-- ---- code

pub has_front : (code : List ℕ) (i : ℕ) (xs ys : List ℕ) → HasAt code i (xs ++ ys) → HasAt code i xs
has_front code i xs ys h k w e = h k w (get_front xs ys k w e)

pub has_back : (code : List ℕ) (i : ℕ) (xs ys : List ℕ) → HasAt code i (xs ++ ys) → HasAt code (i + length xs) ys
has_back code i xs ys h k w e =
    let on : i + length xs + k ≡ i + (length xs + k) = omega arith in
    ap (λ j. word_at code (pc_of j)) on ∙ h (length xs + k) w (get_back xs ys k w e)

module _ {S : Type 0} (M : MachineMeaning S) (f own : ℕ) (code : List ℕ) where
  pub stays : (s : S) (v : Sight) (i : ℕ) → M.place s ≡ pc_of i → Sees M f own s v.home → Ends M f own code s v i i i v
  stays s v i at sees =
      record { last = s; climbs = climbs_none (M.goes code) M.place s v.bytes i i (omega arith); at = at; sees = sees }

  -- among more words
  pub longer :
      (s : S) (v u : Sight) (from end low high to : ℕ) → low ≤ from → end ≤ high → Ends M f own code s v from end to u →
      Ends M f own code s v low high to u
  longer s v u from end low high to p q e = record {
    last = e.last;
    climbs = climbs_wider (M.goes code) M.place s v.bytes from end low high e.last u.bytes p q e.climbs;
    at = e.at;
    sees = e.sees;
  }

  -- one stretch behind another, through words behind those of the first
  pub joins :
      (s : S) (v u t : Sight) (from mid low end i to : ℕ) (e : Ends M f own code s v from mid i u) →
      Ends M f own code e.last u low end to t → mid ≤ low → Ends M f own code s v from end to t
  joins s v u t from mid low end i to e h rise = record {
    last = h.last;
    climbs = climbs_append (M.goes code) M.place s v.bytes from low e.last u.bytes end h.last t.bytes
        (climbs_wider (M.goes code) M.place s v.bytes from mid from low e.last u.bytes (omega arith) rise e.climbs) h.climbs;
    at = h.at;
    sees = h.sees;
  }

  -- ---- steps on words, one behind another

  abbrev pub does_all : List Step → Sight → Sight
  does_all [] v = v
  does_all (m ∷ ms) v = does_all ms (does M f own m v)

  abbrev pub CanAll : List Step → Sight → Type 0
  CanAll [] v = Unit {0}
  CanAll (m ∷ ms) v = Can M f own m v × CanAll ms (does M f own m v)

  module _ (V : Vocabulary) (K : Speaks M V) (f_small : f < most_blocks) (own_small : own < most_blocks) where
    pub runs_all :
        (ms : List Step) (i to : ℕ) (s : S) (v : Sight) → HasAt code i (words_of_steps V ms) → to ≡ i + length (words_of_steps V ms) →
        M.place s ≡ pc_of i → to ≤ words_end → Sees M f own s v.home → CanAll ms v →
        Ends M f own code s v i to to (does_all ms v)
    runs_all [] i to s v has sum at low sees can = longer s v v to to i to to (omega (arith, sum)) (omega arith)
        (stays s v to (omega (arith, at, sum)) sees)
    runs_all (m ∷ ms) i to s v has sum at low sees can =
        let ws = V.step_words m in
        let rest = words_of_steps V ms in
        let long = length-append ws rest in
        let one = K.step f own code m i s v f_small own_small (has_front code i ws rest has) at (omega (arith, sum, low, long)) sees
        can.0 in
        let far = runs_all ms (i + length ws) to one.last (does M f own m v) (has_back code i ws rest has) (omega (arith, sum, long))
        one.at low
        one.sees can.1 in
        joins s v (does M f own m v) (does_all (m ∷ ms) v) i (i + length ws) (i + length ws) to (i + length ws) to one far
        (omega arith)
