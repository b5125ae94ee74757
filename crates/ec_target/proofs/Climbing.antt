-- Runs whose words rise: how they are put together.
use Rattle.std.proofs.Common.{◌≡◌, ℕ, suc, ◌+◌, ◌<◌, ◌≤◌, List, [], ◌∷◌, ◌++◌, length, refl, subst, arith}
use Rattle.ec_base.specs.Bytes.{Bytes}
use Rattle.ec_target.specs.Code.{pc_of}
use Rattle.ec_target.specs.Paths.{Climbs, Passes, Rises}
use Rattle.ec_target.specs.Runs.{Going, Leads}
use Rattle.ec_target.proofs.Running.{leads_first, leads_none, same_end}

-- ---- words that rise

rises_wider : (from end low high : ℕ) (is : List ℕ) → low ≤ from → end ≤ high → Rises from end is → Rises low high is
rises_wider from end low high [] a b r = omega (arith, a, b, r)
rises_wider from end low high (i ∷ is) a b (p, q, rest) =
    (omega (arith, a, p), omega (arith, b, q), rises_wider (suc i) end (suc i) high is (omega arith) b rest)

rises_append : (from mid end : ℕ) (is js : List ℕ) → Rises from mid is → Rises mid end js → Rises from end (is ++ js)
rises_append from mid end [] js r s = rises_wider mid end from end js r (omega arith) s
rises_append from mid end (i ∷ is) js (p, q, rest) s =
    (p, below mid end i js q s, rises_append (suc i) mid end is js rest s)
  where
    below : (mid end i : ℕ) (js : List ℕ) → i < mid → Rises mid end js → i < end
    below mid end i [] h s = omega (arith, h, s)
    below mid end i (j ∷ js) h s = let p = s.0 in let q = s.1 in omega (arith, h, p, q)

-- so there are few of them
pub rises_few : (from end : ℕ) (is : List ℕ) → Rises from end is → from + length is ≤ end
rises_few from end [] r = omega (arith, r)
rises_few from end (i ∷ is) (p, q, rest) = let few = rises_few (suc i) end is rest in omega (arith, p, few)

-- ---- runs

module _ {S : Type 0} (goes : Going S) (place : S → ℕ) where
  pub passes_none : (m : S) (b : Bytes) → Passes goes place [] m b m b
  unfolding Passes
  passes_none m b = (refl, refl)

  pub passes_first : (i : ℕ) (is : List ℕ) (m : S) (b : Bytes) (u : S) (d : Bytes) (n : S) (c : Bytes) → place m ≡ pc_of i →
      goes m b u d → Passes goes place is u d n c → Passes goes place (i ∷ is) m b n c
  unfolding Passes
  passes_first i is m b u d n c at st rest = (at, u, d, st, rest)

  -- such a run is a run
  pub passes_lead : (is : List ℕ) (m : S) (b : Bytes) (n : S) (c : Bytes) → Passes goes place is m b n c →
      Leads goes m b (length is) n c
  unfolding Passes
  passes_lead [] m b n c h = same_end goes m b 0 m b n c h.0 h.1 (leads_none goes m b)
  passes_lead (i ∷ is) m b n c (at, u, d, st, rest) = leads_first goes m b u d (length is) n c st (passes_lead is u d n c rest)

  -- one run behind another
  pub passes_append : (is js : List ℕ) (m : S) (b : Bytes) (n : S) (c : Bytes) (u : S) (d : Bytes) → Passes goes place is m b n c →
      Passes goes place js n c u d → Passes goes place (is ++ js) m b u d
  unfolding Passes
  passes_append [] js m b n c u d (e, f) far =
      subst (λ x. Passes goes place js x b u d) e (subst (λ y. Passes goes place js n y u d) f far)
  passes_append (i ∷ is) js m b n c u d (at, v, w, st, rest) far = (at, v, w, st, passes_append is js v w n c u d rest far)

  -- ---- runs whose words rise

  pub climbs_none : (m : S) (b : Bytes) (from end : ℕ) → from ≤ end → Climbs goes place m b from end m b
  climbs_none m b from end h = record { path = []; passes = passes_none m b; rises = h }

  -- one step before a run
  pub climbs_first : (i end : ℕ) (m : S) (b : Bytes) (u : S) (d : Bytes) (n : S) (c : Bytes) → place m ≡ pc_of i → i < end →
      goes m b u d → Climbs goes place u d (i + 1) end n c → Climbs goes place m b i end n c
  climbs_first i end m b u d n c at low st r =
      let next : i + 1 ≡ suc i = omega arith in
      record {
        path = i ∷ r.path;
        passes = passes_first i r.path m b u d n c at st r.passes;
        rises = (omega arith, low, subst (λ k. Rises k end r.path) next r.rises);
      }

  pub climbs_one : (i : ℕ) (m : S) (b : Bytes) (n : S) (c : Bytes) → place m ≡ pc_of i → goes m b n c →
      Climbs goes place m b i (i + 1) n c
  climbs_one i m b n c at st =
      climbs_first i (i + 1) m b n c n c at (omega arith) st (climbs_none n c (i + 1) (i + 1) (omega arith))

  pub climbs_two : (i : ℕ) (m : S) (b : Bytes) (u : S) (d : Bytes) (n : S) (c : Bytes) → place m ≡ pc_of i → goes m b u d →
      place u ≡ pc_of (i + 1) → goes u d n c → Climbs goes place m b i (i + 2) n c
  climbs_two i m b u d n c at st next more =
      climbs_first i (i + 2) m b u d n c at (omega arith) st
      (climbs_first (i + 1) (i + 2) u d n c n c next (omega arith) more (climbs_none n c (i + 1 + 1) (i + 2) (omega arith)))

  -- one run behind another, through words behind those of the first
  pub climbs_append : (m : S) (b : Bytes) (from mid : ℕ) (n : S) (c : Bytes) (end : ℕ) (u : S) (d : Bytes) →
      Climbs goes place m b from mid n c → Climbs goes place n c mid end u d → Climbs goes place m b from end u d
  climbs_append m b from mid n c end u d r s = record {
    path = r.path ++ s.path;
    passes = passes_append r.path s.path m b n c u d r.passes s.passes;
    rises = rises_append from mid end r.path s.path r.rises s.rises;
  }

  -- the same run, among more words
  pub climbs_wider : (m : S) (b : Bytes) (from end low high : ℕ) (n : S) (c : Bytes) → low ≤ from → end ≤ high →
      Climbs goes place m b from end n c → Climbs goes place m b low high n c
  climbs_wider m b from end low high n c p q r =
      record { path = r.path; passes = r.passes; rises = rises_wider from end low high r.path p q r.rises }
