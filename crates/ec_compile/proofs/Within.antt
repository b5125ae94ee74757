-- Code of at most so many steps, each of which reads and writes only variables that are there.
use Rattle.std.proofs.Common.{◌≡◌, ℕ, zero, suc, ◌+◌, ◌<◌, ◌≤◌, List, [], ◌∷◌, ◌++◌, length, Option, Some, None, arith}
use Rattle.std.proofs.lemmas.List.{length-append}
use Rattle.ec_check.proofs.Every.{Every, Where, every_joined}
use Rattle.ec_code.specs.declared.code.Op.{Op}
use Rattle.ec_code.specs.declared.code.Variable.{Variable}
use Rattle.ec_code.specs.declared.code.Variable.TheVariants.{Named, Temporary}
use Rattle.ec_types.specs.declared.conform.static_type.StaticType.{StaticType}
use Rattle.ec_code.specs.Live.{reads, writes}
use Rattle.ec_emission.specs.Rows.{into_if, temporaries}

-- one of so many named variables, or a temporary below a number
abbrev pub Reach : ℕ → ℕ → Variable → Type 0
Reach count top (Named n) = n < count
Reach count top (Temporary d) = d < top

abbrev pub StepReaches : ℕ → ℕ → Op → Type 0
StepReaches count top o = Every (Reach count top) (reads o) × Where (Reach count top) (writes o)

pub record Within (count top most : ℕ) (code : List Op) : Type 0 where
  pub reach : Every (StepReaches count top) code
  pub short : length code ≤ most

module _ {count top : ℕ} where
  pub nothing : Within count top 0 []
  nothing = record { reach = tt; short = omega arith }

  pub more : (n m : ℕ) (code : List Op) → n ≤ m → Within count top n code → Within count top m code
  more n m code l w = let s : length code ≤ n = w.short in record { reach = w.reach; short = omega arith }

  pub join : (n m : ℕ) (code rest : List Op) → Within count top n code → Within count top m rest →
      Within count top (n + m) (code ++ rest)
  join n m code rest w v =
      let s : length code ≤ n = w.short in
      let t : length rest ≤ m = v.short in
      let both : length (code ++ rest) ≡ length code + length rest = length-append code rest in
      record { reach = every_joined (StepReaches count top) code rest w.reach v.reach; short = omega arith }

  pub step : (m : ℕ) (o : Op) (rest : List Op) → StepReaches count top o → Within count top m rest →
      Within count top (1 + m) (o ∷ rest)
  step m o rest r v = let t : length rest ≤ m = v.short in record { reach = (r, v.reach); short = omega arith }

  pub one : (o : Op) → StepReaches count top o → Within count top 1 (o ∷ [])
  one o r = record { reach = (r, tt); short = omega arith }

-- ---- what a stop takes and gives

pub temporaries_reach : (count top h n : ℕ) → h + n ≤ top → Every (Reach count top) (temporaries h n)
temporaries_reach count top h zero l = tt
temporaries_reach count top h (suc n) l = (omega arith, temporaries_reach count top (suc h) n (omega arith))

pub into_reaches : (count top : ℕ) (gives : Option StaticType) (h : ℕ) → h < top → Where (Reach count top) (into_if gives h)
into_reaches count top None h l = tt
into_reaches count top (Some of) h l = l
