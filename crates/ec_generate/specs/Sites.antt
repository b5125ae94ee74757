-- An operation that is laid out: the homes of its variables, its sizes and its places.
use Rattle.std.specs.Prelude.{◌≡◌, ℕ, suc, ◌+◌, ◌<◌, ◌≤◌, List, [], ◌∷◌, length, map, Option, Some, None, slice_get}
use Rattle.ec_code.specs.declared.code.Op.{Op}
use Rattle.ec_code.specs.declared.code.Variable.{Variable}
use Rattle.ec_machine_code.specs.Stops.{stop_places}
use Rattle.ec_machine_code.specs.declared.code.OperationCode.{OperationCode}
use Rattle.ec_generate.specs.Puts.{CanPut, CanPutQuestion}
use Rattle.ec_generate.specs.declared.site.Site.{Site}
use Rattle.ec_machine_code.specs.Homes.{column}
use Rattle.ec_machine_code.specs.declared.homes.Home.{Home}
use Rattle.ec_machine_code.specs.Direct.{led_to}
use Rattle.ec_machine_code.specs.Layout as layout
use Rattle.ec_machine_code.specs.Layout.{home_or, ops_of}
use Rattle.ec_machine_code.specs.Lowering.{ending_of, steps_of}
use Rattle.ec_machine_code.specs.Speaks.{Vocabulary}
use Rattle.ec_machine_code.specs.declared.step.Ending.{Ending}
use Rattle.ec_machine_code.specs.declared.step.Ending.TheVariants.{Again, Branch, Jump, Stop}
use Rattle.ec_machine_code.specs.declared.step.Step.{Step}
use Rattle.ec_target.specs.Code.{pc_of}

-- no operation has more steps of three-address code
abbrev pub most_steps : ℕ
most_steps = 110000

-- ---- what stands at a site

abbrev pub home_there : Site → Variable → Home
home_there site x = home_or (slice_get site.homes.now (column site.named x))

abbrev pub ops_there : Site → List Op
ops_there site = ops_of site.code.now

abbrev pub size_there : Vocabulary → Site → ℕ
size_there V site = layout.size_of V (home_there site) (ops_there site) site.order.now

-- the word at which step q begins, where the code begins at word `start`
abbrev pub place_there : Vocabulary → Site → ℕ → ℕ → ℕ
place_there V site start q = layout.place V (home_there site) (ops_there site) site.order.now start q

-- what is said of the code, which begins at word `start`
abbrev pub code_there : Vocabulary → Site → ℕ → OperationCode
code_there V site start = record {
  words = size_there V site;
  stops = map (λ q. pc_of (place_there V site start q)) (stop_places site.code.now);
}

-- the site has the places to which steps lead
abbrev pub IsLed : Site → Type 0
IsLed site = site.led.now ≡ led_to site.code.now

-- ---- one step

abbrev pub listed : Option Step → List Step
listed None = []
listed (Some m) = m ∷ []

-- each of these steps can be written
abbrev pub CanPutAll : ℕ → List Step → Type 0
CanPutAll homes [] = Unit {0}
CanPutAll homes (m ∷ ms) = CanPut homes m × CanPutAll homes ms

-- step q leads to places of the code, which has so many
abbrev pub CanPutEnding : ℕ → ℕ → ℕ → Option Ending → Type 0
CanPutEnding homes count q None = Unit {0}
CanPutEnding homes count q (Some (Branch question over)) = CanPutQuestion homes question × (suc (q + over) < count)
CanPutEnding homes count q (Some (Jump over)) = suc (q + over) < count
CanPutEnding homes count q (Some (Again back)) = back ≤ q
CanPutEnding homes count q (Some Stop) = Unit {0}

-- ---- the code of a site

-- Each step can be written, and they are few.
pub record IsMakeable (homes : ℕ) (site : Site) : Type 0 where
  pub steps : (q : ℕ) (o : Op) → slice_get (ops_there site) q ≡ Some o → CanPutAll homes (steps_of (home_there site) o)
  pub endings :
      (q : ℕ) (o : Op) → slice_get (ops_there site) q ≡ Some o →
      CanPutEnding homes (length (ops_there site)) q (ending_of (home_there site) o)
  pub few : length (ops_there site) ≤ most_steps

-- how many words stand before each step, and in all
pub record ArePlaces (V : Vocabulary) (site : Site) (places : List ℕ) : Type 0 where
  pub count : length places ≡ suc (length (ops_there site))
  pub each : (q : ℕ) → q ≤ length (ops_there site) → slice_get places q ≡ Some (layout.before V (home_there site) (ops_there site) site.order.now q)
