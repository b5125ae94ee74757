-- When a source has no listing.
use Rattle.std.specs.Prelude.{ℕ, List}
use Rattle.ec_listing.specs.declared.listing.Unlisted.{Unlisted}
use Rattle.ec_listing.specs.declared.listing.Unlisted.TheVariants.{Refused, Memory}
use Rattle.ec_tool.specs.Sources.{IsErrorOf, IsFaulty}
use Rattle.ec_tool.specs.declared.source.SourceError.{SourceError}

-- A text that is refused has the fault that is told, and at that place.
abbrev pub IsUnlistedOf : List ℕ → Unlisted → Type 0
IsUnlistedOf text (Refused refused) = IsFaulty text refused.refusal refused.at
IsUnlistedOf text Memory = Unit {0}

-- Where a text's check gives the one error, its listing gives the other.
abbrev pub GoesOn : SourceError → Unlisted → Type 0
GoesOn error unlisted = (text : List ℕ) → IsErrorOf text error → IsUnlistedOf text unlisted
