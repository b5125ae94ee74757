use Rattle.std.specs.Prelude.{ℕ, List, slice_set}
use Rattle.std.specs.Borrow.{Lends, MutBor, Fml, RattleType}
use Rattle.ec_base.specs.contracts.list.Seq.{the_row}

module _ (T : RattleType) where
  -- s ends with item i set to the last value behind r
  abbrev pub LendsItem : MutBor (List T.Denot) → ℕ → MutBor T.Denot → Fml
  LendsItem s i r = Lends (the_row T) T s r (slice_set s.now i)
