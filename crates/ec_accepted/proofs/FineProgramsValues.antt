-- The code of a stop that takes the values of expressions, and gives none.
use Rattle.std.proofs.Common.{List, [], ◌∷◌, ◌++◌, length, None}
use Rattle.ec_code.specs.declared.code.Op.TheVariants as op
use Rattle.ec_code.specs.Fine.{FineStop}
use Rattle.ec_types.specs.declared.conform.static_type.StaticType.{StaticType}
use Rattle.ec_emission.specs.Expressions.{Emitted, all_code}
use Rattle.ec_accepted.proofs.FinenessForms.{AllWork, all_lead}
use Rattle.ec_accepted.proofs.Pieces.{Setting, Piece, go_on}
use Rattle.ec_accepted.proofs.Shown.{frame}
use Rattle.ec_accepted.proofs.Stopping.{rests_only}
use Rattle.ec_accepted.proofs.Reaching.{Begins}
use Rattle.ec_emission.specs.Rows.{rest_row}
use Rattle.ec_world.specs.declared.stop.Stop.{Stop}

pub stops_with :
    (w : Setting) (xs : List Emitted) (ts : List StaticType) → AllWork w xs ts → (action : Stop) →
    FineStop w.declared w.parts w.number w.operation action ts None →
    Piece w (all_code xs 0 ++ op.Rest (rest_row action 0 (length ts) None) ∷ []) (frame w []) (Begins w)
stops_with w xs ts h action fine = go_on (all_lead xs ts h []) (rests_only (length w.operation.variables) [] ts action fine)
