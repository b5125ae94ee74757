-- The end of an operation gives back what the operation gives.
use Rattle.std.proofs.Common.{◌≡◌, ℕ, zero, suc, ◌+◌, ◌<◌, ◌≤◌, Bool, true, false, List, [], ◌∷◌, length, Option, Some}
use Rattle.std.proofs.Common.{None, refl, sym, ap}
use Rattle.std.proofs.Common.{if◌then◌else◌, ◌∙◌, subst, arith}
use Rattle.std.specs.Prelude.{slice_get}
use Rattle.ec_code.specs.declared.code.Line.{Line}
use Rattle.ec_code.specs.declared.code.Op.TheVariants as op
use Rattle.ec_code.specs.declared.code.Operation.{Operation as Lowered}
use Rattle.ec_code.specs.declared.code.Parts.{Parts}
use Rattle.ec_code.specs.declared.code.Variable.TheVariants.{Named}
use Rattle.ec_code.specs.Fine.{GivesBack, Has}
use Rattle.ec_code.specs.Typing.{class_type}
use Rattle.ec_types.specs.Types.{named}
use Rattle.ec_types.specs.declared.conform.static_type.StaticType.{StaticType}
use Rattle.ec_types.specs.Known.{IsOfProgram, NoneUnknown}
use Rattle.ec_core.specs.declared.Kind.{Kind}
use Rattle.ec_core.specs.declared.Kind.TheVariants as kind
use Rattle.ec_core.specs.declared.Operation.{Operation}
use Rattle.ec_core_laws.specs.Headings.{HeadingFits, result_count}
use Rattle.ec_emission.specs.Statements.{leave_ops, leave_row, result_of}
use Rattle.ec_accepted.proofs.Taking.{fits_itself}
use Rattle.ec_accepted.proofs.Pieces.{Setting, FitsAs, Piece}
use Rattle.ec_accepted.proofs.Shown.{frame, live_in}
use Rattle.ec_accepted.proofs.Endings.{Keeps, ends}
use Rattle.ec_accepted.proofs.Reaching.{in_known, types}
use Rattle.ec_emission.specs.Lowered.{IsOperationOf, declared_of, is_process, result_type}
use Rattle.ec_meaning.specs.Programs.{Source}
use Rattle.ec_emission.specs.Rows.{bare_row, return_row}
use Rattle.ec_world.specs.declared.stop.Stop.TheVariants as stop

get_within : (ts : List StaticType) (n : ℕ) → n < length ts → (t : StaticType) × (slice_get ts n ≡ Some t)
get_within [] n l = absurd (omega arith)
get_within (t ∷ ts) zero l = (t, refl)
get_within (t ∷ ts) (suc n) l = let b : n < length ts = omega arith in get_within ts n b

-- an operation of a source, with its number and what it is lowered to
pub record Routine : Type 0 where
  pub source : Source
  pub parts : Parts
  pub number : ℕ
  pub operation : Operation
  pub lowered : Lowered

module _ (r : Routine) where
  abbrev pub setting_of : Setting
  setting_of = record { declared = declared_of r.source; parts = r.parts; number = r.number; operation = r.lowered }

  -- what is known of it
  pub record IsLoweredRight : Type 0 where
    pub lowers : IsOperationOf r.source r.operation r.lowered
    pub heading : HeadingFits r.operation
    pub class_is : class_type (declared_of r.source) r.lowered.class ≡ named r.operation.class
    pub class_there : r.operation.class < length r.source.table.types
    pub variables :
        (n : ℕ) (t : StaticType) → slice_get r.lowered.variables n ≡ Some t → IsOfProgram r.source.table.types t
    pub known : NoneUnknown r.source.table.types

module _ (r : Routine) (right : IsLoweredRight r) where
  abbrev w : Setting
  w = setting_of r

  abbrev o : Operation
  o = r.operation

  abbrev Back : Option StaticType → Option StaticType → Type 0
  Back given result = GivesBack w.declared w.parts w.number w.operation given result

  itself : (t : StaticType) → IsOfProgram r.source.table.types t → FitsAs w t t
  itself t h = fits_itself r.source.table.types right.known t h

  is_returning : (k : Kind) → o.kind ≡ k → is_process k ≡ false → r.lowered.is_lowest ≡ false
  is_returning k e f = right.lowers.is_lowest ∙ ap is_process e ∙ f

  module _ (B : List Line → Type 0) (keeps : (rest : List Line) → B rest → Keeps w rest) where
    result_given : o.kind ≡ kind.Named → o.has_result ≡ true →
        Piece w (op.Rest (return_row o.parameters) ∷ []) (frame w []) B
    result_given e f =
        let n : ℕ = o.parameters in
        let fits : n + result_count o.has_result ≤ length o.variables = right.heading in
        let one : result_count o.has_result ≡ 1 = ap result_count f in
        let many : length r.lowered.variables ≡ length o.variables = ap length right.lowers.variables in
        let below : n < length r.lowered.variables = omega arith in
        let g = get_within r.lowered.variables n below in
        let t : StaticType = g.0 in
        let has : Has (live_in w []) (Named n) t =
        in_known w (length (types w)) [] (Named n) t (record { number = n; is = refl; below = below; of = g.1 }) in
        let result : r.lowered.result ≡ Some t =
        right.lowers.result
        ∙ ap (λ k. result_type k o) e
        ∙ ap (λ b. if b then slice_get o.variables n else None) f
        ∙ ap (λ ts. slice_get ts n) (sym right.lowers.variables)
        ∙ g.1 in
        ends w (return_row n) (t ∷ []) (has, tt)
        (subst (λ z. Back (Some t) z) (sym result) (itself t (right.variables n t g.1)), is_returning kind.Named e refl)
        (λ rest. tt) (λ rest. tt) keeps

    nothing_given : o.kind ≡ kind.Named → o.has_result ≡ false →
        Piece w (op.Rest (bare_row (stop.Return false)) ∷ []) (frame w []) B
    nothing_given e f =
        let result : r.lowered.result ≡ None =
        right.lowers.result
        ∙ ap (λ k. result_type k o) e
        ∙ ap (λ b. if b then slice_get o.variables o.parameters else None) f in
        ends w (bare_row (stop.Return false)) [] tt
        (subst (λ z. Back None z) (sym result) tt, is_returning kind.Named e refl) (λ rest. tt) (λ rest. tt) keeps

    object_given : o.kind ≡ kind.Initial → Piece w (op.Rest (bare_row (stop.Return true)) ∷ []) (frame w []) B
    object_given e =
        let result : r.lowered.result ≡ Some (named o.class) = right.lowers.result ∙ ap (λ k. result_type k o) e in
        let own : FitsAs w (named o.class) (named o.class) = itself (named o.class) right.class_there in
        ends w (bare_row (stop.Return true)) [] tt (
          subst (λ z. Back (Some (class_type (declared_of r.source) r.lowered.class)) z) (sym result)
              (subst (λ t. FitsAs w t (named o.class)) (sym right.class_is) own),
          is_returning kind.Initial e refl,
        ) (λ rest. tt)
        (λ rest. tt) keeps

    named_end : o.kind ≡ kind.Named → (b : Bool) → o.has_result ≡ b →
        Piece w (op.Rest (result_of b o.parameters) ∷ []) (frame w []) B
    named_end e true f = result_given e f
    named_end e false f = nothing_given e f

    kind_end : (k : Kind) → o.kind ≡ k → Piece w (op.Rest (leave_row k o) ∷ []) (frame w []) B
    kind_end kind.Named e = named_end e o.has_result refl
    kind_end kind.Initial e = object_given e
    kind_end kind.Process e = ends w (bare_row stop.End) [] tt tt (λ rest. tt) (λ rest. tt) keeps

  -- its end, whatever is behind, where nothing else is live there
  pub end_fine : (B : List Line → Type 0) → ((rest : List Line) → B rest → Keeps w rest) →
      Piece w (leave_ops o) (frame w []) B
  end_fine B keeps = kind_end B keeps o.kind refl
