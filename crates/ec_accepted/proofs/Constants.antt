-- The code of the program's own operation is well typed, where that of the constants' values is.
use Rattle.std.proofs.Common.{◌≡◌, ℕ, zero, suc, ◌+◌, true, List, [], ◌∷◌, ◌++◌, length, map, Some, None, refl, sym, ap}
use Rattle.std.proofs.Common.{◌∙◌}
use Rattle.std.proofs.Common.{subst, arith, append-nil}
use Rattle.std.specs.List.{AllByRecursion as Each}
use Rattle.std.specs.Prelude.{slice_get}
use Rattle.ec_check.specs.Numbers.{Number}
use Rattle.ec_check.specs.WellTyped.{Site, goes_in}
use Rattle.ec_code.specs.declared.code.Line.{Line}
use Rattle.ec_code.specs.declared.code.Op.{Op}
use Rattle.ec_code.specs.declared.code.Op.TheVariants as op
use Rattle.ec_code.specs.declared.code.Operation.{Operation as Lowered}
use Rattle.ec_code.specs.declared.code.Parts.{Parts}
use Rattle.ec_code.specs.declared.code.Variable.TheVariants.{Named}
use Rattle.ec_code.specs.Fine.{FineOperation, Has, live_at}
use Rattle.ec_core.specs.declared.Constant.{Constant}
use Rattle.ec_emission.specs.Expressions.{emitted}
use Rattle.ec_emission.specs.Literals.{literals_of}
use Rattle.ec_emission.specs.Statements.{constant_ops, entry}
use Rattle.ec_accepted.proofs.Exact.{each_leads_on, fine_code, held}
use Rattle.ec_accepted.proofs.Pieces.{Setting, From, Piece, around_of, go_on, in_turn, whole}
use Rattle.ec_accepted.proofs.Shown.{frame}
use Rattle.ec_accepted.proofs.Stopping.{rests_only}
use Rattle.ec_accepted.specs.Wide.{IsWide}
use Rattle.ec_accepted.proofs.Endings.{Keeps, ends, enters}
use Rattle.ec_accepted.proofs.Operations.{around_with, entry_fine, line_named}
use Rattle.ec_accepted.proofs.Reaching.{held_at, types}
use Rattle.ec_accepted.proofs.Stages.{IsSound, IsType, Judged, Stage, Value, type_of, value_for}
use Rattle.ec_emission.specs.Lowered.{HasLines, IsLowered, IsProgramOf, around, declared_of}
use Rattle.ec_meaning.specs.Programs.{Source}
use Rattle.ec_emission.specs.Rows.{bare_row, rest_row}
use Rattle.ec_world.specs.declared.class.ClassNo.TheVariants.{Program}
use Rattle.ec_world.specs.declared.stop.Stop.TheVariants as stop

-- The values of constants, from one on, in an operation with so many named variables.
abbrev constants_code : Source → List (List ℕ) → ℕ → ℕ → List Constant → List Op
constants_code s literals count n [] = op.Rest (bare_row stop.End) ∷ []
constants_code s literals count n (c ∷ cs) =
    (emitted s 0 count literals c.value).code 0 ++ op.Rest (rest_row (stop.Global n) 0 1 None) ∷ constants_code s
    literals count (suc n) cs

same_code : (s : Source) (literals : List (List ℕ)) (n : ℕ) (cs : List Constant) →
    constants_code s literals 0 n cs ≡ constant_ops s literals n cs
same_code s literals n [] = refl
same_code s literals n (c ∷ cs) =
    ap (λ z. (emitted s 0 0 literals c.value).code 0 ++ op.Rest (rest_row (stop.Global n) 0 1 None) ∷ z)
    (same_code s literals (suc n) cs)

nothing_behind : (w : Setting) (rest : List Line) → rest ≡ [] → Keeps w rest
nothing_behind w rest e x t has = absurd (subst (λ z. Has (live_at z 0) x t) e has)

-- a program with its own operation
pub record Beginning : Type 0 where
  pub source : Source
  pub parts : Parts
  pub lowered : Lowered

module _ (b : Beginning) (site : Site) (Right : Number → Type 0) where
  abbrev w : Setting
  w = record { declared = declared_of b.source; parts = b.parts; number = 0; operation = b.lowered }

  -- where the values of its constants stand
  abbrev pub stage_outside : Stage
  stage_outside = record { source = b.source; setting = w; site = site; captured = 0; leaves = []; Right = Right }

  -- a constant whose value conforms to its type
  pub record IsFineConstant (c : Constant) : Type 0 where
    pub judged : Judged stage_outside c.value
    pub of : IsType stage_outside c.of
    pub goes : goes_in site.table c.of (type_of stage_outside c.value) ≡ true

  module _ (sound : IsSound stage_outside) where
    constants_fine : (n : ℕ) (cs : List Constant) → Each IsFineConstant cs →
        ((i : ℕ) (c : Constant) → slice_get cs i ≡ Some c → slice_get b.parts.constants (n + i) ≡ Some c.of) →
        Piece w (constants_code b.source b.parts.literals (length (types w)) n cs) (frame w []) (λ rest. rest ≡ [])
    constants_fine n [] h at =
        ends w (bare_row stop.End) [] tt tt (λ rest. tt) (λ rest. tt) (λ rest e. nothing_behind w rest e)
    constants_fine n (c ∷ cs) h at =
        let v : Value stage_outside sound c.value c.of = value_for stage_outside sound c.value h.0.judged c.of h.0.of
        h.0.goes in
        let here : n + 0 ≡ n = omega arith in
        let is : slice_get b.parts.constants n ≡ Some c.of =
        ap (λ j. slice_get b.parts.constants j) (sym here) ∙ at 0 c refl in
        go_on (v.works.code [])
        (go_on
        (rests_only (length (types w)) [] (v.kind ∷ []) (stop.Global n) (c.of, is, ((v.fits, tt), refl)))
        (constants_fine (suc n) cs h.1
        (λ i d e.
        let further : suc n + i ≡ n + suc i = omega arith in
        ap (λ j. slice_get b.parts.constants j) further ∙ at (suc i) d e)))

    module _ (lowered : IsLowered b.source b.parts) (own : IsProgramOf b.source b.lowered) (all : Each IsFineConstant
        b.source.core.constants)
      where
        constant_at : (cs : List Constant) (i : ℕ) (c : Constant) → slice_get cs i ≡ Some c →
            slice_get (map (λ (x : Constant). x.of) cs) i ≡ Some c.of
        constant_at [] i c e = cc
        constant_at (x ∷ cs) zero c e = let same : x ≡ c = cc in ap (λ (y : Constant). Some y.of) same
        constant_at (x ∷ cs) (suc i) c e = constant_at cs i c e

        constant_there : (i : ℕ) (c : Constant) → slice_get b.source.core.constants i ≡ Some c →
            slice_get b.parts.constants (0 + i) ≡ Some c.of
        constant_there i c e =
            let at : 0 + i ≡ i = omega arith in
            ap (λ j. slice_get b.parts.constants j) at
            ∙ ap (λ cs. slice_get cs i) lowered.constants
            ∙ constant_at b.source.core.constants i c e

        no_variables : length (types w) ≡ 0
        no_variables = ap length own.variables

        abbrev own_code : List Op
        own_code = constants_code b.source b.parts.literals (length (types w)) 0 b.source.core.constants

        program_piece : Piece w (entry ∷ own_code) (held_at 0 []) (λ rest. rest ≡ [])
        program_piece =
            let constants = constants_fine 0 b.source.core.constants all constant_there in
            in_turn (enters w 0) constants
            (λ rest e opens. subst (λ k. From w (held_at k []) (constants.lines ++ rest)) no_variables opens)

        around_same : around b.source Program [] ≡ around_of w
        around_same =
            ap (λ z. around_with b.source z Program []) (sym lowered.constants)
            ∙ ap (λ z. around_with b.source b.parts.constants z []) (sym own.class)
            ∙ ap (λ z. around_with b.source b.parts.constants b.lowered.class z) (sym own.variables)

        code_same : constant_ops b.source (literals_of b.source.core) 0 b.source.core.constants ≡ own_code
        code_same =
            sym (same_code b.source (literals_of b.source.core) 0 b.source.core.constants)
            ∙ ap (λ z. constants_code b.source z 0 0 b.source.core.constants) (sym lowered.literals)
            ∙ ap (λ z. constants_code b.source b.parts.literals z 0 b.source.core.constants) (sym no_variables)

        has_lines : HasLines (around_of w) (entry ∷ own_code) b.lowered.code
        has_lines =
            subst (λ v. HasLines v (entry ∷ own_code) b.lowered.code) around_same
            (subst (λ z. HasLines (around b.source Program []) (entry ∷ z) b.lowered.code) code_same own.code)

        wide : IsWide w.declared w.parts w.number w.operation (around_of w) (entry ∷ own_code) program_piece.lines
        wide = whole 0 program_piece

        -- It is well typed.
        pub program_fine :
            FineOperation w.declared w.parts 0 b.lowered
        program_fine = record {
          code = fine_code wide has_lines;
          divisions = each_leads_on wide has_lines;
          named = λ place n t has.
              line_named w own_code program_piece.lines program_piece.named place n t (held wide has_lines place (Named
              n) t has);
          entry =
              entry_fine w own_code program_piece.lines wide has_lines 0 own.parameters
              (subst (λ z. From w (held_at 0 []) z) (append-nil program_piece.lines) (program_piece.opens [] refl));
          parameters =
              let none : length b.lowered.parameters ≡ 0 = ap length own.parameters in
              let none_too : length b.lowered.variables ≡ 0 = no_variables in
              omega arith;
        }
