-- The code of an operation is well typed, where that of its block is.
use Rattle.std.proofs.Common.{◌≡◌, ℕ, zero, suc, ◌+◌, ◌-◌, ◌<◌, ◌≤◌, inl, inr, ⊎_elim, List, [], ◌∷◌, ◌++◌, drop, take}
use Rattle.std.proofs.Common.{length, Some, None}
use Rattle.std.proofs.Common.{refl, sym, ap, ◌∙◌, subst, arith, append-nil, length-drop, length-take-le}
use Rattle.std.specs.Prelude.{slice_get}
use Rattle.ec_code.specs.declared.code.Line.{Line}
use Rattle.ec_code.specs.declared.code.Op.{Op}
use Rattle.ec_code.specs.declared.code.Variable.{Variable}
use Rattle.ec_code.specs.declared.code.Variable.TheVariants.{Named}
use Rattle.ec_check.specs.Numbers.{Number}
use Rattle.ec_check.specs.WellTyped.{Site}
use Rattle.ec_code.specs.Fine.{FineEntry, FineOperation, FineRow, Has, IsIn, live_at}
use Rattle.ec_types.specs.declared.conform.static_type.StaticType.{StaticType}
use Rattle.ec_core.specs.declared.Operation.{Operation}
use Rattle.ec_core_laws.specs.Headings.{result_count}
use Rattle.ec_emission.specs.Literals.{literals_of}
use Rattle.ec_emission.specs.Statements.{block_of, defaults_from, entry, leave_ops}
use Rattle.ec_accepted.proofs.Exact.{each_leads_on, fine_code, held}
use Rattle.ec_accepted.proofs.Pieces.{Setting, From, Piece, around_of, go_on, in_turn, whole}
use Rattle.ec_accepted.specs.Wide.{IsWide, WideCode, WideOp, ops_of}
use Rattle.ec_accepted.proofs.Bodies.{BlockFacts, block_fine}
use Rattle.ec_accepted.proofs.Endings.{Keeps, defaults_fine, enters}
use Rattle.ec_accepted.proofs.Leaving.{IsLoweredRight, Routine, end_fine, setting_of}
use Rattle.ec_accepted.proofs.Reaching.{Known, held_at, known_in, opened, taking, types}
use Rattle.ec_accepted.proofs.Stages.{IsSound, Stage}
use Rattle.ec_emission.specs.Lowered.{HasLines, IsLowered, around, class_of_operation, declared_of}
use Rattle.ec_emission.specs.Types.{Around, lines_of, with_types}
use Rattle.ec_meaning.specs.Programs.{Source}
use Rattle.ec_meaning.specs.Steps.{captured_by}
use Rattle.ec_emission.specs.Rows.{bare_row}
use Rattle.ec_world.specs.declared.class.ClassNo.{ClassNo}
use Rattle.ec_world.specs.declared.stop.Stop.TheVariants as stop

-- ---- what is live is in a line

live_line : (lines : List Line) (q : ℕ) (x : Variable) (t : StaticType) → Has (live_at lines q) x t →
    (l : Line) × IsIn l lines × Has l.live x t
live_line [] q x t h = absurd h
live_line (l ∷ ls) zero x t h = (l, inl refl, h)
live_line (l ∷ ls) (suc q) x t h = let r = live_line ls q x t h in (r.0, inr r.1, r.2)

-- ---- code that begins with the entry stop

module _ (w : Setting) (more : List Op) where
  -- a named variable that is live in lines of the operation's own variables is one of these
  pub line_named : (lines : List Line) →
      ((l : Line) → IsIn l lines → (n : ℕ) (t : StaticType) → Has l.live (Named n) t → n < length (types w)) → (q n : ℕ)
      (t : StaticType) → Has (live_at lines q) (Named n) t → n < length (types w)
  line_named lines own q n t h = let r = live_line lines q (Named n) t h in own r.0 r.1 n t r.2

  no_type : {A : Type 0} → (s : StaticType) → None ≡ Some s → A
  no_type s e = cc

  -- what is live behind the entry stop is live there
  behind_entry : (lines ls : List Line) → ops_of ls ≡ entry ∷ more →
      WideCode w.declared w.parts w.number w.operation lines 0 ls → (x : Variable) (t : StaticType) →
      Has (live_at ls 1) x t →
      Has (live_at ls 0) x t
  behind_entry lines [] e h x t k = absurd k
  behind_entry lines (l ∷ ls) e h x t k =
      let first : l.op ≡ entry = cc in
      let row : FineRow w.declared w.parts w.number w.operation ls l.live (bare_row stop.Entry) =
      subst (λ z. WideOp w.declared w.parts w.number w.operation lines 0 ls l.live z) first h.0 in
      ⊎_elim (λ given. no_type given.0 given.1) (λ same. same.1) (row.behind.1.1 x t k)

  first_line : (v : Around) (lists : List (List Variable)) → length lists ≡ length (entry ∷ more) →
      (line : Line) × (slice_get (lines_of v [] (entry ∷ more) lists) 0 ≡ Some line) × (line.op ≡ entry)
  first_line v [] l = absurd (omega arith)
  first_line v (xs ∷ lists) l =
      (record { op = entry; live = with_types v [] xs }, refl, refl)

  -- The entry of an operation whose parameters are known there.
  pub entry_fine : (lines : List Line) → IsWide w.declared w.parts w.number w.operation (around_of w) (entry ∷ more) lines →
      HasLines (around_of w) (entry ∷ more) w.operation.code → (known : ℕ) → w.operation.parameters ≡ take known (types w) →
      From w (held_at known []) lines → FineEntry w.declared w.parts w.operation
  entry_fine lines wide has known are begins =
      let first = first_line (around_of w) has.lists has.count in
      record {
        line = first.0;
        is = ap (λ z. slice_get z 0) has.lines ∙ first.1;
        row = bare_row stop.Entry;
        rests = first.2;
        stop = refl;
        on_itself = refl;
        operands = refl;
        into = refl;
        live = λ x t k.
            let wide_has : Has (live_at lines 1) x t = held wide has 1 x t k in
            let there : Has (live_at lines 0) x t = behind_entry lines lines wide.are wide.typed x t wide_has in
            let v : Known w known x t = known_in w known x t (opened w (held_at known []) lines begins x t there) in
            (v.number, v.is, ap (λ z. slice_get z v.number) are ∙ taking known (types w) v.number t v.below v.of);
      }

-- ---- an operation

abbrev pub around_with : Source → List StaticType → ClassNo → List StaticType → Around
around_with s constants class variables =
    record { declared = declared_of s; constants = constants; class = class; variables = variables }

module _ (r : Routine) (right : IsLoweredRight r) (site : Site) (Right : Number → Type 0) where
  abbrev w : Setting
  w = setting_of r

  abbrev o : Operation
  o = r.operation

  -- how many names the object captures
  abbrev captured : ℕ
  captured = length site.captured

  -- where its statements stand
  abbrev pub stage_of : Stage
  stage_of = record {
    source = r.source;
    setting = w;
    site = site;
    captured = captured;
    leaves = leave_ops o;
    Right = Right;
  }

  -- its code behind the entry stop, by the types of its variables and the program's literals
  abbrev code_with : ℕ → List StaticType → List (List ℕ) → List Op
  code_with k ts literals =
      defaults_from r.source k ts literals (leave_ops o) o.parameters (drop o.parameters ts)
      ++ ((block_of r.source k ts literals (leave_ops o) o.block).code 0 ++ leave_ops o)

  abbrev own_code : List Op
  own_code = code_with captured (types w) r.parts.literals

  fits : o.parameters ≤ length (types w)
  fits =
      let heading : o.parameters + result_count o.has_result ≤ length o.variables = right.heading in
      let many : length (types w) ≡ length o.variables = ap length right.lowers.variables in
      omega arith

  module _ (sound : IsSound stage_of) (facts : BlockFacts stage_of sound o.block) where
    nothing_behind : (rest : List Line) → rest ≡ [] → Keeps w rest
    nothing_behind rest e x t has = absurd (subst (λ z. Has (live_at z 0) x t) e has)

    operation_piece : Piece w (entry ∷ own_code) (held_at o.parameters []) (λ rest. rest ≡ [])
    operation_piece =
        let others : List StaticType = drop o.parameters (types w) in
        let below : o.parameters ≤ length (types w) = fits in
        let count : length others ≡ length (types w) - o.parameters = length-drop o.parameters (types w) in
        let all : o.parameters + length others ≡ length (types w) = omega arith in
        go_on (enters w o.parameters)
        (go_on (defaults_fine stage_of sound others o.parameters refl all)
        (in_turn (block_fine stage_of sound o.block facts 0) (end_fine r right (λ rest. rest ≡ []) nothing_behind)
        (λ rest e opens. (opens, opens))))

    module _ (lowered : IsLowered r.source r.parts)
        (counted : captured_by r.source (class_of_operation r.source o) ≡ captured) where
      around_same : around r.source (class_of_operation r.source o) o.variables ≡ around_of w
      around_same =
          ap (λ z. around_with r.source z (class_of_operation r.source o) o.variables) (sym lowered.constants)
          ∙ ap (λ z. around_with r.source r.parts.constants z o.variables) (sym right.lowers.class)
          ∙ ap (λ z. around_with r.source r.parts.constants r.lowered.class z) (sym right.lowers.variables)

      code_same :
          code_with (captured_by r.source (class_of_operation r.source o)) o.variables (literals_of r.source.core) ≡
          own_code
      code_same =
          ap (λ z. code_with z o.variables (literals_of r.source.core)) counted
          ∙ ap (λ z. code_with captured z (literals_of r.source.core)) (sym right.lowers.variables)
          ∙ ap (λ z. code_with captured (types w) z) (sym lowered.literals)

      has_lines : HasLines (around_of w) (entry ∷ own_code) r.lowered.code
      has_lines =
          subst (λ v. HasLines v (entry ∷ own_code) r.lowered.code) around_same
          (subst
          (λ z. HasLines (around r.source (class_of_operation r.source o) o.variables) (entry ∷ z) r.lowered.code) code_same
          right.lowers.code)

      wide : IsWide w.declared w.parts w.number w.operation (around_of w) (entry ∷ own_code) operation_piece.lines
      wide = whole o.parameters operation_piece

      parameters_are : r.lowered.parameters ≡ take o.parameters (types w)
      parameters_are = right.lowers.parameters ∙ ap (λ z. take o.parameters z) (sym right.lowers.variables)

      -- It is well typed.
      pub operation_fine :
          FineOperation w.declared w.parts w.number r.lowered
      operation_fine = record {
        code = fine_code wide has_lines;
        divisions = each_leads_on wide has_lines;
        named = λ place n t has.
            line_named w own_code operation_piece.lines operation_piece.named place n t (held wide has_lines place (Named
            n) t has);
        entry =
            entry_fine w own_code operation_piece.lines wide has_lines o.parameters parameters_are
            (subst (λ z. From w (held_at o.parameters []) z) (append-nil operation_piece.lines) (operation_piece.opens []
            refl));
        parameters =
            let below : o.parameters ≤ length (types w) = fits in
            let count : length r.lowered.parameters ≡ o.parameters =
            ap length parameters_are ∙ length-take-le o.parameters (types w) below in
            omega arith;
      }
