-- The code of each operation that fits, and of the program's own, has clear stops.
use Rattle.std.proofs.Common.{◌≡◌, ℕ, suc, Bool, true, false, List, [], ◌∷◌, ◌++◌, drop, None, refl, sym, true≢false}
use Rattle.std.proofs.lemmas.Bool.{and_parts}
use Rattle.ec_code.specs.declared.code.Op.{Op}
use Rattle.ec_code.specs.declared.code.Op.TheVariants as op
use Rattle.ec_types.specs.declared.conform.static_type.StaticType.{StaticType}
use Rattle.ec_core.specs.declared.Constant.{Constant}
use Rattle.ec_core.specs.declared.Kind.{Kind}
use Rattle.ec_core.specs.declared.Kind.TheVariants as kind
use Rattle.ec_core.specs.declared.Operation.{Operation}
use Rattle.ec_emission.specs.Expressions.{emitted, fits_here}
use Rattle.ec_core.specs.Literals.{Texts}
use Rattle.ec_emission.specs.Statements.{body_done, constant_ops, default_ops, defaults_from, entry, given, leave_ops, leave_row}
use Rattle.ec_emission.specs.Statements.{operation_fits, operation_ops, program_fits, program_ops, result_of}
use Rattle.ec_runnable.proofs.Expressions.{is_clean}
use Rattle.ec_runnable.proofs.Exits.{Exits}
use Rattle.ec_runnable.proofs.Statements.{block_fits, given_leads}
use Rattle.ec_runnable.proofs.Stops.{above, bare_rests, rests}
use Rattle.ec_runnable.proofs.Uses.{AreClear, Leads, join, lead, less, nothing, uses}
use Rattle.ec_runnable.proofs.Values.{value}
use Rattle.ec_meaning.specs.Programs.{Source}
use Rattle.ec_meaning.specs.Types.{kind_of}
use Rattle.ec_emission.specs.Rows.{rest_row, return_row}
use Rattle.ec_world.specs.Values.{default_of}
use Rattle.ec_world.specs.declared.stop.Stop.TheVariants as stop

-- from where no temporary is in use to there
whole_clear : {ops : List Op} → Leads ops [] [] → AreClear (uses ops []) 0 ops []
whole_clear {ops} k = k.stands.clear (uses ops []) 0 [] refl tt

-- ---- operations

-- no code goes on where a variable is given back
returns : (n : ℕ) → Leads (op.Rest (return_row n) ∷ []) [] []
returns n = record {
  stands = record {
    held = λ uss b. b;
    clear = λ all place uss e b. (record { in_order = ((λ y i. absurd i), tt); above = λ s. absurd (true≢false (sym s)) }, tt);
  };
}

result_leads : (has : Bool) (n : ℕ) → Leads (op.Rest (result_of has n) ∷ []) [] []
result_leads true n = returns n
result_leads false n = bare_rests [] (stop.Return false)

leaves_lead : (o : Operation) (k : Kind) → Leads (op.Rest (leave_row k o) ∷ []) [] []
leaves_lead o kind.Named = result_leads o.has_result o.parameters
leaves_lead o kind.Initial = bare_rests [] (stop.Return true)
leaves_lead o kind.Process = bare_rests [] stop.End

defaults_lead : (s : Source) (captured : ℕ) (types : List StaticType) (literals : Texts) (leaves : List Op) → Leads leaves [] [] →
    (n : ℕ) (ts : List StaticType) → Leads (defaults_from s captured types literals leaves n ts) [] []
defaults_lead s captured types literals leaves ends n [] = nothing
defaults_lead s captured types literals leaves ends n (t ∷ ts) =
    lead (given s captured types literals leaves n (default_of (kind_of t))) _
    (given_leads s captured types literals leaves ends n (default_of (kind_of t)))
    (defaults_lead s captured types literals leaves ends (suc n) ts)

pub operation_clear : (s : Source) (captured : ℕ) (literals : Texts) (o : Operation) → operation_fits s captured literals o ≡ true →
    AreClear (uses (operation_ops s captured literals o) []) 0 (operation_ops s captured literals o) []
operation_clear s captured literals o e =
    let leaves : Leads (leave_ops o) [] [] = leaves_lead o o.kind in
    let body : List Op = (body_done s captured literals o).code 0 in
    let does : Exits 0 body =
    (block_fits s captured o.variables literals (leave_ops o) leaves o.block).code
    (and_parts (body_done s captured literals o).fits _ e).0 0 in
    let rest : Leads (body ++ leave_ops o) [] [] =
    record { stands = join body (leave_ops o) does.stands (λ uss b h. record { here = h; there = h }) leaves.stands } in
    whole_clear
    (lead (entry ∷ []) _ (bare_rests [] stop.Entry)
    (lead (default_ops s captured literals o) _
    (defaults_lead s captured o.variables literals (leave_ops o) leaves o.parameters (drop o.parameters o.variables)) rest))

-- ---- the program's own operation

constants_lead : (s : Source) (literals : Texts) (n : ℕ) (cs : List Constant) → program_fits s literals cs ≡ true →
    Leads (constant_ops s literals n cs) [] []
constants_lead s literals n [] e = bare_rests [] stop.End
constants_lead s literals n (c ∷ cs) e =
    let p = and_parts (fits_here (emitted s 0 0 literals c.value)) (program_fits s literals cs) e in
    lead ((emitted s 0 0 literals c.value).code 0) _ (value (emitted s 0 0 literals c.value) (is_clean s 0 0 literals c.value) p.0 [])
    (lead (op.Rest (rest_row (stop.Global n) 0 1 None) ∷ []) _
    (less _ (above [] 1) [] (λ d h. h) (λ d h. absurd h) (rests [] (stop.Global n) 1 None)) (constants_lead s literals (suc n) cs p.1))

pub program_clear : (s : Source) (literals : Texts) → program_fits s literals s.core.constants ≡ true →
    AreClear (uses (program_ops s literals) []) 0 (program_ops s literals) []
program_clear s literals e =
    whole_clear (lead (entry ∷ []) _ (bare_rests [] stop.Entry) (constants_lead s literals 0 s.core.constants e))
