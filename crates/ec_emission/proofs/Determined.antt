-- No two programs are lowered from one source: each list of live variables is determined by the code.
use Rattle.std.proofs.Common.{◌≡◌, ℕ, suc, List, [], ◌∷◌, length, Some, refl, sym, ap, ap₂, ◌∙◌, arith}
use Rattle.std.specs.Prelude.{slice_get}
use Rattle.ec_code.specs.declared.code.Line.{Line}
use Rattle.ec_code.specs.declared.code.Op.{Op}
use Rattle.ec_code.specs.declared.code.Operation.{Operation as Made}
use Rattle.ec_code.specs.declared.code.Parts.{Parts}
use Rattle.ec_core.specs.declared.Operation.{Operation}
use Rattle.ec_emission.specs.Lowered.{HasLines, IsOperationOf, IsProgramOf, AreOperationsOf, IsLowered}
use Rattle.ec_emission.specs.Types.{Around, lines_of}
use Rattle.ec_code.proofs.Determined.{same_lists}
use Rattle.ec_meaning.specs.Programs.{Source}
use Rattle.ec_world.specs.Agree.{AllTwo}

-- lists with the same elements at the same places
same_at_each : {A : Type 0} → (xs ys : List A) → length xs ≡ length ys →
    ((q : ℕ) (x y : A) → slice_get xs q ≡ Some x → slice_get ys q ≡ Some y → x ≡ y) → xs ≡ ys
same_at_each [] [] l h = refl
same_at_each [] (y ∷ ys) l h = absurd (omega arith)
same_at_each (x ∷ xs) [] l h = absurd (omega arith)
same_at_each (x ∷ xs) (y ∷ ys) l h =
    let rest : length xs ≡ length ys = omega arith in
    ap₂ (λ z zs. z ∷ zs) (h 0 x y refl refl) (same_at_each xs ys rest (λ q. h (suc q)))

pub same_lines : {w : Around} {ops : List Op} {c e : List Line} → HasLines w ops c → HasLines w ops e → c ≡ e
same_lines {w} {ops} a b =
    let lists : a.lists ≡ b.lists =
    same_at_each a.lists b.lists (a.count ∙ sym b.count) (λ q xs ys i j. same_lists (a.live q xs i) (b.live q ys j)) in
    a.lines ∙ ap (lines_of w [] ops) lists ∙ sym b.lines

same_made : (m n : Made) → m.class ≡ n.class → m.parameters ≡ n.parameters → m.result ≡ n.result →
    m.is_lowest ≡ n.is_lowest → m.variables ≡ n.variables → m.code ≡ n.code → m ≡ n
same_made m n c p r l v e =
    ap (λ z. record m { class = z }) c
    ∙ ap (λ z. record m { class = n.class; parameters = z }) p
    ∙ ap (λ z. record m { class = n.class; parameters = n.parameters; result = z }) r
    ∙ ap (λ z. record n { is_lowest = z; variables = m.variables; code = m.code }) l
    ∙ ap (λ z. record n { variables = z; code = m.code }) v
    ∙ ap (λ z. record n { code = z }) e

same_operation : {s : Source} {o : Operation} {m n : Made} → IsOperationOf s o m → IsOperationOf s o n → m ≡ n
same_operation {m = m} {n = n} a b =
    same_made m n (a.class ∙ sym b.class) (a.parameters ∙ sym b.parameters) (a.result ∙ sym b.result)
    (a.is_lowest ∙ sym b.is_lowest) (a.variables ∙ sym b.variables) (same_lines a.code b.code)

same_program : {s : Source} {m n : Made} → IsProgramOf s m → IsProgramOf s n → m ≡ n
same_program {m = m} {n = n} a b =
    same_made m n (a.class ∙ sym b.class) (a.parameters ∙ sym b.parameters) (a.result ∙ sym b.result)
    (a.is_lowest ∙ sym b.is_lowest) (a.variables ∙ sym b.variables) (same_lines a.code b.code)

same_operations : (s : Source) (os : List Operation) (ms ns : List Made) → AllTwo (IsOperationOf s) os ms →
    AllTwo (IsOperationOf s) os ns → ms ≡ ns
same_operations s [] [] [] a b = refl
same_operations s [] [] (n ∷ ns) a b = absurd b
same_operations s [] (m ∷ ms) ns a b = absurd a
same_operations s (o ∷ os) [] ns a b = absurd a
same_operations s (o ∷ os) (m ∷ ms) [] a b = absurd b
same_operations s (o ∷ os) (m ∷ ms) (n ∷ ns) a b =
    ap₂ (λ z zs. z ∷ zs) (same_operation a.0 b.0) (same_operations s os ms ns a.1 b.1)

all_same : (s : Source) (ms ns : List Made) → AreOperationsOf s ms → AreOperationsOf s ns → ms ≡ ns
all_same s [] ns a b = absurd a
all_same s (m ∷ ms) [] a b = absurd b
all_same s (m ∷ ms) (n ∷ ns) a b =
    ap₂ (λ z zs. z ∷ zs) (same_program a.0 b.0) (same_operations s s.core.operations ms ns a.1 b.1)

same_parts : (p q : Parts) → p.classes ≡ q.classes → p.constants ≡ q.constants → p.literals ≡ q.literals →
    p.operations ≡ q.operations → p ≡ q
same_parts p q c k l o =
    ap (λ z. record p { classes = z }) c
    ∙ ap (λ z. record p { classes = q.classes; constants = z }) k
    ∙ ap (λ z. record q { literals = z; operations = p.operations }) l
    ∙ ap (λ z. record q { operations = z }) o

pub determined : (s : Source) (p q : Parts) → IsLowered s p → IsLowered s q → p ≡ q
determined s p q a b =
    same_parts p q (a.classes ∙ sym b.classes) (a.constants ∙ sym b.constants) (a.literals ∙ sym b.literals)
    (all_same s p.operations q.operations a.operations b.operations)
