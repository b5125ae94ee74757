-- No temporary is in use between statements: code that leads from there to there, also where it exits from a loop.
use Rattle.std.proofs.Common.{◌≡◌, ℕ, zero, suc, ◌+◌, ◌-◌, not, Bool, true, List, [], ◌∷◌, ◌++◌, drop, length}
use Rattle.std.proofs.Common.{refl, sym, ap, ◌∙◌, subst, arith, length-append}
use Rattle.ec_code.specs.declared.code.Op.{Op}
use Rattle.ec_code.specs.declared.code.Op.TheVariants as op
use Rattle.ec_code.specs.declared.code.Test.{Test}
use Rattle.ec_emission.specs.Expressions.{Condition, Emitted, fits_here}
use Rattle.ec_emission.specs.Statements.{Choice, Done, arm_code}
use Rattle.ec_emission.specs.Statements.{jump_over, loop_code}
use Rattle.ec_emission.specs.Statements.{where_it_holds}
use Rattle.ec_runnable.proofs.Uses.{AreHeld, Code, From, IsClearStep, IsHeld, Leads, clear_joined, each_joined, each_weaker, join}
use Rattle.ec_runnable.proofs.Uses.{next, none_held}
use Rattle.ec_runnable.proofs.Uses.{nothing, past_code, step, temporaries_in, uses, uses_at, uses_dropped, uses_joined, uses_of}
use Rattle.ec_runnable.proofs.Values.{Asks, IsClean}
use Rattle.ec_code.specs.Live.{read_by, reads}

-- ---- code that may exit

-- No temporary is in use behind it, nor so many steps behind it.
pub record Ends (left : ℕ) (uss : List (List ℕ)) : Type 0 where
  pub here : AreHeld [] (uses_at uss 0)
  pub there : AreHeld [] (uses_at uss left)

-- Where it ends so, none is in use before it.
pub record Exits (left : ℕ) (ops : List Op) : Type 0 where
  pub stands : Code ops (Ends left) []

-- Where a statement or a block fits, it is such code.
pub record Fits (d : Done) : Type 0 where
  pub code : d.fits ≡ true → (left : ℕ) → Exits left (d.code left)

-- Where an arm fits, its condition begins where no temporary is in use, and its block is such code.
pub record FitsArm (a : Choice) : Type 0 where
  pub condition : a.fits ≡ true → Asks a.condition []
  pub block : a.fits ≡ true → (left : ℕ) → Exits left (a.block.code left)

-- code that doesn't exit
pub straight : {ops : List Op} (left : ℕ) → Leads ops [] [] → Exits left ops
straight left k = record {
  stands = record {
    held = λ uss b. k.stands.held uss b.here;
    clear = λ all place uss e b. k.stands.clear all place uss e b.here;
  };
}

-- behind so many steps of code
past : (ops : List Op) (uss : List (List ℕ)) (n : ℕ) → AreHeld [] (uses_at uss n) → AreHeld [] (uses_at (uses ops uss) (length ops + n))
past ops uss n h = subst (AreHeld []) (sym (past_code ops uss n)) h

-- right behind code
right_past : (ops : List Op) (uss : List (List ℕ)) → AreHeld [] (uses_at uss 0) → AreHeld [] (uses_at (uses ops uss) (length ops))
right_past ops uss h =
    let e : length ops + 0 ≡ length ops = omega arith in subst (λ n. AreHeld [] (uses_at (uses ops uss) n)) e (past ops uss 0 h)

-- code that exits behind code that doesn't
leads_out : {hs : List Bool} (left : ℕ) (xs ys : List Op) → Leads xs [] hs → Code ys (Ends left) hs → Exits left (xs ++ ys)
leads_out left xs ys x y = record { stands = join xs ys x.stands (λ uss b h. h) y }

-- and more code that may exit
pub goes_on : (left : ℕ) (xs ys : List Op) → Exits (length ys + left) xs → Exits left ys → Exits left (xs ++ ys)
goes_on left xs ys x y =
    record { stands = join xs ys x.stands (λ uss b h. record { here = h; there = past ys uss left b.there }) y.stands }

-- ---- tests

-- a branch over code, from what its test reads
pub tests : {hs : List Bool} (left over : ℕ) (t : Test) (wanted : Bool) (os : List Op) → AreHeld hs (temporaries_in (read_by t)) →
    Exits left os →
    ((uss : List (List ℕ)) → Ends left uss → AreHeld [] (uses_at (uses os uss) over)) →
    Code (op.Branch t wanted over ∷ os) (Ends left) hs
tests {hs} left over t wanted os read k there =
    step (op.Branch t wanted over) os k.stands
    (λ uss b h.
    each_joined (IsHeld hs) (temporaries_in (read_by t)) _ read
    (each_weaker (IsHeld []) (IsHeld hs) (λ d n. absurd n) _ (each_joined (IsHeld []) _ _ h (there uss b))))
    (λ all place uss e b h. tt)

-- the test of a condition behind its code
pub conditional_exits : (x : Emitted) → IsClean x → fits_here x ≡ true → (left : ℕ) (act : List Op) →
    ((hs : List Bool) → AreHeld hs (temporaries_in (read_by (x.condition 0).asks)) → Code act (Ends left) hs) →
    Exits left ((x.condition 0).code ++ act)
conditional_exits x k e left act then =
    let a : Asks (x.condition 0) [] = k.condition e [] in
    leads_out left (x.condition 0).code act a.code (then a.to a.held)

-- an exit where the condition holds
pub exits_where : (left : ℕ) (c : Condition) (hs : List Bool) → AreHeld hs (temporaries_in (read_by c.asks)) →
    Code (where_it_holds c left ∷ []) (Ends left) hs
exits_where left c hs read = tests left left c.asks c.wanted [] read (straight left nothing) (λ uss b. b.there)

-- ---- arms

-- Behind the block of an arm the rest is passed over.
jumps : (left : ℕ) (n : ℕ) (rest : List Op) → length rest ≡ n → Exits left rest → Exits left (jump_over n ++ rest)
jumps left zero rest e k = k
jumps left (suc n) rest e k = record {
  stands = step (op.Jump (suc n)) rest k.stands
      (λ uss b h. subst (λ j. AreHeld [] (uses_at (uses rest uss) j)) e (right_past rest uss b.here))
      (λ all place uss e b h. tt);
}

pub arm_exits : (a : Choice) → FitsArm a → a.fits ≡ true → (rest : List Op) (left : ℕ) → Exits left rest → Exits left (arm_code a rest left)
arm_exits a k e rest left r =
    let over : List Op = jump_over (length rest) in
    let block : List Op = a.block.code (length over + (length rest + left)) in
    let behind : Exits left (over ++ rest) = jumps left (length rest) rest refl r in
    let both : length (over ++ rest) ≡ length over + length rest = length-append over rest in
    let long : length over + (length rest + left) ≡ length (over ++ rest) + left = omega arith in
    let c : Asks a.condition [] = k.condition e in
    leads_out left a.condition.code _ c.code
    (tests left (length block + length over) a.condition.asks (not a.condition.wanted) (block ++ (over ++ rest)) c.held
    (goes_on left block (over ++ rest)
    (subst (λ n. Exits n block) long (k.block e (length over + (length rest + left)))) behind)
    (λ uss b.
    subst (λ r. AreHeld [] (uses_at r (length block + length over))) (sym (uses_joined block (over ++ rest) uss))
    (past block (uses (over ++ rest) uss) (length over)
    (subst (λ r. AreHeld [] (uses_at r (length over))) (sym (uses_joined over rest uss))
    (right_past over (uses rest uss) (r.stands.held uss b))))))

-- ---- loops

-- The step that leads back leads to the loop top, where no temporary is in use.
pub loop_exits : (body : Done) → ((left : ℕ) → Exits left (body.code left)) → (left : ℕ) → Exits left (loop_code body)
loop_exits body k left =
    let inner : List Op = body.code 1 in
    let again : Op = op.Again (suc (length inner)) in
    let ends : (uss : List (List ℕ)) → Ends left uss → Ends 1 (uses (again ∷ []) uss) =
    λ uss b. record { here = tt; there = b.here } in
    let held : (uss : List (List ℕ)) → Ends left uss → From [] (uses (inner ++ again ∷ []) uss) =
    λ uss b.
    subst (From []) (sym (uses_joined inner (again ∷ []) uss)) ((k 1).stands.held (uses (again ∷ []) uss) (ends uss b)) in
    record {
      stands = record {
        held = held;
        clear = λ all place uss e b.
            let from : drop (suc place) all ≡ uses inner (uses (again ∷ []) uss) =
            next all place _ _ e ∙ uses_joined inner (again ∷ []) uss in
            let back : (suc place + length inner) - suc (length inner) ≡ place + 0 = omega arith in
            let top : uses_at all ((suc place + length inner) - suc (length inner)) ≡ [] =
            ap (uses_at all) back ∙ sym (uses_dropped all place 0) ∙ ap (λ r. uses_at r 0) e ∙ none_held _ (held uss b) in (
              record { in_order = tt; above = λ s. tt },
              clear_joined all (suc place) inner (again ∷ []) uss
                  ((k 1).stands.clear all (suc place) (uses (again ∷ []) uss) from (ends uss b)) (top, tt),
            );
      };
    }

-- ---- single steps

-- a step that writes no temporary
pub writes_none : (ks : List Bool) (o : Op) → AreHeld ks (temporaries_in (reads o)) →
    ((uss : List (List ℕ)) → uses_of o uss ≡ temporaries_in (reads o) ++ uses_at uss 0) →
    ((all : List (List ℕ)) (place : ℕ) (uss : List (List ℕ)) → IsClearStep all place o uss) → Leads (o ∷ []) ks []
writes_none ks o read is clear = record {
  stands = record {
    held = λ uss b.
        subst (AreHeld ks) (sym (is uss))
        (each_joined (IsHeld ks) (temporaries_in (reads o)) _ read (each_weaker (IsHeld []) (IsHeld ks) (λ d n. absurd n) _ b));
    clear = λ all place uss e b. (clear all place uss, tt);
  };
}

-- what is held goes
pub forgets : (ks : List Bool) → Leads [] ks []
forgets ks = record {
  stands = record {
    held = λ uss b. each_weaker (IsHeld []) (IsHeld ks) (λ d n. absurd n) (uses_at uss 0) b;
    clear = λ all place uss e b. tt;
  };
}
