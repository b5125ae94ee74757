-- The end of a block, of a loop and of the arms of an `if`.
use Rattle.std.proofs.Common.{◌≡◌, ℕ, ◌+◌, ◌<◌, Bool, List, [], ◌∷◌, ◌++◌, drop, get_or, take, length, map, Option, Result, Ok, Err}
use Rattle.std.proofs.Common.{refl, sym, ap, subst, ◌∙◌, append_assoc, arith}
use Rattle.std.specs.Prelude.{OnOk}
use Rattle.std.proofs.lemmas.List.{append-nil, length-append}
use Rattle.std.proofs.Math.Seq.{take-append_seam}
use Rattle.ec_ast.specs.declared.Arm.{Arm, out-Arm}
use Rattle.ec_ast.specs.declared.Block.{Block, out-Block}
use Rattle.ec_ast.specs.declared.Statement.{Statement}
use Rattle.ec_check.proofs.Along.{AlongGone, drop_more, gone_end, gone_next}
use Rattle.ec_check.proofs.Equations.{arm_step_of}
use Rattle.ec_check.proofs.Fields.{block_core, block_locals, made_in_block}
use Rattle.ec_check.proofs.Headings.{same_env}
use Rattle.ec_check.proofs.Steps.{gone_on, gone_same, made_gone, made_none, same_made}
use Rattle.ec_check.specs.Making.{HasGone, HasMade, env_of, made_of}
use Rattle.ec_check.specs.Parts.{ArmPart, Made, Part, Piece, StatementPart, both_made, nothing_made}
use Rattle.ec_check.specs.Places.{Env}
use Rattle.ec_check.specs.Resolving.{arms_core, arms_made, behind, behind_all, behind_block, declaring_one, further, in_scope}
use Rattle.ec_check.specs.Resolving.{locals_of_arms, locals_of_block}
use Rattle.ec_check.specs.Resolving.{initially_made, locals_of_choice, locals_of_statements, statements_core, statements_made}
use Rattle.ec_check.specs.Tree.{arm_of, block_of, part_of, statement_of}
use Rattle.ec_check.specs.declared.resolver.Resolver.{Resolver}
use Rattle.ec_types.specs.declared.conform.static_type.StaticType.{StaticType}
use Rattle.ec_core.specs.declared.Arm.{Arm as CoreArm, roll-Arm}
use Rattle.ec_core.specs.declared.Block.{Block as CoreBlock, roll-Block}
use Rattle.ec_core.specs.declared.Expression.{Expression as CoreExpression}
use Rattle.ec_core.specs.declared.Statement.{Statement as CoreStatement}
use Rattle.ec_types.proofs.ScopesLemmas.{declaring-declaring, declaring-none, forgetting-declaring, looping-loop}
use Rattle.ec_types.specs.Scopes.{declaring, forgetting, in_a_loop, innermost, is_in_loop, locals_of, looping}
use Rattle.ec_types.specs.declared.scopes.entries.Entry.{Entry}
use Rattle.ec_types.specs.declared.scopes.scope.Scope.{Scope}

-- ---- results

pub on_ok : {T E : Type 0} {P Q : Type 0} → (r : Result T E) → (P → Q) → OnOk r P → OnOk r Q
on_ok (Ok x) f p = f p
on_ok (Err e) f p = p

-- ---- behind statements

entries_behind : List StatementPart → Scope → List Entry
entries_behind [] scope = []
entries_behind (x ∷ more) scope = x.part.declares scope ++ entries_behind more (declaring (x.part.declares scope) scope)

numbers_more : List StatementPart → Env → List ℕ
numbers_more [] env = []
numbers_more (x ∷ more) env = map (λ entry. env.count) (x.part.declares env.scope) ++ numbers_more more (behind env x)

scope_behind : (xs : List StatementPart) (env : Env) → (behind_all env xs).scope ≡ declaring (entries_behind xs env.scope) env.scope
unfolding entries_behind
scope_behind [] env = sym (declaring-none env.scope)
scope_behind (x ∷ more) env =
    let next = declaring (x.part.declares env.scope) env.scope in
    scope_behind more (behind env x) ∙ declaring-declaring (x.part.declares env.scope) (entries_behind more next) env.scope

captures_behind : (xs : List StatementPart) (env : Env) → (behind_all env xs).captures ≡ env.captures
captures_behind [] env = refl
captures_behind (x ∷ more) env = captures_behind more (behind env x)

numbers_behind_all : (xs : List StatementPart) (env : Env) → (behind_all env xs).numbers ≡ env.numbers ++ numbers_more xs env
unfolding numbers_more
numbers_behind_all [] env = sym (append-nil env.numbers)
numbers_behind_all (x ∷ more) env =
    let own = map (λ entry. env.count) (x.part.declares env.scope) in
    numbers_behind_all more (behind env x) ∙ append_assoc env.numbers own (numbers_more more (behind env x))

-- ---- the end of a block

module _ (old mid end : Resolver) (b : Block) (ss : List Statement) (e : ss ≡ (out-Block b).statements)
    (h : HasGone old mid (behind_all (env_of old) (map statement_of ss)) (locals_of_statements (map statement_of ss) old.walk.scope)
    (statements_made (map statement_of ss) old.walk.scope)) where
  abbrev parts : List StatementPart
  parts = map statement_of ss

  pub block_gone : (count : ℕ) (few : ℕ) →
      count ≡ length (locals_of (innermost old.walk.scope)) → few ≡ length old.variables.numbers.items →
      end.walk.scope ≡ forgetting count mid.walk.scope → end.captures ≡ mid.captures →
      end.variables.numbers.items ≡ take few mid.variables.numbers.items → end.variables.types ≡ mid.variables.types →
      made_of end.made ≡ made_of mid.made →
      HasGone old end (behind_block (env_of old) (block_of b)) ((block_of b).locals old.walk.scope) ((block_of b).made old.walk.scope)
  block_gone count few c f s k n t m =
      let scope = old.walk.scope in
      let locals = sym (block_locals b scope ∙ ap (λ xs. locals_of_statements (map statement_of xs) scope) (sym e)) in
      let types = t ∙ h.types ∙ ap (λ ls. old.variables.types ++ ls) locals in
      record {
        place =
            same_env
            (s ∙ ap (λ x. forgetting x mid.walk.scope) c
            ∙ ap (forgetting (length (locals_of (innermost scope)))) (ap (λ (x : Env). x.scope) h.place ∙ scope_behind parts (env_of old))
            ∙ forgetting-declaring (entries_behind parts scope) scope)
            (k ∙ ap (λ (x : Env). x.captures) h.place ∙ captures_behind parts (env_of old))
            (n ∙ ap (λ x. take x mid.variables.numbers.items) f
            ∙ ap (take (length old.variables.numbers.items)) (ap (λ (x : Env). x.numbers) h.place ∙ numbers_behind_all parts (env_of old))
            ∙ take-append_seam old.variables.numbers.items (numbers_more parts (env_of old)))
            (ap length types ∙ length-append old.variables.types ((block_of b).locals scope));
        types = types;
        made =
            m ∙ h.made
            ∙ ap (both_made (made_of old.made))
            (sym (made_in_block b scope ∙ ap (λ xs. statements_made (map statement_of xs) scope) (sym e)));
      }

  pub block_cored : (core : List CoreStatement) → core ≡ statements_core parts (env_of old) →
      roll-Block (record { statements = core }) ≡ (block_of b).core (env_of old)
  block_cored core c =
      ap (λ xs. roll-Block (record { statements = xs }))
      (c ∙ ap (λ xs. statements_core (map statement_of xs) (env_of old)) e)
      ∙ sym (block_core b (env_of old))

-- ---- a loop

abbrev at_scope : Resolver → Scope → Resolver
at_scope r scope = record r { walk = record r.walk { scope = scope } }

pub loop_gone : (old mid : Resolver) (first last : Scope) (block : Piece) (was : Bool) →
    was ≡ is_in_loop old.walk.scope → first ≡ in_a_loop old.walk.scope →
    HasGone (at_scope old first) mid (behind_block (env_of (at_scope old first)) block) (block.locals first) (block.made first) →
    last ≡ looping was mid.walk.scope →
    HasGone old (at_scope mid last) (further (length (block.locals (in_a_loop old.walk.scope))) (env_of old))
    (block.locals (in_a_loop old.walk.scope))
    (block.made (in_a_loop old.walk.scope))
loop_gone old mid first last block was w f h l =
    let scope = old.walk.scope in
    let types = h.types ∙ ap (λ s. old.variables.types ++ block.locals s) f in
    record {
      place =
          same_env
          (l ∙ ap (λ x. looping x mid.walk.scope) w
          ∙ ap (looping (is_in_loop scope)) (ap (λ (x : Env). x.scope) h.place ∙ f)
          ∙ looping-loop scope)
          (ap (λ (x : Env). x.captures) h.place) (ap (λ (x : Env). x.numbers) h.place)
          (ap length types ∙ length-append old.variables.types (block.locals (in_a_loop scope)));
      types = types;
      made = h.made ∙ ap (λ s. both_made (made_of old.made) (block.made s)) f;
    }

pub loop_cored : (old : Resolver) (first : Scope) (block : Piece) → first ≡ in_a_loop old.walk.scope →
    block.core (env_of (at_scope old first)) ≡ block.core (in_scope (in_a_loop old.walk.scope) (env_of old))
loop_cored old first block f = ap (λ s. block.core (in_scope s (env_of old))) f

-- ---- arms

pub further_again : (a b : ℕ) (env : Env) → further b (further a env) ≡ further (a + b) env
further_again a b env = let e : env.count + a + b ≡ env.count + (a + b) = omega arith in same_env refl refl refl e

abbrev pub AlongArms : Resolver → Resolver → List ArmPart → List ArmPart → Type 0
AlongArms start now rest all =
    AlongGone start now
    (further (length (locals_of_arms start.walk.scope rest)) (env_of now))
    (further (length (locals_of_arms start.walk.scope all)) (env_of start))
    (locals_of_arms start.walk.scope rest) (locals_of_arms start.walk.scope all)
    (arms_made start.walk.scope rest) (arms_made start.walk.scope all)

same_scope : {now mid : Resolver} {scope : Scope} (p : Part) → now.walk.scope ≡ scope → HasMade now mid (p.made now.walk.scope) →
    HasMade now mid (p.made scope)
same_scope p s h = same_made (ap p.made s) h

-- one arm more: its condition, and then its block
pub arm_next : {start now mid next : Resolver} (x : Arm) (more all : List ArmPart) →
    AlongArms start now (arm_of x ∷ more) all → now.walk.scope ≡ start.walk.scope →
    HasMade now mid ((part_of (out-Arm x).condition).made now.walk.scope) →
    HasGone mid next (behind_block (env_of mid) (block_of (out-Arm x).block)) ((block_of (out-Arm x).block).locals mid.walk.scope)
    ((block_of (out-Arm x).block).made mid.walk.scope) →
    AlongArms start next more all
arm_next {start} {now} {mid} {next} x more all a s h g =
    let scope = start.walk.scope in
    let condition = part_of (out-Arm x).condition in
    let block = block_of (out-Arm x).block in
    let middle = ap (λ (e : Env). e.scope) h.place ∙ s in
    let own = block.locals scope in
    let later = length (locals_of_arms scope more) in
    let gone : HasGone mid next (further (length own) (env_of now)) own (block.made scope) =
    gone_same (ap (λ e. further (length (block.locals e.scope)) e) h.place ∙ ap (λ z. further (length (block.locals z)) (env_of now)) s)
    (ap block.locals middle) (ap block.made middle) g in
    let both : HasGone now next (further (length own) (env_of now)) own (both_made (condition.made scope) (block.made scope)) =
    made_gone (same_scope condition s h) gone in
    let end = ap (further later) gone.place ∙ further_again (length own) later (env_of now)
    ∙ ap (λ n. further n (env_of now)) (sym (length-append own (locals_of_arms scope more))) in
    let step = arm_step_of x in
    let along : AlongGone start now
    (further (length (own ++ locals_of_arms scope more)) (env_of now)) (further (length (locals_of_arms scope all)) (env_of start))
    (own ++ locals_of_arms scope more) (locals_of_arms scope all)
    (both_made (both_made (condition.made scope) (block.made scope)) (arms_made scope more)) (arms_made scope all) =
    subst (λ (p : ArmPart). AlongArms start now (p ∷ more) all) step a in
    let result = gone_next along both in
    record { place = end ∙ result.place; types = result.types; made = result.made }

-- ---- locals

pub whatever : {T E : Type 0} {P : Type 0} (r : Result T E) → P → OnOk r P
whatever (Ok x) p = p
whatever (Err e) p = tt

pub local_gone : {old mid new : Resolver} {m : Made} {entry own : Entry} {ls locals : List StaticType} →
    HasMade old mid m → entry ≡ own → ls ≡ locals → HasGone mid new (declaring_one (env_of mid) entry) ls nothing_made →
    HasGone old new (declaring_one (env_of old) own) locals m
local_gone {old} {mid} {new} {m} {entry} {own} h e l g =
    gone_same (ap (λ x. declaring_one x entry) h.place ∙ ap (declaring_one (env_of old)) e) l (made_none m) (made_gone h g)

-- ---- an `if`: its arms, and then its `else`

pub choice_gone : {old mid new : Resolver} (arms : List ArmPart) (other : Option Piece) →
    HasGone old mid (further (length (locals_of_arms old.walk.scope arms)) (env_of old)) (locals_of_arms old.walk.scope arms)
    (arms_made old.walk.scope arms) →
    HasGone mid new (further (length (locals_of_block mid.walk.scope other)) (env_of mid)) (locals_of_block mid.walk.scope other)
    (initially_made mid.walk.scope other) →
    HasGone old new (further (length (locals_of_choice old.walk.scope arms other)) (env_of old))
    (locals_of_choice old.walk.scope arms other)
    (both_made (arms_made old.walk.scope arms) (initially_made old.walk.scope other))
choice_gone {old} {mid} {new} arms other h g =
    let scope = old.walk.scope in
    let s = ap (λ (e : Env). e.scope) h.place in
    let own = length (locals_of_arms scope arms) in
    let more = length (locals_of_block scope other) in
    gone_same
    (ap (λ z. further (length (locals_of_block z other)) (env_of mid)) s ∙ ap (further more) h.place ∙ further_again own more (env_of old)
    ∙ ap (λ n. further n (env_of old)) (sym (length-append (locals_of_arms scope arms) (locals_of_block scope other))))
    (ap (λ z. locals_of_arms scope arms ++ locals_of_block z other) s)
    (ap (λ z. both_made (arms_made scope arms) (initially_made z other)) s)
    (gone_on h g)

-- ---- what is found of statements and arms, one after another

pub statement_found : (now next : Resolver) (found more : List CoreStatement) (core : CoreStatement) (xs : List Statement) (i : ℕ)
    (x : Statement) →
    i < length xs → x ≡ get_or xs i x → more ≡ found ++ core ∷ [] → core ≡ (statement_of x).core (env_of now) →
    env_of next ≡ behind (env_of now) (statement_of x) →
    more ++ statements_core (map statement_of (drop (i + 1) xs)) (env_of next) ≡ found
    ++ statements_core (map statement_of (drop i xs)) (env_of now)
statement_found now next found more core xs i x lt is p c e =
    let rest = map statement_of (drop (i + 1) xs) in
    ap (λ n. n ++ statements_core rest (env_of next)) (p ∙ ap (λ y. found ++ y ∷ []) c)
    ∙ ap (λ z. (found ++ (statement_of x).core (env_of now) ∷ []) ++ statements_core rest z) e
    ∙ append_assoc found ((statement_of x).core (env_of now) ∷ []) (statements_core rest (behind (env_of now) (statement_of x)))
    ∙ sym (ap (λ ys. found ++ statements_core (map statement_of ys) (env_of now)) (drop_more xs i x lt is))

pub arm_found : (now mid next : Resolver) (found more : List CoreArm) (condition : CoreExpression) (block : CoreBlock)
    (xs : List Arm) (i : ℕ) (x : Arm)
    {m : Made} {ls : List StaticType} {n : Made} →
    i < length xs → x ≡ get_or xs i x →
    more ≡ found ++ roll-Arm (record { condition = condition; block = block }) ∷ [] →
    condition ≡ (part_of (out-Arm x).condition).core (env_of now) → HasMade now mid m →
    block ≡ (block_of (out-Arm x).block).core (env_of mid) →
    HasGone mid next (behind_block (env_of mid) (block_of (out-Arm x).block)) ls n →
    more ++ arms_core (env_of next) (map arm_of (drop (i + 1) xs)) ≡ found ++ arms_core (env_of now) (map arm_of (drop i xs))
arm_found now mid next found more condition block xs i x lt is p c h b g =
    let rest = map arm_of (drop (i + 1) xs) in
    let piece = block_of (out-Arm x).block in
    let env = env_of now in
    let own = roll-Arm (record { condition = (part_of (out-Arm x).condition).core env; block = piece.core env }) in
    let core = ap (λ y. roll-Arm (record { condition = y; block = block })) c
    ∙ ap (λ y. roll-Arm (record { condition = (part_of (out-Arm x).condition).core env; block = y })) (b ∙ ap piece.core h.place) in
    ap (λ y. y ++ arms_core (env_of next) rest) (p ∙ ap (λ y. found ++ y ∷ []) core)
    ∙ ap (λ z. (found ++ own ∷ []) ++ arms_core z rest) (g.place ∙ ap (λ z. behind_block z piece) h.place)
    ∙ append_assoc found (own ∷ []) (arms_core (behind_block env piece) rest)
    ∙ sym (ap (λ (p : ArmPart). found ++ arms_core env (p ∷ rest)) (arm_step_of x))
    ∙ sym (ap (λ ys. found ++ arms_core env (map arm_of ys)) (drop_more xs i x lt is))

pub arms_end : {start now : Resolver} (all : List ArmPart) → AlongArms start now [] all →
    HasGone start now (further (length (locals_of_arms start.walk.scope all)) (env_of start)) (locals_of_arms start.walk.scope all)
    (arms_made start.walk.scope all)
arms_end {start} {now} all a =
    let e : (env_of now).count + 0 ≡ (env_of now).count = omega arith in
    gone_end (record { place = sym (same_env refl refl refl e) ∙ a.place; types = a.types; made = a.made })
