-- Scopes within scopes, and what is left of them behind a block, a loop, a process section and an object.
use Rattle.std.proofs.Common.{◌≡◌, ℕ, Bool, true, List, [], ◌++◌, length, take, Some, refl, ap, ◌∙◌, append_assoc}
use Rattle.std.proofs.lemmas.List.{append-nil}
use Rattle.std.proofs.Math.Seq.{take-append_seam}
use Rattle.ec_base.proofs.Stacks.{below_of-push}
use Rattle.ec_types.specs.Scopes.{innermost, locals_of, in_loop_of, is_in_loop, within, outside, with_locals, at_loop, at_process}
use Rattle.ec_types.specs.Scopes.{first_locals, declaring, forgetting, looping, in_a_loop, in_a_process}
use Rattle.ec_types.specs.declared.scopes.entries.Entry.{Entry}
use Rattle.ec_types.specs.declared.scopes.object.Object.{Object}
use Rattle.ec_types.specs.declared.scopes.scope.Scope.{Scope}
use Rattle.ec_types.proofs.Innermost.{below_of-change, change-same, change-change, change-as, change-commutes}

-- a scope with other objects
abbrev with_objects : Scope → List Object → Scope
with_objects scope objects = record scope { objects = objects }

-- ---- in one more object, and out of it

pub outside-within : (scope : Scope) (object : Object) → outside (within scope object) ≡ scope
outside-within scope object = ap (with_objects scope) (below_of-push scope.objects object)

pub outside-declaring : (more : List Entry) (scope : Scope) → outside (declaring more scope) ≡ outside scope
outside-declaring more scope = ap (with_objects scope) (below_of-change (with_locals more) scope.objects)

pub outside-process : (scope : Scope) → outside (in_a_process scope) ≡ outside scope
outside-process scope = ap (with_objects scope) (below_of-change at_process scope.objects)

-- ---- declarations, and the end of their block

abbrev with_all : Object → List Entry → Object
with_all object locals = record object { locals = locals }

pub declaring-none : (scope : Scope) → declaring [] scope ≡ scope
declaring-none scope =
    let same : (o : Object) → innermost scope ≡ Some o → with_locals [] o ≡ o = λ o is. ap (with_all o) (append-nil o.locals) in
    ap (with_objects scope) (change-same (with_locals []) scope.objects same)

pub declaring-declaring : (first second : List Entry) (scope : Scope)
    → declaring second (declaring first scope) ≡ declaring (first ++ second) scope
declaring-declaring first second scope =
    let both : Object → Object = λ o. with_locals second (with_locals first o) in
    let joins : (o : Object) → innermost scope ≡ Some o → both o ≡ with_locals (first ++ second) o =
    λ o is. ap (with_all o) (append_assoc o.locals first second) in
    let joined = change-as both (with_locals (first ++ second)) scope.objects joins in
    ap (with_objects scope) (change-change (with_locals first) (with_locals second) scope.objects ∙ joined)

-- what was declared is gone
pub forgetting-declaring : (more : List Entry) (scope : Scope)
    → forgetting (length (locals_of (innermost scope))) (declaring more scope) ≡ scope
forgetting-declaring more scope =
    let count = length (locals_of (innermost scope)) in
    let both : Object → Object = λ o. first_locals count (with_locals more o) in
    let forgets : (o : Object) → innermost scope ≡ Some o → both o ≡ o =
    λ o is. ap (with_all o) (ap (λ i. take (length (locals_of i)) (o.locals ++ more)) is ∙ take-append_seam o.locals more) in
    let forgotten = change-same both scope.objects forgets in
    ap (with_objects scope) (change-change (with_locals more) (first_locals count) scope.objects ∙ forgotten)

-- ---- a loop, and the end of it

pub looping-looping : (first second : Bool) (scope : Scope) → looping second (looping first scope) ≡ looping second scope
looping-looping first second scope = ap (with_objects scope) (change-change (at_loop first) (at_loop second) scope.objects)

pub looping-same : (scope : Scope) → looping (is_in_loop scope) scope ≡ scope
looping-same scope =
    let same : (o : Object) → innermost scope ≡ Some o → at_loop (is_in_loop scope) o ≡ o =
    λ o is. ap (λ i. at_loop (in_loop_of i) o) is in
    ap (with_objects scope) (change-same (at_loop (is_in_loop scope)) scope.objects same)

-- back out of the loop
pub looping-loop : (scope : Scope) → looping (is_in_loop scope) (in_a_loop scope) ≡ scope
looping-loop scope = looping-looping true (is_in_loop scope) scope ∙ looping-same scope

pub declaring-looping : (more : List Entry) (b : Bool) (scope : Scope)
    → declaring more (looping b scope) ≡ looping b (declaring more scope)
declaring-looping more b scope =
    ap (with_objects scope) (change-commutes (at_loop b) (with_locals more) scope.objects (λ o. refl))

pub forgetting-looping : (count : ℕ) (b : Bool) (scope : Scope)
    → forgetting count (looping b scope) ≡ looping b (forgetting count scope)
forgetting-looping count b scope =
    ap (with_objects scope) (change-commutes (at_loop b) (first_locals count) scope.objects (λ o. refl))

-- what was declared in a loop is gone behind it
pub behind_loop : (more : List Entry) (scope : Scope)
    → looping (is_in_loop scope) (forgetting (length (locals_of (innermost scope))) (declaring more (in_a_loop scope))) ≡ scope
behind_loop more scope =
    let back = looping (is_in_loop scope) in
    let forget = forgetting (length (locals_of (innermost scope))) in
    ap (λ s. back (forget s)) (declaring-looping more true scope)
    ∙ ap back (forgetting-looping (length (locals_of (innermost scope))) true (declaring more scope))
    ∙ ap (λ s. back (in_a_loop s)) (forgetting-declaring more scope)
    ∙ looping-loop scope

-- ---- a process section

-- what was declared in a process section is gone behind its object
pub behind_process : (more : List Entry) (scope : Scope) (object : Object)
    → outside (declaring more (in_a_process (within scope object))) ≡ scope
behind_process more scope object =
    outside-declaring more (in_a_process (within scope object))
    ∙ outside-process (within scope object)
    ∙ outside-within scope object
