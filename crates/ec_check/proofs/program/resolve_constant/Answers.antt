use Rattle.std.proofs.Common.{◌≡◌, ◌++◌, [], ◌∷◌, OnOk, sym, ap, subst, ◌∙◌}
use Rattle.std.proofs.lemmas.List.{append-nil}
use Rattle.ec_check.proofs.Blocks.{whatever}
use Rattle.ec_check.proofs.Classes.{class_holder}
use Rattle.ec_check.proofs.Fusion.{same_part}
use Rattle.ec_check.proofs.Steps.{same_made, unmade}
use Rattle.ec_check.specs.Making.{env_of}
use Rattle.ec_check.specs.Places.{type_or}
use Rattle.ec_check.specs.Program.{constant_core, constant_made}
use Rattle.ec_check.specs.Resolving.{holder_made}
use Rattle.ec_check.specs.Tree.{part_of}
use Rattle.ec_rules.specs.Members.{constant_type}
use Rattle.ec_rules.specs.Parts as judged
use Rattle.ec_check.proofs.program.resolve_constant.Goals as goal

pub returns-in_ok-resolve-in-Expression-clause-core : goal.returns-in_ok-resolve-in-Expression-clause-core
returns-in_ok-resolve-in-Expression-clause-core c =
    let r = c.args.r.now in
    let h = c.in_ok-resolve-in-Expression in
    let of = c.type_or-of.ensures
    ∙ ap type_or
    (c.in_ok-constant_type-in-Expression.ensures
    ∙ ap (constant_type r.walk.scope c.args.c.now.of)
    (c.form_of.ensures ∙ sym (ap (λ (p : judged.Part). p.form) (same_part c.in-Expression.e)))) in
    subst (λ x. OnOk c.push.result (c.push.new.self ≡ c.args.found.now ++ x))
    (ap (λ t. record { number = c.args.number; of = t; value = h.field-0 } ∷ []) of
    ∙ ap (λ v.
    record {
      number = c.args.number;
      of =
          type_or (constant_type r.walk.scope c.args.c.now.of (part_of c.in-Expression.e).part.form);
      value = v;
    } ∷ [])
    h.ensures.core
    ∙ ap (constant_core (env_of r) c.args.number c.args.c.now) (sym c.in-Expression.is))
    c.push.ensures.ok

pub returns-in_ok-resolve-in-Expression-clause-made : goal.returns-in_ok-resolve-in-Expression-clause-made
returns-in_ok-resolve-in-Expression-clause-made c =
    whatever c.push.result
    (same_made (ap (constant_made c.args.r.now.walk.scope) (sym c.in-Expression.is)) c.in_ok-resolve-in-Expression.ensures.made)

pub returns-in_ok-resolve_holder-in-Class-clause-core : goal.returns-in_ok-resolve_holder-in-Class-clause-core
returns-in_ok-resolve_holder-in-Class-clause-core c =
    sym (append-nil c.args.found.now)
    ∙ ap (λ v. c.args.found.now ++ constant_core (env_of c.args.r.now) c.args.number c.args.c.now v) (sym c.in-Class.is)

pub returns-in_ok-resolve_holder-in-Class-clause-made : goal.returns-in_ok-resolve_holder-in-Class-clause-made
returns-in_ok-resolve_holder-in-Class-clause-made c =
    let scope = c.args.r.now.walk.scope in
    same_made
    (ap (holder_made scope) (class_holder c.of_class.result c.in-Class.class c.of_class.ensures)
    ∙ ap (constant_made scope) (sym c.in-Class.is))
    c.in_ok-resolve_holder-in-Class.ensures.made

pub returns-in-Typeobject-clause-core : goal.returns-in-Typeobject-clause-core
returns-in-Typeobject-clause-core c =
    sym (append-nil c.args.found.now)
    ∙ ap (λ v. c.args.found.now ++ constant_core (env_of c.args.r.now) c.args.number c.args.c.now v) (sym c.in-Typeobject.is)

pub returns-in-Typeobject-clause-made : goal.returns-in-Typeobject-clause-made
returns-in-Typeobject-clause-made c =
    same_made (ap (constant_made c.args.r.now.walk.scope) (sym c.in-Typeobject.is)) (unmade c.args.r.now)
