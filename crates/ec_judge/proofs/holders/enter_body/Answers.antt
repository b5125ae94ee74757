use Rattle.std.proofs.Common.{◌≡◌, ◌++◌, OnOk, map, None, sym, ap, ◌∙◌, subst}
use Rattle.ec_judge.specs.Holders.{holder_of, members_seen, object_with}
use Rattle.ec_rules.specs.Lists.{each}
use Rattle.ec_rules.specs.Members.{constant_entry, field_names_in, fields_in, first_members, parameter_entries}
use Rattle.ec_rules.specs.Parts.{BodyPart}
use Rattle.ec_rules.specs.Tree.{member_of}
use Rattle.ec_rules.proofs.Equations.{body_step}
use Rattle.ec_judge.proofs.Scoped.{entered}
use Rattle.ec_judge.proofs.holders.enter_body.Goals as goal

pub returns : goal.returns
returns c =
    let h = holder_of c.args.heading c.args.body.now in
    let members = members_seen c.in_ok-first.first.items in
    let texts = map (λ p. p.name.text) c.args.heading.parameters.now in
    let m = c.in_ok-first.ensures
    ∙ ap (λ taken. first_members taken (map member_of c.as_slice.result.now)) c.in_ok-taken.ensures
    ∙ ap (λ ms. first_members texts (map member_of ms)) c.as_slice.ensures
    ∙ ap (first_members texts) (sym (ap (λ (b : BodyPart). b.members) (body_step c.args.body.now))) in
    subst (λ x. OnOk c.enter-2.result (c.enter-2.new.self ≡ x))
    (entered c.args.scope.now c.enter.new.self c.leave.new.self c.args.heading c.args.body.now members c.in_ok-names.names
    c.in_ok-fields.fields c.in_ok-named.named
    c.in_ok-typed.typed m
    (c.in_ok-names.ensures
    ∙ ap (λ ms. map (λ p. constant_entry p.name None) c.args.heading.parameters.now ++ each field_names_in (members_seen ms))
    c.as_slice-2.ensures.value)
    (c.in_ok-named.ensures ∙ ap (λ ms. object_with c.args.scope.now c.args.heading (members_seen ms) c.in_ok-names.names)
    c.as_slice-3.ensures.value)
    c.in_ok-enter.ensures
    (c.in_ok-fields.ensures
    ∙ ap (λ ms. parameter_entries c.enter.new.self c.args.heading.parameters.now ++ each (fields_in c.enter.new.self) (members_seen ms))
    c.as_slice-4.ensures.value)
    c.leave.ensures
    (c.in_ok-typed.ensures ∙ ap (λ ms. object_with c.leave.new.self c.args.heading (members_seen ms) c.in_ok-fields.fields)
    c.as_slice-5.ensures.value))
    c.enter-2.ensures
