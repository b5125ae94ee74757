use Rattle.std.proofs.Common.{inl, inr, map, ap, sym, ◌∙◌}
use Rattle.ec_ast.specs.declared.ObjectConstructor.{out-ObjectConstructor}
use Rattle.ec_rules.specs.Forms.{Constructor}
use Rattle.ec_rules.specs.Judging as spec
use Rattle.ec_rules.specs.Tree.{part_of, link_of, parts}
use Rattle.ec_rules.proofs.Equations as of_form
use Rattle.ec_rules.proofs.Forms.{form_at}
use Rattle.ec_ast.proofs.Layers as layers
use Rattle.ec_rules.proofs.form.+form_of.Goals as goal

pub returns-in-Number : goal.returns-in-Number
returns-in-Number t c = form_at _ _ _ c.in-Number.is (layers.number_layer parts _)

pub returns-in-Literal : goal.returns-in-Literal
returns-in-Literal t c = form_at _ _ _ c.in-Literal.is (layers.literal_layer parts _)

pub returns-in-Truth : goal.returns-in-Truth
returns-in-Truth t c = form_at _ _ _ c.in-Truth.is (layers.truth_layer parts _ _)

pub returns-in-Itself : goal.returns-in-Itself
returns-in-Itself t c = form_at _ _ _ c.in-Itself.is (layers.itself_layer parts _)

pub returns-in-Variable : goal.returns-in-Variable
returns-in-Variable t c = form_at _ _ _ c.in-Variable.is (layers.variable_layer parts _)

pub returns-in-Parenthesised : goal.returns-in-Parenthesised
returns-in-Parenthesised t c =
    c.in_parentheses.ensures
    ∙ ap spec.form_in_parentheses (c.form_of.ensures ∙ ap (λ x. (part_of x).form) c.get.ensures)
    ∙ form_at _ _ _ c.in-Parenthesised.is (layers.parenthesised_layer parts _ _)

pub returns-in-Constructor : goal.returns-in-Constructor
returns-in-Constructor t c =
    ap (λ o. Constructor (out-ObjectConstructor o).name.at) c.get-in-Constructor.ensures
    ∙ ap (λ p. Constructor p.holder.name.at) (sym (of_form.object_constructor_step c.in-Constructor.object))
    ∙ form_at _ _ _ c.in-Constructor.is (layers.constructor_layer parts _)

pub returns-in-NewVector : goal.returns-in-NewVector
returns-in-NewVector t c = form_at _ _ _ c.in-NewVector.is (layers.new_vector_layer parts _ _ _ _)

pub returns-in-Postfix : goal.returns-in-Postfix
returns-in-Postfix t c =
    c.of_chain.ensures
    ∙ ap (λ f. spec.form_of_chain f (map link_of c.as_slice.result.now))
    (c.form_of-in-Postfix.ensures ∙ ap (λ x. (part_of x).form) c.get-in-Postfix.ensures)
    ∙ ap (λ ls. spec.form_of_chain (part_of c.in-Postfix.head).form (map link_of ls)) c.as_slice.ensures
    ∙ form_at _ _ _ c.in-Postfix.is (layers.postfix_layer parts _ _)

pub returns-in-Negative : goal.returns-in-Negative
returns-in-Negative t c =
    c.negated.ensures
    ∙ ap spec.form_negated (c.form_of-in-Negative.ensures ∙ ap (λ x. (part_of x).form) c.get-in-Negative.ensures)
    ∙ form_at _ _ _ c.in-Negative.is (layers.negative_layer parts _ _)

pub returns-in-Nil : goal.returns-in-Nil
returns-in-Nil t c =
    elim c.in-Nil.is [
      | inl p ↦ form_at _ _ _ p.1 (layers.nil_layer parts _)
      | inr q ↦
          elim q [
            | inl p ↦ form_at _ _ _ p.3 (layers.node_at_layer parts _ _ _)
            | inr q ↦
                elim q [
                  | inl p ↦ form_at _ _ _ p.1 (layers.node_count_layer parts _)
                  | inr q ↦
                      elim q [
                        | inl p ↦ form_at _ _ _ p.3 (layers.view_layer parts _ _ _)
                        | inr q ↦
                            elim q [
                              | inl p ↦ form_at _ _ _ p.2 (layers.is_fixed_layer parts _ _)
                              | inr q ↦
                                  elim q [
                                    | inl p ↦ form_at _ _ _ p.2 (layers.term_layer parts _ _)
                                    | inr q ↦
                                        elim q [
                                          | inl p ↦ form_at _ _ _ p.2 (layers.sum_layer parts _ _)
                                          | inr q ↦
                                              elim q [
                                                | inl p ↦ form_at _ _ _ p.4 (layers.compare_layer parts _ _ _ _)
                                                | inr q ↦
                                                    elim q [
                                                      | inl p ↦ form_at _ _ _ p.2 (layers.not_layer parts _ _)
                                                      | inr q ↦
                                                          elim q [
                                                            | inl p ↦ form_at _ _ _ p.2 (layers.and_layer parts _ _)
                                                            | inr p ↦
                                                                form_at _ _ _ p.2 (layers.or_layer parts _ _)
                                                          ]
                                                    ]
                                              ]
                                        ]
                                  ]
                            ]
                      ]
                ]
          ]
    ]
