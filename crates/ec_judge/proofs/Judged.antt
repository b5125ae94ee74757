-- What is found of an expression whose form has been looked at, and one part behind another.
use Rattle.std.proofs.Common.{◌≡◌, ◌||◌, not, Bool, List, ◌∷◌, ◌++◌, sym, ap, ◌∙◌, append_assoc}
use Rattle.ec_ast.specs.declared.Expression.{Expression}
use Rattle.ec_judge.specs.Chains.{Passed, faults_along, over_link, over_links, passed}
use Rattle.ec_judge.specs.Walks.{walked, judged_as, looked, over_expression, over_finished, over_layer, over_part}
use Rattle.ec_judge.specs.declared.walk.Looked.{Looked}
use Rattle.ec_judge.specs.declared.walk.Walk.{Walk}
use Rattle.ec_judge.proofs.Parts.{judged_part}
use Rattle.ec_judge.proofs.Walks.{walk_of, walked_walked}
use Rattle.ec_rules.specs.Calls.{faults_of_link, is_last, link_parts}
use Rattle.ec_rules.specs.Judging.{faults_of}
use Rattle.ec_rules.specs.Lists.{each}
use Rattle.ec_rules.specs.Parts.{Finished, Judgement, LinkPart, Part, faults_in, uses_in}
use Rattle.ec_rules.specs.Rules.{is_clean, noted, begun, ended}
use Rattle.ec_rules.specs.Tree.{part_of, layer_of}
use Rattle.ec_rules.specs.declared.StaticFault.{StaticFault}
use Rattle.ec_rules.proofs.Lists.{each_joined}
use Rattle.ec_rules.proofs.Noted.{noted_joined}

-- ---- a part begins and ends

module _ (w end : Walk) (x : Expression) (needed : Bool)
    (e : end ≡ over_layer needed (walk_of w.scope (begun w.faults) w.uses) (layer_of x)) where
  pub looked_clean : end.faults.is_clean ≡ is_clean (faults_of needed w.scope (layer_of x))
  unfolding walked
  looked_clean = ap (λ (t : Walk). t.faults.is_clean) e

  pub looked_value : (found : Looked) → found ≡ looked needed w.scope (layer_of x) →
      judged_as found end.faults.is_clean ≡ ((part_of x).judged needed w.scope).value
  looked_value found f =
      ap (judged_as found) looked_clean
      ∙ ap (λ l. judged_as l (is_clean (faults_of needed w.scope (layer_of x)))) f
      ∙ sym (ap (λ (j : Judgement). j.value) (judged_part x needed w.scope))

  pub looked_walk : walk_of end.scope (ended end.faults w.faults.is_clean) end.uses ≡ over_expression w ((part_of x).judged needed w.scope)
  unfolding walked
  looked_walk =
      ap (λ (t : Walk). walk_of t.scope (ended t.faults w.faults.is_clean) t.uses) e
      ∙ sym (ap (over_expression w) (judged_part x needed w.scope))

-- ---- links

pub link_behind : (w : Walk) (needed : Bool) (p : Passed) (l : LinkPart) (ls : List LinkPart) →
    over_links (over_link w (needed || not (is_last ls)) p l) needed
    (passed w.scope (needed || not (is_last ls)) p l) ls ≡ over_links w needed p (l ∷ ls)
unfolding walked
link_behind w needed p l ls =
    walked_walked w (faults_of_link w.scope p.at (needed || not (is_last ls)) p.before l)
    (faults_along w.scope needed (passed w.scope (needed || not (is_last ls)) p l) ls)
    (each (uses_in w.scope) (link_parts l)) (each (uses_in w.scope) (each link_parts ls))
    ∙ ap (walked w (faults_along w.scope needed p (l ∷ ls))) (sym (each_joined (uses_in w.scope) (link_parts l) (each link_parts ls)))

-- ---- arms

pub arm_behind : (w : Walk) (p : Part) (own : List StaticFault) (block : Finished) →
    over_finished (walk_of (over_part w p).scope (noted (over_part w p).faults own) (over_part w p).uses) block
    ≡ walked w (faults_in w.scope p ++ (own ++ block.faults)) (uses_in w.scope p ++ block.uses)
unfolding walked
arm_behind w p own block =
    ap (λ faults. walk_of w.scope faults ((w.uses ++ uses_in w.scope p) ++ block.uses))
    (ap (λ f. noted f block.faults) (noted_joined w.faults (faults_in w.scope p) own))
    ∙ walked_walked w (faults_in w.scope p ++ own) block.faults (uses_in w.scope p) block.uses
    ∙ ap (λ fs. walked w fs (uses_in w.scope p ++ block.uses)) (append_assoc (faults_in w.scope p) own block.faults)
