-- The code behind a stop, by its parts.
use Rattle.std.proofs.Common.{◌≡◌, ℕ, Bool, true, false, List, [], ◌∷◌, ◌++◌, Option, Some, None, refl, sym, ap, ◌∙◌, subst}
use Rattle.ec_meaning.specs.Meaning.{Reached, items_behind, rested, resting, settle, settled, source_silent, state_behind, whose}
use Rattle.ec_meaning.specs.Programs.{Source}
use Rattle.ec_meaning.specs.Running.{items_from, variables_from}
use Rattle.ec_meaning.specs.Weights.{weight}
use Rattle.ec_meaning.specs.declared.activation.SourceActivation.{SourceActivation}
use Rattle.ec_meaning.specs.declared.item.Item.{Item}
use Rattle.ec_meaning.specs.declared.state.State.{State}
use Rattle.ec_world.specs.declared.common.Common.{Common}
use Rattle.ec_world.specs.declared.value.Value.{Value}

-- the variables, values and items that an activation had don't count once it rests
same_rest : (a : SourceActivation) (variables held : List Value) (items : List Item) (x : Common × Option Reached) →
    resting (record a { variables = variables; held = held; items = items }) x ≡ resting a x
same_rest a variables held items (c, None) = refl
same_rest a variables held items (c, Some r) = refl

abbrev pub begun_with : Common → List Value → List Value → State
begun_with c variables held = record { common = c; variables = variables; held = held }

by_entry : (s : Source) (c : Common) (a : SourceActivation) (b : Bool) →
    settled s a (state_behind s c a b) (items_behind s a b)
    ≡ resting a
    (settle s (whose a) (weight (items_from s a.operation b a.items))
    (begun_with c (variables_from s a.operation b a.variables) a.held) (items_from s a.operation b a.items))
by_entry s c a true = refl
by_entry s c a false = refl

-- the silent steps from behind a stop, by what was taken out of the activation (`vs`, `hs`, `is`) and what was left there
pub goes_on : (s : Source) (c : Common) (a : SourceActivation) (vs hs variables vs' hs' : List Value) (is items is' : List Item)
    (x : Common × Option Reached) (r : Common × SourceActivation) →
    vs ≡ a.variables → hs ≡ a.held → is ≡ a.items →
    variables ≡ variables_from s a.operation a.at_entry vs → items ≡ items_from s a.operation a.at_entry is →
    x ≡ settle s (whose a) (weight items) (begun_with c variables hs) items →
    r ≡ resting (record a { variables = vs'; held = hs'; items = is' }) x →
    r ≡ source_silent s c a
goes_on s c a vs hs variables vs' hs' is items is' x r ev eh ei v i so e =
    let v' : variables ≡ variables_from s a.operation a.at_entry a.variables = v ∙ ap (variables_from s a.operation a.at_entry) ev in
    let i' : items ≡ items_from s a.operation a.at_entry a.items = i ∙ ap (items_from s a.operation a.at_entry) ei in
    e
    ∙ same_rest a vs' hs' is' x
    ∙ ap (resting a) so
    ∙ ap (λ (h : List Value). resting a (settle s (whose a) (weight items) (begun_with c variables h) items)) eh
    ∙ ap (λ (w : List Value). resting a (settle s (whose a) (weight items) (begun_with c w a.held) items)) v'
    ∙ ap (λ (l : List Item). resting a
    (settle s (whose a) (weight l) (begun_with c (variables_from s a.operation a.at_entry a.variables) a.held) l)) i'
    ∙ sym (by_entry s c a a.at_entry)
