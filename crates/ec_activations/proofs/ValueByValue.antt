-- The laws of frames, value by value: the reference to the own object first, then what is held.
use Rattle.std.proofs.Common.{◌≡◌, ◌≢◌, ℕ, zero, suc, ◌≤◌, List, [], ◌∷◌, Option, Some, None, refl, sym, ap, ◌∙◌, arith}
use Rattle.std.specs.Prelude.{slice_get}
use Rattle.std.proofs.lemmas.Option.{same_Some}
use Rattle.ec_activations.proofs.Frames.{each_word, one_value}
use Rattle.ec_activations.proofs.Stops.{mapped}
use Rattle.ec_activations.proofs.Words.{not_own}
use Rattle.ec_activations.specs.Frames.{Held, at_place, entries_if, held_if, held_of, variable_word, word_for, word_if}
use Rattle.ec_activations.specs.Laws.{AreHomesOf, EachValueHasAWord, OneWordOneValue}
use Rattle.ec_code.specs.Activations.{operation_at}
use Rattle.ec_code.specs.Typing.{Declared}
use Rattle.ec_code.specs.declared.activation.CodeActivation.{CodeActivation}
use Rattle.ec_code.specs.declared.code.Operation.{Operation}
use Rattle.ec_code.specs.declared.code.Parts.{Parts}
use Rattle.ec_machine_code.specs.Frames.{home_word}
use Rattle.ec_machine_code.specs.declared.homes.Home.{Home}
use Rattle.ec_machine_code.specs.declared.homes.Home.TheVariants.{Register, Slot}
use Rattle.ec_world.specs.declared.node.Kind.{Kind}

behind_headings : (h : Home) → 6 ≤ home_word h
behind_headings (Register k) = omega arith
behind_headings (Slot n) = omega arith

module _ (d : Declared) (p : Parts) (kind : Kind) (homes : Kind → List (List Home)) (a : CodeActivation) (are : AreHomesOf d p kind homes)
  where
    empty : (hs : List Held) (i : ℕ) (h : Held) → hs ≡ [] → slice_get hs i ≡ Some h → ⊥
    empty [] i h e f = cc
    empty (k ∷ hs) i h e f = cc

    -- an activation of no operation holds nothing
    nothing : (o : Option Operation) → operation_at p a.operation ≡ o → (i : ℕ) (h : Held) → slice_get (held_of p a) i ≡ Some h →
        (q : Operation) × (operation_at p a.operation ≡ Some q)
    nothing None e i h f = absurd (empty (held_of p a) i h (ap (λ x. held_if p a (at_place a.at 0 (entries_if x))) e) f)
    nothing (Some q) e i h f = (q, e)

    word_of_held : (i : ℕ) (h : Held) → slice_get (held_of p a) i ≡ Some h →
        (g : Home) × (variable_word (homes kind) p a.operation h.variable ≡ Some (home_word g))
    word_of_held i h e =
        let o = nothing (operation_at p a.operation) refl i h e in
        each_word d p are.fine are.limits a o.0 o.1 are.registers are.few are.tables are.are (homes kind) are.homes_are i h e

    same_held : (i j at : ℕ) (h k : Held) → slice_get (held_of p a) i ≡ Some h → slice_get (held_of p a) j ≡ Some k →
        variable_word (homes kind) p a.operation h.variable ≡ Some at → variable_word (homes kind) p a.operation k.variable ≡ Some at →
        h.value ≡ k.value
    same_held i j at h k e f g q =
        let o = nothing (operation_at p a.operation) refl i h e in
        one_value d p are.fine are.limits a o.0 o.1 are.registers are.few are.tables are.are (homes kind) are.homes_are i j at h k e f g q

    -- the word of a held value
    spot_is : (i : ℕ) (h : Held) → slice_get (held_of p a) i ≡ Some h →
        word_for (homes kind) p a (suc i) ≡ variable_word (homes kind) p a.operation h.variable
    spot_is i h e = ap (word_if (homes kind) p a.operation) e

    not_the_own : (i at : ℕ) (h : Held) → slice_get (held_of p a) i ≡ Some h → word_for (homes kind) p a (suc i) ≡ Some at → at ≢ 6
    not_the_own i at h e f =
        let w = word_of_held i h e in
        let is : home_word w.0 ≡ at = same_Some (home_word w.0) at (sym w.1 ∙ sym (spot_is i h e) ∙ f) in
        λ six. not_own w.0 (is ∙ six)

pub each_value_has_a_word : EachValueHasAWord
each_value_has_a_word d p kind homes process depth a zero v are e = (6, refl, omega arith)
each_value_has_a_word d p kind homes process depth a (suc i) v are e =
    let m = mapped (λ (h : Held). h.value) (held_of p a) i v e in
    let w = word_of_held d p kind homes a are i m.0 m.1 in
    (home_word w.0, spot_is d p kind homes a are i m.0 m.1 ∙ w.1, behind_headings w.0)

pub one_word_one_value : OneWordOneValue
one_word_one_value d p kind homes process depth a zero zero at v u are e f g q = same_Some v u (sym e ∙ f)
one_word_one_value d p kind homes process depth a zero (suc j) at v u are e f g q =
    let m = mapped (λ (h : Held). h.value) (held_of p a) j u f in
    absurd (not_the_own d p kind homes a are j at m.0 m.1 q (sym (same_Some 6 at g)))
one_word_one_value d p kind homes process depth a (suc i) zero at v u are e f g q =
    let m = mapped (λ (h : Held). h.value) (held_of p a) i v e in
    absurd (not_the_own d p kind homes a are i at m.0 m.1 g (sym (same_Some 6 at q)))
one_word_one_value d p kind homes process depth a (suc i) (suc j) at v u are e f g q =
    let m = mapped (λ (h : Held). h.value) (held_of p a) i v e in
    let n = mapped (λ (h : Held). h.value) (held_of p a) j u f in
    m.2 ∙ same_held d p kind homes a are i j at m.0 n.0 m.1 n.1 (sym (spot_is d p kind homes a are i m.0 m.1) ∙ g)
    (sym (spot_is d p kind homes a are j n.0 n.1) ∙ q) ∙ sym n.2
