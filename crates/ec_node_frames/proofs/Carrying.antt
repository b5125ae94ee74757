-- What an activation that goes to another node holds is what goes with it.
use Rattle.std.proofs.Common.{◌≡◌, suc, Bool, true, false, List, [], ◌∷◌, ◌++◌, length, map}
use Rattle.std.proofs.Common.{Option, Some, None, refl, sym, ap, ◌∙◌}
use Rattle.std.specs.Prelude.{if◌then◌else◌}
use Rattle.ec_activations.specs.Frames.{Held, held_if, held_in, held_of, result_in, value_in}
use Rattle.ec_node_frames.specs.Carried.{IsCarried, carried, values_carried}
use Rattle.ec_code.specs.declared.activation.CodeActivation.{CodeActivation}
use Rattle.ec_code.specs.declared.code.Live.{Live}
use Rattle.ec_code.specs.declared.code.Parts.{Parts}
use Rattle.ec_node_frames.proofs.Items.{map_both}
use Rattle.ec_generate.specs.declared.table.StopEntry.{StopEntry}
use Rattle.ec_world.specs.declared.value.Value.{Value}

abbrev pub with_value : Parts → CodeActivation → Live → Held
with_value p a l = record { variable = l.variable; value = value_in p a l.variable }

abbrev pub value_held : Held → Value
value_held h = h.value

-- ---- what is held

-- what waits for what the stop gives has nothing of it
no_result : (p : Parts) (a : CodeActivation) (r : Option Live) → ((l : Live) → r ≡ Some l → a.into ≡ Some l.variable) →
    result_in p a r a.into ≡ []
no_result p a None waits = refl
no_result p a (Some l) waits = ap (result_in p a (Some l)) (waits l refl)

module _ (p : Parts) (a : CodeActivation) (e : StopEntry) where
  front_is : (b : Bool) → ((l : Live) → b ≡ false → e.result ≡ Some l → a.into ≡ Some l.variable) →
      (if b then held_in p a e.operands else result_in p a e.result a.into) ≡ held_in p a (if b then e.operands else [])
  front_is true waits = refl
  front_is false waits = no_result p a e.result (λ l is. waits l refl is)

  -- what an activation holds is what goes with it
  pub held_carried : IsCarried p a e → held_of p a ≡ held_in p a (carried e a.pending)
  held_carried goes =
      ap (held_if p a) goes.rests.is
      ∙ ap (λ (hs : List Held). hs ++ held_in p a e.live) (front_is a.pending goes.waits)
      ∙ map_both (with_value p a) (if a.pending then e.operands else []) e.live

  pub held_when : (pending : Bool) → IsCarried p a e → a.pending ≡ pending → held_of p a ≡ held_in p a (carried e pending)
  held_when pending goes is = held_carried goes ∙ ap (λ b. held_in p a (carried e b)) is

-- ---- how it is read

pub values_of_held : (p : Parts) (a : CodeActivation) (held : List Live) →
    map (λ l. value_in p a l.variable) held ≡ map value_held (held_in p a held)
values_of_held p a [] = refl
values_of_held p a (l ∷ ls) = ap (λ (vs : List Value). value_in p a l.variable ∷ vs) (values_of_held p a ls)

pub read_carried : (p : Parts) (a : CodeActivation) (e : StopEntry) (pending : Bool) →
    map (λ l. value_in p a l.variable) (carried e pending) ≡ values_carried p a e pending
read_carried p a e pending = values_of_held p a (carried e pending)

many_mapped : {A B : Type 0} (f : A → B) (xs : List A) → length (map f xs) ≡ length xs
many_mapped f [] = refl
many_mapped f (x ∷ xs) = ap suc (many_mapped f xs)

-- as many values go as variables
pub many_carried : (p : Parts) (a : CodeActivation) (e : StopEntry) (pending : Bool) →
    length (values_carried p a e pending) ≡ length (carried e pending)
many_carried p a e pending =
    ap (λ (vs : List Value). length vs) (sym (read_carried p a e pending))
    ∙ many_mapped (λ (l : Live). value_in p a l.variable) (carried e pending)
