-- What waits where an activation rests, of what its stop gives.
use Rattle.std.proofs.Common.{◌≡◌, ℕ, true, List, Option, Some, None, refl, sym, ap, ◌∙◌}
use Rattle.std.proofs.lemmas.Bool.{true≢false}
use Rattle.std.proofs.lemmas.Option.{same_Some}
use Rattle.ec_activations.specs.Frames.{Numbered, stop_of}
use Rattle.ec_code.specs.Activations.{begun, finished}
use Rattle.ec_code.specs.Typing.{Declared}
use Rattle.ec_code.specs.declared.activation.CodeActivation.{CodeActivation}
use Rattle.ec_code.specs.declared.code.Live.{Live}
use Rattle.ec_code.specs.declared.code.Parts.{Parts}
use Rattle.ec_code.specs.declared.code.Variable.{Variable}
use Rattle.ec_types.specs.declared.conform.static_type.StaticType.{StaticType}
use Rattle.ec_packing.specs.Between.{StillWaits}
use Rattle.ec_activations.proofs.Entries.{rests_at_an_entry}
use Rattle.ec_activations.specs.RestingLaws.{its_entry}
use Rattle.ec_code.specs.Sound.{RestsAt}
use Rattle.ec_generate.specs.Entries.{result_of}
use Rattle.ec_generate.specs.declared.table.StopEntry.{StopEntry}
use Rattle.ec_world.specs.declared.object.ObjectRec.{ObjectRec}
use Rattle.ec_world.specs.declared.value.Value.{Value}

-- Where the action of a stop is to be done, nothing has come yet.
pub pending_waits : (p : Parts) (a : CodeActivation) → a.pending ≡ true → StillWaits p a
pending_waits p a pending e rests = record { rests = rests; waits = λ l done is. absurd (true≢false (sym pending ∙ done)) }

pub begun_waits : (p : Parts) (operation own : ℕ) (args : List Value) → StillWaits p (begun operation own args)
begun_waits p operation own args = pending_waits p (begun operation own args) refl

-- what takes the result of an entry is what its row has
of_row : (into : Option Variable) (gives : Option StaticType) (l : Live) → result_of into gives ≡ Some l → into ≡ Some l.variable
of_row None gives l e = absurd cc
of_row (Some x) None l e = absurd cc
of_row (Some x) (Some s) l e = ap (λ (u : Live). Some u.variable) (same_Some (record { variable = x; of = s }) l e)

module _ (d : Declared) (p : Parts) (objects : List ObjectRec) (a : CodeActivation) (r : RestsAt d p objects a) where
  abbrev found : ℕ
  found = (rests_at_an_entry d p objects a r).0

  -- the entry at which it rests is that of its row
  same_entry : (n : ℕ) (e : StopEntry) → stop_of p a ≡ Some (record { number = n; entry = e }) → its_entry d p objects a r ≡ e
  same_entry n e is =
      ap (λ (s : Numbered). s.entry)
      (same_Some (record { number = found; entry = its_entry d p objects a r }) (record { number = n; entry = e })
      (sym (rests_at_an_entry d p objects a r).1 ∙ is))

  waits : a.into ≡ r.row.into → (n : ℕ) (e : StopEntry) → stop_of p a ≡ Some (record { number = n; entry = e }) → (l : Live) →
      e.result ≡ Some l → a.into ≡ Some l.variable
  waits into n e is l result =
      into ∙ of_row r.row.into r.row.gives l (ap (λ (x : StopEntry). x.result) (same_entry n e is) ∙ result)

  -- so it waits where its action is done without anything that came
  pub blocked_waits : a.into ≡ r.row.into → StillWaits p (finished a None)
  blocked_waits into e rests =
      record { rests = rests; waits = λ l done result. waits into rests.number e rests.is l result }
