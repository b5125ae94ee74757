-- Lists of words of other lengths than a form of a line has.
use Rattle.std.proofs.Common.{◌≡◌, refl, ◌<◌, ◌≤◌, List, [], ◌∷◌, length, map, arith}
use Rattle.std.specs.Prelude.{Err}
use Rattle.std.specs.Borrow.{Bor}
use Rattle.ec_inputs.specs.Schedules.{Text, turn_by, move_by}
use Rattle.ec_inputs.specs.declared.schedule.ScheduleRule.TheVariants as rule

abbrev now : List (Bor Text) → List Text
now ws = map (λ word. word.now) ws

pub turn_of_two : (ws : List (Bor Text)) → 2 ≤ length ws → length ws < 3 → Err rule.Form ≡ turn_by (now ws)
turn_of_two [] h k = absurd (omega arith)
turn_of_two (a ∷ []) h k = absurd (omega arith)
turn_of_two (a ∷ b ∷ []) h k = refl
turn_of_two (a ∷ b ∷ d ∷ ws) h k = absurd (omega arith)

pub turn_of_many : (ws : List (Bor Text)) → 4 ≤ length ws → Err rule.Form ≡ turn_by (now ws)
turn_of_many [] h = absurd (omega arith)
turn_of_many (a ∷ []) h = absurd (omega arith)
turn_of_many (a ∷ b ∷ []) h = absurd (omega arith)
turn_of_many (a ∷ b ∷ d ∷ []) h = absurd (omega arith)
turn_of_many (a ∷ b ∷ d ∷ e ∷ ws) h = refl

pub move_of_few : (ws : List (Bor Text)) → length ws < 3 → Err rule.Form ≡ move_by (now ws)
move_of_few [] h = refl
move_of_few (a ∷ []) h = refl
move_of_few (a ∷ b ∷ []) h = refl
move_of_few (a ∷ b ∷ d ∷ ws) h = absurd (omega arith)

pub move_of_many : (ws : List (Bor Text)) → 4 ≤ length ws → Err rule.Form ≡ move_by (now ws)
move_of_many [] h = absurd (omega arith)
move_of_many (a ∷ []) h = absurd (omega arith)
move_of_many (a ∷ b ∷ []) h = absurd (omega arith)
move_of_many (a ∷ b ∷ d ∷ []) h = absurd (omega arith)
move_of_many (a ∷ b ∷ d ∷ e ∷ ws) h = refl
