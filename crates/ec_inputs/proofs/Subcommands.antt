-- Where clap takes the words of a run, or of its meaning, what it found for the budget is a number in its range; so for the number of a
-- trial.
use Rattle.std.proofs.Common.{◌≡◌, refl, sym, ◌∙◌, ℕ, Bool, true, false, cond, ◌||◌, not, ◌⊎◌, inl, inr, List, []}
use Rattle.std.proofs.Common.{◌∷◌, Some, None, true≢false, codes}
use Rattle.std.proofs.lemmas.Slice.Eq.{bytes_eq-Decides}
use Rattle.std.specs.Option.{option_map_or}
use Rattle.std.specs.Str.{bytes_eq}
use Rattle.std.specs.List.{find, fold}
use Rattle.clap.specs.Facts.{explicit_source}
use Rattle.clap.specs.Faults.{check_fault, entered_fault, fault_of}
use Rattle.clap.specs.Kinds.{check_kinds}
use Rattle.clap.specs.Simple.{App, Shape, argument_words, built, built_leaf, filled, inherited, marked_built, names_of}
use Rattle.clap.specs.Simple.{subcommand_of, with_index, with_leaf_noted}
use Rattle.clap.specs.Takes.{is_given}
use Rattle.clap.specs.Walk.{Row, Text, has_row, one_of, stop_after, with_default}
use Rattle.ec_inputs.specs.Words.{IsBudget, IsTrialNumber, app, required_word, run_named, trial}
use Rattle.ec_inputs.proofs.Given.{AllKnown, EachTakes, Fine, IsKnown, NumberArgument, TakesNumber, default_fine, entered_found, is_own}
use Rattle.ec_inputs.proofs.Given.{or_none, own, own_found, own_there}

abbrev pub built_sub : App → Shape
built_sub a = built_leaf (inherited (with_leaf_noted (marked_built app.top)) a.top)

own_known : (number : NumberArgument) → IsKnown number (own number)
own_known number = record { same = λ is. refl; set = refl }

-- ---- runs and meanings

abbrev budget_argument : NumberArgument
budget_argument = record {
  id = codes "budget";
  long = Some (codes "budget");
  index = None;
  default = Some (codes "1000000");
  required = false;
  low = 1;
  high = 4000000000;
  fits = refl;
}

positional_known : (name : Text) (i : ℕ) → is_own budget_argument name ≡ false →
    IsKnown budget_argument (with_index i (filled (required_word name)))
positional_known name i other = record { same = λ is. absurd (true≢false (sym is ∙ other)); set = refl }

-- the rows with the defaults of the four arguments of a run
complete : (name : Text) (rows : List Row) → Fine budget_argument rows →
    IsBudget (one_of (codes "budget") (fold with_default rows (built_sub (run_named name)).rules))
complete name rows f =
    let budget = own budget_argument in
    let source = with_index 1 (filled (required_word (codes "source"))) in
    let nodes = with_index 2 (filled (required_word (codes "nodes"))) in
    let schedule = with_index 3 (filled (required_word (codes "schedule"))) in
    let fine = default_fine budget_argument in
    let one = fine source rows (positional_known (codes "source") 1 refl) f in
    let two = fine nodes (with_default rows source) (positional_known (codes "nodes") 2 refl) one in
    let three = fine schedule (with_default (with_default rows source) nodes) (positional_known (codes "schedule") 3 refl) two in
    let last = with_default (with_default (with_default rows source) nodes) schedule in
    own_found budget_argument (with_default last budget) (fine budget last (own_known budget_argument) three)
    (own_there budget_argument (codes "1000000") last refl)

run_known : (name : Text) → AllKnown budget_argument (built_sub (run_named name)).rules
run_known name =
    let word = positional_known in (
      word (codes "source") 1 refl,
      (word (codes "nodes") 2 refl, (word (codes "schedule") 3 refl, (own_known budget_argument, tt))),
    )

run_takes : (name : Text) → TakesNumber budget_argument (built_sub (run_named name))
run_takes name = record { known = run_known name; complete = λ rows f none. complete name rows f }

-- the name of a run, or of its meaning
abbrev pub NamesRun : Text → Type 0
NamesRun name = (name ≡ codes "run") ⊎ (name ≡ codes "mean")

check_is_no_run : NamesRun (codes "check") → ⊥
check_is_no_run (inl e) = cc
check_is_no_run (inr e) = cc

trial_is_no_run : NamesRun (codes "trial") → ⊥
trial_is_no_run (inl e) = cc
trial_is_no_run (inr e) = cc

runs_take : EachTakes budget_argument NamesRun (built app).subs
runs_take = (
  λ is. run_takes (codes "run"),
  (λ is. absurd (check_is_no_run is), (λ is. run_takes (codes "mean"), (λ is. absurd (trial_is_no_run is), tt))),
)

-- ---- trials

abbrev trial_argument : NumberArgument
trial_argument = record {
  id = codes "number";
  long = None;
  index = Some 1;
  default = None;
  required = true;
  low = 0;
  high = 4294967295;
  fits = tt;
}

-- what is given has a row
given_there : (id : Text) (rows : List Row) → is_given id rows ≡ true → has_row id rows ≡ true
given_there id [] e = absurd (true≢false (sym e))
given_there id (r ∷ rs) e = go (bytes_eq r.id id) (λ h. given_there id rs h) e
  where
    go : (b : Bool) → (is_given id rs ≡ true → has_row id rs ≡ true) →
        option_map_or (λ q. explicit_source q.source) (cond b (Some r) (find (λ q. bytes_eq q.id id) rs)) false ≡ true →
        (b || has_row id rs) ≡ true
    go true more h = refl
    go false more h = more h

-- where nothing that is required is missing, the number is given
number_given : (b : Bool) → check_kinds false false (not b || false) ≡ [] → b ≡ true
number_given true e = refl
number_given false e = let bad : ⊥ = cc in absurd bad

trial_complete : (rows : List Row) → Fine trial_argument rows →
    check_fault (built_sub trial) (with_default rows (own trial_argument)) false ≡ [] →
    IsTrialNumber (one_of (codes "number") (with_default rows (own trial_argument)))
trial_complete rows f none =
    let last = with_default rows (own trial_argument) in
    own_found trial_argument last (default_fine trial_argument (own trial_argument) rows (own_known trial_argument) f)
    (given_there (codes "number") last (number_given (is_given (codes "number") last) none))

trial_takes : TakesNumber trial_argument (built_sub trial)
trial_takes = record { known = (own_known trial_argument, tt); complete = trial_complete }

abbrev pub NamesTrial : Text → Type 0
NamesTrial name = name ≡ codes "trial"

other_name : (name : Text) → bytes_eq (codes "trial") name ≡ false → NamesTrial name → ⊥
other_name name other is = true≢false (sym ((bytes_eq-Decides (codes "trial") name).1 (sym is)) ∙ other)

trials_take : EachTakes trial_argument NamesTrial (built app).subs
trials_take = (
  λ is. absurd (other_name (codes "run") refl is),
  (
    λ is. absurd (other_name (codes "check") refl is),
    (λ is. absurd (other_name (codes "mean") refl is), (λ is. trial_takes, tt)),
  ),
)

-- ---- the command

-- no fault of the whole is none of the subcommand
below_none : (words : List Text) → fault_of app words ≡ [] →
    entered_fault (built app) (stop_after (built app).top.rules (names_of (built app)) (argument_words app words)) ≡ []
below_none words none =
    let levels = or_none _ _ none in
    let below = or_none _ _ levels.1 in
    below.0

pub budget_found : (words : List Text) (name : Text) (rows : List Row) → NamesRun name → fault_of app words ≡ []
    → subcommand_of app words ≡ Some (name, rows) → IsBudget (one_of (codes "budget") rows)
budget_found words name rows is none found =
    entered_found budget_argument NamesRun (built app) runs_take name rows is
    (stop_after (built app).top.rules (names_of (built app)) (argument_words app words)) (below_none words none) found

pub trial_found : (words : List Text) (name : Text) (rows : List Row) → NamesTrial name → fault_of app words ≡ []
    → subcommand_of app words ≡ Some (name, rows) → IsTrialNumber (one_of (codes "number") rows)
trial_found words name rows is none found =
    entered_found trial_argument NamesTrial (built app) trials_take name rows is
    (stop_after (built app).top.rules (names_of (built app)) (argument_words app words)) (below_none words none) found
