-- What the words are, by what clap answers.
use Rattle.std.proofs.Common.{refl, sym, ◌∙◌, ap, ap₂, ◌≡◌, ◌⊎◌, inl, inr, List, [], ◌∷◌, Option, Some, None}
use Rattle.std.proofs.Common.{is_some, Bool, true, false, cond, option_map, subst, codes}
use Rattle.std.specs.Prelude.{Box, option_and_then}
use Rattle.std.specs.Box.{box_value}
use Rattle.clap.specs.Faults.{check_fault, defaults_fault, entered_fault, level_fault, settle_fault, walk_fault}
use Rattle.clap.specs.Simple.{Shape, argument_words, built, entered, names_of, rows_at}
use Rattle.clap.specs.Walk.{Held, Names, answers_to, finished, nothing_held, settled, stop_after, walk, walk_from}
use Rattle.clap.specs.Words.{App, Row, Text, Kinds, IsAmong, fault_of, is_simple, is_simple_and_free, one_of, subcommand_of}
use Rattle.clap.specs.Words.{subcommand_rows_of, subcommand_rows, subcommand_name_of}
use Rattle.clap.specs.declared.error.ErrorKind.{ErrorKind}
use Rattle.clap.specs.declared.error.ErrorKind.TheVariants as kinds
use Rattle.clap.specs.declared.parser.matches.ArgMatches.{ArgMatches}
use Rattle.clap.specs.declared.parser.matches.SubCommand.{SubCommand}
use Rattle.clap.specs.declared.parser.matches.ArgMatches.TheViews.{out-ArgMatches, out-SubCommand}
use Rattle.ec_inputs.specs.Words.{IsBudget, IsTrialNumber, app, check, command_of, mean, run, trial, unless_fault, WordsOf}
use Rattle.ec_inputs.proofs.Given.{or_none}
use Rattle.ec_inputs.proofs.Subcommands.{NamesRun, NamesTrial, budget_found, built_sub, trial_found}

pub simple : is_simple_and_free app ≡ true
simple = refl

pub simple_too : is_simple app ≡ true
simple_too = refl

none_left : (found : Kinds) (k : ErrorKind) (o : Option (Text × List Row)) → IsAmong k found
    → option_and_then command_of (unless_fault found o) ≡ None
none_left [] k o h = absurd h
none_left (x ∷ found) k o h = refl

-- clap refuses the words
pub refused : (a : App) (ws : List Text) (k : ErrorKind) → a ≡ app →
    (is_simple_and_free a ≡ true → (k ≡ kinds.OutOfMemory) ⊎ IsAmong k (fault_of a ws))
    → (k ≡ kinds.OutOfMemory → ⊥) → WordsOf ws ≡ None
unfolding WordsOf
refused a ws k e h n = elim (h (ap is_simple_and_free e ∙ simple)) [
  | inl o ↦ absurd (n o)
  | inr o ↦ none_left (fault_of app ws) k (subcommand_of app ws) (subst (λ b. IsAmong k (fault_of b ws)) e o)
]

-- clap takes the words
pub answered : (a : App) (ws : List Text) (found : Option (Text × List Row)) → a ≡ app →
    (is_simple_and_free a ≡ true → fault_of a ws ≡ []) → found ≡ subcommand_of a ws
    → WordsOf ws ≡ option_and_then command_of found
unfolding WordsOf
answered a ws found e h f =
    ap₂ (λ faults o. option_and_then command_of (unless_fault faults o))
    (ap (λ b. fault_of b ws) (sym e) ∙ h (ap is_simple_and_free e ∙ simple)) (ap (λ b. subcommand_of b ws) (sym e) ∙ sym f)

pub found_budget : (a : App) (ws : List Text) (name : Text) (rows : List Row) → NamesRun name → a ≡ app
    → (is_simple_and_free a ≡ true → fault_of a ws ≡ []) → Some (name, rows) ≡ subcommand_of a ws
    → IsBudget (one_of (codes "budget") rows)
found_budget a ws name rows is_run e h f =
    budget_found ws name rows is_run (ap (λ b. fault_of b ws) (sym e) ∙ h (ap is_simple_and_free e ∙ simple))
    (ap (λ b. subcommand_of b ws) (sym e) ∙ sym f)

pub found_trial : (a : App) (ws : List Text) (name : Text) (rows : List Row) → NamesTrial name → a ≡ app
    → (is_simple_and_free a ≡ true → fault_of a ws ≡ []) → Some (name, rows) ≡ subcommand_of a ws
    → IsTrialNumber (one_of (codes "number") rows)
found_trial a ws name rows is_trial e h f =
    trial_found ws name rows is_trial (ap (λ b. fault_of b ws) (sym e) ∙ h (ap is_simple_and_free e ∙ simple))
    (ap (λ b. subcommand_of b ws) (sym e) ∙ sym f)

pub pairs : {A B : Type 0} (o : Option (A × B)) (a : A) (b : B) → option_map (λ p. p.0) o ≡ Some a →
    option_map (λ p. p.1) o ≡ Some b → o ≡ Some (a, b)
pairs None a b e f = cc
pairs (Some p) a b e f = let x : p.0 ≡ a = cc in let y : p.1 ≡ b = cc in ap₂ (λ u v. Some (u, v)) x y

pub names : (m : ArgMatches) → option_map (λ p. p.0) (subcommand_rows_of m) ≡ subcommand_name_of m
names m = go (out-ArgMatches m).subcommand
  where
    go : {Z : Type 0} (o : Option (Box SubCommand Z)) →
        option_map (λ p. p.0) (subcommand_rows o) ≡ option_map (λ b. (out-SubCommand (box_value b)).name.now) o
    go None = refl
    go (Some b) = refl

pub nothing : {A B : Type 0} (o : Option (A × B)) → option_map (λ p. p.0) o ≡ None → o ≡ None
nothing None e = refl
nothing (Some p) e = cc

-- clap knows no other names: where it takes the words, they are a command
checked : (s : Shape) (names : Names) (h : Held) (words : List Text) (has : Bool) (below : Kinds)
    → level_fault s names h words has below ≡ []
    → check_fault s (finished s.rules (walk s.rules names h words).held) has ≡ []
checked s names h words has below none =
    let end = (walk s.rules names h words).held in
    let walks = or_none (walk_fault s names (walk_from h) words) _ none in
    let under = or_none below _ walks.1 in
    let settles = or_none (settle_fault s.rules s.args_override_self end) _ under.1 in
    let defaults = or_none (defaults_fault (settled s.rules end).rows s.rules) _ settles.1 in
    defaults.1

needed : (rows : List Row) (has : Bool) → check_fault (built app).top rows has ≡ [] → has ≡ true
needed rows true e = refl
needed rows false e = cc

named : (stop : Option (Text × List Text)) → is_some (entered (built app) stop) ≡ true
    → is_some (option_and_then command_of (entered (built app) stop)) ≡ true
named None e = e
named (Some p) e =
    let by = λ (name : Text). answers_to p.0 (name, []) in
    go (by (codes "run")) (by (codes "check")) (by (codes "mean")) (by (codes "trial")) e
  where
    found : Bool → Bool → Bool → Bool → Option (Text × List Row)
    found a b c d = option_map (λ s. rows_at s p.1)
        (cond a (Some (built_sub run)) (cond b (Some (built_sub check))
        (cond c (Some (built_sub mean)) (cond d (Some (built_sub trial)) None))))

    go : (a b c d : Bool) → is_some (found a b c d) ≡ true → is_some (option_and_then command_of (found a b c d)) ≡ true
    go true b c d h = refl
    go false true c d h = refl
    go false false true d h = refl
    go false false false true h = refl
    go false false false false h = h

pub taken : (words : List Text) → fault_of app words ≡ [] → is_some (WordsOf words) ≡ true
unfolding WordsOf
taken words none =
    let top = (built app).top in
    let labels = names_of (built app) in
    let own = argument_words app words in
    let stop = stop_after top.rules labels own in
    let has = is_some (entered (built app) stop) in
    let last = checked top labels nothing_held own has (entered_fault (built app) stop) none in
    let there = needed (finished top.rules (walk top.rules labels nothing_held own).held) has last in
    subst (λ faults. is_some (option_and_then command_of (unless_fault faults (subcommand_of app words))) ≡ true) (sym none)
    (named stop there)
