-- Where clap takes the words of a subcommand, what it found for an argument that is a number is one in its range: among its rows there is
-- at most one of the argument, which has one value, and the value passed the argument's parser.
use Rattle.std.proofs.Common.{◌≡◌, refl, sym, ap, ◌∙◌, subst, arith, ℕ, Bool, true, false, cond, zero, suc, ◌==◌, ◌&&◌, ◌||◌}
use Rattle.std.proofs.Common.{List, [], ◌∷◌, ◌++◌, length, drop, Option, Some, None, true≢false, is_some, unwrap_or}
use Rattle.std.specs.Prelude.{slice_get, option_map, option_and_then, encode_utf8, pos}
use Rattle.std.specs.List.{find, fold}
use Rattle.std.specs.Option.{option_map_or}
use Rattle.std.specs.Str.{bytes_eq, chars}
use Rattle.std.proofs.lemmas.Slice.Eq.{bytes_eq-Decides}
use Rattle.std.proofs.lemmas.Bool.{eqb-true}
use Rattle.clap.specs.Lexer.{long_of, short_of, without_minus}
use Rattle.clap.specs.ValueTests.{accepts, is_signed_in}
use Rattle.clap.specs.Facts.{parser_of_value}
use Rattle.clap.specs.Kinds.{Kinds, or_else, range_kinds, value_kinds}
use Rattle.clap.specs.Faults.{use_fault, repeat_fault, values_fault, settle_fault, stray_fault, react_fault, option_fault}
use Rattle.clap.specs.Faults.{long_fault, short_fault, bundle_step_fault, flags_fault, flag_word_fault, other_fault, word_fault}
use Rattle.clap.specs.Faults.{positional_fault, step_fault, turn_fault, walk_fault, level_fault, entered_fault, check_fault}
use Rattle.clap.specs.Walk.{Held, Outcome, Row, Rule, Step, Text, Waiting, Walk, action_of, after_flag, after_step, answers_to}
use Rattle.clap.specs.Walk.{arg_by_id, arg_by_index, arg_by_long, arg_by_short, at_row, attached_value, bundle_met, bundle_step}
use Rattle.clap.specs.Walk.{default_rows, done, has_row, idle, is_pending, long_met, long_or_other, more_values, next, nothing_held}
use Rattle.clap.specs.Walk.{one_of, option, option_met, option_word, plain, plain_word, positional, reacted, reading_by, refused}
use Rattle.clap.specs.Walk.{row_text, rows_after, settled, settled_rows, short_met, short_or_plain, subcommand}
use Rattle.clap.specs.Walk.{subcommand_met, subcommand_or_other, takes_several, takes_values, to_positional, trailing, used}
use Rattle.clap.specs.Walk.{used_as, used_by_id, value, values_or_missing, waits, walk, walk_from, walked, walked_from, flag_met}
use Rattle.clap.specs.Walk.{with_default, with_values, without, word_met}
use Rattle.clap.specs.Simple.{App, Shape, entered, label_of, new_rule, rows_at}
use Rattle.clap.specs.declared.builder.action.ArgAction.TheVariants.{Set}
use Rattle.clap.specs.declared.builder.value_parser.ValueParser.TheVariants as vp
use Rattle.clap.specs.declared.error.kind.ErrorKind.TheVariants as kind
use Rattle.clap.specs.declared.parser.matches.ValueSource.{ValueSource}
use Rattle.clap.specs.declared.parser.matches.ValueSource.TheVariants.{DefaultValue, CommandLine}
use Rattle.clap.proofs.ValueTestLemmas.{accepts-Accepts}
use Rattle.ec_inputs.specs.Words.{IsNumberIn}

pub or_none : (a b : Kinds) → or_else a b ≡ [] → (a ≡ []) × (b ≡ [])
or_none [] b e = (refl, e)
or_none (k ∷ ks) b e = let bad : ⊥ = cc in absurd bad

or_false : (a b : Bool) → (a || b) ≡ false → (a ≡ false) × (b ≡ false)
or_false true b e = absurd (true≢false e)
or_false false b e = (refl, e)

-- where a test that fails has a kind, and there is none, it passed
passes_if : {K : Type 0} (b : Bool) (k : K) (ks : List K) → cond b [] (k ∷ ks) ≡ [] → b ≡ true
passes_if true k ks e = refl
passes_if false k ks e = let bad : ⊥ = cc in absurd bad

one_wanted : (n : ℕ) → range_kinds 1 1 n ≡ [] → 1 ≡ n
one_wanted n e = eqb-true 1 n (go (n == 0) (1 == n) e)
  where
    go : (a b : Bool) → cond a (kind.InvalidValue ∷ []) (cond b [] (kind.WrongNumberOfValues ∷ [])) ≡ [] → b ≡ true
    go true b h = let bad : ⊥ = cc in absurd bad
    go false b h = passes_if b kind.WrongNumberOfValues [] h

one_value : (values : List Text) → 1 ≡ length values → (v : Text) × (values ≡ v ∷ [])
one_value [] e = absurd (omega arith)
one_value (v ∷ []) e = (v, refl)
one_value (v ∷ w ∷ ws) e = absurd (omega arith)

-- ---- the argument

-- its default, where it has one, is in its range
abbrev pub Fits : ℕ → ℕ → Option Text → Type 0
Fits low high None = Unit {0}
Fits low high (Some v) = is_signed_in (pos low) (pos high) v ≡ true

-- an argument that is one whole number in a range
pub record NumberArgument : Type 0 where
  pub id : Text
  pub long : Option Text
  pub index : Option ℕ
  pub default : Option Text
  pub required : Bool
  pub low : ℕ
  pub high : ℕ
  pub fits : Fits low high default

abbrev default_texts : Option Text → List Text
default_texts None = []
default_texts (Some v) = v ∷ []

-- it as clap completes it
abbrev pub rule_for : NumberArgument → Rule
rule_for number = record (new_rule number.id) {
  long = number.long;
  index = number.index;
  action = Some Set;
  range = Some (record { start_inclusive = 1; end_inclusive = 1 });
  defaults = default_texts number.default;
  parser = Some (vp.Signed (pos number.low) (pos number.high));
  required = number.required;
}

module _ (number : NumberArgument) where
  -- ---- the rows that are fine

  abbrev pub own : Rule
  own = rule_for number

  abbrev pub own_passes : Text → Bool
  own_passes v = accepts own.ignore_case (parser_of_value own.parser) v

  -- the row has one value, which passed
  pub record Passes (r : Row) : Type 0 where
    pub given : Text
    pub one : r.values ≡ given ∷ []
    pub accepted : own_passes given ≡ true
    pub read : r.reading ≡ reading_by own

  abbrev pub is_own : Text → Bool
  is_own id = bytes_eq id own.id

  own_is_own : is_own own.id ≡ true
  own_is_own = (bytes_eq-Decides own.id own.id).1 refl

  abbrev pub FineBy : Bool → Row → List Row → Type 0 → Type 0
  FineBy true r rs more = Passes r × (has_row own.id rs ≡ false)
  FineBy false r rs more = more

  -- at most one row is the argument's, and it passes
  abbrev pub Fine : List Row → Type 0
  Fine [] = Unit {0}
  Fine (r ∷ rs) = FineBy (is_own r.id) r rs (Fine rs)

  absent : (rows : List Row) → has_row own.id rows ≡ false → Fine rows
  absent [] e = tt
  absent (r ∷ rs) e = go (λ h. absent rs h) (is_own r.id) e
    where
      go : (has_row own.id rs ≡ false → Fine rs) → (b : Bool) → (b || has_row own.id rs) ≡ false → FineBy b r rs (Fine rs)
      go more true h = absurd (true≢false h)
      go more false h = more h

  removed : (rows : List Row) → Fine rows → has_row own.id (without own.id rows) ≡ false
  removed [] f = refl
  removed (r ∷ rs) f = go (λ h. removed rs h) (is_own r.id) refl f
    where
      go : (Fine rs → has_row own.id (without own.id rs) ≡ false) → (b : Bool) → is_own r.id ≡ b → FineBy b r rs (Fine rs)
          → has_row own.id (cond b rs (r ∷ without own.id rs)) ≡ false
      go more true e h = h.1
      go more false e h = rw e (more h)

  append_absent : (xs ys : List Row) → has_row own.id xs ≡ false → has_row own.id ys ≡ false → has_row own.id (xs ++ ys) ≡ false
  append_absent [] ys e h = h
  append_absent (x ∷ xs) ys e h = let parts = or_false (is_own x.id) (has_row own.id xs) e in rw parts.0 (append_absent xs ys parts.1 h)

  append_fine : (xs ys : List Row) → has_row own.id xs ≡ false → Fine ys → Fine (xs ++ ys)
  append_fine [] ys e h = h
  append_fine (x ∷ xs) ys e h = let parts = or_false (is_own x.id) (has_row own.id xs) e in rw parts.0 (append_fine xs ys parts.1 h)

  -- a change of the rows of another id
  module _ (id : Text) (change : Row → List Row) (missing : List Row) (other : is_own id ≡ false)
      (changes : (r : Row) → r.id ≡ id → has_row own.id (change r) ≡ false) (misses : has_row own.id missing ≡ false) where
    at_absent : (rows : List Row) → has_row own.id rows ≡ false → has_row own.id (at_row id change missing rows) ≡ false
    at_absent [] e = misses
    at_absent (r ∷ rs) e = let parts = or_false _ _ e in go (at_absent rs parts.1) (bytes_eq r.id id) refl parts.0 parts.1
      where
        go : has_row own.id (at_row id change missing rs) ≡ false → (b : Bool) → bytes_eq r.id id ≡ b → is_own r.id ≡ false →
            has_row own.id rs ≡ false
            → has_row own.id (cond b (change r ++ rs) (r ∷ at_row id change missing rs)) ≡ false
        go more true is mine rest = append_absent (change r) rs (changes r ((bytes_eq-Decides r.id id).0 is)) rest
        go more false is mine rest = rw mine more

    at_fine : (rows : List Row) → Fine rows → Fine (at_row id change missing rows)
    at_fine [] f = absent missing misses
    at_fine (r ∷ rs) f = go (λ h. at_fine rs h) (bytes_eq r.id id) refl f
      where
        rest : (Fine rs → Fine (at_row id change missing rs)) → (b : Bool) → FineBy b r rs (Fine rs)
            → FineBy b r (at_row id change missing rs) (Fine (at_row id change missing rs))
        rest more true h = (h.0, at_absent rs h.1)
        rest more false h = more h

        go : (Fine rs → Fine (at_row id change missing rs)) → (b : Bool) → bytes_eq r.id id ≡ b → Fine (r ∷ rs)
            → Fine (cond b (change r ++ rs) (r ∷ at_row id change missing rs))
        go more true is h =
            let same : r.id ≡ id = (bytes_eq-Decides r.id id).0 is in
            let mine : is_own r.id ≡ false = ap is_own same ∙ other in
            let behind : Fine rs = rw mine at h in
            append_fine (change r) rs (changes r same) behind
        go more false is h = rest more (is_own r.id) h

  -- ---- a use of an argument

  -- an argument of the command is this one or has another id, and a use replaces what it had
  pub record IsKnown (a : Rule) : Type 0 where
    pub same : is_own a.id ≡ true → a ≡ own
    pub set : action_of a ≡ Set

  -- the argument's row joins where there is none
  added : (rows : List Row) (s : ValueSource) (v : Text) → has_row own.id rows ≡ false → own_passes v ≡ true
      → Fine (with_values own.id (reading_by own) s (v ∷ []) rows)
  added [] s v none passed = rw own_is_own (record { given = v; one = refl; accepted = passed; read = refl }, refl)
  added (r ∷ rs) s v none passed = let parts = or_false _ _ none in go (added rs s v parts.1 passed) (is_own r.id) refl parts.0
    where
      go : Fine (with_values own.id (reading_by own) s (v ∷ []) rs) → (b : Bool) → is_own r.id ≡ b → is_own r.id ≡ false
          → Fine (cond b (more_values s (v ∷ []) r ++ rs) (r ∷ with_values own.id (reading_by own) s (v ∷ []) rs))
      go more true is mine = absurd (true≢false (sym is ∙ mine))
      go more false is mine = rw mine more

  other_values : (a : Rule) (s : ValueSource) (values : List Text) (rows : List Row) → is_own a.id ≡ false → Fine rows
      → Fine (with_values a.id (reading_by a) s values rows)
  other_values a s values rows other f = at_fine a.id (more_values s values)
      (record { id = a.id; values = values; count = None; source = Some s; reading = reading_by a } ∷ []) other
      (λ r same. let mine : is_own r.id ≡ false = ap is_own same ∙ other in rw mine refl) (rw other refl) rows f

  own_used : (again : Bool) (values : List Text) (rows : List Row) → use_fault again own values rows ≡ [] → Fine rows →
      Fine (used own values rows)
  own_used again values rows none f =
      let parts = or_none _ _ none in
      let one = one_value values (one_wanted (length values) parts.0) in
      by one.0 (subst (λ vs. use_fault again own vs rows ≡ []) one.1 none) (sym one.1)
    where
      by : (v : Text) → use_fault again own (v ∷ []) rows ≡ [] → v ∷ [] ≡ values → Fine (used own values rows)
      by v e same =
          let faults = or_none (repeat_fault again own.id rows) (values_fault own (v ∷ [])) e in
          let passed = passes_if (own_passes v) kind.ValueValidation []
          (or_none (value_kinds own.ignore_case (parser_of_value own.parser) v) [] faults.1).0 in
          subst (λ vs. Fine (used own vs rows)) same (added (without own.id rows) CommandLine v (removed rows f) passed)

  used_fine : (again : Bool) (a : Rule) (values : List Text) (rows : List Row) → IsKnown a → use_fault again a values rows ≡ [] →
      Fine rows → Fine (used a values rows)
  used_fine again a values rows known none f = go (is_own a.id) refl
    where
      go : (b : Bool) → is_own a.id ≡ b → Fine (used a values rows)
      go true is =
          let same = sym (known.same is) in
          subst (λ r. Fine (used r values rows)) same
          (own_used again values rows (subst (λ r. use_fault again r values rows ≡ []) (known.same is) none) f)
      go false is = subst (λ x. Fine (used_as x a.id (reading_by a) (values_or_missing a values) rows)) (sym known.set)
          (other_values a CommandLine (values_or_missing a values) (without a.id rows) is
          (at_fine a.id (λ _. []) [] is (λ r same. refl) refl rows f))

  -- ---- the steps of a walk over the words

  module _ (s : Shape) (known : (p : Rule → Bool) (a : Rule) → find p s.rules ≡ Some a → IsKnown a) where
    settled_fine : (h : Held) → settle_fault s.rules s.args_override_self h ≡ [] → Fine h.rows → Fine (settled s.rules h).rows
    settled_fine h none f = go h.pending none
      where
        by : (o : Option Rule) (values : List Text) → ((a : Rule) → o ≡ Some a → IsKnown a)
            → option_map_or (λ a. use_fault s.args_override_self a values h.rows) o [] ≡ [] → Fine (used_by_id o values h.rows)
        by None values k e = f
        by (Some a) values k e = used_fine s.args_override_self a values h.rows (k a refl) e f

        go : (p : Option (Text × List Text)) →
            option_map_or (λ q. option_map_or (λ a. use_fault s.args_override_self a q.1 h.rows) (arg_by_id s.rules q.0) []) p [] ≡ []
            → Fine (settled_rows s.rules p h.rows)
        go None e = f
        go (Some q) e = by (arg_by_id s.rules q.0) q.1 (λ a found. known _ a found) e

    reacted_fine : (a : Rule) (values : List Text) (h : Held) → IsKnown a → react_fault s.rules s.args_override_self a values h ≡ [] →
        Fine h.rows → Fine (reacted s.rules a values h).rows
    reacted_fine a values h k none f =
        let parts = or_none _ _ none in
        used_fine s.args_override_self a values (settled s.rules h).rows k parts.1 (settled_fine h parts.0 f)

    option_fine : (a : Rule) (v : Option Text) (h : Held) → IsKnown a → option_fault s.rules s.args_override_self a v h ≡ [] →
        Fine h.rows → Fine (option_met s.rules a v h).0.rows
    option_fine a (Some v) h k none f = reacted_fine a (v ∷ []) h k none f
    option_fine a None h k none f = settled_fine h none f

    long_fine : (o : Option Rule) (v : Option Text) (h : Held) → ((a : Rule) → o ≡ Some a → IsKnown a)
        → long_fault s.rules s.args_override_self o v h ≡ [] → Fine h.rows → Fine (long_met s.rules o v h).0.rows
    long_fine None v h k none f = f
    long_fine (Some a) v h k none f = go (takes_values a) v none
      where
        go : (b : Bool) (w : Option Text) →
            cond b (option_fault s.rules s.args_override_self a w h)
            (cond (is_some w) (kind.TooManyValues ∷ []) (react_fault s.rules s.args_override_self a [] h)) ≡ []
            → Fine (cond b (option_met s.rules a w h) (flag_met s.rules a w h)).0.rows
        go true w e = option_fine a w h (k a refl) e f
        go false None e = reacted_fine a [] h (k a refl) e f
        go false (Some w) e = f

    bundle_fine : (n : ℕ) (flags : Text) (skip : ℕ) (so_far : Outcome) (h : Held) →
        flags_fault s.rules s.args_override_self n flags skip h ≡ [] → Fine h.rows
        → Fine (bundle_met s.rules n flags skip so_far h).0.rows
    unfolding flags_fault bundle_met
    bundle_fine zero flags skip so_far h none f = f
    bundle_fine (suc n) flags skip so_far h none f = go (λ fs k o i e g. bundle_fine n fs k o i e g) (slice_get (chars flags) 0) skip none
      where
        short : ((fs : Text) (k : ℕ) (o : Outcome) (i : Held) → flags_fault s.rules s.args_override_self n fs k i ≡ [] → Fine i.rows →
            Fine (bundle_met s.rules n fs k o i).0.rows) → (o : Option Rule) (rest : Text) → ((a : Rule) → o ≡ Some a → IsKnown a)
            → short_fault s.rules s.args_override_self o rest h (flags_fault s.rules s.args_override_self n rest 0) ≡ [] →
            Fine (short_met s.rules o rest h (bundle_met s.rules n rest 0 done)).0.rows
        short more None rest k e = f
        short more (Some a) rest k e = by (takes_values a) e
          where
            by : (b : Bool) → cond b (option_fault s.rules s.args_override_self a (attached_value rest) h)
                (or_else (react_fault s.rules s.args_override_self a [] h)
                (flags_fault s.rules s.args_override_self n rest 0 (reacted s.rules a [] h))) ≡ []
                → Fine (cond b (option_met s.rules a (attached_value rest) h)
                (bundle_met s.rules n rest 0 done (reacted s.rules a [] h))).0.rows
            by true e = option_fine a (attached_value rest) h (k a refl) e f
            by false e =
                let parts = or_none _ _ e in
                more rest 0 done (reacted s.rules a [] h) parts.1 (reacted_fine a [] h (k a refl) parts.0 f)

        go : ((fs : Text) (k : ℕ) (o : Outcome) (i : Held) → flags_fault s.rules s.args_override_self n fs k i ≡ [] → Fine i.rows →
            Fine (bundle_met s.rules n fs k o i).0.rows) → (o : Option ℕ) (k : ℕ) →
            bundle_step_fault s.rules s.args_override_self o flags k h (flags_fault s.rules s.args_override_self n) ≡ [] →
            Fine (bundle_step s.rules o flags k so_far h (bundle_met s.rules n)).0.rows
        go more None k e = f
        go more (Some x) zero e = short more (arg_by_short s.rules x) (drop (length (encode_utf8 x)) flags) (λ a found. known _ a found) e
        go more (Some x) (suc k) e = more (drop (length (encode_utf8 x)) flags) k so_far h e f

    -- a word that is no flag changes no row
    plain_rows : (w : Waiting) (word : Text) (h : Held) → (plain_word s.rules w word h).0.rows ≡ h.rows
    plain_rows idle word h = refl
    plain_rows positional word h = refl
    plain_rows (option id) word h = go (arg_by_id s.rules id)
      where
        go : (o : Option Rule) → (option_word o id word h).0.rows ≡ h.rows
        go None = refl
        go (Some a) = refl

    flag_rows : (w : Waiting) (word : Text) (h : Held) (o : Outcome) → (after_flag s.rules w word h o).0.rows ≡ h.rows
    flag_rows w word h done = refl
    flag_rows w word h (waits id) = refl
    flag_rows w word h plain = plain_rows w word h
    flag_rows w word h refused = plain_rows w word h

    fine_as : (a b : List Row) → a ≡ b → Fine b → Fine a
    fine_as a b same f = subst (λ rows. Fine rows) (sym same) f

    flag_word_fine : (w : Waiting) (word : Text) (l : Option (Text × Option Text)) (h : Held) →
        flag_word_fault s.rules s.args_override_self l word h ≡ [] → Fine h.rows
        → Fine (long_or_other s.rules w word l h).0.rows
    flag_word_fine w word (Some p) h none f =
        fine_as _ _
        (flag_rows w word (long_met s.rules (arg_by_long s.rules p.0) p.1 h).0 (long_met s.rules (arg_by_long s.rules p.0) p.1 h).1)
        (long_fine (arg_by_long s.rules p.0) p.1 h (λ a found. known _ a found) none f)
    flag_word_fine w word None h none f = go (short_of word) none
      where
        go : (o : Option Text) →
            option_map_or (λ flags. flags_fault s.rules s.args_override_self (length flags) flags h.skip (record h { skip = 0 })) o [] ≡ []
            → Fine (short_or_plain s.rules w word o h).0.rows
        go None e = fine_as _ _ (plain_rows w word h) f
        go (Some flags) e =
            fine_as _ _
            (flag_rows w word (bundle_met s.rules (length flags) flags h.skip plain (record h { skip = 0 })).0
            (bundle_met s.rules (length flags) flags h.skip plain (record h { skip = 0 })).1)
            (bundle_fine (length flags) flags h.skip plain (record h { skip = 0 }) e f)

    no_subcommand : (w : Waiting) (word : Text) → subcommand_met [] w word ≡ None
    no_subcommand idle word = refl
    no_subcommand positional word = refl
    no_subcommand (option id) word = refl

    word_fine : (trails : Bool) (w : Waiting) (position : ℕ) (word : Text) (h : Held)
        → word_fault s [] trails w word h ≡ [] → Fine h.rows → Fine (word_met s.rules [] trails w position word h).0.rows
    word_fine true w position word h none f = f
    word_fine false w position word h none f =
        let other : other_fault s None word h ≡ [] = sym (ap (λ o. other_fault s o word h) (no_subcommand w word)) ∙ none in
        subst (λ o. Fine (subcommand_or_other s.rules o w position word h).0.rows) (sym (no_subcommand w word))
        (go (bytes_eq word (45 ∷ 45 ∷ [])) other)
      where
        go : (b : Bool) → cond b [] (flag_word_fault s.rules s.args_override_self (long_of word) word h) ≡ []
            → Fine (cond b (h, trailing position) (long_or_other s.rules w word (long_of word) h)).0.rows
        go true e = f
        go false e = flag_word_fine w word (long_of word) h e f

    step_fine : (w : Walk) (word : Text) (h : Held) (step : Step) → step_fault s w.position h step ≡ [] → Fine h.rows →
        Fine (after_step s.rules word w h step).held.rows
    step_fine w word h (next waiting) none f = f
    step_fine w word h (trailing p) none f = f
    step_fine w word h (subcommand name) none f = f
    step_fine w word h value none f = go (arg_by_index s.rules w.position) none
      where
        by : (b : Bool) → cond b [] (settle_fault s.rules s.args_override_self h) ≡ [] → Fine (cond b h (settled s.rules h)).rows
        by true e = f
        by false e = settled_fine h e f

        go : (o : Option Rule) → option_map_or (λ a. positional_fault s.rules s.args_override_self a h) o (stray_fault s) ≡ [] →
            Fine (to_positional s.rules o word w h).held.rows
        go None e = f
        go (Some a) e = by (is_pending a h.pending && takes_several a) e

    turn_fine : (w : Walk) (word : Text) → turn_fault s [] w word ≡ [] → Fine w.held.rows → Fine (walked s.rules [] w word).held.rows
    unfolding walked
    turn_fine w word none f = go w.stopped none
      where
        go : (o : Option (Text × List Text)) →
            cond (is_some o) []
            (or_else (word_fault s [] w.is_trailing w.waiting word w.held)
            (step_fault s w.position (word_met s.rules [] w.is_trailing w.waiting w.position word w.held).0
            (word_met s.rules [] w.is_trailing w.waiting w.position word w.held).1)) ≡ []
            → Fine (walked_from s.rules [] o w word).held.rows
        go (Some p) e = f
        go None e =
            let parts = or_none _ _ e in
            step_fine w word _ (word_met s.rules [] w.is_trailing w.waiting w.position word w.held).1 parts.1
            (word_fine w.is_trailing w.waiting w.position word w.held parts.0 f)

    walk_fine : (words : List Text) (w : Walk) → walk_fault s [] w words ≡ [] → Fine w.held.rows →
        Fine (fold (walked s.rules []) w words).held.rows
    unfolding walk_fault
    walk_fine [] w none f = f
    walk_fine (word ∷ rest) w none f =
        let parts = or_none _ _ none in
        walk_fine rest (walked s.rules [] w word) parts.1 (turn_fine w word parts.0 f)

  -- ---- defaults

  default_added : (o : Option Text) (rows : List Row) → Fits number.low number.high o → has_row own.id rows ≡ false → Fine rows →
      Fine (default_rows own.id (reading_by own) (default_texts o) rows)
  default_added None rows fits none f = f
  default_added (Some v) rows fits none f = added rows DefaultValue v none fits

  pub default_fine : (a : Rule) (rows : List Row) → IsKnown a → Fine rows → Fine (with_default rows a)
  default_fine a rows known f = go (has_row a.id rows) refl
    where
      given : (values : List Text) → is_own a.id ≡ false → Fine (default_rows a.id (reading_by a) values rows)
      given [] other = f
      given (v ∷ vs) other = other_values a DefaultValue (v ∷ vs) rows other f

      go : (b : Bool) → has_row a.id rows ≡ b → Fine (cond b rows (default_rows a.id (reading_by a) a.defaults rows))
      go true there = f
      go false none = by (is_own a.id) refl
        where
          by : (b : Bool) → is_own a.id ≡ b → Fine (default_rows a.id (reading_by a) a.defaults rows)
          by true is =
              let is_same = known.same is in
              let free : has_row own.id rows ≡ false = sym (ap (λ (r : Rule). has_row r.id rows) is_same) ∙ none in
              subst (λ (r : Rule). Fine (default_rows r.id (reading_by r) r.defaults rows)) (sym is_same)
              (default_added number.default rows number.fits free f)
          by false is = given a.defaults is

  own_joins : (v : Text) (rows : List Row) → has_row own.id (with_values own.id (reading_by own) DefaultValue (v ∷ []) rows) ≡ true
  own_joins v [] = rw own_is_own refl
  own_joins v (r ∷ rs) = go (own_joins v rs) (is_own r.id) refl
    where
      go : has_row own.id (with_values own.id (reading_by own) DefaultValue (v ∷ []) rs) ≡ true → (b : Bool) → is_own r.id ≡ b
          → has_row own.id
          (cond b (more_values DefaultValue (v ∷ []) r ++ rs)
          (r ∷ with_values own.id (reading_by own) DefaultValue (v ∷ []) rs)) ≡ true
      go more true is = rw is refl
      go more false is = rw is more

  -- where the argument has a default, it has a row once that is there
  pub own_there : (v : Text) (rows : List Row) → number.default ≡ Some v → has_row own.id (with_default rows own) ≡ true
  own_there v rows e = go (has_row own.id rows) refl
    where
      go : (b : Bool) → has_row own.id rows ≡ b →
          has_row own.id (cond b rows (default_rows own.id (reading_by own) (default_texts number.default) rows)) ≡ true
      go true there = there
      go false none =
          subst (λ (o : Option Text). has_row own.id (default_rows own.id (reading_by own) (default_texts o) rows) ≡ true) (sym e)
          (own_joins v rows)

  -- ---- the text of the argument

  pub own_found : (rows : List Row) → Fine rows → has_row own.id rows ≡ true → IsNumberIn number.low number.high (one_of own.id rows)
  own_found [] f there = absurd (true≢false (sym there))
  own_found (r ∷ rs) f there = go (λ h e. own_found rs h e) (is_own r.id) f there
    where
      go : (Fine rs → has_row own.id rs ≡ true → IsNumberIn number.low number.high (one_of own.id rs)) → (b : Bool) →
          FineBy b r rs (Fine rs) → (b || has_row own.id rs) ≡ true →
          IsNumberIn number.low number.high (option_and_then row_text (cond b (Some r) (find (λ q. is_own q.id) rs)))
      go more true h e =
          let p = h.0 in
          let text : row_text r ≡ Some (without_minus p.given) = rw (p.one, p.read) refl in
          (p.given, text, accepts-Accepts own.ignore_case (parser_of_value own.parser) p.given p.accepted)
      go more false h e = more h e

  -- ---- all of a subcommand's arguments

  abbrev pub AllKnown : List Rule → Type 0
  AllKnown [] = Unit {0}
  AllKnown (x ∷ xs) = IsKnown x × AllKnown xs

  find_known : (xs : List Rule) → AllKnown xs → (p : Rule → Bool) (a : Rule) → find p xs ≡ Some a → IsKnown a
  find_known [] k p a e = let bad : ⊥ = cc in absurd bad
  find_known (x ∷ xs) k p a e = go (λ h. find_known xs k.1 p a h) (p x) e
    where
      go : (find p xs ≡ Some a → IsKnown a) → (b : Bool) → cond b (Some x) (find p xs) ≡ Some a → IsKnown a
      go more true h = subst (λ r. IsKnown r) (ap (λ o. unwrap_or o x) h) k.0
      go more false h = more h

  -- the subcommand's arguments are known, and this one has a value once the defaults are there and nothing that is required is missing
  pub record TakesNumber (s : Shape) : Type 0 where
    pub known : AllKnown s.rules
    pub complete : (rows : List Row) → Fine rows → check_fault s (fold with_default rows s.rules) false ≡ [] →
        IsNumberIn number.low number.high (one_of own.id (fold with_default rows s.rules))

  level_found : (s : Shape) → TakesNumber s → (words : List Text) → level_fault s [] nothing_held words false [] ≡ []
      → IsNumberIn number.low number.high (one_of own.id (rows_after s.rules [] words))
  level_found s takes words none =
      let known = find_known s.rules takes.known in
      let walks = or_none _ _ none in
      let settles = or_none _ _ walks.1 in
      let defaults = or_none _ _ settles.1 in
      let end = (walk s.rules [] nothing_held words).held in
      let walks_fine : Fine end.rows = walk_fine s known words (walk_from nothing_held) walks.0 tt in
      takes.complete (settled s.rules end).rows (settled_fine s known end settles.0 walks_fine) defaults.1

  -- ---- the subcommands that take the number

  -- the fault and the matches of the subcommand that was found
  abbrev fault_below : List Text → Option Shape → Kinds
  fault_below words o = option_map_or (λ s. level_fault s [] nothing_held words false []) o []

  abbrev found_below : List Text → Option Shape → Option (Text × List Row)
  found_below words o = option_map (λ s. rows_at s words) o

  -- the subcommands of these names take it
  abbrev pub EachTakes : (Text → Type 0) → List Shape → Type 0
  EachTakes Named [] = Unit {0}
  EachTakes Named (s ∷ ss) = (Named s.name → TakesNumber s) × EachTakes Named ss

  module _ (Named : Text → Type 0) (words : List Text) (name : Text) (rows : List Row) (is : Named name) where
    shape_found : (s : Shape) → (Named s.name → TakesNumber s) → fault_below words (Some s) ≡ []
        → found_below words (Some s) ≡ Some (name, rows) → IsNumberIn number.low number.high (one_of own.id rows)
    shape_found s takes none found =
        let same : rows_at s words ≡ (name, rows) = ap (λ (o : Option (Text × List Row)). unwrap_or o (name, rows)) found in
        let named : Named s.name = subst (λ n. Named n) (sym (ap (λ (p : Text × List Row). p.0) same)) is in
        let its : rows_after s.rules [] words ≡ rows = ap (λ (p : Text × List Row). p.1) same in
        subst (λ rs. IsNumberIn number.low number.high (one_of own.id rs)) its (level_found s (takes named) words none)

    among_found : (p : Shape → Bool) (ss : List Shape) → EachTakes Named ss → fault_below words (find p ss) ≡ []
        → found_below words (find p ss) ≡ Some (name, rows) → IsNumberIn number.low number.high (one_of own.id rows)
    among_found p [] takes none found = let bad : ⊥ = cc in absurd bad
    among_found p (s ∷ ss) takes none found = go (find p ss) (λ e f. among_found p ss takes.1 e f) (p s) none found
      where
        go : (o : Option Shape)
            → (fault_below words o ≡ [] → found_below words o ≡ Some (name, rows) → IsNumberIn number.low number.high (one_of own.id rows))
            → (b : Bool) → fault_below words (cond b (Some s) o) ≡ []
            → found_below words (cond b (Some s) o) ≡ Some (name, rows) → IsNumberIn number.low number.high (one_of own.id rows)
        go o more true e f = shape_found s takes.0 e f
        go o more false e f = more e f

  -- what was found below a command whose subcommands are these
  pub entered_found : (Named : Text → Type 0) (a : App) → EachTakes Named a.subs → (name : Text) (rows : List Row) → Named name →
      (stop : Option (Text × List Text)) → entered_fault a stop ≡ [] → entered a stop ≡ Some (name, rows) →
      IsNumberIn number.low number.high (one_of own.id rows)
  entered_found Named a takes name rows is None e f = let bad : ⊥ = cc in absurd bad
  entered_found Named a takes name rows is (Some p) e f =
      among_found Named p.1 name rows is (λ s. answers_to p.0 (label_of s)) a.subs takes e f
