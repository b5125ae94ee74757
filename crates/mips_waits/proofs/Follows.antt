-- Code without its needless no-ops follows the code that it was.
use Rattle.std.proofs.Common.{◌≡◌, ℕ, suc, ◌+◌, ◌≤◌, Bool, true, false, List, [], ◌∷◌, length, None, Some, refl}
use Rattle.std.proofs.Common.{sym, ap, ◌∙◌, subst, inl, ⊎_elim, arith}
use Rattle.std.proofs.lemmas.Option.{same_Some}
use Rattle.std.specs.Prelude.{slice_index}
use Rattle.ec_base.specs.Bytes.{Bytes}
use Rattle.ec_machine_code.specs.Speaks.{words_end}
use Rattle.ec_machine_code.specs.Stops.{address_of}
use Rattle.ec_machine_code.specs.declared.code.Code.{Code}
use Rattle.ec_passes.proofs.Following.{following_keeps_faithful}
use Rattle.ec_passes.specs.Following.{EndsAlike, Follows, KeepsStops, SameHomes, StopsAt, Stretch}
use Rattle.ec_target.specs.Code.{pc_of, word_at}
use Rattle.ec_target.specs.Paths.{Passes}
use Rattle.mips_code.specs.Meaning.{mips_meaning}
use Rattle.mips_delay.proofs.Kept.{next_place}
use Rattle.mips_delay.proofs.Order.{less_of_place, origin, origin_of_place, origin_stays, place_of_origin}
use Rattle.mips_delay.proofs.Runs.{Run, data_with, first, one, performed, somewhere, stop_so, stop_word, twin}
use Rattle.mips_delay.proofs.Short.{no_more_steps}
use Rattle.mips_delay.proofs.Standing.{clash, low_of, one_there}
use Rattle.mips_delay.proofs.Stopping.{stop_moved, stop_word_of, stops_kept, word_own}
use Rattle.mips_delay.specs.Fill.{HoldSame, RestsBehind}
use Rattle.mips_delay.specs.Fillable.{HasNoLinks, StandsAt, is_by_value, is_load}
use Rattle.mips_delay.specs.Places.{drops, place}
use Rattle.mips_delay.specs.Swap.{is_turn}
use Rattle.mips_waits.proofs.Facts.{Was, go_apart, plain_kept, stop_stays, was_at}
use Rattle.mips_waits.proofs.Going.{gone_step, kept_step}
use Rattle.mips_waits.specs.Alike.{AreAlike, LongSince}
use Rattle.mips_waits.specs.Dropped.{DropAlike, Dropped, DroppedFollows, DroppedHasNoLinks, DroppedIsShort, DroppedKeeps}
use Rattle.mips_waits.specs.Waits.{BehindLoad, LeavesRegister}
use Rattle.mips_waits.specs.Words.{SkipsWords}
use Rattle.mips_isa.specs.Words.{word_of}
use Rattle.mips_isa.specs.declared.instr.Instr.{Instr}
use Rattle.mips_isa.specs.declared.instr.Instr.TheVariants.{BranchIf, BranchOnZero, J, Syscall}
use Rattle.mips_machine.specs.Hazards.{is_stop}
use Rattle.mips_machine.specs.Machine.{mips_place, mips_stops, state_of}
use Rattle.mips_machine.specs.MachineLaws.{mips_stops_at}
use Rattle.mips_machine.specs.Step.{Data, Goes, MipsStep, State, Stops, listed, register_of, resting}
use Rattle.mips_machine.specs.declared.flow.Flow.{Flow}
use Rattle.mips_machine.specs.declared.machine.MipsMachine.{MipsMachine}
use Rattle.ec_target.proofs.Places.{word_at-pc_of}

-- states that are alike are so with any memory
with_memory : (old : List ℕ) (skips : ℕ → Bool) (s t : MipsMachine) (b d c : Bytes) → AreAlike old skips (state_of s b) (state_of t d) →
    AreAlike old skips (state_of s c) (state_of t c)
with_memory old skips s t b d c a = record {
  here = a.here;
  held = ap (λ (h : Data). data_with h.registers h.hi h.lo c) a.held;
  old_at = a.old_at;
  new_at = a.new_at;
  delayed = a.delayed;
  loaded = a.loaded;
  ages = a.ages;
  ready = a.ready;
  onward = a.onward;
}

none_passed : (code : Code) (t : MipsMachine) (b d : Bytes) → d ≡ b → Run code [] t b t d
unfolding Passes
none_passed code t b d e = (refl, e)

turn_by_no_value : (x : Instr) → is_turn x ≡ true → is_by_value x ≡ false
turn_by_no_value (J target) e = refl
turn_by_no_value (BranchIf branch rs rt offset) e = refl
turn_by_no_value (BranchOnZero branch rs offset) e = refl
turn_by_no_value _ e = absurd (cc)

module _ (old new : Code) (skips : ℕ → Bool) (links : HasNoLinks old.words) (few : length old.words ≤ words_end)
    (D : Dropped old new skips) where
  abbrev W : SkipsWords old.words new.words skips
  W = D.words

  abbrev from : ℕ → ℕ
  from q = origin skips (go_apart old.words new.words skips W) q

  -- ---- words of the new code

  -- what stands at a word of the new code
  there : (i w : ℕ) → word_at new.words (pc_of (place skips i)) ≡ Some w → word_at old.words (pc_of i) ≡ Some (slice_index old.words i)
  there i w at =
      let low = low_of new.words (place skips i) w at in
      let long = W.long in
      word_at-pc_of old.words i (less_of_place skips i (length old.words) (omega (arith, low, long)))

  was : (i : ℕ) (y : Instr) → drops skips i ≡ false → StandsAt new.words (place skips i) y → Was old.words new.words skips W i y
  was i y stays stands = was_at old.words new.words skips W i (slice_index old.words i) y stays (there i (word_of y) stands) stands

  pub no_links : HasNoLinks new.words
  no_links q y at =
      let apart = go_apart old.words new.words skips W in
      let z = was (from q) y (origin_stays skips apart q) (ap (λ k. word_at new.words (pc_of k)) (place_of_origin skips apart q) ∙ at) in
      ⊎_elim
      (λ (turns : (is_turn z.was ≡ true) × (is_turn y ≡ true)). turn_by_no_value y turns.1)
      (λ (same : z.was ≡ y). ap is_by_value (sym same) ∙ links (from q) z.was z.at)
      z.same

  -- ---- stops

  stands_too : (i : ℕ) → word_at old.words (pc_of i) ≡ Some stop_word →
      (drops skips i ≡ false) × (word_at new.words (pc_of (place skips i)) ≡ Some stop_word)
  stands_too i at =
      let stays = stop_stays old.words new.words skips W i at in (stays, plain_kept old.words new.words skips W i Syscall stays at refl)

  stop_was : (i : ℕ) → drops skips i ≡ false → word_at new.words (pc_of (place skips i)) ≡ Some stop_word →
      word_at old.words (pc_of i) ≡ Some stop_word
  stop_was i stays at =
      let z = was i Syscall stays at in
      ⊎_elim
      (λ (turns : (is_turn z.was ≡ true) × (is_turn Syscall ≡ true)). absurd (clash (is_turn Syscall) turns.1 refl))
      (λ (same : z.was ≡ Syscall). z.at ∙ ap (λ x. Some (word_of x)) same)
      z.same

  pub keeps_stops : KeepsStops mips_meaning old new
  keeps_stops = stops_kept old new skips D.moved (go_apart old.words new.words skips W) W.long stands_too stop_was

  -- ---- runs

  abbrev Alike : MipsMachine → MipsMachine → Type 0
  Alike = DropAlike skips old new

  -- behind a stop nothing waits for a load
  no_load_at : (i : ℕ) → word_at old.words (pc_of i) ≡ Some stop_word → (j : ℕ) → suc i ≡ suc (suc j) → BehindLoad old.words j → ⊥
  no_load_at i at j e l =
      let same : suc j ≡ i = omega (arith, e) in
      clash (is_load l.load) l.is_load
      (ap is_load (one_there old.words i l.load Syscall (subst (λ k. StandsAt old.words k l.load) same l.first) at))

  -- machines behind a stop that hold the same are alike
  pub behind_stop : (op n a b : ℕ) (s t : MipsMachine) → StopsAt mips_meaning old op n a → address_of new op n ≡ Some b → RestsBehind s a →
      RestsBehind t b → HoldSame s t → Alike s t
  behind_stop op n a b s t h e (rests, at) (too, new_at) hold bytes =
      let z = stop_word_of old new skips D.moved op n a h in
      let is = stands_too z.i z.is in
      let to : b ≡ pc_of (place skips z.i) = same_Some b (pc_of (place skips z.i)) (sym e ∙ z.new_at) in
      let next = next_place skips z.i is.0 in
      let place_is = z.at in
      record {
        here = suc z.i;
        held = ap (λ r. data_with r s.hi s.lo bytes) hold.registers ∙ ap (λ x. data_with t.registers x s.lo bytes) hold.hi
            ∙ ap (λ x. data_with t.registers t.hi x bytes) hold.lo;
        old_at = omega (arith, at, place_is);
        new_at = omega (arith, new_at, to, next);
        delayed = ap (λ (f : Flow). f.delayed) rests ∙ sym (ap (λ (f : Flow). f.delayed) too);
        loaded = inl (ap (λ (f : Flow). f.loaded) rests ∙ sym (ap (λ (f : Flow). f.loaded) too));
        ages = LongSince (ap (λ (f : Flow). f.since) too);
        ready = record {
          read = λ j e r. (ap (λ (f : Flow). f.delayed) rests, ap (λ (f : Flow). f.loaded) too);
          load = λ j e l. absurd (no_load_at z.i z.is j e l);
        };
        onward = inl (
          ap (λ (f : Flow). f.delayed) rests,
          (ap (λ (f : Flow). f.next) rests, ap (λ (f : Flow). f.next) too),
        );
      }

  enters : (op n a b : ℕ) (t : MipsMachine) → StopsAt mips_meaning old op n a → address_of new op n ≡ Some b → mips_meaning.rests t →
      mips_place t ≡ b + 4 →
      (s : MipsMachine) × mips_meaning.rests s × (mips_place s ≡ a + 4) × SameHomes mips_meaning s t × Alike s t
  enters op n a b t h e rests at =
      let s : MipsMachine = record { registers = t.registers; hi = t.hi; lo = t.lo; flow = resting (a + 4); many = t.many } in (
        s,
        refl,
        refl,
        record { frame = refl; owns = refl; home = λ k small. refl },
        behind_stop op n a b s t h e (refl, refl) (rests, at) (record { registers = refl; hi = refl; lo = refl }),
      )

  ends : (s t : MipsMachine) (bytes : Bytes) → Alike s t → mips_stops old.words s bytes → EndsAlike mips_meaning old new s t bytes
  ends s t bytes alike stop =
      let a : AreAlike old.words skips (state_of s bytes) (state_of t bytes) = alike bytes in
      let at : word_at old.words (pc_of a.here) ≡ Some stop_word = ap (word_at old.words) (sym a.old_at) ∙ mips_stops_at old.words s bytes stop in
      let is = stands_too a.here at in
      let loads_same : s.flow.loaded ≡ t.flow.loaded = ⊎_elim
      (λ (e : s.flow.loaded ≡ t.flow.loaded). e)
      (λ (h : (s.flow.loaded ≡ 0) × LeavesRegister old.words a.here t.flow.loaded).
      absurd (clash (is_stop Syscall) refl (h.1 Syscall at).1))
      a.loaded in
      let does = performed old.words (state_of s bytes) Stops Syscall (mips_stops_at old.words s bytes stop) stop in
      record {
        stops = listed Syscall (ap (word_at new.words) a.new_at ∙ is.1)
            (sym does ∙ stop_so (state_of s bytes) (state_of t bytes) a.delayed loads_same);
        is_loaded = λ l. sym loads_same ∙ l;
        homes = record {
          frame = ap (λ (d : Data). register_of d.registers 30) a.held;
          owns = ap (λ (d : Data). register_of d.registers 23) a.held;
          home = λ k small. ap (λ (d : Data). register_of d.registers (16 + k)) a.held;
        };
        at = λ op n e. stop_moved old new skips D.moved op n a.here (e ∙ ap Some a.old_at) ∙ ap Some (sym a.new_at);
      }

  -- ---- one step

  module _ (s t : MipsMachine) (bytes : Bytes) (last : MipsMachine) (memory : Bytes) (stop : mips_stops old.words last memory)
      (a : AreAlike old.words skips (state_of s bytes) (state_of t bytes)) where
    abbrev j : ℕ
    j = a.here

    abbrev To : List ℕ → Type 0
    To path = Stretch mips_meaning old new Alike from s t bytes path last memory

    -- the word at which the run begins
    j_is : (i : ℕ) → mips_place s ≡ pc_of i → j ≡ i
    j_is i at = let here = a.old_at in omega (arith, here, at)

    kept_stretch : (i : ℕ) (path : List ℕ) → drops skips j ≡ false → Run old (i ∷ path) s bytes last memory → To (i ∷ path)
    kept_stretch i path stays run =
        let z = first old i path s bytes last memory run in
        let k = kept_step old.words new.words skips W links few (state_of s bytes) (state_of t bytes) (state_of z.1 z.2) a stays z.3 in
        let b : AreAlike old.words skips (state_of z.1 z.2) k.0 = ⊎_elim
        (λ (b : AreAlike old.words skips (state_of z.1 z.2) k.0). b)
        (λ (none : word_at old.words z.1.flow.pc ≡ None). absurd (somewhere old path z.1 z.2 last memory z.4 stop none))
        k.2 in
        let n = twin z.1 z.2 k.0 b.held in
        record {
          front = i ∷ [];
          behind = path;
          splits = refl;
          is_some = omega arith;
          old_next = z.1;
          new_next = n.0;
          between = z.2;
          old_left = z.4;
          new_path = place skips j ∷ [];
          new_passes = one new (place skips j) t bytes n.0 z.2 a.new_at
              (subst (λ (x : State). MipsStep new.words (state_of t bytes) (Goes x)) (sym n.1) k.1);
          few = omega arith;
          different = (λ h. h, tt);
          comes_from = λ q h. ⊎_elim
              (λ (e : q ≡ place skips j).
              inl (ap from e ∙ origin_of_place skips (go_apart old.words new.words skips W) j stays ∙ j_is i z.0))
              (λ (e : ⊥). absurd e)
              h;
          alike = λ c. with_memory old.words skips z.1 n.0 z.2 z.2 c
              (subst (λ (x : State). AreAlike old.words skips (state_of z.1 z.2) x) (sym n.1) b);
        }

    gone_stretch : (i : ℕ) (path : List ℕ) → drops skips j ≡ true → Run old (i ∷ path) s bytes last memory → To (i ∷ path)
    gone_stretch i path gone run =
        let z = first old i path s bytes last memory run in
        let g = gone_step old.words new.words skips W few (state_of s bytes) (state_of t bytes) (state_of z.1 z.2) a gone z.3 in
        record {
          front = i ∷ [];
          behind = path;
          splits = refl;
          is_some = omega arith;
          old_next = z.1;
          new_next = t;
          between = z.2;
          old_left = z.4;
          new_path = [];
          new_passes = none_passed new t bytes z.2 (ap (λ (d : Data). d.bytes) g.1);
          few = omega arith;
          different = tt;
          comes_from = λ q h. absurd h;
          alike = λ c. with_memory old.words skips z.1 t z.2 bytes c g.0;
        }

    stretch_by : (b : Bool) → drops skips j ≡ b → (i : ℕ) (path : List ℕ) → Run old (i ∷ path) s bytes last memory → To (i ∷ path)
    stretch_by true gone i path run = gone_stretch i path gone run
    stretch_by false stays i path run = kept_stretch i path stays run

  pub follows : Follows mips_meaning old new Alike from
  follows = record {
    own = word_own old new skips D.moved (go_apart old.words new.words skips W);
    enters = enters;
    goes = λ s t bytes i path last memory alike run stop.
        let a : AreAlike old.words skips (state_of s bytes) (state_of t bytes) = alike bytes in
        stretch_by s t bytes last memory stop a (drops skips a.here) refl i path run;
    ends = ends;
  }

-- ---- the laws

pub dropped_follows : DroppedFollows
dropped_follows old new skips links few D =
    (keeps_stops old new skips links few D, (from old new skips links few D, follows old new skips links few D))

pub dropped_has_no_links : DroppedHasNoLinks
dropped_has_no_links old new skips links few D = no_links old new skips links few D

pub dropped_keeps : DroppedKeeps
dropped_keeps old new skips links few D p homes before =
    let z = dropped_follows old new skips links few D in
    following_keeps_faithful mips_meaning (DropAlike skips) p old new homes z.1.0 z.0 z.1.1 before

pub dropped_is_short : DroppedIsShort
dropped_is_short old new skips links few D =
    let z = dropped_follows old new skips links few D in
    no_more_steps (DropAlike skips) old new z.1.0 z.1.1 (behind_stop old new skips links few D) (λ s t alike. hold_same s t (alike (λ a. None)))
  where
    hold_same : (s t : MipsMachine) → AreAlike old.words skips (state_of s (λ a. None)) (state_of t (λ a. None)) → HoldSame s t
    hold_same s t same = record {
      registers = ap (λ (d : Data). d.registers) same.held;
      hi = ap (λ (d : Data). d.hi) same.held;
      lo = ap (λ (d : Data). d.lo) same.held;
    }
