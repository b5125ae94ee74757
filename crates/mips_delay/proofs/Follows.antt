-- Code with its slots filled follows the code that it was.
use Rattle.std.proofs.Common.{◌≡◌, ◌⊎◌, ℕ, suc, ◌+◌, ◌<◌, ◌≤◌, Bool, true, false, List, [], ◌∷◌, length, None, Some}
use Rattle.std.proofs.Common.{refl}
use Rattle.std.proofs.Common.{sym, ap, ◌∙◌, subst, inl, inr, ⊎_elim, arith}
use Rattle.std.proofs.lemmas.Option.{same_Some}
use Rattle.std.specs.Prelude.{slice_index}
use Rattle.ec_base.specs.Bytes.{Bytes}
use Rattle.ec_machine_code.specs.Once.{AreDifferent, IsWordOf}
use Rattle.ec_machine_code.specs.Speaks.{words_end}
use Rattle.ec_machine_code.specs.Stops.{address_of}
use Rattle.ec_machine_code.specs.declared.code.Code.{Code}
use Rattle.ec_passes.specs.Following.{EndsAlike, Follows, KeepsStops, SameHomes, StopsAt, Stretch}
use Rattle.ec_target.specs.Code.{pc_of, word_at}
use Rattle.mips_code.specs.Meaning.{mips_meaning}
use Rattle.mips_delay.proofs.Filling.{filled_step}
use Rattle.mips_delay.proofs.Kept.{kept_step, next_drops, next_outside, next_pc, next_place, outside_drops, place_small}
use Rattle.mips_delay.proofs.Order.{origin, origin_of_place, which}
use Rattle.mips_delay.proofs.Runs.{Run, data_with, ended, first, one, performed, somewhere, steps_on, stop_so, stop_word, twin, two}
use Rattle.mips_delay.proofs.Stopping.{stop_moved, stop_word_of, stops_kept, word_own}
use Rattle.mips_delay.proofs.Swap.{turns_too, went}
use Rattle.mips_delay.proofs.Standing.{apart, clash, first_stays, low_of, one_there, plain_kept, slot_of, stays, there}
use Rattle.mips_delay.specs.Alike.{AreAlike, GoOnAlike, LeadsAlike}
use Rattle.mips_delay.specs.Fill.{FillAlike, Filled, FilledFollows, HoldSame, RestsBehind}
use Rattle.mips_delay.specs.Fillable.{Fillable, HasNoLinks}
use Rattle.mips_delay.specs.Places.{FillsWords, IsKept, Retargets, drops, is_within, place}
use Rattle.mips_delay.specs.Swap.{is_turn}
use Rattle.mips_isa.specs.OneWord.{one_word}
use Rattle.mips_isa.specs.Words.{word_of}
use Rattle.mips_isa.specs.declared.instr.Instr.{Instr}
use Rattle.mips_isa.specs.declared.instr.Instr.TheVariants.{Syscall}
use Rattle.mips_machine.specs.Hazards.{is_jump}
use Rattle.mips_machine.specs.Machine.{mips_goes, mips_place, mips_stops, state_of}
use Rattle.mips_machine.specs.MachineLaws.{mips_stops_at}
use Rattle.mips_machine.specs.Step.{Data, Goes, MipsStep, State, Stops}
use Rattle.mips_machine.specs.Step.{listed}
use Rattle.mips_machine.specs.Step.{register_of, resting}
use Rattle.mips_machine.specs.Values.{plus}
use Rattle.mips_machine.specs.declared.flow.Flow.{Flow}
use Rattle.mips_machine.specs.declared.machine.MipsMachine.{MipsMachine}

-- ---- states and machines

-- states that are alike are so with any memory
pub with_memory : (old : List ℕ) (fills : ℕ → Bool) (s t : MipsMachine) (b c : Bytes) → AreAlike old fills (state_of s b) (state_of t b) →
    AreAlike old fills (state_of s c) (state_of t c)
with_memory old fills s t b c a = record {
  here = a.here;
  held = ap (λ (d : Data). data_with d.registers d.hi d.lo c) a.held;
  old_at = a.old_at;
  new_at = a.new_at;
  delayed = a.delayed;
  loaded = a.loaded;
  since = a.since;
  outside = a.outside;
  ready = a.ready;
  onward = a.onward;
}

module _ (old new : Code) (fills : ℕ → Bool) (links : HasNoLinks old.words) (few : length old.words ≤ words_end) (F : Filled old new fills)
  where
    abbrev W : FillsWords old.words new.words fills
    W = F.words

    abbrev from : ℕ → ℕ
    from q = origin fills (apart old.words new.words fills W) q

    -- ---- stops

    -- a stop instruction is outside of filled places
    record AtStop (i : ℕ) : Type 0 where
      unfilled : fills i ≡ false
      outside : is_within fills i ≡ false
      same : word_at new.words (pc_of (place fills i)) ≡ Some stop_word

    at_stop : (i : ℕ) → word_at old.words (pc_of i) ≡ Some stop_word → AtStop i
    at_stop i at = ⊎_elim
        (λ (h : fills i ≡ true).
        let x = W.each i h in absurd (jump_not_moves x.moves x.may.no_jump (one_there old.words i x.moves Syscall x.first at)))
        (λ (h : ((j : ℕ) × (i ≡ suc j) × (fills j ≡ true)) ⊎ ((fills i ≡ false) × (is_within fills i ≡ false))). ⊎_elim
        (λ (z : (j : ℕ) × (i ≡ suc j) × (fills j ≡ true)).
        let x = W.each z.0 z.2 in
        absurd (stop_no_turn x.branch x.may.turn
        (one_there old.words i x.branch Syscall (ap (λ k. word_at old.words (pc_of k)) z.1 ∙ x.second) at)))
        (λ (z : (fills i ≡ false) × (is_within fills i ≡ false)).
        record { unfilled = z.0; outside = z.1; same = plain_kept old.words new.words fills W i Syscall z.0 z.1 at refl })
        h)
        (which fills i (stays old.words new.words fills W i Syscall at (λ e. (cc))))
      where
        jump_not_moves : (x : Instr) → is_jump x ≡ false → x ≡ Syscall → ⊥
        jump_not_moves x plain e = clash (is_jump x) (ap is_jump e) plain

        stop_no_turn : (b : Instr) → is_turn b ≡ true → b ≡ Syscall → ⊥
        stop_no_turn b turns e = clash (is_turn b) turns (ap is_turn e)

    stop_stays : (i : ℕ) → word_at old.words (pc_of i) ≡ Some stop_word → drops fills i ≡ false
    stop_stays i at = outside_drops fills i (at_stop i at).outside

    -- a stop instruction of the new code comes from one of the old code
    stop_was : (i : ℕ) → drops fills i ≡ false → word_at new.words (pc_of (place fills i)) ≡ Some stop_word →
        word_at old.words (pc_of i) ≡ Some stop_word
    stop_was i i_stays at_place = ⊎_elim
        (λ (h : fills i ≡ true).
        let z = W.swaps i h in
        absurd (clash (is_turn Syscall)
        (sym (ap is_turn (one_there new.words (place fills i) z.led Syscall z.swaps.turn at_place)) ∙ turns_too z.branch z.led z.swaps.same) refl))
        (λ (h : ((j : ℕ) × (i ≡ suc j) × (fills j ≡ true)) ⊎ ((fills i ≡ false) × (is_within fills i ≡ false))). ⊎_elim
        (λ (z : (j : ℕ) × (i ≡ suc j) × (fills j ≡ true)). absurd (in_slot z.0 z.1 z.2))
        (λ (z : (fills i ≡ false) × (is_within fills i ≡ false)). outside (W.kept i (slice_index old.words i) z.0 z.1 was))
        h)
        (which fills i i_stays)
      where
        was : word_at old.words (pc_of i) ≡ Some (slice_index old.words i)
        was = there old.words new.words fills W i stop_word at_place

        in_slot : (j : ℕ) → i ≡ suc j → fills j ≡ true → ⊥
        in_slot j e h =
            let z = W.swaps j h in
            let x = slot_of old.words new.words fills W j h in
            let p = ap (place fills) e ∙ next_place fills j (first_stays old.words new.words fills W j h) in
            let same = one_there new.words (suc (place fills j)) z.moves Syscall x (ap (λ k. word_at new.words (pc_of k)) (sym p) ∙ at_place) in
            clash (is_jump z.moves) (ap is_jump same) z.swaps.may.no_jump

        outside : (v : ℕ) × (word_at new.words (pc_of (place fills i)) ≡ Some v) × IsKept fills i (slice_index old.words i) v →
            word_at old.words (pc_of i) ≡ Some stop_word
        outside (v, at_new, kept) = ⊎_elim
            (λ (r : Retargets fills i (place fills i) (slice_index old.words i) v).
            let same = one_word r.led Syscall (sym r.is ∙ same_Some v stop_word (sym at_new ∙ at_place)) in
            absurd (clash (is_turn r.led) (turns_too r.branch r.led r.same) (ap is_turn same)))
            (λ (k : (v ≡ slice_index old.words i) × ((b : Instr) → slice_index old.words i ≡ word_of b → is_turn b ≡ false)).
            was ∙ ap Some (sym k.0) ∙ sym at_new ∙ at_place)
            kept

    -- what is left of a stop, and what was
    stands_too : (i : ℕ) → word_at old.words (pc_of i) ≡ Some stop_word →
        (drops fills i ≡ false) × (word_at new.words (pc_of (place fills i)) ≡ Some stop_word)
    stands_too i at = (stop_stays i at, (at_stop i at).same)

    pub keeps_stops : KeepsStops mips_meaning old new
    keeps_stops = stops_kept old new fills F.moved (apart old.words new.words fills W) W.long stands_too stop_was

    moved : (op n i : ℕ) → address_of old op n ≡ Some (pc_of i) → address_of new op n ≡ Some (pc_of (place fills i))
    moved = stop_moved old new fills F.moved

    own : (op q : ℕ) → IsWordOf old op (from q) → IsWordOf new op q
    own = word_own old new fills F.moved (apart old.words new.words fills W)

    -- ---- runs

    abbrev Alike : MipsMachine → MipsMachine → Type 0
    Alike = FillAlike fills old new

    -- machines behind a stop that hold the same are alike
    pub behind_stop : (op n a b : ℕ) (s t : MipsMachine) → StopsAt mips_meaning old op n a → address_of new op n ≡ Some b → RestsBehind s a →
        RestsBehind t b → HoldSame s t → Alike s t
    behind_stop op n a b s t h e (rests, at) (too, new_at) hold bytes =
        let z = stop_word_of old new fills F.moved op n a h in
        let is = at_stop z.i z.is in
        let to : b ≡ pc_of (place fills z.i) = same_Some b (pc_of (place fills z.i)) (sym e ∙ z.new_at) in
        let next = next_place fills z.i (outside_drops fills z.i is.outside) in
        let place_is = z.at in
        record {
          here = suc z.i;
          held = ap (λ r. data_with r s.hi s.lo bytes) hold.registers ∙ ap (λ x. data_with t.registers x s.lo bytes) hold.hi
              ∙ ap (λ x. data_with t.registers t.hi x bytes) hold.lo;
          old_at = omega (arith, at, place_is);
          new_at = omega (arith, new_at, to, next);
          delayed = ap (λ (f : Flow). f.delayed) rests ∙ sym (ap (λ (f : Flow). f.delayed) too);
          loaded = ap (λ (f : Flow). f.loaded) rests ∙ sym (ap (λ (f : Flow). f.loaded) too);
          since = ap (λ (f : Flow). f.since) rests ∙ sym (ap (λ (f : Flow). f.since) too);
          outside = next_outside fills z.i is.outside is.unfilled;
          ready = λ f. (ap (λ (f : Flow). f.delayed) rests, ap (λ (f : Flow). f.loaded) rests);
          onward = inl (
            ap (λ (f : Flow). f.delayed) rests,
            (ap (λ (f : Flow). f.next) rests, ap (λ (f : Flow). f.next) too),
          );
        }

    enters : (op n a b : ℕ) (t : MipsMachine) → StopsAt mips_meaning old op n a → address_of new op n ≡ Some b → mips_meaning.rests t →
        mips_place t ≡ b + 4 →
        (s : MipsMachine) × mips_meaning.rests s × (mips_place s ≡ a + 4) × SameHomes mips_meaning s t × Alike s t
    enters op n a b t h e rests at =
        let s : MipsMachine = record { registers = t.registers; hi = t.hi; lo = t.lo; flow = resting (a + 4); many = t.many } in (
          s,
          refl,
          refl,
          record { frame = refl; owns = refl; home = λ k small. refl },
          behind_stop op n a b s t h e (refl, refl) (rests, at) (record { registers = refl; hi = refl; lo = refl }),
        )

    ends : (s t : MipsMachine) (bytes : Bytes) → Alike s t → mips_stops old.words s bytes → EndsAlike mips_meaning old new s t bytes
    ends s t bytes alike stop =
        let a : AreAlike old.words fills (state_of s bytes) (state_of t bytes) = alike bytes in
        let at : word_at old.words (pc_of a.here) ≡ Some stop_word = ap (word_at old.words) (sym a.old_at) ∙ mips_stops_at old.words s bytes stop in
        let is = at_stop a.here at in
        let does = performed old.words (state_of s bytes) Stops Syscall (mips_stops_at old.words s bytes stop) stop in
        record {
          stops = listed Syscall (ap (word_at new.words) a.new_at ∙ is.same)
              (sym does ∙ stop_so (state_of s bytes) (state_of t bytes) a.delayed a.loaded);
          is_loaded = λ l. sym a.loaded ∙ l;
          homes = record {
            frame = ap (λ (d : Data). register_of d.registers 30) a.held;
            owns = ap (λ (d : Data). register_of d.registers 23) a.held;
            home = λ k small. ap (λ (d : Data). register_of d.registers (16 + k)) a.held;
          };
          at = λ op n e. moved op n a.here (e ∙ ap Some a.old_at) ∙ ap Some (sym a.new_at);
        }

    -- ---- one step, outside of filled places

    module _ (s t : MipsMachine) (bytes : Bytes) (last : MipsMachine) (memory : Bytes) (stop : mips_stops old.words last memory)
        (a : AreAlike old.words fills (state_of s bytes) (state_of t bytes)) where
      abbrev j : ℕ
      j = a.here

      abbrev To : List ℕ → Type 0
      To path = Stretch mips_meaning old new Alike from s t bytes path last memory

      j_stays : drops fills j ≡ false
      j_stays = outside_drops fills j a.outside

      -- the word at which the run begins
      j_is : (i : ℕ) → mips_place s ≡ pc_of i → j ≡ i
      j_is i at = let here = a.old_at in omega (arith, here, at)

      from_j : from (place fills j) ≡ j
      from_j = origin_of_place fills (apart old.words new.words fills W) j j_stays

      kept_stretch : (i : ℕ) (path : List ℕ) → fills j ≡ false → Run old (i ∷ path) s bytes last memory → To (i ∷ path)
      kept_stretch i path unfilled run =
          let z = first old i path s bytes last memory run in
          let k = kept_step old.words new.words fills W links few (state_of s bytes) (state_of t bytes) (state_of z.1 z.2) a unfilled z.3 in
          let b : AreAlike old.words fills (state_of z.1 z.2) k.0 = ⊎_elim
          (λ (b : AreAlike old.words fills (state_of z.1 z.2) k.0). b)
          (λ (none : word_at old.words z.1.flow.pc ≡ None). absurd (somewhere old path z.1 z.2 last memory z.4 stop none))
          k.2 in
          let n = twin z.1 z.2 k.0 b.held in
          record {
            front = i ∷ [];
            behind = path;
            splits = refl;
            is_some = omega arith;
            old_next = z.1;
            new_next = n.0;
            between = z.2;
            old_left = z.4;
            new_path = place fills j ∷ [];
            new_passes = one new (place fills j) t bytes n.0 z.2 a.new_at
                (subst (λ (x : State). MipsStep new.words (state_of t bytes) (Goes x)) (sym n.1) k.1);
            few = omega arith;
            different = (λ h. h, tt);
            comes_from = λ q h. ⊎_elim
                (λ (e : q ≡ place fills j). inl (ap from e ∙ from_j ∙ j_is i z.0))
                (λ (e : ⊥). absurd e)
                h;
            alike = λ c. with_memory old.words fills z.1 n.0 z.2 c
                (subst (λ (x : State). AreAlike old.words fills (state_of z.1 z.2) x) (sym n.1) b);
          }

      -- ---- three steps, at a filled place

      module _ (filled : fills j ≡ true) where
        abbrev x : Fillable old.words j
        x = W.each j filled

        on : GoOnAlike s.flow t.flow
        on = ⊎_elim
            (λ (h : (s.flow.delayed ≡ false) × GoOnAlike s.flow t.flow). h.1)
            (λ (h : (s.flow.delayed ≡ true) × LeadsAlike old.words fills j s.flow t.flow).
            absurd (clash s.flow.delayed h.0 (a.ready filled).0))
            a.onward

        low : suc (suc j) < length old.words
        low = low_of old.words (suc (suc j)) 0 x.third

        p_small : place fills j ≤ j
        p_small = place_small fills j

        next_stays : drops fills (suc j) ≡ false
        next_stays = next_drops fills j a.outside

        second_place : place fills (suc j) ≡ suc (place fills j)
        second_place = next_place fills j j_stays

        abbrev At : MipsMachine → Type 0
        At u = (u.flow.pc ≡ pc_of (suc j)) × (u.flow.next ≡ pc_of (suc (suc j)))

        second_at : (u : MipsMachine) (d : Bytes) → mips_goes old.words s bytes u d → At u
        second_at u d step =
            let does = performed old.words (state_of s bytes) (Goes (state_of u d)) x.moves (ap (word_at old.words) a.old_at ∙ x.first) step in
            let z = went x.moves (state_of s bytes) (state_of u d) x.may.no_jump does in
            let one = ap (λ pc. plus pc 4) a.old_at ∙ next_pc j (omega (arith, low, few)) in
            let two = next_pc (suc j) (omega (arith, low, few)) in (
              ap (λ (y : State). y.flow.pc) z.2 ∙ on.0 ∙ one,
              ap (λ (y : State). y.flow.next) z.2 ∙ ap (λ n. plus n 4) (on.0 ∙ one) ∙ two,
            )

        -- neither the branch nor its no-op is a stop
        no_stop_second : (u : MipsMachine) (d : Bytes) → At u → mips_stops old.words u d → ⊥
        no_stop_second u d at stops =
            let e = one_there old.words (suc j) x.branch Syscall x.second (ap (word_at old.words) (sym at.0) ∙ mips_stops_at old.words u d stops) in
            clash (is_turn x.branch) x.may.turn (ap is_turn e)

        no_stop_third : (v : MipsMachine) (d : Bytes) → v.flow.pc ≡ pc_of (suc (suc j)) → mips_stops old.words v d → ⊥
        no_stop_third v d at stops =
            let e = same_Some 0 stop_word (sym x.third ∙ ap (word_at old.words) (sym at) ∙ mips_stops_at old.words v d stops) in
            absurd (omega (arith, e))

        two_different : (p : ℕ) → AreDifferent (p ∷ suc p ∷ [])
        two_different p = (
          λ h. ⊎_elim (λ (e : p ≡ suc p). absurd (omega (arith, e))) (λ (e : ⊥). e) h,
          (λ h. h, tt),
        )

        module _ (i k l : ℕ) (path : List ℕ) (u v w : MipsMachine) (d e f : Bytes) (s_at : mips_place s ≡ pc_of i) (u_at : mips_place u ≡ pc_of k)
            (to_u : mips_goes old.words s bytes u d) (to_v : mips_goes old.words u d v e) (to_w : mips_goes old.words v e w f)
            (run : Run old path w f last memory) where
          k_is : suc j ≡ k
          k_is = let at = (second_at u d to_u).0 in omega (arith, at, u_at)

          three_stretch : To (i ∷ k ∷ l ∷ path)
          three_stretch =
              let z = filled_step old.words new.words fills W few (state_of s bytes) (state_of t bytes) (state_of u d) (state_of v e) (state_of w f)
              a filled to_u to_v to_w in
              let b : AreAlike old.words fills (state_of w f) z.1 = ⊎_elim
              (λ (b : AreAlike old.words fills (state_of w f) z.1). b)
              (λ (none : word_at old.words w.flow.pc ≡ None). absurd (somewhere old path w f last memory run stop none))
              z.5 in
              let m = twin t bytes z.0 (sym z.4) in
              let n = twin w f z.1 b.held in
              let m_at : m.0.flow.pc ≡ pc_of (suc (place fills j)) =
              ap (λ (y : State). y.flow.pc) m.1 ∙ steps_on new.words (state_of t bytes) z.0 z.2 ∙ on.1 ∙ ap (λ pc. plus pc 4) a.new_at
              ∙ next_pc (place fills j) (omega (arith, low, few, p_small)) in
              record {
                front = i ∷ k ∷ l ∷ [];
                behind = path;
                splits = refl;
                is_some = omega arith;
                old_next = w;
                new_next = n.0;
                between = f;
                old_left = run;
                new_path = place fills j ∷ suc (place fills j) ∷ [];
                new_passes = two new (place fills j) (suc (place fills j)) t bytes m.0 bytes n.0 f a.new_at
                    (subst (λ (y : State). MipsStep new.words (state_of t bytes) (Goes y)) (sym m.1) z.2) m_at
                    (subst (λ (y : State). MipsStep new.words y (Goes (state_of n.0 f))) (sym m.1)
                    (subst (λ (y : State). MipsStep new.words z.0 (Goes y)) (sym n.1) z.3));
                few = omega arith;
                different = two_different (place fills j);
                comes_from = λ q h. ⊎_elim
                    (λ (same : q ≡ place fills j). inl (ap from same ∙ from_j ∙ j_is i s_at))
                    (λ (g : (q ≡ suc (place fills j)) ⊎ ⊥). ⊎_elim
                    (λ (same : q ≡ suc (place fills j)).
                    inr (inl (ap from (same ∙ sym second_place)
                    ∙ origin_of_place fills (apart old.words new.words fills W) (suc j) next_stays ∙ k_is)))
                    (λ (none : ⊥). absurd none)
                    g)
                    h;
                alike = λ c. with_memory old.words fills w n.0 f c
                    (subst (λ (y : State). AreAlike old.words fills (state_of w f) y) (sym n.1) b);
              }

        filled_stretch : (i : ℕ) (path : List ℕ) → Run old (i ∷ path) s bytes last memory → To (i ∷ path)
        filled_stretch i [] run =
            let z = first old i [] s bytes last memory run in
            let ends = ended old z.1 z.2 last memory z.4 in
            absurd (no_stop_second last memory (subst At (sym ends.0) (second_at z.1 z.2 z.3)) stop)
        filled_stretch i (k ∷ []) run =
            let z = first old i (k ∷ []) s bytes last memory run in
            let y = first old k [] z.1 z.2 last memory z.4 in
            let ends = ended old y.1 y.2 last memory y.4 in
            let at = steps_on old.words (state_of z.1 z.2) (state_of y.1 y.2) y.3 ∙ (second_at z.1 z.2 z.3).1 in
            absurd (no_stop_third last memory (ap (λ (m : MipsMachine). m.flow.pc) ends.0 ∙ at) stop)
        filled_stretch i (k ∷ l ∷ path) run =
            let z = first old i (k ∷ l ∷ path) s bytes last memory run in
            let y = first old k (l ∷ path) z.1 z.2 last memory z.4 in
            let g = first old l path y.1 y.2 last memory y.4 in
            three_stretch i k l path z.1 y.1 g.1 z.2 y.2 g.2 z.0 y.0 z.3 y.3 g.3 g.4

      stretch_by : (b : Bool) → fills j ≡ b → (i : ℕ) (path : List ℕ) → Run old (i ∷ path) s bytes last memory → To (i ∷ path)
      stretch_by true filled i path run = filled_stretch filled i path run
      stretch_by false unfilled i path run = kept_stretch i path unfilled run

    pub follows : Follows mips_meaning old new Alike from
    follows = record {
      own = own;
      enters = enters;
      goes = λ s t bytes i path last memory alike run stop.
          let a : AreAlike old.words fills (state_of s bytes) (state_of t bytes) = alike bytes in
          stretch_by s t bytes last memory stop a (fills a.here) refl i path run;
      ends = ends;
    }

pub filled_follows : FilledFollows
filled_follows old new fills links few F =
    (keeps_stops old new fills links few F, (from old new fills links few F, follows old new fills links few F))
