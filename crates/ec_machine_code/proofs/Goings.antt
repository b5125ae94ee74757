-- From the words of a step on to where another one begins.
use Rattle.std.proofs.Common.{◌≡◌, ℕ, suc, ◌+◌, ◌≤◌, List, [], ◌∷◌, ◌++◌, Some, None, Option, refl, ap, ◌∙◌, subst, arith, Bool, true, false}
use Rattle.std.proofs.Common.{cond}
use Rattle.std.specs.Prelude.{not, ◌==◌, if◌then◌else◌}
use Rattle.ec_code.specs.declared.code.Live.{Live}
use Rattle.ec_code.specs.declared.code.Op.{Op}
use Rattle.ec_code.specs.declared.code.Op.TheVariants as op
use Rattle.ec_code.specs.declared.code.StopRow.{StopRow}
use Rattle.ec_machine_code.specs.Direct.{laid_op}
use Rattle.ec_machine_code.specs.Layout.{ending_size, ending_words, on_size, on_words, plain_size, size_of}
use Rattle.ec_machine_code.specs.Lowering.{ending_of, opposite, steps_of}
use Rattle.ec_machine_code.specs.Machine.{MachineMeaning}
use Rattle.ec_machine_code.specs.Micro.{CanAsk, Sight, asked}
use Rattle.ec_machine_code.specs.Speaks.{Ends, HasAt, Sees, Vocabulary, words_end}
use Rattle.ec_machine_code.specs.declared.step.Ending.{Ending}
use Rattle.ec_machine_code.specs.declared.step.Ending.TheVariants.{Branch, Stop}
use Rattle.ec_machine_code.specs.declared.step.Question.{Question}
use Rattle.ec_target.specs.Code.{pc_of}
use Rattle.ec_world.specs.Same.{is_same_truth}
use Rattle.ec_machine_code.proofs.LaidOutSizes.{is_same}
use Rattle.ec_machine_code.proofs.Sites.{At, Site, end_is, end_of, ending_there, ends_at, ends_within, in_code, line_of, next_is, next_to}
use Rattle.ec_machine_code.proofs.Sites.{ops, plain_there, reached, reaches, word_of}
use Rattle.ec_machine_code.proofs.Standing.{Setting}
use Rattle.ec_machine_code.proofs.Stretches.{CanAll, does_all, has_back, has_front, joins, longer, runs_all, stays}

other_way : (wanted t : Bool) → is_same_truth (not wanted) t ≡ not (is_same_truth wanted t)
other_way true t = refl
other_way false true = refl
other_way false false = refl

pick_other : (r : Bool) (a b c d : ℕ) → b ≡ c → a ≡ d → (if not r then a else b) ≡ (if r then c else d)
pick_other true a b c d e f = e
pick_other false a b c d e f = f

-- step q, for which step x is laid out
module _ {S : Type 0} (M : MachineMeaning S) (V : Vocabulary) (g : Setting M) (z : Site M V g) (q : ℕ) (o x : Op) (here : List Live)
    (at : At M V g z q o here) (same : laid_op z.of.code q o ≡ x) where
  abbrev next : ℕ
  next = next_to M V g z q

  abbrev word : ℕ → ℕ
  word = word_of M V g z

  abbrev end : ℕ
  end = end_of M V g z q

  -- the first word behind its steps
  abbrev tail : ℕ
  tail = word q + plain_size V z.home x

  size : end ≡ tail + ending_size V next q (ending_of z.home x)
  size = let is = end_is M V g z q o x here at same in omega (arith, is)

  within : end ≤ z.start + size_of V z.home (ops M V g z) z.order
  within = ends_within M V g z q (line_of o here) at

  ends_low : end ≤ words_end
  ends_low = let low = z.laid.low in let is = within in omega (arith, low, is)

  from_start : z.start ≤ word q
  from_start = omega arith

  -- on to a step, from one of its words
  on :
      (i to : ℕ) (s : S) (v : Sight) → HasAt z.code i (on_words V word next to i) → M.place s ≡ pc_of i → word q ≤ i →
      i + on_size V next to ≡ end → Sees M g.f g.own s v.home → Ends M g.f g.own z.code s v i end (word to) v
  on i to s v has there low sum sees = by (next == to) refl has sum
    where
      by :
          (b : Bool) → (next == to) ≡ b → HasAt z.code i (cond b [] (V.jump_words i (word to))) → i + cond b 0 V.jump_size ≡ end →
          Ends M g.f g.own z.code s v i end (word to) v
      by true e has sum =
          let begins = next_is M V g z q (line_of o here) at in
          let is = ap word (is_same next to e) in
          ends_at M V g z s v v i end i (word to) (omega (arith, sum, begins, is))
          (longer M g.f g.own z.code s v v i i i end i (omega arith) (omega (arith, sum)) (stays M g.f g.own z.code s v i there sees))
      by false e has sum =
          let low_end = ends_low in
          let inside = within in
          longer M g.f g.own z.code s v v i (i + V.jump_size) i end (word to) (omega arith) (omega (arith, sum))
          (z.speaks.jump g.f g.own z.code i (word to) s v has there (omega (arith, sum, low_end)) (in_code M V g z to)
          (reaches M V g z i to (omega (arith, low)) (omega (arith, sum, inside)))
          (reached M V g z i to (omega (arith, low)) (omega (arith, sum, inside))) sees)

  -- behind a stop
  pub leaves :
      (row : StopRow) (s : S) (v : Sight) → x ≡ op.Rest row → M.place s ≡ pc_of (suc (word q)) → Sees M g.f g.own s v.home →
      Ends M g.f g.own z.code s v (word q) end (word (suc q)) v
  leaves row s v is there sees =
      let ending : ending_of z.home x ≡ Some Stop = ap (ending_of z.home) is in
      let plain : plain_size V z.home x ≡ 0 = ap (plain_size V z.home) is in
      let all = size in
      let long = ap (ending_size V next q) ending in
      let goes = on_words V word next (suc q) (suc tail) in
      let has : HasAt z.code tail (V.stop_word ∷ goes) =
      subst (λ k. HasAt z.code tail (ending_words V word next q tail k)) ending (ending_there M V g z q o x here at same) in
      let behind : tail + 1 ≡ suc tail = omega arith in
      let back = subst (λ i. HasAt z.code i goes) behind (has_back z.code tail (V.stop_word ∷ []) goes has) in
      longer M g.f g.own z.code s v v (suc tail) end (word q) end (word (suc q)) (omega arith) (omega arith)
      (on (suc tail) (suc q) s v back (omega (arith, there, plain)) (omega arith) (omega (arith, all, long)) sees)

  module _ (s : S) (v : Sight) (there : M.place s ≡ pc_of (word q)) (sees : Sees M g.f g.own s v.home) where
    -- what follows on a step without words
    pub goes_on :
        (to : ℕ) (e : Option Ending) → plain_size V z.home x ≡ 0 → ending_of z.home x ≡ e →
        ending_words V word next q tail e ≡ on_words V word next to tail → ending_size V next q e ≡ on_size V next to →
        Ends M g.f g.own z.code s v (word q) end (word to) v
    goes_on to e plain is words long =
        let has = subst (λ k. HasAt z.code tail (ending_words V word next q tail k)) is (ending_there M V g z q o x here at same) in
        let all = size in
        let ending = ap (ending_size V next q) is in
        longer M g.f g.own z.code s v v tail end (word q) end (word to) (omega arith) (omega arith)
        (on tail to s v (subst (HasAt z.code tail) words has) (omega (arith, there, plain)) (omega arith)
        (omega (arith, all, ending, long)) sees)

    -- its steps, and on to the next one
    pub runs_on :
        ending_of z.home x ≡ None → CanAll M g.f g.own z.code (steps_of z.home x) v →
        Ends M g.f g.own z.code s v (word q) end (word (suc q)) (does_all M g.f g.own z.code (steps_of z.home x) v)
    runs_on none can =
        let after = does_all M g.f g.own z.code (steps_of z.home x) v in
        let all = size in
        let ending = ap (ending_size V next q) none in
        let low = ends_low in
        let has = subst (λ k. HasAt z.code tail (ending_words V word next q tail k)) none (ending_there M V g z q o x here at same) in
        let e = runs_all M g.f g.own z.code V z.speaks g.frame_small g.own_small (steps_of z.home x) (word q) tail s v
        (plain_there M V g z q o x here at same) refl there (omega (arith, all, low)) sees can in
        joins M g.f g.own z.code s v after after (word q) tail tail end tail (word (suc q)) e
        (on tail (suc q) e.last after has e.at (omega arith) (omega (arith, all, ending)) e.sees) (omega arith)

    -- to one of two steps
    abbrev pub Turns : ℕ → Bool → Type 0
    Turns over r = Ends M g.f g.own z.code s v (word q) end (if r then word (suc (q + over)) else word (suc (q + 0))) v

    -- the words of a question lead to one of them
    pub answered :
        (question : Question) (r : Bool) (over : ℕ) → plain_size V z.home x ≡ 0 → ending_of z.home x ≡ Some (Branch question over) →
        CanAsk M g.f g.own question v → asked M g.f g.own question v.home v.bytes ≡ r → Turns over r
    answered question r over plain is can answer =
        by (next == suc (q + over)) refl
        (subst (λ k. HasAt z.code tail (ending_words V word next q tail k)) is (ending_there M V g z q o x here at same))
        (let all = size in let ending = ap (ending_size V next q) is in omega (arith, all, ending))
      where
        to : ℕ
        to = word (suc (q + over))

        asks : List ℕ
        asks = V.ask_words question tail to

        goes : List ℕ
        goes = on_words V word next (suc q) (tail + V.ask_size question)

        at_tail : M.place s ≡ pc_of tail
        at_tail = omega (arith, there, plain)

        first : word (suc q) ≡ word (suc (q + 0))
        first = ap word (let n : suc q ≡ suc (q + 0) = omega arith in n)

        -- asked as it is
        straight :
            (r : Bool) → asked M g.f g.own question v.home v.bytes ≡ r → HasAt z.code tail (asks ++ goes) →
            end ≡ tail + (V.ask_size question + on_size V next (suc q)) → Turns over r
        straight r answer has sum =
            let low = ends_low in
            let inside = within in
            let e = z.speaks.ask g.f g.own z.code question tail to s v g.frame_small g.own_small
            (has_front z.code tail asks goes has) at_tail (omega (arith, sum, low)) (in_code M V g z (suc (q + over)))
            (reaches M V g z tail (suc (q + over)) (omega arith) (omega (arith, sum, inside)))
            (reached M V g z tail (suc (q + over)) (omega arith) (omega (arith, sum, inside))) sees can in
            let long = z.speaks.asks_size question tail to in
            let back = subst (λ n. HasAt z.code (tail + n) goes) long (has_back z.code tail asks goes has) in
            let lands = ap (λ b. if b then to else tail + V.ask_size question) answer in
            lead r (ends_at M V g z s v v tail (tail + V.ask_size question) _ (if r then to else tail + V.ask_size question) lands e) back sum
          where
            lead :
                (r : Bool) → Ends M g.f g.own z.code s v tail (tail + V.ask_size question) (if r then to else tail + V.ask_size question) v →
                HasAt z.code (tail + V.ask_size question) goes → end ≡ tail + (V.ask_size question + on_size V next (suc q)) →
                Turns over r
            lead true e back sum =
                longer M g.f g.own z.code s v v tail (tail + V.ask_size question) (word q) end to (omega arith) (omega (arith, sum)) e
            lead false e back sum =
                let behind = tail + V.ask_size question in
                ends_at M V g z s v v (word q) end (word (suc q)) (word (suc (q + 0))) first
                (longer M g.f g.own z.code s v v tail end (word q) end (word (suc q)) (omega arith) (omega arith)
                (joins M g.f g.own z.code s v v v tail behind behind end behind (word (suc q)) e
                (on behind (suc q) e.last v back e.at (omega arith) (omega (arith, sum)) e.sees) (omega arith)))

        by :
            (b : Bool) → (next == suc (q + over)) ≡ b →
            HasAt z.code tail (cond b (V.ask_words (opposite question) tail (word (suc q))) (asks ++ goes)) →
            end ≡ tail + cond b (V.ask_size (opposite question)) (V.ask_size question + on_size V next (suc q)) → Turns over r
        by true e has sum =
            let low = ends_low in
            let inside = within in
            let turned = opposite question in
            let stop = tail + V.ask_size turned in
            let e1 = z.speaks.ask g.f g.own z.code turned tail (word (suc q)) s v g.frame_small g.own_small has at_tail
            (omega (arith, sum, low)) (in_code M V g z (suc q))
            (reaches M V g z tail (suc q) (omega arith) (omega (arith, sum, inside)))
            (reached M V g z tail (suc q) (omega arith) (omega (arith, sum, inside))) sees can in
            let begins = next_is M V g z q (line_of o here) at in
            let target = ap word (is_same next (suc (q + over)) e) in
            let there_is : stop ≡ to = omega (arith, sum, begins, target) in
            let other : asked M g.f g.own turned v.home v.bytes ≡ not r = other_way question.wanted _ ∙ ap not answer in
            let lands = ap (λ b. if b then word (suc q) else stop) other
            ∙ pick_other r (word (suc q)) stop to (word (suc (q + 0))) there_is first in
            ends_at M V g z s v v (word q) end _ (if r then to else word (suc (q + 0))) lands
            (longer M g.f g.own z.code s v v tail stop (word q) end _ (omega arith) (omega (arith, sum)) e1)
        by false e has sum = straight r answer has sum
