-- Code of an operation, where it stands in the code of a program; and what the typing of three-address code says of a place.
use Rattle.std.proofs.Common.{◌≡◌, ◌≢◌, ℕ, suc, ◌+◌, ◌≤◌, List, length, drop, Some, sym, ap, ◌∙◌}
use Rattle.std.proofs.Common.{subst, arith, inl, inr, ⊎_elim}
use Rattle.std.specs.Prelude.{slice_get}
use Rattle.ec_base.proofs.Lists.{get_within}
use Rattle.ec_code.specs.Fine.{IsIn}
use Rattle.ec_code.specs.Fine.{FineOperation, Has, Passes, Writes, live_at, live_if}
use Rattle.ec_code.specs.Steps.{own_field}
use Rattle.ec_code.specs.Typing.{Declared}
use Rattle.ec_code.specs.declared.code.Line.{Line}
use Rattle.ec_code.specs.declared.code.Live.{Live}
use Rattle.ec_code.specs.declared.code.Op.{Op}
use Rattle.ec_code.specs.declared.code.Op.TheVariants.{SetField}
use Rattle.ec_code.specs.declared.code.Operand.{Operand}
use Rattle.ec_code.specs.declared.code.Operation.{Operation}
use Rattle.ec_code.specs.declared.code.Variable.{Variable}
use Rattle.ec_code.specs.declared.code.Variable.TheVariants.{Named, Temporary}
use Rattle.ec_types.specs.declared.conform.static_type.StaticType.{StaticType}
use Rattle.ec_machine_code.specs.Frames.{slots}
use Rattle.ec_machine_code.specs.Machine.{MachineMeaning}
use Rattle.ec_machine_code.specs.Homes.{IsWithin}
use Rattle.ec_machine_code.specs.declared.homes.Home.{Home}
use Rattle.ec_code.specs.Live.{writes}
use Rattle.ec_machine_code.specs.Fitting.{IsNamedBy, NumbersFit}
use Rattle.ec_machine_code.proofs.Direct.{laid_there, ops_long}
use Rattle.ec_machine_code.specs.Direct.{laid_op}
use Rattle.ec_machine_code.specs.Layout.{IsOrder, ending_words, next_of, op_size, op_words, ops_of, place, plain_size, size_if, size_of}
use Rattle.ec_machine_code.specs.Layout.{words_of_steps}
use Rattle.ec_machine_code.specs.Lowering.{ending_of, steps_of}
use Rattle.ec_machine_code.specs.Micro.{Sight}
use Rattle.ec_machine_code.specs.Speaks.{Ends, HasAt, Speaks, Vocabulary, words_end}
use Rattle.ec_world.specs.declared.value.Value.{Value}
use Rattle.ec_machine_code.proofs.LaidOutSizes.{before_within, behind, behind_within, next_begins}
use Rattle.ec_machine_code.proofs.Standing.{AreThere, Flows, Setting}
use Rattle.ec_machine_code.proofs.Stretches.{get_behind, has_back, has_front}

abbrev pub line_of : Op → List Live → Line
line_of o live = record { op = o; live = live }

-- the words of an operation with this code, in an order of its steps, stand in the code of a program from word `start` on
pub record Laid (V : Vocabulary) (home : Variable → Home) (ops : List Op) (order : List ℕ) (code : List ℕ) (start : ℕ) : Type 0 where
  pub ordered : IsOrder (length ops) order
  pub stand :
      (p : ℕ) (o : Op) → slice_get ops p ≡ Some o →
      HasAt code (place V home ops order start p)
      (op_words V home (place V home ops order start) (next_of (length ops) order p) p (place V home ops order start p) o)
  pub low : start + size_of V home ops order ≤ words_end
  pub near : size_of V home ops order ≤ V.reach

-- an operation, its homes, and where its code stands
pub record Site {S : Type 0} (M : MachineMeaning S) (V : Vocabulary) (g : Setting M) : Type 0 where
  pub speaks : Speaks M V
  pub declared : Declared
  pub number : ℕ
  pub of : Operation
  pub home : Variable → Home
  pub fine : FineOperation declared g.parts number of
  pub numbers : (q : ℕ) (line : Line) → slice_get of.code q ≡ Some line → NumbersFit line.op
  pub within :
      (q : ℕ) (line : Line) (x : Variable) → slice_get of.code q ≡ Some line → IsNamedBy line x → IsWithin M.homes slots (home x)
  pub apart :
      (q : ℕ) (line : Line) (to x : Variable) (t : StaticType) → slice_get of.code q ≡ Some line → writes line.op ≡ Some to →
      Has (live_at of.code (suc q)) x t → x ≢ to → home x ≢ home to
  pub sets :
      (q n : ℕ) (line : Line) (from : Operand) → slice_get of.code q ≡ Some line → line.op ≡ SetField n from →
      (v : Value) × (own_field g.before.common g.self n ≡ Some v)
  pub code : List ℕ
  pub start : ℕ
  pub order : List ℕ
  pub laid : Laid V home (ops_of of.code) order code start

-- ---- the typing of a place

-- what is live behind so many lines of what is behind a place
pub live_behind : (code : List Line) (q over : ℕ) → live_at (drop (suc q) code) over ≡ live_at code (suc (q + over))
live_behind code q over =
    let next : suc q + over ≡ suc (q + over) = omega arith in
    ap live_if (get_behind code (suc q) over) ∙ ap (live_at code) next

pub live_next : (code : List Line) (q : ℕ) → live_at (drop (suc q) code) 0 ≡ live_at code (suc q)
live_next code q = let none : q + 0 ≡ q = omega arith in live_behind code q 0 ∙ ap (λ n. live_at code (suc n)) none

module _ {S : Type 0} (M : MachineMeaning S) (V : Vocabulary) (g : Setting M) (z : Site M V g) where
  abbrev pub named : ℕ
  named = length z.of.variables

  abbrev pub next_live : ℕ → List Live
  next_live q = live_at z.of.code (suc q)

  abbrev pub At : ℕ → Op → List Live → Type 0
  At q o here = slice_get z.of.code q ≡ Some (line_of o here)

  pub there_next : (q : ℕ) → AreThere M g z.home named (next_live q)
  there_next q (Named n) t h = z.fine.named (suc q) n t h
  there_next q (Temporary k) t h = tt

  pub flows_next :
      (q : ℕ) (here : List Live) (to : Variable) (s : StaticType) → Writes z.declared g.parts (drop (suc q) z.of.code) to s here →
      Flows M g z.home named to here (next_live q)
  flows_next q here to s w x t h = ⊎_elim
      (λ e. inl e.0)
      (λ e. inr e)
      (w.1 x t (subst (λ l. Has l x t) (sym (live_next z.of.code q)) h))

  pub passes_next :
      (q over : ℕ) (here : List Live) → Passes z.declared g.parts (drop (suc q) z.of.code) over here →
      (x : Variable) (t : StaticType) → Has (live_at z.of.code (suc (q + over))) x t → Has here x t
  passes_next q over here w x t h = w.1 x t (subst (λ l. Has l x t) (sym (live_behind z.of.code q over)) h)

  -- ---- the words of a place

  abbrev pub ops : List Op
  ops = ops_of z.of.code

  abbrev pub word_of : ℕ → ℕ
  word_of = place V z.home ops z.order z.start

  -- the step that stands next behind step q
  abbrev pub next_to : ℕ → ℕ
  next_to q = next_of (length ops) z.order q

  -- the word behind the last of step q
  abbrev pub end_of : ℕ → ℕ
  end_of q = z.start + behind V z.home ops z.order q

  -- the step that is laid out for the one at a place
  pub op_at : (q : ℕ) (o x : Op) (here : List Live) → At q o here → laid_op z.of.code q o ≡ x → slice_get ops q ≡ Some x
  op_at q o x here e same = laid_there z.of.code q (line_of o here) e ∙ ap Some same

  -- the words behind its steps
  abbrev pub ending_there_words : ℕ → Op → List ℕ
  ending_there_words q x = ending_words V word_of (next_to q) q (word_of q + plain_size V z.home x) (ending_of z.home x)

  pub plain_there :
      (q : ℕ) (o x : Op) (here : List Live) → At q o here → laid_op z.of.code q o ≡ x →
      HasAt z.code (word_of q) (words_of_steps V (steps_of z.home x))
  plain_there q o x here e same =
      has_front z.code (word_of q) (words_of_steps V (steps_of z.home x)) (ending_there_words q x)
      (z.laid.stand q x (op_at q o x here e same))

  pub ending_there :
      (q : ℕ) (o x : Op) (here : List Live) → At q o here → laid_op z.of.code q o ≡ x →
      HasAt z.code (word_of q + plain_size V z.home x) (ending_there_words q x)
  ending_there q o x here e same =
      has_back z.code (word_of q) (words_of_steps V (steps_of z.home x)) (ending_there_words q x)
      (z.laid.stand q x (op_at q o x here e same))

  -- ---- places

  pub in_code : (q : ℕ) → word_of q ≤ words_end
  in_code q =
      let within = before_within V z.home ops z.order q in
      let low = z.laid.low in
      omega (arith, within, low)

  -- two words of the operation are within reach of one another
  pub reaches : (i q : ℕ) → z.start ≤ i → i ≤ z.start + size_of V z.home ops z.order → word_of q ≤ i + V.reach
  reaches i q low high =
      let within = before_within V z.home ops z.order q in
      let near = z.laid.near in
      omega (arith, within, near, low)

  pub reached : (i q : ℕ) → z.start ≤ i → i ≤ z.start + size_of V z.home ops z.order → i ≤ word_of q + V.reach
  reached i q low high = let near = z.laid.near in omega (arith, near, high)

  -- where a step ends
  pub end_is :
      (q : ℕ) (o x : Op) (here : List Live) → At q o here → laid_op z.of.code q o ≡ x →
      end_of q ≡ word_of q + op_size V z.home (next_to q) q x
  end_is q o x here at same =
      let size = ap (size_if V z.home ops (next_to q) q) (op_at q o x here at same) in
      omega (arith, size)

  pub has_spot : (q : ℕ) (line : Line) → slice_get z.of.code q ≡ Some line → IsIn q z.order
  has_spot q line e =
      let lt = get_within z.of.code q line e in
      let long = ops_long z.of.code in
      z.laid.ordered.all q (omega (arith, lt, long))

  -- there the one begins that stands next
  pub next_is : (q : ℕ) (line : Line) → slice_get z.of.code q ≡ Some line → word_of (next_to q) ≡ end_of q
  next_is q line e =
      let begins = next_begins V z.home ops z.order q z.laid.ordered.different
      (λ h. let lt = z.laid.ordered.within (length ops) h in omega (arith, lt)) (has_spot q line e) in
      omega (arith, begins)

  pub ends_within : (q : ℕ) (line : Line) → slice_get z.of.code q ≡ Some line → end_of q ≤ z.start + size_of V z.home ops z.order
  ends_within q line e = let within = behind_within V z.home ops z.order q (has_spot q line e) in omega (arith, within)

  pub ends_at :
      (s : S) (v u : Sight) (from end n k : ℕ) → n ≡ k → Ends M g.f g.own z.code s v from end n u →
      Ends M g.f g.own z.code s v from end k u
  ends_at s v u from end n k e h = subst (λ to. Ends M g.f g.own z.code s v from end to u) e h

  -- the word behind the last of the operation
  abbrev pub behind_all : ℕ
  behind_all = z.start + size_of V z.home ops z.order
