-- Runs through the words of several steps: each step has words of its own, and none is passed twice.
use Rattle.std.proofs.Common.{◌≡◌, ◌≢◌, ℕ, suc, ◌+◌, ◌<◌, ◌≤◌, List, [], ◌++◌, length, Some, arith, ⊎_elim}
use Rattle.std.specs.Prelude.{slice_get}
use Rattle.ec_code.specs.Fine.{IsIn}
use Rattle.ec_code.specs.declared.code.Line.{Line}
use Rattle.ec_machine_code.specs.Layout.{before, size_of}
use Rattle.ec_machine_code.specs.Machine.{MachineMeaning}
use Rattle.ec_machine_code.specs.Micro.{Sight}
use Rattle.ec_machine_code.specs.Once.{AreDifferent}
use Rattle.ec_machine_code.specs.Speaks.{Ends, Sees, Vocabulary}
use Rattle.ec_target.proofs.Climbing.{passes_append, passes_none}
use Rattle.ec_target.specs.Code.{pc_of}
use Rattle.ec_target.specs.Paths.{Passes}
use Rattle.ec_machine_code.proofs.Different.{different_append, different_few, in_either}
use Rattle.ec_machine_code.proofs.LaidOutSizes.{behind, spots_apart}
use Rattle.ec_machine_code.proofs.Once.{rises_different, rises_inside}
use Rattle.ec_machine_code.proofs.Sites.{Site, behind_all, end_of, ends_within, has_spot, ops, word_of}
use Rattle.ec_machine_code.proofs.Standing.{Setting}

module _ {S : Type 0} (M : MachineMeaning S) (V : Vocabulary) (g : Setting M) (z : Site M V g) where
  -- a word of step p, or of one behind it
  pub record IsWordFrom (p i : ℕ) : Type 0 where
    pub step : ℕ
    pub line : Line
    pub is_line : slice_get z.of.code step ≡ Some line
    pub least : p ≤ step
    pub low : word_of M V g z step ≤ i
    pub high : i < end_of M V g z step

  -- such a word is none of a step before it
  apart :
      (q p i : ℕ) (line : Line) → slice_get z.of.code q ≡ Some line → q < p → IsWordFrom p i → word_of M V g z q ≤ i →
      i < end_of M V g z q → ⊥
  apart q p i line e lt w low high =
      let least = w.least in
      let w_low = w.low in
      let w_high = w.high in
      let other : q ≢ w.step = λ same. (omega (arith, same, lt, least)) in
      ⊎_elim
      (λ (h : behind V z.home (ops M V g z) z.order q ≤ before V z.home (ops M V g z) z.order w.step). omega (arith, h, high, w_low))
      (λ (h : behind V z.home (ops M V g z) z.order w.step ≤ before V z.home (ops M V g z) z.order q). omega (arith, h, low, w_high))
      (spots_apart V z.home (ops M V g z) z.order q w.step (has_spot M V g z q line e) (has_spot M V g z w.step w.line w.is_line) other)

  -- from a state, by words of step p and of those behind it, none of them twice, to one at word `to` that shows another sight
  pub record Comes (s : S) (v : Sight) (p to : ℕ) (after : Sight) : Type 0 where
    pub last : S
    pub path : List ℕ
    pub passes : Passes (M.goes z.code) M.place path s v.bytes last after.bytes
    pub different : AreDifferent path
    pub words : (i : ℕ) → IsIn i path → IsWordFrom p i
    pub at : M.place last ≡ pc_of to
    pub sees : Sees M g.f g.own last after.home

  -- one is there
  pub is_there : (s : S) (v : Sight) (p to : ℕ) → M.place s ≡ pc_of to → Sees M g.f g.own s v.home → Comes s v p to v
  is_there s v p to at sees = record {
    last = s;
    path = [];
    passes = passes_none (M.goes z.code) M.place s v.bytes;
    different = tt;
    words = λ i h. absurd h;
    at = at;
    sees = sees;
  }

  module _ (s : S) (v u : Sight) (q i : ℕ) (line : Line) (is_line : slice_get z.of.code q ≡ Some line)
      (e : Ends M g.f g.own z.code s v (word_of M V g z q) (end_of M V g z q) i u) where
    words_of_step : (k : ℕ) → IsIn k e.climbs.path → (word_of M V g z q ≤ k) × (k < end_of M V g z q)
    words_of_step k h = rises_inside (word_of M V g z q) (end_of M V g z q) e.climbs.path k e.climbs.rises h

    -- through the words of one step, and on through those of steps behind it
    pub comes_on : (t : Sight) (p to : ℕ) → q < p → Comes e.last u p to t → Comes s v q to t
    comes_on t p to lt far = record {
      last = far.last;
      path = e.climbs.path ++ far.path;
      passes = passes_append (M.goes z.code) M.place e.climbs.path far.path s v.bytes e.last u.bytes far.last t.bytes e.climbs.passes
          far.passes;
      different = different_append e.climbs.path far.path
          (rises_different (word_of M V g z q) (end_of M V g z q) e.climbs.path e.climbs.rises) far.different
          (λ k a b. let w = words_of_step k a in apart q p k line is_line lt (far.words k b) w.0 w.1);
      words = λ k h. ⊎_elim
          (λ (a : IsIn k e.climbs.path).
          let w = words_of_step k a in
          record { step = q; line = line; is_line = is_line; least = omega arith; low = w.0; high = w.1 })
          (λ (b : IsIn k far.path).
          let w = far.words k b in
          let least = w.least in
          record {
            step = w.step;
            line = w.line;
            is_line = w.is_line;
            least = omega (arith, lt, least);
            low = w.low;
            high = w.high;
          })
          (in_either k e.climbs.path far.path h);
      at = far.at;
      sees = far.sees;
    }

    pub comes_there : Comes s v q i u
    comes_there = comes_on u (suc q) i (omega arith) (is_there e.last u (suc q) i e.at e.sees)

  -- all of them are the operation's
  pub is_within : (p i : ℕ) → IsWordFrom p i → (z.start ≤ i) × (i < behind_all M V g z)
  is_within p i w =
      let low = w.low in
      let high = w.high in
      let within = ends_within M V g z w.step w.line w.is_line in
      ((omega (arith, low)), (omega (arith, high, within)))

  pub comes_few :
      (s : S) (v u : Sight) (p to : ℕ) (c : Comes s v p to u) → length c.path ≤ size_of V z.home (ops M V g z) z.order
  comes_few s v u p to c =
      different_few (size_of V z.home (ops M V g z) z.order) z.start c.path c.different (λ i h. is_within p i (c.words i h))
