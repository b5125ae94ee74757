-- A frame is filled with the words of variables, one after another.
use Rattle.std.proofs.Common.{◌≡◌, ◌≢◌, ℕ, suc, ◌+◌, ◌<◌, ◌≤◌, ⊎_elim, List, ◌++◌, length, take, Some, sym, ap, ◌∙◌, arith}
use Rattle.std.specs.Prelude.{slice_get, slice_set}
use Rattle.std.proofs.lemmas.Option.{same_Some}
use Rattle.ec_base.proofs.Lists.{get_set_other, get_set_same, get_within, length_set}
use Rattle.ec_code.specs.declared.code.Live.{Live}
use Rattle.ec_node_frames.proofs.Homed.{behind_eight}
use Rattle.ec_node_frames.proofs.Items.{get_front}
use Rattle.ec_node_frames.specs.Loops.{IsFilled, spot_of}
use Rattle.ec_objects.proofs.Wording.{take_all}
use Rattle.ec_generate.specs.Tables.{home_in}
use Rattle.ec_generate.specs.declared.table.OperationTable.{OperationTable}
use Rattle.ec_things.proofs.Put.{same_or_not}

-- what stands at the head of a list stands there when it is made longer
pub head_kept : (heads frame more : List ℕ) (many : ℕ) → frame ≡ take many heads ++ more → length heads ≤ many → (i w : ℕ) →
    slice_get heads i ≡ Some w → slice_get frame i ≡ Some w
head_kept heads frame more many is few i w e =
    ap (λ (l : List ℕ). slice_get l i) (is ∙ ap (λ (l : List ℕ). l ++ more) (take_all heads many few)) ∙ get_front heads more i w e

module _ (table : OperationTable) (held : List Live) (words heads : List ℕ) where
  pub none_filled : (frame : List ℕ) → length frame ≡ 128 →
      ((i w : ℕ) → slice_get heads i ≡ Some w → slice_get frame i ≡ Some w) → IsFilled table held words heads frame 0
  none_filled frame long headed = record { long = long; headed = headed; each = λ i l low e f. absurd (omega (arith, low)) }

  pub one_filled : (frame next : List ℕ) (i : ℕ) (l : Live) (w : ℕ) → length heads ≤ 8 → IsFilled table held words heads frame i →
      slice_get held i ≡ Some l → slice_get words (i + 1) ≡ Some w → next ≡ slice_set frame (spot_of table l) w →
      IsFilled table held words heads next (i + 1)
  one_filled frame next i l w few so_far is its now = record {
    long = ap (λ (f : List ℕ). length f) now ∙ length_set frame (spot_of table l) w ∙ so_far.long;
    headed = λ j x e. other j (before j x e) ∙ so_far.headed j x e;
    each = λ j k low e small. ⊎_elim
        (λ (same : spot_of table k ≡ spot_of table l). record {
          index = i;
          live = l;
          word = w;
          is = is;
          its = ap (slice_get words) after ∙ its;
          home = sym same;
          there = ap (slice_get next) same ∙ here (subst_low k same small);
        })
        (λ (ne : spot_of table k ≢ spot_of table l).
        let one = so_far.each j k (lower j k low e ne) e small in
        record {
          index = one.index;
          live = one.live;
          word = one.word;
          is = one.is;
          its = one.its;
          home = one.home;
          there = other (spot_of table k) ne ∙ one.there;
        })
        (same_or_not (spot_of table k) (spot_of table l));
  }
    where
      after : suc i ≡ i + 1
      after = omega arith

      other : (j : ℕ) → j ≢ spot_of table l → slice_get next j ≡ slice_get frame j
      other j ne = ap (λ (f : List ℕ). slice_get f j) now ∙ get_set_other frame (spot_of table l) j w ne

      before : (j x : ℕ) → slice_get heads j ≡ Some x → j ≢ spot_of table l
      before j x e q = (let h = get_within heads j x e in let b = behind_eight (home_in table l.variable) in omega (arith, h, b, few, q))

      subst_low : (k : Live) → spot_of table k ≡ spot_of table l → spot_of table k < 128 → spot_of table l < length frame
      subst_low k same small = (let g = so_far.long in omega (arith, same, small, g))

      here : spot_of table l < length frame → slice_get next (spot_of table l) ≡ Some w
      here low = ap (λ (f : List ℕ). slice_get f (spot_of table l)) now ∙ get_set_same frame (spot_of table l) w low

      lower : (j : ℕ) (k : Live) → j < i + 1 → slice_get held j ≡ Some k → spot_of table k ≢ spot_of table l → j < i
      lower j k low e ne =
          let no : j ≢ i = λ q. ne (ap (spot_of table) (same_Some k l (sym e ∙ ap (slice_get held) q ∙ is))) in
          omega (arith, low, no)
