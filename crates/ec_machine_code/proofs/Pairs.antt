-- A result that goes at once to where the next step copies it: what the code of the first step does is what both steps do.
use Rattle.std.proofs.Common.{◌≡◌, ◌≢◌, ℕ, suc, List, length, None, Some, refl, sym, ap, subst}
use Rattle.std.proofs.Common.{inl, inr, ⊎_elim}
use Rattle.ec_code.specs.Fine.{Has, live_at, live_if}
use Rattle.ec_code.specs.Steps.{Machine, computed, on_numbers, on_two, operand_at, with_variable}
use Rattle.ec_code.specs.declared.code.Arithmetic.{Arithmetic}
use Rattle.ec_code.specs.declared.code.Live.{Live}
use Rattle.ec_code.specs.declared.code.Op.{Op}
use Rattle.ec_code.specs.declared.code.Op.TheVariants as op
use Rattle.ec_code.specs.declared.code.Operand.{Operand}
use Rattle.ec_code.specs.declared.code.Operand.TheVariants as operand
use Rattle.ec_code.specs.declared.code.Variable.{Variable}
use Rattle.ec_code.specs.declared.code.Variable.TheVariants.{Named, Temporary}
use Rattle.ec_types.specs.declared.conform.static_type.StaticType.{StaticType}
use Rattle.ec_machine_code.specs.Frames.{slots}
use Rattle.ec_machine_code.specs.Machine.{MachineMeaning}
use Rattle.ec_machine_code.specs.Homes.{IsWithin}
use Rattle.ec_machine_code.proofs.Direct.{nothing_moved}
use Rattle.ec_machine_code.specs.Direct.{done_already, laid_op}
use Rattle.ec_machine_code.specs.Layout.{plain_size, words_of_steps}
use Rattle.ec_machine_code.specs.Lowering.{source_of, steps_of}
use Rattle.ec_machine_code.specs.Micro.{Sight, found, gets, reckoned}
use Rattle.ec_machine_code.specs.Speaks.{Ends, Sees, Vocabulary}
use Rattle.ec_machine_code.specs.declared.step.Step.{Step}
use Rattle.ec_target.specs.Code.{pc_of}
use Rattle.ec_world.specs.declared.value.Value.{Value}
use Rattle.ec_machine_code.proofs.Operands.{found_is}
use Rattle.ec_machine_code.proofs.Goings.{goes_on, runs_on}
use Rattle.ec_machine_code.proofs.FineAt.{fine_at}
use Rattle.ec_machine_code.proofs.Sites.{At, Site, end_of, flows_next, line_of, named, there_next, word_of}
use Rattle.ec_machine_code.proofs.Standing.{Beside, Flows, Held, Setting, Standing, can_write, writes_home, written_beside}
use Rattle.ec_machine_code.proofs.Stretches.{CanAll}
use Rattle.ec_machine_code.proofs.Values.{reckons, stands_small, two_some}
use Rattle.ec_machine_code.proofs.Variables.{set_other}

module _ {S : Type 0} (M : MachineMeaning S) (V : Vocabulary) (g : Setting M) (z : Site M V g) where
  -- the code leads from a place past the next step
  pub record Passed (p : ℕ) (s : S) (v : Sight) (new : Machine) : Type 0 where
    pub after : Sight
    pub first : Ends M g.f g.own z.code s v (word_of M V g z p) (end_of M V g z p) (word_of M V g z (suc p)) after
    pub second :
        Ends M g.f g.own z.code first.last after (word_of M V g z (suc p)) (end_of M V g z (suc p)) (word_of M V g z (suc (suc p))) after
    pub stand : Standing M g z.home (named M V g z) (live_at z.of.code (suc (suc p))) after new
    pub same : (address : ℕ) → Beside M g address → after.bytes address ≡ v.bytes address

  -- a step without words
  done_size : (n : ℕ) → plain_size V z.home (done_already n) ≡ 0
  done_size n = ap (λ ms. length (words_of_steps V ms)) (nothing_moved z.home n)

  module _ (p : ℕ) (how : Arithmetic) (t n : ℕ) (left right : Operand) (here next : List Live)
      (at : At M V g z p (op.Compute how (Temporary t) left right) here)
      (at_next : At M V g z (suc p) (op.Copy (Named n) (operand.Of (Temporary t))) next)
      (laid : laid_op z.of.code p (op.Compute how (Temporary t) left right) ≡ op.Compute how (Named n) left right)
      (laid_next : laid_op z.of.code (suc p) (op.Copy (Named n) (operand.Of (Temporary t))) ≡ done_already n)
      (dead : (of : StaticType) → Has (live_at z.of.code (suc (suc p))) (Temporary t) of → ⊥)
      (s : S) (v : Sight) (m : Machine) (u : Value) (stand : Standing M g z.home (named M V g z) here v m)
      (sees : Sees M g.f g.own s v.home) (there : M.place s ≡ pc_of (word_of M V g z p))
      (comes : on_two (on_numbers (computed how)) (operand_at m left) (operand_at m right) ≡ Some u) where
    abbrev o : Op
    o = op.Compute how (Temporary t) left right

    abbrev copy : Op
    copy = op.Copy (Named n) (operand.Of (Temporary t))

    abbrev x : Op
    x = op.Compute how (Named n) left right

    abbrev behind : List Live
    behind = live_at z.of.code (suc (suc p))

    -- what is live behind both is live here, but for the variable that gets the result
    flows : Flows M g z.home (named M V g z) (Named n) here behind
    flows y of l =
        let fine = fine_at z.declared g.parts z.number z.of p (line_of o here) z.fine at in
        let fine_next = fine_at z.declared g.parts z.number z.of (suc p) (line_of copy next) z.fine at_next in
        ⊎_elim
        (λ (e : y ≡ Named n). inl e)
        (λ (k : (y ≢ Named n) × Has next y of). ⊎_elim
        (λ (e : y ≡ Temporary t). absurd (dead of (subst (λ i. Has behind i of) e l)))
        (λ (h : (y ≢ Temporary t) × Has here y of). inr (k.0, h.1))
        (flows_next M V g z p here (Temporary t) _ fine.1 y of (subst (λ ls. Has ls y of) (sym (ap live_if at_next)) k.1)))
        (flows_next M V g z (suc p) next (Named n) _ fine_next.2 y of l)

    abbrev first : Machine
    first = with_variable m (Temporary t) u

    -- the temporary alone differs, and isn't live
    held_too :
        (after : Sight) (y : Variable) → y ≢ Temporary t → Held M g z.home after (with_variable m (Named n) u) y →
        Held M g z.home after (with_variable first (Named n) u) y
    held_too after (Named k) ne h = record { value = h.value; is = h.is; fits = h.fits; holds = h.holds }
    held_too after (Temporary k) ne h =
        record { value = h.value; is = set_other m (Temporary t) (Temporary k) u h.value ne h.is; fits = h.fits; holds = h.holds }

    stands_too :
        (after : Sight) → Standing M g z.home (named M V g z) behind after (with_variable m (Named n) u) →
        Standing M g z.home (named M V g z) behind after (with_variable first (Named n) u)
    stands_too after h = record {
      held = λ y of l. held_too after y (λ e. dead of (subst (λ i. Has behind i of) e l)) (h.held y of l);
      ground = h.ground;
      many = h.many;
    }

    abbrev left_word : ℕ
    left_word = found M g.f g.own (source_of z.home left) v.home v.bytes

    abbrev right_word : ℕ
    right_word = found M g.f g.own (source_of z.home right) v.home v.bytes

    abbrev word : ℕ
    word = reckoned how left_word right_word

    abbrev steps : List Step
    steps = steps_of z.home x

    within : IsWithin M.homes slots (z.home (Named n))
    within = z.within (suc p) (line_of copy next) (Named n) at_next (inr (inl refl))

    pub passed : Passed p s v (with_variable first (Named n) u)
    passed =
        let fine = fine_at z.declared g.parts z.number z.of p (line_of o here) z.fine at in
        let fits = z.numbers p (line_of o here) at in
        let both = two_some (on_numbers (computed how)) (operand_at m left) (operand_at m right) u comes in
        let one = found_is M V g z here v m stand left _ both.0 fine.0.0 fits.0 both.2 in
        let two = found_is M V g z here v m stand right _ both.1 fine.0.1 fits.1 both.3 in
        let r = reckons g.parts g.local g.text g.tables how both.0 both.1 left_word right_word u one.fits two.fits one.stands two.stands
        both.4 in
        let small = stands_small g.parts g.local g.text g.tables u word r.fits r.stands in
        let has = can_write M g (z.home (Named n)) v.bytes within stand.ground.frame in
        let can : CanAll M g.f g.own z.code steps v = ((has, one.can, two.can, r.can), tt) in
        let after = gets M g.f g.own (z.home (Named n)) word v in
        let run = runs_on M V g z p o x here at laid s v there sees refl can in
        record {
          after = after;
          first = run;
          second = goes_on M V g z (suc p) copy (done_already n) next at_next laid_next run.last after run.at run.sees (suc (suc p)) None
              (done_size n) refl refl refl;
          stand = stands_too after
              (writes_home M g z.home (named M V g z) here behind (Named n) u word v m flows
              (λ y of l ne. z.apart (suc p) (line_of copy next) (Named n) y of at_next refl l ne) (there_next M V g z (suc p)) within small
              r.fits r.stands stand);
          same = λ address out. written_beside M g (z.home (Named n)) word v address within out;
        }
