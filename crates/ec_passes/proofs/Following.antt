-- Code that follows faithful code is faithful.
use Rattle.std.proofs.Common.{◌≡◌, ℕ, zero, suc, ◌+◌, ◌<◌, ◌≤◌, List, [], ◌∷◌, length, drop, Option, Some, refl, sym, ap, ◌∙◌, subst, arith}
use Rattle.ec_base.specs.Bytes.{Bytes}
use Rattle.ec_code.specs.Activations.{Arrived, machine_behind, operation_at, walk}
use Rattle.ec_code.specs.Fine.{IsIn, live_at}
use Rattle.ec_code.specs.Steps.{Machine}
use Rattle.ec_code.specs.declared.activation.CodeActivation.{CodeActivation}
use Rattle.ec_code.specs.declared.code.Live.{Live}
use Rattle.ec_code.specs.declared.code.Operation.{Operation}
use Rattle.ec_code.specs.declared.code.Parts.{Parts}
use Rattle.ec_code.specs.declared.code.Variable.{Variable}
use Rattle.ec_machine_code.specs.Faithful.{Arrives, Faithful, FromEach, homes_of, machine_at}
use Rattle.ec_machine_code.specs.Machine.{MachineMeaning}
use Rattle.ec_machine_code.specs.Standing.{AreTables, Fits, HasWhatIsSet, HomeStands, Lives}
use Rattle.ec_machine_code.specs.Stops.{IsStopAt, address_of, words_before, words_of}
use Rattle.ec_machine_code.specs.declared.code.Code.{Code}
use Rattle.ec_machine_code.specs.declared.homes.Home.{Home}
use Rattle.ec_machine_code.specs.declared.homes.Home.TheVariants.{Register, Slot}
use Rattle.ec_world.specs.Words.{StandsFor}
use Rattle.ec_world.specs.declared.common.Common.{Common}
use Rattle.ec_world.specs.declared.value.Value.{Value}
use Rattle.ec_machine_code.proofs.Different.{different_few}
use Rattle.ec_passes.proofs.Passing.{Reached, reaches}
use Rattle.ec_target.proofs.Climbing.{passes_lead}
use Rattle.ec_passes.specs.Following.{EndsAlike, FollowingIsShort, FollowingKeepsFaithful, Follows, KeepsStops, SameHomes, StopsAt}
use Rattle.ec_machine_code.specs.Once.{ArrivesOnce, FaithfulOnce, IsWordOf, Once}

-- ---- what stands by one state stands by another with the same homes

module _ {S : Type 0} (M : MachineMeaning S) (local : ℕ → Option ℕ) (text : ℕ → Option (List ℕ)) where
  turned : (s t : S) → SameHomes M s t → SameHomes M t s
  turned s t h = record { frame = sym h.frame; owns = sym h.owns; home = λ k small. sym (h.home k small) }

  home_so : (s t : S) → SameHomes M s t → (f : ℕ) (bytes : Bytes) (h : Home) (v : Value) → HomeStands M local text f s bytes h v →
      HomeStands M local text f t bytes h v
  home_so s t same f bytes (Slot n) v h = h
  home_so s t same f bytes (Register k) v h = (h.0, subst (λ w. StandsFor local text v w) (same.home k h.0) h.1)

  lives_so : (s t : S) → SameHomes M s t → (homes : Variable → Option Home) (f : ℕ) (bytes : Bytes) (m : Machine) (x : Variable) →
      Lives M local text homes f s bytes m x → Lives M local text homes f t bytes m x
  lives_so s t same homes f bytes m x l = record {
    value = l.value;
    is = l.is;
    fits = l.fits;
    home = l.home;
    has = l.has;
    stands = home_so s t same f bytes l.home l.value l.stands;
  }

  pub fits_so : (s t : S) → SameHomes M s t → M.rests t → (homes : Variable → Option Home) (alive : List Live) (f own self : ℕ) (m : Machine)
      (bytes : Bytes) → Fits M local text homes alive f own self m s bytes → Fits M local text homes alive f own self m t bytes
  fits_so s t same rests homes alive f own self m bytes fits = record {
    rests = rests;
    frame_base = sym same.frame ∙ fits.frame_base;
    own_base = sym same.owns ∙ fits.own_base;
    frame_small = fits.frame_small;
    own_small = fits.own_small;
    apart = fits.apart;
    frame = fits.frame;
    itself = fits.itself;
    live = λ x t' h. lives_so s t same homes f bytes m x (fits.live x t' h);
    fields = fits.fields;
    constants = fits.constants;
  }

-- ---- the runs

module _ {S : Type 0} (M : MachineMeaning S) (p : Parts) (old new : Code) (homes : List (List Home)) (keeps : KeepsStops M old new)
    (Alike : S → S → Type 0) (origin : ℕ → ℕ) (F : Follows M old new Alike origin) where
  inside : (op : ℕ) (path new_path : List ℕ) → ((j : ℕ) → IsIn j new_path → IsIn (origin j) path) →
      ((i : ℕ) → IsIn i path → IsWordOf old op i) → (j : ℕ) → IsIn j new_path → IsWordOf new op j
  inside op path new_path from own j h = F.own op j (own (origin j) (from j h))

  arrives : (local : ℕ → Option ℕ) (text : ℕ → Option (List ℕ)) (op : ℕ) (o : Operation) (f own self : ℕ) (before : Machine) (c : Common)
      (r : Arrived) (s t : S) (bytes : Bytes) → Alike s t → ArrivesOnce M p old homes local text op o f own self before c r s bytes →
      ArrivesOnce M p new homes local text op o f own self before c r t bytes
  arrives local text op o f own self before c r s t bytes alike (arr, once) =
      let z : Reached M old new Alike origin F t bytes once.path arr.last arr.memory =
      reaches M old new Alike origin F (length once.path) s t bytes once.path arr.last arr.memory (omega arith) alike once.passes arr.native.1 in
      let ends : EndsAlike M old new arr.last z.new_last arr.memory = F.ends arr.last z.new_last arr.memory z.alike arr.native.1 in
      let within = inside op once.path z.new_path z.comes_from once.inside in
      let apart = z.different once.different in
      let few = different_few (words_of new op) (words_before new.operations op) z.new_path apart within in
      let so : (x : Variable) → Lives M local text (homes_of homes op o) f arr.last arr.memory (machine_at c r) x →
      Lives M local text (homes_of homes op o) f z.new_last arr.memory (machine_at c r) x =
      lives_so M local text arr.last z.new_last ends.homes (homes_of homes op o) f arr.memory (machine_at c r) in (
        record {
          steps = length z.new_path;
          last = z.new_last;
          memory = arr.memory;
          native = (passes_lead (M.goes new.words) M.place z.new_path t bytes z.new_last arr.memory z.passes, ends.stops);
          few = omega (arith, few);
          is_loaded = ends.is_loaded arr.is_loaded;
          at = record {
            operation = arr.at.operation;
            is_operation = arr.at.is_operation;
            number = arr.at.number;
            is_number = arr.at.is_number;
            is_address = ends.at op arr.at.number arr.at.is_address;
          };
          row = arr.row;
          is_row = arr.is_row;
          operands = λ x h. so x (arr.operands x h);
          live = λ x t' h. so x (arr.live x t' h);
          fields = arr.fields;
          others = arr.others;
        },
        record { path = z.new_path; passes = z.passes; different = apart; inside = within },
      )

  -- a stop that the new code speaks of is one of the faithful old code
  stands : FaithfulOnce M p old homes → (op n b : ℕ) → address_of new op n ≡ Some b → (a : ℕ) × StopsAt M old op n a
  stands was op n b e =
      let back = keeps.back op n b e in
      let known = was.faithful.known op n back.0 back.1 in
      let stop = was.faithful.stops op n known.2 known.0 known.1 known.3 in
      (stop.0, (stop.1, stop.2))

  runs : FaithfulOnce M p old homes → FromEach M p new homes (ArrivesOnce M p new homes)
  runs was local text o a c d r address f own s bytes tables is_operation stop walks at has fits =
      let there = stands was a.operation stop.number address stop.is_address in
      let enter = F.enters a.operation stop.number there.0 address s there.1 stop.is_address fits.rests at in
      let before = enter.0 in
      let old_stop : IsStopAt p old a.operation a.at there.0 = record {
        operation = stop.operation;
        is_operation = stop.is_operation;
        number = stop.number;
        is_number = stop.is_number;
        is_address = there.1.0;
      } in
      let back = turned M local text before s enter.3 in
      let old_fits = fits_so M local text s before back enter.1 (homes_of homes a.operation o) (live_at o.code (suc a.at)) f own a.own
      (machine_behind p c a) bytes fits in
      arrives local text a.operation o f own a.own (machine_behind p c a) d r before s bytes enter.4
      (was.once local text o a c d r there.0 f own before bytes tables is_operation old_stop walks enter.2 has old_fits)

  faithful : FaithfulOnce M p old homes → FaithfulOnce M p new homes
  faithful was = record {
    faithful = record {
      stops = λ op n q o e g.
          let z = was.faithful.stops op n q o e g in
          let k = keeps.there op n z.0 (z.1, z.2) in
          (k.0, k.1.0, k.1.1);
      only = λ b e.
          let z = keeps.only b e in
          let o = was.faithful.only z.0 z.1 in
          (o.0, o.1, z.2 o.0 o.1 o.2);
      apart = λ op n k m b e g.
          let x = stands was op n b e in
          let y = stands was k m b g in
          was.faithful.apart op n k m x.0 x.1.0 (y.1.0 ∙ ap Some (sym (keeps.apart op n k m x.0 y.0 b x.1 y.1 e g)));
      known = λ op n b e. let z = keeps.back op n b e in was.faithful.known op n z.0 z.1;
      whole = keeps.whole was.faithful.whole;
      within = λ op n b e. let x = stands was op n b e in keeps.within op n x.0 b x.1 e (was.faithful.within op n x.0 x.1.0);
      runs = λ local text o a c d r address f own s bytes tables is_operation stop walks at has fits.
          (runs was local text o a c d r address f own s bytes tables is_operation stop walks at has fits).0;
    };
    once = runs was;
  }

pub following_keeps_faithful : {S : Type 0} (M : MachineMeaning S) (Alike : Code → Code → S → S → Type 0) → FollowingKeepsFaithful M Alike
following_keeps_faithful M Alike p old new homes origin keeps follows was =
    faithful M p old new homes keeps (Alike old new) origin follows was

pub following_is_short : {S : Type 0} (M : MachineMeaning S) (Alike : Code → Code → S → S → Type 0) → FollowingIsShort M Alike
following_is_short {S} M Alike old new origin follows s t bytes path last memory alike run stop =
    let z : Reached M old new (Alike old new) origin follows t bytes path last memory =
    reaches M old new (Alike old new) origin follows (length path) s t bytes path last memory (omega arith) alike run stop in
    (z.new_path, z.new_last, z.passes, z.few, z.alike, follows.ends last z.new_last memory z.alike stop)
