-- From a state that fits an activation the code does what silent steps do.
use Rattle.std.proofs.Common.{◌≡◌, ℕ, suc, ◌+◌, ◌≤◌, List, length, drop, Option, Some, None, refl, sym, ap, ◌∙◌}
use Rattle.std.proofs.Common.{subst, arith, inr}
use Rattle.std.specs.Prelude.{slice_get}
use Rattle.std.proofs.lemmas.Option.{same_Some}
use Rattle.ec_base.specs.Bytes.{Bytes}
use Rattle.ec_code.specs.Activations.{Arrived, machine_behind, operation_at, walk}
use Rattle.ec_code.specs.Fine.{Has, IsIn, live_at}
use Rattle.ec_code.specs.Steps.{Machine}
use Rattle.ec_code.specs.Typing.{Declared}
use Rattle.ec_code.specs.declared.activation.CodeActivation.{CodeActivation}
use Rattle.ec_code.specs.declared.code.Line.{Line}
use Rattle.ec_code.specs.declared.code.Op.TheVariants as op
use Rattle.ec_code.specs.declared.code.Operation.{Operation}
use Rattle.ec_code.specs.declared.code.Parts.{Parts}
use Rattle.ec_code.specs.declared.code.StopRow.{StopRow}
use Rattle.ec_code.specs.declared.code.Variable.{Variable}
use Rattle.ec_types.specs.declared.conform.static_type.StaticType.{StaticType}
use Rattle.ec_machine_code.specs.Faithful.{homes_of, machine_at}
use Rattle.ec_machine_code.specs.Frames.{slots}
use Rattle.ec_machine_code.specs.Machine.{MachineMeaning}
use Rattle.ec_machine_code.specs.Once.{ArrivesOnce, IsWordOf}
use Rattle.ec_machine_code.specs.Standing.{AreTables, Fits, HasWhatIsSet, HomeStands, Lives}
use Rattle.ec_machine_code.specs.Stops.{IsStopAt, home_in, stop_of, stop_places, words_of}
use Rattle.ec_machine_code.specs.Homes.{IsWithin}
use Rattle.ec_machine_code.specs.declared.homes.Home.{Home}
use Rattle.ec_machine_code.specs.declared.homes.Home.TheVariants.{Register, Slot}
use Rattle.ec_code.specs.declared.code.Op.TheVariants.{Rest}
use Rattle.ec_machine_code.proofs.Direct.{never_joined, none_behind, rest_laid}
use Rattle.ec_machine_code.specs.Direct.{joined_before, joined_of}
use Rattle.ec_machine_code.specs.Fitting.{CanBeLaidOut, LaidOutIsFaithful}
use Rattle.ec_machine_code.specs.Layout.{Vocabularies, home_of, home_or, order_of, vocabulary_of}
use Rattle.ec_machine_code.specs.Micro.{Sight}
use Rattle.ec_machine_code.specs.Speaks.{Ends, Sees, Vocabulary}
use Rattle.ec_world.specs.Words.{StandsFor}
use Rattle.ec_target.proofs.Climbing.{passes_lead}
use Rattle.ec_target.specs.Code.{pc_of, word_at}
use Rattle.ec_world.specs.declared.common.Common.{Common}
use Rattle.ec_world.specs.declared.value.Value.{Value}
use Rattle.ec_machine_code.proofs.Programs.{before_is}
use Rattle.ec_machine_code.proofs.Goings.{leaves}
use Rattle.ec_machine_code.proofs.Sites.{Site, end_of, word_of}
use Rattle.ec_machine_code.proofs.Spots.{comes_few, is_within}
use Rattle.ec_machine_code.proofs.Standing.{Held, Holds, Setting, Standing}
use Rattle.ec_machine_code.proofs.Stops.{number_of, numbered, rest_is}
use Rattle.ec_machine_code.proofs.Walks.{Gets, GetsTo, extends, gets}
use Rattle.ec_machine_code.proofs.Whole.{address_is, apart, at_place, code, known, laid_at, only, speaks, start, stop_line}
use Rattle.ec_machine_code.proofs.Whole.{stop_word_at, stops}
use Rattle.ec_machine_code.proofs.Whole.{whole, within, words_are}

module _ {S : Type 0} (M : MachineMeaning S) (vs : Vocabularies) (homes : List (List Home)) (orders : List (List ℕ)) (d : Declared)
    (p : Parts)
    (can : CanBeLaidOut M vs homes orders d p) (local : ℕ → Option ℕ) (text : ℕ → Option (List ℕ)) (o : Operation) (a : CodeActivation)
    (c : Common) (address f own : ℕ) (s : S) (bytes : Bytes)
    (tables : AreTables p local text)
    (is : operation_at p a.operation ≡ Some o)
    (stop : IsStopAt p (code M vs homes orders d p can) a.operation a.at address)
    (behind : M.place s ≡ address + 4)
    (has : HasWhatIsSet o a.own (machine_behind p c a))
    (fits : Fits M local text (homes_of homes a.operation o) (live_at o.code (suc a.at)) f own a.own (machine_behind p c a) s bytes)
  where
    abbrev V : Vocabulary
    V = vocabulary_of vs homes orders a.operation o

    abbrev m : Machine
    m = machine_behind p c a

    abbrev home : Variable → Home
    home = home_of homes a.operation o

    abbrev g : Setting M
    g = record {
      parts = p;
      local = local;
      text = text;
      tables = tables;
      f = f;
      own = own;
      self = a.own;
      before = m;
      frame_small = fits.frame_small;
      own_small = fits.own_small;
      apart = fits.apart;
      reads_back = (speaks M vs homes orders d p can a.operation o).reads_back;
      length_bytes = (speaks M vs homes orders d p can a.operation o).length_bytes;
    }

    home_is : (x : Variable) (h : Home) → home_in homes a.operation (length o.variables) x ≡ Some h → home x ≡ h
    home_is x h e = ap home_or e

    abbrev z : Site M V g
    z = record {
      speaks = speaks M vs homes orders d p can a.operation o;
      declared = d;
      number = a.operation;
      of = o;
      home = home;
      fine = can.fine.operations a.operation o is;
      numbers = λ q line e. can.numbers a.operation q o line is e;
      within = λ q line x e by.
          let h = (can.homes_fit a.operation o is).each q line x e by in
          subst (λ k. IsWithin M.homes slots k) (sym (home_is x h.0 h.1)) h.2;
      apart = (can.homes_fit a.operation o is).apart;
      sets = has.fields;
      code = (code M vs homes orders d p can).words;
      start = start M vs homes orders d p can a.operation;
      order = order_of vs homes orders a.operation;
      laid = laid_at M vs homes orders d p can a.operation o is;
    }

    abbrev seen : Sight
    seen = record { home = λ k. M.register s (M.first_home + k); bytes = bytes }

    sees : Sees M f own s seen.home
    sees = record { rests = fits.rests; frame = fits.frame_base; owns = fits.own_base; home = λ k lt. refl }

    holds_of : (h : Home) (u : Value) → HomeStands M local text f s bytes h u → Holds M g seen.home bytes h u
    holds_of (Slot n) u w = w
    holds_of (Register k) u w = w

    held : (x : Variable) → Lives M local text (homes_of homes a.operation o) f s bytes m x → Held M g home seen m x
    held x l = record {
      value = l.value;
      is = l.is;
      fits = l.fits;
      holds = subst (λ h. Holds M g seen.home bytes h l.value) (sym (home_is x l.home l.has)) (holds_of l.home l.value l.stands);
    }

    stands : Standing M g home (length o.variables) (live_at o.code (suc a.at)) seen m
    stands = record {
      held = λ x t l. held x (fits.live x t l);
      ground = record {
        frame = fits.frame;
        itself = fits.itself;
        field = fits.fields.each;
        few = fits.fields.few;
        constant = fits.constants.each;
        few_constants = fits.constants.few;
        had = λ i u e. (u, e);
        kept = λ i u e. (u, e);
      };
      many = has.variables;
    }

    -- the stop, where it stands in the code
    pub record Here : Type 0 where
      pub line : Line
      pub row : StopRow
      pub number : slice_get (stop_places o.code) stop.number ≡ Some a.at
      pub is_line : slice_get o.code a.at ≡ Some line
      pub is_stop : stop_of line.op ≡ Some row

    here : Here
    here =
        let same = same_Some stop.operation o (sym stop.is_operation ∙ is) in
        let number : slice_get (stop_places o.code) stop.number ≡ Some a.at =
        subst (λ (x : Operation). slice_get (stop_places x.code) stop.number ≡ Some a.at) same stop.is_number in
        let n = numbered o.code 0 stop.number a.at number in
        let sum = n.sum in
        let place_is : n.place ≡ a.at = omega (arith, sum) in
        record {
          line = n.line;
          row = n.row;
          number = number;
          is_line = subst (λ i. slice_get o.code i ≡ Some n.line) place_is n.is_line;
          is_stop = n.is_stop;
        }

    rests : here.line.op ≡ op.Rest here.row
    rests = rest_is here.line.op here.row here.is_stop

    -- behind the stop the code goes on to the next step
    begins : Ends M f own z.code s seen (word_of M V g z a.at) (end_of M V g z a.at) (word_of M V g z (suc a.at)) seen
    begins =
        let from = same_Some address (pc_of (at_place M vs homes orders d p can a.operation o a.at))
        (sym stop.is_address ∙ address_is M vs homes orders d p can a.operation stop.number a.at o is here.number) in
        leaves M V g z a.at here.line.op here.line.op here.line.live here.is_line
        (rest_laid o.code a.at here.line here.row here.is_line here.is_stop) here.row s seen rests (omega (arith, behind, from)) sees

    -- a stop isn't laid out with the step behind it
    none_done : joined_before o.code (suc a.at) ≡ None
    none_done =
        none_behind o.code a.at here.line here.is_line
        (ap (joined_of o.code a.at) (rest_is here.line.op here.row here.is_stop)
        ∙ never_joined o.code a.at (Rest here.row) (λ next. refl))

    module _ (e : Common) (r : Arrived)
        (walks : walk p.literals a.own (suc a.at) (drop (suc a.at) o.code) 0 m ≡ (e, Some r)) where
      gone : Gets M V g z s seen a.at e r
      gone =
          let first : suc a.at ≡ suc a.at + 0 = omega arith in
          extends M V g z s seen seen a.at (suc a.at + 0) (word_of M V g z (suc a.at)) here.line (e, Some r) here.is_line begins
          (λ address out. refl) (omega arith)
          (subst (λ to. GetsTo M V g z begins.last seen (suc a.at + 0) to) walks
          (gets M V g z (drop (suc a.at) o.code) (suc a.at) 0 m refl begins.last seen
          (ap (joined_before o.code) (sym first) ∙ none_done) begins.sees
          (begins.at ∙ ap (λ k. pc_of (word_of M V g z k)) first)
          (subst (λ k. Standing M g home (length o.variables) (live_at o.code k) seen m) first stands)))

      back :
          (h : Home) (u : Value) → Holds M g gone.sight.home gone.sight.bytes h u →
          HomeStands M local text f gone.comes.last gone.sight.bytes h u
      back (Slot n) u w = w
      back (Register k) u w = (w.0, subst (λ x. StandsFor local text u x) (sym (gone.comes.sees.home k w.0)) w.1)

      lives :
          (x : Variable) (t : StaticType) → Has gone.line.live x t →
          Lives M local text (homes_of homes a.operation o) f gone.comes.last gone.sight.bytes (machine_at e r) x
      lives x t l =
          let h = gone.stand.held x t l in
          let there = (can.homes_fit a.operation o is).each gone.from gone.line x gone.is_line (inr (inr (t, l))) in
          record {
            value = h.value;
            is = h.is;
            fits = h.fits;
            home = there.0;
            has = there.1;
            stands = subst (λ k. HomeStands M local text f gone.comes.last gone.sight.bytes k h.value) (home_is x there.0 there.1)
                (back (home x) h.value h.holds);
          }

      -- its words are the operation's
      inside : (i : ℕ) → IsIn i gone.comes.path → IsWordOf (code M vs homes orders d p can) a.operation i
      inside i h =
          let within = is_within M V g z a.at i (gone.comes.words i h) in
          let first = before_is M vs can.near can.middle can.far homes orders 0 0 p.operations a.operation in
          let all = words_are M vs homes orders d p can a.operation o is in
          let low = within.0 in
          let high = within.1 in
          ((omega (arith, low, first)), (omega (arith, high, first, all)))

      few : length gone.comes.path ≤ suc (words_of (code M vs homes orders d p can) a.operation)
      few =
          let few = comes_few M V g z s seen gone.sight a.at (word_of M V g z r.place) gone.comes in
          let all = words_are M vs homes orders d p can a.operation o is in
          omega (arith, few, all)

      pub arrives : ArrivesOnce M p (code M vs homes orders d p can) homes local text a.operation o f own a.own m e r s bytes
      arrives =
          let top = stop_line (slice_get o.code r.place) gone.arrival.row gone.arrival.is_row in
          let word = stop_word_at M vs homes orders d p can a.operation r.place o top.0 gone.arrival.row is top.1 top.2 in
          let number = number_of o.code 0 r.place top.0 gone.arrival.row top.1 top.2 in
          let none : 0 + r.place ≡ r.place = omega arith in
          let is_number = number.1 ∙ ap Some none in
          let rests = gone.comes.sees.rests in
          let speaking = speaks M vs homes orders d p can a.operation o in
          let path = gone.comes.path in (
            record {
              steps = length path;
              last = gone.comes.last;
              memory = gone.sight.bytes;
              native = (
                passes_lead (M.goes (code M vs homes orders d p can).words) M.place path s bytes gone.comes.last gone.sight.bytes
                    gone.comes.passes,
                speaking.halt (code M vs homes orders d p can).words gone.comes.last gone.sight.bytes rests
                    (ap (word_at (code M vs homes orders d p can).words) gone.comes.at ∙ word),
              );
              few = few;
              is_loaded = speaking.is_loaded gone.comes.last rests;
              at = record {
                operation = o;
                is_operation = is;
                number = number.0;
                is_number = is_number;
                is_address = address_is M vs homes orders d p can a.operation number.0 r.place o is is_number ∙ ap Some (sym gone.comes.at);
              };
              row = gone.arrival.row;
              is_row = gone.arrival.is_row;
              operands = λ x h. let l = gone.arrival.operands x h in lives x l.0 l.1;
              live = λ x t h. lives x t (gone.arrival.live x t h);
              fields = record { each = gone.stand.ground.field; few = gone.stand.ground.few };
              others = gone.same;
            },
            record {
              path = path;
              passes = gone.comes.passes;
              different = gone.comes.different;
              inside = inside;
            },
          )

module _ {S : Type 0} (M : MachineMeaning S) where
  pub faithful : LaidOutIsFaithful M
  faithful vs homes orders d p can = record {
    faithful = record {
      stops = λ n k q o e is. stops M vs homes orders d p can n k q o e is;
      only = only M vs homes orders d p can;
      apart = apart M vs homes orders d p can;
      known = known M vs homes orders d p can;
      whole = whole M vs homes orders d p can;
      within = within M vs homes orders d p can;
      runs = λ local text o a c e r address f own s bytes tables is stop walks behind has fits.
          (arrives M vs homes orders d p can local text o a c address f own s bytes tables is stop behind has fits e r walks).0;
    };
    once = λ local text o a c e r address f own s bytes tables is stop walks behind has fits.
        arrives M vs homes orders d p can local text o a c address f own s bytes tables is stop behind has fits e r walks;
  }
