-- Behind a stop whose action is done silent steps of the source and of its code come to the same stop.
use Rattle.std.proofs.Common.{◌≡◌, ℕ, ◌+◌, ◌-◌, ◌≤◌, Bool, true, false, List, [], ◌++◌, drop, length, Option, Some, None}
use Rattle.std.proofs.Common.{refl, sym, ap, ◌∙◌, subst, arith, length-append, length-drop}
use Rattle.std.proofs.lemmas.Bool.{true≢false}
use Rattle.std.proofs.lemmas.List.{length-map}
use Rattle.ec_base.specs.Stack.{top_of, below_of}
use Rattle.ec_code.specs.Activations as of_code
use Rattle.ec_code.specs.Activations.{Arrived, code_if, code_silent, variables_if, walk}
use Rattle.ec_code.specs.Steps.{Machine}
use Rattle.ec_code.specs.Typing.{Declared}
use Rattle.ec_code.specs.declared.activation.CodeActivation.{CodeActivation}
use Rattle.ec_code.specs.declared.code.Operation.{Operation}
use Rattle.ec_code.specs.declared.code.Parts.{Parts}
use Rattle.ec_types.specs.declared.conform.static_type.StaticType.{StaticType}
use Rattle.ec_world.specs.Follows.{Alike}
use Rattle.ec_meaning.specs.Activations as of_source
use Rattle.ec_meaning.specs.Meaning as meaning
use Rattle.ec_meaning.specs.Meaning.{Reached, defaults, items_if, source_silent}
use Rattle.ec_meaning.specs.Programs as programs
use Rattle.ec_meaning.specs.Programs.{Source}
use Rattle.ec_meaning.specs.Steps.{captured_by, captured_of, types_if}
use Rattle.ec_meaning.specs.Types.{kind_of}
use Rattle.ec_meaning.specs.declared.activation.SourceActivation.{SourceActivation}
use Rattle.ec_meaning.specs.declared.item.Item.{Item}
use Rattle.ec_meaning.specs.declared.state.State.{State}
use Rattle.ec_code.proofs.Silent.{silent_sound}
use Rattle.ec_code.proofs.SoundWorlds.{tower_at}
use Rattle.ec_code.specs.Sound.{SoundDone, SoundTower, SoundWorld, TopIs}
use Rattle.ec_emission.proofs.StandsGoing.{AreOf, GivenAs, silent_on}
use Rattle.ec_emission.proofs.Meeting.{Fits, Matched, Owns, Routine, settled, walked}
use Rattle.ec_emission.proofs.Simulating.{silent_alike}
use Rattle.ec_world.specs.Objects.{object_at}
use Rattle.ec_world.specs.Sights.{class_of}
use Rattle.ec_world.specs.Values.{default_of}
use Rattle.ec_world.specs.World.{stack_at}
use Rattle.ec_world.specs.declared.class.ClassNo.{ClassNo}
use Rattle.ec_world.specs.declared.common.Common.{Common}
use Rattle.ec_world.specs.declared.object.ObjectRec.{ObjectRec}
use Rattle.ec_world.specs.declared.value.Value.{Value}
use Rattle.ec_world.specs.declared.world.World.{World}
use Rattle.ec_emission.proofs.Classes.{Stays}
use Rattle.ec_emission.proofs.Related.{Meet, On, StandsBehind, Tops, is_at_entry, is_done, is_pending, code_at, code_entry, code_keeps}
use Rattle.ec_emission.proofs.Related.{finished_idle, on_later, routine, source_at, source_entry, source_keeps}
use Rattle.ec_emission.specs.Agreement.{IsCodeOf, LoopsStand, begins_with}

-- ---- what an operation begins with

-- each variable that isn't an argument has its default
opens_others : (n : ℕ) (arguments : List Value) (others : List StaticType) → length others ≡ n - length arguments →
    n ≤ length (arguments ++ defaults others)
opens_others n arguments others e =
    let a : length (arguments ++ defaults others) ≡ length arguments + length (defaults others) =
    length-append arguments (defaults others) in
    let b : length (defaults others) ≡ length others = length-map others (λ (t : StaticType). default_of (kind_of t)) in
    omega arith

opens_all : (n : ℕ) (arguments : List Value) (types : List StaticType) → n ≡ length types →
    n ≤ length (arguments ++ defaults (drop (length arguments) types))
opens_all n arguments types e =
    opens_others n arguments (drop (length arguments) types)
    (length-drop (length arguments) types ∙ ap (λ k. k - length arguments) (sym e))

captured_is : (s : Source) (o : Option ObjectRec) (k : ClassNo) → class_of o ≡ Some k → captured_of s o ≡ captured_by s k
captured_is s None k e = absurd cc
captured_is s (Some o) k e = let h : o.class ≡ k = cc in ap (captured_by s) h

-- what the code's silent steps come to: a stop whose action is to be done
pub record Comes (c : Common) (z : Common × CodeActivation) : Type 0 where
  pub later : Stays c z.0
  pub pending : z.1.pending ≡ true

module _ (Loops : LoopsStand) (s : Source) (d : Declared) (p : Parts) (code_of : IsCodeOf Loops s d p) where
  -- both come to these, beside the processes and of their activations
  abbrev pub Both : Common → Common × SourceActivation → Common × CodeActivation → Type 0
  Both c m n = Alike Stays (Tops Loops s d p code_of) c m n

  module _ (c : Common) (number own : ℕ) (on : On Loops s d p code_of c number own) where
    abbrev r : Routine
    r = routine Loops s d p code_of number on.code on.is

    owns : Owns r own c
    owns = captured_is s (object_at c.objects own) on.code.class on.class

    -- a stop to which both come
    again : (a : SourceActivation) (b : CodeActivation) → (a.operation ≡ number) × (a.own ≡ own) →
        (b.operation ≡ number) × (b.own ≡ own) → b.pending ≡ false → (x : Common × Option Reached) (y : Common × Option Arrived) →
        Matched r own x y → Comes c (of_code.resting b y) → Both c (meaning.resting a x) (of_code.resting b y)
    again a b k l i (e, Some x) (f, Some y) m z = record {
      common = m.common;
      later = z.later;
      on =
          is_pending
          (record {
            number = number;
            own = own;
            meet = record { on = on_later Loops s d p code_of c f number own z.later on; reached = x; arrived = y; same = m.stops };
            source = ap (λ n. source_at n a.own x) k.0 ∙ ap (λ o. source_at number o x) k.1;
            code = ap (λ n. code_at n b.own y) l.0 ∙ ap (λ o. code_at number o y) l.1;
          });
    }
    again a b k l i (e, None) (f, None) m z = absurd (true≢false (sym z.pending ∙ i))
    again a b k l i (e, None) (f, Some y) m z = absurd m.stops
    again a b k l i (e, Some x) (f, None) m z = absurd m.stops

    -- the same, where it is known what the silent steps come to
    again_by : (a : SourceActivation) (b : CodeActivation) → (a.operation ≡ number) × (a.own ≡ own) →
        (b.operation ≡ number) × (b.own ≡ own) → b.pending ≡ false → (x : Common × Option Reached) (y : Common × Option Arrived) →
        Matched r own x y → (m : Common × SourceActivation) (n : Common × CodeActivation) → m ≡ meaning.resting a x →
        n ≡ of_code.resting b y → Comes c n → Both c m n
    again_by a b k l i x y h m n e f z =
        subst (λ q. Both c q n) (sym e)
        (subst (λ q. Both c (meaning.resting a x) q) (sym f) (again a b k l i x y h (subst (λ q. Comes c q) f z)))

    -- ---- behind the entry

    module _ (arguments : List Value) (many : length arguments ≡ length on.code.parameters) where
      abbrev begins : State
      begins = record { common = c; variables = begins_with Loops s p number on.code arguments; held = [] }

      abbrev begins_code : Machine
      begins_code = record { common = c; variables = begins_with Loops s p number on.code arguments; temporaries = [] }

      abbrev items : List Item
      items = items_if s (programs.operation_at s number)

      abbrev body : ℕ
      body = (code_of.operations number on.code on.is).body

      fits : Fits r own [] begins begins_code
      fits = record {
        common = refl;
        variables = refl;
        many = opens_all (length on.code.variables) arguments (types_if (programs.operation_at s number))
            (code_of.operations number on.code on.is).variables;
        held = refl;
        owns = owns;
      }

      matched : Matched r own (settled r own begins items) (walked r own body begins_code)
      matched = silent_alike r own (code_of.operations number on.code on.is).stands begins begins_code fits

      code_begins : (pending : Bool) →
          code_silent p c (code_entry number own arguments pending)
          ≡ of_code.resting (code_entry number own arguments pending) (walked r own body begins_code)
      code_begins pending =
          let b : CodeActivation = code_entry number own arguments pending in
          ap (λ (z : Option Operation). of_code.resting b (walk p.literals own 1 (drop 1 (code_if z)) 0
          (record { common = c; variables = of_code.opened arguments (length (variables_if z)); temporaries = [] }))) on.is
          ∙ ap (λ w. of_code.resting b w) ((code_of.operations number on.code on.is).begins own c arguments [] many)

      entry_alike : (pending : Bool) → pending ≡ false → Comes c (code_silent p c (code_entry number own arguments pending)) →
          Both c (source_silent s c (source_entry number own arguments pending))
          (code_silent p c (code_entry number own arguments pending))
      entry_alike pending i z =
          let a : SourceActivation = source_entry number own arguments pending in
          let b : CodeActivation = code_entry number own arguments pending in
          again_by a b (refl, refl) (refl, refl) i (settled r own begins items) (walked r own body begins_code) matched
          (source_silent s c a) (code_silent p c b) refl (code_begins pending) z

  -- ---- behind a stop

  module _ (c : Common) (number own : ℕ) (m : Meet Loops s d p code_of c number own) where
    are_of : AreOf (routine Loops s d p code_of number m.on.code m.on.is) own p (source_at number own m.reached)
        (code_at number own m.arrived)
    are_of = record {
      operation = refl;
      object = refl;
      object_too = refl;
      literals = refl;
      lines = ap code_if m.on.is;
      count = ap (λ z. length (variables_if z)) m.on.is;
    }

    done_alike : (given : Option Value) → GivenAs m.same.gives given → StandsBehind Loops s d p code_of c number own m →
        Comes c (code_silent p c (of_code.finished (code_at number own m.arrived) given)) →
        Both c (source_silent s c (of_source.finished (source_at number own m.reached) given))
        (code_silent p c (of_code.finished (code_at number own m.arrived) given))
    done_alike given g n z =
        let x : SourceActivation = source_at number own m.reached in
        let y : CodeActivation = code_at number own m.arrived in
        let a : SourceActivation = of_source.finished x given in
        let b : CodeActivation = of_code.finished y given in
        let h = silent_on (routine Loops s d p code_of number m.on.code m.on.is) own p x y m.reached m.arrived m.same c given are_of
        (owns c number own m.on) g n in
        again_by c number own m.on a b (source_keeps x given) (code_keeps y given) (finished_idle y given) h.reached h.arrived
        h.matched (source_silent s c a) (code_silent p c b) h.of_source h.of_code z

  -- ---- in a sound world

  module _ (v : World CodeActivation) (n : ℕ) (b : CodeActivation) (sound : SoundWorld d p v) (is_top : top_of (stack_at v n) ≡ Some b)
      (idle : b.pending ≡ false) where
    is_sound : SoundDone d p v.common.objects b
    is_sound =
        let tower : SoundTower d p v.common.objects (below_of (stack_at v n)) (Some b) =
        subst (λ z. SoundTower d p v.common.objects (below_of (stack_at v n)) z) is_top
        (tower_at d p code_of.fine v n (sound.common, sound.processes)) in
        subst (λ t. TopIs d p v.common.objects b t) idle tower.2

    pub comes : Comes v.common (code_silent p v.common b)
    comes =
        let z = silent_sound d p code_of.fine v.common sound.common b is_sound in
        record { later = z.later; pending = z.pending }

    pub goes_alike : (a : SourceActivation) → Tops Loops s d p code_of v.common a b →
        Both v.common (source_silent s v.common a) (code_silent p v.common b)
    goes_alike a (is_at_entry k) =
        let x : SourceActivation = source_entry k.number k.own k.arguments k.pending in
        let y : CodeActivation = code_entry k.number k.own k.arguments k.pending in
        subst (λ q. Both v.common (source_silent s v.common q) (code_silent p v.common b)) (sym k.source)
        (subst (λ q. Both v.common (source_silent s v.common x) (code_silent p v.common q)) (sym k.code)
        (entry_alike v.common k.number k.own k.on k.arguments k.many k.pending
        (sym (ap (λ (q : CodeActivation). q.pending) k.code) ∙ idle)
        (subst (λ q. Comes v.common (code_silent p v.common q)) k.code comes)))
    goes_alike a (is_pending k) = absurd (true≢false (sym (ap (λ (q : CodeActivation). q.pending) k.code) ∙ idle))
    goes_alike a (is_done k) =
        let x : SourceActivation = of_source.finished (source_at k.number k.own k.meet.reached) k.given in
        subst (λ q. Both v.common (source_silent s v.common q) (code_silent p v.common b)) (sym k.source)
        (subst (λ q. Both v.common (source_silent s v.common x) (code_silent p v.common q)) (sym k.code)
        (done_alike v.common k.number k.own k.meet k.given k.fits k.goes_on
        (subst (λ q. Comes v.common (code_silent p v.common q)) k.code comes)))
