-- From a stop to the next: the run halts without a trap, and what it leaves is a leg.
use Rattle.std.proofs.Common.{◌≡◌, ℕ, ◌+◌, ◌≤◌, List, Some, refl, sym, ap, ◌∙◌, subst, arith}
use Rattle.ec_base.specs.Bytes.{Bytes}
use Rattle.ec_code.specs.Activations.{machine_behind}
use Rattle.ec_code.specs.Typing.{Declared}
use Rattle.ec_code.specs.declared.activation.CodeActivation.{CodeActivation}
use Rattle.ec_code.specs.declared.code.Parts.{Parts}
use Rattle.ec_machine_code.specs.Faithful.{Arrives}
use Rattle.ec_machine_code.specs.Machine.{MachineMeaning}
use Rattle.ec_machine_code.specs.Stops.{address_of}
use Rattle.ec_machine_code.specs.declared.code.Code.{Code}
use Rattle.ec_machine_code.specs.declared.homes.Home.{Home}
use Rattle.ec_world.specs.declared.key.Key.TheVariants.{Frame, Object}
use Rattle.ec_generate.specs.Addresses.{address_in}
use Rattle.ec_generate.specs.Tables.{all_homes}
use Rattle.ec_generate.specs.declared.table.StopTable.{StopTable}
use Rattle.ec_stores.specs.Changes.{HasBlock, Ran, WordIs}
use Rattle.ec_stores.specs.Memory.{number_of}
use Rattle.ec_stores.specs.Readable.{IsSmall, StandsIn}
use Rattle.ec_target.proofs.Running.{native_halts, native_no_trap, one_native}
use Rattle.ec_target.specs.Runs.{AreApart, Going, Halts, IsOneWay, Leads, Native, Standing, Trapping}
use Rattle.ec_target.specs.declared.outcome.Trap.{Trap}
use Rattle.ec_things.specs.Store.{Store, Tidy}
use Rattle.ec_world.specs.declared.common.Common.{Common}
use Rattle.ec_world.specs.declared.node.Kind.{Kind}
use Rattle.ec_world.specs.declared.object.ObjectRec.{ObjectRec}
use Rattle.ec_legs.specs.Kinds.{Means}
use Rattle.ec_legs.specs.Legs.{CanStep, IsCodeOf, Leg, ShowsAll}
use Rattle.ec_legs.specs.Machines.{IsBehindStop, IsSetUp, NamesObject, NamesStop, RestsWhere}
use Rattle.ec_legs.specs.Words.{IsFrame}
use Rattle.ec_legs.proofs.Fitting.{address_there, arrives, first_own, frame_block, is_frame, operation_word, own_block, own_word, stop_word}
use Rattle.ec_legs.proofs.Keeping.{one_word}
use Rattle.ec_legs.proofs.Landing.{leg}
use Rattle.ec_legs.proofs.Running.{behind_small, native_so, words_few}

module _ {S : Type 0} (M : MachineMeaning S) (code : Code) (table : StopTable) (s : Store) (process depth : ℕ) (d : Declared) (p : Parts)
    (homes : Kind → List (List Home)) (c : Common) (a : CodeActivation) (o : ObjectRec) (is : IsCodeOf M code table d p homes)
    (step : CanStep p c a) (shows : ShowsAll p homes c a o s process depth) where
  -- ---- what the frame names

  pub frame_here : IsFrame s process depth
  frame_here = is_frame M code table d p homes is c a step o s process depth shows

  operation_is : (operation : ℕ) → WordIs s (Frame process depth) 2 operation → operation ≡ a.operation
  operation_is operation h = one_word s (Frame process depth) 2 operation a.operation h
      (operation_word M code table d p homes is c a step o s process depth shows)

  number_is : (number : ℕ) → WordIs s (Frame process depth) 3 number → number ≡ step.stop.number
  number_is number h = one_word s (Frame process depth) 3 number step.stop.number h
      (stop_word M code table d p homes is c a step o s process depth shows)

  own_is : (own : ℕ) → WordIs s (Frame process depth) 5 own → own ≡ a.own
  own_is own h = one_word s (Frame process depth) 5 own a.own h
      (own_word M code table d p homes is c a step o s process depth shows)

  -- the address of a stop that a frame names
  named : (operation number : ℕ) → operation ≡ a.operation → number ≡ step.stop.number →
      address_in table.addresses operation number ≡ address_of code a.operation step.stop.number
  named operation number e f =
      is.bound operation number ∙ ap (λ i. address_of code i number) e ∙ ap (address_of code a.operation) f

  pub names_stop : NamesStop table.addresses s process depth
  names_stop operation number h g =
      let z = address_there M code table d p homes is c a step in (
        z.0,
        named operation number (operation_is operation h) (number_is number g) ∙ z.1,
        behind_small M p code (all_homes table.operations) is.faithful is.few a.operation step.stop.number z.0 z.1,
      )

  pub names_object : NamesObject s process depth
  names_object own h =
      subst (λ i. HasBlock s (Object i)) (sym (own_is own h)) (
        (own_block M code table d p homes is c a step o s process depth shows).0,
        first_own M code table d p homes is c a step o s process depth shows,
      )

  module _ (kind : s.kind ≡ M.kind) (number : M.number ≡ number_of M.kind) (few : M.homes ≤ 20) (bytes : Bytes) (tidy : Tidy s)
      (small : IsSmall s) (stands : StandsIn s bytes) (u : S) (behind : IsBehindStop M table.addresses s process depth u) where
    abbrev f : ℕ
    f = (frame_block M code table d p homes is c a step o s process depth shows).0

    abbrev own : ℕ
    own = (own_block M code table d p homes is c a step o s process depth shows).0

    set_up_here : IsSetUp M s process depth a.own (behind.address + 4) u
    set_up_here = subst (λ i. IsSetUp M s process depth i (behind.address + 4) u) (own_is behind.own behind.own_is) behind.set_up

    address_is : address_of code a.operation step.stop.number ≡ Some behind.address
    address_is =
        sym (named behind.operation behind.number (operation_is behind.operation behind.operation_is)
        (number_is behind.number behind.stop_is))
        ∙ behind.is_there

    arrives_here : Arrives M p code (all_homes table.operations) s.local s.text a.operation step.operation f own a.own
        (machine_behind p c a) step.common step.reached u bytes
    arrives_here =
        arrives M code table d p homes is c a step o s process depth shows kind number bytes tidy small stands (behind.address + 4) u
        set_up_here behind.address address_is refl

    module _ (its_kind : Kind) (goes : List ℕ → Going S) (stops : List ℕ → Standing S) (traps : List ℕ → Trapping S)
        (register : S → ℕ → ℕ) (place : S → ℕ) (rests : S → Type 0) (means : Means M its_kind goes stops register place rests)
        (one_way : (words : List ℕ) → IsOneWay (goes words))
        (apart : (words : List ℕ) → AreApart (goes words) (stops words) (traps words)) where
      native_here : Native (goes code.words) (stops code.words) u bytes arrives_here.steps arrives_here.last arrives_here.memory
      native_here =
          native_so M its_kind goes stops register place rests means code.words u bytes arrives_here.steps arrives_here.last
          arrives_here.memory arrives_here.native

      pub halts_here : Halts (goes code.words) u bytes
      halts_here =
          let short = arrives_here.few in
          let words = words_few M p code (all_homes table.operations) is.faithful is.few a.operation in
          native_halts (goes code.words) (stops code.words) (traps code.words) (one_way code.words) (apart code.words) u bytes
          arrives_here.steps arrives_here.last arrives_here.memory native_here (omega arith)

      pub no_trap_here : (k : ℕ) (to : S) (memory : Bytes) (trap : Trap) → Leads (goes code.words) u bytes k to memory →
          traps code.words to memory trap → ⊥
      no_trap_here k to memory trap leads trapped =
          native_no_trap (goes code.words) (stops code.words) (traps code.words) (one_way code.words) (apart code.words) u bytes
          arrives_here.steps arrives_here.last arrives_here.memory k to memory trap native_here leads trapped

      module _ (k : ℕ) (to : S) (memory : Bytes) (native : Native (goes code.words) (stops code.words) u bytes k to memory) where
        one_run : (k ≡ arrives_here.steps) × (to ≡ arrives_here.last) × (memory ≡ arrives_here.memory)
        one_run =
            one_native (goes code.words) (stops code.words) (traps code.words) (one_way code.words) (apart code.words) u bytes k
            arrives_here.steps to memory arrives_here.last arrives_here.memory native native_here

        -- the machine comes to a stop
        pub comes_to_stop : (operation : ℕ) × (n : ℕ) × (address_in table.addresses operation n ≡ Some (M.place to))
        comes_to_stop = (
          a.operation,
          arrives_here.at.number,
          is.bound a.operation arrives_here.at.number ∙ arrives_here.at.is_address ∙ ap (λ x. Some (M.place x)) (sym one_run.1),
        )

        pub leg_here : (s1 s' : Store) → Ran s s1 k → StandsIn s1 memory → RestsWhere M table.addresses s1 s' process depth to →
            Tidy s' → Leg code p homes c a s s' process depth k
        leg_here s1 s' ran stands1 where_now tidy' =
            leg M code table d p homes is c a step o s process depth shows kind number few bytes tidy small stands u arrives_here s1 s' k
            ran (subst (λ x. StandsIn s1 x) one_run.2 stands1)
            (subst (λ x. RestsWhere M table.addresses s1 s' process depth x) one_run.1 where_now) tidy' one_run.0
