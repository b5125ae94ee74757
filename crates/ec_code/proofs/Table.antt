-- The table of actions has a case for each stop that is fine, and what it makes is sound.
use Rattle.std.proofs.Common.{◌≡◌, ℕ, Bool, true, false, ◌⊎◌, inl, inr, List, [], ◌∷◌, Option, Some, None, pos}
use Rattle.ec_code.specs.declared.code.Operation.{Operation}
use Rattle.ec_code.specs.declared.code.Parts.{Parts}
use Rattle.ec_code.specs.Fine.{Fine, FineGet, FineOwn, FineSet, FineSize, FineStop, FineStopIf, FineText, FitAll, GoesOn as IfGoesOn}
use Rattle.ec_code.specs.Steps.{with_itself}
use Rattle.ec_code.specs.Typing.{Declared, any, boolean, integer, string}
use Rattle.ec_types.specs.Types.{element_from}
use Rattle.ec_types.specs.declared.conform.static_type.StaticType.{StaticType}
use Rattle.ec_types.specs.declared.conform.static_type.StaticType.TheVariants as type
use Rattle.ec_monitors.specs.declared.record.MonitorRec.{MonitorRec}
use Rattle.ec_monitors.specs.Monitors.{Granting, left}
use Rattle.ec_world.specs.Agree.{AllTwo}
use Rattle.ec_world.specs.Doings.{Asked, fix_at, get_asks, is_inside, move_to, refix_at, return_asks, section_in, set_asks, size_asks}
use Rattle.ec_world.specs.Doings.{three, two, one}
use Rattle.ec_world.specs.Outcomes.{Acted, Done, acted_if, acting, by_holder, left_behind, monitor_of, outcome_of, return_done, section_on}
use Rattle.ec_world.specs.Sights.{Sight, class_record, sight_of}
use Rattle.ec_world.specs.declared.common.Common.{Common}
use Rattle.ec_world.specs.declared.doing.Section.{Section}
use Rattle.ec_world.specs.declared.stop.Effect.{Effect}
use Rattle.ec_world.specs.declared.stop.Effect.TheVariants.{GoesOn, Calls, Leaves, Blocks, Ends, Fails}
use Rattle.ec_world.specs.declared.stop.Stop.{Stop}
use Rattle.ec_world.specs.declared.stop.Stop.TheVariants as stop
use Rattle.ec_world.specs.declared.stop.Who.{Who}
use Rattle.ec_world.specs.declared.value.Value.{Value}
use Rattle.ec_world.specs.declared.value.Value.TheVariants.{Int, Ref}
use Rattle.ec_code.specs.Sound.{FineActed, SoundCommon}
use Rattle.ec_code.specs.SoundValues.{HasType, class_in}
use Rattle.ec_code.proofs.Calls.{invoke_sound, new_sound, own_call}
use Rattle.ec_code.proofs.Carried.{later_same}
use Rattle.ec_code.proofs.Done.{Acts, does, fails, gets}
use Rattle.ec_code.proofs.Plain.{compare_sound, concat_sound, fix_sound, fixed_sound, global_sound, length_sound, move_by, move_sound}
use Rattle.ec_code.proofs.Plain.{node_sound}
use Rattle.ec_code.proofs.Plain.{print_sound, refix_sound, slice_sound, text_sound, unfix_sound}
use Rattle.ec_code.proofs.Returns.{entry_sound, return_sound, signal_sound, wait_sound}
use Rattle.ec_code.proofs.Typed.{of_int, stand_all}
use Rattle.ec_code.proofs.Vectors.{get_sound, set_sound, size_sound, vector_sound}
use Rattle.ec_code.proofs.Views.{view_sound}

module _ (d : Declared) (p : Parts) (fine : Fine d p) (c : Common) (sound : SoundCommon d p c) (number : ℕ) (o : Operation)
    (given : Option StaticType) (who : Who) (is : who.operation ≡ number) (at : class_in c.objects who.own ≡ Some o.class) where
  abbrev sight : Sight
  sight = sight_of c

  abbrev Well : Asked → Type 0
  Well asked = Acts d p c sound o given who asked

  abbrev Typed : List StaticType → List Value → Type 0
  Typed ts vs = AllTwo (HasType d c.objects) ts vs

  fits : (ts ws : List StaticType) (vs : List Value) → Typed ts vs → FitAll d p ts ws → Typed ws vs
  fits ts ws vs h f = stand_all d p fine c.objects ts ws vs h f

  fine_get : (line : ℕ) (ts : List StaticType) (vs : List Value) → Typed ts vs → FineGet d p ts given → Well (get_asks sight line (two vs))
  fine_get line (type.Vector inner of ∷ ts) (v ∷ vs) h f =
      get_sound d p fine c sound o given who line inner of (v ∷ vs) (h.0, fits ts (integer ∷ []) vs h.1 f.0) f.1
  fine_get line (type.Vector inner of ∷ ts) [] h f = absurd h
  fine_get line _ vs h f = absurd f

  fine_set : (line : ℕ) (ts : List StaticType) (vs : List Value) → Typed ts vs → FineSet d p ts given
      → Well (set_asks sight line (three vs))
  fine_set line (type.Vector inner of ∷ ts) (v ∷ vs) h f =
      set_sound d p fine c sound o given who line inner of (v ∷ vs) (h.0, fits ts (integer ∷ element_from inner of ∷ []) vs h.1 f.0) f.1
  fine_set line (type.Vector inner of ∷ ts) [] h f = absurd h
  fine_set line _ vs h f = absurd f

  fine_size : (line : ℕ) (ts : List StaticType) (vs : List Value) → Typed ts vs → FineSize d p ts given
      → Well (size_asks sight line (one vs))
  fine_size line (type.Vector inner of ∷ ts) (v ∷ vs) h f =
      size_sound d p fine c sound o given who line inner of (v ∷ vs) (h.0, fits ts [] vs h.1 f.0) f.1
  fine_size line (type.Vector inner of ∷ ts) [] h f = absurd h
  fine_size line _ vs h f = absurd f

  fine_text : (ts : List StaticType) (vs : List Value) → Typed ts vs → FineText d p ts → Typed (integer ∷ []) vs ⊎ Typed (boolean ∷ []) vs
  fine_text ts vs h (inl f) = inl (fits ts (integer ∷ []) vs h f)
  fine_text ts vs h (inr f) = inr (fits ts (boolean ∷ []) vs h f)

  stop_sound : (s : Stop) (ts : List StaticType) (vs : List Value) → Typed ts vs → FineStop d p number o s ts given
      → FineActed d p c o given (outcome_of c who s vs)
  stop_sound stop.Entry ts vs h f = entry_sound d p fine c sound number o given who (is_inside sight who) f.1
  stop_sound (stop.Invoke name line) ts vs h f = invoke_sound d p fine c sound o given who name line ts vs h f
  stop_sound (stop.New class) ts vs h f = new_sound d p fine c sound o given who class ts vs h f
  stop_sound (stop.Return gives_self) ts vs h f = return_sound d p fine c sound number o given who gives_self ts vs at h f.0 f.1
  stop_sound (stop.NewVector of line) ts vs h f =
      vector_sound d p fine c sound o given who of line vs (fits ts (integer ∷ []) vs h f.1.0) f.0 f.1.1
  stop_sound (stop.Get line) ts vs h f = fine_get line ts vs h f
  stop_sound (stop.Set line) ts vs h f = fine_set line ts vs h f
  stop_sound (stop.Size line) ts vs h f = fine_size line ts vs h f
  stop_sound (stop.Concat line) ts vs h f = concat_sound d p c sound o given who line vs (fits ts (string ∷ string ∷ []) vs h f.0) f.1
  stop_sound stop.Length ts vs h f = length_sound d p c sound o given who vs (fits ts (string ∷ []) vs h f.0) f.1
  stop_sound (stop.Compare order) ts vs h f = compare_sound d p c sound o given who order vs (fits ts (string ∷ string ∷ []) vs h f.0) f.1
  stop_sound (stop.GetSlice line) ts vs h f =
      slice_sound d p c sound o given who line vs (fits ts (string ∷ integer ∷ integer ∷ []) vs h f.0) f.1
  stop_sound stop.AsString ts vs h f = text_sound d p c sound o given who vs (fine_text ts vs h f.0) f.1
  stop_sound stop.Print ts vs h f = print_sound d p c sound o given who vs (fits ts (string ∷ []) vs h f.0) f.1
  stop_sound (stop.Global index) ts vs h f =
      global_sound d p c sound o given who index f.0 vs f.1 (fits ts (f.0 ∷ []) vs h f.2.0) f.2.1
  stop_sound (stop.NodeAt line) ts vs h f = node_sound d p c sound o given who line vs (fits ts (integer ∷ []) vs h f.0) f.1
  stop_sound stop.NodeCount ts vs h f =
      gets d p c sound o given who integer (Int (pos c.nodes)) f.1 (of_int d c.objects (pos c.nodes))
  stop_sound (stop.Move line) ts vs h f =
      move_by d p c sound o given who line (move_to sight) (move_sound d p c sound o given who f.1) vs (fits ts (any ∷ any ∷ []) vs h f.0)
  stop_sound (stop.Fix line) ts vs h f =
      move_by d p c sound o given who line (fix_at sight line) (fix_sound d p c sound o given who f.1 line) vs
      (fits ts (any ∷ any ∷ []) vs h f.0)
  stop_sound (stop.Refix line) ts vs h f =
      move_by d p c sound o given who line (refix_at sight line) (refix_sound d p c sound o given who f.1 line) vs
      (fits ts (any ∷ any ∷ []) vs h f.0)
  stop_sound (stop.Unfix line) ts vs h f = unfix_sound d p c sound o given who line vs (fits ts (any ∷ []) vs h f.0) f.1
  stop_sound (stop.IsFixed line) ts vs h f = fixed_sound d p c sound o given who line vs (fits ts (any ∷ []) vs h f.0) f.1
  stop_sound (stop.View to line) ts vs h f =
      view_sound d p fine c sound o given who line to vs (fits ts (any ∷ []) vs h f.2.0) f.0 f.1 f.2.1
  stop_sound (stop.Wait condition) ts vs h f = wait_sound d p fine c sound number o given who condition is at f.0 f.1.1
  stop_sound (stop.Signal condition) ts vs h f = signal_sound d p fine c sound number o given who condition is at f.0 f.1.1
  stop_sound stop.LoopTop ts vs h f = does d p c sound o given who f.1
  stop_sound stop.End ts vs h f = (later_same c.objects, sound, tt, tt)
  stop_sound (stop.Fail why line) ts vs h f = fails d p c sound o given who why line

  own_stop : (s : Stop) (ts : List StaticType) (vs : List Value) → Typed ts vs → FineOwn d p number o s ts given
      → FineActed d p c o given (outcome_of c who s (with_itself true who.own vs))
  own_stop (stop.Invoke name line) (t ∷ ts) (v ∷ vs) h f = own_call d p fine c sound o given who number name line ts vs at h.1 f.1
  own_stop (stop.Invoke name line) (t ∷ ts) [] h f = absurd h
  own_stop (stop.Invoke name line) [] vs h f = absurd f
  own_stop _ ts vs h f = absurd f

  pub stop_if_sound : (on_itself : Bool) (s : Stop) (ts : List StaticType) (vs : List Value) → Typed ts vs
      → FineStopIf d p number o on_itself s ts given → FineActed d p c o given (outcome_of c who s (with_itself on_itself who.own vs))
  stop_if_sound true s ts vs h f = own_stop s ts vs h f
  stop_if_sound false s ts vs h f = stop_sound s ts vs h f

-- ---- code goes on behind stops whose action doesn't leave

abbrev pub EffectGoes : Type 0 → Effect → Type 0
EffectGoes T (GoesOn given) = T
EffectGoes T (Calls number own args) = T
EffectGoes T (Leaves given) = Unit {0}
EffectGoes T (Blocks queue own) = T
EffectGoes T Ends = Unit {0}
EffectGoes T (Fails why line) = Unit {0}

abbrev DoneGoes : Type 0 → Done → Type 0
DoneGoes T (c, outcome) = EffectGoes T outcome.effect

abbrev pub Continues : Type 0 → Acted → Type 0
Continues T None = Unit {0}
Continues T (Some done) = DoneGoes T done

effect_goes : (T : Type 0) → T → (e : Effect) → EffectGoes T e
effect_goes T t (GoesOn given) = t
effect_goes T t (Calls number own args) = t
effect_goes T t (Leaves given) = tt
effect_goes T t (Blocks queue own) = t
effect_goes T t Ends = tt
effect_goes T t (Fails why line) = tt

pub effect_more : (T S : Type 0) → (T → S) → (e : Effect) → EffectGoes T e → EffectGoes S e
effect_more T S f (GoesOn given) h = f h
effect_more T S f (Calls number own args) h = f h
effect_more T S f (Leaves given) h = tt
effect_more T S f (Blocks queue own) h = f h
effect_more T S f Ends h = tt
effect_more T S f (Fails why line) h = tt

continue_any : (T : Type 0) → T → (a : Acted) → Continues T a
continue_any T t None = tt
continue_any T t (Some (c, outcome)) = effect_goes T t outcome.effect

module _ (c : Common) (who : Who) (T : Type 0) where
  acting_leaves : (own : ℕ) (v : Option Value) (started : Option Section) (g : Granting)
      → DoneGoes T (acting c own (λ granted. Leaves v) started g)
  acting_leaves own v started (m, granted) = tt

  left_leaves : (v : Option Value) (started : Option Section) (m : Option MonitorRec) → DoneGoes T (left_behind c who v started m)
  left_leaves v started None = tt
  left_leaves v started (Some m) = acting_leaves who.own v started (by_holder who.process m (left m))

  return_leaves : (v : Option Value) (leaves : Bool) (started : Option Section) → DoneGoes T (return_done c who v leaves started)
  return_leaves v true started = left_leaves v started (monitor_of c who.own)
  return_leaves v false started = left_leaves v started None

  return_continues : (gives_self : Bool) (vs : List Value) → Continues T (acted_if c who (return_asks (sight_of c) who gives_self vs))
  return_continues true [] =
      return_leaves (Some (Ref who.own)) (is_inside (sight_of c) who) (section_on who.own (section_in (class_record (sight_of c) who.own)))
  return_continues true (v ∷ vs) = tt
  return_continues false [] = return_leaves None (is_inside (sight_of c) who) None
  return_continues false (v ∷ []) = return_leaves (Some v) (is_inside (sight_of c) who) None
  return_continues false (v ∷ u ∷ vs) = tt

  pub continues : (d : Declared) (p : Parts) (number : ℕ) (o : Operation) (s : Stop) (vs : List Value) → IfGoesOn d p number o s T
      → Continues T (outcome_of c who s vs)
  continues d p number o (stop.Return gives_self) vs t = return_continues gives_self vs
  continues d p number o stop.End vs t = tt
  continues d p number o (stop.Fail why line) vs t = tt
  continues d p number o s vs t = continue_any T t (outcome_of c who s vs)
