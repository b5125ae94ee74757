-- Actions, silent steps, moves by the operator and runs: who goes, and that nodes stay.
use Rattle.std.proofs.Common.{◌≡◌, ◌<◌, ◌≤◌, ◌+◌, ◌∙◌, ◌∷◌, ◌++◌, ◌⊎◌, ℕ, zero, suc, Bool, true, false, [], List, length, replicate}
use Rattle.std.proofs.Common.{Option, Some, None, ⊎_elim, inl, inr, ap, arith, refl, subst, sym}
use Rattle.std.proofs.lemmas.Bool.{ltb-true, true≢false}
use Rattle.std.specs.Prelude.{◌||◌, IsSome, nat_lt, not, slice_get}
use Rattle.ec_base.specs.Stack.{below_of, top_of}
use Rattle.ec_moving.proofs.Asked.{fixed_itself, goes, group_is, may_go, no_node_goes, operands_of, or_left, or_right, unfixed}
use Rattle.ec_moving.proofs.Doing.{Does, IsFair, Low, Still, does, does_then, goers, goes_away, on_still, same, still_does, still_place}
use Rattle.ec_moving.proofs.Lists.{Within, goes_together, member_or_not, moved_other, places_push}
use Rattle.ec_moving.proofs.Objects.{Keeps, given_up_keeps, home_class, home_fixed, is_home, kept_same, length_added}
use Rattle.ec_moving.specs.Moving.{ActionBringsTheGroup, EntriesKeepNodes, FixedObjectsStay, MoveBringsTheGroup, NodesStay, OthersStay}
use Rattle.ec_moving.specs.Placed.{AsksToMove, ComeTo, IsFixed, IsNodeAt, IsOnNodes, IsPlaced, KeepsPlaces, MayGo, Refixes, TakesAlong, place_of}
use Rattle.ec_world.proofs.Members.{has_none, has_parts, has_first, has_later, object_within}
use Rattle.ec_world.proofs.Placement.{length-places}
use Rattle.ec_world.proofs.Rounds.{group_of_is}
use Rattle.ec_world.specs.declared.class.ClassRec.{ClassRec}
use Rattle.ec_world.specs.declared.common.Common.{Common}
use Rattle.ec_world.specs.declared.doing.Doing.{Doing}
use Rattle.ec_world.specs.declared.doing.Doing.TheVariants.{Moves, Unfixes}
use Rattle.ec_world.specs.declared.doing.Outcome.{Outcome}
use Rattle.ec_world.specs.declared.event.Event.TheVariants.{Moved}
use Rattle.ec_world.specs.declared.object.ObjectRec.{ObjectRec}
use Rattle.ec_world.specs.declared.run.RunEntry.{RunEntry}
use Rattle.ec_world.specs.declared.run.RunEntry.TheVariants.{TurnOf, MoveOf}
use Rattle.ec_world.specs.declared.stop.Stop.{Stop}
use Rattle.ec_world.specs.declared.stop.Stop.TheVariants as stop
use Rattle.ec_world.specs.declared.stop.Who.{Who}
use Rattle.ec_world.specs.declared.value.Value.{Value}
use Rattle.ec_world.specs.declared.value.Value.TheVariants.{Ref}
use Rattle.ec_world.specs.declared.value.ValueType.{ValueType}
use Rattle.ec_world.specs.declared.world.World.{World}
use Rattle.ec_world.specs.Doings.{Asked, doing_of}
use Rattle.ec_world.specs.Group.{Has, InGroup, any_fixed, group_of}
use Rattle.ec_world.specs.Group.InGroup.{Itself, Linked}
use Rattle.ec_world.specs.Meaning.{ActivationMeaning}
use Rattle.ec_world.specs.Moves.{OperatorMove, is_idle_move, is_there, moved_unless}
use Rattle.ec_world.specs.Objects.{fixed_if, object_at}
use Rattle.ec_world.specs.Outcomes.{Done, acted_if, done}
use Rattle.ec_world.specs.Places.{AreThere, node_or_first, numbers_from, place_in, placed, places}
use Rattle.ec_world.specs.Run.{after_entries, after_entry, first_world, node_object, program_object}
use Rattle.ec_world.specs.Sights.{class_of, sight_of}
use Rattle.ec_world.specs.World.{Action, GoOn, Turn, act_if_pending, act_on, acted, advanced, given_up, go_on, go_on_unless, owns_of}
use Rattle.ec_world.specs.World.{settled, stack_at, who_of}

-- ---- groups

in_there : (c : Common) (x : ℕ) {y : ℕ} → InGroup c x y → IsSome (object_at c.objects y)
in_there c x (Itself there) = there
in_there c x (Linked y z member link there) = there

-- the members of a group are numbers of objects
members_within : (c : Common) (x : ℕ) → Within (length c.objects) (group_of c x)
members_within c x m h = object_within c.objects m (in_there c x (((group_of_is c x).each m).0 h))

members_low : (c : Common) (x : ℕ) → Low (group_of c x)
members_low c x m h = (members_within c x m h).0

are_there : (count : ℕ) (ms : List ℕ) → Within count ms → AreThere count ms
are_there count [] h = tt
are_there count (m ∷ ms) h =
    let first = h m (has_first m ms) in
    (first.0, first.1, are_there count ms (λ x k. h x (has_later m x ms k)))

-- where an event of their move came last
come_by : (c d : Common) (x target node : ℕ) → IsPlaced c →
    places d.nodes d.events ≡ placed (places c.nodes c.events) (Moved (group_of c x) target) → place_of c target ≡ Some node →
    ComeTo (place_of c) (place_of d) (group_of c x) node
come_by c d x target node h now at =
    let ps = places c.nodes c.events in
    let there = are_there (length ps) (group_of c x) (subst (λ n. Within n (group_of c x)) (sym h.each) (members_within c x)) in
    let come = goes_together ps (group_of c x) target node there at in
    record {
      together = λ m k. ap (λ (qs : List ℕ). place_in qs m) now ∙ come.together m k;
      others = λ y out. ap (λ (qs : List ℕ). place_in qs y) now ∙ come.others y out;
    }

-- ---- what stops ask for

-- a stop moves object y with a group
record IsTaken (c : Common) (it : Stop) (vs : List Value) (y : ℕ) : Type 0 where
  pub object : ℕ
  pub target : ℕ
  pub operands : vs ≡ Ref object ∷ Ref target ∷ []
  pub may_go : MayGo c object it
  pub member : Has (group_of c object) y

module _ (c : Common) (who : Who) (it : Stop) (vs : List Value) where
  taken_by : (doing : Doing) (y : ℕ) → doing_of (sight_of c) who it vs ≡ Some doing → Has (goers doing) y → IsTaken c it vs y
  taken_by (Moves members target fixes) y e h =
      let o = operands_of (sight_of c) who it vs members target fixes e in
      let group = group_is (sight_of c) who it vs members target o.0 fixes e o.1 in
      record {
        object = o.0;
        target = target;
        operands = o.1;
        may_go = may_go c o.0 who it vs members target fixes e o.1;
        member = subst (λ (ms : List ℕ). Has ms y) group h;
      }
  taken_by doing y e h = absurd (has_none y h)

  asked_fair : (doing : Doing) → doing_of (sight_of c) who it vs ≡ Some doing → IsFair c doing
  asked_fair (Unfixes x) e = unfixed (sight_of c) who it vs x e
  asked_fair (Moves members target fixes) e = λ m h.
      let t = taken_by (Moves members target fixes) m e h in
      members_low c t.object m t.member
  asked_fair doing e = tt

-- ---- actions

-- what is beside processes after an action, who may have gone, and why
record ActionDoes {A : Type 0} (M : ActivationMeaning A) (w : World A) (p : ℕ) (v : World A) : Type 0 where
  pub goers : List ℕ
  pub does : Does w.common v.common goers
  pub why : (y : ℕ) → Has goers y → TakesAlong M w p y

module _ {A : Type 0} (M : ActivationMeaning A) (w : World A) (p : ℕ) where
  abbrev lower : List A
  lower = below_of (stack_at w p)

  idle : ActionDoes M w p w
  idle = record { goers = []; does = same w.common; why = λ y h. absurd (has_none y h) }

  settled_does : (top : A) (d : Common) (o : Outcome) (g : List ObjectRec × List ℕ) (gs : List ℕ) → Does w.common d gs →
      Keeps d.objects g.0 → Does w.common (settled M w p lower top d o g).common gs
  settled_does top d o (objects, freed) gs h k = does_then w.common d gs objects h k

  done_does : (top : A) (x : Done) (gs : List ℕ) → Does w.common x.0 gs → Does w.common (acted M w p lower top (Some x)).common gs
  done_does top (d, o) gs h =
      settled_does top d o (given_up p (owns_of M lower top) o.effect d.objects) gs h
      (given_up_keeps p (owns_of M lower top) o.effect d.objects)

  module _ (top : A) (is : top_of (stack_at w p) ≡ Some top) where
    abbrev who : Who
    who = who_of M p lower top

    asked_does : (asked : Asked) → M.is_pending top ≡ true →
        doing_of (sight_of w.common) who (M.stop top) (M.operands top) ≡ asked →
        ActionDoes M w p (acted M w p lower top (acted_if w.common who asked))
    asked_does None pending e = idle
    asked_does (Some doing) pending e = record {
      goers = goers doing;
      does =
          done_does top (done w.common who doing) (goers doing)
          (does w.common who doing (asked_fair w.common who (M.stop top) (M.operands top) doing e));
      why = λ y h.
          let t = taken_by w.common who (M.stop top) (M.operands top) doing y e h in
          record {
            stop = M.stop top;
            object = t.object;
            target = t.target;
            asks =
                record { rests = record { top = top; is_top = is; pending = pending }; stop = refl; operands = t.operands };
            may_go = t.may_go;
            member = t.member;
          };
    }

    pending_does : (b : Bool) → M.is_pending top ≡ b → ActionDoes M w p (act_if_pending M w p lower top b)
    pending_does true e = asked_does (doing_of (sight_of w.common) who (M.stop top) (M.operands top)) e refl
    pending_does false e = idle

  act_does : (t : Option A) → top_of (stack_at w p) ≡ t → ActionDoes M w p (act_on M w p lower t)
  act_does None e = idle
  act_does (Some top) e = pending_does top e (M.is_pending top) refl

  action_does : ActionDoes M w p (Action M w p)
  action_does = act_does (top_of (stack_at w p)) refl

  -- no object of a node goes
  node_stays : (k : ℕ) → IsNodeAt w.common k → Has action_does.goers (suc k) → ⊥
  node_stays k h has =
      let t = action_does.why (suc k) has in
      no_node_goes w.common t.object (suc k) t.may_go t.member h.fixed h.class

  -- ---- a group that may go

  gone_places : (members : List ℕ) (target : ℕ) (fixes : Option ℕ) (top : A) (actor : Who) →
      let d : Common = (acted M w p lower top (acted_if w.common actor (Some (Moves members target fixes)))).common in
      places d.nodes d.events ≡ placed (places w.common.nodes w.common.events) (Moved members target)
  gone_places members target None top actor = places_push w.common.nodes w.common.events (Moved members target)
  gone_places members target (Some x) top actor = places_push w.common.nodes w.common.events (Moved members target)

  action_is : (x target : ℕ) (it : Stop) (fixes : Option ℕ) (asks : AsksToMove M w p it x target) →
      let who : Who = who_of M p lower asks.rests.top in
      doing_of (sight_of w.common) who it (Ref x ∷ Ref target ∷ []) ≡ Some (Moves (group_of w.common x) target fixes) →
      Action M w p ≡ acted M w p lower asks.rests.top (acted_if w.common who (Some (Moves (group_of w.common x) target fixes)))
  action_is x target it fixes asks e =
      let top = asks.rests.top in
      let who : Who = who_of M p lower top in
      ap (act_on M w p lower) asks.rests.is_top
      ∙ ap (act_if_pending M w p lower top) asks.rests.pending
      ∙ ap (λ (s : Stop). acted M w p lower top (acted_if w.common who (doing_of (sight_of w.common) who s (M.operands top)))) asks.stop
      ∙ ap (λ (vs : List Value). acted M w p lower top (acted_if w.common who (doing_of (sight_of w.common) who it vs))) asks.operands
      ∙ ap (λ (a : Asked). acted M w p lower top (acted_if w.common who a)) e

module _ {A : Type 0} (M : ActivationMeaning A) where
  pub action_brings : ActionBringsTheGroup M
  action_brings w p x target node it h asks may at =
      let top = asks.rests.top in
      let who : Who = who_of M p (below_of (stack_at w p)) top in
      let g = goes w.common x who target may in
      come_by w.common (Action M w p).common x target node h
      (ap (λ (v : World A). places v.common.nodes v.common.events) (action_is M w p x target it g.0 asks g.1)
      ∙ gone_places M w p (group_of w.common x) target g.0 top who) at

  -- ---- silent steps

  module _ (advance : Common → A → Common × A) (keeps : KeepsPlaces advance) (w : World A) (p : ℕ) where
    objects_keep : (c : Common) (a : A) → Keeps c.objects (advance c a).0.objects
    objects_keep c a = record {
      count = keeps.count c a;
      homes = λ x h.
          is_home (object_at (advance c a).0.objects x)
          (keeps.classes c a x ∙ home_class (object_at c.objects x) h)
          (keeps.flags c a x ∙ home_fixed (object_at c.objects x) h);
    }

    advanced_still : (below : List A) (n : Common × A) → Still w.common n.0 → Still w.common (advanced M advance w p below n).common
    advanced_still below (c, top) s = s

    nothing : Still w.common w.common
    nothing = record { nodes = refl; events = refl; keeps = kept_same w.common.objects }

    unless_still : (below : List A) (top : A) (b : Bool) → Still w.common (go_on_unless M advance w p below top b).common
    unless_still below top true = nothing
    unless_still below top false =
        advanced_still below (advance w.common top)
        (record { nodes = keeps.nodes w.common top; events = keeps.events w.common top; keeps = objects_keep w.common top })

    go_still : (below : List A) (t : Option A) → Still w.common (go_on M advance w p below t).common
    go_still below None = nothing
    go_still below (Some top) = unless_still below top (M.is_pending top)

    go_on_still : Still w.common (GoOn M advance w p).common
    go_on_still = go_still (below_of (stack_at w p)) (top_of (stack_at w p))

  -- ---- who stays

  action_stays : (w : World A) (p x : ℕ) → IsPlaced w.common → IsSome (object_at w.common.objects x) →
      (place_of (Action M w p).common x ≡ place_of w.common x) ⊎ TakesAlong M w p x
  action_stays w p x h there =
      let a = action_does M w p in
      let within = object_within w.common.objects x there in
      let l : x ≤ length (places w.common.nodes w.common.events) = (let e = h.each in omega (arith, within.1, e)) in
      ⊎_elim
      (λ (has : Has a.goers x). inr (a.why x has))
      (λ (out : Has a.goers x → ⊥). inl (a.does.others x l out))
      (member_or_not a.goers x)

  behind : {T : Type 0} (advance : Common → A → Common × A) (keeps : KeepsPlaces advance) (w : World A) (p x : ℕ) →
      (place_of (Action M w p).common x ≡ place_of w.common x) ⊎ T →
      (place_of (Turn M advance w p).common x ≡ place_of w.common x) ⊎ T
  behind {T = T} advance keeps w p x h = ⊎_elim
      (λ (e : place_of (Action M w p).common x ≡ place_of w.common x).
      inl (still_place (Action M w p).common (Turn M advance w p).common x (go_on_still advance keeps (Action M w p) p) ∙ e))
      (λ (t : T). inr t)
      h

  pub others_stay : OthersStay M
  others_stay = record {
    by_action = action_stays;
    by_silent_steps = λ advance w p x keeps. still_place w.common (GoOn M advance w p).common x (go_on_still advance keeps w p);
    by_turn = λ advance w p x keeps h there. behind advance keeps w p x (action_stays w p x h there);
  }

  -- ---- fixed objects

  fixed_there : (o : Option ObjectRec) → fixed_if o ≡ true → IsSome o
  fixed_there None e = absurd cc
  fixed_there (Some o) e = refl

  itself : (w : World A) (p x : ℕ) → IsFixed w.common x → TakesAlong M w p x → Refixes M w p x
  itself w p x fixed t =
      let own = fixed_itself w.common t.object x t.may_go t.member fixed in
      record {
        line = own.1.0;
        target = t.target;
        asks =
            subst (λ y. AsksToMove M w p (stop.Refix own.1.0) y t.target) (sym own.0)
            (subst (λ s. AsksToMove M w p s t.object t.target) own.1.1 t.asks);
      }

  fixed_stays : (w : World A) (p x : ℕ) → IsPlaced w.common → IsFixed w.common x →
      (place_of (Action M w p).common x ≡ place_of w.common x) ⊎ Refixes M w p x
  fixed_stays w p x h fixed = ⊎_elim
      (λ (e : place_of (Action M w p).common x ≡ place_of w.common x). inl e)
      (λ (t : TakesAlong M w p x). inr (itself w p x fixed t))
      (action_stays w p x h (fixed_there (object_at w.common.objects x) fixed))

-- ---- moves by the operator

none_fixed : (c : Common) (ms : List ℕ) (y : ℕ) → any_fixed c ms ≡ false → Has ms y → IsFixed c y → ⊥
none_fixed c [] y e h f = has_none y h
none_fixed c (m ∷ ms) y e h f = ⊎_elim
    (λ (it : y ≡ m).
    true≢false (sym f ∙ ap (λ z. fixed_if (object_at c.objects z)) it ∙ or_left (fixed_if (object_at c.objects m)) (any_fixed c ms) e))
    (λ (later : Has ms y). none_fixed c ms y (or_right (fixed_if (object_at c.objects m)) (any_fixed c ms) e) later f)
    (has_parts m y ms h)

not_not : (b : Bool) → not b ≡ false → b ≡ true
not_not true e = refl
not_not false e = absurd cc

module _ (c : Common) (o k : ℕ) (goes : is_idle_move c o k ≡ false) where
  abbrev late : Bool
  late = not (nat_lt k c.nodes) || any_fixed c (group_of c o)

  late_none : late ≡ false
  late_none = or_right (not (is_there (object_at c.objects o))) late goes

  low_node : k < c.nodes
  low_node = ltb-true k c.nodes (not_not (nat_lt k c.nodes) (or_left (not (nat_lt k c.nodes)) (any_fixed c (group_of c o)) late_none))

  member_loose : (y : ℕ) → Has (group_of c o) y → IsFixed c y → ⊥
  member_loose y = none_fixed c (group_of c o) y (or_right (not (nat_lt k c.nodes)) (any_fixed c (group_of c o)) late_none)

-- what is beside processes after the move, and who has gone
record MoveDoes (c d : Common) : Type 0 where
  pub goers : List ℕ
  pub does : Does c d goers
  pub loose : (y : ℕ) → Has goers y → IsFixed c y → ⊥

move_does : (c : Common) (o k : ℕ) (b : Bool) → is_idle_move c o k ≡ b → MoveDoes c (moved_unless c o k b)
move_does c o k true e = record { goers = []; does = same c; loose = λ y h f. has_none y h }
move_does c o k false e = record {
  goers = group_of c o;
  does = goes_away c (moved_unless c o k false) (group_of c o) (suc k) refl refl (kept_same c.objects) (members_low c o);
  loose = λ y h. member_loose c o k e y h;
}

-- a number that isn't a member's has its place, whatever it is
moved_stays : (c : Common) (o k x : ℕ) (b : Bool) → is_idle_move c o k ≡ b → IsFixed c x →
    place_of (moved_unless c o k b) x ≡ place_of c x
moved_stays c o k x true e f = refl
moved_stays c o k x false e f =
    ap (λ (ps : List ℕ). place_in ps x) (places_push c.nodes c.events (Moved (group_of c o) (suc k)))
    ∙ moved_other (places c.nodes c.events) (group_of c o) (node_or_first (place_of c (suc k))) x (members_low c o)
    (λ h. member_loose c o k e x h f)

module _ {A : Type 0} where
  pub move_brings : MoveBringsTheGroup A
  move_brings = record {
    goes = λ w o k h e.
        let c = w.common in
        come_by c (OperatorMove w o k).common o (suc k) k h
        (ap (λ (b : Bool). let d : Common = moved_unless c o k b in places d.nodes d.events) e
        ∙ places_push c.nodes c.events (Moved (group_of c o) (suc k)))
        (h.nodes k (low_node c o k e)).place;
    idle = λ w o k e. ap (λ (b : Bool). record w { common = moved_unless w.common o k b }) e;
  }

module _ {A : Type 0} (M : ActivationMeaning A) where
  pub fixed_objects_stay : FixedObjectsStay M
  fixed_objects_stay = record {
    by_action = fixed_stays M;
    by_silent_steps = λ advance w p x keeps fixed.
        still_place w.common (GoOn M advance w p).common x (go_on_still M advance keeps w p);
    by_turn = λ advance w p x keeps h fixed. behind M advance keeps w p x (fixed_stays M w p x h fixed);
    by_move = λ w o k x fixed. moved_stays w.common o k x (is_idle_move w.common o k) refl fixed;
  }

  -- ---- nodes

  action_on : (n : ℕ) (w : World A) (p : ℕ) → IsOnNodes n w.common → IsOnNodes n (Action M w p).common
  action_on n w p h =
      let a = action_does M w p in
      on_still n w.common (Action M w p).common a.goers a.does (node_stays M w p) h

  silent_on : (advance : Common → A → Common × A) (n : ℕ) (w : World A) (p : ℕ) → KeepsPlaces advance → IsOnNodes n w.common →
      IsOnNodes n (GoOn M advance w p).common
  silent_on advance n w p keeps h =
      on_still n w.common (GoOn M advance w p).common []
      (still_does w.common (GoOn M advance w p).common (go_on_still M advance keeps w p)) (λ k at none. has_none (suc k) none) h

  move_on : (n : ℕ) (w : World A) (o k : ℕ) → IsOnNodes n w.common → IsOnNodes n (OperatorMove w o k).common
  move_on n w o k h =
      let m = move_does w.common o k (is_idle_move w.common o k) refl in
      on_still n w.common (OperatorMove w o k).common m.goers m.does (λ j at has. m.loose (suc j) has at.fixed) h

  entry_on : (advance : Common → A → Common × A) (n : ℕ) (w : World A) (e : RunEntry) → KeepsPlaces advance → IsOnNodes n w.common →
      IsOnNodes n (after_entry M advance w e).common
  entry_on advance n w (TurnOf p) keeps h = silent_on advance n (Action M w p) p keeps (action_on n w p h)
  entry_on advance n w (MoveOf o k) keeps h = move_on n w o k h

  entries_on : (advance : Common → A → Common × A) (n : ℕ) → KeepsPlaces advance → (w : World A) (es : List RunEntry) → IsOnNodes n w.common →
      IsOnNodes n (after_entries M advance w es).common
  entries_on advance n keeps w [] h = h
  entries_on advance n keeps w (e ∷ es) h = entries_on advance n keeps (after_entry M advance w e) es (entry_on advance n w e keeps h)

  -- ---- the first world

  number_at : (i n k : ℕ) (rest : List ℕ) → k < n → slice_get (numbers_from i n ++ rest) k ≡ Some (i + k)
  number_at i zero k rest h = absurd (omega arith)
  number_at i (suc n) zero rest h = let e : i ≡ i + 0 = omega arith in ap Some e
  number_at i (suc n) (suc k) rest h =
      let e : suc i + k ≡ i + suc k = omega arith in
      number_at (suc i) n k rest (omega arith) ∙ ap Some e

  node_at : (n k : ℕ) (rest : List ObjectRec) → k < n → slice_get (replicate n node_object ++ rest) k ≡ Some node_object
  node_at zero k rest h = absurd (omega arith)
  node_at (suc n) zero rest h = refl
  node_at (suc n) (suc k) rest h = node_at n k rest (omega arith)

  length_nodes : (n : ℕ) → length (replicate n node_object) ≡ n
  length_nodes zero = refl
  length_nodes (suc n) = ap suc (length_nodes n)

  first_on : (n : ℕ) (classes : List ClassRec) (globals : List ValueType) → IsOnNodes n (first_world M n classes globals).common
  first_on n classes globals = record {
    count = refl;
    placed = record {
      each =
          let a = length-places n [] in
          let b = length_added (replicate n node_object) program_object in
          let c = length_nodes n in
          omega (arith, a, b, c);
      nodes = λ k h.
          let at = node_at n k (program_object ∷ []) h in
          record {
            class = ap class_of at;
            place = number_at 0 n k (0 ∷ []) h ∙ (let e : 0 + k ≡ k = omega arith in ap Some e);
            fixed = ap fixed_if at;
          };
    };
  }

  pub entries_keep : EntriesKeepNodes M
  entries_keep = record {
    at_first = first_on;
    by_action = action_on;
    by_silent_steps = silent_on;
    by_move = move_on;
    by_entry = entry_on;
  }

  pub nodes_stay : NodesStay M
  nodes_stay advance keeps n classes globals es =
      entries_on advance n keeps (first_world M n classes globals) es (first_on n classes globals)
