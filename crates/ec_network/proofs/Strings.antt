-- The texts of the world between the two steps of an action: the nodes had them before, or the world behind both steps has them.
use Rattle.std.proofs.Common.{◌≡◌, ◌≢◌, ◌⊎◌, ℕ, zero, suc, List, [], ◌∷◌, Option, Some, None, refl, sym, ap, ◌∙◌, subst, arith}
use Rattle.std.proofs.Common.{inl, inr, ⊎_elim}
use Rattle.std.specs.Prelude.{slice_get, slice_set}
use Rattle.std.proofs.lemmas.Option.{same_Some}
use Rattle.ec_base.proofs.Lists.{get_set_other, get_set_same, get_within}
use Rattle.ec_cluster.proofs.Changing.{before_suc}
use Rattle.ec_cluster.proofs.Places.{place_made}
use Rattle.ec_cluster.specs.Cluster.{CodeWorld, Shows, frame_of, place}
use Rattle.ec_cluster.specs.declared.cluster.Cluster.{Cluster}
use Rattle.ec_code.specs.Activations.{code_meaning}
use Rattle.ec_code.specs.declared.activation.CodeActivation.{CodeActivation}
use Rattle.ec_acts.specs.Doings.{OneMore, Places}
use Rattle.ec_cluster.specs.Whereabouts.{moves_of, place_at}
use Rattle.ec_monitors.specs.Monitors.{dropped}
use Rattle.ec_monitors.specs.declared.record.MonitorRec.{MonitorRec}
use Rattle.ec_world.specs.declared.key.Key.{Key}
use Rattle.ec_world.specs.declared.key.Key.TheVariants.{Frame, Object}
use Rattle.ec_cluster.specs.SystemSteps.{world_done, world_settled}
use Rattle.ec_cluster.specs.Systems.{Strings}
use Rattle.ec_things.proofs.Put.{same_or_not}
use Rattle.ec_things.specs.Texts.{IsHeld}
use Rattle.ec_things.specs.Things.{Thing, object_if, object_thing, things_of}
use Rattle.ec_world.specs.Group.{Has}
use Rattle.ec_world.specs.Objects.{changed_if, object_at}
use Rattle.ec_world.specs.Outcomes.{by_holder, dropped_at, dropped_each, dropped_if, monitor_if}
use Rattle.ec_world.specs.World.{given_up, owns_of}
use Rattle.ec_world.specs.declared.doing.Doing.{Doing}
use Rattle.ec_world.specs.declared.doing.Doing.TheVariants.{Passes, Prints, Defines, Stores, Makes, MakesVector, Invokes, Returns}
use Rattle.ec_world.specs.declared.doing.Doing.TheVariants.{Moves, Unfixes, Enters, Waits, Signals, Finishes, Breaks}
use Rattle.ec_world.specs.declared.doing.Outcome.{Outcome}
use Rattle.ec_world.specs.declared.object.ObjectRec.{ObjectRec}
use Rattle.ec_world.specs.declared.stop.Effect.{Effect}
use Rattle.ec_world.specs.declared.stop.Effect.TheVariants.{GoesOn, Calls, Leaves, Blocks, Ends, Fails}
use Rattle.ec_world.specs.declared.stop.Who.{Who}
use Rattle.ec_world.specs.declared.value.Value.TheVariants.{Str}

-- ---- who gives up monitors changes no field

-- the object of a number is there, with these fields
pub record Fielded (objects : List ObjectRec) (oid : ℕ) (o : ObjectRec) : Type 0 where
  pub object : ObjectRec
  pub is : object_at objects oid ≡ Some object
  pub fields : object.fields ≡ o.fields

abbrev pub KeepsFields : List ObjectRec → List ObjectRec → Type 0
KeepsFields old new = (oid : ℕ) (o : ObjectRec) → object_at old oid ≡ Some o → Fielded new oid o

same_fields : (objects : List ObjectRec) → KeepsFields objects objects
same_fields objects oid o e = record { object = o; is = e; fields = refl }

module _ (change : ObjectRec → ObjectRec) (keeps : (o : ObjectRec) → (change o).fields ≡ o.fields) where
  set_keeps : (objects : List ObjectRec) (j : ℕ) (y : ObjectRec) → slice_get objects j ≡ Some y →
      KeepsFields objects (slice_set objects j (change y))
  set_keeps objects j y there zero o e = absurd cc
  set_keeps objects j y there (suc i) o e = ⊎_elim
      (λ (same : i ≡ j).
      let o_is : y ≡ o = same_Some y o (sym there ∙ ap (slice_get objects) (sym same) ∙ e) in
      record {
        object = change y;
        is = ap (slice_get (slice_set objects j (change y))) same ∙ get_set_same objects j (change y) (get_within objects j y there);
        fields = keeps y ∙ ap (λ (x : ObjectRec). x.fields) o_is;
      })
      (λ (ne : i ≢ j). record { object = o; is = get_set_other objects j i (change y) ne ∙ e; fields = refl })
      (same_or_not i j)

  changed_keeps : (objects : List ObjectRec) (x : ℕ) (y : Option ObjectRec) → object_at objects x ≡ y →
      KeepsFields objects (changed_if objects x change y)
  changed_keeps objects x None is = same_fields objects
  changed_keeps objects zero (Some y) is = absurd cc
  changed_keeps objects (suc j) (Some y) is =
      subst (λ n. KeepsFields objects (slice_set objects n (change y))) (sym (before_suc j)) (set_keeps objects j y is)

dropped_keeps : (objects : List ObjectRec) (p x : ℕ) (m : Option MonitorRec) → KeepsFields objects (dropped_if objects p x m).0
dropped_keeps objects p x None = same_fields objects
dropped_keeps objects p x (Some m) =
    changed_keeps (λ (o : ObjectRec). record o { monitor = Some (by_holder p m (dropped m)).0 }) (λ o. refl) objects x
    (object_at objects x) refl

keeps_both : (a b c : List ObjectRec) → KeepsFields a b → KeepsFields b c → KeepsFields a c
keeps_both a b c first second oid o e =
    let x = first oid o e in
    let y = second oid x.object x.is in
    record { object = y.object; is = y.is; fields = y.fields ∙ x.fields }

each_keeps : (p : ℕ) (owns : List ℕ) (objects : List ObjectRec) → KeepsFields objects (dropped_each p owns objects).0
each_keeps p [] objects = same_fields objects
each_keeps p (x ∷ owns) objects =
    keeps_both objects (dropped_at objects p x).0 (dropped_each p owns (dropped_at objects p x).0).0
    (dropped_keeps objects p x (monitor_if (object_at objects x))) (each_keeps p owns (dropped_at objects p x).0)

pub given_up_keeps : (p : ℕ) (owns : List ℕ) (e : Effect) (objects : List ObjectRec) →
    KeepsFields objects (given_up p owns e objects).0
given_up_keeps p owns (Fails why line) objects = each_keeps p owns objects
given_up_keeps p owns (GoesOn given) objects = same_fields objects
given_up_keeps p owns (Calls op own args) objects = same_fields objects
given_up_keeps p owns (Leaves given) objects = same_fields objects
given_up_keeps p owns (Blocks queue own) objects = same_fields objects
given_up_keeps p owns Ends objects = same_fields objects

-- ---- where activations and objects are between the steps

pub more_stay : (c c' : Cluster) (maker : ℕ) → OneMore c c' maker → (x k : ℕ) → place c x ≡ Some k → place c' x ≡ Some k
more_stay c c' maker more x k at =
    let l = (place_made c.whereabouts x k at).1 in more.others x (λ same. omega (arith, l, same)) ∙ at

-- What was at a node is still there.
pub still_there : (c c' : Cluster) (own : ℕ) (doing : Doing) → Places c c' own doing → (x k : ℕ) → place c x ≡ Some k →
    place c' x ≡ Some k
still_there c c' own (Passes given) p x k at = ap (λ d. place_at d x) p ∙ at
still_there c c' own (Prints text) p x k at = ap (λ d. place_at d x) p ∙ at
still_there c c' own (Defines index v) p x k at = ap (λ d. place_at d x) p ∙ at
still_there c c' own (Stores oid i v) p x k at = ap (λ d. place_at d x) p ∙ at
still_there c c' own (Makes class given) p x k at = more_stay c c' own p x k at
still_there c c' own (MakesVector of n) p x k at = more_stay c c' own p x k at
still_there c c' own (Invokes op callee args) p x k at = ap (λ d. place_at d x) p ∙ at
still_there c c' own (Returns given leaves section) p x k at = ap (λ d. place_at d x) p ∙ at
still_there c c' own (Moves members to fixes) p x k at = absurd p
still_there c c' own (Unfixes y) p x k at = ap (λ d. place_at d x) p ∙ at
still_there c c' own Enters p x k at = ap (λ d. place_at d x) p ∙ at
still_there c c' own (Waits condition) p x k at = ap (λ d. place_at d x) p ∙ at
still_there c c' own (Signals condition) p x k at = ap (λ d. place_at d x) p ∙ at
still_there c c' own Finishes p x k at = ap (λ d. place_at d x) p ∙ at
still_there c c' own (Breaks why line) p x k at = ap (λ d. place_at d x) p ∙ at

-- And no object has moved.
pub done_moves : (c c' : Cluster) (own : ℕ) (doing : Doing) → Places c c' own doing → (x : ℕ) →
    moves_of c'.whereabouts x ≡ moves_of c.whereabouts x
done_moves c c' own (Passes given) p x = ap (λ d. moves_of d x) p
done_moves c c' own (Prints text) p x = ap (λ d. moves_of d x) p
done_moves c c' own (Defines index v) p x = ap (λ d. moves_of d x) p
done_moves c c' own (Stores oid i v) p x = ap (λ d. moves_of d x) p
done_moves c c' own (Makes class given) p x = p.moves x
done_moves c c' own (MakesVector of n) p x = p.moves x
done_moves c c' own (Invokes op callee args) p x = ap (λ d. moves_of d x) p
done_moves c c' own (Returns given leaves section) p x = ap (λ d. moves_of d x) p
done_moves c c' own (Moves members to fixes) p x = absurd p
done_moves c c' own (Unfixes y) p x = ap (λ d. moves_of d x) p
done_moves c c' own Enters p x = ap (λ d. moves_of d x) p
done_moves c c' own (Waits condition) p x = ap (λ d. moves_of d x) p
done_moves c c' own (Signals condition) p x = ap (λ d. moves_of d x) p
done_moves c c' own Finishes p x = ap (λ d. moves_of d x) p
done_moves c c' own (Breaks why line) p x = ap (λ d. moves_of d x) p

module _ (old mid new : Cluster) (w : CodeWorld) (below : List CodeActivation) (top : CodeActivation) (who : Who) (doing : Doing)
    (o : Outcome) (shows : Shows old w) (frames : frame_of mid ≡ frame_of old)
    (stays : (x k : ℕ) → place old x ≡ Some k → place mid x ≡ Some k) (after : (x : ℕ) → place new x ≡ place mid x) where
  abbrev between : CodeWorld
  between = world_done w who doing

  abbrev behind : CodeWorld
  behind = world_settled between who.process below top o

  of_key : (k : ℕ) (text : List ℕ) (key : Key) (t : Thing) → things_of (frame_of mid) between key ≡ Some t → place mid t.home ≡ Some k →
      Has t.values (Str text) → Strings old w k text ⊎ Strings new behind k text
  of_key k text (Frame q n) t is at has =
      let was : things_of (frame_of old) w (Frame q n) ≡ Some t = subst (λ f. things_of f w (Frame q n) ≡ Some t) frames is in
      let shown = shows.things_stand.each (Frame q n) t was in
      let same : shown.node ≡ k = same_Some shown.node k (sym (stays t.home shown.node shown.home) ∙ at) in
      inl (inl (record { key = Frame q n; thing = t; is = was; at = shown.home ∙ ap Some same; has = has }))
  of_key k text (Object oid) t is at has = of_object (object_at between.common.objects oid) refl is
    where
      of_object : (x : Option ObjectRec) → object_at between.common.objects oid ≡ x → object_if oid x ≡ Some t →
          Strings old w k text ⊎ Strings new behind k text
      of_object None e f = absurd cc
      of_object (Some y) e f =
          let thing : object_thing oid y ≡ t = same_Some (object_thing oid y) t f in
          let z = given_up_keeps who.process (owns_of code_meaning below top) o.effect between.common.objects oid y e in
          inr (inl (record {
            key = Object oid;
            thing = object_thing oid z.object;
            is = ap (object_if oid) z.is;
            at = after oid ∙ ap (λ (u : Thing). place mid u.home) thing ∙ at;
            has = subst (λ vs. Has vs (Str text)) (ap (λ (u : Thing). u.values) (sym thing) ∙ sym z.fields) has;
          }))

  pub texts_between : (k : ℕ) (text : List ℕ) → Strings mid between k text → Strings old w k text ⊎ Strings new behind k text
  texts_between k text h = ⊎_elim
      (λ (held : IsHeld (things_of (frame_of mid) between) (place mid) k text). of_key k text held.key held.thing held.is held.at held.has)
      (λ (has : Has between.common.globals (Str text)). inr (inr has))
      h
