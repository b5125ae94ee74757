-- Contents that come to a store one after another: what has come, and the room that is left.
use Rattle.std.proofs.Common.{◌≡◌, ℕ, ◌+◌, ◌⊎◌, List, ◌++◌, Some, sym, ◌∙◌, subst, arith}
use Rattle.std.proofs.Common.{inl, inr, ⊎_elim}
use Rattle.std.proofs.lemmas.List.{length-append, map-append}
use Rattle.std.proofs.lemmas.List.Concat.{flat_map-append}
use Rattle.std.proofs.lemmas.List.Sums.{sum_by-append}
use Rattle.ec_carrying.proofs.Once.{once_apart, once_back, once_front}
use Rattle.ec_carrying.proofs.Texts.{back_fits}
use Rattle.ec_carrying.specs.Unpacking.{HasRoomHere, Unpacked, object_in}
use Rattle.ec_generate.specs.declared.table.OperationTable.{OperationTable}
use Rattle.ec_generate.specs.declared.table.StopEntry.{StopEntry}
use Rattle.ec_objects.proofs.Creating.{kept_on}
use Rattle.ec_objects.proofs.Wording.{grown_on}
use Rattle.ec_objects.specs.Values.{TextsFit}
use Rattle.ec_parcels.proofs.Rising.{map_get, once_both}
use Rattle.ec_parcels.specs.Activations.{IsStopOf, frame_in}
use Rattle.ec_parcels.specs.Classes.{ClassTable, class_of}
use Rattle.ec_parcels.specs.Owners.{blocks_in, frame_keys, frame_values, keys_of, object_blocks, object_keys, object_values, values_in}
use Rattle.ec_things.proofs.Kept.{carries_of, shown_kept}
use Rattle.ec_things.specs.Store.{KeptRow, Store}
use Rattle.ec_things.specs.Texts.{GetsTexts, InPool}
use Rattle.ec_things.specs.Things.{Shown}
use Rattle.ec_wire.specs.declared.parcel.ActivationPart.{ActivationPart}
use Rattle.ec_wire.specs.declared.parcel.Contents.{Contents}
use Rattle.ec_wire.specs.declared.parcel.MonitorPart.{MonitorPart}
use Rattle.ec_wire.specs.declared.parcel.ObjectPart.{ObjectPart}
use Rattle.ec_world.proofs.Members.{has_back, has_either, has_front}
use Rattle.ec_world.specs.Group.{Has}
use Rattle.ec_world.specs.Held.{Distinct}
use Rattle.ec_world.specs.declared.class.ClassNo.{ClassNo}
use Rattle.ec_world.specs.declared.key.Key.{Key}
use Rattle.ec_world.specs.declared.key.Key.TheVariants.{Frame, Object}
use Rattle.ec_world.specs.declared.value.Value.{Value}
use Rattle.ec_world.specs.declared.value.Value.TheVariants.{Str}

-- ---- the same values in another order

abbrev pub TextIn : List Value → List ℕ → Type 0
TextIn values text = Has values (Str text)

-- room for the texts of values is room for those of values that are all among them, both ways
pub same_fits : (s : Store) (us vs : List Value) → ((v : Value) → Has us v → Has vs v) → ((v : Value) → Has vs v → Has us v) →
    TextsFit s vs → TextsFit s us
same_fits s us vs there back fit = record {
  bytes = fit.bytes;
  needs = record {
    texts = fit.needs.texts;
    once = fit.needs.once;
    these = λ text. (
      λ h. let x = (fit.needs.these text).0 h in (back (Str text) x.0, x.1),
      λ h. (fit.needs.these text).1 (there (Str text) h.0, h.1),
    );
    bytes = fit.needs.bytes;
  };
  fits = fit.fits;
}

-- texts that a store got, in other words
pub gets_as : (A B : List ℕ → Type 0) (s s' : Store) → ((text : List ℕ) → A text → B text) → ((text : List ℕ) → B text → A text) →
    GetsTexts A s s' → GetsTexts B s s'
gets_as A B s s' there back g = record {
  kind = g.kind;
  room = g.room;
  text_room = g.text_room;
  count = g.count;
  texts = λ text. (
    λ h. ⊎_elim (λ (o : InPool s text). inl o) (λ (a : A text). inr (there text a)) ((g.texts text).0 h),
    λ h. (g.texts text).1 (⊎_elim (λ (o : InPool s text). inl o) (λ (b : B text). inr (back text b)) h),
  );
  stay = g.stay;
}

-- texts that came first, and texts that came then
both_get : (A B : List ℕ → Type 0) (s m s' : Store) → GetsTexts A s m → GetsTexts B m s' → GetsTexts (λ text. A text ⊎ B text) s s'
both_get A B s m s' g h = record {
  kind = h.kind ∙ g.kind;
  room = h.room ∙ g.room;
  text_room = h.text_room ∙ g.text_room;
  count = h.count ∙ g.count;
  texts = λ text. (
    λ p. ⊎_elim
        (λ (q : InPool m text). ⊎_elim (λ (o : InPool s text). inl o) (λ (a : A text). inr (inl a)) ((g.texts text).0 q))
        (λ (b : B text). inr (inr b))
        ((h.texts text).0 p),
    λ p. ⊎_elim
        (λ (o : InPool s text). (h.texts text).1 (inl ((g.texts text).1 (inl o))))
        (λ (n : A text ⊎ B text). ⊎_elim
        (λ (a : A text). (h.texts text).1 (inl ((g.texts text).1 (inr a))))
        (λ (b : B text). (h.texts text).1 (inr b))
        n)
        p,
  );
  stay = λ i text e. h.stay i text (g.stay i text e);
}

-- ---- contents in two

module _ (ms ns : List MonitorPart) (os us : List ObjectPart) (fs gs : List ActivationPart) where
  abbrev pub front : Contents
  front = record { objects = os; monitors = ms; activations = fs }

  abbrev pub back : Contents
  back = record { objects = us; monitors = ns; activations = gs }

  abbrev pub whole : Contents
  whole = record { objects = os ++ us; monitors = ms; activations = fs ++ gs }

  values_there : (v : Value) → Has (values_in whole) v → Has (values_in front ++ values_in back) v
  values_there v h = ⊎_elim
      (λ (o : Has (object_values (os ++ us)) v). ⊎_elim
      (λ (f : Has (object_values os) v).
      has_front v (values_in front) (values_in back) (has_front v (object_values os) (frame_values fs) f))
      (λ (b : Has (object_values us) v).
      has_back v (values_in front) (values_in back) (has_front v (object_values us) (frame_values gs) b))
      (has_either v (object_values os) (object_values us)
      (subst (λ (vs : List Value). Has vs v) (flat_map-append (λ (x : ObjectPart). x.values) os us) o)))
      (λ (a : Has (frame_values (fs ++ gs)) v). ⊎_elim
      (λ (f : Has (frame_values fs) v).
      has_front v (values_in front) (values_in back) (has_back v (object_values os) (frame_values fs) f))
      (λ (b : Has (frame_values gs) v).
      has_back v (values_in front) (values_in back) (has_back v (object_values us) (frame_values gs) b))
      (has_either v (frame_values fs) (frame_values gs)
      (subst (λ (vs : List Value). Has vs v) (flat_map-append (λ (x : ActivationPart). x.values) fs gs) a)))
      (has_either v (object_values (os ++ us)) (frame_values (fs ++ gs)) h)

  object_value : (v : Value) → Has (object_values os ++ object_values us) v → Has (values_in whole) v
  object_value v h = has_front v (object_values (os ++ us)) (frame_values (fs ++ gs))
      (subst (λ (vs : List Value). Has vs v) (sym (flat_map-append (λ (x : ObjectPart). x.values) os us)) h)

  frame_value : (v : Value) → Has (frame_values fs ++ frame_values gs) v → Has (values_in whole) v
  frame_value v h = has_back v (object_values (os ++ us)) (frame_values (fs ++ gs))
      (subst (λ (vs : List Value). Has vs v) (sym (flat_map-append (λ (x : ActivationPart). x.values) fs gs)) h)

  values_back : (v : Value) → Has (values_in front ++ values_in back) v → Has (values_in whole) v
  values_back v h = ⊎_elim
      (λ (f : Has (values_in front) v). ⊎_elim
      (λ (o : Has (object_values os) v). object_value v (has_front v (object_values os) (object_values us) o))
      (λ (a : Has (frame_values fs) v). frame_value v (has_front v (frame_values fs) (frame_values gs) a))
      (has_either v (object_values os) (frame_values fs) f))
      (λ (b : Has (values_in back) v). ⊎_elim
      (λ (o : Has (object_values us) v). object_value v (has_back v (object_values os) (object_values us) o))
      (λ (a : Has (frame_values gs) v). frame_value v (has_back v (frame_values fs) (frame_values gs) a))
      (has_either v (object_values us) (frame_values gs) b))
      (has_either v (values_in front) (values_in back) h)

  -- ---- owners

  objects_two : object_keys (os ++ us) ≡ object_keys os ++ object_keys us
  objects_two = map-append (λ (o : ObjectPart). Object o.number) os us

  frames_two : frame_keys (fs ++ gs) ≡ frame_keys fs ++ frame_keys gs
  frames_two = map-append (λ (a : ActivationPart). Frame a.process a.depth) fs gs

  object_key : (key : Key) → Has (object_keys os ++ object_keys us) key → Has (object_keys (os ++ us)) key
  object_key key h = subst (λ (ks : List Key). Has ks key) (sym objects_two) h

  frame_key : (key : Key) → Has (frame_keys fs ++ frame_keys gs) key → Has (frame_keys (fs ++ gs)) key
  frame_key key h = subst (λ (ks : List Key). Has ks key) (sym frames_two) h

  front_key : (key : Key) → Has (keys_of front) key → Has (keys_of whole) key
  front_key key h = ⊎_elim
      (λ (o : Has (object_keys os) key). has_front key (object_keys (os ++ us)) (frame_keys (fs ++ gs))
      (object_key key (has_front key (object_keys os) (object_keys us) o)))
      (λ (a : Has (frame_keys fs) key). has_back key (object_keys (os ++ us)) (frame_keys (fs ++ gs))
      (frame_key key (has_front key (frame_keys fs) (frame_keys gs) a)))
      (has_either key (object_keys os) (frame_keys fs) h)

  back_key : (key : Key) → Has (keys_of back) key → Has (keys_of whole) key
  back_key key h = ⊎_elim
      (λ (o : Has (object_keys us) key). has_front key (object_keys (os ++ us)) (frame_keys (fs ++ gs))
      (object_key key (has_back key (object_keys os) (object_keys us) o)))
      (λ (a : Has (frame_keys gs) key). has_back key (object_keys (os ++ us)) (frame_keys (fs ++ gs))
      (frame_key key (has_back key (frame_keys fs) (frame_keys gs) a)))
      (has_either key (object_keys us) (frame_keys gs) h)

  module _ (once : Distinct (keys_of whole)) where
    objects_once : Distinct (object_keys os ++ object_keys us)
    objects_once = subst (λ (ks : List Key). Distinct ks) objects_two
        (once_front (object_keys (os ++ us)) (frame_keys (fs ++ gs)) once)

    frames_once : Distinct (frame_keys fs ++ frame_keys gs)
    frames_once = subst (λ (ks : List Key). Distinct ks) frames_two
        (once_back (object_keys (os ++ us)) (frame_keys (fs ++ gs)) once)

    -- an object is no activation
    mixed : (key : Key) → Has (object_keys os ++ object_keys us) key → Has (frame_keys fs ++ frame_keys gs) key → ⊥
    mixed key h g = once_apart (object_keys (os ++ us)) (frame_keys (fs ++ gs)) key once (object_key key h) (frame_key key g)

    pub apart : (key : Key) → Has (keys_of front) key → Has (keys_of back) key → ⊥
    apart key h g = ⊎_elim
        (λ (o : Has (object_keys os) key). ⊎_elim
        (λ (u : Has (object_keys us) key). once_apart (object_keys os) (object_keys us) key objects_once o u)
        (λ (b : Has (frame_keys gs) key).
        mixed key (has_front key (object_keys os) (object_keys us) o) (has_back key (frame_keys fs) (frame_keys gs) b))
        (has_either key (object_keys us) (frame_keys gs) g))
        (λ (a : Has (frame_keys fs) key). ⊎_elim
        (λ (u : Has (object_keys us) key).
        mixed key (has_back key (object_keys os) (object_keys us) u) (has_front key (frame_keys fs) (frame_keys gs) a))
        (λ (b : Has (frame_keys gs) key). once_apart (frame_keys fs) (frame_keys gs) key frames_once a b)
        (has_either key (object_keys us) (frame_keys gs) g))
        (has_either key (object_keys os) (frame_keys fs) h)

    back_once : Distinct (keys_of back)
    back_once = once_both (object_keys us) (frame_keys gs) (once_back (object_keys os) (object_keys us) objects_once)
        (once_back (frame_keys fs) (frame_keys gs) frames_once)
        (λ key h g. mixed key (has_back key (object_keys os) (object_keys us) h) (has_back key (frame_keys fs) (frame_keys gs) g))

  module _ (table : ClassTable) where
    blocks_two : blocks_in table whole ≡ blocks_in table front + blocks_in table back
    blocks_two =
        let objects = sum_by-append (object_blocks table) os us in
        let frames = length-append fs gs in
        omega (arith, objects, frames)

    module _ (tables : List OperationTable) (s m : Store) (room : HasRoomHere table s whole) (came : Unpacked table tables front s m) where
      -- the room that is left for what comes behind
      pub room_left : HasRoomHere table m back
      room_left = record {
        tidy = came.tidy;
        once = back_once room.once;
        new = λ key h. (came.others key (λ f. apart room.once key f h)).row ∙ room.new key (back_key key h);
        blocks =
            let had = room.blocks in
            let took = came.blocks in
            let two = blocks_two in
            omega (arith, had, took, two);
        texts = back_fits s m (values_in front) (values_in back)
            (same_fits s (values_in front ++ values_in back) (values_in whole) values_back values_there room.texts) room.tidy came.tidy
            came.texts;
      }

  -- Contents in front came, and then those behind them, whose objects have the same monitors.
  module _ (table : ClassTable) (tables : List OperationTable) (s m s' : Store) (once : Distinct (keys_of whole))
      (came : Unpacked table tables front s m) (next : Unpacked table tables back m s')
      (told : (part : ObjectPart) (class : ClassNo) → Has us part → object_in class ns part ≡ object_in class ms part) where
    from_front : (part : ObjectPart) → Has os part → Has (keys_of front) (Object part.number)
    from_front part h = has_front (Object part.number) (object_keys os) (frame_keys fs)
        (record { at = h.at; is = map_get (λ (o : ObjectPart). Object o.number) os h.at part h.is })

    frame_from_front : (part : ActivationPart) → Has fs part → Has (keys_of front) (Frame part.process part.depth)
    frame_from_front part h = has_back (Frame part.process part.depth) (object_keys os) (frame_keys fs)
        (record { at = h.at; is = map_get (λ (a : ActivationPart). Frame a.process a.depth) fs h.at part h.is })

    stays : (key : Key) → Has (keys_of front) key → KeptRow m s' key
    stays key h = next.others key (λ b. apart once key h b)

    object_joined : (part : ObjectPart) (class : ClassNo) → Has (os ++ us) part → class_of table part.class ≡ Some class →
        Shown s' (Object part.number) (object_in class ms part)
    object_joined part class h is = ⊎_elim
        (λ (o : Has os part).
        shown_kept m s' (Object part.number) (object_in class ms part) (carries_of m s' next.grown)
        (stays (Object part.number) (from_front part o)) (came.objects part class o is))
        (λ (u : Has us part). subst (Shown s' (Object part.number)) (told part class u) (next.objects part class u is))
        (has_either part os us h)

    frame_joined : (part : ActivationPart) (t : OperationTable) (e : StopEntry) → Has (fs ++ gs) part → IsStopOf tables part t e →
        Shown s' (Frame part.process part.depth) (frame_in t e part)
    frame_joined part t e h is = ⊎_elim
        (λ (a : Has fs part).
        shown_kept m s' (Frame part.process part.depth) (frame_in t e part) (carries_of m s' next.grown)
        (stays (Frame part.process part.depth) (frame_from_front part a)) (came.activations part t e a is))
        (λ (b : Has gs part). next.activations part t e b is)
        (has_either part fs gs h)

    pub joined : Unpacked table tables whole s s'
    joined = record {
      objects = object_joined;
      activations = frame_joined;
      others = λ key none. kept_on s m s' key (came.others key (λ f. none (front_key key f))) (next.others key (λ b. none (back_key key b)));
      grown = grown_on s m s' came.grown next.grown;
      tidy = next.tidy;
      blocks =
          let first = came.blocks in
          let second = next.blocks in
          let two = blocks_two table in
          omega (arith, first, second, two);
      texts = gets_as (λ text. TextIn (values_in front) text ⊎ TextIn (values_in back) text) (λ text. TextIn (values_in whole) text) s s'
          (λ text h. values_back (Str text) (⊎_elim
          (λ (f : TextIn (values_in front) text). has_front (Str text) (values_in front) (values_in back) f)
          (λ (b : TextIn (values_in back) text). has_back (Str text) (values_in front) (values_in back) b)
          h))
          (λ text h. has_either (Str text) (values_in front) (values_in back) (values_there (Str text) h))
          (both_get (λ text. TextIn (values_in front) text) (λ text. TextIn (values_in back) text) s m s' came.texts next.texts);
    }
