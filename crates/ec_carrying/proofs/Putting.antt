-- One thing after another comes to a store.
use Rattle.std.proofs.Common.{◌≡◌, ℕ, zero, suc, ◌+◌, ◌<◌, ◌≤◌, List, [], ◌∷◌, ◌++◌, drop, length, take, Some, None, refl, sym, ap, ◌∙◌, subst, arith}
use Rattle.std.proofs.Common.{append_assoc, inl, ⊎_elim}
use Rattle.std.proofs.lemmas.List.{append-nil, map-append}
use Rattle.std.proofs.lemmas.List.Sums.{sum_by-cons}
use Rattle.std.proofs.lemmas.Option.{same_Some}
use Rattle.std.specs.Prelude.{slice_get}
use Rattle.ec_base.proofs.Lists.{drop_at, take_next}
use Rattle.ec_carrying.proofs.Joining.{TextIn, joined, room_left}
use Rattle.ec_carrying.proofs.Once.{once_front}
use Rattle.ec_carrying.proofs.Texts.{front_fits}
use Rattle.ec_carrying.specs.Unpacking.{ActivationFits, HasRoomHere, Unpacked, activations_alone, object_in, objects_alone}
use Rattle.ec_generate.specs.declared.table.OperationTable.{OperationTable}
use Rattle.ec_generate.specs.declared.table.StopEntry.{StopEntry}
use Rattle.ec_objects.proofs.Wording.{take_all}
use Rattle.ec_objects.specs.Values.{TextsFit}
use Rattle.ec_parcels.specs.Activations.{HasHomes, IsStopOf, frame_in}
use Rattle.ec_parcels.specs.Classes.{ClassTable, class_of}
use Rattle.ec_parcels.specs.Owners.{blocks_if, frame_keys, frame_values, keys_of, object_blocks, object_keys, object_values, values_in}
use Rattle.ec_things.specs.Store.{Store, Tidy}
use Rattle.ec_things.specs.Texts.{GetsTexts, InPool}
use Rattle.ec_things.specs.Things.{Puts, Shown, row_size, size_of}
use Rattle.ec_wire.specs.declared.parcel.ActivationPart.{ActivationPart}
use Rattle.ec_wire.specs.declared.parcel.Contents.{Contents}
use Rattle.ec_wire.specs.declared.parcel.MonitorPart.{MonitorPart}
use Rattle.ec_wire.specs.declared.parcel.ObjectPart.{ObjectPart}
use Rattle.ec_world.proofs.Members.{has_first, has_none, has_one}
use Rattle.ec_world.specs.Group.{Has}
use Rattle.ec_world.specs.Held.{Distinct}
use Rattle.ec_world.specs.Things.{class_blocks}
use Rattle.ec_world.specs.declared.class.ClassNo.{ClassNo}
use Rattle.ec_world.specs.declared.key.Key.{Key}
use Rattle.ec_world.specs.declared.key.Key.TheVariants.{Frame, Object}
use Rattle.ec_world.specs.declared.value.Value.{Value}
use Rattle.ec_world.specs.declared.value.Value.TheVariants.{Str}

-- contents with these monitors
abbrev pub holding : List MonitorPart → List ObjectPart → List ActivationPart → Contents
holding ms os fs = record { objects = os; monitors = ms; activations = fs }

-- what is said of contents, of their parts
room_by_parts : (table : ClassTable) (s : Store) (x : Contents) → HasRoomHere table s x →
    HasRoomHere table s (holding x.monitors x.objects x.activations)
room_by_parts table s x room =
    record { tidy = room.tidy; once = room.once; new = room.new; blocks = room.blocks; texts = room.texts }

by_parts : (table : ClassTable) (tables : List OperationTable) (s s' : Store) (x : Contents) →
    Unpacked table tables (holding x.monitors x.objects x.activations) s s' → Unpacked table tables x s s'
by_parts table tables s s' x came = record {
  objects = came.objects;
  activations = came.activations;
  others = came.others;
  grown = came.grown;
  tidy = came.tidy;
  blocks = came.blocks;
  texts = came.texts;
}

pub nothing_came : (table : ClassTable) (tables : List OperationTable) (ms : List MonitorPart) (s : Store) → Tidy s →
    Unpacked table tables (holding ms [] []) s s
nothing_came table tables ms s tidy = record {
  objects = λ part class h is. absurd (has_none part h);
  activations = λ part t e h is. absurd (has_none part h);
  others = λ key none. record { row = refl; words = λ r b i e x l. refl };
  grown = record { kind = refl; local = λ i o e. e; text = λ i t e. e; global = λ i. refl; room = refl; text_room = refl };
  tidy = tidy;
  blocks = omega arith;
  texts = record {
    kind = refl;
    room = refl;
    text_room = refl;
    count = refl;
    texts = λ text. (
      λ h. inl h,
      λ h. ⊎_elim (λ (o : InPool s text). o) (λ (n : TextIn [] text). absurd (has_none (Str text) n)) h,
    );
    stay = λ i text f. f;
  };
}

-- ---- one object

module _ (table : ClassTable) (ms : List MonitorPart) (part : ObjectPart) (rest : List ObjectPart) (fs : List ActivationPart) (m : Store)
    (room : HasRoomHere table m (holding ms (part ∷ rest) fs)) where
  pub object_is_new : m.row (Object part.number) ≡ None
  object_is_new = room.new (Object part.number) (has_first (Object part.number) (object_keys rest ++ frame_keys fs))

  pub object_has_blocks : (class : ClassNo) → class_of table part.class ≡ Some class → class_blocks class (length part.values) ≤ m.free
  object_has_blocks class is =
      let its : object_blocks table part ≡ class_blocks class (length part.values) = ap (λ q. blocks_if q (length part.values)) is in
      let sum = sum_by-cons (object_blocks table) part rest in
      let all = room.blocks in
      omega (arith, its, sum, all)

  pub object_texts_fit : TextsFit m part.values
  object_texts_fit = front_fits m part.values (object_values rest ++ frame_values fs)
      (subst (λ (vs : List Value). TextsFit m vs) (append_assoc part.values (object_values rest) (frame_values fs)) room.texts)

module _ (table : ClassTable) (tables : List OperationTable) (ms : List MonitorPart) (part : ObjectPart) (class : ClassNo)
    (is : class_of table part.class ≡ Some class) (m s' : Store) (tidy : Tidy m) (none : m.row (Object part.number) ≡ None)
    (puts : Puts m s' (Object part.number) (Some (object_in class ms part)))
    (gets : GetsTexts (λ text. TextIn part.values text) m s') where
  object_shown : (other : ObjectPart) (its : ClassNo) → Has (part ∷ []) other → class_of table other.class ≡ Some its →
      Shown s' (Object other.number) (object_in its ms other)
  object_shown other its h e =
      let same : other ≡ part = has_one part other h in
      let of : class_of table part.class ≡ Some its = ap (λ (o : ObjectPart). class_of table o.class) (sym same) ∙ e in
      let one : class ≡ its = same_Some class its (sym is ∙ of) in
      subst (λ (o : ObjectPart). Shown s' (Object o.number) (object_in its ms o)) (sym same)
      (subst (λ (c : ClassNo). Shown s' (Object part.number) (object_in c ms part)) one puts.here)

  object_values_are : values_in (holding ms (part ∷ []) []) ≡ part.values
  object_values_are = append-nil (part.values ++ []) ∙ append-nil part.values

  pub object_came : Unpacked table tables (holding ms (part ∷ []) []) m s'
  object_came = record {
    objects = object_shown;
    activations = λ other t e h its. absurd (has_none other h);
    others = λ key absent. puts.others key
        (λ same. absent (subst (λ (k : Key). Has (Object part.number ∷ []) k) (sym same) (has_first (Object part.number) [])));
    grown = puts.grown;
    tidy = puts.tidy tidy;
    blocks =
        let its : object_blocks table part ≡ class_blocks class (length part.values) = ap (λ q. blocks_if q (length part.values)) is in
        let sum = sum_by-cons (object_blocks table) part [] in
        let row : row_size (m.row (Object part.number)) ≡ 0 = ap row_size none in
        let size : size_of (Some (object_in class ms part)) ≡ class_blocks class (length part.values) = refl in
        let free = puts.free in
        omega (arith, its, sum, row, size, free);
    texts = subst (λ (vs : List Value). GetsTexts (λ text. TextIn vs text) m s') (sym object_values_are) gets;
  }

-- ---- one activation

module _ (table : ClassTable) (ms : List MonitorPart) (part : ActivationPart) (rest : List ActivationPart) (m : Store)
    (room : HasRoomHere table m (holding ms [] (part ∷ rest))) where
  pub frame_is_new : m.row (Frame part.process part.depth) ≡ None
  frame_is_new = room.new (Frame part.process part.depth) (has_first (Frame part.process part.depth) (frame_keys rest))

  pub frame_has_block : 0 < m.free
  frame_has_block =
      let all = room.blocks in
      let many : length (part ∷ rest) ≡ 1 + length rest = omega arith in
      omega (arith, all, many)

  pub frame_texts_fit : TextsFit m part.values
  frame_texts_fit = front_fits m part.values (frame_values rest) room.texts

-- a part has one stop
module _ (tables : List OperationTable) (part : ActivationPart) (fits : ActivationFits tables part) where
  pub homes_of_stop : (t : OperationTable) (e : StopEntry) → IsStopOf tables part t e → HasHomes t e part
  homes_of_stop t e is =
      let table : fits.table ≡ t = same_Some fits.table t (sym fits.is.its ∙ is.its) in
      let entry : fits.entry ≡ e = same_Some fits.entry e
      (sym fits.is.stop ∙ ap (λ (x : OperationTable). slice_get x.stops part.stop) table ∙ is.stop) in
      subst (λ (x : OperationTable). HasHomes x e part) table (subst (λ (y : StopEntry). HasHomes fits.table y part) entry fits.homes)

module _ (table : ClassTable) (tables : List OperationTable) (ms : List MonitorPart) (part : ActivationPart) (m s' : Store)
    (fits : ActivationFits tables part) (tidy : Tidy m) (none : m.row (Frame part.process part.depth) ≡ None)
    (puts : (t : OperationTable) (e : StopEntry) → IsStopOf tables part t e → HasHomes t e part →
    Puts m s' (Frame part.process part.depth) (Some (frame_in t e part)))
    (gets : GetsTexts (λ text. TextIn part.values text) m s') where
  abbrev key : Key
  key = Frame part.process part.depth

  one : Puts m s' (Frame part.process part.depth) (Some (frame_in fits.table fits.entry part))
  one = puts fits.table fits.entry fits.is fits.homes

  frame_shown : (other : ActivationPart) (t : OperationTable) (e : StopEntry) → Has (part ∷ []) other → IsStopOf tables other t e →
      Shown s' (Frame other.process other.depth) (frame_in t e other)
  frame_shown other t e h its =
      let same : other ≡ part = has_one part other h in
      let stop = subst (λ (o : ActivationPart). IsStopOf tables o t e) same its in
      subst (λ (o : ActivationPart). Shown s' (Frame o.process o.depth) (frame_in t e o)) (sym same)
      (puts t e stop (homes_of_stop tables part fits t e stop)).here

  pub frame_came : Unpacked table tables (holding ms [] (part ∷ [])) m s'
  frame_came = record {
    objects = λ other class h is. absurd (has_none other h);
    activations = frame_shown;
    others = λ other absent. one.others other
        (λ same. absent (subst (λ (k : Key). Has (key ∷ []) k) (sym same) (has_first key [])));
    grown = one.grown;
    tidy = one.tidy tidy;
    blocks =
        let row : row_size (m.row key) ≡ 0 = ap row_size none in
        let size : size_of (Some (frame_in fits.table fits.entry part)) ≡ 1 = refl in
        let free = one.free in
        let many : length (part ∷ []) ≡ 1 = omega arith in
        omega (arith, row, size, free, many);
    texts = subst (λ (vs : List Value). GetsTexts (λ text. TextIn vs text) m s') (sym (append-nil part.values)) gets;
  }

-- ---- a list in two

module _ {A : Type 0} where
  take_and_drop : (xs : List A) (i : ℕ) → take i xs ++ drop i xs ≡ xs
  take_and_drop [] zero = refl
  take_and_drop [] (suc i) = refl
  take_and_drop (x ∷ xs) zero = refl
  take_and_drop (x ∷ xs) (suc i) = ap (λ (r : List A). x ∷ r) (take_and_drop xs i)

  in_two : (xs : List A) (i : ℕ) (x : A) → slice_get xs i ≡ Some x → take i xs ++ x ∷ drop (i + 1) xs ≡ xs
  in_two xs i x is = ap (λ (r : List A). take i xs ++ r) (sym (drop_at xs i x is)) ∙ take_and_drop xs i

-- the first objects of contents stand each once, and so do the first activations
first_objects_once : (ms : List MonitorPart) (front rest : List ObjectPart) (fs : List ActivationPart) →
    Distinct (object_keys (front ++ rest) ++ frame_keys fs) → Distinct (keys_of (holding ms front []))
first_objects_once ms front rest fs once =
    let objects = once_front (object_keys (front ++ rest)) (frame_keys fs) once in
    let two = subst (λ (ks : List Key). Distinct ks) (map-append (λ (o : ObjectPart). Object o.number) front rest) objects in
    subst (λ (ks : List Key). Distinct ks) (sym (append-nil (object_keys front))) (once_front (object_keys front) (object_keys rest) two)

first_frames_once : (front rest : List ActivationPart) → Distinct (frame_keys (front ++ rest)) → Distinct (frame_keys front)
first_frames_once front rest once = once_front (frame_keys front) (frame_keys rest)
    (subst (λ (ks : List Key). Distinct ks) (map-append (λ (a : ActivationPart). Frame a.process a.depth) front rest) once)

-- ---- the loop of the objects

module _ (table : ClassTable) (tables : List OperationTable) (s now : Store) (x : Contents) (room : HasRoomHere table s x) (i : ℕ)
    (part : ObjectPart) (is : slice_get x.objects i ≡ Some part)
    (came : Unpacked table tables (holding x.monitors (take i x.objects) []) s now) where
  abbrev rest : List ObjectPart
  rest = drop (i + 1) x.objects

  two : take i x.objects ++ part ∷ rest ≡ x.objects
  two = in_two x.objects i part is

  all_room : HasRoomHere table s (holding x.monitors (take i x.objects ++ part ∷ rest) x.activations)
  all_room = subst (λ (os : List ObjectPart). HasRoomHere table s (holding x.monitors os x.activations)) (sym two)
      (room_by_parts table s x room)

  pub room_for_object : HasRoomHere table now (holding x.monitors (part ∷ rest) x.activations)
  room_for_object =
      room_left x.monitors x.monitors (take i x.objects) (part ∷ rest) [] x.activations table tables s now all_room came

  once_so_far : Distinct (keys_of (holding x.monitors (take i x.objects ++ part ∷ []) []))
  once_so_far = first_objects_once x.monitors (take i x.objects ++ part ∷ []) rest x.activations
      (subst (λ (os : List ObjectPart). Distinct (object_keys os ++ frame_keys x.activations))
      (sym (append_assoc (take i x.objects) (part ∷ []) rest ∙ two)) room.once)

  pub object_behind : (class : ClassNo) → class_of table part.class ≡ Some class → (s' : Store) →
      Puts now s' (Object part.number) (Some (object_in class x.monitors part)) → GetsTexts (λ text. TextIn part.values text) now s' →
      Unpacked table tables (holding x.monitors (take (i + 1) x.objects) []) s s'
  object_behind class its s' puts gets =
      let new = object_is_new table x.monitors part rest x.activations now room_for_object in
      let one = object_came table tables x.monitors part class its now s' came.tidy new puts gets in
      subst (λ (os : List ObjectPart). Unpacked table tables (holding x.monitors os []) s s') (sym (take_next x.objects i part is))
      (joined x.monitors x.monitors (take i x.objects) (part ∷ []) [] [] table tables s now s' once_so_far came one (λ o c h. refl))

pub all_objects_came : (table : ClassTable) (tables : List OperationTable) (s now : Store) (x : Contents) (i : ℕ) → length x.objects ≤ i →
    Unpacked table tables (holding x.monitors (take i x.objects) []) s now → Unpacked table tables (objects_alone x) s now
all_objects_came table tables s now x i all came =
    subst (λ (os : List ObjectPart). Unpacked table tables (holding x.monitors os []) s now) (take_all x.objects i all) came

-- ---- the loop of the activations

module _ (table : ClassTable) (tables : List OperationTable) (s now : Store) (parts : List ActivationPart)
    (room : HasRoomHere table s (activations_alone parts)) (i : ℕ) (part : ActivationPart) (is : slice_get parts i ≡ Some part)
    (came : Unpacked table tables (activations_alone (take i parts)) s now) where
  abbrev later : List ActivationPart
  later = drop (i + 1) parts

  both : take i parts ++ part ∷ later ≡ parts
  both = in_two parts i part is

  pub room_for_frame : HasRoomHere table now (activations_alone (part ∷ later))
  room_for_frame = room_left [] [] [] [] (take i parts) (part ∷ later) table tables s now
      (subst (λ (fs : List ActivationPart). HasRoomHere table s (activations_alone fs)) (sym both) room) came

  pub frame_behind : ActivationFits tables part → (s' : Store) → ((t : OperationTable) (e : StopEntry) → IsStopOf tables part t e →
      HasHomes t e part → Puts now s' (Frame part.process part.depth) (Some (frame_in t e part))) →
      GetsTexts (λ text. TextIn part.values text) now s' →
      Unpacked table tables (activations_alone (take (i + 1) parts)) s s'
  frame_behind fits s' puts gets =
      let new = frame_is_new table [] part later now room_for_frame in
      let one = frame_came table tables [] part now s' fits came.tidy new puts gets in
      let once = first_frames_once (take i parts ++ part ∷ []) later
      (subst (λ (fs : List ActivationPart). Distinct (frame_keys fs)) (sym (append_assoc (take i parts) (part ∷ []) later ∙ both)) room.once) in
      subst (λ (fs : List ActivationPart). Unpacked table tables (activations_alone fs) s s') (sym (take_next parts i part is))
      (joined [] [] [] [] (take i parts) (part ∷ []) table tables s now s' once came one (λ o c h. refl))

pub all_frames_came : (table : ClassTable) (tables : List OperationTable) (s now : Store) (parts : List ActivationPart) (i : ℕ) →
    length parts ≤ i → Unpacked table tables (activations_alone (take i parts)) s now → Unpacked table tables (activations_alone parts) s now
all_frames_came table tables s now parts i all came =
    subst (λ (fs : List ActivationPart). Unpacked table tables (activations_alone fs) s now) (take_all parts i all) came

-- ---- both

module _ (table : ClassTable) (tables : List OperationTable) (s m : Store) (x : Contents) (room : HasRoomHere table s x)
    (came : Unpacked table tables (objects_alone x) s m) where
  room_in_two : HasRoomHere table s (holding x.monitors (x.objects ++ []) x.activations)
  room_in_two =
      subst (λ (os : List ObjectPart). HasRoomHere table s (holding x.monitors os x.activations)) (sym (append-nil x.objects))
      (room_by_parts table s x room)

  pub room_for_frames : (other : ClassTable) → HasRoomHere other m (activations_alone x.activations)
  room_for_frames other =
      let left = room_left x.monitors [] x.objects [] [] x.activations table tables s m room_in_two came in
      record { tidy = left.tidy; once = left.once; new = left.new; blocks = left.blocks; texts = left.texts }

  pub all_came : (s' : Store) → Unpacked table tables (activations_alone x.activations) m s' → Unpacked table tables x s s'
  all_came s' next =
      by_parts table tables s s' x
      (subst (λ (os : List ObjectPart). Unpacked table tables (holding x.monitors os x.activations) s s') (append-nil x.objects)
      (joined x.monitors [] x.objects [] [] x.activations table tables s m s' room_in_two.once came next
      (λ part class h. absurd (has_none part h))))
