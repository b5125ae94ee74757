-- Registers that are homes are restored from the words of a frame, and saved in them.
use Rattle.std.proofs.Common.{◌≡◌, ◌≢◌, ℕ, ◌+◌, ◌<◌, ◌≤◌, List, Some, refl, sym, ap, ◌∙◌, subst, arith, ⊎_elim}
use Rattle.ec_machine_code.specs.Frames.{block_at, first_saved}
use Rattle.ec_machine_code.specs.Machine.{MachineMeaning}
use Rattle.ec_world.specs.declared.key.Key.TheVariants.{Frame, Object}
use Rattle.ec_generate.specs.Addresses.{address_in}
use Rattle.ec_stores.specs.Changes.{FirstBlock, WordIs, WritesWord}
use Rattle.ec_target.specs.Runs.{Going, SetsPlace, SetsRegister, Standing}
use Rattle.ec_things.proofs.Put.{same_or_not}
use Rattle.ec_things.specs.Store.{Store}
use Rattle.ec_world.specs.declared.node.Kind.{Kind}
use Rattle.ec_legs.specs.Kinds.{AreHomeRegisters, Means}
use Rattle.ec_legs.specs.Machines.{IsSetUp, IsUnsaved, IsUntouched, Restores, RestsWhere, Saves, pending_word, stop_word}
use Rattle.ec_legs.specs.Words.{IsFrame, KeepsWords}
use Rattle.ec_stores.specs.Node.{KeepsBytes, NodeData, row_of}
use Rattle.ec_legs.proofs.Keeping.{bytes_fewer, bytes_on}
use Rattle.ec_legs.proofs.Keeping.{frame_kept, frame_written, keeps_fewer, keeps_none, keeps_on, keeps_written, one_block, one_word}
use Rattle.ec_legs.proofs.Keeping.{word_kept}

module _ {S : Type 0} (M : MachineMeaning S) (kind : Kind) (goes : List ℕ → Going S) (stops : List ℕ → Standing S) (register : S → ℕ → ℕ)
    (place : S → ℕ) (rests : S → Type 0) (beside : S → List ℕ) {F : Type 0} (flow : S → F)
    (means : Means M kind goes stops register place rests) (registers frame own first homes : ℕ)
    (are : AreHomeRegisters M registers frame own first homes) where
  -- ---- one register is set

  now_holds : (old new : S) (r v : ℕ) → SetsRegister register place rests beside flow old new r v → 0 < r → M.register new r ≡ v
  now_holds old new r v sets l = means.register_is new r ∙ sets.set l

  still_holds : (old new : S) (r v q : ℕ) → SetsRegister register place rests beside flow old new r v → q ≢ r →
      M.register new q ≡ M.register old q
  still_holds old new r v q sets ne = means.register_is new q ∙ sets.others q ne ∙ sym (means.register_is old q)

  home_is : (k : ℕ) → M.first_home + k ≡ first + k
  home_is k = ap (λ n. n + k) are.first_is

  -- ---- homes are restored

  pub restores_none : (s : Store) (process depth : ℕ) (m : S) → Restores M s process depth 0 m m
  restores_none s process depth m = record { homes = λ k w l h. absurd (omega arith); others = λ r h. refl }

  pub restores_more : (s : Store) (process depth k v : ℕ) (old now next : S) → Restores M s process depth k old now → k < homes →
      WordIs s (Frame process depth) (first_saved + k) v → SetsRegister register place rests beside flow now next (first + k) v →
      Restores M s process depth (k + 1) old next
  restores_more s process depth k v old now next before l is sets = record {
    homes = λ j w h word. ⊎_elim
        (λ (same : j ≡ k).
        let here : M.first_home + j ≡ first + k = (let base = are.first_is in omega arith) in
        let positive = are.not_zero in
        ap (M.register next) here ∙ now_holds now next (first + k) v sets (omega arith)
        ∙ one_word s (Frame process depth) (first_saved + k) v w is
        (subst (λ i. WordIs s (Frame process depth) (first_saved + i) w) same word))
        (λ (ne : j ≢ k).
        let base = are.first_is in
        still_holds now next (first + k) v (M.first_home + j) sets (omega arith) ∙ before.homes j w (omega arith) word)
        (same_or_not j k);
    others = λ r out.
        let base = are.first_is in
        let here = out k (omega arith) in
        still_holds now next (first + k) v r sets (λ same. here (omega arith)) ∙ before.others r (λ j h. out j (omega arith));
  }

  -- ---- a machine is set up

  frame_out : (k : ℕ) → k < M.homes → M.frame_base ≢ M.first_home + k
  frame_out k l same =
      let all = are.homes_are in
      are.not_frame k (omega arith) (sym (home_is k) ∙ sym same ∙ are.frame_is)

  own_out : (k : ℕ) → k < M.homes → M.own_base ≢ M.first_home + k
  own_out k l same =
      let all = are.homes_are in
      are.not_own k (omega arith) (sym (home_is k) ∙ sym same ∙ are.own_is)

  module _ (s : Store) (process depth self to fb ob at_frame at_own : ℕ) (m0 m1 m2 m3 m4 : S)
      (sets_frame : SetsRegister register place rests beside flow m0 m1 frame at_frame)
      (sets_own : SetsRegister register place rests beside flow m1 m2 own at_own) (restores : Restores M s process depth homes m2 m3)
      (sets_place : SetsPlace register place rests beside m3 m4 to) (frame_block : FirstBlock s (Frame process depth) fb)
      (own_block : FirstBlock s (Object self) ob) (frame_at : at_frame ≡ block_at fb) (own_at : at_own ≡ block_at ob)
      (frame_positive : 0 < frame) (own_positive : 0 < own) (two : frame ≢ own) where
    -- the place alone has changed
    placed : (q : ℕ) → M.register m4 q ≡ M.register m3 q
    placed q = means.register_is m4 q ∙ sets_place.registers q ∙ sym (means.register_is m3 q)

    below_homes : (k : ℕ) → k < homes → k < M.homes
    below_homes k l = let all = are.homes_are in omega arith

    pub is_set_up : IsSetUp M s process depth self to m4
    is_set_up = record {
      rests = means.rests_so m4 sets_place.now_rests;
      at = means.place_is m4 ∙ sets_place.at;
      frame = λ b first_is.
          placed M.frame_base
          ∙ restores.others M.frame_base (λ k l. frame_out k (below_homes k l))
          ∙ ap (M.register m2) are.frame_is
          ∙ still_holds m1 m2 own at_own frame sets_own two
          ∙ now_holds m0 m1 frame at_frame sets_frame frame_positive
          ∙ frame_at
          ∙ ap block_at (one_block s (Frame process depth) fb b frame_block first_is);
      object = λ b first_is.
          placed M.own_base
          ∙ restores.others M.own_base (λ k l. own_out k (below_homes k l))
          ∙ ap (M.register m2) are.own_is
          ∙ now_holds m1 m2 own at_own sets_own own_positive
          ∙ own_at
          ∙ ap block_at (one_block s (Object self) ob b own_block first_is);
      homes = λ k w l word.
          placed (M.first_home + k) ∙ restores.homes k w (let all = are.homes_are in omega arith) word;
    }

-- ---- bytes when homes are saved, and when an activation rests

-- one home more
pub bytes_saved : (n m n' : NodeData) (process depth k : ℕ) → row_of m (Frame process depth) ≡ row_of n (Frame process depth) →
    KeepsBytes n m (Frame process depth) (IsUnsaved k) → KeepsBytes m n' (Frame process depth) (λ j. j ≢ first_saved + k) →
    KeepsBytes n n' (Frame process depth) (IsUnsaved (k + 1))
bytes_saved n m n' process depth k rows before keeps =
    bytes_on n m n' (Frame process depth) (IsUnsaved (k + 1)) rows
    (bytes_fewer n m (Frame process depth) (IsUnsaved k) (IsUnsaved (k + 1)) before (λ j out i h. out i (omega arith)))
    (bytes_fewer m n' (Frame process depth) (λ j. j ≢ first_saved + k) (IsUnsaved (k + 1)) keeps (λ j out. out k (omega arith)))

-- the homes, the stop, and that it is pending
pub bytes_resting : (n n1 n2 n3 : NodeData) (process depth homes : ℕ) →
    row_of n1 (Frame process depth) ≡ row_of n (Frame process depth) → row_of n2 (Frame process depth) ≡ row_of n1 (Frame process depth) →
    KeepsBytes n n1 (Frame process depth) (IsUnsaved homes) → KeepsBytes n1 n2 (Frame process depth) (λ j. j ≢ stop_word) →
    KeepsBytes n2 n3 (Frame process depth) (λ j. j ≢ pending_word) → KeepsBytes n n3 (Frame process depth) (IsUntouched homes)
bytes_resting n n1 n2 n3 process depth homes rows1 rows2 saves names pends =
    bytes_on n n2 n3 (Frame process depth) (IsUntouched homes) (rows2 ∙ rows1)
    (bytes_on n n1 n2 (Frame process depth) (IsUntouched homes) rows1
    (bytes_fewer n n1 (Frame process depth) (IsUnsaved homes) (IsUntouched homes) saves (λ j h. h.2))
    (bytes_fewer n1 n2 (Frame process depth) (λ j. j ≢ stop_word) (IsUntouched homes) names (λ j h. h.0)))
    (bytes_fewer n2 n3 (Frame process depth) (λ j. j ≢ pending_word) (IsUntouched homes) pends (λ j h. h.1))

-- ---- homes are saved

module _ {S : Type 0} (M : MachineMeaning S) (s : Store) (process depth : ℕ) (frame : IsFrame s process depth) (m : S) where
  pub saves_none : Saves M s s process depth 0 m
  saves_none = record {
    saved = λ k l. absurd (omega arith);
    keeps = keeps_none s (Frame process depth) (IsUnsaved 0);
  }

  pub saves_more : (now next : Store) (k v : ℕ) → Saves M s now process depth k m → k < 20 → v ≡ M.register m (M.first_home + k) →
      WritesWord now next (Frame process depth) (first_saved + k) v → Saves M s next process depth (k + 1) m
  saves_more now next k v before l is writes =
      let there : IsFrame now process depth =
      frame_kept s now process depth (Frame process depth) (IsUnsaved k) before.keeps frame in
      record {
        saved = λ j h. ⊎_elim
            (λ (same : j ≡ k).
            subst (λ i. WordIs next (Frame process depth) (first_saved + i) (M.register m (M.first_home + i))) (sym same)
            (subst (λ w. WordIs next (Frame process depth) (first_saved + k) w) is writes.here))
            (λ (ne : j ≢ k).
            word_kept now process depth there next (λ i. i ≢ first_saved + k) (first_saved + j) (M.register m (M.first_home + j))
            (keeps_written now next (Frame process depth) (first_saved + k) v (λ i. i ≢ first_saved + k) writes (λ i h. h))
            (λ same. ne (omega arith)) (omega arith) (before.saved j (omega arith)))
            (same_or_not j k);
        keeps = keeps_on s now next (Frame process depth) (IsUnsaved (k + 1))
            (keeps_fewer s now (Frame process depth) (IsUnsaved k) (IsUnsaved (k + 1)) before.keeps (λ j out i h. out i (omega arith)))
            (keeps_written now next (Frame process depth) (first_saved + k) v (IsUnsaved (k + 1)) writes (λ j out. out k (omega arith)));
      }

  -- ---- an activation rests

  module _ (n operation number : ℕ) (s1 s2 s3 : Store) (all : M.homes ≡ n) (few : n ≤ 20) (saves : Saves M s s1 process depth n m)
      (names : WritesWord s1 s2 (Frame process depth) stop_word number) (pends : WritesWord s2 s3 (Frame process depth) pending_word 1)
    where
      frame1 : IsFrame s1 process depth
      frame1 = frame_kept s s1 process depth (Frame process depth) (IsUnsaved n) saves.keeps frame

      frame2 : IsFrame s2 process depth
      frame2 = frame_written s1 s2 process depth (Frame process depth) stop_word number names frame1

      name_kept : KeepsWords s1 s2 (Frame process depth) (λ i. i ≢ stop_word)
      name_kept = keeps_written s1 s2 (Frame process depth) stop_word number (λ i. i ≢ stop_word) names (λ i h. h)

      pending_kept : KeepsWords s2 s3 (Frame process depth) (λ i. i ≢ pending_word)
      pending_kept = keeps_written s2 s3 (Frame process depth) pending_word 1 (λ i. i ≢ pending_word) pends (λ i h. h)

      pub rests_where : (addresses : List (List ℕ)) → address_in addresses operation number ≡ Some (M.place m) →
          RestsWhere M addresses s s3 process depth m
      rests_where addresses there = record {
        operation = operation;
        number = number;
        is_there = there;
        stop = word_kept s2 process depth frame2 s3 (λ i. i ≢ pending_word) stop_word number pending_kept (omega arith) (omega arith)
            names.here;
        pending = pends.here;
        saved = λ k l.
            word_kept s2 process depth frame2 s3 (λ i. i ≢ pending_word) (first_saved + k) (M.register m (M.first_home + k)) pending_kept
            (omega arith) (omega arith)
            (word_kept s1 process depth frame1 s2 (λ i. i ≢ stop_word) (first_saved + k) (M.register m (M.first_home + k)) name_kept
            (omega arith) (omega arith) (saves.saved k (omega arith)));
        keeps = keeps_on s s2 s3 (Frame process depth) (IsUntouched M.homes)
            (keeps_on s s1 s2 (Frame process depth) (IsUntouched M.homes)
            (keeps_fewer s s1 (Frame process depth) (IsUnsaved n) (IsUntouched M.homes) saves.keeps
            (λ j h k l. h.2 k (omega arith)))
            (keeps_fewer s1 s2 (Frame process depth) (λ i. i ≢ stop_word) (IsUntouched M.homes) name_kept (λ j h. h.0)))
            (keeps_fewer s2 s3 (Frame process depth) (λ i. i ≢ pending_word) (IsUntouched M.homes) pending_kept (λ j h. h.1));
      }
