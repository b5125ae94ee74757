-- What a stop asks for where it moves a group.
use Rattle.std.proofs.Common.{◌≡◌, ◌≢◌, ◌∙◌, ◌⊎◌, ◌∷◌, ℕ, Bool, true, false, [], List, Option, Some, None, ⊎_elim, inl, inr}
use Rattle.std.proofs.Common.{ap, arith, refl, subst, sym}
use Rattle.std.proofs.lemmas.Bool.{true≢false}
use Rattle.std.proofs.lemmas.Grind.{common_steps}
use Rattle.std.specs.Prelude.{◌==◌, ◌||◌, if◌then◌else◌}
use Rattle.ec_moving.specs.Placed.{IsFixed, MayGo}
use Rattle.ec_moving.specs.Placed.MayGo.{ByMove, ByFix, ByRefix}
use Rattle.ec_world.proofs.Keys.{same_or_not}
use Rattle.ec_world.proofs.Members.{has_first, has_later, has_none, has_parts}
use Rattle.ec_world.specs.declared.class.ClassNo.TheVariants.{Node}
use Rattle.ec_world.specs.declared.common.Common.{Common}
use Rattle.ec_world.specs.declared.doing.Doing.TheVariants.{Moves, Unfixes}
use Rattle.ec_world.specs.declared.stop.Stop.{Stop}
use Rattle.ec_world.specs.declared.stop.Stop.TheVariants as stop
use Rattle.ec_world.specs.declared.stop.Who.{Who}
use Rattle.ec_world.specs.declared.value.Value.{Value}
use Rattle.ec_world.specs.declared.value.Value.TheVariants.{Ref}
use Rattle.ec_world.specs.declared.process.Cause.TheVariants as cause
use Rattle.ec_world.specs.Doings.{any_fixed, breaks, doing_of, is_node, passes, without}
use Rattle.ec_world.specs.Group.{Has, group_of}
use Rattle.ec_world.specs.Objects.{object_at}
use Rattle.ec_world.specs.Sights.{Sight, class_of, sight_of}

-- ---- what the table has

-- the three stops that move
pub which : (s : Sight) (who : Who) (it : Stop) (vs : List Value) (members : List ℕ) (target : ℕ) (fixes : Option ℕ) →
    doing_of s who it vs ≡ Some (Moves members target fixes) →
    ((line : ℕ) × (it ≡ stop.Move line)) ⊎ ((line : ℕ) × (it ≡ stop.Fix line)) ⊎ ((line : ℕ) × (it ≡ stop.Refix line))
which s who it vs members target fixes e = grind arith

pub operands_of : (s : Sight) (who : Who) (it : Stop) (vs : List Value) (members : List ℕ) (target : ℕ) (fixes : Option ℕ) →
    doing_of s who it vs ≡ Some (Moves members target fixes) → (x : ℕ) × (vs ≡ Ref x ∷ Ref target ∷ [])
operands_of s who it vs members target fixes e = grind arith

pub group_is : (s : Sight) (who : Who) (it : Stop) (vs : List Value) (members : List ℕ) (target x : ℕ) (fixes : Option ℕ) →
    doing_of s who it vs ≡ Some (Moves members target fixes) → vs ≡ Ref x ∷ Ref target ∷ [] → members ≡ s.group x
group_is s who it vs members target x fixes e f = grind arith

-- what is unfixed is no node
pub unfixed : (s : Sight) (who : Who) (it : Stop) (vs : List Value) (x : ℕ) → doing_of s who it vs ≡ Some (Unfixes x) →
    is_node (s.class x) ≡ false
unfixed s who it vs x e = grind arith

loose_move : (s : Sight) (who : Who) (line : ℕ) (vs : List Value) (members : List ℕ) (target x : ℕ) (fixes : Option ℕ) →
    doing_of s who (stop.Move line) vs ≡ Some (Moves members target fixes) → vs ≡ Ref x ∷ Ref target ∷ [] →
    any_fixed s (s.group x) ≡ false
loose_move s who line vs members target x fixes e f = grind arith

loose_fix : (s : Sight) (who : Who) (line : ℕ) (vs : List Value) (members : List ℕ) (target x : ℕ) (fixes : Option ℕ) →
    doing_of s who (stop.Fix line) vs ≡ Some (Moves members target fixes) → vs ≡ Ref x ∷ Ref target ∷ [] →
    any_fixed s (s.group x) ≡ false
loose_fix s who line vs members target x fixes e f = grind arith

loose_refix : (s : Sight) (who : Who) (line : ℕ) (vs : List Value) (members : List ℕ) (target x : ℕ) (fixes : Option ℕ) →
    doing_of s who (stop.Refix line) vs ≡ Some (Moves members target fixes) → vs ≡ Ref x ∷ Ref target ∷ [] →
    (is_node (s.class x) ≡ false) × (any_fixed s (without x (s.group x)) ≡ false)
loose_refix s who line vs members target x fixes e f = grind arith

-- ---- members that aren't fixed

pub or_left : (a b : Bool) → (a || b) ≡ false → a ≡ false
or_left true b e = absurd cc
or_left false b e = refl

pub or_right : (a b : Bool) → (a || b) ≡ false → b ≡ false
or_right true b e = absurd cc
or_right false b e = e

none_fixed : (s : Sight) (ms : List ℕ) (y : ℕ) → any_fixed s ms ≡ false → Has ms y → s.fixed y ≡ false
none_fixed s [] y e h = absurd (has_none y h)
none_fixed s (m ∷ ms) y e h = ⊎_elim
    (λ (same : y ≡ m). subst (λ z. s.fixed z ≡ false) (sym same) (or_left (s.fixed m) (any_fixed s ms) e))
    (λ (later : Has ms y). none_fixed s ms y (or_right (s.fixed m) (any_fixed s ms) e) later)
    (has_parts m y ms h)

is_same : (x y : ℕ) → (x == y) ≡ true → x ≡ y
is_same x y e = grind (arith, common_steps)

-- the rest of a list but for x, with one more in front, unless this is x
stays_in : (x m : ℕ) (ms : List ℕ) (y : ℕ) (b : Bool) → (x == m) ≡ b → y ≢ x → (y ≡ m) ⊎ Has (without x ms) y →
    Has (if b then without x ms else (m ∷ without x ms)) y
stays_in x m ms y true e ne h = ⊎_elim
    (λ (same : y ≡ m). absurd (ne (same ∙ sym (is_same x m e))))
    (λ (later : Has (without x ms) y). later)
    h
stays_in x m ms y false e ne h = ⊎_elim
    (λ (same : y ≡ m). rw same (has_first m (without x ms)))
    (λ (later : Has (without x ms) y). has_later m y (without x ms) later)
    h

others_stay : (x : ℕ) (ms : List ℕ) (y : ℕ) → Has ms y → y ≢ x → Has (without x ms) y
others_stay x [] y h ne = absurd (has_none y h)
others_stay x (m ∷ ms) y h ne = stays_in x m ms y (x == m) refl ne (⊎_elim
    (λ (same : y ≡ m). inl same)
    (λ (later : Has ms y). inr (others_stay x ms y later ne))
    (has_parts m y ms h))

-- ---- groups that may go

module _ (c : Common) (x : ℕ) where
  pub may_go : (who : Who) (it : Stop) (vs : List Value) (members : List ℕ) (target : ℕ) (fixes : Option ℕ) →
      doing_of (sight_of c) who it vs ≡ Some (Moves members target fixes) → vs ≡ Ref x ∷ Ref target ∷ [] → MayGo c x it
  may_go who it vs members target fixes e f = ⊎_elim
      (λ (h : (line : ℕ) × (it ≡ stop.Move line)).
      subst (λ t. MayGo c x t) (sym h.1)
      (ByMove h.0 (loose_move (sight_of c) who h.0 vs members target x fixes (now (stop.Move h.0) h.1) f)))
      (λ (h : ((line : ℕ) × (it ≡ stop.Fix line)) ⊎ ((line : ℕ) × (it ≡ stop.Refix line))). ⊎_elim
      (λ (h : (line : ℕ) × (it ≡ stop.Fix line)).
      subst (λ t. MayGo c x t) (sym h.1)
      (ByFix h.0 (loose_fix (sight_of c) who h.0 vs members target x fixes (now (stop.Fix h.0) h.1) f)))
      (λ (h : (line : ℕ) × (it ≡ stop.Refix line)).
      let loose = loose_refix (sight_of c) who h.0 vs members target x fixes (now (stop.Refix h.0) h.1) f in
      subst (λ t. MayGo c x t) (sym h.1) (ByRefix h.0 loose.0 loose.1))
      h)
      (which (sight_of c) who it vs members target fixes e)
    where
      now : (t : Stop) → it ≡ t → doing_of (sight_of c) who t vs ≡ Some (Moves members target fixes)
      now t is = subst (λ u. doing_of (sight_of c) who u vs ≡ Some (Moves members target fixes)) is e

  -- and then goes
  pub goes : (who : Who) (target : ℕ) {it : Stop} → MayGo c x it →
      (fixes : Option ℕ) × (doing_of (sight_of c) who it (Ref x ∷ Ref target ∷ []) ≡ Some (Moves (group_of c x) target fixes))
  goes who target (ByMove line loose) = (None, ap (λ b. if b then passes else Some (Moves (group_of c x) target None)) loose)
  goes who target (ByFix line loose) =
      (Some x, ap (λ b. if b then breaks cause.GroupFixed line else Some (Moves (group_of c x) target (Some x))) loose)
  goes who target (ByRefix line other loose) = (
    Some x,
    ap
        (λ b.
        if b then breaks cause.NodeFixed line
        else if any_fixed (sight_of c) (without x (group_of c x)) then breaks cause.GroupFixed line
        else Some (Moves (group_of c x) target (Some x))) other
        ∙ ap (λ b. if b then breaks cause.GroupFixed line else Some (Moves (group_of c x) target (Some x))) loose,
  )

  -- a fixed member is the object itself, which is refixed
  pub fixed_itself : (y : ℕ) {it : Stop} → MayGo c x it → Has (group_of c x) y → IsFixed c y →
      (y ≡ x) × ((line : ℕ) × (it ≡ stop.Refix line))
  fixed_itself y (ByMove line loose) h f = absurd (true≢false (sym f ∙ none_fixed (sight_of c) (group_of c x) y loose h))
  fixed_itself y (ByFix line loose) h f = absurd (true≢false (sym f ∙ none_fixed (sight_of c) (group_of c x) y loose h))
  fixed_itself y (ByRefix line other loose) h f = ⊎_elim
      (λ (e : y ≡ x). (e, (line, refl)))
      (λ (ne : y ≢ x).
      absurd (true≢false (sym f ∙ none_fixed (sight_of c) (without x (group_of c x)) y loose (others_stay x (group_of c x) y h ne))))
      (same_or_not y x)

  -- which is no node
  itself_no_node : {it : Stop} → MayGo c x it → IsFixed c x → Has (group_of c x) x → class_of (object_at c.objects x) ≡ Some Node → ⊥
  itself_no_node (ByMove line loose) f h e = true≢false (sym f ∙ none_fixed (sight_of c) (group_of c x) x loose h)
  itself_no_node (ByFix line loose) f h e = true≢false (sym f ∙ none_fixed (sight_of c) (group_of c x) x loose h)
  itself_no_node (ByRefix line other loose) f h e = true≢false (sym (ap is_node e) ∙ other)

  pub no_node_goes : (y : ℕ) {it : Stop} → MayGo c x it → Has (group_of c x) y → IsFixed c y →
      class_of (object_at c.objects y) ≡ Some Node → ⊥
  no_node_goes y may h f e =
      let same : y ≡ x = (fixed_itself y may h f).0 in
      itself_no_node may (subst (λ z. IsFixed c z) same f) (subst (λ z. Has (group_of c x) z) same h)
      (subst (λ z. class_of (object_at c.objects z) ≡ Some Node) same e)
