-- Items that rest at a stop, loops, and their code.
use Rattle.std.proofs.Common.{◌≡◌, ℕ, suc, ◌-◌, List, [], ◌∷◌, ◌++◌, length, Option, Some, None, true, false, refl, sym, ap, ◌∙◌, subst}
use Rattle.std.proofs.Common.{append_assoc, append-nil}
use Rattle.std.specs.Prelude.{slice_get}
use Rattle.ec_base.proofs.Stacks.{stack_parts}
use Rattle.ec_base.specs.Stack.{below_of}
use Rattle.ec_code.specs.Steps as code_steps
use Rattle.ec_code.specs.Steps.{Machine, and_others, variables_at}
use Rattle.ec_code.specs.declared.code.Op.TheVariants as op
use Rattle.ec_code.specs.declared.code.StopRow.{StopRow}
use Rattle.ec_types.specs.declared.conform.static_type.StaticType.{StaticType}
use Rattle.ec_core.specs.declared.Block.{Block}
use Rattle.ec_meaning.specs.Steps.{Rests, NoCase, block_items, holding, rest_at, returned, step}
use Rattle.ec_meaning.specs.declared.item.Item.{Item}
use Rattle.ec_meaning.specs.declared.item.Item.TheVariants as i
use Rattle.ec_meaning.specs.declared.state.State.{State}
use Rattle.ec_emission.proofs.Holding.{Above, Has, HoldsAll, parted, rest_takes}
use Rattle.ec_emission.proofs.Meeting.{Behind, Fits, IsAt, Matched, Meets, Routine, StandsIn, by_op, fits_holding, goes_on, is_last, itself}
use Rattle.ec_emission.proofs.Meeting.{settled, silent, stops, stuck, walked}
use Rattle.ec_emission.proofs.Values.{ComesTo}
use Rattle.ec_emission.specs.Rows.{bare_row, own_row, rest_row, return_row, temporaries}
use Rattle.ec_emission.specs.Stands.{Hold, IsLast, Own, all_kept, one_more}
use Rattle.ec_world.specs.declared.stop.Stop.{Stop}
use Rattle.ec_world.specs.declared.stop.Stop.TheVariants as stop
use Rattle.ec_world.specs.declared.value.Value.{Value}
use Rattle.ec_world.specs.declared.value.Value.TheVariants as value

module _ (r : Routine) (own : ℕ) where
  -- ---- stops that take nothing

  bare : (hs : List Hold) (q : ℕ) (x : Item) (action : Stop) (more xs : List Item) → ComesTo r own x (λ st. Rests action [] st more) →
      IsAt r q (op.Rest (bare_row action)) → Behind r action None hs q (more ++ xs) → Meets r own hs q (x ∷ xs)
  bare hs q x action more xs e is b st m f =
      silent r own st x xs (walked r own q m) (Rests action [] st more) (e st)
      (stops r own hs q (bare_row action) [] (more ++ xs) None st m is refl refl (λ invokes. refl) f b)

  pub waits : (hs : List Hold) (q : ℕ) (x : Item) (action : Stop) (xs : List Item) → ComesTo r own x (λ st. Rests action [] st []) →
      IsAt r q (op.Rest (bare_row action)) → StandsIn r hs (suc q) xs → Meets r own hs q (x ∷ xs)
  waits hs q x action xs e is d = bare hs q x action [] xs e is (goes_on d)

  pub leaves : (hs : List Hold) (q : ℕ) (x : Item) (action : Stop) (xs : List Item) → IsLast action →
      ComesTo r own x (λ st. Rests action [] st []) → IsAt r q (op.Rest (bare_row action)) → Meets r own hs q (x ∷ xs)
  leaves hs q x action xs l e is = bare hs q x action [] xs e is (is_last l)

  none_taken : (st : State) → rest_at stop.End 0 st ≡ Rests stop.End [] st []
  none_taken st = rest_takes stop.End st st.held [] 0 (sym (append-nil st.held)) refl

  pub is_over : (hs : List Hold) (q : ℕ) (xs : List Item) → IsAt r q (op.Rest (bare_row stop.End)) →
      Meets r own hs q (i.Rest stop.End 0 ∷ xs)
  is_over hs q xs is = bare hs q (i.Rest stop.End 0) stop.End [] xs none_taken is (is_last tt)

  -- ---- stops that take values

  pub rests : (hs : List Hold) (q takes : ℕ) (action : Stop) (xs : List Item) (gives : Option StaticType) →
      IsAt r q (op.Rest (rest_row action (length hs) takes gives)) → StandsIn r (one_more gives hs) (suc q) xs →
      Meets r own (all_kept takes hs) q (i.Rest action takes ∷ xs)
  rests hs q takes action xs gives is d st m f =
      let p = parted own m takes hs st.held f.held in
      silent r own st (i.Rest action takes) xs (walked r own q m) (Rests action p.last (holding st p.base) [])
      (rest_takes action st p.base p.last takes p.is p.many)
      (stops r own hs q (rest_row action (length hs) takes gives) p.last xs gives (holding st p.base) m is
      (ap (code_steps.rests (rest_row action (length hs) takes gives) own) p.read) refl (λ invokes. p.read)
      (fits_holding r own (all_kept takes hs) st m hs p.base p.holds f) (goes_on d))

  pub calls_own : (hs : List Hold) (q takes : ℕ) (action : Stop) (xs : List Item) (gives : Option StaticType) →
      IsAt r q (op.Rest (own_row action (length hs) (suc takes) gives)) → StandsIn r (one_more gives hs) (suc q) xs →
      Meets r own (all_kept takes (Own ∷ hs)) q (i.Rest action (suc takes) ∷ xs)
  calls_own hs q takes action xs gives is d st m f =
      let p = parted own m takes (Own ∷ hs) st.held f.held in
      let o : Above (Has own m.variables m.temporaries (length hs) Own) (HoldsAll own m.variables m.temporaries hs) p.base = p.holds in
      let base : List Value = below_of p.base in
      let last : List Value = value.Ref own ∷ p.last in
      let row : StopRow = own_row action (length hs) (suc takes) gives in
      let e : st.held ≡ base ++ last =
      p.is ∙ ap (λ l. l ++ p.last) (stack_parts p.base o.value o.is ∙ ap (λ v. base ++ v ∷ []) o.here.1)
      ∙ append_assoc base (value.Ref own ∷ []) p.last in
      let read : variables_at m (temporaries (length hs) (suc takes)) ≡ Some last =
      ap (λ v. and_others v (variables_at m (temporaries (suc (length hs)) takes))) o.here.0
      ∙ ap (λ vs. and_others (Some o.value) vs) p.read ∙ ap (λ v. Some (v ∷ p.last)) o.here.1 in
      silent r own st (i.Rest action (suc takes)) xs (walked r own q m) (Rests action last (holding st base) [])
      (rest_takes action st base last (suc takes) e (ap suc p.many))
      (stops r own hs q row last xs gives (holding st base) m is (ap (code_steps.rests row own) read) refl (λ invokes. read)
      (fits_holding r own (all_kept takes (Own ∷ hs)) st m hs base o.below f) (goes_on d))

  -- a named variable, where it is there
  back_if : (hs : List Hold) (q k : ℕ) (x : Item) (xs : List Item) (st : State) (m : Machine) (v : Option Value) →
      step r.source (itself r own) st x ≡ returned st true v → slice_get m.variables k ≡ v → IsAt r q (op.Rest (return_row k)) →
      Fits r own hs st m → Matched r own (settled r own st (x ∷ xs)) (walked r own q m)
  back_if hs q k x xs st m None e g is f =
      silent r own st x xs (walked r own q m) NoCase e
      (by_op r own (st.common, None) q m (op.Rest (return_row k)) code_steps.NoCase is
      (ap (λ o. code_steps.rests (return_row k) own (and_others o (Some []))) g) (stuck r own st m hs f))
  back_if hs q k x xs st m (Some v) e g is f =
      silent r own st x xs (walked r own q m) (Rests (stop.Return false) (v ∷ []) st []) e
      (stops r own hs q (return_row k) (v ∷ []) xs None st m is
      (ap (λ o. code_steps.rests (return_row k) own (and_others o (Some []))) g) refl (λ invokes. absurd invokes) f (is_last tt))

  pub gives_back : (hs : List Hold) (q k : ℕ) (x : Item) (xs : List Item) →
      ComesTo r own x (λ st. returned st true (slice_get st.variables k)) → IsAt r q (op.Rest (return_row k)) → Meets r own hs q (x ∷ xs)
  gives_back hs q k x xs e is st m f =
      back_if hs q k x xs st m (slice_get st.variables k) (e st) (ap (λ vs. slice_get vs k) (sym f.variables)) is f

  -- ---- loops

  pub enters : (q : ℕ) (b : Block) (xs : List Item) → IsAt r q (op.Rest (bare_row stop.LoopTop)) →
      StandsIn r [] (suc q) (block_items b ++ i.Again b ∷ xs) → Meets r own [] q (i.Again b ∷ xs)
  enters q b xs is d =
      bare [] q (i.Again b) stop.LoopTop (block_items b ++ i.Again b ∷ []) xs (λ st. refl) is
      (goes_on (subst (StandsIn r [] (suc q)) (sym (append_assoc (block_items b) (i.Again b ∷ []) xs)) d))

  pub again : (q : ℕ) (b : Block) (xs : List Item) (back : ℕ) → IsAt r q (op.Again back) → r.Loop (q - back) q b →
      StandsIn r [] (suc q) xs → Meets r own [] q (i.Again b ∷ xs)
  again q b xs back is l d st m f =
      silent r own st (i.Again b) xs (walked r own q m) (Rests stop.LoopTop [] st (block_items b ++ i.Again b ∷ [])) refl
      (by_op r own _ q m (op.Again back) (code_steps.Loops back) is refl
      (record {
        common = f.common;
        owns = f.owns;
        stops = record {
          action = refl;
          operands = refl;
          reads = λ invokes row at. absurd invokes;
          variables = f.variables;
          many = f.many;
          holds = [];
          held = f.held;
          gives = None;
          into = refl;
          behind = goes_on (subst (StandsIn r [] (suc (q - back))) (sym (append_assoc (block_items b) (i.Again b ∷ []) xs))
              (r.loops_stand (q - back) q b xs l d));
        };
      }))
