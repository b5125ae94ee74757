-- A text that is new is kept.
use Rattle.std.proofs.Common.{◌≡◌, ◌≢◌, ◌-◌, ◌≤◌, ◌++◌, [], ◌∷◌, List, ℕ, Some, length, sym, subst}
use Rattle.std.specs.Prelude.{Err, Ok, OnOk, Result, slice_get}
use Rattle.ec_objects.proofs.Noting.{notes_one}
use Rattle.ec_objects.proofs.texts.note.Goals as goal
use Rattle.ec_objects.specs.Texts.{Notes}
use Rattle.ec_stores.specs.Node.{store_of}
use Rattle.ec_stores.specs.Tables.{TextPool}
use Rattle.ec_things.specs.Store.{Store}
use Rattle.ec_things.specs.Texts.{InPool}
use Rattle.ec_world.specs.declared.value.Value.{Value}
use Rattle.ec_world.specs.declared.value.Value.TheVariants.{Str}

kept : {X E : Type 0} (s : Store) (seen new : TextPool) (t : List ℕ) (r : Result X E) → (InPool s t → ⊥) →
    ((i : ℕ) → slice_get seen.texts i ≢ Some t) → OnOk r (length t ≤ seen.free) →
    OnOk r (new ≡ record { texts = seen.texts ++ t ∷ []; room = seen.room; free = seen.free - length t }) →
    OnOk r (Notes s seen new (Str t))
kept s seen new t (Ok x) absent none room is = notes_one s seen new t absent none room is
kept s seen new t (Err e) absent none room is = tt

pub returns-in-None : goal.returns-in-None
returns-in-None c =
    let absent : InPool (store_of c.args.node.now) c.in-Str.text → ⊥ =
    λ p. (let t = c.has_text.ensures.1 p in let f = c.if-has_text.false in cc) in
    let none = subst (λ (t : List ℕ). (i : ℕ) → slice_get c.args.seen.now.texts i ≢ Some t) c.as_slice.ensures c.in-None.ensures.none in
    subst (λ (v : Value). OnOk c.keep.result (Notes (store_of c.args.node.now) c.args.seen.now c.keep.new.seen v)) (sym c.in-Str.is)
    (kept (store_of c.args.node.now) c.args.seen.now c.keep.new.seen c.in-Str.text c.keep.result absent none c.keep.ensures.room
    c.keep.ensures.kept)
