use Rattle.std.proofs.Common.{◌≡◌, ◌≢◌, ◌≤◌, List, ℕ, Some, length, sym, subst}
use Rattle.std.specs.Prelude.{slice_get}
use Rattle.ec_things.specs.Texts.{InPool}
use Rattle.ec_stores.specs.Changes.{Interns}
use Rattle.ec_stores.specs.Inside.{data_of}
use Rattle.ec_stores.specs.Node.{Laid, NodeData, store_of}
use Rattle.ec_stores.specs.Tables.{TextPool}
use Rattle.ec_stores.proofs.Naming.{found_interns, laid_text, made_interns}
use Rattle.ec_stores.proofs.node.NodeStore.intern.Goals as goal

pub returns-in-Some : goal.returns-in-Some
returns-in-Some c =
    let node = data_of c.self.inside in
    let is = subst (λ (t : List ℕ). slice_get node.pool.texts c.in-Some.place ≡ Some t) c.as_slice.ensures c.in-Some.ensures.some in
    subst (λ (n : NodeData). Interns (store_of n) (store_of n) c.args.text c.in-Some.place) c.self.view_is
    (found_interns node c.args.text c.in-Some.place c.self.invariant is)

pub invariant_of-self : goal.invariant_of-self
invariant_of-self c =
    let node = data_of c.self.inside in
    subst (λ (p : TextPool). Laid (record node { pool = p })) (sym c.in_err-place-in-None.ensures.err) c.self.invariant

pub invariant_of-self-in-None : goal.invariant_of-self-in-None
invariant_of-self-in-None c =
    let node = data_of c.self.inside in
    let absent = subst (λ (t : List ℕ). (i : ℕ) → slice_get node.pool.texts i ≢ Some t) c.as_slice.ensures c.in-None.ensures.none in
    let room = subst (λ (n : NodeData). (InPool (store_of n) c.args.text → ⊥) → length c.args.text ≤ (store_of n).text_free)
    (sym c.self.view_is) c.requires.room in
    laid_text node c.args.text c.add.new.self c.self.invariant absent c.in_ok-place-in-None.ensures.added (room (λ h. absent h.0 h.1))

pub returns-in_ok-place-in-None : goal.returns-in_ok-place-in-None
returns-in_ok-place-in-None c =
    let node = data_of c.self.inside in
    let absent = subst (λ (t : List ℕ). (i : ℕ) → slice_get node.pool.texts i ≢ Some t) c.as_slice.ensures c.in-None.ensures.none in
    let room = subst (λ (n : NodeData). (InPool (store_of n) c.args.text → ⊥) → length c.args.text ≤ (store_of n).text_free)
    (sym c.self.view_is) c.requires.room in
    subst (λ (n : NodeData). Interns (store_of n) (store_of (record node { pool = c.add.new.self })) c.args.text
    c.in_ok-place-in-None.place) c.self.view_is
    (made_interns node c.args.text c.add.new.self c.self.invariant absent c.in_ok-place-in-None.ensures.added
    (room (λ h. absent h.0 h.1)) c.in_ok-place-in-None.place c.in_ok-place-in-None.ensures.place)
