use Rattle.std.proofs.Common.{◌≡◌, ◌≢◌, ◌∷◌, ◌++◌, [], ◌+◌, List, ℕ, suc, Some, length, sym, ap, ◌∙◌, subst, arith}
use Rattle.std.specs.Prelude.{slice_get}
use Rattle.ec_stores.specs.Tables.{AreReferences}
use Rattle.ec_stores.proofs.Finding.{references_added}
use Rattle.ec_stores.proofs.references.References.add.Goals as goal

pub invariant_of-self-2 : goal.invariant_of-self-2
invariant_of-self-2 c =
    let named = c.self.inside.named.items in
    let is : c.push.new.self.items ≡ named ++ c.args.oid ∷ [] =
    c.in_ok-push.ensures.items ∙ ap (λ (os : List ℕ). os ++ c.args.oid ∷ []) c.reserve.ensures.items in
    let absent = subst (λ (os : List ℕ). (i : ℕ) → slice_get os i ≢ Some c.args.oid) (sym c.self.view_is) c.requires in
    let count : c.len-count.result + 1 ≡ suc (length named) = (let n = c.len-count.ensures in omega arith) in
    subst (λ (os : List ℕ). AreReferences c.enter.new.words os) (sym is)
    (references_added c.self.inside.words c.enter.new.words named c.args.oid (c.len-count.result + 1) c.self.invariant absent count
    (omega arith) c.in_ok-enter.ensures.entered)
