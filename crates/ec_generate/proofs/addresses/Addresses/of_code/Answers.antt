use Rattle.std.proofs.Common.{◌≡◌, ◌++◌, [], ◌∷◌, ℕ, ap, sym, ◌∙◌, take, map, arith}
use Rattle.std.specs.Prelude.{slice_get}
use Rattle.ec_base.proofs.Lists.{take_next}
use Rattle.ec_machine_code.specs.Stops.{address_of, stops_if}
use Rattle.ec_generate.proofs.Noting.{found_all, map_append, one_found}
use Rattle.ec_generate.proofs.addresses.Addresses.of_code.Goals as goal

pub note-requires-clause-apart : goal.note-requires-clause-apart
note-requires-clause-apart c = λ n m a e f.
    let op = c.loop-op.op in
    let are : (k : ℕ) → address_of c.args.code.now op k ≡ slice_get c.at.result.now.stops k =
    λ k. ap (λ o. slice_get (stops_if o) k) c.at.ensures in
    (c.requires.apart op n op m a (are n ∙ e) (are m ∙ f)).1

pub loop-op-preserved : goal.loop-op-preserved
loop-op-preserved c =
    let op = c.loop-op.op in
    let os = c.args.code.now.operations in
    let o = c.at.result.now in
    let are : (k : ℕ) → address_of c.args.code.now op k ≡ slice_get o.stops k = λ k. ap (λ p. slice_get (stops_if p) k) c.at.ensures in
    record {
      of = c.in_ok-push.ensures.ok ∙ ap (λ l. l ++ c.in_ok-copied.field-0 ∷ []) c.loop-op.invariant.of
          ∙ ap (λ s. map (λ p. p.stops) (take op os) ++ s ∷ []) c.in_ok-copied.ensures ∙ sym (map_append (take op os) o)
          ∙ sym (ap (λ l. map (λ p. p.stops) l) (take_next os op o c.at.ensures));
      at = one_found op c.loop-op.at c.note.new.at c.args.code.now o.stops are c.requires.apart c.in_ok-note.ensures c.loop-op.invariant.at;
    }

pub invariant_of-result : goal.invariant_of-result
invariant_of-result c =
    found_all c.loop-op.op c.loop-op.at c.args.code.now c.loop-op.of c.loop-op.invariant.of (omega arith) c.loop-op.invariant.at
