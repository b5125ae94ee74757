use Rattle.std.proofs.Common.{◌≡◌, ◌+◌, ◌-◌, ◌≤◌, length, sym, ap, ◌∙◌, subst, arith, vec_len}
use Rattle.std.proofs.lemmas.List.{with_items_is}
use Rattle.std.specs.Vec.{with_items}
use Rattle.ec_memory.specs.Store.{Store, IsWhole, chain, globals_base, blocks_base, overwritten}
use Rattle.ec_memory.proofs.Writes.{globals_written, blocks_written, length-overwritten, on_true, from_true}
use Rattle.ec_memory.proofs.blocks.BlocksMemory.store.Goals as goal

pub returns-then-at-ge-GLOBALS_BASE-clause-written : goal.returns-then-at-ge-GLOBALS_BASE-clause-written
returns-then-at-ge-GLOBALS_BASE-clause-written g c =
    on_true c.write_to.result _ (λ e.
    let s = c.args.self.now in
    let place = c.args.at - globals_base in
    let old : c.deref_mut.result.now ≡ s.globals = c.deref_mut.ensures.value ∙ ap (λ x. x.globals) c.self.view_is in
    let fits = c.write_to.ensures.inside.0 e in
    let fits' : place + length c.args.from.now ≤ length s.globals = omega (arith, fits, ap length old) in
    let new = from_true c.write_to.result _ e c.write_to.ensures.written ∙ ap (λ xs. overwritten xs place c.args.from.now) old in
    let long : length c.write_to.new.region ≡ vec_len c.self.inside.globals =
    ap length new ∙ length-overwritten s.globals place c.args.from.now fits' ∙ sym (ap length old) ∙ c.deref_mut.ensures.len in
    let i = c.self.inside in
    let t : Store =
    record {
      blocks = i.blocks.items;
      globals = (with_items i.globals c.write_to.new.region).items;
      links =
          i.links.items;
      free = chain i.links.items i.head i.free;
    } in
    globals_written s t c.args.at c.args.from.now (ap (λ x. x.blocks) c.self.view_is)
    (with_items_is c.self.inside.globals c.write_to.new.region long ∙ new) c.if-at-ge-GLOBALS_BASE.true fits')

pub returns-then-at-ge-BLOCKS_BASE-clause-written : goal.returns-then-at-ge-BLOCKS_BASE-clause-written
returns-then-at-ge-BLOCKS_BASE-clause-written g c =
    on_true c.write_to-then-at-ge-BLOCKS_BASE.result _ (λ e.
    let s = c.args.self.now in
    let w = c.write_to-then-at-ge-BLOCKS_BASE in
    let d = c.deref_mut-then-at-ge-BLOCKS_BASE in
    let place = c.args.at - blocks_base in
    let old : d.result.now ≡ s.blocks = d.ensures.value ∙ ap (λ x. x.blocks) c.self.view_is in
    let fits = w.ensures.inside.0 e in
    let fits' : place + length c.args.from.now ≤ length s.blocks = omega (arith, fits, ap length old) in
    let new = from_true w.result _ e w.ensures.written ∙ ap (λ xs. overwritten xs place c.args.from.now) old in
    let long : length w.new.region ≡ vec_len c.self.inside.blocks =
    ap length new ∙ length-overwritten s.blocks place c.args.from.now fits' ∙ sym (ap length old) ∙ d.ensures.len in
    let i = c.self.inside in
    let t : Store =
    record {
      blocks = (with_items i.blocks w.new.region).items;
      globals = i.globals.items;
      links = i.links.items;
      free =
          chain i.links.items i.head i.free;
    } in
    blocks_written s t c.args.at c.args.from.now (subst IsWhole c.self.view_is c.self.invariant)
    (ap (λ x. x.globals) c.self.view_is) (with_items_is c.self.inside.blocks w.new.region long ∙ new) c.if-at-ge-BLOCKS_BASE.true fits')
