use Rattle.std.proofs.Common.{◌≡◌, ◌<◌, ◌-◌, length, refl, sym, ap, ◌∙◌, subst, arith, ℕ}
use Rattle.std.specs.List.{AllByRecursion}
use Rattle.ec_memory.specs.Store.{Takes, chain, after}
use Rattle.ec_memory.proofs.Chains.{chain-split, length-chain, all_front, taken_whole, taken}
use Rattle.ec_memory.proofs.blocks.Blocks.take.Goals as goal

pub returns-then-count-self-clause-there : goal.returns-then-count-self-clause-there
returns-then-count-self-clause-there g c =
    let i = c.self.inside in
    let n : length c.args.self.now.free ≡ i.free =
    ap (λ s. length s.free) (sym c.self.view_is) ∙ length-chain i.links.items i.head i.free in
    ((λ e. (cc)), (λ le. absurd (omega arith)))

pub after-self-inside-requires : goal.after-self-inside-requires
after-self-inside-requires g c =
    let i = c.self.inside in
    let split = chain-split i.links.items i.head c.args.count i.free (omega arith) in
    let P : ℕ → Type 0 = λ b. b < length i.links.items in
    subst (λ links. AllByRecursion (λ b. b < length links) (chain links i.head c.args.count)) (sym c.deref.ensures.value)
    (all_front P (chain i.links.items i.head c.args.count)
    (chain i.links.items (after i.links.items i.head c.args.count) (i.free - c.args.count))
    (subst (AllByRecursion P) split c.self.invariant.in_range))

pub invariant_of-self : goal.invariant_of-self
invariant_of-self g c =
    let i = c.self.inside in
    taken_whole i.blocks.items i.globals.items i.links.items i.head i.free c.args.count c.after-self-inside.result
    c.if-count-self.false (c.after-self-inside.ensures ∙ ap (λ l. after l i.head c.args.count) c.deref.ensures.value) c.self.invariant

pub returns-clause-there : goal.returns-clause-there
returns-clause-there g c =
    let i = c.self.inside in
    let n : length c.args.self.now.free ≡ i.free =
    ap (λ s. length s.free) (sym c.self.view_is) ∙ length-chain i.links.items i.head i.free in
    ((λ e. omega arith), (λ le. refl))

pub returns-clause-taken : goal.returns-clause-taken
returns-clause-taken g c =
    let i = c.self.inside in (
      refl,
      subst (λ s. Takes s
          (record {
            blocks = i.blocks.items;
            globals = i.globals.items;
            links = i.links.items;
            free =
                chain i.links.items c.after-self-inside.result (i.free - c.args.count);
          }) i.head c.args.count) c.self.view_is
          (taken i.blocks.items i.globals.items i.links.items i.head i.free c.args.count c.after-self-inside.result
          c.if-count-self.false (c.after-self-inside.ensures ∙ ap (λ l. after l i.head c.args.count) c.deref.ensures.value)),
    )
