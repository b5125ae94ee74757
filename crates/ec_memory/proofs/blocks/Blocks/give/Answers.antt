use Rattle.std.proofs.Common.{◌≡◌, ◌<◌, ◌+◌, ◌-◌, ◌++◌, length, refl, sym, ap, ◌∙◌, subst, arith, set, []}
use Rattle.std.specs.List.{AllByRecursion}
use Rattle.ec_memory.specs.Store.{Store, Gives, chain, after, AreApart}
use Rattle.ec_memory.proofs.Chains.{chain-none, chain-split, length-chain, all_front, last_within, given_whole, gives}
use Rattle.ec_memory.proofs.blocks.Blocks.give.Goals as goal

pub returns-then-count-eq0 : goal.returns-then-count-eq0
returns-then-count-eq0 g c =
    let s = c.args.self.now in
    let none : chain s.links c.args.list.first c.args.list.count ≡ [] =
    ap (chain s.links c.args.list.first) c.if-count-eq0.true ∙ chain-none s.links c.args.list.first in
    record { free = sym (ap (λ l. l ++ s.free) none); sized = refl; links = λ b h. refl; blocks = refl; globals = refl }

pub after-last-requires : goal.after-last-requires
after-last-requires g c =
    let links = c.args.self.now.links in
    let first = c.args.list.first in
    let count = c.args.list.count in
    let same : c.deref.result.now ≡ links = c.deref.ensures.value ∙ ap (λ s. s.links) c.self.view_is in
    subst (λ l. AllByRecursion (λ b. b < length l) (chain l first (count - 1))) (sym same)
    (all_front (λ b. b < length links) (chain links first (count - 1))
    (chain links (after links first (count - 1)) (count - (count - 1)))
    (subst (AllByRecursion (λ b. b < length links)) (chain-split links first (count - 1) count (omega arith)) c.requires.in_range))

pub index_mut-requires : goal.index_mut-requires
index_mut-requires g c =
    let i = c.self.inside in
    let l = c.args.list in
    let links : i.links.items ≡ c.args.self.now.links = ap (λ s. s.links) c.self.view_is in
    let is : c.after-last.result ≡ after i.links.items l.first (l.count - 1) =
    c.after-last.ensures ∙ ap (λ x. after x l.first (l.count - 1)) c.deref.ensures.value in
    let in_range = subst (λ x. AllByRecursion (λ b. b < length x) (chain x l.first l.count)) (sym links) c.requires.in_range in
    let apart = subst (λ s. AreApart (chain s.links l.first l.count ++ s.free)) (sym c.self.view_is) c.requires.apart in
    let h = last_within i.blocks.items i.globals.items i.links.items i.head i.free l.first l.count c.after-last.result
    c.self.invariant (omega (arith, c.if-count-eq0.false)) is in_range apart in
    omega (arith, h, i.links.ok.0)

pub overflow_add-self : goal.overflow_add-self
overflow_add-self g c =
    let i = c.self.inside in
    let n : length c.args.self.now.free ≡ i.free =
    ap (λ s. length s.free) (sym c.self.view_is) ∙ length-chain i.links.items i.head i.free in
    let m : length c.args.self.now.links ≡ length i.links.items = ap (λ s. length s.links) (sym c.self.view_is) in
    omega (arith, n, m, c.requires.few, c.self.invariant.few_blocks)

pub invariant_of-self : goal.invariant_of-self
invariant_of-self g c =
    let i = c.self.inside in
    let l = c.args.list in
    let links : i.links.items ≡ c.args.self.now.links = ap (λ s. s.links) c.self.view_is in
    let is : c.after-last.result ≡ after i.links.items l.first (l.count - 1) =
    c.after-last.ensures ∙ ap (λ x. after x l.first (l.count - 1)) c.deref.ensures.value in
    let in_range = subst (λ x. AllByRecursion (λ b. b < length x) (chain x l.first l.count)) (sym links) c.requires.in_range in
    let apart = subst (λ s. AreApart (chain s.links l.first l.count ++ s.free)) (sym c.self.view_is) c.requires.apart in
    given_whole i.blocks.items i.globals.items i.links.items i.head i.free l.first l.count c.after-last.result c.self.invariant
    (omega (arith, c.if-count-eq0.false)) is in_range apart

pub returns : goal.returns
returns g c =
    let i = c.self.inside in
    let l = c.args.list in
    let links : i.links.items ≡ c.args.self.now.links = ap (λ s. s.links) c.self.view_is in
    let is : c.after-last.result ≡ after i.links.items l.first (l.count - 1) =
    c.after-last.ensures ∙ ap (λ x. after x l.first (l.count - 1)) c.deref.ensures.value in
    let in_range = subst (λ x. AllByRecursion (λ b. b < length x) (chain x l.first l.count)) (sym links) c.requires.in_range in
    let apart = subst (λ s. AreApart (chain s.links l.first l.count ++ s.free)) (sym c.self.view_is) c.requires.apart in
    let new : Store =
    record {
      blocks = i.blocks.items;
      globals = i.globals.items;
      links = set i.links.items c.after-last.result i.head;
      free =
          chain (set i.links.items c.after-last.result i.head) l.first (i.free + l.count);
    } in
    subst (λ s. Gives s new l.first l.count) c.self.view_is
    (gives i.blocks.items i.globals.items i.links.items i.head i.free l.first l.count c.after-last.result c.self.invariant
    (omega (arith, c.if-count-eq0.false)) is in_range apart)
