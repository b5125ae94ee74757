use Rattle.std.proofs.Common.{◌≡◌, ◌∙◌, ◌++◌, ◌∷◌, [], ℕ, List, ap, drop, false, length, subst, sym, take, true}
use Rattle.std.specs.Prelude.{IsSome, is_some}
use Rattle.ec_forwarding.specs.Addresses.{address_in, with_address}
use Rattle.ec_forwarding.specs.Following.{AreNewer, AreShortened, IsFound, Leads, own_or_made}
use Rattle.ec_forwarding.specs.Traces.{newest_in}
use Rattle.ec_forwarding.specs.declared.address.Address.{Address}
use Rattle.ec_forwarding.specs.declared.address.Known.{Known}
use Rattle.ec_forwarding.proofs.Knowing.{adds, whole}
use Rattle.ec_forwarding.proofs.Searching.{found_more, from_made, from_own, leads_more, made_is, own_is, start_more}
use Rattle.ec_forwarding.proofs.known.find.Goals as goal

-- the node has an address
own : (ns lent short : List Known) (made from hops n : ℕ) (m : Address) → lent ≡ ns → is_some (address_in ns from) ≡ true →
    length short ≡ n → length ns ≡ n → AreShortened (address_in lent) (address_in short) from hops m →
    AreNewer (address_in ns) (address_in (take n (short ++ drop (length short) ns))) from (own_or_made (address_in ns from) from made)
    hops m
own ns lent short made from hops n m is there a b h =
    let P : List Known → Type 0 = λ xs. AreNewer (address_in ns) (address_in xs) from (own_or_made (address_in ns from) from made) hops m in
    let Q : List Known → Type 0 = λ xs. AreShortened (address_in xs) (address_in short) from hops m in
    let R : ℕ → Type 0 = λ k. AreNewer (address_in ns) (address_in short) from k hops m in
    subst P (sym (whole n short ns a b))
    (subst R (sym (own_is (address_in ns from) from made there)) (from_own (address_in ns) (address_in short) from hops m (subst Q is h)))

-- the node has none
module _ (ns : List Known) (made from : ℕ) (m : Address) (none : is_some (address_in ns from) ≡ false) (lent : List Known)
    (is : lent ≡ ns ++ record { at = from; address = m } ∷ []) where
  more : (j : ℕ) → address_in lent j ≡ with_address (address_in ns) from m j
  more j = rw is (adds ns from m none j)

  start_on : IsSome (address_in ns made) → IsSome (address_in lent made)
  start_on start = start_more (address_in ns) (address_in lent) from m none more made start

  leads_on : Leads (address_in ns) m → Leads (address_in lent) m
  leads_on leads = leads_more (address_in ns) (address_in lent) from m none more leads

  found_on : (hops : ℕ) → IsSome (address_in ns made) → Leads (address_in ns) m → IsFound (address_in ns) made m.node hops →
      IsFound (address_in lent) made m.node hops
  found_on hops start leads found = found_more (address_in ns) (address_in lent) from m none more made hops start leads found

  newer : (hops n : ℕ) (short pushed : List Known) → lent ≡ pushed → IsSome (address_in ns made) → Leads (address_in ns) m →
      IsFound (address_in ns) made m.node hops → length short ≡ n → length pushed ≡ n →
      AreShortened (address_in lent) (address_in short) made hops m →
      AreNewer (address_in ns) (address_in (take n (short ++ drop (length short) pushed))) from (own_or_made (address_in ns from) from made)
      hops m
  newer hops n short pushed same start leads found a b h =
      let P : List Known → Type 0 =
      λ xs. AreNewer (address_in ns) (address_in xs) from (own_or_made (address_in ns from) from made) hops m in
      let R : ℕ → Type 0 = λ k. AreNewer (address_in ns) (address_in short) from k hops m in
      subst P (sym (whole n short pushed a b))
      (subst R (sym (made_is (address_in ns from) from made none))
      (from_made (address_in ns) (address_in lent) from m none more made hops start leads found (address_in short) h))

pub returns-then-is_known-clause-newer : goal.returns-then-is_known-clause-newer
returns-then-is_known-clause-newer c =
    let ns = c.args.known.now.items in
    let there = ap (λ xs. is_some (address_in xs c.args.from)) (sym c.deref.ensures.value) ∙ sym c.is_known.ensures ∙ c.if-is_known.true in
    let newest = c.follow-hops.ensures.newest ∙ ap newest_in c.deref-then-is_known.ensures.value in
    let P : Address → Type 0 =
    AreShortened (address_in c.deref_mut.result.now) (address_in c.shorten.new.known) c.args.from c.follow-hops.result.1 in
    own ns c.deref_mut.result.now c.shorten.new.known c.args.made c.args.from c.follow-hops.result.1 _ (newest_in ns)
    c.deref_mut.ensures.value there (cc (c.shorten.auto.known, c.deref_mut.ensures.len))
    (cc (c.deref_mut.ensures.value, c.deref_mut.ensures.len)) (subst P newest c.shorten.ensures)

-- the list that is lent, with the newest address at its end
pushed : (ns lent xs : List Known) (from : ℕ) (a m : Address) → a ≡ m → lent ≡ xs → xs ≡ ns ++ record { at = from; address = a } ∷ [] →
    lent ≡ ns ++ record { at = from; address = m } ∷ []
pushed ns lent xs from a m same is more = is ∙ more ∙ ap (λ (b : Address). ns ++ record { at = from; address = b } ∷ []) same

pub shorten-requires-else-is_known-clause-start : goal.shorten-requires-else-is_known-clause-start
shorten-requires-else-is_known-clause-start c =
    let ns = c.args.known.now.items in
    let none = ap (λ xs. is_some (address_in xs c.args.from)) (sym c.deref.ensures.value) ∙ sym c.is_known.ensures ∙ c.if-is_known.false in
    let newest = c.follow-hops-else-is_known.ensures.newest ∙ ap newest_in c.deref-else-is_known.ensures.value in
    let lent = c.deref_mut-else-is_known in
    start_on ns c.args.made c.args.from (newest_in ns) none lent.result.now
    (pushed ns _ _ _ _ _ newest lent.ensures.value c.in_ok-push.ensures.items) c.requires.made

pub shorten-requires-else-is_known-clause-leads : goal.shorten-requires-else-is_known-clause-leads
shorten-requires-else-is_known-clause-leads c =
    let ns = c.args.known.now.items in
    let none = ap (λ xs. is_some (address_in xs c.args.from)) (sym c.deref.ensures.value) ∙ sym c.is_known.ensures ∙ c.if-is_known.false in
    let newest = c.follow-hops-else-is_known.ensures.newest ∙ ap newest_in c.deref-else-is_known.ensures.value in
    let lent = c.deref_mut-else-is_known in
    subst (Leads (address_in lent.result.now)) (sym newest)
    (leads_on ns c.args.made c.args.from (newest_in ns) none lent.result.now
    (pushed ns _ _ _ _ _ newest lent.ensures.value c.in_ok-push.ensures.items) c.requires.leads)

pub shorten-requires-else-is_known-clause-found : goal.shorten-requires-else-is_known-clause-found
shorten-requires-else-is_known-clause-found c =
    let ns = c.args.known.now.items in
    let none = ap (λ xs. is_some (address_in xs c.args.from)) (sym c.deref.ensures.value) ∙ sym c.is_known.ensures ∙ c.if-is_known.false in
    let newest = c.follow-hops-else-is_known.ensures.newest ∙ ap newest_in c.deref-else-is_known.ensures.value in
    let lent = c.deref_mut-else-is_known in
    let hops = c.follow-hops-else-is_known.result.1 in
    let P : List Known → Type 0 = λ xs. IsFound (address_in xs) c.args.made (newest_in xs).node hops in
    let Q : Address → Type 0 = λ m. IsFound (address_in lent.result.now) c.args.made m.node hops in
    subst Q (sym newest)
    (found_on ns c.args.made c.args.from (newest_in ns) none lent.result.now
    (pushed ns _ _ _ _ _ newest lent.ensures.value c.in_ok-push.ensures.items) hops c.requires.made c.requires.leads
    (subst P c.deref-else-is_known.ensures.value c.follow-hops-else-is_known.ensures.found))

pub returns-in_ok-push-clause-newer : goal.returns-in_ok-push-clause-newer
returns-in_ok-push-clause-newer c =
    let ns = c.args.known.now.items in
    let none = ap (λ xs. is_some (address_in xs c.args.from)) (sym c.deref.ensures.value) ∙ sym c.is_known.ensures ∙ c.if-is_known.false in
    let newest = c.follow-hops-else-is_known.ensures.newest ∙ ap newest_in c.deref-else-is_known.ensures.value in
    let lent = c.deref_mut-else-is_known in
    let short = c.shorten-else-is_known in
    let hops = c.follow-hops-else-is_known.result.1 in
    let P : List Known → Type 0 = λ xs. IsFound (address_in xs) c.args.made (newest_in xs).node hops in
    let Q : Address → Type 0 = AreShortened (address_in lent.result.now) (address_in short.new.known) c.args.made hops in
    newer ns c.args.made c.args.from (newest_in ns) none lent.result.now
    (pushed ns _ _ _ _ _ newest lent.ensures.value c.in_ok-push.ensures.items) hops _ short.new.known c.push.new.self.items
    lent.ensures.value c.requires.made c.requires.leads
    (subst P c.deref-else-is_known.ensures.value c.follow-hops-else-is_known.ensures.found)
    (cc (short.auto.known, lent.ensures.len)) (cc (lent.ensures.value, lent.ensures.len)) (subst Q newest short.ensures)
