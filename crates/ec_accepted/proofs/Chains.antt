-- A chain: a value, and what is done with it.
use Rattle.std.proofs.Common.{◌≡◌, ◌&&◌, Bool, true, false, List, [], ◌∷◌, length, Some, None, option_map, refl, sym}
use Rattle.std.proofs.Common.{ap, ◌∙◌, subst}
use Rattle.ec_check.specs.WellTyped.{AfterLink, Typed, along}
use Rattle.ec_code.specs.Typing.{boolean}
use Rattle.ec_types.specs.Types.{named}
use Rattle.ec_types.specs.declared.conform.static_type.StaticType.{StaticType}
use Rattle.ec_types.specs.Known.{IsOfProgram}
use Rattle.ec_emission.proofs.Forms.{not_true, no_leaf}
use Rattle.ec_emission.specs.Expressions.{Emitted, Following, chain_code, holds, links_code, links_give, own_call}
use Rattle.ec_accepted.proofs.FinenessForms.{plain}
use Rattle.ec_accepted.proofs.Frames.{Held}
use Rattle.ec_accepted.proofs.Pieces.{FitsAs, go_on, nothing}
use Rattle.ec_accepted.proofs.Shown.{Goes, Shown, Works, works}
use Rattle.ec_accepted.proofs.Standing.{Stand, Ready, Stated, setting, types_in}
use Rattle.ec_accepted.proofs.Stopping.{held_if}

-- ---- what is shown of a link

module _ (c : Stand) where
  -- code of a link behind a value of a type; and its code where this is the own object
  pub record Follows (before after : Typed) (f : Following) : Type 0 where
    pub well : before.is_well ≡ true
    pub kind : StaticType
    pub is : before.of ≡ Some kind
    pub code : before.is_itself && f.is_call ≡ false → (hs : Held) →
        Goes (setting c) (f.code (length hs)) (Some kind ∷ hs) (held_if after.of hs)
    pub own : before.is_itself && f.is_call ≡ true → (hs : Held) →
        Goes (setting c) (f.own_code (length hs)) (Some kind ∷ hs) (held_if after.of hs)

  pub record LinkReady (l : AfterLink) (f : Following) : Type 0 where
    pub other : (before : Typed) → (l before).is_itself ≡ false
    pub known : (before : Typed) (u : StaticType) → (l before).of ≡ Some u → IsOfProgram (types_in c) u
    pub follows :
        (before : Typed) → (before.is_itself ≡ true → before.of ≡ option_map named c.own) → (l before).is_well ≡ true →
        Follows before (l before) f

  abbrev pub LinksReady : List AfterLink → List Following → Type 0
  LinksReady [] [] = Unit {0}
  LinksReady [] (f ∷ fs) = ⊥
  LinksReady (l ∷ ls) [] = ⊥
  LinksReady (l ∷ ls) (f ∷ fs) = LinkReady l f × LinksReady ls fs

  -- ---- links one behind the other

  not_itself : (before : Typed) → before.is_itself ≡ false → before.is_itself ≡ true → before.of ≡ option_map named c.own
  not_itself before e f = not_true (sym e ∙ f)

  well_before :
      (ls : List AfterLink) (fs : List Following) → LinksReady ls fs → (before : Typed) → before.is_itself ≡ false →
      (along before ls).is_well ≡ true → before.is_well ≡ true
  well_before [] fs ready before o e = e
  well_before (l ∷ ls) [] ready before o e = absurd ready
  well_before (l ∷ ls) (f ∷ fs) ready before o e =
      let first : LinkReady l f = ready.0 in
      let next : (l before).is_well ≡ true = well_before ls fs ready.1 (l before) (first.other before) e in
      let follows : Follows before (l before) f = first.follows before (not_itself before o) next in
      follows.well

  along_other : (ls : List AfterLink) (fs : List Following) → LinksReady ls fs → (before : Typed) →
      before.is_itself ≡ false → (along before ls).is_itself ≡ false
  along_other [] fs ready before o = o
  along_other (l ∷ ls) [] ready before o = absurd ready
  along_other (l ∷ ls) (f ∷ fs) ready before o =
      let first : LinkReady l f = ready.0 in along_other ls fs ready.1 (l before) (first.other before)

  along_known : (ls : List AfterLink) (fs : List Following) → LinksReady ls fs → (before : Typed) →
      ((u : StaticType) → before.of ≡ Some u → IsOfProgram (types_in c) u) → (u : StaticType) →
      (along before ls).of ≡ Some u → IsOfProgram (types_in c) u
  along_known [] fs ready before known u e = known u e
  along_known (l ∷ ls) [] ready before known u e = absurd ready
  along_known (l ∷ ls) (f ∷ fs) ready before known u e =
      let first : LinkReady l f = ready.0 in along_known ls fs ready.1 (l before) (first.known before) u e

  links_lead :
      (ls : List AfterLink) (fs : List Following) → LinksReady ls fs → (before : Typed) → before.is_itself ≡ false →
      (along before ls).is_well ≡ true → (hs : Held) →
      Goes (setting c) (links_code fs (length hs)) (held_if before.of hs) (held_if (along before ls).of hs)
  links_lead [] [] ready before o e hs = nothing
  links_lead [] (f ∷ fs) ready before o e hs = absurd ready
  links_lead (l ∷ ls) [] ready before o e hs = absurd ready
  links_lead (l ∷ ls) (f ∷ fs) ready before o e hs =
      let first : LinkReady l f = ready.0 in
      let next : (l before).is_well ≡ true = well_before ls fs ready.1 (l before) (first.other before) e in
      let follows : Follows before (l before) f = first.follows before (not_itself before o) next in
      let is_code : before.is_itself && f.is_call ≡ false = ap (λ b. b && f.is_call) o in
      go_on
      (subst (λ z. Goes (setting c) (f.code (length hs)) (held_if z hs) (held_if (l before).of hs)) (sym follows.is)
      (follows.code is_code hs))
      (links_lead ls fs ready.1 (l before) (first.other before) e hs)

  -- ---- the whole chain

  -- what the first link is to stand behind
  chain_first :
      (t : Typed) (e : Emitted) (l : AfterLink) (ls : List AfterLink) (f : Following) (fs : List Following) →
      LinkReady l f →
      LinksReady ls fs → (t.is_itself ≡ true → t.of ≡ option_map named c.own) → (along t (l ∷ ls)).is_well ≡ true →
      Follows t (l t) f
  chain_first t e l ls f fs first ready itself well =
      first.follows t itself (well_before ls fs ready (l t) (first.other t) well)

  chain_leads :
      (t : Typed) (e : Emitted) (l : AfterLink) (ls : List AfterLink) (f : Following) (fs : List Following) → Stated c t e →
      t.is_itself ≡ e.is_itself → LinkReady l f → LinksReady ls fs → Follows t (l t) f → (along t (l ∷ ls)).is_well ≡ true →
      (b : Bool) → e.is_itself && f.is_call ≡ b → (hs : Held) →
      Goes (setting c) (chain_code e (f ∷ fs) (length hs) b) hs (held_if (along t (l ∷ ls)).of hs)
  chain_leads t e l ls f fs s same first ready follows well true is hs =
      let own : t.is_itself && f.is_call ≡ true = ap (λ b. b && f.is_call) same ∙ is in
      let v : Works (setting c) e follows.kind = works s.shown follows.kind follows.is in
      go_on (v.code hs) (go_on (follows.own own hs) (links_lead ls fs ready (l t) (first.other t) well hs))
  chain_leads t e l ls f fs s same first ready follows well false is hs =
      let code : t.is_itself && f.is_call ≡ false = ap (λ b. b && f.is_call) same ∙ is in
      let v : Works (setting c) e follows.kind = works s.shown follows.kind follows.is in
      go_on (v.code hs) (go_on (follows.code code hs) (links_lead ls fs ready (l t) (first.other t) well hs))

  -- a chain of at least one link
  pub chain_shown :
      (t : Typed) (e : Emitted) (l : AfterLink) (ls : List AfterLink) (f : Following) (fs : List Following) (fits : Bool) →
      FitsAs (setting c) boolean boolean → Ready c t e → LinkReady l f → LinksReady ls fs →
      (along t (l ∷ ls)).is_well ≡ true →
      Shown (setting c) (along t (l ∷ ls))
      (record {
        leaf = None;
        is_itself = false;
        code = λ h. chain_code e (f ∷ fs) h (own_call e.is_itself (f ∷ fs));
        condition = holds None (λ h. chain_code e (f ∷ fs) h (own_call e.is_itself (f ∷ fs)));
        gives = links_give true (f ∷ fs);
        fits = fits;
      })
  chain_shown t e l ls f fs fits own r first ready well =
      let follows : Follows t (l t) f = chain_first t e l ls f fs first ready r.itself well in
      let s : Stated c t e = r.stated follows.well in
      plain own None false (λ h. chain_code e (f ∷ fs) h (own_call e.is_itself (f ∷ fs))) (links_give true (f ∷ fs)) fits
      (λ hs. chain_leads t e l ls f fs s r.same first ready follows well (e.is_itself && f.is_call) refl hs)
      (λ k g of is hs. no_leaf k g)

  pub chain_known :
      (t : Typed) (l : AfterLink) (ls : List AfterLink) (f : Following) (fs : List Following) → LinkReady l f →
      LinksReady ls fs → (u : StaticType) → (along t (l ∷ ls)).of ≡ Some u → IsOfProgram (types_in c) u
  chain_known t l ls f fs first ready u e = along_known ls fs ready (l t) (first.known t) u e

  pub chain_other :
      (t : Typed) (l : AfterLink) (ls : List AfterLink) (f : Following) (fs : List Following) → LinkReady l f →
      LinksReady ls fs → (along t (l ∷ ls)).is_itself ≡ false
  chain_other t l ls f fs first ready = along_other ls fs ready (l t) (first.other t)
