-- A value with links behind it.
use Rattle.std.proofs.Common.{◌≡◌, suc, Bool, true, false, ◌&&◌, List, [], ◌∷◌, ◌++◌, map, length, Option, Some, None, refl, sym}
use Rattle.std.proofs.Common.{subst}
use Rattle.ec_code.specs.declared.code.Op.{Op}
use Rattle.ec_code.specs.declared.code.Op.TheVariants as op
use Rattle.ec_types.specs.declared.conform.static_type.StaticType.{StaticType}
use Rattle.ec_core.specs.declared.Expression.{Expression}
use Rattle.ec_core.specs.declared.Link.{Link}
use Rattle.ec_emission.proofs.Forms.{Emits, Good, AllGood, given, value, both_true, not_true, by_its_code, all_held, same_number}
use Rattle.ec_emission.proofs.Turns.{Setting, Standing, Comes, Turns, in_turn, framed, one, opened, nothing, kept_under}
use Rattle.ec_emission.specs.Expressions.{Emitted, Following, fits_here, all_fit, all_code, links_fit, links_give, links_code, own_code}
use Rattle.ec_emission.specs.Expressions.{own_call, chain, chain_code, gives_result}
use Rattle.ec_meaning.specs.Steps.{Goes, evaluated}
use Rattle.ec_meaning.specs.declared.item.Item.TheVariants as i
use Rattle.ec_emission.specs.Rows.{rest_row, own_row}
use Rattle.ec_emission.specs.Stands as at
use Rattle.ec_emission.specs.Stands.{Hold, Kept, Own, all_kept, one_more}
use Rattle.ec_world.specs.declared.stop.Stop.{Stop}

module _ (w : Setting) where
  -- the code of a link, behind a value and on the own object
  pub record Follows (l : Link) (f : Following) : Type 0 where
    pub code : (hs : List Hold) → Turns w (f.code (length hs)) (Kept ∷ hs) (given f.gives hs) (i.Follow l ∷ []) []
    pub own :
        f.is_call ≡ true → (hs : List Hold) → Turns w (f.own_code (length hs)) (Own ∷ hs) (given f.gives hs) (i.Follow l ∷ []) []

  abbrev pub GoodLink : Link → Following → Type 0
  GoodLink l f = f.fits ≡ true → Follows l f

  abbrev pub AllLinks : List Link → List Following → Type 0
  AllLinks [] [] = Unit {0}
  AllLinks [] (f ∷ fs) = ⊥
  AllLinks (l ∷ ls) [] = ⊥
  AllLinks (l ∷ ls) (f ∷ fs) = GoodLink l f × AllLinks ls fs

first_fits : (f : Following) (fs : List Following) → links_fit (f ∷ fs) ≡ true → f.fits ≡ true
first_fits f [] e = e
first_fits f (g ∷ fs) e = (both_true f.gives f.fits (both_true (f.gives && f.fits) (links_fit (g ∷ fs)) e).0).1

given_is : (of : Option StaticType) (hs : List Hold) → one_more of hs ≡ given (gives_result of) hs
given_is None hs = refl
given_is (Some of) hs = refl

module _ {w : Setting} where
  -- a link, by code of its own, and the others behind it
  and_links :
      {c : List Op} {js : List Hold} {l : Link} → (f : Following) → (ls : List Link) → (fs : List Following) → (hs : List Hold) →
      Turns w c js (given f.gives hs) (i.Follow l ∷ []) [] → AllLinks w ls fs → links_fit (f ∷ fs) ≡ true →
      Turns w (c ++ links_code fs (length hs)) js (given (links_give true (f ∷ fs)) hs) (i.Follow l ∷ map i.Follow ls) []
  and_links f [] [] hs t a e = in_turn t nothing
  and_links f [] (g ∷ fs) hs t a e = absurd a
  and_links f (k ∷ ls) [] hs t a e = absurd a
  and_links {c} {js} {l} f (k ∷ ls) (g ∷ fs) hs t a e =
      let b = both_true (f.gives && f.fits) (links_fit (g ∷ fs)) e in
      let gives : f.gives ≡ true = (both_true f.gives f.fits b.0).0 in
      let kept : Turns w c js (Kept ∷ hs) (i.Follow l ∷ []) [] =
      subst (λ o. Turns w c js (given o hs) (i.Follow l ∷ []) []) gives t in
      in_turn (framed (map i.Follow (k ∷ ls)) kept)
      (and_links g ls fs hs ((a.0 (first_fits g fs b.1)).code hs) a.1 b.1)

  links :
      (ls : List Link) (fs : List Following) → AllLinks w ls fs → links_fit fs ≡ true → (hs : List Hold) →
      Turns w (links_code fs (length hs)) (Kept ∷ hs) (given (links_give true fs) hs) (map i.Follow ls) []
  links [] [] a e hs = nothing
  links [] (f ∷ fs) a e hs = absurd a
  links (l ∷ ls) [] a e hs = absurd a
  links (l ∷ ls) (f ∷ fs) a e hs = and_links f ls fs hs ((a.0 (first_fits f fs e)).code hs) a.1 e

  -- the own object first
  own_links :
      {x : Expression} {e : Emitted} → (ls : List Link) → (fs : List Following) → Emits w x e → AllLinks w ls fs →
      links_fit fs ≡ true → own_call e.is_itself fs ≡ true → (hs : List Hold) →
      Turns w (e.code (length hs) ++ own_code fs (length hs)) hs (given (links_give true fs) hs)
      (i.Evaluate x ∷ map i.Follow ls) []
  own_links ls [] t a f o hs = not_true o
  own_links [] (g ∷ fs) t a f o hs = absurd a
  own_links {x} {e} (l ∷ ls) (g ∷ fs) t a f o hs =
      let b = both_true e.is_itself g.is_call o in
      in_turn (framed (map i.Follow (l ∷ ls)) (t.own b.0 hs))
      (and_links g ls fs hs ((a.0 (first_fits g fs f)).own b.1 hs) a.1 f)

  chain_turns :
      {x : Expression} {e : Emitted} → (ls : List Link) → (fs : List Following) → Good w x e → fits_here e ≡ true →
      AllLinks w ls fs → links_fit fs ≡ true → (b : Bool) → own_call e.is_itself fs ≡ b → (hs : List Hold) →
      Turns w (chain_code e fs (length hs) b) hs (given (links_give true fs) hs) (i.Evaluate x ∷ map i.Follow ls) []
  chain_turns ls fs g h a f false o hs = in_turn (framed (map i.Follow ls) (value g h hs).code) (links ls fs a f hs)
  chain_turns {x} {e} ls fs g h a f true o hs = own_links ls fs (g (both_true e.gives e.fits h).1) a f o hs

  pub chained :
      {x y : Expression} {e : Emitted} → (ls : List Link) → (fs : List Following) →
      Comes w (i.Evaluate y) (λ own st. Goes st (i.Evaluate x ∷ map i.Follow ls)) → Good w x e → AllLinks w ls fs →
      Good w y (chain e fs)
  chained {x} {y} {e} ls fs comes g a f =
      let b = both_true (fits_here e) (links_fit fs) f in
      by_its_code (λ h. chain_code e fs h (own_call e.is_itself fs)) (links_give true fs) (fits_here e && links_fit fs)
      (λ hs. opened (i.Evaluate x ∷ map i.Follow ls) comes (chain_turns ls fs g b.0 a b.1 (own_call e.is_itself fs) refl hs))

  -- ---- links with arguments

  -- a stop behind a value and arguments above it
  pub rested :
      (action : Stop) → (of : Option StaticType) → (xs : List Expression) → (es : List Emitted) → AllGood w xs es →
      all_fit es ≡ true → (hs : List Hold) →
      Turns w (all_code es (suc (length hs)) ++ op.Rest (rest_row action (length hs) (suc (length es)) of) ∷ []) (Kept ∷ hs)
      (given (gives_result of) hs) (evaluated xs ++ i.Rest action (suc (length xs)) ∷ []) []
  rested action of xs es a f hs =
      in_turn (framed (i.Rest action (suc (length xs)) ∷ []) (all_held xs es a f (Kept ∷ hs)))
      (subst
      (λ ks.
      Turns w (op.Rest (rest_row action (length hs) (suc (length es)) of) ∷ []) ks (given (gives_result of) hs)
      (i.Rest action (suc (length xs)) ∷ []) [])
      (sym (kept_under (length es) hs))
      (subst
      (λ k.
      Turns w (op.Rest (rest_row action (length hs) (suc (length es)) of) ∷ []) (all_kept (suc (length es)) hs)
      (given (gives_result of) hs) (i.Rest action (suc k) ∷ []) [])
      (same_number w xs es a)
      (one
      (λ q zs is d. at.rests hs of is (subst (λ ks. Standing w ks (suc q) zs) (sym (given_is of hs)) d)))))

  -- the same on the own object
  pub rested_own :
      (action : Stop) → (of : Option StaticType) → (xs : List Expression) → (es : List Emitted) → AllGood w xs es →
      all_fit es ≡ true → (hs : List Hold) →
      Turns w (all_code es (suc (length hs)) ++ op.Rest (own_row action (length hs) (suc (length es)) of) ∷ []) (Own ∷ hs)
      (given (gives_result of) hs) (evaluated xs ++ i.Rest action (suc (length xs)) ∷ []) []
  rested_own action of xs es a f hs =
      in_turn (framed (i.Rest action (suc (length xs)) ∷ []) (all_held xs es a f (Own ∷ hs)))
      (subst
      (λ k.
      Turns w (op.Rest (own_row action (length hs) (suc (length es)) of) ∷ []) (all_kept (length es) (Own ∷ hs))
      (given (gives_result of) hs) (i.Rest action (suc k) ∷ []) [])
      (same_number w xs es a)
      (one
      (λ q zs is d. at.calls_own hs of is (subst (λ ks. Standing w ks (suc q) zs) (sym (given_is of hs)) d))))
