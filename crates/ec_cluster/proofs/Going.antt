-- Objects go to a node, each by one move more, and stay where they are there.
use Rattle.std.proofs.Common.{◌≡◌, ◌≢◌, ◌⊎◌, ◌-◌, ◌^◌, ◌<◌, ◌≤◌, ℕ, zero, suc, ◌+◌, Option, Some, None, inl, inr, refl, ap, sym, ◌∙◌, subst, arith}
use Rattle.std.proofs.Common.{⊎_elim}
use Rattle.std.proofs.lemmas.Bool.Decides.{nat_tests}
use Rattle.std.proofs.lemmas.Option.{same_Some}
use Rattle.std.specs.Prelude.{option_map, unwrap_or}
use Rattle.ec_cluster.proofs.Noting.{with-other, with-same}
use Rattle.ec_cluster.proofs.Numbering.{within_or_past}
use Rattle.ec_cluster.proofs.Places.{gives_located, located}
use Rattle.ec_cluster.specs.Located.{Located, first_made, made_at, moved_to, nodes_made}
use Rattle.ec_cluster.specs.Whereabouts.{CameTo, FewElsewhere, FewMoves, Gives, MovedOnce, Stayed, Traces, WentTo, made_count, moves_of, place_at}
use Rattle.ec_forwarding.specs.Forwardings.{count_of_move}
use Rattle.ec_forwarding.specs.Traces.{Trace, newest_of}
use Rattle.ec_world.proofs.Keys.{same_or_not}
use Rattle.ec_world.proofs.Procs.{get_past}

-- ---- one object goes

no_move : (m from k : ℕ) → from ≡ k → m + count_of_move from k ≡ m
no_move m from k e = grind (arith, nat_tests)

one_move : (m from k : ℕ) → from ≢ k → m + count_of_move from k ≡ suc m
one_move m from k ne = grind (arith, nat_tests)

module _ (d d' : Traces) (oid from k : ℕ) (there : place_at d oid ≡ Some from)
    (noted : (w : Located) → Gives d w → Gives d' (moved_to w oid from k)) where
  after : Gives d' (moved_to (located d) oid from k)
  after = noted (located d) (gives_located d)

  comes : (o : ℕ) → o ≡ oid → place_at d' o ≡ Some k
  comes o e = after.places o ∙ with-same (place_at d) oid o (Some k) e

  moves : (o : ℕ) → o ≡ oid → moves_of d' o ≡ moves_of d oid + count_of_move from k
  moves o e = after.moves o ∙ with-same (moves_of d) oid o (moves_of d oid + count_of_move from k) e

  was : (o : ℕ) → o ≡ oid → place_at d o ≡ Some from
  was o e = ap (place_at d) e ∙ there

  it_stays : (o : ℕ) → o ≡ oid → from ≡ k → Stayed d d' o
  it_stays o e same = record {
    place = comes o e ∙ ap Some (sym same) ∙ sym (was o e);
    moves = moves o e ∙ no_move (moves_of d oid) from k same ∙ ap (moves_of d) (sym e);
  }

  it_comes : (o : ℕ) → o ≡ oid → from ≢ k → CameTo k d d' o
  it_comes o e ne = record {
    from = λ at. ne (same_Some from k (sym (was o e) ∙ at));
    to = comes o e;
    moves = moves o e ∙ one_move (moves_of d oid) from k ne ∙ ap (λ n. suc (moves_of d n)) (sym e);
  }

  other_stays : (o : ℕ) → o ≢ oid → Stayed d d' o
  other_stays o ne = record {
    place = after.places o ∙ with-other (place_at d) oid o (Some k) ne;
    moves = after.moves o ∙ with-other (moves_of d) oid o (moves_of d oid + count_of_move from k) ne;
  }

  pub one_went : WentTo k d d'
  one_went = λ o. ⊎_elim
      (λ (e : o ≡ oid). ⊎_elim
      (λ (same : from ≡ k). inl (it_stays o e same))
      (λ (ne : from ≢ k). inr (it_comes o e ne))
      (same_or_not from k))
      (λ (ne : o ≢ oid). inl (other_stays o ne))
      (same_or_not o oid)

-- ---- no object goes

pub none_went : (k : ℕ) (d d' : Traces) → d' ≡ d → WentTo k d d'
none_went k d d' same = λ oid. inl (record { place = ap (λ (x : Traces). place_at x oid) same; moves = ap (λ (x : Traces). moves_of x oid) same })

-- it was only looked for
pub kept_went : (k : ℕ) (d d' : Traces) → ((w : Located) → Gives d w → Gives d' w) → WentTo k d d'
kept_went k d d' kept =
    let still = kept (located d) (gives_located d) in λ oid. inl (record { place = still.places oid; moves = still.moves oid })

-- ---- some go, and then others

both : (k : ℕ) (a b c : Traces) (oid : ℕ) → Stayed a b oid ⊎ CameTo k a b oid → Stayed b c oid ⊎ CameTo k b c oid →
    Stayed a c oid ⊎ CameTo k a c oid
both k a b c oid (inl s) (inl t) = inl (record { place = t.place ∙ s.place; moves = t.moves ∙ s.moves })
both k a b c oid (inl s) (inr t) = inr (record { from = λ e. t.from (s.place ∙ e); to = t.to; moves = t.moves ∙ ap suc s.moves })
both k a b c oid (inr s) (inl t) = inr (record { from = s.from; to = t.place ∙ s.to; moves = t.moves ∙ s.moves })
both k a b c oid (inr s) (inr t) = absurd (t.from s.to)

pub went_on : (k : ℕ) (a b c : Traces) → WentTo k a b → WentTo k b c → WentTo k a c
went_on k a b c x y = λ oid. both k a b c oid (x oid) (y oid)

-- what is still elsewhere can move as it could
pub still_few : (k : ℕ) (a b : Traces) → WentTo k a b → FewElsewhere k a → FewElsewhere k b
still_few k a b went few = λ oid ne. ⊎_elim
    (λ (s : Stayed a b oid). subst (λ (m : ℕ). m < 2 ^ 64 - 1) (sym s.moves) (few oid (λ e. ne (s.place ∙ e))))
    (λ (t : CameTo k a b oid). absurd (ne t.to))
    (went oid)

pub few_elsewhere : (k : ℕ) (d : Traces) → FewMoves d → FewElsewhere k d
few_elsewhere k d few = λ oid ne. few oid

pub moved_once : (k : ℕ) (a b : Traces) → WentTo k a b → MovedOnce a b
moved_once k a b went = λ oid. ⊎_elim
    (λ (s : Stayed a b oid). let e = s.moves in omega (arith, e))
    (λ (t : CameTo k a b oid). let e = t.moves in omega (arith, e))
    (went oid)

pub none_moved : (d : Traces) → MovedOnce d d
none_moved d = λ oid. omega arith

pub same_moved : (a b : Traces) → ((oid : ℕ) → moves_of b oid ≡ moves_of a oid) → MovedOnce a b
same_moved a b same = λ oid. let e = same oid in omega (arith, e)

-- ---- an object is made

no_moves_next : (d : Traces) → moves_of d (suc (made_count d)) ≡ 0
no_moves_next d =
    ap (λ (x : Option Trace). unwrap_or (option_map (λ t. (newest_of t).moves) x) 0) (get_past d (made_count d) (omega arith))

-- each has moved as often
pub made_moves : (d d' : Traces) (oid at : ℕ) → oid ≡ suc (made_count d) → ((w : Located) → Gives d w → Gives d' (made_at w oid at)) →
    (o : ℕ) → moves_of d' o ≡ moves_of d o
made_moves d d' oid at next noted o =
    let after = noted (located d) (gives_located d) in
    ⊎_elim
    (λ (e : o ≡ oid).
    after.moves o ∙ with-same (moves_of d) oid o 0 e ∙ sym (ap (moves_of d) (e ∙ next) ∙ no_moves_next d))
    (λ (ne : o ≢ oid). after.moves o ∙ with-other (moves_of d) oid o 0 ne)
    (same_or_not o oid)

-- ---- which can move

-- each can, where each of those that were made can
pub each_few : (d : Traces) → ((i : ℕ) → i < made_count d → moves_of d (suc i) < 2 ^ 64 - 1) → FewMoves d
each_few d few zero = let none : moves_of d 0 ≡ 0 = refl in omega (arith, none)
each_few d few (suc i) = ⊎_elim
    (λ (l : suc i ≤ made_count d). few i l)
    (λ (l : made_count d < suc i).
    let none : moves_of d (suc i) ≡ 0 =
    ap (λ (x : Option Trace). unwrap_or (option_map (λ t. (newest_of t).moves) x) 0) (get_past d i (omega (arith, l))) in
    omega (arith, none))
    (within_or_past (suc i) (made_count d))

-- the objects that are there first have not moved
made_none : (w : Located) (oid k : ℕ) → ((o : ℕ) → w.moves o ≡ 0) → (o : ℕ) → (made_at w oid k).moves o ≡ 0
made_none w oid k none o = ⊎_elim
    (λ (e : o ≡ oid). with-same w.moves oid o 0 e)
    (λ (ne : o ≢ oid). with-other w.moves oid o 0 ne ∙ none o)
    (same_or_not o oid)

nodes_none : (n o : ℕ) → (nodes_made n).moves o ≡ 0
nodes_none zero o = refl
nodes_none (suc n) o = made_none (nodes_made n) (suc n) n (nodes_none n) o

pub first_none : (n o : ℕ) → (first_made n).moves o ≡ 0
first_none n o = made_none (nodes_made n) (suc n) 0 (nodes_none n) o
