-- Each place of code has its list of live variables: those of the numbers that the code names.
use Rattle.std.proofs.Common.{◌≡◌, ℕ, zero, suc, ◌+◌, ◌<◌, inl, inr, ⊎_elim, List, [], ◌∷◌, ◌++◌, length, Some, slice_get, refl, ap, sym}
use Rattle.std.proofs.Common.{subst}
use Rattle.std.proofs.Common.{arith}
use Rattle.ec_code.specs.Fine.{IsIn}
use Rattle.ec_code.specs.declared.code.Op.{Op}
use Rattle.ec_code.specs.declared.code.Variable.{Variable}
use Rattle.ec_code.specs.declared.code.Variable.TheVariants.{Named, Temporary}
use Rattle.ec_code.proofs.Runs.{IsRun, run_of}
use Rattle.ec_code.proofs.Among.{in_append, in_left, in_right}
use Rattle.ec_code.proofs.Covering.{covers_live}
use Rattle.ec_code.specs.Listed.{with_code}
use Rattle.ec_code.specs.Live.{IsLive, IsBefore, InOrder, IsLiveList}

order_append : (xs ys : List Variable) → InOrder xs → InOrder ys → ((x y : Variable) → IsIn x xs → IsIn y ys → IsBefore x y) →
    InOrder (xs ++ ys)
order_append [] ys a b before = b
order_append (x ∷ xs) ys a b before = (
  λ y i. ⊎_elim (λ j. a.0 y j) (λ j. before x y (inl refl) j) (in_append y xs ys i),
  order_append xs ys a.1 b (λ z y i j. before z y (inr i) j),
)

module _ (code : List Op) where
  both_kinds : (q : ℕ) (names temporaries : List Variable) (m n : ℕ) → IsRun code q Named 0 m names →
      IsRun code q Temporary 0 n temporaries → ((i : ℕ) → IsLive code q (Named i) → i < m) →
      ((i : ℕ) → IsLive code q (Temporary i) → i < n) → IsLiveList code q (names ++ temporaries)
  both_kinds q names temporaries m n a b below few = record {
    live = λ x i. ⊎_elim (λ j. a.live x j) (λ j. b.live x j) (in_append x names temporaries i);
    all = all;
    in_order = order_append names temporaries a.in_order b.in_order before;
  }
    where
      all : (x : Variable) → IsLive code q x → IsIn x (names ++ temporaries)
      all (Named i) l = in_left (Named i) names temporaries (a.all i (omega arith) (omega (arith, below i l)) l)
      all (Temporary i) l = in_right (Temporary i) names temporaries (b.all i (omega arith) (omega (arith, few i l)) l)

      before : (x y : Variable) → IsIn x names → IsIn y temporaries → IsBefore x y
      before x y i j =
          let named = a.number x i in
          let temporary = b.number y j in
          subst (λ v. IsBefore v y) (sym named.2) (subst (λ v. IsBefore (Named named.0) v) (sym temporary.2) tt)

  pub live_list : (q : ℕ) → (xs : List Variable) × IsLiveList code q xs
  live_list q =
      let all = with_code (record { named = 0; temporaries = 0 }) code in
      let names = run_of code q Named (λ m k h. h) all.named 0 in
      let temporaries = run_of code q Temporary (λ m k h. h) all.temporaries 0 in (
        names.0 ++ temporaries.0,
        both_kinds q names.0 temporaries.0 all.named all.temporaries names.1 temporaries.1
            (λ i l. covers_live (record { named = 0; temporaries = 0 }) l)
            (λ i l. covers_live (record { named = 0; temporaries = 0 }) l),
      )

  -- those of so many places, from one on
  pub live_lists : (count from : ℕ) → (lists : List (List Variable)) × (length lists ≡ count)
      × ((q i : ℕ) (xs : List Variable) → q ≡ from + i → slice_get lists i ≡ Some xs → IsLiveList code q xs)
  live_lists zero from = ([], refl, λ q i xs e is. cc)
  live_lists (suc count) from =
      let here = live_list from in
      let rest = live_lists count (suc from) in
      (here.0 ∷ rest.0, ap suc rest.1, placed here.0 here.1 rest.0 rest.2)
    where
      placed : (own : List Variable) → IsLiveList code from own → (rest : List (List Variable)) →
          ((q i : ℕ) (xs : List Variable) → q ≡ suc from + i → slice_get rest i ≡ Some xs → IsLiveList code q xs) →
          (q i : ℕ) (xs : List Variable) → q ≡ from + i → slice_get (own ∷ rest) i ≡ Some xs → IsLiveList code q xs
      placed own h rest others q zero xs e is =
          let place : from ≡ q = omega arith in
          let list : own ≡ xs = cc in
          subst (λ p. IsLiveList code p xs) place (subst (λ ys. IsLiveList code from ys) list h)
      placed own h rest others q (suc i) xs e is = others q i xs (omega arith) is
