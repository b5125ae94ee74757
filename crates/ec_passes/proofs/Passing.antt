-- The new code does what the old one does, up to its stop.
use Rattle.std.proofs.Common.{◌≡◌, ℕ, zero, suc, ◌+◌, ◌<◌, ◌≤◌, List, [], ◌∷◌, ◌++◌, length, refl, sym, ap, ◌∙◌, subst, arith}
use Rattle.std.proofs.Common.{length-append}
use Rattle.std.proofs.Common.{◌⊎◌, ⊎_elim, inl, inr}
use Rattle.ec_base.specs.Bytes.{Bytes}
use Rattle.ec_code.specs.Fine.{IsIn}
use Rattle.ec_machine_code.specs.Machine.{MachineMeaning}
use Rattle.ec_machine_code.specs.Once.{AreDifferent}
use Rattle.ec_machine_code.specs.declared.code.Code.{Code}
use Rattle.ec_machine_code.proofs.Different.{different_append, different_apart, different_behind, in_either, in_split}
use Rattle.ec_passes.specs.Following.{Follows, Stretch}
use Rattle.ec_target.proofs.Climbing.{passes_append, passes_none}
use Rattle.ec_target.specs.Paths.{Passes}

module _ {S : Type 0} (M : MachineMeaning S) where
  abbrev pub Along : Code → List ℕ → S → Bytes → S → Bytes → Type 0
  Along code path m b n c = Passes (M.goes code.words) M.place path m b n c

  passes_end : (code : Code) (m : S) (b : Bytes) (n : S) (c : Bytes) → Along code [] m b n c → (n ≡ m) × (c ≡ b)
  unfolding Passes
  passes_end code m b n c h = h

  module _ (old new : Code) (Alike : S → S → Type 0) (origin : ℕ → ℕ) (F : Follows M old new Alike origin) where
    pub record Reached (t : S) (bytes : Bytes) (path : List ℕ) (last : S) (memory : Bytes) : Type 0 where
      pub new_last : S
      pub new_path : List ℕ
      pub passes : Along new new_path t bytes new_last memory
      pub few : length new_path ≤ length path
      pub different : AreDifferent path → AreDifferent new_path
      pub comes_from : (j : ℕ) → IsIn j new_path → IsIn (origin j) path
      pub alike : Alike last new_last

    pub reaches : (fuel : ℕ) (s t : S) (bytes : Bytes) (path : List ℕ) (last : S) (memory : Bytes) → length path ≤ fuel → Alike s t →
        Along old path s bytes last memory → M.stops old.words last memory → Reached t bytes path last memory
    reaches fuel s t bytes [] last memory small alike run stop =
        let e = passes_end old s bytes last memory run in
        record {
          new_last = t;
          new_path = [];
          passes = subst (λ c. Along new [] t bytes t c) (sym e.1) (passes_none (M.goes new.words) M.place t bytes);
          few = omega arith;
          different = λ d. tt;
          comes_from = λ j h. absurd h;
          alike = subst (λ x. Alike x t) (sym e.0) alike;
        }
    reaches zero s t bytes (i ∷ path) last memory small alike run stop = absurd (omega (arith, small))
    reaches (suc fuel) s t bytes (i ∷ path) last memory small alike run stop =
        let z : Stretch M old new Alike origin s t bytes (i ∷ path) last memory = F.goes s t bytes i path last memory alike run stop in
        let some = z.is_some in
        let long : length (i ∷ path) ≡ length z.front + length z.behind = ap length z.splits ∙ length-append z.front z.behind in
        let less : length z.behind ≤ fuel = omega (arith, small, some, long) in
        let r = reaches fuel z.old_next z.new_next z.between z.behind last memory less z.alike z.old_left stop in
        let f = z.few in
        let g = r.few in
        let sum = length-append z.new_path r.new_path in
        record {
          new_last = r.new_last;
          new_path = z.new_path ++ r.new_path;
          passes = passes_append (M.goes new.words) M.place z.new_path r.new_path t bytes z.new_next z.between r.new_last memory z.new_passes
              r.passes;
          few = omega (arith, f, g, sum, long);
          different = λ d.
              let apart : AreDifferent (z.front ++ z.behind) = subst AreDifferent z.splits d in
              different_append z.new_path r.new_path z.different (r.different (different_behind z.front z.behind apart))
              (λ k p q. different_apart (origin k) z.front z.behind apart (z.comes_from k p) (r.comes_from k q));
          comes_from = λ j h. in_split (origin j) (i ∷ path) z.front z.behind z.splits (either j z.new_path r.new_path z.front z.behind
              (z.comes_from j) (r.comes_from j) (in_either j z.new_path r.new_path h));
          alike = r.alike;
        }
      where
        either : (j : ℕ) (xs ys front behind : List ℕ) → (IsIn j xs → IsIn (origin j) front) → (IsIn j ys → IsIn (origin j) behind) →
            IsIn j xs ⊎ IsIn j ys → IsIn (origin j) front ⊎ IsIn (origin j) behind
        either j xs ys front behind f g h = ⊎_elim (λ (a : IsIn j xs). inl (f a)) (λ (b : IsIn j ys). inr (g b)) h
