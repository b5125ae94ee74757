-- Worlds after entries, one by one and run by run.
use Rattle.std.proofs.Common.{◌≡◌, ℕ, zero, suc, List, [], ◌∷◌, ◌++◌, Option, Some, None, refl, sym, ap, ◌∙◌}
use Rattle.ec_world.specs.declared.common.Common.{Common}
use Rattle.ec_world.specs.declared.world.World.{World}
use Rattle.ec_world.specs.declared.run.Entry.{Entry}
use Rattle.ec_world.specs.declared.run.RunEntry.{RunEntry}
use Rattle.ec_world.specs.Meaning.{ActivationMeaning}
use Rattle.ec_world.specs.Run.{RunState, statuses_of, next_entry, after_entry, after_entries, stepped, run_after}

module _ {A : Type 0} (M : ActivationMeaning A) (advance : Common → A → Common × A) where
  -- the entries of one list, and then those of another
  pub after_entries-append : (w : World A) (es fs : List RunEntry) →
      after_entries M advance w (es ++ fs) ≡ after_entries M advance (after_entries M advance w es) fs
  after_entries-append w [] fs = refl
  after_entries-append w (e ∷ es) fs = after_entries-append (after_entry M advance w e) es fs

  -- one entry more
  pub after_entries-push : (w : World A) (es : List RunEntry) (e : RunEntry) →
      after_entries M advance w (es ++ e ∷ []) ≡ after_entry M advance (after_entries M advance w es) e
  after_entries-push w es e = after_entries-append w es (e ∷ [])

  stepped_world : (w : World A) (s : RunState A) (e : Option RunEntry) → s.world ≡ after_entries M advance w s.done →
      (stepped M advance s e).world ≡ after_entries M advance w (stepped M advance s e).done
  stepped_world w s None h = h
  stepped_world w s (Some e) h = ap (λ v. after_entry M advance v e) h ∙ sym (after_entries-push w s.done e)

  -- the world of a run is the one after the entries done
  pub run_world : (w : World A) (schedule : List Entry) (k : ℕ) →
      (run_after M advance w schedule k).world ≡ after_entries M advance w (run_after M advance w schedule k).done
  unfolding run_after
  run_world w schedule zero = refl
  run_world w schedule (suc k) =
      let s = run_after M advance w schedule k in
      stepped_world w s (next_entry s.left (statuses_of s.world) s.last) (run_world w schedule k)
