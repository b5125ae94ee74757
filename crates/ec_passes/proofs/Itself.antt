-- A code follows itself.
use Rattle.std.proofs.Common.{◌≡◌, ℕ, ◌+◌, ◌<◌, List, [], ◌∷◌, refl, sym, ap, ◌∙◌, subst, inl, arith}
use Rattle.std.proofs.lemmas.Option.{same_Some}
use Rattle.ec_base.specs.Bytes.{Bytes}
use Rattle.ec_machine_code.specs.Machine.{MachineMeaning}
use Rattle.ec_machine_code.specs.declared.code.Code.{Code}
use Rattle.ec_passes.specs.Following.{EachCodeFollowsItself, EndsAlike, Follows, KeepsStops, LiesIn, SameHomes, Stretch}
use Rattle.ec_target.specs.Paths.{Passes}

module _ {S : Type 0} (M : MachineMeaning S) (code : Code) where
  same : (s : S) → SameHomes M s s
  same s = record { frame = refl; owns = refl; home = λ k small. refl }

  keeps : KeepsStops M code code
  keeps = record {
    there = λ op n a h. (a, h);
    back = λ op n b e. (b, e);
    only = λ b w. (b, w, λ op n e. e);
    apart = λ op n k m a c b h i e f. same_Some a b (sym h.0 ∙ e) ∙ sym (same_Some c b (sym i.0 ∙ f));
    whole = λ e. e;
    within = λ op n a b h e lies. subst (LiesIn code op) (same_Some a b (sym h.0 ∙ e)) lies;
  }

  goes : (s t : S) (bytes : Bytes) (i : ℕ) (path : List ℕ) (last : S) (memory : Bytes) → s ≡ t →
      Passes (M.goes code.words) M.place (i ∷ path) s bytes last memory → M.stops code.words last memory →
      Stretch M code code (λ s t. s ≡ t) (λ j. j) s t bytes (i ∷ path) last memory
  unfolding Passes
  goes s t bytes i path last memory e (at, u, d, step, rest) stop = record {
    front = i ∷ [];
    behind = path;
    splits = refl;
    is_some = omega arith;
    old_next = u;
    new_next = u;
    between = d;
    old_left = rest;
    new_path = i ∷ [];
    new_passes = subst (λ x. Passes (M.goes code.words) M.place (i ∷ []) x bytes u d) e (at, u, d, step, (refl, refl));
    few = omega arith;
    different = (λ h. h, tt);
    comes_from = λ j h. h;
    alike = refl;
  }

  ends : (s t : S) (bytes : Bytes) → s ≡ t → M.stops code.words s bytes → EndsAlike M code code s t bytes
  ends s t bytes e stop = subst (λ x. EndsAlike M code code s x bytes) e
      (record { stops = stop; is_loaded = λ h. h; homes = same s; at = λ op n h. h })

  follows : Follows M code code (λ s t. s ≡ t) (λ j. j)
  follows = record {
    own = λ op j h. h;
    enters = λ op n a b t h e rests at.
        (t, rests, at ∙ ap (λ x. x + 4) (sym (same_Some a b (sym h.0 ∙ e))), same t, refl);
    goes = goes;
    ends = ends;
  }

pub each_code_follows_itself : {S : Type 0} (M : MachineMeaning S) → EachCodeFollowsItself M
each_code_follows_itself M code = (keeps M code, follows M code)
