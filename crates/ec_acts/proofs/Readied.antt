-- Processes that are Ready now: their rows, and what nodes show of them.
use Rattle.std.proofs.Common.{◌≡◌, ℕ, zero, suc, List, [], ◌∷◌, Option, Some, None, refl, sym, ap, ◌∙◌}
use Rattle.std.specs.Prelude.{length, map, option_map, slice_get, slice_set}
use Rattle.std.proofs.lemmas.Option.{slice_get-map}
use Rattle.ec_base.proofs.Lists.{set_there}
use Rattle.ec_code.specs.declared.activation.CodeActivation.{CodeActivation}
use Rattle.ec_acts.specs.Rows.{row_readied, rows_readied}
use Rattle.ec_cluster.specs.Systems.{row_of}
use Rattle.ec_cluster.specs.declared.system.ProcessRow.{ProcessRow}
use Rattle.ec_things.proofs.Same.{stacks}
use Rattle.ec_world.specs.World.{all_readied, readied}
use Rattle.ec_world.specs.declared.process.Proc.{Proc}
use Rattle.ec_world.specs.declared.process.ProcStatus.TheVariants.{Ready}

module _ {A B : Type 0} (f : A → B) where
  pub map_set : (xs : List A) (i : ℕ) (x : A) → map f (slice_set xs i x) ≡ slice_set (map f xs) i (f x)
  map_set [] i x = refl
  map_set (y ∷ ys) zero x = refl
  map_set (y ∷ ys) (suc i) x = ap (λ r. f y ∷ r) (map_set ys i x)

-- ---- rows

abbrev pub rows_of : List (Proc CodeActivation) → List ProcessRow
rows_of ps = map row_of ps

pub rows_many : (ps : List (Proc CodeActivation)) → length (rows_of ps) ≡ length ps
rows_many [] = refl
rows_many (p ∷ ps) = ap suc (rows_many ps)

row_readied_is : (ps : List (Proc CodeActivation)) (q : ℕ) (x : Option (Proc CodeActivation)) →
    rows_of (readied ps q x) ≡ row_readied (rows_of ps) q (option_map row_of x)
row_readied_is ps q None = refl
row_readied_is ps q (Some proc) = map_set row_of ps q (record proc { status = Ready })

pub rows_readied_are : (ps : List (Proc CodeActivation)) (qs : List ℕ) → rows_of (all_readied ps qs) ≡ rows_readied (rows_of ps) qs
rows_readied_are ps [] = refl
rows_readied_are ps (q ∷ qs) =
    rows_readied_are (readied ps q (slice_get ps q)) qs
    ∙ ap (λ (rows : List ProcessRow). rows_readied rows qs)
    (row_readied_is ps q (slice_get ps q) ∙ ap (row_readied (rows_of ps) q) (sym (slice_get-map row_of ps q)))

-- ---- stacks

stack_kept : (ps : List (Proc CodeActivation)) (q : ℕ) (x : Option (Proc CodeActivation)) → slice_get ps q ≡ x →
    stacks (readied ps q x) ≡ stacks ps
stack_kept ps q None e = refl
stack_kept ps q (Some proc) e =
    map_set (λ (r : Proc CodeActivation). r.activations) ps q (record proc { status = Ready })
    ∙ set_there (stacks ps) q proc.activations
    (slice_get-map (λ (r : Proc CodeActivation). r.activations) ps q ∙ ap (option_map (λ (r : Proc CodeActivation). r.activations)) e)

pub stacks_kept : (ps : List (Proc CodeActivation)) (qs : List ℕ) → stacks (all_readied ps qs) ≡ stacks ps
stacks_kept ps [] = refl
stacks_kept ps (q ∷ qs) = stacks_kept (readied ps q (slice_get ps q)) qs ∙ stack_kept ps q (slice_get ps q) refl
