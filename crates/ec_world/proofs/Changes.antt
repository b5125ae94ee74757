-- What an effect makes of a process.
use Rattle.std.proofs.Common.{◌≡◌, ℕ, List, [], ◌∷◌, ◌++◌, Option, Some, None, refl, sym}
use Rattle.std.specs.Prelude.{IsSome}
use Rattle.ec_base.specs.Stack.{top_of, below_of}
use Rattle.ec_base.proofs.Stacks.{top_of_none}
use Rattle.ec_world.specs.Meaning.{ActivationMeaning}
use Rattle.ec_world.specs.World.{changed_at, finish_top, waiting}
use Rattle.ec_world.specs.declared.value.Value.{Value}
use Rattle.ec_world.specs.declared.process.ProcStatus.{ProcStatus}
use Rattle.ec_world.specs.declared.process.ProcStatus.TheVariants.{Ready}
use Rattle.ec_world.specs.declared.stop.Queue.{Queue}
use Rattle.ec_world.specs.declared.stop.Effect.TheVariants.{Calls, Blocks}

module _ {A : Type 0} (M : ActivationMeaning A) where
  pub no_top : (xs : List A) (v : Option Value) → None ≡ top_of xs → below_of xs ≡ finish_top M (below_of xs) (top_of xs) v
  no_top xs v e = rw (top_of_none xs (sym e)) refl

  -- the top is done and a new activation lies on it
  pub called : (xs : List A) (s : ProcStatus) (op own : ℕ) (args : List Value) → s ≡ Ready → IsSome (top_of xs) →
      Some (record { activations = finish_top M (below_of xs) (top_of xs) None ++ M.begun op own args ∷ []; status = s })
      ≡ changed_at M (below_of xs) (top_of xs) (Calls op own args)
  called xs s op own args r h = rw r (part (top_of xs) h)
    where
      part : (t : Option A) → IsSome t →
          Some (record { activations = finish_top M (below_of xs) t None ++ M.begun op own args ∷ []; status = Ready }) ≡ changed_at
          M (below_of xs) t (Calls op own args)
      part None k = cc
      part (Some t) k = refl

  -- the top is done and its process waits
  pub blocked : (xs : List A) (queue : Queue) (oid : ℕ) → IsSome (top_of xs) →
      Some (record { activations = finish_top M (below_of xs) (top_of xs) None; status = waiting queue oid }) ≡ changed_at M
      (below_of xs) (top_of xs) (Blocks queue oid)
  blocked xs queue oid h = part (top_of xs) h
    where
      part : (t : Option A) → IsSome t →
          Some (record { activations = finish_top M (below_of xs) t None; status = waiting queue oid }) ≡ changed_at M (below_of xs)
          t (Blocks queue oid)
      part None k = cc
      part (Some t) k = refl
