-- What native code finds at a node.
use Rattle.std.proofs.Common.{◌≡◌, ℕ, zero, suc, ◌^◌, ◌<◌, ◌≤◌, List, length, Option, Some, refl, sym, subst, arith}
use Rattle.std.specs.Prelude.{IsSome}
use Rattle.ec_base.proofs.Lists.{get_within}
use Rattle.ec_memory.proofs.Places.{block_word_there}
use Rattle.ec_stores.specs.Memory.{held}
use Rattle.ec_stores.specs.Node.{Laid, NodeData, bytes_in, store_of}
use Rattle.ec_stores.specs.Readable.{IsSmall, StandsIn}
use Rattle.ec_stores.specs.Tables.{local_in}
use Rattle.ec_stores.proofs.Writing.{few_global}

small_local : (named : List ℕ) (i oid : ℕ) → length named < 2 ^ 32 → local_in named i ≡ Some oid → i < 2 ^ 32
small_local named zero oid few e = absurd cc
small_local named (suc i) oid few e = let l = get_within named i oid e in omega arith

module _ (node : NodeData) (laid : Laid node) where
  pub stands_in : StandsIn (store_of node) (bytes_in node)
  stands_in = record {
    there = λ key r b i is has l. block_word_there (held node.memory) laid.whole b i (laid.owners.within key r b is has) l;
    words = λ b i. refl;
    constants = λ i. refl;
  }

  pub is_small : length node.locals < 2 ^ 32 → length node.pool.texts ≤ 2 ^ 32 → IsSmall (store_of node)
  is_small few_locals few_texts = record {
    locals = λ i oid e. small_local node.locals i oid few_locals e;
    texts = λ i text e. (let l = get_within node.pool.texts i text e in omega arith);
    blocks = λ key r b is has. (let w = laid.owners.within key r b is has in let f = laid.whole.few_blocks in omega arith);
    constants = λ i w e. few_global node i laid (subst (λ (o : Option ℕ). IsSome o) (sym e) refl);
  }
