-- Runs that code means are the machine's; they are short, come to one end, and trap nowhere.
use Rattle.std.proofs.Common.{◌≡◌, ℕ, zero, suc, ◌+◌, ◌^◌, ◌<◌, ◌≤◌, List, [], ◌∷◌, length, Some, arith}
use Rattle.std.specs.Prelude.{slice_get}
use Rattle.ec_base.specs.Bytes.{Bytes}
use Rattle.ec_code.specs.declared.code.Parts.{Parts}
use Rattle.ec_machine_code.specs.Faithful.{Faithful}
use Rattle.ec_machine_code.specs.Machine.{MachineMeaning}
use Rattle.ec_machine_code.specs.Stops.{address_of, words_before, words_if, words_in_all, words_of}
use Rattle.ec_machine_code.specs.declared.code.Code.{Code}
use Rattle.ec_machine_code.specs.declared.code.OperationCode.{OperationCode}
use Rattle.ec_machine_code.specs.declared.homes.Home.{Home}
use Rattle.ec_machine_code.specs.Speaks.{words_end}
use Rattle.ec_target.specs.Runs.{Going, Leads, Native, Standing}
use Rattle.ec_world.specs.declared.node.Kind.{Kind}
use Rattle.ec_legs.specs.Kinds.{Means}

module _ {S : Type 0} (M : MachineMeaning S) (kind : Kind) (goes : List ℕ → Going S) (stops : List ℕ → Standing S) (register : S → ℕ → ℕ)
    (place : S → ℕ) (rests : S → Type 0) (means : Means M kind goes stops register place rests) (code : List ℕ) where
  leads_so : (m : S) (b : Bytes) (k : ℕ) (n : S) (c : Bytes) → Leads (M.goes code) m b k n c → Leads (goes code) m b k n c
  unfolding Leads
  leads_so m b zero n c h = h
  leads_so m b (suc k) n c (u, d, first, rest) = (u, d, means.each_step code m b u d first, leads_so u d k n c rest)

  pub native_so : (m : S) (b : Bytes) (k : ℕ) (n : S) (c : Bytes) → Native (M.goes code) (M.stops code) m b k n c →
      Native (goes code) (stops code) m b k n c
  native_so m b k n c native = (leads_so m b k n c native.0, means.each_stop code n c native.1)

words_within : (os : List OperationCode) (op : ℕ) → words_before os op + words_if (slice_get os op) ≤ words_in_all os
words_within [] op = omega arith
words_within (o ∷ os) zero = omega arith
words_within (o ∷ os) (suc op) = let rest = words_within os op in omega arith

module _ {S : Type 0} (M : MachineMeaning S) (p : Parts) (code : Code) (homes : List (List Home)) (faithful : Faithful M p code homes)
    (few : length code.words ≤ words_end) where
  -- an operation has few words
  pub words_few : (op : ℕ) → words_of code op ≤ words_end
  words_few op =
      let within = words_within code.operations op in
      let whole = faithful.whole in
      omega arith

  -- the word behind a stop has an address
  pub behind_small : (op n address : ℕ) → address_of code op n ≡ Some address → address + 4 < 2 ^ 32
  behind_small op n address e =
      let within = words_within code.operations op in
      let whole = faithful.whole in
      let there = faithful.within op n address e in
      let below = there.1 in
      omega arith
