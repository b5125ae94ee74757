-- What a kind of machine means to code is what its machine does; and its registers that are homes.
use Rattle.std.specs.Prelude.{◌≡◌, ◌≢◌, ℕ, ◌+◌, ◌<◌, ◌≤◌, ◌^◌, List}
use Rattle.ec_base.specs.Bytes.{Bytes}
use Rattle.ec_machine_code.specs.Machine.{MachineMeaning}
use Rattle.ec_stores.specs.Memory.{number_of}
use Rattle.ec_target.specs.Runs.{Going, Standing}
use Rattle.ec_world.specs.declared.node.Kind.{Kind}

module _ {S : Type 0} (M : MachineMeaning S) where
  -- each step and each stop that code means is one of the machine's, and so is all else that is meant
  pub record Means (kind : Kind) (goes : List ℕ → Going S) (stops : List ℕ → Standing S) (register : S → ℕ → ℕ) (place : S → ℕ)
      (rests : S → Type 0) : Type 0 where
    pub kind_is : M.kind ≡ kind
    pub each_step : (code : List ℕ) (m : S) (b : Bytes) (n : S) (c : Bytes) → M.goes code m b n c → goes code m b n c
    pub each_stop : (code : List ℕ) (m : S) (b : Bytes) → M.stops code m b → stops code m b
    pub register_is : (m : S) (r : ℕ) → M.register m r ≡ register m r
    pub place_is : (m : S) → M.place m ≡ place m
    pub rests_so : (m : S) → rests m → M.rests m
    pub number_is : M.number ≡ number_of M.kind

  -- The homes are so many registers from one on, at most twenty, as a frame has words to save them in; none of them is a base register.
  pub record AreHomeRegisters (registers frame own first homes : ℕ) : Type 0 where
    pub frame_is : M.frame_base ≡ frame
    pub own_is : M.own_base ≡ own
    pub first_is : M.first_home ≡ first
    pub homes_are : M.homes ≡ homes
    pub there : first + homes ≤ registers
    pub small : registers < 2 ^ 32
    pub few : homes ≤ 20
    pub not_zero : 0 < first
    pub not_frame : (k : ℕ) → k < homes → first + k ≢ frame
    pub not_own : (k : ℕ) → k < homes → first + k ≢ own
