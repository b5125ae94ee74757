-- The addresses of stops, and the stop at each.
use Rattle.std.specs.Prelude.{◌≡◌, ◌≢◌, ℕ, ◌≤◌, ◌^◌, List, length, Option, Some, slice_get}
use Rattle.std.specs.BTreeMap.{BTreeMap, get}
use Rattle.std.specs.Ordering.{nat_cmp}
use Rattle.ec_machine_code.specs.Stops.{address_of, row_or_empty}
use Rattle.ec_machine_code.specs.declared.code.Code.{Code}
use Rattle.ec_machine_code.specs.declared.code.OperationCode.{OperationCode}
use Rattle.ec_generate.specs.declared.table.StopId.{StopId}

-- the address of stop n of an operation, among those of each operation's stops
abbrev pub address_in : List (List ℕ) → ℕ → ℕ → Option ℕ
address_in addresses op n = slice_get (row_or_empty (slice_get addresses op)) n

-- no two stops have one address
abbrev pub AreApart : Code → Type 0
AreApart code =
    (op n k m address : ℕ) → address_of code op n ≡ Some address → address_of code k m ≡ Some address → (op ≡ k) × (n ≡ m)

-- The map has each stop at its address, and no others.
pub record AreFound (found : BTreeMap ℕ StopId) (addresses : List (List ℕ)) : Type 0 where
  pub each :
      (op n address : ℕ) → address_in addresses op n ≡ Some address →
      get nat_cmp found address ≡ Some (record { operation = op; stop = n })
  pub only :
      (address : ℕ) (id : StopId) → get nat_cmp found address ≡ Some id → address_in addresses id.operation id.stop ≡ Some address

-- numbers of operations and of stops have 32 bits
pub record HasFew (code : Code) : Type 0 where
  pub operations : length code.operations ≤ 2 ^ 32
  pub stops : (op : ℕ) (o : OperationCode) → slice_get code.operations op ≡ Some o → length o.stops ≤ 2 ^ 32

-- the map has each of these stops of an operation at its address, and is as it was at all others
pub record Notes (old new : BTreeMap ℕ StopId) (op : ℕ) (stops : List ℕ) : Type 0 where
  pub each : (n address : ℕ) → slice_get stops n ≡ Some address → get nat_cmp new address ≡ Some (record { operation = op; stop = n })
  pub others : (address : ℕ) → ((n : ℕ) → slice_get stops n ≢ Some address) → get nat_cmp new address ≡ get nat_cmp old address
