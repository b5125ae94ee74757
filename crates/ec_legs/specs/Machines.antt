-- A machine that is set up for an activation, and an activation that rests where a machine has come to.
use Rattle.std.specs.Prelude.{◌≡◌, ◌≢◌, ℕ, ◌+◌, ◌<◌, ◌^◌, List, Some}
use Rattle.ec_machine_code.specs.Frames.{block_at, first_saved}
use Rattle.ec_machine_code.specs.Machine.{MachineMeaning}
use Rattle.ec_world.specs.declared.key.Key.TheVariants.{Frame, Object}
use Rattle.ec_generate.specs.Addresses.{address_in}
use Rattle.ec_stores.specs.Changes.{FirstBlock, HasBlock, WordIs}
use Rattle.ec_things.specs.Store.{Store}
use Rattle.ec_legs.specs.Words.{KeepsWords}

-- the headings of a frame that are the operation, the stop, whether its action is pending, and the own object
abbrev pub operation_word : ℕ
operation_word = 2

abbrev pub stop_word : ℕ
stop_word = 3

abbrev pub pending_word : ℕ
pending_word = 4

abbrev pub own_word : ℕ
own_word = 5

-- none of the words in which the first n homes are saved
abbrev pub IsUnsaved : ℕ → ℕ → Type 0
IsUnsaved n j = (k : ℕ) → k < n → j ≢ first_saved + k

-- nor the headings that name the stop
abbrev pub IsUntouched : ℕ → ℕ → Type 0
IsUntouched n j = (j ≢ stop_word) × (j ≢ pending_word) × IsUnsaved n j

module _ {S : Type 0} (M : MachineMeaning S) where
  -- the first n homes have the words that a frame keeps for them, and other registers are as they were
  pub record Restores (s : Store) (process depth n : ℕ) (old new : S) : Type 0 where
    pub homes : (k w : ℕ) → k < n → WordIs s (Frame process depth) (first_saved + k) w → M.register new (M.first_home + k) ≡ w
    pub others : (r : ℕ) → ((k : ℕ) → k < n → r ≢ M.first_home + k) → M.register new r ≡ M.register old r

  -- A machine rests at a place: its base registers have the addresses of the first blocks of a frame and of an object, and its homes the
  -- words that the frame keeps for them.
  pub record IsSetUp (s : Store) (process depth own place : ℕ) (m : S) : Type 0 where
    pub rests : M.rests m
    pub at : M.place m ≡ place
    pub frame : (b : ℕ) → FirstBlock s (Frame process depth) b → M.register m M.frame_base ≡ block_at b
    pub object : (b : ℕ) → FirstBlock s (Object own) b → M.register m M.own_base ≡ block_at b
    pub homes : (k w : ℕ) → k < M.homes → WordIs s (Frame process depth) (first_saved + k) w → M.register m (M.first_home + k) ≡ w

  -- the first n homes are saved in their words of a frame, and nothing else has changed
  pub record Saves (s s' : Store) (process depth n : ℕ) (m : S) : Type 0 where
    pub saved : (k : ℕ) → k < n → WordIs s' (Frame process depth) (first_saved + k) (M.register m (M.first_home + k))
    pub keeps : KeepsWords s s' (Frame process depth) (IsUnsaved n)

  -- A frame names the stop at which a machine is, pending, and has its homes; nothing else has changed.
  pub record RestsWhere (addresses : List (List ℕ)) (s s' : Store) (process depth : ℕ) (m : S) : Type 0 where
    pub operation : ℕ
    pub number : ℕ
    pub is_there : address_in addresses operation number ≡ Some (M.place m)
    pub stop : WordIs s' (Frame process depth) stop_word number
    pub pending : WordIs s' (Frame process depth) pending_word 1
    pub saved : (k : ℕ) → k < M.homes → WordIs s' (Frame process depth) (first_saved + k) (M.register m (M.first_home + k))
    pub keeps : KeepsWords s s' (Frame process depth) (IsUntouched M.homes)

-- The stop that a frame names has an address, and so has the word behind it.
abbrev pub NamesStop : List (List ℕ) → Store → ℕ → ℕ → Type 0
NamesStop addresses s process depth =
    (operation number : ℕ) →
    WordIs s (Frame process depth) operation_word operation →
    WordIs s (Frame process depth) stop_word number →
    (address : ℕ) × (address_in addresses operation number ≡ Some address) × (address + 4 < 2 ^ 32)

-- the object that a frame names as the own one has a block
abbrev pub NamesObject : Store → ℕ → ℕ → Type 0
NamesObject s process depth = (own : ℕ) → WordIs s (Frame process depth) own_word own → HasBlock s (Object own)

-- A machine is set up for an activation at the word behind its stop.
pub record IsBehindStop {S : Type 0} (M : MachineMeaning S) (addresses : List (List ℕ)) (s : Store) (process depth : ℕ) (m : S) :
    Type 0 where
  pub operation : ℕ
  pub number : ℕ
  pub own : ℕ
  pub address : ℕ
  pub operation_is : WordIs s (Frame process depth) operation_word operation
  pub stop_is : WordIs s (Frame process depth) stop_word number
  pub own_is : WordIs s (Frame process depth) own_word own
  pub is_there : address_in addresses operation number ≡ Some address
  pub set_up : IsSetUp M s process depth own (address + 4) m
