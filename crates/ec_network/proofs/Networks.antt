-- What a turn of its system is to a network.
use Rattle.std.proofs.Common.{◌≡◌, ℕ, None, Some, refl, sym, ap, ◌∙◌, subst}
use Rattle.std.proofs.lemmas.Option.{same_Some}
use Rattle.std.specs.Prelude.{IsSome}
use Rattle.ec_parcels.specs.Vectors.{IsTableOf}
use Rattle.ec_cluster.specs.Cluster.{CodeWorld}
use Rattle.ec_code.specs.Typing.{Declared}
use Rattle.ec_code.specs.declared.code.Parts.{Parts}
use Rattle.ec_world.specs.declared.room.Lack.{Lack}
use Rattle.ec_parcels.specs.Classes.{ClassTable}
use Rattle.ec_network.proofs.Turned.{turn_parts}
use Rattle.ec_network.specs.Moving.{MoveRefusedIn, MovedIn}
use Rattle.ec_network.specs.Nets.{Net, numbers_of, system_of}
use Rattle.ec_network.specs.Networks.{ForStanding, KeepsNumbers, NetMoved, NetTurned, Now}
use Rattle.ec_network.specs.Standing.{HasNumbers, Stands, StandsInSome}
use Rattle.ec_network.specs.Turns.{RefusedIn, TurnedIn}
use Rattle.ec_network.specs.Showing.{turned}
use Rattle.ec_network.specs.declared.nodes_running.network.Numbered.{Numbered}
use Rattle.ec_network.specs.declared.nodes_running.turns.Did.{Did}
use Rattle.ec_network.specs.declared.nodes_running.turns.Did.TheVariants.{Idle, Acted, Moved}
use Rattle.ec_network.specs.declared.nodes_running.turns.NetError.TheVariants.{Full}
use Rattle.ec_cluster.specs.declared.system.System.{System}
use Rattle.ec_world.specs.Moves.{OperatorMove}

-- what is told of each world of a system is told of a network that has it
pub for_standing : (P : Declared → System → CodeWorld → Type 0) (net : Net) (s : System) → system_of net ≡ Some s →
    ((d : Declared) (w : CodeWorld) → Stands d s w → P d s w) → ForStanding net P
for_standing P net s is told d x w e stands =
    let same : s ≡ x = same_Some s x (sym is ∙ e) in
    subst (λ (y : System). P d y w) same (told d w (subst (λ (y : System). Stands d y w) (sym same) stands))

pub is_there : (net : Net) (s : Numbered) → net ≡ Some s → IsSome net
is_there net s e = subst IsSome (sym e) refl

-- one whose system is there isn't spent
pub is_running : (net : Net) (s : System) → system_of net ≡ Some s → IsSome net
is_running None s e = cc
is_running (Some n) s e = refl

pub net_turned : (old : Net) (s t : Numbered) (p : ℕ) (did : Did) → old ≡ Some s →
    ((d : Declared) (w : CodeWorld) → Stands d s.system w → TurnedIn d s.system t.system w p did) → NetTurned old (Some t) p did
net_turned old s t p did is told =
    for_standing _ old s.system (ap system_of is) (λ d w stands. record { system = t.system; is = refl; told = told d w stands })

pub net_full : (old : Net) (s t : Numbered) (p : ℕ) (lack : Lack) → old ≡ Some s →
    ((d : Declared) (w : CodeWorld) → Stands d s.system w → RefusedIn s.system t.system w p (Full lack)) →
    ForStanding old (λ d x w. Now (Some t) (λ y. RefusedIn x y w p (Full lack)))
net_full old s t p lack is told =
    for_standing _ old s.system (ap system_of is) (λ d w stands. record { system = t.system; is = refl; told = told d w stands })

-- where the numbers are those that it had
pub keeps_numbers : (old new : Net) (s t : Numbered) → old ≡ Some s → new ≡ Some t → t.numbers ≡ s.numbers → KeepsNumbers old new
keeps_numbers old new s t is then same there = ap numbers_of then ∙ (ap Some same ∙ sym (ap numbers_of is))

-- ---- turns

-- a turn leaves a system that stands in some world, with the same program
pub record IsLeft (s t : System) : Type 0 where
  pub stands : StandsInSome t
  pub parts : t.cluster.parts ≡ s.cluster.parts

told_stands : (d : Declared) (s t : System) (w : CodeWorld) (p : ℕ) (did : Did) → Stands d s w → TurnedIn d s t w p did → IsLeft s t
told_stands d s t w p Idle stands idle = record {
  stands = (d, (w, subst (λ (y : System). Stands d y w) (sym idle.same) stands));
  parts = ap (λ (y : System). y.cluster.parts) idle.same;
}
told_stands d s t w p (Acted steps) stands turn = record { stands = (d, (turned s w p, turn.stands)); parts = turn_parts d s t w p steps turn }
told_stands d s t w p Moved stands none = absurd none

same_left : (s t : System) → StandsInSome s → t ≡ s → IsLeft s t
same_left s t some same = record {
  stands = subst StandsInSome (sym same) some;
  parts = ap (λ (y : System). y.cluster.parts) same;
}

numbers_left : (s t : System) (table : ClassTable) → IsLeft s t → HasNumbers s table → HasNumbers t table
numbers_left s t table left numbers = subst (λ (p : Parts). IsTableOf p table) (sym left.parts) numbers

-- so the network has what it had
pub has_left : (s t : System) (table : ClassTable) → IsLeft s t → HasNumbers s table → StandsInSome t × HasNumbers t table
has_left s t table left numbers = (left.stands, numbers_left s t table left numbers)

pub turned_left : (s t : System) (p : ℕ) (did : Did) → StandsInSome s →
    ((d : Declared) (w : CodeWorld) → Stands d s w → TurnedIn d s t w p did) → IsLeft s t
turned_left s t p did some told = told_stands some.0 s t some.1.0 p did some.1.1 (told some.0 some.1.0 some.1.1)

pub full_left : (s t : System) (p : ℕ) (lack : Lack) → StandsInSome s →
    ((d : Declared) (w : CodeWorld) → Stands d s w → RefusedIn s t w p (Full lack)) → IsLeft s t
full_left s t p lack some told = same_left s t some (told some.0 some.1.0 some.1.1).same

-- ---- moves by the operator

pub net_moved : (old : Net) (s t : Numbered) (o k : ℕ) (did : Did) → old ≡ Some s →
    ((d : Declared) (w : CodeWorld) → Stands d s.system w → MovedIn d s.system t.system w o k did) → NetMoved old (Some t) o k did
net_moved old s t o k did is told =
    for_standing _ old s.system (ap system_of is) (λ d w stands. record { system = t.system; is = refl; told = told d w stands })

pub move_full : (old : Net) (s t : Numbered) (o k : ℕ) (lack : Lack) → old ≡ Some s →
    ((d : Declared) (w : CodeWorld) → Stands d s.system w → MoveRefusedIn s.system t.system w o k (Full lack)) →
    ForStanding old (λ d x w. Now (Some t) (λ y. MoveRefusedIn x y w o k (Full lack)))
move_full old s t o k lack is told =
    for_standing _ old s.system (ap system_of is) (λ d w stands. record { system = t.system; is = refl; told = told d w stands })

shift_stands : (d : Declared) (s t : System) (w : CodeWorld) (o k : ℕ) (did : Did) → Stands d s w → MovedIn d s t w o k did → IsLeft s t
shift_stands d s t w o k Idle stands idle = same_left s t (d, (w, stands)) idle.same
shift_stands d s t w o k (Acted steps) stands none = absurd none
shift_stands d s t w o k Moved stands m = record { stands = (d, (OperatorMove w o k, m.stands)); parts = m.moved.comes.texts.parts }

pub moved_left : (s t : System) (o k : ℕ) (did : Did) → StandsInSome s →
    ((d : Declared) (w : CodeWorld) → Stands d s w → MovedIn d s t w o k did) → IsLeft s t
moved_left s t o k did some told = shift_stands some.0 s t some.1.0 o k did some.1.1 (told some.0 some.1.0 some.1.1)

pub move_full_left : (s t : System) (o k : ℕ) (lack : Lack) → StandsInSome s →
    ((d : Declared) (w : CodeWorld) → Stands d s w → MoveRefusedIn s t w o k (Full lack)) → IsLeft s t
move_full_left s t o k lack some told = same_left s t some (told some.0 some.1.0 some.1.1).same
