-- The wire form of parcels, version 1: which bytes spell which parcel. A definition stands under its line of the form and the rules
-- of that line. u8 is a byte, and u32 a number of four bytes, the highest first; list(x) is a count u32 and that many x. Nothing
-- stands behind the end of a parcel.
use Rattle.std.specs.Prelude.{◌≡◌, ℕ, zero, suc, Bool, true, ◌||◌, List, [], ◌∷◌, length, Option, Some, None, Ok, Err, nat_lt, codes}
use Rattle.ec_base.specs.Stack.{top_of}
use Rattle.ec_monitors.specs.declared.record.Hold.{Hold}
use Rattle.ec_monitors.specs.declared.record.MonitorRec.{MonitorRec}
use Rattle.ec_world.specs.declared.value.Value.{Value}
use Rattle.ec_world.specs.declared.value.Value.TheVariants.{Int, Str, Ref, Nil, Bool as Truth}
use Rattle.ec_formats.specs.Format.{◌>>=◌, Format, Read, IsSpelling}
use Rattle.ec_formats.specs.Combinators.{such_that, pair, ◌followed_by◌, through}
use Rattle.ec_formats.specs.Fields.{byte_at, mark, number, at_least, number_from, number_above, integer, truth, text}
use Rattle.ec_formats.specs.Lists.{optional, list, list_of}
use Rattle.ec_wire.specs.declared.parcel.ObjectPart.{ObjectPart}
use Rattle.ec_wire.specs.declared.parcel.MonitorPart.{MonitorPart}
use Rattle.ec_wire.specs.declared.parcel.ActivationPart.{ActivationPart}
use Rattle.ec_wire.specs.declared.parcel.Contents.{Contents}

-- value = 00 (nil) | 01 u32 (Int, two's complement) | 02 u8 (Bool, 0 or 1) | 03 u32 length, bytes (Str) | 04 u32 (Ref)
-- A Ref is at least 1, and a length at most 65,535.

abbrev pub value_spell : Value → List ℕ
value_spell Nil = 0 ∷ []
value_spell (Int z) = 1 ∷ integer.spell z
value_spell (Truth b) = 2 ∷ truth.spell b
value_spell (Str s) = 3 ∷ (text 65535).spell s
value_spell (Ref o) = 4 ∷ (number_from 1).spell o

unfoldable pub value_fits : Value → Bool
value_fits Nil = true
value_fits (Int z) = integer.fits z
value_fits (Truth b) = true
value_fits (Str s) = (text 65535).fits s
value_fits (Ref o) = (number_from 1).fits o

-- what stands behind a tag, which stood where so many bytes were left
abbrev pub tagged : ℕ → List ℕ → ℕ → Read Value
tagged zero bytes here = Ok (Nil, bytes)
tagged (suc zero) bytes here = integer.read bytes >>= λ z. Ok (Int z.0, z.1)
tagged (suc (suc zero)) bytes here = truth.read bytes >>= λ b. Ok (Truth b.0, b.1)
tagged (suc (suc (suc zero))) bytes here = (text 65535).read bytes >>= λ s. Ok (Str s.0, s.1)
tagged (suc (suc (suc (suc zero)))) bytes here = (number_from 1).read bytes >>= λ o. Ok (Ref o.0, o.1)
tagged (suc (suc (suc (suc (suc t))))) bytes here = Err here

unfoldable pub value_read : List ℕ → Read Value
value_read bytes = byte_at bytes >>= λ tag. tagged tag.0 tag.1 (length bytes)

abbrev pub value : Format Value
value = record { spell = value_spell; fits = value_fits; read = value_read }

-- object = number u32, class u32, list(value)
-- Numbers are at least 1 and rise strictly; there are at most 16,384 values.

abbrev pub last_number : Option ObjectPart → ℕ
last_number None = 0
last_number (Some last) = last.number

abbrev pub object : List ObjectPart → Format ObjectPart
object before =
    through (λ x. record { number = x.0; class = x.1.0; values = x.1.1 }) (λ o. (o.number, (o.class, o.values)))
    (number_above (last_number (top_of before))
    followed_by number
    followed_by list_of 16384 value)

-- pair = process u32, depth u32
-- A depth is at least 1.

abbrev pub hold : Format Hold
hold = through (λ x. record { process = x.0; depth = x.1 }) (λ h. (h.process, h.depth)) (number followed_by number_from 1)

-- monitor = object u32, held u8 (0 or 1), [ process u32, depth u32 where held is 1 ],
--           list(process u32) entry, list(pair) urgent, bottom first, list(list(pair)) conditions
-- Objects are at least 1 and rise strictly.

-- the greatest count of a list
abbrev pub most : ℕ
most = 4294967295

abbrev pub monitor_record : Format MonitorRec
monitor_record =
    through (λ x. record { holder = x.0; entry = x.1.0; urgent = x.1.1.0; conditions = x.1.1.1 })
    (λ m. (m.holder, (m.entry, (m.urgent, m.conditions))))
    (optional hold
    followed_by list_of most number
    followed_by list_of most hold
    followed_by list_of most (list_of most hold))

abbrev pub last_object : Option MonitorPart → ℕ
last_object None = 0
last_object (Some last) = last.object

abbrev pub monitor : List MonitorPart → Format MonitorPart
monitor before =
    through (λ x. record { object = x.0; monitor = x.1 }) (λ m. (m.object, m.monitor))
    (number_above (last_object (top_of before))
    followed_by monitor_record)

-- activation = process u32, depth u32, operation u32, stop u32, pending u8 (0 or 1), own object u32, list(value)
-- Activations rise strictly, by process and then by depth, which is 0 at the bottom of a process; an own object is at least 1;
-- there are at most 100 values.

abbrev pub process_follows : Option ActivationPart → ℕ → Bool
process_follows None process = true
process_follows (Some last) process = at_least last.process process

abbrev pub depth_follows : Option ActivationPart → ℕ → ℕ → Bool
depth_follows None process depth = true
depth_follows (Some last) process depth = nat_lt last.process process || nat_lt last.depth depth

abbrev pub activation : List ActivationPart → Format ActivationPart
activation before =
    through
    (λ x. record {
      process = x.0;
      depth = x.1.0;
      operation = x.1.1.0;
      stop = x.1.1.1.0;
      is_pending = x.1.1.1.1.0;
      own = x.1.1.1.1.1.0;
      values = x.1.1.1.1.1.1;
    })
    (λ a. (a.process, (a.depth, (a.operation, (a.stop, (a.is_pending, (a.own, a.values)))))))
    (pair (such_that number (process_follows (top_of before))) (λ process.
    such_that number (depth_follows (top_of before) process)
    followed_by number
    followed_by number
    followed_by truth
    followed_by number_from 1
    followed_by list_of 100 value))

-- parcel = 45 4D 56, version u8 = 1, list(object), list(monitor), list(activation)
-- The three letters are one field, and the version the next.

abbrev pub letters : List ℕ
letters = codes "EMV"

abbrev pub version : List ℕ
version = 1 ∷ []

abbrev pub parcel : Format Contents
parcel =
    through (λ x. record { objects = x.1.1.0; monitors = x.1.1.1.0; activations = x.1.1.1.1 })
    (λ p. (tt, (tt, (p.objects, (p.monitors, p.activations)))))
    (mark letters
    followed_by mark version
    followed_by list most object
    followed_by list most monitor
    followed_by list most activation)

-- the contents keep the rules of the wire form
abbrev pub KeepsRules : Contents → Type 0
KeepsRules contents = parcel.fits contents ≡ true

-- These bytes, and no more, are the parcel's with these contents, which keep the rules.
abbrev pub IsWire : Contents → List ℕ → Type 0
IsWire contents bytes = IsSpelling parcel contents bytes
