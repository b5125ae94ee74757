-- What is told of room for blocks and for the texts of values.
use Rattle.std.proofs.Common.{◌≡◌, ℕ, List, Option, Some, None, subst}
use Rattle.std.specs.Prelude.{IfNone, IfSome}
use Rattle.ec_objects.specs.Lacks.{HasRoomForAll, LacksRoom, needs_at}
use Rattle.ec_world.specs.Held.{Fits, Lacks}
use Rattle.ec_world.specs.declared.room.Lack.{Lack}
use Rattle.ec_world.specs.declared.room.Needs.{Needs}
use Rattle.ec_things.specs.Store.{Store}
use Rattle.ec_things.specs.Texts.{NewBytes}
use Rattle.ec_world.specs.Group.{Has}
use Rattle.ec_world.specs.declared.value.Value.{Value}
use Rattle.ec_world.specs.declared.value.Value.TheVariants.{Str}

module _ (s : Store) (number blocks : ℕ) (values : List Value) (need free bytes free_bytes : ℕ) (need_is : need ≡ blocks)
    (free_is : free ≡ s.free) (new : NewBytes (λ text. Has values (Str text)) s bytes) (text_is : free_bytes ≡ s.text_free) where
  abbrev needs : Needs
  needs = record { blocks = need; free_blocks = free; bytes = bytes; free_bytes = free_bytes }

  needs_are : needs ≡ needs_at s blocks bytes
  needs_are = cc

  pub told_lack : (r : Option Lack) → IfSome r (λ f. (f.node ≡ number) × Lacks f.part needs f.need f.free) →
      IfSome r (λ lack. LacksRoom s number blocks values lack)
  told_lack None h = h
  told_lack (Some f) h = record {
    node = h.0;
    bytes = bytes;
    new = new;
    lacks = subst (λ (n : Needs). Lacks f.part n f.need f.free) needs_are h.1;
  }

  pub told_room : (r : Option Lack) → IfNone r (Fits needs) → IfNone r (HasRoomForAll s blocks values)
  told_room None h =
      let fits : Fits (needs_at s blocks bytes) = subst (λ (n : Needs). Fits n) needs_are h in
      record { blocks_fit = fits.0; texts_fit = record { bytes = bytes; needs = new; fits = fits.1 } }
  told_room (Some f) h = h
