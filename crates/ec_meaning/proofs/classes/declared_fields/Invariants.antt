use Rattle.std.proofs.Common.{◌≡◌, map, take}
use Rattle.ec_meaning.specs.Programs.{declared_field}
use Rattle.ec_meaning.proofs.classes.declared_fields.Given as goal

abbrev pub invariant-loop-field : goal.invariant-loop-field
invariant-loop-field l = l.found ≡ map declared_field (take l.field-index l.fields)
