use Rattle.std.proofs.Common.{◌≡◌, ◌+◌, ◌++◌, length}
use Rattle.ec_generate.proofs.Programs.{rest_codes, rest_size, rest_words}
use Rattle.ec_machine_code.specs.Layout.{operation_codes, program_words, size_of_all}
use Rattle.ec_generate.specs.Tables.{all_homes}
use Rattle.ec_generate.proofs.program.lay_out.Given as goal

abbrev pub invariant-loop-n : goal.invariant-loop-n
invariant-loop-n g l = record {
  words : l.words ++ rest_words g.K.Kind.vocabularies (all_homes l.table.operations) l.orders l.parts.operations l.n (length l.words)
      ≡ program_words g.K.Kind.vocabularies (all_homes l.table.operations) l.orders 0 0 l.parts.operations;
  codes : l.operations ++ rest_codes g.K.Kind.vocabularies (all_homes l.table.operations) l.orders l.parts.operations l.n (length l.words)
      ≡ operation_codes g.K.Kind.vocabularies (all_homes l.table.operations) l.orders 0 0 l.parts.operations;
  size : length l.words + rest_size g.K.Kind.vocabularies (all_homes l.table.operations) l.orders l.parts.operations l.n
      ≡ size_of_all g.K.Kind.vocabularies (all_homes l.table.operations) l.orders 0 l.parts.operations;
}
