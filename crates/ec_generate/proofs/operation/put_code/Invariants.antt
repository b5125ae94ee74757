use Rattle.std.proofs.Common.{◌≡◌, ◌≤◌, ◌+◌, ◌++◌, length}
use Rattle.ec_generate.specs.Puts.{pick}
use Rattle.ec_generate.specs.Sites.{home_there, ops_there, size_there}
use Rattle.ec_machine_code.specs.Layout.{operation_words}
use Rattle.ec_generate.proofs.Loops.{rest_size, rest_words}
use Rattle.ec_generate.proofs.operation.put_code.Given as goal

abbrev pub invariant-loop-spot : goal.invariant-loop-spot
invariant-loop-spot g l = record {
  rest : l.words
      ++ rest_words (pick g.K.Kind.vocabularies l.span) (home_there l.site) (ops_there l.site) l.site.order.now l.start (length l.words)
      l.spot
      ≡ l.fn.words
      ++ operation_words (pick g.K.Kind.vocabularies l.span) (home_there l.site) (ops_there l.site) l.site.order.now l.start;
  size : length l.words + rest_size (pick g.K.Kind.vocabularies l.span) (home_there l.site) (ops_there l.site) l.site.order.now l.start l.spot
      ≡ l.start + size_there (pick g.K.Kind.vocabularies l.span) l.site;
  begins : l.start ≤ length l.words;
}
