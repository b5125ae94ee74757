use Rattle.std.proofs.Common.{◌≡◌, ◌≤◌, ◌*◌, ◌+◌}
use Rattle.ec_generate.specs.Puts.{most_words, pick}
use Rattle.ec_generate.specs.Sites.{home_there, ops_there, size_there}
use Rattle.ec_generate.proofs.Loops.{rest_size}
use Rattle.ec_generate.proofs.sizes.size_of.Given as goal

abbrev pub invariant-loop-spot : goal.invariant-loop-spot
invariant-loop-spot g l = record {
  size : l.size + rest_size (pick g.K.Kind.vocabularies l.span) (home_there l.site) (ops_there l.site) l.site.order.now 0 l.spot
      ≡ size_there (pick g.K.Kind.vocabularies l.span) l.site;
  few : l.size ≤ 3 * most_words * l.spot;
}
