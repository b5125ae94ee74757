use Rattle.std.proofs.Common.{◌≡◌, ◌≤◌, ◌+◌, ◌*◌, length, drop, replicate}
use Rattle.ec_generate.specs.Puts.{most_words, pick}
use Rattle.ec_generate.specs.Sites.{home_there, ops_there, size_there}
use Rattle.ec_generate.proofs.Loops.{filled, rest_size}
use Rattle.ec_generate.proofs.sizes.places.Given as goal

abbrev pub invariant-loop-spot : goal.invariant-loop-spot
invariant-loop-spot g l = record {
  table : filled (pick g.K.Kind.vocabularies l.span) (home_there l.site) (ops_there l.site) l.places.items l.at
      (drop l.spot l.site.order.now)
      ≡ filled (pick g.K.Kind.vocabularies l.span) (home_there l.site) (ops_there l.site) (replicate (l.count + 1) 0) 0 l.site.order.now;
  size : l.at + rest_size (pick g.K.Kind.vocabularies l.span) (home_there l.site) (ops_there l.site) l.site.order.now 0 l.spot
      ≡ size_there (pick g.K.Kind.vocabularies l.span) l.site;
  few : l.at ≤ 3 * most_words * l.spot;
  long : length l.places.items ≡ l.count + 1;
}
