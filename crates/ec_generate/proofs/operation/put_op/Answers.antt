use Rattle.std.proofs.Common.{◌≡◌, ◌∙◌, ◌++◌, ap, length}
use Rattle.std.proofs.lemmas.Result.{on_ok_weaker}
use Rattle.ec_generate.specs.Puts.{pick}
use Rattle.ec_generate.specs.Sites.{home_there, place_there}
use Rattle.ec_generate.proofs.Loops.{words_behind}
use Rattle.ec_machine_code.specs.Direct.{laid_op}
use Rattle.ec_machine_code.specs.Layout.{ending_words}
use Rattle.ec_generate.proofs.operation.put_op.Goals as goal

pub returns : goal.returns
returns g c =
    let V = pick g.K.Kind.vocabularies c.args.span in
    let site = c.args.site.now in
    let place_of = place_there V site c.args.start in
    let old = c.args.words.now in
    let mid = c.put_steps.new.words in
    let new = c.put_ending.new.words in
    on_ok_weaker c.put_ending.result
    (λ (e : new ≡ mid ++ ending_words V place_of c.args.next c.args.q (length mid) c.ending_at-ending.result).
    words_behind V (home_there site) place_of c.args.next c.args.q (laid_op site.code.now c.args.q c.args.op.now) old mid new
    c.in_ok-put_steps.ensures
    (e ∙ ap (λ i. mid ++ ending_words V place_of c.args.next c.args.q (length mid) i) c.ending_at-ending.ensures))
    c.put_ending.ensures
