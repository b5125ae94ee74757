-- The links of the fields so far, and of one more.
use Rattle.std.proofs.Common.{◌≡◌, ◌<◌, ◌≤◌, min, List, Some, length, ap, sym, ◌∙◌, arith}
use Rattle.std.specs.Prelude.{option_to_list, slice_get}
use Rattle.ec_objects.specs.Values.{value_of}
use Rattle.ec_cluster.proofs.Elements.{made_kind, value_is, values_many, values_of, word_can}
use Rattle.ec_cluster.proofs.Linking.{links_end, links_more}
use Rattle.ec_cluster.proofs.Reading.{some_of}
use Rattle.ec_cluster.proofs.seen.links.links.Goals as goal
use Rattle.ec_stores.specs.Node.{store_of}
use Rattle.ec_world.specs.declared.class.ClassRec.{ClassRec}

pub loop-i-preserved : goal.loop-i-preserved
loop-i-preserved c =
    let seen = c.args.seen.now in
    let s = store_of c.in-Some.node.now in
    let o = c.in-Some.object in
    let h = c.in-Some.ensures.some in
    let f = c.at.result.now in
    let w = c.object_word-word.result in
    let there : slice_get seen.parts.classes c.in-Made.number ≡ Some c.in-Some-get.class.now =
    ap (λ (ks : List ClassRec). slice_get ks c.in-Made.number) (sym c.classes.ensures) ∙ c.in-Some-get.ensures.some in
    let kind =
    made_kind seen c.args.oid s o h c.in-Made.number c.loop-i.i c.in-Some-get.class.now f c.in-Made.is there c.at.ensures in
    let l : c.loop-i.i < o.size = omega arith in
    let v =
    some_of (value_of s f.of w) (word_can seen c.args.oid s o h c.loop-i.i w f.of c.object_word-word.ensures kind l) in
    links_more c.in-Some-get.class.now.fields (values_of seen c.args.oid) c.loop-i.i f v.0 c.loop-i.oids.items c.add.new.oids.items
    (option_to_list c.link_in.result) c.at.ensures
    (value_is seen c.args.oid s o h c.loop-i.i w f.of v.0 c.object_word-word.ensures kind l v.1) (c.link_in.ensures v.0 v.1)
    c.in_ok-add.ensures
    ∙ c.loop-i.invariant

pub returns : goal.returns
returns c =
    let many : length (values_of c.args.seen.now c.args.oid) ≡ c.in-Some.object.size =
    values_many c.args.seen.now c.args.oid (store_of c.in-Some.node.now) c.in-Some.object c.in-Some.ensures.some in
    let past : min (length c.in-Some-get.class.now.fields) (length (values_of c.args.seen.now c.args.oid)) ≤ c.loop-i.i =
    omega (arith, many) in
    sym (links_end c.in-Some-get.class.now.fields (values_of c.args.seen.now c.args.oid) c.loop-i.i c.loop-i.oids.items past)
    ∙ c.loop-i.invariant
