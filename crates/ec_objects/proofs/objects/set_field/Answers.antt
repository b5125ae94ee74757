-- The word that was made stands for the value.
use Rattle.std.proofs.Common.{◌∙◌}
use Rattle.ec_world.specs.declared.key.Key.TheVariants.{Object}
use Rattle.ec_objects.proofs.Setting.{field_put, field_texts}
use Rattle.ec_objects.proofs.objects.set_field.Goals as goal
use Rattle.ec_stores.specs.Node.{store_of}

pub set_object_word-requires : goal.set_object_word-requires
set_object_word-requires c = record {
  row = c.requires.owns.row;
  there = c.in_ok-word.ensures.only.rows (Object c.args.oid) ∙ c.requires.owns.there;
  within = c.requires.owns.within;
}

pub returns-clause-puts : goal.returns-clause-puts
returns-clause-puts c = λ o shown inside.
    field_put (store_of c.args.node.now) (store_of c.word_for.new.node) (store_of c.set_object_word.new.self) c.args.oid c.args.field
    c.in_ok-word.word c.args.value.now c.in_ok-word.ensures c.set_object_word.ensures o shown inside

pub returns-clause-gets : goal.returns-clause-gets
returns-clause-gets c =
    field_texts (store_of c.args.node.now) (store_of c.word_for.new.node) (store_of c.set_object_word.new.self) c.args.oid c.args.field
    c.in_ok-word.word c.args.value.now c.in_ok-word.ensures c.set_object_word.ensures
