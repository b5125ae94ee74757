-- Nothing is there yet, and no field is a text.
use Rattle.ec_objects.proofs.Creating.{no_texts_fit}
use Rattle.ec_node_trials.proofs.objects.an_object_has_its_words.Goals as goal
use Rattle.ec_world.specs.declared.key.Key.TheVariants.{Object}
use Rattle.ec_stores.specs.Node.{store_of}

pub create_object-requires-clause-new : goal.create_object-requires-clause-new
create_object-requires-clause-new g c = c.in_ok-node.ensures.rows (Object 3)

pub create_object-requires-clause-texts : goal.create_object-requires-clause-texts
create_object-requires-clause-texts g c = no_texts_fit (store_of c.in_ok-node.node) _ tt
