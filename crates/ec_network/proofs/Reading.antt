-- What is read of nodes is what the world has that they show.
use Rattle.std.proofs.Common.{◌≡◌, ℕ, Bool, Option, Some, None, refl, sym, ap, ◌∙◌}
use Rattle.std.specs.Prelude.{option_map}
use Rattle.ec_cluster.specs.Cluster.{CodeWorld}
use Rattle.ec_network.specs.Networks.{class_at, fixed_at}
use Rattle.ec_world.specs.Objects.{fixed_if, object_at}
use Rattle.ec_world.specs.Sights.{Sight, class_of, sight_of}
use Rattle.ec_world.specs.declared.class.ClassNo.{ClassNo}
use Rattle.ec_world.specs.declared.common.Common.{Common}
use Rattle.ec_world.specs.declared.object.ObjectRec.{ObjectRec}

fixed_there : (o : Option ObjectRec) (class : ClassNo) → class_of o ≡ Some class →
    Some (fixed_if o) ≡ option_map (λ (x : ObjectRec). x.fixed) o
fixed_there None class e = absurd cc
fixed_there (Some o) class e = refl

not_there : (o : Option ObjectRec) → class_of o ≡ None → None ≡ option_map (λ (x : ObjectRec). x.fixed) o
not_there None e = refl
not_there (Some o) e = absurd cc

module _ (seen : Common) (w : CodeWorld) (oid : ℕ) (same : sight_of seen ≡ sight_of w.common) where
  pub class_read : (class : Option ClassNo) → class ≡ (sight_of seen).class oid → class ≡ class_at w oid
  class_read class is = is ∙ ap (λ (s : Sight). s.class oid) same

  pub fixed_read : (class : ClassNo) (fixed : Bool) → Some class ≡ (sight_of seen).class oid → fixed ≡ (sight_of seen).fixed oid →
      Some fixed ≡ fixed_at w oid
  fixed_read class fixed is flag =
      ap Some (flag ∙ ap (λ (s : Sight). s.fixed oid) same)
      ∙ fixed_there (object_at w.common.objects oid) class (sym (class_read (Some class) is))

  pub none_read : None ≡ (sight_of seen).class oid → None ≡ fixed_at w oid
  none_read is = not_there (object_at w.common.objects oid) (sym (class_read None is))
