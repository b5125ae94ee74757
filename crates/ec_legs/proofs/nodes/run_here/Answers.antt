-- Each arm runs the code for the node's kind.
use Rattle.std.proofs.Common.{◌≡◌, sym, ◌∙◌, subst}
use Rattle.ec_cluster.specs.Images.{homes_on, image_of}
use Rattle.ec_legs.proofs.nodes.run_here.Goals as goal
use Rattle.ec_legs.specs.Nodes.{IsCodeFor, RunsOn}
use Rattle.ec_legs.specs.Legs.{Leg}
use Rattle.ec_stores.specs.Node.{store_of}
use Rattle.ec_world.specs.declared.node.Kind.{Kind}
use Rattle.ec_world.specs.declared.node.Kind.TheVariants.{Mips, Riscv}

pub returns-in-Riscv-clause-leg : goal.returns-in-Riscv-clause-leg
returns-in-Riscv-clause-leg c = λ d p common a o steps.
    let images = c.args.images.now in
    let s = store_of c.args.node.now in
    let kind : s.kind ≡ Riscv = sym c.kind.ensures.kind ∙ c.in-Riscv.is in
    subst (λ (z : Kind). Leg (image_of images z).code p (homes_on images) common a s (store_of c.go_on.new.node) c.args.process
    c.args.depth c.go_on.result) (sym kind)
    (c.go_on.ensures.leg d p (homes_on images) common a o (subst (IsCodeFor d p images) kind steps.is_code) steps.can_step steps.shows)

pub returns-in-Riscv-clause-native : goal.returns-in-Riscv-clause-native
returns-in-Riscv-clause-native c =
    let kind : c.args.node.now.kind ≡ Riscv = sym c.kind.ensures.kind ∙ c.in-Riscv.is in
    subst
    (λ (z : Kind). RunsOn z c.args.images.now c.args.node.now c.go_on.new.node c.args.process c.args.depth c.go_on.result) (sym kind)
    c.go_on.ensures.native

pub returns-in-Mips-clause-leg : goal.returns-in-Mips-clause-leg
returns-in-Mips-clause-leg c = λ d p common a o steps.
    let images = c.args.images.now in
    let s = store_of c.args.node.now in
    let kind : s.kind ≡ Mips = sym c.kind.ensures.kind ∙ c.in-Mips.is in
    subst (λ (z : Kind). Leg (image_of images z).code p (homes_on images) common a s (store_of c.go_on-in-Mips.new.node) c.args.process
    c.args.depth c.go_on-in-Mips.result) (sym kind)
    (c.go_on-in-Mips.ensures.leg d p (homes_on images) common a o (subst (IsCodeFor d p images) kind steps.is_code) steps.can_step
    steps.shows)

pub returns-in-Mips-clause-native : goal.returns-in-Mips-clause-native
returns-in-Mips-clause-native c =
    let kind : c.args.node.now.kind ≡ Mips = sym c.kind.ensures.kind ∙ c.in-Mips.is in
    subst
    (λ (z : Kind). RunsOn z c.args.images.now c.args.node.now c.go_on-in-Mips.new.node c.args.process c.args.depth
    c.go_on-in-Mips.result) (sym kind) c.go_on-in-Mips.ensures.native
