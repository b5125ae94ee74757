use Rattle.std.proofs.Common.{◌≡◌, ◌+◌, ℕ, sym, ap, ◌∙◌, subst, arith}
use Rattle.ec_legs.proofs.Keeping.{bytes_none, first_kept}
use Rattle.ec_legs.proofs.Registers.{bytes_saved, saves_more, saves_none}
use Rattle.ec_legs.proofs.machine.save.Goals as goal
use Rattle.ec_legs.specs.Machines.{IsUnsaved, Saves}
use Rattle.ec_world.specs.declared.key.Key.TheVariants.{Frame}
use Rattle.ec_stores.specs.Node.{KeepsBytes, store_of}

pub read_reg-word-requires : goal.read_reg-word-requires
read_reg-word-requires g c = let there = g.met.N.NativeKind.registers.there in omega arith

pub set_word_in-requires-clause-owned : goal.set_word_in-requires-clause-owned
set_word_in-requires-clause-owned g c = (
  Frame c.args.process c.args.depth,
  first_kept (store_of c.args.node.now) (store_of c.loop-k.node) (Frame c.args.process c.args.depth) (Frame c.args.process c.args.depth)
      c.args.block (IsUnsaved c.loop-k.k) c.loop-k.invariant.0.keeps c.requires.first,
)

pub set_word_in-requires-clause-within : goal.set_word_in-requires-clause-within
set_word_in-requires-clause-within g c = let few = g.met.N.NativeKind.registers.few in omega arith

pub loop-k-init : goal.loop-k-init
loop-k-init g c = (
  saves_none g.N.NativeKind.meaning (store_of c.args.node.now) c.args.process c.args.depth c.requires.frame c.args.machine.now,
  bytes_none c.args.node.now (Frame c.args.process c.args.depth) (IsUnsaved 0),
)

pub loop-k-preserved : goal.loop-k-preserved
loop-k-preserved g c =
    let few = g.met.N.NativeKind.registers.few in
    let key = Frame c.args.process c.args.depth in
    let first = first_kept (store_of c.args.node.now) (store_of c.loop-k.node) key key c.args.block
    (IsUnsaved c.loop-k.k) c.loop-k.invariant.0.keeps c.requires.first in
    let m = c.args.machine.now in (
      saves_more g.N.NativeKind.meaning (store_of c.args.node.now) c.args.process c.args.depth c.requires.frame m (store_of c.loop-k.node)
          (store_of c.set_word_in.new.self) c.loop-k.k c.read_reg-word.result c.loop-k.invariant.0 (omega arith)
          (c.read_reg-word.ensures
          ∙ ap (λ (n : ℕ). g.M.Machine.register m (n + c.loop-k.k)) c.FIRST_HOME.ensures
          ∙ sym (g.met.N.NativeKind.means.register_is m (g.N.NativeKind.FIRST_HOME + c.loop-k.k))
          ∙ ap (λ (n : ℕ). g.N.NativeKind.meaning.register m (n + c.loop-k.k)) (sym g.met.N.NativeKind.registers.first_is))
          (c.set_word_in.ensures.writes key first),
      bytes_saved c.args.node.now c.loop-k.node c.set_word_in.new.self c.args.process c.args.depth c.loop-k.k
          (c.loop-k.invariant.0.keeps.rows (Frame c.args.process c.args.depth)) c.loop-k.invariant.1 (c.set_word_in.ensures.bytes key first),
    )

pub overflow_add-FIRST_HOME : goal.overflow_add-FIRST_HOME
overflow_add-FIRST_HOME g c =
    let there = g.met.N.NativeKind.registers.there in
    let small = g.met.N.NativeKind.registers.small in
    omega arith

pub returns-clause-saves : goal.returns-clause-saves
returns-clause-saves g c =
    let same : c.loop-k.k ≡ g.N.NativeKind.HOMES = omega arith in
    subst
    (λ n. Saves g.N.NativeKind.meaning (store_of c.args.node.now) (store_of c.loop-k.node) c.args.process c.args.depth n c.args.machine.now)
    same c.loop-k.invariant.0

pub returns-clause-bytes : goal.returns-clause-bytes
returns-clause-bytes g c =
    let same : c.loop-k.k ≡ g.N.NativeKind.HOMES = omega arith in
    subst (λ n. KeepsBytes c.args.node.now c.loop-k.node (Frame c.args.process c.args.depth) (IsUnsaved n)) same c.loop-k.invariant.1
