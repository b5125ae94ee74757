use Rattle.std.proofs.lemmas.List.{take-map}
use Rattle.ec_types.specs.declared.scopes.entries.Entry.{Entry}
use Rattle.ec_types.proofs.scopes.entries.Entries.truncate.Goals as goal

pub invariant_of-self : goal.invariant_of-self
invariant_of-self c = let e = take-map (λ (own : Entry). own.name) c.args.count c.self.inside.entries.items in cc
