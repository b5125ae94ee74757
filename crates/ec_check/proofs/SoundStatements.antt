-- A statement or a block of sound parts is sound.
use Rattle.std.proofs.Common.{◌≡◌, true, false, List, [], ◌∷◌, ◌++◌, map, Option, Some, None, option_map}
use Rattle.ec_ast.specs.declared.Expression.TheOpen.{Statement-F}
use Rattle.ec_check.proofs.Every.{Every, Where, every_joined, every_left, every_right, none_left, none_right, none_each}
use Rattle.ec_check.proofs.KnownTypes.{HasType, written_has_type, type_is_known}
use Rattle.ec_check.proofs.SoundForms.{constant_has_type}
use Rattle.ec_check.proofs.SoundParts.{SoundPart, SoundPiece, SoundStatement, SoundArm, part_types}
use Rattle.ec_check.proofs.SoundScopes.{SoundScope, TypedEntry, sound_declaring, sound_in_a_loop}
use Rattle.ec_check.specs.Layers.{statement_judged}
use Rattle.ec_check.specs.Parts.{Part, Piece, StatementPart, ArmPart, AStatement, ABlock, arm_judged}
use Rattle.ec_check.specs.Tree.{statement_step, block_step}
use Rattle.ec_check.specs.Typing.{types_in, arm_within, block_within, statement_within, statements_within}
use Rattle.ec_rules.specs.Judging.{statement_part, statement_finished, entries_of, own_faults, block_finished}
use Rattle.ec_rules.specs.Lists.{each}
use Rattle.ec_rules.specs.Operands.{wrong_in_statement}
use Rattle.ec_rules.specs.Parts as judged
use Rattle.ec_rules.specs.Statements.{piece_of, piece_of_arm, pieces_of_block}
use Rattle.ec_rules.specs.declared.StaticFault.{StaticFault}
use Rattle.ec_types.specs.declared.scopes.scope.Scope.{Scope}
use Rattle.ec_types.specs.Scopes.{declaring, in_a_loop}

-- ---- the parts of a statement are sound

abbrev pub SoundParts : AStatement → Type 0
SoundParts (Statement-F.LocalVariable name of value) = Where SoundPart value
SoundParts (Statement-F.LocalConstant name of value) = SoundPart value
SoundParts (Statement-F.Assign target value) = SoundPart target × SoundPart value
SoundParts (Statement-F.Invoke x) = SoundPart x
SoundParts (Statement-F.Print x at) = SoundPart x
SoundParts (Statement-F.If arms other at) = Every SoundArm arms × Where SoundPiece other
SoundParts (Statement-F.Loop block at) = SoundPiece block
SoundParts (Statement-F.Exit when at) = Where SoundPart when
SoundParts (Statement-F.Return at) = Unit {0}
SoundParts (Statement-F.Assert x at) = SoundPart x
SoundParts (Statement-F.Move x to at) = SoundPart x × SoundPart to
SoundParts (Statement-F.Fix x place at) = SoundPart x × SoundPart place
SoundParts (Statement-F.Refix x place at) = SoundPart x × SoundPart place
SoundParts (Statement-F.Unfix x at) = SoundPart x
SoundParts (Statement-F.Wait name at) = Unit {0}
SoundParts (Statement-F.Signal name at) = Unit {0}

-- ---- the types within

one_within : (scope : Scope) (p : Part) (more : List StaticFault) → SoundScope scope → SoundPart p →
    each (λ (piece : judged.Piece). (piece scope).faults) (piece_of p.part ∷ []) ++ more ≡ [] → Every HasType (types_in scope p)
one_within scope p more s h e = part_types scope p s h (none_left _ _ (none_left _ _ e))

two_within : (scope : Scope) (p q : Part) (more : List StaticFault) → SoundScope scope → SoundPart p → SoundPart q →
    each (λ (piece : judged.Piece). (piece scope).faults) (piece_of p.part ∷ piece_of q.part ∷ []) ++ more ≡ [] →
    Every HasType (types_in scope p ++ types_in scope q)
two_within scope p q more s h k e =
    every_joined HasType (types_in scope p) (types_in scope q) (part_types scope p s h (none_left _ _ (none_left _ _ e)))
    (part_types scope q s k (none_left _ _ (none_right _ _ (none_left _ _ e))))

arms_within : (scope : Scope) (arms : List ArmPart) → SoundScope scope → Every SoundArm arms →
    Every (λ (piece : judged.Piece). (piece scope).faults ≡ []) (map piece_of_arm (map arm_judged arms)) →
    Every HasType (each (arm_within scope) arms)
arms_within scope [] s h e = tt
arms_within scope (a ∷ arms) s h e =
    every_joined HasType (arm_within scope a) (each (arm_within scope) arms)
    (every_joined HasType (types_in scope a.condition) (a.block.within scope)
    (part_types scope a.condition s h.0.0 (none_left _ _ e.0))
    (h.0.1 scope s (none_right _ _ (none_right _ _ e.0))))
    (arms_within scope arms s h.1 e.1)

other_within : (scope : Scope) (other : Option Piece) → SoundScope scope → Where SoundPiece other →
    Every (λ (piece : judged.Piece). (piece scope).faults ≡ []) (pieces_of_block (option_map (λ b. b.piece) other)) →
    Every HasType (block_within scope other)
other_within scope None s h e = tt
other_within scope (Some b) s h e = h scope s e.0

types_are_known : (x : AStatement) → SoundParts x → (scope : Scope) → SoundScope scope →
    (statement_finished (statement_judged x) scope).faults ≡ [] → Every HasType (statement_within x scope)
types_are_known (Statement-F.LocalVariable name of None) h scope s e = tt
types_are_known (Statement-F.LocalVariable name of (Some value)) h scope s e = one_within scope value _ s h e
types_are_known (Statement-F.LocalConstant name of value) h scope s e = one_within scope value _ s h e
types_are_known (Statement-F.Assign target value) h scope s e = two_within scope target value _ s h.0 h.1 e
types_are_known (Statement-F.Invoke x) h scope s e = h.within false scope s (none_left _ _ (none_left _ _ e))
types_are_known (Statement-F.Print x at) h scope s e = one_within scope x _ s h e
types_are_known (Statement-F.If arms other at) h scope s e =
    let pieces : Every (λ (piece : judged.Piece). (piece scope).faults ≡ [])
    (map piece_of_arm (map arm_judged arms) ++ pieces_of_block (option_map (λ b. b.piece) other)) =
    none_each (λ (piece : judged.Piece). (piece scope).faults)
    (map piece_of_arm (map arm_judged arms) ++ pieces_of_block (option_map (λ b. b.piece) other)) (none_left _ _ e) in
    every_joined HasType (each (arm_within scope) arms) (block_within scope other)
    (arms_within scope arms s h.0
    (every_left (λ (piece : judged.Piece). (piece scope).faults ≡ []) (map piece_of_arm (map arm_judged arms))
    (pieces_of_block (option_map (λ b. b.piece) other)) pieces))
    (other_within scope other s h.1
    (every_right (λ (piece : judged.Piece). (piece scope).faults ≡ []) (map piece_of_arm (map arm_judged arms))
    (pieces_of_block (option_map (λ b. b.piece) other)) pieces))
types_are_known (Statement-F.Loop block at) h scope s e =
    h (in_a_loop scope) (sound_in_a_loop scope s) (none_left _ _ (none_left _ _ e))
types_are_known (Statement-F.Exit None at) h scope s e = tt
types_are_known (Statement-F.Exit (Some x) at) h scope s e = one_within scope x _ s h e
types_are_known (Statement-F.Return at) h scope s e = tt
types_are_known (Statement-F.Assert x at) h scope s e = one_within scope x _ s h e
types_are_known (Statement-F.Move x to at) h scope s e = two_within scope x to _ s h.0 h.1 e
types_are_known (Statement-F.Fix x place at) h scope s e = two_within scope x place _ s h.0 h.1 e
types_are_known (Statement-F.Refix x place at) h scope s e = two_within scope x place _ s h.0 h.1 e
types_are_known (Statement-F.Unfix x at) h scope s e = one_within scope x _ s h e
types_are_known (Statement-F.Wait name at) h scope s e = tt
types_are_known (Statement-F.Signal name at) h scope s e = tt

-- ---- what is declared

wrong_of : (scope : Scope) (s : judged.AStatement) → own_faults scope s ≡ [] → wrong_in_statement scope s ≡ []
wrong_of scope s e = none_left _ _ (none_right _ _ (none_right _ _ e))

entries_are_typed : (x : AStatement) → SoundParts x → (scope : Scope) → SoundScope scope →
    (statement_finished (statement_judged x) scope).faults ≡ [] → Every TypedEntry (entries_of (statement_judged x) scope)
entries_are_typed (Statement-F.LocalVariable name of value) h scope s e =
    (written_has_type _ (type_is_known scope.table of (none_left _ _ (none_right _ _ e))), tt)
entries_are_typed (Statement-F.LocalConstant name of value) h scope s e = (
  constant_has_type scope name of value.part (h.form true scope (none_left _ _ (none_left _ _ e)))
      (none_left _ _ (none_right _ _ e))
      (wrong_of scope (statement_judged (Statement-F.LocalConstant name of value)) (none_right _ _ e)),
  tt,
)
entries_are_typed (Statement-F.Assign target value) h scope s e = tt
entries_are_typed (Statement-F.Invoke x) h scope s e = tt
entries_are_typed (Statement-F.Print x at) h scope s e = tt
entries_are_typed (Statement-F.If arms other at) h scope s e = tt
entries_are_typed (Statement-F.Loop block at) h scope s e = tt
entries_are_typed (Statement-F.Exit when at) h scope s e = tt
entries_are_typed (Statement-F.Return at) h scope s e = tt
entries_are_typed (Statement-F.Assert x at) h scope s e = tt
entries_are_typed (Statement-F.Move x to at) h scope s e = tt
entries_are_typed (Statement-F.Fix x place at) h scope s e = tt
entries_are_typed (Statement-F.Refix x place at) h scope s e = tt
entries_are_typed (Statement-F.Unfix x at) h scope s e = tt
entries_are_typed (Statement-F.Wait name at) h scope s e = tt
entries_are_typed (Statement-F.Signal name at) h scope s e = tt

pub statement_is_sound : (x : AStatement) → SoundParts x → SoundStatement (statement_step x)
unfolding statement_step statement_part
statement_is_sound x h = record {
  within = λ scope s e. types_are_known x h scope s e;
  declares = λ scope s e. entries_are_typed x h scope s e;
}

-- ---- blocks

statements_are_known : (xs : List StatementPart) → Every SoundStatement xs → (scope : Scope) → SoundScope scope →
    (block_finished (map (λ x. x.part) xs) scope).faults ≡ [] → Every HasType (statements_within xs scope)
statements_are_known [] h scope s e = tt
statements_are_known (x ∷ xs) h scope s e =
    every_joined HasType (x.within scope) (statements_within xs (declaring (x.part.declares scope) scope))
    (h.0.within scope s (none_left _ _ e))
    (statements_are_known xs h.1 (declaring (x.part.declares scope) scope)
    (sound_declaring (x.part.declares scope) scope s (h.0.declares scope s (none_left _ _ e))) (none_right _ _ e))

pub block_is_sound : (b : ABlock) → Every SoundStatement b.statements → SoundPiece (block_step b)
unfolding block_step
block_is_sound b h = λ scope s e. statements_are_known b.statements h scope s e
