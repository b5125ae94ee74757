-- The code of blocks, and of arms behind their conditions.
use Rattle.std.proofs.Common.{ℕ, zero, suc, ◌+◌, not, List, [], ◌∷◌, ◌++◌, drop, length, Option, Some, None, sym, subst}
use Rattle.std.proofs.Common.{append_assoc}
use Rattle.ec_check.proofs.Every.{Every, Where}
use Rattle.ec_code.specs.declared.code.Line.{Line}
use Rattle.ec_code.specs.declared.code.Op.{Op}
use Rattle.ec_emission.specs.Statements.{Choice, Done, arm_code, arms_code, in_order, jump_over, unless}
use Rattle.ec_accepted.proofs.Pieces.{Setting, Piece, go_on, in_turn, silent}
use Rattle.ec_accepted.proofs.Shown.{AskedOf, frame}
use Rattle.ec_accepted.proofs.FineProgramsForms.{branches, jumps}
use Rattle.ec_accepted.proofs.Reaching.{Begins, Continues, as_ops, behind_piece, further_behind, wanting}
use Rattle.ec_accepted.proofs.Stages.{IsSound, Stage}

module _ (w : Setting) where
  -- Wherever the code stands in a loop, it is well typed from where statements begin to where the next one does; its
  -- exits lead
  -- behind the loop.
  abbrev pub IsFine : Done → Type 0
  IsFine d = (left : ℕ) → Piece w (d.code left) (frame w []) (Continues w left)

  pub record IsFineArm (c : Choice) : Type 0 where
    pub asked : AskedOf w c.condition []
    pub block : IsFine c.block

  pub all_fine : (ds : List Done) → Every IsFine ds → (left : ℕ) →
      Piece w (in_order ds left) (frame w []) (Continues w left)
  all_fine [] h left = silent (λ rest c. c.0)
  all_fine (d ∷ ds) h left =
      let r : Piece w (in_order ds left) (frame w []) (Continues w left) = all_fine ds h.1 left in
      in_turn (h.0 (length (in_order ds left) + left)) r
      (λ rest c opens. (opens, subst (λ z. Begins w z) (sym (further_behind w r left rest)) c.1))

module _ (g : Stage) (sound : IsSound g) where
  abbrev w : Setting
  w = g.setting

  -- the rest of the arms is passed over, if there is any
  over_rest : (k : ℕ) → Piece w (jump_over k) (frame w []) (Continues w k)
  over_rest zero = silent (λ rest c. c.0)
  over_rest (suc k) = jumps g sound (suc k)

  -- what is wanted behind the block of an arm, and behind the step that passes over the rest
  abbrev BehindBlock : ℕ → ℕ → ℕ → List Line → Type 0
  BehindBlock over rest left lines = Continues w (over + (rest + left)) lines × Begins w (drop over lines)

  abbrev BehindJump : ℕ → ℕ → List Line → Type 0
  BehindJump rest left lines = Continues w rest lines × Begins w (drop (rest + left) lines)

  module _ (c : Choice) (rest : List Op) (left : ℕ) (h : IsFineArm w c) where
    abbrev over : List Op
    over = jump_over (length rest)

    abbrev block : List Op
    block = c.block.code (length over + (length rest + left))

    abbrev test : Op
    test = unless c.condition (length block + length over)

    tested_block : Piece w (test ∷ block) (frame w h.asked.held) (BehindBlock (length over) (length rest) left)
    tested_block =
        let own : Piece w block (frame w []) (BehindBlock (length over) (length rest) left) =
        wanting w (h.block (length over + (length rest + left))) (λ lines k. k.0) in
        in_turn (branches g sound h.asked.held c.condition.asks h.asked.test (not c.condition.wanted) (length block +
        length over)) own
        (λ lines k opens. (opens, subst (λ z. Begins w z) (sym (further_behind w own (length over) lines)) k.1))

    left_block : Piece w ((test ∷ block) ++ over) (frame w h.asked.held) (BehindJump (length rest) left)
    left_block =
        let own : Piece w over (frame w []) (BehindJump (length rest) left) =
        wanting w (over_rest (length rest)) (λ lines k. k.0) in
        in_turn tested_block own
        (λ lines k opens. (
          (opens, subst (λ z. Begins w z) (sym (further_behind w own (length rest + left) lines)) k.1),
          subst (λ z. Begins w z) (sym (behind_piece w own lines)) k.0.0,
        ))

    -- an arm, and the arms behind it
    arm_fine : Piece w rest (frame w []) (Continues w left) → Piece w (arm_code c rest left) (frame w []) (Continues w left)
    arm_fine r =
        go_on h.asked.code
        (as_ops w (append_assoc (test ∷ block) over rest)
        (in_turn left_block r
        (λ lines k opens. (
          (opens, subst (λ z. Begins w z) (sym (behind_piece w r lines)) k.0),
          subst (λ z. Begins w z) (sym (further_behind w r left lines)) k.1,
        ))))

  pub arms_fine : (cs : List Choice) (other : Option Done) → Every (IsFineArm w) cs → Where (IsFine w) other → (left : ℕ) →
      Piece w (arms_code cs other left) (frame w []) (Continues w left)
  arms_fine [] None h o left = silent (λ rest c. c.0)
  arms_fine [] (Some d) h o left = o left
  arms_fine (c ∷ cs) other h o left = arm_fine c (arms_code cs other left) left h.0 (arms_fine cs other h.1 o left)
