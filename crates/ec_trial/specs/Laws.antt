-- What holds of each trial.
use Rattle.std.specs.Prelude.{◌≡◌, ℕ, ◌+◌, ◌*◌, ◌<◌, ◌≤◌, All, length}
use Rattle.ec_world.specs.declared.run.RunEntry.{RunEntry}
use Rattle.ec_world.specs.declared.run.RunEntry.TheVariants.{TurnOf, MoveOf}
use Rattle.ec_trial.specs.declared.drawn.Drawn.{Drawn}
use Rattle.ec_trial.specs.Draws.{drawn_from}
use Rattle.ec_trial.specs.Texts.{nodes_text, schedule_text, source_text}

-- how much is drawn
pub record IsSmall (d : Drawn) : Type 0 where
  pub two_workers : 2 ≤ d.workers
  pub eight_workers : d.workers ≤ 8
  pub most_rounds : d.rounds ≤ 2000
  pub most_start : d.start < 1000
  pub one_node : 1 ≤ d.nodes
  pub six_nodes : d.nodes ≤ 6
  pub kinds : length d.kinds ≡ d.nodes
  pub entries : length d.entries ≡ 300

abbrev pub EachTrialIsSmall : Type 0
EachTrialIsSmall = (n : ℕ) → IsSmall (drawn_from n)

-- An entry for w workers on m nodes: a turn of one of the w + 1 processes, or a move of an object that is no node's to a node.
abbrev pub IsEntryFor : ℕ → ℕ → RunEntry → Type 0
IsEntryFor w m (TurnOf p) = p < w + 1
IsEntryFor w m (MoveOf o k) = (m < o) × (o < m + 1 + (2 * w + 2)) × (k < m)

abbrev pub EachEntryNamesWhatIsThere : Type 0
EachEntryNamesWhatIsThere = (n : ℕ) → All (IsEntryFor (drawn_from n).workers (drawn_from n).nodes) (drawn_from n).entries

-- the bytes of the three texts
pub record AreShort (d : Drawn) : Type 0 where
  pub source : length (source_text d) ≤ 1000
  pub nodes : length (nodes_text d) ≤ 400
  pub schedule : length (schedule_text d) ≤ 4200

abbrev pub EachTextIsShort : Type 0
EachTextIsShort = (n : ℕ) → AreShort (drawn_from n)
