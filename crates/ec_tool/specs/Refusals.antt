-- What is written of a node file or a schedule that breaks a rule: `refused N3`, `refused S1`, `refused S3 at line 2`.
use Rattle.std.specs.Prelude.{ℕ, List, [], ◌∷◌, ◌++◌, Option, Some, None, codes}
use Rattle.std.specs.Fmt.{decimal}
use Rattle.ec_inputs.specs.declared.nodes.NodeRule.{NodeRule}
use Rattle.ec_inputs.specs.declared.nodes.NodeRule.TheVariants as node_rule
use Rattle.ec_inputs.specs.declared.schedule.ScheduleRule.{ScheduleRule}
use Rattle.ec_inputs.specs.declared.schedule.ScheduleRule.TheVariants as schedule_rule

-- ---- node files

-- the rules are numbered from the least on
abbrev pub node_rule_name : NodeRule → List ℕ
node_rule_name node_rule.Length = codes "N1"
node_rule_name node_rule.Document = codes "N2"
node_rule_name node_rule.Tables = codes "N3"
node_rule_name node_rule.Keys = codes "N4"
node_rule_name node_rule.Name = codes "N5"
node_rule_name node_rule.Kind = codes "N6"
node_rule_name node_rule.Size = codes "N7"

abbrev pub nodes_line : NodeRule → List ℕ
nodes_line rule = codes "refused " ++ node_rule_name rule ++ 10 ∷ []

-- ---- schedules

-- the rules are numbered from the least on
abbrev pub schedule_rule_name : ScheduleRule → List ℕ
schedule_rule_name schedule_rule.Length = codes "S1"
schedule_rule_name schedule_rule.Byte = codes "S2"
schedule_rule_name schedule_rule.Word = codes "S3"
schedule_rule_name schedule_rule.Form = codes "S4"
schedule_rule_name schedule_rule.Number = codes "S5"

-- the line that breaks the rule, where it is one line's
abbrev pub line_text : Option ℕ → List ℕ
line_text None = []
line_text (Some line) = codes " at line " ++ decimal line

abbrev pub schedule_line : ScheduleRule → Option ℕ → List ℕ
schedule_line rule line = codes "refused " ++ schedule_rule_name rule ++ line_text line ++ 10 ∷ []
