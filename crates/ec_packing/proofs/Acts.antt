-- A monitor has a spelling after each act that is done to it.
use Rattle.std.proofs.Common.{ℕ, ◌<◌, ◌^◌, ◌==◌, Bool, true, false, [], length, replicate, Option, Some, None, sym, subst, arith}
use Rattle.std.proofs.lemmas.Bool.Decides.{nat_tests}
use Rattle.std.proofs.lemmas.List.{length-replicate}
use Rattle.std.specs.Prelude.{nat_lt}
use Rattle.ec_packing.proofs.Conditions.{AsMany, dropped_many, left_many, signalled_many, waited_many}
use Rattle.ec_packing.specs.Between.{CanBeSpelled}
use Rattle.ec_monitors.proofs.Depths.{each_deep}
use Rattle.ec_monitors.specs.Laws.{HasDepths, KeptByEachAct}
use Rattle.ec_monitors.specs.Monitors.{Granting, dropped, enter_by, enter_held, entered, is_held_by, left, made, signalled, waited}
use Rattle.ec_monitors.specs.declared.record.Hold.{Hold}
use Rattle.ec_monitors.specs.declared.record.MonitorRec.{MonitorRec}
use Rattle.ec_world.proofs.Counting.{if_case}
use Rattle.ec_world.specs.Outcomes.{at_condition, by_holder}

abbrev deep : KeptByEachAct HasDepths
deep = each_deep

-- so it is after an act that keeps depths and leaves as many queues
after : (old new : MonitorRec) → CanBeSpelled old → HasDepths new → AsMany new old → CanBeSpelled new
after old new s depths same = record { depths = depths; conditions = subst (λ n. n < 2 ^ 32) (sym same) s.conditions }

pub made_spelled : (conditions : ℕ) → conditions < 2 ^ 32 → CanBeSpelled (made (replicate conditions []))
made_spelled conditions few = record {
  depths = deep.of_new conditions;
  conditions = subst (λ n. n < 2 ^ 32) (sym (length-replicate conditions [])) few;
}

-- ---- entering

again_spelled : (m : MonitorRec) (p : ℕ) (h : Hold) (within : Bool) → CanBeSpelled m → CanBeSpelled (enter_held m p h within).0
again_spelled m p h true s = record { depths = (omega arith, s.depths.1, s.depths.2); conditions = s.conditions }
again_spelled m p h false s = record { depths = s.depths; conditions = s.conditions }

enter_spelled : (m : MonitorRec) (p : ℕ) (h : Option Hold) → CanBeSpelled m → CanBeSpelled (enter_by m p h).0
enter_spelled m p None s = record { depths = (omega arith, s.depths.1, s.depths.2); conditions = s.conditions }
enter_spelled m p (Some h) s = again_spelled m p h (h.process == p) s

pub entered_spelled : (m : MonitorRec) (p : ℕ) → CanBeSpelled m → CanBeSpelled (entered m p).0
entered_spelled m p s = enter_spelled m p m.holder s

-- ---- acts of the holder

module _ (m : MonitorRec) (p : ℕ) (s : CanBeSpelled m) where
  by_holding : (act : Granting) → CanBeSpelled act.0 → CanBeSpelled (by_holder p m act).0
  by_holding act h = if_case (λ (g : Granting). CanBeSpelled g.0) (is_held_by m p) act (m, None) (λ held. h) (λ other. s)

  of_condition : (c : ℕ) (act : Granting) → (c < length m.conditions → CanBeSpelled act.0) → CanBeSpelled (at_condition m c act).0
  of_condition c act h =
      if_case (λ (g : Granting). CanBeSpelled g.0) (nat_lt c (length m.conditions)) act (m, None)
      (λ there. h (grind (arith, nat_tests))) (λ none. s)

  pub left_spelled : CanBeSpelled (by_holder p m (left m)).0
  left_spelled = by_holding (left m) (after m (left m).0 s (deep.by_leaving m s.depths) (left_many m))

  pub dropped_spelled : CanBeSpelled (by_holder p m (dropped m)).0
  dropped_spelled = by_holding (dropped m) (after m (dropped m).0 s (deep.by_dropping m s.depths) (dropped_many m))

  pub waited_spelled : (c : ℕ) → CanBeSpelled (by_holder p m (at_condition m c (waited m c))).0
  waited_spelled c =
      by_holding (at_condition m c (waited m c))
      (of_condition c (waited m c) (λ there. after m (waited m c).0 s (deep.by_waiting m c there s.depths) (waited_many m c)))

  pub signalled_spelled : (c : ℕ) → CanBeSpelled (by_holder p m (at_condition m c (signalled m c))).0
  signalled_spelled c =
      by_holding (at_condition m c (signalled m c))
      (of_condition c (signalled m c) (λ there. after m (signalled m c).0 s (deep.by_signalling m c there s.depths) (signalled_many m c)))
