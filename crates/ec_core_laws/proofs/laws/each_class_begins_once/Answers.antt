-- Each class of an accepted program has one operation 0 and at most one process section.
use Rattle.ec_check.proofs.NumberedPrograms.{classes_rise}
use Rattle.ec_core_laws.proofs.Beginnings.{each_begins_once}
use Rattle.ec_core_laws.proofs.laws.each_class_begins_once.Goals as goal

pub returns : goal.returns
returns start table program is none places = each_begins_once table program is none (classes_rise table program is places)
