-- The name after `end` differs from that of what ends, or the name of a class or typeobject from that of its constant.
-- The place is that name.
use Rattle.std.specs.Prelude.{List}
use Rattle.ec_ast.specs.declared.Name.{Name}
use Rattle.ec_ast.specs.declared.Typeobject.{Typeobject}
use Rattle.ec_types.specs.Names.{is_same}
use Rattle.ec_rules.specs.declared.Rule.TheVariants.{EndName}
use Rattle.ec_rules.specs.declared.StaticFault.{StaticFault}
use Rattle.ec_rules.specs.Parts.{OperationPart, Holder}
use Rattle.ec_rules.specs.Rules.{fault_unless}

-- the one name is not the other; the fault stands at the latter
abbrev pub differs : Name → Name → List StaticFault
differs name again = fault_unless (is_same name.text again.text) EndName again.at

abbrev pub end_of_holder : Holder → List StaticFault
end_of_holder holder = differs holder.name holder.end_name

abbrev pub end_of_operation : OperationPart → List StaticFault
end_of_operation o = differs o.name o.end_name

abbrev pub end_of_typeobject : Typeobject → List StaticFault
end_of_typeobject t = differs t.name t.end_name

-- The name of a class or a typeobject equals that of its constant.
abbrev pub name_of_constant : Name → Name → List StaticFault
name_of_constant constant own = differs constant own
