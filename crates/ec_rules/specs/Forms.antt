-- The form of an expression, as far as what stands around it asks for it.
use Rattle.ec_ast.specs.declared.Name.{Name}
use Rattle.ec_ast.specs.declared.Span.{Span}
use Rattle.ec_ast.specs.declared.TypeName.{TypeName}
use Rattle.ec_types.specs.declared.conform.static_type.StaticType.{StaticType}
use Rattle.ec_rules.specs.declared.form.Form.{Form as FormLent}
use Rattle.ec_rules.specs.declared.form.Form.TheVariants as lent

pub data Form : Type 0 where
  Literal : StaticType → Form
  Negated : Form
  Constructor : Span → Form
  Vector : TypeName → Form
  Created : Name → Form
  Itself : Form
  NameAlone : Name → Form
  Other : Form

-- the same with the names and types that are lent
abbrev pub form_seen : FormLent → Form
form_seen (lent.Literal of) = Literal of
form_seen lent.Negated = Negated
form_seen (lent.Constructor at) = Constructor at
form_seen (lent.Vector of) = Vector of.now
form_seen (lent.Created name) = Created name.now
form_seen lent.Itself = Itself
form_seen (lent.NameAlone name) = NameAlone name.now
form_seen lent.Other = Other
