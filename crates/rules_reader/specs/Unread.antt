-- Why a text was not read as a rule.
use Rattle.std.specs.Prelude.{ℕ, List, ⊤}
use Rattle.expr_tokens.specs.declared.fault.ExprFault.{ExprFault}
use Rattle.expr_tokens.specs.declared.fault.ExprFault.TheVariants as text_fault
use Rattle.expr_types.specs.declared.fault.TypeFault.{TypeFault}
use Rattle.expr_types.specs.declared.fault.TypeFault.TheVariants as type_fault
use Rattle.rules_reader.specs.Part.{Pattern}
use Rattle.rules_reader.specs.declared.kind.Kind.{Kind}
use Rattle.rules_reader.specs.declared.fault.RuleFault.TheVariants.{BadExpression, NotInProfile, TypeError, UnknownName}
use Rattle.rules_reader.specs.declared.fault.LeftOut.TheVariants.{Sign, Name}
use Rattle.rules_reader.specs.declared.rule_text.Unread.{Unread}
use Rattle.rules_reader.specs.declared.rule_text.Unread.TheVariants.{NoRule, NoMemory}
use Rattle.rules_reader.specs.Spelled.{IsNoRule}

-- what a fault in the syntax of a text comes to: the text is no rule, or memory was refused
abbrev pub of_expr_fault : ExprFault → Unread
of_expr_fault (text_fault.BadExpression byte) = NoRule (BadExpression byte)
of_expr_fault (text_fault.NotInProfile excluded) = NoRule (NotInProfile (Sign excluded))
of_expr_fault text_fault.NoMemory = NoMemory

-- what a fault in the types of an expression comes to: its text is no rule, or memory was refused
abbrev pub of_type_fault : TypeFault → Unread
of_type_fault (type_fault.NotInProfile name) = NoRule (NotInProfile (Name name))
of_type_fault type_fault.TypeError = NoRule TypeError
of_type_fault (type_fault.UnknownName name) = NoRule (UnknownName name)
of_type_fault type_fault.NoMemory = NoMemory

-- the text is no rule of this kind there for this fault, or memory was refused
abbrev pub Stops : Pattern → Kind → List ℕ → Unread → Type 0
Stops at kind text (NoRule fault) = IsNoRule at kind text fault
Stops at kind text NoMemory = ⊤
