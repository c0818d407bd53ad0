use Rattle.std.proofs.Common.{◌≡◌, drop}
use Rattle.expr_parser.specs.View.{views, arguments}
use Rattle.rules_reader.specs.Mentions.{variable_text, mentions_given, mentions_listed}
use Rattle.rules_reader.proofs.mentions.+mentioning.Given as goal

-- none of those before mentions it, so it is mentioned where one of those that are left does
abbrev pub invariant-is_given-loop-argument : goal.invariant-is_given-loop-argument
invariant-is_given-loop-argument l = mentions_given (variable_text l.variable) (arguments (drop l.argument-index l.arguments.items)) ≡ mentions_given (variable_text l.variable) (arguments l.arguments.items)

abbrev pub invariant-is_listed-loop-element : goal.invariant-is_listed-loop-element
invariant-is_listed-loop-element l = mentions_listed (variable_text l.variable) (views (drop l.element-index l.elements.items)) ≡ mentions_listed (variable_text l.variable) (views l.elements.items)
