-- A command that is described argument by argument.
use Rattle.std.proofs.Common.{◌≡◌, ◌∙◌, ap, ap₂, Bool, false, ◌||◌}
use Rattle.clap.specs.Words.{App, Rule, AddsArg, AddsSubcommand, app_of, rule_of, with_rule, with_subcommand}
use Rattle.clap.specs.declared.builder.arg.Arg.{Arg}
use Rattle.clap.specs.declared.builder.command.Command.{Command}
use Rattle.clap.specs.declared.builder.command.Command.TheViews.{out-Command}

-- the command is this one, and has no argument of all commands
pub record IsDescribed (command : Command) (app : App) : Type 0 where
  pub app_is : app_of command ≡ app
  pub own : (out-Command command).has_globals ≡ false

-- the argument is this one, of its command alone
pub record IsOwn (arg : Arg) (rule : Rule) : Type 0 where
  pub rule_is : rule_of arg ≡ rule
  pub own : arg.global ≡ false

-- the command with one argument more
pub with_arg : (old new : Command) (arg : Arg) (app : App) (rule : Rule) → IsDescribed old app → IsOwn arg rule → AddsArg old arg new → IsDescribed new (with_rule app rule)
with_arg old new arg app rule is of adds = record {
  app_is = adds.shape of.own ∙ ap₂ with_rule is.app_is of.rule_is;
  own = adds.globals ∙ ap₂ (λ (a b : Bool). a || b) is.own of.own;
}

-- the command with one subcommand more
pub with_command : (old sub new : Command) (app below : App) → IsDescribed old app → IsDescribed sub below → AddsSubcommand old sub new → IsDescribed new (with_subcommand app below.top)
with_command old sub new app below is of adds = record {
  app_is = adds.shape of.own ∙ ap₂ with_subcommand is.app_is (ap (λ (a : App). a.top) of.app_is);
  own = adds.globals ∙ ap₂ (λ (a b : Bool). a || b) is.own of.own;
}
