use Rattle.std.proofs.Common.{◌∙◌, ap, codes}
use Rattle.std.specs.Prelude.{IfOk}
use Rattle.std.proofs.lemmas.Result.{IfOk-weaker}
use Rattle.clap.specs.Words.{rule_of, new_app}
use Rattle.clap.specs.Simple.{app_of_fields}
use Rattle.command_line.specs.Order.{required, option, number, serve_app}
use Rattle.command_line.specs.declared.wanted.TheConstants.{MAX_PORT, MAX_WORKERS, MAX_ROUNDS}
use Rattle.command_line.proofs.Described.{IsDescribed, IsOwn, with_arg}
use Rattle.command_line.proofs.line.serve_command.Goals as goal
use Rattle.command_line.proofs.line.serve_command.Goals.{After-arg-6}

with_all : (c : After-arg-6) → IfOk c.arg-6.result (λ command. IsDescribed command serve_app)
with_all c =
    let bare : IsDescribed c.about.result (new_app (codes "serve")) = record {
      app_is = ap app_of_fields c.about.ensures ∙ c.new.ensures.app;
      own = ap (λ f. f.has_globals) c.about.ensures ∙ c.new.ensures.local;
    } in
    let rules : IsOwn c.required-rules.result (required (option (codes "rules"))) = record {
      rule_is = ap rule_of c.required-rules.ensures ∙ ap required c.file_option.ensures.rule;
      own = ap (λ a. a.global) c.required-rules.ensures ∙ c.file_option.ensures.own;
    } in
    let opening : IsOwn c.file_option-data.result (option (codes "data")) = record { rule_is = c.file_option-data.ensures.rule; own = c.file_option-data.ensures.own } in
    let tokens : IsOwn c.file_option-tokens.result (option (codes "tokens")) = record { rule_is = c.file_option-tokens.ensures.rule; own = c.file_option-tokens.ensures.own } in
    let port : IsOwn c.required-port.result (required (number (codes "port") 1 MAX_PORT)) = record {
      rule_is = ap rule_of c.required-port.ensures ∙ ap required c.number_option.ensures.rule;
      own = ap (λ a. a.global) c.required-port.ensures ∙ c.number_option.ensures.own;
    } in
    let workers : IsOwn c.number_option-workers.result (number (codes "workers") 1 MAX_WORKERS) = record { rule_is = c.number_option-workers.ensures.rule; own = c.number_option-workers.ensures.own } in
    let rounds : IsOwn c.number_option-rounds.result (number (codes "rounds") 1 MAX_ROUNDS) = record { rule_is = c.number_option-rounds.ensures.rule; own = c.number_option-rounds.ensures.own } in
    let with_rules = with_arg _ _ _ _ _ bare rules c.in_ok-arg.ensures in
    let with_data = with_arg _ _ _ _ _ with_rules opening c.in_ok-arg-2.ensures in
    let with_tokens = with_arg _ _ _ _ _ with_data tokens c.in_ok-arg-3.ensures in
    let with_port = with_arg _ _ _ _ _ with_tokens port c.in_ok-arg-4.ensures in
    let with_workers = with_arg _ _ _ _ _ with_port workers c.in_ok-arg-5.ensures in
    IfOk-weaker c.arg-6.result _ _ (λ command adds. with_arg _ _ _ _ _ with_workers rounds adds) c.arg-6.ensures

pub returns-clause-app : goal.returns-clause-app
returns-clause-app c = IfOk-weaker c.arg-6.result _ _ (λ command is. is.app_is) (with_all c)

pub returns-clause-own : goal.returns-clause-own
returns-clause-own c = IfOk-weaker c.arg-6.result _ _ (λ command is. is.own) (with_all c)
