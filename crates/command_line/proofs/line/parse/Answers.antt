use Rattle.std.proofs.Common.{◌≡◌, ◌∙◌, ap, map, string_bytes, subst, true, codes}
use Rattle.std.proofs.lemmas.Result.{IfOk-weaker}
use Rattle.clap.specs.Words.{App, FailsBy, app_of, rule_of, new_app, is_simple, is_simple_and_free, subcommand_of, fault_of}
use Rattle.clap.specs.Simple.{app_of_fields}
use Rattle.command_line.specs.Order.{file, required, run_app, serve_app, the_program}
use Rattle.command_line.proofs.Described.{IsDescribed, IsOwn, with_arg, with_command}
use Rattle.command_line.proofs.line.parse.Goals as goal
use Rattle.command_line.proofs.line.parse.Goals.{After-try_get_matches_from}

described : (c : After-try_get_matches_from) → app_of c.in_ok-program.program ≡ the_program
described c =
    let versioned : App → App = λ a. record a { top = record a.top { has_version = true } } in
    let file_is : IsOwn c.help-file.result file = record {
      rule_is = ap rule_of c.help-file.ensures ∙ ap rule_of c.required.ensures ∙ ap required c.new.ensures.rule;
      own = ap (λ a. a.global) c.help-file.ensures ∙ ap (λ a. a.global) c.required.ensures ∙ c.new.ensures.optional.1;
    } in
    let bare : IsDescribed c.about.result (new_app (codes "check")) = record {
      app_is = ap app_of_fields c.about.ensures ∙ c.new-2.ensures.app;
      own = ap (λ f. f.has_globals) c.about.ensures ∙ c.new-2.ensures.local;
    } in
    let check = with_arg _ _ _ _ _ bare file_is c.in_ok-check.ensures in
    let run : IsDescribed c.about-run.result run_app = record {
      app_is = ap app_of_fields c.about-run.ensures ∙ c.new-3.ensures.app;
      own = ap (λ f. f.has_globals) c.about-run.ensures ∙ c.new-3.ensures.local;
    } in
    let serve : IsDescribed c.in_ok-serve.serve serve_app = record { app_is = c.in_ok-serve.ensures.app; own = c.in_ok-serve.ensures.own } in
    let top : IsDescribed c.about-2.result (versioned (new_app (codes "rtdb"))) = record {
      app_is = ap app_of_fields c.about-2.ensures ∙ ap app_of_fields c.version.ensures ∙ ap versioned c.new-4.ensures.app;
      own = ap (λ f. f.has_globals) c.about-2.ensures ∙ ap (λ f. f.has_globals) c.version.ensures ∙ c.new-4.ensures.local;
    } in
    let with_check = with_command _ _ _ _ _ top check c.in_ok-subcommand.ensures in
    let with_run = with_command _ _ _ _ _ with_check run c.in_ok-subcommand-2.ensures in
    (with_command _ _ _ _ _ with_run serve c.in_ok-program.ensures).app_is

pub returns-clause-found : goal.returns-clause-found
returns-clause-found c =
    let is = described c in
    IfOk-weaker c.try_get_matches_from.result _ _ (λ m h. (h (ap is_simple is)).1 ∙ ap (λ (a : App). subcommand_of a (map string_bytes c.args.words.now)) is) c.try_get_matches_from.ensures.matches

pub returns-clause-fails : goal.returns-clause-fails
returns-clause-fails c =
    let is = described c in
    subst (λ (a : App). FailsBy (fault_of a (map string_bytes c.args.words.now)) c.try_get_matches_from.result) is (c.try_get_matches_from.ensures.kinds (ap is_simple_and_free is))
