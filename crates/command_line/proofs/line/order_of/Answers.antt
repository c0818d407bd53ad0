use Rattle.std.proofs.Common.{◌∙◌, ap, sym, List, codes, refl, true≢false}
use Rattle.std.specs.Prelude.{option_map}
use Rattle.std.specs.Borrow.{Bor}
use Rattle.clap.specs.Words.{found_of, rows_of, subcommand_rows_of}
use Rattle.clap.specs.declared.parser.matches.ArgMatches.TheViews.{out-ArgMatches}
use Rattle.clap.proofs.WalkLemmas.{first_value-rows}
use Rattle.command_line.proofs.Found.{name_found, name_known, found_is, check_ready, serve_ready, check_wanted, serve_wanted, run_wanted}
use Rattle.command_line.proofs.Reading.{text_there}
use Rattle.command_line.proofs.line.order_of.Goals as goal

pub unwrap-requires : goal.unwrap-requires
unwrap-requires c =
    let rows = rows_of (found_of c.in-Some.check.now) in
    let name = name_found (codes "check") (out-ArgMatches c.args.found.now).subcommand (c.in-Some.ensures.found.0 refl) in
    let is = found_is (subcommand_rows_of c.args.found.now) (codes "check") rows name c.in-Some.ensures.rows in
    text_there c.get_str.result _ (c.get_str.ensures ∙ first_value-rows (found_of c.in-Some.check.now) (codes "FILE")) (check_ready (subcommand_rows_of c.args.found.now) rows is c.requires)

pub returns-in-Some : goal.returns-in-Some
returns-in-Some c =
    let rows = rows_of (found_of c.in-Some.check.now) in
    let name = name_found (codes "check") (out-ArgMatches c.args.found.now).subcommand (c.in-Some.ensures.found.0 refl) in
    let is = found_is (subcommand_rows_of c.args.found.now) (codes "check") rows name c.in-Some.ensures.rows in
    let file = sym (first_value-rows (found_of c.in-Some.check.now) (codes "FILE")) ∙ sym c.get_str.ensures ∙ ap (option_map (λ (s : Bor (List _)). s.now)) c.unwrap.ensures in
    check_wanted (subcommand_rows_of c.args.found.now) rows c.unwrap.result.now is file

pub options_of-requires : goal.options_of-requires
options_of-requires c =
    let rows = rows_of (found_of c.in-Some-subcommand_matches.serve.now) in
    let name = name_found (codes "serve") (out-ArgMatches c.args.found.now).subcommand (c.in-Some-subcommand_matches.ensures.found.0 refl) in
    let is = found_is (subcommand_rows_of c.args.found.now) (codes "serve") rows name c.in-Some-subcommand_matches.ensures.rows in
    serve_ready (subcommand_rows_of c.args.found.now) rows is c.requires

pub returns-in-Some-subcommand_matches : goal.returns-in-Some-subcommand_matches
returns-in-Some-subcommand_matches c =
    let rows = rows_of (found_of c.in-Some-subcommand_matches.serve.now) in
    let name = name_found (codes "serve") (out-ArgMatches c.args.found.now).subcommand (c.in-Some-subcommand_matches.ensures.found.0 refl) in
    let is = found_is (subcommand_rows_of c.args.found.now) (codes "serve") rows name c.in-Some-subcommand_matches.ensures.rows in
    serve_wanted (subcommand_rows_of c.args.found.now) rows _ is c.options_of.ensures

pub returns : goal.returns
returns c =
    let sub = (out-ArgMatches c.args.found.now).subcommand in
    run_wanted (subcommand_rows_of c.args.found.now) (λ is. true≢false (sym (c.in_default.ensures.found.1 (name_known (codes "check") sub is))))
    (λ is. true≢false (sym (c.in_default-subcommand_matches.ensures.found.1 (name_known (codes "serve") sub is))))
