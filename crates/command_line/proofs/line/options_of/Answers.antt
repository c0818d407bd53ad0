use Rattle.std.proofs.Common.{◌∙◌, arith, ap, sym, codes}
use Rattle.std.specs.Prelude.{option_map, unwrap_or}
use Rattle.std.specs.Borrow.{Bor}
use Rattle.clap.specs.Words.{Text, found_of, rows_of, one_of}
use Rattle.clap.proofs.WalkLemmas.{first_value-rows}
use Rattle.command_line.specs.declared.wanted.TheConstants.{MAX_PORT, MAX_WORKERS, MAX_ROUNDS, USUAL_WORKERS, USUAL_ROUNDS}
use Rattle.command_line.proofs.Reading.{text_there, bounds_there, bounds_or, served_as}
use Rattle.command_line.proofs.line.options_of.Goals as goal

pub unwrap-requires : goal.unwrap-requires
unwrap-requires c = text_there c.get_str.result _ (c.get_str.ensures ∙ first_value-rows (found_of c.args.serve.now) (codes "rules")) c.requires.rules

pub invariant_of-result : goal.invariant_of-result
invariant_of-result c =
    let rows = rows_of (found_of c.args.serve.now) in
    let port = bounds_there MAX_PORT c.unwrap-2.result (one_of (codes "port") rows) (sym c.number_at.ensures ∙ c.unwrap-2.ensures) c.requires.port in
    let workers = bounds_or MAX_WORKERS USUAL_WORKERS (one_of (codes "workers") rows) (omega arith) (omega arith) c.requires.workers in
    let rounds = bounds_or MAX_ROUNDS USUAL_ROUNDS (one_of (codes "rounds") rows) (omega arith) (omega arith) c.requires.rounds in
    record {
      has_port = port.0;
      has_workers = rw (c.unwrap_or.ensures, c.number_at-2.ensures) workers.0;
      few_workers = rw (c.unwrap_or.ensures, c.number_at-2.ensures) workers.1;
      has_rounds = rw (c.unwrap_or-2.ensures, c.number_at-3.ensures) rounds.0;
      few_rounds = rw (c.unwrap_or-2.ensures, c.number_at-3.ensures) rounds.1;
    }

pub returns : goal.returns
returns c =
    let found = found_of c.args.serve.now in
    served_as (rows_of found) _ (sym (first_value-rows found (codes "rules")) ∙ sym c.get_str.ensures ∙ ap (option_map (λ (s : Bor Text). s.now)) c.unwrap.ensures)
    (sym c.number_at.ensures ∙ c.unwrap-2.ensures)
    (sym (first_value-rows found (codes "data")) ∙ sym c.get_str-2.ensures)
    (sym (first_value-rows found (codes "tokens")) ∙ sym c.get_str-3.ensures)
    (ap (λ o. unwrap_or o USUAL_WORKERS) (sym c.number_at-2.ensures) ∙ sym c.unwrap_or.ensures)
    (ap (λ o. unwrap_or o USUAL_ROUNDS) (sym c.number_at-3.ensures) ∙ sym c.unwrap_or-2.ensures)
