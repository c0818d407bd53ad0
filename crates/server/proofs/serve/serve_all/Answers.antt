use Rattle.server.proofs.Going.{has_printed_if}
use Rattle.server.proofs.Visiting.{served_and_seen}
use Rattle.server.proofs.serve.serve_all.Goals as goal

pub returns-clause-printed : goal.returns-clause-printed
returns-clause-printed g c =
    has_printed_if c.args.place.now.tokens.now (record { workers = c.args.workers; rounds = c.args.place.now.rounds }) c.args.place.now.listener.now c.args.seat.now c.news-entries.new.seat
    (g.W.Printer.printed c.args.output.now) (g.W.Printer.printed c.print_listening.new.output) (g.W.Printer.printed c.print_served.new.output) c.news-entries.result c.print_served.result
    (served_and_seen c.args.place.now.tokens.now c.args.place.now.rounds 1 c.args.workers c.args.seat.now c.work_all.new.seat c.news-entries.new.seat c.work_all.ensures c.news-entries.ensures.same c.news-entries.ensures.seen)
    c.news-entries.ensures.legal c.news-entries.ensures.length c.in_ok-print_listening.ensures.printed.0 c.print_served.ensures.printed
