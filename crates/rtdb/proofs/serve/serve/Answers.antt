use Rattle.rtdb.specs.Opening.{bytes_of}
use Rattle.command_line.specs.Order.{served_by}
use Rattle.rtdb.proofs.Serving.{has_served, has_refused, has_not_read}
use Rattle.rtdb.proofs.serve.serve.Goals as goal

pub returns-in-Ok-open_contents-clause-served : goal.returns-in-Ok-open_contents-clause-served
returns-in-Ok-open_contents-clause-served g c =
    has_served (g.F.Files.bytes c.args.files.now) (served_by c.args.options.now) (bytes_of c.in-Ok.contents) c.in-Ok-open_contents.opened _ _ _ c.listen.result c.in-Ok.ensures.ok c.in-Ok-open_contents.ensures c.listen.ensures.served
