use Rattle.tokens.proofs.Secrets.{put_last}
use Rattle.tokens.proofs.tokens.Tokens.put.Goals as goal

pub returns : goal.returns
returns c = put_last c.self.inside.held.entries c.insert.new.self.entries c.in_ok-from_str.field-0 c.args.who c.args.self.now c.args.secret.now c.self.view_is c.in_ok-from_str.ensures.ok c.requires c.in_ok-insert.ensures.entries
