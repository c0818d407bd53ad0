use Rattle.lint.proofs.Nodes.{is_listed}
use Rattle.lint.proofs.search.Search.finding_at.Goals as goal

pub returns-in_ok-text_of-in-Some : goal.returns-in_ok-text_of-in-Some
returns-in_ok-text_of-in-Some c = record {
  at = c.args.node.now.at;
  named = c.in_ok-text_of-in-Some.ensures;
  listed = is_listed c.args.self.now.root.now.book c.args.node.now c.requires.node;
  reason = rw c.in-Some.is at c.requires.reason;
}
