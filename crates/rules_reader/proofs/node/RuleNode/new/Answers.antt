use Rattle.std.proofs.Common.{sym, ◌∙◌}
use Rattle.rules_reader.specs.declared.mentions.TreeVariable.TheVariants.{Data, NewData}
use Rattle.rules_reader.proofs.Keeping.{keeps-node}
use Rattle.rules_reader.proofs.Unvalidated.{validates-node}
use Rattle.rules_reader.proofs.node.RuleNode.new.Goals as goal

pub invariant_of-result : goal.invariant_of-result
invariant_of-result c =
    let own = c.args.rules in
    let children = c.args.children.items in
    let sorted = c.requires.ascending in (
      record {
        lawful = c.requires.lawful;
        ascending = sorted;
        each = c.requires.each;
        few = c.requires.few;
        capture = c.capture_among-capture.ensures;
      },
      c.states_validate-has_validate.ensures ∙ sym (validates-node own children sorted),
      keeps-node Data c.mentions_of-mentions_of_data.result own children sorted c.mentions_of-mentions_of_data.ensures,
      keeps-node NewData c.mentions_of-mentions_of_new_data.result own children sorted c.mentions_of-mentions_of_new_data.ensures,
      c.requires.text,
    )
