use Rattle.std.proofs.Common.{◌≡◌, true, ◌∙◌, sym, ap, subst, arith}
use Rattle.std.specs.FinMap.{is_sorted}
use Rattle.std.specs.List.{insert, list_all}
use Rattle.serde_json.specs.Data.{put}
use Rattle.tree_model.specs.Key.{key_cmp}
use Rattle.tree_model.specs.Tree.{Tree}
use Rattle.json_tree.specs.Json.{value_of}
use Rattle.json_tree.proofs.Edits.{gap_at, sorted-insert}
use Rattle.json_lines.specs.DraftMembers.{is_plain, members_named}
use Rattle.json_lines.proofs.Naming.{plain_some, plain_insert, put_gap}
use Rattle.json_lines.proofs.children.Children.put.Goals as goal

pub invariant_of-self-in-Err : goal.invariant_of-self-in-Err
invariant_of-self-in-Err c =
    let cs = c.self.inside.held.items in
    let name = c.args.name.now in
    let node : Tree = c.args.node in
    let gap = gap_at name cs c.in-Err.index c.self.invariant.ascending c.in-Err.ensures.bound c.in-Err.ensures.position in
    let items : c.insert.new.self.items ≡ insert cs c.in-Err.index (name, node) = grind arith in
    let plain : is_plain (name, node) ≡ true = sym (plain_some name node true c.law.ensures.some (grind arith) (grind arith)) in
    record {
      ascending = subst (λ xs. is_sorted key_cmp xs ≡ true) (sym items) (sorted-insert name node cs c.in-Err.index c.self.invariant.ascending gap);
      plain = subst (λ xs. list_all is_plain xs ≡ true) (sym items) (plain_insert cs c.in-Err.index (name, node) c.self.invariant.plain plain);
    }

pub returns-in_ok-ok-in-Err : goal.returns-in_ok-ok-in-Err
returns-in_ok-ok-in-Err c =
    let cs = c.self.inside.held.items in
    let name = c.args.name.now in
    let node : Tree = c.args.node in
    let gap = gap_at name cs c.in-Err.index c.self.invariant.ascending c.in-Err.ensures.bound c.in-Err.ensures.position in
    let items : c.insert.new.self.items ≡ insert cs c.in-Err.index (name, node) = grind arith in
    ap members_named items ∙ sym (put_gap value_of cs c.in-Err.index name node gap) ∙ ap (λ xs. put name (value_of node) (members_named xs)) c.self.view_is
