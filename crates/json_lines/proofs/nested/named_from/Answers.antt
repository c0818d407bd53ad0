use Rattle.std.proofs.Common.{◌≡◌, ◌∷◌, length, Some, ap, sym, subst, arith}
use Rattle.json.specs.Json.{read_key}
use Rattle.json.specs.Reads.{token_of}
use Rattle.json.proofs.Grammar.{read_key-shorter}
use Rattle.serde_json.specs.Data.{no_members, put}
use Rattle.json_tree.specs.Draft.{value_of_draft}
use Rattle.path_capture.specs.Write.{draft_or_null}
use Rattle.json_lines.specs.DraftMembers.{drafts_named}
use Rattle.json_lines.proofs.Reading.{Leads, at_first, one_more, at_last}
use Rattle.json_lines.proofs.nested.named_from.Goals as goal

pub members-init : goal.members-init
members-init c = record {
  leads = subst (λ es. Leads c.args.depth c.args.reader.now c.args.reader.now (drafts_named es)) (sym c.new-named.ensures) (at_first c.args.depth c.args.reader.now no_members);
  shorter = omega arith;
}

pub members-preserved : goal.members-preserved
members-preserved c =
    let l = c.members in
    let name = c.in-Some.name.now in
    let after_key = c.next_key.new.self in
    let token = c.in_ok-token.token in
    let value = value_of_draft (draft_or_null c.in_ok-draft.draft) in
    let key : read_key l.reader ≡ Some (Some name, after_key) = grind arith in
    let first : after_key ≡ token_of token ∷ c.next.new.self = grind arith in
    let there = drafts_named l.named in
    let more = one_more c.args.depth c.args.reader.now l.reader after_key c.next.new.self c.draft_or_null_from.new.reader there name (token_of token) value no_members l.invariant.leads key first c.in_ok-draft.ensures.value c.in_ok-draft.ensures.shorter in
    let inserted : drafts_named c.put.new.self ≡ put name value there = grind arith in
    let less = read_key-shorter l.reader (Some name) after_key key in
    let one : length after_key ≡ length (token_of token ∷ c.next.new.self) = ap length first in record {
      leads = subst (λ ms. Leads c.args.depth c.args.reader.now c.draft_or_null_from.new.reader ms) (sym inserted) more;
      shorter = omega (arith, l.invariant.shorter, c.in_ok-draft.ensures.shorter);
    }

pub returns-clause-value : goal.returns-clause-value
returns-clause-value c =
    let l = c.members in
    at_last c.args.depth c.args.reader.now l.reader c.next_key.new.self (drafts_named l.named) no_members l.invariant.leads (grind arith)
