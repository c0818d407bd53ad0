use Rattle.std.proofs.Common.{◌≡◌, ◌<◌, ◌≤◌, ◌∷◌, [], length, Some, None, ap, sym, ◌∙◌, subst, refl, arith}
use Rattle.std.proofs.lemmas.Option.{IfSome_then}
use Rattle.json.specs.Json.{read_key}
use Rattle.json.specs.Reads.{token_of}
use Rattle.json.specs.Token as token
use Rattle.json.proofs.Grammar.{read_key-shorter}
use Rattle.serde_json.specs.Data.{Members, no_members, member, string, object, put}
use Rattle.tree_model.specs.Draft.{moment, tree_at}
use Rattle.json_tree.specs.Json.{value_of}
use Rattle.json_tree.specs.Draft.{value_of_draft}
use Rattle.json_tree.proofs.Forms.{form_is}
use Rattle.json_tree.proofs.DraftWritten.{value_of_draft-lone, value_of_draft-as_draft, value_of_draft-fixed}
use Rattle.json_lines.specs.DraftMembers.{members_named, drafts_named}
use Rattle.json_lines.proofs.Reading.{Leads, LeadsFrom, as_read, string_read, at_first, one_more, at_last, goes_on, object_read}
use Rattle.json_lines.proofs.nested.+nested.Goals as goal

-- ---- a draft

pub draft_from-object_from-requires : goal.draft_from-object_from-requires
draft_from-object_from-requires t c = let some = c.if-depth-eq0.false in (omega arith, tt)

pub draft_from-returns-else-depth-eq0-clause-value : goal.draft_from-returns-else-depth-eq0-clause-value
draft_from-returns-else-depth-eq0-clause-value t c =
    let some : 0 < c.args.depth = omega (arith, c.if-depth-eq0.false) in
    IfSome_then c.object_from.result c.object_from.ensures.value (λ draft h.
    as_read c.args.depth _ _ _ _ _ (object h.members) (ap token_of c.in-BeginObject.is) h.is
    (object_read c.args.depth c.args.reader.now c.object_from.new.reader h.members some h.gives))

pub draft_from-returns-in_ok-leaf_from-in_default : goal.draft_from-returns-in_ok-leaf_from-in_default
draft_from-returns-in_ok-leaf_from-in_default t c =
    let node = c.in_ok-leaf_from-in_default.field-0 in record {
      value = as_read c.args.depth _ _ _ _ _ (value_of node) refl (ap value_of_draft c.fixed.ensures ∙ value_of_draft-as_draft node) (c.in_ok-leaf_from-in_default.ensures c.args.depth c.args.reader.now);
      shorter = omega arith;
    }

-- ---- an object

pub object_from-children-init : goal.object_from-children-init
object_from-children-init t c = record {
  leads = subst (λ es. Leads c.args.depth c.args.reader.now c.args.reader.now (members_named es)) (sym c.in_ok-children.ensures) (at_first c.args.depth c.args.reader.now no_members);
  shorter = omega arith;
}

pub object_from-returns-then-not-is_lawful_key-clause-value : goal.object_from-returns-then-not-is_lawful_key-clause-value
object_from-returns-then-not-is_lawful_key-clause-value t c =
    let l = c.children in
    let all = c.args.reader.now in
    let name = c.in-Some.name.now in
    let after_key = c.next_key.new.self in
    let behind = c.next.new.self in
    let begins = token_of c.in_ok-token.token in
    let key : read_key l.reader ≡ Some (Some name, after_key) = grind arith in
    let first : after_key ≡ begins ∷ behind = grind arith in
    let empty : l.children ≡ [] = c.is_empty.ensures.0 c.if-not-is_empty.false in
    IfSome_then c.moment_from.result c.moment_from.ensures (λ draft h.
    let more = one_more c.args.depth all l.reader after_key behind behind (members_named l.children) name begins (string h.text) no_members l.invariant.leads key first (as_read c.args.depth _ _ _ _ _ (string h.text) h.is_text refl (string_read c.args.depth h.text behind)) (omega arith) in
    let there = member name (string h.text) no_members in
    record {
      members = there;
      is = ap value_of_draft h.is ∙ value_of_draft-lone moment ∙ sym (form_is name h.text h.is_form);
      gives = at_last c.args.depth all behind c.moment_from.new.reader there no_members (subst (λ es. Leads c.args.depth all behind (put name (string h.text) (members_named es))) empty more) h.end;
    })

pub object_from-draft_from-requires : goal.object_from-draft_from-requires
object_from-draft_from-requires t c = (omega arith, tt)

pub object_from-drafts_from-requires : goal.object_from-drafts_from-requires
object_from-drafts_from-requires t c = (omega arith, tt)

pub object_from-returns-then-not-is_fixed-clause-value : goal.object_from-returns-then-not-is_fixed-clause-value
object_from-returns-then-not-is_fixed-clause-value t c =
    let l = c.children in
    let all = c.args.reader.now in
    let name = c.in-Some.name.now in
    let after_key = c.next_key.new.self in
    let begins = token_of c.in_ok-token.token in
    let value = value_of_draft c.in_ok-draft.draft in
    let key : read_key l.reader ≡ Some (Some name, after_key) = grind arith in
    let first : after_key ≡ begins ∷ c.next.new.self = grind arith in
    let more = one_more c.args.depth all l.reader after_key c.next.new.self c.draft_from.new.reader (members_named l.children) name begins value no_members l.invariant.leads key first c.in_ok-draft.ensures.value c.in_ok-draft.ensures.shorter in
    let put_there : drafts_named c.put.new.self ≡ put name value (drafts_named c.in_ok-drafts.drafts) = c.in_ok-put.ensures in
    let there : put name value (members_named l.children) ≡ drafts_named c.put.new.self = ap (put name value) (sym c.in_ok-drafts.ensures) ∙ sym put_there in
    let leads = subst (λ ms. Leads c.args.depth all c.draft_from.new.reader ms) there more in
    IfSome_then c.drafts_from.result c.drafts_from.ensures.value (λ draft h.
    goes_on c.args.depth all c.draft_from.new.reader no_members (drafts_named c.put.new.self) draft c.drafts_from.new.reader leads h)

pub object_from-returns-then-not-is_fixed-clause-shorter : goal.object_from-returns-then-not-is_fixed-clause-shorter
object_from-returns-then-not-is_fixed-clause-shorter t c =
    let l = c.children in
    let name = c.in-Some.name.now in
    let after_key = c.next_key.new.self in
    let key : read_key l.reader ≡ Some (Some name, after_key) = grind arith in
    let first : after_key ≡ token_of c.in_ok-token.token ∷ c.next.new.self = grind arith in
    let less = read_key-shorter l.reader (Some name) after_key key in
    let one : length after_key ≡ length (token_of c.in_ok-token.token ∷ c.next.new.self) = ap length first in
    IfSome_then c.drafts_from.result c.drafts_from.ensures.shorter (λ draft within. omega (arith, l.invariant.shorter, c.in_ok-draft.ensures.shorter))

pub object_from-children-preserved : goal.object_from-children-preserved
object_from-children-preserved t c =
    let l = c.children in
    let name = c.in-Some.name.now in
    let after_key = c.next_key.new.self in
    let begins = token_of c.in_ok-token.token in
    let draft = c.in_ok-draft.draft in
    let there = members_named l.children in
    let key : read_key l.reader ≡ Some (Some name, after_key) = grind arith in
    let first : after_key ≡ begins ∷ c.next.new.self = grind arith in
    let more = one_more c.args.depth c.args.reader.now l.reader after_key c.next.new.self c.draft_from.new.reader there name begins (value_of_draft draft) no_members l.invariant.leads key first c.in_ok-draft.ensures.value c.in_ok-draft.ensures.shorter in
    let value : value_of c.into_at_zero.result ≡ value_of_draft draft = ap value_of c.into_at_zero.ensures ∙ sym (value_of_draft-fixed draft (c.is_fixed.ensures.fixed c.if-not-is_fixed.false)) in
    let put_there : members_named c.put-in-Some.new.self ≡ put name (value_of c.into_at_zero.result) there = c.in_ok-put-2.ensures in
    let inserted = put_there ∙ ap (λ d. put name d there) value in
    let less = read_key-shorter l.reader (Some name) after_key key in
    let one : length after_key ≡ length (begins ∷ c.next.new.self) = ap length first in record {
      leads = subst (λ ms. Leads c.args.depth c.args.reader.now c.draft_from.new.reader ms) (sym inserted) more;
      shorter = omega (arith, l.invariant.shorter, c.in_ok-draft.ensures.shorter);
    }

pub object_from-returns-clause-value : goal.object_from-returns-clause-value
object_from-returns-clause-value t c =
    let l = c.children in
    let node = c.in_ok-node_of.field-0 in record {
      members = members_named l.children;
      is = ap value_of_draft c.fixed.ensures ∙ value_of_draft-as_draft node ∙ c.in_ok-node_of.ensures;
      gives = at_last c.args.depth c.args.reader.now l.reader c.next_key.new.self (members_named l.children) no_members l.invariant.leads (grind arith);
    }

-- ---- the rest of one

pub drafts_from-children-init : goal.drafts_from-children-init
drafts_from-children-init t c = record {
  leads = at_first c.args.depth c.args.reader.now (drafts_named c.args.drafts);
  shorter = omega arith;
}

pub drafts_from-draft_from-requires : goal.drafts_from-draft_from-requires
drafts_from-draft_from-requires t c = (omega arith, tt)

pub drafts_from-children-preserved : goal.drafts_from-children-preserved
drafts_from-children-preserved t c =
    let l = c.children in
    let name = c.in-Some.name.now in
    let after_key = c.next_key.new.self in
    let begins = token_of c.in_ok-token.token in
    let value = value_of_draft c.in_ok-draft.draft in
    let start = drafts_named c.args.drafts in
    let key : read_key l.reader ≡ Some (Some name, after_key) = grind arith in
    let first : after_key ≡ begins ∷ c.next.new.self = grind arith in
    let more = one_more c.args.depth c.args.reader.now l.reader after_key c.next.new.self c.draft_from.new.reader (drafts_named l.drafts) name begins value start l.invariant.leads key first c.in_ok-draft.ensures.value c.in_ok-draft.ensures.shorter in
    let inserted : drafts_named c.put.new.self ≡ put name value (drafts_named l.drafts) = c.in_ok-put.ensures in
    let less = read_key-shorter l.reader (Some name) after_key key in
    let one : length after_key ≡ length (begins ∷ c.next.new.self) = ap length first in record {
      leads = subst (λ ms. LeadsFrom start c.args.depth c.args.reader.now c.draft_from.new.reader ms) (sym inserted) more;
      shorter = omega (arith, l.invariant.shorter, c.in_ok-draft.ensures.shorter);
    }

pub drafts_from-returns-clause-value : goal.drafts_from-returns-clause-value
drafts_from-returns-clause-value t c =
    let l = c.children in
    IfSome_then c.draft_of.result c.draft_of.ensures (λ draft is. record {
      members = drafts_named l.drafts;
      is = is;
      gives = at_last c.args.depth c.args.reader.now l.reader c.next_key.new.self (drafts_named l.drafts) (drafts_named c.args.drafts) l.invariant.leads (grind arith);
    })

pub drafts_from-returns-clause-shorter : goal.drafts_from-returns-clause-shorter
drafts_from-returns-clause-shorter t c =
    let l = c.children in
    let key : read_key l.reader ≡ Some (None, c.next_key.new.self) = grind arith in
    let less = read_key-shorter l.reader None c.next_key.new.self key in
    IfSome_then c.draft_of.result c.draft_of.ensures (λ draft _. omega (arith, l.invariant.shorter))
