use Rattle.std.proofs.Common.{◌≡◌, rules, sym, ap, ◌∙◌, Ok, Err, true, false}
use Rattle.std.specs.FinMap.{is_sorted}
use Rattle.std.proofs.lemmas.Fn.{always_returns_same}
use Rattle.tree_model.specs.Key.{key_cmp}
use Rattle.path_capture.specs.declared.pattern.Part.{Part}
use Rattle.rules_reader.specs.Part.{is_capture}
use Rattle.rules_reader.specs.Node.{Point, books, text_of}
use Rattle.rules_reader.specs.Working.Stepped.{point_at, first_of}
use Rattle.rules_reader.proofs.Steps.{searched, found_text, own_text, no_text_of_a_capture, point_is}
use Rattle.rules_reader.proofs.node.child_of.Goals as goal

pub returns-then-is_capture : goal.returns-then-is_capture
returns-then-is_capture c =
    let items = c.args.children.now.items in
    let key = c.args.key.now in
    let child = c.index.result.now in
    let same = c.deref.ensures.value in
    let computes = always_returns_same _ _ _ (λ a r f' called. search rules) in
    let position = c.in-Ok.ensures.position (λ (other : Part × Point). key_cmp (text_of other.0) key) computes in
    let found = searched key c.deref.result.now (Ok c.in-Ok.place) (ap (λ cs. is_sorted key_cmp (books cs)) same ∙ c.requires.ascending) c.in-Ok.ensures.bound position child in
    let text = found_text key items c.in-Ok.place child (rw same at position) c.index.ensures in
    let sign : is_capture key ≡ true = ap is_capture (sym text) ∙ sym c.is_capture.ensures ∙ c.if-is_capture.true in
    own_text items key child c.args.capture c.in-Ok.place c.index.ensures sign (rw same at found)

pub returns-else-is_capture : goal.returns-else-is_capture
returns-else-is_capture c =
    let items = c.args.children.now.items in
    let key = c.args.key.now in
    let child = c.index.result.now in
    let chosen = c.index-else-is_capture.result.now in
    let same = c.deref.ensures.value in
    let computes = always_returns_same _ _ _ (λ a r f' called. search rules) in
    let position = c.in-Ok.ensures.position (λ (other : Part × Point). key_cmp (text_of other.0) key) computes in
    let found = searched key c.deref.result.now (Ok c.in-Ok.place) (ap (λ cs. is_sorted key_cmp (books cs)) same ∙ c.requires.ascending) c.in-Ok.ensures.bound position chosen in
    let text = found_text key items c.in-Ok.place child (rw same at position) c.index.ensures in
    let sign : is_capture key ≡ false = ap is_capture (sym text) ∙ sym c.is_capture.ensures ∙ c.if-is_capture.false in
    no_text_of_a_capture items key chosen c.args.capture c.in-Ok.place c.index-else-is_capture.ensures sign (rw same at found)

pub returns-in-Some : goal.returns-in-Some
returns-in-Some c =
    let items = c.args.children.now.items in
    let key = c.args.key.now in
    let same = c.deref.ensures.value in
    let computes = always_returns_same _ _ _ (λ a r f' called. search rules) in
    let none = searched key c.deref.result.now (Err c.in-Err.field-0) (ap (λ cs. is_sorted key_cmp (books cs)) same ∙ c.requires.ascending) c.in-Err.ensures.bound (c.in-Err.ensures.position (λ (child : Part × Point). key_cmp (text_of child.0) key) computes) in
    point_is items c.args.capture c.in-Some.place c.index-in-Some.result.now c.requires.capture c.in-Some.is c.index-in-Some.ensures ∙ ap (λ o. first_of (is_capture key) o (point_at items c.args.capture)) (sym (rw same at none))

pub returns-in-None : goal.returns-in-None
returns-in-None c =
    let items = c.args.children.now.items in
    let key = c.args.key.now in
    let same = c.deref.ensures.value in
    let computes = always_returns_same _ _ _ (λ a r f' called. search rules) in
    let none = searched key c.deref.result.now (Err c.in-Err.field-0) (ap (λ cs. is_sorted key_cmp (books cs)) same ∙ c.requires.ascending) c.in-Err.ensures.bound (c.in-Err.ensures.position (λ (child : Part × Point). key_cmp (text_of child.0) key) computes) in
    ap (point_at items) (sym c.in-None.is) ∙ ap (λ o. first_of (is_capture key) o (point_at items c.args.capture)) (sym (rw same at none))
