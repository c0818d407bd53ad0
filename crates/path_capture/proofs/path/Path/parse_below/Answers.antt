use Rattle.std.proofs.Common.{◌≡◌, ◌∙◌, ◌++◌, ap, sym, true, length, arith, length-append}
use Rattle.std.specs.Cmp.{second_so}
use Rattle.std.specs.List.{list_all}
use Rattle.std.proofs.lemmas.Bool.{false≢true}
use Rattle.std.proofs.lemmas.List.Folds.{list_all-append}
use Rattle.tree_model.specs.Key.{is_key}
use Rattle.tree_model.specs.Path.{is_path}
use Rattle.tree_model.proofs.Lawful.{path_keys, path_length}
use Rattle.path_capture.specs.Path.{segments}
use Rattle.path_capture.proofs.path.Path.parse_below.Goals as goal

pub returns-in-Some-clause-bad_path : goal.returns-in-Some-clause-bad_path
returns-in-Some-clause-bad_path c =
    let self = c.keys-keys.result.now in
    let lawful : is_path (self ++ segments c.args.text.now) ≡ true = ap is_path (sym c.in-Some.ensures.keys) ∙ c.in-Some.ensures.path in
    let keys = second_so (list_all is_key self) _ (sym (list_all-append is_key self (segments c.args.text.now)) ∙ path_keys _ lawful) in
    (λ e. cc, λ bad. absurd (false≢true (sym bad ∙ keys)))

pub returns-in-Some-clause-too_deep : goal.returns-in-Some-clause-too_deep
returns-in-Some-clause-too_deep c =
    let self = c.keys-keys.result.now in
    let lawful : is_path (self ++ segments c.args.text.now) ≡ true = ap is_path (sym c.in-Some.ensures.keys) ∙ c.in-Some.ensures.path in
    let room = path_length _ lawful in
    let long = length-append self (segments c.args.text.now) in
    let same = ap length c.keys-keys.ensures.keys in
    (λ e. cc, λ h. absurd (omega (arith, h.1, room, long, same)))
