use Rattle.std.proofs.Common.{◌≡◌, ◌∷◌, lit<, true, sym, ap, ◌∙◌}
use Rattle.std.proofs.lemmas.Bool.{true_from_ne_false}
use Rattle.std.proofs.lemmas.Str.Pattern.{strip_prefix_char}
use Rattle.std.specs.Prelude.{Some, None, Err}
use Rattle.path_capture.specs.Name.{is_name}
use Rattle.tree_model.specs.Key.{is_key}
use Rattle.rules_reader.proofs.NameLemmas.{capture_is_part, bad_capture_is_no_part, part_without_sign, key_is_part, some_part, no_part}
use Rattle.rules_reader.proofs.shape.part.Goals as goal

pub returns-in-Ok : goal.returns-in-Ok
returns-in-Ok c =
    let text = c.args.name.now in
    let name = c.in-Some.rest.now in
    let split : text ≡ 36 ∷ name = strip_prefix_char 36 text (Some c.in-Some.rest) c.in-Some.ensures.cases (lit< tt) in
    let good : is_name name ≡ true = true_from_ne_false (is_name name) (λ bad. let is = c.in-Ok.ensures.bad_name.1 bad in cc) in
    some_part text (36 ∷ c.in-Ok.name) (ap (λ n. 36 ∷ n) c.in-Ok.ensures.ok ∙ sym split) (capture_is_part text name split good)

pub returns-in-Err-BadName : goal.returns-in-Err-BadName
returns-in-Err-BadName c =
    let text = c.args.name.now in
    let name = c.in-Some.rest.now in
    let split : text ≡ 36 ∷ name = strip_prefix_char 36 text (Some c.in-Some.rest) c.in-Some.ensures.cases (lit< tt) in
    no_part text (bad_capture_is_no_part text name split (c.in-Err-BadName.ensures.bad_name.0 (ap (λ e. Err e) c.in-Err-BadName.field-0-is)))

pub returns-in-Ok-new : goal.returns-in-Ok-new
returns-in-Ok-new c =
    let text = c.args.name.now in
    some_part text c.in-Ok-new.key c.in-Ok-new.ensures.ok (key_is_part text (ap is_key (sym c.in-Ok-new.ensures.ok) ∙ c.in-Ok-new.ensures.lawful))

pub returns-in-Err-BadKey : goal.returns-in-Err-BadKey
returns-in-Err-BadKey c =
    let text = c.args.name.now in
    no_part text (part_without_sign text (strip_prefix_char 36 text None c.in-None.ensures.cases (lit< tt)) ∙ c.in-Err-BadKey.ensures.bad_key.0 (ap (λ e. Err e) c.in-Err-BadKey.field-0-is))
