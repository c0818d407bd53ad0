use Rattle.std.proofs.Common.{◌∙◌, ap, sym, subst, List, ℕ, Option, option_map}
use Rattle.std.proofs.lemmas.Result.{err_from_is_err_and}
use Rattle.serde_json.specs.View.{view}
use Rattle.rules_reader.specs.File.{States}
use Rattle.rules_reader.specs.Refusal.{Refuses}
use Rattle.rtdb.specs.Opening.{TellsTokens, bytes_of, opening_value, told_tokens}
use Rattle.rtdb.proofs.Begun.{begins, copied}
use Rattle.rtdb.proofs.opening.open_contents.Goals as goal

pub returns-in_err-rules : goal.returns-in_err-rules
returns-in_err-rules c =
    let same = copied (λ bytes. bytes.items) c.as_ref.result c.args.contents.now.data_bytes c.as_ref.ensures.value in
    let value_is = ap opening_value (sym same) ∙ c.in_ok-opening.ensures in
    let refused = subst (λ (bytes : List ℕ). Refuses bytes c.in_err-rules.field-0.0) c.deref.ensures.value c.in_err-rules.ensures.refused in
    let p = err_from_is_err_and c.from_residual-in_err-rules.result c.from_residual-in_err-rules.ensures.1 in
    rw (p.1, p.2) (option_map (λ value. view value) c.in_ok-opening.opening, value_is, refused)

pub returns : goal.returns
returns c =
    let same = copied (λ bytes. bytes.items) c.as_ref.result c.args.contents.now.data_bytes c.as_ref.ensures.value in
    let same_tokens = copied (λ bytes. bytes.items) c.as_ref-2.result c.args.contents.now.tokens c.as_ref-2.ensures.value in
    let value_is = ap opening_value (sym same) ∙ c.in_ok-opening.ensures in
    let states = subst (λ (bytes : List ℕ). States bytes c.in_ok-rules.rules) c.deref.ensures.value c.in_ok-rules.ensures.accepted in
    let tells = subst (λ (bytes : Option (List ℕ)). TellsTokens (told_tokens bytes) c.opening_tokens-tokens.result) same_tokens c.opening_tokens-tokens.ensures in
    begins (bytes_of c.args.contents.now) (option_map (λ value. view value) c.in_ok-opening.opening) c.in_ok-rules.rules c.open.result value_is states
    (c.open.ensures (told_tokens (bytes_of c.args.contents.now).tokens) tells)
