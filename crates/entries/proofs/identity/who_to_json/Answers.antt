use Rattle.std.proofs.Common.{Some, ◌∙◌, ap, sym, option_map}
use Rattle.std.proofs.lemmas.Result.{IfOk-weaker}
use Rattle.serde_json.specs.View.{view}
use Rattle.entries.proofs.Identities.{who_is}
use Rattle.entries.proofs.identity.who_to_json.Goals as goal

pub returns-in-Some-clause-value : goal.returns-in-Some-clause-value
returns-in-Some-clause-value c = IfOk-weaker c.identity_to_json.result _ _ (λ value is. who_is (view value) c.in-Some.who.now is ∙ ap (λ o. Some (option_map (λ who. who.now) o)) (sym c.in-Some.is)) c.identity_to_json.ensures.value
