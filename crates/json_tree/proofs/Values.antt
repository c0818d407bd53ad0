-- What a value of each kind is seen as.
use Rattle.std.proofs.Common.{◌≡◌, Bool, String, Global, string_bytes, rules}
use Rattle.serde_json.specs.Data.{null, boolean, number, string}
use Rattle.serde_json.specs.View.{view, number_view}
use Rattle.serde_json.specs.declared.number.Number.{Number as JsonNumber}
use Rattle.serde_json.specs.declared.value.Value as value

pub view-Null : view value.Null ≡ null
view-Null = search (rules, value.the_lemmas)

pub view-Bool : (b : Bool) → view (value.Bool b) ≡ boolean b
view-Bool b = search (rules, value.the_lemmas)

pub view-Number : (n : JsonNumber) → view (value.Number n) ≡ number (number_view n)
view-Number n = search (rules, value.the_lemmas)

pub view-String : (s : String Global) → view (value.String s) ≡ string (string_bytes s)
view-String s = search (rules, value.the_lemmas)
