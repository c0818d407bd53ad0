-- The tokens of children, and the text of the tokens of a value.
use Rattle.std.proofs.Common.{◌≡◌, ℕ, List, [], ◌++◌, map, ap, ◌∙◌}
use Rattle.json.specs.Token.{Token}
use Rattle.json.specs.Print.{print}
use Rattle.json.specs.Tree.{json_tokens, members_tokens}
use Rattle.json.specs.Written.{Written}
use Rattle.serde_json.specs.Data.{Data}
use Rattle.serde_json.specs.Written.{outline, members_outline, compact_text}
use Rattle.serde_json.proofs.Texts.{print-outline}
use Rattle.tree_model.specs.Key.{Key}
use Rattle.tree_model.specs.Tree.{Tree}
use Rattle.json_tree.specs.Json.{members_of}
use Rattle.json_tree.proofs.Written.{written}

-- with the closing bracket
abbrev pub children_tokens : List (Key × Tree) → List Token
children_tokens cs = members_tokens (members_outline (members_of (map written cs)))

-- the text of a writer that has written a value, and nothing before it
pub text_behind : (d : Data) (bytes text : List ℕ) (start end : Written) → start.before ≡ bytes → start.tokens ≡ [] → end.before ≡ start.before → end.tokens ≡ start.tokens ++ json_tokens (outline d)
    → text ≡ end.before ++ print end.tokens → text ≡ bytes ++ compact_text d
text_behind d bytes text start end before nothing same value is =
    let tokens = value ∙ ap (λ ts. ts ++ json_tokens (outline d)) nothing in
    is ∙ (λ i. (same ∙ before) i ++ print (tokens i)) ∙ ap (λ s. bytes ++ s) (print-outline d)
