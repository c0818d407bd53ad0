-- The names that members of messages have.
use Rattle.std.specs.Prelude.{◌≡◌, ◌≤◌, ℕ, List, [], ◌∷◌, ◌++◌, length, take, codes}
use Rattle.json_lines.specs.declared.member_name.MemberName.{MemberName}
use Rattle.json_lines.specs.declared.member_name.MemberName.TheVariants as names

-- the text of a name
abbrev pub name_text : MemberName → List ℕ
name_text names.Do = codes "do"
name_text names.Now = codes "now"
name_text names.Session = codes "s"
name_text names.Path = codes "path"
name_text names.Query = codes "query"
name_text names.Value = codes "value"
name_text names.Values = codes "values"
name_text names.Id = codes "id"
name_text names.Token = codes "token"
name_text names.Rules = codes "rules"

-- a text in quotes, and a colon
abbrev pub in_quotes : List ℕ → List ℕ
in_quotes text = 34 ∷ (text ++ 34 ∷ 58 ∷ [])

-- the text begins with the name in its quotes, and a colon, which are so many bytes
abbrev pub IsBegun : List ℕ → MemberName → ℕ → Type 0
IsBegun text name n = (n ≤ length text) × (take n text ≡ in_quotes (name_text name))

-- with what follows
abbrev pub IsNamed : List ℕ → MemberName → List ℕ → Type 0
IsNamed text name rest = text ≡ in_quotes (name_text name) ++ rest
