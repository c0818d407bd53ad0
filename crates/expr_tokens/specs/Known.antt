-- The names that most rules ask for.
use Rattle.std.specs.Prelude.{◌≡◌, ◌≢◌, ℕ, List, codes, Option, Some, None}
use Rattle.expr_tokens.specs.declared.known.KnownName.{KnownName}
use Rattle.expr_tokens.specs.declared.known.KnownName.TheVariants as names

-- the text of a name that is known. (Reference, variables and RuleDataSnapshot methods.)
abbrev pub text_of : KnownName → List ℕ
text_of names.Auth = codes "auth"
text_of names.Now = codes "now"
text_of names.Root = codes "root"
text_of names.Data = codes "data"
text_of names.NewData = codes "newData"
text_of names.Query = codes "query"
text_of names.Uid = codes "uid"
text_of names.Provider = codes "provider"
text_of names.Token = codes "token"
text_of names.Val = codes "val"
text_of names.Exists = codes "exists"
text_of names.IsNumber = codes "isNumber"
text_of names.IsString = codes "isString"
text_of names.IsBoolean = codes "isBoolean"
text_of names.Parent = codes "parent"
text_of names.Child = codes "child"
text_of names.HasChild = codes "hasChild"
text_of names.HasChildren = codes "hasChildren"

-- the known name that a text is, or that it is none
abbrev pub Tells : Option KnownName → List ℕ → Type 0
Tells (Some known) text = text_of known ≡ text
Tells None text = (known : KnownName) → text_of known ≢ text
