-- What a report calls that which the profile leaves out.
use Rattle.std.specs.Prelude.{ℕ, List, codes}
use Rattle.expr_tokens.specs.declared.fault.Excluded.{Excluded}
use Rattle.expr_tokens.specs.declared.fault.Excluded.TheVariants.{Slash, Number, Bracket}

-- the name of what is left out (this project's profile)
abbrev pub name_of : Excluded → List ℕ
name_of Slash = codes "/"
name_of Number = codes "number"
name_of Bracket = codes "["
