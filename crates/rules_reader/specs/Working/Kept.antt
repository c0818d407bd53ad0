-- What a node keeps of the variables that its rules mention.
use Rattle.std.specs.Prelude.{◌≡◌, Bool, true, false, Option, Some}
use Rattle.expr_tokens.specs.declared.known.KnownName.{KnownName}
use Rattle.expr_tokens.specs.declared.known.KnownName.TheVariants as known_names
use Rattle.rules_reader.specs.declared.kind.Kind.{Kind}
use Rattle.rules_reader.specs.declared.kind.Kind.TheVariants.{Read, Write, Validate}
use Rattle.rules_reader.specs.declared.mentions.TreeVariable.{TreeVariable}
use Rattle.rules_reader.specs.declared.mentions.TreeVariable.TheVariants.{Data, NewData}
use Rattle.rules_reader.specs.declared.mentions.Mentions.{Mentions}
use Rattle.rules_reader.specs.Book.{Book, states}
use Rattle.rules_reader.specs.Mentions.{mentions_for}

-- what is kept of a kind of rule
abbrev pub kept_for : Kind → Mentions → Bool
kept_for Read kept = kept.read
kept_for Write kept = kept.write
kept_for Validate kept = kept.validate

-- of each kind of rule it is kept whether one in the book mentions the variable
pub record Keeps (variable : TreeVariable) (kept : Mentions) (book : Book) : Type 0 where
  pub each : (kind : Kind) → kept_for kind kept ≡ states (mentions_for variable kind) book

-- the known name is that of the variable
abbrev pub is_known_as : TreeVariable → Option KnownName → Bool
is_known_as Data (Some known_names.Data) = true
is_known_as Data _ = false
is_known_as NewData (Some known_names.NewData) = true
is_known_as NewData _ = false
