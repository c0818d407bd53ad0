-- What is granted.
use Rattle.std.specs.Prelude.{◌≡◌, true}
use Rattle.tree_model.specs.Path.{Path, is_prefix}
use Rattle.rules_reader.specs.declared.kind.Kind.{Kind}
use Rattle.judge.specs.Question.{Question}
use Rattle.judge.specs.Answers.{Holds}

-- a rule of this kind holds at the path or at a prefix of it. (Guide "Core syntax", `.read` and `.write` rules cascade.)
pub record IsGranted (q : Question) (kind : Kind) (path : Path) : Type 0 where
  pub place : Path
  pub above : is_prefix place path ≡ true
  pub holds : Holds q kind place
