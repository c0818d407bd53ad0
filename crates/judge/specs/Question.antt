-- What is asked of the rules, and what a rule sees at a place.
use Rattle.std.specs.Prelude.{ℕ, Option, option_map}
use Rattle.path_capture.specs.Write.{tree_or_null}
use Rattle.tree_model.specs.Path.{Path}
use Rattle.tree_model.specs.Tree.{Tree}
use Rattle.rules_reader.specs.Part.{Pattern}
use Rattle.rules_reader.specs.Book.{Book}
use Rattle.rules_reader.specs.Place.{captures}
use Rattle.evaluator.specs.Asked.{Asked}
use Rattle.evaluator.specs.Identity.{Identity}
use Rattle.evaluator.specs.Env.{Env, Access, reads, writes}
use Rattle.judge.specs.declared.scene.Scene as code

-- what is judged by: the rules in force, who asks, if somebody is signed in, the moment, and the whole tree that stands. For a read or a write this is the tree before the step; for a listener that is judged again it is the tree after it. (Reference, variables.)
pub record Scene : Type 0 where
  pub book : Book
  pub who : Option Identity
  pub moment : ℕ
  pub old : Tree

-- what is to be done: to read, with these fields of a query, or to write, where all writes of the event propose this tree together. (Reference, `query` and `newData` variables.)
pub data Request : Type 0 where
  read : Asked → Request
  write : Tree → Request

-- what is asked of the rules
pub record Question : Type 0 where
  pub scene : Scene
  pub request : Request

-- what a rule at the path sees of the request: the query, or `newData`, which is the proposed tree at the path. (Reference, `query` and `newData` variables.)
abbrev pub access_at : Request → Path → Access
access_at (read asked) path = reads asked
access_at (write proposed) path = writes (proposed, path)

-- the environment of a rule of this pattern at a path: `root` and `data` are of the tree of the scene, `newData` of the proposed tree, and a capture is the key of the path at its place. (Reference, variables; guide "Core syntax", using $ variables to capture path segments.)
abbrev pub env_at : Question → Pattern → Path → Env
env_at q pattern path = record {
  who = q.scene.who;
  moment = q.scene.moment;
  here = (q.scene.old, path);
  access = access_at q.request path;
  captures = captures pattern path;
}

-- the question whether a read with this query may be done
abbrev pub reading : Scene → Asked → Question
reading scene asked = record { scene = scene; request = read asked }

-- the question whether writes that propose this tree may be done
abbrev pub writing : Scene → Tree → Question
writing scene proposed = record { scene = scene; request = write proposed }

-- ---- that of the code

-- what a scene of the code stands for
abbrev pub scene_of : code.Scene → Scene
scene_of s = record {
  book = s.rules.now;
  who = option_map (λ who. who.now) s.auth;
  moment = s.moment;
  old = tree_or_null s.old;
}
