-- When two environments look the same to an expression, by its scope.
use Rattle.std.specs.Prelude.{◌≡◌}
use Rattle.tree_model.specs.PathMap.{sub}
use Rattle.expr_types.specs.declared.scope.Scope.{Scope}
use Rattle.expr_types.specs.declared.scope.Scope.TheVariants.{Request, Location, Database}
use Rattle.evaluator.specs.Env.{Env}

-- the same is asked: by whom, what, and below which captures; the moment and the whole tree may differ. (Reference, variables: `auth`, `query`; Guide "Core syntax", using $ variables to capture path segments.)
pub record SameRequest (one other : Env) : Type 0 where
  pub who : one.who ≡ other.who
  pub access : one.access ≡ other.access
  pub captures : one.captures ≡ other.captures

-- and at the same path, where the same stands, and below it; the moment and the rest of the trees may differ. (Reference, variables: `data`.)
pub record SameLocation (one other : Env) : Type 0 where
  pub request : SameRequest one other
  pub path : one.here.1 ≡ other.here.1
  pub below : sub one.here.0 one.here.1 ≡ sub other.here.0 other.here.1

-- they look the same to an expression of this scope. (This project's profile.)
abbrev pub LookSame : Scope → Env → Env → Type 0
LookSame Request one other = SameRequest one other
LookSame Location one other = SameLocation one other
LookSame Database one other = one ≡ other
