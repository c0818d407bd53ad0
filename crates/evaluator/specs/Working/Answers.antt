-- What a result of the code says about what something means. None is an error.
use Rattle.std.specs.Prelude.{◌≡◌, Option, Some, None, Result, OnOk, IfOk, IsErrOf}
use Rattle.evaluator.specs.declared.value.Stop.{Stop}
use Rattle.evaluator.specs.declared.value.Stop.TheVariants.{Erred}

-- Ok says that this was found and is meant, Erred says that an error is meant, and NoMemory says nothing.
pub record Finds {T A : Type 0} (result : Result T Stop) (found : A) (meant : Option A) : Type 0 where
  pub value : OnOk result (meant ≡ Some found)
  pub erred : IsErrOf result Erred → meant ≡ None

-- The same of a result that holds what was found: it is read from there.
pub record Gives {T A : Type 0} (result : Result T Stop) (read : T → A) (meant : Option A) : Type 0 where
  pub value : IfOk result (λ held. meant ≡ Some (read held))
  pub erred : IsErrOf result Erred → meant ≡ None
