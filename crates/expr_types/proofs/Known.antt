-- The captures that a name is found among, and what is reported of one that is not.
use Rattle.std.proofs.Common.{◌≡◌, ℕ, List, [], ◌∷◌, Bool, true, false, Option, Some, None, refl, sym, ap, Result, Ok, Err, arith}
use Rattle.std.proofs.lemmas.Grind.{common_steps}
use Rattle.std.specs.Prelude.{is_some, option_map, IsErr, IfOk}
use Rattle.std.specs.declared.alloc.AllocError.{AllocError}
use Rattle.std.specs.Str.{bytes_eq}
use Rattle.tree_model.specs.Key.{Key}
use Rattle.path_capture.specs.Captures.{names, key_named}
use Rattle.expr_types.specs.Names.{is_among}
use Rattle.expr_types.specs.Working.Gives.{Gives, Refuses}
use Rattle.expr_types.specs.declared.sort.Sort.{Sort}
use Rattle.expr_types.specs.declared.fault.TypeFault.{TypeFault}
use Rattle.expr_types.specs.declared.fault.TypeFault.TheVariants.{UnknownName, NoMemory}

step : (f : List ℕ) (c : List ℕ × Key) (cs : List (List ℕ × Key)) (b : Bool) → bytes_eq f c.0 ≡ b → is_some (key_named f cs) ≡ is_among f (names cs) → is_some (key_named f (c ∷ cs)) ≡ is_among f (names (c ∷ cs))
step f c cs true e later = rw e refl
step f c cs false e later = rw e later

-- a name has a key where it is among the names
pub key_is_there : (f : List ℕ) (cs : List (List ℕ × Key)) → is_some (key_named f cs) ≡ is_among f (names cs)
key_is_there f [] = refl
key_is_there f (c ∷ cs) = step f c cs (bytes_eq f c.0) refl (key_is_there f cs)

pub is_there : {A B : Type 0} (o : Option A) (g : A → B) → is_some (option_map g o) ≡ is_some o
is_there None g = refl
is_there (Some x) g = refl

-- that there is no such name is reported, unless memory for it is refused
pub told : (name : Result (List ℕ) AllocError) (fault : TypeFault) (text : List ℕ) → ((t : List ℕ) → name ≡ Ok t → fault ≡ UnknownName t) → (IsErr name → fault ≡ NoMemory) → IfOk name (λ t. t ≡ text) → Refuses {A = Sort} fault (Err (UnknownName text))
told (Ok t) fault text known none is = rw (known t refl) (ap (λ n. Err (UnknownName n)) (sym is))
told (Err e) fault text known none is = rw (none refl) tt

-- what is answered is what is found
pub answered : {A : Type 0} (o : Option A) (fault : TypeFault) (found : Result A TypeFault) (x : A) → o ≡ Some x → Gives o fault found → found ≡ Ok x
answered (Some y) fault found x same gives = grind (arith, common_steps, same, gives)
answered None fault found x same gives = grind (arith, common_steps, same)

-- where there is no answer, a fault is reported
pub unanswered : {A : Type 0} (o : Option A) (fault : TypeFault) (found : Result A TypeFault) → o ≡ None → Gives o fault found → Refuses fault found
unanswered (Some y) fault found same gives = grind (arith, common_steps, same)
unanswered None fault found same gives = gives
