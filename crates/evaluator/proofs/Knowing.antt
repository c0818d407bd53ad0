-- What known names mean, as the names do.
use Rattle.std.proofs.Common.{◌≡◌, ◌≢◌, ℕ, List, false, Option, Some, None, refl, sym, ap, subst, ◌∙◌}
use Rattle.std.specs.Str.{bytes_eq}
use Rattle.std.specs.Prelude.{option_map}
use Rattle.tree_model.proofs.Choices.{not_true}
use Rattle.tree_model.proofs.Orders.{same_key}
use Rattle.expr_tokens.specs.declared.known.KnownName.{KnownName}
use Rattle.expr_tokens.specs.declared.known.KnownName.TheVariants.{Auth, Now, Root, Data, NewData, Query, Uid, Provider, Token, Val, Exists, IsNumber, IsString, IsBoolean, Parent, Child, HasChild, HasChildren}
use Rattle.expr_tokens.specs.Known.{text_of, Tells}
use Rattle.evaluator.specs.Identity.{Identity}
use Rattle.evaluator.specs.Value.{value, Snapshot}
use Rattle.evaluator.specs.Members.{auth_part}
use Rattle.evaluator.specs.Calls.{type_test, snapshot_test, snapshot_call}
use Rattle.evaluator.specs.Env.{Env, variable}
use Rattle.evaluator.specs.Working.Known.{variable_known, auth_part_known, test_known, call_known}
use Rattle.evaluator.proofs.Names.{cond_false}

-- no known name has this text
abbrev IsUnknown : List ℕ → Type 0
IsUnknown f = (known : KnownName) → text_of known ≢ f

differs : (f : List ℕ) → IsUnknown f → (known : KnownName) → bytes_eq (text_of known) f ≡ false
differs f none known = not_true (bytes_eq (text_of known) f) (λ h. none known (same_key (text_of known) f h))

-- ---- variable

named_variable : (known : KnownName) (env : Env) → variable (text_of known) env ≡ variable_known (Some known) env
unfolding variable
named_variable Auth env = refl
named_variable Now env = refl
named_variable Root env = refl
named_variable Data env = refl
named_variable NewData env = refl
named_variable Query env = refl
named_variable Uid env = refl
named_variable Provider env = refl
named_variable Token env = refl
named_variable Val env = refl
named_variable Exists env = refl
named_variable IsNumber env = refl
named_variable IsString env = refl
named_variable IsBoolean env = refl
named_variable Parent env = refl
named_variable Child env = refl
named_variable HasChild env = refl
named_variable HasChildren env = refl

no_variable : (f : List ℕ) (env : Env) → IsUnknown f → variable f env ≡ None
unfolding variable
no_variable f env none = cond_false _ _ _ (differs f none Auth) ∙ cond_false _ _ _ (differs f none Now) ∙ cond_false _ _ _ (differs f none Root) ∙ cond_false _ _ _ (differs f none Data) ∙ cond_false _ _ _ (differs f none NewData) ∙ cond_false _ _ _ (differs f none Query)

pub variable_is : (known : Option KnownName) (f : List ℕ) (env : Env) → Tells known f → variable f env ≡ variable_known known env
variable_is (Some known) f env named = subst (λ g. variable g env ≡ variable_known (Some known) env) named (named_variable known env)
variable_is None f env none = no_variable f env none

-- ---- auth_part

named_auth_part : (known : KnownName) (who : Option Identity) → auth_part (text_of known) who ≡ auth_part_known (Some known) who
unfolding auth_part
named_auth_part Auth who = refl
named_auth_part Now who = refl
named_auth_part Root who = refl
named_auth_part Data who = refl
named_auth_part NewData who = refl
named_auth_part Query who = refl
named_auth_part Uid who = refl
named_auth_part Provider who = refl
named_auth_part Token who = refl
named_auth_part Val who = refl
named_auth_part Exists who = refl
named_auth_part IsNumber who = refl
named_auth_part IsString who = refl
named_auth_part IsBoolean who = refl
named_auth_part Parent who = refl
named_auth_part Child who = refl
named_auth_part HasChild who = refl
named_auth_part HasChildren who = refl

no_auth_part : (f : List ℕ) (who : Option Identity) → IsUnknown f → auth_part f who ≡ None
unfolding auth_part
no_auth_part f who none = cond_false _ _ _ (differs f none Uid) ∙ cond_false _ _ _ (differs f none Provider) ∙ cond_false _ _ _ (differs f none Token)

pub auth_part_is : (known : Option KnownName) (f : List ℕ) (who : Option Identity) → Tells known f → auth_part f who ≡ auth_part_known known who
auth_part_is (Some known) f who named = subst (λ g. auth_part g who ≡ auth_part_known (Some known) who) named (named_auth_part known who)
auth_part_is None f who none = no_auth_part f who none

-- ---- snapshot_test

named_snapshot_test : (known : KnownName) (s : Snapshot) → snapshot_test (text_of known) s ≡ test_known (Some known) s
unfolding snapshot_test type_test
named_snapshot_test Auth s = refl
named_snapshot_test Now s = refl
named_snapshot_test Root s = refl
named_snapshot_test Data s = refl
named_snapshot_test NewData s = refl
named_snapshot_test Query s = refl
named_snapshot_test Uid s = refl
named_snapshot_test Provider s = refl
named_snapshot_test Token s = refl
named_snapshot_test Val s = refl
named_snapshot_test Exists s = refl
named_snapshot_test IsNumber s = refl
named_snapshot_test IsString s = refl
named_snapshot_test IsBoolean s = refl
named_snapshot_test Parent s = refl
named_snapshot_test Child s = refl
named_snapshot_test HasChild s = refl
named_snapshot_test HasChildren s = refl

no_snapshot_test : (f : List ℕ) (s : Snapshot) → IsUnknown f → snapshot_test f s ≡ None
unfolding snapshot_test type_test
no_snapshot_test f s none = cond_false _ _ _ (differs f none Val) ∙ cond_false _ _ _ (differs f none Exists) ∙ cond_false _ _ _ (differs f none HasChildren) ∙ cond_false _ _ _ (differs f none IsNumber) ∙ cond_false _ _ _ (differs f none IsString) ∙ cond_false _ _ _ (differs f none IsBoolean)

pub snapshot_test_is : (known : Option KnownName) (f : List ℕ) (s : Snapshot) → Tells known f → snapshot_test f s ≡ test_known known s
snapshot_test_is (Some known) f s named = subst (λ g. snapshot_test g s ≡ test_known (Some known) s) named (named_snapshot_test known s)
snapshot_test_is None f s none = no_snapshot_test f s none

-- ---- snapshot_call

named_snapshot_call : (known : KnownName) (s : Snapshot) → snapshot_call (text_of known) s ≡ call_known (Some known) s
unfolding snapshot_call snapshot_test type_test
named_snapshot_call Auth s = refl
named_snapshot_call Now s = refl
named_snapshot_call Root s = refl
named_snapshot_call Data s = refl
named_snapshot_call NewData s = refl
named_snapshot_call Query s = refl
named_snapshot_call Uid s = refl
named_snapshot_call Provider s = refl
named_snapshot_call Token s = refl
named_snapshot_call Val s = refl
named_snapshot_call Exists s = refl
named_snapshot_call IsNumber s = refl
named_snapshot_call IsString s = refl
named_snapshot_call IsBoolean s = refl
named_snapshot_call Parent s = refl
named_snapshot_call Child s = refl
named_snapshot_call HasChild s = refl
named_snapshot_call HasChildren s = refl

no_snapshot_call : (f : List ℕ) (s : Snapshot) → IsUnknown f → snapshot_call f s ≡ None
unfolding snapshot_call snapshot_test type_test
no_snapshot_call f s none = cond_false _ _ _ (differs f none Parent) ∙ ap (option_map value) (no_snapshot_test f s none)

pub snapshot_call_is : (known : Option KnownName) (f : List ℕ) (s : Snapshot) → Tells known f → snapshot_call f s ≡ call_known known s
snapshot_call_is (Some known) f s named = subst (λ g. snapshot_call g s ≡ call_known (Some known) s) named (named_snapshot_call known s)
snapshot_call_is None f s none = no_snapshot_call f s none

-- ---- the name that is found

pub told : (known : Option KnownName) (name : KnownName) (f : List ℕ) → Tells known f → known ≡ Some name → f ≡ text_of name
told (Some other) name f named is = let same : other ≡ name = cc in sym named ∙ ap text_of same
told None name f none is = cc
