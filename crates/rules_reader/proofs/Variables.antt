-- A name is `data` or `newData` exactly where the known name that it is says so.
use Rattle.std.proofs.Common.{◌≡◌, ◌≢◌, ℕ, List, false, Option, Some, None, refl, sym, subst}
use Rattle.std.specs.Str.{bytes_eq}
use Rattle.tree_model.proofs.Choices.{not_true}
use Rattle.tree_model.proofs.Orders.{same_key}
use Rattle.expr_tokens.specs.declared.known.KnownName.{KnownName}
use Rattle.expr_tokens.specs.declared.known.KnownName.TheVariants as names
use Rattle.expr_tokens.specs.Known.{text_of, Tells}
use Rattle.rules_reader.specs.declared.mentions.TreeVariable.{TreeVariable}
use Rattle.rules_reader.specs.declared.mentions.TreeVariable.TheVariants.{Data, NewData}
use Rattle.rules_reader.specs.Mentions.{variable_text}
use Rattle.rules_reader.specs.Working.Kept.{is_known_as}

named_data : (known : KnownName) → is_known_as Data (Some known) ≡ bytes_eq (text_of known) (variable_text Data)
named_data names.Auth = refl
named_data names.Now = refl
named_data names.Root = refl
named_data names.Data = refl
named_data names.NewData = refl
named_data names.Query = refl
named_data names.Uid = refl
named_data names.Provider = refl
named_data names.Token = refl
named_data names.Val = refl
named_data names.Exists = refl
named_data names.IsNumber = refl
named_data names.IsString = refl
named_data names.IsBoolean = refl
named_data names.Parent = refl
named_data names.Child = refl
named_data names.HasChild = refl
named_data names.HasChildren = refl

named_new_data : (known : KnownName) → is_known_as NewData (Some known) ≡ bytes_eq (text_of known) (variable_text NewData)
named_new_data names.Auth = refl
named_new_data names.Now = refl
named_new_data names.Root = refl
named_new_data names.Data = refl
named_new_data names.NewData = refl
named_new_data names.Query = refl
named_new_data names.Uid = refl
named_new_data names.Provider = refl
named_new_data names.Token = refl
named_new_data names.Val = refl
named_new_data names.Exists = refl
named_new_data names.IsNumber = refl
named_new_data names.IsString = refl
named_new_data names.IsBoolean = refl
named_new_data names.Parent = refl
named_new_data names.Child = refl
named_new_data names.HasChild = refl
named_new_data names.HasChildren = refl

named : (v : TreeVariable) (known : KnownName) → is_known_as v (Some known) ≡ bytes_eq (text_of known) (variable_text v)
named Data known = named_data known
named NewData known = named_new_data known

unknown : (f : List ℕ) (known : KnownName) → text_of known ≢ f → false ≡ bytes_eq f (text_of known)
unknown f known none = sym (not_true (bytes_eq f (text_of known)) (λ h. none (sym (same_key f (text_of known) h))))

pub variable_is : (v : TreeVariable) (known : Option KnownName) (f : List ℕ) → Tells known f → is_known_as v known ≡ bytes_eq f (variable_text v)
variable_is v (Some known) f is = subst (λ g. is_known_as v (Some known) ≡ bytes_eq g (variable_text v)) is (named v known)
variable_is Data None f none = unknown f names.Data (none names.Data)
variable_is NewData None f none = unknown f names.NewData (none names.NewData)
