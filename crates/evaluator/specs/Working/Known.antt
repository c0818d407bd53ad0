-- What known names mean.
use Rattle.std.specs.Prelude.{pos, Option, Some, None, option_map}
use Rattle.expr_tokens.specs.declared.known.KnownName.{KnownName}
use Rattle.expr_tokens.specs.declared.known.KnownName.TheVariants as names
use Rattle.evaluator.specs.Identity.{Identity}
use Rattle.evaluator.specs.Value.{Value, truth, whole, Meaning, value, snapshot, auth, token, Snapshot}
use Rattle.evaluator.specs.Snapshot.{root_of, exists_at, primitive_at, val_at, has_children_at, is_number, is_string, is_boolean, parent_at}
use Rattle.evaluator.specs.Members.{text_or_null}
use Rattle.evaluator.specs.Env.{Env, asked_in, coming_in}

-- the variable of a known name
abbrev pub variable_known : Option KnownName → Env → Option Meaning
variable_known (Some names.Auth) env = Some (auth env.who)
variable_known (Some names.Now) env = Some (value (whole (pos env.moment)))
variable_known (Some names.Root) env = Some (snapshot (root_of env.here))
variable_known (Some names.Data) env = Some (snapshot env.here)
variable_known (Some names.NewData) env = coming_in env.access
variable_known (Some names.Query) env = asked_in env.access
variable_known _ env = None

-- the part of `auth` that has a known name
abbrev pub auth_part_known : Option KnownName → Option Identity → Option Meaning
auth_part_known (Some names.Uid) who = Some (value (text_or_null (option_map (λ a. a.uid) who)))
auth_part_known (Some names.Provider) who = Some (value (text_or_null (option_map (λ a. a.provider) who)))
auth_part_known (Some names.Token) who = Some (token (option_map (λ a. a.claims) who))
auth_part_known _ who = None

-- what the method of a known name gives that takes nothing and gives a value
abbrev pub test_known : Option KnownName → Snapshot → Option Value
test_known (Some names.Val) s = Some (val_at s)
test_known (Some names.Exists) s = Some (truth (exists_at s))
test_known (Some names.HasChildren) s = Some (truth (has_children_at s))
test_known (Some names.IsNumber) s = Some (truth (is_number (primitive_at s)))
test_known (Some names.IsString) s = Some (truth (is_string (primitive_at s)))
test_known (Some names.IsBoolean) s = Some (truth (is_boolean (primitive_at s)))
test_known _ s = None

-- what the method of a known name gives that takes nothing
abbrev pub call_known : Option KnownName → Snapshot → Option Meaning
call_known (Some names.Parent) s = option_map snapshot (parent_at s)
call_known known s = option_map value (test_known known s)
