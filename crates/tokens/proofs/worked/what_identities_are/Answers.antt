-- Computed.
use Rattle.std.proofs.Common.{refl}
use Rattle.std.specs.Str.{is_utf8, chars}
use Rattle.serde_json.proofs.OnLiterals.{serde_json_on_literals}
use Rattle.tree_model.specs.Primitive.{is_text, is_whole}
use Rattle.tokens.specs.Tokens.{json_of, tokens_of, tokens_in, identity_named}
use Rattle.tokens.proofs.worked.what_identities_are.Goals as goal

pub returns-clause-without_rights : goal.returns-clause-without_rights
unfolding serde_json_on_literals is_utf8 chars is_text is_whole json_of tokens_of tokens_in identity_named
returns-clause-without_rights c = refl

pub returns-clause-administrator : goal.returns-clause-administrator
unfolding serde_json_on_literals is_utf8 chars is_text is_whole json_of tokens_of tokens_in identity_named
returns-clause-administrator c = refl

pub returns-clause-no_uid : goal.returns-clause-no_uid
unfolding serde_json_on_literals is_utf8 chars is_text is_whole json_of tokens_of tokens_in identity_named
returns-clause-no_uid c = refl

pub returns-clause-unknown_member : goal.returns-clause-unknown_member
unfolding serde_json_on_literals is_utf8 chars is_text is_whole json_of tokens_of tokens_in identity_named
returns-clause-unknown_member c = refl

pub returns-clause-null_admin : goal.returns-clause-null_admin
unfolding serde_json_on_literals is_utf8 chars is_text is_whole json_of tokens_of tokens_in identity_named
returns-clause-null_admin c = refl

pub returns-clause-null_claims : goal.returns-clause-null_claims
unfolding serde_json_on_literals is_utf8 chars is_text is_whole json_of tokens_of tokens_in identity_named
returns-clause-null_claims c = refl

pub returns-clause-null_claim : goal.returns-clause-null_claim
unfolding serde_json_on_literals is_utf8 chars is_text is_whole json_of tokens_of tokens_in identity_named
returns-clause-null_claim c = refl

pub returns-clause-claims_of_objects : goal.returns-clause-claims_of_objects
unfolding serde_json_on_literals is_utf8 chars is_text is_whole json_of tokens_of tokens_in identity_named
returns-clause-claims_of_objects c = refl

pub returns-clause-last_one_counts : goal.returns-clause-last_one_counts
unfolding serde_json_on_literals is_utf8 chars is_text is_whole json_of tokens_of tokens_in identity_named
returns-clause-last_one_counts c = refl
