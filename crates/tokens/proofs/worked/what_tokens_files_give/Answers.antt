-- Computed.
use Rattle.std.proofs.Common.{refl}
use Rattle.std.specs.Str.{is_utf8, chars}
use Rattle.serde_json.proofs.OnLiterals.{serde_json_on_literals}
use Rattle.tree_model.specs.Primitive.{is_text, is_whole}
use Rattle.tokens.specs.Tokens.{json_of, tokens_of, tokens_in, identity_named}
use Rattle.tokens.proofs.worked.what_tokens_files_give.Goals as goal

pub returns-clause-no_token : goal.returns-clause-no_token
unfolding serde_json_on_literals is_utf8 chars is_text is_whole json_of tokens_of tokens_in identity_named
returns-clause-no_token c = refl

pub returns-clause-one_token : goal.returns-clause-one_token
unfolding serde_json_on_literals is_utf8 chars is_text is_whole json_of tokens_of tokens_in identity_named
returns-clause-one_token c = refl

pub returns-clause-null : goal.returns-clause-null
unfolding serde_json_on_literals is_utf8 chars is_text is_whole json_of tokens_of tokens_in identity_named
returns-clause-null c = refl

pub returns-clause-number : goal.returns-clause-number
unfolding serde_json_on_literals is_utf8 chars is_text is_whole json_of tokens_of tokens_in identity_named
returns-clause-number c = refl

pub returns-clause-empty_secret : goal.returns-clause-empty_secret
unfolding serde_json_on_literals is_utf8 chars is_text is_whole json_of tokens_of tokens_in identity_named
returns-clause-empty_secret c = refl

pub returns-clause-other_member : goal.returns-clause-other_member
unfolding serde_json_on_literals is_utf8 chars is_text is_whole json_of tokens_of tokens_in identity_named
returns-clause-other_member c = refl

pub returns-clause-no_member : goal.returns-clause-no_member
unfolding serde_json_on_literals is_utf8 chars is_text is_whole json_of tokens_of tokens_in identity_named
returns-clause-no_member c = refl

pub returns-clause-no_object : goal.returns-clause-no_object
unfolding serde_json_on_literals is_utf8 chars is_text is_whole json_of tokens_of tokens_in identity_named
returns-clause-no_object c = refl

pub returns-clause-no_json : goal.returns-clause-no_json
unfolding serde_json_on_literals is_utf8 chars is_text is_whole json_of tokens_of tokens_in identity_named
returns-clause-no_json c = refl

pub returns-clause-no_text : goal.returns-clause-no_text
unfolding serde_json_on_literals is_utf8 chars is_text is_whole json_of tokens_of tokens_in identity_named
returns-clause-no_text c = refl

pub returns-clause-found : goal.returns-clause-found
unfolding serde_json_on_literals is_utf8 chars is_text is_whole json_of tokens_of tokens_in identity_named
returns-clause-found c = refl

pub returns-clause-not_found : goal.returns-clause-not_found
unfolding serde_json_on_literals is_utf8 chars is_text is_whole json_of tokens_of tokens_in identity_named
returns-clause-not_found c = refl
