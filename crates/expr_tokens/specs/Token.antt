-- Which words are tokens.
use Rattle.std.specs.Prelude.{ℕ, Bool, ◌==◌, ◌&&◌, nat_le, if◌then◌else◌, List, [], ◌∷◌, Option, Some, None, option_map, unwrap_or, codes}
use Rattle.std.specs.List.{list_all}
use Rattle.std.specs.Str.{bytes_eq}
use Rattle.std.specs.Char.{is_ascii_digit}
use Rattle.expr_tokens.specs.declared.operator.Operator.TheVariants as o
use Rattle.expr_tokens.specs.declared.token.Token.{Token}
use Rattle.expr_tokens.specs.declared.token.Token.TheVariants as t
use Rattle.expr_tokens.specs.Words.{is_name_start, is_name_byte, is_name, numeral, greatest}
use Rattle.expr_tokens.specs.Quoted.{is_quote, meaning}

-- The 23 signs, each with its token. (Firebase Security Rules reference, expressions: operators; === and !== are this project's profile.)
abbrev pub signs : List (List ℕ × Token)
signs =
    (codes "(", t.OpenParenthesis) ∷ (codes ")", t.CloseParenthesis) ∷ (codes "[", t.OpenBracket) ∷ (codes "]", t.CloseBracket)
    ∷ (codes ",", t.Comma) ∷ (codes ".", t.Dot) ∷ (codes "?", t.Question) ∷ (codes ":", t.Colon)
    ∷ (codes "!==", t.Operator o.NotEqual) ∷ (codes "!=", t.Operator o.NotEqual) ∷ (codes "!", t.Not)
    ∷ (codes "-", t.Operator o.Subtract) ∷ (codes "+", t.Operator o.Add) ∷ (codes "*", t.Operator o.Multiply) ∷ (codes "%", t.Operator o.Remainder)
    ∷ (codes "<=", t.Operator o.LessOrEqual) ∷ (codes "<", t.Operator o.Less) ∷ (codes ">=", t.Operator o.GreaterOrEqual) ∷ (codes ">", t.Operator o.Greater)
    ∷ (codes "===", t.Operator o.Equal) ∷ (codes "==", t.Operator o.Equal)
    ∷ (codes "&&", t.Operator o.And) ∷ (codes "||", t.Operator o.Or) ∷ []

-- The names that are literals. (Firebase Security Rules reference, expressions.)
abbrev pub literals : List (List ℕ × Token)
literals = (codes "true", t.True) ∷ (codes "false", t.False) ∷ (codes "null", t.Null) ∷ []

-- what a table gives for a word
abbrev pub word_in : List (List ℕ × Token) → List ℕ → Option Token
word_in [] word = None
word_in (s ∷ ss) word = if bytes_eq s.0 word then Some s.1 else word_in ss word

-- digits, if they say a number that can be written (this project's profile)
abbrev pub number : List ℕ → Option Token
number word = if list_all is_ascii_digit word && nat_le (numeral word) greatest then Some (t.Number (numeral word)) else None

-- the token of a name: behind a dot each is a name, and elsewhere it may be a literal (this project's profile)
abbrev pub named : Bool → List ℕ → Token
named after_dot word = if after_dot then t.Name word else unwrap_or (word_in literals word) (t.Name word)

-- a name's token, if all its bytes may stand in one (this project's profile)
abbrev pub name : Bool → List ℕ → Option Token
name after_dot word = if list_all is_name_byte word then Some (named after_dot word) else None

-- a capture, read behind its $ (this project's profile)
abbrev pub capture : List ℕ → Option Token
capture word = if is_name word then Some (t.Capture word) else None

-- The token that a whole word spells: a number, a name, a text, a capture or a sign. (This project's profile.)
abbrev pub token_of : Bool → List ℕ → Option Token
token_of after_dot [] = None
token_of after_dot (c ∷ cs) =
    if is_ascii_digit c then number (c ∷ cs)
    else (if is_name_start c then name after_dot (c ∷ cs)
    else (if is_quote c then option_map t.Text (meaning (c ∷ cs))
    else (if c == 36 then capture cs
    else word_in signs (c ∷ cs))))
