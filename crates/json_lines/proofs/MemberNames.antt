-- The names of members, identified by their texts.
use Rattle.std.proofs.Common.{◌≡◌, ℕ, List, codes, bytes_eq, cond, Option, Some, None, refl, sym, ap, ◌∙◌}
use Rattle.json_lines.specs.declared.member_name.MemberName.{MemberName}
use Rattle.json_lines.specs.declared.member_name.MemberName.TheVariants.{Do, Now, Session, Path, Query, Value, Values, Id, Token, Rules}
use Rattle.json_lines.specs.MemberName.{name_text}

-- the name that a text is
abbrev name_of : List ℕ → Option MemberName
name_of text =
    cond (bytes_eq text (codes "do")) (Some Do)
    (cond (bytes_eq text (codes "now")) (Some Now)
    (cond (bytes_eq text (codes "s")) (Some Session)
    (cond (bytes_eq text (codes "path")) (Some Path)
    (cond (bytes_eq text (codes "query")) (Some Query)
    (cond (bytes_eq text (codes "value")) (Some Value)
    (cond (bytes_eq text (codes "values")) (Some Values)
    (cond (bytes_eq text (codes "id")) (Some Id)
    (cond (bytes_eq text (codes "token")) (Some Token)
    (cond (bytes_eq text (codes "rules")) (Some Rules) None)))))))))

named : (name : MemberName) → name_of (name_text name) ≡ Some name
named Do = refl
named Now = refl
named Session = refl
named Path = refl
named Query = refl
named Value = refl
named Values = refl
named Id = refl
named Token = refl
named Rules = refl

-- two names of one text are one
pub one_name : (a b : MemberName) → name_text a ≡ name_text b → a ≡ b
one_name a b same = let both : Some a ≡ Some b = sym (named a) ∙ ap name_of same ∙ named b in cc
