-- The members of an outline as those of an object.
use Rattle.std.proofs.Common.{◌≡◌, ℕ, ◌+◌, ◌<◌, List, [], ◌∷◌, ◌++◌, length, take, get_or, Some, refl, sym, ap, subst, ◌∙◌}
use Rattle.std.proofs.lemmas.List.{take_more}
use Rattle.serde_json.specs.Data.{Members, no_members, put}
use Rattle.serde_json.specs.Find.{get_member}
use Rattle.serde_json.proofs.Views.{get_member-put, get_member-put_other}
use Rattle.json_lines.specs.declared.member_name.MemberName.{MemberName}
use Rattle.json_lines.specs.declared.outline.Member.{Member}
use Rattle.json_lines.specs.MemberName.{name_text}
use Rattle.json_lines.specs.Outline.{said_data, put_all}
use Rattle.json_lines.proofs.MemberNames.{one_name}

pub put_one_more : (ms : List Member) (m : Member) (there : Members) → put_all (ms ++ m ∷ []) there ≡ put (name_text m.name) (said_data m.said) (put_all ms there)
put_one_more [] m there = refl
put_one_more (x ∷ ms) m there = put_one_more ms m (put (name_text x.name) (said_data x.said) there)

-- the member at the end counts for its name
pub last_here : (ms : List Member) (m : Member) (name : MemberName) → m.name ≡ name → get_member (name_text name) (put_all (ms ++ m ∷ []) no_members) ≡ Some (said_data m.said)
last_here ms m name same =
    let before = put_all ms no_members in
    ap (get_member (name_text name)) (put_one_more ms m no_members)
    ∙ subst (λ n. get_member (name_text n) (put (name_text m.name) (said_data m.said) before) ≡ Some (said_data m.said)) same (get_member-put (name_text m.name) (said_data m.said) before)

-- and changes nothing for another name
pub last_other : (ms : List Member) (m : Member) (name : MemberName) → ¬ (m.name ≡ name) → get_member (name_text name) (put_all (ms ++ m ∷ []) no_members) ≡ get_member (name_text name) (put_all ms no_members)
last_other ms m name differs =
    let other : ¬ (name_text name ≡ name_text m.name) = (λ same. differs (one_name m.name name (sym same))) in
    ap (get_member (name_text name)) (put_one_more ms m no_members) ∙ get_member-put_other (name_text name) (name_text m.name) (said_data m.said) (put_all ms no_members) other

-- those before an index, with the member there
up_to : (ms : List Member) (i : ℕ) (m : Member) → i < length ms → m ≡ get_or ms i m → take (i + 1) ms ≡ take i ms ++ m ∷ []
up_to ms i m within is = take_more ms i m within ∙ ap (λ x. take i ms ++ x ∷ []) (sym is)

-- the member at i counts for its name, whatever stands before it
pub said_here : (ms : List Member) (i : ℕ) (m : Member) (name : MemberName) → i < length ms → m ≡ get_or ms i m → m.name ≡ name → get_member (name_text name) (put_all (take (i + 1) ms) no_members) ≡ Some (said_data m.said)
said_here ms i m name within is same = ap (λ xs. get_member (name_text name) (put_all xs no_members)) (up_to ms i m within is) ∙ last_here (take i ms) m name same

-- and changes nothing for another name
pub said_before : (ms : List Member) (i : ℕ) (m : Member) (name : MemberName) → i < length ms → m ≡ get_or ms i m → ¬ (m.name ≡ name)
    → get_member (name_text name) (put_all (take (i + 1) ms) no_members) ≡ get_member (name_text name) (put_all (take i ms) no_members)
said_before ms i m name within is differs = ap (λ xs. get_member (name_text name) (put_all xs no_members)) (up_to ms i m within is) ∙ last_other (take i ms) m name differs
