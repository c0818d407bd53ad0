-- A text that is no name is no member of a verb.
use Rattle.std.proofs.Common.{◌≡◌, ◌≢◌, ℕ, Bool, true, false, ◌||◌, List, [], ◌∷◌, ◌++◌, map, codes, bytes_eq, cond, Option, Some, None, refl, sym, ap, ◌∙◌}
use Rattle.std.specs.List.{list_any}
use Rattle.std.proofs.lemmas.List.{map-append}
use Rattle.std.proofs.lemmas.Slice.Eq.{bytes_eq-Decides}
use Rattle.json_lines.specs.declared.member_name.MemberName.{MemberName}
use Rattle.json_lines.specs.declared.member_name.MemberName.TheVariants.{Do, Now, Session, Path, Query, Value, Values, Id, Token, Rules}
use Rattle.requests.specs.declared.message.Form.{Form}
use Rattle.requests.specs.declared.message.Form.TheVariants.{Script, Socket}
use Rattle.requests.specs.declared.message.Verb.{Verb}
use Rattle.requests.specs.declared.message.Verb.TheVariants as verbs
use Rattle.requests.specs.Message.{form_members, verb_members}
use Rattle.json_lines.specs.MemberName.{name_text}

-- these texts are of names
abbrev AreNamed : List (List ℕ) → Type 0
AreNamed texts = (names : List MemberName) × (map name_text names ≡ texts)

form_members_named : (form : Form) → AreNamed (form_members form)
form_members_named Script = (Do ∷ Now ∷ Session ∷ [], refl)
form_members_named (Socket stamp) = (Do ∷ [], refl)

verb_members_named : (verb : Verb) → AreNamed (verb_members verb)
verb_members_named verbs.Open = ([], refl)
verb_members_named verbs.Close = ([], refl)
verb_members_named verbs.SignIn = (Token ∷ [], refl)
verb_members_named verbs.SignOut = ([], refl)
verb_members_named verbs.Get = (Path ∷ Query ∷ [], refl)
verb_members_named verbs.Set = (Path ∷ Value ∷ [], refl)
verb_members_named verbs.Remove = (Path ∷ [], refl)
verb_members_named verbs.Update = (Path ∷ Values ∷ [], refl)
verb_members_named verbs.Listen = (Id ∷ Path ∷ Query ∷ [], refl)
verb_members_named verbs.Unlisten = (Id ∷ [], refl)
verb_members_named verbs.Poll = ([], refl)
verb_members_named verbs.Tick = ([], refl)
verb_members_named verbs.Deploy = (Rules ∷ [], refl)
verb_members_named verbs.OnSet = (Path ∷ Value ∷ [], refl)
verb_members_named verbs.OnRemove = (Path ∷ [], refl)
verb_members_named verbs.OnUpdate = (Path ∷ Values ∷ [], refl)
verb_members_named verbs.OnCancel = (Path ∷ [], refl)
verb_members_named verbs.Leave = ([], refl)
verb_members_named verbs.RunNext = ([], refl)

-- no name has this text
abbrev pub IsNoName : List ℕ → Type 0
IsNoName text = (name : MemberName) → name_text name ≢ text

is_false : (b : Bool) → ¬ (b ≡ true) → b ≡ false
is_false true h = absurd (h refl)
is_false false h = refl

not_among : (text : List ℕ) (names : List MemberName) → IsNoName text → list_any (bytes_eq text) (map name_text names) ≡ false
not_among text [] none = refl
not_among text (name ∷ names) none =
    let differs : bytes_eq text (name_text name) ≡ false = is_false (bytes_eq text (name_text name)) (λ same. none name (sym ((bytes_eq-Decides text (name_text name)).0 same))) in
    ap (λ b. b || list_any (bytes_eq text) (map name_text names)) differs ∙ not_among text names none

pub no_member : (form : Form) (verb : Verb) (text : List ℕ) → IsNoName text → list_any (bytes_eq text) (form_members form ++ verb_members verb) ≡ false
no_member form verb text none =
    let of_form = form_members_named form in
    let of_verb = verb_members_named verb in
    let both : map name_text (of_form.0 ++ of_verb.0) ≡ form_members form ++ verb_members verb = map-append name_text of_form.0 of_verb.0 ∙ (λ i. of_form.1 i ++ of_verb.1 i) in
    ap (list_any (bytes_eq text)) (sym both) ∙ not_among text (of_form.0 ++ of_verb.0) none
