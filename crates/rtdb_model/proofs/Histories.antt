-- One listener, and one step more.
use Rattle.std.proofs.Common.{◌≡◌, ℕ, Bool, true, false, not, ◌&&◌, ◌||◌, cond, List, [], ◌∷◌, Option, Some, None, is_some, sym, ap, subst, ◌∙◌, refl}
use Rattle.std.specs.List.{list_any, list_all}
use Rattle.tree_model.specs.Path.{Path}
use Rattle.listeners.specs.Query.{Query}
use Rattle.listeners.specs.Table.{Listener, begun, unmarked}
use Rattle.rtdb_model.specs.Rejudged.{judged}
use Rattle.rtdb_model.specs.Marks.{Taken, judges, hands_out, begins, grants, moved_by, since, recent, listened, IsHistory}

-- ---- truth tables

and_comm : (a b : Bool) → (a && b) ≡ (b && a)
and_comm true true = refl
and_comm true false = refl
and_comm false true = refl
and_comm false false = refl

-- what judging makes, field by field
abbrev pub judged_parts : (granted moved : Bool) → Listener → Listener
judged_parts granted moved l = record { id = l.id; path = l.path; query = l.query; live = l.live && granted; marked = cond l.live (granted && (l.marked || moved)) l.marked }

parts_are : (id : List ℕ) (path : Path) (query : Option Query) (live marked granted moved : Bool) → (let l : Listener = record { id = id; path = path; query = query; live = live; marked = marked } in judged granted moved l ≡ judged_parts granted moved l)
parts_are id path query false marked granted moved = refl
parts_are id path query true marked false moved = refl
parts_are id path query true true true true = refl
parts_are id path query true true true false = refl
parts_are id path query true false true true = refl
parts_are id path query true false true false = refl

pub judged_is : (granted moved : Bool) (l : Listener) → judged granted moved l ≡ judged_parts granted moved l
judged_is granted moved l = parts_are l.id l.path l.query l.live l.marked granted moved

judged_mark : (live granted moved any mark : Bool) → mark ≡ (live && any) → cond live (granted && (mark || moved)) mark ≡ ((live && granted) && (moved || any))
judged_mark true true true true mark e = ap (λ m. m || true) e
judged_mark true true true false mark e = ap (λ m. m || true) e
judged_mark true true false any mark e = or_false mark ∙ e
  where
    or_false : (m : Bool) → (m || false) ≡ m
    or_false true = refl
    or_false false = refl
judged_mark true false moved any mark e = refl
judged_mark false granted moved any mark e = e

no_mark : (live : Bool) → false ≡ (live && false)
no_mark true = refl
no_mark false = refl

abbrev Asked : Type 0
Asked = Option (Path × Option Query)

module _ (n : ℕ) (t : Taken) (steps : List Taken) where
  since_kept : (id : List ℕ) → begins n id t ≡ None → since n id (t ∷ steps) ≡ t ∷ since n id steps
  since_kept id b = ap (λ (c : Asked). cond (is_some c) [] (t ∷ since n id steps)) b

  recent_kept : (id : List ℕ) → begins n id t ≡ None → hands_out n t ≡ false → recent n id (t ∷ steps) ≡ t ∷ recent n id steps
  recent_kept id b h = ap (λ (c : Asked). cond (is_some c || hands_out n t) [] (t ∷ recent n id steps)) b ∙ ap (λ (c : Bool). cond c [] (t ∷ recent n id steps)) h

  recent_ended : (id : List ℕ) → begins n id t ≡ None → hands_out n t ≡ true → recent n id (t ∷ steps) ≡ []
  recent_ended id b h = ap (λ (c : Asked). cond (is_some c || hands_out n t) [] (t ∷ recent n id steps)) b ∙ ap (λ (c : Bool). cond c [] (t ∷ recent n id steps)) h

  asked_kept : (id : List ℕ) → begins n id t ≡ None → listened n id (t ∷ steps) ≡ listened n id steps
  asked_kept id b = ap (λ (c : Asked). cond (is_some c) c (listened n id steps)) b

  passes : Path → Option Query → Taken → Bool
  passes path query u = not (judges n u) || grants n path query u

  -- nothing happens to it
  pub quiet : (l : Listener) → begins n l.id t ≡ None → hands_out n t ≡ false → judges n t ≡ false → moved_by l.path l.query t ≡ false → IsHistory n l steps → IsHistory n l (t ∷ steps)
  quiet l b h j m past = record {
    asked = asked_kept l.id b ∙ past.asked;
    live =
        let pass = λ (u : Taken). not (judges n u) || grants n l.path l.query u in
        past.live ∙ sym (ap (list_all pass) (since_kept l.id b) ∙ ap (λ (c : Bool). (not c || grants n l.path l.query t) && list_all pass (since n l.id steps)) j);
    marked = past.marked ∙ ap (λ (c : Bool). l.live && c) (sym (ap (list_any (moved_by l.path l.query)) (recent_kept l.id b h) ∙ ap (λ (c : Bool). c || list_any (moved_by l.path l.query) (recent n l.id steps)) m));
  }

  live_judged : (l : Listener) (g : Bool) → begins n l.id t ≡ None → judges n t ≡ true → grants n l.path l.query t ≡ g → IsHistory n l steps → (l.live && g) ≡ list_all (λ u. not (judges n u) || grants n l.path l.query u) (since n l.id (t ∷ steps))
  live_judged l g b j is past =
      let pass = λ (u : Taken). not (judges n u) || grants n l.path l.query u in
      and_comm l.live g
      ∙ ap (λ (c : Bool). g && c) past.live
      ∙ sym (
      ap (list_all pass) (since_kept l.id b)
      ∙ ap (λ (c : Bool). (not c || grants n l.path l.query t) && list_all pass (since n l.id steps)) j
      ∙ ap (λ (c : Bool). c && list_all pass (since n l.id steps)) is
      )

  again_parts : (l : Listener) (g c : Bool) → begins n l.id t ≡ None → hands_out n t ≡ false → judges n t ≡ true → grants n l.path l.query t ≡ g → moved_by l.path l.query t ≡ c → IsHistory n l steps → IsHistory n (judged_parts g c l) (t ∷ steps)
  again_parts l g c b h j is m past = record {
    asked = asked_kept l.id b ∙ past.asked;
    live = live_judged l g b j is past;
    marked =
        judged_mark l.live g c (list_any (moved_by l.path l.query) (recent n l.id steps)) l.marked past.marked
        ∙ ap (λ (d : Bool). (l.live && g) && d) (sym (ap (list_any (moved_by l.path l.query)) (recent_kept l.id b h) ∙ ap (λ (d : Bool). d || list_any (moved_by l.path l.query) (recent n l.id steps)) m));
  }

  -- it is judged again
  pub judged_once_more : (l : Listener) (g c : Bool) → begins n l.id t ≡ None → hands_out n t ≡ false → judges n t ≡ true → grants n l.path l.query t ≡ g → moved_by l.path l.query t ≡ c → IsHistory n l steps → IsHistory n (judged g c l) (t ∷ steps)
  judged_once_more l g c b h j is m past = subst (λ (k : Listener). IsHistory n k (t ∷ steps)) (sym (judged_is g c l)) (again_parts l g c b h j is m past)

  told_parts : (l : Listener) (g c : Bool) → begins n l.id t ≡ None → hands_out n t ≡ true → judges n t ≡ true → grants n l.path l.query t ≡ g → IsHistory n l steps → IsHistory n (unmarked (judged_parts g c l)) (t ∷ steps)
  told_parts l g c b h j is past = record {
    asked = asked_kept l.id b ∙ past.asked;
    live = live_judged l g b j is past;
    marked = no_mark (l.live && g) ∙ ap (λ (d : Bool). (l.live && g) && d) (sym (ap (list_any (moved_by l.path l.query)) (recent_ended l.id b h)));
  }

  -- it is judged again, and a poll takes its mark
  pub handed_over : (l : Listener) (g c : Bool) → begins n l.id t ≡ None → hands_out n t ≡ true → judges n t ≡ true → grants n l.path l.query t ≡ g → IsHistory n l steps → IsHistory n (unmarked (judged g c l)) (t ∷ steps)
  handed_over l g c b h j is past = subst (λ (k : Listener). IsHistory n (unmarked k) (t ∷ steps)) (sym (judged_is g c l)) (told_parts l g c b h j is past)

  -- it begins here
  pub begins_here : (id : List ℕ) (path : Path) (query : Option Query) → begins n id t ≡ Some (path, query) → IsHistory n (begun id path query) (t ∷ steps)
  begins_here id path query b = record {
    asked = ap (λ (c : Asked). cond (is_some c) c (listened n id steps)) b;
    live = sym (ap (list_all (λ u. not (judges n u) || grants n path query u)) (ap (λ (c : Asked). cond (is_some c) [] (t ∷ since n id steps)) b));
    marked = sym (ap (list_any (moved_by path query)) (ap (λ (c : Asked). cond (is_some c || hands_out n t) [] (t ∷ recent n id steps)) b));
  }
