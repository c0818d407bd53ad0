-- What a poll hands out.
use Rattle.std.proofs.Common.{◌≡◌, ℕ, Bool, true, false, not, ◌&&◌, cond, List, [], ◌∷◌, map, Option, Some, None, inl, inr, sym, ap, ◌∙◌, refl}
use Rattle.std.proofs.lemmas.List.Elements.{All-head, All-tail, All-weaker}
use Rattle.std.proofs.lemmas.Bool.{false≢true}
use Rattle.std.specs.Prelude.{All, filter, option_and_then}
use Rattle.std.specs.List.{list_any, cons_option}
use Rattle.tree_model.specs.Path.{Path}
use Rattle.tree_model.specs.Tree.{Tree, non_null}
use Rattle.evaluator.specs.Identity.{Identity}
use Rattle.rules_reader.specs.Book.{Book}
use Rattle.judge.specs.Question.{Scene}
use Rattle.listeners.specs.Query.{Query}
use Rattle.listeners.specs.Table.{Listener, taken}
use Rattle.rtdb_model.specs.declared.event.Event.TheVariants.{Poll}
use Rattle.rtdb_model.specs.declared.news.Notice.{Notice}
use Rattle.rtdb_model.specs.declared.reply.Refusal.TheVariants.{NoSession, Leaving, NoMemory}
use Rattle.rtdb_model.specs.declared.reply.Reply.{Reply}
use Rattle.rtdb_model.specs.declared.reply.Reply.TheVariants.{News, Refused}
use Rattle.rtdb_model.specs.State.{State, opening, is_open, is_leaving, identity_of, listeners_of, scene_at}
use Rattle.rtdb_model.specs.Rejudged.{hears, selected_at, moves, judged_again}
use Rattle.rtdb_model.specs.Step.{Outcome, refused, told, news_of, own_again, with_session, polls, outcome, Step, Call, Run}
use Rattle.rtdb_model.specs.Ends.{notices_of, selection_told, handed_out}
use Rattle.rtdb_model.specs.Marks.{steps_after, recent, moved_by, IsHistory}
use Rattle.rtdb_model.proofs.Sameness.{unmoved}
use Rattle.rtdb_model.proofs.Histories.{judged_parts, judged_is}
use Rattle.rtdb_laws.proofs.Kept.{run_keeps, opening_keeps}

handed-cons : (o : Option Notice) (ns : List Notice) → handed_out (cons_option o ns) ≡ cons_option (option_and_then selection_told o) (handed_out ns)
handed-cons None ns = refl
handed-cons (Some notice) ns = refl

abbrev One : Type 0
One = List ℕ × Option Tree

abbrev selection_of : Tree → Listener → One
selection_of tree l = (l.id, non_null (selected_at tree l.path l.query))

-- one listener, by truth table
one_told : (tree : Tree) (id : List ℕ) (path : Path) (query : Option Query) (live mark granted any : Bool) → mark ≡ (live && any) → (let l : Listener = record { id = id; path = path; query = query; live = live; marked = mark } in option_and_then selection_told (told tree (judged_parts granted false l)) ≡ cond (mark && granted) (Some (selection_of tree l)) None)
one_told tree id path query true true true any e = refl
one_told tree id path query true false true any e = refl
one_told tree id path query true true false any e = refl
one_told tree id path query true false false any e = refl
one_told tree id path query false true granted any e = absurd (false≢true (sym e))
one_told tree id path query false false granted any e = refl

module _ (old : State) (now : ℕ) (who : Option Identity) where
  abbrev scene : Scene
  scene = record { book = old.rules; who = who; moment = now; old = old.tree }

  abbrev again : Listener → Listener
  again l = judged_again old.tree old now who l

  abbrev MarkedIsLive : Listener → Type 0
  MarkedIsLive l = (any : Bool) × (l.marked ≡ (l.live && any))

  one_again : (l : Listener) → MarkedIsLive l → option_and_then selection_told (told old.tree (again l)) ≡ cond (l.marked && hears scene l.path l.query) (Some (selection_of old.tree l)) None
  one_again l m =
      ap (λ (k : Listener). option_and_then selection_told (told old.tree k)) (judged_is (hears scene l.path l.query) (moves old.tree old.tree l.path l.query) l)
      ∙ ap (λ (b : Bool). option_and_then selection_told (told old.tree (judged_parts (hears scene l.path l.query) b l))) (unmoved old.tree l.path l.query)
      ∙ one_told old.tree l.id l.path l.query l.live l.marked (hears scene l.path l.query) m.0 m.1

  handed_news : (ls : List Listener) → All MarkedIsLive ls → handed_out (news_of old.tree (map again ls)) ≡ map (selection_of old.tree) (filter (λ l. l.marked && hears scene l.path l.query) ls)
  handed_news [] all = refl
  handed_news (l ∷ ls) all =
      handed-cons (told old.tree (again l)) (news_of old.tree (map again ls))
      ∙ ap (λ (o : Option One). cons_option o (handed_out (news_of old.tree (map again ls)))) (one_again l (All-head MarkedIsLive l ls all))
      ∙ ap (λ (ps : List One). cons_option (cond (l.marked && hears scene l.path l.query) (Some (selection_of old.tree l)) None) ps) (handed_news ls (All-tail MarkedIsLive l ls all))
      ∙ outside (l.marked && hears scene l.path l.query)
    where
      outside : (b : Bool) → cons_option (cond b (Some (selection_of old.tree l)) None) (map (selection_of old.tree) (filter (λ k. k.marked && hears scene k.path k.query) ls)) ≡ map (selection_of old.tree) (cond b (l ∷ filter (λ k. k.marked && hears scene k.path k.query) ls) (filter (λ k. k.marked && hears scene k.path k.query) ls))
      outside true = refl
      outside false = refl

-- news are answered by a session that is open and not leaving
answered : (old : State) (now n : ℕ) (notices : List Notice) → (outcome old now n Poll).reply ≡ News notices → notices ≡ news_of old.tree (own_again old now n (identity_of old n))
answered old now n notices h = by_leaving (is_leaving old n) h
  where
    heard : List Notice
    heard = news_of old.tree (own_again old now n (identity_of old n))

    done : Outcome
    done = record { reply = News heard; after = with_session old n (identity_of old n) (taken (own_again old now n (identity_of old n))) }

    by_open : (b : Bool) → (cond (not b) (refused old NoSession) done).reply ≡ News notices → notices ≡ heard
    by_open true g = ap notices_of (sym g)
    by_open false g = let f : Refused NoSession ≡ News notices = g in cc

    by_leaving : (b : Bool) → (cond b (refused old Leaving) (polls old now n)).reply ≡ News notices → notices ≡ heard
    by_leaving true g = let f : Refused Leaving ≡ News notices = g in cc
    by_leaving false g = by_open (is_open old n) g

pub polled : (rules : Book) (tree : Tree) (calls : List Call) (replies : List Reply) (old : State) → Run (opening rules tree) calls replies old → (now n : ℕ) (notices : List Notice) (new : State) → Step old now n Poll (News notices) new → handed_out notices ≡ map (λ l. (l.id, non_null (selected_at old.tree l.path l.query))) (filter (λ l. l.marked && hears (scene_at old now n) l.path l.query) (listeners_of old n))
unfolding Step
polled rules tree calls replies old run now n notices new (inr h) = let e : News notices ≡ Refused NoMemory = h.0 in cc
polled rules tree calls replies old run now n notices new (inl h) =
    let steps = steps_after [] (opening rules tree) calls replies old run in
    let past : All (λ (l : Listener). IsHistory n l steps) (listeners_of old n) = run_keeps [] (opening rules tree) calls replies old run (opening_keeps rules tree) n in
    ap handed_out (answered old now n notices (ap (λ (o : Outcome). o.reply) h))
    ∙ handed_news old now (identity_of old n) (listeners_of old n)
    (All-weaker (λ l. IsHistory n l steps) (MarkedIsLive old now (identity_of old n)) (λ l history. (list_any (moved_by l.path l.query) (recent n l.id steps), history.marked)) (listeners_of old n) past)
