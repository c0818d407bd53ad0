-- Which entries deploy rules: the text that is in force behind them states the rules that are.
use Rattle.std.proofs.Common.{◌≡◌, ◌∙◌, ◌⊎◌, inl, inr, ℕ, ◌++◌, [], ◌∷◌, Bool, true, false, not, cond, List, Option, Some, None, Result, Ok, Err, subst, sym, ap, refl}
use Rattle.std.specs.Prelude.{codes, ⊤}
use Rattle.std.specs.Str.{bytes_eq}
use Rattle.std.proofs.lemmas.Bool.{false≢true}
use Rattle.serde_json.specs.Data.{Data}
use Rattle.rules_reader.specs.Book.{Book}
use Rattle.rules_reader.specs.File.{States}
use Rattle.rtdb_model.specs.declared.event.Event.{Event}
use Rattle.rtdb_model.specs.declared.event.Event.TheVariants as events
use Rattle.rtdb_model.specs.declared.reply.Reply.{Reply}
use Rattle.rtdb_model.specs.declared.reply.Reply.TheVariants.{Done, Refused}
use Rattle.rtdb_model.specs.declared.reply.Refusal.{Refusal}
use Rattle.rtdb_model.specs.declared.reply.Refusal.TheVariants.{NoMemory, Leaving, NoSession, NotAdmin}
use Rattle.rtdb_model.specs.State.{State, is_open, is_leaving, is_admin, identity_of}
use Rattle.rtdb_model.specs.Step.{Outcome, outcome, Call, Step}
use Rattle.rtdb_model.specs.Headline.{is_done, rules_by}
use Rattle.rtdb_laws.specs.Effects.{changes}
use Rattle.rtdb_laws.proofs.StepLaws.{rules_are}
use Rattle.tokens.specs.Tokens.{has_only, text_at}
use Rattle.requests.specs.declared.message.Form.{Form}
use Rattle.json_lines.specs.declared.fault.MessageFault.{MessageFault}
use Rattle.json_lines.specs.declared.fault.MessageFault.TheVariants.{BadRequest}
use Rattle.requests.specs.declared.message.Request.{Request}
use Rattle.requests.specs.declared.message.Verb.{Verb}
use Rattle.requests.specs.declared.message.Verb.TheVariants as verbs
use Rattle.requests.specs.declared.message.Wanted.{Wanted}
use Rattle.requests.specs.declared.message.Wanted.TheVariants.{Step as StepWanted, SignIn, Deploy}
use Rattle.requests.specs.declared.message.Stamp.{Stamp}
use Rattle.requests.specs.declared.message.Form.TheVariants.{Socket}
use Rattle.json_lines.specs.Lines.{or_fault, unless_fault, value_of, path_of}
use Rattle.requests.specs.Message.{form_members, verb_members, stamp_of, query_at, query_said, id_at, path_in, write_in, writes_in, wanted_by, verb_in, request_of, asks}
use Rattle.requests.specs.Ask.{ComesTo}
use Rattle.entries.specs.Entry.{Meaning, rules, tree, begin, session, action, call, deployed_text, Tells, Means}
use Rattle.store.specs.Replay.{Stage, empty, reading, opened, text_behind, Follows, Replays, LeadTo}
use Rattle.store.proofs.Replays.{changes_refused}

-- the event deploys nothing
abbrev DeploysNone : Event → Type 0
DeploysNone (events.Deploy book) = ⊥
DeploysNone event = ⊤

-- what is wanted as an event deploys nothing
abbrev IsPlain : Wanted → Type 0
IsPlain (StepWanted event) = DeploysNone event
IsPlain (SignIn secret) = ⊤
IsPlain (Deploy text) = ⊤

abbrev Gives : {X : Type 0} → (X → Type 0) → Result X MessageFault → Type 0
Gives P (Ok x) = P x
Gives P (Err fault) = ⊤

in_turn : {X Y : Type 0} (P : Y → Type 0) (said : Result X MessageFault) (next : X → Result Y MessageFault) → ((x : X) → Gives P (next x)) → Gives P (unless_fault said next)
in_turn P (Ok x) next h = h x
in_turn P (Err fault) next h = tt

where_so : {X : Type 0} (P : X → Type 0) (b : Bool) (said : Result X MessageFault) (fault : MessageFault) → Gives P said → Gives P (cond b said (Err fault))
where_so P true said fault h = h
where_so P false said fault h = tt

wanted_plain : (verb : Verb) (d : Data) → Gives IsPlain (wanted_by verb d)
wanted_plain verbs.Open d = tt
wanted_plain verbs.Close d = tt
wanted_plain verbs.SignIn d = in_turn IsPlain (or_fault BadRequest (text_at (codes "token") d)) _ (λ secret. tt)
wanted_plain verbs.SignOut d = tt
wanted_plain verbs.Get d =
    in_turn IsPlain (or_fault BadRequest (text_at (codes "path") d)) _ (λ text.
    in_turn IsPlain (or_fault BadRequest (query_at d)) _ (λ said.
    in_turn IsPlain (path_of text) _ (λ path.
    in_turn IsPlain (query_said said) _ (λ query. tt))))
wanted_plain verbs.Set d = in_turn IsPlain (write_in d) _ (λ write. tt)
wanted_plain verbs.Remove d = in_turn IsPlain (path_in d) _ (λ path. tt)
wanted_plain verbs.Update d = in_turn IsPlain (writes_in d) _ (λ writes. tt)
wanted_plain verbs.Listen d =
    in_turn IsPlain (or_fault BadRequest (id_at d)) _ (λ id.
    in_turn IsPlain (or_fault BadRequest (text_at (codes "path") d)) _ (λ text.
    in_turn IsPlain (or_fault BadRequest (query_at d)) _ (λ said.
    in_turn IsPlain (path_of text) _ (λ path.
    in_turn IsPlain (query_said said) _ (λ query. tt)))))
wanted_plain verbs.Unlisten d = in_turn IsPlain (or_fault BadRequest (id_at d)) _ (λ id. tt)
wanted_plain verbs.Poll d = tt
wanted_plain verbs.Tick d = tt
wanted_plain verbs.Deploy d = in_turn IsPlain (or_fault BadRequest (text_at (codes "rules") d)) _ (λ rules. tt)
wanted_plain verbs.OnSet d = in_turn IsPlain (write_in d) _ (λ write. tt)
wanted_plain verbs.OnRemove d = in_turn IsPlain (path_in d) _ (λ path. tt)
wanted_plain verbs.OnUpdate d = in_turn IsPlain (writes_in d) _ (λ writes. tt)
wanted_plain verbs.OnCancel d = in_turn IsPlain (path_in d) _ (λ path. tt)
wanted_plain verbs.Leave d = tt
wanted_plain verbs.RunNext d = tt

kept : (f : Wanted → Request) → ((w : Wanted) → IsPlain w → IsPlain (f w).wanted) → (said : Result Wanted MessageFault) → Gives IsPlain said → Gives (λ (r : Request). IsPlain r.wanted) (unless_fault said (λ w. Ok (f w)))
kept f g (Ok w) h = g w h
kept f g (Err fault) h = tt

request_plain : (form : Form) (d : Data) → Gives (λ (r : Request). IsPlain r.wanted) (request_of form d)
request_plain form d =
    in_turn (λ (r : Request). IsPlain r.wanted) (or_fault BadRequest (verb_in form d)) _ (λ verb.
    where_so (λ (r : Request). IsPlain r.wanted) (has_only (form_members form ++ verb_members verb) d) _ BadRequest
    (in_turn (λ (r : Request). IsPlain r.wanted) (or_fault BadRequest (stamp_of form d)) _ (λ stamp.
    kept (λ w. record { stamp = stamp; wanted = w }) (λ w h. h) (wanted_by verb d) (wanted_plain verb d))))

asks_plain : (form : Form) (bytes : List ℕ) → Gives (λ (r : Request). IsPlain r.wanted) (asks form bytes)
unfolding asks
asks_plain form bytes = in_turn (λ (r : Request). IsPlain r.wanted) (value_of bytes) _ (request_plain form)

-- ---- what is told of a call

-- the text is there exactly where the event deploys what it states
record IsTextOf (event : Event) (text : Option (List ℕ)) : Type 0 where
  some : (book : Book) → event ≡ events.Deploy book → (t : List ℕ) × (text ≡ Some t) × States t book
  none : (t : List ℕ) → text ≡ Some t → (book : Book) × (event ≡ events.Deploy book) × States t book

-- an event that deploys nothing has none
without : (event : Event) (text : Option (List ℕ)) → DeploysNone event → text ≡ None → IsTextOf event text
without event text plain no_text = record {
  some = λ book is. absurd (subst DeploysNone is plain);
  none = λ t is. absurd (never t (sym no_text ∙ is));
}
  where
    never : (t : List ℕ) → None ≡ Some t → ⊥
    never t same = cc

wanted_text : (want : Wanted) (event : Event) (text : Option (List ℕ)) → IsPlain want → ComesTo [] want event → text ≡ deployed_text want → IsTextOf event text
wanted_text (StepWanted wanted) event text plain c is = without event text (subst DeploysNone (sym c) plain) is
wanted_text (SignIn secret) event text plain c is = without event text (subst DeploysNone (sym c.2) tt) is
wanted_text (Deploy file) event text plain c is = record {
  some = λ book same. (file, is, subst (States file) (one c.0 book (sym c.3 ∙ same)) c.1);
  none = λ t same. (c.0, c.3, subst (λ f. States f c.0) (text_one file t (sym is ∙ same)) c.1);
}
  where
    one : (a b : Book) → events.Deploy a ≡ events.Deploy b → a ≡ b
    one a b same = cc

    text_one : (a b : List ℕ) → Some a ≡ Some b → a ≡ b
    text_one a b same = cc

named_none : (a b c d : Bool) (event : Event) → cond a (Some events.Open) (cond b (Some events.Close) (cond c (Some events.Leave) (cond d (Some events.RunNext) None))) ≡ Some event → DeploysNone event
named_none true b c d event is = subst DeploysNone (one events.Open event is) tt
  where
    one : (x y : Event) → Some x ≡ Some y → x ≡ y
    one x y same = cc
named_none false true c d event is = subst DeploysNone (one events.Close event is) tt
  where
    one : (x y : Event) → Some x ≡ Some y → x ≡ y
    one x y same = cc
named_none false false true d event is = subst DeploysNone (one events.Leave event is) tt
  where
    one : (x y : Event) → Some x ≡ Some y → x ≡ y
    one x y same = cc
named_none false false false true event is = subst DeploysNone (one events.RunNext event is) tt
  where
    one : (x y : Event) → Some x ≡ Some y → x ≡ y
    one x y same = cc
named_none false false false false event is = absurd (never event is)
  where
    never : (x : Event) → None ≡ Some x → ⊥
    never x same = cc

told_text : (stamp : Stamp) (told : List ℕ) (event : Event) (text : Option (List ℕ)) → Tells stamp told event text → IsTextOf event text
told_text stamp told event text (inl word) =
    without event text (named_none (bytes_eq told (codes "open")) (bytes_eq told (codes "close")) (bytes_eq told (codes "leave")) (bytes_eq told (codes "runnext")) event word.0) word.1
told_text stamp told event text (inr (inl signs)) = without event text (subst DeploysNone (sym signs.0.event_is) tt) signs.1
told_text stamp told event text (inr (inr sent)) =
    wanted_text sent.request.wanted event text
    (subst (λ (said : Result Request MessageFault). Gives (λ (r : Request). IsPlain r.wanted) said) sent.asked (asks_plain (Socket stamp) told))
    sent.comes sent.text_is

-- ---- what a deployment is answered

abbrev Answered : Outcome → Type 0
Answered o = (o.reply ≡ Done) ⊎ ((refusal : Refusal) × (o.reply ≡ Refused refusal))

either : (b : Bool) (x y : Outcome) → Answered x → Answered y → Answered (cond b x y)
either true x y one other = one
either false x y one other = other

deploy_answered : (old : State) (now n : ℕ) (book : Book) → Answered (outcome old now n (events.Deploy book))
deploy_answered old now n book =
    either (is_leaving old n) _ _ (inr (Leaving, refl)) (either (not (is_open old n)) _ _ (inr (NoSession, refl)) (either (not (is_admin (identity_of old n))) _ _ (inr (NotAdmin, refl)) (inl refl)))

deploys_done : (old new : State) (now n : ℕ) (book : Book) (reply : Reply) → Step old now n (events.Deploy book) reply new → changes (events.Deploy book) reply ≡ true → reply ≡ Done
unfolding Step
deploys_done old new now n book reply (inl h) changed = by_answer (subst Answered h (deploy_answered old now n book))
  where
    by_answer : (reply ≡ Done) ⊎ ((refusal : Refusal) × (reply ≡ Refused refusal)) → reply ≡ Done
    by_answer (inl done) = done
    by_answer (inr refused) = absurd (false≢true (sym (changes_refused (events.Deploy book) refused.0) ∙ ap (changes (events.Deploy book)) (sym refused.1) ∙ changed))
deploys_done old new now n book reply (inr h) changed = absurd (false≢true (sym (changes_refused (events.Deploy book) NoMemory) ∙ ap (changes (events.Deploy book)) (sym h.0) ∙ changed))

-- what deploys nothing leaves the rules
leaves_rules : (event : Event) (old : Book) → DeploysNone event → rules_by event old ≡ old
leaves_rules (events.Deploy book) old plain = absurd plain
leaves_rules event old plain = refl

-- ---- the text in force

abbrev IsRuling : Stage → Type 0
IsRuling empty = ⊤
IsRuling (reading text json) = ⊤
IsRuling (opened text state) = States text state.rules

made_rules : (old left : State) (now n : ℕ) (event : Event) (reply : Reply) (text : List ℕ) (deployed : Option (List ℕ)) → IsTextOf event deployed → Step old now n event reply left → changes event reply ≡ true → States text old.rules → States (text_behind text deployed) left.rules
made_rules old left now n (events.Deploy book) reply text deployed is step changed states =
    let there = is.some book refl in
    let done = deploys_done old left now n book reply step changed in
    let rules_are_book : left.rules ≡ book = rules_are old left now n (events.Deploy book) reply step ∙ ap (λ (r : Reply). cond (is_done r) book old.rules) done in
    subst (λ (o : Option (List ℕ)). States (text_behind text o) left.rules) (sym there.1) (subst (States there.0) (sym rules_are_book) there.2)
made_rules old left now n event reply text deployed is step changed states = by_text deployed refl
  where
    same : DeploysNone event → left.rules ≡ old.rules
    same plain = rules_are old left now n event reply step ∙ ap (λ (b : Book). cond (is_done reply) b old.rules) (leaves_rules event old.rules plain) ∙ both (is_done reply)
      where
        both : (b : Bool) → cond b old.rules old.rules ≡ old.rules
        both true = refl
        both false = refl

    by_text : (o : Option (List ℕ)) → deployed ≡ o → States (text_behind text o) left.rules
    by_text None none = subst (States text) (sym (same tt)) states
    by_text (Some t) some = let there = is.none t some in absurd (never there.0 there.1)
      where
        never : (b : Book) → event ≡ events.Deploy b → ⊥
        never b e = cc

-- the text of a call's entry is that of what it deploys
call_text : (entry : List ℕ) (made : Call) (deployed : Option (List ℕ)) → Means entry (call made deployed) → IsTextOf made.event deployed
call_text entry made deployed means = told_text (record { now = made.now; session = made.session }) means.told made.event deployed means.tells

follows_ruling : (entry : List ℕ) (meaning : Meaning) (before after : Stage) → Means entry meaning → Follows meaning before after → IsRuling before → IsRuling after
follows_ruling entry (rules text) before after means follows ruling = subst IsRuling (sym follows.is_after) tt
follows_ruling entry (tree piece) before after means follows ruling = subst IsRuling (sym follows.is_after) tt
follows_ruling entry begin before after means follows ruling = subst IsRuling (sym follows.is_after) follows.states
follows_ruling entry (session number leaving who) before after means follows ruling =
    subst IsRuling (sym follows.is_after) (subst IsRuling follows.is_before ruling)
follows_ruling entry (action number writes) before after means follows ruling =
    subst IsRuling (sym follows.is_after) (subst IsRuling follows.is_before ruling)
follows_ruling entry (call made deployed) before after means follows ruling =
    subst IsRuling (sym follows.is_after)
    (made_rules follows.state follows.left made.now made.session made.event follows.reply follows.text deployed (call_text entry made deployed means) follows.step follows.effective (subst IsRuling follows.is_before ruling))

replays_ruling : (entries : List (List ℕ)) (before after : Stage) → Replays entries before after → IsRuling before → IsRuling after
replays_ruling [] before after replayed ruling = subst IsRuling (sym replayed) ruling
replays_ruling (entry ∷ entries) before after replayed ruling =
    replays_ruling entries replayed.1 after replayed.4 (follows_ruling entry replayed.0 before replayed.1 replayed.2 replayed.3 ruling)

pub text_states : (entries : List (List ℕ)) (text : List ℕ) (state : State) → LeadTo entries text state → States text state.rules
text_states entries text state lead = replays_ruling entries empty (opened text state) lead tt
