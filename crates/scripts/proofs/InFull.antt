-- Each line has one answer in which nothing wants memory.
use Rattle.std.proofs.Common.{◌≡◌, ◌≢◌, ℕ, Bool, true, false, cond, List, ◌++◌, length, Option, Some, None, option_map, option_and_then, Result, Ok, Err, refl, sym, ap, subst, inl, inr, ◌⊎◌, ◌∙◌}
use Rattle.std.specs.Prelude.{codes, nat_le, ◌+◌}
use Rattle.std.specs.List.{list_all}
use Rattle.std.specs.Str.{is_utf8}
use Rattle.serde_json.specs.Data.{Data, Members, no_members, member}
use Rattle.serde_json.specs.Find.{get, as_object}
use Rattle.serde_json.specs.Read.{read}
use Rattle.tree_model.specs.declared.limits.TheConstants.{MAX_DEPTH}
use Rattle.tree_model.specs.Key.{is_key}
use Rattle.tree_model.specs.Path.{Path}
use Rattle.tree_model.specs.PathMap.{depth}
use Rattle.tree_model.specs.Draft.{Draft}
use Rattle.json_tree.specs.Draft.{is_lawful_draft, draft_of_json}
use Rattle.path_capture.specs.Path.{segments}
use Rattle.listeners.specs.Query.{query_of}
use Rattle.evaluator.specs.Identity.{Identity}
use Rattle.rules_reader.specs.Book.{Book}
use Rattle.rules_reader.specs.File.{States}
use Rattle.rules_reader.specs.Refusal.{Refuses}
use Rattle.rules_reader.specs.declared.fault.RulesFault.{RulesFault}
use Rattle.rules_reader.specs.declared.fault.RulesFault.TheVariants as rules_faults
use Rattle.rules_reader.proofs.Decided.{states_one, one_reason, never_both}
use Rattle.rules_reader.proofs.Answered.{each_file}
use Rattle.rules_reader.proofs.OneCapture.{stated_one}
use Rattle.tokens.specs.Tokens.{Tokens, has_only, text_at, identity_named}
use Rattle.rtdb_model.specs.declared.event.Event.{Event}
use Rattle.rtdb_model.specs.declared.event.Event.TheVariants as events
use Rattle.rtdb_model.specs.declared.event.Event.TheVariants.{Get, Set, Remove, Update, Listen, Unlisten, OnSet, OnRemove, OnUpdate, OnCancel}
use Rattle.rtdb_model.specs.State.{State}
use Rattle.rtdb_model.proofs.Answers.{some_answer, one_answer}
use Rattle.json_lines.specs.declared.limits.TheConstants.{MAX_MESSAGE_BYTES}
use Rattle.requests.specs.declared.message.Form.{Form}
use Rattle.requests.specs.declared.message.Form.TheVariants.{Script}
use Rattle.json_lines.specs.declared.fault.MessageFault.{MessageFault}
use Rattle.json_lines.specs.declared.fault.MessageFault.TheVariants.{TooLarge, BadJson, BadRequest, BadQuery, BadPath, BadValue, TooDeep, NoMemory}
use Rattle.requests.specs.declared.message.Request.{Request}
use Rattle.requests.specs.declared.message.Wanted.{Wanted}
use Rattle.requests.specs.declared.message.Wanted.TheVariants as wanted
use Rattle.requests.specs.declared.message.Wanted.TheVariants.{SignIn, Deploy}
use Rattle.requests.specs.declared.ask.Asked.{Asked}
use Rattle.requests.specs.declared.ask.LineFault.{LineFault}
use Rattle.requests.specs.declared.ask.LineFault.TheVariants as line_faults
use Rattle.requests.specs.Ask.{ComesTo, IsAsked}
use Rattle.answers.proofs.Texts.{one_rules_text}
use Rattle.requests.specs.declared.message.Verb.{Verb}
use Rattle.requests.specs.declared.message.Verb.TheVariants as verbs
use Rattle.json_lines.specs.Lines.{or_fault, unless_fault, value_of, path_of, path_below, draft_of_value, write_at, write_below, writes_below}
use Rattle.requests.specs.Message.{form_members, verb_members, stamp_of, query_at, query_said, id_at, path_in, write_in, writes_in, wanted_by, verb_in, request_of, asks}
use Rattle.scripts.specs.Said.{IsAnsweredBy, IsAnsweredInFullBy, IsAnsweredInFull, IsAnswered}
use Rattle.answers.specs.AnswerText as answer

-- ---- no fault of a message is want of memory

abbrev NeverWants : {X : Type 0} → Result X MessageFault → Type 0
NeverWants said = said ≢ Err NoMemory

of_ok : {X : Type 0} (x : X) → NeverWants {X = X} (Ok x)
of_ok x e = cc

same_fault : {X : Type 0} (said : Result X MessageFault) (fault : MessageFault) → said ≡ Err fault → said ≡ Err NoMemory → fault ≡ NoMemory
same_fault said fault e f = cc

of_fault : {X : Type 0} (fault : MessageFault) → fault ≢ NoMemory → NeverWants {X = X} (Err fault)
of_fault fault other e = other (same_fault (Err fault) fault refl e)

of_option : {X : Type 0} (fault : MessageFault) (o : Option X) → fault ≢ NoMemory → NeverWants (or_fault fault o)
of_option fault None other = of_fault fault other
of_option fault (Some x) other = of_ok x

in_turn : {X Y : Type 0} (said : Result X MessageFault) (next : X → Result Y MessageFault) → NeverWants said → ((x : X) → NeverWants (next x)) → NeverWants (unless_fault said next)
in_turn (Ok x) next h g = g x
in_turn (Err fault) next h g = of_fault fault (λ e. h (ap Err e))

either : {X : Type 0} (b : Bool) (said other : Result X MessageFault) → NeverWants said → NeverWants other → NeverWants (cond b said other)
either true said other h g = h
either false said other h g = g

value_never : (bytes : List ℕ) → NeverWants (value_of bytes)
unfolding value_of
value_never bytes =
    either (nat_le (length bytes) MAX_MESSAGE_BYTES) _ _
    (either (is_utf8 bytes) _ _ (of_option BadJson (read bytes) (λ e. cc)) (of_fault BadJson (λ e. cc)))
    (of_fault TooLarge (λ e. cc))

path_never : (text : List ℕ) → NeverWants (path_of text)
path_never text =
    either (list_all is_key (segments text)) _ _
    (either (nat_le (length (segments text)) MAX_DEPTH) _ _ (of_ok (segments text)) (of_fault TooDeep (λ e. cc)))
    (of_fault BadPath (λ e. cc))

draft_never : (d : Data) → NeverWants (draft_of_value d)
draft_never d =
    either (is_lawful_draft d) _ _
    (either (nat_le (depth (draft_of_json d)) MAX_DEPTH) _ _ (of_ok (draft_of_json d)) (of_fault TooDeep (λ e. cc)))
    (of_fault BadValue (λ e. cc))

write_never : (path : Path) (draft : Draft) → NeverWants (write_at path draft)
write_never path draft = either (nat_le (length path + depth draft) MAX_DEPTH) _ _ (of_ok (path, draft)) (of_fault TooDeep (λ e. cc))

below_never : (path : Path) (name : List ℕ) → NeverWants (path_below path name)
below_never path name = in_turn _ _ (path_never name) (λ below. either (nat_le (length path + length below) MAX_DEPTH) _ _ (of_ok (path ++ below)) (of_fault TooDeep (λ e. cc)))

member_never : (path : Path) (name : List ℕ) (d : Data) → NeverWants (write_below path name d)
member_never path name d =
    in_turn _ _ (below_never path name) (λ at.
    in_turn _ _ (draft_never d) (λ draft. write_never at draft))

members_never : (path : Path) (ms : Members) → NeverWants (writes_below path ms)
members_never path no_members = of_ok _
members_never path (member name d ms) =
    in_turn _ _ (member_never path name d) (λ write.
    in_turn _ _ (members_never path ms) (λ writes. of_ok _))

path_in_never : (d : Data) → NeverWants (path_in d)
path_in_never d = in_turn _ _ (of_option BadRequest (text_at (codes "path") d) (λ e. cc)) (λ text. path_never text)

write_in_never : (d : Data) → NeverWants (write_in d)
write_in_never d =
    in_turn _ _ (of_option BadRequest (text_at (codes "path") d) (λ e. cc)) (λ text.
    in_turn _ _ (of_option BadRequest (get (codes "value") d) (λ e. cc)) (λ value.
    in_turn _ _ (path_never text) (λ path.
    in_turn _ _ (draft_never value) (λ draft. write_never path draft))))

writes_in_never : (d : Data) → NeverWants (writes_in d)
writes_in_never d =
    in_turn _ _ (of_option BadRequest (text_at (codes "path") d) (λ e. cc)) (λ text.
    in_turn _ _ (of_option BadRequest (option_and_then as_object (get (codes "values") d)) (λ e. cc)) (λ members.
    in_turn _ _ (path_never text) (λ path. members_never path members)))

query_never : (said : Option Data) → NeverWants (query_said said)
query_never None = of_ok _
query_never (Some said) = of_option BadQuery (option_map (λ query. Some query) (query_of said)) (λ e. cc)

wanted_never : (verb : Verb) (d : Data) → NeverWants (wanted_by verb d)
wanted_never verbs.Open d = of_ok _
wanted_never verbs.Close d = of_ok _
wanted_never verbs.SignIn d = in_turn _ _ (of_option BadRequest (text_at (codes "token") d) (λ e. cc)) (λ secret. of_ok (SignIn secret))
wanted_never verbs.SignOut d = of_ok _
wanted_never verbs.Get d =
    in_turn _ _ (of_option BadRequest (text_at (codes "path") d) (λ e. cc)) (λ text.
    in_turn _ _ (of_option BadRequest (query_at d) (λ e. cc)) (λ said.
    in_turn _ _ (path_never text) (λ path.
    in_turn _ _ (query_never said) (λ query. of_ok (wanted.Step (Get path query))))))
wanted_never verbs.Set d = in_turn _ _ (write_in_never d) (λ write. of_ok (wanted.Step (Set write)))
wanted_never verbs.Remove d = in_turn _ _ (path_in_never d) (λ path. of_ok (wanted.Step (Remove path)))
wanted_never verbs.Update d = in_turn _ _ (writes_in_never d) (λ writes. of_ok (wanted.Step (Update writes)))
wanted_never verbs.Listen d =
    in_turn _ _ (of_option BadRequest (id_at d) (λ e. cc)) (λ id.
    in_turn _ _ (of_option BadRequest (text_at (codes "path") d) (λ e. cc)) (λ text.
    in_turn _ _ (of_option BadRequest (query_at d) (λ e. cc)) (λ said.
    in_turn _ _ (path_never text) (λ path.
    in_turn _ _ (query_never said) (λ query. of_ok (wanted.Step (Listen id path query)))))))
wanted_never verbs.Unlisten d = in_turn _ _ (of_option BadRequest (id_at d) (λ e. cc)) (λ id. of_ok (wanted.Step (Unlisten id)))
wanted_never verbs.Poll d = of_ok _
wanted_never verbs.Tick d = of_ok _
wanted_never verbs.Deploy d = in_turn _ _ (of_option BadRequest (text_at (codes "rules") d) (λ e. cc)) (λ rules. of_ok (Deploy rules))
wanted_never verbs.OnSet d = in_turn _ _ (write_in_never d) (λ write. of_ok (wanted.Step (OnSet write)))
wanted_never verbs.OnRemove d = in_turn _ _ (path_in_never d) (λ path. of_ok (wanted.Step (OnRemove path)))
wanted_never verbs.OnUpdate d = in_turn _ _ (writes_in_never d) (λ writes. of_ok (wanted.Step (OnUpdate writes)))
wanted_never verbs.OnCancel d = in_turn _ _ (path_in_never d) (λ path. of_ok (wanted.Step (OnCancel path)))
wanted_never verbs.Leave d = of_ok _
wanted_never verbs.RunNext d = of_ok _

request_never : (form : Form) (d : Data) → NeverWants (request_of form d)
request_never form d =
    in_turn _ _ (of_option BadRequest (verb_in form d) (λ e. cc)) (λ verb.
    either (has_only (form_members form ++ verb_members verb) d) _ _
    (in_turn _ _ (of_option BadRequest (stamp_of form d) (λ e. cc)) (λ stamp.
    in_turn _ _ (wanted_never verb d) (λ want. of_ok _)))
    (of_fault BadRequest (λ e. cc)))

asks_never : (form : Form) (bytes : List ℕ) → NeverWants (asks form bytes)
unfolding asks
asks_never form bytes = in_turn _ _ (value_never bytes) (request_never form)

-- ---- some answer

-- what is not want of memory
abbrev WantsNone : LineFault → Type 0
WantsNone fault = (fault ≢ line_faults.Message NoMemory) × (fault ≢ line_faults.Rules rules_faults.NoMemory)

-- it is answered in full, once it is known what it asks
asked_full : (old : State) (tokens : Tokens) (line : List ℕ) (asked : Asked) → IsAsked tokens Script line (Ok asked) → (text : List ℕ) × (new : State) × IsAnsweredInFull tokens old line text new
asked_full old tokens line asked is =
    let some = some_answer old asked.stamp.now asked.stamp.session asked.event in
    (answer.text some.0, some.1, (Ok asked, is, (some.0, some.2, some.3, refl)))

fault_full : (old : State) (tokens : Tokens) (line : List ℕ) (fault : LineFault) → WantsNone fault → IsAsked tokens Script line (Err fault) → (text : List ℕ) × (new : State) × IsAnsweredInFull tokens old line text new
fault_full old tokens line fault none is = (answer.line_fault_text fault, old, (Err fault, is, (none.0, none.1, refl, refl)))

by_secret : (old : State) (tokens : Tokens) (line : List ℕ) (request : Request) (secret : List ℕ) → asks Script line ≡ Ok request → request.wanted ≡ SignIn secret → (found : Option Identity) → identity_named tokens secret ≡ found → (text : List ℕ) × (new : State) × IsAnsweredInFull tokens old line text new
by_secret old tokens line request secret is want (Some who) named =
    asked_full old tokens line (record { stamp = request.stamp; event = events.SignIn who }) (request, is, refl, subst (λ (w : Wanted). ComesTo tokens w (events.SignIn who)) (sym want) (who, named, refl))
by_secret old tokens line request secret is want None named = fault_full old tokens line line_faults.UnknownToken (λ e. cc, λ e. cc) (request, secret, is, want, named)

by_text : (old : State) (tokens : Tokens) (line : List ℕ) (request : Request) (text : List ℕ) → asks Script line ≡ Ok request → request.wanted ≡ Deploy text → ((book : Book) × States text book) ⊎ ((fault : RulesFault) × Refuses text fault × (fault ≢ rules_faults.NoMemory)) → (said : List ℕ) × (new : State) × IsAnsweredInFull tokens old line said new
by_text old tokens line request text is want (inl h) =
    asked_full old tokens line (record { stamp = request.stamp; event = events.Deploy h.0 }) (request, is, refl, subst (λ (w : Wanted). ComesTo tokens w (events.Deploy h.0)) (sym want) (h.0, h.1, stated_one text h.0 h.1, refl))
by_text old tokens line request text is want (inr h) = fault_full old tokens line (line_faults.Rules h.0) (λ e. cc, other h.0 h.2) (request, text, is, want, h.1)
  where
    other : (fault : RulesFault) → fault ≢ rules_faults.NoMemory → line_faults.Rules fault ≢ line_faults.Rules rules_faults.NoMemory
    other fault n e = n (cc)

by_wanted : (old : State) (tokens : Tokens) (line : List ℕ) (request : Request) → asks Script line ≡ Ok request → (want : Wanted) → request.wanted ≡ want → (text : List ℕ) × (new : State) × IsAnsweredInFull tokens old line text new
by_wanted old tokens line request is (wanted.Step event) want =
    asked_full old tokens line (record { stamp = request.stamp; event = event }) (request, is, refl, subst (λ (w : Wanted). ComesTo tokens w event) (sym want) refl)
by_wanted old tokens line request is (SignIn secret) want = by_secret old tokens line request secret is want (identity_named tokens secret) refl
by_wanted old tokens line request is (Deploy text) want = by_text old tokens line request text is want (each_file text)

some_by : (old : State) (tokens : Tokens) (line : List ℕ) → (message : Result Request MessageFault) → asks Script line ≡ message → (text : List ℕ) × (new : State) × IsAnsweredInFull tokens old line text new
some_by old tokens line (Ok request) is = by_wanted old tokens line request is request.wanted refl
some_by old tokens line (Err fault) is = fault_full old tokens line (line_faults.Message fault) (λ e. asks_never Script line (is ∙ ap Err (same e)), λ e. cc) (inr is)
  where
    same : line_faults.Message fault ≡ line_faults.Message NoMemory → fault ≡ NoMemory
    same e = cc

pub some_full : (tokens : Tokens) (old : State) (line : List ℕ) → (text : List ℕ) × (new : State) × IsAnsweredInFull tokens old line text new
some_full tokens old line = some_by old tokens line (asks Script line) refl

-- ---- one answer

one_request : (line : List ℕ) (r q : Request) → asks Script line ≡ Ok r → asks Script line ≡ Ok q → r ≡ q
one_request line r q a b = ok_is r q (sym a ∙ b)
  where
    ok_is : (x y : Request) → ◌≡◌ {A = Result Request MessageFault} (Ok x) (Ok y) → x ≡ y
    ok_is x y e = cc

request_or_fault : (line : List ℕ) (r : Request) (fault : MessageFault) → asks Script line ≡ Ok r → asks Script line ≡ Err fault → ⊥
request_or_fault line r fault a b = never (sym a ∙ b)
  where
    never : ◌≡◌ {A = Result Request MessageFault} (Ok r) (Err fault) → ⊥
    never e = cc

-- one event
one_event : (tokens : Tokens) (want : Wanted) (e f : Event) → ComesTo tokens want e → ComesTo tokens want f → e ≡ f
one_event tokens (wanted.Step event) e f a b = a ∙ sym b
one_event tokens (SignIn secret) e f a b = a.2 ∙ ap (λ (who : Identity). events.SignIn who) (some_is a.0 b.0 (sym a.1 ∙ b.1)) ∙ sym b.2
  where
    some_is : (x y : Identity) → ◌≡◌ {A = Option Identity} (Some x) (Some y) → x ≡ y
    some_is x y e = cc
one_event tokens (Deploy text) e f a b = a.3 ∙ ap (λ (book : Book). events.Deploy book) (states_one text a.0 b.0 a.1 b.1) ∙ sym b.3

-- two messages of one line that want no memory: one call, or faults with one text
abbrev Agree : Result Asked LineFault → Result Asked LineFault → Type 0
Agree (Ok a) (Ok b) = a ≡ b
Agree (Ok a) (Err g) = ⊥
Agree (Err f) (Ok b) = ⊥
Agree (Err f) (Err g) = answer.line_fault_text f ≡ answer.line_fault_text g

-- what a message other than a fault of its own is a message of
secret_only : (tokens : Tokens) (w : Wanted) (event : Event) (secret : List ℕ) → w ≡ SignIn secret → identity_named tokens secret ≡ None → ComesTo tokens w event → ⊥
secret_only tokens w event secret is none c = never (sym d.1 ∙ none)
  where
    d : ComesTo tokens (SignIn secret) event
    d = subst (λ (x : Wanted). ComesTo tokens x event) is c

    never : Some d.0 ≡ None → ⊥
    never e = cc

rules_only : (tokens : Tokens) (w : Wanted) (event : Event) (text : List ℕ) (fault : RulesFault) → w ≡ Deploy text → Refuses text fault → fault ≢ rules_faults.NoMemory → ComesTo tokens w event → ⊥
rules_only tokens w event text fault is r n c =
    let d : ComesTo tokens (Deploy text) event = subst (λ (x : Wanted). ComesTo tokens x event) is c in
    n (never_both text d.0 fault d.1 r)

same_text : (text other : List ℕ) → Deploy text ≡ Deploy other → text ≡ other
same_text text other e = cc

secret_or_text : (secret text : List ℕ) → SignIn secret ≡ Deploy text → ⊥
secret_or_text secret text e = cc

no_rules_memory : (fault : RulesFault) → line_faults.Rules fault ≢ line_faults.Rules rules_faults.NoMemory → fault ≢ rules_faults.NoMemory
no_rules_memory fault n e = n (ap (λ (f : RulesFault). line_faults.Rules f) e)

no_message_memory : (fault : MessageFault) → line_faults.Message fault ≢ line_faults.Message NoMemory → fault ≢ NoMemory
no_message_memory fault n e = n (ap (λ (f : MessageFault). line_faults.Message f) e)

module _ (tokens : Tokens) (line : List ℕ) where
  -- a message with a fault has no other
  of_message : (fault : MessageFault) → line_faults.Message fault ≢ line_faults.Message NoMemory → IsAsked tokens Script line (Err (line_faults.Message fault)) → asks Script line ≡ Err fault
  of_message fault n (inl wanted) = absurd (no_message_memory fault n wanted)
  of_message fault n (inr is) = is

  agree : (m n : Result Asked LineFault) → IsAsked tokens Script line m → IsAsked tokens Script line n → ((f : LineFault) → m ≡ Err f → WantsNone f) → ((f : LineFault) → n ≡ Err f → WantsNone f) → Agree m n
  agree (Ok a) (Ok b) h g w v =
      let same = one_request line h.0 g.0 h.1 g.1 in
      let event = one_event tokens h.0.wanted a.event b.event h.3 (subst (λ (r : Request). ComesTo tokens r.wanted b.event) (sym same) g.3) in
      let stamp = h.2 ∙ ap (λ (r : Request). r.stamp) same ∙ sym g.2 in
      λ i. record { stamp = stamp i; event = event i }
  agree (Ok a) (Err (line_faults.Message fault)) h g w v = request_or_fault line h.0 fault h.1 (of_message fault (v _ refl).0 g)
  agree (Ok a) (Err line_faults.UnknownToken) h g w v =
      secret_only tokens h.0.wanted a.event g.1 (ap (λ (r : Request). r.wanted) (one_request line h.0 g.0 h.1 g.2) ∙ g.3) g.4 h.3
  agree (Ok a) (Err (line_faults.Rules fault)) h g w v =
      rules_only tokens h.0.wanted a.event g.1 fault (ap (λ (r : Request). r.wanted) (one_request line h.0 g.0 h.1 g.2) ∙ g.3) g.4 (no_rules_memory fault (v _ refl).1) h.3
  agree (Err (line_faults.Message fault)) (Ok b) h g w v = request_or_fault line g.0 fault g.1 (of_message fault (w _ refl).0 h)
  agree (Err line_faults.UnknownToken) (Ok b) h g w v =
      secret_only tokens g.0.wanted b.event h.1 (ap (λ (r : Request). r.wanted) (one_request line g.0 h.0 g.1 h.2) ∙ h.3) h.4 g.3
  agree (Err (line_faults.Rules fault)) (Ok b) h g w v =
      rules_only tokens g.0.wanted b.event h.1 fault (ap (λ (r : Request). r.wanted) (one_request line g.0 h.0 g.1 h.2) ∙ h.3) h.4 (no_rules_memory fault (w _ refl).1) g.3
  agree (Err (line_faults.Message fault)) (Err (line_faults.Message other)) h g w v =
      ap answer.fault_text (err_is fault other (sym (of_message fault (w _ refl).0 h) ∙ of_message other (v _ refl).0 g))
    where
      err_is : (x y : MessageFault) → ◌≡◌ {A = Result Request MessageFault} (Err x) (Err y) → x ≡ y
      err_is x y e = cc
  agree (Err (line_faults.Message fault)) (Err line_faults.UnknownToken) h g w v = absurd (request_or_fault line g.0 fault g.2 (of_message fault (w _ refl).0 h))
  agree (Err (line_faults.Message fault)) (Err (line_faults.Rules other)) h g w v = absurd (request_or_fault line g.0 fault g.2 (of_message fault (w _ refl).0 h))
  agree (Err line_faults.UnknownToken) (Err (line_faults.Message fault)) h g w v = absurd (request_or_fault line h.0 fault h.2 (of_message fault (v _ refl).0 g))
  agree (Err (line_faults.Rules other)) (Err (line_faults.Message fault)) h g w v = absurd (request_or_fault line h.0 fault h.2 (of_message fault (v _ refl).0 g))
  agree (Err line_faults.UnknownToken) (Err line_faults.UnknownToken) h g w v = refl
  agree (Err line_faults.UnknownToken) (Err (line_faults.Rules fault)) h g w v =
      absurd (secret_or_text h.1 g.1 (sym h.3 ∙ ap (λ (r : Request). r.wanted) (one_request line h.0 g.0 h.2 g.2) ∙ g.3))
  agree (Err (line_faults.Rules fault)) (Err line_faults.UnknownToken) h g w v =
      absurd (secret_or_text g.1 h.1 (sym g.3 ∙ ap (λ (r : Request). r.wanted) (one_request line g.0 h.0 g.2 h.2) ∙ h.3))
  agree (Err (line_faults.Rules fault)) (Err (line_faults.Rules other)) h g w v =
      let same = same_text h.1 g.1 (sym h.3 ∙ ap (λ (r : Request). r.wanted) (one_request line h.0 g.0 h.2 g.2) ∙ g.3) in
      one_rules_text fault other (one_reason h.1 fault other h.4 (subst (λ (t : List ℕ). Refuses t other) (sym same) g.4) (no_rules_memory fault (w _ refl).1) (no_rules_memory other (v _ refl).1))

-- what is answered in full wants no memory
full_wants_none : (old new : State) (message : Result Asked LineFault) (text : List ℕ) → IsAnsweredInFullBy old message text new → (f : LineFault) → message ≡ Err f → WantsNone f
full_wants_none old new (Ok asked) text a f e = absurd (never e)
  where
    never : ◌≡◌ {A = Result Asked LineFault} (Ok asked) (Err f) → ⊥
    never e = cc
full_wants_none old new (Err fault) text a f e = subst WantsNone (err_is fault f e) (a.0, a.1)
  where
    err_is : (x y : LineFault) → ◌≡◌ {A = Result Asked LineFault} (Err x) (Err y) → x ≡ y
    err_is x y e = cc

one_by : (old new other : State) (m n : Result Asked LineFault) (text another : List ℕ) → Agree m n → IsAnsweredInFullBy old m text new → IsAnsweredInFullBy old n another other → (text ≡ another) × (new ≡ other)
one_by old new other (Ok asked) (Ok b) text another same a h =
    let h' = subst (λ (x : Asked). IsAnsweredInFullBy old (Ok x) another other) (sym same) h in
    let one = one_answer old new other asked.stamp.now asked.stamp.session asked.event a.0 h'.0 a.1 h'.1 a.2 h'.2 in
    (a.3 ∙ ap answer.text one.0 ∙ sym h'.3, one.1)
one_by old new other (Ok asked) (Err fault) text another same a h = absurd same
one_by old new other (Err fault) (Ok asked) text another same a h = absurd same
one_by old new other (Err fault) (Err g) text another same a h = (a.2 ∙ same ∙ sym h.2, a.3 ∙ sym h.3)

pub one_full : (tokens : Tokens) (old new other : State) (line text another : List ℕ) → IsAnsweredInFull tokens old line text new → IsAnsweredInFull tokens old line another other → (text ≡ another) × (new ≡ other)
one_full tokens old new other line text another a b =
    one_by old new other a.0 b.0 text another (agree tokens line a.0 b.0 a.1 b.1 (full_wants_none old new a.0 text a.2) (full_wants_none old other b.0 another b.2)) a.2 b.2

by_full : (old new : State) (message : Result Asked LineFault) (text : List ℕ) → IsAnsweredInFullBy old message text new → IsAnsweredBy old message text new
by_full old new (Ok asked) text a = (a.0, a.2, a.3)
by_full old new (Err fault) text a = (a.2, a.3)

pub full_is_answered : (tokens : Tokens) (old new : State) (line text : List ℕ) → IsAnsweredInFull tokens old line text new → IsAnswered tokens old line text new
full_is_answered tokens old new line text a = (a.0, a.1, by_full old new a.0 text a.2)
