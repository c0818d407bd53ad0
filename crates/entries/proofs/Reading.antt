-- What a reader's answer says: a text that is no entry means nothing.
use Rattle.std.proofs.Common.{◌≡◌, ℕ, ◌<◌, ◌≤◌, ◌^◌, Bool, true, false, List, [], ◌++◌, Option, Some, None, option_and_then, Result, Ok, Err, inl, inr, ◌⊎◌, refl, sym, ap, subst, ◌∙◌, arith}
use Rattle.std.specs.Prelude.{codes, IfOk, IsErrOf}
use Rattle.std.specs.Str.{is_utf8}
use Rattle.std.proofs.lemmas.List.{append_cancel_left}
use Rattle.tokens.specs.Tokens.{json_of, Tokens}
use Rattle.evaluator.specs.Identity.{Identity}
use Rattle.evaluator.specs.declared.env.TheConstants.{MAX_MOMENT}
use Rattle.rules_reader.specs.File.{States}
use Rattle.rules_reader.specs.Refusal.{Refuses}
use Rattle.rules_reader.specs.declared.fault.RulesFault.{RulesFault}
use Rattle.rules_reader.specs.declared.fault.RulesFault.TheVariants as rules_faults
use Rattle.rules_reader.proofs.Decided.{never_both}
use Rattle.tree_model.specs.Write.{Write}
use Rattle.rtdb_model.specs.declared.event.Event.{Event}
use Rattle.rtdb_model.specs.declared.event.Event.TheVariants as events
use Rattle.rtdb_model.specs.Step.{Call}
use Rattle.requests.specs.declared.message.Form.TheVariants.{Socket}
use Rattle.requests.specs.declared.message.Stamp.{Stamp}
use Rattle.requests.specs.declared.message.Request.{Request}
use Rattle.requests.specs.declared.message.Wanted.{Wanted}
use Rattle.requests.specs.declared.message.Wanted.TheVariants.{Step, SignIn, Deploy}
use Rattle.requests.specs.Message.{asks}
use Rattle.requests.specs.Ask.{ComesTo}
use Rattle.json_lines.specs.declared.fault.MessageFault.{MessageFault}
use Rattle.entries.specs.Identity.{identity_in}
use Rattle.entries.specs.Writes.{writes_in}
use Rattle.entries.specs.Entry.{Meaning, rules, tree, begin, session, action, call, numbered, session_in, deployed_text, event_named, IsSent, Tells, IsSession, IsAction, IsCall, Means, meaning_of}
use Rattle.entries.specs.Working.Telling.{Reads, MeansCall, Told, IsWanted}
use Rattle.entries.specs.declared.entry.Entry.{Entry}
use Rattle.entries.specs.declared.entry.EntryFault.{EntryFault}
use Rattle.entries.specs.declared.entry.EntryFault.TheVariants.{NotAnEntry, NoMemory}
use Rattle.entries.proofs.Fronts.{numbered_one}
use Rattle.entries.proofs.Meanings.{kinds, moment_fits, no_secret, signin_sends_none, same_request}
use Rattle.entries.proofs.Letters.{signin_names_none}

no_both : {X : Type 0} (o : Option X) (x : X) → o ≡ None → o ≡ Some x → ⊥
no_both o x none some = by_none (sym none ∙ some)
  where
    by_none : None ≡ Some x → ⊥
    by_none e = cc

-- ---- rules

pub bad_rules : (text : List ℕ) → is_utf8 text ≡ false → (m : Meaning) → Means (codes "rules " ++ text) m → ⊥
bad_rules text bad (rules other) is = by_test (sym (ap is_utf8 (append_cancel_left (codes "rules ") text other is.0) ∙ is.1) ∙ bad)
  where
    by_test : true ≡ false → ⊥
    by_test e = cc
bad_rules text bad (tree piece) is = let k = kinds _ (tree piece) is in absurd (omega arith)
bad_rules text bad begin is = let k = kinds _ begin is in absurd (omega arith)
bad_rules text bad (session n l w) is = let k = kinds _ (session n l w) is in absurd (omega arith)
bad_rules text bad (action n w) is = let k = kinds _ (action n w) is in absurd (omega arith)
bad_rules text bad (call made t) is = let k = kinds _ (call made t) is in absurd (omega arith)

-- ---- sessions

only_session : (rest : List ℕ) → ((n : ℕ) (l : Bool) (w : Option Identity) → IsSession (codes "session " ++ rest) n l w → ⊥) → (m : Meaning) → Means (codes "session " ++ rest) m → ⊥
only_session rest never (rules text) is = let k = kinds _ (rules text) is in absurd (omega arith)
only_session rest never (tree piece) is = let k = kinds _ (tree piece) is in absurd (omega arith)
only_session rest never begin is = let k = kinds _ begin is in absurd (omega arith)
only_session rest never (session n l w) is = never n l w is
only_session rest never (action n w) is = let k = kinds _ (action n w) is in absurd (omega arith)
only_session rest never (call made t) is = let k = kinds _ (call made t) is in absurd (omega arith)

pub no_session_number : (rest : List ℕ) → ((n : ℕ) (json : List ℕ) → n < 2 ^ 64 → rest ≡ numbered n json → ⊥) → (m : Meaning) → Means (codes "session " ++ rest) m → ⊥
no_session_number rest none = only_session rest (λ n l w is. none n is.json is.fits (append_cancel_left (codes "session ") rest (numbered n is.json) is.bytes_are))

pub bad_session : (rest : List ℕ) (n : ℕ) (json : List ℕ) → n < 2 ^ 64 → rest ≡ numbered n json → option_and_then session_in (json_of json) ≡ None → (m : Meaning) → Means (codes "session " ++ rest) m → ⊥
bad_session rest n json fits front bad = only_session rest (λ m l w is.
    let same = numbered_one n m json is.json fits is.fits (sym front ∙ append_cancel_left (codes "session ") rest (numbered m is.json) is.bytes_are) in
    no_both _ (l, w) (sym (ap (λ text. option_and_then session_in (json_of text)) same.1) ∙ bad) is.is_session)

pub good_session : (rest : List ℕ) (n : ℕ) (json : List ℕ) (l : Bool) (w : Option Identity) → n < 2 ^ 64 → rest ≡ numbered n json → option_and_then session_in (json_of json) ≡ Some (l, w) → IsSession (codes "session " ++ rest) n l w
good_session rest n json l w fits front is = record { json = json; bytes_are = ap (λ (r : List ℕ). codes "session " ++ r) front; fits = fits; is_session = is }

-- ---- actions

only_action : (rest : List ℕ) → ((n : ℕ) (w : List Write) → IsAction (codes "action " ++ rest) n w → ⊥) → (m : Meaning) → Means (codes "action " ++ rest) m → ⊥
only_action rest never (rules text) is = let k = kinds _ (rules text) is in absurd (omega arith)
only_action rest never (tree piece) is = let k = kinds _ (tree piece) is in absurd (omega arith)
only_action rest never begin is = let k = kinds _ begin is in absurd (omega arith)
only_action rest never (session n l w) is = let k = kinds _ (session n l w) is in absurd (omega arith)
only_action rest never (action n w) is = never n w is
only_action rest never (call made t) is = let k = kinds _ (call made t) is in absurd (omega arith)

pub no_action_number : (rest : List ℕ) → ((n : ℕ) (json : List ℕ) → n < 2 ^ 64 → rest ≡ numbered n json → ⊥) → (m : Meaning) → Means (codes "action " ++ rest) m → ⊥
no_action_number rest none = only_action rest (λ n w is. none n is.json is.fits (append_cancel_left (codes "action ") rest (numbered n is.json) is.bytes_are))

pub bad_action : (rest : List ℕ) (n : ℕ) (json : List ℕ) → n < 2 ^ 64 → rest ≡ numbered n json → option_and_then writes_in (json_of json) ≡ None → (m : Meaning) → Means (codes "action " ++ rest) m → ⊥
bad_action rest n json fits front bad = only_action rest (λ m w is.
    let same = numbered_one n m json is.json fits is.fits (sym front ∙ append_cancel_left (codes "action ") rest (numbered m is.json) is.bytes_are) in
    no_both _ w (sym (ap (λ text. option_and_then writes_in (json_of text)) same.1) ∙ bad) is.are_writes)

pub good_action : (rest : List ℕ) (n : ℕ) (json : List ℕ) (w : List Write) → n < 2 ^ 64 → rest ≡ numbered n json → option_and_then writes_in (json_of json) ≡ Some w → IsAction (codes "action " ++ rest) n w
good_action rest n json w fits front is = record { json = json; bytes_are = ap (λ (r : List ℕ). codes "action " ++ r) front; fits = fits; are_writes = is }

-- ---- calls

only_call : (bytes : List ℕ) → ((made : Call) (t : Option (List ℕ)) → IsCall bytes made t → ⊥) → (m : Meaning) → MeansCall bytes m → ⊥
only_call bytes never (rules text) is = is
only_call bytes never (tree piece) is = is
only_call bytes never begin is = is
only_call bytes never (session n l w) is = is
only_call bytes never (action n w) is = is
only_call bytes never (call made t) is = never made t is

pub no_call_moment : (bytes : List ℕ) → ((n : ℕ) (rest : List ℕ) → n < 2 ^ 64 → bytes ≡ numbered n rest → ⊥) → (m : Meaning) → MeansCall bytes m → ⊥
no_call_moment bytes none = only_call bytes (λ made t is. none made.now _ (moment_fits made.now is.moment) is.bytes_are)

pub late_call : (bytes : List ℕ) (now : ℕ) (rest : List ℕ) → now < 2 ^ 64 → bytes ≡ numbered now rest → MAX_MOMENT < now → (m : Meaning) → MeansCall bytes m → ⊥
late_call bytes now rest fits front late = only_call bytes (λ made t is.
    let same = (numbered_one now made.now rest _ fits (moment_fits made.now is.moment) (sym front ∙ is.bytes_are)).0 in
    let moment = is.moment in omega arith)

pub no_call_session : (bytes : List ℕ) (now : ℕ) (rest : List ℕ) → now < 2 ^ 64 → bytes ≡ numbered now rest → ((n : ℕ) (more : List ℕ) → n < 2 ^ 64 → rest ≡ numbered n more → ⊥) → (m : Meaning) → MeansCall bytes m → ⊥
no_call_session bytes now rest fits front none = only_call bytes (λ made t is.
    let same = (numbered_one now made.now rest _ fits (moment_fits made.now is.moment) (sym front ∙ is.bytes_are)).1 in
    none made.session is.told is.fits same)

pub bad_call : (bytes : List ℕ) (now number : ℕ) (rest told : List ℕ) → now < 2 ^ 64 → number < 2 ^ 64 → bytes ≡ numbered now rest → rest ≡ numbered number told → ((e : Told) → Tells (record { now = now; session = number }) told e.0 e.1 → ⊥) → (m : Meaning) → MeansCall bytes m → ⊥
bad_call bytes now number rest told fits small front next none = only_call bytes (λ made t is.
    let outer = numbered_one now made.now rest (numbered made.session is.told) fits (moment_fits made.now is.moment) (sym front ∙ is.bytes_are) in
    let inner = numbered_one number made.session told is.told small is.fits (sym next ∙ outer.1) in
    none (made.event, t) (moved made.now made.session is.told made.event t (sym outer.0) (sym inner.0) (sym inner.1) is.tells))
  where
    moved : (a b : ℕ) (c : List ℕ) (e : Event) (t : Option (List ℕ)) → a ≡ now → b ≡ number → c ≡ told → Tells (record { now = a; session = b }) c e t → Tells (record { now = now; session = number }) told e t
    moved a b c e t p q r h =
        subst (λ (x : ℕ). Tells (record { now = x; session = number }) told e t) p
        (subst (λ (x : ℕ). Tells (record { now = a; session = x }) told e t) q
        (subst (λ (x : List ℕ). Tells (record { now = a; session = b }) x e t) r h))

pub good_call : (bytes : List ℕ) (now number : ℕ) (rest told : List ℕ) (e : Event) (t : Option (List ℕ)) → now ≤ MAX_MOMENT → number < 2 ^ 64 → bytes ≡ numbered now rest → rest ≡ numbered number told → Tells (record { now = now; session = number }) told e t → IsCall bytes (record { now = now; session = number; event = e }) t
good_call bytes now number rest told e t moment fits front next tells = record { told = told; bytes_are = front ∙ ap (numbered now) next; moment = moment; fits = fits; tells = tells }

-- ---- what is told of a call

pub bad_sign_in : (stamp : Stamp) (told json : List ℕ) → told ≡ codes "signin " ++ json → option_and_then identity_in (json_of json) ≡ None → (e : Told) → Tells stamp told e.0 e.1 → ⊥
bad_sign_in stamp told json front bad e (inl named) = no_both _ e.0 (ap event_named front ∙ signin_names_none json) named.0
bad_sign_in stamp told json front bad e (inr (inl signs)) =
    let same = append_cancel_left (codes "signin ") json signs.0.json (sym front ∙ signs.0.told_is) in
    no_both _ signs.0.who (sym (ap (λ text. option_and_then identity_in (json_of text)) same) ∙ bad) signs.0.is_who
bad_sign_in stamp told json front bad e (inr (inr sent)) = signin_sends_none stamp told json e.0 e.1 front sent

pub good_sign_in : (stamp : Stamp) (told json : List ℕ) (who : Identity) → told ≡ codes "signin " ++ json → option_and_then identity_in (json_of json) ≡ Some who → Tells stamp told (events.SignIn who) None
good_sign_in stamp told json who front is = inr (inl (record { json = json; told_is = front; who = who; is_who = is; event_is = refl }, refl))

pub sent_told : (stamp : Stamp) (told : List ℕ) (r : Result Told EntryFault) → event_named told ≡ None → ((json : List ℕ) → told ≡ codes "signin " ++ json → ⊥) → Reads (λ (e : Told). e) (λ e. IsSent stamp told e.0 e.1) r → Reads (λ (e : Told). e) (λ e. Tells stamp told e.0 e.1) r
sent_told stamp told (Ok e) unnamed unsigned sent = inr (inr sent)
sent_told stamp told (Err NotAnEntry) unnamed unsigned none = by_told
  where
    by_told : (e : Told) → Tells stamp told e.0 e.1 → ⊥
    by_told e (inl named) = no_both _ e.0 unnamed named.0
    by_told e (inr (inl signs)) = unsigned signs.0.json signs.0.told_is
    by_told e (inr (inr sent)) = none e sent
sent_told stamp told (Err NoMemory) unnamed unsigned none = tt

pub wanted_sent : (stamp : Stamp) (told : List ℕ) (request : Request) (r : Result Told EntryFault) → asks (Socket stamp) told ≡ Ok request → Reads (λ (e : Told). e) (IsWanted request.wanted) r → Reads (λ (e : Told). e) (λ e. IsSent stamp told e.0 e.1) r
wanted_sent stamp told request (Ok e) asked wanted = record { request = request; asked = asked; comes = wanted.0; text_is = wanted.1 }
wanted_sent stamp told request (Err NotAnEntry) asked none = λ e sent.
    let same : request ≡ sent.request = same_request _ request sent.request asked sent.asked in
    none e (subst (λ (r : Request). ComesTo [] r.wanted e.0) (sym same) sent.comes, sent.text_is ∙ ap (λ (r : Request). deployed_text r.wanted) (sym same))
wanted_sent stamp told request (Err NoMemory) asked none = tt

pub unasked : (stamp : Stamp) (told : List ℕ) (fault : MessageFault) → asks (Socket stamp) told ≡ Err fault → (e : Told) → IsSent stamp told e.0 e.1 → ⊥
unasked stamp told fault is e sent = by_fault (sym is ∙ sent.asked)
  where
    by_fault : Err fault ≡ Ok sent.request → ⊥
    by_fault e = cc

pub secret_comes_none : (secret : List ℕ) (e : Told) → IsWanted (SignIn secret) e → ⊥
secret_comes_none secret e is = no_secret secret is.0.0 is.0.1

-- ---- the whole

pub read_means : (bytes other : List ℕ) (r : Result Entry EntryFault) → bytes ≡ other → Reads meaning_of (Means other) r → IfOk r (λ entry. Means bytes (meaning_of entry))
read_means bytes other (Ok entry) same is = subst (λ (bs : List ℕ). Means bs (meaning_of entry)) (sym same) is
read_means bytes other (Err fault) same is = tt

pub read_nothing : (bytes other : List ℕ) (r : Result Entry EntryFault) → bytes ≡ other → Reads meaning_of (Means other) r → IsErrOf r NotAnEntry → (m : Meaning) → Means bytes m → ⊥
read_nothing bytes other (Ok entry) same is fault m means = by_fault fault
  where
    by_fault : IsErrOf (Ok entry) NotAnEntry → ⊥
    by_fault e = cc
read_nothing bytes other (Err NotAnEntry) same is fault m means = is m (subst (λ (bs : List ℕ). Means bs m) same means)
read_nothing bytes other (Err NoMemory) same is fault m means = by_fault fault
  where
    by_fault : IsErrOf {T = Entry} (Err NoMemory) NotAnEntry → ⊥
    by_fault e = cc

pub call_read : (bytes : List ℕ) (r : Result Entry EntryFault) → ((text : List ℕ) → bytes ≡ codes "rules " ++ text → ⊥) → ((piece : List ℕ) → bytes ≡ codes "tree " ++ piece → ⊥) → (bytes ≡ codes "begin" → ⊥) → ((rest : List ℕ) → bytes ≡ codes "session " ++ rest → ⊥) → ((rest : List ℕ) → bytes ≡ codes "action " ++ rest → ⊥) → Reads meaning_of (MeansCall bytes) r → Reads meaning_of (Means bytes) r
call_read bytes (Ok entry) p q s t u is = by_meaning (meaning_of entry) is
  where
    by_meaning : (m : Meaning) → MeansCall bytes m → Means bytes m
    by_meaning (rules text) h = absurd h
    by_meaning (tree piece) h = absurd h
    by_meaning begin h = absurd h
    by_meaning (session n l w) h = absurd h
    by_meaning (action n w) h = absurd h
    by_meaning (call made text) h = h
call_read bytes (Err NotAnEntry) p q s t u none = by_meaning
  where
    by_meaning : (m : Meaning) → Means bytes m → ⊥
    by_meaning (rules text) h = p text h.0
    by_meaning (tree piece) h = q piece h
    by_meaning begin h = s h
    by_meaning (session n l w) h = t (numbered n h.json) h.bytes_are
    by_meaning (action n w) h = u (numbered n h.json) h.bytes_are
    by_meaning (call made text) h = none (call made text) h
call_read bytes (Err NoMemory) p q s t u none = tt

-- ---- no tokens

pub no_tokens : (tokens : Tokens) (wanted : Wanted) (event : Event) → ComesTo tokens wanted event → ((who : Identity) → event ≡ events.SignIn who → ⊥) → ComesTo [] wanted event
no_tokens tokens (Step e) event comes never = comes
no_tokens tokens (SignIn secret) event comes never = absurd (never comes.0 comes.2)
no_tokens tokens (Deploy text) event comes never = comes

-- ---- faults

pub faulty : {X Y : Type 0} (see : X → Y) (IsSo : Y → Type 0) (Bad : Type 0) (fault : EntryFault) → (fault ≡ NoMemory) ⊎ Bad → (Bad → (y : Y) → IsSo y → ⊥) → Reads {X = X} see IsSo (Err fault)
faulty see IsSo Bad NotAnEntry (inl e) none = cc
faulty see IsSo Bad NotAnEntry (inr bad) none = none bad
faulty see IsSo Bad NoMemory told none = tt

pub call_fault : (bytes : List ℕ) (now number : ℕ) (rest told : List ℕ) (fault : EntryFault) → now < 2 ^ 64 → number < 2 ^ 64 → bytes ≡ numbered now rest → rest ≡ numbered number told → Reads (λ (e : Told). e) (λ e. Tells (record { now = now; session = number }) told e.0 e.1) (Err fault) → Reads meaning_of (MeansCall bytes) (Err fault)
call_fault bytes now number rest told NotAnEntry fits small front next none = bad_call bytes now number rest told fits small front next none
call_fault bytes now number rest told NoMemory fits small front next none = tt

pub unlawful_rules : (text bytes : List ℕ) (fault : RulesFault) (r : EntryFault) → bytes ≡ text → Refuses bytes fault → (r ≡ NotAnEntry → fault ≡ rules_faults.NoMemory → ⊥) → Reads (λ (e : Told). e) (IsWanted (Deploy text)) (Err r)
unlawful_rules text bytes fault NotAnEntry same refused apart = λ e is. apart refl (never_both bytes is.0.0 fault (subst (λ (t : List ℕ). States t is.0.0) (sym same) is.0.1) refused)
unlawful_rules text bytes fault NoMemory same refused apart = tt
