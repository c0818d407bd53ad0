-- What a message wants as an event deploys nothing.
use Rattle.std.proofs.Common.{ℕ, ◌++◌, Bool, true, false, cond, List, Result, Ok, Err, subst, sym}
use Rattle.std.specs.Prelude.{codes, ⊤}
use Rattle.serde_json.specs.Data.{Data}
use Rattle.rtdb_model.specs.declared.event.Event.{Event}
use Rattle.rtdb_model.specs.Headline.{DeploysFile}
use Rattle.tokens.specs.Tokens.{Tokens, has_only, text_at}
use Rattle.requests.specs.declared.message.Form.{Form}
use Rattle.json_lines.specs.declared.fault.MessageFault.{MessageFault}
use Rattle.json_lines.specs.declared.fault.MessageFault.TheVariants.{BadRequest}
use Rattle.requests.specs.declared.message.Request.{Request}
use Rattle.requests.specs.declared.message.Verb.{Verb}
use Rattle.requests.specs.declared.message.Verb.TheVariants as verbs
use Rattle.requests.specs.declared.message.Wanted.{Wanted}
use Rattle.requests.specs.declared.message.Wanted.TheVariants.{Step, SignIn, Deploy}
use Rattle.requests.specs.declared.ask.Asked.{Asked}
use Rattle.json_lines.specs.Lines.{or_fault, unless_fault, value_of, path_of}
use Rattle.requests.specs.Message.{form_members, verb_members, stamp_of, query_at, query_said, id_at, path_in, write_in, writes_in, wanted_by, verb_in, request_of, asks}
use Rattle.requests.specs.Ask.{ComesTo, IsAsked}

-- an event that is wanted deploys rules files alone
abbrev IsPlain : Wanted → Type 0
IsPlain (Step event) = DeploysFile event
IsPlain (SignIn secret) = ⊤
IsPlain (Deploy text) = ⊤

abbrev Gives : {X : Type 0} → (X → Type 0) → Result X MessageFault → Type 0
Gives P (Ok x) = P x
Gives P (Err fault) = ⊤

in_turn : {X Y : Type 0} (P : Y → Type 0) (said : Result X MessageFault) (next : X → Result Y MessageFault) → ((x : X) → Gives P (next x)) → Gives P (unless_fault said next)
in_turn P (Ok x) next h = h x
in_turn P (Err fault) next h = tt

where_so : {X : Type 0} (P : X → Type 0) (b : Bool) (said : Result X MessageFault) (fault : MessageFault) → Gives P said → Gives P (cond b said (Err fault))
where_so P true said fault h = h
where_so P false said fault h = tt

wanted_plain : (verb : Verb) (d : Data) → Gives IsPlain (wanted_by verb d)
wanted_plain verbs.Open d = tt
wanted_plain verbs.Close d = tt
wanted_plain verbs.SignIn d = in_turn IsPlain (or_fault BadRequest (text_at (codes "token") d)) _ (λ secret. tt)
wanted_plain verbs.SignOut d = tt
wanted_plain verbs.Get d =
    in_turn IsPlain (or_fault BadRequest (text_at (codes "path") d)) _ (λ text.
    in_turn IsPlain (or_fault BadRequest (query_at d)) _ (λ said.
    in_turn IsPlain (path_of text) _ (λ path.
    in_turn IsPlain (query_said said) _ (λ query. tt))))
wanted_plain verbs.Set d = in_turn IsPlain (write_in d) _ (λ write. tt)
wanted_plain verbs.Remove d = in_turn IsPlain (path_in d) _ (λ path. tt)
wanted_plain verbs.Update d = in_turn IsPlain (writes_in d) _ (λ writes. tt)
wanted_plain verbs.Listen d =
    in_turn IsPlain (or_fault BadRequest (id_at d)) _ (λ id.
    in_turn IsPlain (or_fault BadRequest (text_at (codes "path") d)) _ (λ text.
    in_turn IsPlain (or_fault BadRequest (query_at d)) _ (λ said.
    in_turn IsPlain (path_of text) _ (λ path.
    in_turn IsPlain (query_said said) _ (λ query. tt)))))
wanted_plain verbs.Unlisten d = in_turn IsPlain (or_fault BadRequest (id_at d)) _ (λ id. tt)
wanted_plain verbs.Poll d = tt
wanted_plain verbs.Tick d = tt
wanted_plain verbs.Deploy d = in_turn IsPlain (or_fault BadRequest (text_at (codes "rules") d)) _ (λ rules. tt)
wanted_plain verbs.OnSet d = in_turn IsPlain (write_in d) _ (λ write. tt)
wanted_plain verbs.OnRemove d = in_turn IsPlain (path_in d) _ (λ path. tt)
wanted_plain verbs.OnUpdate d = in_turn IsPlain (writes_in d) _ (λ writes. tt)
wanted_plain verbs.OnCancel d = in_turn IsPlain (path_in d) _ (λ path. tt)
wanted_plain verbs.Leave d = tt
wanted_plain verbs.RunNext d = tt

kept : (f : Wanted → Request) → ((w : Wanted) → IsPlain w → IsPlain (f w).wanted) → (said : Result Wanted MessageFault) → Gives IsPlain said → Gives (λ (r : Request). IsPlain r.wanted) (unless_fault said (λ w. Ok (f w)))
kept f g (Ok w) h = g w h
kept f g (Err fault) h = tt

request_plain : (form : Form) (d : Data) → Gives (λ (r : Request). IsPlain r.wanted) (request_of form d)
request_plain form d =
    in_turn (λ (r : Request). IsPlain r.wanted) (or_fault BadRequest (verb_in form d)) _ (λ verb.
    where_so (λ (r : Request). IsPlain r.wanted) (has_only (form_members form ++ verb_members verb) d) _ BadRequest
    (in_turn (λ (r : Request). IsPlain r.wanted) (or_fault BadRequest (stamp_of form d)) _ (λ stamp.
    kept (λ w. record { stamp = stamp; wanted = w }) (λ w h. h) (wanted_by verb d) (wanted_plain verb d))))

asks_plain : (form : Form) (bytes : List ℕ) → Gives (λ (r : Request). IsPlain r.wanted) (asks form bytes)
unfolding asks
asks_plain form bytes = in_turn (λ (r : Request). IsPlain r.wanted) (value_of bytes) _ (request_plain form)

comes_to : (tokens : Tokens) (want : Wanted) (event : Event) → IsPlain want → ComesTo tokens want event → DeploysFile event
comes_to tokens (Step wanted) event plain c = subst (λ (e : Event). DeploysFile e) (sym c) plain
comes_to tokens (SignIn secret) event plain c = subst (λ (e : Event). DeploysFile e) (sym c.2) tt
comes_to tokens (Deploy text) event plain c = subst (λ (e : Event). DeploysFile e) (sym c.3) c.2

-- what is asked deploys rules files alone
pub asked_file : (tokens : Tokens) (form : Form) (bytes : List ℕ) (asked : Asked) → IsAsked tokens form bytes (Ok asked) → DeploysFile asked.event
asked_file tokens form bytes asked h =
    comes_to tokens h.0.wanted asked.event (subst (λ (said : Result Request MessageFault). Gives (λ (r : Request). IsPlain r.wanted) said) h.1 (asks_plain form bytes)) h.3
