-- What a message asks, or its first fault.
use Rattle.std.specs.Prelude.{◌≡◌, ℕ, ◌+◌, ◌⊎◌, List, [], ◌∷◌, ◌++◌, length, nat_le, if◌then◌else◌, codes, Option, Some, None, option_map, option_and_then, Result, Ok, Err, ⊤, ◌≤◌}
use Rattle.std.specs.List.{list_all}
use Rattle.std.specs.Option.{option_map_or}
use Rattle.std.specs.Str.{is_utf8, bytes_eq}
use Rattle.serde_json.specs.Data.{Data, Members, no_members, member}
use Rattle.serde_json.specs.Find.{get, as_number, as_u64, as_object}
use Rattle.serde_json.specs.Read.{read}
use Rattle.tree_model.specs.declared.limits.TheConstants.{MAX_DEPTH}
use Rattle.tree_model.specs.Key.{is_key}
use Rattle.tree_model.specs.Path.{Path}
use Rattle.tree_model.specs.PathMap.{depth}
use Rattle.tree_model.specs.Tree.{Tree, null as no_tree}
use Rattle.tree_model.specs.Write.{Write}
use Rattle.json_tree.specs.Json.{is_lawful, of_json}
use Rattle.path_capture.specs.Path.{segments}
use Rattle.listeners.specs.Query.{Query, query_of}
use Rattle.listeners.specs.Table.{is_id}
use Rattle.evaluator.specs.declared.env.TheConstants.{MAX_MOMENT}
use Rattle.json_lines.specs.declared.limits.TheConstants.{MAX_MESSAGE_BYTES}
use Rattle.tokens.specs.Tokens.{has_only, text_at, Tokens, tokens_of}
use Rattle.rtdb_model.specs.declared.event.Event.TheVariants.{Open, Close, SignOut, Get, Set, Remove, Update, Listen, Unlisten, Poll, Tick, OnSet, OnRemove, OnUpdate, OnCancel, Leave, RunNext}
use Rattle.requests.specs.declared.message.Form.{Form}
use Rattle.requests.specs.declared.message.Form.TheVariants.{Script, Socket}
use Rattle.requests.specs.declared.message.Stamp.{Stamp}
use Rattle.requests.specs.declared.message.Verb.{Verb}
use Rattle.requests.specs.declared.message.Verb.TheVariants as verbs
use Rattle.requests.specs.declared.message.Wanted.{Wanted}
use Rattle.requests.specs.declared.message.Wanted.TheVariants.{Step, SignIn, Deploy}
use Rattle.requests.specs.declared.message.Request.{Request}
use Rattle.json_lines.specs.Lines.{or_fault, unless_fault, value_of, path_of, draft_of_value, write_at, writes_below}
use Rattle.json_lines.specs.declared.fault.MessageFault.{MessageFault}
use Rattle.json_lines.specs.declared.fault.MessageFault.TheVariants.{TooLarge, BadJson, BadRequest, BadPath, BadValue, TooDeep, BadQuery, NoMemory}

-- a whole number from 0 to 2^53 - 1
abbrev pub whole_at : List ℕ → Data → Option ℕ
whole_at name d = option_and_then (λ n. if nat_le n MAX_MOMENT then Some n else None) (option_and_then as_u64 (option_and_then as_number (get name d)))

-- ---- requests. (This project's profile.)

-- the verb of a name that every form has
abbrev pub verb_named : List ℕ → Option Verb
verb_named name =
    if bytes_eq name (codes "signin") then Some verbs.SignIn
    else if bytes_eq name (codes "signout") then Some verbs.SignOut
    else if bytes_eq name (codes "get") then Some verbs.Get
    else if bytes_eq name (codes "set") then Some verbs.Set
    else if bytes_eq name (codes "remove") then Some verbs.Remove
    else if bytes_eq name (codes "update") then Some verbs.Update
    else if bytes_eq name (codes "listen") then Some verbs.Listen
    else if bytes_eq name (codes "unlisten") then Some verbs.Unlisten
    else if bytes_eq name (codes "poll") then Some verbs.Poll
    else if bytes_eq name (codes "deploy") then Some verbs.Deploy
    else if bytes_eq name (codes "onset") then Some verbs.OnSet
    else if bytes_eq name (codes "onremove") then Some verbs.OnRemove
    else if bytes_eq name (codes "onupdate") then Some verbs.OnUpdate
    else if bytes_eq name (codes "oncancel") then Some verbs.OnCancel
    else None

-- the verb of a name; a socket opens and closes no session, lets no time pass, and leaves by its end alone
abbrev pub verb_of : Form → List ℕ → Option Verb
verb_of Script name =
    if bytes_eq name (codes "open") then Some verbs.Open
    else if bytes_eq name (codes "close") then Some verbs.Close
    else if bytes_eq name (codes "tick") then Some verbs.Tick
    else if bytes_eq name (codes "leave") then Some verbs.Leave
    else if bytes_eq name (codes "runnext") then Some verbs.RunNext
    else verb_named name
verb_of (Socket stamp) name = verb_named name

-- what a form has in each request
abbrev pub form_members : Form → List (List ℕ)
form_members Script = codes "do" ∷ codes "now" ∷ codes "s" ∷ []
form_members (Socket stamp) = codes "do" ∷ []

-- what a verb has beside that
abbrev pub verb_members : Verb → List (List ℕ)
verb_members verbs.Open = []
verb_members verbs.Close = []
verb_members verbs.SignIn = codes "token" ∷ []
verb_members verbs.SignOut = []
verb_members verbs.Get = codes "path" ∷ codes "query" ∷ []
verb_members verbs.Set = codes "path" ∷ codes "value" ∷ []
verb_members verbs.Remove = codes "path" ∷ []
verb_members verbs.Update = codes "path" ∷ codes "values" ∷ []
verb_members verbs.Listen = codes "id" ∷ codes "path" ∷ codes "query" ∷ []
verb_members verbs.Unlisten = codes "id" ∷ []
verb_members verbs.Poll = []
verb_members verbs.Tick = []
verb_members verbs.Deploy = codes "rules" ∷ []
verb_members verbs.OnSet = codes "path" ∷ codes "value" ∷ []
verb_members verbs.OnRemove = codes "path" ∷ []
verb_members verbs.OnUpdate = codes "path" ∷ codes "values" ∷ []
verb_members verbs.OnCancel = codes "path" ∷ []
verb_members verbs.Leave = []
verb_members verbs.RunNext = []

-- the moment and the session: a line of a script says both, and of a socket both are known
abbrev pub stamp_of : Form → Data → Option Stamp
stamp_of Script d = option_and_then (λ now. option_and_then (λ session. Some (record { now = now; session = session })) (whole_at (codes "s") d)) (whole_at (codes "now") d)
stamp_of (Socket stamp) d = Some stamp

-- the moment that is given with the form, if one is, is at most 2^53 - 1
abbrev pub IsWithin : Form → Type 0
IsWithin Script = ⊤
IsWithin (Socket stamp) = stamp.now ≤ MAX_MOMENT

-- the path of the member `path`
abbrev pub path_in : Data → Result Path MessageFault
path_in d = unless_fault (or_fault BadRequest (text_at (codes "path") d)) (λ text. path_of text)

-- the member `query`, which may be left out and else is an object
abbrev pub query_at : Data → Option (Option Data)
query_at d = option_map_or (λ said. option_map (λ members. Some said) (as_object said)) (get (codes "query") d) (Some None)

-- the query that it is, if there is one
abbrev pub query_said : Option Data → Result (Option Query) MessageFault
query_said None = Ok None
query_said (Some said) = or_fault BadQuery (option_map (λ query. Some query) (query_of said))

-- the name of a listener, which the member `id` is: a text of 1 to 64 bytes
abbrev pub id_at : Data → Option (List ℕ)
id_at d = option_and_then (λ text. if is_id text then Some text else None) (text_at (codes "id") d)

-- the write of the members `path` and `value`: first the members, then the path, the value, and both together
abbrev pub write_in : Data → Result Write MessageFault
write_in d =
    unless_fault (or_fault BadRequest (text_at (codes "path") d)) (λ text.
    unless_fault (or_fault BadRequest (get (codes "value") d)) (λ value.
    unless_fault (path_of text) (λ path.
    unless_fault (draft_of_value value) (λ draft. write_at path draft))))

-- the writes of the members `path` and `values`: first the members, then the path, and what each member of `values` says in turn
abbrev pub writes_in : Data → Result (List Write) MessageFault
writes_in d =
    unless_fault (or_fault BadRequest (text_at (codes "path") d)) (λ text.
    unless_fault (or_fault BadRequest (option_and_then as_object (get (codes "values") d))) (λ members.
    unless_fault (path_of text) (λ path. writes_below path members)))

-- what is wanted by a verb: of a read first the members, then the path, and the query
abbrev pub wanted_by : Verb → Data → Result Wanted MessageFault
wanted_by verbs.Open d = Ok (Step Open)
wanted_by verbs.Close d = Ok (Step Close)
wanted_by verbs.SignIn d = unless_fault (or_fault BadRequest (text_at (codes "token") d)) (λ secret. Ok (SignIn secret))
wanted_by verbs.SignOut d = Ok (Step SignOut)
wanted_by verbs.Get d =
    unless_fault (or_fault BadRequest (text_at (codes "path") d)) (λ text.
    unless_fault (or_fault BadRequest (query_at d)) (λ said.
    unless_fault (path_of text) (λ path.
    unless_fault (query_said said) (λ query. Ok (Step (Get path query))))))
wanted_by verbs.Set d = unless_fault (write_in d) (λ write. Ok (Step (Set write)))
wanted_by verbs.Remove d = unless_fault (path_in d) (λ path. Ok (Step (Remove path)))
wanted_by verbs.Update d = unless_fault (writes_in d) (λ writes. Ok (Step (Update writes)))
wanted_by verbs.Listen d =
    unless_fault (or_fault BadRequest (id_at d)) (λ id.
    unless_fault (or_fault BadRequest (text_at (codes "path") d)) (λ text.
    unless_fault (or_fault BadRequest (query_at d)) (λ said.
    unless_fault (path_of text) (λ path.
    unless_fault (query_said said) (λ query. Ok (Step (Listen id path query)))))))
wanted_by verbs.Unlisten d = unless_fault (or_fault BadRequest (id_at d)) (λ id. Ok (Step (Unlisten id)))
wanted_by verbs.Poll d = Ok (Step Poll)
wanted_by verbs.Tick d = Ok (Step Tick)
wanted_by verbs.Deploy d = unless_fault (or_fault BadRequest (text_at (codes "rules") d)) (λ rules. Ok (Deploy rules))
wanted_by verbs.OnSet d = unless_fault (write_in d) (λ write. Ok (Step (OnSet write)))
wanted_by verbs.OnRemove d = unless_fault (path_in d) (λ path. Ok (Step (OnRemove path)))
wanted_by verbs.OnUpdate d = unless_fault (writes_in d) (λ writes. Ok (Step (OnUpdate writes)))
wanted_by verbs.OnCancel d = unless_fault (path_in d) (λ path. Ok (Step (OnCancel path)))
wanted_by verbs.Leave d = Ok (Step Leave)
wanted_by verbs.RunNext d = Ok (Step RunNext)

-- the verb that `do` names
abbrev pub verb_in : Form → Data → Option Verb
verb_in form d = option_and_then (verb_of form) (text_at (codes "do") d)

-- the request that a value is in this form, or its fault
abbrev pub request_of : Form → Data → Result Request MessageFault
request_of form d =
    unless_fault (or_fault BadRequest (verb_in form d)) (λ verb.
    if has_only (form_members form ++ verb_members verb) d
    then unless_fault (or_fault BadRequest (stamp_of form d)) (λ stamp.
    unless_fault (wanted_by verb d) (λ wanted. Ok (record { stamp = stamp; wanted = wanted })))
    else Err BadRequest)

-- what a message asks, or its first fault
unfoldable pub asks : Form → List ℕ → Result Request MessageFault
asks form bytes = unless_fault (value_of bytes) (request_of form)
