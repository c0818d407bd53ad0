-- What an entry of the journal means. (This project's profile.)
use Rattle.std.specs.Prelude.{◌≡◌, ℕ, ◌≤◌, ◌<◌, ◌^◌, ◌⊎◌, List, [], ◌∷◌, ◌++◌, Bool, true, if◌then◌else◌, codes, decimal, Option, Some, None, option_map, option_and_then, Ok}
use Rattle.std.specs.Str.{bytes_eq, is_utf8}
use Rattle.serde_json.specs.Data.{Data}
use Rattle.serde_json.specs.Find.{get, as_bool}
use Rattle.tree_model.specs.Write.{Write}
use Rattle.tokens.specs.Tokens.{json_of}
use Rattle.evaluator.specs.Identity.{Identity}
use Rattle.evaluator.specs.declared.env.TheConstants.{MAX_MOMENT}
use Rattle.rtdb_model.specs.declared.event.Event.{Event}
use Rattle.rtdb_model.specs.declared.event.Event.TheVariants.{Open, Close, Leave, RunNext, SignIn as SignsIn}
use Rattle.rtdb_model.specs.Step.{Call}
use Rattle.requests.specs.declared.message.Form.TheVariants.{Socket}
use Rattle.requests.specs.declared.message.Stamp.{Stamp}
use Rattle.requests.specs.declared.message.Request.{Request}
use Rattle.requests.specs.declared.message.Wanted.{Wanted}
use Rattle.requests.specs.declared.message.Wanted.TheVariants.{Step, SignIn, Deploy}
use Rattle.requests.specs.Message.{asks}
use Rattle.requests.specs.Ask.{ComesTo}
use Rattle.entries.specs.Identity.{identity_in, who_in}
use Rattle.entries.specs.Writes.{writes_in}
use Rattle.entries.specs.declared.entry.Deed.{Deed}
use Rattle.entries.specs.declared.entry.Deed.TheVariants as deeds
use Rattle.entries.specs.declared.entry.Entry.{Entry}
use Rattle.entries.specs.declared.entry.Entry.TheVariants as entries

-- what an entry means
pub data Meaning : Type 0 where
  -- this is the text of the rules file in force
  rules : List ℕ → Meaning
  -- these bytes go on with the JSON text of the tree
  tree : List ℕ → Meaning
  -- the tree is whole, and the database opens with it
  begin : Meaning
  -- this session is open, it is leaving or not, and this person is signed in on it, or nobody is
  session : ℕ → Bool → Option Identity → Meaning
  -- this session has these writes as one action more
  action : ℕ → List Write → Meaning
  -- this call was made, and if it deployed rules, this is the text of their file
  call : Call → Option (List ℕ) → Meaning

-- a number in decimal digits, a space, and the rest
abbrev pub numbered : ℕ → List ℕ → List ℕ
numbered n rest = decimal n ++ 32 ∷ rest

-- a session that is open, and of which JSON says whether it is leaving, and who is signed in on it
abbrev pub session_in : Data → Option (Bool × Option Identity)
session_in d = option_and_then (λ leaving. option_map (λ who. (leaving, who)) (option_and_then who_in (get (codes "who") d))) (option_and_then as_bool (get (codes "leaving") d))

-- the text of the rules file that a message wants to deploy
abbrev pub deployed_text : Wanted → Option (List ℕ)
deployed_text (Step event) = None
deployed_text (SignIn secret) = None
deployed_text (Deploy text) = Some text

-- the event of a word
abbrev pub event_named : List ℕ → Option Event
event_named word =
    if bytes_eq word (codes "open") then Some Open
    else if bytes_eq word (codes "close") then Some Close
    else if bytes_eq word (codes "leave") then Some Leave
    else if bytes_eq word (codes "runnext") then Some RunNext
    else None

-- the text signs this identity in
pub record SignsInBy (told : List ℕ) (event : Event) : Type 0 where
  pub json : List ℕ
  pub told_is : told ≡ codes "signin " ++ json
  pub who : Identity
  pub is_who : option_and_then identity_in (json_of json) ≡ Some who
  pub event_is : event ≡ SignsIn who

-- the text is a message of a socket that asks for this event where nobody has a token, and if it deploys rules, this is the text of their file
pub record IsSent (stamp : Stamp) (told : List ℕ) (event : Event) (text : Option (List ℕ)) : Type 0 where
  pub request : Request
  pub asked : asks (Socket stamp) told ≡ Ok request
  pub comes : ComesTo [] request.wanted event
  pub text_is : text ≡ deployed_text request.wanted

-- the text tells of this event: it is its word, signs somebody in, or is a message
abbrev pub Tells : Stamp → List ℕ → Event → Option (List ℕ) → Type 0
Tells stamp told event text = ((event_named told ≡ Some event) × (text ≡ None)) ⊎ ((SignsInBy told event × (text ≡ None)) ⊎ IsSent stamp told event text)

-- the entry of a session that is open
pub record IsSession (bytes : List ℕ) (number : ℕ) (leaving : Bool) (who : Option Identity) : Type 0 where
  pub json : List ℕ
  pub bytes_are : bytes ≡ codes "session " ++ numbered number json
  pub fits : number < 2 ^ 64
  pub is_session : option_and_then session_in (json_of json) ≡ Some (leaving, who)

-- the entry of an action
pub record IsAction (bytes : List ℕ) (number : ℕ) (writes : List Write) : Type 0 where
  pub json : List ℕ
  pub bytes_are : bytes ≡ codes "action " ++ numbered number json
  pub fits : number < 2 ^ 64
  pub are_writes : option_and_then writes_in (json_of json) ≡ Some writes

-- the entry of a call
pub record IsCall (bytes : List ℕ) (made : Call) (text : Option (List ℕ)) : Type 0 where
  pub told : List ℕ
  pub bytes_are : bytes ≡ numbered made.now (numbered made.session told)
  pub moment : made.now ≤ MAX_MOMENT
  pub fits : made.session < 2 ^ 64
  pub tells : Tells (record { now = made.now; session = made.session }) told made.event text

-- what these bytes mean as an entry
abbrev pub Means : List ℕ → Meaning → Type 0
Means bytes (rules text) = (bytes ≡ codes "rules " ++ text) × (is_utf8 text ≡ true)
Means bytes (tree piece) = bytes ≡ codes "tree " ++ piece
Means bytes begin = bytes ≡ codes "begin"
Means bytes (session number leaving who) = IsSession bytes number leaving who
Means bytes (action number writes) = IsAction bytes number writes
Means bytes (call made text) = IsCall bytes made text

-- the event that a deed is
abbrev pub deed_event : Deed → Event
deed_event deeds.Open = Open
deed_event deeds.Close = Close
deed_event deeds.Leave = Leave
deed_event deeds.RunNext = RunNext
deed_event (deeds.SignIn who) = SignsIn who.now

-- what an entry that was read means
abbrev pub meaning_of : Entry → Meaning
meaning_of (entries.Rules text) = rules text.now
meaning_of (entries.Tree piece) = tree piece.now
meaning_of entries.Begin = begin
meaning_of (entries.Session number leaving who) = session number leaving who
meaning_of (entries.Action number writes) = action number writes
meaning_of (entries.Call now number event text) = call (record { now = now; session = number; event = event }) text
