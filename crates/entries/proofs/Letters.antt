-- No word of a deed begins a JSON text.
use Rattle.std.proofs.Common.{◌≡◌, ℕ, Bool, true, false, cond, List, ◌∷◌, ◌++◌, length, nat_le, Option, Some, None, Result, Ok, Err, refl, ap, ◌∙◌}
use Rattle.std.specs.Prelude.{codes}
use Rattle.std.specs.Str.{bytes_eq, is_utf8}
use Rattle.std.proofs.lemmas.Slice.Eq.{bytes_eq-Decides}
use Rattle.json.specs.Lex.{lex, punctuate}
use Rattle.json.specs.Json.{value}
use Rattle.json.specs.Word.{word, after_number}
use Rattle.serde_json.specs.Data.{Data}
use Rattle.serde_json.specs.Read.{read}
use Rattle.rtdb_model.specs.declared.event.Event.{Event}
use Rattle.rtdb_model.specs.declared.event.Event.TheVariants as events
use Rattle.requests.specs.declared.message.Form.TheVariants.{Socket}
use Rattle.requests.specs.declared.message.Stamp.{Stamp}
use Rattle.requests.specs.declared.message.Request.{Request}
use Rattle.requests.specs.Message.{asks, request_of}
use Rattle.json_lines.specs.declared.fault.MessageFault.{MessageFault}
use Rattle.json_lines.specs.declared.fault.MessageFault.TheVariants.{BadJson, TooLarge}
use Rattle.json_lines.specs.declared.limits.TheConstants.{MAX_MESSAGE_BYTES}
use Rattle.json_lines.specs.Lines.{or_fault, unless_fault, value_of}
use Rattle.entries.specs.Entry.{event_named}

o_begins_none : (xs : List ℕ) → read (111 ∷ xs) ≡ None
unfolding lex punctuate value word after_number
o_begins_none xs = refl

c_begins_none : (xs : List ℕ) → read (99 ∷ xs) ≡ None
unfolding lex punctuate value word after_number
c_begins_none xs = refl

l_begins_none : (xs : List ℕ) → read (108 ∷ xs) ≡ None
unfolding lex punctuate value word after_number
l_begins_none xs = refl

r_begins_none : (xs : List ℕ) → read (114 ∷ xs) ≡ None
unfolding lex punctuate value word after_number
r_begins_none xs = refl

s_begins_none : (xs : List ℕ) → read (115 ∷ xs) ≡ None
unfolding lex punctuate value word after_number
s_begins_none xs = refl

word_is_none : (word : List ℕ) → read word ≡ None → (told : List ℕ) → bytes_eq told word ≡ true → read told ≡ None
word_is_none word none told same = ap read ((bytes_eq-Decides told word).0 same) ∙ none

-- the word of an event is no JSON
pub named_is_none : (told : List ℕ) (event : Event) → event_named told ≡ Some event → read told ≡ None
named_is_none told event is = by_open (bytes_eq told (codes "open")) (bytes_eq told (codes "close")) (bytes_eq told (codes "leave")) (bytes_eq told (codes "runnext")) refl refl refl refl is
  where
    by_open : (a b c d : Bool) → bytes_eq told (codes "open") ≡ a → bytes_eq told (codes "close") ≡ b → bytes_eq told (codes "leave") ≡ c → bytes_eq told (codes "runnext") ≡ d → cond a (Some events.Open) (cond b (Some events.Close) (cond c (Some events.Leave) (cond d (Some events.RunNext) None))) ≡ Some event → read told ≡ None
    by_open true b c d p q r s e = word_is_none (codes "open") (o_begins_none _) told p
    by_open false true c d p q r s e = word_is_none (codes "close") (c_begins_none _) told q
    by_open false false true d p q r s e = word_is_none (codes "leave") (l_begins_none _) told r
    by_open false false false true p q r s e = word_is_none (codes "runnext") (r_begins_none _) told s
    by_open false false false false p q r s e = cc

pub signin_is_none : (json : List ℕ) → read (codes "signin " ++ json) ≡ None
signin_is_none json = s_begins_none _

pub signin_names_none : (json : List ℕ) → event_named (codes "signin " ++ json) ≡ None
signin_names_none json = refl

no_value : (told : List ℕ) → read told ≡ None → (d : Data) → value_of told ≡ Ok d → ⊥
unfolding value_of
no_value told none d is = by_tests (nat_le (length told) MAX_MESSAGE_BYTES) (is_utf8 told) (read told) none is
  where
    by_tests : (fits text : Bool) (o : Option Data) → o ≡ None → cond fits (cond text (or_fault BadJson o) (Err BadJson)) (Err TooLarge) ≡ Ok d → ⊥
    by_tests false text o nil e = cc
    by_tests true false o nil e = cc
    by_tests true true None nil e = cc
    by_tests true true (Some x) nil e = cc

-- what is no JSON asks nothing
pub asks_none : (stamp : Stamp) (told : List ℕ) → read told ≡ None → (request : Request) → asks (Socket stamp) told ≡ Ok request → ⊥
unfolding asks
asks_none stamp told none request is = by_value (value_of told) refl is
  where
    by_value : (r : Result Data MessageFault) → value_of told ≡ r → unless_fault r (request_of (Socket stamp)) ≡ Ok request → ⊥
    by_value (Ok d) was e = no_value told none d was
    by_value (Err fault) was e = cc
