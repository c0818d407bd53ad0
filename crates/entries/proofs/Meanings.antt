-- A text means at most one thing: its first byte says of what kind, and its number, its JSON and its message the rest.
use Rattle.std.proofs.Common.{◌≡◌, ℕ, ◌<◌, ◌≤◌, ◌^◌, Bool, cond, List, [], ◌++◌, get_or, Option, Some, None, option_and_then, Result, Ok, inl, inr, refl, sym, ap, subst, ◌∙◌, arith}
use Rattle.std.specs.Prelude.{codes, ◌==◌}
use Rattle.std.specs.Int.{IsInRange}
use Rattle.std.proofs.lemmas.Bool.Decides.{nat_tests}
use Rattle.std.proofs.lemmas.List.{append_cancel_left}
use Rattle.serde_json.specs.Read.{read}
use Rattle.json_lines.specs.declared.fault.MessageFault.{MessageFault}
use Rattle.tokens.specs.Tokens.{json_of, identity_named}
use Rattle.evaluator.specs.Identity.{Identity}
use Rattle.evaluator.specs.declared.env.TheConstants.{MAX_MOMENT}
use Rattle.rules_reader.specs.Book.{Book}
use Rattle.rules_reader.proofs.Decided.{states_one}
use Rattle.tree_model.specs.Write.{Write}
use Rattle.rtdb_model.specs.declared.event.Event.{Event}
use Rattle.rtdb_model.specs.declared.event.Event.TheVariants as events
use Rattle.rtdb_model.specs.Step.{Call}
use Rattle.requests.specs.declared.message.Stamp.{Stamp}
use Rattle.requests.specs.declared.message.Request.{Request}
use Rattle.requests.specs.declared.message.Wanted.{Wanted}
use Rattle.requests.specs.declared.message.Wanted.TheVariants.{Step, SignIn, Deploy}
use Rattle.requests.specs.Ask.{ComesTo}
use Rattle.entries.specs.Identity.{identity_in}
use Rattle.entries.specs.Writes.{writes_in}
use Rattle.entries.specs.Entry.{Meaning, rules, tree, begin, session, action, call, numbered, session_in, deployed_text, event_named, SignsInBy, IsSent, Tells, IsSession, IsAction, IsCall, Means}
use Rattle.entries.proofs.Fronts.{numbered_one, first_digit}
use Rattle.entries.proofs.Letters.{named_is_none, signin_is_none, signin_names_none, asks_none}

-- ---- what is told of a call

pub same_json : {X : Type 0} (f : List ℕ → Option X) (a b : List ℕ) (x y : X) → f a ≡ Some x → f b ≡ Some y → a ≡ b → x ≡ y
same_json f a b x y first second same = by_some (sym first ∙ ap f same ∙ second)
  where
    by_some : Some x ≡ Some y → x ≡ y
    by_some e = cc

named_signs_none : (told : List ℕ) (e f : Event) → event_named told ≡ Some e → SignsInBy told f → ⊥
named_signs_none told e f is signs = by_none (sym is ∙ ap event_named signs.told_is ∙ signin_names_none signs.json)
  where
    by_none : Some e ≡ None → ⊥
    by_none e = cc

pub signin_sends_none : (stamp : Stamp) (told json : List ℕ) (f : Event) (t : Option (List ℕ)) → told ≡ codes "signin " ++ json → IsSent stamp told f t → ⊥
signin_sends_none stamp told json f t front sent = asks_none stamp told (ap read front ∙ signin_is_none json) sent.request sent.asked

signs_sends_none : (stamp : Stamp) (told : List ℕ) (e f : Event) (t : Option (List ℕ)) → SignsInBy told e → IsSent stamp told f t → ⊥
signs_sends_none stamp told e f t signs sent = signin_sends_none stamp told signs.json f t signs.told_is sent

named_sends_none : (stamp : Stamp) (told : List ℕ) (e f : Event) (t : Option (List ℕ)) → event_named told ≡ Some e → IsSent stamp told f t → ⊥
named_sends_none stamp told e f t is sent = asks_none stamp told (named_is_none told e is) sent.request sent.asked

signs_one : (told : List ℕ) (e f : Event) → SignsInBy told e → SignsInBy told f → e ≡ f
signs_one told e f a b =
    let json : a.json ≡ b.json = append_cancel_left (codes "signin ") a.json b.json (sym a.told_is ∙ b.told_is) in
    let who : a.who ≡ b.who = same_json (λ text. option_and_then identity_in (json_of text)) a.json b.json a.who b.who a.is_who b.is_who json in
    a.event_is ∙ ap (λ (w : Identity). events.SignIn w) who ∙ sym b.event_is

pub no_secret : (secret : List ℕ) (who : Identity) → identity_named [] secret ≡ Some who → ⊥
unfolding identity_named
no_secret secret who is = cc

pub comes_one : (wanted : Wanted) (e f : Event) → ComesTo [] wanted e → ComesTo [] wanted f → e ≡ f
comes_one (Step event) e f a b = a ∙ sym b
comes_one (SignIn secret) e f a b = absurd (no_secret secret a.0 a.1)
comes_one (Deploy text) e f a b = a.3 ∙ ap (λ (book : Book). events.Deploy book) (states_one text a.0 b.0 a.1 b.1) ∙ sym b.3

pub same_request : (said : Result Request MessageFault) (r q : Request) → said ≡ Ok r → said ≡ Ok q → r ≡ q
same_request said r q first second = cc

sent_one : (stamp : Stamp) (told : List ℕ) (e f : Event) (s t : Option (List ℕ)) → IsSent stamp told e s → IsSent stamp told f t → (e ≡ f) × (s ≡ t)
sent_one stamp told e f s t a b =
    let request : a.request ≡ b.request = same_request _ a.request b.request a.asked b.asked in
    let wanted : a.request.wanted ≡ b.request.wanted = ap (λ (r : Request). r.wanted) request in
    (comes_one b.request.wanted e f (subst (λ (w : Wanted). ComesTo [] w e) wanted a.comes) b.comes, a.text_is ∙ ap deployed_text wanted ∙ sym b.text_is)

tells_one : (stamp : Stamp) (told : List ℕ) (e f : Event) (s t : Option (List ℕ)) → Tells stamp told e s → Tells stamp told f t → (e ≡ f) × (s ≡ t)
tells_one stamp told e f s t (inl a) (inl b) = (by_some (sym a.0 ∙ b.0), a.1 ∙ sym b.1)
  where
    by_some : Some e ≡ Some f → e ≡ f
    by_some p = cc
tells_one stamp told e f s t (inl a) (inr (inl b)) = absurd (named_signs_none told e f a.0 b.0)
tells_one stamp told e f s t (inl a) (inr (inr b)) = absurd (named_sends_none stamp told e f t a.0 b)
tells_one stamp told e f s t (inr (inl a)) (inl b) = absurd (named_signs_none told f e b.0 a.0)
tells_one stamp told e f s t (inr (inl a)) (inr (inl b)) = (signs_one told e f a.0 b.0, a.1 ∙ sym b.1)
tells_one stamp told e f s t (inr (inl a)) (inr (inr b)) = absurd (signs_sends_none stamp told e f t a.0 b)
tells_one stamp told e f s t (inr (inr a)) (inl b) = absurd (named_sends_none stamp told f e s b.0 a)
tells_one stamp told e f s t (inr (inr a)) (inr (inl b)) = absurd (signs_sends_none stamp told f e s b.0 a)
tells_one stamp told e f s t (inr (inr a)) (inr (inr b)) = sent_one stamp told e f s t a b

-- ---- kinds

-- the kind of what is meant
abbrev pub kind : Meaning → ℕ
kind (rules text) = 1
kind (tree piece) = 2
kind begin = 3
kind (session number leaving who) = 4
kind (action number writes) = 5
kind (call made text) = 6

-- the kind that a first byte says
abbrev pub kind_by : ℕ → ℕ
kind_by x = cond (x == 114) 1 (cond (x == 116) 2 (cond (x == 98) 3 (cond (x == 115) 4 (cond (x == 97) 5 6))))

kind_by_digit : (x : ℕ) → IsInRange 48 57 x → kind_by x ≡ 6
kind_by_digit x digit = grind (arith, nat_tests)

pub moment_fits : (now : ℕ) → now ≤ MAX_MOMENT → now < 2 ^ 64
moment_fits now within = omega arith

pub kinds : (bytes : List ℕ) (m : Meaning) → Means bytes m → kind_by (get_or bytes 0 0) ≡ kind m
kinds bytes (rules text) is = ap (λ (bs : List ℕ). kind_by (get_or bs 0 0)) is.0
kinds bytes (tree piece) is = ap (λ (bs : List ℕ). kind_by (get_or bs 0 0)) is
kinds bytes begin is = ap (λ (bs : List ℕ). kind_by (get_or bs 0 0)) is
kinds bytes (session number leaving who) is = ap (λ (bs : List ℕ). kind_by (get_or bs 0 0)) is.bytes_are
kinds bytes (action number writes) is = ap (λ (bs : List ℕ). kind_by (get_or bs 0 0)) is.bytes_are
kinds bytes (call made text) is = ap (λ (bs : List ℕ). kind_by (get_or bs 0 0)) is.bytes_are ∙ kind_by_digit _ (first_digit made.now _ (moment_fits made.now is.moment))

-- ---- at most one meaning

session_one : (bytes : List ℕ) (m n : ℕ) (k l : Bool) (v w : Option Identity) → IsSession bytes m k v → IsSession bytes n l w → session m k v ≡ session n l w
session_one bytes m n k l v w a b =
    let same = numbered_one m n a.json b.json a.fits b.fits (append_cancel_left (codes "session ") (numbered m a.json) (numbered n b.json) (sym a.bytes_are ∙ b.bytes_are)) in
    let said : (k, v) ≡ (l, w) = same_json (λ text. option_and_then session_in (json_of text)) a.json b.json (k, v) (l, w) a.is_session b.is_session same.1 in
    rw (same.0, ap (λ (p : Bool × Option Identity). p.0) said, ap (λ (p : Bool × Option Identity). p.1) said) refl

action_one : (bytes : List ℕ) (m n : ℕ) (v w : List Write) → IsAction bytes m v → IsAction bytes n w → action m v ≡ action n w
action_one bytes m n v w a b =
    let same = numbered_one m n a.json b.json a.fits b.fits (append_cancel_left (codes "action ") (numbered m a.json) (numbered n b.json) (sym a.bytes_are ∙ b.bytes_are)) in
    let said : v ≡ w = same_json (λ text. option_and_then writes_in (json_of text)) a.json b.json v w a.are_writes b.are_writes same.1 in
    rw (same.0, said) refl

call_one : (bytes : List ℕ) (c d : Call) (s t : Option (List ℕ)) → IsCall bytes c s → IsCall bytes d t → call c s ≡ call d t
call_one bytes c d s t a b =
    let outer = numbered_one c.now d.now (numbered c.session a.told) (numbered d.session b.told) (moment_fits c.now a.moment) (moment_fits d.now b.moment) (sym a.bytes_are ∙ b.bytes_are) in
    let inner = numbered_one c.session d.session a.told b.told a.fits b.fits outer.1 in
    let moved : Tells (record { now = d.now; session = d.session }) b.told c.event s =
    subst (λ (now : ℕ). Tells (record { now = now; session = d.session }) b.told c.event s) outer.0
    (subst (λ (number : ℕ). Tells (record { now = c.now; session = number }) b.told c.event s) inner.0
    (subst (λ (told : List ℕ). Tells (record { now = c.now; session = c.session }) told c.event s) inner.1 a.tells)) in
    let told = tells_one (record { now = d.now; session = d.session }) b.told c.event d.event s t moved b.tells in
    by_parts outer.0 inner.0 told.0 told.1
  where
    by_parts : c.now ≡ d.now → c.session ≡ d.session → c.event ≡ d.event → s ≡ t → call c s ≡ call d t
    by_parts p q r e = rw (p, q, r, e) refl

one_meaning : (bytes : List ℕ) (a b : Meaning) → Means bytes a → Means bytes b → kind a ≡ kind b → a ≡ b
one_meaning bytes (rules x) (rules y) a b same = ap (λ (t : List ℕ). rules t) (append_cancel_left (codes "rules ") x y (sym a.0 ∙ b.0))
one_meaning bytes (rules x) (tree y) a b same = absurd (omega arith)
one_meaning bytes (rules x) begin a b same = absurd (omega arith)
one_meaning bytes (rules x) (session n l w) a b same = absurd (omega arith)
one_meaning bytes (rules x) (action n w) a b same = absurd (omega arith)
one_meaning bytes (rules x) (call d t) a b same = absurd (omega arith)
one_meaning bytes (tree x) (rules y) a b same = absurd (omega arith)
one_meaning bytes (tree x) (tree y) a b same = ap (λ (t : List ℕ). tree t) (append_cancel_left (codes "tree ") x y (sym a ∙ b))
one_meaning bytes (tree x) begin a b same = absurd (omega arith)
one_meaning bytes (tree x) (session n l w) a b same = absurd (omega arith)
one_meaning bytes (tree x) (action n w) a b same = absurd (omega arith)
one_meaning bytes (tree x) (call d t) a b same = absurd (omega arith)
one_meaning bytes begin (rules y) a b same = absurd (omega arith)
one_meaning bytes begin (tree y) a b same = absurd (omega arith)
one_meaning bytes begin begin a b same = refl
one_meaning bytes begin (session n l w) a b same = absurd (omega arith)
one_meaning bytes begin (action n w) a b same = absurd (omega arith)
one_meaning bytes begin (call d t) a b same = absurd (omega arith)
one_meaning bytes (session m k v) (rules y) a b same = absurd (omega arith)
one_meaning bytes (session m k v) (tree y) a b same = absurd (omega arith)
one_meaning bytes (session m k v) begin a b same = absurd (omega arith)
one_meaning bytes (session m k v) (session n l w) a b same = session_one bytes m n k l v w a b
one_meaning bytes (session m k v) (action n w) a b same = absurd (omega arith)
one_meaning bytes (session m k v) (call d t) a b same = absurd (omega arith)
one_meaning bytes (action m v) (rules y) a b same = absurd (omega arith)
one_meaning bytes (action m v) (tree y) a b same = absurd (omega arith)
one_meaning bytes (action m v) begin a b same = absurd (omega arith)
one_meaning bytes (action m v) (session n l w) a b same = absurd (omega arith)
one_meaning bytes (action m v) (action n w) a b same = action_one bytes m n v w a b
one_meaning bytes (action m v) (call d t) a b same = absurd (omega arith)
one_meaning bytes (call c s) (rules y) a b same = absurd (omega arith)
one_meaning bytes (call c s) (tree y) a b same = absurd (omega arith)
one_meaning bytes (call c s) begin a b same = absurd (omega arith)
one_meaning bytes (call c s) (session n l w) a b same = absurd (omega arith)
one_meaning bytes (call c s) (action n w) a b same = absurd (omega arith)
one_meaning bytes (call c s) (call d t) a b same = call_one bytes c d s t a b

pub means_one : (bytes : List ℕ) (a b : Meaning) → Means bytes a → Means bytes b → a ≡ b
means_one bytes a b first second = one_meaning bytes a b first second (sym (kinds bytes a first) ∙ kinds bytes b second)
