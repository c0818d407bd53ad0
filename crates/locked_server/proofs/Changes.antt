-- What the entries of a history have changed, and how many of them.
use Rattle.std.proofs.Common.{◌≡◌, ℕ, ◌+◌, ◌≤◌, Bool, true, false, cond, ◌&&◌, List, [], ◌∷◌, ◌++◌, length, refl, ap, ap₂, sym, ◌∙◌, arith, append-nil, length-append}
use mathlib.Core.List.{IsPrefix}
use Rattle.rtdb_model.specs.declared.event.Event.{Event}
use Rattle.rtdb_model.specs.declared.reply.Reply.{Reply}
use Rattle.rtdb_model.specs.Step.{Call}
use Rattle.rtdb_laws.specs.Effects.{changes, is_effective}
use Rattle.locked_server.specs.declared.entry.Entry.{Entry}
use Rattle.locked_server.specs.History.{call_of, changed_in, changes_in}

-- what a history has changed is what its parts have, one behind the other
changed-append : (es fs : List Entry) → changed_in (es ++ fs) ≡ changed_in es ++ changed_in fs
changed-append [] fs = refl
changed-append (e ∷ es) fs = ap (λ (cs : List Call). cond (changes e.event e.reply) (call_of e ∷ cs) cs) (changed-append es fs) ∙ outside (changes e.event e.reply)
  where
    outside : (b : Bool) → cond b (call_of e ∷ (changed_in es ++ changed_in fs)) (changed_in es ++ changed_in fs) ≡ cond b (call_of e ∷ changed_in es) (changed_in es) ++ changed_in fs
    outside true = refl
    outside false = refl

pub changed_stays : (seen all : List Entry) → IsPrefix seen all → (more : List Call) × (changed_in all ≡ changed_in seen ++ more)
changed_stays seen all begins = (changed_in begins.0, ap changed_in (sym begins.1) ∙ changed-append seen begins.0)

-- with one entry more it is that entry's call more, if it changes something
changed_last : (seen : List Entry) (e : Entry) → changed_in (seen ++ e ∷ []) ≡ changed_in seen ++ cond (changes e.event e.reply) (call_of e ∷ []) []
changed_last seen e = changed-append seen (e ∷ [])

pub change_last : (seen : List Entry) (e : Entry) → changes e.event e.reply ≡ true → changed_in (seen ++ e ∷ []) ≡ changed_in seen ++ call_of e ∷ []
change_last seen e does = changed_last seen e ∙ ap (λ (b : Bool). changed_in seen ++ cond b (call_of e ∷ []) []) does

pub no_change : (seen : List Entry) (e : Entry) → changes e.event e.reply ≡ false → changed_in (seen ++ e ∷ []) ≡ changed_in seen
no_change seen e does = changed_last seen e ∙ ap (λ (b : Bool). changed_in seen ++ cond b (call_of e ∷ []) []) does ∙ append-nil (changed_in seen)

-- ---- how many

-- no more than there are entries
pub few_changes : (es : List Entry) → changes_in es ≤ length es
few_changes [] = omega arith
few_changes (e ∷ es) = by_test (changes e.event e.reply) (few_changes es)
  where
    by_test : (b : Bool) → changes_in es ≤ length es → length (cond b (call_of e ∷ changed_in es) (changed_in es)) ≤ length (e ∷ es)
    by_test true le = omega arith
    by_test false le = omega arith

count_last : (seen : List Entry) (e : Entry) → changes_in (seen ++ e ∷ []) ≡ cond (changes e.event e.reply) (changes_in seen + 1) (changes_in seen)
count_last seen e = ap length (changed_last seen e) ∙ by_test (changes e.event e.reply)
  where
    by_test : (b : Bool) → length (changed_in seen ++ cond b (call_of e ∷ []) []) ≡ cond b (changes_in seen + 1) (changes_in seen)
    by_test true = length-append (changed_in seen) (call_of e ∷ [])
    by_test false = ap length (append-nil (changed_in seen))

both : (a b : Bool) → (a && b) ≡ cond a b false
both true b = refl
both false b = refl

-- the count that is raised where an event that may change something is answered so is that of the history with the entry
pub counts_so : (seen : List Entry) (e : Entry) (event : Event) (reply : Reply) (before behind : ℕ) (asks : Bool) → e.event ≡ event → e.reply ≡ reply → before ≡ changes_in seen
    → ((r : Reply) → changes event r ≡ cond asks (is_effective r) false) → behind ≡ cond (asks && is_effective reply) (before + 1) before → behind ≡ changes_in (seen ++ e ∷ [])
counts_so seen e event reply before behind asks is_event is_reply is tested raised =
    let does : (asks && is_effective reply) ≡ changes e.event e.reply = both asks (is_effective reply) ∙ (sym (tested reply) ∙ ap₂ changes (sym is_event) (sym is_reply)) in
    raised ∙ (ap₂ (λ (b : Bool) (k : ℕ). cond b (k + 1) k) does is ∙ sym (count_last seen e))
