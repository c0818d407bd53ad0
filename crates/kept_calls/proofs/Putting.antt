-- The entry of a call that was made, at its number.
use Rattle.std.proofs.Common.{◌≡◌, ◌≢◌, ℕ, ◌+◌, List, [], ◌∷◌, ◌++◌, Bool, true, false, Vec, Global, Option, Some, None, Result, Ok, Err, length, length-append, refl, sym, subst, ◌∙◌, ap, arith}
use Rattle.std.specs.Prelude.{IfOk, IfSome}
use Rattle.json_tree.specs.declared.memory.NoMemory.{NoMemory}
use Rattle.rtdb_model.specs.declared.event.Event.{Event}
use Rattle.rtdb_model.specs.declared.reply.Reply.{Reply}
use Rattle.rtdb_model.specs.declared.reply.Reply.TheVariants.{Refused}
use Rattle.rtdb_model.specs.declared.reply.Refusal.TheVariants.{Spent}
use Rattle.rtdb_laws.specs.Effects.{is_effective}
use Rattle.locked_server.specs.declared.entry.Entry.{Entry}
use Rattle.locked_server.specs.History.{changed_in, changes_in, call_of}
use Rattle.locked_server.specs.Known.{Known, Made}
use Rattle.locked_server.proofs.Changes.{change_last}
use Rattle.hall_journal.specs.Kept.{IsEntryAt}
use Rattle.kept_calls.specs.Composed.{IsEntryOf}

not_spent : (reply : Reply) → is_effective reply ≡ true → reply ≢ Refused Spent
not_spent reply effective same = absurd (let e : is_effective (Refused Spent) ≡ true = subst (λ (r : Reply). is_effective r ≡ true) same effective in cc)

at_its_number : (k l : Known) (now session number : ℕ) (event : Event) (reply : Reply) (bytes : List ℕ) → Made k l now session event reply → number ≡ changes_in l.seen → is_effective reply ≡ true → IsEntryOf now session event bytes
    → IsEntryAt l.seen number bytes
at_its_number k l now session number event reply bytes (n, mine, (between, seen_is, own_is)) counted effective entry =
    let made : Entry = record { seat = n; now = now; session = session; event = event; reply = reply } in
    let last : changed_in l.seen ≡ changed_in (k.seen ++ between) ++ call_of made ∷ [] = ap changed_in seen_is ∙ change_last (k.seen ++ between) made (entry.by_reply reply ∙ effective) in
    let long = length-append (changed_in (k.seen ++ between)) (call_of made ∷ []) in
    let all = ap length last in record {
      earlier = changed_in (k.seen ++ between);
      made = call_of made;
      later = [];
      deployed = entry.deployed;
      changed = last;
      number_is = omega (arith, counted, long, all);
      means = entry.means;
    }

-- what was composed before the call is its entry once it was made
pub placed : (k l : Known) (now session number : ℕ) (event : Event) (reply : Reply) (entry : Result (Option (Vec ℕ Global)) NoMemory) → (reply ≢ Refused Spent → Made k l now session event reply)
    → (reply ≢ Refused Spent → number ≡ changes_in l.seen) → IfOk entry (λ e. IfSome e (λ it. IsEntryOf now session event it.items)) → is_effective reply ≡ true
    → IfOk entry (λ e. IfSome e (λ it. IsEntryAt l.seen number it.items))
placed k l now session number event reply (Ok (Some it)) made counted of effective =
    let there = not_spent reply effective in at_its_number k l now session number event reply it.items (made there) (counted there) effective of
placed k l now session number event reply (Ok None) made counted of effective = tt
placed k l now session number event reply (Err fault) made counted of effective = tt
