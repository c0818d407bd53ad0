use Rattle.std.proofs.Common.{◌≡◌, ◌≤◌, take, map, length}
use Rattle.journal.specs.Format.{entries_text}
use Rattle.journal.specs.declared.limits.TheConstants.{MAX_GROUP_BYTES}
use Rattle.journal.proofs.text.text_of_entries.Given as goal

-- so far the text has the entries
abbrev pub invariant-loop-entry : goal.invariant-loop-entry
invariant-loop-entry l = record {
  text : l.text.items ≡ entries_text (map (λ entry. entry.items) (take l.entry-index l.entries));
  fits : length l.text.items ≤ MAX_GROUP_BYTES;
}
