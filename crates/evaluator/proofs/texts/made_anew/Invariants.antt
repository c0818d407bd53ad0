use Rattle.std.proofs.Common.{length, string_bytes}
use denote.Text.{Utf8}
use denote.Shadow.{shadow}
use Rattle.evaluator.proofs.Replacing.{Made}
use Rattle.evaluator.proofs.texts.made_anew.Given as goal

-- what was made, and behind it what becomes of the rest, which is a text
abbrev pub invariant-loop-before : goal.invariant-loop-before
invariant-loop-before l = shadow (Utf8 l.rest) × Made l.text l.part l.with (string_bytes l.made) l.rest

abbrev pub decreases-loop-before : goal.decreases-loop-before
decreases-loop-before l = length l.rest
