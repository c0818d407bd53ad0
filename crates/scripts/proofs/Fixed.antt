-- The answers that are constants.
use Rattle.std.proofs.Common.{◌≡◌, refl}
use Rattle.std.specs.Prelude.{codes}
use Rattle.std.specs.Fmt.{digits}
use Rattle.serde_json.proofs.OnLiterals.{serde_json_on_literals}
use Rattle.rules_reader.specs.declared.fault.RulesFault.TheVariants as rules_faults
use Rattle.json_lines.specs.declared.fault.MessageFault.TheVariants as message_faults
use Rattle.rtdb_model.specs.declared.reply.Reply.TheVariants as replies
use Rattle.rtdb_model.specs.declared.reply.Refusal.TheVariants as refusals
use Rattle.scripts.specs.Said.{as_line}
use Rattle.answers.specs.AnswerText.{text, fault_text, rules_fault_text}

pub done_is : codes "{\"ok\":true}\n" ≡ as_line (text replies.Done)
unfolding text serde_json_on_literals
done_is = refl

pub no_memory_is : codes "{\"code\":601,\"name\":\"NoMemory\",\"ok\":false}\n" ≡ as_line (fault_text message_faults.NoMemory)
unfolding fault_text serde_json_on_literals digits
no_memory_is = refl

-- want of memory has one text, wherever it comes from
pub no_memory_of_reply : fault_text message_faults.NoMemory ≡ text (replies.Refused refusals.NoMemory)
unfolding text fault_text
no_memory_of_reply = refl

pub no_memory_of_rules : fault_text message_faults.NoMemory ≡ rules_fault_text rules_faults.NoMemory
unfolding fault_text rules_fault_text
no_memory_of_rules = refl
