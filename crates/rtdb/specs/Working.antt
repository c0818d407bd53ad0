-- Words of private contracts. No public clause stands on them.
use Rattle.std.specs.Prelude.{◌≡◌, ◌⊎◌, ℕ, Bool, true, List, [], Option}
use Rattle.std.specs.Io.KnownBytes.{Appends}
use Rattle.rules_reader.specs.declared.fault.RulesFault.TheVariants.{BadRulesJson}
use Rattle.answers.specs.AnswerText.{rules_fault_text}
use Rattle.json_lines.specs.declared.fault.MessageFault.TheVariants.{NoMemory as OutOfMemory}
use Rattle.tokens.specs.declared.fault.TokensFault.{TokensFault}
use Rattle.tokens.specs.declared.fault.TokensFault.TheVariants.{BadTokens as NoTokens, NoMemory as NoRoom}
use Rattle.scripts.specs.declared.header.HeaderFault.TheVariants.{Line, BadTokens}
use Rattle.scripts.specs.Said.{as_line, header_fault_text}
use Rattle.scripts.specs.declared.header.HeaderFault.{HeaderFault}
use Rattle.scripts.specs.declared.header.Opened.{Opened}
use Rattle.server.specs.Served.{IsCutShort}
use Rattle.command_line.specs.Order.{Served}
use Rattle.rtdb.specs.Status.{done, refused, failed, no_memory}
use Rattle.rtdb.specs.Command.{IsServed}

-- what is printed of a file that is longer than a rules file may be, and the status
abbrev pub IsTooLong : List ℕ → ℕ → Type 0
IsTooLong out status = (out ≡ as_line (rules_fault_text BadRulesJson)) × (status ≡ refused)

-- why a server's files open no database is a line of the output, or that has failed, or memory was wanted
abbrev pub IsTold : HeaderFault → Option (List ℕ) → Option (List ℕ) → Bool → ℕ → Type 0
IsTold fault before after has_failed status =
    ((status ≡ refused) × Appends before after (as_line (header_fault_text fault)))
    ⊎ (((status ≡ failed) × (has_failed ≡ true)) ⊎ ((status ≡ no_memory) × Appends before after []))

-- what the files opened was served; or its port could not be had, or the output has failed; or memory was wanted
abbrev pub IsServedOr : Opened → Served → Option (List ℕ) → Option (List ℕ) → Bool → ℕ → Type 0
IsServedOr opened options before after has_failed status =
    ((status ≡ done) × IsServed options opened before after)
    ⊎ (((status ≡ failed) × (Appends before after [] ⊎ (has_failed ≡ true)))
    ⊎ ((status ≡ no_memory) × IsCutShort options.port before after))

-- a fault of the tokens' file as one of what opens
abbrev pub fault_of_tokens : TokensFault → HeaderFault
fault_of_tokens NoTokens = BadTokens
fault_of_tokens NoRoom = Line OutOfMemory
