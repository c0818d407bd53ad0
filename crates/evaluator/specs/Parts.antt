-- The values and the parts of expressions that the code has, as meanings.
use Rattle.std.specs.Prelude.{option_map}
use Rattle.evaluator.specs.declared.value.Value as code
use Rattle.evaluator.specs.declared.value.Value.TheVariants.{Null, Truth, Whole, Words, Sentinel, Record}
use Rattle.evaluator.specs.declared.value.Meaning as code_part
use Rattle.evaluator.specs.declared.value.Meaning.TheVariants as parts
use Rattle.evaluator.specs.Asked.{asked_of}
use Rattle.evaluator.specs.Value.{Value, null, truth, whole, words, sentinel, a_record, Meaning, value, snapshot, auth, token, query}

-- the value that one of the code is
abbrev pub value_of : code.Value → Value
value_of Null = null
value_of (Truth b) = truth b
value_of (Whole z) = whole z
value_of (Words s) = words s.now
value_of Sentinel = sentinel
value_of Record = a_record

-- what an expression means, as the code has it
abbrev pub part_of : code_part.Meaning → Meaning
part_of (parts.Value v) = value (value_of v)
part_of (parts.Snapshot s) = snapshot s.now
part_of (parts.Auth who) = auth (option_map (λ a. a.now) who)
part_of (parts.Token claims) = token (option_map (λ c. c.now) claims)
part_of (parts.Query a) = query (asked_of a.now)
