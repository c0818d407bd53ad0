-- Which calls of a run want memory: that is all that no definition says of it.
use Rattle.std.specs.Prelude.{◌≡◌, ◌≢◌, ◌↔◌, List, [], ◌∷◌, All, ⊤}
use Rattle.rtdb_model.specs.declared.reply.Refusal.TheVariants.{NoMemory}
use Rattle.rtdb_model.specs.declared.reply.Reply.{Reply}
use Rattle.rtdb_model.specs.declared.reply.Reply.TheVariants.{Refused}

-- none of the calls that are answered so wanted memory
abbrev pub WantNone : List Reply → Type 0
WantNone replies = All (λ reply. reply ≢ Refused NoMemory) replies

-- of the calls that are answered so in two runs, the same wanted memory in both
abbrev pub WantAlike : List Reply → List Reply → Type 0
WantAlike [] [] = ⊤
WantAlike (reply ∷ replies) (other ∷ others) = ((reply ≡ Refused NoMemory) ↔ (other ≡ Refused NoMemory)) × WantAlike replies others
WantAlike [] (other ∷ others) = ⊥
WantAlike (reply ∷ replies) [] = ⊥
