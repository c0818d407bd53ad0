-- The writes of an update, member by member.
use Rattle.std.proofs.Common.{◌≡◌, ℕ, List, [], ◌∷◌, ◌++◌, Result, Ok, Err, refl, sym, ap, ◌∙◌, append_assoc, append-nil}
use Rattle.serde_json.specs.Data.{Data, Members, no_members, member}
use Rattle.tree_model.specs.Path.{Path}
use Rattle.tree_model.specs.Write.{Write}
use Rattle.json_lines.specs.declared.fault.MessageFault.{MessageFault}
use Rattle.json_lines.specs.Lines.{unless_fault, write_below, writes_below}

-- these writes before those of the members that are left
abbrev pub with_rest : List Write → Result (List Write) MessageFault → Result (List Write) MessageFault
with_rest done rest = unless_fault rest (λ ws. Ok (done ++ ws))

-- what all members ask is what is done and what is left
abbrev pub IsHalf : Path → List Write → Members → Members → Type 0
IsHalf path done rest all = writes_below path all ≡ with_rest done (writes_below path rest)

pub at_first : (path : Path) (all : Members) → IsHalf path [] all all
at_first path all = by_result (writes_below path all)
  where
    by_result : (r : Result (List Write) MessageFault) → r ≡ with_rest [] r
    by_result (Ok ws) = refl
    by_result (Err fault) = refl

pub at_last : (path : Path) (done : List Write) (all : Members) → IsHalf path done no_members all → writes_below path all ≡ Ok done
at_last path done all h = h ∙ ap (λ (ws : List Write). Ok ws) (append-nil done)

pub one_more : (path : Path) (done : List Write) (name : List ℕ) (d : Data) (ms all : Members) (write : Write) → IsHalf path done (member name d ms) all → write_below path name d ≡ Ok write → IsHalf path (done ++ write ∷ []) ms all
one_more path done name d ms all write h e =
    h ∙ ap (λ (r : Result Write MessageFault). with_rest done (unless_fault r (λ w. unless_fault (writes_below path ms) (λ ws. Ok (w ∷ ws))))) e ∙ by_rest (writes_below path ms)
  where
    by_rest : (r : Result (List Write) MessageFault) → with_rest done (unless_fault r (λ ws. Ok (write ∷ ws))) ≡ with_rest (done ++ write ∷ []) r
    by_rest (Ok ws) = ap (λ (xs : List Write). Ok xs) (sym (append_assoc done (write ∷ []) ws))
    by_rest (Err fault) = refl

pub at_fault : (path : Path) (done : List Write) (name : List ℕ) (d : Data) (ms all : Members) (fault : MessageFault) → IsHalf path done (member name d ms) all → write_below path name d ≡ Err fault → writes_below path all ≡ Err fault
at_fault path done name d ms all fault h e =
    h ∙ ap (λ (r : Result Write MessageFault). with_rest done (unless_fault r (λ w. unless_fault (writes_below path ms) (λ ws. Ok (w ∷ ws))))) e
