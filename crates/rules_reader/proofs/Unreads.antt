-- Why a text was not read as a rule.
use Rattle.std.proofs.Common.{◌≡◌, ◌⊎◌, inl, inr, ℕ, List, subst}
use Rattle.expr_parser.specs.Tree.{SyntaxTree}
use Rattle.expr_parser.specs.Text.{SpellsExpression}
use Rattle.expr_types.specs.declared.fault.TypeFault.{TypeFault}
use Rattle.expr_types.specs.declared.fault.TypeFault.TheVariants.{NotInProfile, TypeError, UnknownName, NoMemory}
use Rattle.expr_types.specs.declared.place.Place.{Place}
use Rattle.expr_types.specs.Faults.{IsRefused, HasName}
use Rattle.rules_reader.specs.Part.{Pattern}
use Rattle.rules_reader.specs.declared.kind.Kind.{Kind}
use Rattle.rules_reader.specs.Spelled.{place_of, capture_names, IsMisplaced}
use Rattle.rules_reader.specs.Unread.{Stops, of_type_fault}

module _ (at : Pattern) (kind : Kind) (text : List ℕ) (x : SyntaxTree) where
  misplaced : (fault : TypeFault) (place : Place) (names : List (List ℕ)) → SpellsExpression text x → names ≡ capture_names at → place ≡ place_of kind → IsRefused place names x fault → IsMisplaced at kind text fault
  misplaced fault place names spelled e f r = record { tree = x; spelled = spelled; refused = subst (λ (ns : List (List ℕ)). IsRefused (place_of kind) ns x fault) e (subst (λ (p : Place). IsRefused p names x fault) f r) }

  pub type_stops : (fault : TypeFault) (place : Place) (names : List (List ℕ)) → SpellsExpression text x → names ≡ capture_names at → place ≡ place_of kind → IsRefused place names x fault ⊎ ((fault ≡ NoMemory) × (d : TypeFault) × IsRefused place names x d × HasName d) → Stops at kind text (of_type_fault fault)
  type_stops (NotInProfile f) place names s e g (inl r) = misplaced (NotInProfile f) place names s e g r
  type_stops (NotInProfile f) place names s e g (inr m) = let none = m.0 in cc
  type_stops TypeError place names s e g (inl r) = misplaced TypeError place names s e g r
  type_stops TypeError place names s e g (inr m) = let none = m.0 in cc
  type_stops (UnknownName f) place names s e g (inl r) = misplaced (UnknownName f) place names s e g r
  type_stops (UnknownName f) place names s e g (inr m) = let none = m.0 in cc
  type_stops NoMemory place names s e g r = tt
