-- At which byte of a rule's text its fault shows.
use Rattle.std.specs.Prelude.{◌≡◌, ◌⊎◌, ℕ, ◌+◌, ◌-◌, List, [], ◌∷◌, ◌++◌, take, drop, length, codes, false}
use Rattle.std.specs.List.{AllByRecursion}
use Rattle.expr_tokens.specs.declared.fault.Excluded.{Excluded}
use Rattle.expr_tokens.specs.declared.fault.Excluded.TheVariants.{Slash, Number, Bracket}
use Rattle.expr_tokens.specs.declared.token.Token.{Token}
use Rattle.expr_tokens.specs.Spelling.{SpellsTokens, PlaceAfter}
use Rattle.expr_tokens.specs.Faults.{BeginsSlash, BeginsFraction}
use Rattle.expr_parser.specs.Tree.{SyntaxTree, Variable, Capture, Member, Call}
use Rattle.expr_parser.specs.Grammar.{Spells}
use Rattle.expr_parser.specs.Stopping.{StopsAt, Indexed}
use Rattle.expr_places.specs.Places.{width, Placed, placed_parts, placed_arguments}
use Rattle.expr_types.specs.declared.place.Place.{Place}
use Rattle.expr_types.specs.declared.sort.Sort.{Sort}
use Rattle.expr_types.specs.declared.fault.TypeFault.{TypeFault}
use Rattle.expr_types.specs.declared.fault.TypeFault.TheVariants as type_fault
use Rattle.expr_types.specs.HasSort.{HasSort, HasSomeSort, HasValue, is_value}
use Rattle.expr_types.specs.Faults.{own_fault, use_fault}
use Rattle.rules_reader.specs.Part.{Pattern}
use Rattle.rules_reader.specs.Spelled.{place_of, capture_names}
use Rattle.rules_reader.specs.declared.kind.Kind.{Kind}
use Rattle.rules_reader.specs.declared.fault.RuleFault.{RuleFault}
use Rattle.rules_reader.specs.declared.fault.RuleFault.TheVariants.{BadExpression, NotInProfile, TypeError, UnknownName}
use Rattle.rules_reader.specs.declared.fault.LeftOut.TheVariants.{Sign, Name}

-- ---- what the language leaves out

-- these bytes begin with a slash, or with a number that has a point or an exponent; of a bracket the grammar speaks
abbrev pub Begins : Excluded → List ℕ → Type 0
Begins Slash text = BeginsSlash text
Begins Number text = BeginsFraction text
Begins Bracket text = ⊥

-- what is a token by itself where a slash stands, and where a number does
abbrev pub stand_in : Excluded → List ℕ
stand_in Number = codes "0"
stand_in _ = codes ")"

-- what is left out begins at this byte of the rule: were the token that stands for it written there and nothing behind it, it would be the last of the tokens
pub record IsLeftOutAt (rule : List ℕ) (left_out : Excluded) (byte : ℕ) : Type 0 where
  pub sign : Begins left_out (drop byte rule)
  pub tokens : List Token
  pub spelled : SpellsTokens (take byte rule ++ stand_in left_out) tokens
  pub last : PlaceAfter (take byte rule ++ stand_in left_out) (take (length tokens - 1) tokens) byte

-- at this byte stands the bracket behind an operand at which the rule's tokens stop to be an expression
pub record IsBracketAt (rule : List ℕ) (byte : ℕ) : Type 0 where
  pub tokens : List Token
  pub scanned : SpellsTokens rule tokens
  pub left : List Token
  pub stops : StopsAt tokens left
  pub indexed : Indexed tokens left
  pub begins : PlaceAfter rule stops.before byte

-- ---- sorts

-- of these parts, this is the first that has no sort
pub record IsFirstUnsorted (place : Place) (names : List (List ℕ)) (parts : List Placed) (part : Placed) : Type 0 where
  pub before : List Placed
  pub after : List Placed
  pub among : parts ≡ before ++ part ∷ after
  pub sorted : AllByRecursion (λ one. HasSomeSort place names one.1) before
  pub none : HasSomeSort place names part.1 → ⊥

-- of these parts, the first that is no value is behind so many tokens
pub record IsFirstMisfit (place : Place) (names : List (List ℕ)) (parts : List Placed) (token : ℕ) : Type 0 where
  pub before : List Placed
  pub part : Placed
  pub after : List Placed
  pub among : parts ≡ before ++ part ∷ after
  pub values : AllByRecursion (λ one. HasValue place names one.1) before
  pub misfit : HasValue place names part.1 → ⊥
  pub token_is : token ≡ part.0

-- the parts that must be values: what a call is given, and the operands of all but a use
abbrev pub operands : SyntaxTree → List Placed
operands (Member x f) = []
operands (Call x f xs) = placed_arguments (width x + 3) xs
operands x = placed_parts x

-- each of its parts has a sort, and it has none: the fault is its own
pub record IsAtFault (place : Place) (names : List (List ℕ)) (x : SyntaxTree) : Type 0 where
  pub parts : AllByRecursion (λ part. HasSomeSort place names part.1) (placed_parts x)
  pub none : HasSomeSort place names x → ⊥

-- The first fault of an expression, and behind how many of its tokens it shows. (This project's profile.)
pub data ShowsBehind (place : Place) (names : List (List ℕ)) : SyntaxTree → TypeFault → ℕ → Type 0 where
  -- in the first part that has no sort
  in_part : {x : SyntaxTree} {part : Placed} {e : TypeFault} {n : ℕ} → IsFirstUnsorted place names (placed_parts x) part → ShowsBehind place names part.1 e n → ShowsBehind place names x e (part.0 + n)
  -- at the variable or the capture
  at_variable : {f : List ℕ} → IsAtFault place names (Variable f) → ShowsBehind place names (Variable f) (own_fault (Variable f)) 0
  at_capture : {f : List ℕ} → IsAtFault place names (Capture f) → ShowsBehind place names (Capture f) (own_fault (Capture f)) 0
  -- at the name behind a dot; where a call is at fault for its sorts, if all that it is given are values
  at_member : {x : SyntaxTree} {f : List ℕ} → IsAtFault place names (Member x f) → ShowsBehind place names (Member x f) (use_fault f) (width x + 1)
  at_call : {x : SyntaxTree} {f : List ℕ} {xs : _} → IsAtFault place names (Call x f xs) → (use_fault f ≡ type_fault.TypeError → AllByRecursion (λ one. HasValue place names one.1) (operands (Call x f xs))) → ShowsBehind place names (Call x f xs) (use_fault f) (width x + 1)
  -- at the first operand that is no value
  at_operand : {x : SyntaxTree} {n : ℕ} → IsAtFault place names x → own_fault x ≡ type_fault.TypeError → IsFirstMisfit place names (operands x) n → ShowsBehind place names x type_fault.TypeError n

-- the same of the expression of a rule, which may also be no value as a whole
abbrev pub ShowsInRule : Place → List (List ℕ) → SyntaxTree → TypeFault → ℕ → Type 0
ShowsInRule place names x e n = ShowsBehind place names x e n ⊎ ((s : Sort) × HasSort place names x s × (is_value s ≡ false) × (e ≡ type_fault.TypeError) × (n ≡ 0))

-- the rule is an expression that may not stand there, for this fault, which shows at the token that begins at this byte
pub record IsMisplacedAt (at : Pattern) (kind : Kind) (rule : List ℕ) (fault : TypeFault) (byte : ℕ) : Type 0 where
  pub tokens : List Token
  pub scanned : SpellsTokens rule tokens
  pub tree : SyntaxTree
  pub parsed : Spells tokens tree
  pub token : ℕ
  pub shown : ShowsInRule (place_of kind) (capture_names at) tree fault token
  pub begins : PlaceAfter rule (take token tokens) byte

-- ---- all

-- the fault of a rule of this kind at this pattern shows at this byte of its text: at that which it names, at what is left out, or where its sorts are at fault
abbrev pub IsShownAt : Pattern → Kind → List ℕ → RuleFault → ℕ → Type 0
IsShownAt at kind rule (BadExpression b) byte = byte ≡ b
IsShownAt at kind rule (NotInProfile (Sign Bracket)) byte = IsBracketAt rule byte
IsShownAt at kind rule (NotInProfile (Sign left_out)) byte = IsLeftOutAt rule left_out byte
IsShownAt at kind rule (NotInProfile (Name f)) byte = IsMisplacedAt at kind rule (type_fault.NotInProfile f) byte
IsShownAt at kind rule TypeError byte = IsMisplacedAt at kind rule type_fault.TypeError byte
IsShownAt at kind rule (UnknownName f) byte = IsMisplacedAt at kind rule (type_fault.UnknownName f) byte
