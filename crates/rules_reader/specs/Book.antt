-- What a rules file states, as a flat map: the patterns of its objects, each with the rules that stand there.
use Rattle.std.specs.Prelude.{ℕ, ◌+◌, List, [], ◌∷◌, ◌++◌, Bool, length, codes, Option, Some, None, is_some, flat_map, refl}
use Rattle.std.specs.List.{list_any}
use Rattle.std.specs.FinMap as map_of
use Rattle.std.specs.Coded.{Coded, code_by, coded×, coded_ℕ, coded_list, coded_option}
use Rattle.tree_model.specs.PathMap.{PathMap}
use Rattle.rules_reader.specs.Part.{Pattern}
use Rattle.rules_reader.specs.declared.kind.Kind.{Kind}
use Rattle.rules_reader.specs.declared.kind.Kind.TheVariants.{Read, Write, Validate}
use Rattle.expr_types.specs.Checked.{Checked, checked_code}

-- what an object states for each kind of rule: its `.read`, its `.write` and its `.validate`, where it does. (Reference, rules types.)
pub record Stated (A : Type 0) : Type 0 where
  pub read : Option A
  pub write : Option A
  pub validate : Option A

-- the patterns of objects, each with what is stated there; patterns are lists of texts, as paths are, and in this order the first fault is found
abbrev pub BookOf : Type 0 → Type 0
BookOf A = PathMap (Stated A)

-- a rules file, each rule with the text of its expression
abbrev pub TextBook : Type 0
TextBook = BookOf (List ℕ)

-- a rules file, each rule with its expression and the place that this was checked for
abbrev pub Book : Type 0
Book = BookOf Checked

-- the patterns of all objects of the file, in their order
abbrev pub patterns : {A : Type 0} → BookOf A → List Pattern
patterns b = map_of.keys b

-- the name of a kind of rule in a rules file
abbrev pub kind_name : Kind → List ℕ
kind_name Read = codes ".read"
kind_name Write = codes ".write"
kind_name Validate = codes ".validate"

-- what is stated for a kind of rule
abbrev pub stated_for : {A : Type 0} → Kind → Stated A → Option A
stated_for Read s = s.read
stated_for Write s = s.write
stated_for Validate s = s.validate

-- a rule: its pattern, its kind and what it is
abbrev pub RuleOf : Type 0 → Type 0
RuleOf A = Pattern × Kind × A

-- the rules of this kind at the pattern: the one that is stated, or none
abbrev pub stated : {A : Type 0} → Pattern → Kind → Option A → List (RuleOf A)
stated p kind None = []
stated p kind (Some rule) = (p, kind, rule) ∷ []

-- the rules of an object: `.read`, `.validate`, `.write`
abbrev pub own_rules : {A : Type 0} → Pattern × Stated A → List (RuleOf A)
own_rules e = stated e.0 Read e.1.read ++ stated e.0 Validate e.1.validate ++ stated e.0 Write e.1.write

-- all rules of the file, by pattern, and at one pattern `.read`, `.validate`, `.write`
unfoldable pub rules : {A : Type 0} → BookOf A → List (RuleOf A)
rules b = flat_map own_rules (map_of.entries b)

-- some object of the book states a `.validate`
unfoldable pub validates : {A : Type 0} → BookOf A → Bool
validates b = list_any (λ e. is_some e.1.validate) (map_of.entries b)

-- some object of the book passes a test
unfoldable pub states : {A : Type 0} → (Stated A → Bool) → BookOf A → Bool
states test b = list_any (λ e. test e.1) (map_of.entries b)

-- how many rules an object states
abbrev pub stated_count : {A : Type 0} → Stated A → ℕ
stated_count s = length (stated [] Read s.read) + (length (stated [] Validate s.validate) + length (stated [] Write s.write))

-- ---- as data: what distinguishes two books

-- the coding of what an object states, by that of its rules
abbrev pub stated_code : {A : Type 0} → Coded A → Coded (Stated A)
stated_code {A} code = code_by (Option A × (Option A × Option A)) (coded× (coded_option code) (coded× (coded_option code) (coded_option code))) (λ s. (s.read, (s.write, s.validate))) (λ t. record { read = t.0; write = t.1.0; validate = t.1.1 }) (λ _. refl)

-- the coding of a book
abbrev pub book_code : Coded Book
book_code = map_of.code (coded_list (coded_list coded_ℕ)) (stated_code checked_code)
