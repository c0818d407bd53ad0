-- Each file states a book, or is refused.
use Rattle.std.proofs.Common.{◌≡◌, ◌≢◌, ◌⊎◌, inl, inr, ℕ, suc, ◌≤◌, ◌==◌, Bool, true, false, cond, List, [], ◌∷◌, ◌++◌, length, Option, Some, None, sym, ap, ◌∙◌, subst, refl, arith}
use Rattle.std.specs.List.{AllByRecursion, flat_map}
use Rattle.std.specs.Option.{option_map_or}
use Rattle.std.specs.FinMap as map_of
use Rattle.std.specs.FinMap.{find}
use Rattle.std.specs.Ordering.{is_gt, eq_by_cmp, ordering_reverse}
use Rattle.std.specs.declared.cmp.Ordering.{Ordering}
use Rattle.std.specs.declared.cmp.Ordering.TheVariants.{Less, Equal, Greater}
use Rattle.std.specs.Cmp.{tied_itself}
use Rattle.std.proofs.lemmas.Bool.{eqb-true}
use Rattle.std.proofs.lemmas.Bool.Decides.{leb_tells}
use Rattle.serde_json.specs.Data.{Data}
use Rattle.expr_tokens.specs.declared.fault.ExprFault.{ExprFault}
use Rattle.expr_tokens.specs.declared.fault.ExprFault.TheVariants as text_fault
use Rattle.expr_parser.specs.Tree as t
use Rattle.expr_parser.specs.Tree.{SyntaxTree}
use Rattle.expr_parser.specs.Text.{SpellsExpression, RefusedText}
use Rattle.expr_parser.proofs.Answered.{each_text}
use Rattle.expr_types.specs.Checked.{Checked}
use Rattle.expr_types.specs.declared.place.Place.{Place}
use Rattle.expr_types.specs.declared.fault.TypeFault.{TypeFault}
use Rattle.expr_types.specs.declared.fault.TypeFault.TheVariants as type_fault
use Rattle.expr_types.specs.Names.{is_among, excluded_names, is_spelled}
use Rattle.expr_types.specs.Faults.{use_fault, own_fault, FirstFault, in_part, of_own, IsRefused}
use Rattle.expr_types.specs.Working.SortOf.{sort_of}
use Rattle.expr_types.proofs.Answered.{value_or_refused}
use Rattle.tree_model.specs.Path.{Path, path_cmp}
use Rattle.tree_model.specs.PathMap.{get}
use Rattle.tree_model.proofs.Orders.{paths_total, exact_paths, same_path}
use Rattle.path_capture.specs.Pattern as parts
use Rattle.path_capture.specs.Pattern.{part_text, part_of_text}
use Rattle.rules_reader.specs.Part.{PartText, Pattern, texts}
use Rattle.rules_reader.specs.Book.{Stated, Book, TextBook, RuleOf, own_rules, rules, stated, stated_for}
use Rattle.rules_reader.specs.declared.limits.TheConstants.{MAX_RULES}
use Rattle.rules_reader.specs.declared.kind.Kind.{Kind}
use Rattle.rules_reader.specs.declared.kind.Kind.TheVariants.{Read, Write, Validate}
use Rattle.rules_reader.specs.declared.fault.RuleFault.{RuleFault}
use Rattle.rules_reader.specs.declared.fault.RuleFault.TheVariants.{BadExpression, NotInProfile, TypeError, UnknownName}
use Rattle.rules_reader.specs.declared.fault.LeftOut.TheVariants.{Sign, Name}
use Rattle.rules_reader.specs.declared.fault.RulesFault.{RulesFault}
use Rattle.rules_reader.specs.declared.fault.RulesFault.TheVariants.{BadRulesJson, BadRulesShape, TooManyRules, BadRule, NoMemory}
use Rattle.rules_reader.specs.Spelled.{place_of, capture_names, SpellsRule, IsNoRule, SpellsOptional, SpellsObject, IsSpelled, IsRule, IsFirstBad}
use Rattle.rules_reader.specs.Plain.{IsPlain}
use Rattle.rules_reader.specs.File.{json_of, ReadsAs, top, faulty, faults, texts_of, IsLeast, IsShaped, States, IsBadShape, HasBadRule}
use Rattle.rules_reader.specs.Refusal.{Refuses}
use Rattle.rules_reader.proofs.Cuts.{has_plain}
use Rattle.rules_reader.proofs.JsonTexts.{text_reads}
use Rattle.rules_reader.proofs.Compiled.{shaped}

-- ---- one rule

use_never : (f : List ℕ) → use_fault f ≢ type_fault.NoMemory
unfolding use_fault
use_never f = by (is_among f excluded_names) (is_spelled f)
  where
    by : (b c : Bool) → cond b (type_fault.NotInProfile f) (cond c type_fault.TypeError (type_fault.UnknownName f)) ≢ type_fault.NoMemory
    by true c e = cc
    by false true e = cc
    by false false e = cc

own_never : (x : SyntaxTree) → own_fault x ≢ type_fault.NoMemory
own_never (t.Variable f) e = cc
own_never (t.Capture f) e = cc
own_never (t.Member x f) e = use_never f e
own_never (t.Call x f xs) e = use_never f e
own_never (t.Number n) e = cc
own_never (t.Text s) e = cc
own_never t.True e = cc
own_never t.False e = cc
own_never t.Null e = cc
own_never (t.Group x) e = cc
own_never (t.Not x) e = cc
own_never (t.Negate x) e = cc
own_never (t.Operation op x y) e = cc
own_never (t.Choice c x y) e = cc

-- no first fault is want of memory
first_never : {p : Place} {ns : List (List ℕ)} {x : SyntaxTree} {d : TypeFault} → FirstFault p ns x d → d ≢ type_fault.NoMemory
first_never (in_part before y after split a f) e = first_never f e
first_never {p} {ns} {x} (of_own a n) e = own_never x e

refused_never : (p : Place) (ns : List (List ℕ)) (x : SyntaxTree) (d : TypeFault) → IsRefused p ns x d → d ≢ type_fault.NoMemory
refused_never p ns x d (inl f) e = first_never f e
refused_never p ns x d (inr s) e = let n = sym s.3 ∙ e in cc

-- a rule, or why the text is not one
abbrev Ruled : Pattern → Kind → List ℕ → Type 0
Ruled at kind text = ((c : Checked) × SpellsRule at kind text c) ⊎ ((fault : RuleFault) × IsNoRule at kind text fault)

module _ (at : Pattern) (kind : Kind) (text : List ℕ) where
  misplaced : (x : SyntaxTree) → SpellsExpression text x → (d : TypeFault) → IsRefused (place_of kind) (capture_names at) x d → Ruled at kind text
  misplaced x s (type_fault.NotInProfile f) r = inr (NotInProfile (Name f), record { tree = x; spelled = s; refused = r })
  misplaced x s type_fault.TypeError r = inr (TypeError, record { tree = x; spelled = s; refused = r })
  misplaced x s (type_fault.UnknownName f) r = inr (UnknownName f, record { tree = x; spelled = s; refused = r })
  misplaced x s type_fault.NoMemory r = absurd (refused_never (place_of kind) (capture_names at) x type_fault.NoMemory r refl)

  misspelled : (d : ExprFault) → RefusedText text d → d ≢ text_fault.NoMemory → Ruled at kind text
  misspelled (text_fault.BadExpression byte) r other = inr (BadExpression byte, r)
  misspelled (text_fault.NotInProfile excluded) r other = inr (NotInProfile (Sign excluded), r)
  misspelled text_fault.NoMemory r other = absurd (other refl)

  spelled_rule : (x : SyntaxTree) → SpellsExpression text x → Ruled at kind text
  spelled_rule x s = elim (value_or_refused (place_of kind) (capture_names at) x (sort_of (place_of kind) (capture_names at) x) refl) [
    | inl v ↦ inl (record { tree = x; place = place_of kind }, record { spelled = s; lawful = record { place = refl; sorted = v } })
    | inr r ↦ misplaced x s r.0 r.1
  ]

  each_rule : Ruled at kind text
  each_rule = elim (each_text text) [ inl x ↦ spelled_rule x.0 x.1 | inr r ↦ misspelled r.0 r.1 r.2 ]

-- ---- the rules of a file

-- all are rules, or there is a first that is not one
abbrev AllRuled : Pattern → List (RuleOf (List ℕ)) → Type 0
AllRuled at rs = AllByRecursion (IsRule at) rs ⊎ ((p : Pattern) × (kind : Kind) × (fault : RuleFault) × IsFirstBad at rs p kind fault)

one_more : (at : Pattern) (r : RuleOf (List ℕ)) (rs : List (RuleOf (List ℕ))) → Ruled (at ++ r.0) r.1 r.2 → AllRuled at rs → AllRuled at (r ∷ rs)
one_more at r rs (inr x) rest = inr (at ++ r.0, r.1, x.0, record { before = []; rule = r; after = rs; among = refl; lawful = tt; pattern_is = refl; kind_is = refl; why = x.1 })
one_more at r rs (inl c) (inl all) = inl (c, all)
one_more at r rs (inl c) (inr b) = inr (
  b.0,
  b.1,
  b.2,
  record {
    before = r ∷ b.3.before;
    rule = b.3.rule;
    after = b.3.after;
    among = ap (λ xs. r ∷ xs) b.3.among;
    lawful = (c, b.3.lawful);
    pattern_is = b.3.pattern_is;
    kind_is = b.3.kind_is;
    why = b.3.why;
  },
)

each_ruled : (at : Pattern) (rs : List (RuleOf (List ℕ))) → AllRuled at rs
each_ruled at [] = inl tt
each_ruled at (r ∷ rs) = one_more at r rs (each_rule (at ++ r.0) r.1 r.2) (each_ruled at rs)

-- ---- their book

front_of : {A : Type 0} (P : A → Type 0) (xs ys : List A) → AllByRecursion P (xs ++ ys) → AllByRecursion P xs
front_of P [] ys h = tt
front_of P (x ∷ xs) ys h = (h.0, front_of P xs ys h.1)

behind_of : {A : Type 0} (P : A → Type 0) (xs ys : List A) → AllByRecursion P (xs ++ ys) → AllByRecursion P ys
behind_of P [] ys h = h
behind_of P (x ∷ xs) ys h = behind_of P xs ys h.1

optional : (at : Pattern) (p : Path) (kind : Kind) (o : Option (List ℕ)) → AllByRecursion (IsRule at) (stated p kind o) → (c : Option Checked) × SpellsOptional (at ++ p) kind o c
optional at p kind None h = (None, tt)
optional at p kind (Some text) h = (Some h.0.0, h.0.1)

-- an entry whose texts spell rules
abbrev Has : Pattern → Path × Stated (List ℕ) → Type 0
Has at e = (c : Stated Checked) × SpellsObject (at ++ e.0) (Some e.1) (Some c)

has_rules : (at : Pattern) (e : Path × Stated (List ℕ)) → AllByRecursion (IsRule at) (own_rules e) → Has at e
has_rules at e h =
    let two = front_of (IsRule at) (stated e.0 Read e.1.read ++ stated e.0 Validate e.1.validate) (stated e.0 Write e.1.write) h in
    let r = optional at e.0 Read e.1.read (front_of (IsRule at) (stated e.0 Read e.1.read) (stated e.0 Validate e.1.validate) two) in
    let v = optional at e.0 Validate e.1.validate (behind_of (IsRule at) (stated e.0 Read e.1.read) (stated e.0 Validate e.1.validate) two) in
    let w = optional at e.0 Write e.1.write (behind_of (IsRule at) (stated e.0 Read e.1.read ++ stated e.0 Validate e.1.validate) (stated e.0 Write e.1.write) h) in
    (record { read = r.0; write = w.0; validate = v.0 }, λ kind. by kind r.0 w.0 v.0 r.1 w.1 v.1)
  where
    by : (kind : Kind) (r w v : Option Checked) → SpellsOptional (at ++ e.0) Read e.1.read r → SpellsOptional (at ++ e.0) Write e.1.write w → SpellsOptional (at ++ e.0) Validate e.1.validate v → SpellsOptional (at ++ e.0) kind (stated_for kind e.1) (stated_for kind (record { read = r; write = w; validate = v }))
    by Read r w v h g k = h
    by Write r w v h g k = g
    by Validate r w v h g k = k

each_has : (at : Pattern) (es : List (Path × Stated (List ℕ))) → AllByRecursion (IsRule at) (flat_map own_rules es) → AllByRecursion (Has at) es
each_has at [] h = tt
each_has at (e ∷ es) h = (has_rules at e (front_of (IsRule at) (own_rules e) (flat_map own_rules es) h), each_has at es (behind_of (IsRule at) (own_rules e) (flat_map own_rules es) h))

built : (at : Pattern) (es : List (Path × Stated (List ℕ))) → AllByRecursion (Has at) es → List (Path × Stated Checked)
built at [] h = []
built at (e ∷ es) h = (e.0, h.0.0) ∷ built at es h.1

built_spelled : (at : Pattern) (es : List (Path × Stated (List ℕ))) (h : AllByRecursion (Has at) es) (p : Path) → SpellsObject (at ++ p) (find path_cmp p es) (find path_cmp p (built at es h))
unfolding built
built_spelled at [] h p = tt
built_spelled at (e ∷ es) h p =
    elim (eq_by_cmp path_cmp p e.0) as (λ b. (b ≡ true → p ≡ e.0) → SpellsObject (at ++ p) (cond b (Some e.1) (find path_cmp p es)) (cond b (Some h.0.0) (find path_cmp p (built at es h.1)))) [
      | true ↦ λ same. subst (λ (q : Path). SpellsObject (at ++ q) (Some e.1) (Some h.0.0)) (sym (same refl)) h.0.1
      | false ↦ λ _. built_spelled at es h.1 p
    ] (same_path p e.0)

-- texts that are rules spell a book
book_of : (texts : TextBook) → AllByRecursion (IsRule []) (rules texts) → (book : Book) × IsSpelled [] texts book
unfolding rules
book_of texts h =
    let es = each_has [] (map_of.entries texts) h in (
      map_of.from_entries (built [] (map_of.entries texts) es),
      λ p.
          subst (λ (o : Option (Stated (List ℕ))). SpellsObject p o (get (map_of.from_entries {R = path_cmp} (built [] (map_of.entries texts) es)) p)) (sym (map_of.get-entries texts p))
          (subst (λ (o : Option (Stated Checked)). SpellsObject p (find path_cmp p (map_of.entries texts)) o) (sym (map_of.get-from_entries paths_total (built [] (map_of.entries texts) es) p)) (built_spelled [] (map_of.entries texts) es p)),
    )

-- ---- the least of some patterns

not_after_itself : (p : Pattern) → is_gt (path_cmp p p) ≡ false
not_after_itself p = ap is_gt (tied_itself paths_total p)

-- what is not after what is not after it
not_after : (p q r : Pattern) → is_gt (path_cmp p q) ≡ false → is_gt (path_cmp q r) ≡ false → is_gt (path_cmp p r) ≡ false
not_after p q r h g = by (path_cmp p q) (path_cmp q r) refl refl h g
  where
    by : (a b : Ordering) → path_cmp p q ≡ a → path_cmp q r ≡ b → is_gt a ≡ false → is_gt b ≡ false → is_gt (path_cmp p r) ≡ false
    by Greater b d e k l = absurd cc
    by a Greater d e k l = absurd cc
    by Equal b d e k l = ap (λ x. is_gt (path_cmp x r)) (exact_paths p q d) ∙ ap is_gt e ∙ l
    by a Equal d e k l = ap (λ x. is_gt (path_cmp p x)) (sym (exact_paths q r e)) ∙ ap is_gt d ∙ k
    by Less Less d e k l = ap is_gt (paths_total.trans p q r d e)

all_not_after : (p q : Pattern) (ps : List Pattern) → is_gt (path_cmp p q) ≡ false → AllByRecursion (λ r. is_gt (path_cmp q r) ≡ false) ps → AllByRecursion (λ r. is_gt (path_cmp p r) ≡ false) ps
all_not_after p q [] h g = tt
all_not_after p q (r ∷ ps) h g = (not_after p q r h g.0, all_not_after p q ps h g.1)

before_it : (p q : Pattern) → is_gt (path_cmp p q) ≡ true → is_gt (path_cmp q p) ≡ false
before_it p q h = ap is_gt (paths_total.antisymm q p) ∙ by (path_cmp p q) h
  where
    by : (o : Ordering) → is_gt o ≡ true → is_gt (ordering_reverse o) ≡ false
    by Less e = absurd cc
    by Equal e = absurd cc
    by Greater e = refl

a_least : (p : Pattern) (ps : List Pattern) → (q : Pattern) × IsLeast q (p ∷ ps)
a_least p [] = (p, record { among = (0, omega arith, refl); least = (not_after_itself p, tt) })
a_least p (r ∷ rs) = by (a_least r rs)
  where
    by : (q : Pattern) × IsLeast q (r ∷ rs) → (q : Pattern) × IsLeast q (p ∷ r ∷ rs)
    by l = elim (is_gt (path_cmp p l.0)) as (λ b. is_gt (path_cmp p l.0) ≡ b → (q : Pattern) × IsLeast q (p ∷ r ∷ rs)) [
      | true ↦ λ e. (l.0, record { among = (suc l.1.among.0, (let within = l.1.among.1 in omega arith), l.1.among.2); least = (before_it p l.0 e, l.1.least) })
      | false ↦ λ e. (p, record { among = (0, omega arith, refl); least = (not_after_itself p, all_not_after p l.0 (r ∷ rs) e l.1.least) })
    ] refl

-- a pattern with these texts
pattern_of : Pattern → parts.Pattern
pattern_of [] = []
pattern_of (p ∷ ps) = part_of_text p ∷ pattern_of ps

text_of_part : (p : PartText) → part_text (part_of_text p) ≡ p
text_of_part [] = refl
text_of_part (sign ∷ name) = elim (sign == 36) as (λ b. sign == 36 ≡ b → part_text (cond b (parts.capture name) (parts.literal (sign ∷ name))) ≡ sign ∷ name) [
  | true ↦ λ e. ap (λ c. c ∷ name) (sym (eqb-true sign 36 e))
  | false ↦ λ e. refl
] refl

texts_of_pattern : (ps : Pattern) → texts (pattern_of ps) ≡ ps
unfolding pattern_of
texts_of_pattern [] = refl
texts_of_pattern (p ∷ ps) = λ i. text_of_part p i ∷ texts_of_pattern ps i

-- ---- a whole file

-- a book, or a refusal that is not for want of memory
abbrev pub AnsweredFile : List ℕ → Type 0
AnsweredFile bytes = ((book : Book) × States bytes book) ⊎ ((fault : RulesFault) × Refuses bytes fault × (fault ≢ NoMemory))

module _ (bytes : List ℕ) where
  misshaped : (json : Data) → ReadsAs bytes (Some json) → (p : Pattern) (ps : List Pattern) → faults json ≡ p ∷ ps → AnsweredFile bytes
  misshaped json reads p ps e =
      let l = a_least p ps in
      inr (
        BadRulesShape (pattern_of l.0),
        subst (λ (q : Pattern). IsBadShape bytes q) (sym (texts_of_pattern l.0)) (record { json = json; reads = reads; least = subst (λ (qs : List Pattern). IsLeast l.0 qs) (sym e) l.1 }),
        λ m. cc,
      )

  ruled : (texts : TextBook) → IsShaped bytes texts → length (rules texts) ≤ MAX_RULES → AllRuled [] (rules texts) → AnsweredFile bytes
  ruled texts s few (inl all) = let b = book_of texts all in inl (b.0, record { texts = texts; shaped = s; few = few; spelled = b.1 })
  ruled t s few (inr b) = inr (
    BadRule (record { pattern = pattern_of b.0; kind = b.1 }) b.2,
    subst (λ (q : Pattern). HasBadRule bytes q b.1 b.2) (sym (texts_of_pattern b.0)) (record { texts = t; shaped = s; few = few; first = b.3 }),
    λ m. cc,
  )

  counted : (texts : TextBook) → IsShaped bytes texts → AnsweredFile bytes
  counted texts s = elim (leb_tells (length (rules texts)) MAX_RULES) [
    | inl few ↦ ruled texts s few.1 (each_ruled [] (rules texts))
    | inr many ↦ inr (TooManyRules, record { texts = texts; shaped = s; many = many.1 }, λ m. cc)
  ]

  by_faults : (json u : Data) → ReadsAs bytes (Some json) → top json ≡ Some u → (ps : List Pattern) → faulty [] u ≡ ps → AnsweredFile bytes
  by_faults json u reads is [] e = counted (texts_of u) (shaped bytes json u reads is e)
  by_faults json u reads is (p ∷ ps) e = misshaped json reads p ps (ap (λ (o : Option Data). option_map_or (faulty []) o ([] ∷ [])) is ∙ e)

  by_top : (json : Data) → ReadsAs bytes (Some json) → (o : Option Data) → top json ≡ o → AnsweredFile bytes
  by_top json reads None is = misshaped json reads [] [] (ap (λ (o : Option Data). option_map_or (faulty []) o ([] ∷ [])) is)
  by_top json reads (Some u) is = by_faults json u reads is (faulty [] u) refl

  by_json : (text : List ℕ) → IsPlain bytes text → (o : Option Data) → json_of text ≡ o → AnsweredFile bytes
  by_json text plain None is = inr (BadRulesJson, text_reads bytes text None plain is, λ m. cc)
  by_json text plain (Some json) is = by_top json (text_reads bytes text (Some json) plain is) (top json) refl

  -- each file states a book, or is refused
  pub each_file : AnsweredFile bytes
  each_file = let p = has_plain bytes in by_json p.0 p.1 (json_of p.0) refl
