-- A file states at most one book, or is refused for at most one reason.
use Rattle.std.proofs.Common.{◌≡◌, ◌≢◌, ◌⊎◌, inl, inr, ℕ, ◌≤◌, ◌<◌, Bool, true, false, cond, T, List, [], ◌∷◌, ◌++◌, length, get_or, zero, suc, Option, Some, None, sym, ap, ◌∙◌, subst, refl, arith}
use Rattle.std.specs.List.{AllByRecursion, Contains, flat_map}
use Rattle.std.specs.FinMap as map_of
use Rattle.std.specs.FinMap.{find, is_sorted}
use Rattle.std.specs.FinMap.Entries.{below_all}
use Rattle.std.specs.Option.{option_map_or}
use Rattle.std.specs.Cmp.{first_so, second_so}
use Rattle.std.proofs.lemmas.Bool.{false≢true}
use Rattle.std.specs.Ordering.{is_gt, is_lt, is_eq, eq_by_cmp, ordering_reverse}
use Rattle.std.specs.declared.cmp.Ordering.{Ordering}
use Rattle.std.specs.declared.cmp.Ordering.TheVariants.{Less, Equal, Greater}
use Rattle.serde_json.specs.Data.{Data}
use Rattle.expr_tokens.specs.declared.fault.ExprFault.{ExprFault}
use Rattle.expr_tokens.specs.declared.fault.ExprFault.TheVariants as text_fault
use Rattle.expr_parser.specs.Tree.{SyntaxTree}
use Rattle.expr_parser.specs.Text.{RefusedText}
use Rattle.expr_parser.proofs.Placed.{one_expression}
use Rattle.expr_parser.proofs.Refusals.{one_refusal, none_of_spelled}
use Rattle.expr_types.specs.Checked.{Checked}
use Rattle.expr_types.specs.declared.fault.TypeFault.{TypeFault}
use Rattle.expr_types.specs.declared.fault.TypeFault.TheVariants as type_fault
use Rattle.expr_types.specs.Faults.{IsRefused}
use Rattle.expr_types.proofs.Answered.{not_both, same_refusal}
use Rattle.tree_model.specs.Path.{Path, path_cmp}
use Rattle.tree_model.specs.PathMap.{get}
use Rattle.tree_model.proofs.Lookups.{same_tree}
use Rattle.tree_model.proofs.Orders.{paths_total, exact_paths, same_path, path_eq-self}
use Rattle.rules_reader.specs.Part.{Pattern, texts}
use Rattle.rules_reader.specs.Book.{Stated, Book, TextBook, RuleOf, own_rules, rules, stated}
use Rattle.rules_reader.specs.declared.limits.TheConstants.{MAX_RULES}
use Rattle.rules_reader.specs.declared.kind.Kind.{Kind}
use Rattle.rules_reader.specs.declared.kind.Kind.TheVariants.{Read, Write, Validate}
use Rattle.rules_reader.specs.declared.fault.RuleFault.{RuleFault}
use Rattle.rules_reader.specs.declared.fault.RuleFault.TheVariants.{BadExpression, NotInProfile, TypeError, UnknownName}
use Rattle.rules_reader.specs.declared.fault.LeftOut.TheVariants.{Sign, Name}
use Rattle.rules_reader.specs.declared.fault.RulesFault.{RulesFault}
use Rattle.rules_reader.specs.declared.fault.RulesFault.TheVariants.{BadRulesJson, BadRulesShape, TooManyRules, BadRule, NoMemory}
use Rattle.rules_reader.specs.declared.rule_text.Unread.TheVariants as unread
use Rattle.rules_reader.specs.Unread.{of_expr_fault, of_type_fault}
use Rattle.rules_reader.specs.Spelled.{place_of, capture_names, SpellsRule, IsMisplaced, IsNoRule, SpellsOptional, SpellsObject, IsSpelled, IsRule, IsFirstBad}
use Rattle.rules_reader.specs.File.{ReadsAs, top, faulty, faults, texts_of, IsLeast, IsShaped, States, IsBadShape, HasTooManyRules, json_of}
use Rattle.rules_reader.specs.Refusal.{Refuses, bad_shape, bad_rule, reason}
use Rattle.rules_reader.proofs.Cuts.{one_plain}
use Rattle.rules_reader.proofs.RulesBelow.{lawful_append}

-- ---- one rule

same_checked : (c d : Checked) → c.tree ≡ d.tree → c.place ≡ d.place → c ≡ d
same_checked c d t p = λ i. record { tree = t i; place = p i }

module _ (at : Pattern) (kind : Kind) (text : List ℕ) where
  one_rule : (c d : Checked) → SpellsRule at kind text c → SpellsRule at kind text d → c ≡ d
  one_rule c d h g = same_checked c d (one_expression text c.tree d.tree h.spelled g.spelled) (h.lawful.place ∙ sym g.lawful.place)

  -- why a text is no rule: it spells no expression, or one that may not stand there
  abbrev Cause : RuleFault → Type 0
  Cause fault = ((d : ExprFault) × RefusedText text d × (of_expr_fault d ≡ unread.NoRule fault)) ⊎ ((e : TypeFault) × IsMisplaced at kind text e × (of_type_fault e ≡ unread.NoRule fault))

  cause : (fault : RuleFault) → IsNoRule at kind text fault → Cause fault
  cause (BadExpression byte) h = inl (text_fault.BadExpression byte, h, refl)
  cause (NotInProfile (Sign excluded)) h = inl (text_fault.NotInProfile excluded, h, refl)
  cause (NotInProfile (Name name)) h = inr (type_fault.NotInProfile name, h, refl)
  cause TypeError h = inr (type_fault.TypeError, h, refl)
  cause (UnknownName name) h = inr (type_fault.UnknownName name, h, refl)

  not_memory : (d : ExprFault) (fault : RuleFault) → of_expr_fault d ≡ unread.NoRule fault → d ≢ text_fault.NoMemory
  not_memory d fault e m = let none : unread.NoMemory ≡ unread.NoRule fault = sym (ap of_expr_fault m) ∙ e in cc

  both_causes : (f g : RuleFault) → Cause f → Cause g → f ≡ g
  both_causes f g (inl a) (inl b) = let same : a.0 ≡ b.0 = one_refusal text a.0 b.0 a.1 b.1 (not_memory a.0 f a.2) (not_memory b.0 g b.2) in let e : unread.NoRule f ≡ unread.NoRule g = sym a.2 ∙ ap of_expr_fault same ∙ b.2 in cc
  both_causes f g (inl a) (inr b) = absurd (not_memory a.0 f a.2 (none_of_spelled text b.1.tree a.0 b.1.spelled a.1))
  both_causes f g (inr a) (inl b) = absurd (not_memory b.0 g b.2 (none_of_spelled text a.1.tree b.0 a.1.spelled b.1))
  both_causes f g (inr a) (inr b) =
      let tree : a.1.tree ≡ b.1.tree = one_expression text a.1.tree b.1.tree a.1.spelled b.1.spelled in
      let same : a.0 ≡ b.0 = same_refusal (place_of kind) (capture_names at) b.1.tree a.0 b.0 (subst (λ (x : SyntaxTree). IsRefused (place_of kind) (capture_names at) x a.0) tree a.1.refused) b.1.refused in
      let e : unread.NoRule f ≡ unread.NoRule g = sym a.2 ∙ ap of_type_fault same ∙ b.2 in cc

  one_cause : (f g : RuleFault) → IsNoRule at kind text f → IsNoRule at kind text g → f ≡ g
  one_cause f g h k = both_causes f g (cause f h) (cause g k)

  no_cause : (c : Checked) (f : RuleFault) → SpellsRule at kind text c → Cause f → ⊥
  no_cause c f h (inl a) = not_memory a.0 f a.2 (none_of_spelled text c.tree a.0 h.spelled a.1)
  no_cause c f h (inr a) =
      let tree : a.1.tree ≡ c.tree = one_expression text a.1.tree c.tree a.1.spelled h.spelled in
      not_both (place_of kind) (capture_names at) c.tree a.0 h.lawful.sorted (subst (λ (x : SyntaxTree). IsRefused (place_of kind) (capture_names at) x a.0) tree a.1.refused)

-- ---- the rules of a file

one_optional : (at : Pattern) (kind : Kind) (t : Option (List ℕ)) (c d : Option Checked) → SpellsOptional at kind t c → SpellsOptional at kind t d → c ≡ d
one_optional at kind None None None h g = refl
one_optional at kind None None (Some d) h g = absurd g
one_optional at kind None (Some c) d h g = absurd h
one_optional at kind (Some t) None d h g = absurd h
one_optional at kind (Some t) (Some c) None h g = absurd g
one_optional at kind (Some t) (Some c) (Some d) h g = ap (λ (x : Checked). Some x) (one_rule at kind t c d h g)

one_object : (at : Pattern) (t : Option (Stated (List ℕ))) (c d : Option (Stated Checked)) → SpellsObject at t c → SpellsObject at t d → c ≡ d
one_object at None None None h g = refl
one_object at None None (Some d) h g = absurd g
one_object at None (Some c) d h g = absurd h
one_object at (Some t) None d h g = absurd h
one_object at (Some t) (Some c) None h g = absurd g
one_object at (Some t) (Some c) (Some d) h g =
    let same : c ≡ d = λ i. record {
      read = one_optional at Read t.read c.read d.read (h Read) (g Read) i;
      write = one_optional at Write t.write c.write d.write (h Write) (g Write) i;
      validate = one_optional at Validate t.validate c.validate d.validate (h Validate) (g Validate) i;
    } in ap (λ (x : Stated Checked). Some x) same

one_book : (at : Pattern) (t : TextBook) (a b : Book) → IsSpelled at t a → IsSpelled at t b → a ≡ b
one_book at t a b h g = same_tree a b (λ q. one_object (at ++ q) (get t q) (get a q) (get b q) (h q) (g q))

-- ---- the first that is invalid

not_both_rules : (at : Pattern) (rule : RuleOf (List ℕ)) (fault : RuleFault) → IsRule at rule → IsNoRule (at ++ rule.0) rule.1 rule.2 fault → ⊥
not_both_rules at rule fault is why = no_cause (at ++ rule.0) rule.1 rule.2 is.0 fault is.1 (cause (at ++ rule.0) rule.1 rule.2 fault why)

-- the first that is invalid stands behind as many as another first
same_first : (at : Pattern) (before others : List (RuleOf (List ℕ))) (r s : RuleOf (List ℕ)) (after rest : List (RuleOf (List ℕ))) (f g : RuleFault)
    → before ++ r ∷ after ≡ others ++ s ∷ rest → AllByRecursion (IsRule at) before → AllByRecursion (IsRule at) others → IsNoRule (at ++ r.0) r.1 r.2 f → IsNoRule (at ++ s.0) s.1 s.2 g → r ≡ s
same_first at [] [] r s after rest f g e h k x y = cc
same_first at [] (b ∷ bs) r s after rest f g e h k x y = let same : b ≡ r = cc in absurd (not_both_rules at r f (subst (IsRule at) same k.0) x)
same_first at (b ∷ bs) [] r s after rest f g e h k x y = let same : b ≡ s = cc in absurd (not_both_rules at s g (subst (IsRule at) same h.0) y)
same_first at (b ∷ bs) (d ∷ ds) r s after rest f g e h k x y = same_first at bs ds r s after rest f g (cc) h.1 k.1 x y

-- where all texts are rules, so is any one of them
all_rules : (at : Pattern) (before : List (RuleOf (List ℕ))) (r : RuleOf (List ℕ)) (after : List (RuleOf (List ℕ))) → AllByRecursion (IsRule at) (before ++ r ∷ after) → IsRule at r
all_rules at [] r after h = h.0
all_rules at (b ∷ bs) r after h = all_rules at bs r after h.1

module _ (at : Pattern) (rs : List (RuleOf (List ℕ))) where
  why_of : (p : Pattern) (k : Kind) (f : RuleFault) (b : IsFirstBad at rs p k f) → IsNoRule (at ++ b.rule.0) b.rule.1 b.rule.2 f
  why_of p k f b = subst (λ (x : Kind). IsNoRule (at ++ b.rule.0) x b.rule.2 f) b.kind_is (subst (λ (q : Pattern). IsNoRule q k b.rule.2 f) b.pattern_is b.why)

  one_first : (p q : Pattern) (k l : Kind) (f g : RuleFault) → IsFirstBad at rs p k f → IsFirstBad at rs q l g → bad_rule p k f ≡ bad_rule q l g
  one_first p q k l f g a b =
      let same : a.rule ≡ b.rule = same_first at a.before b.before a.rule b.rule a.after b.after f g (sym a.among ∙ b.among) a.lawful b.lawful (why_of p k f a) (why_of q l g b) in
      let pattern : p ≡ q = a.pattern_is ∙ ap (λ (r : RuleOf (List ℕ)). at ++ r.0) same ∙ sym b.pattern_is in
      let kind : k ≡ l = a.kind_is ∙ ap (λ (r : RuleOf (List ℕ)). r.1) same ∙ sym b.kind_is in
      let why : IsNoRule (at ++ b.rule.0) b.rule.1 b.rule.2 f = subst (λ (r : RuleOf (List ℕ)). IsNoRule (at ++ r.0) r.1 r.2 f) same (why_of p k f a) in
      let fault : f ≡ g = one_cause (at ++ b.rule.0) b.rule.1 b.rule.2 f g why (why_of q l g b) in
      λ i. bad_rule (pattern i) (kind i) (fault i)

  not_first : (p : Pattern) (k : Kind) (f : RuleFault) → AllByRecursion (IsRule at) rs → IsFirstBad at rs p k f → ⊥
  not_first p k f h b = not_both_rules at b.rule f (all_rules at b.before b.rule b.after (subst (AllByRecursion (IsRule at)) b.among h)) (why_of p k f b)

-- ---- what is spelled are rules

-- each entry is found under its path
record Found (es : List (Path × Stated (List ℕ))) (e : Path × Stated (List ℕ)) : Type 0 where
  pub is : find path_cmp e.0 es ≡ Some e.1

below_none : (q : Path) (es : List (Path × Stated (List ℕ))) → below_all path_cmp q es ≡ true → find path_cmp q es ≡ None
below_none q [] h = refl
below_none q (e ∷ es) h = ap (λ b. cond b (Some e.1) (find path_cmp q es)) (less_is_no_tie (path_cmp q e.0) (first_so _ _ h)) ∙ below_none q es (second_so _ _ h)
  where
    less_is_no_tie : (r : Ordering) → is_lt r ≡ true → is_eq r ≡ false
    less_is_no_tie Less g = refl
    less_is_no_tie Equal g = absurd (false≢true g)
    less_is_no_tie Greater g = refl

found_later : (e : Path × Stated (List ℕ)) (es fs : List (Path × Stated (List ℕ))) → find path_cmp e.0 es ≡ None → AllByRecursion (Found es) fs → AllByRecursion (Found (e ∷ es)) fs
found_later e es [] none h = tt
found_later e es (f ∷ fs) none h = (record { is = by (eq_by_cmp path_cmp f.0 e.0) refl }, found_later e es fs none h.1)
  where
    by : (b : Bool) → eq_by_cmp path_cmp f.0 e.0 ≡ b → cond b (Some e.1) (find path_cmp f.0 es) ≡ Some f.1
    by true g = let here = h.0.is in let same : find path_cmp f.0 es ≡ None = ap (λ q. find path_cmp q es) (same_path f.0 e.0 g) ∙ none in cc
    by false g = h.0.is

each_found : (es : List (Path × Stated (List ℕ))) → is_sorted path_cmp es ≡ true → AllByRecursion (Found es) es
each_found [] h = tt
each_found (e ∷ es) h = (record { is = ap (λ b. cond b (Some e.1) (find path_cmp e.0 es)) (path_eq-self e.0) }, found_later e es es (below_none e.0 es (first_so _ _ h)) (each_found es (second_so _ _ h)))

spelled_one : (at : Pattern) (p : Path) (kind : Kind) (t : Option (List ℕ)) (c : Option Checked) → SpellsOptional (at ++ p) kind t c → AllByRecursion (IsRule at) (stated p kind t)
spelled_one at p kind None None h = tt
spelled_one at p kind None (Some c) h = absurd h
spelled_one at p kind (Some t) None h = absurd h
spelled_one at p kind (Some t) (Some c) h = ((c, h), tt)

spelled_own : (at : Pattern) (p : Path) (t : Stated (List ℕ)) (o : Option (Stated Checked)) → SpellsObject (at ++ p) (Some t) o → AllByRecursion (IsRule at) (own_rules (p, t))
spelled_own at p t None h = absurd h
spelled_own at p t (Some c) h =
    lawful_append at (stated p Read t.read ++ stated p Validate t.validate) (stated p Write t.write)
    (lawful_append at (stated p Read t.read) (stated p Validate t.validate) (spelled_one at p Read t.read c.read (h Read)) (spelled_one at p Validate t.validate c.validate (h Validate)))
    (spelled_one at p Write t.write c.write (h Write))

spelled_entries : (at : Pattern) (t : TextBook) (b : Book) (es : List (Path × Stated (List ℕ))) → IsSpelled at t b → AllByRecursion (λ e. get t e.0 ≡ Some e.1) es → AllByRecursion (IsRule at) (flat_map own_rules es)
spelled_entries at t b [] s h = tt
spelled_entries at t b (e ∷ es) s h =
    lawful_append at (own_rules e) (flat_map own_rules es)
    (spelled_own at e.0 e.1 (get b e.0) (subst (λ (o : Option (Stated (List ℕ))). SpellsObject (at ++ e.0) o (get b e.0)) h.0 (s e.0)))
    (spelled_entries at t b es s h.1)

so_true : (b : Bool) → T b → b ≡ true
so_true true h = refl
so_true false h = absurd h

each_got : (t : TextBook) (es : List (Path × Stated (List ℕ))) → AllByRecursion (Found (map_of.entries t)) es → AllByRecursion (λ e. get t e.0 ≡ Some e.1) es
each_got t [] h = tt
each_got t (e ∷ es) h = (map_of.get-entries t e.0 ∙ h.0.is, each_got t es h.1)

pub all_spelled : (at : Pattern) (t : TextBook) (b : Book) → IsSpelled at t b → AllByRecursion (IsRule at) (rules t)
unfolding rules
all_spelled at t b s = spelled_entries at t b (map_of.entries t) s (each_got t (map_of.entries t) (each_found (map_of.entries t) (so_true _ (map_of.entries_sorted t))))

-- ---- a whole file

no_json_at_once : (bytes : List ℕ) (j : Data) → ReadsAs bytes None → ReadsAs bytes (Some j) → ⊥
no_json_at_once bytes j h g = let same = ap json_of (one_plain bytes h.text g.text h.plain g.plain) in let a = h.json_is in let b = g.json_is in cc

one_json : (bytes : List ℕ) (j k : Data) → ReadsAs bytes (Some j) → ReadsAs bytes (Some k) → j ≡ k
one_json bytes j k h g = let same = ap json_of (one_plain bytes h.text g.text h.plain g.plain) in let a = h.json_is in let b = g.json_is in cc

same_texts : (bytes : List ℕ) (t u : TextBook) → IsShaped bytes t → IsShaped bytes u → t ≡ u
same_texts bytes t u h g =
    let json = one_json bytes h.json g.json h.reads g.reads in
    let top_is : Some h.under_rules ≡ Some g.under_rules = sym h.is_top ∙ ap top json ∙ g.is_top in
    let same : h.under_rules ≡ g.under_rules = cc in
    h.stated ∙ ap texts_of same ∙ sym g.stated

at_contained : (P : Pattern → Type 0) (ps : List Pattern) (p : Pattern) (k : ℕ) → k < length ps → get_or ps k p ≡ p → AllByRecursion P ps → P p
at_contained P [] p k l e h = absurd (omega arith)
at_contained P (q ∷ ps) p zero l e h = subst P e h.0
at_contained P (q ∷ ps) p (suc k) l e h = at_contained P ps p k (omega arith) e h.1

one_least : (p q : Pattern) (ps : List Pattern) → IsLeast p ps → IsLeast q ps → p ≡ q
one_least p q ps h g =
    by (path_cmp p q) refl
    (at_contained (λ x. is_gt (path_cmp p x) ≡ false) ps q g.among.0 g.among.1 g.among.2 h.least)
    (ap is_gt (sym (paths_total.antisymm q p)) ∙ at_contained (λ x. is_gt (path_cmp q x) ≡ false) ps p h.among.0 h.among.1 h.among.2 g.least)
  where
    by : (r : Ordering) → path_cmp p q ≡ r → is_gt (path_cmp p q) ≡ false → is_gt (ordering_reverse (path_cmp p q)) ≡ false → p ≡ q
    by Less e a b = let more : true ≡ false = ap (λ r. is_gt (ordering_reverse r)) (sym e) ∙ b in cc
    by Equal e a b = exact_paths p q e
    by Greater e a b = let more : true ≡ false = ap is_gt (sym e) ∙ a in cc

no_fault_of_shaped : (bytes : List ℕ) (p : Pattern) (t : TextBook) → IsBadShape bytes p → IsShaped bytes t → ⊥
no_fault_of_shaped bytes p t h g =
    let none : faults h.json ≡ [] = ap faults (one_json bytes h.json g.json h.reads g.reads) ∙ ap (λ (o : Option Data). option_map_or (faulty []) o ([] ∷ [])) g.is_top ∙ g.sound in
    let among = subst (λ (ps : List Pattern). Contains ps p) none h.least.among in
    let within : among.0 < 0 = among.1 in omega arith

too_many_and_few : (bytes : List ℕ) (t : TextBook) → HasTooManyRules bytes → IsShaped bytes t → length (rules t) ≤ MAX_RULES → ⊥
too_many_and_few bytes t h g few = let same = ap (λ (u : TextBook). length (rules u)) (same_texts bytes h.texts t h.shaped g) in let many = h.many in omega arith

pub states_one : (bytes : List ℕ) (a b : Book) → States bytes a → States bytes b → a ≡ b
states_one bytes a b h g = one_book [] g.texts a b (subst (λ (t : TextBook). IsSpelled [] t a) (same_texts bytes h.texts g.texts h.shaped g.shaped) h.spelled) g.spelled

pub one_reason : (bytes : List ℕ) (d e : RulesFault) → Refuses bytes d → Refuses bytes e → d ≢ NoMemory → e ≢ NoMemory → reason d ≡ reason e
one_reason bytes NoMemory e h g m n = absurd (m refl)
one_reason bytes BadRulesJson NoMemory h g m n = absurd (n refl)
one_reason bytes (BadRulesShape p) NoMemory h g m n = absurd (n refl)
one_reason bytes TooManyRules NoMemory h g m n = absurd (n refl)
one_reason bytes (BadRule r f) NoMemory h g m n = absurd (n refl)
one_reason bytes BadRulesJson BadRulesJson h g m n = refl
one_reason bytes BadRulesJson (BadRulesShape p) h g m n = absurd (no_json_at_once bytes g.json h g.reads)
one_reason bytes BadRulesJson TooManyRules h g m n = absurd (no_json_at_once bytes g.shaped.json h g.shaped.reads)
one_reason bytes BadRulesJson (BadRule r f) h g m n = absurd (no_json_at_once bytes g.shaped.json h g.shaped.reads)
one_reason bytes (BadRulesShape p) BadRulesJson h g m n = absurd (no_json_at_once bytes h.json g h.reads)
one_reason bytes (BadRulesShape p) (BadRulesShape q) h g m n =
    let json = one_json bytes h.json g.json h.reads g.reads in
    ap bad_shape (one_least (texts p) (texts q) (faults g.json) (subst (λ (j : Data). IsLeast (texts p) (faults j)) json h.least) g.least)
one_reason bytes (BadRulesShape p) TooManyRules h g m n = absurd (no_fault_of_shaped bytes (texts p) g.texts h g.shaped)
one_reason bytes (BadRulesShape p) (BadRule r f) h g m n = absurd (no_fault_of_shaped bytes (texts p) g.texts h g.shaped)
one_reason bytes TooManyRules BadRulesJson h g m n = absurd (no_json_at_once bytes h.shaped.json g h.shaped.reads)
one_reason bytes TooManyRules (BadRulesShape q) h g m n = absurd (no_fault_of_shaped bytes (texts q) h.texts g h.shaped)
one_reason bytes TooManyRules TooManyRules h g m n = refl
one_reason bytes TooManyRules (BadRule r f) h g m n = absurd (too_many_and_few bytes g.texts h g.shaped g.few)
one_reason bytes (BadRule r f) BadRulesJson h g m n = absurd (no_json_at_once bytes h.shaped.json g h.shaped.reads)
one_reason bytes (BadRule r f) (BadRulesShape q) h g m n = absurd (no_fault_of_shaped bytes (texts q) h.texts g h.shaped)
one_reason bytes (BadRule r f) TooManyRules h g m n = absurd (too_many_and_few bytes h.texts g h.shaped h.few)
one_reason bytes (BadRule r f) (BadRule s e) h g m n =
    let same = same_texts bytes h.texts g.texts h.shaped g.shaped in
    one_first [] (rules g.texts) (texts r.pattern) (texts s.pattern) r.kind s.kind f e (subst (λ (t : TextBook). IsFirstBad [] (rules t) (texts r.pattern) r.kind f) same h.first) g.first

pub never_both : (bytes : List ℕ) (book : Book) (fault : RulesFault) → States bytes book → Refuses bytes fault → fault ≡ NoMemory
never_both bytes book BadRulesJson h g = absurd (no_json_at_once bytes h.shaped.json g h.shaped.reads)
never_both bytes book (BadRulesShape p) h g = absurd (no_fault_of_shaped bytes (texts p) h.texts g h.shaped)
never_both bytes book TooManyRules h g = absurd (too_many_and_few bytes h.texts g h.shaped h.few)
never_both bytes book (BadRule r f) h g =
    let same = same_texts bytes h.texts g.texts h.shaped g.shaped in
    absurd (not_first [] (rules g.texts) (texts r.pattern) r.kind f (subst (λ (t : TextBook). AllByRecursion (IsRule []) (rules t)) same (all_spelled [] h.texts book h.spelled)) g.first)
never_both bytes book NoMemory h g = refl
