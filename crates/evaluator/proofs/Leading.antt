-- Of two texts with a slash between them, the second leads on from where the first leads.
use Rattle.std.proofs.Common.{◌≡◌, ◌⊎◌, inl, inr, ℕ, ◌+◌, ◌≤◌, ◌<◌, ◌==◌, List, [], ◌∷◌, ◌++◌, length, take, drop, get_or, ◌-◌, subst, Bool, true, false, cond, not, ◌&&◌, nat_le, Option, Some, None, Result, Ok, Err, Global, refl, sym, ◌∙◌, ap, arith, append_assoc, length-append}
use Rattle.std.specs.Borrow.{Bor}
use Rattle.std.specs.Prelude.{option_map}
use Rattle.std.specs.declared.boxed.Box.{Box}
use Rattle.std.specs.Option.{option_and_then}
use Rattle.std.specs.List.{list_all}
use Rattle.std.specs.Fmt.{signed_decimal}
use Rattle.std.proofs.Math.Seq.{take-append_seam}
use Rattle.std.proofs.lemmas.Bool.Decides.{nat_tests}
use Rattle.std.proofs.lemmas.List.{append-nil}
use Rattle.std.proofs.lemmas.List.Elements.{filter-append}
use Rattle.std.proofs.lemmas.List.Folds.{list_all-append}
use Rattle.std.proofs.lemmas.List.Splits.{length-slice_split}
use Rattle.std.specs.List.{onto_first}
use Rattle.tree_model.specs.declared.limits.TheConstants.{MAX_DEPTH, MAX_TEXT_BYTES}
use Rattle.tree_model.specs.Key.{Key, is_key}
use Rattle.path_capture.specs.Path.{pieces, segments}
use Rattle.path_capture.proofs.Segments.{named}
use Rattle.expr_tokens.specs.declared.operator.Operator.{Operator}
use Rattle.expr_tokens.specs.declared.operator.Operator.TheVariants.{Add}
use Rattle.expr_parser.specs.declared.expr.Expr.{Expr, Operation}
use Rattle.expr_parser.specs.Tree as t
use Rattle.expr_parser.specs.View.{view}
use Rattle.evaluator.specs.declared.value.Stop.{Stop}
use Rattle.evaluator.specs.Value.{Value, null, truth, whole, words, sentinel, a_record, Snapshot, as_value}
use Rattle.evaluator.specs.Snapshot.{child_at}
use Rattle.evaluator.specs.Operators.{plus, text_within}
use Rattle.evaluator.specs.Calls.{child_of}
use Rattle.evaluator.specs.Env.{Env}
use Rattle.evaluator.specs.Mean.{mean}
use Rattle.evaluator.proofs.Placed.{value_of_values}
use Rattle.evaluator.specs.Working.Answers.{Gives}
use Rattle.evaluator.specs.Working.Seams.{BeginsBelow, EndsBelow, IsSeam, text_of, led, led_by}

-- ---- segments

onto_first-append : (x : ℕ) (ps qs : List Key) → 0 < length ps → onto_first x (ps ++ qs) ≡ onto_first x ps ++ qs
onto_first-append x [] qs some = absurd (omega arith)
onto_first-append x (p ∷ ps) qs some = refl

some_piece : (a : List ℕ) → 0 < length (pieces a)
some_piece a = omega (arith, length-slice_split (λ b. b == 47) a)

pieces-seam : (a b : List ℕ) → pieces (a ++ 47 ∷ b) ≡ pieces a ++ pieces b
pieces-seam [] b = refl
pieces-seam (x ∷ a) b =
    elim (x == 47) as (λ (s : Bool). cond s ([] ∷ pieces (a ++ 47 ∷ b)) (onto_first x (pieces (a ++ 47 ∷ b))) ≡ cond s ([] ∷ pieces a) (onto_first x (pieces a)) ++ pieces b) [
      | true ↦ ap (λ (ps : List Key). [] ∷ ps) (pieces-seam a b)
      | false ↦ ap (onto_first x) (pieces-seam a b) ∙ onto_first-append x (pieces a) (pieces b) (some_piece a)
    ]

segments-seam : (a b : List ℕ) → segments (a ++ 47 ∷ b) ≡ segments a ++ segments b
segments-seam a b = ap named (pieces-seam a b) ∙ filter-append (λ p. not (length p == 0)) (pieces a) (pieces b)

-- a slash at either end adds nothing
segments-before : (a : List ℕ) → segments (a ++ 47 ∷ []) ≡ segments a
segments-before a = segments-seam a [] ∙ append-nil (segments a)

-- what is left where it is cut off
pub segments-cut_end : (text cut : List ℕ) → ((front : List ℕ) × (text ≡ front ++ 47 ∷ [])) → cut ≡ take (length text - 1) text → segments cut ≡ segments text
segments-cut_end text cut ends e =
    let long : length text - 1 ≡ length ends.0 = omega (arith, length-append ends.0 (47 ∷ []), ap length ends.1) in
    ap segments (e ∙ ap (λ n. take n text) long ∙ ap (take (length ends.0)) ends.1 ∙ take-append_seam ends.0 (47 ∷ []))
    ∙ sym (segments-before ends.0)
    ∙ ap segments (sym ends.1)

pub segments-cut_begin : (text cut : List ℕ) → ((rest : List ℕ) × (text ≡ 47 ∷ rest)) → cut ≡ drop 1 text → segments cut ≡ segments text
segments-cut_begin text cut begins e =
    ap segments (e ∙ ap (drop 1) begins.1)
    ∙ ap segments (sym begins.1)

-- it is an ASCII byte
pub slash_first : (text : List ℕ) → ((rest : List ℕ) × (text ≡ 47 ∷ rest)) → (0 < length text) × (get_or text 0 0 < 128)
slash_first text begins =
    let long : length text ≡ length (47 ∷ begins.0) = ap length begins.1 in
    let first : get_or text 0 0 ≡ 47 = ap (λ (t : List ℕ). get_or t 0 0) begins.1 in
    (omega arith, omega arith)

-- a slash stands between both
abbrev pub IsParted : List ℕ → List ℕ → Type 0
IsParted a b = ((rest : List ℕ) × (b ≡ 47 ∷ rest)) ⊎ ((front : List ℕ) × (a ≡ front ++ 47 ∷ []))

segments-append : (a b : List ℕ) → IsParted a b → segments (a ++ b) ≡ segments a ++ segments b
segments-append a b (inl begins) =
    ap (λ y. segments (a ++ y)) begins.1
    ∙ segments-seam a begins.0
    ∙ ap (λ y. segments a ++ segments y) (sym begins.1)
segments-append a b (inr ends) =
    ap (λ x. segments (x ++ b)) ends.1
    ∙ ap segments (append_assoc ends.0 (47 ∷ []) b)
    ∙ segments-seam ends.0 b
    ∙ ap (λ ks. ks ++ segments b) (sym (segments-before ends.0) ∙ ap segments (sym ends.1))

-- ---- locations

-- where these keys lead
abbrev reached : Snapshot → List Key → Option Snapshot
reached s ks = cond (list_all is_key ks && nat_le (length s.1 + length ks) MAX_DEPTH) (Some (s.0, s.1 ++ ks)) None

no_room : (b : Bool) (n : ℕ) → nat_le n MAX_DEPTH ≡ false → (m : ℕ) → n ≤ m → (b && nat_le m MAX_DEPTH) ≡ false
no_room true n h m more = grind (arith, nat_tests)
no_room false n h m more = refl

reached-append : (s : Snapshot) (ks ls : List Key) → reached s (ks ++ ls) ≡ option_and_then (λ t. reached t ls) (reached s ks)
reached-append s ks ls =
    ap (λ b. cond (b && nat_le (length s.1 + length (ks ++ ls)) MAX_DEPTH) (Some (s.0, s.1 ++ (ks ++ ls))) None) (list_all-append is_key ks ls)
    ∙ ap (λ n. cond ((list_all is_key ks && list_all is_key ls) && nat_le (length s.1 + n) MAX_DEPTH) (Some (s.0, s.1 ++ (ks ++ ls))) None) (length-append ks ls)
    ∙ by_keys (list_all is_key ks) (nat_le (length s.1 + length ks) MAX_DEPTH) refl
  where
    by_keys : (a b : Bool) → nat_le (length s.1 + length ks) MAX_DEPTH ≡ b → cond ((a && list_all is_key ls) && nat_le (length s.1 + (length ks + length ls)) MAX_DEPTH) (Some (s.0, s.1 ++ (ks ++ ls))) None ≡ option_and_then (λ t. reached t ls) (cond (a && b) (Some (s.0, s.1 ++ ks)) None)
    by_keys false b room = refl
    by_keys true false room =
        ap (λ c. cond c (Some (s.0, s.1 ++ (ks ++ ls))) None) (no_room (list_all is_key ls) (length s.1 + length ks) room _ (omega arith))
    by_keys true true room =
        let same : length s.1 + (length ks + length ls) ≡ length (s.1 ++ ks) + length ls = omega (arith, length-append s.1 ks) in
        ap (λ n. cond (list_all is_key ls && nat_le n MAX_DEPTH) (Some (s.0, s.1 ++ (ks ++ ls))) None) same
        ∙ ap (λ q. cond (list_all is_key ls && nat_le (length (s.1 ++ ks) + length ls) MAX_DEPTH) (Some (s.0, q)) None) (sym (append_assoc s.1 ks ls))

child_at-append : (s : Snapshot) (a b : List ℕ) → IsParted a b → child_at s (a ++ b) ≡ option_and_then (λ u. child_at u b) (child_at s a)
child_at-append s a b parted = ap (reached s) (segments-append a b parted) ∙ reached-append s (segments a) (segments b)

-- ---- with their bytes

-- no location
abbrev nowhere : Option (Snapshot × ℕ)
nowhere = None

rest_fits : (a b n : ℕ) → nat_le a n ≡ true → nat_le (a + b) n ≡ nat_le b (n - a)
rest_fits a b n fits = grind (arith, nat_tests)

-- the bytes of one text and then those of another
with_rest : (o : Option Snapshot) (a b n : ℕ) → nat_le a n ≡ true → cond (nat_le (a + b) n) (option_map (λ u. (u, n - (a + b))) o) nowhere ≡ cond (nat_le b (n - a)) (option_map (λ u. (u, (n - a) - b)) o) nowhere
with_rest o a b n fits =
    let same : n - (a + b) ≡ (n - a) - b = omega arith in
    ap (λ (m : ℕ). cond (nat_le (a + b) n) (option_map (λ u. (u, m)) o) nowhere) same
    ∙ ap (λ (c : Bool). cond c (option_map (λ u. (u, (n - a) - b)) o) nowhere) (rest_fits a b n fits)

led-append : (p : Snapshot × ℕ) (a b : List ℕ) → IsParted a b → led p (a ++ b) ≡ option_and_then (λ q. led q b) (led p a)
led-append p a b parted =
    ap (λ n. cond (nat_le n p.1) (option_map (λ u. (u, p.1 - n)) (child_at p.0 (a ++ b))) None) (length-append a b)
    ∙ ap (λ o. cond (nat_le (length a + length b) p.1) (option_map (λ u. (u, p.1 - (length a + length b))) o) None) (child_at-append p.0 a b parted)
    ∙ by_room (child_at p.0 a) (nat_le (length a) p.1) refl
  where
    none_either : (c : Bool) → cond c nowhere None ≡ None
    none_either true = refl
    none_either false = refl

    by_room : (o : Option Snapshot) (c : Bool) → nat_le (length a) p.1 ≡ c → cond (nat_le (length a + length b) p.1) (option_map (λ u. (u, p.1 - (length a + length b))) (option_and_then (λ u. child_at u b) o)) None ≡ option_and_then (λ q. led q b) (cond c (option_map (λ u. (u, p.1 - length a)) o) None)
    by_room None true fits = none_either (nat_le (length a + length b) p.1)
    by_room (Some u) true fits = with_rest (child_at u b) (length a) (length b) p.1 fits
    by_room o false over =
        let more : nat_le (length a + length b) p.1 ≡ false = grind (arith, nat_tests) in
        ap (λ c. cond c (option_map (λ u. (u, p.1 - (length a + length b))) (option_and_then (λ u. child_at u b) o)) None) more

-- a text that is too long leads nowhere
led-within : (p : Snapshot × ℕ) (text : List ℕ) → p.1 ≤ MAX_TEXT_BYTES → led_by p (text_within text) ≡ led p text
led-within p text most = by_length (nat_le (length text) MAX_TEXT_BYTES) refl
  where
    by_length : (c : Bool) → nat_le (length text) MAX_TEXT_BYTES ≡ c → led_by p (cond c (Some (words text)) None) ≡ led p text
    by_length true within = refl
    by_length false over =
        let more : nat_le (length text) p.1 ≡ false = grind (arith, nat_tests) in
        sym (ap (λ c. cond c (option_map (λ u. (u, p.1 - length text)) (child_at p.0 text)) None) more)

led-sum : (p : Snapshot × ℕ) (a b : List ℕ) → p.1 ≤ MAX_TEXT_BYTES → IsParted a b → led_by p (text_within (a ++ b)) ≡ option_and_then (λ q. led q b) (led p a)
led-sum p a b most parted = led-within p (a ++ b) most ∙ led-append p a b parted

nothing_behind : (o : Option (Snapshot × ℕ)) → nowhere ≡ option_and_then (λ q. None) o
nothing_behind None = refl
nothing_behind (Some q) = refl

-- ---- sums

behind_value : (p : Snapshot × ℕ) → p.1 ≤ MAX_TEXT_BYTES → (v : Value) (rest : List ℕ) → led_by p (plus v (words (47 ∷ rest))) ≡ option_and_then (λ q. led q (47 ∷ rest)) (led_by p (Some v))
behind_value p most (words a) rest = led-sum p a (47 ∷ rest) most (inl (rest, refl))
behind_value p most (whole a) rest = led-sum p (signed_decimal a) (47 ∷ rest) most (inl (rest, refl))
behind_value p most null rest = refl
behind_value p most (truth b) rest = refl
behind_value p most sentinel rest = refl
behind_value p most a_record rest = refl

before_value : (p : Snapshot × ℕ) → p.1 ≤ MAX_TEXT_BYTES → (front : List ℕ) (w : Value) → led_by p (plus (words (front ++ 47 ∷ [])) w) ≡ option_and_then (λ q. led_by q (Some w)) (led p (front ++ 47 ∷ []))
before_value p most front (words b) = led-sum p (front ++ 47 ∷ []) b most (inr (front, refl))
before_value p most front (whole b) = led-sum p (front ++ 47 ∷ []) (signed_decimal b) most (inr (front, refl))
before_value p most front null = nothing_behind _
before_value p most front (truth b) = nothing_behind _
before_value p most front sentinel = nothing_behind _
before_value p most front a_record = nothing_behind _

-- the sum of what may be errors
abbrev sum_of : Option Value → Option Value → Option Value
sum_of m n = option_and_then (λ v. option_and_then (plus v) n) m

behind : (p : Snapshot × ℕ) → p.1 ≤ MAX_TEXT_BYTES → (m : Option Value) (rest : List ℕ) → led_by p (sum_of m (Some (words (47 ∷ rest)))) ≡ option_and_then (λ q. led q (47 ∷ rest)) (led_by p m)
behind p most None rest = refl
behind p most (Some v) rest = behind_value p most v rest

before : (p : Snapshot × ℕ) → p.1 ≤ MAX_TEXT_BYTES → (front : List ℕ) (n : Option Value) → led_by p (sum_of (Some (words (front ++ 47 ∷ []))) n) ≡ option_and_then (λ q. led_by q n) (led p (front ++ 47 ∷ []))
before p most front None = nothing_behind _
before p most front (Some w) = before_value p most front w

-- a text that ends with a slash, or an error
abbrev EndsOrErrs : Option Value → Type 0
EndsOrErrs m = (m ≡ None) ⊎ ((front : List ℕ) × (m ≡ Some (words (front ++ 47 ∷ []))))

within_ends : (text : List ℕ) (front : List ℕ) → text ≡ front ++ 47 ∷ [] → (c : Bool) → EndsOrErrs (cond c (Some (words text)) None)
within_ends text front e true = inr (front, ap (λ x. Some (words x)) e)
within_ends text front e false = inl refl

sum_ends : (m : Option Value) (front : List ℕ) → EndsOrErrs (sum_of m (Some (words (front ++ 47 ∷ []))))
sum_ends None front = inl refl
sum_ends (Some (words a)) front = within_ends (a ++ (front ++ 47 ∷ [])) (a ++ front) (sym (append_assoc a front (47 ∷ []))) (nat_le (length (a ++ (front ++ 47 ∷ []))) MAX_TEXT_BYTES)
sum_ends (Some (whole a)) front = within_ends (signed_decimal a ++ (front ++ 47 ∷ [])) (signed_decimal a ++ front) (sym (append_assoc (signed_decimal a) front (47 ∷ []))) (nat_le (length (signed_decimal a ++ (front ++ 47 ∷ []))) MAX_TEXT_BYTES)
sum_ends (Some null) front = inl refl
sum_ends (Some (truth b)) front = inl refl
sum_ends (Some sentinel) front = inl refl
sum_ends (Some a_record) front = inl refl

ends_or_errs : (x : t.SyntaxTree) (env : Env) → EndsBelow x → EndsOrErrs (as_value (mean x env))
ends_or_errs x env (inl literal) = inr (literal.0, ap (λ y. as_value (mean y env)) literal.1)
ends_or_errs x env (inr sum) =
    let last : as_value (mean sum.1 env) ≡ Some (words (sum.3.0 ++ 47 ∷ [])) = ap (λ y. as_value (mean y env)) sum.3.1 in
    subst EndsOrErrs (sym (ap (λ y. as_value (mean y env)) sum.2 ∙ value_of_values _ ∙ ap (sum_of (as_value (mean sum.0 env))) last)) (sum_ends (as_value (mean sum.0 env)) sum.3.0)

sum_leads : (p : Snapshot × ℕ) → p.1 ≤ MAX_TEXT_BYTES → (m n : Option Value) → ((rest : List ℕ) × (n ≡ Some (words (47 ∷ rest)))) ⊎ EndsOrErrs m → led_by p (sum_of m n) ≡ option_and_then (λ q. led_by q n) (led_by p m)
sum_leads p most m n (inl begins) =
    ap (λ o. led_by p (sum_of m o)) begins.1
    ∙ behind p most m begins.0
    ∙ ap (λ o. option_and_then (λ q. led_by q o) (led_by p m)) (sym begins.1)
sum_leads p most m n (inr (inl errs)) = ap (λ o. led_by p (sum_of o n)) errs ∙ ap (λ o. option_and_then (λ q. led_by q n) (led_by p o)) (sym errs)
sum_leads p most m n (inr (inr ends)) =
    ap (λ o. led_by p (sum_of o n)) ends.1
    ∙ before p most ends.0 n
    ∙ ap (λ o. option_and_then (λ q. led_by q n) (led_by p o)) (sym ends.1)

-- the location alone
abbrev pub place_of : Snapshot × ℕ → Snapshot
place_of q = q.0

first_of : (n : ℕ) (o : Option Snapshot) → option_map place_of (option_map (λ u. (u, n)) o) ≡ o
first_of n None = refl
first_of n (Some u) = refl

child_within : (s : Snapshot) (text : List ℕ) → option_and_then (child_of s) (text_within text) ≡ option_map place_of (led_by (s, MAX_TEXT_BYTES) (text_within text))
child_within s text = by_length (nat_le (length text) MAX_TEXT_BYTES) refl
  where
    by_length : (c : Bool) → nat_le (length text) MAX_TEXT_BYTES ≡ c → option_and_then (child_of s) (cond c (Some (words text)) None) ≡ option_map place_of (led_by (s, MAX_TEXT_BYTES) (cond c (Some (words text)) None))
    by_length false over = refl
    by_length true within =
        sym (ap (λ c. option_map place_of (cond c (option_map (λ u. (u, MAX_TEXT_BYTES - length text)) (child_at s text)) None)) within ∙ first_of (MAX_TEXT_BYTES - length text) (child_at s text))

behind_child : (s : Snapshot) (v : Value) (b : List ℕ) → option_and_then (child_of s) (plus v (words b)) ≡ option_map place_of (led_by (s, MAX_TEXT_BYTES) (plus v (words b)))
behind_child s (words a) b = child_within s (a ++ b)
behind_child s (whole a) b = child_within s (signed_decimal a ++ b)
behind_child s null b = refl
behind_child s (truth c) b = refl
behind_child s sentinel b = refl
behind_child s a_record b = refl

before_child : (s : Snapshot) (a : List ℕ) (n : Option Value) → option_and_then (child_of s) (sum_of (Some (words a)) n) ≡ option_map place_of (led_by (s, MAX_TEXT_BYTES) (sum_of (Some (words a)) n))
before_child s a None = refl
before_child s a (Some (words b)) = child_within s (a ++ b)
before_child s a (Some (whole b)) = child_within s (a ++ signed_decimal b)
before_child s a (Some null) = refl
before_child s a (Some (truth c)) = refl
before_child s a (Some sentinel) = refl
before_child s a (Some a_record) = refl

-- the sum with a text is a text, or an error
child_of_sum : (s : Snapshot) (m n : Option Value) → ((rest : List ℕ) × (n ≡ Some (words (47 ∷ rest)))) ⊎ EndsOrErrs m → option_and_then (child_of s) (sum_of m n) ≡ option_map place_of (led_by (s, MAX_TEXT_BYTES) (sum_of m n))
child_of_sum s None n parts = refl
child_of_sum s (Some v) n (inl begins) =
    ap (λ o. option_and_then (child_of s) (sum_of (Some v) o)) begins.1
    ∙ behind_child s v (47 ∷ begins.0)
    ∙ ap (λ o. option_map place_of (led_by (s, MAX_TEXT_BYTES) (sum_of (Some v) o))) (sym begins.1)
child_of_sum s m n (inr (inl errs)) = ap (λ o. option_and_then (child_of s) (sum_of o n)) errs ∙ ap (λ o. option_map place_of (led_by (s, MAX_TEXT_BYTES) (sum_of o n))) (sym errs)
child_of_sum s m n (inr (inr ends)) =
    ap (λ o. option_and_then (child_of s) (sum_of o n)) ends.1
    ∙ before_child s (ends.0 ++ 47 ∷ []) n
    ∙ ap (λ o. option_map place_of (led_by (s, MAX_TEXT_BYTES) (sum_of o n))) (sym ends.1)

parts_of : (x y : t.SyntaxTree) (env : Env) → BeginsBelow y ⊎ EndsBelow x → ((rest : List ℕ) × (as_value (mean y env) ≡ Some (words (47 ∷ rest)))) ⊎ EndsOrErrs (as_value (mean x env))
parts_of x y env (inl begins) = inl (begins.0, ap (λ z. as_value (mean z env)) begins.1)
parts_of x y env (inr ends) = inr (ends_or_errs x env ends)

seam_parts : (p : Snapshot × ℕ) → p.1 ≤ MAX_TEXT_BYTES → (x y : t.SyntaxTree) (env : Env) → BeginsBelow y ⊎ EndsBelow x → led_by p (as_value (mean (t.Operation Add x y) env)) ≡ option_and_then (λ q. led_by q (as_value (mean y env))) (led_by p (as_value (mean x env)))
seam_parts p most x y env parted =
    ap (led_by p) (value_of_values (sum_of (as_value (mean x env)) (as_value (mean y env))))
    ∙ sum_leads p most (as_value (mean x env)) (as_value (mean y env)) (parts_of x y env parted)

-- where such a sum leads: the right operand leads on from where the left one does
pub seam_leads : (p : Snapshot × ℕ) → p.1 ≤ MAX_TEXT_BYTES → (s x y : t.SyntaxTree) (op : Operator) (env : Env) → IsSeam s → s ≡ t.Operation op x y → led_by p (as_value (mean s env)) ≡ option_and_then (λ q. led_by q (as_value (mean y env))) (led_by p (as_value (mean x env)))
seam_leads p most s x y op env seam is =
    let left : seam.0 ≡ x = same_left (sym seam.2 ∙ is) in
    let right : seam.1 ≡ y = same_right (sym seam.2 ∙ is) in
    ap (λ z. led_by p (as_value (mean z env))) seam.2
    ∙ seam_parts p most seam.0 seam.1 env seam.3
    ∙ ap (λ z. option_and_then (λ q. led_by q (as_value (mean seam.1 env))) (led_by p (as_value (mean z env)))) left
    ∙ ap (λ z. option_and_then (λ q. led_by q (as_value (mean z env))) (led_by p (as_value (mean x env)))) right
  where
    same_left : t.Operation Add seam.0 seam.1 ≡ t.Operation op x y → seam.0 ≡ x
    same_left e = cc

    same_right : t.Operation Add seam.0 seam.1 ≡ t.Operation op x y → seam.1 ≡ y
    same_right e = cc

-- where it leads as the text of a child
pub seam_child : (s : Snapshot) (key : t.SyntaxTree) (env : Env) → IsSeam key → option_and_then (child_of s) (as_value (mean key env)) ≡ option_map place_of (led_by (s, MAX_TEXT_BYTES) (as_value (mean key env)))
seam_child s key env seam =
    let whole : as_value (mean key env) ≡ sum_of (as_value (mean seam.0 env)) (as_value (mean seam.1 env)) = ap (λ z. as_value (mean z env)) seam.2 ∙ value_of_values _ in
    ap (option_and_then (child_of s)) whole
    ∙ child_of_sum s (as_value (mean seam.0 env)) (as_value (mean seam.1 env)) (parts_of seam.0 seam.1 env seam.3)
    ∙ ap (λ o. option_map place_of (led_by (s, MAX_TEXT_BYTES) o)) (sym whole)

-- there is no more room behind a text than before it
less_room : (s : Snapshot) (n : ℕ) (text : List ℕ) (q : Snapshot × ℕ) → led (s, n) text ≡ Some q → q.1 ≤ n
less_room s n text q = by_room (nat_le (length text) n) (child_at s text)
  where
    by_room : (c : Bool) (o : Option Snapshot) → cond c (option_map (λ u. (u, n - length text)) o) None ≡ Some q → q.1 ≤ n
    by_room false o h = absurd (let no : nowhere ≡ Some q = h in cc)
    by_room true None h = absurd (let no : nowhere ≡ Some q = h in cc)
    by_room true (Some u) h =
        let is : (u, n - length text) ≡ q = cc in
        let left : n - length text ≡ q.1 = ap (λ (r : Snapshot × ℕ). r.1) is in
        omega arith

pub led_less : (s : Snapshot) (n : ℕ) (m : Option Value) (q : Snapshot × ℕ) → led_by (s, n) m ≡ Some q → q.1 ≤ n
led_less s n m q = by_text (option_and_then text_of m)
  where
    by_text : (o : Option (List ℕ)) → option_and_then (led (s, n)) o ≡ Some q → q.1 ≤ n
    by_text None h = absurd (let no : nowhere ≡ Some q = h in cc)
    by_text (Some text) h = less_room s n text q h

-- ---- sums of the code

view_sum : (e x y : Expr) (op : Operator) (l r : Box Expr Global) → e ≡ Operation op l r → x ≡ l.value → y ≡ r.value → view e ≡ t.Operation op (view x) (view y)
view_sum e x y op l r is left right =
    ap view is ∙ ap (λ z. t.Operation op (view z) (view r.value)) (sym left) ∙ ap (λ z. t.Operation op (view x) (view z)) (sym right)

-- a sum by its operator
pub view_add : (e x y : Expr) (op : Operator) (l r : Box Expr Global) → e ≡ Operation op l r → op ≡ Add → x ≡ l.value → y ≡ r.value → view e ≡ t.Operation Add (view x) (view y)
view_add e x y op l r is add left right = view_sum e x y op l r is left right ∙ ap (λ o. t.Operation o (view x) (view y)) add

-- where a sum of the code leads, by where its operands do
module _ {e x : Expr} {op : Operator} {l r : Box Expr Global} (p : Snapshot × ℕ) (most : p.1 ≤ MAX_TEXT_BYTES) (env : Env) (seam : IsSeam (view e)) (is : e ≡ Operation op l r) (left : x ≡ l.value) where
  -- nowhere
  pub no_left : led_by p (as_value (mean (view x) env)) ≡ None → led_by p (as_value (mean (view e) env)) ≡ None
  no_left none =
      seam_leads p most (view e) (view x) (view r.value) op env seam (view_sum e x r.value op l r is left refl)
      ∙ ap (option_and_then (λ q. led_by q (as_value (mean (view r.value) env)))) none

  -- on from where the left one leads
  pub by_right : {y : Expr} {q : Snapshot × ℕ} → y ≡ r.value → led_by p (as_value (mean (view x) env)) ≡ Some q → led_by p (as_value (mean (view e) env)) ≡ led_by q (as_value (mean (view y) env))
  by_right {y} right there =
      seam_leads p most (view e) (view x) (view y) op env seam (view_sum e x y op l r is left right)
      ∙ ap (option_and_then (λ o. led_by o (as_value (mean (view y) env)))) there

-- the child that is found, where the sum leads
pub made_gives : (s : Snapshot) (key : t.SyntaxTree) (env : Env) (n : ℕ) (r : Result (Bor Snapshot) Stop) → IsSeam key → Gives r (λ at. (at.now, n)) (led_by (s, MAX_TEXT_BYTES) (as_value (mean key env))) → Gives r (λ at. at.now) (option_and_then (child_of s) (as_value (mean key env)))
made_gives s key env n (Ok at) seam h = record { value = seam_child s key env seam ∙ ap (option_map place_of) h.value; erred = λ e. cc }
made_gives s key env n (Err stop) seam h = record { value = tt; erred = λ e. seam_child s key env seam ∙ ap (option_map place_of) (h.erred e) }
