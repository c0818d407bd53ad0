-- What a faultless walk finds: each value was accepted, and stands in the words.
use Rattle.std.proofs.Common.{arith, ◌≡◌, ◌∙◌, ap, ℕ, ◌+◌, zero, suc, Bool, true, false, cond, not, ◌&&◌, ◌||◌, List, [], ◌∷◌, ◌++◌, take, Option, Some, None, inl, inr, refl, sym, subst, true≢false}
use Rattle.std.specs.Prelude.{Contains, ◌⊎◌, ⊤, ◌==◌, find, fold, drop, slice_get, length, encode_utf8, is_some, option_and_then, option_map, unwrap_or}
use Rattle.std.proofs.lemmas.Bool.{eqb-true}
use Rattle.std.proofs.lemmas.Slice.Eq.{bytes_eq-Decides}
use Rattle.std.specs.List.{prefix_len, before_first, after_first}
use Rattle.std.specs.Option.{option_map_or}
use Rattle.std.specs.Str.{bytes_eq, chars}
use Rattle.clap.specs.Lexer.{long_of, long_of_rest, short_of, has_byte, strip_byte}
use Rattle.clap.specs.Facts.{explicit_source, parser_of_value, unwrap_or_range}
use Rattle.clap.specs.ValueTests.{accepts}
use Rattle.clap.specs.Kinds.{Kinds, or_else, range_kinds}
use Rattle.clap.specs.Walk.{Text, Row, Rule, Held, Walk, Waiting, Outcome, Step, action_of, at_row, more_values, with_values, without, used, used_as, used_by_id, settled, settled_rows, reacted, reading_by, is_pending, pushed, started, done, waits, plain, refused, idle, option, positional, next, trailing, subcommand, value, attached_value, option_met, flag_met, long_met, arg_by_id, arg_by_long, arg_by_short, arg_by_index, has_long, has_short, takes_values, takes_several, bundle_step, bundle_met, bundle, option_word, plain_word, after_flag, long_or_other, short_or_plain, subcommand_or_other, word_met, to_positional, after_step, walked_from, walked, walk_from, nothing_held, rows_after, walk, values_or_missing, with_default, default_rows, has_row, first_of, one_of, row_text}
use Rattle.clap.specs.Simple.{Shape}
use Rattle.clap.specs.Faults.{action_fault, repeat_fault, use_fault, settle_fault, react_fault, option_fault, long_fault, short_fault, bundle_step_fault, flags_fault, bundle_fault, flag_word_fault, word_fault, positional_fault, stray_fault, step_fault, turn_fault, walk_fault, defaults_fault, check_fault, level_fault}
use Rattle.clap.specs.Values.{refused_kind, read_as}
use Rattle.clap.specs.Takes.{is_given}
use Rattle.clap.specs.declared.error.kind.ErrorKind.{ErrorKind}
use Rattle.clap.specs.declared.error.kind.ErrorKind.TheVariants.{TooManyValues, DisplayHelp, InvalidValue, WrongNumberOfValues}
use Rattle.clap.specs.declared.builder.action.ArgAction.TheVariants.{Set, Help}
use Rattle.clap.specs.declared.parser.matches.ValueSource.TheVariants.{CommandLine}

-- ---- lists

abbrev pub In : List Text → Text → Type 0
In [] x = ⊥
In (w ∷ ws) x = (w ≡ x) ⊎ In ws x

abbrev pub Each : {X : Type 0} → (X → Type 0) → List X → Type 0
Each P [] = ⊤
Each P (x ∷ xs) = P x × Each P xs

pub each_append : {X : Type 0} (P : X → Type 0) (xs ys : List X) → Each P xs → Each P ys → Each P (xs ++ ys)
each_append P [] ys a b = b
each_append P (x ∷ xs) ys a b = (a.0, each_append P xs ys a.1 b)

each_weaker : {X : Type 0} (P Q : X → Type 0) (xs : List X) → ((x : X) → P x → Q x) → Each P xs → Each Q xs
each_weaker P Q [] f e = tt
each_weaker P Q (x ∷ xs) f e = (f x e.0, each_weaker P Q xs f e.1)

pub each_in : (W ws : List Text) → ((x : Text) → In ws x → In W x) → Each (In W) ws
each_in W [] up = tt
each_in W (w ∷ ws) up = (up w (inl refl), each_in W ws (λ x i. up x (inr i)))

pub contained : (ws : List Text) (x : Text) → In ws x → Contains ws x
contained [] x i = absurd i
contained (w ∷ ws) x (inl is) = (0, omega arith, is)
contained (w ∷ ws) x (inr i) = let c = contained ws x i in (suc c.0, omega arith, c.2)

-- what was found by a test
abbrev pub IsFound : {X : Type 0} → (X → Type 0) → (X → Bool) → Option X → Type 0
IsFound P p None = ⊤
IsFound P p (Some x) = P x × (p x ≡ true)

pub found_each : {X : Type 0} (P : X → Type 0) (p : X → Bool) (xs : List X) → Each P xs → IsFound P p (find p xs)
found_each P p [] e = tt
found_each P p (x ∷ xs) e = at (p x) refl (found_each P p xs e.1)
  where
    at : (b : Bool) → p x ≡ b → IsFound P p (find p xs) → IsFound P p (cond b (Some x) (find p xs))
    at true h later = (e.0, h)
    at false h later = later

and_second : (a b : Bool) → (a && b) ≡ true → b ≡ true
and_second true b h = h
and_second false b h = absurd (true≢false (sym h))

pub or_else_first : (a b : Kinds) → or_else a b ≡ [] → a ≡ []
or_else_first [] b h = refl
or_else_first (k ∷ ks) b h = h

pub or_else_last : (a b : Kinds) → or_else a b ≡ [] → b ≡ []
or_else_last [] b h = h
or_else_last (k ∷ ks) b h = absurd cc

pub no_kind : (k : ErrorKind) (ks : Kinds) → k ∷ ks ≡ [] → ⊥
no_kind k ks h = cc

pub same_bytes : (a b : Text) → bytes_eq a b ≡ true → a ≡ b
same_bytes a b h = (bytes_eq-Decides a b).0 h

-- ---- a word of an option with its value

joined : (xs : Text) → has_byte 61 xs ≡ true → xs ≡ before_first (λ x. x == 61) xs ++ 61 ∷ after_first (λ x. x == 61) xs
joined [] h = absurd (true≢false (sym h))
joined (x ∷ xs) h = at (x == 61) refl h (joined xs)
  where
    at : (b : Bool) → (x == 61) ≡ b → (b || has_byte 61 xs) ≡ true
        → (has_byte 61 xs ≡ true → xs ≡ before_first (λ y. y == 61) xs ++ 61 ∷ after_first (λ y. y == 61) xs)
        → x ∷ xs ≡ take (cond (not b) (1 + prefix_len (λ y. not (y == 61)) xs) 0) (x ∷ xs) ++ 61 ∷ drop (cond (not b) (1 + prefix_len (λ y. not (y == 61)) xs) 0 + 1) (x ∷ xs)
    at true e h later = ap (λ y. y ∷ xs) (eqb-true x 61 e)
    at false e h later =
        let n = prefix_len (λ y. not (y == 61)) xs in
        let more : suc (n + 1) ≡ suc n + 1 = omega arith in
        let one : suc n ≡ 1 + n = omega arith in
        ap (λ ys. x ∷ ys) (later h) ∙ ap (λ k. x ∷ (take n xs ++ 61 ∷ drop k (x ∷ xs))) more ∙ ap (λ k. take k (x ∷ xs) ++ 61 ∷ drop (k + 1) (x ∷ xs)) one

stripped : (x : ℕ) (xs rest : Text) → strip_byte 45 (x ∷ xs) ≡ Some rest → x ∷ xs ≡ 45 ∷ rest
stripped x xs rest h = at (x == 45) refl h
  where
    at : (b : Bool) → (x == 45) ≡ b → cond b (Some xs) None ≡ Some rest → x ∷ xs ≡ 45 ∷ rest
    at true e h = let first : x ≡ 45 = eqb-true x 45 e in cc
    at false e h = absurd cc

long_in : (word name v : Text) → long_of word ≡ Some (name, Some v) → word ≡ 45 ∷ 45 ∷ (name ++ 61 ∷ v)
long_in [] name v h = absurd cc
long_in (x ∷ xs) name v h = first (strip_byte 45 (x ∷ xs)) refl h
  where
    cut : (x : ℕ) (rest : Text) (b : Bool) → has_byte 61 (x ∷ rest) ≡ b → ◌≡◌ {A = Option (Text × Option Text)} (Some (before_first (λ y. y == 61) (x ∷ rest), cond b (Some (after_first (λ y. y == 61) (x ∷ rest))) None)) (Some (name, Some v)) → x ∷ rest ≡ name ++ 61 ∷ v
    cut x rest true has e = let whole = joined (x ∷ rest) has in let pair : ◌≡◌ {A = Text × Text} (before_first (λ y. y == 61) (x ∷ rest), after_first (λ y. y == 61) (x ∷ rest)) (name, v) = ap (λ (o : Option (Text × Option Text)). option_map_or {T = Text × Option Text} {U = Text × Text} (λ p. (p.0, unwrap_or p.1 [])) o ([], [])) e in whole ∙ ap (λ (p : Text × Text). p.0 ++ 61 ∷ p.1) pair
    cut x rest false has e = absurd (true≢false (sym (ap (λ (o : Option (Text × Option Text)). option_map_or (λ p. is_some p.1) o true) e)))

    third : (rest : Text) → long_of_rest rest ≡ Some (name, Some v) → rest ≡ name ++ 61 ∷ v
    third [] e = absurd cc
    third (y ∷ ys) e = cut y ys (has_byte 61 (y ∷ ys)) refl e

    second : (rest : Text) (o : Option Text) → strip_byte 45 rest ≡ o → option_and_then long_of_rest o ≡ Some (name, Some v) → rest ≡ 45 ∷ (name ++ 61 ∷ v)
    second rest None is e = absurd cc
    second [] (Some ys) is e = absurd cc
    second (y ∷ zs) (Some ys) is e = stripped y zs ys is ∙ ap (λ t. 45 ∷ t) (third ys e)

    first : (o : Option Text) → strip_byte 45 (x ∷ xs) ≡ o → option_and_then long_of_rest (option_and_then (strip_byte 45) o) ≡ Some (name, Some v) → x ∷ xs ≡ 45 ∷ 45 ∷ (name ++ 61 ∷ v)
    first None is e = absurd cc
    first (Some rest) is e = stripped x xs rest is ∙ ap (λ t. 45 ∷ t) (second rest (strip_byte 45 rest) refl e)

-- ---- rules

-- one use of a rule, with these values: one value, which is accepted
pub record IsUse (a : Rule) (values : List Text) (rows : List Row) : Type 0 where
  pub first : Text
  pub is : values ≡ first ∷ []
  pub passes : accepts a.ignore_case (parser_of_value a.parser) first ≡ true
  pub rows_are : used a values rows ≡ with_values a.id (reading_by a) CommandLine values (without a.id rows)

-- a faultless use of the rule has one value, no short name of its own takes one, and it has no default
pub record IsSingle (c : List Rule) (a : Rule) : Type 0 where
  pub own : arg_by_id c a.id ≡ Some a
  pub once : (again : Bool) (values : List Text) (rows : List Row) → use_fault again a values rows ≡ [] → IsUse a values rows
  pub quiet : (x : ℕ) → has_short a x ≡ true → takes_values a ≡ false
  pub named : (name : Text) → has_long a name ≡ true → a.long ≡ Some name
  pub bare : a.defaults ≡ []

-- the value stands in the words: alone, or behind the rule's long name
abbrev pub IsBehind : List Text → Option Text → Text → Type 0
IsBehind W None v = ⊥
IsBehind W (Some name) v = In W (45 ∷ 45 ∷ (name ++ 61 ∷ v))

abbrev pub IsSaid : List Text → Rule → Text → Type 0
IsSaid W a v = In W v ⊎ IsBehind W a.long v

-- what is known of a row: it is of a rule, and its first value was accepted and stands in the words
pub record IsRow (c : List Rule) (W : List Text) (r : Row) : Type 0 where
  pub first : Text
  pub others : List Text
  pub rule : Rule
  pub is : r.values ≡ first ∷ others
  pub own : arg_by_id c r.id ≡ Some rule
  pub reading : r.reading ≡ reading_by rule
  pub passes : accepts rule.ignore_case (parser_of_value rule.parser) first ≡ true
  pub said : IsSaid W rule first

-- ---- what is held on the way

abbrev ArePending : List Text → Option (Text × List Text) → Type 0
ArePending W None = ⊤
ArePending W (Some p) = Each (In W) p.1

abbrev AreHeld : List Rule → List Text → Held → Type 0
AreHeld c W h = Each (IsRow c W) h.rows × ArePending W h.pending

at_row_each : (P : Row → Type 0) (id : Text) (change : Row → List Row) (missing rows : List Row) → ((r : Row) → P r → Each P (change r)) → Each P missing → Each P rows → Each P (at_row id change missing rows)
at_row_each P id change missing [] keeps m rs = m
at_row_each P id change missing (r ∷ rows) keeps m rs = at_first (bytes_eq r.id id) (at_row_each P id change missing rows keeps m rs.1)
  where
    at_first : (b : Bool) → Each P (at_row id change missing rows) → Each P (cond b (change r ++ rows) (r ∷ at_row id change missing rows))
    at_first true rest = each_append P (change r) rows (keeps r rs.0) rs.1
    at_first false rest = (rs.0, rest)

used_of : (c : List Rule) (W : List Text) (again : Bool) (a : Rule) (values : List Text) (rows : List Row) → IsSingle c a → Each (IsSaid W a) values → use_fault again a values rows ≡ [] → Each (IsRow c W) rows → Each (IsRow c W) (used a values rows)
used_of c W again a values rows single said fault rs =
    let one_use = single.once again values rows fault in
    let new : Row = record { id = a.id; values = values; count = None; source = Some CommandLine; reading = reading_by a } in
    let of_new : IsRow c W new = record {
      first = one_use.first;
      others = [];
      rule = a;
      is = one_use.is;
      own = single.own;
      reading = refl;
      passes = one_use.passes;
      said = (subst (Each (IsSaid W a)) one_use.is said).0;
    } in
    let more : (r : Row) → IsRow c W r → Each (IsRow c W) (more_values CommandLine values r) = λ r p. (
      record {
        first = p.first;
        others = p.others ++ values;
        rule = p.rule;
        is = ap (λ vs. vs ++ values) p.is;
        own = p.own;
        reading = p.reading;
        passes = p.passes;
        said = p.said;
      },
      tt,
    ) in
    let kept = at_row_each (IsRow c W) a.id (λ (r : Row). []) [] rows (λ r p. tt) tt rs in
    subst (Each (IsRow c W)) (sym one_use.rows_are) (at_row_each (IsRow c W) a.id (more_values CommandLine values) (new ∷ []) (without a.id rows) more (of_new, tt) kept)

settled_of : (c : List Rule) (W : List Text) (again : Bool) (h : Held) → Each (IsSingle c) c → AreHeld c W h → settle_fault c again h ≡ [] → AreHeld c W (settled c h)
settled_of c W again h single held fault = (by_pending h.pending held.1 fault, tt)
  where
    by_rule : (p : Text × List Text) (o : Option Rule) → IsFound (IsSingle c) (λ a. bytes_eq a.id p.0) o → Each (In W) p.1 → option_map_or (λ a. use_fault again a p.1 h.rows) o [] ≡ [] → Each (IsRow c W) (used_by_id o p.1 h.rows)
    by_rule p None found of_p f = held.0
    by_rule p (Some a) found of_p f = used_of c W again a p.1 h.rows found.0 (each_weaker (In W) (IsSaid W a) p.1 (λ x i. inl i) of_p) f held.0

    by_pending : (o : Option (Text × List Text)) → ArePending W o → option_map_or (λ p. option_map_or (λ a. use_fault again a p.1 h.rows) (arg_by_id c p.0) []) o [] ≡ [] → Each (IsRow c W) (settled_rows c o h.rows)
    by_pending None of_p f = held.0
    by_pending (Some p) of_p f = by_rule p (arg_by_id c p.0) (found_each (IsSingle c) (λ a. bytes_eq a.id p.0) c single) of_p f

reacted_of : (c : List Rule) (W : List Text) (again : Bool) (a : Rule) (values : List Text) (h : Held) → Each (IsSingle c) c → IsSingle c a → Each (IsSaid W a) values → AreHeld c W h → react_fault c again a values h ≡ [] → AreHeld c W (reacted c a values h)
reacted_of c W again a values h all single said held fault =
    let settles = settled_of c W again h all held (or_else_first _ _ fault) in
    (used_of c W again a values (settled c h).rows single said (or_else_last (settle_fault c again h) _ fault) settles.0, tt)

-- a flag that takes no value is never used without a fault
no_flag : (c : List Rule) (again : Bool) (a : Rule) (h : Held) → IsSingle c a → react_fault c again a [] h ≡ [] → ⊥
no_flag c again a h single fault =
    let one_use = single.once again [] (settled c h).rows (or_else_last (settle_fault c again h) _ fault) in
    let none : [] ≡ one_use.first ∷ [] = one_use.is in
    cc

-- ---- one word

option_of : (c : List Rule) (W : List Text) (again : Bool) (a : Rule) (v : Option Text) (h : Held) → Each (IsSingle c) c → IsSingle c a → ((x : Text) → v ≡ Some x → IsSaid W a x) → AreHeld c W h → option_fault c again a v h ≡ [] → AreHeld c W (option_met c a v h).0
option_of c W again a (Some x) h all single said held fault = reacted_of c W again a (x ∷ []) h all single (said x refl, tt) held fault
option_of c W again a None h all single said held fault = ((settled_of c W again h all held fault).0, tt)

long_met_of : (c : List Rule) (W : List Text) (again : Bool) (name : Text) (o : Option Rule) (v : Option Text) (h : Held) → Each (IsSingle c) c → IsFound (IsSingle c) (λ a. not (is_some a.index) && has_long a name) o → ((x : Text) → v ≡ Some x → In W (45 ∷ 45 ∷ (name ++ 61 ∷ x))) → AreHeld c W h → long_fault c again o v h ≡ [] → AreHeld c W (long_met c o v h).0
long_met_of c W again name None v h all found said held fault = absurd (no_kind _ _ fault)
long_met_of c W again name (Some a) v h all found said held fault = by_kind (takes_values a) fault
  where
    long : a.long ≡ Some name
    long = found.0.named name (and_second (not (is_some a.index)) (has_long a name) found.1)

    flag : (v : Option Text) → cond (is_some v) (TooManyValues ∷ []) (react_fault c again a [] h) ≡ [] → AreHeld c W (flag_met c a v h).0
    flag None f = absurd (no_flag c again a h found.0 f)
    flag (Some x) f = absurd (no_kind _ _ f)

    by_kind : (b : Bool) → cond b (option_fault c again a v h) (cond (is_some v) (TooManyValues ∷ []) (react_fault c again a [] h)) ≡ [] → AreHeld c W (cond b (option_met c a v h) (flag_met c a v h)).0
    by_kind true f = option_of c W again a v h all found.0 (λ x is. inr (subst (λ l. IsBehind W l x) (sym long) (said x is))) held f
    by_kind false f = flag v f

no_short : (c : List Rule) (again : Bool) (x : ℕ) (o : Option Rule) (rest : Text) (h : Held) (further : Held → Kinds) → IsFound (IsSingle c) (λ a. not (is_some a.index) && has_short a x) o → short_fault c again o rest h further ≡ [] → ⊥
no_short c again x None rest h further found fault = no_kind _ _ fault
no_short c again x (Some a) rest h further found fault = by_kind (takes_values a) refl fault
  where
    by_kind : (b : Bool) → takes_values a ≡ b → cond b (option_fault c again a (attached_value rest) h) (or_else (react_fault c again a [] h) (further (reacted c a [] h))) ≡ [] → ⊥
    by_kind true is f = true≢false (sym is ∙ found.0.quiet x (and_second (not (is_some a.index)) (has_short a x) found.1))
    by_kind false is f = no_flag c again a h found.0 (or_else_first _ _ f)

bundle_of : (c : List Rule) (W : List Text) (again : Bool) (k : ℕ) (flags : Text) (skip : ℕ) (so_far : Outcome) (h : Held) → Each (IsSingle c) c → AreHeld c W h → flags_fault c again k flags skip h ≡ [] → AreHeld c W (bundle_met c k flags skip so_far h).0
unfolding bundle_met flags_fault
bundle_of c W again zero flags skip so_far h all held fault = held
bundle_of c W again (suc k) flags skip so_far h all held fault = step (slice_get (chars flags) 0) skip fault (λ rest s f. bundle_of c W again k rest s so_far h all held f)
  where
    step : (x : Option ℕ) (skip : ℕ) → bundle_step_fault c again x flags skip h (flags_fault c again k) ≡ []
        → ((rest : Text) (s : ℕ) → flags_fault c again k rest s h ≡ [] → AreHeld c W (bundle_met c k rest s so_far h).0)
        → AreHeld c W (bundle_step c x flags skip so_far h (bundle_met c k)).0
    step None skip f rests = held
    step (Some x) zero f rests = absurd (no_short c again x (arg_by_short c x) _ h _ (found_each (IsSingle c) (λ a. not (is_some a.index) && has_short a x) c all) f)
    step (Some x) (suc s) f rests = rests (drop (length (encode_utf8 x)) flags) s f

pushed_of : (c : List Rule) (W : List Text) (id word : Text) (h : Held) → In W word → AreHeld c W h → AreHeld c W (pushed id word h)
pushed_of c W id word h i held = (held.0, onto h.pending held.1)
  where
    onto : (p : Option (Text × List Text)) → ArePending W p → Each (In W) ((started id p).1 ++ word ∷ [])
    onto None of_p = (i, tt)
    onto (Some p) of_p = each_append (In W) p.1 (word ∷ []) of_p (i, tt)

plain_of : (c : List Rule) (W : List Text) (waiting : Waiting) (word : Text) (h : Held) → In W word → AreHeld c W h → AreHeld c W (plain_word c waiting word h).0
plain_of c W idle word h i held = held
plain_of c W positional word h i held = held
plain_of c W (option id) word h i held = by_rule (arg_by_id c id)
  where
    by_rule : (o : Option Rule) → AreHeld c W (option_word o id word h).0
    by_rule None = held
    by_rule (Some a) = pushed_of c W id word h i held

after_of : (c : List Rule) (W : List Text) (waiting : Waiting) (word : Text) (h : Held) (o : Outcome) → In W word → AreHeld c W h → AreHeld c W (after_flag c waiting word h o).0
after_of c W waiting word h done i held = held
after_of c W waiting word h (waits id) i held = held
after_of c W waiting word h plain i held = plain_of c W waiting word h i held
after_of c W waiting word h refused i held = plain_of c W waiting word h i held

other_of : (c : List Rule) (W : List Text) (again : Bool) (waiting : Waiting) (position : ℕ) (word : Text) (h : Held) → Each (IsSingle c) c → In W word → AreHeld c W h → cond (bytes_eq word (45 ∷ 45 ∷ [])) [] (flag_word_fault c again (long_of word) word h) ≡ [] → AreHeld c W (subcommand_or_other c None waiting position word h).0
other_of c W again waiting position word h all i held fault = dashes (bytes_eq word (45 ∷ 45 ∷ [])) fault
  where
    short : (o : Option Text) → option_map_or (λ flags. bundle_fault c again flags h) o [] ≡ [] → AreHeld c W (short_or_plain c waiting word o h).0
    short None f = plain_of c W waiting word h i held
    short (Some flags) f = after_of c W waiting word (bundle c flags h).0 (bundle c flags h).1 i (bundle_of c W again (length flags) flags h.skip plain (record h { skip = 0 }) all held f)

    said : (name : Text) (v : Option Text) → long_of word ≡ Some (name, v) → (x : Text) → v ≡ Some x → In W (45 ∷ 45 ∷ (name ++ 61 ∷ x))
    said name v is x e = subst (In W) (long_in word name x (is ∙ ap (λ (o : Option Text). Some (name, o)) e)) i

    long : (p : Option (Text × Option Text)) → long_of word ≡ p → flag_word_fault c again p word h ≡ [] → AreHeld c W (long_or_other c waiting word p h).0
    long None is f = short (short_of word) f
    long (Some p) is f =
        let met = long_met_of c W again p.0 (arg_by_long c p.0) p.1 h all (found_each (IsSingle c) (λ a. not (is_some a.index) && has_long a p.0) c all) (said p.0 p.1 is) held f in
        after_of c W waiting word (long_met c (arg_by_long c p.0) p.1 h).0 (long_met c (arg_by_long c p.0) p.1 h).1 i met

    dashes : (b : Bool) → cond b [] (flag_word_fault c again (long_of word) word h) ≡ [] → AreHeld c W (cond b (h, trailing position) (long_or_other c waiting word (long_of word) h)).0
    dashes true f = held
    dashes false f = long (long_of word) refl f

word_of : (s : Shape) (W : List Text) (is_trailing : Bool) (waiting : Waiting) (position : ℕ) (word : Text) (h : Held) → Each (IsSingle s.rules) s.rules → In W word → AreHeld s.rules W h → word_fault s [] is_trailing waiting word h ≡ [] → AreHeld s.rules W (word_met s.rules [] is_trailing waiting position word h).0
word_of s W true waiting position word h all i held fault = held
word_of s W false idle position word h all i held fault = other_of s.rules W s.args_override_self idle position word h all i held fault
word_of s W false (option id) position word h all i held fault = other_of s.rules W s.args_override_self (option id) position word h all i held fault
word_of s W false positional position word h all i held fault = other_of s.rules W s.args_override_self positional position word h all i held fault

-- ---- the walk

positional_of : (s : Shape) (W : List Text) (o : Option Rule) (word : Text) (w : Walk) (h : Held) → Each (IsSingle s.rules) s.rules → In W word → AreHeld s.rules W h → option_map_or (λ a. positional_fault s.rules s.args_override_self a h) o (stray_fault s) ≡ [] → AreHeld s.rules W (to_positional s.rules o word w h).held
positional_of s W None word w h all i held fault = held
positional_of s W (Some a) word w h all i held fault = pushed_of s.rules W a.id word (cond (is_pending a h.pending && takes_several a) h (settled s.rules h)) i (which (is_pending a h.pending && takes_several a) fault)
  where
    which : (b : Bool) → cond b [] (settle_fault s.rules s.args_override_self h) ≡ [] → AreHeld s.rules W (cond b h (settled s.rules h))
    which true f = held
    which false f = settled_of s.rules W s.args_override_self h all held f

after_step_of : (s : Shape) (W : List Text) (word : Text) (w : Walk) (h : Held) (step : Step) → Each (IsSingle s.rules) s.rules → In W word → AreHeld s.rules W h → step_fault s w.position h step ≡ [] → AreHeld s.rules W (after_step s.rules word w h step).held
after_step_of s W word w h (next waiting) all i held fault = held
after_step_of s W word w h (trailing p) all i held fault = held
after_step_of s W word w h (subcommand name) all i held fault = held
after_step_of s W word w h value all i held fault = positional_of s W (arg_by_index s.rules w.position) word w h all i held fault

walked_of : (s : Shape) (W : List Text) (w : Walk) (word : Text) → Each (IsSingle s.rules) s.rules → In W word → AreHeld s.rules W w.held → turn_fault s [] w word ≡ [] → AreHeld s.rules W (walked s.rules [] w word).held
unfolding walked
walked_of s W w word all i held fault = from w.stopped fault
  where
    from : (stopped : Option (Text × List Text)) → cond (is_some stopped) [] (or_else (word_fault s [] w.is_trailing w.waiting word w.held) (step_fault s w.position (word_met s.rules [] w.is_trailing w.waiting w.position word w.held).0 (word_met s.rules [] w.is_trailing w.waiting w.position word w.held).1)) ≡ [] → AreHeld s.rules W (walked_from s.rules [] stopped w word).held
    from (Some p) f = held
    from None f =
        let met = word_of s W w.is_trailing w.waiting w.position word w.held all i held (or_else_first _ _ f) in
        after_step_of s W word w _ _ all i met (or_else_last (word_fault s [] w.is_trailing w.waiting word w.held) _ f)

walk_of : (s : Shape) (W ws : List Text) (w : Walk) → Each (IsSingle s.rules) s.rules → Each (In W) ws → AreHeld s.rules W w.held → walk_fault s [] w ws ≡ [] → AreHeld s.rules W (fold (walked s.rules []) w ws).held
unfolding walk_fault
walk_of s W [] w all each held fault = held
walk_of s W (word ∷ ws) w all each held fault =
    let one = walked_of s W w word all each.0 held (or_else_first _ _ fault) in
    walk_of s W ws (walked s.rules [] w word) all each.1 one (or_else_last (turn_fault s [] w word) _ fault)

-- no rule adds a default
defaults_of : (c : List Rule) (W : List Text) (xs : List Rule) (rows : List Row) → Each (IsSingle c) xs → Each (IsRow c W) rows → Each (IsRow c W) (fold with_default rows xs)
defaults_of c W [] rows all rs = rs
defaults_of c W (a ∷ xs) rows all rs = defaults_of c W xs (with_default rows a) all.1 (by_row (has_row a.id rows))
  where
    by_row : (b : Bool) → Each (IsRow c W) (cond b rows (default_rows a.id (reading_by a) a.defaults rows))
    by_row true = rs
    by_row false = subst (λ ds. Each (IsRow c W) (default_rows a.id (reading_by a) ds rows)) (sym all.0.bare) rs

-- what is known of the rows of a faultless command that has no subcommand
pub rows_known : (s : Shape) (W ws : List Text) → Each (IsSingle s.rules) s.rules → Each (In W) ws → level_fault s [] nothing_held ws false [] ≡ [] → Each (IsRow s.rules W) (rows_after s.rules [] ws)
rows_known s W ws all each fault =
    let end = (walk s.rules [] nothing_held ws).held in
    let walks = or_else_first (walk_fault s [] (walk_from nothing_held) ws) _ fault in
    let settles = or_else_first (settle_fault s.rules s.args_override_self end) _ (or_else_last (walk_fault s [] (walk_from nothing_held) ws) _ fault) in
    let held = walk_of s W ws (walk_from nothing_held) all each (tt, tt) walks in
    defaults_of s.rules W s.rules (settled s.rules end).rows all (settled_of s.rules W s.args_override_self end all held settles).0

-- and what is checked at its end
pub checked_last : (s : Shape) (ws : List Text) → level_fault s [] nothing_held ws false [] ≡ [] → check_fault s (rows_after s.rules [] ws) false ≡ []
checked_last s ws fault =
    let end = (walk s.rules [] nothing_held ws).held in
    or_else_last (defaults_fault (settled s.rules end).rows s.rules) _
    (or_else_last (settle_fault s.rules s.args_override_self end) _ (or_else_last (walk_fault s [] (walk_from nothing_held) ws) _ fault))

-- ---- what is known of a value

-- the value of a rule was found: its text, and what the typed getters read
pub record IsValue (W : List Text) (a : Rule) (text read : Option Text) : Type 0 where
  pub first : Text
  pub text_is : text ≡ Some first
  pub read_is : read ≡ Some (read_as (reading_by a) first)
  pub passes : accepts a.ignore_case (parser_of_value a.parser) first ≡ true
  pub said : IsSaid W a first

-- it was found, or there is none
abbrev pub IsAnswer : List Text → Rule → Option Text → Option Text → Type 0
IsAnswer W a text read = IsValue W a text read ⊎ ((text ≡ None) × (read ≡ None))

some_rule : (a b : Rule) → Some a ≡ Some b → a ≡ b
some_rule a b e = ap (λ o. unwrap_or o a) e

value_of_row : (c : List Rule) (W : List Text) (a : Rule) (id : Text) (r : Row) → arg_by_id c id ≡ Some a → IsRow c W r → bytes_eq r.id id ≡ true → IsValue W a (slice_get r.values 0) (row_text r)
value_of_row c W a id r own row is =
    let same : row.rule ≡ a = some_rule row.rule a (sym row.own ∙ ap (arg_by_id c) (same_bytes r.id id is) ∙ own) in record {
      first = row.first;
      text_is = ap (λ vs. slice_get vs 0) row.is;
      read_is = ap (λ vs. option_map (read_as r.reading) (slice_get vs 0)) row.is ∙ ap (λ how. Some (read_as how row.first)) (row.reading ∙ ap reading_by same);
      passes = subst (λ (b : Rule). accepts b.ignore_case (parser_of_value b.parser) row.first ≡ true) same row.passes;
      said = subst (λ b. IsSaid W b row.first) same row.said;
    }

pub answer_at : (c : List Rule) (W : List Text) (a : Rule) (id : Text) (rows : List Row) → arg_by_id c id ≡ Some a → Each (IsRow c W) rows → IsAnswer W a (first_of id rows) (one_of id rows)
answer_at c W a id rows own each = by_row (find (λ r. bytes_eq r.id id) rows) (found_each (IsRow c W) (λ r. bytes_eq r.id id) rows each)
  where
    by_row : (o : Option Row) → IsFound (IsRow c W) (λ r. bytes_eq r.id id) o → IsAnswer W a (option_and_then (λ r. slice_get r.values 0) o) (option_and_then row_text o)
    by_row None found = inr (refl, refl)
    by_row (Some r) found = inl (value_of_row c W a id r own found.0 found.1)

pub value_at : (c : List Rule) (W : List Text) (a : Rule) (id : Text) (rows : List Row) → arg_by_id c id ≡ Some a → Each (IsRow c W) rows → is_given id rows ≡ true → IsValue W a (first_of id rows) (one_of id rows)
value_at c W a id rows own each given = by_row (find (λ r. bytes_eq r.id id) rows) (found_each (IsRow c W) (λ r. bytes_eq r.id id) rows each) given
  where
    by_row : (o : Option Row) → IsFound (IsRow c W) (λ r. bytes_eq r.id id) o → option_map_or (λ (r : Row). explicit_source r.source) o false ≡ true → IsValue W a (option_and_then (λ r. slice_get r.values 0) o) (option_and_then row_text o)
    by_row None found is = absurd (true≢false (sym is))
    by_row (Some r) found is = value_of_row c W a id r own found.0 found.1

-- ---- which rules are single

range_one : (n : ℕ) → range_kinds 1 1 n ≡ [] → 1 ≡ n
range_one n fault = by_tests (n == 0) (1 == n) refl fault
  where
    by_tests : (none one : Bool) → (1 == n) ≡ one → cond none (InvalidValue ∷ []) (cond one [] (WrongNumberOfValues ∷ [])) ≡ [] → 1 ≡ n
    by_tests true one is e = absurd (no_kind _ _ e)
    by_tests false true is e = eqb-true 1 n is
    by_tests false false is e = absurd (no_kind _ _ e)

-- an option, or a positional, that takes one value
pub once_set : (a : Rule) → action_of a ≡ Set → a.range ≡ Some (record { start_inclusive = 1; end_inclusive = 1 }) → (again : Bool) (values : List Text) (rows : List Row) → use_fault again a values rows ≡ [] → IsUse a values rows
once_set a set one again values rows fault = by_values values (sym same ∙ fault)
  where
    same : use_fault again a values rows ≡ or_else (range_kinds 1 1 (length values)) (action_fault Set again a (values_or_missing a values) rows)
    same = λ i. or_else (range_kinds (unwrap_or_range (one i)).start_inclusive (unwrap_or_range (one i)).end_inclusive (length values)) (action_fault (set i) again a (values_or_missing a values) rows)

    passed : (v : Text) (b : Bool) → or_else (cond b [] (refused_kind (parser_of_value a.parser) ∷ [])) [] ≡ [] → b ≡ true
    passed v true e = refl
    passed v false e = absurd (no_kind _ _ e)

    by_values : (vs : List Text) → or_else (range_kinds 1 1 (length vs)) (action_fault Set again a (values_or_missing a vs) rows) ≡ [] → IsUse a vs rows
    by_values [] e = absurd (no_kind _ _ e)
    by_values (v ∷ []) e = record {
      first = v;
      is = refl;
      passes = passed v (accepts a.ignore_case (parser_of_value a.parser) v) (or_else_last (repeat_fault again a.id rows) _ e);
      rows_are = λ i. used_as (set i) a.id (reading_by a) (v ∷ []) rows;
    }
    by_values (v ∷ w ∷ vs) e = let one_value = range_one (length (v ∷ w ∷ vs)) (or_else_first _ _ e) in absurd (omega arith)

-- a request for help is never without a fault
pub never_help : (a : Rule) → action_of a ≡ Help → (again : Bool) (values : List Text) (rows : List Row) → use_fault again a values rows ≡ [] → IsUse a values rows
never_help a help again values rows fault =
    let asked = or_else_last (range_kinds (unwrap_or_range a.range).start_inclusive (unwrap_or_range a.range).end_inclusive (length values)) _ fault in
    let never : DisplayHelp ∷ [] ≡ [] = ap (λ x. action_fault x again a (values_or_missing a values) rows) (sym help) ∙ asked in
    absurd (no_kind _ _ never)
