-- What the `.read` rules on the way look at: the steps of a walk that asks for it.
use Rattle.std.proofs.Common.{◌≡◌, ◌⊎◌, inl, inr, ℕ, zero, suc, ◌+◌, ◌≤◌, true, [], ◌∷◌, ◌++◌, length, take, Some, None, Option, is_some, option_map, option_and_then, sym, ap, ◌∙◌, subst, refl, arith, append_assoc, append-nil, length-append}
use Rattle.std.proofs.lemmas.Bool.{false≢true}
use Rattle.tree_model.specs.Key.{Key}
use Rattle.tree_model.specs.Path.{Path, is_prefix, strip_prefix}
use Rattle.tree_model.specs.PathMap.{get}
use Rattle.tree_model.proofs.Paths.{strip_is, prefix-append}
use Rattle.expr_types.specs.Checked.{Checked}
use Rattle.expr_types.specs.Scope.{scope_of}
use Rattle.expr_types.specs.declared.scope.Scope.{Scope}
use Rattle.expr_types.specs.declared.scope.Scope.TheVariants.{Request, Location, Database}
use Rattle.rules_reader.specs.Part.{Pattern}
use Rattle.rules_reader.specs.declared.kind.Kind.TheVariants.{Read}
use Rattle.rules_reader.specs.Book.{Book, stated_for}
use Rattle.rules_reader.specs.Place.{StandsAt, HasOneCapture}
use Rattle.rules_reader.specs.Node.{Point, NoneMatches}
use Rattle.rules_reader.proofs.Standing.{one_stands}
use Rattle.rules_reader.proofs.Reached.{Reached}
use Rattle.judge.specs.Watching.{IsReadAt, LooksWithin, LooksThere, IsWatched, LooksElsewhere}
use Rattle.judge.specs.Working.Watched.{LooksBeyond, EndsThere, WatchedFrom, WatchedBelow, ElsewhereFrom}
use Rattle.judge.proofs.Among.{some_same}
use Rattle.judge.proofs.Places.{stated_here, none_beyond, take-all}

-- ---- the rule where the walk stands

module _ (book : Book) (node : Point) (from : Path) (own : Option Checked) (one : HasOneCapture book) (reached : Reached book node from) (said : option_map (stated_for Read) (get node.book []) ≡ Some own) where
  -- what stands there is what the node states
  own_is : (pattern : Pattern) (rule : Checked) → IsReadAt book (from ++ []) pattern rule → own ≡ Some rule
  own_is pattern rule is =
      sym (stated_here book node from Read own reached said)
      ∙ ap (λ p. option_and_then (stated_for Read) (get book p)) (one_stands book node.at pattern from one reached.stands (subst (StandsAt book pattern) (append-nil from) is.stands))
      ∙ is.states

  states_own : (rule : Checked) → own ≡ Some rule → IsReadAt book (from ++ []) node.at rule
  states_own rule e = record { stands = subst (StandsAt book node.at) (sym (append-nil from)) reached.stands; states = stated_here book node from Read own reached said ∙ e }

  -- it looks at nothing, or there is none
  pub passed : (rest : Path) (below : ℕ) → ((rule : Checked) → own ≡ Some rule → scope_of rule.tree ≡ Request) → WatchedBelow book from rest below → WatchedFrom book from rest below
  passed rest below asks w = record {
    least = w.least;
    most = w.most;
    within = within;
    last = w.last;
  }
    where
      within : (front back : Path) (pattern : Pattern) (rule : Checked) → rest ≡ front ++ back → IsReadAt book (from ++ front) pattern rule → LooksBeyond below (length from + length front) (scope_of rule.tree)
      within [] back pattern rule parts is = subst (LooksBeyond below (length from + 0)) (sym (asks rule (own_is pattern rule is))) tt
      within (key ∷ front) back pattern rule parts is = w.within key front back pattern rule parts is

  -- it looks at what stands there
  pub stopped : (rest : Path) (below : ℕ) (rule : Checked) → own ≡ Some rule → scope_of rule.tree ≡ Location → WatchedBelow book from rest below → WatchedFrom book from rest (length from)
  stopped rest below rule e looks w = record {
    least = omega arith;
    most = omega arith;
    within = within;
    last = inr record { front = []; back = rest; parts = refl; counted = omega arith; looks = record { pattern = node.at; rule = rule; is_read = states_own rule e; looks = looks } };
  }
    where
      weaker : (n : ℕ) (s : Scope) → LooksBeyond below n s → LooksBeyond (length from) n s
      weaker n Request h = tt
      weaker n Location h = let least = w.least in omega arith
      weaker n Database h = h

      here : (s : Scope) → s ≡ Location → LooksBeyond (length from) (length from + 0) s
      here s at = subst (LooksBeyond (length from) (length from + 0)) (sym at) (omega arith)

      within : (front back : Path) (pattern : Pattern) (other : Checked) → rest ≡ front ++ back → IsReadAt book (from ++ front) pattern other → LooksBeyond (length from) (length from + length front) (scope_of other.tree)
      within [] back pattern other parts is = here (scope_of other.tree) (ap (λ (r : Checked). scope_of r.tree) (some_same other rule (sym (own_is pattern other is) ∙ e)) ∙ looks)
      within (key ∷ front) back pattern other parts is = weaker (length from + length (key ∷ front)) (scope_of other.tree) (w.within key front back pattern other parts is)

  -- it looks elsewhere
  pub elsewhere : (rest : Path) (rule : Checked) → own ≡ Some rule → scope_of rule.tree ≡ Database → ElsewhereFrom book from rest
  elsewhere rest rule e looks = record { front = []; back = rest; parts = refl; pattern = node.at; rule = rule; is_read = states_own rule e; looks = looks }

pub none_there : (rule : Checked) → None ≡ Some rule → ⊥
none_there rule e = cc

-- ---- the rules below

first_same : (k l : Key) (p q : Path) → k ∷ p ≡ l ∷ q → k ≡ l
first_same k l p q e = cc

rest_same : (k l : Key) (p q : Path) → k ∷ p ≡ l ∷ q → p ≡ q
rest_same k l p q e = cc

no_first : (l : Key) (q : Path) → [] ≡ l ∷ q → ⊥
no_first l q e = cc

pub at_end : (book : Book) (from : Path) → WatchedBelow book from [] (length from)
at_end book from = record {
  least = omega arith;
  most = omega arith;
  within = λ key front back pattern rule parts is. absurd (no_first key (front ++ back) parts);
  last = inl (omega arith);
}

-- no object stands further down
pub silent : (book : Book) (node : Point) (from : Path) (key : Key) (others : Path) → HasOneCapture book → Reached book node from → NoneMatches node.book key → WatchedBelow book from (key ∷ others) (length from + length (key ∷ others))
silent book node from key others one reached none = record {
  least = omega arith;
  most = omega arith;
  within = λ other front back pattern rule parts is. absurd (none_beyond book node from key front pattern one reached none (subst (λ k. StandsAt book pattern (from ++ k ∷ front)) (sym (first_same key other others (front ++ back) parts)) is.stands));
  last = inl refl;
}

-- one key further down
pub deeper : (book : Book) (from : Path) (key : Key) (others : Path) (count : ℕ) → WatchedFrom book (from ++ key ∷ []) others count → WatchedBelow book from (key ∷ others) count
deeper book from key others count w = record {
  least = omega (arith, w.least, length-append from (key ∷ []));
  most = omega (arith, w.most, length-append from (key ∷ []));
  within = within;
  last = last w.last;
}
  where
    long : (front : Path) → length (from ++ key ∷ []) + length front ≡ length from + length (key ∷ front)
    long front = omega (arith, length-append from (key ∷ []))

    within : (other : Key) (front back : Path) (pattern : Pattern) (rule : Checked) → key ∷ others ≡ other ∷ (front ++ back) → IsReadAt book (from ++ other ∷ front) pattern rule → LooksBeyond count (length from + length (other ∷ front)) (scope_of rule.tree)
    within other front back pattern rule parts is =
        subst (λ n. LooksBeyond count n (scope_of rule.tree)) (long front)
        (w.within front back pattern rule (rest_same key other others (front ++ back) parts)
        (subst (λ (p : Path). IsReadAt book p pattern rule) (ap (λ k. from ++ k ∷ front) (sym (first_same key other others (front ++ back) parts)) ∙ sym (append_assoc from (key ∷ []) front)) is))

    last : (count ≡ length (from ++ key ∷ []) + length others) ⊎ EndsThere book (from ++ key ∷ []) others count → (count ≡ length from + length (key ∷ others)) ⊎ EndsThere book from (key ∷ others) count
    last (inl e) = inl (e ∙ long others)
    last (inr e) = inr record {
      front = key ∷ e.front;
      back = e.back;
      parts = ap (λ p. key ∷ p) e.parts;
      counted = e.counted ∙ long e.front;
      looks = subst (LooksThere book) (append_assoc from (key ∷ []) e.front) e.looks;
    }

pub elsewhere_deeper : (book : Book) (from : Path) (key : Key) (others : Path) → ElsewhereFrom book (from ++ key ∷ []) others → ElsewhereFrom book from (key ∷ others)
elsewhere_deeper book from key others e = record {
  front = key ∷ e.front;
  back = e.back;
  parts = ap (λ p. key ∷ p) e.parts;
  pattern = e.pattern;
  rule = e.rule;
  is_read = subst (λ (p : Path). IsReadAt book p e.pattern e.rule) (append_assoc from (key ∷ []) e.front) e.is_read;
  looks = e.looks;
}

-- ---- from the root

-- what is left of a path below a prefix
pub left_below : (p q : Path) → is_prefix p q ≡ true → (r : Path) × (q ≡ p ++ r)
left_below p q h = go (strip_prefix p q) refl h
  where
    go : (o : Option Path) → strip_prefix p q ≡ o → is_some o ≡ true → (r : Path) × (q ≡ p ++ r)
    go None e g = absurd (false≢true g)
    go (Some r) e g = (r, strip_is p q r e)

front_of : (n : ℕ) (p : Path) → is_prefix (take n p) p ≡ true
front_of n p = let cut = parts n p in ap (is_prefix (take n p)) cut.1 ∙ prefix-append (take n p) cut.0
  where
    parts : (n : ℕ) (p : Path) → (r : Path) × (p ≡ take n p ++ r)
    parts zero p = (p, refl)
    parts (suc n) [] = ([], refl)
    parts (suc n) (k ∷ p) = let cut = parts n p in (cut.0, ap (λ q. k ∷ q) cut.1)

take_front : (n : ℕ) (p q : Path) → n ≤ length p → take n (p ++ q) ≡ take n p
take_front zero p q h = refl
take_front (suc n) [] q h = absurd (omega arith)
take_front (suc n) (k ∷ p) q h = ap (λ r. k ∷ r) (take_front n p q (omega arith))

pub length-front : (n : ℕ) (p : Path) → n ≤ length p → length (take n p) ≡ n
length-front zero p h = refl
length-front (suc n) [] h = absurd (omega arith)
length-front (suc n) (k ∷ p) h = ap suc (length-front n p (omega arith))

pub is_watched : (book : Book) (path : Path) (count : ℕ) → WatchedFrom book [] path count → IsWatched book path (take count path)
is_watched book path count w = record {
  above = front_of count path;
  within = λ at pattern rule above is. let left = left_below at path above in by_scope at left.0 left.1 (scope_of rule.tree) (subst (λ n. LooksBeyond count n (scope_of rule.tree)) (no_more at) (w.within at left.0 pattern rule left.1 is));
  last = last w.last;
}
  where
    no_more : (at : Path) → length {A = Key} [] + length at ≡ length at
    no_more at = omega arith

    by_scope : (at left : Path) → path ≡ at ++ left → (s : Scope) → LooksBeyond count (length at) s → LooksWithin (take count path) at s
    by_scope at left parts Request h = tt
    by_scope at left parts Location h = ap (λ p. is_prefix p at) (ap (take count) parts ∙ take_front count at left h) ∙ front_of count at
    by_scope at left parts Database h = h

    last : (count ≡ length {A = Key} [] + length path) ⊎ EndsThere book [] path count → (take count path ≡ path) ⊎ LooksThere book (take count path)
    last (inl e) = inl (ap (λ n. take n path) (e ∙ no_more path) ∙ ap (take (length path)) (sym (append-nil path)) ∙ take-all path [])
    last (inr e) = inr (subst (LooksThere book) (sym (take-all e.front e.back) ∙ (λ i. take (sym (e.counted ∙ no_more e.front) i) (sym e.parts i))) e.looks)

pub looks_elsewhere : (book : Book) (path : Path) → ElsewhereFrom book [] path → LooksElsewhere book path
looks_elsewhere book path e = record { at = e.front; above = ap (is_prefix e.front) e.parts ∙ prefix-append e.front e.back; pattern = e.pattern; rule = e.rule; is_read = e.is_read; looks = e.looks }
