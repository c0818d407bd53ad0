-- The tokens that spell an expression and its parts.
use Rattle.std.proofs.Common.{◌≡◌, ℕ, ◌+◌, List, [], ◌∷◌, ◌++◌, length, drop, refl, sym, ap, ◌∙◌, subst, append_assoc, length-append}
use Rattle.std.specs.List.{AllByRecursion}
use Rattle.expr_tokens.specs.declared.token.Token.{Token}
use Rattle.expr_tokens.specs.declared.token.Token.TheVariants as t
use Rattle.expr_parser.specs.Tree.{SyntaxTree, Trees, Argument, Arguments}
use Rattle.expr_parser.specs.Grammar.{Derives, DerivesArgument, DerivesItems, DerivesArguments, DerivesMore}
use Rattle.expr_parser.specs.Grammar as g
use Rattle.expr_places.specs.Places.{width, given_width, more_width, argument_width, items_width, Placed, placed_parts, placed_argument, placed_arguments, placed_items, AreBetween, IsSpelledAt}

one : {u : Token} {xs : List Token} → AreBetween (u ∷ xs) xs 1
one {u} = record { front = u ∷ []; parts = refl; many = refl }

two : {u v : Token} {xs : List Token} → AreBetween (u ∷ v ∷ xs) xs 2
two {u} {v} = record { front = u ∷ v ∷ []; parts = refl; many = refl }

behind : {a b c : List Token} {m n : ℕ} → AreBetween a b m → AreBetween b c n → AreBetween a c (m + n)
behind {a} {b} {c} h k = record {
  front = h.front ++ k.front;
  parts = h.parts ∙ ap (λ xs. h.front ++ xs) k.parts ∙ sym (append_assoc h.front k.front c);
  many = length-append h.front k.front ∙ (λ i. h.many i + k.many i);
}

mutual
  pub spelled : {n e : ℕ} {from to : List Token} {x : SyntaxTree} → Derives n e from to x → AreBetween from to (width x)
  spelled (g.choice l c x y) = behind (spelled c) (behind one (behind (spelled x) (behind one (spelled y))))
  spelled (g.operation op l x y) = behind (spelled x) (behind one (spelled y))
  spelled (g.not l x) = behind one (spelled x)
  spelled (g.negate l x) = behind one (spelled x)
  spelled (g.member x) = behind (spelled x) two
  spelled (g.call l x xs) = behind (spelled x) (behind two (spelled_given xs))
  spelled g.number = one
  spelled g.text = one
  spelled g.true = one
  spelled g.false = one
  spelled g.null = one
  spelled g.variable = one
  spelled g.capture = one
  spelled (g.group l x) = behind one (behind (spelled x) one)
  spelled (g.next_level l x) = spelled x

  spelled_argument : {e : ℕ} {from to : List Token} {x : Argument} → DerivesArgument e from to x → AreBetween from to (argument_width x)
  spelled_argument (g.one x) = spelled x
  spelled_argument (g.listed l x xs) = behind one (behind (spelled x) (spelled_items xs))

  spelled_items : {e : ℕ} {from to : List Token} {xs : Trees} → DerivesItems e from to xs → AreBetween from to (items_width xs)
  spelled_items g.last_item = one
  spelled_items (g.next_item x xs) = behind one (behind (spelled x) (spelled_items xs))

  -- what a call is given, with its parenthesis before it
  spelled_given : {e : ℕ} {from to : List Token} {xs : Arguments} → DerivesArguments e from to xs → AreBetween (t.OpenParenthesis ∷ from) to (given_width xs)
  spelled_given g.no_arguments = two
  spelled_given (g.arguments x xs) = behind one (behind (spelled_argument x) (spelled_more xs))

  spelled_more : {e : ℕ} {from to : List Token} {xs : Arguments} → DerivesMore e from to xs → AreBetween from to (more_width xs)
  spelled_more g.last_argument = one
  spelled_more (g.next_argument x xs) = behind one (behind (spelled_argument x) (spelled_more xs))

-- ---- parts

dropped : (front rest : List Token) → drop (length front) (front ++ rest) ≡ rest
dropped [] rest = refl
dropped (u ∷ us) rest = dropped us rest

-- what is left behind so many tokens
left : {from to : List Token} {n : ℕ} → AreBetween from to n → drop n from ≡ to
left {from} {to} {n} h = ap (λ m. drop m from) (sym h.many) ∙ ap (drop (length h.front)) h.parts ∙ dropped h.front to

at : {from here to : List Token} {m n e : ℕ} {x : SyntaxTree} → AreBetween from here m → Derives n e here to x → IsSpelledAt from (m, x)
at {from} {here} {to} {m} {n} {e} {x} h x_is = record { level = n; depth = e; behind = to; spelled = subst (λ ts. Derives n e ts to x) (sym (left h)) x_is }

first : {from to : List Token} {n e : ℕ} {x : SyntaxTree} → Derives n e from to x → IsSpelledAt from (0, x)
first {from} {to} {n} {e} {x} x_is = record { level = n; depth = e; behind = to; spelled = x_is }

all_append : (P : Placed → Type 0) (xs ys : List Placed) → AllByRecursion P xs → AllByRecursion P ys → AllByRecursion P (xs ++ ys)
all_append P [] ys a b = b
all_append P (x ∷ xs) ys a b = (a.0, all_append P xs ys a.1 b)

items_at : {from here to : List Token} {m e : ℕ} {xs : Trees} → AreBetween from here m → DerivesItems e here to xs → AllByRecursion (IsSpelledAt from) (placed_items (m + 1) xs)
items_at h g.last_item = tt
items_at h (g.next_item x xs) = let k = behind h one in (at k x, items_at (behind k (spelled x)) xs)

argument_at : {from here to : List Token} {m e : ℕ} {x : Argument} → AreBetween from here m → DerivesArgument e here to x → AllByRecursion (IsSpelledAt from) (placed_argument m x)
argument_at h (g.one x) = (at h x, tt)
argument_at h (g.listed l x xs) = let k = behind h one in (at k x, items_at (behind k (spelled x)) xs)

more_at : {from here to : List Token} {m e : ℕ} {xs : Arguments} → AreBetween from here m → DerivesMore e here to xs → AllByRecursion (IsSpelledAt from) (placed_arguments (m + 1) xs)
more_at h g.last_argument = tt
more_at {from} {m = m} h (g.next_argument {x = y} {xs = ys} x xs) = let k = behind h one in all_append (IsSpelledAt from) (placed_argument (m + 1) y) (placed_arguments (m + 1 + argument_width y + 1) ys) (argument_at k x) (more_at (behind k (spelled_argument x)) xs)

arguments_at : {from here to : List Token} {m e : ℕ} {xs : Arguments} → AreBetween from here m → DerivesArguments e here to xs → AllByRecursion (IsSpelledAt from) (placed_arguments m xs)
arguments_at h g.no_arguments = tt
arguments_at {from} {m = m} h (g.arguments {x = y} {xs = ys} x xs) = all_append (IsSpelledAt from) (placed_argument m y) (placed_arguments (m + argument_width y + 1) ys) (argument_at h x) (more_at (behind h (spelled_argument x)) xs)

three : {u v w : Token} {xs : List Token} → AreBetween (u ∷ v ∷ w ∷ xs) xs 3
three {u} {v} {w} = record { front = u ∷ v ∷ w ∷ []; parts = refl; many = refl }

pub parts_spelled : {n e : ℕ} {from to : List Token} {x : SyntaxTree} → Derives n e from to x → AllByRecursion (IsSpelledAt from) (placed_parts x)
parts_spelled (g.choice l c x y) = (first c, (at (behind (spelled c) one) x, (at (behind (spelled c) (behind one (behind (spelled x) one))) y, tt)))
parts_spelled (g.operation op l x y) = (first x, (at (behind (spelled x) one) y, tt))
parts_spelled (g.not l x) = (at one x, tt)
parts_spelled (g.negate l x) = (at one x, tt)
parts_spelled (g.member x) = (first x, tt)
parts_spelled (g.call l x xs) = (first x, arguments_at (behind (spelled x) three) xs)
parts_spelled g.number = tt
parts_spelled g.text = tt
parts_spelled g.true = tt
parts_spelled g.false = tt
parts_spelled g.null = tt
parts_spelled g.variable = tt
parts_spelled g.capture = tt
parts_spelled (g.group l x) = (at one x, tt)
parts_spelled (g.next_level l x) = parts_spelled x
