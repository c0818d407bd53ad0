-- One turn of reading, by what the parser's functions read.
use Rattle.std.proofs.Common.{◌≡◌, ℕ, suc, List, [], ◌∷◌, ◌++◌, refl, sym, ap, ◌∙◌, Vec, Global}
use Rattle.std.specs.Prelude.{Ok, Err}
use mathlib.Core.Former.{Count}
use Rattle.std.specs.declared.boxed.Box.{Box}
use Rattle.expr_tokens.specs.declared.token.Token.{Token}
use Rattle.expr_parser.specs.declared.expr.Expr.{Expr, Call, Call', Row_of-Argument, end_of-Argument, more_of-Argument, items-the_row-Argument, items_hidden-the_row-Argument-1}
use Rattle.expr_parser.specs.declared.expr.Argument.{Argument, List as Listing, List', Row_of-Expr, end_of-Expr, more_of-Expr, items-the_row-Expr, items_hidden-the_row-Expr-0}
use Rattle.expr_parser.specs.Tree as tree
use Rattle.expr_parser.specs.Tree.{SyntaxTree, Trees, Arguments}
use Rattle.expr_parser.specs.View.{view, view_argument, view_arguments, view_items, views, arguments}
use Rattle.expr_parser.specs.Working.Reading.{Whole, Climb, Unary, Args, Items, Found, ◌>>=◌, snoc, snoc_item, items_on, on, otherwise, parts, chosen, read, arg, arg_behind, item_behind, args_on}
use Rattle.expr_parser.proofs.Turns.{read_step}

pub whole_is : (d : ℕ) (ts : List Token) → read Whole d ts ≡ (read (Climb 1) d ts >>= λ c. chosen read d c.0 c.1)
whole_is d ts = read_step Whole d ts ∙ ap (λ (o : Found SyntaxTree). o >>= λ c. chosen read d c.0 c.1) (sym (read_step (Climb 1) d ts))

pub climb_is : (n d : ℕ) (ts : List Token) → read (Climb n) d ts ≡ (read Unary d ts >>= λ x. on read n d x.0 x.1)
climb_is n d ts = read_step (Climb n) d ts ∙ ap (λ (o : Found SyntaxTree). o >>= λ x. on read n d x.0 x.1) (sym (read_step Unary d ts))

pub items_is : (d : ℕ) (xs : Trees) (ts : List Token) → read (Items xs) d ts ≡ (read Whole d ts >>= λ x. items_on read d (snoc_item xs x.0) x.1)
items_is d xs ts = read_step (Items xs) d ts ∙ ap (λ (o : Found SyntaxTree). o >>= λ x. items_on read d (snoc_item xs x.0) x.1) (sym (read_step Whole d ts))

then_more : {A B C : Type 0} (o : Found A) (f : A → B) (g : B × List Token → Found C) → (o >>= λ x. g (f x.0, x.1)) ≡ ((o >>= λ x. Ok (f x.0, x.1)) >>= g)
then_more (Ok x) f g = refl
then_more (Err e) f g = refl

-- arguments, by one more of them
pub args_by_one : (d : ℕ) (xs : Arguments) (ts : List Token) → read (Args xs) d ts ≡ (arg_behind read d xs ts >>= λ x. args_on read d x.0 x.1)
args_by_one d xs ts = read_step (Args xs) d ts ∙ then_more (arg read d ts) (snoc xs) (λ x. args_on read d x.0 x.1)

-- elements, by one more of them
pub items_by_one : (d : ℕ) (xs : Trees) (ts : List Token) → read (Items xs) d ts ≡ (item_behind read d xs ts >>= λ x. items_on read d x.0 x.1)
items_by_one d xs ts = items_is d xs ts ∙ then_more (read Whole d ts) (snoc_item xs) (λ x. items_on read d x.0 x.1)

pub parts_are : (d n : ℕ) (c : SyntaxTree) (ts : List Token) (x : SyntaxTree) (us : List Token) → n ≡ suc d → read Whole n ts ≡ Ok (x, us) → parts read d c ts ≡ otherwise read d c x us
parts_are d n c ts x us h e = ap (λ (o : Found SyntaxTree). o >>= λ y. otherwise read d c y.0 y.1) (ap (λ (m : ℕ). read Whole m ts) (sym h) ∙ e)

pub views-push : (xs : List Expr) (x : Expr) → views (xs ++ x ∷ []) ≡ snoc_item (views xs) (view x)
views-push [] x = refl
views-push (y ∷ ys) x = ap (tree.more (view y)) (views-push ys x)

pub arguments-push : (xs : List Argument) (x : Argument) → arguments (xs ++ x ∷ []) ≡ snoc (arguments xs) (view_argument x)
arguments-push [] x = refl
arguments-push (y ∷ ys) x = ap (tree.argument (view_argument y)) (arguments-push ys x)

arguments_of : (n : _) (row : Row_of-Argument n) → view_arguments row ≡ arguments (items-the_row-Argument n row)
arguments_of n end_of-Argument = refl
arguments_of n (more_of-Argument x rest) = ap (tree.argument (view_argument x)) (arguments_of _ rest)

abbrev row_of : Expr → (n : Count) × Row_of-Argument n
row_of (Call' _ _ _ _ row) = (_, row)
row_of _ = (_, end_of-Argument)

-- a call, seen as a tree
pub view-Call : (x : Box Expr Global) (f : List ℕ) (xs : Vec Argument Global) → view (Call x f xs) ≡ tree.Call (view x.value) f (arguments xs.items)
view-Call x f xs = let row = row_of (Call x f xs) in ap (tree.Call (view x.value) f) (arguments_of row.0 row.1 ∙ ap arguments (items_hidden-the_row-Argument-1 xs))

views_of : (n : _) (row : Row_of-Expr n) → view_items row ≡ views (items-the_row-Expr n row)
views_of n end_of-Expr = refl
views_of n (more_of-Expr x rest) = ap (tree.more (view x)) (views_of _ rest)

abbrev items_of : Argument → (n : Count) × Row_of-Expr n
items_of (List' _ row) = (_, row)
items_of _ = (_, end_of-Expr)

-- a list, seen as a tree
pub view-List : (xs : Vec Expr Global) → view_argument (Listing xs) ≡ tree.Listed (views xs.items)
view-List xs = let row = items_of (Listing xs) in ap tree.Listed (views_of row.0 row.1 ∙ ap views (items_hidden-the_row-Expr-0 xs))
