use Rattle.std.proofs.Common.{◌≡◌, ◌-◌, ◌+◌, ◌++◌, [], ◌∷◌, length, take, drop, IfSome, sym, subst, arith, length-append}
use Rattle.std.specs.Prelude.{IfNone}
use Rattle.std.proofs.lemmas.List.{nil_from_length}
use Rattle.tree_model.specs.Key.{Key}
use Rattle.json_tree.proofs.Edits.{first_and_rest}
use Rattle.rules_reader.specs.Node.{Steps, NoneMatches}
use Rattle.judge.specs.Working.Watched.{WatchedFrom, WatchedBelow, ElsewhereFrom}
use Rattle.judge.proofs.Places.{reached_next}
use Rattle.judge.proofs.Looking.{at_end, silent, deeper, elsewhere_deeper}
use Rattle.judge.proofs.watching.+watched_from.Goals as goal

pub returns-in-empty-clause-place : goal.returns-in-empty-clause-place
returns-in-empty-clause-place t c book from one reached long =
    c.watched_here.ensures.place book from c.args.rest.now one reached long
    (subst (λ rest. WatchedBelow book from rest c.args.depth) (sym (nil_from_length c.args.rest.now (omega arith))) (subst (WatchedBelow book from []) long (at_end book from)))

pub returns-in_err-below-in-Some-clause-none : goal.returns-in_err-below-in-Some-clause-none
returns-in_err-below-in-Some-clause-none t c book from one reached long =
    let key = c.key-item.result in
    let others = take (length c.args.rest.now - 1) (drop 1 c.args.rest.now) in
    let parts = first_and_rest c.args.rest.now key (omega arith) c.key-item.is in
    let found = subst (λ (k : Key). Steps c.args.node.now k c.in-Some.next.now) c.text.ensures.bytes c.in-Some.ensures.found in
    let deep : length (from ++ key ∷ []) ≡ c.args.depth + 1 = omega (arith, long, length-append from (key ∷ [])) in
    let none = subst (λ o. IfNone o (ElsewhereFrom book (from ++ key ∷ []) others)) c.in_err-below-in-Some.was (c.watched_from.ensures.none book (from ++ key ∷ []) one (reached_next book c.args.node.now c.in-Some.next.now from key reached found) deep) in
    subst (λ o. IfNone o (ElsewhereFrom book from c.args.rest.now)) (sym c.from_residual.ensures) (subst (ElsewhereFrom book from) (sym parts) (elsewhere_deeper book from key others none))

pub returns-in_ok-below-in-Some-clause-place : goal.returns-in_ok-below-in-Some-clause-place
returns-in_ok-below-in-Some-clause-place t c book from one reached long =
    let key = c.key-item.result in
    let others = take (length c.args.rest.now - 1) (drop 1 c.args.rest.now) in
    let parts = first_and_rest c.args.rest.now key (omega arith) c.key-item.is in
    let found = subst (λ (k : Key). Steps c.args.node.now k c.in-Some.next.now) c.text.ensures.bytes c.in-Some.ensures.found in
    let deep : length (from ++ key ∷ []) ≡ c.args.depth + 1 = omega (arith, long, length-append from (key ∷ [])) in
    let below = subst (λ o. IfSome o (WatchedFrom book (from ++ key ∷ []) others)) c.in_ok-below-in-Some.was (c.watched_from.ensures.place book (from ++ key ∷ []) one (reached_next book c.args.node.now c.in-Some.next.now from key reached found) deep) in
    c.watched_here-in-Some.ensures.place book from c.args.rest.now one reached long
    (subst (λ rest. WatchedBelow book from rest c.in_ok-below-in-Some.below) (sym parts) (deeper book from key others c.in_ok-below-in-Some.below below))

pub returns-in-None-clause-place : goal.returns-in-None-clause-place
returns-in-None-clause-place t c book from one reached long =
    let key = c.key-item.result in
    let others = take (length c.args.rest.now - 1) (drop 1 c.args.rest.now) in
    let parts = first_and_rest c.args.rest.now key (omega arith) c.key-item.is in
    let none = subst (λ (k : Key). NoneMatches c.args.node.now.book k) c.text.ensures.bytes c.in-None.ensures.none in
    let deep : length from + length (key ∷ others) ≡ c.args.depth + length c.args.rest.now = (λ i. long i + length (sym parts i)) in
    c.watched_here-in-None.ensures.place book from c.args.rest.now one reached long
    (subst (WatchedBelow book from c.args.rest.now) deep (subst (λ rest. WatchedBelow book from rest (length from + length (key ∷ others))) (sym parts) (silent book c.args.node.now from key others one reached none)))
