use Rattle.std.proofs.Common.{◌≡◌, ◌+◌, ◌<◌, ℕ, Bool, false, nat_eq, List, [], ◌∷◌, Some, length, drop, slice_get, sym, ap, ◌∙◌, subst, refl, arith}
use Rattle.std.specs.Borrow.{Bor}
use Rattle.std.proofs.lemmas.Bool.{eqb-true}
use Rattle.std.proofs.lemmas.List.{drop_all, nil_from_length}
use Rattle.tree_model.specs.Key.{Key}
use Rattle.tree_model.specs.Path.{Path}
use Rattle.tree_model.specs.Tree.{first_key}
use Rattle.judge.specs.Working.Standing.{ask_of, path_of, coming_of, Stands, Entering}
use Rattle.judge.specs.Working.Locations.{paths, rests, PathsAscend, AllBegin, NextIs, NextIsNot}
use Rattle.judge.specs.Working.Found.{Found, FailsFrom, Below, Near, FaultsHere}
use Rattle.judge.proofs.Groups.{one_longer, first_left, ascend_first, group_heads}
use Rattle.judge.proofs.Places.{stands_there, nothing_stands}
use Rattle.judge.proofs.Unvalidated.{none_fails_here}
use Rattle.judge.proofs.Telling.{none_told}
use Rattle.judge.proofs.Walks.{found_none, told_below, nothing_below, nothing_there, not_here}
use Rattle.judge.proofs.Near.{AheadNear, nothing_near, all_touched, found_near, none_left, next_is, near_here, near_start, parts_left, group_found, group_passed, near_key, near_nothing, ascend_group}
use Rattle.judge.proofs.validate.+towards.Goals as goal

-- ---- at a node

pub towards-returns-then-is_empty-clause-found : goal.towards-returns-then-is_empty-clause-found
towards-returns-then-is_empty-clause-found t c =
    let from = path_of c.args.spot.now in
    let F = FailsFrom (ask_of c.args.asking.now) (coming_of c.args.asking.now) from in
    let ls = rests (length from) (paths c.args.locations.now) in
    found_none (Near ls F) c.args.failure.now c.requires.none
    (nothing_near F ls (ap (λ (ms : List (Bor Path)). rests (length from) (paths ms)) (nil_from_length c.args.locations.now (eqb-true (length c.args.locations.now) 0 (sym c.is_empty.ensures ∙ c.if-is_empty.true)))))

pub towards-returns-then-not-has_validate-clause-found : goal.towards-returns-then-not-has_validate-clause-found
towards-returns-then-not-has_validate-clause-found t c =
    let from = path_of c.args.spot.now in
    let F = FailsFrom (ask_of c.args.asking.now) (coming_of c.args.asking.now) from in
    found_none (Near (rests (length from) (paths c.args.locations.now)) F) c.args.failure.now c.requires.none
    (λ q w f. none_fails_here c.args.asking.now c.args.spot.now _ (coming_of c.args.asking.now) c.requires.kind c.requires.here (sym c.has_validate.ensures ∙ c.if-not-has_validate.true) q w f.1)

pub towards-returns-in_default-coming-clause-found : goal.towards-returns-in_default-coming-clause-found
towards-returns-in_default-coming-clause-found t c =
    let from = path_of c.args.spot.now in
    let F = FailsFrom (ask_of c.args.asking.now) (coming_of c.args.asking.now) from in
    found_none (Near (rests (length from) (paths c.args.locations.now)) F) c.args.failure.now c.requires.none
    (λ q w f. nothing_there (ask_of c.args.asking.now) (coming_of c.args.asking.now) from (nothing_stands c.args.asking.now c.args.spot.now c.args.captures.now c.coming.result c.requires.here c.in_default-coming.is c.coming.ensures) q w f.1)

at_least_one : (ls : List (Bor Path)) (b : Bool) → b ≡ nat_eq (length ls) 0 → b ≡ false → 0 < length ls
at_least_one [] b h e = cc
at_least_one (l ∷ ls) b h e = omega arith

-- the first location goes on with the key
goes_on : (ls : List Path) (from l : Path) (deep : ℕ) (k : Key) → deep ≡ length from → Some l ≡ slice_get ls 0 → Some k ≡ first_key (drop deep l) → NextIs k (rests (length from) ls)
goes_on ls from l deep k same first key = next_is k (length from) ls l first (key ∙ ap (λ n. first_key (drop n l)) same)

pub towards-returns-in_default-clause-found : goal.towards-returns-in_default-clause-found
towards-returns-in_default-clause-found t c =
    let from = path_of c.args.spot.now in
    let some = at_least_one c.args.locations.now c.is_empty.result c.is_empty.ensures c.if-is_empty.false in
    let l = c.index-locations-0.result.now in
    found_near (FailsFrom (ask_of c.args.asking.now) (coming_of c.args.asking.now) from) (rests (length from) (paths c.args.locations.now)) c.everywhere.new.failure
    (all_touched (length from) (paths c.args.locations.now) l (first_left c.args.locations.now 0 c.index-locations-0.result some c.index-locations-0.is) (c.in_default.ensures.key ∙ ap (λ n. first_key (drop n l)) c.depth-depth.ensures.depth))
    c.in_ok-all.ensures.found

pub towards-returns-then-not-above-clause-found : goal.towards-returns-then-not-above-clause-found
towards-returns-then-not-above-clause-found t c =
    let ask = ask_of c.args.asking.now in
    let from = path_of c.args.spot.now in
    let some = at_least_one c.args.locations.now c.is_empty.result c.is_empty.ensures c.if-is_empty.false in
    near_here ask (coming_of c.args.asking.now) c.in-Some-coming.field-0 from (rests (length from) (paths c.args.locations.now)) c.in-Some.field-0.now c.in_ok-above.above c.holds_here.new.failure
    (goes_on (paths c.args.locations.now) from c.index-locations-0.result.now c.depth-depth.result c.in-Some.field-0.now c.depth-depth.ensures.depth (first_left c.args.locations.now 0 c.index-locations-0.result some c.index-locations-0.is) c.in-Some.ensures.key)
    (stands_there c.args.asking.now c.args.spot.now c.args.captures.now c.coming.result c.in-Some-coming.field-0 c.requires.here c.in-Some-coming.is c.coming.ensures)
    c.in_ok-above.ensures.told c.if-not-above.true c.in_ok-above.ensures.found

pub towards-loop-start-init : goal.towards-loop-start-init
towards-loop-start-init t c =
    let some = at_least_one c.args.locations.now c.is_empty.result c.is_empty.ensures c.if-is_empty.false in
    let ask = ask_of c.args.asking.now in
    let from = path_of c.args.spot.now in
    let none = none_told c.in_ok-above.above c.holds_here.new.failure c.in_ok-above.ensures.told c.if-not-above.false in (
      near_start (FailsFrom ask (coming_of c.args.asking.now) from) c.in-Some.field-0.now (rests (length from) (paths c.args.locations.now))
          (goes_on (paths c.args.locations.now) from c.index-locations-0.result.now c.depth-depth.result c.in-Some.field-0.now c.depth-depth.ensures.depth (first_left c.args.locations.now 0 c.index-locations-0.result some c.index-locations-0.is) c.in-Some.ensures.key)
          c.requires.sorted (not_here ask (coming_of c.args.asking.now) from (subst (FaultsHere ask from) none c.in_ok-above.ensures.found)),
      refl,
      omega arith,
      none,
    )

pub towards-towards_below-requires : goal.towards-towards_below-requires
towards-towards_below-requires t c =
    let from = path_of c.args.spot.now in
    let deep = c.depth-depth.ensures.depth in
    let here = subst (Stands c.args.asking.now c.args.spot.now) (sym c.loop-start.invariant.1) c.requires.here in
    let parts = parts_left (length from) _ _ _ c.group-group.ensures.parts in
    let sorted = ascend_first (rests (length from) (paths c.group-group.result.now)) _ (subst PathsAscend parts c.loop-start.invariant.0.sorted) in
    let begins = subst (λ (n : ℕ). AllBegin c.in-Some-key_at.key.now n (paths c.group-group.result.now)) deep c.group-group.ensures.begins in
    let room = c.in-Some-key_at.ensures.room in
    (omega arith, (here, (c.requires.kind, (c.requires.lawful, (sorted, (begins, (omega (arith, room, deep), c.loop-start.invariant.3)))))))

pub towards-returns-then-not-below-clause-told : goal.towards-returns-then-not-below-clause-told
towards-returns-then-not-below-clause-told t c =
    told_below c.in-Some-key_at.key.now c.in_ok-below.below c.towards_below.new.failure c.add_key.new.failure c.in_ok-below.ensures.told c.if-not-below.true c.in_ok-add_key.ensures

pub towards-returns-then-not-below-clause-found : goal.towards-returns-then-not-below-clause-found
towards-returns-then-not-below-clause-found t c =
    let from = path_of c.args.spot.now in
    let d = length from in
    let F = FailsFrom (ask_of c.args.asking.now) (coming_of c.args.asking.now) from in
    let ls = rests d (paths c.args.locations.now) in
    let k = c.in-Some-key_at.key.now in
    let deep = c.depth-depth.ensures.depth in
    let left = paths (drop c.loop-start.start c.args.locations.now) in
    let os = paths (drop (c.loop-start.start + length c.group-group.result.now) c.args.locations.now) in
    let parts = parts_left d left (paths c.group-group.result.now) os c.group-group.ensures.parts in
    let next = goes_on left from c.index-locations-start.result.now c.depth-depth.result k deep (first_left c.args.locations.now c.loop-start.start c.index-locations-start.result c.loop-start-test.true c.index-locations-start.is) c.in-Some-key_at.ensures.key in
    let differs = subst (λ (n : ℕ). NextIsNot k (rests n os)) deep c.group-group.ensures.next in
    group_found F ls (rests d (paths c.group-group.result.now)) (rests d os) k c.in_ok-below.below c.towards_below.new.failure c.add_key.new.failure (subst (NextIs k) parts next) differs
    (subst (λ (ms : List Path). AheadNear ls ms F) parts c.loop-start.invariant.0) c.in_ok-below.ensures.told c.if-not-below.true c.in_ok-add_key.ensures c.in_ok-below.ensures.found

pub towards-loop-start-preserved : goal.towards-loop-start-preserved
towards-loop-start-preserved t c =
    let from = path_of c.args.spot.now in
    let d = length from in
    let F = FailsFrom (ask_of c.args.asking.now) (coming_of c.args.asking.now) from in
    let ls = rests d (paths c.args.locations.now) in
    let k = c.in-Some-key_at.key.now in
    let deep = c.depth-depth.ensures.depth in
    let left = paths (drop c.loop-start.start c.args.locations.now) in
    let os = paths (drop (c.loop-start.start + length c.group-group.result.now) c.args.locations.now) in
    let parts = parts_left d left (paths c.group-group.result.now) os c.group-group.ensures.parts in
    let next = goes_on left from c.index-locations-start.result.now c.depth-depth.result k deep (first_left c.args.locations.now c.loop-start.start c.index-locations-start.result c.loop-start-test.true c.index-locations-start.is) c.in-Some-key_at.ensures.key in
    let begins = subst (λ (n : ℕ). AllBegin k n (paths c.group-group.result.now)) deep c.group-group.ensures.begins in
    let none = none_told c.in_ok-below.below c.towards_below.new.failure c.in_ok-below.ensures.told c.if-not-below.false in (
      group_passed F ls (rests d (paths c.group-group.result.now)) (rests d os) k (subst (NextIs k) parts next) (group_heads k d (paths c.group-group.result.now) begins)
          (subst (λ (ms : List Path). AheadNear ls ms F) parts c.loop-start.invariant.0)
          (subst (Found (Below k (Near (rests d (paths c.group-group.result.now)) F))) none c.in_ok-below.ensures.found),
      c.in_ok-below.ensures.back ∙ c.loop-start.invariant.1,
      c.group-group.ensures.within,
      none,
    )

pub towards-returns-clause-found : goal.towards-returns-clause-found
towards-returns-clause-found t c =
    let d = length (path_of c.args.spot.now) in
    let F = FailsFrom (ask_of c.args.asking.now) (coming_of c.args.asking.now) (path_of c.args.spot.now) in
    let past = c.loop-start-test.false in
    let ls = rests d (paths c.args.locations.now) in
    found_none (Near ls F) c.loop-start.failure c.loop-start.invariant.3
    (none_left F ls _ (ap (λ (ms : List (Bor Path)). rests d (paths ms)) (drop_all c.loop-start.start c.args.locations.now (omega (arith, past)))) c.loop-start.invariant.0)

-- ---- below a key

pub towards_below-returns-then-not-there-clause-found : goal.towards_below-returns-then-not-there-clause-found
towards_below-returns-then-not-there-clause-found t c =
    let from = path_of c.args.spot.now in
    let ask = ask_of c.args.asking.now in
    let tree = coming_of c.args.asking.now in
    let ls = rests (length from) (paths c.args.locations.now) in
    let entered = subst (Entering c.args.asking.now from c.args.key.now c.args.captures.now c.enter.new.captures c.enter.new.spot) c.if-not-there.true c.in_ok-there.ensures in
    found_none (Below c.args.key.now (Near ls (FailsFrom ask tree from))) c.args.failure.now c.requires.none
    (near_nothing ask tree ls from c.args.key.now (nothing_below ask tree from c.args.key.now entered.1))

pub towards_below-towards-requires : goal.towards_below-towards-requires
towards_below-towards-requires t c =
    let from = path_of c.args.spot.now in
    let entered = subst (Entering c.args.asking.now from c.args.key.now c.args.captures.now c.enter.new.captures c.enter.new.spot) c.if-not-there.false c.in_ok-there.ensures in
    let deep = one_longer from (path_of c.enter.new.spot) c.args.key.now entered.1 in
    let room = c.requires.room in
    (omega (arith, deep, room), (entered.0, (c.requires.kind, (c.requires.lawful, (ascend_group c.args.key.now (length from) (length (path_of c.enter.new.spot)) (paths c.args.locations.now) c.requires.begin deep c.requires.sorted, c.requires.none)))))

pub towards_below-returns-clause-found : goal.towards_below-returns-clause-found
towards_below-returns-clause-found t c =
    let from = path_of c.args.spot.now in
    let entered = subst (Entering c.args.asking.now from c.args.key.now c.args.captures.now c.enter.new.captures c.enter.new.spot) c.if-not-there.false c.in_ok-there.ensures in
    near_key (ask_of c.args.asking.now) (coming_of c.args.asking.now) (length from) (length (path_of c.enter.new.spot)) (paths c.args.locations.now) from (path_of c.enter.new.spot) c.args.key.now c.towards.new.failure
    c.requires.begin entered.1 (one_longer from (path_of c.enter.new.spot) c.args.key.now entered.1) c.in_ok-all.ensures.found
