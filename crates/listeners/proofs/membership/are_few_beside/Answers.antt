use Rattle.std.proofs.Common.{◌≡◌, ◌<◌, ◌≤◌, ◌-◌, ◌&&◌, Bool, false, not, ℕ, length, [], ◌∷◌, sym, ap, ◌∙◌, refl, arith}
use Rattle.std.specs.Prelude.{nat_lt}
use Rattle.arena_snapshot.specs.Working.Change.{entries_of}
use Rattle.arena_snapshot.proofs.Ranks.{width-entries}
use Rattle.listeners.specs.Selection.{Child, is_within}
use Rattle.listeners.specs.Working.Ahead.{number_in, count_ahead}
use Rattle.listeners.specs.Working.Items.{rank_seen, marks_seen}
use Rattle.listeners.specs.Working.Ranks.{is_kept_of, other_ranks, is_among}
use Rattle.listeners.proofs.Listing.{listed_all}
use Rattle.listeners.proofs.Room.{kept_with_room, used_up, taken, passed_by, tested_other}
use Rattle.listeners.proofs.membership.are_few_beside.Goals.{then-another_stands_ahead, else-another_stands_ahead}
use Rattle.listeners.proofs.membership.are_few_beside.Goals as goal

pub returns-then-room-eq0 : goal.returns-then-room-eq0
returns-then-room-eq0 c =
    let query = c.args.query.now in
    let cs = entries_of c.args.others.now in
    let r = rank_seen c.args.item.now in
    let ks = c.args.item.now.key.text.now ∷ [] in
    let p : ℕ × Child → Bool = λ e. not (is_among e.1.0 ks) && is_within query e.1 in
    let rs = other_ranks query c.args.others.now ks in
    let wide = width-entries c.args.others.now in
    let none = used_up query.order cs p c.args.limit r (number_in c.args.limit) c.loop-i.i (length cs) (omega (arith, wide, c.width-i-end.ensures, c.loop-i-test.true)) (omega arith) (sym c.if-room-eq0.true ∙ c.loop-i.invariant) in
    kept_with_room c.args.limit rs r 0 false (none ∙ ap (λ qs. number_in c.args.limit - count_ahead c.args.limit r qs) (listed_all query.order cs p (length cs) (omega arith))) refl
    ∙ (λ i. is_kept_of (c.requires.first i) (c.requires.last i) rs r)

pub loop-i-preserved : goal.loop-i-preserved
loop-i-preserved c =
    let query = c.args.query.now in
    let cs = entries_of c.args.others.now in
    let i = c.loop-i.i in
    let r = rank_seen c.args.item.now in
    let k = c.args.item.now.key.text.now in
    let p : ℕ × Child → Bool = λ e. not (is_among e.1.0 (k ∷ [])) && is_within query e.1 in
    let wide = width-entries c.args.others.now in
    let within : i < length cs = omega (arith, wide, c.width-i-end.ensures, c.loop-i-test.true) in
    let here = tested_other query cs c.args.limit r i (marks_seen c.bounds-bounds.result) k within c.bounds-bounds.ensures c.item.result c.another_stands_ahead.result c.item.ensures c.another_stands_ahead.ensures in
    elim c.if-another_stands_ahead.branch [
      | then-another_stands_ahead w ↦ w.room-is ∙ taken query.order cs p c.args.limit r (number_in c.args.limit) c.loop-i.room i within (sym w.if-another_stands_ahead.true ∙ here) c.loop-i.invariant
      | else-another_stands_ahead w ↦ w.room-is ∙ passed_by query.order cs p c.args.limit r (number_in c.args.limit) c.loop-i.room i within (sym w.if-another_stands_ahead.false ∙ here) c.loop-i.invariant
    ]

pub returns : goal.returns
returns c =
    let query = c.args.query.now in
    let cs = entries_of c.args.others.now in
    let r = rank_seen c.args.item.now in
    let ks = c.args.item.now.key.text.now ∷ [] in
    let p : ℕ × Child → Bool = λ e. not (is_among e.1.0 ks) && is_within query e.1 in
    let rs = other_ranks query c.args.others.now ks in
    let wide = width-entries c.args.others.now in
    kept_with_room c.args.limit rs r c.loop-i.room (nat_lt 0 c.loop-i.room) (c.loop-i.invariant ∙ ap (λ qs. number_in c.args.limit - count_ahead c.args.limit r qs) (listed_all query.order cs p c.loop-i.i (omega (arith, wide, c.width-i-end.ensures, c.loop-i-test.false)))) refl
    ∙ (λ i. is_kept_of (c.requires.first i) (c.requires.last i) rs r)
