-- The calls of visits, of workers, and of all workers.
use Rattle.std.proofs.Common.{◌≡◌, ℕ, ◌+◌, ◌≤◌, List, [], ◌∷◌, ◌++◌, map, length, length-append, refl, ap, sym, subst, ◌∙◌, arith, append-nil, true, false, inl, inr}
use Rattle.std.specs.Prelude.{Option}
use Rattle.std.proofs.lemmas.Grind.{flat_map-append}
use Rattle.std.proofs.lemmas.List.{map-append}
use Rattle.std.proofs.lemmas.List.Elements.{All-nil, All-cons, All-append}
use Rattle.tokens.specs.Tokens.{Tokens}
use Rattle.locked_server.specs.History.{Shuffled}
use Rattle.locked_server.specs.Known.{Known, IsSameSeat, SeesMore, Met, own}
use Rattle.sessions.specs.Traffic.{Traffic}
use Rattle.sessions.specs.Calls.{Answered, answered_in, calls, entries_of, HasSpent, Gains}
use Rattle.sessions.specs.Serving.{Serves, world}
use Rattle.sessions.specs.declared.serve.SessionEnd.{SessionEnd}
use Rattle.sessions.proofs.Gaining.{gains_none, gains_both, spent_in_either, stays_full}
use Rattle.server.specs.declared.rounds.TheConstants.{TURNS}
use Rattle.server.specs.Served.{joined, AreOfVisit, AreOfWorkers, AllShuffled, HaveServed}
use Rattle.server.specs.Working.{HasVisit, HasVisits}
use Rattle.server.proofs.Going.{goes_nowhere, goes_further}
use Rattle.server.proofs.Shuffling.{first_alone, one_behind, is_second, both_shuffled, shuffled_map}

-- ---- one worker

pub visited : (tokens : Tokens) (session : ℕ) (k l : Known) (m n : Option (List ℕ)) (p q : Traffic) (end : SessionEnd) → Serves tokens session TURNS (world k m p) end (world l n q) → HasVisit tokens session k l
visited tokens session k l m n p q end ((messages, d, goes, visit), done) = (d.calls, (messages, d, q, end, visit, refl), goes.gains)

joined-append : (these those : List (List Answered)) → joined (these ++ those) ≡ joined these ++ joined those
joined-append these those = flat_map-append (λ (list : List Answered). list) these those

pub no_visits : (tokens : Tokens) (session : ℕ) (k : Known) → HasVisits tokens session 0 k k
no_visits tokens session k = ([], All-nil (AreOfVisit tokens session), omega arith, gains_none k)

pub one_visit : (tokens : Tokens) (session : ℕ) (k l : Known) → HasVisit tokens session k l → HasVisits tokens session 1 k l
one_visit tokens session k l (asked, visit, gains) = (
  asked ∷ [],
  All-cons (AreOfVisit tokens session) asked [] visit (All-nil (AreOfVisit tokens session)),
  omega arith,
  subst (λ (made : List Answered). Gains k made l) (sym (append-nil asked)) gains,
)

pub more_visits : (tokens : Tokens) (session n : ℕ) (k l m : Known) → HasVisits tokens session n k l → HasVisits tokens session 1 l m → HasVisits tokens session (n + 1) k m
more_visits tokens session n k l m (visits, each, few, gains) (others, each_other, few_others, more) =
    let count = length-append visits others in (
      visits ++ others,
      All-append (AreOfVisit tokens session) visits others each each_other,
      omega (arith, count, few, few_others),
      subst (λ (made : List Answered). Gains k made m) (sym (joined-append visits others)) (gains_both k l m (joined visits) (joined others) gains more),
    )

pub no_visit_more : (tokens : Tokens) (session n most : ℕ) (k l : Known) → n ≤ most → HasVisits tokens session n k l → HasVisits tokens session most k l
no_visit_more tokens session n most k l less (visits, each, few, gains) = (visits, each, omega (arith, few, less), gains)

-- ---- all workers

pub served_by_none : (tokens : Tokens) (rounds session : ℕ) (k : Known) → HaveServed tokens rounds session 0 k k
served_by_none tokens rounds session k = record {
  goes = goes_nowhere k;
  made = [];
  each = tt;
  number = refl;
  shuffled = ([], refl, first_alone (calls k));
  full = λ has. absurd (let e : true ≡ false = sym has in cc);
}

pub served_by_one : (tokens : Tokens) (rounds session : ℕ) (k l : Known) → HasVisits tokens session rounds k l → HaveServed tokens rounds session 1 k l
served_by_one tokens rounds session k l (visits, each, few, gains) = record {
  goes = record { hall = gains.same.0; opening = gains.same.1; begins = gains.begins };
  made = joined visits ∷ [];
  each = ((visits, each, few, refl), tt);
  number = refl;
  shuffled = (
    entries_of (joined visits),
    ([], refl, first_alone (entries_of (joined visits))),
    subst (λ (all : List Answered). Shuffled (calls k) (entries_of (joined visits)) all) (sym gains.more) (one_behind (calls k) (entries_of (joined visits))),
  );
  full = λ has. gains.full (subst HasSpent (append-nil (joined visits)) has);
}

workers_both : (tokens : Tokens) (rounds session : ℕ) (these those : List (List Answered)) → AreOfWorkers tokens rounds session these → AreOfWorkers tokens rounds (session + length these) those → AreOfWorkers tokens rounds session (these ++ those)
workers_both tokens rounds session [] those none some = let same : session + length {A = List Answered} [] ≡ session = omega arith in subst (λ (n : ℕ). AreOfWorkers tokens rounds n those) same some
workers_both tokens rounds session (asked ∷ these) those (one, others) some =
    let same : session + length (asked ∷ these) ≡ session + 1 + length these = omega arith in
    (one, workers_both tokens rounds (session + 1) these those others (subst (λ (n : ℕ). AreOfWorkers tokens rounds n those) same some))

-- the workers of two seats, of which one takes the other in
pub served_by_both : (tokens : Tokens) (rounds session low high : ℕ) (k other a b m : Known) → own other ≡ [] → HaveServed tokens rounds session low k a → HaveServed tokens rounds (session + low) high other b
    → m.hall ≡ a.hall → m.opening ≡ a.opening → Met a b m → HaveServed tokens rounds session (low + high) k m
served_by_both tokens rounds session low high k other a b m new x y hall opening met = record {
  goes = goes_further k a m x.goes hall opening met.0;
  made = x.made ++ y.made;
  each = workers_both tokens rounds session x.made y.made x.each (subst (λ (n : ℕ). AreOfWorkers tokens rounds (session + n) y.made) (sym x.number) y.each);
  number = length-append x.made y.made ∙ ap (λ (n : ℕ). n + length y.made) x.number ∙ ap (λ (n : ℕ). low + n) y.number;
  shuffled = subst (λ (lists : List (List Answered)). AllShuffled (calls k ∷ lists) (calls m)) (sym (map-append entries_of x.made y.made))
      (both_shuffled (calls k ∷ map entries_of x.made) (map entries_of y.made) (calls a) (calls b) (calls m) x.shuffled those (shuffled_map answered_in (own a) (own b) (own m) met.2));
  full = λ has. elim (spent_in_either (joined x.made) (joined y.made) (subst HasSpent (joined-append x.made y.made) has)) [ inl first ↦ stays_full a m met.0 (x.full first) | inr second ↦ stays_full b m met.1 (y.full second) ];
}
  where
    those : AllShuffled (map entries_of y.made) (calls b)
    those =
        let s = y.shuffled in
        subst (λ (all : List Answered). AllShuffled (map entries_of y.made) all) (sym (is_second s.0 (calls b) (subst (λ (made : List Answered). Shuffled made s.0 (calls b)) (ap (map answered_in) new) s.2))) s.1

pub served_and_seen : (tokens : Tokens) (rounds session workers : ℕ) (k l m : Known) → HaveServed tokens rounds session workers k l → IsSameSeat l m → SeesMore l m → HaveServed tokens rounds session workers k m
served_and_seen tokens rounds session workers k l m x same more = record {
  goes = goes_further k l m x.goes same.0 same.1 more.0;
  made = x.made;
  each = x.each;
  number = x.number;
  shuffled = subst (λ (all : List Answered). AllShuffled (calls k ∷ map entries_of x.made) all) (sym (ap (map answered_in) more.1)) x.shuffled;
  full = λ has. stays_full l m more.0 (x.full has);
}
