-- An event with the moment of its step filled in is answered as the event is.
use Rattle.std.proofs.Common.{◌≡◌, ◌==◌, ◌&&◌, ◌||◌, ◌<◌, ◌≤◌, ◌+◌, ℕ, zero, suc, Bool, true, cond, not, List, [], ◌∷◌, map, length, get_or, inl, inr, All, refl, sym, ap, ◌∙◌, arith}
use Rattle.std.specs.Prelude.{pos, int_le}
use Rattle.std.specs.Ordering.{is_lt}
use Rattle.std.specs.List.Sorted.{IsSortedBy, IsPermutation}
use Rattle.std.proofs.lemmas.Bool.Decides.{nat_tests}
use Rattle.std.proofs.lemmas.List.{length-map, get_or-map}
use Rattle.tree_model.specs.declared.limits.TheConstants.{MIN_WHOLE, MAX_WHOLE}
use Rattle.tree_model.specs.Path.{Path, path_cmp}
use Rattle.tree_model.specs.Primitive.{is_whole}
use Rattle.tree_model.specs.Tree.{Tree}
use Rattle.tree_model.specs.Put.{Put, location, written, overlaps, merged}
use Rattle.tree_model.specs.Draft.{as_draft, IsFixed}
use Rattle.tree_model.specs.Write.{Write, made, all_made, as_write, AreFixed}
use Rattle.tree_model.proofs.Drafts.{at-as_draft, overlaps-made, IsFixed-as_draft}
use Rattle.tree_model.proofs.Choices.{both_so}
use Rattle.evaluator.specs.declared.env.TheConstants.{MAX_MOMENT}
use Rattle.judge.specs.Tests.{write_verdict}
use Rattle.rtdb_model.specs.declared.event.Event.{Event}
use Rattle.rtdb_model.specs.declared.event.Event.TheVariants.{Open, Close, SignIn, SignOut, Get, Set, Remove, Update, Listen, Unlisten, Poll, Tick, Deploy, OnSet, OnRemove, OnUpdate, OnCancel, Leave, RunNext}
use Rattle.rtdb_model.specs.declared.reply.Reply.{Reply}
use Rattle.rtdb_model.specs.declared.reply.Reply.TheVariants.{Done}
use Rattle.rtdb_model.specs.declared.reply.Refusal.TheVariants.{NoSession, EmptyUpdate, Overlap, Leaving}
use Rattle.rtdb_model.specs.State.{State, is_open, is_leaving, scene_at}
use Rattle.rtdb_model.specs.Rejudged.{all_rejudged}
use Rattle.rtdb_model.specs.FilledWrites.{filled_in}
use Rattle.rtdb_model.specs.Filled.{filled}
use Rattle.rtdb_model.specs.Step.{Outcome, refused, unless_refused, denial, or_full, tree_with, write_refusal, makes, sets, updates, wants_presence, unbarred, outcome, takes_none, takes_no_memory, Step}

-- ---- writes

made_filled : (now : ℕ) (w : Write) → made now (filled_in now w) ≡ made now w
made_filled now w = λ i. (location w, at-as_draft now (written (made now w)) i)

pub all_filled : (now : ℕ) (ws : List Write) → all_made now (map (filled_in now) ws) ≡ all_made now ws
all_filled now [] = refl
all_filled now (w ∷ ws) = λ i. made_filled now w i ∷ all_filled now ws i

locations_filled : (now : ℕ) (ws : List Write) → map location (map (filled_in now) ws) ≡ map location ws
locations_filled now [] = refl
locations_filled now (w ∷ ws) = ap (λ ls. location w ∷ ls) (locations_filled now ws)

pub overlaps_filled : (now : ℕ) (ws : List Write) → overlaps (map (filled_in now) ws) ≡ overlaps ws
overlaps_filled now ws = sym (overlaps-made now (map (filled_in now) ws)) ∙ ap overlaps (all_filled now ws) ∙ overlaps-made now ws

empty_filled : (now : ℕ) (ws : List Write) → length (map (filled_in now) ws) == 0 ≡ length ws == 0
empty_filled now ws = ap (λ n. n == 0) (length-map ws (filled_in now))

-- no moment is left
pub fixed_filled : (now : ℕ) (ws : List Write) → AreFixed (map (filled_in now) ws)
fixed_filled now [] k d h = absurd (omega arith)
fixed_filled now (w ∷ ws) zero d h = IsFixed-as_draft (written (made now w))
fixed_filled now (w ∷ ws) (suc k) d h = fixed_filled now ws k d (omega (arith, h))

-- a moment that was filled in stays
pub filled_again : (now then : ℕ) (ws : List Write) → map (filled_in then) ws ≡ map (filled_in now) (map (filled_in then) ws)
filled_again now then [] = refl
filled_again now then (w ∷ ws) = λ i. (location w, as_draft (sym (at-as_draft now (written (made then w))) i)) ∷ filled_again now then ws i

-- writes in order stay in order
pub in_order_filled : (now : ℕ) (ws : List Write) → IsSortedBy (λ a b. is_lt (path_cmp (location a) (location b))) ws → IsSortedBy (λ a b. is_lt (path_cmp (location a) (location b))) (map (filled_in now) ws)
in_order_filled now ws h = go ws h
  where
    go : (ws : List Write) → IsSortedBy (λ a b. is_lt (path_cmp (location a) (location b))) ws → IsSortedBy (λ a b. is_lt (path_cmp (location a) (location b))) (map (filled_in now) ws)
    go ws h k d from low =
        let long = length-map ws (filled_in now) in
        (λ i. is_lt (path_cmp (location (get_or-map (filled_in now) ws (k + 1) d d (omega arith) i)) (location (get_or-map (filled_in now) ws k d d (omega arith) i))))
        ∙ h k d from (omega arith)

-- a moment of a step is a number of a tree
pub moment_is_whole : (now : ℕ) → now ≤ MAX_MOMENT → is_whole (pos now) ≡ true
unfolding is_whole
moment_is_whole now h = both_so (int_le MIN_WHOLE (pos now)) _ refl (grind (arith, nat_tests))

-- ---- steps

module _ (old : State) (now session : ℕ) where
  -- what is made of a tree that writes at these locations propose
  abbrev makes_of : Tree → List Path → Outcome
  makes_of t ls = unless_refused old (or_full (denial (write_verdict (scene_at old now session) t ls)) t) (record { reply = Done; after = all_rejudged old.tree now (record old { tree = t }) })

  makes_filled : (ws : List Write) → makes old now session (map (filled_in now) ws) ≡ makes old now session ws
  unfolding write_refusal
  makes_filled ws = λ i. makes_of (merged old.tree (all_filled now ws i)) (locations_filled now ws i)

  unbarred_filled : (event : Event) → unbarred old now session (filled now event) ≡ unbarred old now session event
  unbarred_filled Open = refl
  unbarred_filled Close = refl
  unbarred_filled (SignIn who) = refl
  unbarred_filled SignOut = refl
  unbarred_filled (Get path query) = refl
  unbarred_filled (Set write) = ap (cond (not (is_open old session)) (refused old NoSession)) (makes_filled (write ∷ []))
  unbarred_filled (Remove path) = refl
  unbarred_filled (Update ws) = λ i.
      cond (not (is_open old session)) (refused old NoSession)
      (cond (empty_filled now ws i) (refused old EmptyUpdate) (cond (overlaps_filled now ws i) (refused old Overlap) (makes_filled ws i)))
  unbarred_filled (Listen id path query) = refl
  unbarred_filled (Unlisten id) = refl
  unbarred_filled Poll = refl
  unbarred_filled Tick = refl
  unbarred_filled (Deploy rules) = refl
  unbarred_filled (OnSet write) = refl
  unbarred_filled (OnRemove path) = refl
  unbarred_filled (OnUpdate writes) = refl
  unbarred_filled (OnCancel path) = refl
  unbarred_filled Leave = refl
  unbarred_filled RunNext = refl

  none_filled : (event : Event) → takes_none old session (filled now event) ≡ takes_none old session event
  none_filled Open = refl
  none_filled Close = refl
  none_filled (SignIn who) = refl
  none_filled SignOut = refl
  none_filled (Get path query) = refl
  none_filled (Set write) = refl
  none_filled (Remove path) = refl
  none_filled (Update ws) = λ i. not (is_open old session) || empty_filled now ws i || overlaps_filled now ws i
  none_filled (Listen id path query) = refl
  none_filled (Unlisten id) = refl
  none_filled Poll = refl
  none_filled Tick = refl
  none_filled (Deploy rules) = refl
  none_filled (OnSet write) = refl
  none_filled (OnRemove path) = refl
  none_filled (OnUpdate writes) = refl
  none_filled (OnCancel path) = refl
  none_filled Leave = refl
  none_filled RunNext = refl

  presence_filled : (event : Event) → wants_presence (filled now event) ≡ wants_presence event
  presence_filled Open = refl
  presence_filled Close = refl
  presence_filled (SignIn who) = refl
  presence_filled SignOut = refl
  presence_filled (Get path query) = refl
  presence_filled (Set write) = refl
  presence_filled (Remove path) = refl
  presence_filled (Update writes) = refl
  presence_filled (Listen id path query) = refl
  presence_filled (Unlisten id) = refl
  presence_filled Poll = refl
  presence_filled Tick = refl
  presence_filled (Deploy rules) = refl
  presence_filled (OnSet write) = refl
  presence_filled (OnRemove path) = refl
  presence_filled (OnUpdate writes) = refl
  presence_filled (OnCancel path) = refl
  presence_filled Leave = refl
  presence_filled RunNext = refl

  pub outcome_filled : (event : Event) → outcome old now session (filled now event) ≡ outcome old now session event
  outcome_filled event = λ i. cond (presence_filled event i && is_leaving old session) (refused old Leaving) (unbarred_filled event i)

  pub memory_filled : (event : Event) → takes_no_memory old session (filled now event) ≡ takes_no_memory old session event
  memory_filled event = λ i. (presence_filled event i && is_leaving old session) || none_filled event i

  pub step_filled : (event : Event) (reply : Reply) (new : State) → Step old now session (filled now event) reply new → Step old now session event reply new
  unfolding Step
  step_filled event reply new (inl is) = inl (sym (outcome_filled event) ∙ is)
  step_filled event reply new (inr h) = inr (h.0, h.1, sym (memory_filled event) ∙ h.2)
