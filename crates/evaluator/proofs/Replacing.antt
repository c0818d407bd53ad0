-- One text in the place of another, from one place to the next.
use Rattle.std.proofs.Common.{◌≡◌, ◌≢◌, ℕ, zero, suc, ◌<◌, ◌≤◌, List, [], ◌∷◌, ◌++◌, length, take, drop, Bool, true, false, cond, ◌==◌, ◌||◌, Option, Some, None, refl, sym, ◌∙◌, ap, subst, arith, append_assoc, length-append}
use Rattle.std.specs.Prelude.{nat_eq, option_map, MatchOption}
use Rattle.std.specs.Option.{option_map_or}
use Rattle.std.specs.List.{starts_with}
use Rattle.std.specs.Borrow.{Bor}
use Rattle.std.specs.Str.Pattern.{FindsText, FindsTextPrefix, LacksTextAt, SplitsAroundMatch, StripsPrefix}
use Rattle.std.proofs.Math.Seq.{drop-append_seam}
use Rattle.std.proofs.lemmas.Bool.{le-leb}
use Rattle.std.proofs.lemmas.Bool.Decides.{nat_tests}
use Rattle.std.proofs.lemmas.List.{take-append-drop, length-drop, length-take}
use Rattle.tree_model.specs.declared.limits.TheConstants.{MAX_TEXT_BYTES}
use Rattle.tree_model.proofs.Choices.{not_true}
use Rattle.evaluator.specs.Value.{words}
use Rattle.evaluator.specs.Operators.{text_within}
use Rattle.evaluator.specs.Texts.{is_inside, behind_byte, split_at_first, replaced_times, replaced, replace, IsFirstPlace}
use Rattle.evaluator.proofs.Inside.{starts, stands}

-- ---- the first place

lacking : (part s : List ℕ) → LacksTextAt part s 0 → starts_with nat_eq s part ≡ false
lacking part s lacks = not_true _ (λ h. lacks _ ((starts s part).0 h))

-- where the part stands at the beginning, where it stands later, and where it stands nowhere
at_once : (a : ℕ) (part back : List ℕ) → split_at_first (a ∷ part) (a ∷ (part ++ back)) ≡ Some ([], back)
at_once a part back =
    ap (λ b. cond b (Some ([], drop (length (a ∷ part)) (a ∷ (part ++ back)))) (option_map (behind_byte a) (split_at_first (a ∷ part) (part ++ back)))) ((starts (a ∷ (part ++ back)) (a ∷ part)).1 back refl)
    ∙ ap (λ r. Some ([], r)) (drop-append_seam (a ∷ part) back)

later : (part s : List ℕ) (b : ℕ) → starts_with nat_eq (b ∷ s) part ≡ false → split_at_first part (b ∷ s) ≡ option_map (behind_byte b) (split_at_first part s)
later part s b h = ap (λ x. cond x (Some ([], drop (length part) (b ∷ s))) (option_map (behind_byte b) (split_at_first part s))) h

found_at : (a : ℕ) (part front back : List ℕ) → ((i : ℕ) → i < length front → LacksTextAt (a ∷ part) (front ++ (a ∷ (part ++ back))) i) → split_at_first (a ∷ part) (front ++ (a ∷ (part ++ back))) ≡ Some (front, back)
found_at a part [] back lacks = at_once a part back
found_at a part (b ∷ front) back lacks =
    later (a ∷ part) (front ++ (a ∷ (part ++ back))) b (lacking (a ∷ part) (b ∷ (front ++ (a ∷ (part ++ back)))) (lacks 0 (omega arith)))
    ∙ ap (option_map (behind_byte b)) (found_at a part front back (λ i h. lacks (suc i) (omega arith)))

not_found : (a : ℕ) (part s : List ℕ) → ((i : ℕ) → i ≤ length s → LacksTextAt (a ∷ part) s i) → split_at_first (a ∷ part) s ≡ None
not_found a part [] lacks = refl
not_found a part (b ∷ s) lacks =
    later (a ∷ part) s b (lacking (a ∷ part) (b ∷ s) (lacks 0 (omega arith)))
    ∙ ap (option_map (behind_byte b)) (not_found a part s (λ i h. lacks (suc i) (omega arith)))

-- the parts of the text, as `split_once` gives them
split_is : (a : ℕ) (part s front back : List ℕ) → SplitsAroundMatch (FindsText (a ∷ part)) s front back → split_at_first (a ∷ part) s ≡ Some (front, back)
split_is a part s front back (i, j, found, is_front, is_back, le, long, rest) =
    let whole : s ≡ front ++ (a ∷ (part ++ back)) =
    sym (take-append-drop i s)
    ∙ ap (λ x. x ++ drop i s) (sym is_front)
    ∙ ap (λ x. front ++ x) (found.1.split ∙ ap (λ y. a ∷ (part ++ y)) (sym is_back)) in
    let lacks : (k : ℕ) → k < length front → LacksTextAt (a ∷ part) (front ++ (a ∷ (part ++ back))) k = λ k below. subst (λ (x : List ℕ). LacksTextAt (a ∷ part) x k) whole (found.0 k (omega arith)) in
    ap (split_at_first (a ∷ part)) whole ∙ found_at a part front back lacks

-- the same of any part, as `strip_prefix` and `split_once` give them
pub stripped : (part s back : List ℕ) → 0 < length part → StripsPrefix (FindsTextPrefix part) s back → split_at_first part s ≡ Some ([], back)
stripped [] s back some at = absurd (omega arith)
stripped (a ∷ part) s back some (n, (is, whole, end), is_back, long) = ap (split_at_first (a ∷ part)) (whole ∙ ap (λ x. a ∷ (part ++ x)) (sym is_back)) ∙ at_once a part back

pub split_once_is : (part s : List ℕ) (r : Option (Bor (List ℕ) × Bor (List ℕ))) → 0 < length part → MatchOption r (FindsText part s None) (λ x. SplitsAroundMatch (FindsText part) s x.0.now x.1.now) → option_map (λ p. (p.0.now, p.1.now)) r ≡ split_at_first part s
split_once_is [] s r some at = absurd (omega arith)
split_once_is (a ∷ part) s None some none = sym (not_found a part s none)
split_once_is (a ∷ part) s (Some x) some at = sym (split_is a part s x.0.now x.1.now at)

-- the first place is where the text is split
cut_at : (part s rest : List ℕ) (k : ℕ) → drop k s ≡ part ++ rest → s ≡ take k s ++ part ++ rest
cut_at part s rest k e = sym (take-append-drop k s) ∙ ap (λ x. take k s ++ x) e ∙ sym (append_assoc (take k s) part rest)

split_first : (a : ℕ) (part s front back : List ℕ) → IsFirstPlace (a ∷ part) s front back → split_at_first (a ∷ part) s ≡ Some (front, back)
split_first a part s front back at =
    let whole : s ≡ front ++ (a ∷ (part ++ back)) = at.stands ∙ append_assoc front (a ∷ part) back in
    let lacks : (k : ℕ) → k < length front → LacksTextAt (a ∷ part) s k = λ k below rest e.
    let least : length front ≤ length (take k s) = at.first (take k s) rest (cut_at (a ∷ part) s rest k e) in
    omega (arith, length-take k s) in
    ap (split_at_first (a ∷ part)) whole ∙ found_at a part front back (λ k below. subst (λ (x : List ℕ). LacksTextAt (a ∷ part) x k) whole (lacks k below))

-- a part that is nowhere inside splits nothing
either_false : (a b : Bool) → (a || b) ≡ false → (a ≡ false) × (b ≡ false)
either_false true b h = cc
either_false false b h = (refl, h)

split_outside : (part s : List ℕ) → is_inside part s ≡ false → split_at_first part s ≡ None
split_outside part [] h = ap (λ x. cond x (Some ([], [])) None) h
split_outside part (b ∷ s) h =
    let both = either_false (starts_with nat_eq (b ∷ s) part) (is_inside part s) h in
    later part s b both.0 ∙ ap (option_map (behind_byte b)) (split_outside part s both.1)

-- ---- as often as there are places

back_of : (p : List ℕ × List ℕ) (front back : List ℕ) → Some p ≡ Some (front, back) → p.1 ≡ back
back_of p front back e = let same : p ≡ (front, back) = cc in ap (λ q. q.1) same

-- what stands behind a place is shorter
behind : (b : ℕ) (s front back : List ℕ) (o : Option (List ℕ × List ℕ)) → ((f r : List ℕ) → o ≡ Some (f, r) → length r < length s) → option_map (behind_byte b) o ≡ Some (front, back) → length back < suc (length s)
behind b s front back None less h = cc
behind b s front back (Some (f, r)) less h =
    let same : r ≡ back = back_of (b ∷ f, r) front back h in
    omega (arith, less f r refl, ap length same)

shorter : (a : ℕ) (part s front back : List ℕ) → split_at_first (a ∷ part) s ≡ Some (front, back) → length back < length s
shorter a part [] front back e = cc
shorter a part (b ∷ s) front back e =
    elim (starts_with nat_eq (b ∷ s) (a ∷ part)) as (λ x. cond x (Some ([], drop (length part) s)) (option_map (behind_byte b) (split_at_first (a ∷ part) s)) ≡ Some (front, back) → length back < suc (length s)) [
      | true ↦ λ h. let same : drop (length part) s ≡ back = back_of ([], drop (length part) s) front back h in omega (arith, length-drop (length part) s, ap length same)
      | false ↦ λ h. behind b s front back (split_at_first (a ∷ part) s) (λ f r is. shorter a part s f r is) h
    ] e

pub less_behind : (part s front back : List ℕ) → 0 < length part → split_at_first part s ≡ Some (front, back) → length back < length s
less_behind [] s front back some e = absurd (omega arith)
less_behind (a ∷ part) s front back some e = shorter a part s front back e

-- what is made of a place, or of none, in so many turns
abbrev made_of : ℕ → List ℕ → List ℕ → List ℕ → Option (List ℕ × List ℕ) → List ℕ
made_of n part with s o = option_map_or (λ p. p.0 ++ with ++ replaced_times n part with p.1) o s

no_bytes : (k a : ℕ) (part with : List ℕ) → replaced_times k (a ∷ part) with [] ≡ []
no_bytes zero a part with = refl
no_bytes (suc k) a part with = refl

both_made : (n m : ℕ) (part with s : List ℕ) (o : Option (List ℕ × List ℕ)) → ((f r : List ℕ) → o ≡ Some (f, r) → replaced_times n part with r ≡ replaced_times m part with r) → made_of n part with s o ≡ made_of m part with s o
both_made n m part with s None same = refl
both_made n m part with s (Some (f, r)) same = ap (λ x. f ++ with ++ x) (same f r refl)

-- more turns than bytes change nothing
enough : (n m a : ℕ) (part with s : List ℕ) → length s ≤ n → length s ≤ m → replaced_times n (a ∷ part) with s ≡ replaced_times m (a ∷ part) with s
enough n m a part with [] h g = no_bytes n a part with ∙ sym (no_bytes m a part with)
enough zero m a part with (b ∷ s) h g = absurd (omega arith)
enough (suc n) zero a part with (b ∷ s) h g = absurd (omega arith)
enough (suc n) (suc m) a part with (b ∷ s) h g =
    both_made n m (a ∷ part) with (b ∷ s) (split_at_first (a ∷ part) (b ∷ s))
    (λ f r is. let less : length r < suc (length s) = shorter a part (b ∷ s) f r is in enough n m a part with r (omega arith) (omega arith))

-- one place, and what is behind it
once : (a : ℕ) (part with t front back : List ℕ) → split_at_first (a ∷ part) t ≡ Some (front, back) → length back < length t → replaced (a ∷ part) with t ≡ front ++ with ++ replaced (a ∷ part) with back
once a part with [] front back e less = absurd (omega arith)
once a part with (b ∷ t) front back e less =
    ap (made_of (length t) (a ∷ part) with (b ∷ t)) e
    ∙ ap (λ x. front ++ with ++ x) (enough (length t) (length back) a part with back (omega arith) (omega arith))

replaced_split : (part with s front back : List ℕ) → 0 < length part → split_at_first part s ≡ Some (front, back) → replaced part with s ≡ front ++ with ++ replaced part with back
replaced_split [] with s front back some e = absurd (omega arith)
replaced_split (a ∷ part) with s front back some e = once a part with s front back e (shorter a part s front back e)

replaced_none : (part with s : List ℕ) → split_at_first part s ≡ None → replaced part with s ≡ s
replaced_none part with [] e = refl
replaced_none part with (b ∷ s) e = ap (made_of (length s) part with (b ∷ s)) e

-- where the part is not inside
replaced_outside : (part with s : List ℕ) → is_inside part s ≡ false → replaced part with s ≡ s
replaced_outside part with s h = replaced_none part with s (split_outside part s h)

-- where the part stands nowhere
pub replaced_nowhere : (s part with : List ℕ) → ((front back : List ℕ) → s ≢ front ++ part ++ back) → replaced part with s ≡ s
replaced_nowhere s part with none = replaced_outside part with s (not_true _ (λ h. let at = stands part s h in none at.0 at.1 (at.2 ∙ sym (append_assoc at.0 part at.1))))

-- at the first place of the part
pub replaced_first : (s part with front back : List ℕ) → part ≢ [] → IsFirstPlace part s front back → replaced part with s ≡ front ++ with ++ replaced part with back
replaced_first s [] with front back some at = absurd (some refl)
replaced_first s (a ∷ part) with front back some at = replaced_split (a ∷ part) with s front back (omega arith) (split_first a part s front back at)

-- ---- the whole, within the limit

replace_is : (t part with : List ℕ) → (length part == 0) ≡ false → replace (words t) (words part) (words with) ≡ text_within (replaced part with t)
replace_is t part with full = ap (λ e. cond e None (text_within (replaced part with t))) full

pub replace_within : (s part with : List ℕ) → part ≢ [] → replace (words s) (words part) (words with) ≡ text_within (replaced part with s)
replace_within s [] with some = absurd (some refl)
replace_within s (a ∷ part) with some = replace_is s (a ∷ part) with (grind (arith, nat_tests))

pub replace_outside : (t part with : List ℕ) → (length part == 0) ≡ false → is_inside part t ≡ false → replace (words t) (words part) (words with) ≡ text_within t
replace_outside t part with full h = replace_is t part with full ∙ ap text_within (replaced_outside part with t h)

too_long : (s : List ℕ) → MAX_TEXT_BYTES < length s → text_within s ≡ None
too_long s long = grind (arith, nat_tests)

fits : (s : List ℕ) → length s ≤ MAX_TEXT_BYTES → text_within s ≡ Some (words s)
fits s room = ap (λ x. cond x (Some (words s)) None) (le-leb (length s) MAX_TEXT_BYTES room)

-- ---- a loop from place to place

-- so far: what was made, and behind it what becomes of the rest
pub record Made (t part with made rest : List ℕ) : Type 0 where
  pub is : replaced part with t ≡ made ++ replaced part with rest

one_more : (t part with made rest front back : List ℕ) → 0 < length part → Made t part with made rest → split_at_first part rest ≡ Some (front, back) → replaced part with t ≡ ((made ++ front) ++ with) ++ replaced part with back
one_more t part with made rest front back some so_far at =
    so_far.is
    ∙ ap (λ x. made ++ x) (replaced_split part with rest front back some at)
    ∙ simp append_assoc

longer : (x y : List ℕ) → length x ≤ length (x ++ y)
longer x y = omega (arith, length-append x y)

pub Made-none : (t part with made : List ℕ) → made ≡ [] → Made t part with made t
Made-none t part with made e = record { is = ap (λ x. x ++ replaced part with t) (sym e) }

pub Made-more : (t part with made rest front back next last : List ℕ) → 0 < length part → Made t part with made rest → split_at_first part rest ≡ Some (front, back) → next ≡ made ++ front → last ≡ next ++ with → Made t part with last back
Made-more t part with made rest front back next last some so_far at e f =
    record { is = one_more t part with made rest front back some so_far at ∙ ap (λ x. x ++ replaced part with back) (ap (λ x. x ++ with) (sym e) ∙ sym f) }

pub long_front : (t part with made rest front back : List ℕ) → 0 < length part → Made t part with made rest → split_at_first part rest ≡ Some (front, back) → MAX_TEXT_BYTES < length (made ++ front) → text_within (replaced part with t) ≡ None
long_front t part with made rest front back some so_far at long =
    let e = ap length (one_more t part with made rest front back some so_far at) in
    let n = longer (made ++ front) with in
    let m = longer ((made ++ front) ++ with) (replaced part with back) in
    too_long (replaced part with t) (omega (arith, e, n, m))

pub long_with : (t part with made rest front back next : List ℕ) → 0 < length part → Made t part with made rest → split_at_first part rest ≡ Some (front, back) → next ≡ made ++ front → MAX_TEXT_BYTES < length (next ++ with) → text_within (replaced part with t) ≡ None
long_with t part with made rest front back next some so_far at e long =
    let i = ap length (one_more t part with made rest front back some so_far at) in
    let k = ap (λ x. length (x ++ with)) e in
    let m = longer ((made ++ front) ++ with) (replaced part with back) in
    too_long (replaced part with t) (omega (arith, i, k, m))

ended : (t part with made rest : List ℕ) → Made t part with made rest → split_at_first part rest ≡ None → replaced part with t ≡ made ++ rest
ended t part with made rest so_far none = so_far.is ∙ ap (λ x. made ++ x) (replaced_none part with rest none)

pub long_rest : (t part with made rest : List ℕ) → Made t part with made rest → split_at_first part rest ≡ None → MAX_TEXT_BYTES < length (made ++ rest) → text_within (replaced part with t) ≡ None
long_rest t part with made rest so_far none long =
    let e = ap length (ended t part with made rest so_far none) in
    too_long (replaced part with t) (omega (arith, e))

pub Made-all : (t part with made rest all : List ℕ) → Made t part with made rest → split_at_first part rest ≡ None → all ≡ made ++ rest → length all ≤ MAX_TEXT_BYTES → text_within (replaced part with t) ≡ Some (words all)
Made-all t part with made rest all so_far none e room = ap text_within (ended t part with made rest so_far none ∙ sym e) ∙ fits all room
