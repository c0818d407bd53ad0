-- Groups that are tied to one another.
use Rattle.std.proofs.Common.{◌≡◌, ◌⊎◌, inl, inr, ⊎_elim, ℕ, ◌+◌, List, [], ◌∷◌, ◌++◌, length, refl, sym, ◌∙◌, ap, subst, arith, append_assoc, length-append}
use Rattle.std.proofs.lemmas.List.{append-nil}
use Rattle.journal.specs.Format.{Group, Link, Fits, AllFit, next, end_of, opening, group_text, groups_text, title, title_sum, first_line, file_of}
use Rattle.journal.proofs.Texts.{length-sum, length-title, length-title_sum, same_group}

-- what all links of a file have
pub record IsSized (link : Link) : Type 0 where
  pub identifier : length link.identifier ≡ 16
  pub before : length link.before ≡ 64

pub next_sized : (link : Link) (group : Group) → IsSized link → IsSized (next link group)
next_sized link group sized = record { identifier = sized.identifier; before = length-sum link group }

pub end_sized : (link : Link) (groups : List Group) → IsSized link → IsSized (end_of link groups)
end_sized link [] sized = sized
end_sized link (group ∷ groups) sized = end_sized (next link group) groups (next_sized link group sized)

pub opening_sized : (identifier : List ℕ) → length identifier ≡ 16 → IsSized (opening identifier)
opening_sized identifier sized = record { identifier = sized; before = length-title_sum identifier }

-- one group more
pub groups_text-push : (link : Link) (groups : List Group) (group : Group) → groups_text link (groups ++ group ∷ []) ≡ groups_text link groups ++ group_text (end_of link groups) group
groups_text-push link [] group = append-nil (group_text link group)
groups_text-push link (g ∷ groups) group =
    ap (λ l. group_text link g ++ l) (groups_text-push (next link g) groups group) ∙ sym (append_assoc (group_text link g) (groups_text (next link g) groups) (group_text (end_of (next link g) groups) group))

pub groups_text-append : (link : Link) (xs ys : List Group) → groups_text link (xs ++ ys) ≡ groups_text link xs ++ groups_text (end_of link xs) ys
groups_text-append link [] ys = refl
groups_text-append link (g ∷ xs) ys =
    ap (λ l. group_text link g ++ l) (groups_text-append (next link g) xs ys) ∙ sym (append_assoc (group_text link g) (groups_text (next link g) xs) (groups_text (end_of (next link g) xs) ys))

pub end_of-append : (link : Link) (xs ys : List Group) → end_of link (xs ++ ys) ≡ end_of (end_of link xs) ys
end_of-append link [] ys = refl
end_of-append link (g ∷ xs) ys = end_of-append (next link g) xs ys

pub fit-push : (link : Link) (groups : List Group) (group : Group) → AllFit link groups → Fits (end_of link groups) group → AllFit link (groups ++ group ∷ [])
fit-push link [] group fit last = (last, tt)
fit-push link (g ∷ groups) group fit last = (fit.0, fit-push (next link g) groups group fit.1 last)

pub fit-front : (link : Link) (xs ys : List Group) → AllFit link (xs ++ ys) → AllFit link xs
fit-front link [] ys fit = tt
fit-front link (g ∷ xs) ys fit = (fit.0, fit-front (next link g) xs ys fit.1)

pub fit-back : (link : Link) (xs ys : List Group) → AllFit link (xs ++ ys) → AllFit (end_of link xs) ys
fit-back link [] ys fit = fit
fit-back link (g ∷ xs) ys fit = fit-back (next link g) xs ys fit.1

-- a link says how many bytes stand before it
pub place_is : (link : Link) (groups : List Group) → (end_of link groups).place ≡ link.place + length (groups_text link groups)
place_is link [] = omega arith
place_is link (g ∷ groups) = omega (arith, place_is (next link g) groups, length-append (group_text link g) (groups_text (next link g) groups))

pub number_is : (link : Link) (groups : List Group) → (end_of link groups).number ≡ link.number + length groups
number_is link [] = omega arith
number_is link (g ∷ groups) = omega (arith, number_is (next link g) groups)

pub identifier_is : (link : Link) (groups : List Group) → (end_of link groups).identifier ≡ link.identifier
identifier_is link [] = refl
identifier_is link (g ∷ groups) = identifier_is (next link g) groups

pub length-first_line : (identifier : List ℕ) → length identifier ≡ 16 → length (first_line identifier) ≡ 97
length-first_line identifier sized =
    omega (arith, length-append (title identifier) (title_sum identifier ++ 10 ∷ []), length-append (title_sum identifier) (10 ∷ []), length-title identifier, length-title_sum identifier)

pub place_of_file : (identifier : List ℕ) (groups : List Group) → length identifier ≡ 16 → (end_of (opening identifier) groups).place ≡ length (file_of identifier groups)
place_of_file identifier groups sized =
    omega (arith, place_is (opening identifier) groups, length-append (first_line identifier) (groups_text (opening identifier) groups), length-first_line identifier sized)

-- Of two texts of groups that begin a list, the groups of one go on with those of the other.
pub one_goes_on : (link : Link) (xs ys : List Group) (r s : List ℕ) → IsSized link → AllFit link xs → AllFit link ys → groups_text link xs ++ r ≡ groups_text link ys ++ s
    → ((more : List Group) × (xs ≡ ys ++ more)) ⊎ ((g : Group) × (more : List Group) × (ys ≡ xs ++ g ∷ more) × (r ≡ groups_text (end_of link xs) (g ∷ more) ++ s))
one_goes_on link xs [] r s sized fit_xs fit_ys same = inl (xs, refl)
one_goes_on link [] (g ∷ ys) r s sized fit_xs fit_ys same = inr (g, ys, refl, same)
one_goes_on link (g ∷ xs) (h ∷ ys) r s sized fit_xs fit_ys same =
    let first = same_group link sized.identifier sized.before g h (groups_text (next link g) xs ++ r) (groups_text (next link h) ys ++ s) fit_xs.0 fit_ys.0
    (sym (append_assoc (group_text link g) (groups_text (next link g) xs) r) ∙ same ∙ append_assoc (group_text link h) (groups_text (next link h) ys) s) in
    let is : g ≡ h = first.0 in
    let back_is = sym is in
    let back : groups_text (next link g) xs ++ r ≡ groups_text (next link g) ys ++ s = first.1 ∙ ap (λ f. groups_text (next link f) ys ++ s) (sym is) in
    let fit : AllFit (next link g) ys = subst (λ f. AllFit (next link f) ys) (sym is) fit_ys.1 in
    ⊎_elim (λ on. inl (on.0, λ i. is i ∷ on.1 i)) (λ on. inr (on.0, on.1, (λ i. back_is i ∷ on.2 i), on.3)) (one_goes_on (next link g) xs ys r s (next_sized link g sized) fit_xs.1 fit back)
