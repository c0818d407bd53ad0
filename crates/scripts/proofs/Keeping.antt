-- The front of a line, and what of a line that goes on is held.
use Rattle.std.proofs.Common.{◌≡◌, ℕ, zero, suc, ◌+◌, ◌-◌, ◌≤◌, Bool, ◌&&◌, ◌||◌, List, [], ◌∷◌, ◌++◌, length, take, refl, sym, ap, arith, ◌∙◌, length-append}
use Rattle.std.specs.Prelude.{◌==◌}
use Rattle.std.proofs.Math.Bool.{and_assoc}
use Rattle.std.proofs.lemmas.List.{take_all}
use native.Mathlib.Numerals.{unary_clauses}
use Rattle.scripts.specs.Lines.{is_blank}
use Rattle.scripts.specs.Working.Parts.{FRONT_BYTES, front, KeepsFront, ShowsFront}
use Rattle.json_lines.specs.declared.limits.TheConstants.{MAX_MESSAGE_BYTES}

-- ---- fronts

take-nil : (m : ℕ) → let none : List ℕ = [] in take m none ≡ none
take-nil zero = refl
take-nil (suc m) = refl

take-append : (m : ℕ) (xs ys : List ℕ) → take m (xs ++ ys) ≡ take m xs ++ take (m - length xs) ys
take-append m [] ys = rw take-nil (simp unary_clauses)
take-append zero (x ∷ xs) ys = let e : 0 ≡ 0 - suc (length xs) = omega arith in ap (λ n. take n ys) e
take-append (suc m) (x ∷ xs) ys = ap (λ l. x ∷ l) (take-append m xs ys ∙ ap (λ n. take m xs ++ take n ys) (omega arith))

take-append-short : (m : ℕ) (xs ys : List ℕ) → length xs ≤ m → take m (xs ++ ys) ≡ xs ++ take (m - length xs) ys
take-append-short m xs ys h = take-append m xs ys ∙ ap (λ l. l ++ take (m - length xs) ys) (take_all m xs h)

take-append-take : (m : ℕ) (xs ys : List ℕ) → take m (take m xs ++ ys) ≡ take m (xs ++ ys)
take-append-take zero xs ys = refl
take-append-take (suc m) [] ys = refl
take-append-take (suc m) (x ∷ xs) ys = ap (λ l. x ∷ l) (take-append-take m xs ys)

take-take : (m : ℕ) (xs : List ℕ) → take m (take m xs) ≡ take m xs
take-take zero xs = refl
take-take (suc m) [] = refl
take-take (suc m) (x ∷ xs) = ap (λ l. x ∷ l) (take-take m xs)

pub front_nil : front [] ≡ []
unfolding front
front_nil = take-nil FRONT_BYTES

pub front-front : (line : List ℕ) → front (front line) ≡ front line
unfolding front
front-front line = take-take FRONT_BYTES line

nil_of_take : (m : ℕ) (line : List ℕ) → [] ≡ take (suc m) line → line ≡ []
nil_of_take m [] e = refl
nil_of_take m (x ∷ xs) e = cc

-- only an empty line has an empty front
pub nil_of_front : (line : List ℕ) → [] ≡ front line → line ≡ []
unfolding front
nil_of_front line e = nil_of_take MAX_MESSAGE_BYTES line e

-- ---- a line that goes on

-- of a piece as much is added as there is room for
pub front-append-part : (held piece : List ℕ) (room : ℕ) → length held ≤ FRONT_BYTES → room ≡ FRONT_BYTES - length held → held ++ take room piece ≡ front (held ++ piece)
unfolding front
front-append-part held piece room h e = ap (λ n. held ++ take n piece) e ∙ sym (take-append-short FRONT_BYTES held piece h)

-- there is room for all of it
pub front-append-all : (held piece : List ℕ) → length held + length piece ≤ FRONT_BYTES → held ++ piece ≡ front (held ++ piece)
unfolding front
front-append-all held piece h = sym (take_all FRONT_BYTES (held ++ piece) (omega (arith, length-append {A = ℕ})))

front-append-front : (line piece : List ℕ) → front (front line ++ piece) ≡ front (line ++ piece)
unfolding front
front-append-front line piece = take-append-take FRONT_BYTES line piece

is_blank-append : (xs ys : List ℕ) → is_blank (xs ++ ys) ≡ (is_blank xs && is_blank ys)
is_blank-append [] ys = refl
is_blank-append (x ∷ xs) ys = ap (λ t. (x == 32 || x == 9 || x == 13) && t) (is_blank-append xs ys) ∙ sym (and_assoc (x == 32 || x == 9 || x == 13) (is_blank xs) (is_blank ys))

pub KeepsFront-append : (held held' line piece : List ℕ) (blank : Bool) → KeepsFront held blank line → held' ≡ front (held ++ piece) → KeepsFront held' (blank && is_blank piece) (line ++ piece)
KeepsFront-append held held' line piece blank h e = (e ∙ ap (λ k. front (k ++ piece)) h.0 ∙ front-append-front line piece, ap (λ b. b && is_blank piece) h.1 ∙ sym (is_blank-append line piece))

-- what is held of a line shows it
pub ShowsFront-of-KeepsFront : (text held line : List ℕ) (blank : Bool) → text ≡ held → KeepsFront held blank line → ShowsFront text blank line
ShowsFront-of-KeepsFront text held line blank e h = (ap front (e ∙ h.0) ∙ front-front line, h.1)
