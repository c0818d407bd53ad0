-- What the getters read.
use Rattle.std.proofs.Common.{arith, ◌≡◌, ◌<◌, ◌≤◌, ◌^◌, ap, ℕ, List, Option, Some, None, Result, Ok, Err, refl, subst, codes}
use Rattle.std.specs.Prelude.{IfSome, IsSome, IsSomeAnd, option_map, option_and_then, unwrap_or}
use Rattle.std.specs.Borrow.{Bor}
use Rattle.std.specs.Str.Parse.{ParsesUnsigned}
use Rattle.clap.specs.Words.{Text, Row, ReadsOne, first_of}
use Rattle.command_line.specs.declared.wanted.TheConstants.{USUAL_WORKERS, USUAL_ROUNDS}
use Rattle.command_line.specs.Order.{IsNumberIn, Served, number_at, number_of, served}

-- a text that is a number of these bounds reads as that number
number_read : (E : Type 0) (G : List ℕ → Result ℕ E → Type 0) (t : Text) (r : Option ℕ) → ReadsOne G t r → ((u : List ℕ) (x : Result ℕ E) → G u x → ParsesUnsigned 64 10 u x) → IsNumberIn 1 1000000 t → r ≡ Some (number_of t)
number_read E G t (Some v) read only is = ap (λ n. Some n) (only t (Ok v) read).1
number_read E G t None read only is =
    let small : number_of t < 2 ^ 64 = omega (arith, is.2) in
    absurd (only t (Err read.0) read.1 (is.0, small))

-- and so does a text that may not be there
pub number_if_read : (E : Type 0) (G : List ℕ → Result ℕ E → Type 0) (o : Option Text) (r : Option ℕ) → (o ≡ None → r ≡ None) → ((t : Text) → o ≡ Some t → ReadsOne G t r) → ((u : List ℕ) (x : Result ℕ E) → G u x → ParsesUnsigned 64 10 u x) → IfSome o (IsNumberIn 1 1000000) → r ≡ option_map number_of o
number_if_read E G None r none some only is = none refl
number_if_read E G (Some t) r none some only is = number_read E G t r (some t refl) only is

-- a text is there where it is known to be
pub text_there : (text : Option (Bor Text)) (known : Option Text) → option_map (λ s. s.now) text ≡ known → IsSome known → IsSome text
text_there None None e h = h
text_there None (Some t) e h = absurd cc
text_there (Some s) known e h = refl

-- a number that is there lies in its bounds
pub bounds_there : (most n : ℕ) (o : Option Text) → option_map number_of o ≡ Some n → IsSomeAnd o (IsNumberIn 1 most) → (1 ≤ n) × (n ≤ most)
bounds_there most n None e h = absurd h
bounds_there most n (Some t) e h =
    let same : number_of t ≡ n = ap (λ o. unwrap_or o n) e in
    subst (λ k. (1 ≤ k) × (k ≤ most)) same (h.1, h.2)

-- and so does one in whose place another may stand
pub bounds_or : (most usual : ℕ) (o : Option Text) → 1 ≤ usual → usual ≤ most → IfSome o (IsNumberIn 1 most) → (1 ≤ unwrap_or (option_map number_of o) usual) × (unwrap_or (option_map number_of o) usual ≤ most)
bounds_or most usual None low high h = (low, high)
bounds_or most usual (Some t) low high h = (h.1, h.2)

-- what a server is asked for, part by part
pub served_as : (rows : List Row) (s : Served) → first_of (codes "rules") rows ≡ Some s.rules_file → number_at (codes "port") rows ≡ Some s.port
    → first_of (codes "data") rows ≡ s.data_file → first_of (codes "tokens") rows ≡ s.tokens_file
    → unwrap_or (number_at (codes "workers") rows) USUAL_WORKERS ≡ s.workers → unwrap_or (number_at (codes "rounds") rows) USUAL_ROUNDS ≡ s.rounds
    → served rows ≡ Some s
served_as rows s rules port opening tokens workers rounds =
    λ i. option_and_then (λ name. option_map (λ number. record {
      rules_file = name;
      data_file = opening i;
      tokens_file = tokens i;
      port = number;
      workers = workers i;
      rounds = rounds i;
    }) (port i)) (rules i)
