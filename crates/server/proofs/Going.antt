-- Seats that go on, and texts behind one another.
use Rattle.std.proofs.Common.{◌≡◌, ℕ, List, [], ◌++◌, length, refl, ap, sym, subst, ◌∙◌, append-nil, append_assoc, Option, Some, None, Result, Ok, Err, inl, inr}
use Rattle.std.specs.Result.{OnOk}
use Rattle.std.specs.Io.KnownBytes.{Appends}
use mathlib.Core.List.{IsPrefix}
use Rattle.tokens.specs.Tokens.{Tokens}
use Rattle.locked_server.specs.Known.{Known, SeesLegal}
use Rattle.server.specs.declared.fault.ServerFault.{ServerFault}
use Rattle.server.specs.declared.shifts.Shifts.{Shifts}
use Rattle.server.specs.Served.{GoesOn, HaveServed, HasPrinted, IsCutShort, listening_text, served_text}

-- ---- seats that go on

module _ {A : Type 0} where
  begins_both : (xs ys zs : List A) → IsPrefix xs ys → IsPrefix ys zs → IsPrefix xs zs
  begins_both xs ys zs p q = (p.0 ++ q.0, sym (append_assoc xs p.0 q.0) ∙ ap (λ w. w ++ q.0) p.1 ∙ q.1)

pub goes_nowhere : (k : Known) → GoesOn k k
goes_nowhere k = record { hall = refl; opening = refl; begins = ([], append-nil k.seen) }

pub goes_further : (k l m : Known) → GoesOn k l → m.hall ≡ l.hall → m.opening ≡ l.opening → IsPrefix l.seen m.seen → GoesOn k m
goes_further k l m g h o q = record { hall = h ∙ g.hall; opening = o ∙ g.opening; begins = begins_both k.seen l.seen m.seen g.begins q }

-- ---- texts

both_appended : (a b c : Option (List ℕ)) (x y : List ℕ) → Appends a b x → Appends b c y → Appends a c (x ++ y)
both_appended None b c x y h k = tt
both_appended (Some p) None c x y h k = absurd h
both_appended (Some p) (Some q) None x y h k = k
both_appended (Some p) (Some q) (Some r) x y h k = k ∙ ap (λ s. s ++ y) h ∙ append_assoc p x y

-- the first line and the last were printed, and all workers had served between
has_printed : (tokens : Tokens) (shifts : Shifts) (port : ℕ) (k m : Known) (a b d : Option (List ℕ)) (entries : ℕ) → HaveServed tokens shifts.rounds 1 shifts.workers k m → SeesLegal m → entries ≡ length m.seen
    → Appends a b (listening_text port) → Appends b d (served_text entries) → HasPrinted tokens shifts port k m a d
has_printed tokens shifts port k m a b d entries served legal counted first last =
    (served, legal, both_appended a b d (listening_text port) (served_text (length m.seen)) first (subst (λ (n : ℕ). Appends b d (served_text n)) counted last))

pub has_printed_if : (tokens : Tokens) (shifts : Shifts) (port : ℕ) (k m : Known) (a b d : Option (List ℕ)) (entries : ℕ) (end : Result Unit ServerFault) → HaveServed tokens shifts.rounds 1 shifts.workers k m → SeesLegal m
    → entries ≡ length m.seen → Appends a b (listening_text port) → OnOk end (Appends b d (served_text entries)) → OnOk end (HasPrinted tokens shifts port k m a d)
has_printed_if tokens shifts port k m a b d entries (Ok done) served legal counted first last = has_printed tokens shifts port k m a b d entries served legal counted first last
has_printed_if tokens shifts port k m a b d entries (Err fault) served legal counted first last = tt

pub cut_short : (port : ℕ) (a b d : Option (List ℕ)) → Appends a b (listening_text port) → d ≡ b → IsCutShort port a d
cut_short port a b d first same = inr (subst (λ (o : Option (List ℕ)). Appends a o (listening_text port)) (sym same) first)

pub cut_at_once : (port : ℕ) (a b : Option (List ℕ)) → b ≡ a → IsCutShort port a b
cut_at_once port a b same = inl (subst (λ (o : Option (List ℕ)). Appends a o []) (sym same) (nothing_appended a))
  where
    nothing_appended : (o : Option (List ℕ)) → Appends o o []
    nothing_appended None = tt
    nothing_appended (Some p) = sym (append-nil p)
