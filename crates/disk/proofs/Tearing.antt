-- What a write, whole or torn, makes of a file.
use Rattle.std.proofs.Common.{◌≡◌, ℕ, ◌+◌, ◌-◌, ◌≤◌, List, ◌++◌, length, take, drop, refl, sym, ◌∙◌, ap, arith, append_assoc, length-append, length-drop, take-append-drop}
use Rattle.std.proofs.lemmas.List.{length-take, drop-drop, take_all}
use Rattle.disk.specs.Disk.{overwritten, Torn, Shortened}

-- a file is what stands before a range, in it and behind it
thirds : (at n : ℕ) (file : List ℕ) → file ≡ take at file ++ take n (drop at file) ++ drop (at + n) file
thirds at n file = sym (append_assoc (take at file) (take n (drop at file)) (drop (at + n) file)
    ∙ ap (λ l. take at file ++ (take n (drop at file) ++ l)) (sym (drop-drop n at file))
    ∙ ap (λ l. take at file ++ l) (take-append-drop n (drop at file)) ∙ take-append-drop at file)

-- a write that did nothing
pub untouched : (at n : ℕ) (file : List ℕ) → Torn at n file file
untouched at n file = record { range = take n (drop at file); fits = omega (arith, length-take n (drop at file)); same = thirds at n file; whole = omega arith }

-- a write that did all
pub written : (at : ℕ) (bytes file : List ℕ) → at ≤ length file → Torn at (length bytes) file (overwritten at bytes file)
written at bytes file within = record {
  range = bytes;
  fits = omega arith;
  same = refl;
  whole = omega (arith, length-append (take at file ++ bytes) (drop (at + length bytes) file), length-append (take at file) bytes, length-take at file, length-drop (at + length bytes) file);
}

-- a torn write, seen as one of more bytes
pub wider : (at m n : ℕ) (before after : List ℕ) → m ≤ n → Torn at m before after → Torn at n before after
wider at m n before after fewer torn =
    let gap = take (n - m) (drop (at + m) before) in
    let behind : drop (at + m) before ≡ gap ++ drop (at + n) before =
    sym (take-append-drop (n - m) (drop (at + m) before)) ∙ ap (λ l. gap ++ l) (drop-drop (n - m) (at + m) before ∙ (let reach : at + m + (n - m) ≡ at + n = omega arith in ap (λ k. drop k before) reach)) in
    record {
      range = torn.range ++ gap;
      fits = omega (arith, torn.fits, length-append torn.range gap, length-take (n - m) (drop (at + m) before));
      same = torn.same ∙ ap (λ l. take at before ++ torn.range ++ l) behind ∙ simp append_assoc;
      whole = torn.whole;
    }

-- a cut that did nothing
pub uncut : (n : ℕ) (file : List ℕ) → Shortened n file file
uncut n file = (n + length file, omega arith, sym (take_all (n + length file) file (omega arith)))
