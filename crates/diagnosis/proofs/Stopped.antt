-- The place of the bracket at which tokens stop to be an expression.
use Rattle.std.proofs.Common.{◌≡◌, ℕ, ◌+◌, ◌<◌, List, ◌++◌, length, take, slice_index, sym, ap, ◌∙◌, subst, arith, length-append}
use Rattle.std.proofs.lemmas.Grind.{common_steps}
use Rattle.std.proofs.Math.Seq.{take-append_seam}
use Rattle.expr_tokens.specs.declared.token.Token.{Token}
use Rattle.expr_tokens.specs.Spelling.{SpellsTokens, PlaceAfter, ArePlaces}
use Rattle.expr_parser.specs.Stopping.{StopsAt, Indexed}
use Rattle.diagnosis.specs.Shown.{IsBracketAt}

front_is : (tokens before rest : List Token) (token : ℕ) → tokens ≡ before ++ rest → token + length rest ≡ length tokens → take token tokens ≡ before
front_is tokens before rest token parts many =
    let long : length tokens ≡ length before + length rest = ap length parts ∙ length-append before rest in
    let same : token ≡ length before = grind (arith, common_steps) in
    ap (λ n. take n tokens) same ∙ ap (take (length before)) parts ∙ take-append_seam before rest

pub bracket : (text : List ℕ) (tokens : List Token) (places : List ℕ) (rest : List Token) (token byte : ℕ) → SpellsTokens text tokens → ArePlaces text tokens places → StopsAt tokens rest → Indexed tokens rest → token + length rest ≡ length tokens → token < length places → byte ≡ slice_index places token → IsBracketAt text byte
bracket text tokens places rest token byte scanned are stops indexed many inside is =
    let within : token < length tokens = subst (λ n. token < n) are.same inside in
    let begins = subst (λ front. PlaceAfter text front (slice_index places token)) (front_is tokens stops.before rest token stops.parts many) (are.each token within) in
    record { tokens = tokens; scanned = scanned; left = rest; stops = stops; indexed = indexed; begins = subst (λ n. PlaceAfter text stops.before n) (sym is) begins }
