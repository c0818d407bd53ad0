use Rattle.std.proofs.Common.{◌≡◌, ◌∙◌, ◌-◌, sym, ap, subst, length, take, drop, List, ℕ, arith}
use Rattle.std.specs.Prelude.{string_bytes, slice_index_or}
use Rattle.std.specs.Str.{IsUtf8, IsCharBoundary}
use Rattle.std.proofs.lemmas.Str.{IsUtf8-drop}
use Rattle.expr_tokens.specs.Quoted.{said}
use Rattle.expr_tokens.specs.Working.Scanning.{IsRun, is_plain}
use Rattle.expr_tokens.proofs.Said.{IsSaid, said_start, said_boundary, arrives, stop_slash, stop_quote, escape_here, found_escape, seen_escape, said_escape, escape_boundary, escape_after}
use Rattle.expr_tokens.proofs.Texts.{step_smaller}
use Rattle.expr_tokens.proofs.quoted.resolved.Goals as goal

pub split_at-requires : goal.split_at-requires
split_at-requires c = said_boundary c.args.written.now c.requires c.utf8.written

pub loop-text-init : goal.loop-text-init
loop-text-init c = record {
  so_far = rw (c.as_bytes.ensures.value, c.in_ok-text.ensures.bytes, c.split_at.ensures.back) (said_start c.args.written.now c.requires);
  utf8 = subst IsUtf8 (sym c.split_at.ensures.back) (IsUtf8-drop c.args.written.now 1 c.utf8.written (said_boundary c.args.written.now c.requires c.utf8.written));
}

pub bounds-bytes-0 : goal.bounds-bytes-0
bounds-bytes-0 c =
    let r = subst (λ (z : List ℕ). IsRun (is_plain (slice_index_or c.as_bytes.result.now 0 0)) z c.plain_run.result) c.as_bytes-in-loop-text.ensures.value c.plain_run.ensures in
    let s = arrives (slice_index_or c.as_bytes.result.now 0 0) (said c.args.written.now) (string_bytes c.loop-text.text) c.loop-text.rest.now (string_bytes c.push_str.new.self) c.split_at-in-loop-text.result.0.now c.as_bytes-bytes.result.now c.split_at-in-loop-text.result.1.now c.plain_run.result
    c.loop-text.invariant.so_far r c.in_ok-push_str.ensures.bytes c.split_at-in-loop-text.ensures.front c.split_at-in-loop-text.ensures.back c.as_bytes-bytes.ensures.value in
    s.some

pub slice_bounds-escape-count : goal.slice_bounds-escape-count
slice_bounds-escape-count c =
    let r = subst (λ (z : List ℕ). IsRun (is_plain (slice_index_or c.as_bytes.result.now 0 0)) z c.plain_run.result) c.as_bytes-in-loop-text.ensures.value c.plain_run.ensures in
    let s = arrives (slice_index_or c.as_bytes.result.now 0 0) (said c.args.written.now) (string_bytes c.loop-text.text) c.loop-text.rest.now (string_bytes c.push_str.new.self) c.split_at-in-loop-text.result.0.now c.as_bytes-bytes.result.now c.split_at-in-loop-text.result.1.now c.plain_run.result
    c.loop-text.invariant.so_far r c.in_ok-push_str.ensures.bytes c.split_at-in-loop-text.ensures.front c.split_at-in-loop-text.ensures.back c.as_bytes-bytes.ensures.value in
    s.some

pub slice_bounds-escape-start : goal.slice_bounds-escape-start
slice_bounds-escape-start c =
    let r = subst (λ (z : List ℕ). IsRun (is_plain (slice_index_or c.as_bytes.result.now 0 0)) z c.plain_run.result) c.as_bytes-in-loop-text.ensures.value c.plain_run.ensures in
    let s = arrives (slice_index_or c.as_bytes.result.now 0 0) (said c.args.written.now) (string_bytes c.loop-text.text) c.loop-text.rest.now (string_bytes c.push_str.new.self) c.split_at-in-loop-text.result.0.now c.as_bytes-bytes.result.now c.split_at-in-loop-text.result.1.now c.plain_run.result
    c.loop-text.invariant.so_far r c.in_ok-push_str.ensures.bytes c.split_at-in-loop-text.ensures.front c.split_at-in-loop-text.ensures.back c.as_bytes-bytes.ensures.value in
    s.some

pub returns-then-bytes-quote : goal.returns-then-bytes-quote
returns-then-bytes-quote c =
    let r = subst (λ (z : List ℕ). IsRun (is_plain (slice_index_or c.as_bytes.result.now 0 0)) z c.plain_run.result) c.as_bytes-in-loop-text.ensures.value c.plain_run.ensures in
    let s = arrives (slice_index_or c.as_bytes.result.now 0 0) (said c.args.written.now) (string_bytes c.loop-text.text) c.loop-text.rest.now (string_bytes c.push_str.new.self) c.split_at-in-loop-text.result.0.now c.as_bytes-bytes.result.now c.split_at-in-loop-text.result.1.now c.plain_run.result
    c.loop-text.invariant.so_far r c.in_ok-push_str.ensures.bytes c.split_at-in-loop-text.ensures.front c.split_at-in-loop-text.ensures.back c.as_bytes-bytes.ensures.value in
    stop_quote (slice_index_or c.as_bytes.result.now 0 0) (said c.args.written.now) (string_bytes c.push_str.new.self) c.as_bytes-bytes.result.now s.so_far s.stops c.if-bytes-quote.true

pub unwrap-character-requires : goal.unwrap-character-requires
unwrap-character-requires c =
    let r = subst (λ (z : List ℕ). IsRun (is_plain (slice_index_or c.as_bytes.result.now 0 0)) z c.plain_run.result) c.as_bytes-in-loop-text.ensures.value c.plain_run.ensures in
    let s = arrives (slice_index_or c.as_bytes.result.now 0 0) (said c.args.written.now) (string_bytes c.loop-text.text) c.loop-text.rest.now (string_bytes c.push_str.new.self) c.split_at-in-loop-text.result.0.now c.as_bytes-bytes.result.now c.split_at-in-loop-text.result.1.now c.plain_run.result
    c.loop-text.invariant.so_far r c.in_ok-push_str.ensures.bytes c.split_at-in-loop-text.ensures.front c.split_at-in-loop-text.ensures.back c.as_bytes-bytes.ensures.value in
    found_escape c.escape.result (take (length c.as_bytes-bytes.result.now - 1) (drop 1 c.as_bytes-bytes.result.now)) c.escape.ensures
    (escape_here (slice_index_or c.as_bytes.result.now 0 0) (said c.args.written.now) (string_bytes c.push_str.new.self) c.as_bytes-bytes.result.now s c.if-bytes-quote.false)

pub split_at-requires-in-loop-text-2 : goal.split_at-requires-in-loop-text-2
split_at-requires-in-loop-text-2 c =
    let r = subst (λ (z : List ℕ). IsRun (is_plain (slice_index_or c.as_bytes.result.now 0 0)) z c.plain_run.result) c.as_bytes-in-loop-text.ensures.value c.plain_run.ensures in
    let s = arrives (slice_index_or c.as_bytes.result.now 0 0) (said c.args.written.now) (string_bytes c.loop-text.text) c.loop-text.rest.now (string_bytes c.push_str.new.self) c.split_at-in-loop-text.result.0.now c.as_bytes-bytes.result.now c.split_at-in-loop-text.result.1.now c.plain_run.result
    c.loop-text.invariant.so_far r c.in_ok-push_str.ensures.bytes c.split_at-in-loop-text.ensures.front c.split_at-in-loop-text.ensures.back c.as_bytes-bytes.ensures.value in
    let found = seen_escape c.escape.result c.unwrap-character.result (take (length c.as_bytes-bytes.result.now - 1) (drop 1 c.as_bytes-bytes.result.now)) c.escape.ensures c.unwrap-character.ensures in
    subst (λ (z : List ℕ). IsCharBoundary z (length z - length c.unwrap-character.result.1.now)) c.as_bytes-bytes.ensures.value (escape_boundary c.as_bytes-bytes.result.now c.unwrap-character.result.0 c.unwrap-character.result.1.now s.some found c.as_bytes-bytes.ensures.utf8)

pub loop-text-smaller : goal.loop-text-smaller
loop-text-smaller c =
    let r = subst (λ (z : List ℕ). IsRun (is_plain (slice_index_or c.as_bytes.result.now 0 0)) z c.plain_run.result) c.as_bytes-in-loop-text.ensures.value c.plain_run.ensures in
    let s = arrives (slice_index_or c.as_bytes.result.now 0 0) (said c.args.written.now) (string_bytes c.loop-text.text) c.loop-text.rest.now (string_bytes c.push_str.new.self) c.split_at-in-loop-text.result.0.now c.as_bytes-bytes.result.now c.split_at-in-loop-text.result.1.now c.plain_run.result
    c.loop-text.invariant.so_far r c.in_ok-push_str.ensures.bytes c.split_at-in-loop-text.ensures.front c.split_at-in-loop-text.ensures.back c.as_bytes-bytes.ensures.value in
    let found = seen_escape c.escape.result c.unwrap-character.result (take (length c.as_bytes-bytes.result.now - 1) (drop 1 c.as_bytes-bytes.result.now)) c.escape.ensures c.unwrap-character.ensures in
    let e = ap length (c.split_at-in-loop-text-2.ensures.back ∙ subst (λ (z : List ℕ). drop (length z - length c.unwrap-character.result.1.now) z ≡ c.unwrap-character.result.1.now) c.as_bytes-bytes.ensures.value (escape_after c.as_bytes-bytes.result.now c.unwrap-character.result.0 c.unwrap-character.result.1.now s.some found)) in
    let n = step_smaller c.as_bytes-bytes.result.now c.unwrap-character.result.0 c.unwrap-character.result.1.now s.some found in
    let b = ap length c.as_bytes-bytes.ensures.value in
    let l = c.split_at-in-loop-text.ensures.back_len in
    omega arith

pub loop-text-preserved : goal.loop-text-preserved
loop-text-preserved c =
    let r = subst (λ (z : List ℕ). IsRun (is_plain (slice_index_or c.as_bytes.result.now 0 0)) z c.plain_run.result) c.as_bytes-in-loop-text.ensures.value c.plain_run.ensures in
    let s = arrives (slice_index_or c.as_bytes.result.now 0 0) (said c.args.written.now) (string_bytes c.loop-text.text) c.loop-text.rest.now (string_bytes c.push_str.new.self) c.split_at-in-loop-text.result.0.now c.as_bytes-bytes.result.now c.split_at-in-loop-text.result.1.now c.plain_run.result
    c.loop-text.invariant.so_far r c.in_ok-push_str.ensures.bytes c.split_at-in-loop-text.ensures.front c.split_at-in-loop-text.ensures.back c.as_bytes-bytes.ensures.value in
    let found = seen_escape c.escape.result c.unwrap-character.result (take (length c.as_bytes-bytes.result.now - 1) (drop 1 c.as_bytes-bytes.result.now)) c.escape.ensures c.unwrap-character.ensures in
    let slash = stop_slash (slice_index_or c.as_bytes.result.now 0 0) (said c.args.written.now) (string_bytes c.push_str.new.self) c.as_bytes-bytes.result.now s.so_far s.stops c.if-bytes-quote.false in
    let x = said_escape (slice_index_or c.as_bytes.result.now 0 0) (said c.args.written.now) (string_bytes c.push_str.new.self) c.as_bytes-bytes.result.now c.unwrap-character.result.0 c.unwrap-character.result.1.now s.so_far s.some slash found in
    let e = c.split_at-in-loop-text-2.ensures.back ∙ subst (λ (z : List ℕ). drop (length z - length c.unwrap-character.result.1.now) z ≡ c.unwrap-character.result.1.now) c.as_bytes-bytes.ensures.value (escape_after c.as_bytes-bytes.result.now c.unwrap-character.result.0 c.unwrap-character.result.1.now s.some found) in
    let b = escape_boundary c.as_bytes-bytes.result.now c.unwrap-character.result.0 c.unwrap-character.result.1.now s.some found c.as_bytes-bytes.ensures.utf8 in
    let u = IsUtf8-drop c.as_bytes-bytes.result.now (length c.as_bytes-bytes.result.now - length c.unwrap-character.result.1.now) c.as_bytes-bytes.ensures.utf8 b in
    record {
      so_far = subst (λ (z : List ℕ). IsSaid (slice_index_or c.as_bytes.result.now 0 0) (said c.args.written.now) (string_bytes c.push.new.self) z) (sym e)
          (subst (λ (z : List ℕ). IsSaid (slice_index_or c.as_bytes.result.now 0 0) (said c.args.written.now) z c.unwrap-character.result.1.now) (sym c.in_ok-push.ensures.bytes) x);
      utf8 = subst IsUtf8 (escape_after c.as_bytes-bytes.result.now c.unwrap-character.result.0 c.unwrap-character.result.1.now s.some found ∙ sym e) u;
    }
