use Rattle.std.proofs.Common.{◌≡◌, length, drop, map}
use Rattle.path_capture.specs.Pattern.{part_of, pattern_cmp}
use Rattle.path_capture.proofs.pattern.compare_parts.Given as goal

-- what is left decides
abbrev pub invariant-loop-part : goal.invariant-loop-part
invariant-loop-part l =
    pattern_cmp (map part_of (drop (length l.yielded) l.parts)) (map part_of (drop (length l.yielded) l.others))
    ≡ pattern_cmp (map part_of l.parts) (map part_of l.others)
