-- The notices that borrowed parts are.
use Rattle.std.proofs.Common.{◌≡◌, ◌∙◌, ◌++◌, ◌∷◌, [], List, Option, None, Some, map, option_map, ap, append-nil, sym}
use Rattle.std.proofs.lemmas.List.{map-append}
use Rattle.std.specs.List.{cons_option}
use Rattle.rtdb_model.specs.Tidings.{notice_of}
use Rattle.rtdb_model.specs.declared.tidings.Tiding.{Tiding}

-- one tiding more is one notice more
pub told_more : (before new : List Tiding) (t : Tiding) (o : Option Tiding) → new ≡ before ++ t ∷ [] → o ≡ Some t → map notice_of new ≡ map notice_of before ++ cons_option (option_map notice_of o) []
told_more before new t o adds is = ap (map notice_of) adds ∙ map-append notice_of before (t ∷ []) ∙ ap (λ (p : Option Tiding). map notice_of before ++ cons_option (option_map notice_of p) []) (sym is)

pub told_as_before : (before new : List Tiding) (o : Option Tiding) → new ≡ before → o ≡ None → map notice_of new ≡ map notice_of before ++ cons_option (option_map notice_of o) []
told_as_before before new o same is = ap (map notice_of) same ∙ sym (append-nil (map notice_of before)) ∙ ap (λ (p : Option Tiding). map notice_of before ++ cons_option (option_map notice_of p) []) (sym is)
