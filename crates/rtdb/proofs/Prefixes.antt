-- A file that is longer than a rules file may be, of which a front is read that is too long as well.
use Rattle.std.proofs.Common.{◌≡◌, ◌∙◌, ℕ, ◌+◌, ◌<◌, ◌⊎◌, inl, inr, Bool, true, List, length, take, Option, Some, None, IfSome, Err, ap, sym, refl, subst, arith}
use Rattle.std.specs.Io.KnownBytes.{Appends}
use Rattle.std.proofs.lemmas.Bool.{cases_lt}
use Rattle.std.proofs.lemmas.List.{take_all, length-take-le}
use Rattle.rules_reader.specs.declared.fault.RulesFault.TheVariants.{BadRulesJson}
use Rattle.rules_reader.specs.declared.limits.TheConstants.{MAX_FILE_BYTES}
use Rattle.rules_reader.proofs.JsonTexts.{reads_nothing}
use Rattle.rtdb.specs.Command.{IsChecked, HasChecked}
use Rattle.rtdb.specs.Status.{failed}
use Rattle.rtdb.specs.Working.{IsTooLong}

-- what is answered to such a front is the answer to the file
module _ (bytes out : List ℕ) (status : ℕ) (checked : IsChecked bytes out status) (too_long : MAX_FILE_BYTES < length bytes → IsTooLong out status) where
  by_front : (file : List ℕ) → bytes ≡ take (MAX_FILE_BYTES + 1) file → IsChecked file out status
  by_front file front =
      elim (cases_lt MAX_FILE_BYTES (length file)) [
        | inl more ↦
            let many : length bytes ≡ MAX_FILE_BYTES + 1 = ap length front ∙ length-take-le (MAX_FILE_BYTES + 1) file (omega arith) in
            let long = too_long (omega (arith, many)) in
            record { answer = Err BadRulesJson; compiles = reads_nothing file more; printed = long.0; status_is = long.1 }
        | inr short ↦ subst (λ (b : List ℕ). IsChecked b out status) (front ∙ take_all (MAX_FILE_BYTES + 1) file (omega arith)) checked
      ]

  answered : (known : Option (List ℕ)) → IfSome known (λ it. bytes ≡ take (MAX_FILE_BYTES + 1) it) → (file : List ℕ) × IfSome known (λ it. file ≡ it) × IsChecked file out status
  answered None front = (bytes, tt, checked)
  answered (Some file) front = (file, refl, by_front file front)

  pub has_checked : (known before after : Option (List ℕ)) (has_failed : Bool) (result : ℕ) → IfSome known (λ it. bytes ≡ take (MAX_FILE_BYTES + 1) it)
      → ((result ≡ status) × Appends before after out) ⊎ ((result ≡ failed) × (has_failed ≡ true)) → HasChecked known before after has_failed result
  has_checked known before after has_failed result front printed = elim printed [
    | inl done ↦
        let found = answered known front in
        inl (found.0, out, found.1, done.1, subst (λ (n : ℕ). IsChecked found.0 out n) (sym done.0) found.2)
    | inr broken ↦ inr (inr (inl broken))
  ]
