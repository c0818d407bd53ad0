use Rattle.std.proofs.Common.{◌≡◌, ℕ, List, ◌⊎◌, inl, inr, Some, None, refl, sym, subst, arith}
use Rattle.std.proofs.lemmas.Result.{IfOk-weaker, IfErr-weaker}
use Rattle.serde_json.specs.View.{view}
use Rattle.rules_reader.specs.declared.fault.RulesFault.TheVariants.{BadRulesJson, NoMemory}
use Rattle.rules_reader.specs.Plain.{IsPlain}
use Rattle.rules_reader.specs.File.{json_of, ReadsAs}
use Rattle.rules_reader.proofs.JsonTexts.{reads_nothing, text_reads}
use Rattle.rules_reader.proofs.file.read.Goals as goal

pub returns-then-bytes-gt-MAX_FILE_BYTES-clause-err : goal.returns-then-bytes-gt-MAX_FILE_BYTES-clause-err
returns-then-bytes-gt-MAX_FILE_BYTES-clause-err c = inr (refl, reads_nothing c.args.bytes.now (omega arith))

pub returns-clause-ok : goal.returns-clause-ok
returns-clause-ok c =
    let plain = subst (λ (text : List ℕ). IsPlain c.args.bytes.now text) (sym c.deref.ensures.value) c.in_ok-text.ensures.plain in
    IfOk-weaker c.read_text-2.result (λ v. json_of c.deref.result.now ≡ Some (view v)) (λ v. ReadsAs c.args.bytes.now (Some (view v)))
    (λ v is. text_reads c.args.bytes.now c.deref.result.now (Some (view v)) plain is) c.read_text-2.ensures.ok

pub returns-clause-err : goal.returns-clause-err
returns-clause-err c =
    let plain = subst (λ (text : List ℕ). IsPlain c.args.bytes.now text) (sym c.deref.ensures.value) c.in_ok-text.ensures.plain in
    IfErr-weaker c.read_text-2.result (λ fault. (fault ≡ NoMemory) ⊎ ((fault ≡ BadRulesJson) × (json_of c.deref.result.now ≡ None))) (λ fault. (fault ≡ NoMemory) ⊎ ((fault ≡ BadRulesJson) × ReadsAs c.args.bytes.now None))
    (λ fault h. elim h [
      | inl memory ↦ inl memory
      | inr bad ↦ inr (bad.0, text_reads c.args.bytes.now c.deref.result.now None plain bad.1)
    ]) c.read_text-2.ensures.err
