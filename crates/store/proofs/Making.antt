-- How a call is made once more.
use Rattle.std.proofs.Common.{◌≡◌, ◌∙◌, ℕ, false, List, Option, Result, Ok, Err, subst, sym, ap, refl}
use Rattle.std.proofs.lemmas.Bool.{false≢true}
use Rattle.rtdb_model.specs.declared.event.Event.{Event}
use Rattle.rtdb_model.specs.declared.reply.Reply.{Reply}
use Rattle.rtdb_model.specs.State.{State}
use Rattle.rtdb_model.specs.Step.{Call, Step}
use Rattle.rtdb_model.proofs.Answers.{one_answer}
use Rattle.rtdb_laws.specs.Effects.{is_effective, changes}
use Rattle.store.specs.declared.fault.ReplayFault.{ReplayFault}
use Rattle.store.specs.declared.fault.ReplayFault.TheVariants.{NoMemory, Unfit}
use Rattle.store.specs.Replay.{Stage, opened, text_behind, IsMade}
use Rattle.store.specs.declared.stage.Stage.{Stage as StageValue}
use Rattle.store.specs.Working.{stage_of, LeadsOn, IsStepAgain, IsEffectOf}
use Rattle.std.specs.Prelude.{IfOk, IfErr}
use Rattle.store.proofs.Stages.{same_opened}
use Rattle.store.proofs.Replays.{wants_none}

pub step_told : (old new : State) (now n : ℕ) (event : Event) (reply : Reply) (r : Result (Unit {0}) ReplayFault) → Step old now n event reply new → changes event reply ≡ is_effective reply → IsEffectOf reply r → IsStepAgain old now n event new r
step_told old new now n event reply (Ok done) step same effect = (reply, step, same ∙ effect)
step_told old new now n event reply (Err NoMemory) step same effect = tt
step_told old new now n event reply (Err Unfit) step same effect = λ other left twin changed.
    let one = (one_answer old new left now n event reply other effect.1 (wants_none event other changed) step twin).0 in
    false≢true (sym effect.0 ∙ sym same ∙ ap (changes event) one ∙ changed)

pub never_changes : (old new : State) (now n : ℕ) (event : Event) → ((reply : Reply) → changes event reply ≡ false) → IsStepAgain old now n event new (Err Unfit)
never_changes old new now n event none = λ reply left step changed. false≢true (sym (none reply) ∙ changed)

-- the call is made, and the text of the rules is that which it leaves
pub made_so : (before : Stage) (text behind : List ℕ) (old new : State) (call : Call) (deployed : Option (List ℕ)) → before ≡ opened text old → IsStepAgain old call.now call.session call.event new (Ok tt) → behind ≡ text_behind text deployed → IsMade call deployed before (opened behind new)
made_so before text behind old new call deployed is step text_is = record {
  text = text;
  state = old;
  reply = step.0;
  left = new;
  is_before = is;
  step = step.1;
  effective = step.2;
  is_after = ap (λ t. opened t new) text_is;
}

pub not_made : (before : Stage) (text : List ℕ) (old new : State) (call : Call) (deployed : Option (List ℕ)) (fault : ReplayFault) → before ≡ opened text old → IsStepAgain old call.now call.session call.event new (Err fault) → LeadsOn (IsMade call deployed before) (Err fault)
not_made before text old new call deployed NoMemory is none = tt
not_made before text old new call deployed Unfit is none = λ after f.
    let same = (same_opened f.text text f.state old (sym f.is_before ∙ is)).1 in
    none f.reply f.left (subst (λ s. Step s call.now call.session call.event f.reply f.left) same f.step) f.effective

-- no database is there to make it in
pub never_opened : (before : Stage) (call : Call) (deployed : Option (List ℕ)) (fault : ReplayFault) → ((text : List ℕ) (state : State) → before ≡ opened text state → ⊥) → LeadsOn (IsMade call deployed before) (Err fault)
never_opened before call deployed NoMemory none = tt
never_opened before call deployed Unfit none = λ after f. none f.text f.state f.is_before

pub in_there : (before : Stage) (text : List ℕ) (state : State) (call : Call) (deployed : Option (List ℕ)) (r : Result StageValue ReplayFault) → before ≡ opened text state → LeadsOn (IsMade call deployed (opened text state)) r → LeadsOn (IsMade call deployed before) r
in_there before text state call deployed r is leads = subst (λ s. LeadsOn (IsMade call deployed s) r) (sym is) leads

pub made_with : (text : List ℕ) (old new : State) (call : Call) (deployed : Option (List ℕ)) (r : Result StageValue ReplayFault) → IsStepAgain old call.now call.session call.event new (Ok tt)
    → IfOk r (λ after. stage_of after ≡ opened (text_behind text deployed) new) → IfErr r (λ fault. fault ≡ NoMemory) → LeadsOn (IsMade call deployed (opened text old)) r
made_with text old new call deployed (Ok after) step is none =
    subst (IsMade call deployed (opened text old)) (sym is) (made_so (opened text old) text (text_behind text deployed) old new call deployed refl step refl)
made_with text old new call deployed (Err NoMemory) step is none = tt
made_with text old new call deployed (Err Unfit) step is none = absurd (never none)
  where
    never : Unfit ≡ NoMemory → ⊥
    never same = cc
