-- Each read is judged.
use Rattle.std.proofs.Common.{◌≡◌, ◌≢◌, ℕ, Bool, true, false, cond, not, List, Option, refl, sym, subst}
use Rattle.tree_model.specs.Path.{Path}
use Rattle.tree_model.specs.PathMap.{sub}
use Rattle.tree_model.specs.Tree.{Tree, non_null}
use Rattle.rules_reader.specs.Place.{HasOneCapture}
use Rattle.rules_reader.specs.declared.kind.Kind.TheVariants.{Read}
use Rattle.judge.specs.declared.verdict.Named.{Named}
use Rattle.judge.specs.declared.verdict.Verdict.{Verdict}
use Rattle.judge.specs.declared.verdict.Verdict.TheVariants as verdicts
use Rattle.judge.specs.Question.{Question, reading}
use Rattle.judge.specs.Judging.{IsReadVerdict}
use Rattle.judge.specs.Tests.{read_verdict}
use Rattle.judge.proofs.Verdicts.{reads_decided}
use Rattle.listeners.specs.Query.{Query}
use Rattle.listeners.specs.Selection.{selection}
use Rattle.rtdb_model.specs.declared.reply.Refusal.{Refusal}
use Rattle.rtdb_model.specs.declared.reply.Refusal.TheVariants.{NoSession, Leaving, ReadDenied, NoMemory}
use Rattle.rtdb_model.specs.declared.reply.Reply.TheVariants.{Value, Refused}
use Rattle.rtdb_model.specs.State.{State, is_open, is_leaving, is_present, scene_at}
use Rattle.rtdb_model.specs.Rejudged.{asked_for}
use Rattle.rtdb_model.specs.Step.{Outcome, refused, unless_refused, denial, read_refusal, value_at, gets}
use Rattle.rtdb_model.specs.Headline.{AreOwed, GrantsRead, named_for_read, IsReadJudged}
use Rattle.rtdb_laws.proofs.Naming.{names_owed}
use Rattle.rtdb_laws.proofs.Present.{is_here, closed_is_not_here, leaving_is_not_here, unless_leaving, by_leaving}

module _ (old : State) (now session : ℕ) (path : Path) (query : Option Query) where
  abbrev pub ReadJudged : Outcome → Type 0
  ReadJudged o = IsReadJudged old now session path query o.reply o.after

  abbrev names : List Named
  names = named_for_read old now session path query

  -- what is asked of the rules
  abbrev asked : Question
  asked = reading (scene_at old now session) (asked_for query)

  -- refused before it is judged, or for want of memory
  read_stopped : (refusal : Refusal) → ((named : List Named) → Refused refusal ≡ Refused (ReadDenied named) → ⊥) → (Refused refusal ≢ Refused NoMemory → is_present old session ≡ true → ⊥) → ReadJudged (refused old refusal)
  read_stopped refusal other none = record {
    grants = λ n here _. absurd (none n here);
    denies = λ n here _. absurd (none n here);
    granted = λ tree e. cc;
    denied = λ named e. absurd (other named e);
    owes = λ named e. absurd (other named e);
    stays = refl;
  }

  read_denied : HasOneCapture old.rules → is_present old session ≡ true → ¬ (GrantsRead old now session path query) → ReadJudged (refused old (ReadDenied names))
  read_denied one here none = record {
    grants = λ _ _ g. absurd (none g);
    denies = λ _ _ _. refl;
    granted = λ tree e. cc;
    denied = λ named e. (here, none, sym (same named e));
    owes = λ named e. subst (AreOwed asked Read path) (same named e) (names_owed asked Read path one);
    stays = refl;
  }
    where
      same : (named : List Named) → Refused (ReadDenied names) ≡ Refused (ReadDenied named) → names ≡ named
      same named e = cc

  read_granted : is_present old session ≡ true → GrantsRead old now session path query → ReadJudged (value_at old path query)
  read_granted here g = record {
    grants = λ _ _ _. refl;
    denies = λ _ _ none. absurd (none g);
    granted = λ tree e. (here, g, sym (same tree e));
    denied = λ named e. cc;
    owes = λ named e. cc;
    stays = refl;
  }
    where
      same : (tree : Option Tree) → Value (non_null (selection (sub old.tree path) query)) ≡ Value tree → non_null (selection (sub old.tree path) query) ≡ tree
      same tree e = cc

  pub read_for_memory : ReadJudged (refused old NoMemory)
  read_for_memory = read_stopped NoMemory (λ named e. cc) (λ n _. n refl)

  read_by : HasOneCapture old.rules → is_present old session ≡ true → (v : Verdict) → IsReadVerdict (scene_at old now session) (asked_for query) path v → ReadJudged (unless_refused old (denial v) (value_at old path query))
  read_by one here verdicts.Granted h = read_granted here h
  read_by one here (verdicts.ReadDenied named) h = subst (λ (ns : List Named). ReadJudged (refused old (ReadDenied ns))) (sym h.1) (read_denied one here h.0)
  read_by one here (verdicts.WriteDenied at named) h = absurd h
  read_by one here (verdicts.ValidateDenied at pattern why) h = absurd h

  read_present : HasOneCapture old.rules → is_present old session ≡ true → ReadJudged (unless_refused old (read_refusal old now session path query) (value_at old path query))
  unfolding read_refusal
  read_present one here = read_by one here (read_verdict (scene_at old now session) (asked_for query) path) ((reads_decided (scene_at old now session) (asked_for query) path (read_verdict (scene_at old now session) (asked_for query) path)).0 refl)

  pub read_judged : HasOneCapture old.rules → ReadJudged (unless_leaving old session (gets old now session path query))
  read_judged one =
      by_leaving ReadJudged old session (gets old now session path query)
      (λ leaves. read_stopped Leaving (λ named e. cc) (λ _ here. leaving_is_not_here old session leaves here))
      (λ stays. by_session stays (is_open old session) refl)
    where
      by_session : is_leaving old session ≡ false → (b : Bool) → is_open old session ≡ b → ReadJudged (cond (not b) (refused old NoSession) (unless_refused old (read_refusal old now session path query) (value_at old path query)))
      by_session stays true e = read_present one (is_here old session e stays)
      by_session stays false e = read_stopped NoSession (λ named f. cc) (λ _ here. closed_is_not_here old session e here)
