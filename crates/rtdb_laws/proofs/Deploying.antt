-- Each deployment is judged.
use Rattle.std.proofs.Common.{◌≡◌, ◌||◌, ℕ, Bool, true, false, cond, not, refl, sym, ◌∙◌}
use Rattle.std.proofs.lemmas.Bool.{false≢true}
use Rattle.rules_reader.specs.Book.{Book}
use Rattle.rtdb_model.specs.declared.event.Event.TheVariants.{Deploy}
use Rattle.rtdb_model.specs.declared.reply.Refusal.{Refusal}
use Rattle.rtdb_model.specs.declared.reply.Refusal.TheVariants.{NoSession, NotAdmin, Leaving, NoMemory}
use Rattle.rtdb_model.specs.declared.reply.Reply.TheVariants.{Done, Refused}
use Rattle.rtdb_model.specs.State.{State, is_open, is_leaving, is_present, identity_of, is_admin}
use Rattle.rtdb_model.specs.Step.{Outcome, refused, deployed, deploys, takes_no_memory}
use Rattle.rtdb_model.specs.Headline.{IsDeployJudged}
use Rattle.rtdb_laws.proofs.Present.{is_here, here_is_open, here_is_not_leaving, closed_is_not_here, leaving_is_not_here, unless_leaving, by_leaving}

module _ (old : State) (now session : ℕ) (rules : Book) where
  abbrev pub DeployJudged : Outcome → Type 0
  DeployJudged o = IsDeployJudged old now session rules o.reply o.after

  -- who is no administrator is refused without memory
  refused_at_once : is_present old session ≡ true → is_admin (identity_of old session) ≡ false → takes_no_memory old session (Deploy rules) ≡ true
  refused_at_once here none = λ i. here_is_not_leaving old session here i || (not (here_is_open old session here i) || not (none i))

  pub deploy_for_memory : takes_no_memory old session (Deploy rules) ≡ false → DeployJudged (refused old NoMemory)
  deploy_for_memory wants = record {
    accepts = λ n _ _. absurd (n refl);
    refuses = λ here none. absurd (false≢true (sym wants ∙ refused_at_once here none));
    accepted = λ e. cc;
    refused = λ e. cc;
  }

  -- refused before who is signed in is asked
  deploy_stopped : (refusal : Refusal) → (Refused refusal ≡ Refused NotAdmin → ⊥) → (is_present old session ≡ true → ⊥) → DeployJudged (refused old refusal)
  deploy_stopped refusal other none = record {
    accepts = λ _ here _. absurd (none here);
    refuses = λ here _. absurd (none here);
    accepted = λ e. cc;
    refused = λ e. absurd (other e);
  }

  deploy_refused : is_present old session ≡ true → is_admin (identity_of old session) ≡ false → DeployJudged (refused old NotAdmin)
  deploy_refused here none = record {
    accepts = λ _ _ admin. absurd (false≢true (sym none ∙ admin));
    refuses = λ _ _. refl;
    accepted = λ e. cc;
    refused = λ e. (here, none);
  }

  deploy_done : is_present old session ≡ true → is_admin (identity_of old session) ≡ true → DeployJudged (record { reply = Done; after = deployed old now rules })
  deploy_done here admin = record {
    accepts = λ _ _ _. (refl, refl);
    refuses = λ _ none. absurd (false≢true (sym none ∙ admin));
    accepted = λ e. (here, admin, refl);
    refused = λ e. cc;
  }

  pub deploy_judged : DeployJudged (unless_leaving old session (deploys old now session rules))
  deploy_judged =
      by_leaving DeployJudged old session (deploys old now session rules)
      (λ leaves. deploy_stopped Leaving (λ e. cc) (leaving_is_not_here old session leaves))
      (λ stays. by_session stays (is_open old session) refl)
    where
      done : Outcome
      done = record { reply = Done; after = deployed old now rules }

      by_admin : is_present old session ≡ true → (b : Bool) → is_admin (identity_of old session) ≡ b → DeployJudged (cond (not b) (refused old NotAdmin) done)
      by_admin here true f = deploy_done here f
      by_admin here false f = deploy_refused here f

      by_session : is_leaving old session ≡ false → (b : Bool) → is_open old session ≡ b → DeployJudged (cond (not b) (refused old NoSession) (cond (not (is_admin (identity_of old session))) (refused old NotAdmin) done))
      by_session stays true e = by_admin (is_here old session e stays) (is_admin (identity_of old session)) refl
      by_session stays false e = deploy_stopped NoSession (λ f. cc) (closed_is_not_here old session e)
