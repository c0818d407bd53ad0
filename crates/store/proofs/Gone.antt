-- The entries of departures lead where these did, and the text of the rules stays.
use Rattle.std.proofs.Common.{◌≡◌, inl, inr, ℕ, Bool, true, cond, List, [], ◌∷◌, ◌++◌, Option, None, refl, sym, ◌∙◌, ap, subst}
use Rattle.rtdb_model.specs.declared.event.Event.{Event}
use Rattle.rtdb_model.specs.declared.event.Event.TheVariants.{Close, Leave, RunNext, Deploy as Deploys}
use Rattle.rtdb_model.specs.declared.reply.Reply.{Reply}
use Rattle.rtdb_model.specs.State.{State}
use Rattle.rtdb_model.specs.Step.{Call, Run}
use Rattle.rtdb_laws.specs.Effects.{is_effective, changes, changing}
use Rattle.rules_reader.specs.Book.{Book}
use Rattle.requests.specs.declared.message.Stamp.{Stamp}
use Rattle.requests.specs.declared.message.Wanted.{Wanted}
use Rattle.requests.specs.declared.message.Wanted.TheVariants.{Step as Steps, SignIn, Deploy}
use Rattle.requests.specs.Ask.{ComesTo}
use Rattle.entries.specs.Entry.{call, Means, Tells, deployed_text}
use Rattle.store.specs.Replay.{empty, opened, text_behind, Replays, LeadTo, AreEntriesOf}
use Rattle.store.specs.Leaving.{Departs, AllDepart, HaveLeft}
use Rattle.store.proofs.Replays.{replays-append}

pub departs_change : (event : Event) (reply : Reply) → Departs event reply → changes event reply ≡ true
departs_change Leave reply departs = ap is_effective departs
departs_change RunNext reply (inl applied) = ap is_effective applied
departs_change RunNext reply (inr skipped) = ap is_effective skipped.1
departs_change Close reply departs = ap is_effective departs
departs_change event reply departs = absurd departs

no_deploy : (book : Book) (event : Event) (reply : Reply) → event ≡ Deploys book → Departs event reply → ⊥
no_deploy book event reply is departs = subst (λ e. Departs e reply) is departs

no_text : (wanted : Wanted) (event : Event) (reply : Reply) → ComesTo [] wanted event → Departs event reply → deployed_text wanted ≡ None
no_text (Steps stepped) event reply comes departs = refl
no_text (SignIn secret) event reply comes departs = refl
no_text (Deploy text) event reply comes departs = absurd (no_deploy comes.0 event reply comes.3 departs)

told_none : (stamp : Stamp) (told : List ℕ) (event : Event) (reply : Reply) (deployed : Option (List ℕ)) → Tells stamp told event deployed → Departs event reply → deployed ≡ None
told_none stamp told event reply deployed (inl word) departs = word.1
told_none stamp told event reply deployed (inr (inl signs)) departs = signs.1
told_none stamp told event reply deployed (inr (inr sent)) departs = sent.text_is ∙ no_text sent.request.wanted event reply sent.comes departs

-- a departure deploys nothing
deploys_none : (entry : List ℕ) (c : Call) (reply : Reply) (deployed : Option (List ℕ)) → Means entry (call c deployed) → Departs c.event reply → deployed ≡ None
deploys_none entry c reply deployed means departs = told_none (record { now = c.now; session = c.session }) means.told c.event reply deployed means.tells departs

pub departures_lead : (now : ℕ) (entries : List (List ℕ)) (calls : List Call) (replies : List Reply) (old new : State) (text : List ℕ) → AreEntriesOf entries calls → AllDepart now calls replies → Run old calls replies new → Replays entries (opened text old) (opened text new)
departures_lead now [] [] [] old new text are depart run = ap (opened text) run
departures_lead now [] [] (r ∷ rs) old new text are depart run = absurd run
departures_lead now [] (c ∷ cs) rs old new text are depart run = absurd are
departures_lead now (e ∷ es) [] rs old new text are depart run = absurd are
departures_lead now (e ∷ es) (c ∷ cs) [] old new text are depart run = absurd run
departures_lead now (e ∷ es) (c ∷ cs) (r ∷ rs) old new text are depart run =
    let deployed = are.0.0 in
    let none : deployed ≡ None = deploys_none e c r deployed are.0.1 depart.1 in (
      call c deployed,
      opened text run.0,
      are.0.1,
      record {
        text = text;
        state = old;
        reply = r;
        left = run.0;
        is_before = refl;
        step = run.1;
        effective = departs_change c.event r depart.1;
        is_after = ap (λ (o : Option (List ℕ)). opened (text_behind text o) run.0) (sym none);
      },
      departures_lead now es cs rs run.0 new text are.1 depart.2 run.2,
    )

pub lead_on : (entries departures : List (List ℕ)) (text : List ℕ) (before after : State) (now : ℕ) → LeadTo entries text before → HaveLeft before now departures after → LeadTo (entries ++ departures) text after
lead_on entries departures text before after now lead left =
    replays-append entries departures empty (opened text before) (opened text after) lead (departures_lead now departures left.calls left.replies before after text left.kept left.depart left.run)

-- each departure changes something
pub all_changing : (now : ℕ) (calls : List Call) (replies : List Reply) → AllDepart now calls replies → changing calls replies ≡ calls
all_changing now [] [] depart = refl
all_changing now [] (r ∷ rs) depart = absurd depart
all_changing now (c ∷ cs) [] depart = absurd depart
all_changing now (c ∷ cs) (r ∷ rs) depart =
    ap (λ (b : Bool). cond b (c ∷ changing cs rs) (changing cs rs)) (departs_change c.event r depart.1) ∙ ap (λ l. c ∷ l) (all_changing now cs rs depart.2)
