-- What a read depends on.
use Rattle.std.proofs.Common.{◌≡◌, true, sym, ap, ◌∙◌, subst, refl}
use Rattle.std.specs.Prelude.{option_and_then}
use Rattle.tree_model.specs.Path.{Path, is_prefix}
use Rattle.tree_model.specs.PathMap.{sub, get}
use Rattle.tree_model.proofs.Lookups.{sub-sub}
use Rattle.expr_types.specs.Scope.{scope_of}
use Rattle.expr_types.specs.declared.scope.Scope.{Scope}
use Rattle.expr_types.specs.declared.scope.Scope.TheVariants.{Request, Location, Database}
use Rattle.rules_reader.specs.Part.{Pattern}
use Rattle.rules_reader.specs.declared.kind.Kind.TheVariants.{Read}
use Rattle.rules_reader.specs.Book.{Book, stated_for}
use Rattle.rules_reader.specs.Place.{StandsAt}
use Rattle.evaluator.specs.Asked.{Asked}
use Rattle.evaluator.specs.Scoped.{LookSame, SameRequest}
use Rattle.evaluator.proofs.Depends.{depends}
use Rattle.judge.specs.Question.{Scene, reading, env_at}
use Rattle.judge.specs.Answers.{Holds}
use Rattle.judge.specs.Judging.{MayRead}
use Rattle.judge.specs.Watching.{LooksWithin, IsWatched}
use Rattle.judge.proofs.Looking.{left_below}

module _ (one other : Scene) (asked : Asked) (path place : Path) (book : other.book ≡ one.book) (who : other.who ≡ one.who) (stands : sub other.old place ≡ sub one.old place) where
  same_request : (pattern : Pattern) (at : Path) → SameRequest (env_at (reading other asked) pattern at) (env_at (reading one asked) pattern at)
  same_request pattern at = record { who = who; access = refl; captures = refl }

  same_there : (at : Path) → is_prefix place at ≡ true → sub other.old at ≡ sub one.old at
  same_there at above =
      let left = left_below place at above in
      ap (sub other.old) left.1 ∙ sym (sub-sub other.old place left.0) ∙ ap (λ t. sub t left.0) stands ∙ sub-sub one.old place left.0 ∙ ap (sub one.old) (sym left.1)

  look_same : (pattern : Pattern) (at : Path) (scope : Scope) → LooksWithin place at scope → LookSame scope (env_at (reading other asked) pattern at) (env_at (reading one asked) pattern at)
  look_same pattern at Request h = same_request pattern at
  look_same pattern at Location h = record { request = same_request pattern at; path = refl; below = same_there at h }
  look_same pattern at Database h = elim h [ ]

  holds_same : IsWatched one.book path place → (at : Path) → is_prefix at path ≡ true → Holds (reading one asked) Read at → Holds (reading other asked) Read at
  holds_same watched at above h = record {
    pattern = h.pattern;
    yes = record {
      stands = subst (λ (b : Book). StandsAt b h.pattern at) (sym book) h.yes.stands;
      rule = h.yes.rule;
      states = ap (λ (b : Book). option_and_then (stated_for Read) (get b h.pattern)) book ∙ h.yes.states;
      is = depends h.yes.rule.tree _ _ (look_same h.pattern at (scope_of h.yes.rule.tree) (watched.within at h.pattern h.yes.rule above record { stands = h.yes.stands; states = h.yes.states })) ∙ h.yes.is;
    };
  }

  pub may_read_same : IsWatched one.book path place → MayRead one asked path → MayRead other asked path
  may_read_same watched g = record { place = g.place; above = g.above; holds = holds_same watched g.place g.above g.holds }
