-- What an expression means depends on what its scope says, and on nothing else.
use Rattle.std.proofs.Common.{◌≡◌, ◌⊎◌, inl, inr, ℕ, List, ◌∷◌, Bool, true, false, cond, ◌||◌, Some, refl, sym, ◌∙◌, ap, subst}
use Rattle.std.specs.Prelude.{⊤, option_map, codes}
use Rattle.std.specs.Option.{option_and_then}
use Rattle.std.specs.Str.{bytes_eq}
use Rattle.tree_model.specs.Path.{Path}
use Rattle.tree_model.specs.PathMap.{sub}
use Rattle.tree_model.proofs.Orders.{same_key, bytes_eq-swap}
use Rattle.path_capture.specs.Captures.{key_named}
use Rattle.expr_parser.specs.Tree as t
use Rattle.expr_parser.specs.Tree.{SyntaxTree, Trees, Arguments}
use Rattle.expr_types.specs.declared.scope.Scope.{Scope}
use Rattle.expr_types.specs.declared.scope.Scope.TheVariants.{Request, Location, Database}
use Rattle.expr_types.specs.Scope.{wider, scope_of_variable, scope_of, scope_given, scope_listed}
use Rattle.evaluator.specs.Value.{words, value, snapshot, auth, as_value}
use Rattle.evaluator.specs.Operators.{operated, other_truth, minus_of, chosen}
use Rattle.evaluator.specs.Calls.{Given, one, two, listed, called}
use Rattle.evaluator.specs.Env.{Env, variable, asked_in}
use Rattle.evaluator.specs.Mean.{mean, given, values}
use Rattle.evaluator.specs.Holds.{outcome, outcome_of}
use Rattle.evaluator.specs.Scoped.{SameRequest, SameLocation, LookSame}
use Rattle.evaluator.proofs.Beneath.{Alike, same, places, equals, called_alike, member_alike, value_alike}

-- ---- scopes

-- the scope is no wider
abbrev Within : Scope → Scope → Type 0
Within Request limit = ⊤
Within Location Request = ⊥
Within Location Location = ⊤
Within Location Database = ⊤
Within Database Request = ⊥
Within Database Location = ⊥
Within Database Database = ⊤

within_all : (s : Scope) → Within s Database
within_all Request = tt
within_all Location = tt
within_all Database = tt

-- a part of what is within a limit is
split : (r s limit : Scope) → Within (wider r s) limit → Within r limit × Within s limit
split Request s limit w = (tt, w)
split Location Request limit w = (w, tt)
split Location Location limit w = (w, w)
split Location Database Request w = absurd w
split Location Database Location w = absurd w
split Location Database Database w = (tt, tt)
split Database s Request w = absurd w
split Database s Location w = absurd w
split Database s Database w = (tt, within_all s)

-- ---- variables

-- it is one of those that a limit below `Database` lets in
abbrev LetsIn : Scope → List ℕ → Type 0
LetsIn limit f = (f ≡ codes "auth") ⊎ (f ≡ codes "query") ⊎ ((f ≡ codes "data") × Within Location limit)

module _ (limit : Scope) (below : Within Database limit → ⊥) (f : List ℕ) where
  by_name : (a b c : Bool) → (a ≡ true → f ≡ codes "auth") → (b ≡ true → f ≡ codes "query") → (c ≡ true → f ≡ codes "data") → Within (cond (a || b) Request (cond c Location Database)) limit → LetsIn limit f
  by_name true b c i j k w = inl (i refl)
  by_name false true c i j k w = inr (inl (j refl))
  by_name false false true i j k w = inr (inr (k refl, w))
  by_name false false false i j k w = absurd (below w)

  lets_in : Within (scope_of_variable f) limit → LetsIn limit f
  lets_in w = by_name (bytes_eq f (codes "auth")) (bytes_eq f (codes "query")) (bytes_eq f (codes "data")) (same_key f (codes "auth")) (same_key f (codes "query")) (same_key f (codes "data")) w

module _ (env other : Env) where
  -- the variable of this name means alike in both
  abbrev VariableAlike : List ℕ → Type 0
  VariableAlike f = Alike (variable f env) (variable f other)

  auth_alike : SameRequest env other → VariableAlike (codes "auth")
  unfolding variable
  auth_alike h = equals (ap (λ who. Some (auth who)) h.who)

  query_alike : SameRequest env other → VariableAlike (codes "query")
  unfolding variable
  query_alike h = equals (ap asked_in h.access)

  data_alike : SameLocation env other → VariableAlike (codes "data")
  unfolding variable
  data_alike h = subst (λ (p : Path). Alike (Some (snapshot env.here)) (Some (snapshot (other.here.0, p)))) h.path (places env.here.0 other.here.0 env.here.1 (h.below ∙ ap (sub other.here.0) (sym h.path)))

  request_variable : SameRequest env other → (f : List ℕ) → Within (scope_of_variable f) Request → VariableAlike f
  request_variable h f w = elim (lets_in Request (λ no. no) f w) [
    | inl e ↦ subst VariableAlike (sym e) (auth_alike h)
    | inr (inl e) ↦ subst VariableAlike (sym e) (query_alike h)
    | inr (inr e) ↦ absurd e.1
  ]

  location_variable : SameLocation env other → (f : List ℕ) → Within (scope_of_variable f) Location → VariableAlike f
  location_variable h f w = elim (lets_in Location (λ no. no) f w) [
    | inl e ↦ subst VariableAlike (sym e) (auth_alike h.request)
    | inr (inl e) ↦ subst VariableAlike (sym e) (query_alike h.request)
    | inr (inr e) ↦ subst VariableAlike (sym e.0) (data_alike h)
  ]

-- ---- expressions

module _ (limit : Scope) (below : Within Database limit → ⊥) (env other : Env) (variables : (f : List ℕ) → Within (scope_of_variable f) limit → Alike (variable f env) (variable f other)) (captures : env.captures ≡ other.captures) where
  mutual
    alike : (x : SyntaxTree) → Within (scope_of x) limit → Alike (mean x env) (mean x other)
    alike (t.Number n) w = same _
    alike (t.Text s) w = same _
    alike t.True w = same _
    alike t.False w = same _
    alike t.Null w = same _
    alike (t.Variable f) w = variables f w
    alike (t.Capture f) w = equals (ap (λ cs. option_map (λ k. value (words k)) (key_named f cs)) captures)
    alike (t.Group x) w = alike x w
    alike (t.Member x f) w = member_alike f (alike x w)
    alike (t.Call x f xs) w =
        elim (bytes_eq f (codes "parent")) as (λ b. bytes_eq f (codes "parent") ≡ b → Within (cond b Database (wider (scope_of x) (scope_given xs))) limit → Alike (called f (mean x env) (given xs env)) (called f (mean x other) (given xs other))) [
          | true ↦ λ _ v. absurd (below v)
          | false ↦ λ e v.
              let parts = split (scope_of x) (scope_given xs) limit v in
              subst (λ (g : Given). Alike (called f (mean x env) (given xs env)) (called f (mean x other) g)) (given_same xs parts.1) (called_alike f (given xs env) (bytes_eq-swap (codes "parent") f ∙ e) (alike x parts.0))
        ] refl w
    alike (t.Not x) w = equals (ap (λ m. option_map value (other_truth m)) (value_alike (alike x w)))
    alike (t.Negate x) w = equals (ap (λ m. option_map value (option_and_then minus_of m)) (value_alike (alike x w)))
    alike (t.Operation op x y) w =
        let parts = split (scope_of x) (scope_of y) limit w in
        equals (ap (λ m. option_map value (operated op m (as_value (mean y env)))) (value_alike (alike x parts.0)) ∙ ap (λ m. option_map value (operated op (as_value (mean x other)) m)) (value_alike (alike y parts.1)))
    alike (t.Choice c x y) w =
        let parts = split (scope_of c) (wider (scope_of x) (scope_of y)) limit w in
        let rest = split (scope_of x) (scope_of y) limit parts.1 in
        equals (ap (λ m. option_map value (chosen m (as_value (mean x env)) (as_value (mean y env)))) (value_alike (alike c parts.0))
        ∙ ap (λ m. option_map value (chosen (as_value (mean c other)) m (as_value (mean y env)))) (value_alike (alike x rest.0))
        ∙ ap (λ m. option_map value (chosen (as_value (mean c other)) (as_value (mean x other)) m)) (value_alike (alike y rest.1)))

    given_same : (xs : Arguments) → Within (scope_given xs) limit → given xs env ≡ given xs other
    given_same t.no_argument w = refl
    given_same (t.argument (t.One x) t.no_argument) w = ap one (value_alike (alike x (split (scope_of x) Request limit w).0))
    given_same (t.argument (t.Listed xs) t.no_argument) w = ap listed (values_same xs (split (scope_listed xs) Request limit w).0)
    given_same (t.argument (t.One x) (t.argument (t.One y) t.no_argument)) w =
        let parts = split (scope_of x) (wider (scope_of y) Request) limit w in
        ap (λ m. two m (as_value (mean y env))) (value_alike (alike x parts.0)) ∙ ap (two (as_value (mean x other))) (value_alike (alike y (split (scope_of y) Request limit parts.1).0))
    given_same (t.argument (t.One x) (t.argument (t.One y) (t.argument z zs))) w = refl
    given_same (t.argument (t.One x) (t.argument (t.Listed ys) zs)) w = refl
    given_same (t.argument (t.Listed xs) (t.argument y ys)) w = refl

    values_same : (xs : Trees) → Within (scope_listed xs) limit → values xs env ≡ values xs other
    values_same t.none w = refl
    values_same (t.more x xs) w =
        let parts = split (scope_of x) (scope_listed xs) limit w in
        ap (λ o. option_and_then (λ v. option_map (λ vs. v ∷ vs) o) (as_value (mean x env))) (values_same xs parts.1) ∙ ap (option_and_then (λ v. option_map (λ vs. v ∷ vs) (values xs other))) (value_alike (alike x parts.0))

-- ---- the whole

pub depends : (x : SyntaxTree) (env other : Env) → LookSame (scope_of x) env other → outcome x env ≡ outcome x other
depends x env other h =
    elim (scope_of x) as (λ s. scope_of x ≡ s → LookSame s env other → outcome x env ≡ outcome x other) [
      | Request ↦ λ e k. ap outcome_of (value_alike (alike Request (λ no. no) env other (request_variable env other k) k.captures x (subst (λ (s : Scope). Within s Request) (sym e) tt)))
      | Location ↦ λ e k. ap outcome_of (value_alike (alike Location (λ no. no) env other (location_variable env other k) k.request.captures x (subst (λ (s : Scope). Within s Location) (sym e) tt)))
      | Database ↦ λ e k. ap (outcome x) k
    ] refl h
