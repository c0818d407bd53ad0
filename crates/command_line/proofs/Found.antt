-- The command that was found.
use Rattle.std.proofs.Common.{◌≡◌, ◌∙◌, ap, subst, List, ℕ, Bool, true, false, cond, Option, Some, None, codes, refl}
use Rattle.std.specs.Str.{bytes_eq}
use Rattle.std.specs.Prelude.{Box, IsSome, option_map}
use Rattle.std.specs.Box.{box_value}
use Rattle.clap.specs.Words.{Text, Row, first_of}
use Rattle.clap.specs.Simple.{subcommand_rows}
use Rattle.clap.specs.declared.parser.matches.SubCommand.{SubCommand}
use Rattle.clap.specs.declared.parser.matches.ArgMatches.TheViews.{out-SubCommand}
use Rattle.command_line.specs.Order.{Served, checks, runs, serves, served, wanted}
use Rattle.command_line.specs.Working.{AreOptions, IsReady}
use Rattle.command_line.proofs.Walked.{same_bytes}

module _ {Z : Type 0} where
  pub name_found : (name : Text) (sub : Option (Box SubCommand Z)) → option_map (λ b. (out-SubCommand (box_value b)).name.now) sub ≡ Some name → option_map (λ p. p.0) (subcommand_rows sub) ≡ Some name
  name_found name None h = absurd cc
  name_found name (Some b) h = h

  pub name_known : (name : Text) (sub : Option (Box SubCommand Z)) → option_map (λ p. p.0) (subcommand_rows sub) ≡ Some name → option_map (λ b. (out-SubCommand (box_value b)).name.now) sub ≡ Some name
  name_known name None h = absurd cc
  name_known name (Some b) h = h

-- the command of this name was found, with these rows
pub found_is : (found : Option (Text × List Row)) (name : Text) (rows : List Row) → option_map (λ p. p.0) found ≡ Some name → option_map (λ p. p.1) found ≡ Some rows → found ≡ Some (name, rows)
found_is None name rows n r = absurd cc
found_is (Some f) name rows n r =
    let same_name : f.0 ≡ name = cc in
    let same_rows : f.1 ≡ rows = cc in
    λ i. Some (same_name i, same_rows i)

-- ---- what it needs, and what it wants

pub check_ready : (found : Option (Text × List Row)) (rows : List Row) → found ≡ Some (codes "check", rows) → IsReady found → IsSome (first_of (codes "FILE") rows)
check_ready found rows is ready = (subst IsReady is ready).0

pub serve_ready : (found : Option (Text × List Row)) (rows : List Row) → found ≡ Some (codes "serve", rows) → IsReady found → AreOptions rows
serve_ready found rows is ready = (subst IsReady is ready).1

pub check_wanted : (found : Option (Text × List Row)) (rows : List Row) (name : List ℕ) → found ≡ Some (codes "check", rows) → first_of (codes "FILE") rows ≡ Some name → wanted found ≡ Some (checks name)
check_wanted found rows name is file = ap wanted is ∙ ap (option_map checks) file

pub serve_wanted : (found : Option (Text × List Row)) (rows : List Row) (options : Served) → found ≡ Some (codes "serve", rows) → served rows ≡ Some options → wanted found ≡ Some (serves options)
serve_wanted found rows options is are = ap wanted is ∙ ap (option_map serves) are

pub run_wanted : (found : Option (Text × List Row)) → (option_map (λ p. p.0) found ≡ Some (codes "check") → ⊥) → (option_map (λ p. p.0) found ≡ Some (codes "serve") → ⊥) → wanted found ≡ Some runs
run_wanted None check serve = refl
run_wanted (Some f) check serve = by_name (bytes_eq f.0 (codes "check")) (bytes_eq f.0 (codes "serve")) refl refl
  where
    by_name : (a b : Bool) → bytes_eq f.0 (codes "check") ≡ a → bytes_eq f.0 (codes "serve") ≡ b → cond a (option_map checks (first_of (codes "FILE") f.1)) (cond b (option_map serves (served f.1)) (Some runs)) ≡ Some runs
    by_name true b is of = absurd (check (ap (λ t. Some t) (same_bytes f.0 (codes "check") is)))
    by_name false true is of = absurd (serve (ap (λ t. Some t) (same_bytes f.0 (codes "serve") of)))
    by_name false false is of = refl
