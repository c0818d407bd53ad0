-- What the program's commands find, where no fault is in the words.
use Rattle.std.proofs.Common.{arith, ◌≡◌, ◌∙◌, ◌≤◌, ap, ℕ, Bool, true, false, cond, not, ◌||◌, List, [], ◌∷◌, Option, Some, None, inl, inr, refl, sym, subst, codes, true≢false}
use Rattle.std.specs.Prelude.{Contains, ⊤, fold, drop, option_map, option_and_then, IsSome, IsSomeAnd, IfSome, unwrap_or}
use Rattle.std.specs.Bool.{OnTrue}
use Rattle.std.specs.Option.{option_map_or}
use Rattle.std.specs.Str.{bytes_eq}
use Rattle.clap.specs.Kinds.{check_kinds}
use Rattle.clap.specs.Walk.{Text, Row, Rule, Held, Walk, Step, Names, next, trailing, subcommand, value, word_met, to_positional, after_step, walked_from, walked, walk_from, nothing_held, rows_after, arg_by_id, arg_by_index, answers_to, first_of, one_of, stop_after}
use Rattle.clap.specs.Simple.{Shape, built, built_leaf, inherited, filled, with_index, help_rule, help_shape, entered, rows_at, label_of, names_of, subcommand_of}
use Rattle.clap.specs.Takes.{is_given}
use Rattle.clap.specs.Faults.{fault_of, built_fault, entered_fault, level_fault, walk_fault, defaults_fault}
use Rattle.clap.specs.declared.error.kind.ErrorKind.TheVariants.{MissingRequiredArgument}
use Rattle.clap.specs.declared.builder.value_parser.ValueParser.{ValueParser}
use Rattle.clap.specs.declared.builder.value_parser.ValueParser.TheVariants.{Unsigned}
use Rattle.clap.proofs.ValueTestLemmas.{accepts-Accepts}
use Rattle.command_line.specs.declared.wanted.TheConstants.{MAX_PORT, MAX_WORKERS, MAX_ROUNDS, USUAL_WORKERS, USUAL_ROUNDS}
use Rattle.command_line.specs.Order.{file, option, check_app, run_app, serve_app, the_program, Wanted, Served, checks, runs, serves, wanted, served, number_of, number_at, AreOrder, IsGiven, IsNumberIn}
use Rattle.command_line.specs.Working.{AreOptions, IsReady}
use Rattle.command_line.proofs.Reading.{bounds_or}
use Rattle.command_line.proofs.Walked.{In, Each, each_append, each_in, contained, or_else_first, or_else_last, same_bytes, IsSingle, IsSaid, IsValue, IsAnswer, once_set, never_help, rows_known, checked_last, answer_at, value_at}

-- ---- the rules of the commands

abbrev check_shape : Shape
check_shape = built_leaf (inherited the_program.top check_app.top)

abbrev run_shape : Shape
run_shape = built_leaf (inherited the_program.top run_app.top)

abbrev serve_shape : Shape
serve_shape = built_leaf (inherited the_program.top serve_app.top)

abbrev help_command : Shape
help_command = built_leaf help_shape

abbrev the_file : Rule
the_file = with_index 1 (filled file)

abbrev the_help : Rule
the_help = with_index 1 (filled help_rule)

abbrev the_option : Text → Option ValueParser → Bool → Rule
the_option name parser needed = with_index 1 (filled (record (option name) { parser = parser; required = needed }))

or_false : (b : Bool) → (b || false) ≡ true → b ≡ true
or_false true h = refl
or_false false h = h

file_single : (c : List Rule) → arg_by_id c (codes "FILE") ≡ Some the_file → IsSingle c the_file
file_single c own = record {
  own = own;
  once = once_set the_file refl refl;
  quiet = λ x h. absurd (true≢false (sym h));
  named = λ name h. absurd (true≢false (sym h));
  bare = refl;
}

help_single : (c : List Rule) → arg_by_id c (codes "help") ≡ Some the_help → IsSingle c the_help
help_single c own = record {
  own = own;
  once = never_help the_help refl;
  quiet = λ x h. refl;
  named = λ name h. ap (λ t. Some t) (same_bytes (codes "help") name (or_false (bytes_eq (codes "help") name) h));
  bare = refl;
}

option_single : (c : List Rule) (name : Text) (parser : Option ValueParser) (needed : Bool) → arg_by_id c name ≡ Some (the_option name parser needed) → IsSingle c (the_option name parser needed)
option_single c name parser needed own = record {
  own = own;
  once = once_set (the_option name parser needed) refl refl;
  quiet = λ x h. absurd (true≢false (sym h));
  named = λ given h. ap (λ t. Some t) (same_bytes name given (or_false (bytes_eq name given) h));
  bare = refl;
}

check_singles : Each (IsSingle check_shape.rules) check_shape.rules
check_singles = (file_single check_shape.rules refl, (help_single check_shape.rules refl, tt))

abbrev the_rules : Rule
the_rules = the_option (codes "rules") None true

abbrev the_port : Rule
the_port = the_option (codes "port") (Some (Unsigned 1 MAX_PORT)) true

abbrev the_workers : Rule
the_workers = the_option (codes "workers") (Some (Unsigned 1 MAX_WORKERS)) false

abbrev the_rounds : Rule
the_rounds = the_option (codes "rounds") (Some (Unsigned 1 MAX_ROUNDS)) false

serve_singles : Each (IsSingle serve_shape.rules) serve_shape.rules
serve_singles =
    let c = serve_shape.rules in (
      option_single c (codes "rules") None true refl,
      (
        option_single c (codes "data") None false refl,
        (
          option_single c (codes "tokens") None false refl,
          (
            option_single c (codes "port") (Some (Unsigned 1 MAX_PORT)) true refl,
            (
              option_single c (codes "workers") (Some (Unsigned 1 MAX_WORKERS)) false refl,
              (option_single c (codes "rounds") (Some (Unsigned 1 MAX_ROUNDS)) false refl, (help_single c refl, tt)),
            ),
          ),
        ),
      ),
    )

-- ---- what the commands find

-- what is known of the rows of `serve`
record AreKnown (W : List Text) (rows : List Row) : Type 0 where
  rules : IsValue W the_rules (first_of (codes "rules") rows) (one_of (codes "rules") rows)
  port : IsValue W the_port (first_of (codes "port") rows) (one_of (codes "port") rows)
  workers : IsAnswer W the_workers (first_of (codes "workers") rows) (one_of (codes "workers") rows)
  rounds : IsAnswer W the_rounds (first_of (codes "rounds") rows) (one_of (codes "rounds") rows)

-- what is known of what was found
abbrev IsKnown : List Text → Option (Text × List Row) → Type 0
IsKnown W None = ⊤
IsKnown W (Some f) =
    OnTrue (bytes_eq f.0 (codes "check")) (IsValue W the_file (first_of (codes "FILE") f.1) (one_of (codes "FILE") f.1))
    × OnTrue (bytes_eq f.0 (codes "serve")) (AreKnown W f.1)

given : (g : Bool) → check_kinds false false (not g || false) ≡ [] → g ≡ true
given true h = refl
given false h = absurd cc

both_given : (g k : Bool) → check_kinds false false (not g || (not k || false)) ≡ [] → (g ≡ true) × (k ≡ true)
both_given true k h = (refl, given k h)
both_given false k h = absurd cc

file_known : (W ws : List Text) → Each (In W) ws → level_fault check_shape [] nothing_held ws false [] ≡ [] → IsValue W the_file (first_of (codes "FILE") (rows_after check_shape.rules [] ws)) (one_of (codes "FILE") (rows_after check_shape.rules [] ws))
file_known W ws each fault =
    let rows = rows_after check_shape.rules [] ws in
    let is = given (is_given (codes "FILE") rows) (checked_last check_shape ws fault) in
    value_at check_shape.rules W the_file (codes "FILE") rows refl (rows_known check_shape W ws check_singles each fault) is

options_known : (W ws : List Text) → Each (In W) ws → level_fault serve_shape [] nothing_held ws false [] ≡ [] → AreKnown W (rows_after serve_shape.rules [] ws)
options_known W ws each fault =
    let c = serve_shape.rules in
    let rows = rows_after c [] ws in
    let known = rows_known serve_shape W ws serve_singles each fault in
    let is = both_given (is_given (codes "rules") rows) (is_given (codes "port") rows) (checked_last serve_shape ws fault) in record {
      rules = value_at c W the_rules (codes "rules") rows refl known is.0;
      port = value_at c W the_port (codes "port") rows refl known is.1;
      workers = answer_at c W the_workers (codes "workers") rows refl known;
      rounds = answer_at c W the_rounds (codes "rounds") rows refl known;
    }

-- ---- the words behind the command that was met

abbrev StopOf : List Text → Option (Text × List Text) → Type 0
StopOf W None = ⊤
StopOf W (Some p) = Each (In W) p.1

stop_of_walked : (c : List Rule) (names : Names) (W : List Text) (w : Walk) (word : Text) → In W word → StopOf W w.stopped → StopOf W (walked c names w word).stopped
unfolding walked
stop_of_walked c names W w word i of_w = from w.stopped of_w
  where
    place : (o : Option Rule) (h : Held) → StopOf W (to_positional c o word w h).stopped
    place None h = of_w
    place (Some a) h = tt

    after : (h : Held) (s : Step) → StopOf W (after_step c word w h s).stopped
    after h (next waiting) = of_w
    after h (trailing p) = of_w
    after h (subcommand name) = tt
    after h value = place (arg_by_index c w.position) h

    from : (stopped : Option (Text × List Text)) → StopOf W stopped → StopOf W (walked_from c names stopped w word).stopped
    from (Some p) s = each_append (In W) p.1 (word ∷ []) s (i, tt)
    from None s =
        let met = word_met c names w.is_trailing w.waiting w.position word w.held in
        after met.0 met.1

stop_of_walk : (c : List Rule) (names : Names) (W ws : List Text) (w : Walk) → Each (In W) ws → StopOf W w.stopped → StopOf W (fold (walked c names) w ws).stopped
stop_of_walk c names W [] w each of_w = of_w
stop_of_walk c names W (word ∷ ws) w each of_w = stop_of_walk c names W ws (walked c names w word) each.1 (stop_of_walked c names W w word each.0 of_w)

stopped_known : (W : List Text) (stop : Option (Text × List Text)) → StopOf W stop → entered_fault (built the_program) stop ≡ [] → IsKnown W (entered (built the_program) stop)
stopped_known W None s h = tt
stopped_known W (Some p) s h = by_name (answers_to p.0 (label_of check_shape)) (answers_to p.0 (label_of run_shape)) (answers_to p.0 (label_of serve_shape)) (answers_to p.0 (label_of help_command)) h
  where
    by_name : (a b c d : Bool) → option_map_or (λ (s : Shape). level_fault s [] nothing_held p.1 false []) (cond a (Some check_shape) (cond b (Some run_shape) (cond c (Some serve_shape) (cond d (Some help_command) None)))) [] ≡ [] → IsKnown W (option_map (λ (s : Shape). rows_at s p.1) (cond a (Some check_shape) (cond b (Some run_shape) (cond c (Some serve_shape) (cond d (Some help_command) None)))))
    by_name true b c d h = (file_known W p.1 s h, tt)
    by_name false true c d h = (tt, tt)
    by_name false false true d h = (tt, options_known W p.1 s h)
    by_name false false false true h = (tt, tt)
    by_name false false false false h = tt

known_in : (W ws : List Text) → Each (In W) ws → built_fault (built the_program) nothing_held ws ≡ [] → IsKnown W (entered (built the_program) (stop_after (built the_program).top.rules (names_of (built the_program)) ws))
known_in W ws each h =
    let a = built the_program in
    let stop = stop_after a.top.rules (names_of a) ws in
    let of_stop = stop_of_walk a.top.rules (names_of a) W ws (walk_from nothing_held) each tt in
    stopped_known W stop of_stop (or_else_first (entered_fault a stop) _ (or_else_last (walk_fault a.top (names_of a) (walk_from nothing_held) ws) _ h))

known : (words : List Text) → fault_of the_program words ≡ [] → IsKnown (drop 1 words) (subcommand_of the_program words)
known [] h = known_in [] [] tt h
known (program ∷ ws) h = known_in ws ws (each_in ws ws (λ x i. i)) h

-- ---- what is wanted then is there

number_in : (W : List Text) (name : Text) (most : ℕ) (needed : Bool) (text read : Option Text) → IsValue W (the_option name (Some (Unsigned 1 most)) needed) text read → IsSomeAnd read (IsNumberIn 1 most)
number_in W name most needed text None v = let none : None ≡ Some v.first = v.read_is in absurd cc
number_in W name most needed text (Some t) v =
    let accepted = accepts-Accepts false (Unsigned 1 most) v.first v.passes in
    let is : t ≡ v.first = ap (λ o. unwrap_or o t) v.read_is in
    subst (IsNumberIn 1 most) (sym is) (accepted.0, accepted.2, accepted.3)

number_if : (W : List Text) (name : Text) (most : ℕ) (text read : Option Text) → IsAnswer W (the_option name (Some (Unsigned 1 most)) false) text read → IfSome read (IsNumberIn 1 most)
number_if W name most text None v = tt
number_if W name most text (Some t) (inl v) = number_in W name most false text (Some t) v
number_if W name most text (Some t) (inr none) = let wrong : Some t ≡ None = none.1 in absurd cc

is_there : (o : Option Text) (t : Text) → o ≡ Some t → IsSome o
is_there None t e = absurd cc
is_there (Some x) t e = refl

ready_of : (W : List Text) (o : Option (Text × List Row)) → IsKnown W o → IsReady o
ready_of W None k = tt
ready_of W (Some f) k = (file (bytes_eq f.0 (codes "check")) k.0, options (bytes_eq f.0 (codes "serve")) k.1)
  where
    file : (b : Bool) → OnTrue b (IsValue W the_file (first_of (codes "FILE") f.1) (one_of (codes "FILE") f.1)) → OnTrue b (IsSome (first_of (codes "FILE") f.1))
    file true v = is_there (first_of (codes "FILE") f.1) v.first v.text_is
    file false v = tt

    options : (b : Bool) → OnTrue b (AreKnown W f.1) → OnTrue b (AreOptions f.1)
    options true v = record {
      rules = is_there (first_of (codes "rules") f.1) v.rules.first v.rules.text_is;
      port = number_in W (codes "port") MAX_PORT true (first_of (codes "port") f.1) (one_of (codes "port") f.1) v.port;
      workers = number_if W (codes "workers") MAX_WORKERS (first_of (codes "workers") f.1) (one_of (codes "workers") f.1) v.workers;
      rounds = number_if W (codes "rounds") MAX_ROUNDS (first_of (codes "rounds") f.1) (one_of (codes "rounds") f.1) v.rounds;
    }
    options false v = tt

-- a faultless command has what it needs
pub ready : (words : List Text) → fault_of the_program words ≡ [] → IsReady (subcommand_of the_program words)
ready words h = ready_of (drop 1 words) (subcommand_of the_program words) (known words h)

-- ---- the laws

runs_no_check : (name : List ℕ) → Some runs ≡ Some (checks name) → ⊥
runs_no_check name e = cc

runs_no_server : (options : Served) → Some runs ≡ Some (serves options) → ⊥
runs_no_server options e = cc

no_check : (o : Option Served) (name : List ℕ) → option_map serves o ≡ Some (checks name) → ⊥
no_check None name e = cc
no_check (Some options) name e = cc

no_server : (o : Option Text) (options : Served) → option_map checks o ≡ Some (serves options) → ⊥
no_server None options e = cc
no_server (Some name) options e = cc

same_name : (x y : List ℕ) → Some (checks x) ≡ Some (checks y) → x ≡ y
same_name x y e = cc

said_file : (W : List Text) (v : Text) → IsSaid W the_file v → Contains W v
said_file W v (inl i) = contained W v i
said_file W v (inr none) = absurd none

checks_in : (W : List Text) (o : Option (Text × List Row)) (name : List ℕ) → IsKnown W o → wanted o ≡ Some (checks name) → Contains W name
checks_in W None name k e = absurd (runs_no_check name e)
checks_in W (Some f) name k e = by_name (bytes_eq f.0 (codes "check")) (bytes_eq f.0 (codes "serve")) k.0 e
  where
    by_name : (a b : Bool) → OnTrue a (IsValue W the_file (first_of (codes "FILE") f.1) (one_of (codes "FILE") f.1)) → cond a (option_map checks (first_of (codes "FILE") f.1)) (cond b (option_map serves (served f.1)) (Some runs)) ≡ Some (checks name) → Contains W name
    by_name true b v e =
        let is : v.first ≡ name = same_name v.first name (sym (ap (option_map checks) v.text_is) ∙ e) in
        subst (Contains W) is (said_file W v.first v.said)
    by_name false true v e = absurd (no_check (served f.1) name e)
    by_name false false v e = absurd (runs_no_check name e)

-- the file that a check wants is one of the words
pub named : (words : List Text) (name : List ℕ) → AreOrder words (checks name) → Contains (drop 1 words) name
named words name order = checks_in (drop 1 words) (subcommand_of the_program words) name (known words order.faultless) order.found

-- `check` alone is no order
pub no_order : (program : List ℕ) (order : Wanted) → AreOrder (program ∷ codes "check" ∷ []) order → ⊥
unfolding walked walk_fault defaults_fault
no_order program order of_words = never of_words.faultless
  where
    never : MissingRequiredArgument ∷ [] ≡ [] → ⊥
    never e = cc

-- `serve` alone is no order
pub no_server_alone : (program : List ℕ) (order : Wanted) → AreOrder (program ∷ codes "serve" ∷ []) order → ⊥
unfolding walked walk_fault defaults_fault
no_server_alone program order of_words = never of_words.faultless
  where
    never : MissingRequiredArgument ∷ [] ≡ [] → ⊥
    never e = cc

-- what is wanted with this rules file and this port
abbrev served_from : List Row → Text → ℕ → Served
served_from rows rules port = record {
  rules_file = rules;
  data_file = first_of (codes "data") rows;
  tokens_file = first_of (codes "tokens") rows;
  port = port;
  workers = unwrap_or (number_at (codes "workers") rows) USUAL_WORKERS;
  rounds = unwrap_or (number_at (codes "rounds") rows) USUAL_ROUNDS;
}

served_is : (W : List Text) (rows : List Row) (k : AreKnown W rows) → served rows ≡ Some (served_from rows k.rules.first (number_of k.port.first))
served_is W rows k =
    ap (option_and_then (λ rules. option_map (served_from rows rules) (number_at (codes "port") rows))) k.rules.text_is
    ∙ ap (λ o. option_map (served_from rows k.rules.first) (option_map number_of o)) k.port.read_is

-- a server is wanted with what is known of its rows
record IsServer (W : List Text) (options : Served) : Type 0 where
  rows : List Row
  known_are : AreKnown W rows
  is : served_from rows known_are.rules.first (number_of known_are.port.first) ≡ options

same_server : (x y : Served) → Some (serves x) ≡ Some (serves y) → x ≡ y
same_server x y e = cc

server_in : (W : List Text) (o : Option (Text × List Row)) (options : Served) → IsKnown W o → wanted o ≡ Some (serves options) → IsServer W options
server_in W None options k e = absurd (runs_no_server options e)
server_in W (Some f) options k e = by_name (bytes_eq f.0 (codes "check")) (bytes_eq f.0 (codes "serve")) k.1 e
  where
    by_name : (a b : Bool) → OnTrue b (AreKnown W f.1) → cond a (option_map checks (first_of (codes "FILE") f.1)) (cond b (option_map serves (served f.1)) (Some runs)) ≡ Some (serves options) → IsServer W options
    by_name true b v e = absurd (no_server (first_of (codes "FILE") f.1) options e)
    by_name false true v e = record {
      rows = f.1;
      known_are = v;
      is = same_server _ options (sym (ap (option_map serves) (served_is W f.1 v)) ∙ e);
    }
    by_name false false v e = absurd (runs_no_server options e)

server : (words : List Text) (options : Served) → AreOrder words (serves options) → IsServer (drop 1 words) options
server words options order = server_in (drop 1 words) (subcommand_of the_program words) options (known words order.faultless) order.found

said_rules : (W : List Text) (v : Text) → IsSaid W the_rules v → IsGiven W (codes "rules") v
said_rules W v (inl i) = inl (contained W v i)
said_rules W v (inr i) = inr (contained W _ i)

said_port : (W : List Text) (v : Text) → IsSaid W the_port v → IsGiven W (codes "port") v
said_port W v (inl i) = inl (contained W v i)
said_port W v (inr i) = inr (contained W _ i)

-- the rules file that a server wants stands in the words
pub rules_given : (words : List Text) (options : Served) → AreOrder words (serves options) → IsGiven (drop 1 words) (codes "rules") options.rules_file
rules_given words options order =
    let s = server words options order in
    subst (λ (o : Served). IsGiven (drop 1 words) (codes "rules") o.rules_file) s.is (said_rules (drop 1 words) s.known_are.rules.first s.known_are.rules.said)

-- and so does its port
pub port_given : (words : List Text) (options : Served) → AreOrder words (serves options)
    → (text : Text) × IsGiven (drop 1 words) (codes "port") text × IsNumberIn 1 MAX_PORT text × (options.port ≡ number_of text)
port_given words options order =
    let s = server words options order in
    let v = s.known_are.port in
    let accepted = accepts-Accepts false (Unsigned 1 MAX_PORT) v.first v.passes in
    (v.first, said_port (drop 1 words) v.first v.said, (accepted.0, accepted.2, accepted.3), sym (ap (λ (o : Served). o.port) s.is))

-- the workers of a server are as many as may be
pub workers_fit : (words : List Text) (options : Served) → AreOrder words (serves options) → (1 ≤ options.workers) × (options.workers ≤ MAX_WORKERS)
workers_fit words options order =
    let s = server words options order in
    let fits = number_if (drop 1 words) (codes "workers") MAX_WORKERS (first_of (codes "workers") s.rows) (one_of (codes "workers") s.rows) s.known_are.workers in
    subst (λ (o : Served). (1 ≤ o.workers) × (o.workers ≤ MAX_WORKERS)) s.is (bounds_or MAX_WORKERS USUAL_WORKERS (one_of (codes "workers") s.rows) (omega arith) (omega arith) fits)

-- and so are their rounds
pub rounds_fit : (words : List Text) (options : Served) → AreOrder words (serves options) → (1 ≤ options.rounds) × (options.rounds ≤ MAX_ROUNDS)
rounds_fit words options order =
    let s = server words options order in
    let fits = number_if (drop 1 words) (codes "rounds") MAX_ROUNDS (first_of (codes "rounds") s.rows) (one_of (codes "rounds") s.rows) s.known_are.rounds in
    subst (λ (o : Served). (1 ≤ o.rounds) × (o.rounds ≤ MAX_ROUNDS)) s.is (bounds_or MAX_ROUNDS USUAL_ROUNDS (one_of (codes "rounds") s.rows) (omega arith) (omega arith) fits)

wanted_of : (W : List Text) (o : Option (Text × List Row)) → IsKnown W o → (order : Wanted) × (wanted o ≡ Some order)
wanted_of W None k = (runs, refl)
wanted_of W (Some f) k = by_name (bytes_eq f.0 (codes "check")) (bytes_eq f.0 (codes "serve")) k.0 k.1
  where
    by_name : (a b : Bool) → OnTrue a (IsValue W the_file (first_of (codes "FILE") f.1) (one_of (codes "FILE") f.1)) → OnTrue b (AreKnown W f.1) → (order : Wanted) × (cond a (option_map checks (first_of (codes "FILE") f.1)) (cond b (option_map serves (served f.1)) (Some runs)) ≡ Some order)
    by_name true b v w = (checks v.first, ap (option_map checks) v.text_is)
    by_name false true v w = (serves (served_from f.1 w.rules.first (number_of w.port.first)), ap (option_map serves) (served_is W f.1 w))
    by_name false false v w = (runs, refl)

-- faultless words are an order
pub some_order : (words : List Text) → fault_of the_program words ≡ [] → (order : Wanted) × AreOrder words order
some_order words h =
    let found = wanted_of (drop 1 words) (subcommand_of the_program words) (known words h) in
    (found.0, record { faultless = h; found = found.1 })
