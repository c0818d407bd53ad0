-- Objects of trees and of drafts: a member more, and what they are as children and as members of an update.
use Rattle.std.proofs.Common.{◌≡◌, ◌≢◌, ℕ, zero, suc, ◌+◌, ◌<◌, ◌≤◌, ◌&&◌, Bool, true, false, true≢false, List, [], ◌∷◌, map, Some, None, Option, option_map, nat_cmp, refl, sym, ap, ◌∙◌, arith, nat_le, is_some}
use Rattle.std.specs.List.{All, AllByRecursion, list_all, insert}
use Rattle.std.specs.Cmp.{first_so, second_so}
use Rattle.std.specs.Cmp.Lexicographic.{slice_cmp}
use Rattle.std.specs.Ordering.{ordering_reverse}
use Rattle.std.specs.declared.cmp.Ordering.TheVariants.{Less, Greater}
use Rattle.serde_json.specs.Data.{Data, member, put}
use Rattle.tree_model.specs.declared.limits.TheConstants.{MAX_DEPTH}
use Rattle.tree_model.specs.Key.{Key, key_cmp, is_key}
use Rattle.tree_model.specs.PathMap.{PathMap, depth}
use Rattle.tree_model.specs.Tree.{Tree, null, non_null}
use Rattle.tree_model.specs.Draft.{Draft, null_draft, tree_at, as_draft, IsFixed}
use Rattle.tree_model.specs.Children.{AreChildren}
use Rattle.tree_model.proofs.Drafts.{stands-at, depth-at}
use Rattle.json_tree.proofs.Lists.{all_from_recursion}
use Rattle.json_lines.specs.Working.Children.{AreRead}
use Rattle.std.specs.FinMap as map_of
use Rattle.std.specs.FinMap.{is_sorted}
use Rattle.tree_model.proofs.Existence.{non_null-empty, non_null-some, some_path, not_null_from_path}
use Rattle.tree_model.proofs.Choices.{both_so}
use Rattle.tree_model.proofs.Orders.{keys_total}
use Rattle.std.proofs.lemmas.Bool.{leb-true}
use Rattle.std.proofs.lemmas.Bool.Decides.{nat_tests}
use Rattle.json_tree.specs.Json.{members_of, value_of}
use Rattle.json_tree.specs.Draft.{value_of_draft}
use Rattle.json_tree.proofs.DraftWritten.{value_of_draft-as_draft, value_of_draft-fixed, non_null-as_draft, depth-as_draft, sorted_mapped}
use Rattle.json_tree.proofs.Edits.{IsGap}
use Rattle.json_lines.specs.DraftMembers.{is_plain, members_named, drafts_named}

-- ---- a member is put

below : (k l : Key) → key_cmp l k ≡ Greater → slice_cmp nat_cmp k l ≡ Less
below k l is = keys_total.antisymm k l ∙ ap ordering_reverse is

above : (k l : Key) → key_cmp l k ≡ Less → slice_cmp nat_cmp k l ≡ Greater
above k l is = keys_total.antisymm k l ∙ ap ordering_reverse is

-- where a name is missing, what is inserted there is put
pub put_gap : {T : Type 0} (value : T → Data) (es : List (Key × T)) (i : ℕ) (name : Key) (t : T) → IsGap name es i → put name (value t) (members_of (map (λ e. (e.0, value e.1)) es)) ≡ members_of (map (λ e. (e.0, value e.1)) (insert es i (name, t)))
put_gap value [] zero name t gap = refl
put_gap value [] (suc i) name t gap = let within = gap.within in absurd (omega arith)
put_gap value (e ∷ es) zero name t gap = rw (below name e.0 (gap.after 0 e (omega arith) (omega arith))) refl
put_gap value (e ∷ es) (suc i) name t gap =
    let within = gap.within in
    let rest : IsGap name es i = record {
      within = omega arith;
      before = λ j d inside low. gap.before (suc j) d (omega arith) (omega arith);
      after = λ j d high inside. gap.after (suc j) d (omega arith) (omega arith);
    } in
    rw (above name e.0 (gap.before 0 e (omega arith) (omega arith))) (ap (member e.0 (value e.1)) (put_gap value es i name t rest))

-- ---- children

is_not_null : {X : Type 0} (t : PathMap X) → is_some (non_null t) ≡ true → t ≢ map_of.empty
is_not_null t some none = true≢false (sym some ∙ ap (λ u. is_some (non_null u)) none ∙ ap is_some non_null-empty)

-- what a plain member is
pub record IsPlain {X : Type 0} (e : Key × PathMap X) : Type 0 where
  pub key : is_key e.0 ≡ true
  pub some : e.1 ≢ map_of.empty
  pub room : depth e.1 < MAX_DEPTH

pub plain_parts : {X : Type 0} (e : Key × PathMap X) → is_plain e ≡ true → IsPlain e
plain_parts e h =
    let rest = second_so (is_some (non_null e.1)) _ h in
    let room : depth e.1 + 1 ≤ MAX_DEPTH = leb-true (depth e.1 + 1) MAX_DEPTH (first_so _ _ rest) in
    record { key = second_so (nat_le (depth e.1 + 1) MAX_DEPTH) _ rest; some = is_not_null e.1 (first_so _ _ h); room = omega arith }

pub plain_some : {X : Type 0} (name : Key) (t : PathMap X) (lawful : Bool) → t ≢ map_of.empty → depth t < MAX_DEPTH → lawful ≡ is_key name → lawful ≡ is_plain (name, t)
plain_some name t lawful some room is =
    let there : is_some (non_null t) ≡ true = ap is_some (non_null-some t some) in
    let fits : nat_le (depth t + 1) MAX_DEPTH ≡ true = grind (arith, nat_tests) in
    is ∙ sym (λ i. there i && (fits i && is_key name))

pub plain_none : (X : Type 0) (name : Key) → false ≡ is_plain {X = X} (name, map_of.empty)
plain_none X name = sym (ap (λ o. is_some o && (nat_le (depth {X = X} map_of.empty + 1) MAX_DEPTH && is_key name)) non_null-empty)

pub plain_insert : {X : Type 0} (es : List (Key × PathMap X)) (i : ℕ) (e : Key × PathMap X) → list_all is_plain es ≡ true → is_plain e ≡ true → list_all is_plain (insert es i e) ≡ true
plain_insert es zero e h is = both_so _ _ is h
plain_insert [] (suc i) e h is = both_so _ _ is refl
plain_insert (d ∷ es) (suc i) e h is = both_so _ _ (first_so _ _ h) (plain_insert es i e (second_so (is_plain d) _ h) is)

pub all_plain : {X : Type 0} (es : List (Key × PathMap X)) → list_all is_plain es ≡ true → AllByRecursion IsPlain es
all_plain [] h = tt
all_plain (e ∷ es) h = (plain_parts e (first_so _ _ h), all_plain es (second_so (is_plain e) _ h))

pub none_null : {X : Type 0} (es : List (Key × PathMap X)) → list_all is_plain es ≡ true → AllByRecursion (λ e. e.1 ≢ map_of.empty) es
none_null [] h = tt
none_null (e ∷ es) h = ((plain_parts e (first_so _ _ h)).some, none_null es (second_so (is_plain e) _ h))

-- ---- trees as drafts, and drafts without a moment as trees

abbrev pub as_drafted : Key × Tree → Key × Draft
as_drafted c = (c.0, as_draft c.1)

abbrev pub at_zero : Key × Draft → Key × Tree
at_zero e = (e.0, tree_at 0 e.1)

some_mapped : {X Y : Type 0} (f : X → Y) (o : Option X) → is_some (option_map f o) ≡ is_some o
some_mapped f None = refl
some_mapped f (Some x) = refl

plain_drafted : (c : Key × Tree) → is_plain (as_drafted c) ≡ is_plain c
plain_drafted c = λ i. (ap is_some (non_null-as_draft c.1) ∙ some_mapped as_draft (non_null c.1)) i && (nat_le (depth-as_draft c.1 i + 1) MAX_DEPTH && is_key c.0)

pub all_drafted : (cs : List (Key × Tree)) → list_all is_plain cs ≡ true → list_all is_plain (map as_drafted cs) ≡ true
all_drafted [] h = refl
all_drafted (c ∷ cs) h = both_so _ _ (plain_drafted c ∙ first_so _ _ h) (all_drafted cs (second_so (is_plain c) _ h))

pub named_drafted : (cs : List (Key × Tree)) → drafts_named (map as_drafted cs) ≡ members_named cs
named_drafted [] = refl
named_drafted (c ∷ cs) = λ i. member c.0 (value_of_draft-as_draft c.1 i) (named_drafted cs i)

pub named_at_zero : (es : List (Key × Draft)) → AllByRecursion (λ e. IsFixed e.1) es → members_named (map at_zero es) ≡ drafts_named es
named_at_zero [] h = refl
named_at_zero (e ∷ es) h = λ i. member e.0 (sym (value_of_draft-fixed e.1 h.0) i) (named_at_zero es h.1 i)

pub drafts_read : (cs : List (Key × Tree)) → AreRead cs → AreRead (map as_drafted cs)
drafts_read cs h = record { ascending = sorted_mapped as_draft cs h.ascending; plain = all_drafted cs h.plain }

not_nothing : {X Y : Type 0} (f : X → Y) (xs : List X) → xs ≢ [] → map f xs ≢ []
not_nothing f [] some = absurd (some refl)
not_nothing f (x ∷ xs) some = λ none. cc

some_at_zero : (d : Draft) → d ≢ null_draft → tree_at 0 d ≢ null
some_at_zero d some =
    let found = some_path d some in
    not_null_from_path (tree_at 0 d) found.0 (stands-at 0 d found.0 ∙ found.1)

each_at_zero : (es : List (Key × Draft)) → list_all is_plain es ≡ true → AllByRecursion (λ c. c.1 ≢ null) (map at_zero es)
each_at_zero [] h = tt
each_at_zero (e ∷ es) h = (some_at_zero e.1 (plain_parts e (first_so _ _ h)).some, each_at_zero es (second_so (is_plain e) _ h))

pub zero_children : (es : List (Key × Draft)) → es ≢ [] → is_sorted key_cmp es ≡ true → list_all is_plain es ≡ true → AreChildren (map at_zero es)
zero_children es some sorted plain = record { some = not_nothing at_zero es some; ascending = sorted_mapped (tree_at 0) es sorted; each = each_at_zero es plain }

room_at_zero : (es : List (Key × Draft)) → list_all is_plain es ≡ true → AllByRecursion (λ c. depth c.1 < MAX_DEPTH) (map at_zero es)
room_at_zero [] h = tt
room_at_zero (e ∷ es) h = (let room = (plain_parts e (first_so _ _ h)).room in omega (arith, depth-at 0 e.1), room_at_zero es (second_so (is_plain e) _ h))

pub zero_room : (es : List (Key × Draft)) → list_all is_plain es ≡ true → All (λ c. depth c.1 < MAX_DEPTH) (map at_zero es)
zero_room es h = all_from_recursion (λ c. depth c.1 < MAX_DEPTH) _ (room_at_zero es h)
