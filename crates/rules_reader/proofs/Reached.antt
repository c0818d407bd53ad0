-- Where a search for the pattern at a path stands.
use Rattle.std.proofs.Common.{◌≡◌, ℕ, ◌+◌, ◌<◌, true, false, [], ◌∷◌, ◌++◌, length, take, get_or, is_some, sym, ap, ◌∙◌, subst, append-nil}
use Rattle.std.specs.FinMap as map_of
use Rattle.std.proofs.lemmas.List.{take_more, get_or_default}
use Rattle.tree_model.specs.Key.{Key}
use Rattle.tree_model.specs.Path.{Path}
use Rattle.tree_model.specs.PathMap.{get, sub, exists}
use Rattle.tree_model.proofs.Lookups.{get-sub, sub-sub, sub-root}
use Rattle.rules_reader.specs.Part.{PartText, Pattern}
use Rattle.rules_reader.specs.Book.{Book}
use Rattle.rules_reader.specs.Place.{matches, StandsAt, HasOneCapture}
use Rattle.rules_reader.specs.Node.{Point, Steps, NoneMatches}
use Rattle.rules_reader.proofs.Standing.{StandsAt-root, StandsAt-push, matches-below, exists-below, none_further}

-- the node stands at the path in the book, and has what the book has at and below its pattern
pub record Reached (book : Book) (node : Point) (path : Path) : Type 0 where
  pub stands : StandsAt book node.at path
  pub below : node.book ≡ sub book node.at

pub reached_root : (root : Point) → root.at ≡ [] → map_of.contains_key root.book [] ≡ true → Reached root.book root []
reached_root root at listed = record {
  stands = subst (λ (p : Pattern). StandsAt root.book p []) (sym at) (StandsAt-root root.book listed);
  below = sym (sub-root root.book) ∙ ap (sub root.book) (sym at);
}

-- one key further
pushed : (book : Book) (node to : Point) (path : Path) (key : Key) → Reached book node path → Steps node key to → Reached book to (path ++ key ∷ [])
pushed book node to path key r s = record {
  stands = subst (λ (p : Pattern). StandsAt book p (path ++ key ∷ [])) (sym s.at) (StandsAt-push book node.at path s.part key r.stands listed matched);
  below = below ∙ ap (sub book) (sym s.at);
}
  where
    below : to.book ≡ sub book (node.at ++ s.part ∷ [])
    below = s.book ∙ ap (λ b. sub b (s.part ∷ [])) r.below ∙ sub-sub book node.at (s.part ∷ [])

    listed : map_of.contains_key book (node.at ++ s.part ∷ []) ≡ true
    listed =
        ap is_some (ap (get book) (sym (append-nil (node.at ++ s.part ∷ []))) ∙ sym (get-sub book (node.at ++ s.part ∷ []) []) ∙ ap (λ b. get b []) (sym below))
        ∙ s.listed

    matched : matches book node.at s.part key ≡ true
    matched = sym (matches-below book node.at s.part key) ∙ ap (λ b. matches b [] s.part key) (sym r.below) ∙ s.matched

pub reached_step : (book : Book) (node to : Point) (path : Path) (i : ℕ) (key : Key) → i < length path → key ≡ get_or path i key → Reached book node (take i path) → Steps node key to → Reached book to (take (i + 1) path)
reached_step book node to path i key within at r s = subst (Reached book to) (sym (take_more path i key within ∙ ap (λ k. take i path ++ k ∷ []) (sym at))) (pushed book node to (take i path) key r s)

-- where no part matches the next key, nothing stands at the path
pub not_reached : (book : Book) (node : Point) (path : Path) (i : ℕ) (key : Key) (p : Pattern) → HasOneCapture book → i < length path → key ≡ get_or path i key → Reached book node (take i path) → NoneMatches node.book key → StandsAt book p path → ⊥
not_reached book node path i key p one within at r none s = none_further book node.at p path i one within r.stands no_part s
  where
    no_part : (part : PartText) → matches book node.at part (get_or path i []) ≡ true → exists book (node.at ++ part ∷ []) ≡ false
    no_part part m =
        sym (exists-below book node.at (part ∷ []))
        ∙ ap (λ b. exists b (part ∷ [])) (sym r.below)
        ∙ none part (ap (λ b. matches b [] part key) r.below ∙ matches-below book node.at part key ∙ ap (matches book node.at part) (at ∙ get_or_default path i key [] within) ∙ m)
