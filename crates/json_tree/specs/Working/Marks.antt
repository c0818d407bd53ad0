-- What a draft in memory is seen as: a tree with a 0 at each moment's place, and a tree of zeros at these places alone.
use Rattle.std.specs.Prelude.{◌≡◌, ℕ, [], ◌∷◌, Bool, true, false, if◌then◌else◌, is_some, IsSome, map, Option, Some, None, pos}
use Rattle.std.specs.FinMap as map_of
use Rattle.std.specs.Str.{bytes_eq}
use Rattle.std.specs.Borrow.{Bor}
use Rattle.std.specs.Global.{Global}
use Rattle.std.specs.declared.boxed.Box.{Box}
use Rattle.tree_model.specs.Key.{Key}
use Rattle.tree_model.specs.Path.{Path}
use Rattle.tree_model.specs.Primitive.{whole}
use Rattle.tree_model.specs.PathMap.{get, sub}
use Rattle.tree_model.specs.Tree.{Tree, null}
use Rattle.tree_model.specs.Draft.{Part, fixed, moment, Draft, tree_at}

-- the draft of a tree, with a moment at each mark
unfoldable pub drafted : Tree → Tree → Draft
drafted t marks = map_of.from_entries (map (λ e. (e.0, if is_some (get marks e.0) then moment else fixed e.1)) (map_of.entries t))

-- each mark is a 0, and the tree has one at its place
pub record AreMarks (t marks : Tree) : Type 0 where
  pub zero : (p : Path) → IsSome (get marks p) → get marks p ≡ Some (whole (pos 0))
  pub placed : (p : Path) → IsSome (get marks p) → get t p ≡ Some (whole (pos 0))

-- a moment is there
abbrev pub is_moment : Option Part → Bool
is_moment (Some moment) = true
is_moment o = false

-- the marks of a draft
unfoldable pub marks_in : Draft → Tree
marks_in d = map_of.retain_keys (tree_at 0 d) (λ p. is_moment (get d p))

-- the marks that a draft holds, and those that one borrows: none are null
abbrev pub marks_of : Option (Box Tree Global) → Tree
marks_of None = null
marks_of (Some b) = b.value

-- the marks that are borrowed, if there are any
abbrev pub marks_seen : Option (Bor Tree) → Tree
marks_seen None = null
marks_seen (Some b) = b.now

-- below one key a moment stands at each mark, and below the others nothing changes
pub record IsStampedAt (now : ℕ) (marked : Key × Tree) (old new : Tree) : Type 0 where
  pub here : sub new (marked.0 ∷ []) ≡ tree_at now (drafted (sub old (marked.0 ∷ [])) marked.1)
  pub others : (k : Key) → bytes_eq k marked.0 ≡ false → sub new (k ∷ []) ≡ sub old (k ∷ [])
