-- Children before a text that is sought among them.
use Rattle.std.specs.Prelude.{◌≡◌, ℕ, List}
use Rattle.std.specs.declared.cmp.Ordering.TheVariants.{Less}
use Rattle.std.specs.List.{AllWithin}
use Rattle.std.specs.List.Sorted.{IsNonDecreasingBy}
use Rattle.std.specs.Ordering.{ordering_index}
use Rattle.tree_model.specs.Key.{Key, key_cmp}
use Rattle.tree_model.specs.Tree.{Tree}

-- the first n of these children stand before a text, where all stand in their order
pub record AreBefore (text : Key) (n : ℕ) (children : List (Key × Tree)) : Type 0 where
  pub each : IsNonDecreasingBy (λ child. ordering_index (key_cmp child.0 text)) children → AllWithin (λ child. key_cmp child.0 text ≡ Less) children 0 n
