-- What a node keeps of the variables that its rules mention.
use Rattle.std.proofs.Common.{◌≡◌, ◌||◌, Bool, true, List, sym, ◌∙◌}
use Rattle.std.specs.List.{list_any}
use Rattle.std.specs.FinMap.{is_sorted}
use Rattle.tree_model.specs.Key.{key_cmp}
use Rattle.path_capture.specs.declared.pattern.Part.{Part}
use Rattle.expr_types.specs.Checked.{Checked}
use Rattle.rules_reader.specs.declared.kind.Kind.{Kind}
use Rattle.rules_reader.specs.declared.kind.Kind.TheVariants.{Read, Write, Validate}
use Rattle.rules_reader.specs.declared.mentions.TreeVariable.{TreeVariable}
use Rattle.rules_reader.specs.declared.mentions.Mentions.{Mentions}
use Rattle.rules_reader.specs.Book.{Stated, states}
use Rattle.rules_reader.specs.Mentions.{mentions_for}
use Rattle.rules_reader.specs.Node.{Point, grown, books}
use Rattle.rules_reader.specs.Working.Kept.{Keeps, kept_for}
use Rattle.rules_reader.proofs.Stating.{states-node}

pub keeps-node : (variable : TreeVariable) (kept : Mentions) (own : Stated Checked) (children : List (Part × Point)) → is_sorted key_cmp (books children) ≡ true → ((kind : Kind) → kept_for kind kept ≡ (mentions_for variable kind own || list_any (λ c. states (mentions_for variable kind) c.1.book) children)) → Keeps variable kept (grown own (books children))
keeps-node variable kept own children sorted each = record {
  each = λ kind. each kind ∙ sym (states-node (mentions_for variable kind) own children sorted);
}

-- what is kept of each kind by itself
pub kept_each : (f : Kind → Bool) (r w v : Bool) → r ≡ f Read → w ≡ f Write → v ≡ f Validate → (kind : Kind) → kept_for kind (record { read = r; write = w; validate = v }) ≡ f kind
kept_each f r w v a b d Read = a
kept_each f r w v a b d Write = b
kept_each f r w v a b d Validate = d
