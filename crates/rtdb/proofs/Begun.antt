-- What a server begins with, from what its parts say.
use Rattle.std.proofs.Common.{◌≡◌, ◌∙◌, ap, ℕ, List, Option, Some, None, Result, Ok, Err, inl, refl, subst}
use Rattle.std.specs.Prelude.{option_map}
use Rattle.std.specs.Option.{option_copied}
use Rattle.std.specs.Borrow.{Bor}
use Rattle.tree_model.specs.Tree.{Tree}
use Rattle.tokens.specs.Tokens.{Tokens}
use Rattle.tokens.specs.declared.fault.TokensFault.{TokensFault}
use Rattle.tokens.specs.declared.fault.TokensFault.TheVariants.{BadTokens as NoTokens, NoMemory as NoRoom}
use Rattle.scripts.specs.Header.{opening_tree}
use Rattle.serde_json.specs.Data.{Data as AnyData}
use Rattle.rules_reader.specs.Book.{Book}
use Rattle.rules_reader.specs.File.{States}
use Rattle.scripts.specs.declared.header.HeaderFault.{HeaderFault}
use Rattle.scripts.specs.declared.header.HeaderFault.TheVariants.{Line, Rules, Data, BadTokens, TreeFull}
use Rattle.scripts.specs.declared.header.Opened.{Opened}
use Rattle.rtdb.specs.Working.{fault_of_tokens}
use Rattle.rtdb.specs.Opening.{Begins, BeginsBy, FileBytes, TellsTokens, opening_value, told_tokens}

-- with the value of the opening tree and with these rules
pub begins : (files : FileBytes) (value : Option AnyData) (book : Book) (result : Result Opened HeaderFault) → opening_value files.data_bytes ≡ Ok value → States files.rules book → BeginsBy book value (told_tokens files.tokens) result → Begins files result
begins files value book (Ok opened) is states by = (value, book, is, states, by)
begins files value book (Err (Line fault)) is states by = inl by
begins files value book (Err (Rules fault)) is states by = absurd by
begins files value book (Err (Data fault)) is states by = (value, book, is, states, by)
begins files value book (Err BadTokens) is states by = (value, book, is, states, by)
begins files value book (Err TreeFull) is states by = (value, book, is, states, by)

-- where no tokens came of their file
pub no_tokens : (book : Book) (value : Option AnyData) (told : Option Tokens) (tree : Tree) (read : Result Tokens TokensFault) (fault : TokensFault) → opening_tree value ≡ Ok tree → read ≡ Err fault → TellsTokens told read → BeginsBy book value told (Err (fault_of_tokens fault))
no_tokens book value told tree read NoTokens laid is tells = (tree, laid, subst (TellsTokens told) is tells)
no_tokens book value told tree read NoRoom laid is tells = refl

-- what a reference to a value shows is what the value shows
pub copied : {X : Type 0} (show : X → List ℕ) (reference : Option (Bor X)) (value : Option X) → option_copied reference ≡ value → option_map (λ b. show b.now) reference ≡ option_map show value
copied {X = X} show reference value is = by_case reference ∙ ap (option_map show) is
  where
    by_case : (o : Option (Bor X)) → option_map (λ b. show b.now) o ≡ option_map show (option_copied o)
    by_case None = refl
    by_case (Some b) = refl
