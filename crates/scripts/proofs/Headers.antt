-- What a header is, from what its parts say.
use Rattle.std.proofs.Common.{◌≡◌, ℕ, List, Option, Some, Ok, Err, Result, refl, inl, ap, sym, subst, ◌∙◌}
use Rattle.serde_json.specs.Data.{Data}
use Rattle.tree_model.specs.Tree.{Tree}
use Rattle.rules_reader.specs.declared.fault.RulesFault.{RulesFault}
use Rattle.rules_reader.specs.Book.{Book}
use Rattle.rules_reader.specs.File.{States}
use Rattle.rules_reader.specs.Place.{HasOneCapture}
use Rattle.rules_reader.specs.Refusal.{Refuses}
use Rattle.tokens.specs.Tokens.{Tokens}
use Rattle.tokens.specs.declared.fault.TokensFault.{TokensFault}
use Rattle.tokens.specs.declared.fault.TokensFault.TheVariants.{BadTokens, NoMemory}
use Rattle.json_lines.specs.Lines.{value_of, or_fault, unless_fault}
use Rattle.scripts.specs.declared.header.Opened.{Opened}
use Rattle.scripts.specs.Header.{Header, header_of, header_in, opening_tree, HasRules, Opens}
use Rattle.scripts.specs.Working.Opening.{OpensBy, TellsTokens, fault_of_tokens}
use Rattle.scripts.specs.declared.header.HeaderFault.{HeaderFault}
use Rattle.scripts.specs.declared.header.HeaderFault.TheVariants as faults
use Rattle.json_lines.specs.declared.fault.MessageFault.TheVariants.{BadRequest}

-- what the header of a line has
pub header_is : (line : List ℕ) (d : Data) (header : Header) → value_of line ≡ Ok d → Some header ≡ header_of d → header_in line ≡ Ok header
unfolding header_in
header_is line d header v h = ap (λ r. unless_fault r (λ e. or_fault BadRequest (header_of e))) v ∙ ap (or_fault BadRequest) (sym h)

-- and its rules
pub rules_are : (line : List ℕ) (header : Header) (bytes : List ℕ) (book : Book) → header_in line ≡ Ok header → bytes ≡ header.rules → States bytes book → HasOneCapture book → HasRules line header book
rules_are line header bytes book is same states one = record { is = is; states = subst (λ (t : List ℕ). States t book) same states; one = one }

pub rules_refused : (header : Header) (bytes : List ℕ) (fault : RulesFault) → bytes ≡ header.rules → Refuses bytes fault → Refuses header.rules fault
rules_refused header bytes fault same r = subst (λ (t : List ℕ). Refuses t fault) same r

pub opens : (line : List ℕ) (header : Header) (book : Book) (opened : Result Opened HeaderFault) → HasRules line header book → OpensBy book header.opening header.tokens opened → Opens line opened
opens line header book (Ok opened) has o = (header, book, o.0, has, o.1, o.2, o.3, o.4)
opens line header book (Err (faults.Data fault)) has o = (header, book, has, o)
opens line header book (Err faults.BadTokens) has o = (header, book, o.0, has, o.1, o.2)
opens line header book (Err faults.TreeFull) has o = (header, book, o.0, o.1, has, o.2, o.3, o.4)
opens line header book (Err (faults.Line fault)) has o = inl o
opens line header book (Err (faults.Rules fault)) has o = absurd o

pub refuses : (line : List ℕ) (header : Header) (fault : RulesFault) (bytes : List ℕ) → header_in line ≡ Ok header → bytes ≡ header.rules → Refuses bytes fault → Opens line (Err (faults.Rules fault))
refuses line header fault bytes is same r = (header, is, rules_refused header bytes fault same r)

-- where no tokens came of the member `tokens`
pub no_tokens : (book : Book) (value named : Option Data) (tree : Tree) (told : Result Tokens TokensFault) (fault : TokensFault) → opening_tree value ≡ Ok tree → told ≡ Err fault → TellsTokens named told → OpensBy book value named (Err (fault_of_tokens fault))
no_tokens book value named tree told BadTokens laid is tells = (tree, laid, subst (TellsTokens named) is tells)
no_tokens book value named tree told NoMemory laid is tells = refl
