-- What a journal's file looks like.
use Rattle.std.specs.Prelude.{ℕ, zero, suc, ◌+◌, ◌/◌, ◌%◌, ◌^◌, ◌<◌, ◌≤◌, List, [], ◌∷◌, ◌++◌, length, codes}
use Rattle.std.specs.List.{flat_map}
use Rattle.hex.specs.Hex.{encode_lower}
use Rattle.sha2.specs.Sha512.{sha512_256}
use Rattle.journal.specs.declared.limits.TheConstants.{MAX_GROUP_BYTES}

-- a number in so many decimal digits
unfoldable pub digits : ℕ → ℕ → List ℕ
digits zero number = []
digits (suc width) number = digits width (number / 10) ++ (48 + number % 10) ∷ []

-- an entry: its length, and its text on a line
unfoldable pub entry_text : List ℕ → List ℕ
entry_text entry = digits 8 (length entry) ++ 32 ∷ entry ++ 10 ∷ []

-- entries, one behind the other
abbrev pub entries_text : List (List ℕ) → List ℕ
entries_text entries = flat_map entry_text entries

-- a group: how much of the file was on the disk for sure when it was written, and the text of its entries
pub record Group : Type 0 where
  pub durable : ℕ
  pub text : List ℕ

-- what ties a group to its file and to the group before it: the identifier of the file, the group's number, the sum before, and how many bytes stand before it
pub record Link : Type 0 where
  pub identifier : List ℕ
  pub number : ℕ
  pub before : List ℕ
  pub place : ℕ

-- the front of a group's header: identifier, number, length, what was durable, and the sum before, with a space behind each
unfoldable pub header : Link → ℕ → ℕ → List ℕ
header link len durable = link.identifier ++ (32 ∷ digits 12 link.number ++ (32 ∷ digits 8 len ++ (32 ∷ digits 15 durable ++ (32 ∷ link.before ++ 32 ∷ []))))

-- a group's sum covers the front of its header, and so the sum before, and its text
unfoldable pub sum_of : Link → Group → List ℕ
sum_of link group = encode_lower (sha512_256 (header link (length group.text) group.durable ++ group.text))

-- a group in the file: its header with its sum, a line, and its text
unfoldable pub group_text : Link → Group → List ℕ
group_text link group = header link (length group.text) group.durable ++ (sum_of link group ++ 10 ∷ group.text)

-- what ties the group behind this one
abbrev pub next : Link → Group → Link
next link group = record { identifier = link.identifier; number = link.number + 1; before = sum_of link group; place = link.place + length (group_text link group) }

-- groups, each tied to the one before it
abbrev pub groups_text : Link → List Group → List ℕ
groups_text link [] = []
groups_text link (group ∷ groups) = group_text link group ++ groups_text (next link group) groups

-- what ties the group behind these
abbrev pub end_of : Link → List Group → Link
end_of link [] = link
end_of link (group ∷ groups) = end_of (next link group) groups

-- the front of a file's first line
unfoldable pub title : List ℕ → List ℕ
title identifier = codes "rtdb journal 1 " ++ (identifier ++ 32 ∷ [])

-- its sum
unfoldable pub title_sum : List ℕ → List ℕ
title_sum identifier = encode_lower (sha512_256 (title identifier))

-- the first line of a file
abbrev pub first_line : List ℕ → List ℕ
first_line identifier = title identifier ++ (title_sum identifier ++ 10 ∷ [])

-- the first group has number 1, the sum of the first line before it, and that line's 97 bytes
abbrev pub opening : List ℕ → Link
opening identifier = record { identifier = identifier; number = 1; before = title_sum identifier; place = 97 }

-- a whole file
abbrev pub file_of : List ℕ → List Group → List ℕ
file_of identifier groups = first_line identifier ++ groups_text (opening identifier) groups

-- The header has room for the numbers of a group, which does not say that more was durable than stands before it.
pub record Fits (link : Link) (group : Group) : Type 0 where
  pub number : link.number < 10 ^ 12
  pub place : link.place < 10 ^ 15
  pub text : length group.text ≤ MAX_GROUP_BYTES
  pub durable : group.durable ≤ link.place

-- so it is for each of these
abbrev pub AllFit : Link → List Group → Type 0
AllFit link [] = Unit {0}
AllFit link (group ∷ groups) = Fits link group × AllFit (next link group) groups
