-- The objects that identities and sessions are written as.
use Rattle.std.specs.Prelude.{ℕ, List, Bool, codes}
use Rattle.serde_json.specs.Data.{Data, boolean, string, object, no_members, member}

-- an identity with these texts and these claims
abbrev pub identity_data : List ℕ → List ℕ → Bool → Data → Data
identity_data uid provider admin claims = object (member (codes "admin") (boolean admin) (member (codes "claims") claims (member (codes "provider") (string provider) (member (codes "uid") (string uid) no_members))))

-- a session that is leaving or not, and who is signed in on it
abbrev pub session_data : Bool → Data → Data
session_data leaving who = object (member (codes "leaving") (boolean leaving) (member (codes "who") who no_members))
