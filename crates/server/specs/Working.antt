-- Words of private contracts. No public clause names one.
use Rattle.std.specs.Prelude.{ℕ, ◌≤◌, List, All, length}
use Rattle.tokens.specs.Tokens.{Tokens}
use Rattle.locked_server.specs.Known.{Known}
use Rattle.sessions.specs.Calls.{Answered, Gains}
use Rattle.server.specs.Served.{AreOfVisit, joined}

-- the seat has made the calls of one visit
abbrev pub HasVisit : Tokens → ℕ → Known → Known → Type 0
HasVisit tokens session k l = (asked : List Answered) × AreOfVisit tokens session asked × Gains k asked l

-- the seat has made the calls of at most so many visits, one after another
abbrev pub HasVisits : Tokens → ℕ → ℕ → Known → Known → Type 0
HasVisits tokens session rounds k l = (visits : List (List Answered)) × All (AreOfVisit tokens session) visits × (length visits ≤ rounds) × Gains k (joined visits) l
