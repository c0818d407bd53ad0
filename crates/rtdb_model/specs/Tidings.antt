-- Tidings: the notices that borrowed parts are.
use Rattle.rtdb_model.specs.declared.news.Notice.{Notice}
use Rattle.rtdb_model.specs.declared.news.What.{What}
use Rattle.rtdb_model.specs.declared.news.What.TheVariants as whats
use Rattle.rtdb_model.specs.declared.tidings.Sight.{Sight}
use Rattle.rtdb_model.specs.declared.tidings.Sight.TheVariants as sights
use Rattle.rtdb_model.specs.declared.tidings.Tiding.{Tiding}

-- what a borrowed one reports
abbrev pub what_of : Sight → What
what_of sights.Gone = whats.Gone
what_of (sights.Now view) = whats.Now view

-- the notice that this tiding is
abbrev pub notice_of : Tiding → Notice
notice_of tiding = record { id = tiding.id.now; what = what_of tiding.what }
