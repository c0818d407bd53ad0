-- What a server's files open is served, or there is a reason why not.
use Rattle.std.proofs.Common.{◌≡◌, ◌⊎◌, subst, inl, inr, ℕ, Bool, true, List, [], Option, Ok, Err}
use Rattle.std.specs.Io.KnownBytes.{Appends}
use Rattle.scripts.specs.declared.header.HeaderFault.{HeaderFault}
use Rattle.scripts.specs.declared.header.Opened.{Opened}
use Rattle.scripts.proofs.Sending.{Appends-refl}
use Rattle.command_line.specs.Order.{Served}
use Rattle.locked_server.specs.Known.{Known}
use Rattle.rtdb_model.specs.State.{State}
use Rattle.server.specs.Served.{HasServed as HasEnded, IsCutShort}
use Rattle.rtdb.specs.Command.{AreRead, HasServed, IsServed, IsUnread, shifts_of}
use Rattle.rtdb.specs.Opening.{Begins, FileBytes}
use Rattle.rtdb.specs.Status.{failed, no_memory}
use Rattle.rtdb.specs.Working.{IsServedOr, IsTold}

-- the port that is printed is that which was asked for
pub was_served : (options : Served) (opened : Opened) (port : ℕ) (seat : Known) (left : State) (before after : Option (List ℕ)) → seat.opening ≡ opened.core → seat.seen ≡ [] → port ≡ options.port
    → HasEnded opened.tokens (shifts_of options) port seat left before after → IsServed options opened before after
was_served options opened port seat left before after opens nothing is ended = (seat, left, opens, nothing, subst (λ (p : ℕ). HasEnded opened.tokens (shifts_of options) p seat left before after) is ended)

pub was_cut : (asked port : ℕ) (before after : Option (List ℕ)) → port ≡ asked → IsCutShort port before after → IsCutShort asked before after
was_cut asked port before after is short = subst (λ (p : ℕ). IsCutShort p before after) is short

-- the files opened a database
pub has_served : (known : List ℕ → Option (List ℕ)) (options : Served) (files : FileBytes) (opened : Opened) (before after : Option (List ℕ)) (has_failed : Bool) (status : ℕ) → AreRead known options files → Begins files (Ok opened)
    → IsServedOr opened options before after has_failed status → HasServed known options before after has_failed status
has_served known options files opened before after has_failed status read begins (inl served) = inr (inl (served.0, (opened, (files, read, begins), served.1)))
has_served known options files opened before after has_failed status read begins (inr (inl (is, inl nothing))) = inr (inr (inl (is, inl (nothing, inr (opened, (files, read, begins))))))
has_served known options files opened before after has_failed status read begins (inr (inl (is, inr broken))) = inr (inr (inl (is, inr broken)))
has_served known options files opened before after has_failed status read begins (inr (inr wanting)) = inr (inr (inr wanting))

-- the files have a fault
pub has_refused : (known : List ℕ → Option (List ℕ)) (options : Served) (files : FileBytes) (fault : HeaderFault) (before after : Option (List ℕ)) (has_failed : Bool) (status : ℕ) → AreRead known options files → Begins files (Err fault)
    → IsTold fault before after has_failed status → HasServed known options before after has_failed status
has_refused known options files fault before after has_failed status read begins (inl told) = inl (told.0, (files, fault, read, begins, told.1))
has_refused known options files fault before after has_failed status read begins (inr (inl broken)) = inr (inr (inl (broken.0, inr broken.1)))
has_refused known options files fault before after has_failed status read begins (inr (inr wanting)) = inr (inr (inr (wanting.0, inl wanting.1)))

-- the files were not read
pub has_not_read : (known : List ℕ → Option (List ℕ)) (options : Served) (before : Option (List ℕ)) (has_failed : Bool) (status : ℕ) → ((status ≡ failed) × IsUnread known options) ⊎ (status ≡ no_memory)
    → HasServed known options before before has_failed status
has_not_read known options before has_failed status (inl unread) = inr (inr (inl (unread.0, inl (Appends-refl before, inl unread.1))))
has_not_read known options before has_failed status (inr wanting) = inr (inr (inr (wanting, inl (Appends-refl before))))
