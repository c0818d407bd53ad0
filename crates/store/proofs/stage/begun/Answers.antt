use Rattle.std.proofs.Common.{ap, refl, string_bytes}
use Rattle.store.specs.Working.{stage_of}
use Rattle.store.proofs.Beginning.{at_reading, no_book_there}
use Rattle.store.proofs.stage.begun.Goals as goal

pub returns-in-Ok : goal.returns-in-Ok
returns-in-Ok c =
    at_reading (stage_of c.args.stage) (string_bytes c.in-Reading.rules) (string_bytes c.in-Reading.rules) c.in-Reading.json.items c.as_slice.result.now c.begun_by.result
    (ap stage_of c.in-Reading.is) refl c.as_slice.ensures.value c.begun_by.ensures

pub returns-in-Err : goal.returns-in-Err
returns-in-Err c =
    no_book_there (stage_of c.args.stage) (string_bytes c.in-Reading.rules) c.as_str.result.now c.in-Reading.json.items c.in-Err.fault (ap stage_of c.in-Reading.is) c.as_str.ensures.value c.in-Err.ensures
