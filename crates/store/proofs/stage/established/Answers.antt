use Rattle.std.proofs.Common.{ap, string_bytes}
use Rattle.store.specs.Replay.{opened}
use Rattle.store.specs.Working.{stage_of}
use Rattle.store.proofs.stage.established.Goals as goal

pub returns : goal.returns
returns c = record {
  text = string_bytes c.in-Opened.rules;
  state = c.in-Opened.core;
  is_before = ap stage_of c.in-Opened.is;
  may = c.in_ok-establish.ensures.may;
  is_after = ap (opened (string_bytes c.in-Opened.rules)) c.in_ok-establish.ensures.established;
}
