use Rattle.path_capture.proofs.Segments.{Keyed-more}
use Rattle.path_capture.proofs.path.keys_below.Goals as goal

pub loop-rest-preserved : goal.loop-rest-preserved
loop-rest-preserved c =
    let f = c.key_front.ensures in
    record {
      keyed = Keyed-more c.args.front.now c.args.text.now c.loop-rest.keys.items c.keep_piece.new.keys.items c.loop-rest.rest.now c.key_front.result.0.now c.key_front.result.1.now c.past_slash-rest.result.now c.loop-rest.invariant.keyed f.whole f.bytes c.past_slash-rest.ensures c.in_ok-keep_piece.ensures.keys c.in_ok-keep_piece.ensures.path;
      utf8 = c.past_slash-rest.utf8;
    }
