use Rattle.lines.specs.Runs.{reads_rest}
use Rattle.listing.proofs.feed.Goals as goal

pub loop-rest-preserved : goal.loop-rest-preserved
loop-rest-preserved c =
    let piece = c.piece-p.ensures in
    record {
      reading = piece.read_nonzero.2;
      reads = (λ after w. c.loop-rest.invariant.reads after (reads_rest c.loop-rest.rest.now _ piece.read_nonzero.1 piece.reads w));
    }
