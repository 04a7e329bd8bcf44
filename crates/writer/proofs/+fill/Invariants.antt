use Rattle.std.proofs.Common.{length}
use Rattle.writer.proofs.+fill.Given as goal

abbrev pub decreases-fill : goal.decreases-fill
decreases-fill l = length l.parts.now
