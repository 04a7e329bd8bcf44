use Rattle.std.proofs.Common.{length}
use Rattle.principal.proofs.term.words.TermDisplay.+fmt.Given as goal

abbrev pub decreases-fmt : goal.decreases-fmt
decreases-fmt g l = length l.self.now.bytes.now
