use Rattle.std.proofs.Common.{length}
use Rattle.principal.proofs.term.Term.+has_voice.Given as goal

abbrev pub decreases-has_voice : goal.decreases-has_voice
decreases-has_voice l = length l.self.bytes.now
