use Rattle.std.proofs.Common.{◌-◌, length}
use Rattle.reading.proofs.cursor.Cursor.+inner_term.Given as goal

abbrev pub decreases-inner_term : goal.decreases-inner_term
decreases-inner_term l = length l.self.now.bytes.now - l.self.now.at
