use Rattle.std.proofs.Common.{refl}
use Rattle.reading.proofs.Cursors.{number_passed}
use Rattle.reading.proofs.cursor.Cursor.inner_number.Goals as goal

pub returns-clause-reads : goal.returns-clause-reads
returns-clause-reads c = record { same = refl; reads = number_passed _ c.args.self.now.at c.args.self.now.bytes.now c.in_ok-item.ensures.0 }
