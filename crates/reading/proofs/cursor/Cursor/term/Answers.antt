use Rattle.std.proofs.Common.{arith}
use Rattle.reading.proofs.Terms.{stands}
use Rattle.reading.proofs.cursor.Cursor.term.Goals as goal

pub returns : goal.returns
returns c =
    let s = c.args.self.now in
    let e = c.in_ok-inner_term.ensures in
    let m = c.inner_term.new.self in
    record {
      same = e.reads.same;
      reads = stands s.bytes.now m.bytes.now _ s.at m.at e.reads.reads.0 c.between.ensures.fits e.reads.same m.within (omega (arith, e.on)) e.reads.reads.1 c.between.ensures.value;
    }
