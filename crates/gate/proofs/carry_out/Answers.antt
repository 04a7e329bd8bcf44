use Rattle.std.proofs.Common.{rules, inr}
use Rattle.gate.proofs.carry_out.Goals as goal

pub returns-in_ok-to_string-in-Err-BadLine : goal.returns-in_ok-to_string-in-Err-BadLine
returns-in_ok-to_string-in-Err-BadLine c = (c.in-Err-BadLine.ensures.0, inr (c.in-Err-BadLine.ensures.1 (search rules), search rules))
