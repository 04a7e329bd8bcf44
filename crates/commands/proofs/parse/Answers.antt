use Rattle.std.proofs.Common.{sym}
use Rattle.commands.proofs.Giving.{refuses}
use Rattle.commands.proofs.parse.Goals as goal

pub returns-in_err-call : goal.returns-in_err-call
returns-in_err-call c = refuses c.args.line.now _ _ _ c.from_residual.ensures.1 (sym c.if-asks_nothing.ensures) c.new.ensures c.in_err-call.ensures
