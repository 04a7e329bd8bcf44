use Rattle.std.proofs.Common.{[]}
use Rattle.commands.proofs.Giving.{passes}
use Rattle.commands.proofs.arguments.Arguments.call.Goals as goal

pub returns-in_err-call : goal.returns-in_err-call
returns-in_err-call c = passes _ _ _ _ c.from_residual.ensures.1 (λ bad k vs given. (c.in_err-call.ensures bad k).none vs [] given)
