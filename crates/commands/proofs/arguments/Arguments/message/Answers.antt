use Rattle.std.proofs.Common.{refl}
use Rattle.commands.proofs.Giving.{passes}
use Rattle.commands.proofs.Named.{message_begins, message_ends}
use Rattle.commands.proofs.arguments.Arguments.message.Goals as goal

pub returns-in_err-statement-in-Statement : goal.returns-in_err-statement-in-Statement
returns-in_err-statement-in-Statement c =
    passes _ _ _ _ c.from_residual-in_err-statement-in-Statement.ensures.1 (λ bad. message_ends _ _ _ _ _ c.in-Statement.is c.in_ok-message_named.ensures c.in_ok-word.ensures (c.in_err-statement-in-Statement.ensures bad))

pub returns-in_ok-statement-in-Statement : goal.returns-in_ok-statement-in-Statement
returns-in_ok-statement-in-Statement c = message_begins _ _ _ _ _ _ _ c.in-Statement.is c.in_ok-message_named.ensures c.in_ok-word.ensures c.in_ok-statement-in-Statement.ensures

pub returns-in_err-number-in-Strike : goal.returns-in_err-number-in-Strike
returns-in_err-number-in-Strike c =
    passes _ _ _ _ c.from_residual-in_err-number-in-Strike.ensures.1 (λ bad. message_ends _ _ _ _ _ c.in-Strike.is c.in_ok-message_named.ensures c.in_ok-word.ensures (c.in_err-number-in-Strike.ensures bad))

pub returns-in_ok-number-in-Strike : goal.returns-in_ok-number-in-Strike
returns-in_ok-number-in-Strike c = message_begins _ _ _ _ _ _ _ c.in-Strike.is c.in_ok-message_named.ensures c.in_ok-word.ensures (_, c.in_ok-number-in-Strike.ensures, refl)

pub returns-in_err-request-in-Request : goal.returns-in_err-request-in-Request
returns-in_err-request-in-Request c =
    passes _ _ _ _ c.from_residual-in_err-request-in-Request.ensures.1 (λ bad. message_ends _ _ _ _ _ c.in-Request.is c.in_ok-message_named.ensures c.in_ok-word.ensures (c.in_err-request-in-Request.ensures bad))

pub returns-in_ok-request-in-Request : goal.returns-in_ok-request-in-Request
returns-in_ok-request-in-Request c = message_begins _ _ _ _ _ _ _ c.in-Request.is c.in_ok-message_named.ensures c.in_ok-word.ensures c.in_ok-request-in-Request.ensures
