use Rattle.std.proofs.Common.{refl}
use Rattle.commands.specs.Calls.{term, message, show, write}
use Rattle.commands.specs.Asked.{message_kind}
use Rattle.commands.proofs.Giving.{passes}
use Rattle.commands.proofs.Named.{call_begins, call_ends, of_kind, has_write, write_given, no_message, no_room}
use Rattle.commands.proofs.arguments.Arguments.named.Goals as goal

pub returns-in_err-bytes-in-Term : goal.returns-in_err-bytes-in-Term
returns-in_err-bytes-in-Term c =
    passes _ _ _ _ c.from_residual-in_err-bytes-in-Term.ensures.1
    (λ bad. call_ends _ _ _ _ _ c.in-Term.is c.in_ok-try_from.ensures c.in_ok-word.ensures (λ k has. of_kind term k _ has (c.in_err-bytes-in-Term.ensures bad)))

pub returns-in_ok-bytes-in-Term : goal.returns-in_ok-bytes-in-Term
returns-in_ok-bytes-in-Term c = call_begins _ _ term _ _ _ _ _ c.in-Term.is c.in_ok-try_from.ensures c.in_ok-word.ensures refl (_, c.in_ok-bytes-in-Term.ensures, refl)

pub returns-in_err-bytes-in-Message : goal.returns-in_err-bytes-in-Message
returns-in_err-bytes-in-Message c =
    passes _ _ _ _ c.from_residual-in_err-bytes-in-Message.ensures.1
    (λ bad. call_ends _ _ _ _ _ c.in-Message.is c.in_ok-try_from.ensures c.in_ok-word.ensures (λ k has. of_kind message k _ has (c.in_err-bytes-in-Message.ensures bad)))

pub returns-in_ok-bytes-in-Message : goal.returns-in_ok-bytes-in-Message
returns-in_ok-bytes-in-Message c = call_begins _ _ message _ _ _ _ _ c.in-Message.is c.in_ok-try_from.ensures c.in_ok-word.ensures refl (_, c.in_ok-bytes-in-Message.ensures, refl)

pub returns-in_err-bytes-in-Show : goal.returns-in_err-bytes-in-Show
returns-in_err-bytes-in-Show c =
    passes _ _ _ _ c.from_residual-in_err-bytes-in-Show.ensures.1
    (λ bad. call_ends _ _ _ _ _ c.in-Show.is c.in_ok-try_from.ensures c.in_ok-word.ensures (λ k has. of_kind show k _ has (c.in_err-bytes-in-Show.ensures bad)))

pub returns-in_ok-bytes-in-Show : goal.returns-in_ok-bytes-in-Show
returns-in_ok-bytes-in-Show c = call_begins _ _ show _ _ _ _ _ c.in-Show.is c.in_ok-try_from.ensures c.in_ok-word.ensures refl (_, c.in_ok-bytes-in-Show.ensures, refl)

pub returns-in_err-message-in-Write : goal.returns-in_err-message-in-Write
returns-in_err-message-in-Write c =
    passes _ _ _ _ c.from_residual-in_err-message-in-Write.ensures.1
    (λ bad. call_ends _ _ _ _ _ c.in-Write.is c.in_ok-try_from.ensures c.in_ok-word.ensures (λ k has. of_kind (write has.0) k _ has.1 (no_message _ (c.in_err-message-in-Write.ensures bad) has.0)))

pub returns-in_err-room-in-Write : goal.returns-in_err-room-in-Write
returns-in_err-room-in-Write c =
    passes _ _ _ _ c.from_residual-in_err-room-in-Write.ensures.1
    (λ bad. call_ends _ _ _ _ _ c.in-Write.is c.in_ok-try_from.ensures c.in_ok-word.ensures (λ k has. of_kind (write has.0) k _ has.1 (no_room _ _ _ _ c.in_ok-message-in-Write.ensures (c.in_err-room-in-Write.ensures bad) has.0)))

pub returns-in_ok-room-in-Write : goal.returns-in_ok-room-in-Write
returns-in_ok-room-in-Write c =
    call_begins _ _ (write (message_kind c.in_ok-message-in-Write.field-0)) _ _ _ _ _ c.in-Write.is c.in_ok-try_from.ensures c.in_ok-word.ensures (has_write _)
    (write_given c.in_ok-message-in-Write.field-0 _ _ _ _ c.in_ok-message-in-Write.ensures c.in_ok-room-in-Write.ensures)
