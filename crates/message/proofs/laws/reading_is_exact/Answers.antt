use Rattle.message.proofs.Rows.{messages_are_read, message_rows_are_exact}
use Rattle.message.proofs.laws.reading_is_exact.Goals as goal

pub returns : goal.returns
returns c = record { messages = messages_are_read; rows = message_rows_are_exact }
