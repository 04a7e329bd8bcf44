use Rattle.writer.proofs.RoundTrip.{written_messages_read_back, read_messages_write_back}
use Rattle.writer.proofs.laws.messages_round_trip.Goals as goal

pub returns : goal.returns
returns c = record { written = written_messages_read_back; read = read_messages_write_back }
