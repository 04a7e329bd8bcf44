use Rattle.reading.proofs.Faults.{terms_are_read, rows_are_exact}
use Rattle.reading.proofs.Terms.{told_apart}
use Rattle.reading.proofs.laws.reading_is_exact.Goals as goal

pub returns : goal.returns
returns c = record { terms = terms_are_read; rows = rows_are_exact; apart = told_apart }
