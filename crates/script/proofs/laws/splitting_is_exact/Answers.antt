use Rattle.script.proofs.Splitting.{parts_make_the_line, only_the_parts_do}
use Rattle.script.proofs.laws.splitting_is_exact.Goals as goal

pub returns : goal.returns
returns c = record { makes = parts_make_the_line; only = only_the_parts_do }
