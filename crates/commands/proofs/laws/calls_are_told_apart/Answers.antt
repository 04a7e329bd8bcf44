use Rattle.commands.proofs.Told.{words_ask_for_one_call}
use Rattle.commands.proofs.laws.calls_are_told_apart.Goals as goal

pub returns : goal.returns
returns c = words_ask_for_one_call
