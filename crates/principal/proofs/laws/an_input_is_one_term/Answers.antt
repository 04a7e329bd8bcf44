use Rattle.principal.proofs.Inputs.{one_term, input_faults}
use Rattle.principal.proofs.laws.an_input_is_one_term.Goals as goal

pub returns : goal.returns
returns c = record { terms = one_term; faults = input_faults }
