-- Terms that were read, and the principals that they stand for.
use Rattle.std.specs.Prelude.{◌≡◌, ℕ, List, length, Ok, Err, Result, MatchResult}
use Rattle.reading.specs.declared.cursor.Cursor.{Cursor}
use Rattle.reading.specs.declared.cursor.Row.{Row}
use Rattle.reading.specs.declared.refusal.ReadFault.{ReadFault}
use Rattle.reading.specs.Principal.{Principal}
use Rattle.reading.specs.Reading.{Outcome, alone, read_term}
use Rattle.reading.specs.Refusals.{answered}
use Rattle.reading.specs.Terms.{principal}
use Rattle.reading.specs.Cursors.{Reads}
use Rattle.principal.specs.declared.term.Term.{Term}

-- the principal that a term stands for
abbrev pub means : Term → Principal
means t = principal t.bytes.now

-- the answer is a term that stands for what was read, and the cursor went past it
abbrev pub ReadsTerm : (List ℕ → Outcome Principal) → Cursor → Result Term Row → Cursor → Type 0
ReadsTerm read before r after = Reads means read before r after

-- an input, by its number, that is one term
abbrev pub read_input : ℕ → List ℕ → Result Principal ReadFault
read_input input bs = answered input (length bs) (alone (read_term bs))

-- the answer is a term that stands for what was expected, or the fault that was
abbrev pub Answers : Result Principal ReadFault → Result Term ReadFault → Type 0
Answers expected r = MatchResult r (λ t. expected ≡ Ok (means t)) (λ fault. expected ≡ Err fault)
