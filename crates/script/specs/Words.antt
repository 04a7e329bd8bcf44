-- The words that are left of a line.
use Rattle.std.specs.Prelude.{ℕ, List, [], Some, None, Option}
use Rattle.std.specs.Borrow.{Bor}
use Rattle.script.specs.declared.words.Words.{Words}
use Rattle.script.specs.Split.{split}

abbrev pub parts_of : Option (Bor (List ℕ)) → List (List ℕ)
parts_of None = []
parts_of (Some cs) = split cs.now

abbrev pub left : Words → List (List ℕ)
left w = parts_of w.rest
