use Rattle.std.proofs.Common.{◌≡◌, ◌≤◌, drop}
use Rattle.script.specs.Decimals.{digits_within}
use Rattle.script.proofs.Decimals.{within_after}
use Rattle.script.proofs.numbers.value_within.Given as goal

-- the number so far and the digits that are left spell what all digits do
abbrev pub invariant-loop-digit : goal.invariant-loop-digit
invariant-loop-digit l = (l.n ≤ l.max) × (within_after l.max l.n (drop l.digit-index l.digits) ≡ digits_within l.digits l.max)
