-- Types of numbers.
use Rattle.std.specs.Prelude.{◌≡◌, ℕ, ◌-◌, ◌^◌, ◌<◌, ◌≤◌, Ok, Err, Result, MatchResult, pos, unsigned_abs}
use Rattle.std.specs.Result.{OkIff}
use Rattle.std.specs.Int.{FitsUnsignedBits}
use Rattle.std.proofs.Common.{arith}
use Rattle.std.proofs.Math.Nat.{one-le-pow}

-- a number converts to the value that it is, if it is at most the largest
abbrev pub Converts : {N E : Type 0} → ℕ → (N → ℕ) → ℕ → Result N E → Type 0
Converts most value n r = MatchResult r (λ x. (value x ≡ n) × (n ≤ most)) (λ _. most < n)

-- std's conversions to types of so many bits, as a law of a trait must be shown
pub converts : {E : Type 0} (bits n : ℕ) (r : Result ℕ E) → OkIff r (FitsUnsignedBits bits (pos n)) (unsigned_abs (pos n)) → Converts (2 ^ bits - 1) (λ x. x) n r
converts bits n (Ok x) h = (h.1, omega (arith, h.0))
converts bits n (Err e) h = omega (arith, h, one-le-pow bits 2 (omega arith))
