use Rattle.std.proofs.Common.{◌≡◌, ◌*◌, take, vec_items}
use Rattle.hex_words.specs.Spelling.{hex, Bytes}
use Rattle.hex_words.proofs.from_digits.Given as goal

-- the bytes of the pairs so far
abbrev pub invariant-loop-high : goal.invariant-loop-high
invariant-loop-high l = (hex (vec_items l.bytes) ≡ take (2 * l.high-index) l.word) × Bytes (vec_items l.bytes)
