use Rattle.std.proofs.Common.{◌≡◌, ◌*◌, length, take}
use Rattle.hex_words.specs.Spelling.{hex}
use Rattle.hex_words.proofs.digits_of.Given as goal

-- the digits of the bytes so far
abbrev pub invariant-loop-i : goal.invariant-loop-i
invariant-loop-i l = (length l.digits ≡ 64) × (take (2 * l.i) l.digits ≡ hex (take l.i l.bytes))
