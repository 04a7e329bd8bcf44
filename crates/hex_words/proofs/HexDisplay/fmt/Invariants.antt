use Rattle.std.proofs.Common.{◌*◌, take}
use Rattle.std.specs.Fmt.{HasWritten, IsPlainFormatter}
use Rattle.hex_words.specs.Spelling.{hex}
use Rattle.hex_words.proofs.HexDisplay.fmt.Given as goal

-- the digits of the blocks so far
abbrev pub invariant-loop-block : goal.invariant-loop-block
invariant-loop-block g l =
    IsPlainFormatter l.initial.f → HasWritten g.W.Write.write_str_gives l.initial.f (hex (take (32 * l.block-index) l.self.0.now)) l.f
