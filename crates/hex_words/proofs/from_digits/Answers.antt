use Rattle.std.proofs.Common.{arith}
use Rattle.hex_words.proofs.Spelling.{twice, no_byte}
use Rattle.hex_words.proofs.from_digits.Goals as goal

pub returns-in_default : goal.returns-in_default
returns-in_default c bs s = omega (arith, twice c.args.word.now bs c.requires.no_dash s)

pub returns-in_default-byte_of : goal.returns-in_default-byte_of
returns-in_default-byte_of c = no_byte c.args.word.now c.as_chunks.result.0.now c.loop-high.high-index c.requires.no_dash c.as_chunks.ensures.front (omega arith) c.in_default-byte_of.ensures
