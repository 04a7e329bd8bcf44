use Rattle.std.proofs.Common.{rules, arith}
use Rattle.std.proofs.lemmas.Grind.{put_two}
use Rattle.hex_words.proofs.Spelling.{block_more, blocks_whole}
use Rattle.hex_words.proofs.HexDisplay.fmt.Goals as goal

pub loop-block-preserved : goal.loop-block-preserved
loop-block-preserved g c plain =
    let bytes = c.args.self.now.0.now in
    let before = c.loop-block.invariant plain in
    let more = block_more 32 c.loop-block.block-index bytes c.as_chunks.result.0.now c.as_chunks.ensures.front (omega (arith, c.as_chunks.ensures.front_len)) in
    put_two g.W.Write.write_str_gives c.args.f.now c.loop-block.f c.write_digits.new.f _ _ _ before (c.write_digits.ensures before.plain (search rules)) more

pub returns-clause-writes : goal.returns-clause-writes
returns-clause-writes g c plain ok =
    let bytes = c.args.self.now.0.now in
    let before = c.loop-block.invariant plain in
    let whole = blocks_whole 32 c.loop-block.block-index bytes c.as_chunks.result.1.now (omega (arith, c.as_chunks.ensures.front_len)) c.as_chunks.ensures.back (search rules) in
    put_two g.W.Write.write_str_gives c.args.f.now c.loop-block.f c.write_digits-2.new.f _ _ _ before (c.write_digits-2.ensures before.plain ok) whole
