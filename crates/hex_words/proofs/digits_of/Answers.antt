use Rattle.std.proofs.Common.{◌∙◌, arith}
use Rattle.std.proofs.lemmas.List.{length-set}
use Rattle.hex_words.proofs.Spelling.{two_digits}
use Rattle.hex_words.proofs.digits_of.Goals as goal

pub loop-i-preserved : goal.loop-i-preserved
loop-i-preserved c =
    let before = c.loop-i.invariant in (
      length-set _ _ _ ∙ length-set _ _ _ ∙ before.0,
      two_digits c.loop-i.digits c.args.bytes.now c.loop-i.i _ _ (omega (arith, c.requires, before.0)) (omega arith) before.1 c.digit_of.ensures c.digit_of-in-loop-i.ensures,
    )
