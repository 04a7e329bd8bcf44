use Rattle.std.proofs.Common.{sym, subst, rules}
use Rattle.std.specs.Str.{IsUtf8}
use Rattle.hex_words.specs.Spelling.{Bytes}
use Rattle.hex_words.proofs.Spelling.{hex_is_text}
use Rattle.hex_words.proofs.write_digits.Goals as goal

pub unreachable-requires : goal.unreachable-requires
unreachable-requires g c =
    let bytes : Bytes c.args.bytes.now = search rules in
    c.in_default.ensures.cases.0 (subst IsUtf8 (sym c.digits_of-digits.ensures) (hex_is_text c.args.bytes.now bytes))
