use Rattle.std.proofs.Common.{◌∙◌}
use Rattle.reading.proofs.Terms.{one_outcome, never_both}
use Rattle.principal.proofs.Shapes.{apart, parts_inside}
use Rattle.principal.proofs.term.Term.shape.Goals as goal

pub unreachable-requires : goal.unreachable-requires
unreachable-requires c =
    let sound = c.args.self.sound in
    never_both _ _ _ _ _ (apart _ _ sound.readable (c.new-cursor.ensures.left ∙ sound.bytes)) c.in_default.ensures.reads

pub returns : goal.returns
returns c =
    let sound = c.args.self.sound in
    let is = one_outcome _ _ _ _ _ c.in-Ok.ensures.reads (apart _ _ sound.readable (c.new-cursor.ensures.left ∙ sound.bytes)) in
    record { is = is.0; inside = parts_inside c.args.self c.in-Ok.shape is.0 }
