use Rattle.std.proofs.Common.{◌≡◌, ◌+◌, length, drop}
use Rattle.writer.specs.Writing.{joined}
use Rattle.writer.proofs.room_after.Given as goal

-- what is left has room for the parts to come as the room has for all
abbrev pub invariant-loop-part : goal.invariant-loop-part
invariant-loop-part l = l.left + length (joined l.parts) ≡ l.initial.left + length (joined (drop l.part-index l.parts))
