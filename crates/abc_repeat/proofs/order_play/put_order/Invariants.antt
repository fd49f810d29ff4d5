use Rattle.abc_fields.specs.Letters.{front_of}
use Rattle.abc_repeat.specs.Section.{section_of}
use Rattle.abc_repeat.specs.OrderPlay.{IsPlayOf}
use Rattle.abc_repeat.proofs.order_play.put_order.Given as goal

-- the list holds the play of the front
abbrev pub invariant-loop-byte : goal.invariant-loop-byte
invariant-loop-byte l = IsPlayOf (section_of l.sections) (front_of l.order l.byte-index) l.play
