use Rattle.abc_fields.specs.Letters.{front_of}
use Rattle.abc_repeat.specs.Section.{section_of}
use Rattle.abc_repeat.specs.OrderSize.{IsSizeOf}
use Rattle.abc_repeat.proofs.order_size.order_size.Given as goal

-- the count of the sections that the front plays
abbrev pub invariant-loop-byte : goal.invariant-loop-byte
invariant-loop-byte l = IsSizeOf (section_of l.sections) (front_of l.order l.byte-index) l.size
