-- A kept box for the table builder (01, "Runs"): the box of a record of the list. Its middles and half widths are `boxes`' `placed`. Definitions only.
use Rattle.boxes.specs.declared.half.Box.{Box}
use Rattle.waiting.specs.declared.cursor.Kept.{Kept}

abbrev pub box_of : Kept → Box
box_of k = k.at
