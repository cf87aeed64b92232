-- The two halves of what is cut, lower and upper (01, "A box gives its lower half and its upper half"): one name for what boxes, lines, numbers and searches say of both.
pub data Half : Type 0 where
  lower upper : Half
