-- The numbers of a board's refusals.
use Rattle.job.specs.declared.refusal.Refusal.{Refusal}
use Rattle.job.specs.Refusals.{line_refusal}
use Rattle.board.specs.declared.fault.BoardFault.{BoardFault}
use Rattle.board.specs.declared.fault.BoardFault.TheVariants.{WrongLength, NotOnBoard, InvalidShift}

abbrev pub board_refusal : BoardFault → Refusal
board_refusal WrongLength = line_refusal 13 0
board_refusal NotOnBoard = line_refusal 14 0
board_refusal InvalidShift = line_refusal 15 0
