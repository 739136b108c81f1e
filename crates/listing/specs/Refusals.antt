-- The numbers by which a checked sheet is refused.
use Rattle.std.specs.Prelude.{Some, None, Option}
use Rattle.job.specs.declared.refusal.Refusal.{Refusal}
use Rattle.job.specs.Refusals.{line_refusal}
use Rattle.spelling.specs.Faults.{sheet_refusal}
use Rattle.listing.specs.declared.fault.CheckFault.{CheckFault}
use Rattle.listing.specs.declared.fault.CheckFault.TheVariants.{TooLong, Sheet, NoMemory}

abbrev pub check_refusal : CheckFault → Option Refusal
check_refusal TooLong = Some (line_refusal 13 0)
check_refusal (Sheet e) = Some (sheet_refusal e)
check_refusal NoMemory = None
