-- Faults: a wire's in its line, and the numbers of a sheet's.
use Rattle.wiring.specs.declared.fault.WireFault.{WireFault}
use Rattle.wiring.specs.declared.fault.WireFault.TheVariants.{TableFull, ToItself, FifthFromPoint}
use Rattle.job.specs.declared.refusal.Refusal.{Refusal}
use Rattle.job.specs.Refusals.{reason_of, line_refusal}
use Rattle.spelling.specs.declared.fault.LineFault.{LineFault}
use Rattle.spelling.specs.declared.fault.LineFault.TheVariants.{JobNames, WireNames, Unended, FieldCount, AtField, PointTwice, TooManyJobs, TooManyWires, WireToItself, FifthWire}
use Rattle.spelling.specs.declared.fault.SheetFault.{SheetFault}
use Rattle.spelling.specs.declared.fault.SheetFault.TheVariants.{NoBytes, AtLine}

abbrev pub wire_fault : WireFault → LineFault
wire_fault TableFull = TooManyWires
wire_fault ToItself = WireToItself
wire_fault FifthFromPoint = FifthWire

-- number, line, field and reason of each fault of a sheet
abbrev pub sheet_refusal : SheetFault → Refusal
sheet_refusal NoBytes = line_refusal 1 0
sheet_refusal (AtLine n JobNames) = line_refusal 2 n
sheet_refusal (AtLine n WireNames) = line_refusal 2 n
sheet_refusal (AtLine n Unended) = line_refusal 3 n
sheet_refusal (AtLine n (FieldCount wanted)) = line_refusal 3 n
sheet_refusal (AtLine n (AtField k e)) = record { number = 4; line = n; field = k; reason = reason_of e }
sheet_refusal (AtLine n PointTwice) = line_refusal 5 n
sheet_refusal (AtLine n TooManyJobs) = line_refusal 6 n
sheet_refusal (AtLine n TooManyWires) = line_refusal 6 n
sheet_refusal (AtLine n WireToItself) = line_refusal 7 n
sheet_refusal (AtLine n FifthWire) = line_refusal 7 n
