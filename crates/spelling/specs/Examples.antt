-- The definitions at examples, by computing them.
use Rattle.std.specs.Prelude.{◌≡◌, [], ◌∷◌, ◌++◌, Ok, Err, codes, refl}
use Rattle.job.specs.declared.fault.FieldFault.TheVariants.{NoNumber, AboveRange, TooManyPoints}
use Rattle.spelling.specs.declared.fault.SheetFault.TheVariants.{NoBytes, AtLine}
use Rattle.spelling.specs.declared.fault.LineFault.TheVariants.{WireNames, Unended, FieldCount, AtField, PointTwice, WireToItself}
use Rattle.spelling.specs.Sheet.{read}

pub two_jobs_and_two_wires : read (codes "proc arg urg points" ++ 10 ∷ codes "S 30 0 0,1" ++ 10 ∷ codes "T 1 0 0" ++ 10 ∷ 10 ∷ codes "from to delay" ++ 10 ∷ codes "0 1 30" ++ 10 ∷ codes "1 2 20" ++ 10 ∷ [])
    ≡ Ok (record { jobs = record { letter = 83; argument = 30; urgency = 0; points = 0 ∷ 1 ∷ [] } ∷ record { letter = 84; argument = 1; urgency = 0; points = 0 ∷ [] } ∷ []; wires = record { from = 0; to = 1; delay = 30 } ∷ record { from = 1; to = 2; delay = 20 } ∷ [] })
two_jobs_and_two_wires = refl

pub names_in_another_order : read (codes "points urg proc arg" ++ 10 ∷ codes "- 9 T 4294967295" ++ 10 ∷ []) ≡ Ok (record { jobs = record { letter = 84; argument = 4294967295; urgency = 9; points = [] } ∷ []; wires = [] })
names_in_another_order = refl

pub no_bytes : read [] ≡ Err NoBytes
no_bytes = refl

pub leading_zero : read (codes "proc arg urg points" ++ 10 ∷ codes "T 01 0 0" ++ 10 ∷ []) ≡ Err (AtLine 2 (AtField 2 NoNumber))
leading_zero = refl

pub above_its_range : read (codes "proc arg urg points" ++ 10 ∷ codes "T 4294967296 0 0" ++ 10 ∷ []) ≡ Err (AtLine 2 (AtField 2 (AboveRange 4294967295)))
above_its_range = refl

pub nine_empty_pieces : read (codes "proc arg urg points" ++ 10 ∷ codes "T 1 1 ,,,,,,,," ++ 10 ∷ []) ≡ Err (AtLine 2 (AtField 4 TooManyPoints))
nine_empty_pieces = refl

pub bad_field_behind_a_point_twice : read (codes "points proc arg urg" ++ 10 ∷ codes "1,1 T 1 x" ++ 10 ∷ []) ≡ Err (AtLine 2 (AtField 4 NoNumber))
bad_field_behind_a_point_twice = refl

pub point_twice : read (codes "proc arg urg points" ++ 10 ∷ codes "T 1 1 1,1" ++ 10 ∷ []) ≡ Err (AtLine 2 PointTwice)
point_twice = refl

pub no_line_end : read (codes "proc arg urg points" ++ 10 ∷ codes "T 1 1 1") ≡ Err (AtLine 2 Unended)
no_line_end = refl

pub two_spaces : read (codes "proc arg urg points" ++ 10 ∷ codes "T  1 1 1" ++ 10 ∷ []) ≡ Err (AtLine 2 (FieldCount 4))
two_spaces = refl

pub nothing_behind_the_empty_line : read (codes "proc arg urg points" ++ 10 ∷ 10 ∷ []) ≡ Err (AtLine 3 WireNames)
nothing_behind_the_empty_line = refl

pub wire_to_itself : read (codes "proc arg urg points" ++ 10 ∷ 10 ∷ codes "from to delay" ++ 10 ∷ codes "7 7 1" ++ 10 ∷ []) ≡ Err (AtLine 4 WireToItself)
wire_to_itself = refl
