-- Fields: a number, a letter, a list of points.
use Rattle.std.specs.Prelude.{ℕ, Bool, true, false, cond, not, ◌&&◌, List, [], ◌∷◌, length, Ok, Err, Result, ◌==◌, nat_le}
use Rattle.std.specs.Str.{all_ascii_digits}
use Rattle.std.specs.Str.Parse.{digits_value}
use Rattle.job.specs.declared.fault.FieldFault.{FieldFault}
use Rattle.job.specs.declared.fault.FieldFault.TheVariants.{NoNumber, AboveRange, UnknownLetter, TooManyPoints}
use Rattle.fixed.specs.Results.{given}
use Rattle.spelling.specs.Texts.{cut, all_of, same, each}

-- some digits, of which the first is no 0 unless it is the only one
abbrev pub plain : List ℕ → Bool
plain [] = false
plain (c ∷ []) = true
plain (c ∷ (d ∷ ds)) = not (c == 48)

-- a number of at most `top`
abbrev pub number : ℕ → List ℕ → Result ℕ FieldFault
number top t = given (all_ascii_digits t && plain t) NoNumber (given (nat_le (digits_value 10 t) top) (AboveRange top) (Ok (digits_value 10 t)))

-- T or S
abbrev pub known : ℕ → Result ℕ FieldFault
known c = cond (c == 84) (Ok 84) (cond (c == 83) (Ok 83) (Err UnknownLetter))

-- one byte that is a known letter
abbrev pub letter : List ℕ → Result ℕ FieldFault
letter [] = Err UnknownLetter
letter (b ∷ []) = known b
letter (a ∷ (b ∷ t)) = Err UnknownLetter

-- `-` for none, or at most 8 numbers with commas between them
abbrev pub points : List ℕ → Result (List ℕ) FieldFault
points t = cond (same t (45 ∷ [])) (Ok []) (given (nat_le (length (all_of (cut 44 t))) 8) TooManyPoints (each (number 255) (all_of (cut 44 t))))
