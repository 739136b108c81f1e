-- The listings, byte for byte.
use Rattle.std.specs.Prelude.{ℕ, ◌+◌, List, [], ◌∷◌, ◌++◌, Some, None, codes, decimal, Option}
use Rattle.job.specs.declared.refusal.Refusal.{Refusal}
use Rattle.job.specs.Refusals.{refusal_values}

-- a number, or `-` for nothing
abbrev pub shown : Option ℕ → List ℕ
shown None = codes "-"
shown (Some n) = decimal n

abbrev pub row_text : ℕ → Option ℕ → List ℕ
row_text n clash = decimal n ++ (32 ∷ (shown clash ++ (10 ∷ [])))

-- the rows, numbered from n
abbrev pub rows_text : ℕ → List (Option ℕ) → List ℕ
rows_text n [] = []
rows_text n (clash ∷ rows) = row_text n clash ++ rows_text (n + 1) rows

abbrev pub report_text : List (Option ℕ) → List ℕ
report_text rows = codes "job clash" ++ (10 ∷ rows_text 1 rows)

abbrev pub refusal_text : Refusal → List ℕ
refusal_text r = codes "number line field reason" ++ (10 ∷ (refusal_values r ++ (10 ∷ [])))
