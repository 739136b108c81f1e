-- Numbers, letters, lists of points and columns: what is read is what was written, and the other way round.
use Rattle.std.proofs.Common.{◌≡◌, ℕ, ◌^◌, ◌<◌, ◌≤◌, true, false, ◌&&◌, ◌⊎◌, List, [], ◌∷◌, map, length, Ok, decimal, sym, refl, ap, ◌∙◌, inl, inr, arith}
use lib.ListN.{length-map}
use Rattle.std.proofs.lemmas.Bool.{le-leb}
use Rattle.std.proofs.lemmas.Bool.Decides.{nat_tests}
use Rattle.std.proofs.ByRecursion.{All-weaker, All-map}
use Rattle.std.proofs.lemmas.Str.Parse.{IsNumeralModel, numerals_by_value, tells_all_ascii_digits}
use Rattle.std.proofs.lemmas.Fmt.{decimal-digits_value, digits_decimal, digits_value-decimal, decimal_nonempty, first_decimal, decimal_digit}
use Rattle.std.specs.List.{AllByRecursion}
use Rattle.std.specs.Str.{all_ascii_digits}
use Rattle.std.specs.Int.{IsInRange}
use Rattle.std.specs.Str.Parse.{digits_value}
use Rattle.spelling.specs.declared.column.Column.{Column}
use Rattle.spelling.specs.Fields.{plain, number, letter, points}
use Rattle.spelling.specs.Laws.{NumberExactlyWritten}
use Rattle.spelling.specs.Lines.{name, column}
use Rattle.spelling.specs.Spelling.{join, points_text}
use Rattle.spelling.specs.Texts.{cut, all_of, same, each}
use Rattle.spelling.proofs.Basics.{ok_given, each_back, each_all, each_reads, same_true, Free, some_piece, join_cut, cut_join, free_join}

-- ## Numbers
base_ten : IsNumeralModel (λ ds. all_ascii_digits ds ≡ true) (digits_value 10)
base_ten = numerals_by_value (λ ds. all_ascii_digits ds ≡ true) tells_all_ascii_digits

pub number_parts : (top : ℕ) (t : List ℕ) (n : ℕ) → number top t ≡ Ok n → (all_ascii_digits t ≡ true) × (plain t ≡ true) × (n ≤ top) × (digits_value 10 t ≡ n)
number_parts top t n h =
    let (p, q) = ok_given (all_ascii_digits t && plain t) _ _ n h in
    grind (arith, nat_tests)

pub number_back : (top : ℕ) → top < 2 ^ 64 → (t : List ℕ) (n : ℕ) → number top t ≡ Ok n → (t ≡ decimal n) × (n ≤ top)
number_back top b t n h =
    let (d, one, l, e) = number_parts top t n h in
    (rw (← e) (sym (decimal-digits_value base_ten t d (grind arith) (λ z. grind (arith, nat_tests)) (omega arith))), l)

plain_decimal : (n : ℕ) → n < 2 ^ 64 → plain (decimal n) ≡ true
plain_decimal n b = let s = decimal_nonempty n b in grind (arith, nat_tests, first_decimal n, decimal_digit n)

pub number_reads : (top n : ℕ) → top < 2 ^ 64 → n ≤ top → number top (decimal n) ≡ Ok n
number_reads top n b h =
    let s : n < 2 ^ 64 = omega arith in
    rw (digits_decimal base_ten n s, plain_decimal n s, digits_value-decimal base_ten n s, le-leb n top h)

pub number_exactly_written : NumberExactlyWritten
number_exactly_written top b t n =
    let s : top < 2 ^ 64 = omega arith in
    (number_back top s t n, λ w. rw w.0 (number_reads top n s w.1))

-- a text of digits holds no byte that is no digit
free_digits : (c : ℕ) → (IsInRange 48 57 c → ⊥) → (t : List ℕ) → all_ascii_digits t ≡ true → Free c t
free_digits c h [] d = tt
free_digits c h (x ∷ xs) d = grind (arith, nat_tests, free_digits c h xs)

pub free_decimal : (c : ℕ) → (IsInRange 48 57 c → ⊥) → (n : ℕ) → n < 2 ^ 64 → Free c (decimal n)
free_decimal c h n b = free_digits c h (decimal n) (digits_decimal base_ten n b)

-- ## Letters
pub letter_back : (t : List ℕ) (x : ℕ) → letter t ≡ Ok x → ((x ∷ []) ≡ t) × ((x ≡ 84) ⊎ (x ≡ 83))
letter_back t x h = grind (arith, nat_tests)

pub letter_reads : (x : ℕ) → (x ≡ 84) ⊎ (x ≡ 83) → letter (x ∷ []) ≡ Ok x
letter_reads x h = grind (arith, nat_tests)

-- ## Points
pub record FewSmall (ps : List ℕ) : Type 0 where
  pub small : AllByRecursion (λ p. p ≤ 255) ps
  pub few : length ps ≤ 8

joined_text : (ps : List ℕ) → 0 < length ps → points_text ps ≡ join 44 (map decimal ps)
joined_text ps h = grind arith

-- a list that was read is `-`, or each of its pieces was read
points_parts : (t ps : List ℕ) → points t ≡ Ok ps →
    ((same t (45 ∷ []) ≡ true) × (ps ≡ [])) ⊎ ((same t (45 ∷ []) ≡ false) × (length (all_of (cut 44 t)) ≤ 8) × (each (number 255) (all_of (cut 44 t)) ≡ Ok ps))
points_parts t ps h = grind (arith, nat_tests)

pub points_back : (t ps : List ℕ) → points t ≡ Ok ps → (points_text ps ≡ t) × FewSmall ps
points_back t ps h = elim (points_parts t ps h) [
  | inl (e, z) ↦ rw z (sym (same_true t _ e), record { small = tt; few = omega arith })
  | inr (e, k, g) ↦
      let ts = all_of (cut 44 t) in
      let w = each_back (number 255) decimal (λ t x k. sym (number_back 255 (omega arith) t x k).0) ts ps g in
      let n = simp length-map at (ap length w) in
      let s = some_piece (cut 44 t) in (
        joined_text ps (omega arith) ∙ (ap (join 44) w ∙ join_cut 44 t),
        record { small = each_all (number 255) (λ p. p ≤ 255) (λ t x k. (number_back 255 (omega arith) t x k).1) ts ps g; few = omega arith },
      )
]

free_pieces : (c : ℕ) → (IsInRange 48 57 c → ⊥) → (ps : List ℕ) → AllByRecursion (λ p. p ≤ 255) ps → AllByRecursion (Free c) (map decimal ps)
free_pieces c h ps a = All-map (Free c) decimal ps (All-weaker (λ p. p ≤ 255) _ (λ p k. free_decimal c h p (omega arith)) ps a)

not_hyphen : (t : List ℕ) → Free 45 t → same t (45 ∷ []) ≡ false
not_hyphen [] f = refl
not_hyphen (x ∷ xs) f = rw f.0

pub points_reads : (ps : List ℕ) → FewSmall ps → points (points_text ps) ≡ Ok ps
points_reads [] P = refl
points_reads (p ∷ ps) P =
    let free = free_join 45 44 refl (map decimal (p ∷ ps)) (free_pieces 45 (λ i. omega arith) (p ∷ ps) P.small) in
    let c = cut_join 44 (map decimal (p ∷ ps)) (omega arith) (free_pieces 44 (λ i. omega arith) (p ∷ ps) P.small) in
    let all = All-weaker (λ p. p ≤ 255) _ (λ p k. number_reads 255 p (omega arith) k) (p ∷ ps) P.small in
    rw (not_hyphen _ free, c, length-map, le-leb (length (p ∷ ps)) 8 P.few) (each_reads (number 255) decimal (p ∷ ps) all)

pub free_points : (c : ℕ) → (IsInRange 48 57 c → ⊥) → (c ≡ 44 → ⊥) → (c ≡ 45 → ⊥) → (ps : List ℕ) → FewSmall ps → Free c (points_text ps)
free_points c h k m [] P = grind (arith, nat_tests)
free_points c h k m (p ∷ ps) P = free_join c 44 (grind (arith, nat_tests)) (map decimal (p ∷ ps)) (free_pieces c h (p ∷ ps) P.small)

-- ## Columns
pub column_reads : (c : Column) → column (name c) ≡ Ok c
column_reads c = grind arith

pub column_back : (t : List ℕ) (c : Column) → column t ≡ Ok c → name c ≡ t
column_back t c h =
    let s : same t (name c) ≡ true = grind arith in
    sym (same_true t (name c) s)
