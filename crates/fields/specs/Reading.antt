-- What a reader has yet to hand on, and what it hands on next.
use Rattle.std.specs.Prelude.{◌≡◌, ℕ, ◌+◌, ◌<◌, true, cond, List, [], ◌∷◌, length, take, drop, Ok, Err, Option, Result}
use Rattle.std.specs.Borrow.{Bor}
use Rattle.std.specs.Option as options
use Rattle.spelling.specs.Texts.{last, more, cut, all_of}
use Rattle.fields.specs.declared.reader.Reader.{Reader}

-- a fault with its place
abbrev pub placed : {T E : Type 0} → ℕ → Result T E → Result T (ℕ × E)
placed p (Ok x) = Ok x
placed p (Err e) = Err (p, e)

-- where the first separator is
abbrev pub Ends : ℕ → List ℕ → Option ℕ → Type 0
Ends c t r = options.MatchOption r (cut c t ≡ last t) (λ j. (j < length t) × (cut c t ≡ more (take j t) (cut c (drop (j + 1) t))))

-- the bytes that are left
abbrev pub rest_of : Reader → List ℕ
rest_of r = drop r.place r.bytes.now

-- a line was handed on: the reader walks over the same bytes, by which the place of what is left is known, and its pieces go on
abbrev pub Passes : Reader → Reader → Type 0
Passes r r' = (r'.bytes.now ≡ r.bytes.now) × (r'.done ≡ r.done)

-- a piece was handed on: the reader walks over the same bytes, and the last piece leaves it where it is
abbrev pub Walks : Reader → Reader → Type 0
Walks r r' = (r'.bytes.now ≡ r.bytes.now) × (r'.done ≡ true → rest_of r' ≡ rest_of r)

-- the pieces between separators that are left
abbrev pub pieces_of : ℕ → Reader → List (List ℕ)
pieces_of c r = cond r.done [] (all_of (cut c (rest_of r)))

-- the first of some pieces, empty where there are none, and those behind it
abbrev pub head_of : List (List ℕ) → List ℕ
head_of [] = []
head_of (t ∷ ts) = t

abbrev pub tail_of : List (List ℕ) → List (List ℕ)
tail_of [] = []
tail_of (t ∷ ts) = ts

-- a field was handed on, or none was left
abbrev pub PastField : Reader → Reader → Type 0
PastField r r' = (pieces_of 32 r' ≡ tail_of (pieces_of 32 r)) × Walks r r'

-- the next line of the bytes t, if it has its end, and what is left behind it
abbrev pub NextLine : List ℕ → Option (Bor (List ℕ)) → List ℕ → Type 0
NextLine t r t' = options.MatchOption r ((cut 10 t ≡ last t) × (t' ≡ t)) (λ l. (cut 10 t ≡ more l.now (cut 10 t')) × (length t' < length t))

-- the next of some pieces, and those behind it
abbrev pub NextPiece : List (List ℕ) → Option (Bor (List ℕ)) → List (List ℕ) → Type 0
NextPiece ps r ps' = options.MatchOption r ((ps ≡ []) × (ps' ≡ [])) (λ l. ps ≡ l.now ∷ ps')
