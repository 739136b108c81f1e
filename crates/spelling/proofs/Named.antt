-- The names of the columns, by their lengths and their bytes.
use Rattle.std.proofs.Common.{◌≡◌, ℕ, suc, ◌+◌, Bool, true, cond, ◌&&◌, eqb, List, [], ◌∷◌, length, get_or, Ok, Err, refl, arith}
use Rattle.std.proofs.lemmas.Bool.Decides.{nat_tests}
use Rattle.spelling.specs.declared.column.Column.TheVariants.{Proc, Arg, Urg, Points}
use Rattle.spelling.specs.declared.fault.LineFault.TheVariants.{JobNames}
use Rattle.spelling.specs.Lines.{name, column}
use Rattle.spelling.specs.Texts.{same}

-- whether the bytes of a text stand in another from a place on
abbrev pub stands : List ℕ → ℕ → List ℕ → Bool
stands t i [] = true
stands t i (x ∷ u) = eqb (get_or t i 0) x && stands t (i + 1) u

stands_more : (x : ℕ) (t u : List ℕ) (i : ℕ) → stands (x ∷ t) (i + 1) u ≡ stands t i u
stands_more x t [] i = refl
stands_more x t (y ∷ u) i = rw (stands_more x t u (i + 1)) (grind arith)

heads : (m n x y : ℕ) (s : Bool) → (eqb x y && (eqb m n && s)) ≡ (eqb (suc m) (suc n) && (eqb x y && s))
heads m n x y s = grind (arith, nat_tests)

same_stands : (t u : List ℕ) → same t u ≡ (eqb (length t) (length u) && stands t 0 u)
same_stands [] [] = refl
same_stands [] (y ∷ u) = grind (arith, nat_tests)
same_stands (x ∷ t) [] = grind (arith, nat_tests)
same_stands (x ∷ t) (y ∷ u) =
    let e : stands (x ∷ t) 1 u ≡ stands t 0 u = stands_more x t u 0 in
    rw (same_stands t u, e) (heads (length t) (length u) x y (stands t 0 u))

pub column_stands : (t : List ℕ) → column t ≡
    cond (eqb (length t) 4 && stands t 0 (name Proc)) (Ok Proc)
    (cond (eqb (length t) 3 && stands t 0 (name Arg)) (Ok Arg)
    (cond (eqb (length t) 3 && stands t 0 (name Urg)) (Ok Urg)
    (cond (eqb (length t) 6 && stands t 0 (name Points)) (Ok Points) (Err JobNames))))
column_stands t = simp same_stands
