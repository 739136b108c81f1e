-- Tests on lists.
use Rattle.std.specs.Prelude.{ℕ, Bool, true, not, ◌&&◌, List, [], ◌∷◌, nat_eq}
use Rattle.std.specs.List.{list_any}

-- whether a number stands in a list
abbrev pub has : List ℕ → ℕ → Bool
has xs y = list_any (λ x. nat_eq x y) xs

-- whether no two elements are equal, by a test of equality
abbrev pub all_differ : {A : Type 0} → (A → A → Bool) → List A → Bool
all_differ eq [] = true
all_differ eq (x ∷ xs) = not (list_any (λ y. eq y x) xs) && all_differ eq xs

-- whether no number stands twice
abbrev pub distinct : List ℕ → Bool
distinct xs = all_differ nat_eq xs
