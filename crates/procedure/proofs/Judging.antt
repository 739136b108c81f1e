-- A list that is turned into another element by element, while none fails a test.
use Rattle.std.proofs.Common.{◌≡◌, ℕ, ◌+◌, ◌<◌, ◌≤◌, Bool, false, List, [], ◌∷◌, ◌++◌, map, length, get_or, take, drop, sym, ap, ◌∙◌, arith}
use Rattle.std.proofs.lemmas.List.{at_drop_more, map_push, map_more, length-map, length-take}
use Rattle.std.specs.List.{list_any}

module _ {A B C : Type 0} (g : A → C) (h : B → C) (xs : List B) (i : ℕ) where
  -- as many were turned as were met
  pub room : (n : ℕ) (was : List A) → map g was ≡ map h (take i xs) → i < length xs → length xs ≤ n → length was < n
  room n was e l k =
      let m = sym (length-map was g) ∙ (ap length e ∙ (length-map (take i xs) h ∙ length-take i xs)) in
      omega arith

  pub turned_more : (was is : List A) (y : A) (x : B) → i < length xs → x ≡ get_or xs i x → map g was ≡ map h (take i xs) → is ≡ was ++ y ∷ [] → g y ≡ h x → map g is ≡ map h (take (i + 1) xs)
  turned_more was is y x l r e p q =
      let m = map_more h xs i x l in
      let n = map_push g was y in
      let s = ap h (sym r) in
      let t = ap (map g) p in
      cc

module _ {B C : Type 0} (h : B → C) (test : C → Bool) (xs : List B) (i : ℕ) where
  pub passes : (x : B) → i < length xs → x ≡ get_or xs i x → test (h x) ≡ false → list_any test (map h (drop i xs)) ≡ list_any test (map h (drop (i + 1) xs))
  passes x l r e =
      let t : test (h (get_or xs i x)) ≡ false = ap (λ (y : B). test (h y)) (sym r) ∙ e in
      at_drop_more (λ (l : List B). list_any test (map h l)) xs i x l ∙ rw t
