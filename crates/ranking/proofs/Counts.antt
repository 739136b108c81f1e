-- The laws of counts, from those of an order.
use Rattle.std.proofs.Common.{◌≡◌, ℕ, ◌+◌, ◌<◌, ◌≤◌, Bool, true, false, cond, List, map, length, get_or, take, drop, count_by, sym, refl, ap, ◌∙◌, arith}
use Rattle.std.proofs.lemmas.List.{length-map, get_or-map}
use Rattle.std.proofs.lemmas.List.Sums.{sum_by_more, sum_by-take-drop, sum_by-drop_more, sum_by-le-sum_by, count_by-le-length}
use Rattle.std.proofs.lemmas.Bool.{false≢true, true_from_ne_false}
use Rattle.fixed.proofs.Pigeonhole.{onto_placed}
use Rattle.ranking.specs.Orders.{ExactlyOne, count_below}
use Rattle.ranking.proofs.Lawful.{Lawful}
use Rattle.ranking.specs.Laws.{SameEqualCounts, DifferentCounts, LargerCountLarger, AllDifferent, DifferentEachOnce}

-- ## One element more
pub counted_more : {X : Type 0} (p : X → Bool) (xs : List X) (i : ℕ) (x : X) → i < length xs → x ≡ get_or xs i x → count_by p (take (i + 1) xs) ≡ count_by p (take i xs) + cond (p x) 1 0
counted_more p xs i x l e = sum_by_more (λ y. cond (p y) 1 0) xs i x l ∙ sym (ap (λ y. count_by p (take i xs) + cond (p y) 1 0) e)

-- ## A test that holds of more
step : (a b : Bool) → (a ≡ true → b ≡ true) → cond {A = ℕ} a 1 0 ≤ cond {A = ℕ} b 1 0
step false b h = omega arith
step true false h = absurd (false≢true (h refl))
step true true h = omega arith

module _ {X : Type 0} (p q : X → Bool) (h : (x : X) → p x ≡ true → q x ≡ true) where
  at_most : (xs : List X) → count_by p xs ≤ count_by q xs
  at_most xs = sum_by-le-sum_by (λ x. cond (p x) 1 0) (λ x. cond (q x) 1 0) xs (λ x. step (p x) (q x) (h x))

  -- and of an element of which the other does not
  fewer : (xs : List X) (i : ℕ) (d : X) → i < length xs → q (get_or xs i d) ≡ true → p (get_or xs i d) ≡ false → count_by p xs < count_by q xs
  fewer xs i d l a b =
      let f = λ (x : X). cond {A = ℕ} (p x) 1 0 in
      let g = λ (x : X). cond {A = ℕ} (q x) 1 0 in
      let one : g (get_or xs i d) ≡ 1 = rw a in
      let none : f (get_or xs i d) ≡ 0 = rw b in
      omega (
        arith,
        sum_by-take-drop f xs i,
        sum_by-take-drop g xs i,
        sum_by-drop_more f xs i d l,
        sum_by-drop_more g xs i d l,
        at_most (take i xs),
        at_most (drop (i + 1) xs),
      )

-- ## The three cases
not_self : (b s : Bool) → ExactlyOne b s b → b ≡ false
not_self false s h = refl
not_self true s h = absurd (false≢true (sym h.1))

by_order : {A : Type 0} (a s b : Bool) → ExactlyOne a s b → (a ≡ true → A) → (s ≡ true → A) → (b ≡ true → A) → A
by_order true s b h f g k = f refl
by_order false true b h f g k = g refl
by_order false false b h f g k = k h

module _ {X : Type 0} (below same : X → X → Bool) (law : Lawful below same) where
  not_itself : (x : X) → below x x ≡ false
  not_itself x = not_self _ _ (law.one x x)

  rises : (xs : List X) (i : ℕ) (d y : X) → i < length xs → below (get_or xs i d) y ≡ true → count_below below xs (get_or xs i d) < count_below below xs y
  rises xs i d y l h =
      let x = get_or xs i d in
      fewer (λ z. below z x) (λ z. below z y) (λ z k. law.carries z x y k h) xs i d l h (not_itself x)

  pub same_equal_counts : SameEqualCounts below same
  same_equal_counts xs x y h =
      let e : (z : X) → below z x ≡ below z y = λ z. (law.alike x y z h).1 in
      omega (
        arith,
        at_most (λ z. below z x) (λ z. below z y) (λ z k. sym (e z) ∙ k) xs,
        at_most (λ z. below z y) (λ z. below z x) (λ z k. e z ∙ k) xs,
      )

  pub different_counts : DifferentCounts below same
  different_counts xs i j d l k ne e =
      let x = get_or xs i d in
      let y = get_or xs j d in
      by_order (below x y) (same x y) (below y x) (law.one x y)
      (λ h. omega (arith, rises xs i d y l h))
      (λ h. false≢true (sym ne ∙ h))
      (λ h. omega (arith, rises xs j d x k h))

  pub larger_count_larger : LargerCountLarger below
  larger_count_larger xs i d y l =
      let x = get_or xs i d in (
        λ less.
            by_order _ _ _ (law.one x y)
            (λ h. h)
            (λ h. absurd (omega (arith, same_equal_counts xs x y h)))
            (λ h. absurd (omega (arith, at_most (λ z. below z y) (λ z. below z x) (λ z k. law.carries z y x k h) xs))),
        rises xs i d y l,
      )

  in_range : (xs : List X) (i : ℕ) (d : X) → i < length xs → count_below below xs (get_or xs i d) < length xs
  in_range xs i d l =
      let x = get_or xs i d in
      omega (
        arith,
        count_by-le-length (λ _. true) xs,
        fewer (λ z. below z x) (λ _. true) (λ _ _. refl) xs i d l refl (not_itself x),
      )

  once : (xs : List X) → AllDifferent same xs → (i j : ℕ) (d : X) → i < length xs → j < length xs → count_below below xs (get_or xs i d) ≡ count_below below xs (get_or xs j d) → i ≡ j
  once xs dis i j d l k e = dis i j d l k (true_from_ne_false _ (λ ne. different_counts xs i j d l k ne e))

  each : (xs : List X) → AllDifferent same xs → (n : ℕ) (d : X) → n < length xs → (i : ℕ) × (i < length xs) × (count_below below xs (get_or xs i d) ≡ n)
  each xs dis n d l =
      let f : X → ℕ = count_below below xs in
      let m : length (map f xs) ≡ length xs = length-map xs f in
      let at : (i : ℕ) → i < length xs → get_or (map f xs) i 0 ≡ f (get_or xs i d) = λ i k. get_or-map f xs i d 0 k in
      let (i, k, e) = onto_placed (map f xs)
      (λ i k. omega (arith, at i (omega arith), in_range xs i d (omega arith)))
      (λ i j k k' e. once xs dis i j d (omega arith) (omega arith) (omega (arith, at i (omega arith), at j (omega arith))))
      n (omega arith) in
      (i, omega arith, omega (arith, at i (omega arith)))

  pub different_each_once : DifferentEachOnce below same
  different_each_once xs dis = record { within = in_range xs; once = once xs dis; each = each xs dis }
