-- What `try_collect` gathers, where each call that held a value is known by a relation.
use Rattle.std.proofs.Common.{◌≡◌, ℕ, suc, ◌<◌, Bool, List, [], ◌∷◌, map, length, get_or, filter, Some, None, Option, IsSomeAnd, IfSome, Ok, Result, refl, sym, subst, arith}
use Rattle.std.specs.Option.{option_map, IsSomeRelated}
use Rattle.std.specs.Iterator.Runs.{Run}
use Rattle.fixed.proofs.Pushing.{by_bool}

same_by_place : {X Y C : Type 0} (w : X → C) (h : Y → C) (xs : List X) (ys : List Y) → length xs ≡ length ys → ((k : ℕ) (d : X) (e : Y) → k < length ys → w (get_or xs k d) ≡ h (get_or ys k e)) → map w xs ≡ map h ys
same_by_place w h [] [] n p = refl
same_by_place w h [] (y ∷ ys) n p = absurd (omega arith)
same_by_place w h (x ∷ xs) [] n p = absurd (omega arith)
same_by_place w h (x ∷ xs) (y ∷ ys) n p =
    let a : w x ≡ h y = p 0 x y (omega arith) in
    let m : length xs ≡ length ys = omega arith in
    let b = same_by_place w h xs ys m (λ k d e l. p (suc k) d e (omega arith)) in
    cc

module _ {A Y E : Type 0} (Q : A → Result Y E → Type 0) where
  at_place : (o : Option (Result Y E)) (i : Option A) (x : A) (y : Y) → IsSomeRelated (λ r z. Ok z ≡ r) o y → IfSome o (λ r. IsSomeAnd i (λ z. Q z r)) → option_map (λ z. z) i ≡ Some x → Q x (Ok y)
  at_place (Some r) (Some z) x y e q s =
      let P : Result Y E → Type 0 = λ v. Q z v in
      let t : z ≡ x = cc in
      let O : A → Type 0 = λ v. Q v (Ok y) in
      subst O t (subst P (sym e) q)
  at_place (Some r) None x y e q s = absurd q
  at_place None i x y e q s = absurd e

  pub gathered : {S T C : Type 0} {steps : S → Option (Result Y E) → S → Type 0} {source : T → Option A → T → Type 0} (p : Run steps) (q : Run source) (w : Y → C) (h : A → C) (ys : List Y)
      → p.len ≡ q.len → ((k : ℕ) → IfSome (p.at k) (λ r. IsSomeAnd (q.at k) (λ x. Q x r))) → ((x : A) (y : Y) → Q x (Ok y) → w y ≡ h x)
      → length ys ≡ p.len → ((k : ℕ) (d : Y) → k < p.len → IsSomeRelated (λ r y. Ok y ≡ r) (p.at k) (get_or ys k d))
      → map w ys ≡ map h q.items
  gathered p q w h ys n calls means m held =
      let l = q.long in
      same_by_place w h ys q.items (omega arith) (λ k d e b.
      (let j : k < p.len = omega arith in
      let i : k < q.len = omega arith in
      means _ _ (at_place (p.at k) (q.at k) (get_or q.items k e) (get_or ys k d) (held k d j) (calls k) (q.reads k e i))))

-- a list that is read, before or behind a filter
pub read_filtered : {A B C : Type 0} (v : A → B) (test : B → Bool) (h : B → C) (xs : List A) → map (λ x. h (v x)) (filter (λ x. test (v x)) xs) ≡ map h (filter test (map v xs))
read_filtered v test h [] = refl
read_filtered v test h (x ∷ xs) =
    let e = read_filtered v test h xs in
    by_bool (test (v x)) (λ t. rw (t, e)) (λ t. rw (t, e))
