-- What a list of fixed capacity holds.
use Rattle.std.specs.Prelude.{◌≡◌, ℕ, ◌<◌, ◌≤◌, List, [], ◌∷◌, ◌++◌, length, take, Result, MatchResult}
use Rattle.fixed.specs.declared.list.FixedList.{FixedList}

abbrev pub list_of : {T : Type 0} {N : ℕ} → FixedList T N → List T
list_of l = take l.len l.items

-- an element x more, behind those that were there, if they were fewer than n
abbrev pub Pushed : {T U : Type 0} → ℕ → (U → T) → List T → U → Result (Unit {0}) U → List T → Type 0
Pushed n f was x r is = MatchResult r (λ _. (length was < n) × (is ≡ was ++ f x ∷ [])) (λ back. (f back ≡ f x) × (n ≤ length was) × (is ≡ was))
