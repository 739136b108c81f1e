-- Cases of a test, and a push where there is room.
use Rattle.std.proofs.Common.{◌≡◌, ℕ, ◌<◌, Bool, true, false, List, [], ◌∷◌, ◌++◌, length, Ok, Err, Result, ⊎_elim, arith}
use Rattle.std.proofs.lemmas.Bool.{cases_Bool}
use Rattle.fixed.specs.Fixed.{Pushed}

pub by_bool : {A : Type 0} (b : Bool) → (b ≡ true → A) → (b ≡ false → A) → A
by_bool b f g = ⊎_elim f g (cases_Bool b)

-- room for one more
pub pushed_room : {T U : Type 0} (n : ℕ) (f : U → T) (was : List T) (x : U) (r : Result (Unit {0}) U) (is : List T) → length was < n → Pushed n f was x r is → is ≡ was ++ f x ∷ []
pushed_room n f was x (Ok t) is h p = p.1
pushed_room n f was x (Err t) is h p = absurd (let k = p.1 in omega arith)
