-- Steps that may be refused, one after another, and what their results mean.
use Rattle.std.specs.Prelude.{◌≡◌, Bool, cond, Ok, Err, Result, MatchResult}

-- a result that is another one, by what its value means
abbrev pub Means : {A B E : Type 0} → (B → A) → Result A E → Result B E → Type 0
Means f a r = MatchResult r (λ x. a ≡ Ok (f x)) (λ e. a ≡ Err e)

-- a step behind another, whose refusal stays
abbrev pub and_then : {A B E : Type 0} → Result A E → (A → Result B E) → Result B E
and_then (Ok x) f = f x
and_then (Err e) f = Err e

-- a refusal put into another one
abbrev pub or_else : {A E F : Type 0} → Result A E → (E → F) → Result A F
or_else (Ok x) f = Ok x
or_else (Err e) f = Err (f e)

-- a step that is taken only if a test holds
abbrev pub given : {A E : Type 0} → Bool → E → Result A E → Result A E
given b e r = cond b r (Err e)
