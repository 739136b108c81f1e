-- Results, texts, and the pieces between separators.
use Rattle.std.proofs.Common.{◌≡◌, ℕ, ◌<◌, Bool, true, false, eqb, List, [], ◌∷◌, ◌++◌, map, length, get_or, Ok, Err, Result, refl, ◌∙◌, arith}
use Rattle.std.proofs.lemmas.Bool.Decides.{nat_tests}
use Rattle.std.proofs.lemmas.List.Elements.{recursion_from_All}
use Rattle.std.proofs.ByRecursion.{All-append}
use Rattle.std.specs.List.{AllByRecursion}
use Rattle.fixed.specs.Results.{and_then, or_else, given}
use Rattle.spelling.specs.Checks.{lines_then}
use Rattle.spelling.specs.Spelling.{join, with_ends}
use Rattle.spelling.specs.Texts.{Pieces, last, more, cut, all_of, same, each}

-- ## Results
pub by_result : {A E P : Type 0} (r : Result A E) → ((x : A) → r ≡ Ok x → P) → ((e : E) → r ≡ Err e → P) → P
by_result (Ok x) f g = f x refl
by_result (Err e) f g = g e refl

pub ok_then : {A B E : Type 0} (r : Result A E) (f : A → Result B E) (b : B) → and_then r f ≡ Ok b → (a : A) × (r ≡ Ok a) × (f a ≡ Ok b)
ok_then r f b h = grind arith

pub ok_given : {A E : Type 0} (b : Bool) (e : E) (r : Result A E) (a : A) → given b e r ≡ Ok a → (b ≡ true) × (r ≡ Ok a)
ok_given b e r a h = grind arith

pub ok_or_then : {A B E F : Type 0} (r : Result A E) (f : E → F) (g : A → Result B F) (b : B) → and_then (or_else r f) g ≡ Ok b → (a : A) × (r ≡ Ok a) × (g a ≡ Ok b)
ok_or_then r f g b h = grind arith

-- what was read and then tested
pub ok_tested : {A E : Type 0} (r : Result A E) (f : A → Bool) (e : E) (a : A) → and_then r (λ x. given (f x) e (Ok x)) ≡ Ok a → (r ≡ Ok a) × (f a ≡ true)
ok_tested r f e a h = grind arith

-- each text is what one writes for what it reads
pub each_back : {A B E : Type 0} (f : A → Result B E) (w : B → A) → ((t : A) (x : B) → f t ≡ Ok x → w x ≡ t) → (ts : List A) (xs : List B) → each f ts ≡ Ok xs → map w xs ≡ ts
each_back f w h [] xs e = grind arith
each_back f w h (t ∷ ts) xs e = grind (arith, each_back f w h ts)

pub each_all : {A B E : Type 0} (f : A → Result B E) (P : B → Type 0) → ((t : A) (x : B) → f t ≡ Ok x → P x) → (ts : List A) (xs : List B) → each f ts ≡ Ok xs → AllByRecursion P xs
each_all f P h [] xs e = grind arith
each_all f P h (t ∷ ts) xs e = grind (arith, each_all f P h ts)

pub each_reads : {A B E : Type 0} (f : A → Result B E) (w : B → A) (xs : List B) → AllByRecursion (λ x. f (w x) ≡ Ok x) xs → each f (map w xs) ≡ Ok xs
each_reads f w [] a = refl
each_reads f w (x ∷ xs) a = grind (arith, each_reads f w xs)

-- ## Lists
pub all_each : {A : Type 0} (P : A → Type 0) → ((x : A) → P x) → (xs : List A) → AllByRecursion P xs
all_each P h xs = recursion_from_All P xs (λ k d _. h (get_or xs k d))

-- what holds of all holds of one in the middle
pub all_middle : {A : Type 0} (P : A → Type 0) (xs : List A) (y : A) (zs : List A) → AllByRecursion P (xs ++ (y ∷ zs)) → P y
all_middle P [] y zs a = a.0
all_middle P (x ∷ xs) y zs a = all_middle P xs y zs a.1

-- ## Texts
pub same_true : (xs ys : List ℕ) → same xs ys ≡ true → xs ≡ ys
same_true [] [] h = refl
same_true [] (y ∷ ys) h = absurd cc
same_true (x ∷ xs) [] h = absurd cc
same_true (x ∷ xs) (y ∷ ys) h = grind (arith, nat_tests, same_true xs ys)

-- ## Pieces
-- no byte of a text is c
abbrev pub Free : ℕ → List ℕ → Type 0
Free c l = AllByRecursion (λ b. eqb b c ≡ false) l

abbrev pub glue : ℕ → Pieces → List ℕ
glue c (last l) = l
glue c (more l p) = l ++ (c ∷ glue c p)

-- a text is its pieces with the separators between them
pub glue_cut : (c : ℕ) (bs : List ℕ) → glue c (cut c bs) ≡ bs
glue_cut c [] = refl
glue_cut c (b ∷ bs) = grind (arith, nat_tests, glue_cut c bs)

pub cut_last : (c : ℕ) (l : List ℕ) → Free c l → cut c l ≡ last l
cut_last c [] f = refl
cut_last c (x ∷ l) f = rw (f.0, cut_last c l f.1)

pub cut_more : (c : ℕ) (l bs : List ℕ) → Free c l → cut c (l ++ (c ∷ bs)) ≡ more l (cut c bs)
cut_more c [] bs f = grind (arith, nat_tests)
cut_more c (x ∷ l) bs f = rw (f.0, cut_more c l bs f.1)

pub some_piece : (p : Pieces) → 0 < length (all_of p)
some_piece (last l) = omega arith
some_piece (more l p) = omega arith

join_all : (c : ℕ) (p : Pieces) → join c (all_of p) ≡ glue c p
join_all c (last l) = refl
join_all c (more l (last m)) = refl
join_all c (more l (more m p)) = rw (join_all c (more m p))

-- a text is its pieces joined
pub join_cut : (c : ℕ) (t : List ℕ) → join c (all_of (cut c t)) ≡ t
join_cut c t = join_all c (cut c t) ∙ glue_cut c t

-- pieces joined are cut into these pieces
pub cut_join : (c : ℕ) (ls : List (List ℕ)) → 0 < length ls → AllByRecursion (Free c) ls → all_of (cut c (join c ls)) ≡ ls
cut_join c [] h f = absurd (omega arith)
cut_join c (l ∷ []) h f = rw (cut_last c l f.0)
cut_join c (l ∷ (m ∷ ls)) h f = rw (cut_more c l (join c (m ∷ ls)) f.0, cut_join c (m ∷ ls) (omega arith) f.1)

-- what holds no d still holds none when joined by another
pub free_join : (d c : ℕ) → eqb c d ≡ false → (ls : List (List ℕ)) → AllByRecursion (Free d) ls → Free d (join c ls)
free_join d c e [] f = tt
free_join d c e (l ∷ []) f = f.0
free_join d c e (l ∷ (m ∷ ls)) f = All-append (λ b. eqb b d ≡ false) l (c ∷ join c (m ∷ ls)) f.0 (e, free_join d c e (m ∷ ls) f.1)

-- ## Lines with their ends
pub cut_ended : (ls : List (List ℕ)) → AllByRecursion (Free 10) ls → cut 10 (with_ends ls) ≡ lines_then ls (last [])
cut_ended [] f = refl
cut_ended (l ∷ ls) f = rw (cut_more 10 l (with_ends ls) f.0, cut_ended ls f.1)

pub glue_lines : (ls : List (List ℕ)) → glue 10 (lines_then ls (last [])) ≡ with_ends ls
glue_lines [] = refl
glue_lines (l ∷ ls) = rw (glue_lines ls)

pub lines_append : (ls ms : List (List ℕ)) (p : Pieces) → lines_then (ls ++ ms) p ≡ lines_then ls (lines_then ms p)
lines_append [] ms p = refl
lines_append (l ∷ ls) ms p = rw (lines_append ls ms p)
