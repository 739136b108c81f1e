-- The rows of a report, one by one.
use Rattle.std.proofs.Common.{◌≡◌, ℕ, ◌+◌, ◌<◌, List, [], ◌∷◌, ◌++◌, length, get_or, take, drop, None, Option, sym, ap, ◌∙◌, subst, append_assoc, arith, below_more}
use Rattle.std.proofs.lemmas.List.{get_or_append_left, get_or_push, length_push, take_more, at_drop_more}
use Rattle.job.specs.Admitted.{no_record}
use Rattle.job.specs.Plain.{Job}
use Rattle.job.specs.Preview.{job_at, HighestClash}
use Rattle.listing.specs.Texts.{row_text, rows_text}

-- the rows of the first i jobs
abbrev pub RowsTo : List Job → ℕ → List (Option ℕ) → Type 0
RowsTo js i rows = (length rows ≡ i) × ((k : ℕ) → k < i → HighestClash (take k js) (job_at js k) (get_or rows k None))

pub rows_more : (js : List Job) (i : ℕ) (rows rows' : List (Option ℕ)) (row : Option ℕ) → RowsTo js i rows → rows' ≡ rows ++ (row ∷ []) → HighestClash (take i js) (job_at js i) row → RowsTo js (i + 1) rows'
rows_more js i rows rows' row (n, h) e r = (
  ap length e ∙ (length_push rows row ∙ ap (λ m. m + 1) n),
  below_more _ i
      (λ k l. let z : k < length rows = omega arith in subst (λ (x : Option ℕ). HighestClash (take k js) (job_at js k) x) (sym (ap (λ (l : List (Option ℕ)). get_or l k None) e ∙ get_or_append_left rows (row ∷ []) None k z)) (h k l))
      (subst (λ (x : Option ℕ). HighestClash (take i js) (job_at js i) x) (sym (ap (λ (l : List (Option ℕ)). get_or l i None) e ∙ get_or_push rows row None i n)) r),
)

-- ## Their text
pub text_more : (rows : List (Option ℕ)) (i : ℕ) (was now line whole : List ℕ) → i < length rows → now ≡ was ++ line → line ≡ row_text (i + 1) (get_or rows i None) → was ++ rows_text (i + 1) (drop i rows) ≡ whole → now ++ rows_text (i + 1 + 1) (drop (i + 1) rows) ≡ whole
text_more rows i was now line whole h e l k =
    ap (λ (t : List ℕ). t ++ rows_text (i + 1 + 1) (drop (i + 1) rows)) e
    ∙ (append_assoc was line (rows_text (i + 1 + 1) (drop (i + 1) rows))
    ∙ (ap (λ (t : List ℕ). was ++ (t ++ rows_text (i + 1 + 1) (drop (i + 1) rows))) l
    ∙ (ap (λ (t : List ℕ). was ++ t) (sym (at_drop_more (rows_text (i + 1)) rows i None h)) ∙ k)))

-- ## The jobs before one
pub earlier_more : (js es es' : List Job) (i : ℕ) (j : Job) → i < length js → es ≡ take i js → es' ≡ es ++ (j ∷ []) → job_at js i ≡ j → es' ≡ take (i + 1) js
earlier_more js es es' i j h p q e = q ∙ (rw (p, ← e) (sym (take_more js i no_record h)))

pub clash_here : (js es : List Job) (i : ℕ) (j : Job) (r : Option ℕ) → es ≡ take i js → j ≡ job_at js i → HighestClash es j r → HighestClash (take i js) (job_at js i) r
clash_here js es i j r p q h = subst (λ (x : List Job). HighestClash x (job_at js i) r) p (subst (λ (x : Job). HighestClash es x r) q h)
