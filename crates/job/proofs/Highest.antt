-- Marks, and the search for the highest job that has a marked point.
use Rattle.std.proofs.Common.{◌≡◌, ℕ, add-sub_cancel, ◌+◌, ◌-◌, ◌<◌, Bool, true, false, not, ◌||◌, eqb, List, [], ◌∷◌, map, length, get_or, take, set, Some, None, Ok, Option, sym, ap, ◌∙◌, subst, ⊎_elim, arith}
use lib.ListN.{length-replicate, length-map}
use Rattle.std.proofs.Math.Bool.{or_assoc}
use Rattle.std.proofs.lemmas.List.{get_or-replicate, get_or_past, get_or-map}
use Rattle.std.proofs.lemmas.List.Folds.{list_any_more}
use Rattle.std.proofs.lemmas.Grind.{get_or-set_at}
use Rattle.std.proofs.lemmas.List.{get_or-set_other}
use Rattle.std.proofs.lemmas.Bool.{cases_lt}
use Rattle.std.proofs.lemmas.Bool.Decides.{nat_tests}
use Rattle.std.specs.List.{list_any}
use Rattle.std.specs.Option.{MatchOption, option_map}
use Rattle.job.specs.declared.record.JobRecord.{JobRecord}
use Rattle.job.specs.Admitted.{admitted, no_record}
use Rattle.fixed.specs.Lists.{has}
use Rattle.job.specs.Plain.{Job, clashes}
use Rattle.job.specs.Records.{job_of}
use Rattle.job.specs.Preview.{blank_marks, marked, HighestMarked, HighestClash, job_at}
use Rattle.job.proofs.Admitting.{admitted_same}

-- ## Marks
pub unmarked_blank : (p : ℕ) → marked blank_marks p ≡ false
unmarked_blank p = ap (λ x. not (eqb x 0)) blank
  where
    blank : get_or blank_marks p 0 ≡ 0
    blank = ⊎_elim (λ h. get_or-replicate 256 p 0 0 h) (λ h. get_or_past blank_marks p 0 (rw (length-replicate {A = ℕ} 256 0) h)) (cases_lt p 256)

marked_set : (ms : List ℕ) (q p : ℕ) → q < length ms → marked (set ms q 1) p ≡ (marked ms p || eqb q p)
marked_set ms q p h = grind (arith, nat_tests, get_or-set_at, get_or-set_other)

-- one point more, the one at place i
pub marked_more : (was ms ps : List ℕ) (i q : ℕ) → i < length ps → q ≡ get_or ps i 0 → q < length ms →
    ((p : ℕ) → marked ms p ≡ (marked was p || has (take i ps) p)) →
    (p : ℕ) → marked (set ms q 1) p ≡ (marked was p || has (take (i + 1) ps) p)
marked_more was ms ps i q l e h m p = marked_set ms q p h ∙ rw (list_any_more (λ x. eqb x p) ps i 0 l, m p, e) (or_assoc (marked was p) (has (take i ps) p) (eqb (get_or ps i 0) p))

-- ## Jobs by their places
pub job_read : (js : List JobRecord) (i : ℕ) (r : JobRecord) → i < length js → r ≡ get_or js i r → job_at (map job_of js) i ≡ job_of r
job_read js i r h e = get_or-map job_of js i r no_record h ∙ ap job_of (sym e)

-- the highest place of a record that has a marked point
abbrev pub HighestPlace : List ℕ → List JobRecord → Option ℕ → Type 0
HighestPlace ms js r =
    MatchOption r
    ((k : ℕ) (d : JobRecord) → k < length js → list_any (marked ms) (job_of (get_or js k d)).points ≡ false)
    (λ i. (i < length js) × ((d : JobRecord) → list_any (marked ms) (job_of (get_or js i d)).points ≡ true) × ((k : ℕ) (d : JobRecord) → i < k → k < length js → list_any (marked ms) (job_of (get_or js k d)).points ≡ false))

-- what is asked of the points at a place
at : (ms : List ℕ) (js : List JobRecord) (k : ℕ) (b : Bool) → k < length js → ((d : JobRecord) → list_any (marked ms) (job_of (get_or js k d)).points ≡ b) → list_any (marked ms) (job_at (map job_of js) k).points ≡ b
at ms [] k b l h = absurd (omega arith)
at ms (r ∷ js) k b l h = ap (λ (j : Job). list_any (marked ms) j.points) (get_or-map job_of (r ∷ js) k r no_record l) ∙ h r

pub highest : (ms : List ℕ) (js : List JobRecord) (r s : Option ℕ) → HighestPlace ms js r → s ≡ option_map (λ i. i + 1) r → HighestMarked ms (map job_of js) s
highest ms js None s h e = let n = length-map js job_of in rw e (λ k a b. at ms js k false (omega arith) (λ d. h k d (omega arith)))
highest ms js (Some i) s (l, here, above) e =
    let n = length-map js job_of in
    rw (e, add-sub_cancel i 1) (omega arith, omega arith, at ms js i true l here, λ k a b. at ms js k false (omega arith) (λ d. above k d (omega arith) (omega arith)))

-- exactly these points are marked
abbrev pub Marked : List ℕ → List ℕ → Type 0
Marked ms ps = (p : ℕ) → marked ms p ≡ has ps p

-- ## Jobs that clash
-- the jobs that have a marked point are those that clash with a job whose points are marked
pub clash_from_marked : (ms : List ℕ) (js : List Job) (j : Job) (r : Option ℕ) → Marked ms j.points → HighestMarked ms js r → HighestClash js j r
clash_from_marked ms js j r m = go r
  where
    same : (k : ℕ) → clashes j (job_at js k) ≡ list_any (marked ms) (job_at js k).points
    same k = λ i. list_any (λ p. sym (m p) i) (job_at js k).points

    go : (r : Option ℕ) → HighestMarked ms js r → HighestClash js j r
    go None h = λ k a b. same k ∙ h k a b
    go (Some n) (a, b, c, d) = (a, b, same (n - 1) ∙ c, λ k p q. same k ∙ d k p q)

pub answered : (ms : List ℕ) (js : List JobRecord) (is : List Job) (j k : Job) (ps : List ℕ) (r : Option ℕ) → admitted j ≡ Ok k → ps ≡ k.points → Marked ms ps → map job_of js ≡ is → HighestMarked ms (map job_of js) r → (admitted j ≡ Ok j) × HighestClash is j r
answered ms js is j k ps r a p m e h =
    let same = admitted_same j k a in
    (a ∙ ap Ok same, clash_from_marked ms is j r (λ q. m q ∙ ap (λ (l : List ℕ). has l q) (p ∙ ap (λ (i : Job). i.points) same)) (subst (λ (l : List Job). HighestMarked ms l r) e h))
