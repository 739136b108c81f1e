-- Parts that are checked one by one make an admitted job.
use Rattle.std.proofs.Common.{◌≡◌, Bool, true, false, Ok, Err, Result, sym}
use Rattle.job.specs.declared.fault.JobFault.TheVariants.{Field, PointTwice}
use Rattle.job.specs.Admitted.{letter_within, urgency_within, points_within, admitted}
use Rattle.fixed.specs.Lists.{distinct}
use Rattle.job.specs.Plain.{Job}
use Rattle.fixed.specs.Results.{given, and_then, or_else}

-- what a test lets pass is unchanged
pub passes_same : {A E : Type 0} (b : Bool) (e : E) (x y : A) → Ok y ≡ given b e (Ok x) → y ≡ x
passes_same true e x y h = cc
passes_same false e x y h = cc

then_same : {A B E F : Type 0} (r : Result A E) (f : E → F) (s : Result B F) (k : B) → and_then (or_else r f) (λ _. s) ≡ Ok k → s ≡ Ok k
then_same (Ok x) f s k h = h
then_same (Err e) f s k h = cc

-- what is admitted is unchanged
pub admitted_same : (j k : Job) → admitted j ≡ Ok k → k ≡ j
admitted_same j k h =
    let p = then_same (letter_within j.letter) Field _ k h in
    let q = then_same (urgency_within j.urgency) Field _ k p in
    let r = then_same (points_within j.points) Field _ k q in
    passes_same (distinct j.points) PointTwice j k (sym r)
