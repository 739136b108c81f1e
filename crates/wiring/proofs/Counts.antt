-- Counts of the wires that lead from each point.
use Rattle.std.proofs.Common.{◌≡◌, ℕ, ◌+◌, ◌<◌, ◌≤◌, true, cond, eqb, leb, ◌≢◌, List, [], ◌∷◌, ◌++◌, map, length, get_or, set, replicate, Ok, Err, sym, ap, ◌∙◌, arith, length-set}
use Rattle.std.proofs.lemmas.List.FromFn.{fill_by_all, get_or-map-range_with_len, length-map-range_with_len}
use Rattle.std.proofs.lemmas.List.{get_or-set_other}
use Rattle.std.proofs.lemmas.List.Sums.{sum_by_push, AllPass-from_list_all, list_all-from_AllPass}
use Rattle.std.proofs.lemmas.List.Folds.{list_all-append}
use Rattle.std.proofs.lemmas.List.Elements.{All-set}
use Rattle.std.proofs.lemmas.Bool.{ne_eqb, le-leb, lt-ltb, le-ltb}
use Rattle.std.proofs.lemmas.Bool.Decides.{nat_tests}
use Rattle.std.proofs.lemmas.Grind.{get_or-set_at}
use Rattle.std.specs.List.{range_with_len}
use Rattle.wiring.specs.declared.fault.WireFault.TheVariants.{FifthFromPoint}
use Rattle.wiring.specs.declared.wire.Wire.{Wire}
use Rattle.wiring.specs.Wires.{leads_on, leaving, tally, wired}
use Rattle.wiring.specs.Wiring.{Tallied}

pub leaving_push : (p : ℕ) (ws : List Wire) (w : Wire) → leaving p (ws ++ w ∷ []) ≡ leaving p ws + cond (eqb w.from p) 1 0
leaving_push p ws w = sum_by_push (λ w. cond (eqb w.from p) 1 0) ws w

-- for any number of points, so that nothing is computed for each of 256
counts : ℕ → List Wire → List ℕ
counts n ws = map (λ p. leaving p ws) (range_with_len 0 n)

counts_at : (n : ℕ) (ws : List Wire) (p : ℕ) → p < n → get_or (counts n ws) p 0 ≡ leaving p ws
unfolding counts
counts_at n ws p h = get_or-map-range_with_len (λ q. leaving q ws) 0 n p p 0 h (omega arith)

counts_push : (n : ℕ) (ws : List Wire) (w : Wire) → w.from < n → counts n (ws ++ w ∷ []) ≡ set (counts n ws) w.from (get_or (counts n ws) w.from 0 + 1)
unfolding counts
counts_push n ws w h = sym (fill_by_all (λ p. leaving p (ws ++ w ∷ [])) (set (counts n ws) w.from (get_or (counts n ws) w.from 0 + 1)) n 0 (length-set _ _ _ ∙ long) at)
  where
    long : length (counts n ws) ≡ n
    long = length-map-range_with_len (λ p. leaving p ws) 0 n

    at : (k : ℕ) → k < n → get_or (set (counts n ws) w.from (get_or (counts n ws) w.from 0 + 1)) k 0 ≡ leaving k (ws ++ w ∷ [])
    at k l = grind (arith, nat_tests, leaving_push k ws w, counts_at n ws k l, counts_at n ws w.from h, get_or-set_at, get_or-set_other, long)

pub tally_at : (ws : List Wire) (p : ℕ) → p < 256 → get_or (tally ws) p 0 ≡ leaving p ws
unfolding tally counts
tally_at ws p h = counts_at 256 ws p h

pub tally_push : (ws : List Wire) (w : Wire) → w.from < 256 → tally (ws ++ w ∷ []) ≡ set (tally ws) w.from (get_or (tally ws) w.from 0 + 1)
unfolding tally counts
tally_push ws w h = counts_push 256 ws w h

-- a table without wires
pub none_tallied : (ws : List Wire) → ws ≡ [] → Tallied ws (replicate 256 0)
unfolding tally
none_tallied ws e = record { counted = ap tally e; onward = rw e; four = λ _. true }

-- one wire more, by the count at its place
module _ (ws : List Wire) (w : Wire) (cs : List ℕ) (i : ℕ) (t : Tallied ws cs) (e : i ≡ w.from) (h : w.from < 256) where
  count_is : leaving w.from ws ≡ get_or cs i 0
  count_is = sym (tally_at ws w.from h) ∙ (ap (λ l. get_or l w.from 0) t.counted ∙ ap (λ n. get_or cs n 0) (sym e))

  pub wired_fifth : length ws < 256 → w.from ≢ w.to → 4 ≤ get_or cs i 0 → wired ws w ≡ Err FifthFromPoint
  wired_fifth l n k = rw (lt-ltb (length ws) 256 l, ne_eqb w.from w.to n, le-ltb (leaving w.from ws) 4 (omega (arith, count_is)))

  pub wired_well : length ws < 256 → w.from ≢ w.to → get_or cs i 0 < 4 → wired ws w ≡ Ok w
  wired_well l n k = rw (lt-ltb (length ws) 256 l, ne_eqb w.from w.to n, lt-ltb (leaving w.from ws) 4 (omega (arith, count_is)))

  pub tallied_push : w.from ≢ w.to → get_or cs i 0 < 4 → (is : List Wire) → is ≡ ws ++ w ∷ [] → Tallied is (set cs i (get_or cs i 0 + 1))
  tallied_push n k is p = rw (p, e) (record {
    counted = tally_push ws w h ∙ ap (λ l. set l w.from (get_or l w.from 0 + 1)) t.counted;
    onward = rw (list_all-append leads_on ws (w ∷ []), t.onward, ne_eqb w.from w.to n);
    four = list_all-from_AllPass (λ (n : ℕ). leb n 4) _ (All-set (λ n. leb n 4 ≡ true) cs w.from _ (le-leb _ _ (rw (← e) (omega arith))) (AllPass-from_list_all (λ (n : ℕ). leb n 4) cs t.four));
  })
