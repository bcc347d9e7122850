-- The laws of request 13, of `merge_from` and of `vrf_merge`: both give the bounded sum of two sets, which is what the laws ask of a merge
-- (TotalLaws, CleanTotals). The theorem on a call is the law's word and the call's name, with `_` between them.
use Rattle.std.specs.Prelude.{Ok, Err}
use mathlib.Core.Path.{◌≡◌, refl, sym, ap, ◌∙◌}
use mathlib.Core.Option.{Option, none, some}
use Rattle.bits.proofs.ChoiceLaws.{by_cases}
use Rattle.framing.specs.Counters.{Counters, sums}
use Rattle.array.specs.Merges.{Sums, summed, overflowing, bounded, merge}
use Rattle.array.specs.Calls.{verdict_named, Judges, Adds}
use Rattle.array.specs.Refusals.{Merged, counters_of_lem, sums_of}
use Rattle.array.proofs.OneAnswer.{stats_with}
use Rattle.array.proofs.StatsLaws.{merge_sums, merge_refused}
use Rattle.array.specs.declared.ArrayDecodeStats.{ArrayDecodeStats}
use Rattle.exports.specs.Calls.{vrf_merge_lem, vrf_verdict_lem}
use Rattle.exports.specs.WalkResults.{counters_in, counters_out, merge_result, verdict_number_lem}
use Rattle.promises.specs.Totals.{Commutes, Associates, ZeroKeeps, Totals, CleanParts, sum_of, in_rattle, in_c}
use Rattle.promises.proofs.TotalLaws.{within, Tells, commutes, associates, zero_keeps, totals}
use Rattle.promises.proofs.CleanTotals.{clean_parts}
use Rattle.promises.proofs.Verdicts.{judged_verdict, judged_vrf_verdict}

-- ---- both merges give bounded sums

-- whatever form sums have
bounded_sum : {A : Type 0} (form : Sums → Option A) (back : Counters → A) → ((c : Counters) → form (summed c) ≡ some (back c))
    → ((c : Counters) → form (overflowing 4 c) ≡ none) → (a b : Counters) → form (merge a b) ≡ within back (sums a b)
bounded_sum form back kept lost a b =
    by_cases (bounded (sums a b))
    (λ e. ap form (sym (merge_sums a b e)) ∙ kept (sums a b) ∙ sym (simp e))
    (λ e. ap form (sym (merge_refused a b e)) ∙ lost a ∙ sym (simp e))

by_merge_from : Tells Adds in_rattle
by_merge_from =
    record {
      back = stats_with;
      back_counts = λ a. refl;
      counts_back = λ c. refl;
      zero_counts = refl;
      told = λ a b r f. given r ∙ ap sum f ∙ bounded_sum sum stats_with (λ c. refl) (λ c. refl) (counters_of_lem a) (counters_of_lem b);
      answers = λ a b.
          by_cases (bounded (sums (counters_of_lem a) (counters_of_lem b)))
          (λ e. record { answer = Ok (stats_with (sums (counters_of_lem a) (counters_of_lem b))); meets = merge_sums (counters_of_lem a) (counters_of_lem b) e })
          (λ e. record { answer = Err (record { left = a }); meets = merge_refused (counters_of_lem a) (counters_of_lem b) e });
    }
  where
    sum : Sums → Option ArrayDecodeStats
    sum (summed c) = some (stats_with c)
    sum (overflowing n c) = none

    given : (r : Merged) → sum_of r ≡ sum (sums_of r)
    given (Ok s) = refl
    given (Err o) = refl

by_vrf_merge : Tells (λ left right r. r ≡ vrf_merge_lem left right) in_c
by_vrf_merge =
    record {
      back = counters_out;
      back_counts = λ a. refl;
      counts_back = λ c. refl;
      zero_counts = refl;
      told = λ a b r f. ap in_c.sum_in f ∙ bounded_sum (λ s. in_c.sum_in (merge_result s)) counters_out (λ c. refl) (λ c. refl) (counters_in a) (counters_in b);
      answers = λ a b. record { answer = vrf_merge_lem a b; meets = refl };
    }

-- ---- 1. Whichever of two sets stands left: both merges are refused, or their sums are equal.

pub commutes_merge_from : Commutes Adds in_rattle
commutes_merge_from = commutes in_rattle by_merge_from

pub commutes_vrf_merge : Commutes (λ left right r. r ≡ vrf_merge_lem left right) in_c
commutes_vrf_merge = commutes in_c by_vrf_merge

-- ---- 2. Three sets, grouped to the left or to the right: both groupings are refused, or their sums are equal.

pub associates_merge_from : Associates Adds in_rattle
associates_merge_from = associates in_rattle by_merge_from

pub associates_vrf_merge : Associates (λ left right r. r ≡ vrf_merge_lem left right) in_c
associates_vrf_merge = associates in_c by_vrf_merge

-- ---- 3. Counters that are all 0, on either side, give the other set back and are no reason to refuse.

pub zero_merge_from : ZeroKeeps Adds in_rattle
zero_merge_from = zero_keeps in_rattle by_merge_from

pub zero_vrf_merge : ZeroKeeps (λ left right r. r ≡ vrf_merge_lem left right) in_c
zero_vrf_merge = zero_keeps in_c by_vrf_merge

-- ---- 4. A list of sets is refused in every order and bracketing, or gives the same total in all of them; it is refused exactly if a sum over it
-- passes 2 ^ 64 - 1.

pub totals_merge_from : Totals Adds in_rattle
totals_merge_from = totals in_rattle by_merge_from

pub totals_vrf_merge : Totals (λ left right r. r ≡ vrf_merge_lem left right) in_c
totals_vrf_merge = totals in_c by_vrf_merge

-- ---- 5. A total is clean exactly if no part counts anything in the five; it is never empty.

pub parts_merge_from : CleanParts Adds in_rattle Judges verdict_named
parts_merge_from = clean_parts in_rattle by_merge_from Judges verdict_named judged_verdict

pub parts_vrf_merge : CleanParts (λ left right r. r ≡ vrf_merge_lem left right) in_c (λ counters r. r ≡ vrf_verdict_lem counters) verdict_number_lem
parts_vrf_merge = clean_parts in_c by_vrf_merge (λ counters r. r ≡ vrf_verdict_lem counters) verdict_number_lem judged_vrf_verdict
