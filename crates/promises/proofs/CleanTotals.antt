-- When a total is clean: the five counters behind elements and fields are 0 in it exactly if they are 0 in every part, since no number is negative; and
-- the verdict on a set asks for nothing else.
use mathlib.Core.Path.{◌≡◌, refl, sym, ap, ◌∙◌, subst}
use mathlib.Core.Bool.{true, false}
use mathlib.Core.List.{List, [], ◌∷◌}
use Prim.Native.Nat.{ℕ, ◌+◌}
use native.Mathlib.Omega.{arith}
use borrow.Author.Tests.{eq-eqb}
use Rattle.bits.proofs.ChoiceLaws.{by_cases}
use Rattle.bits.proofs.Never.{never}
use Rattle.framing.specs.Counters.{Counters, sums, is_clean}
use Rattle.framing.specs.Sinks.{Walker}
use Rattle.framing.specs.Verdicts as F
use Rattle.framing.proofs.VerdictLaws.{clean_counts}
use Rattle.array.proofs.StatsLaws.{last_decides}
use Rattle.promises.specs.Verdicts.{Exactly, OnWindow, OnSet}
use Rattle.promises.specs.Totals.{ReadAs, sets, sums_over, Faultless, AllFaultless, OnMerged, CleanParts}
use Rattle.promises.proofs.TotalLaws.{Tells, merge_sum, is_sum, list_sum}

faultless : (c : Counters) → Exactly (is_clean c ≡ true) (Faultless c)
faultless c = (
  λ e.
      let z = clean_counts c e in
      record {
        truncations = ap (λ (d : Counters). d.truncations) z;
        errors = ap (λ (d : Counters). d.errors) z;
        nested_bits_lem = ap (λ (d : Counters). d.nested_bits_lem) z;
        root_bits_lem = ap (λ (d : Counters). d.root_bits_lem) z;
        implicits = ap (λ (d : Counters). d.implicits) z;
      },
  λ h. sym (last_decides c h.truncations h.errors h.nested_bits_lem h.root_bits_lem) ∙ eq-eqb c.implicits 0 h.implicits,
)

-- A sum of two numbers is 0 exactly if both are.
faultless_sum : (a b : Counters) → Exactly (Faultless (sums a b)) (Faultless a × Faultless b)
faultless_sum a b = (
  λ h. (
    record {
      truncations = left_none a.truncations b.truncations h.truncations;
      errors = left_none a.errors b.errors h.errors;
      nested_bits_lem = left_none a.nested_bits_lem b.nested_bits_lem h.nested_bits_lem;
      root_bits_lem = left_none a.root_bits_lem b.root_bits_lem h.root_bits_lem;
      implicits = left_none a.implicits b.implicits h.implicits;
    },
    record {
      truncations = right_none a.truncations b.truncations h.truncations;
      errors = right_none a.errors b.errors h.errors;
      nested_bits_lem = right_none a.nested_bits_lem b.nested_bits_lem h.nested_bits_lem;
      root_bits_lem = right_none a.root_bits_lem b.root_bits_lem h.root_bits_lem;
      implicits = right_none a.implicits b.implicits h.implicits;
    },
  ),
  λ h. record {
    truncations = none_added h.0.truncations h.1.truncations;
    errors = none_added h.0.errors h.1.errors;
    nested_bits_lem = none_added h.0.nested_bits_lem h.1.nested_bits_lem;
    root_bits_lem = none_added h.0.root_bits_lem h.1.root_bits_lem;
    implicits = none_added h.0.implicits h.1.implicits;
  },
)
  where
    left_none : (x y : ℕ) → x + y ≡ 0 → x ≡ 0
    left_none x y e = omega (arith, e)

    right_none : (x y : ℕ) → x + y ≡ 0 → y ≡ 0
    right_none x y e = omega (arith, e)

    none_added : {x y : ℕ} → x ≡ 0 → y ≡ 0 → x + y ≡ 0
    none_added e g = omega (arith, e, g)

chain : {A B C : Type 0} → Exactly A B → Exactly B C → Exactly A C
chain g h = (λ x. h.0 (g.0 x), λ x. g.1 (h.1 x))

module _ {A R : Type 0} (f : ReadAs A R) where
  faultless_total : (l : List A) → Exactly (Faultless (sums_over f l)) (AllFaultless f l)
  faultless_total [] = (λ h. tt, λ h. record { truncations = refl; errors = refl; nested_bits_lem = refl; root_bits_lem = refl; implicits = refl })
  faultless_total (a ∷ l) =
      let k = faultless_total l in
      let s = faultless_sum (f.counts a) (sums_over f l) in
      (λ h. ((s.0 h).0, k.0 (s.0 h).1), λ h. s.1 (h.0, k.1 h.1))

module _ {A R U : Type 0} {adds : A → A → R → Type 0} (f : ReadAs A R) (t : Tells adds f) (judges : A → U → Type 0) (form : F.Verdict → U)
    (judged : (a : A) (v : U) → judges a v → OnSet form (f.counts a) v) where
  on_merged : (s : A) (c : Counters) (parts : Type 0) → f.counts s ≡ c → Exactly (Faultless c) parts → OnMerged form (judges s) (f.counts s) parts
  on_merged s c parts e k =
      let five = subst (λ (d : Counters). Exactly (is_clean d ≡ true) parts) (sym e) (chain (faultless c) k) in
      record {
        counters = five;
        clean = λ v j. chain (judged s v j).clean five;
        not_empty = λ v j. (judged s v j).not_empty;
      }

  pub clean_parts : CleanParts adds f judges form
  clean_parts =
      record {
        of_two = λ a b s r g h.
            on_merged s (sums (f.counts a) (f.counts b)) (Faultless (f.counts a) × Faultless (f.counts b)) (merge_sum f t a b s r g h)
            (faultless_sum (f.counts a) (f.counts b));
        of_list = λ l s g. on_merged s (sums_over f l) (AllFaultless f l) (list_sum f t l s g) (faultless_total f l);
        of_brackets = λ p s g. on_merged s (sums_over f (sets p)) (AllFaultless f (sets p)) (is_sum f t p s g) (faultless_total f (sets p));
      }

-- A walk's counters are faultless exactly if its window isn't partial: they are so where it is clean, and where it has no bits and is empty.
pub faultless_window : {U : Type 0} (form : F.Verdict → U) (k : Walker) (bits : ℕ) (c : Counters) (v : U) → OnWindow form k bits c v
    → Exactly (Faultless c) (v ≡ form F.partial → ⊥)
faultless_window form k bits c v w = (
  λ h p. let z : true ≡ false = sym ((faultless c).1 h) ∙ w.partial.0 p in let n : ◌≡◌ {A = ℕ} 0 1 = cc in never n,
  λ h. by_cases (is_clean c) (λ e. (faultless c).0 e) (λ e. absurd (h (w.partial.1 e))),
)
