-- What the verdict on a walk's window says of what the walk counted. A struct or exact walk of no bits counts nothing, an object walk of no bits
-- counts one error; so partial is the verdict exactly where something but elements and fields was counted.
use mathlib.Core.Path.{◌≡◌, refl, sym, ap, ◌∙◌, subst}
use mathlib.Core.Bool.{true, false}
use mathlib.Core.List.{List, [], ◌∷◌}
use Prim.Native.Nat.{ℕ, ◌*◌, ◌≤◌}
use native.Mathlib.Omega.{arith}
use lib.Dec.{ltb, eqb}
use lib.ListN.{length}
use borrow.Author.Tests.{le-ltb, eqb-true, eqb-false}
use Rattle.bits.specs.Packed.{packed_from, packed}
use Rattle.bits.proofs.ChoiceLaws.{by_cases}
use Rattle.bits.proofs.Never.{never}
use Rattle.framing.specs.declared.Walk.TheVariants as how
use Rattle.framing.specs.Windows.{reading}
use Rattle.framing.specs.Events.{error, Trace}
use Rattle.framing.specs.Counters.{counters, is_clean}
use Rattle.framing.specs.Walk.{level}
use Rattle.framing.specs.Sinks.{Walker, walker, object_sink, sink_of, silent, walk_window, walk}
use Rattle.framing.specs.Verdicts.{partial, verdict_of}
use Rattle.framing.proofs.VerdictLaws.{partial_set, set_partial, none_partial, some_verdict, says_partial}

-- a silent walk counts nothing
pub silent_walk : (k : Walker) (bytes : List ℕ) (n : ℕ) → silent k n ≡ true → walk k bytes n ≡ []
unfolding walk
silent_walk k bytes n e = rw e

-- where an object walk is sent no bits, one error is counted: there is no count to read
pub error_walk : (k : Walker) (bytes : List ℕ) → silent k 0 ≡ false → walk k bytes 0 ≡ error ∷ []
unfolding walk walk_window sink_of object_sink level reading packed packed_from
error_walk (walker how.Struct t lvl) bytes e = never cc
error_walk (walker how.Exact t lvl) bytes e = never cc
error_walk (walker how.Object t lvl) bytes e = rw (le-ltb (8 * length bytes) 0 (omega arith)) refl

-- one that isn't silent counts an error where its bytes are too few
pub past_walk : (k : Walker) (bytes : List ℕ) (n : ℕ) → silent k n ≡ false → ltb (8 * length bytes) n ≡ true → walk k bytes n ≡ error ∷ []
unfolding walk
past_walk k bytes n e h = rw (e, h)

module _ (k : Walker) (bytes : List ℕ) (n : ℕ) where
  no_bits : silent k n ≡ false → n ≡ 0 → is_clean (counters (walk k bytes n)) ≡ false
  no_bits e z =
      let w : walk k bytes n ≡ error ∷ [] = ap (walk k bytes) z ∙ error_walk k bytes (subst (λ (m : ℕ). silent k m ≡ false) z e) in
      ap (λ (t : Trace). is_clean (counters t)) w

  pub counted_partial : is_clean (counters (walk k bytes n)) ≡ false → verdict_of k n (counters (walk k bytes n)) ≡ partial
  counted_partial h = by_cases (silent k n) silence sound
    where
      silence : silent k n ≡ true → verdict_of k n (counters (walk k bytes n)) ≡ partial
      silence e = let z : true ≡ false = sym (ap (λ (t : Trace). is_clean (counters t)) (silent_walk k bytes n e)) ∙ h in never cc

      sound : silent k n ≡ false → verdict_of k n (counters (walk k bytes n)) ≡ partial
      sound e =
          by_cases (eqb n 0) (λ z. none_partial k n _ e (eqb-true n 0 z))
          (λ z. let f = eqb-false n 0 z in let some : 1 ≤ n = omega arith in some_verdict k n _ some ∙ set_partial _ h)

  pub partial_counted : verdict_of k n (counters (walk k bytes n)) ≡ partial → is_clean (counters (walk k bytes n)) ≡ false
  partial_counted h =
      by_cases (eqb n 0) (λ z. no_bits (says_partial k n _ h) (eqb-true n 0 z))
      (λ z. let f = eqb-false n 0 z in let some : 1 ≤ n = omega arith in partial_set _ (sym (some_verdict k n _ some) ∙ h))
