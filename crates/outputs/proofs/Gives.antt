-- What a kind of walk gives: struct and exact walks no pairs, object walks no leaves, since no event of theirs is one; payloads have no
-- more bytes than the window has bits, since a payload weighs no more than its bits.
use mathlib.Core.Path.{◌≡◌, refl, ap, ◌∙◌}
use mathlib.Core.List.{List, [], ◌∷◌, ◌++◌}
use Prim.Native.Nat.{ℕ, ◌+◌, ◌≤◌}
use native.Mathlib.Omega.{arith}
use lib.ListN.{length, length-append}
use Rattle.bits.specs.Runs.{bytes_of, bytes_for}
use Rattle.bits.proofs.Never.{never}
use Rattle.bits.proofs.RunLaws.{length_bytes_of}
use Rattle.framing.specs.Events.{Leaf, Event, leaf, leaves, pairs, Trace}
use Rattle.framing.specs.Sinks.{Walker, object, Leafy, walk}
use Rattle.framing.specs.Records.{payload_bytes_lem}
use Rattle.framing.proofs.TraceLaws.{leaves_append}
use Rattle.framing.proofs.RecordLaws.{payload_append}
use Rattle.framing.proofs.EachEvent.{Proper, walk_may, leaves_may, pairs_may, each_never}
use Rattle.framing.proofs.Weighed.{weigh, Weights, walk_weight}

pub no_pairs : (k : Walker) → Leafy k → (bytes : List ℕ) (n : ℕ) → pairs (walk k bytes n) ≡ []
no_pairs k leafy bytes n = each_never (λ x. Leafy k → ⊥) (λ x h. h leafy) (pairs (walk k bytes n)) (pairs_may k (walk k bytes n) (walk_may k bytes n))

no_leafy : Leafy object → ⊥
no_leafy e = never cc

pub no_leaves : (bytes : List ℕ) (n : ℕ) → leaves (walk object bytes n) ≡ []
no_leaves bytes n =
    each_never (λ x. Leafy object × Proper x) (λ x h. no_leafy h.0) (leaves (walk object bytes n)) (leaves_may object (walk object bytes n) (walk_may object bytes n))

-- ---- payload bytes: at most a bit of the window each

abbrev pub loads : Trace → ℕ
loads t = length (payload_bytes_lem (leaves t))

loads_append : (t u : Trace) → loads (t ++ u) ≡ loads t + loads u
loads_append t u = rw (leaves_append t u, payload_append (leaves t) (leaves u)) (length-append (payload_bytes_lem (leaves t)) (payload_bytes_lem (leaves u)))

loads_leaf : (x : Leaf) → loads (leaf x ∷ []) ≡ bytes_for x.width
unfolding payload_bytes_lem
loads_leaf x = length-append (bytes_of (bytes_for x.width) x.payload) [] ∙ ap (λ (n : ℕ). n + 0) (length_bytes_of (bytes_for x.width) x.payload) ∙ omega arith

-- what an event adds
abbrev payloads : Event → ℕ
payloads e = loads (e ∷ [])

payloads_weighs : Weights payloads 0
unfolding payload_bytes_lem
payloads_weighs =
    record {
      number = λ x. omega arith;
      element = λ p. omega arith;
      array = λ p. refl;
      leaf = λ x n some wide. let z = loads_leaf x in omega arith;
      pair = λ x. omega arith;
      nested = λ n. omega arith;
      root = λ n. omega arith;
      truncation = omega arith;
      error = omega arith;
      implicit = omega arith;
      light = omega arith;
    }

added : (t : Trace) → weigh payloads t ≡ loads t
unfolding payload_bytes_lem
added [] = refl
added (e ∷ t) = let z = added t in let y = loads_append (e ∷ []) t in omega arith

pub payload_bound : (k : Walker) (bytes : List ℕ) (n : ℕ) → loads (walk k bytes n) ≤ n
payload_bound k bytes n = let z = walk_weight payloads 0 payloads_weighs k bytes n in let y = added (walk k bytes n) in omega arith
