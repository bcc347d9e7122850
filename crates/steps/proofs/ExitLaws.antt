-- What the code's tests behind a terminator make of the level's last events.
use Rattle.std.specs.Prelude.{if◌then◌else◌}
use Rattle.std.proofs.Common.{◌≡◌, ℕ, ◌+◌, ◌-◌, ◌≤◌, Bool, true, false, ◌&&◌, eqb, List, [], ◌∷◌, sym, refl, ap, ◌∙◌, arith, eq-eqb, ne_eqb}
use Rattle.bits.specs.Sizes.{trailer_bits}
use Rattle.bits.specs.Packed.{Number}
use Rattle.bits.specs.Padded.{padded_among}
use Rattle.bits.proofs.PaddedLaws.{one_byte}
use Rattle.framing.specs.Windows.{Reading, got, failed, reading}
use Rattle.framing.specs.Events.{number, error, nested, root, Trace}
use Rattle.framing.specs.Walk.{Sink, number_at, trailer_of, closing}
use Rattle.outputs.specs.World.{World}
use Rattle.steps.specs.Tally.{played, padding}
use Rattle.steps.specs.Views.{inner, up_to, leftover_of}
use Rattle.steps.specs.Heads.{number_read, number_of}
use Rattle.std.specs.Prelude.{None}
use Rattle.steps.proofs.TallyLaws.{played_number}
use Rattle.steps.proofs.HeadLaws.{number_got, number_failed, number_within}
use Rattle.steps.proofs.ViewLaws.{reading_start}

-- what is left, counted as nested bits or as root bits
module _ (W W' : World) (n : ℕ) where
  pub left_inside : (inside : Bool) → inside ≡ true → W' ≡ played (nested n ∷ []) W → W' ≡ played (leftover_of inside n ∷ []) W
  left_inside inside e d = rw e d

  pub left_outside : (inside : Bool) → inside ≡ false → W' ≡ played (root n ∷ []) W → W' ≡ played (leftover_of inside n ∷ []) W
  left_outside inside e d = rw e d

-- The level whose terminator ends before bit b, in the world W, which the code makes W'.
module _ (s : Sink) (bytes : List ℕ) (base b end : ℕ) (W W' : World) (h : b ≤ end) where
  closes_with : (t : Trace) → closing s (inner bytes base b end) 0 ≡ t → W' ≡ played t W → W' ≡ played (closing s (inner bytes base b end) 0) W
  closes_with t e d = d ∙ ap (λ (u : Trace). played u W) (sym e)

  all_left : end - b - 0 ≡ end - b
  all_left = omega arith

  leaves_all : s.trailer && eqb (end - b) trailer_bits ≡ false → closing s (inner bytes base b end) 0 ≡ s.leftover (end - b) ∷ []
  unfolding closing inner
  leaves_all e = simp (all_left, e)

  pub closes_plainly : s.trailer ≡ false → W' ≡ played (s.leftover (end - b) ∷ []) W → W' ≡ played (closing s (inner bytes base b end) 0) W
  closes_plainly e d = closes_with (s.leftover (end - b) ∷ []) (leaves_all (simp e)) d

  pub closes_longer : (end - b ≡ trailer_bits → ⊥) → W' ≡ played (s.leftover (end - b) ∷ []) W → W' ≡ played (closing s (inner bytes base b end) 0) W
  closes_longer n d = closes_with (s.leftover (end - b) ∷ []) (leaves_all (none s.trailer (ne_eqb (end - b) trailer_bits n))) d
    where
      none : (x : Bool) → eqb (end - b) trailer_bits ≡ false → x && eqb (end - b) trailer_bits ≡ false
      none true e = e
      none false e = refl

  module _ (takes : s.trailer ≡ true) (eight : end - b ≡ trailer_bits) where
    trailed : closing s (inner bytes base b end) 0 ≡ trailer_of s (inner bytes base b end) 0 (reading (inner bytes base b end) 0)
    unfolding closing inner
    trailed = simp (all_left, takes, eq-eqb (end - b) trailer_bits eight)

    trailed_by : (r : Reading) → reading (up_to bytes end) b ≡ r → closing s (inner bytes base b end) 0 ≡ trailer_of s (inner bytes base b end) 0 r
    trailed_by r e = trailed ∙ ap (trailer_of s (inner bytes base b end) 0) (reading_start bytes base b end h ∙ e)

    pub trailer_failed : number_of b (reading (up_to bytes end) b) ≡ None → W' ≡ played (error ∷ []) W
        → W' ≡ played (closing s (inner bytes base b end) 0) W
    trailer_failed e d = closes_with (error ∷ []) (trailed_by failed (number_failed _ _ e)) d

    module _ (v q : ℕ) {x : Bool} (e : number_of b (reading (up_to bytes end) b) ≡ number_read v q x) where
      -- it has one byte
      short : (number_got (up_to bytes end) b v q e).bytes ≤ 1
      unfolding up_to
      short =
          let n = (number_got (up_to bytes end) b v q e).next_is in
          let r = (number_within (up_to bytes end) b v q e).1 in
          omega arith

      unpadded : (x : Number) → x.bytes ≤ 1 → W ≡ padding (padded_among (x ∷ [])) W
      unfolding padding padded_among
      unpadded x l = sym (ap (λ (y : Bool). padding ((if y then 1 else 0) + 0) W) (one_byte x.value x.bytes l))

      -- a zero is taken
      pub trailer_zero : v ≡ 0 → W' ≡ played (s.leftover 0 ∷ []) W → W' ≡ played (closing s (inner bytes base b end) 0) W
      trailer_zero z d =
          let g = number_got (up_to bytes end) b v q e in
          let x = number_at (inner bytes base b end) 0 g.bytes v in
          closes_with (number x ∷ s.leftover 0 ∷ []) (trailed_by (got v g.bytes) g.is ∙ simp (eq-eqb v 0 z))
          (d ∙ ap (played (s.leftover 0 ∷ [])) (unpadded x short) ∙ played_number x (s.leftover 0 ∷ []) W)

      -- another value stays
      pub trailer_more : (v ≡ 0 → ⊥) → W' ≡ played (s.leftover (end - b) ∷ []) W → W' ≡ played (closing s (inner bytes base b end) 0) W
      trailer_more n d =
          let g = number_got (up_to bytes end) b v q e in
          closes_with (s.leftover (end - b) ∷ [])
          (trailed_by (got v g.bytes) g.is ∙ simp (ne_eqb v 0 n) (ap (λ (k : ℕ). s.leftover k ∷ []) (sym eight))) d
