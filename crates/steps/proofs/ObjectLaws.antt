-- What the code's tests on a field of the object walk make of its events.
use Rattle.std.proofs.Common.{◌≡◌, ℕ, ◌-◌, ◌*◌, ◌≤◌, Bool, true, false, List, [], ◌∷◌, sym, ap, ◌∙◌, arith, eq-eqb, ne_eqb}
use Rattle.bits.specs.Padded.{once, padded_among}
use Rattle.framing.specs.Windows.{Reading, got, failed, reading}
use Rattle.framing.specs.Events.{number, pair, error, nested, Trace}
use Rattle.framing.specs.Walk.{number_at}
use Rattle.framing.specs.Sinks.{guid_of, object_field_lem}
use Rattle.outputs.specs.World.{World}
use Rattle.steps.specs.Tally.{played, padding}
use Rattle.steps.specs.Views.{inner, up_to}
use Rattle.steps.specs.Heads.{number_read, number_of}
use Rattle.std.specs.Prelude.{None}
use Rattle.steps.proofs.TallyLaws.{played_none, played_number}
use Rattle.steps.proofs.HeadLaws.{number_got, number_failed}
use Rattle.steps.proofs.ViewLaws.{reading_start}
use Rattle.steps.proofs.PadLaws.{one_there, level_there, count_took}

-- The field that is the bits b..end of the bytes, in the world W, which the code makes W'.
module _ (bytes : List ℕ) (base b end index : ℕ) (W W' : World) (h : b ≤ end) where
  gives : (first : Bool) (t : Trace) → object_field_lem index first (inner bytes base b end) ≡ t → W' ≡ played t W
      → W' ≡ played (object_field_lem index first (inner bytes base b end)) W
  gives first t e d = d ∙ ap (λ (u : Trace). played u W) (sym e)

  pub object_empty : (first : Bool) → b ≡ end → W' ≡ W → W' ≡ played (object_field_lem index first (inner bytes base b end)) W
  unfolding inner
  object_empty first e d =
      let z : end - b ≡ 0 = omega arith in
      gives first [] (simp (eq-eqb (end - b) 0 z)) (d ∙ played_none W)

  module _ (n : b ≡ end → ⊥) where
    some_bits : end - b ≡ 0 → ⊥
    some_bits z = n (omega arith)

    pub object_later : (first : Bool) → first ≡ false → W' ≡ played (nested (end - b) ∷ []) W → W' ≡ played (object_field_lem index first (inner bytes base b end)) W
    unfolding inner
    object_later first e d = gives first (nested (end - b) ∷ []) (simp (ne_eqb (end - b) 0 some_bits, e)) d

    module _ (first : Bool) (f : first ≡ true) where
      guided : object_field_lem index first (inner bytes base b end) ≡ guid_of index (inner bytes base b end) (reading (inner bytes base b end) 0)
      unfolding inner
      guided = simp (ne_eqb (end - b) 0 some_bits, f)

      guided_by : (r : Reading) → reading (up_to bytes end) b ≡ r → object_field_lem index first (inner bytes base b end) ≡ guid_of index (inner bytes base b end) r
      guided_by r e = guided ∙ ap (guid_of index (inner bytes base b end)) (reading_start bytes base b end h ∙ e)

      pub object_failed : number_of b (reading (up_to bytes end) b) ≡ None → W' ≡ played (error ∷ []) W
          → W' ≡ played (object_field_lem index first (inner bytes base b end)) W
      object_failed e d = gives first (error ∷ []) (guided_by failed (number_failed _ _ e)) d

      module _ (v q : ℕ) {told : Bool} (e : number_of b (reading (up_to bytes end) b) ≡ number_read v q told) (W₁ : World) where
        -- the code has counted it by then, if it is padded
        counted : W₁ ≡ padding (once told) W → W₁ ≡ padding (padded_among (number_at (inner bytes base b end) 0 (number_got (up_to bytes end) b v q e).bytes v ∷ [])) W
        counted c =
            c
            ∙ ap (λ (k : ℕ). padding k W)
            (sym (one_there (up_to bytes end) b v q e)
            ∙ level_there bytes base b end h
            ∙ count_took (inner bytes base b end) 0 v (number_got (up_to bytes end) b v q e).bytes
            (reading_start bytes base b end h ∙ (number_got (up_to bytes end) b v q e).is))

        pub object_pair : q ≡ end → W₁ ≡ padding (once told) W → W' ≡ played (pair (record { index = index; guid = v }) ∷ []) W₁
            → W' ≡ played (object_field_lem index first (inner bytes base b end)) W
        unfolding inner
        object_pair z c d =
            let g = number_got (up_to bytes end) b v q e in
            let l = g.next_is in
            let k : 8 * g.bytes ≡ end - b = omega arith in
            let x = number_at (inner bytes base b end) 0 g.bytes v in
            gives first (number x ∷ pair (record { index = index; guid = v }) ∷ [])
            (guided_by (got v g.bytes) g.is ∙ simp (eq-eqb (8 * g.bytes) (end - b) k))
            (d ∙ ap (played (pair (record { index = index; guid = v }) ∷ [])) (counted c) ∙ played_number x _ W)

        pub object_longer : (q ≡ end → ⊥) → W₁ ≡ padding (once told) W → W' ≡ played (error ∷ []) W₁ → W' ≡ played (object_field_lem index first (inner bytes base b end)) W
        unfolding inner
        object_longer z c d =
            let g = number_got (up_to bytes end) b v q e in
            let l = g.next_is in
            let k : 8 * g.bytes ≡ end - b → ⊥ = λ m. z (omega arith) in
            let x = number_at (inner bytes base b end) 0 g.bytes v in
            gives first (number x ∷ error ∷ [])
            (guided_by (got v g.bytes) g.is ∙ simp (ne_eqb (8 * g.bytes) (end - b) k))
            (d ∙ ap (played (error ∷ [])) (counted c) ∙ played_number x _ W)
