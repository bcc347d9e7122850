-- The tally: each count of one of its numbers is the event that the number stands for.
use Rattle.std.proofs.Common.{◌≡◌, ℕ, zero, suc, ◌+◌, ◌%◌, ◌^◌, List, [], ◌∷◌, ◌++◌, length, sym, refl, ap, ◌∙◌, zero-add, arith}
use Rattle.bits.specs.Runs.{store}
use Rattle.bits.specs.Packed.{Number}
use Rattle.bits.specs.Padded.{is_padded, padded_among}
use Rattle.bits.proofs.ChoiceLaws.{by_cases}
use Rattle.bits.proofs.PaddedLaws.{among_append}
use Rattle.framing.specs.Events.{Leaf, Entered, Pair, numbers, Event, number, element, array, leaf, pair, truncation, error, implicit, nested, root, Trace}
use Rattle.framing.specs.Records.{leaf_words, leaf_record, pair_words, pair_record, payload_of}
use Rattle.outputs.specs.World.{World, counting, apply}
use Rattle.steps.specs.Tally.{world_of, played, padding, Pads, added, reserved}
use Rattle.steps.specs.declared.tally.Tally.{Tally}

-- ---- one event counted

module _ (t : Tally) (records paths payloads : List ℕ) (n : ℕ) where
  pub count_element : (at : List ℕ) → n ≡ added t.elements 1 → world_of (record t { elements = n }) records paths payloads ≡ played (element at ∷ []) (world_of t records paths payloads)
  unfolding world_of played apply
  count_element at e = ap (λ (k : ℕ). world_of (record t { elements = k }) records paths payloads) e

  pub count_truncation : n ≡ added t.truncations 1 → world_of (record t { truncations = n }) records paths payloads ≡ played (truncation ∷ []) (world_of t records paths payloads)
  unfolding world_of played apply
  count_truncation e = ap (λ (k : ℕ). world_of (record t { truncations = k }) records paths payloads) e

  pub count_error : n ≡ added t.errors 1 → world_of (record t { errors = n }) records paths payloads ≡ played (error ∷ []) (world_of t records paths payloads)
  unfolding world_of played apply
  count_error e = ap (λ (k : ℕ). world_of (record t { errors = k }) records paths payloads) e

  pub count_nested : (bits : ℕ) → n ≡ added t.nested bits → world_of (record t { nested = n }) records paths payloads ≡ played (nested bits ∷ []) (world_of t records paths payloads)
  unfolding world_of played apply
  count_nested bits e = ap (λ (k : ℕ). world_of (record t { nested = k }) records paths payloads) e

  pub count_root : (bits : ℕ) → n ≡ added t.root bits → world_of (record t { root = n }) records paths payloads ≡ played (root bits ∷ []) (world_of t records paths payloads)
  unfolding world_of played apply
  count_root bits e = ap (λ (k : ℕ). world_of (record t { root = k }) records paths payloads) e

  pub count_implicit : n ≡ added t.implicit 1 → world_of (record t { implicit = n }) records paths payloads ≡ played (implicit ∷ []) (world_of t records paths payloads)
  unfolding world_of played apply
  count_implicit e = ap (λ (k : ℕ). world_of (record t { implicit = k }) records paths payloads) e

  count_padded_lem : n ≡ added t.padded 1 → world_of (record t { padded = n }) records paths payloads ≡ padding 1 (world_of t records paths payloads)
  unfolding world_of padding
  count_padded_lem e = ap (λ (k : ℕ). world_of (record t { padded = k }) records paths payloads) e

-- ---- traces

-- so many more padded numbers, and then others
pub padding_more : (m n : ℕ) (w : World) → padding (m + n) w ≡ padding n (padding m w)
unfolding padding
padding_more zero n w = ap (λ (k : ℕ). padding k w) (zero-add n)
padding_more (suc m) n w =
    let e : suc m + n ≡ suc (m + n) = omega arith in
    ap (λ (k : ℕ). padding k w) e ∙ padding_more m n (counting w.counters ((w.padded + 1) % 2 ^ 32) w)

-- what the code counted of padded numbers: none, as many as the definition's, some and then more
pub pads_none : (n : ℕ) (tally : Tally) → n ≡ 0 → Pads n tally tally
unfolding padding
pads_none n tally e records paths payloads = ap (λ (k : ℕ). padding k (world_of tally records paths payloads)) (sym e)

pub pads_as : (m n : ℕ) (tally tally' : Tally) → m ≡ n → Pads n tally tally' → Pads m tally tally'
pads_as m n tally tally' e did records paths payloads = did records paths payloads ∙ ap (λ (k : ℕ). padding k (world_of tally records paths payloads)) (sym e)

pub pads_then : (l m n : ℕ) (tally tally₁ tally₂ : Tally) → l ≡ m + n → Pads m tally tally₁ → Pads n tally₁ tally₂ → Pads l tally tally₂
pads_then l m n tally tally₁ tally₂ e did then-did records paths payloads =
    then-did records paths payloads
    ∙ ap (padding n) (did records paths payloads)
    ∙ sym (ap (λ (k : ℕ). padding k (world_of tally records paths payloads)) e ∙ padding_more m n (world_of tally records paths payloads))

pub pads_one : (n : ℕ) (t : Tally) (padded : ℕ) → n ≡ 1 → padded ≡ added t.padded 1 → Pads n t (record t { padded = padded })
pads_one n t padded e did records paths payloads =
    count_padded_lem t records paths payloads padded did ∙ ap (λ (k : ℕ). padding k (world_of t records paths payloads)) (sym e)

-- no event; one event and then others; a number, of which the code records whether it is padded; an array entered, which it does not record
pub played_none : (w : World) → w ≡ played [] w
unfolding played apply
played_none w = refl

pub played_then : (e : Event) (t : Trace) (w : World) → played t (played (e ∷ []) w) ≡ played (e ∷ t) w
unfolding played apply
played_then e t w = refl

pub played_number : (x : Number) (t : Trace) (w : World) → played t (padding (padded_among (x ∷ [])) w) ≡ played (number x ∷ t) w
unfolding played apply padding padded_among
played_number x t w = by_cases (is_padded x) (λ e. simp e) (λ e. simp e)

-- the same of several
pub played_numbers : (ns : List Number) (t : Trace) (w : World) → played t (padding (padded_among ns) w) ≡ played (numbers ns ++ t) w
unfolding padding padded_among
played_numbers [] t w = refl
played_numbers (x ∷ ns) t w =
    ap (played t) (ap (λ (n : ℕ). padding n w) (among_append (x ∷ []) ns) ∙ padding_more (padded_among (x ∷ [])) (padded_among ns) w)
    ∙ played_numbers ns t (padding (padded_among (x ∷ [])) w)
    ∙ played_number x (numbers ns ++ t) w

pub played_array : (a : Entered) (t : Trace) (w : World) → played t w ≡ played (array a ∷ t) w
unfolding played apply
played_array a t w = refl

-- ---- a leaf or a pair, written and counted

module _ (t : Tally) (records paths payloads : List ℕ) where
  leaf_here : (x : Leaf)
      → world_of (reserved t leaf_words (length x.path) (length (payload_of x)))
      (store records t.records (leaf_record t.paths t.payloads x)) (store paths t.paths x.path) (store payloads t.payloads (payload_of x))
      ≡ played (leaf x ∷ []) (world_of t records paths payloads)
  unfolding world_of reserved played apply
  leaf_here x = refl

  pub leaf_counted : (x : Leaf) (n size : ℕ) (records' paths' payloads' : List ℕ) → n ≡ length x.path → size ≡ length (payload_of x)
      → records' ≡ store records t.records (leaf_record t.paths t.payloads x) → paths' ≡ store paths t.paths x.path → payloads' ≡ store payloads t.payloads (payload_of x)
      → world_of (reserved t leaf_words n size) records' paths' payloads' ≡ played (leaf x ∷ []) (world_of t records paths payloads)
  leaf_counted x n size records' paths' payloads' en es er ep ey =
      (λ i. world_of (reserved t leaf_words (en i) (es i)) (er i) (ep i) (ey i)) ∙ leaf_here x

  pub pair_counted : (x : Pair) (f n : ℕ) (records' : List ℕ) → records' ≡ store records t.records (pair_record x) → f ≡ added t.fields 1 → n ≡ added t.records pair_words
      → world_of (record t { fields = f; records = n }) records' paths payloads ≡ played (pair x ∷ []) (world_of t records paths payloads)
  unfolding world_of played apply
  pair_counted x f n records' er ef en = λ i. world_of (record t { fields = ef i; records = en i }) (er i) paths payloads
