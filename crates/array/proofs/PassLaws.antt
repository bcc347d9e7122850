-- A pass of the code is a walk of framing's definition: its tests are the definition's, and it starts from a tally of zeros.
use mathlib.Core.Path.{◌≡◌, refl, sym, ap, ◌∙◌}
use mathlib.Core.Bool.{true, false, ◌&&◌}
use mathlib.Core.List.{List, [], ◌∷◌}
use Prim.Native.Nat.{ℕ, ◌+◌, ◌-◌, ◌*◌, ◌/◌, ◌≤◌, ◌<◌}
use native.Mathlib.Omega.{arith}
use lib.ListN.{length}
use lib.Dec.{ltb, eqb}
use borrow.Author.Tests.{ltb-false, lt-ltb, le-ltb}
use Rattle.bits.specs.Bits.{num, field}
use Rattle.bits.specs.Sizes.{longest_window, levels_below}
use Rattle.schema.specs.Tables.{Tables, tables, absent}
use Rattle.schema.specs.Layout.{laid_out, schema_laid, declared_laid, schema_sized, declared_sized, root_fits_lem, all_from}
use Rattle.schema.proofs.LaidLaws.{labels_lie}
use Rattle.framing.specs.declared.Walk.{Walk}
use Rattle.framing.specs.Windows.{window_of}
use Rattle.framing.specs.Events.{error, Trace}
use Rattle.framing.specs.Walk.{level}
use Rattle.framing.specs.Sinks.{Walker, walker, gives_leaves_lem, sink_of, object_sink, walk, walk_window}
use Rattle.framing.specs.Counters.{counted}
use Rattle.framing.specs.Records.{leaf_words}
use Rattle.outputs.specs.World.{World, fresh}
use Rattle.outputs.specs.Answers.{laid, measured_with, held_by}
use Rattle.outputs.proofs.After.{no_length}
use Rattle.steps.specs.Tally.{no_tally, world_of, played}
use Rattle.steps.specs.declared.tally.Tally.{Tally}
use Rattle.steps.specs.Views.{inner, sink_for}
use Rattle.steps.proofs.TallyLaws.{played_none}
use Rattle.array.specs.Passing.{Passable, record_words, words_of, measuring, Needs}
use Rattle.array.specs.Calls.{lent}
use Rattle.array.specs.Refusals.{room_in}
use Rattle.array.specs.declared.Extent.{Extent}

-- ---- which walk

module _ (t : Tables) (lvl : ℕ) where
  -- what its fields are made of, its tables, and what it gives
  sink_is : (s : Walk) → sink_for s t levels_below false lvl ≡ sink_of (walker s t lvl)
  unfolding sink_for sink_of object_sink
  sink_is s = refl

  pub leafy_laid : (s : Walk) (levels : ℕ) → gives_leaves_lem s ≡ true → laid (walker s t lvl) levels ≡ laid_out t levels lvl
  leafy_laid s levels e = rw e refl

-- the numbers of its records
pub leafy_words : (s : Walk) → gives_leaves_lem s ≡ true → record_words s ≡ leaf_words
leafy_words s e = rw e refl

-- ---- what the code leaves is what the walk's trace comes to

whole : (bytes : List ℕ) (n : ℕ) → inner bytes 0 0 n ≡ window_of bytes n
unfolding inner
whole bytes n =
    let e : n - 0 ≡ n = omega arith in
    let o : 0 + 0 ≡ 0 = omega arith in
    λ i. record { bits = field (num bytes) 0 (e i); size = e i; origin = o i }

module _ (s : Walk) (t : Tables) (root : ℕ) (bytes : List ℕ) (n : ℕ) (x : World) where
  pub played_silent : (gives_leaves_lem s && eqb n 0) ≡ true → x ≡ played (walk (walker s t root) bytes n) x
  unfolding walk
  played_silent h = rw h (played_none x)

  module _ (y : World) (told : (gives_leaves_lem s && eqb n 0) ≡ false) where
    pub played_past : length bytes < (n + 7) / 8 → y ≡ played (error ∷ []) x → y ≡ played (walk (walker s t root) bytes n) x
    unfolding walk
    played_past h e = rw (told, lt-ltb (8 * length bytes) n (omega arith)) e

    pub played_level : (n + 7) / 8 ≤ length bytes → y ≡ played (level (sink_for s t levels_below false root) (inner bytes 0 0 n) []) x
        → y ≡ played (walk (walker s t root) bytes n) x
    unfolding walk walk_window
    played_level h e =
        rw (told, le-ltb (8 * length bytes) n (omega arith))
        (e ∙ (λ i. played (level (sink_is t root s i) (whole bytes n i) []) x))

-- ---- what a pass asks

pub passable : (n : ℕ) (t : Tables) (levels root : ℕ) → ltb longest_window n ≡ false → laid_out t levels root ≡ true → Passable n t
passable n t levels root small good = record { small = ltb-false longest_window n small; labels = labels_lie t levels root good }

-- no tables keep their layout
pub none_laid : laid_out (tables [] [] [] []) 0 absent ≡ true
unfolding laid_out schema_laid declared_laid schema_sized declared_sized root_fits_lem all_from
none_laid = refl

-- ---- a pass from nothing

pub starts_fresh : (t : Tally) (records paths payloads : List ℕ) → t ≡ no_tally → world_of t records paths payloads ≡ fresh records paths payloads
unfolding world_of
starts_fresh t records paths payloads e = ap (λ (k : Tally). world_of k records paths payloads) e

-- outputs of no length stay empty; the walk started from the tally t
pub measures : (t d : Tally) (u : Trace) (l p y : List ℕ) → t ≡ no_tally → length l ≡ 0 → length p ≡ 0 → length y ≡ 0 → world_of d l p y ≡ played u (world_of t [] [] [])
    → world_of d [] [] [] ≡ played u (fresh [] [] [])
measures t d u l p y et el ep ey e =
    let nl = no_length l el in
    let np = no_length p ep in
    let ny = no_length y ey in
    sym (λ i. world_of d (nl i) (np i) (ny i)) ∙ e ∙ ap (played u) (starts_fresh t [] [] [] et)

-- ---- what is read off a pass

pub counters_in_lem : (tally : Tally) (e f t r n b i : ℕ) → e ≡ tally.elements → f ≡ tally.fields → t ≡ tally.truncations → r ≡ tally.errors
    → n ≡ tally.nested → b ≡ tally.root → i ≡ tally.implicit → counted e f t r n b i ≡ (world_of tally [] [] []).counters
unfolding world_of
counters_in_lem tally e f t r n b i p₀ p₁ p₂ p₃ p₄ p₅ p₆ = λ k. counted (p₀ k) (p₁ k) (p₂ k) (p₃ k) (p₄ k) (p₅ k) (p₆ k)

pub padded_in_lem : (tally : Tally) (n : ℕ) → n ≡ tally.padded → n ≡ (world_of tally [] [] []).padded
unfolding world_of
padded_in_lem tally n e = e

module _ (k : Walker) (bytes : List ℕ) (bits : ℕ) where
  pub needs_in : (e : Extent) (tally : Tally) → world_of tally [] [] [] ≡ measuring k bytes bits
      → room_in e ≡ measured_with (words_of k) (world_of tally [] [] []) → Needs k bytes bits e
  needs_in e tally is x = x ∙ ap (measured_with (words_of k)) is

module _ (tally : Tally) (records paths payloads : List ℕ) (u : World) (is : world_of tally records paths payloads ≡ u) where
  -- of what the pass left lent, as it is once it is lent no more
  pub held_in : (r p y : List ℕ) → r ≡ records → p ≡ paths → y ≡ payloads → lent r p y ≡ held_by u
  unfolding world_of
  held_in r p y er ep ey = (λ i. lent (er i) (ep i) (ey i)) ∙ ap held_by is

  pub stats_in : (world_of tally [] [] []).counters ≡ u.counters
  unfolding world_of
  stats_in = ap (λ (w : World). w.counters) is

  pub pads_in : (world_of tally [] [] []).padded ≡ u.padded
  unfolding world_of
  pads_in = ap (λ (w : World). w.padded) is
