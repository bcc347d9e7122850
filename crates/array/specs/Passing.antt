-- One pass of the code over a window, and both passes: what they ask, and what they come to.
use Rattle.std.specs.Prelude.{ℕ, ◌≤◌, ◌≡◌, Bool, true, false, List, [], Result, Ok, Err, if◌then◌else◌}
use Rattle.bits.specs.Sizes.{longest_window}
use Rattle.schema.specs.Tables.{Tables}
use Rattle.schema.specs.Labels.{LabelsLie}
use Rattle.framing.specs.declared.Walk.{Walk}
use Rattle.framing.specs.Sinks.{Walker, walker, gives_leaves_lem, walk}
use Rattle.framing.specs.Verdicts.{verdict_of}
use Rattle.framing.specs.Records.{leaf_words, pair_words}
use Rattle.framing.specs.Refusing.{within}
use Rattle.outputs.specs.World.{World, fresh}
use Rattle.outputs.specs.Answers.{Lent, room_over, measured_with, held_by}
use Rattle.steps.specs.Tally.{played}
use Rattle.array.specs.Refusals.{counters_of_lem, room_in}
use Rattle.array.specs.Calls.{verdict_is}
use Rattle.array.specs.declared.Extent.{Extent}
use Rattle.array.specs.declared.Walked.{Walked}

-- ---- one pass

-- the window is not too long, and every label lies in its pool
pub record Passable (bits : ℕ) (t : Tables) : Type 0 where
  pub small : bits ≤ longest_window
  pub labels : LabelsLie t

-- ---- both

-- the numbers of a walk's record: a leaf's, or a pair's
abbrev pub record_words : Walk → ℕ
record_words s = if gives_leaves_lem s then leaf_words else pair_words

abbrev pub words_of : Walker → ℕ
words_of (walker s t root) = record_words s

module _ (k : Walker) (bytes : List ℕ) (bits : ℕ) where
  -- the pass that is lent nothing
  abbrev pub measuring : World
  measuring = played (walk k bytes bits) (fresh [] [] [])

  -- it finds that the walk needs so much
  abbrev pub Needs : Extent → Type 0
  Needs e = room_in e ≡ measured_with (words_of k) measuring

  -- Both passes over the lent outputs: what they answer, and what the outputs hold then. An object walk's pairs stand in for leaves.
  module _ (b : Lent) where
    abbrev pub writing : World
    writing = played (walk k bytes bits) (fresh b.leaves b.paths b.payloads)

    abbrev pub enough : Extent → Bool
    enough e = within (room_in e) (room_over (words_of k) b)

    pub data TwoPasses : Result (Walked Extent) Extent → Lent → Type 0 where
      too_short : {e : Extent} → Needs e → enough e ≡ false → TwoPasses (Err e) b
      has_room : {w : Walked Extent} {end : Lent} → Needs w.filled → enough w.filled ≡ true → end ≡ held_by writing
          → counters_of_lem w.stats ≡ writing.counters → verdict_is w.verdict ≡ verdict_of k bits (counters_of_lem w.stats) → w.padded ≡ writing.padded
          → TwoPasses (Ok w) end
