-- Demand 3 (docs/RULES.md): what a cut window's walk has to do with the whole window's.
use Rattle.std.specs.Prelude.{ℕ, ◌+◌, ◌<◌, ◌≡◌, true, List, [], ◌∷◌, ◌++◌, eqb, if◌then◌else◌}
use Rattle.bits.specs.Bits.{field}
use Rattle.bits.specs.Sizes.{trailer_bits}
use Rattle.framing.specs.Windows.{Window}
use Rattle.framing.specs.Events.{Leaf, leaves, pairs, raw_handle, Trace}
use Rattle.framing.specs.Counters.{counters}
use Rattle.framing.specs.Walk.{Sink}
use Rattle.framing.specs.Sinks.{Walker, sink_of}
use Rattle.framing.specs.Verdicts.{clean, verdict_of}

-- without a last leaf that is a kept tail
unfoldable pub drop_tail : List Leaf → List Leaf
drop_tail [] = []
drop_tail (x ∷ []) = if eqb x.handle raw_handle then [] else x ∷ []
drop_tail (x ∷ y ∷ l) = x ∷ drop_tail (y ∷ l)

-- xs is how ys begins
pub record Opens {A : Type 0} (xs ys : List A) : Type 0 where
  pub rest : List A
  pub whole : xs ++ rest ≡ ys

-- The one cut to m bits that may be clean although the longer window is clean too: in a walk that takes a trailer it leaves off exactly the eight
-- bits of one, all of them zero. Where both windows are clean, these bits are the trailer.
pub record LacksTrailer (s : Sink) (w : Window) (m : ℕ) : Type 0 where
  pub takes_one : s.trailer ≡ true
  pub lacks_one : m + trailer_bits ≡ w.size
  pub zero : field w.bits m trailer_bits ≡ 0

-- short: the trace of the first m bits; long: that of the window w
pub record CutOf (k : Walker) (w : Window) (m : ℕ) (short long : Trace) : Type 0 where
  pub same_leaves : Opens (drop_tail (leaves short)) (leaves long)
  pub same_pairs : Opens (pairs short) (pairs long)
  pub not_clean : verdict_of k w.size (counters long) ≡ clean → m < w.size → verdict_of k m (counters short) ≡ clean → LacksTrailer (sink_of k) w m
