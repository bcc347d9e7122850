-- The order of the refusals (01, Refusal numbers): the first whose condition holds is given, and none if none holds.
use Rattle.std.specs.Prelude.{ℕ, ◌+◌, not, List, [], ◌∷◌, length, nat_lt, Result, Ok, Err}
use Rattle.std.proofs.Math.Option.{Option, none, some}
use Rattle.bits.specs.Refusals.{Rule, when}
use Rattle.bits.specs.Runs.{bytes_for}
use Rattle.bits.specs.Sizes.{longest_window}
use Rattle.bitio.specs.Cursors.{bits_of, good, bad_cursor_lem}
use Rattle.bitio.specs.Reads.{widest_read}
use Rattle.bitio.specs.declared.Cursor.{Cursor}
use Rattle.bitio.specs.declared.Refusal.{Refusal}
use Rattle.bitio.specs.declared.Refusal.TheVariants.{TooLong, TooFew, TooMany, Past}

-- a bad cursor, before all else
abbrev pub bad_first : List ℕ → Cursor → Rule Refusal
bad_first s c = when (not (good s c)) (bad_cursor_lem s c)

-- fewer than n bits left
abbrev pub fewer : Cursor → (n : ℕ) → Rule Refusal
fewer c n = when (nat_lt c.len (c.pos + n)) (TooFew c.pos c.len n)

-- opening a reader: 1, 14
abbrev pub opening_rules : List ℕ → (n : ℕ) → List (Rule Refusal)
opening_rules s n = when (nat_lt longest_window n) TooLong ∷ when (nat_lt (bits_of s) n) (Past n (bits_of s)) ∷ []

-- a read, skip or inner window of n bits
abbrev pub taking_rules : List ℕ → Cursor → (n : ℕ) → List (Rule Refusal)
taking_rules s c n = bad_first s c ∷ fewer c n ∷ []

-- reading bits: 13, 7
abbrev pub reading_rules : List ℕ → Cursor → (n : ℕ) → List (Rule Refusal)
reading_rules s c n = bad_first s c ∷ when (nat_lt widest_read n) TooMany ∷ fewer c n ∷ []

-- copying: 14 for the target, 7
abbrev pub copying_rules : List ℕ → Cursor → (n : ℕ) → (d : List ℕ) → List (Rule Refusal)
copying_rules s c n d = bad_first s c ∷ when (nat_lt (length d) (bytes_for n)) (Past n (bits_of d)) ∷ fewer c n ∷ []

-- the refusal that an answer is, if it is one
abbrev pub refusal_of : {A : Type 0} → Result A Refusal → Option Refusal
refusal_of (Ok x) = none
refusal_of (Err r) = some r
