-- The calls are refused exactly when document 01 says, and in its order: a definition's tests are the rules of specs/Order, one after the other.
use Rattle.std.proofs.Common.{◌≡◌, ℕ, ◌+◌, ltb, List, length, refl, ◌∙◌, Result, Ok, Err}
use Rattle.bits.specs.Bits.{field}
use Rattle.bits.specs.Runs.{bytes_for}
use Rattle.bits.specs.Sizes.{longest_window}
use Rattle.bitio.specs.Cursors.{bits_of, good, window, at_cursor, asking, opened, skipped, seen}
use Rattle.bitio.specs.Reads.{read_lem, widest_read, read_bits_lem}
use Rattle.bitio.specs.Copies.{copy_answer}
use Rattle.bits.specs.Refusals.{first_of}
use Rattle.bitio.specs.Order.{refusal_of, opening_rules, taking_rules, reading_rules, copying_rules}
use Rattle.bits.proofs.ChoiceLaws.{by_cases}
use Rattle.bitio.specs.declared.Cursor.{Cursor}
use Rattle.bitio.specs.declared.Refusal.{Refusal}

-- Opening a reader gives 1, then 14, and else no refusal.
pub opening_order : (s : List ℕ) (n : ℕ) → refusal_of (opened s n) ≡ first_of (opening_rules s n)
unfolding opened first_of
opening_order s n =
    by_cases (ltb longest_window n) (λ e. simp e) (λ e. by_cases (ltb (bits_of s) n) (λ h. simp (e, h)) (λ h. simp (e, h)))

-- Skipping n bits gives 14 for a bad cursor, then 7.
pub skipping_order : (s : List ℕ) (c : Cursor) (n : ℕ) → refusal_of (skipped s c n) ≡ first_of (taking_rules s c n)
unfolding at_cursor asking first_of
skipping_order s c n =
    by_cases (good s c)
    (λ g. by_cases (ltb c.len (c.pos + n)) (λ h. simp (g, h)) (λ h. simp (g, h)))
    (λ g. simp g)

-- A read of n bits is refused as the skip of n bits is, whatever value the bits give.
pub seen_refused : {A : Type 0} (x : A) (k : Result ℕ Refusal) → refusal_of (seen x k) ≡ refusal_of k
unfolding seen
seen_refused x (Ok next) = refl
seen_refused x (Err r) = refl

pub read_order : {A : Type 0} (given : ℕ → A) (s : List ℕ) (c : Cursor) (n : ℕ) → refusal_of (read_lem n given s c) ≡ first_of (taking_rules s c n)
read_order given s c n = seen_refused (given (field (window s c) c.pos n)) (skipped s c n) ∙ skipping_order s c n

-- Reading bits gives 14 for a bad cursor, then 13, then 7.
pub reading_order : (s : List ℕ) (c : Cursor) (n : ℕ) → refusal_of (read_bits_lem s c n) ≡ first_of (reading_rules s c n)
unfolding read_bits_lem at_cursor asking first_of
reading_order s c n =
    by_cases (good s c)
    (λ g. by_cases (ltb widest_read n)
    (λ e. simp (g, e))
    (λ e. by_cases (ltb c.len (c.pos + n)) (λ h. simp (g, e, h)) (λ h. simp (g, e, h))))
    (λ g. simp g)

-- Copying gives 14 for a bad cursor, then 14 for the target, then 7.
pub copying_order : (s : List ℕ) (c : Cursor) (n : ℕ) (d : List ℕ) → refusal_of (copy_answer s c n d) ≡ first_of (copying_rules s c n d)
unfolding at_cursor asking first_of
copying_order s c n d =
    by_cases (good s c)
    (λ g. by_cases (ltb (length d) (bytes_for n))
    (λ e. simp (g, e))
    (λ e. by_cases (ltb c.len (c.pos + n)) (λ h. simp (g, e, h)) (λ h. simp (g, e, h))))
    (λ g. simp g)
