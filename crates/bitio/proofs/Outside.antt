-- Bits outside the window alter nothing: what a call answers depends on the window's number and on how many bytes there are; at a good cursor on
-- the window alone.
use Rattle.std.specs.Prelude.{if◌then◌else◌}
use Rattle.std.proofs.Common.{◌≡◌, ℕ, ◌+◌, ◌-◌, ◌*◌, ◌^◌, ◌<◌, ◌≤◌, min, Bool, true, false, ◌&&◌, ltb, leb, List, length, sym, ap, ◌∙◌, ap₂, arith, ltb-false, le-ltb, Result, Ok, Err}
use Rattle.bits.specs.Bits.{num, field}
use Rattle.bits.specs.Sizes.{longest_window}
use Rattle.bits.proofs.ChoiceLaws.{by_cases}
use Rattle.bits.proofs.FieldLaws.{field_same}
use Rattle.bitio.specs.Cursors.{bits_of, good, window, bad_cursor_lem, at_cursor, asking, opened, seen}
use Rattle.bitio.specs.Reads.{read_lem, read_bits_lem}
use Rattle.bitio.specs.Numbers.{read_int_packed_lem, read_serialized_int_lem}
use Rattle.bitio.specs.Copies.{copy_answer, pasted, copy_target}
use Rattle.bitio.proofs.CursorLaws.{good_true, at_good}
use Rattle.bitio.specs.declared.Cursor.{Cursor}
use Rattle.bitio.specs.declared.Refusal.{Refusal}
use Rattle.bitio.specs.declared.Refusal.TheVariants.{TooLong, Past}

-- the reader of the first n bits
abbrev pub front : (n : ℕ) → Cursor
front n = record { start = 0; pos = 0; len = n }

-- Windows whose bits are the same are the same window.
pub same_window : (s t : List ℕ) (c : Cursor)
    → ((k : ℕ) → k < c.len → field (num s) (c.start + k) 1 ≡ field (num t) (c.start + k) 1) → window s c ≡ window t c
unfolding window
same_window s t c h = field_same (num s) (num t) c.start c.start c.len h

-- Two sets of bytes of whose window every call makes the same.
module _ (s t : List ℕ) (c : Cursor) (w : window s c ≡ window t c)
    (both : (A : Type 0) (inside : ℕ → Result A Refusal) → at_cursor s c inside ≡ at_cursor t c inside) where
  -- Each read is such a call, or looks at the window besides.
  pub same_read : {A : Type 0} (given : ℕ → A) (n : ℕ) → read_lem n given s c ≡ read_lem n given t c
  same_read given n =
      ap₂ (λ (W : ℕ) (k : Result ℕ Refusal). seen (given (field W c.pos n)) k) w (both ℕ (λ W. asking c.len c.pos n (Ok (c.pos + n))))

  pub same_bits : (n : ℕ) → read_bits_lem s c n ≡ read_bits_lem t c n
  unfolding read_bits_lem
  same_bits n = both _ _

  pub same_packed : read_int_packed_lem s c ≡ read_int_packed_lem t c
  same_packed = both _ _

  pub same_serialized : (m : ℕ) → read_serialized_int_lem s c m ≡ read_serialized_int_lem t c m
  same_serialized m = both _ _

-- Two sets of as many bytes.
module _ (s t : List ℕ) (c : Cursor) (l : length s ≡ length t) (w : window s c ≡ window t c) where
  same_good : good s c ≡ good t c
  unfolding good
  same_good = ap (λ (k : ℕ). leb c.pos c.len && leb (c.start + c.len) (min (8 * k) (2 ^ 64 - 1))) l

  same_bad : bad_cursor_lem s c ≡ bad_cursor_lem t c
  same_bad = ap (λ (k : ℕ). Past c.len (min (8 * k) (2 ^ 64 - 1))) l

  -- What a call answers depends on the number of the bytes and on the window's bits alone.
  pub outside_alters_nothing : {A : Type 0} (inside : ℕ → Result A Refusal) → at_cursor s c inside ≡ at_cursor t c inside
  unfolding at_cursor
  outside_alters_nothing inside =
      ap (λ (b : Bool). if b then inside (window s c) else Err (bad_cursor_lem s c)) same_good
      ∙ ap₂ (λ (x : ℕ) (r : Refusal). if good t c then inside x else Err r) w same_bad

  pub outside_read : {A : Type 0} (given : ℕ → A) (n : ℕ) → read_lem n given s c ≡ read_lem n given t c
  outside_read given n = same_read s t c w (λ A. outside_alters_nothing {A = A}) given n

  pub outside_bits : (n : ℕ) → read_bits_lem s c n ≡ read_bits_lem t c n
  outside_bits n = same_bits s t c w (λ A. outside_alters_nothing {A = A}) n

  pub outside_packed : read_int_packed_lem s c ≡ read_int_packed_lem t c
  outside_packed = same_packed s t c w (λ A. outside_alters_nothing {A = A})

  pub outside_serialized : (m : ℕ) → read_serialized_int_lem s c m ≡ read_serialized_int_lem t c m
  outside_serialized m = same_serialized s t c w (λ A. outside_alters_nothing {A = A}) m

  pub outside_copy : (n : ℕ) (d : List ℕ) → (copy_answer s c n d ≡ copy_answer t c n d) × (copy_target s c n d ≡ copy_target t c n d)
  outside_copy n d =
      let a : copy_answer s c n d ≡ copy_answer t c n d = outside_alters_nothing _ in
      (a, ap₂ (λ (W : ℕ) (r : Result ℕ Refusal). pasted d n (field W c.pos n) r) w a)

-- Opening a reader looks at no bit, but only at how many bytes there are.
pub outside_opened : (s t : List ℕ) (n : ℕ) → length s ≡ length t → opened s n ≡ opened t n
unfolding opened
outside_opened s t n l =
    ap (λ (k : ℕ).
    if ltb longest_window n then Err TooLong else
    (if ltb (min (8 * k) (2 ^ 64 - 1)) n then Err (Past n (min (8 * k) (2 ^ 64 - 1))) else Ok (front n))) l

-- However many bytes follow: at a cursor that is good in both a call sees the window alone.
pub longer_alters_nothing : (s t : List ℕ) (c : Cursor) → good s c ≡ true → good t c ≡ true → window s c ≡ window t c
    → {A : Type 0} (inside : ℕ → Result A Refusal) → at_cursor s c inside ≡ at_cursor t c inside
longer_alters_nothing s t c g h w inside = at_good s c inside g ∙ ap inside w ∙ sym (at_good t c inside h)

-- a reader of the first n bits, where there are as many: 1, or a good cursor
module _ (s : List ℕ) (n : ℕ) (h : n ≤ 8 * length s) where
  pub opened_long : ltb longest_window n ≡ true → opened s n ≡ Err TooLong
  unfolding opened
  opened_long e = simp e

  module _ (e : ltb longest_window n ≡ false) where
    held : n ≤ bits_of s
    held = let k : n ≤ longest_window = ltb-false longest_window n e in omega arith

    pub opened_reader : opened s n ≡ Ok (front n)
    unfolding opened
    opened_reader = simp (e, le-ltb (bits_of s) n held)

    pub front_good : good s (front n) ≡ true
    front_good = let h : 0 + n ≤ bits_of s = omega (arith, held) in good_true s (front n) (omega arith) h

-- So opening a reader of bits that both hold answers the same.
pub longer_opened : (s t : List ℕ) (n : ℕ) → n ≤ 8 * length s → n ≤ 8 * length t → opened s n ≡ opened t n
longer_opened s t n h k =
    by_cases (ltb longest_window n)
    (λ e. opened_long s n h e ∙ sym (opened_long t n k e))
    (λ e. opened_reader s n h e ∙ sym (opened_reader t n k e))
