-- Bits outside the window alter nothing: two sets of bytes whose windows have the same bits give the same answers, if there are as many or if the
-- cursor is good in both. Every part is a read at some position of the one window.
use Rattle.std.specs.Prelude.{if◌then◌else◌, Result, Ok, Err}
use Prim.Native.Nat.{ℕ, ◌*◌, ◌≤◌}
use mathlib.Core.Path.{◌≡◌, refl, ap, ◌∙◌}
use mathlib.Core.Bool.{Bool, true, false}
use mathlib.Core.List.{List}
use lib.ListN.{length}
use lib.Dec.{ltb}
use Rattle.bits.specs.Sizes.{longest_window}
use Rattle.bitio.specs.Cursors.{bits_of, good, window, at_cursor, opened}
use Rattle.bitio.proofs.CursorLaws.{good_true, good_le}
use Rattle.bitio.proofs.Outside.{outside_alters_nothing, longer_alters_nothing, outside_opened, longer_opened, front, front_good}
use Rattle.bitio.specs.declared.Cursor.{Cursor}
use Rattle.bitio.specs.declared.Refusal.{Refusal}
use Rattle.bitio.specs.declared.Refusal.TheVariants.{TooLong, Past}
use Rattle.geometry.specs.Parts.{at, and_then, unread}
use Rattle.geometry.specs.Vectors.{read_vector, read_normal}
use Rattle.geometry.specs.Rotations.{read_rotation_lem}
use Rattle.geometry.specs.Movements.{movement_at, read_movement}
use Rattle.geometry.proofs.SameParts.{same_vector, same_normal, same_rotation, same_record}
use Rattle.geometry.specs.declared.RotatorQuantization.{RotatorQuantization}
use Rattle.geometry.specs.declared.VectorQuantization.{VectorQuantization}

-- ---- as many bytes: a cursor is good in both or in neither

module _ (s t : List ℕ) (c : Cursor) (l : length s ≡ length t) (w : window s c ≡ window t c) where
  as_many : (p : ℕ) → Unit {0} → (A : Type 0) (inside : ℕ → Result A Refusal) → at_cursor s (at c p) inside ≡ at_cursor t (at c p) inside
  unfolding window
  as_many p h A inside = outside_alters_nothing s t (at c p) l w inside

  pub outside_vector : (scale : ℕ) → read_vector s c scale ≡ read_vector t c scale
  outside_vector scale = same_vector s t c w (λ p. Unit) (λ p h. tt) as_many tt scale

  pub outside_normal : read_normal s c ≡ read_normal t c
  outside_normal = same_normal s t c w (λ p. Unit) (λ p h. tt) as_many tt

  pub outside_rotation : (n : ℕ) → read_rotation_lem s c n ≡ read_rotation_lem t c n
  outside_rotation n = same_rotation s t c w (λ p. Unit) (λ p h. tt) as_many tt n

  outside_record : (rotation : RotatorQuantization) (location : VectorQuantization) → movement_at s rotation location c ≡ movement_at t rotation location c
  outside_record rotation location = same_record s t c w (λ p. Unit) (λ p h. tt) as_many tt rotation location

-- ---- however many bytes follow: the cursor is good in both, and so is every position of its window

module _ (s t : List ℕ) (c : Cursor) (g : good s c ≡ true) (h : good t c ≡ true) (w : window s c ≡ window t c) where
  follows : (p : ℕ) → p ≤ c.len → (A : Type 0) (inside : ℕ → Result A Refusal) → at_cursor s (at c p) inside ≡ at_cursor t (at c p) inside
  unfolding window
  follows p k A inside =
      longer_alters_nothing s t (at c p) (good_true s (at c p) k (good_le s c g).1) (good_true t (at c p) k (good_le t c h).1) w inside

  here : c.pos ≤ c.len
  here = (good_le s c g).0

  pub longer_vector : (scale : ℕ) → read_vector s c scale ≡ read_vector t c scale
  longer_vector scale = same_vector s t c w (λ p. p ≤ c.len) (λ p k. k) follows here scale

  pub longer_normal : read_normal s c ≡ read_normal t c
  longer_normal = same_normal s t c w (λ p. p ≤ c.len) (λ p k. k) follows here

  pub longer_rotation : (n : ℕ) → read_rotation_lem s c n ≡ read_rotation_lem t c n
  longer_rotation n = same_rotation s t c w (λ p. p ≤ c.len) (λ p k. k) follows here n

  longer_record : (rotation : RotatorQuantization) (location : VectorQuantization) → movement_at s rotation location c ≡ movement_at t rotation location c
  longer_record rotation location = same_record s t c w (λ p. p ≤ c.len) (λ p k. k) follows here rotation location

-- ---- movements, in the reader of the first n bits

module _ (s t : List ℕ) (n : ℕ) (rotation : RotatorQuantization) (location : VectorQuantization) where
  -- a reader that was opened is that one
  in_both : opened s n ≡ opened t n → (ltb longest_window n ≡ false → movement_at s rotation location (front n) ≡ movement_at t rotation location (front n))
      → read_movement s n rotation location ≡ read_movement t n rotation location
  unfolding opened and_then unread
  in_both o e = ap (λ (r : Result Cursor Refusal). and_then (unread r) (movement_at s rotation location)) o ∙ go (ltb longest_window n) refl (ltb (bits_of t) n)
    where
      go : (a : Bool) → ltb longest_window n ≡ a → (b : Bool) →
          let found = if a then Err TooLong else (if b then Err (Past n (bits_of t)) else Ok (front n)) in
          and_then (unread found) (movement_at s rotation location) ≡ and_then (unread found) (movement_at t rotation location)
      go true h b = refl
      go false h true = refl
      go false h false = e h

  pub outside_movement : length s ≡ length t → window s (front n) ≡ window t (front n) → read_movement s n rotation location ≡ read_movement t n rotation location
  outside_movement l w = in_both (outside_opened s t n l) (λ k. outside_record s t (front n) l w rotation location)

  pub longer_movement : n ≤ 8 * length s → n ≤ 8 * length t → window s (front n) ≡ window t (front n)
      → read_movement s n rotation location ≡ read_movement t n rotation location
  longer_movement h k w =
      in_both (longer_opened s t n h k) (λ e. longer_record s t (front n) (front_good s n h e) (front_good t n k e) w rotation location)
