-- A leaf's payload is a copy: of the window that is walked it is the bits from the leaf's start on, and what stands in a payload stands in the window
-- around it too. Payload bytes hold these bits and zeros above them, and bytes hold their bits eight by eight (bits/proofs/FieldLaws).
use Prim.Native.Nat.{ℕ, zero, suc, ◌+◌, ◌*◌, ◌/◌, ◌%◌, ◌^◌, ◌≤◌, ◌<◌}
use mathlib.Core.Path.{◌≡◌, refl, sym, ap, ◌∙◌, subst}
use mathlib.Core.Bool.{Bool, true, false}
use mathlib.Core.List.{List, ◌++◌}
use native.Mathlib.Nat.{mod-lt, mod-one, mod-eq_of_lt, div-eq_of_lt, lt_of_lt_of_le}
use native.Mathlib.Omega.{arith}
use lib.Dec.{lit<, ltb}
use lib.ListN.{length}
use borrow.Author.Tests.{ltb-false}
use lib.Pow.{pow_mono, mod-pow-add}
use Rattle.bits.specs.Bits.{num, field, Bytes}
use Rattle.bits.specs.Members.{All}
use Rattle.bits.specs.Runs.{bytes_of, bytes_for}
use Rattle.bits.proofs.FieldLaws.{field_lt, field_field, field_bit}
use Rattle.bits.proofs.MemberLaws.{all_append, all_map}
use Rattle.bits.proofs.RunLaws.{length_bytes_of}
use Rattle.schema.specs.Tables.{Tables}
use Rattle.framing.specs.Windows.{Window, window_of, part}
use Rattle.framing.specs.Events.{Leaf, leaves, Trace}
use Rattle.framing.specs.Copies.{bit_at, LeafCopied}
use Rattle.framing.specs.Records.{payload_of}
use Rattle.framing.specs.declared.Walk.TheVariants as how
use Rattle.framing.specs.Sinks.{Walker, walker, silent, walk}
use Rattle.framing.proofs.TraceLaws.{leaves_append}
use Rattle.framing.proofs.EachEvent.{Proper, whole}
use Rattle.framing.proofs.GrammarStruct.{field_all}
use Rattle.framing.proofs.Lift.{Property, Pieces, StructPieces, ObjectPieces, tables_of, KindPieces, walk_holds}

-- the leaf stands at a bit of the window, of which it tells the bit in the root window, and its payload is what stands there
record At (w : Window) (x : Leaf) : Type 0 where
  bit : ℕ
  starts : x.start ≡ w.origin + bit
  fits : bit + x.width ≤ w.size
  holds : x.payload ≡ field w.bits bit x.width

around : (w : Window) (r k : ℕ) → r + k ≤ w.size → (l : List Leaf) → All (At (part w r k)) l → All (At w) l
around w r k fit =
    all_map (At (part w r k)) (At w)
    (λ x h.
    let s = h.starts in
    let f = h.fits in
    record { bit = r + h.bit; starts = omega arith; fits = omega arith; holds = h.holds ∙ field_field w.bits r k h.bit x.width f })

-- a window as one leaf
all_of_it : (w : Window) (x : Leaf) → w.bits < 2 ^ w.size → x.start ≡ w.origin → x.width ≡ w.size → x.payload ≡ w.bits → At w x
all_of_it w x low s n b =
    record {
      bit = 0;
      starts = omega arith;
      fits = omega arith;
      holds = b ∙ sym (field_all w.bits w.size low) ∙ ap (field w.bits 0) (sym n);
    }

abbrev stand : Property
stand =
    record {
      Good = λ w path p q a. All (At w) (leaves a);
      Stop = λ w path place p a. All (At w) (leaves a);
      Gave = λ h w a. All (At w) (leaves a);
    }

join : (w : Window) (a b : Trace) → All (At w) (leaves a) → All (At w) (leaves b) → All (At w) (leaves (a ++ b))
join w a b g h = subst (All (At w)) (sym (leaves_append a b)) (all_append (At w) (leaves a) (leaves b) g h)

pieces : Pieces stand
pieces =
    record {
      join = λ w path p q r a b g h. join w a b g h;
      halt = λ w path place p q a b g h. join w a b g h;
      leave = λ w path place p a h. h;
      read = λ w path x p q r. tt;
      field = λ w path x y n p q r a says s t fit h. around w r y.value fit (leaves a) h;
      empty = λ h w e. tt;
      ended = λ w path place p e. tt;
      failed = λ w path place p h. tt;
      limited = λ w path place p e. tt;
      left = λ w path p h. tt;
      silent = λ w path e. tt;
    }

struct_pieces : (t : Tables) → StructPieces t (whole t) stand
struct_pieces t =
    record {
      enter = λ w x i p q d path a r low at h. h;
      kept = λ w p d path place fit pos lt here. (record { bit = p; starts = refl; fits = omega arith; holds = refl }, tt);
      deep = λ w lvl h path fit some here low. (all_of_it w _ fit refl refl refl, tt);
      leaf = λ w d lvl h path fit here low. (all_of_it w _ fit refl refl refl, tt);
      child = λ w d lvl h path a some here low g. g;
      left = λ w path p h. tt;
    }

object_pieces : ObjectPieces stand
object_pieces =
    record {
      enter = λ w x p q a r h. h;
      guid = λ h w x i r. tt;
      longer = λ h w x q r. tt;
      unread = λ h w some. tt;
      passed = λ h w some. tt;
      skipped = λ w place p h. tt;
    }

kind_pieces : (k : Walker) → KindPieces k (whole (tables_of k)) stand
kind_pieces (walker how.Struct t lvl) = struct_pieces t
kind_pieces (walker how.Exact t lvl) = struct_pieces t
kind_pieces (walker how.Object t lvl) = object_pieces

-- The payload of every leaf is a field of the walk's bytes, in the first n bits of them.
record Held (bytes : List ℕ) (n : ℕ) (x : Leaf) : Type 0 where
  holds : x.payload ≡ field (num bytes) x.start x.width
  fits : x.start + x.width ≤ n

at_root : (bytes : List ℕ) (n : ℕ) (x : Leaf) → At (window_of bytes n) x → Held bytes n x
at_root bytes n x h =
    let s = h.starts in
    let f = h.fits in
    let same : 0 + h.bit ≡ x.start = omega arith in
    record {
      holds = h.holds ∙ field_field (num bytes) 0 n h.bit x.width f ∙ ap (λ (p : ℕ). field (num bytes) p x.width) same;
      fits = omega arith;
    }

walk_held : (k : Walker) (bytes : List ℕ) (n : ℕ) → All (Held bytes n) (leaves (walk k bytes n))
walk_held k bytes n =
    all_map (At (window_of bytes n)) (Held bytes n) (at_root bytes n) (leaves (walk k bytes n))
    (walk_holds stand pieces k (whole (tables_of k)) (kind_pieces k) bytes n (field_lt (num bytes) 0 n))

-- ---- bytes and their number

-- as many bytes of a number as hold it are the number; and a payload's bytes, as a number, are its bits and nothing above them
pub bytes_number : (n v : ℕ) → num (bytes_of n v) ≡ v % 2 ^ (8 * n)
unfolding bytes_of num
bytes_number zero v = sym (mod-one v)
bytes_number (suc n) v =
    ap (λ (x : ℕ). v % 256 + 256 * x) (bytes_number n (v / 256))
    ∙ swapped (v % 2 ^ 8) (v / 2 ^ 8 % 2 ^ (8 * n))
    ∙ sym (mod-pow-add v (8 * n) 8)
    ∙ ap (λ (x : ℕ). v % 2 ^ x) (omega arith)
  where
    swapped : (b w : ℕ) → b + 256 * w ≡ w * 2 ^ 8 + b
    swapped b w = omega arith

pub payload_number : (x : Leaf) → Proper x → num (payload_of x) ≡ x.payload
payload_number x h = bytes_number (bytes_for x.width) x.payload ∙ mod-eq_of_lt (lt_of_lt_of_le h (pow_mono (omega arith)))

-- ---- bit by bit

bytes_of_are : (k N : ℕ) → Bytes (bytes_of k N)
unfolding bytes_of
bytes_of_are zero N i = lit< tt
bytes_of_are (suc k) N zero = mod-lt N (lit< tt)
bytes_of_are (suc k) N (suc i) = bytes_of_are k (N / 2 ^ 8) i

-- a number has no bits from the power that it is below on
above : (N m j : ℕ) → N < 2 ^ m → m ≤ j → field N j 1 ≡ 0
unfolding field
above N m j h le =
    let z : N / 2 ^ j ≡ 0 = div-eq_of_lt (lt_of_lt_of_le h (pow_mono le)) in
    ap (λ (x : ℕ). x % 2) z

module _ (bytes : List ℕ) (are : Bytes bytes) (n : ℕ) (enough : n ≤ 8 * length bytes) (x : Leaf) (held : Held bytes n x) where
  -- bit j of the payload bytes is that of the walk's bytes, cut off behind the width
  payload_bit : (j : ℕ) → bit_at (payload_of x) (8 * 0 + j) ≡ field (field (num bytes) x.start x.width) j 1
  payload_bit j =
      let front : 8 * 0 + j ≡ j = omega arith in
      let proper : x.payload < 2 ^ x.width = subst (λ (N : ℕ). N < 2 ^ x.width) (sym held.holds) (field_lt (num bytes) x.start x.width) in
      ap (bit_at (payload_of x)) front
      ∙ sym (field_bit (payload_of x) j (bytes_of_are (bytes_for x.width) x.payload))
      ∙ ap (λ (N : ℕ). field N j 1) (payload_number x proper ∙ held.holds)

  held_copied : LeafCopied bytes x
  held_copied =
      let fits = held.fits in
      let long : length (payload_of x) ≡ bytes_for x.width = length_bytes_of (bytes_for x.width) x.payload in
      record {
        same = λ j lt. payload_bit j ∙ field_field (num bytes) x.start x.width j 1 (omega arith) ∙ field_bit bytes (x.start + j) are;
        zeros = λ j le lt.
            payload_bit j ∙ above (field (num bytes) x.start x.width) x.width j (field_lt (num bytes) x.start x.width) le;
        of_bytes = omega arith;
        in_buffer = λ some. omega arith;
      }

-- Every leaf's payload bytes are the bits of the walk's bytes from its start on, as many as its width, and zeros above them. A walk of more bits than
-- the bytes hold has no leaves.
pub walk_copied : (k : Walker) (bytes : List ℕ) → Bytes bytes → (n : ℕ) → All (LeafCopied bytes) (leaves (walk k bytes n))
unfolding walk
walk_copied k bytes are n = go (silent k n) (ltb (8 * length bytes) n) refl refl
  where
    go : (x y : Bool) → silent k n ≡ x → ltb (8 * length bytes) n ≡ y → All (LeafCopied bytes) (leaves (walk k bytes n))
    go true y e f = rw e tt
    go false true e f = rw (e, f) tt
    go false false e f =
        all_map (Held bytes n) (LeafCopied bytes) (held_copied bytes are n (ltb-false (8 * length bytes) n f)) (leaves (walk k bytes n)) (walk_held k bytes n)
