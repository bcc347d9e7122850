-- The packed number (01, Bits and numbers): bytes of eight bits. A byte's low bit says whether another follows; its upper seven bits are
-- value, the lowest group first. There are at most five bytes, and the fifth holds at most 15. A longer form than needed is accepted.
use Rattle.std.specs.Prelude.{ℕ, zero, suc, ◌+◌, ◌-◌, ◌*◌, ◌/◌, ◌%◌, ◌^◌, List, [], ◌∷◌, leb, eqb, if◌then◌else◌, Result, Ok, Err}
use Rattle.bits.specs.Bits.{field}
use Rattle.bits.specs.declared.Broken.{Broken}
use Rattle.bits.specs.declared.Broken.TheVariants.{Cut, GoesOn, Overflows}

abbrev pub most_bytes : ℕ
most_bytes = 5

-- what the fifth byte may hold: a u32 has four bits left for it
abbrev pub fifth_most : ℕ
fifth_most = 15

-- a number that stands whole: its value, and how many bytes it takes
pub record Whole : Type 0 where
  pub value : ℕ
  pub bytes : ℕ

-- What stands where a packed number is due: a whole number, or why there is none.
abbrev pub Packed : Type 0
Packed = Result Whole Broken

abbrev pub whole : (value bytes : ℕ) → Packed
whole v n = Ok (record { value = v; bytes = n })

-- What a number's rest becomes with n bytes before it whose groups are worth v. `Cut` has the whole bytes before the window's end.
unfoldable pub after : (n v : ℕ) → Packed → Packed
after n v (Ok x) = whole (v + 2 ^ (7 * n) * x.value) (n + x.bytes)
after n v (Err (Cut m)) = Err (Cut (n + m))
after n v (Err GoesOn) = Err GoesOn
after n v (Err Overflows) = Err Overflows

-- one of the first four bytes, b, with what follows it
unfoldable pub earlier_byte : (b : ℕ) (rest : Packed) → Packed
earlier_byte b rest = if eqb (b % 2) 0 then whole (b / 2) 1 else after 1 (b / 2) rest

-- the fifth byte b
unfoldable pub fifth_byte : (b : ℕ) → Packed
fifth_byte b = if eqb (b % 2) 0 then (if leb (b / 2) fifth_most then whole (b / 2) 1 else Err Overflows) else Err GoesOn

-- the number whose next byte stands at bit p of the len bits of W; `left` bytes may follow that one
unfoldable pub packed_from : (left W len p : ℕ) → Packed
packed_from zero W len p = if leb (p + 8) len then fifth_byte (field W p 8) else Err (Cut 0)
packed_from (suc left) W len p =
    if leb (p + 8) len then earlier_byte (field W p 8) (packed_from left W len (p + 8)) else Err (Cut 0)

-- the packed number at bit p of the len bits of W
unfoldable pub packed : (W len p : ℕ) → Packed
packed W len p = packed_from (most_bytes - 1) W len p

-- a packed number that was read: its first bit, the bytes that it takes, its value
pub record Number : Type 0 where
  pub start : ℕ
  pub bytes : ℕ
  pub value : ℕ

-- the bits that some numbers take, eight for each byte
abbrev pub bits_among : List Number → ℕ
bits_among [] = 0
bits_among (x ∷ l) = 8 * x.bytes + bits_among l
