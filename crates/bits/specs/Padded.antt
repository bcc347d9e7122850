-- Padded numbers (request 01): packed numbers of more bytes than their value needs, as zero in the bytes `01 00`. They are accepted like others.
use Rattle.std.specs.Prelude.{ℕ, ◌+◌, ◌-◌, ◌*◌, ◌^◌, ◌<◌, ◌≡◌, Bool, ◌&&◌, List, [], ◌∷◌, ltb, if◌then◌else◌, Result, Ok, Err}
use Rattle.bits.specs.Packed.{Packed, whole, packed, Number}
use Rattle.bits.specs.declared.Broken.{Broken}
use Rattle.bits.specs.declared.Found.{Found}

-- A value in so many bytes: more than one, and the value fits in one byte less, so that the last byte's seven bits are 0. Asked of at most five bytes,
-- which is what a packed number has.
unfoldable pub padded : (value bytes : ℕ) → Bool
padded v n = ltb 1 n && ltb v (2 ^ (7 * (n - 1)))

abbrev pub is_padded : Number → Bool
is_padded x = padded x.value x.bytes

-- what stands where a packed number is due, a whole number with whether it is padded
unfoldable pub found : Packed → Result Found Broken
found (Ok x) = Ok (record { value = x.value; bytes = x.bytes; padded = padded x.value x.bytes })
found (Err why) = Err why

-- 1 if so, else 0
abbrev pub once : Bool → ℕ
once b = if b then 1 else 0

-- how many of some numbers are padded
unfoldable pub padded_among : List Number → ℕ
padded_among [] = 0
padded_among (x ∷ l) = once (is_padded x) + padded_among l

-- What padded has to mean: some bits of a window are read as the same value, and are fewer bytes. That it does: framing/proofs/PaddedForms.
pub record ShorterForm (value bytes : ℕ) : Type 0 where
  pub window : ℕ
  pub size : ℕ
  pub place : ℕ
  pub fewer : ℕ
  pub reads : packed window size place ≡ whole value fewer
  pub less : fewer < bytes
