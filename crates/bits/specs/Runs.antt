-- A number as a run of bytes, and a run of bytes in a buffer.
use Rattle.std.specs.Prelude.{ℕ, zero, suc, ◌+◌, ◌/◌, ◌%◌, ◌^◌, List, [], ◌∷◌, ◌++◌, length, take, drop, leb, if◌then◌else◌}

-- k bytes of the number N, the lowest first
unfoldable pub bytes_of : (k N : ℕ) → List ℕ
bytes_of zero N = []
bytes_of (suc k) N = N % 2 ^ 8 ∷ bytes_of k (N / 2 ^ 8)

-- how many bytes n bits take
abbrev pub bytes_for : ℕ → ℕ
bytes_for n = (n + 7) / 8

-- the buffer d with the run vs from index i on, where it fits
unfoldable pub put : {A : Type 0} → List A → ℕ → List A → List A
put d i vs = take i d ++ vs ++ drop (i + length vs) d

-- the same, and the buffer unchanged where the run does not fit: a run is written whole or not at all
unfoldable pub store : {A : Type 0} → (d : List A) (i : ℕ) (run : List A) → List A
store d i run = if leb (i + length run) (length d) then put d i run else d

-- a lent buffer after a call fills its front with `new`
abbrev pub filled : {A : Type 0} → (new old : List A) → List A
filled new old = new ++ drop (length new) old
