-- Leaves and pairs as records, path bytes and payload bytes (01, Tables and outputs).
use Rattle.std.specs.Prelude.{ℕ, ◌+◌, ◌/◌, List, [], ◌∷◌, ◌++◌, length}
use Rattle.bits.specs.Runs.{bytes_of, bytes_for}
use Rattle.framing.specs.Events.{Leaf, Pair}

-- a payload's bytes, with zeros above its bits
abbrev pub payload_of : Leaf → List ℕ
payload_of x = bytes_of (bytes_for x.width) x.payload

-- ---- records: the one place that says how many numbers a leaf and a pair have, and which

-- the records in so many numbers: a part of one at the end doesn't count, and is never written
abbrev pub whole_records : (words numbers : ℕ) → ℕ
whole_records words numbers = numbers / words

abbrev pub leaf_words : ℕ
leaf_words = 6

abbrev pub leaf_numbers : (pathStart pathLength handle payloadBits payloadStart windowStart : ℕ) → List ℕ
leaf_numbers pathStart pathLength handle payloadBits payloadStart windowStart =
    pathStart ∷ pathLength ∷ handle ∷ payloadBits ∷ payloadStart ∷ windowStart ∷ []

-- where they stand
abbrev pub path_start_at : ℕ
path_start_at = 0

abbrev pub path_length_at : ℕ
path_length_at = 1

abbrev pub handle_at : ℕ
handle_at = 2

abbrev pub payload_bits_at : ℕ
payload_bits_at = 3

abbrev pub payload_start_at : ℕ
payload_start_at = 4

abbrev pub window_start_at : ℕ
window_start_at = 5

-- pathStart, payloadStart: where the leaf's path and payload start in their buffers; its last number is where the payload starts in the walked window
abbrev pub leaf_record : (pathStart payloadStart : ℕ) → Leaf → List ℕ
leaf_record pathStart payloadStart x = leaf_numbers pathStart (length x.path) x.handle x.width payloadStart x.start

abbrev pub pair_words : ℕ
pair_words = 2

abbrev pub pair_numbers : (index guid : ℕ) → List ℕ
pair_numbers index guid = index ∷ guid ∷ []

abbrev pub index_at : ℕ
index_at = 0

abbrev pub guid_at : ℕ
guid_at = 1

abbrev pub pair_record : Pair → List ℕ
pair_record x = pair_numbers x.index x.guid

unfoldable pub path_bytes_lem : List Leaf → List ℕ
path_bytes_lem [] = []
path_bytes_lem (x ∷ l) = x.path ++ path_bytes_lem l

unfoldable pub payload_bytes_lem : List Leaf → List ℕ
payload_bytes_lem [] = []
payload_bytes_lem (x ∷ l) = payload_of x ++ payload_bytes_lem l

-- each path starts where the one before it ends, and each payload too
unfoldable pub leaf_records : (pathAt payloadAt : ℕ) → List Leaf → List ℕ
leaf_records a b [] = []
leaf_records a b (x ∷ l) = leaf_record a b x ++ leaf_records (a + length x.path) (b + length (payload_of x)) l

unfoldable pub pair_records : List Pair → List ℕ
pair_records [] = []
pair_records (x ∷ l) = pair_record x ++ pair_records l
