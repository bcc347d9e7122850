-- A record read back out of a lent buffer.
use Rattle.std.specs.Prelude.{ℕ, ◌+◌, ◌*◌, List, get_or}
use Rattle.framing.specs.Records.{leaf_words, path_start_at, path_length_at, handle_at, payload_bits_at, payload_start_at, window_start_at, pair_words, index_at, guid_at}
use Rattle.outputs.specs.declared.LeafRecord.{LeafRecord}
use Rattle.outputs.specs.declared.PairRecord.{PairRecord}

-- number `place` of leaf i
abbrev pub leaf_number : (leaves : List ℕ) (i place : ℕ) → ℕ
leaf_number leaves i place = get_or leaves (leaf_words * i + place) 0

abbrev pub leaf_at_lem : (leaves : List ℕ) (i : ℕ) → LeafRecord
leaf_at_lem leaves i =
    record {
      path_start = leaf_number leaves i path_start_at;
      path_length = leaf_number leaves i path_length_at;
      handle = leaf_number leaves i handle_at;
      payload_bits = leaf_number leaves i payload_bits_at;
      payload_start = leaf_number leaves i payload_start_at;
      window_start = leaf_number leaves i window_start_at;
    }

-- number `place` of pair i
abbrev pub pair_number : (pairs : List ℕ) (i place : ℕ) → ℕ
pair_number pairs i place = get_or pairs (pair_words * i + place) 0

abbrev pub pair_at : (pairs : List ℕ) (i : ℕ) → PairRecord
pair_at pairs i = record { index = pair_number pairs i index_at; guid = pair_number pairs i guid_at }
