-- When a walk is refused, and what it needs (01, Refusal numbers): stated once for all three walks.
use Rattle.std.specs.Prelude.{ℕ, Bool, not, ◌&&◌, length, leb, ltb, if◌then◌else◌}
use Rattle.bits.specs.Sizes.{longest_window}
use Rattle.framing.specs.Events.{leaves, Trace}
use Rattle.framing.specs.Counters.{Counters, counters, padded_in}
use Rattle.framing.specs.Records.{path_bytes_lem, payload_bytes_lem}

-- what a walk that gives leaves needs of each output, or what is lent, in records and bytes
pub record Room : Type 0 where
  pub leaves : ℕ
  pub path_bytes_lem : ℕ
  pub payload_bytes_lem : ℕ

abbrev pub no_room_lem : Room
no_room_lem = record { leaves = 0; path_bytes_lem = 0; payload_bytes_lem = 0 }

unfoldable pub needed : Trace → Room
needed t =
    record {
      leaves = length (leaves t);
      path_bytes_lem = length (path_bytes_lem (leaves t));
      payload_bytes_lem = length (payload_bytes_lem (leaves t));
    }

abbrev pub within : (need lent : Room) → Bool
within need lent = leb need.leaves lent.leaves && leb need.path_bytes_lem lent.path_bytes_lem && leb need.payload_bytes_lem lent.payload_bytes_lem

-- refused: 01's number, and where it is 3 the needs, else zeros. accepted: the counters, how many numbers were padded, and how much of each output
-- is filled
pub data Answer (Need : Type 0) : Type 0 where
  refused : (number : ℕ) (need : Need) → Answer Need
  accepted : Counters → (padded : ℕ) (need : Need) → Answer Need

-- The order 1, 2, 3 (01 has a 5 between them, which request 10 retired). laid: the tables keep their layout; enough: the outputs hold what is needed.
unfoldable pub decided : {Need : Type 0} → (bits : ℕ) (laid : Bool) (trace : Trace) (nothing need : Need) (enough : Bool) → Answer Need
decided bits laid trace nothing need enough =
    if ltb longest_window bits then refused 1 nothing else
    (if not laid then refused 2 nothing else
    (if not enough then refused 3 need else accepted (counters trace) (padded_in trace) need))
