-- Document 01's proved case 14, computed by the definitions.
use Rattle.std.specs.Prelude.{Ok, Err}
use mathlib.Core.Path.{◌≡◌, refl}
use lib.Ieee.{of_int, round, div}
use Rattle.bits.specs.Bits.{num, field}
use Rattle.bits.specs.TwosComplement.{twos}
use Rattle.bitio.specs.Cursors.{good, window, at_cursor, asking, opened, seen}
use Rattle.bitio.specs.Reads.{read_bits_lem}
use Rattle.bitio.specs.Numbers.{halvings, log2, serialized_top, serialized_at}
use Rattle.bitio.specs.declared.Refusal.TheVariants.{TooFew}
use Rattle.geometry.specs.Parts.{up_to, and_then, unread, axis_after, part_at, three_at, together, components_at}
use Rattle.geometry.specs.Vectors.{checked, vector_of, divisor, vector_behind, quantized_at}
use Rattle.geometry.specs.Rotations.{rotation_of}
use Rattle.geometry.specs.Movements.{width_of, scale_of, flags_at, pose_at, spin_at, flagged_at, how_many_lem, extras_at, movement_at, read_movement}
use Rattle.geometry.specs.Cases.{bytes, moved}
use Rattle.geometry.specs.declared.Refusal.TheVariants.{Unread}
use Rattle.geometry.specs.declared.RotatorQuantization.TheVariants.{ByteComponents}
use Rattle.geometry.specs.declared.VectorQuantization.TheVariants.{RoundWholeNumber}

-- 27 bits are read and used; of 26 the last three, asked at bit 24, are not there
pub case_14 :
    (read_movement bytes 27 ByteComponents RoundWholeNumber ≡ Ok (up_to moved 27))
    × (read_movement bytes 26 ByteComponents RoundWholeNumber ≡ Err (Unread (TooFew 24 26 3)))
unfolding num field twos good window at_cursor asking opened seen read_bits_lem halvings log2 serialized_top serialized_at and_then unread axis_after
    part_at three_at together components_at checked vector_of divisor vector_behind quantized_at rotation_of width_of scale_of flags_at pose_at spin_at
    flagged_at how_many_lem extras_at movement_at of_int round div
case_14 = (refl, refl)
