-- A byte's angle as a whole number, for whoever keeps rotations so.
use Rattle.std.specs.Prelude.{ℕ, ltb, if◌then◌else◌}
use Rattle.floats.specs.ByteAngles.{thirty_seconds}

-- the answer for a number above 255; no byte has it, since 255 has 11475
abbrev pub not_abyte : ℕ
not_abyte = 4294967295

-- `byte_angle_steps`: the thirty-seconds of a degree of a byte k, `not_abyte` for any other number
abbrev pub byte_angle_steps_lem : (k : ℕ) → ℕ
byte_angle_steps_lem k = if ltb k 256 then thirty_seconds k else not_abyte
