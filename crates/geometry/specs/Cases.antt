-- Document 01's proved case 14: a movement of scale 1 and width 8 in the bytes 10 08 02 00.
use Rattle.std.specs.Prelude.{false, List, [], ◌∷◌, ℕ, pos, negsuc, None}
use Rattle.std.specs.Float.{binary32, binary64}
use Rattle.std.specs.Float.Ieee.{of_int}
use Rattle.geometry.specs.Vectors.{vector}
use Rattle.geometry.specs.Rotations.{rotation}
use Rattle.geometry.specs.declared.Movement.{Movement}

abbrev pub bytes : List ℕ
bytes = 0x10 ∷ 0x08 ∷ 0x02 ∷ 0x00 ∷ []

-- location (-1, 0, 0), the rest 0 or absent
abbrev pub moved : Movement
moved =
    let zero = of_int binary64 (pos 0) in
    let level = of_int binary32 (pos 0) in
    record {
      location = vector (of_int binary64 (negsuc 0)) zero zero;
      rotation = rotation level level level;
      linear = vector zero zero zero;
      angular = None;
      sleep = false;
      physics = false;
      frame = None;
      handle = None;
      padded = 0;
    }
