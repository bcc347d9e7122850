-- However many bytes follow, and whatever they hold, a reader of bits that both lists hold is opened alike, and vectors, normals, rotations and
-- movements in the window are the same: each of their parts is read in the window, where the one before it ended. The theorem on a call is
-- `longer_` and the call's name.
use Prim.Native.Nat.{ℕ}
use mathlib.Core.Path.{◌≡◌}
use mathlib.Core.List.{List}
use Rattle.bitio.specs.Cursors.{window, opened}
use Rattle.bitio.proofs.Outside.{same_window, front, longer_opened}
use Rattle.bitio.specs.declared.Cursor.{Cursor}
use Rattle.geometry.specs.Vectors.{read_vector, read_normal}
use Rattle.geometry.specs.Rotations.{read_rotation_lem}
use Rattle.geometry.specs.Movements.{read_movement}
use Rattle.geometry.proofs.Outside.{longer_vector, longer_normal, longer_rotation, longer_movement}
use Rattle.geometry.specs.declared.RotatorQuantization.{RotatorQuantization}
use Rattle.geometry.specs.declared.VectorQuantization.{VectorQuantization}
use Rattle.promises.specs.Outside.{Hold, Inside}

-- `open` answers the same.
pub longer_open : (s t : List ℕ) (n : ℕ) → Hold s t n → opened s n ≡ opened t n
longer_open s t n same = longer_opened s t n same.first same.second

module _ (s t : List ℕ) (c : Cursor) (same : Inside s t c) where
  one_window : window s c ≡ window t c
  one_window = same_window s t c same.same_bits

  -- `read_vector_net_quantize` answers the same.
  pub longer_read_vector_net_quantize : (scale : ℕ) → read_vector s c scale ≡ read_vector t c scale
  longer_read_vector_net_quantize scale = longer_vector s t c same.first same.second one_window scale

  -- `read_fixed_vector_normal` answers the same.
  pub longer_read_fixed_vector_normal : read_normal s c ≡ read_normal t c
  longer_read_fixed_vector_normal = longer_normal s t c same.first same.second one_window

  -- `read_rotation` answers the same.
  pub longer_read_rotation : (w : ℕ) → read_rotation_lem s c w ≡ read_rotation_lem t c w
  longer_read_rotation w = longer_rotation s t c same.first same.second one_window w

-- `read_rep_movement` answers the same.
pub longer_read_rep_movement : (s t : List ℕ) (n : ℕ) (rotation : RotatorQuantization) (location : VectorQuantization) → Hold s t n
    → read_movement s n rotation location ≡ read_movement t n rotation location
longer_read_rep_movement s t n rotation location same =
    longer_movement s t n rotation location same.first same.second (same_window s t (front n) same.same_bits)
