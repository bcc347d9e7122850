-- What a walk gives: a list of events, in reading order. Of the numbers taken an answer shows how many are padded; of a leaf it shows all.
-- Where the numbers stand, which arrays were entered and where these lie, and the path that an element's event carries, show in no answer. A number
-- that was looked at and put back is no event.
use Rattle.std.specs.Prelude.{ℕ, List, [], ◌∷◌}
use Rattle.bits.specs.Packed.{Number}

-- path: bytes. start: where the payload begins, in bits of the root window. payload: its bits as a number
pub record Leaf : Type 0 where
  pub path : List ℕ
  pub handle : ℕ
  pub start : ℕ
  pub width : ℕ
  pub payload : ℕ

-- An array in the root window: its path, its first bit there, and how many bits it has. Those that were entered are events; the root's is
-- root_array (specs/Places).
pub record Entered : Type 0 where
  pub path : List ℕ
  pub start : ℕ
  pub width : ℕ

pub record Pair : Type 0 where
  pub index : ℕ
  pub guid : ℕ

pub data Event : Type 0 where
  number : Number → Event  -- a packed number was taken, allowed or not
  element : (path : List ℕ) → Event  -- an element was entered; in an object walk the path is empty
  array : Entered → Event  -- an array in an element was entered
  leaf : Leaf → Event
  pair : Pair → Event
  truncation : Event  -- a limit was met
  error : Event  -- a read failed, or a rule was broken
  implicit : Event  -- the window ended where a terminator was due
  nested : (bits : ℕ) → Event  -- bits of a payload that were stepped past, or that a child left behind its terminator
  root : (bits : ℕ) → Event  -- bits left at the root

abbrev pub Trace : Type 0
Trace = List Event

-- the handle of a kept tail; a field's handle is smaller
abbrev pub raw_handle : ℕ
raw_handle = 4294967295

abbrev pub numbers : List Number → Trace
numbers [] = []
numbers (x ∷ xs) = number x ∷ numbers xs

abbrev pub leaves : Trace → List Leaf
leaves [] = []
leaves (leaf x ∷ t) = x ∷ leaves t
leaves (number x ∷ t) = leaves t
leaves (element p ∷ t) = leaves t
leaves (array a ∷ t) = leaves t
leaves (pair x ∷ t) = leaves t
leaves (truncation ∷ t) = leaves t
leaves (error ∷ t) = leaves t
leaves (implicit ∷ t) = leaves t
leaves (nested n ∷ t) = leaves t
leaves (root n ∷ t) = leaves t

abbrev pub pairs : Trace → List Pair
pairs [] = []
pairs (pair x ∷ t) = x ∷ pairs t
pairs (number x ∷ t) = pairs t
pairs (element p ∷ t) = pairs t
pairs (array a ∷ t) = pairs t
pairs (leaf x ∷ t) = pairs t
pairs (truncation ∷ t) = pairs t
pairs (error ∷ t) = pairs t
pairs (implicit ∷ t) = pairs t
pairs (nested n ∷ t) = pairs t
pairs (root n ∷ t) = pairs t

-- the packed numbers that were taken, of all levels
abbrev pub taken : Trace → List Number
taken [] = []
taken (number x ∷ t) = x ∷ taken t
taken (element p ∷ t) = taken t
taken (array a ∷ t) = taken t
taken (leaf x ∷ t) = taken t
taken (pair x ∷ t) = taken t
taken (truncation ∷ t) = taken t
taken (error ∷ t) = taken t
taken (implicit ∷ t) = taken t
taken (nested n ∷ t) = taken t
taken (root n ∷ t) = taken t

-- the arrays that were entered, of all levels; the root isn't among them
abbrev pub arrays : Trace → List Entered
arrays [] = []
arrays (array a ∷ t) = a ∷ arrays t
arrays (number x ∷ t) = arrays t
arrays (element p ∷ t) = arrays t
arrays (leaf x ∷ t) = arrays t
arrays (pair x ∷ t) = arrays t
arrays (truncation ∷ t) = arrays t
arrays (error ∷ t) = arrays t
arrays (implicit ∷ t) = arrays t
arrays (nested n ∷ t) = arrays t
arrays (root n ∷ t) = arrays t
