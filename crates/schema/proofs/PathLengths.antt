-- How much longer a path gets: by an index of at most four digits in brackets, or by a dot and a label, which is at most a name long.
use mathlib.Core.Path.{◌≡◌}
use mathlib.Core.List.{List}
use Prim.Native.Nat.{ℕ, ◌+◌, ◌≤◌, ◌<◌}
use native.Mathlib.Omega.{arith}
use lib.ListN.{length, length-append}
use Rattle.bits.specs.Sizes.{max_elements, longest_index, longest_label}
use Rattle.bits.proofs.DecimalLaws.{decimal_few}
use Rattle.schema.specs.Tables.{Tables}
use Rattle.schema.specs.Labels.{decimal, label_bytes, LabelLies, at_index, dot}
use Rattle.schema.specs.declared.Label.{Label}
use Rattle.schema.proofs.LaidLaws.{label_length, label_short}

pub index_adds : (path : List ℕ) (i : ℕ) → i < max_elements → length (at_index path i) ≤ length path + longest_index
unfolding at_index
index_adds path i h =
    let d : length (decimal i) ≤ 4 = decimal_few 3 i (omega arith) in
    simp length-append (omega arith)

pub dot_adds : (path label : List ℕ) → length (dot path label) ≡ length path + 1 + length label
unfolding dot
dot_adds path label = simp length-append (omega arith)

pub label_adds : (t : Tables) (path : List ℕ) (handle : ℕ) (x : Label) → LabelLies t x → length (dot path (label_bytes t handle x)) ≤ length path + longest_label
label_adds t path handle x lies =
    let e = dot_adds path (label_bytes t handle x) in
    let n = label_length t handle x lies in
    let s = label_short t handle x lies in
    omega arith
