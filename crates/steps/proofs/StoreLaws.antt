-- Runs written to an output through a part of it.
use Rattle.std.proofs.Common.{◌≡◌, ℕ, ◌+◌, ◌-◌, ◌*◌, ◌/◌, ◌%◌, ◌^◌, ◌<◌, ◌≤◌, List, [], ◌∷◌, ◌++◌, length, take, drop, sym, refl, ap, ◌∙◌, ap₂, append_assoc, div-one, arith, length-drop, take-append-drop, length-take-le}
use lib.Seq.{drop-append-le}
use borrow.Rule.Slice.PartMut.{mid_of, put_mid}
use Rattle.bits.specs.Bits.{num, field, Bytes}
use Rattle.bits.specs.Runs.{bytes_of, bytes_for, put, store}
use Rattle.bits.proofs.FieldLaws.{field_rest, num_lt, bytes_tail}
use Rattle.bits.proofs.RunLaws.{store_fits, part_put}

-- `f(&mut d[i..], ..)` wrote a run to the front of the part
pub part_run : (d x run : List ℕ) (i k : ℕ) → k ≡ length d - i → i + length run ≤ length d → x ≡ put (mid_of i k d) 0 run → put_mid i k d x ≡ put d i run
unfolding put
part_run d x run i k e fits ex =
    let h = length-drop i d in
    let n : length (take k (drop i d)) ≡ k = length-take-le k (drop i d) (omega arith) in
    let rest : drop (0 + length run) (take k (drop i d)) ++ drop k (drop i d) ≡ drop (0 + length run) (drop i d) =
    sym (drop-append-le (0 + length run) (take k (drop i d)) (drop k (drop i d)) (omega arith)) ∙ ap (drop (0 + length run)) (take-append-drop k (drop i d)) in
    ap (λ (r : List ℕ). take i d ++ (r ++ drop k (drop i d))) ex
    ∙ ap (λ (r : List ℕ). take i d ++ r) (append_assoc run (drop (0 + length run) (take k (drop i d))) (drop k (drop i d)) ∙ ap (λ (r : List ℕ). run ++ r) rest)
    ∙ part_put d i run

pub part_store : (d x run : List ℕ) (i k : ℕ) → k ≡ length d - i → i + length run ≤ length d → x ≡ put (mid_of i k d) 0 run → put_mid i k d x ≡ store d i run
part_store d x run i k e fits ex = part_run d x run i k e fits ex ∙ sym (store_fits d i run fits)

-- bytes are the bytes of their number
pub bytes_num : (s : List ℕ) → Bytes s → bytes_of (length s) (num s) ≡ s
unfolding bytes_of num
bytes_num [] h = refl
bytes_num (b ∷ s) h =
    let b_lt : b < 2 ^ 8 = h 0 in
    let low : (b + 2 ^ 8 * num s) % 2 ^ 8 ≡ b = omega arith in
    let high : (b + 2 ^ 8 * num s) / 2 ^ 8 ≡ num s = omega arith in
    ap₂ (λ (x : ℕ) (l : List ℕ). x ∷ l) low (ap (bytes_of (length s)) high ∙ bytes_num s (bytes_tail b s h))

-- all bits of some bytes, as bytes
pub all_bytes : (s : List ℕ) (n : ℕ) → Bytes s → n ≡ 8 * length s → bytes_of (bytes_for n) (field (num s) 0 n) ≡ s
all_bytes s n h e =
    let k : bytes_for n ≡ length s = omega arith in
    let m : 8 * length s ≤ 0 + n = omega arith in
    ap₂ bytes_of k (field_rest (num s) 0 n (8 * length s) (num_lt s h) m ∙ div-one (num s)) ∙ bytes_num s h

-- a copy of all bits to a part
pub part_copy : (d x s : List ℕ) (i k n : ℕ) → Bytes s → n ≡ 8 * length s → k ≡ length d - i → i + length s ≤ length d
    → x ≡ put (mid_of i k d) 0 (bytes_of (bytes_for n) (field (num s) 0 n)) → put_mid i k d x ≡ put d i s
part_copy d x s i k n h en ek fits ex = part_run d x s i k ek fits (ex ∙ ap (put (mid_of i k d) 0) (all_bytes s n h en))
