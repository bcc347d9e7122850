-- A packed number that is read is called padded exactly if a shorter form of it exists: an accepted answer is made of a number that stands whole in the
-- window, and of such a number the definition of padded means this (framing/proofs/PaddedForms). The struct for C has the same parts, and a refused one
-- another number than 0. The theorem on a call is `padded_` and the call's name.
use Rattle.std.specs.Prelude.{Result, Ok, Err}
use Prim.Native.Nat.{ℕ}
use mathlib.Core.Path.{◌≡◌, refl, sym, ap, ◌∙◌, subst}
use mathlib.Core.List.{List}
use mathlib.Core.Option.{none, some}
use Rattle.bits.specs.Packed.{Packed, packed}
use Rattle.bits.specs.declared.Broken.TheVariants as Num
use Rattle.std.specs.Prelude.{Ok, Err}
use Rattle.bits.proofs.Never.{never}
use Rattle.bitio.specs.Cursors.{window}
use Rattle.bitio.specs.Numbers.{packed_answer, read_int_packed_lem}
use Rattle.bitio.specs.Refusals.{numbered}
use Rattle.bitio.proofs.CursorLaws.{at_holds}
use Rattle.bitio.specs.declared.Cursor.{Cursor}
use Rattle.bitio.specs.declared.PackedNumber.{PackedNumber}
use Rattle.bitio.specs.declared.Read.{Read}
use Rattle.bitio.specs.declared.Refusal.{Refusal}
use Rattle.framing.proofs.PaddedForms.{padded_exactly}
use Rattle.exports.specs.Calls.{vrf_read_packed_lem}
use Rattle.exports.specs.ReadResults.{cursor_of_lem, packed_result}
use Rattle.exports.specs.declared.VrfCursor.{VrfCursor}
use Rattle.exports.specs.declared.VrfPacked.{VrfPacked}
use Rattle.promises.specs.ExportOrders.{given}
use Rattle.promises.specs.Padded.{PaddedAnswer, PaddedInC}
use Rattle.promises.proofs.RefusedExports.{bit_given}

pub answered : (W len at : ℕ) (a : Packed) → packed W len at ≡ a → PaddedAnswer at (packed_answer len at a)
unfolding packed_answer
answered W len at (Ok x) e = record { took = refl; shorter = padded_exactly W len at x.value x.bytes e }
answered W len at (Err (Num.Cut n)) e = tt
answered W len at (Err Num.GoesOn) e = tt
answered W len at (Err Num.Overflows) e = tt

-- `read_int_packed`.
pub padded_read_int_packed : (bytes : List ℕ) (c : Cursor) (r : Result (Read PackedNumber) Refusal) → r ≡ read_int_packed_lem bytes c → PaddedAnswer c.pos r
padded_read_int_packed bytes c r e =
    subst (PaddedAnswer c.pos) (sym e)
    (at_holds bytes c _ (PaddedAnswer c.pos) (λ x. tt) (λ g.
    answered (window bytes c) c.len c.pos (packed (window bytes c) c.len c.pos) refl))

-- ---- for C

-- no refusal has the number 0
not_refused : {A : Type 0} (r : Refusal) → (numbered r).number ≡ 0 → A
not_refused r e =
    let n = numbered r in
    let f : none ≡ some n = ap (λ (k : ℕ). given k n.first n.second n.third) (sym e) ∙ bit_given r in
    let z : ◌≡◌ {A = ℕ} 0 1 = cc in never z

packed_in : (at : ℕ) (a : Result (Read PackedNumber) Refusal) → PaddedAnswer at a → PaddedInC at (packed_result at a)
packed_in at (Ok x) h = record { accepted = λ e. h; refused_took = λ z. absurd (z refl); refused_padded = λ z. absurd (z refl) }
packed_in at (Err r) h = record { accepted = λ e. not_refused r e; refused_took = λ z. refl; refused_padded = λ z. refl }

-- `vrf_read_packed`.
pub padded_vrf_read_packed : (bytes : List ℕ) (cursor : VrfCursor) (r : VrfPacked) → r ≡ vrf_read_packed_lem bytes cursor → PaddedInC cursor.pos r
padded_vrf_read_packed bytes cursor r e =
    let a = read_int_packed_lem bytes (cursor_of_lem cursor) in
    subst (PaddedInC cursor.pos) (sym e) (packed_in cursor.pos a (padded_read_int_packed bytes (cursor_of_lem cursor) a refl))
