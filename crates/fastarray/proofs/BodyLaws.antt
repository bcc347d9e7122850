-- What a body is: counts that can't fit are turned away by the header's test alone, and the items end where the window does.
use Prim.Native.Nat.{ℕ, ◌+◌, ◌*◌, ◌<◌}
use mathlib.Core.Path.{◌≡◌, refl, sym, ap, ◌∙◌}
use mathlib.Core.Bool.{Bool, true, false}
use Rattle.std.specs.Prelude.{Option, None, Some}
use native.Mathlib.Omega.{arith}
use lib.Dec.{eqb}
use borrow.Author.Tests.{eqb-true}
use Rattle.bits.proofs.Never.{never}
use Rattle.fastarray.specs.Body.{header_bits, deletes, changes, headed, Items, Body, ended, body_of}
use Rattle.fastarray.proofs.HeaderLaws.{headed_fits}

-- Counts that can't fit are no body, before any id or item is looked at.
pub impossible_counts : (flag W len : ℕ) → len < header_bits + 32 * deletes W + 40 * changes W → body_of flag W len ≡ None
unfolding body_of
impossible_counts flag W len h = go (headed flag W len) refl
  where
    go : (t : Bool) → headed flag W len ≡ t → body_of flag W len ≡ None
    go true e = let f = headed_fits flag W len e in never (let z : ◌≡◌ {A = ℕ} 0 1 = omega (arith, f.lists) in z)
    go false e = simp e

used_in : Option Body → ℕ
used_in None = 0
used_in (Some b) = b.used

ended_all : (W len : ℕ) (o : Option Items) (b : Body) → ended W len o ≡ Some b → b.used ≡ len
unfolding ended used_in
ended_all W len None b e = let z : ◌≡◌ {A = ℕ} 0 1 = cc in never z
ended_all W len (Some r) b e = go (eqb r.next len) refl
  where
    go : (t : Bool) → eqb r.next len ≡ t → b.used ≡ len
    go true h = sym (ap used_in (simp h at e)) ∙ eqb-true _ _ h
    go false h = let f = (simp h at e) in let z : ◌≡◌ {A = ℕ} 0 1 = cc in never z

-- A body uses all bits of its window.
pub all_used : (flag W len : ℕ) (b : Body) → body_of flag W len ≡ Some b → b.used ≡ len
unfolding body_of
all_used flag W len b e = go (headed flag W len) refl
  where
    go : (t : Bool) → headed flag W len ≡ t → b.used ≡ len
    go true h = ended_all W len _ b (simp h at e)
    go false h = let f = (simp h at e) in let z : ◌≡◌ {A = ℕ} 0 1 = cc in never z
