-- A read seen from outside: it is refused, or stands at a bit. `first_or` says it by rules, and composes: reading on behind a part puts the rules
-- of what follows behind the part's.
use Rattle.std.specs.Prelude.{if◌then◌else◌, Result, Ok, Err}
use Prim.Native.Nat.{ℕ, ◌+◌, ◌≤◌}
use mathlib.Core.Path.{◌≡◌, refl, sym, ap, ◌∙◌}
use mathlib.Core.Bool.{Bool, true, false}
use mathlib.Core.List.{List, [], ◌∷◌, ◌++◌}
use mathlib.Core.Option.{Option, none, some}
use lib.Dec.{ltb}
use borrow.Author.Tests.{ltb-false}
use Rattle.bits.specs.Refusals.{Rule, first_of}
use Rattle.bits.proofs.Never.{never}
use Rattle.bitio.specs.Cursors.{asking}
use Rattle.bits.proofs.ChoiceLaws.{by_cases}
use Rattle.bitio.specs.declared.Read.{Read}
use Rattle.bitio.specs.declared.Refusal as bitio
use Rattle.bitio.specs.declared.Refusal.TheVariants.{TooFew}
use Rattle.geometry.specs.Parts.{up_to, and_then, unread}
use Rattle.geometry.specs.declared.Refusal.{Refusal}
use Rattle.geometry.specs.declared.Refusal.TheVariants.{Unread}
use Rattle.promises.specs.MoveOrders.{refusal_of, lacking, behind_all}

pub data Seen : Type 0 where
  stops : Refusal → Seen
  upto : (p : ℕ) → Seen

unfoldable pub first_or : List (Rule Refusal) → Seen → Seen
first_or [] z = z
first_or (r ∷ rs) z = if r.holds then stops r.gives else first_or rs z

abbrev pub refusal_in : Seen → Option Refusal
refusal_in (stops r) = some r
refusal_in (upto p) = none

-- The refusal is the first rule that holds.
pub first_or_lem : (rs : List (Rule Refusal)) (q : ℕ) → refusal_in (first_or rs (upto q)) ≡ first_of rs
unfolding first_or first_of
first_or_lem [] q = refl
first_or_lem (r ∷ rs) q = by_cases r.holds (λ e. simp e) (λ e. simp e (first_or_lem rs q))

-- Rules behind rules.
pub first_append : (xs ys : List (Rule Refusal)) (z : Seen) → first_or (xs ++ ys) z ≡ first_or xs (first_or ys z)
unfolding first_or
first_append [] ys z = refl
first_append (r ∷ xs) ys z = ap (λ (k : Seen). if r.holds then stops r.gives else k) (first_append xs ys z)

-- What stands at a bit met no rule, and what is refused met one, whatever follows.
pub passed : (rs : List (Rule Refusal)) (p q : ℕ) → upto p ≡ first_or rs (upto q) → (p ≡ q) × ((z : Seen) → first_or rs z ≡ z)
unfolding first_or
passed [] p q e = (cc, λ z. refl)
passed (r ∷ rs) p q e = go r.holds (λ k. passed rs p q k) e
  where
    go : (b : Bool) → (upto p ≡ first_or rs (upto q) → (p ≡ q) × ((z : Seen) → first_or rs z ≡ z))
        → upto p ≡ (if b then stops r.gives else first_or rs (upto q))
        → (p ≡ q) × ((z : Seen) → (if b then stops r.gives else first_or rs z) ≡ z)
    go true rest e = let z : ◌≡◌ {A = ℕ} 0 1 = cc in never z
    go false rest e = rest e

-- What is refused met a rule, whatever follows.
pub stopped : (rs : List (Rule Refusal)) (r : Refusal) (q : ℕ) → stops r ≡ first_or rs (upto q) → (z : Seen) → first_or rs z ≡ stops r
unfolding first_or
stopped [] r q e z = let y : ◌≡◌ {A = ℕ} 0 1 = cc in never y
stopped (x ∷ rs) r q e z = go x.holds (λ k. stopped rs r q k z) e
  where
    go : (b : Bool) → (stops r ≡ first_or rs (upto q) → first_or rs z ≡ stops r)
        → stops r ≡ (if b then stops x.gives else first_or rs (upto q)) → (if b then stops x.gives else first_or rs z) ≡ stops r
    go true rest e = sym e
    go false rest e = rest e

-- no rule holds
abbrev pub Passes : List (Rule Refusal) → Type 0
Passes rs = (z : Seen) → first_or rs z ≡ z

-- If none of all rules holds, none of the front ones does.
pub passes_front : (xs ys : List (Rule Refusal)) → Passes (xs ++ ys) → Passes xs
unfolding first_or
passes_front [] ys h z = refl
passes_front (r ∷ xs) ys h z = go r.holds (λ k. passes_front xs ys k z) h
  where
    go : (b : Bool) → (Passes (xs ++ ys) → first_or xs z ≡ z)
        → ((z : Seen) → (if b then stops r.gives else first_or (xs ++ ys) z) ≡ z) → (if b then stops r.gives else first_or xs z) ≡ z
    go true rest h = let y : stops r.gives ≡ upto 0 = h (upto 0) in let x : ◌≡◌ {A = ℕ} 0 1 = cc in never x
    go false rest h = rest h

-- Parts that are all there end in the window.
pub lacking_none : (len p : ℕ) (ns : List ℕ) → p ≤ len → Passes (lacking len p ns) → behind_all p ns ≤ len
unfolding first_or
lacking_none len p [] h k = h
lacking_none len p (n ∷ ns) h k = go (ltb len (p + n)) refl (λ i j. lacking_none len (p + n) ns i j) k
  where
    go : (b : Bool) → ltb len (p + n) ≡ b → (p + n ≤ len → Passes (lacking len (p + n) ns) → behind_all (p + n) ns ≤ len)
        → ((z : Seen) → (if b then stops (Unread (TooFew p len n)) else first_or (lacking len (p + n) ns) z) ≡ z) → behind_all (p + n) ns ≤ len
    go true e rest k = let y : stops (Unread (TooFew p len n)) ≡ upto 0 = k (upto 0) in let x : ◌≡◌ {A = ℕ} 0 1 = cc in never x
    go false e rest k = rest (ltb-false len (p + n) e) k

-- what parts of these widths come to
abbrev pub ending : (len p : ℕ) (ns : List ℕ) → Seen
ending len p ns = first_or (lacking len p ns) (upto (behind_all p ns))

-- ---- answers, seen from outside

abbrev pub seen : {A : Type 0} → Result (Read A) Refusal → Seen
seen (Ok x) = upto x.next
seen (Err r) = stops r

pub seen_refusal : {A : Type 0} (r : Result (Read A) Refusal) → refusal_of r ≡ refusal_in (seen r)
seen_refusal (Ok x) = refl
seen_refusal (Err r) = refl

-- ---- asking for bits, and reading on

module _ {A : Type 0} (view : Result A bitio.Refusal → Seen) (shows : (r : bitio.Refusal) → view (Err r) ≡ stops (Unread r)) where
  -- Bits that are asked for are a part.
  pub ask : (len p n : ℕ) (y : Result A bitio.Refusal) (z : Seen) → (p + n ≤ len → view y ≡ z) → view (asking len p n y) ≡ first_or (lacking len p (n ∷ [])) z
  unfolding asking first_or
  ask len p n y z h = go (ltb len (p + n)) refl
    where
      go : (b : Bool) → ltb len (p + n) ≡ b → view (if b then Err (TooFew p len n) else y) ≡ (if b then stops (Unread (TooFew p len n)) else z)
      go true e = shows (TooFew p len n)
      go false e = h (ltb-false len (p + n) e)

module _ {X A : Type 0} (view : Result A Refusal → Seen) (shows : (r : Refusal) → view (Err r) ≡ stops r) where
  -- behind bits that are asked for
  pub then_asked : (len p n : ℕ) (x : X) (b : Result X bitio.Refusal) (next : X → Result A Refusal) (z : Seen)
      → b ≡ asking len p n (Ok x) → (p + n ≤ len → view (next x) ≡ z) → view (and_then (unread b) next) ≡ first_or (lacking len p (n ∷ [])) z
  unfolding and_then unread
  then_asked len p n x b next z e h =
      ap (λ (k : Result X bitio.Refusal). view (and_then (unread k) next)) e
      ∙ ask (λ k. view (and_then (unread k) next)) (λ r. shows (Unread r)) len p n (Ok x) z h

  -- The rules of what follows stand behind the part's.
  pub read_on : (x : Result (Read X) Refusal) (next : Read X → Result A Refusal) (rs more : List (Rule Refusal)) (q : ℕ) (z : Seen)
      → seen x ≡ first_or rs (upto q) → ((v : X) → Passes rs → seen x ≡ upto q → view (next (up_to v q)) ≡ first_or more z)
      → view (and_then x next) ≡ first_or (rs ++ more) z
  unfolding and_then
  read_on (Ok v) next rs more q z h k =
      let g = passed rs v.next q h in
      ap (λ (n : ℕ). view (next (up_to v.value n))) g.0 ∙ k v.value g.1 (ap upto g.0) ∙ sym (g.1 (first_or more z)) ∙ sym (first_append rs more z)
  read_on (Err r) next rs more q z h k = shows r ∙ sym (stopped rs r q h (first_or more z)) ∙ sym (first_append rs more z)
