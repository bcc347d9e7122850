-- The padded numbers of a body of n bits are n / 16 at most, and each of its numbers has five bytes at most: they are read one behind the other,
-- and ids, flags and payloads only stand between them.
use Prim.Native.Nat.{ℕ, zero, suc, ◌+◌, ◌*◌, ◌≤◌}
use mathlib.Core.Path.{◌≡◌, refl, subst}
use mathlib.Core.Bool.{Bool, true, false}
use mathlib.Core.List.{List, [], ◌∷◌}
use Rattle.std.specs.Prelude.{Option, None, Some}
use native.Mathlib.Omega.{arith}
use lib.ListN.{length}
use lib.Dec.{leb, eqb}
use borrow.Author.Tests.{eqb-true}
use Rattle.bits.specs.Packed.{Packed, whole, packed, Number, most_bytes}
use Rattle.bits.specs.Runs.{bytes_for}
use Rattle.std.specs.Prelude.{Ok, Err}
use Rattle.bits.proofs.Never.{never}
use Rattle.bits.proofs.ChoiceLaws.{by_cases}
use Rattle.bits.proofs.PackedLaws.{whole_bytes}
use Rattle.bits.proofs.PaddedTakes.{Takes, takes_none, takes_more, takes_wider, takes_both}
use Rattle.fastarray.specs.Body.{window, flag_bits_lem, number_end, as_number, packed_at, Lead, breaks, closes, opens, lead_width, lead_handle, lead_at, Stream, closing_stream, before, with_field, on_lead, fields_from, fields_at, Item, Items, item, with_item_lem, on_fields, items_from, header_bits, deletes, changes, headed, Body, ended, body_of, numbers_of}
use Rattle.fastarray.specs.Answers.{Call, found}

-- ---- a number

record ReadAt (p : ℕ) (x : Number) : Type 0 where
  pub starts : x.start ≡ p
  pub few : x.bytes ≤ most_bytes

number_of : (p : ℕ) (x : Number) (r : Packed) → ((v n : ℕ) → r ≡ whole v n → n ≤ most_bytes) → as_number p r ≡ Some x → ReadAt p x
unfolding as_number
number_of p x (Ok y) f e =
    let q : record { start = p; bytes = y.bytes; value = y.value } ≡ x = cc in
    subst (ReadAt p) q (record { starts = refl; few = f y.value y.bytes refl })
number_of p x (Err why) f e = never cc

number_read : (W len p : ℕ) (x : Number) → packed_at W len p ≡ Some x → ReadAt p x
number_read W len p x e = number_of p x (packed W len p) (whole_bytes W len p) e

read_takes : (x : Number) (l : List Number) (p q r : ℕ) → ReadAt p x → number_end x ≤ q → Takes l q r → Takes (x ∷ l) p r
read_takes x l p q r s h t = takes_more x l p q r s.few (let e = s.starts in omega arith) t

-- ---- a field's numbers, and the payload behind them

abbrev LeadTakes : (p : ℕ) → Lead → Type 0
LeadTakes p breaks = Unit
LeadTakes p (closes h) = Takes (h ∷ []) p (number_end h)
LeadTakes p (opens h w) = Takes (h ∷ w ∷ []) p (number_end w + w.value)

width_takes : (len p : ℕ) (h : Number) → ReadAt p h → (o : Option Number) → ((w : Number) → o ≡ Some w → ReadAt (number_end h) w)
    → LeadTakes p (lead_width len h o)
unfolding lead_width
width_takes len p h s None f = tt
width_takes len p h s (Some w) f = by_cases (leb (number_end w + w.value) len) (λ e. rw e both) (λ e. rw e tt)
  where
    both : Takes (h ∷ w ∷ []) p (number_end w + w.value)
    both =
        read_takes h (w ∷ []) p (number_end h) _ s (omega arith)
        (read_takes w [] (number_end h) (number_end w) _ (f w refl) (omega arith) (takes_none (number_end w) (number_end w + w.value) (omega arith)))

handle_takes : (W len p : ℕ) (o : Option Number) → ((h : Number) → o ≡ Some h → ReadAt p h) → LeadTakes p (lead_handle W len o)
unfolding lead_handle
handle_takes W len p None f = tt
handle_takes W len p (Some h) f =
    by_cases (eqb h.value 0)
    (λ e. rw e (read_takes h [] p (number_end h) (number_end h) (f h refl) (omega arith) (takes_none (number_end h) (number_end h) (omega arith))))
    (λ e. rw e (width_takes len p h (f h refl) (packed_at W len (number_end h)) (number_read W len (number_end h))))

-- ---- an item's fields

abbrev StreamTakes : (p : ℕ) → Stream → Type 0
StreamTakes p r = Takes r.numbers p r.next

with_takes : (p : ℕ) (h w : Number) (o : Option Stream) (r : Stream) → Takes (h ∷ w ∷ []) p (number_end w + w.value)
    → ((st : Stream) → o ≡ Some st → StreamTakes (number_end w + w.value) st) → with_field h w o ≡ Some r → StreamTakes p r
unfolding with_field
with_takes p h w None r t f e = never cc
with_takes p h w (Some st) r t f e =
    let q : before h w st ≡ r = cc in
    subst (StreamTakes p) q (takes_both (h ∷ w ∷ []) st.numbers p _ st.next t (f st refl))

on_takes : (p : ℕ) (l : Lead) (rest : ℕ → Option Stream) (r : Stream) → LeadTakes p l
    → ((q : ℕ) (st : Stream) → rest q ≡ Some st → StreamTakes q st) → on_lead l rest ≡ Some r → StreamTakes p r
unfolding on_lead
on_takes p breaks rest r t f e = never cc
on_takes p (closes h) rest r t f e = let q : closing_stream h ≡ r = cc in subst (StreamTakes p) q t
on_takes p (opens h w) rest r t f e = with_takes p h w (rest (number_end w + w.value)) r t (f (number_end w + w.value)) e

fields_take : (most W len p : ℕ) (r : Stream) → fields_from most W len p ≡ Some r → StreamTakes p r
unfolding fields_from
fields_take zero W len p r e = never cc
fields_take (suc most) W len p r e =
    on_takes p (lead_at W len p) (λ q. fields_from most W len q) r (handle_takes W len p (packed_at W len p) (number_read W len p))
    (λ q st s. fields_take most W len q st s) e

-- ---- items

abbrev ItemsTake : (p : ℕ) → Items → Type 0
ItemsTake p r = Takes (numbers_of r.items) p r.next

with_item : (p q : ℕ) (x : Item) (o : Option Items) (r : Items) → Takes x.numbers p q → ((s : Items) → o ≡ Some s → ItemsTake q s)
    → with_item_lem x o ≡ Some r → ItemsTake p r
unfolding with_item_lem numbers_of
with_item p q x None r t f e = never cc
with_item p q x (Some s) r t f e =
    let i : record { items = x ∷ s.items; next = s.next } ≡ r = cc in
    subst (ItemsTake p) i (takes_both x.numbers (numbers_of s.items) p q s.next t (f s refl))

on_fields_lem : (p id : ℕ) (o : Option Stream) (rest : ℕ → Option Items) (r : Items) → ((st : Stream) → o ≡ Some st → StreamTakes p st)
    → ((q : ℕ) (s : Items) → rest q ≡ Some s → ItemsTake q s) → on_fields id o rest ≡ Some r → ItemsTake p r
unfolding on_fields
on_fields_lem p id None rest r t f e = never cc
on_fields_lem p id (Some st) rest r t f e = with_item p st.next (item id st) (rest st.next) r (t st refl) (f st.next) e

items_take : (count flag W len p : ℕ) (r : Items) → items_from count flag W len p ≡ Some r → ItemsTake p r
unfolding items_from numbers_of
items_take zero flag W len p r e =
    let i : record { items = []; next = p } ≡ r = cc in
    subst (ItemsTake p) i (takes_none p p (omega arith))
items_take (suc count) flag W len p r e = go (leb (p + (32 + flag)) len) refl e (λ q x y. items_take count flag W len q x y)
  where
    go : (b : Bool) → leb (p + (32 + flag)) len ≡ b → items_from (suc count) flag W len p ≡ Some r
        → ((q : ℕ) (x : Items) → items_from count flag W len q ≡ Some x → ItemsTake q x) → ItemsTake p r
    go true h s f =
        takes_wider _ p r.next (p + (32 + flag)) r.next (omega arith) (omega arith)
        (on_fields_lem (p + (32 + flag)) _ (fields_at W len (p + (32 + flag))) (λ q. items_from count flag W len q) r
        (λ st x. fields_take _ W len (p + (32 + flag)) st x) f (rw h at s))
    go false h s f = let z : None ≡ Some r = rw h at s in never cc

-- ---- the body

ended_takes : (W len p : ℕ) (o : Option Items) (b : Body) → ((r : Items) → o ≡ Some r → ItemsTake p r) → ended W len o ≡ Some b
    → Takes (numbers_of b.items) p len
unfolding ended
ended_takes W len p None b f e = never cc
ended_takes W len p (Some r) b f e = go (eqb r.next len) refl e
  where
    go : (x : Bool) → eqb r.next len ≡ x → ended W len (Some r) ≡ Some b → Takes (numbers_of b.items) p len
    go true h s =
        let i : r.items ≡ b.items = cc in
        let n = eqb-true r.next len h in
        subst (λ (l : List Item). Takes (numbers_of l) p len) i (subst (λ (k : ℕ). Takes (numbers_of r.items) p k) n (f r refl))
    go false h s = let z : None ≡ Some b = rw h at s in never cc

body_takes : (flag W len : ℕ) (b : Body) → body_of flag W len ≡ Some b → Takes (numbers_of b.items) 0 len
unfolding body_of
body_takes flag W len b e = go (headed flag W len) refl e
  where
    go : (x : Bool) → headed flag W len ≡ x → body_of flag W len ≡ Some b → Takes (numbers_of b.items) 0 len
    go true h s =
        takes_wider _ 0 len (header_bits + 32 * deletes W) len (omega arith) (omega arith)
        (ended_takes W len (header_bits + 32 * deletes W) (items_from (changes W) flag W len (header_bits + 32 * deletes W)) b
        (λ r q. items_take (changes W) flag W len (header_bits + 32 * deletes W) r q) (rw h at s))
    go false h s = let z : None ≡ Some b = rw h at s in never cc

pub found_takes : (c : Call) (b : Body) → found c ≡ Some b → Takes (numbers_of b.items) 0 c.bits
unfolding found
found_takes c b e = go (eqb (length c.bytes) (bytes_for c.bits)) refl e
  where
    go : (x : Bool) → eqb (length c.bytes) (bytes_for c.bits) ≡ x → found c ≡ Some b → Takes (numbers_of b.items) 0 c.bits
    go true h s = body_takes (flag_bits_lem c.mode) (window c.bytes c.bits) c.bits b (rw h at s)
    go false h s = let z : None ≡ Some b = rw h at s in never cc
