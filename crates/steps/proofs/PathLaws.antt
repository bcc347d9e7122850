-- The working path: what is written behind it, and what it is after it grew.
use Rattle.std.proofs.Common.{◌≡◌, ℕ, suc, ◌+◌, ◌<◌, ◌≤◌, true, false, List, [], ◌∷◌, ◌++◌, length, take, drop, set, sym, refl, ap, ◌∙◌, append_assoc, arith, length-append, length-set, length-take-le, take_at}
use Rattle.bits.specs.Runs.{put, store}
use Rattle.bits.proofs.RunLaws.{put_put, put_one, put_two, store_fits, length_put}
use Rattle.bits.specs.Sizes.{max_elements, longest_index}
use Rattle.bits.proofs.DecimalLaws.{decimal_few}
use Rattle.schema.specs.Tables.{Tables}
use Rattle.schema.specs.Labels.{decimal, label_bytes, label_length_lem, label_part_lem, at_index, LabelLies}
use Rattle.schema.specs.declared.Label.{Label}
use Rattle.schema.specs.declared.Label.TheVariants.{Declared, Named, Plain}
use Rattle.schema.proofs.LaidLaws.{label_bytes_lem, label_length}
use Rattle.framing.specs.Events.{element}
use Rattle.steps.specs.Tally.{world_of, played, added}
use Rattle.steps.specs.declared.tally.Tally.{Tally}
use Rattle.steps.specs.Paths.{tag_bytes, Grew, Entered}
use Rattle.steps.specs.declared.Tag.{Tag}
use Rattle.framing.specs.declared.Walk.{Walk}
use Rattle.framing.specs.Sinks.{gives_leaves_lem}
use Rattle.steps.proofs.TallyLaws.{count_element}

-- ---- runs whose first elements are stored by themselves

pub one_then : (d e run : List ℕ) (i a : ℕ) → i + 1 ≤ length (set d i a) → e ≡ put (set d i a) (i + 1) run → e ≡ put d i (a ∷ run)
one_then d e run i a h q =
    let n : length (set d i a) ≡ length d = simp length-set in
    let l : i ≤ length d = omega arith in
    let l₁ : i + 1 ≤ length d = omega arith in
    q ∙ ap (λ (x : List ℕ). put x (i + 1) run) (put_one d i a l₁) ∙ put_put d (a ∷ []) run i 1 l refl

pub two_then : (d e run : List ℕ) (i a b : ℕ) → i + 2 + length run ≤ length (set (set d i a) (i + 1) b)
    → e ≡ store (set (set d i a) (i + 1) b) (i + 2) run → e ≡ put d i (a ∷ b ∷ run)
two_then d e run i a b h q =
    let n : length (set (set d i a) (i + 1) b) ≡ length d = simp length-set in
    let l : i ≤ length d = omega arith in
    let l₂ : i + 2 ≤ length d = omega arith in
    q
    ∙ store_fits (set (set d i a) (i + 1) b) (i + 2) run h
    ∙ ap (λ (x : List ℕ). put x (i + 2) run) (put_two d i a b l₂)
    ∙ put_put d (a ∷ b ∷ []) run i 2 l refl

-- a run between two elements
pub between : (d e run : List ℕ) (i k a z : ℕ) → k ≡ length run → i + k + 2 ≤ length (set d i a) → e ≡ store (set d i a) (i + 1) run
    → set e (i + 1 + k) z ≡ put d i (a ∷ run ++ (z ∷ []))
between d e run i k a z ek h q =
    let m : length (set d i a) ≡ length d = simp length-set in
    let l : i ≤ length d = omega arith in
    let l₁ : i + 1 ≤ length (set d i a) = omega arith in
    let l₂ : i + 1 + length run ≤ length (set d i a) = omega arith in
    let first : e ≡ put d i (a ∷ run) = one_then d e run i a l₁ (q ∙ store_fits (set d i a) (i + 1) run l₂) in
    let n : length e ≡ length d = ap length first ∙ length_put d (a ∷ run) i (omega arith) in
    let at : i + 1 + k ≡ i + suc k = omega arith in
    put_one e (i + 1 + k) z (omega arith)
    ∙ ap (λ (x : List ℕ). put x (i + 1 + k) (z ∷ [])) first
    ∙ ap (λ (j : ℕ). put (put d i (a ∷ run)) j (z ∷ [])) at
    ∙ put_put d (a ∷ run) (z ∷ []) i (suc k) l (ap suc (sym ek))

-- ---- labels and tags

module _ (x : Label) where
  pub declared_named : (start len : ℕ) → x ≡ Declared start len → x ≡ Plain → ⊥
  declared_named start len e p = let z : ◌≡◌ {A = ℕ} 0 1 = cc in omega arith

  pub schema_named : (start len : ℕ) → x ≡ Named start len → x ≡ Plain → ⊥
  schema_named start len e p = let z : ◌≡◌ {A = ℕ} 0 1 = cc in omega arith

  pub plain_length : (handle : ℕ) → x ≡ Plain → label_length_lem handle x ≡ 2 + length (decimal handle)
  unfolding label_length_lem
  plain_length handle e = ap (label_length_lem handle) e

-- a plain label
pub plain_put : (t : Tables) (handle : ℕ) (x : Label) (d e : List ℕ) (i : ℕ) → x ≡ Plain
    → i + 2 + length (decimal handle) ≤ length (set (set d i 95) (i + 1) 104)
    → e ≡ store (set (set d i 95) (i + 1) 104) (i + 2) (decimal handle) → e ≡ put d i (label_bytes t handle x)
unfolding label_bytes
plain_put t handle x d e i p h q = two_then d e (decimal handle) i 95 104 h q ∙ ap (λ (l : Label). put d i (label_bytes t handle l)) (sym p)

-- a name, which lies in its pool
module _ (t : Tables) (handle : ℕ) (x : Label) (name : List ℕ) (lies : LabelLies t x) (named : x ≡ Plain → ⊥)
    (is : name ≡ label_part_lem t.declared_names_lem t.names x) where
  pub named_length : length name ≡ label_length_lem handle x
  named_length = ap length (is ∙ label_bytes_lem t handle x lies named) ∙ label_length t handle x lies

  pub named_put : (d e : List ℕ) (i : ℕ) → e ≡ put d i name → e ≡ put d i (label_bytes t handle x)
  named_put d e i q = q ∙ ap (put d i) (is ∙ label_bytes_lem t handle x lies named)

-- a dot and a tag that is known
pub tag_put : (t : Tables) (handle : ℕ) (x y : Tag) (d e : List ℕ) (i : ℕ) → x ≡ y → i + 1 ≤ length (set d i 46)
    → e ≡ put (set d i 46) (i + 1) (tag_bytes t handle y) → e ≡ put d i (46 ∷ tag_bytes t handle x)
tag_put t handle x y d e i q h r =
    one_then d e (tag_bytes t handle y) i 46 h r ∙ ap (λ (z : Tag). put d i (46 ∷ tag_bytes t handle z)) (sym q)

-- ---- the first bytes of a path

-- a run behind the first n bytes
pub take_put : (d run : List ℕ) (n r : ℕ) → n ≤ length d → r ≡ n + length run → take r (put d n run) ≡ take n d ++ run
unfolding put
take_put d run n r h e =
    take_at (take n d ++ run) (drop (n + length run) d) r (length-append (take n d) run ∙ ap (λ (k : ℕ). k + length run) (length-take-le n d h) ∙ sym e)

-- leaves them as they are
pub take_kept : (d e run : List ℕ) (n : ℕ) → e ≡ put d n run → n ≤ length d → take n e ≡ take n d
unfolding put
take_kept d e run n q h =
    ap (take n) (q ∙ append_assoc (take n d) run (drop (n + length run) d))
    ∙ take_at (take n d) (run ++ drop (n + length run) d) n (length-take-le n d h)

-- how long the longer path is
pub length_longer : (d run : List ℕ) (n : ℕ) → n ≤ length d → length (take n d ++ run) ≡ n + length run
length_longer d run n h = length-append (take n d) run ∙ ap (λ (k : ℕ). k + length run) (length-take-le n d h)

-- ---- growing

-- a run was written behind the path
pub grew_by : (path path' run : List ℕ) (most n r : ℕ) → n ≤ length path → r ≡ n + length run → length run ≤ most → path' ≡ put path n run
    → Grew (take n path ++ run) most n r path path'
grew_by path path' run most n r h e l q =
    record {
      is = ap (take r) q ∙ take_put path run n r h e;
      more = omega arith;
      within = omega arith;
      kept = take_kept path path' run n q h;
    }

-- ---- entering an element

module _ (s : Walk) (i : ℕ) (t : Tally) (path : List ℕ) (n k : ℕ) (counts : k ≡ added t.elements 1) where
  abbrev one_more : Tally
  one_more = record t { elements = k }

  counted : (at records paths payloads : List ℕ) → world_of one_more records paths payloads ≡ played (element at ∷ []) (world_of t records paths payloads)
  counted at records paths payloads = count_element t records paths payloads k at counts

  -- the object walk has no paths
  pub entered_object : gives_leaves_lem s ≡ false → Entered s i t one_more n n path path
  entered_object e = record { counts = counted; grew = rw e (record { is = refl; more = omega arith; within = omega arith; kept = refl }) }

  pub entered_leafy : (path' : List ℕ) (r : ℕ) → gives_leaves_lem s ≡ true → Grew (at_index (take n path) i) longest_index n r path path'
      → Entered s i t one_more n r path path'
  entered_leafy path' r e g = record { counts = counted; grew = rw e g }

-- how long `[index]` is: the digits and two brackets, and of an element's index there are at most four
pub index_length : (i : ℕ) → length (91 ∷ decimal i ++ (93 ∷ [])) ≡ length (decimal i) + 2
index_length i = let e = length-append (decimal i) (93 ∷ []) in omega arith

pub index_short : (i : ℕ) → i < max_elements → length (decimal i) + 2 ≤ longest_index
index_short i h = let d = decimal_few 3 i (omega arith) in omega arith
