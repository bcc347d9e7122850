-- What the cycle's loops keep: the rest of the definition's walk from here, on the world as it is, comes to what the whole comes to from the
-- world at the entry.
use Prim.Native.Nat.{ℕ, ◌+◌, ◌-◌, ◌≤◌}
use native.Mathlib.Omega.{arith}
use mathlib.Core.Path.{◌≡◌, refl, sym, ap, ap₂, subst, ◌∙◌}
use mathlib.Core.Bool.{Bool, true, ◌&&◌}
use mathlib.Core.List.{List, [], ◌∷◌}
use Rattle.std.specs.Prelude.{Option, Some, None}
use lib.Dec.{eqb}
use lib.ListN.{take}
use lib.Seq.{take-take}
use Rattle.bits.proofs.Never.{never}
use Rattle.bits.specs.Sizes.{max_fields, max_elements}
use Rattle.schema.specs.Labels.{label_bytes, dot}
use Rattle.schema.specs.declared.Label.{Label}
use Rattle.framing.specs.Windows.{Window}
use Rattle.framing.specs.Events.{element, Trace}
use Rattle.framing.specs.Sinks.{entered_at}
use Rattle.framing.specs.Walk.{Run, done, stopped, prepend, fields, behind, elements, level, in_item}
use Rattle.outputs.specs.World.{World}
use Rattle.steps.specs.Tally.{played, padding}
use Rattle.steps.specs.Views.{inner, up_to, sink_for, exit_sink}
use Rattle.steps.specs.Heads.{level_head_lem, element_head_lem, field_head_lem, number_pads, element_pads, field_pads}
use Rattle.steps.specs.Paths.{item_path}
use Rattle.steps.specs.Kinds.{kind_of, KindLies}
use Rattle.steps.specs.Lent.{tables_of, kind_at}
use Rattle.steps.specs.Steps.{Lies}
use Rattle.steps.specs.Gives.{fields_stop, level_stop, flat_field}
use Rattle.steps.specs.declared.Head.{Head}
use Rattle.steps.specs.declared.Head.TheVariants as head
use Rattle.steps.specs.declared.Kind.{Kind}
use Rattle.steps.specs.declared.Kind.TheVariants as kind
use Rattle.steps.proofs.CaseLaws.{NotGo, NotClosed, NotArray}
use Rattle.steps.proofs.TallyLaws.{played_array}
use Rattle.steps.proofs.ShiftLaws.{size_inner}
use Rattle.steps.proofs.WalkLaws.{played_append, Alike, Ends, Shuts, Goes, level_exit, level_walks, level_next, elements_exit, elements_walk, element_next, fields_exit, fields_closed, fields_walk, field_next}
use Rattle.steps.proofs.FieldKindLaws.{sink_alike, item_path_lem, kind_lies, field_flat, field_array}
use Rattle.cycle.specs.Cycle.{Place, place, sink_at, window_at, Ready, LevelWalked, Done, finished, FieldsWalked, FieldWalked}
use Rattle.steps.specs.declared.pieces.Piece.{Piece}
use Rattle.steps.specs.declared.tables.Spot.{Spot}

-- ---- what fields leave

abbrev pub ended : World → Option ℕ → Done
ended y r = record { world = y; after = r }

finished_goes : (b : ℕ) (r r' : Run) (x y : World) → Goes r r' x y → finished b r x ≡ finished b r' y
finished_goes b r r' x y g = ap (λ (u : Run). finished b u x) g.is ∙ go r' ∙ ap (finished b r') (sym g.world)
  where
    go : (u : Run) → finished b (prepend g.trace u) x ≡ finished b u (played g.trace x)
    go (done t q) = ap (λ (w : World). ended w (Some (b + q))) (played_append g.trace t x)
    go (stopped t) = ap (λ (w : World). ended w None) (played_append g.trace t x)

finished_shuts : (b : ℕ) (r : Run) (x y : World) (n : ℕ) → Shuts b r x y n → ended y (Some n) ≡ finished b r x
finished_shuts b r x y n s = ap₂ (λ (w : World) (k : ℕ). ended w (Some k)) s.world s.at ∙ ap (λ (u : Run). finished b u x) (sym s.is)

finished_ends : (b : ℕ) (r : Run) (x y : World) → Ends r x y → ended y None ≡ finished b r x
finished_ends b r x y s = ap (λ (w : World). ended w None) s.world ∙ ap (λ (u : Run). finished b u x) (sym s.is)

-- behind fields that closed, and behind those that did not
behind_closed : (b n : ℕ) (more : ℕ → Trace) (r : Run) (x y : World) → ended y (Some n) ≡ finished b r x → played (behind more r) x ≡ played (more (n - b)) y
behind_closed b n more (done t q) x y e =
    let w : y ≡ played t x = ap (λ (d : Done). d.world) e in
    let a : Some n ≡ Some (b + q) = ap (λ (d : Done). d.after) e in
    let c : n ≡ b + q = cc in
    let d : q ≡ n - b = omega arith in
    played_append t (more q) x ∙ ap₂ (λ (k : ℕ) (v : World). played (more k) v) d (sym w)
behind_closed b n more (stopped t) x y e =
    let a : Some n ≡ None = ap (λ (d : Done). d.after) e in
    never cc

closed_later : (b n : ℕ) (r : Run) (x y : World) → ended y (Some n) ≡ finished b r x → b ≤ n
closed_later b n (done t q) x y e =
    let a : Some n ≡ Some (b + q) = ap (λ (d : Done). d.after) e in
    let c : n ≡ b + q = cc in
    omega arith
closed_later b n (stopped t) x y e =
    let a : Some n ≡ None = ap (λ (d : Done). d.after) e in
    never cc

behind_open : (b : ℕ) (more : ℕ → Trace) (r : Run) (x y : World) → ended y None ≡ finished b r x → y ≡ played (behind more r) x
behind_open b more (done t q) x y e =
    let a : None ≡ Some (b + q) = ap (λ (d : Done). d.after) e in
    never cc
behind_open b more (stopped t) x y e = ap (λ (d : Done). d.world) e

-- ---- the loop over an element's fields

-- at bit `at` the world is x, `left` more fields are allowed, and the working path's front is `path`
pub record Fielding (q : Place) (index start : ℕ) (x₀ x : World) (path : List ℕ) (at left : ℕ) (first : Bool) : Type 0 where
  pub later : start ≤ at
  pub same : (b : ℕ) (inside : Bool) → b ≤ start
      → finished b (fields (sink_at q inside) (window_at q b) index q.path left (at - b) first) x
      ≡ finished b (fields (sink_at q inside) (window_at q b) index q.path max_fields (start - b) true) x₀
  pub kept : path ≡ q.path

-- x₁: the world in which the head's padded numbers are counted
module _ (q : Place) (index start : ℕ) (x₀ x : World) (path : List ℕ) (at left : ℕ) (first : Bool) (fit : start ≤ q.end) (v : Fielding q index start x₀ x path at left first)
    (x₁ : World) (took : x₁ ≡ padding (field_pads (up_to q.bytes q.end) left at) x) where
  private_alike : (inside : Bool) → Alike (sink_at q inside) (exit_sink q.walk inside)
  private_alike inside = sink_alike q.walk q.tables q.below inside q.level

  -- a field was walked
  pub fields_turn : {h body next : ℕ} → field_head_lem (up_to q.bytes q.end) left at ≡ head.Go h body next → (y : World) (path' : List ℕ) (f : Bool)
      → FieldWalked (place q.walk q.tables q.below q.level q.bytes q.base next path) index first h body x₁ y path'
      → f ≡ (first && eqb (next - body) 0) → Fielding q index start x₀ y path' next (left - 1) f
  fields_turn {h} {body} {next} e y path' f r ef =
      let n = field_next q.bytes q.end left at e in
      record {
        later = let z = v.later in omega arith;
        same = λ b inside hb.
            let le : b ≤ q.end = omega arith in
            let here : b ≤ at = let z = v.later in omega arith in
            let g = fields_walk (sink_at q inside) (exit_sink q.walk inside) (private_alike inside) q.bytes q.base b q.end q.path le index left at first here e x in
            let w : y ≡ played ((sink_at q inside).field index q.path first h (inner q.bytes q.base body next)) (padding (field_pads (up_to q.bytes q.end) left at) x) =
            r.out inside
            ∙ ap₂ (λ (p : List ℕ) (z : World). played ((sink_at q inside).field index p first h (inner q.bytes q.base body next)) z) v.kept took in
            ap₂ (λ (k : Bool) (u : World). finished b (fields (sink_at q inside) (window_at q b) index q.path (left - 1) (next - b) k) u) ef w
            ∙ sym (finished_goes b _ _ x _ g)
            ∙ v.same b inside hb;
        kept = r.kept ∙ v.kept;
      }

  -- the fields closed
  pub fields_shut : {n : ℕ} → field_head_lem (up_to q.bytes q.end) left at ≡ head.Closed n → FieldsWalked q index start x₀ x₁ (Some n) path
  fields_shut {n} e =
      record {
        out = λ b inside hb.
            let le : b ≤ q.end = omega arith in
            let here : b ≤ at = let z = v.later in omega arith in
            let s = fields_closed (sink_at q inside) (exit_sink q.walk inside) (private_alike inside) q.bytes q.base b q.end q.path le index left at first here e x in
            ap (λ (z : World). ended z (Some n)) took ∙ finished_shuts b _ x _ n s ∙ v.same b inside hb;
        kept = v.kept;
      }

  -- they did not
  pub fields_end : (h : Head) → field_head_lem (up_to q.bytes q.end) left at ≡ h → NotGo h → NotClosed h → (y : World) (path' : List ℕ)
      → ((inside : Bool) → y ≡ played (fields_stop (exit_sink q.walk inside) q.bytes q.base q.end path h) x₁) → path' ≡ path
      → FieldsWalked q index start x₀ y None path'
  fields_end h e n c y path' out same =
      record {
        out = λ b inside hb.
            let le : b ≤ q.end = omega arith in
            let here : b ≤ at = let z = v.later in omega arith in
            let all : y ≡ played (fields_stop (exit_sink q.walk inside) q.bytes q.base q.end q.path h) (padding (field_pads (up_to q.bytes q.end) left at) x) =
            out inside ∙ ap₂ (λ (p : List ℕ) (z : World). played (fields_stop (exit_sink q.walk inside) q.bytes q.base q.end p h) z) v.kept took in
            let s = fields_exit (sink_at q inside) (exit_sink q.walk inside) (private_alike inside) q.bytes q.base b q.end q.path le index left at first here h e n c x y all in
            finished_ends b _ x y s ∙ v.same b inside hb;
        kept = same ∙ v.kept;
      }

-- ---- the loop over a level's elements

-- begin: where the first element is due; x₀: the world then
pub record Leveling (q : Place) (inside : Bool) (start count begin : ℕ) (x₀ x : World) (path : List ℕ) (at left : ℕ) : Type 0 where
  pub later : start ≤ at
  pub same : played (elements (sink_at q inside) (window_at q start) q.path count left (at - start)) x
      ≡ played (elements (sink_at q inside) (window_at q start) q.path count max_elements (begin - start)) x₀
  pub kept : path ≡ q.path

-- all elements were walked
pub record ElementsWalked (q : Place) (inside : Bool) (start count begin : ℕ) (x₀ y : World) (path : List ℕ) : Type 0 where
  pub out : y ≡ played (elements (sink_at q inside) (window_at q start) q.path count max_elements (begin - start)) x₀
  pub kept : path ≡ q.path

-- the first m of the first n
pub prefix : (m n : ℕ) (a b : List ℕ) → m ≤ n → take n a ≡ take n b → take m a ≡ take m b
prefix m n a b h e = sym (take-take m n a h) ∙ ap (take m) e ∙ take-take m n b h

module _ (q : Place) (inside : Bool) (start : ℕ) (fit : start ≤ q.end) where
  alike : Alike (sink_at q inside) (exit_sink q.walk inside)
  alike = sink_alike q.walk q.tables q.below inside q.level

  -- the count ends the level
  pub level_end : (h : Head) → level_head_lem (up_to q.bytes q.end) start ≡ h → NotGo h → (x x₁ y : World) → x₁ ≡ padding (number_pads (up_to q.bytes q.end) start) x
      → (path : List ℕ) → y ≡ played (level_stop (exit_sink q.walk inside) q.bytes q.base q.end q.path h) x₁ → path ≡ q.path → LevelWalked q inside start x y path
  level_end h e n x x₁ y took path out same =
      record {
        out = level_exit (sink_at q inside) (exit_sink q.walk inside) alike q.bytes q.base start q.end q.path fit h e n x y
            (out ∙ ap (played (level_stop (exit_sink q.walk inside) q.bytes q.base q.end q.path h)) took);
        kept = same;
      }

  pub level_begin : {count begin m : ℕ} → level_head_lem (up_to q.bytes q.end) start ≡ head.Go count begin m → (x : World) → Leveling q inside start count begin x x q.path begin max_elements
  level_begin e x = record { later = let n = level_next q.bytes start q.end e in n.0; same = refl; kept = refl }

  -- behind the count, whose padding was counted then
  pub level_whole : {count begin m : ℕ} → level_head_lem (up_to q.bytes q.end) start ≡ head.Go count begin m → (x x₁ : World) → x₁ ≡ padding (number_pads (up_to q.bytes q.end) start) x
      → (y : World) (path : List ℕ) → ElementsWalked q inside start count begin x₁ y path → LevelWalked q inside start x y path
  level_whole {count} {begin} e x x₁ took y path r =
      record {
        out =
            r.out
            ∙ ap (played (elements (sink_at q inside) (window_at q start) q.path count max_elements (begin - start))) took
            ∙ sym (level_walks (sink_at q inside) (exit_sink q.walk inside) alike q.bytes q.base start q.end q.path fit e x);
        kept = r.kept;
      }

  module _ (count begin : ℕ) (x₀ x : World) (path : List ℕ) (at left : ℕ) (v : Leveling q inside start count begin x₀ x path at left) where
    -- the elements end
    pub elements_end : (h : Head) → element_head_lem (up_to q.bytes q.end) count left at ≡ h → NotGo h → (x₁ y : World)
        → x₁ ≡ padding (element_pads (up_to q.bytes q.end) left at) x → (path' : List ℕ)
        → y ≡ played (level_stop (exit_sink q.walk inside) q.bytes q.base q.end path h) x₁ → path' ≡ path → ElementsWalked q inside start count begin x₀ y path'
    elements_end h e n x₁ y took path' out same =
        let all : y ≡ played (level_stop (exit_sink q.walk inside) q.bytes q.base q.end q.path h) (padding (element_pads (up_to q.bytes q.end) left at) x) =
        out ∙ ap₂ (λ (p : List ℕ) (z : World). played (level_stop (exit_sink q.walk inside) q.bytes q.base q.end p h) z) v.kept took in
        record {
          out = elements_exit (sink_at q inside) (exit_sink q.walk inside) alike q.bytes q.base start q.end q.path fit count left at v.later h e n x y all ∙ v.same;
          kept = same ∙ v.kept;
        }

    -- an element was entered with the world x₁ and the path p₁, and its fields left the world y and r
    module _ (i next m : ℕ) (e : element_head_lem (up_to q.bytes q.end) count left at ≡ head.Go i next m) (x₁ y : World) (p₁ path' : List ℕ)
        (counts : (p : List ℕ) → x₁ ≡ played (element p ∷ []) (padding (element_pads (up_to q.bytes q.end) left at) x)) (is : p₁ ≡ item_path q.walk path i) (r : Option ℕ) (p₂ : List ℕ)
        (f : FieldsWalked (place q.walk q.tables q.below q.level q.bytes q.base q.end p₁) i next x₁ y r p₂) (same : path' ≡ path) where
      later' : start ≤ next
      later' = let n = element_next q.bytes q.end count left at e in let z = v.later in omega arith

      path_here : p₁ ≡ in_item (sink_at q inside) q.path i
      path_here = is ∙ ap (λ (p : List ℕ). item_path q.walk p i) v.kept ∙ sym (item_path_lem q.walk q.tables q.below inside q.level q.path i)

      -- the element's fields by the definition, and the world and the elements behind them
      abbrev fields_of : Run
      fields_of = fields (sink_at q inside) (window_at q start) i (in_item (sink_at q inside) q.path i) max_fields (next - start) true

      abbrev entered : World
      entered = played (element (in_item (sink_at q inside) q.path i) ∷ []) (padding (element_pads (up_to q.bytes q.end) left at) x)

      abbrev more : ℕ → Trace
      more k = elements (sink_at q inside) (window_at q start) q.path count (left - 1) k

      runs : ended y r ≡ finished start fields_of entered
      runs =
          f.out start inside later'
          ∙ ap₂ (λ (p : List ℕ) (w : World). finished start (fields (sink_at q inside) (window_at q start) i p max_fields (next - start) true) w) path_here (counts (in_item (sink_at q inside) q.path i))

      walked : played (elements (sink_at q inside) (window_at q start) q.path count left (at - start)) x ≡ played (behind more fields_of) entered
      walked = elements_walk (sink_at q inside) (exit_sink q.walk inside) alike q.bytes q.base start q.end q.path fit count left at v.later e x

      pub elements_turn : (n : ℕ) → r ≡ Some n → Leveling q inside start count begin x₀ y path' n (left - 1)
      elements_turn n er =
          let played-on : ended y (Some n) ≡ finished start fields_of entered = ap (ended y) (sym er) ∙ runs in
          record {
            later = closed_later start n fields_of entered y played-on;
            same = sym (walked ∙ behind_closed start n more fields_of entered y played-on) ∙ v.same;
            kept = same ∙ v.kept;
          }

      pub elements_open : r ≡ None → ElementsWalked q inside start count begin x₀ y path'
      elements_open er =
          record {
            out = behind_open start more fields_of entered y (ap (ended y) (sym er) ∙ runs) ∙ sym walked ∙ v.same;
            kept = same ∙ v.kept;
          }

-- ---- a field

module _ (q : Place) (index : ℕ) (first : Bool) (handle start : ℕ) (x : World) (fit : start ≤ q.end) where
  size_here : (window_at q start).size ≡ q.end - start
  size_here = size_inner q.bytes q.base start q.end fit

  -- a field that is no array to walk
  pub field_put : (k : Kind) → k ≡ kind_of q.walk q.tables q.below q.level handle (q.end - start) → NotArray k → (y : World) (path : List ℕ)
      → y ≡ played (flat_field q.tables index q.path first handle (window_at q start) k) x → path ≡ q.path
      → FieldWalked q index first handle start x y path
  field_put k e n y path out same =
      record {
        out = λ inside.
            let e' = e ∙ ap (kind_of q.walk q.tables q.below q.level handle) (sym size_here) in
            out ∙ ap (λ (t : Trace). played t x) (sym (field_flat q.walk q.tables q.below inside q.level index q.path first handle (window_at q start) k e' n));
        kept = same;
      }

  -- an array: its label is put behind the path, and its level is walked
  pub field_walked : (lower : ℕ) (l : Label) → kind.Array lower l ≡ kind_of q.walk q.tables q.below q.level handle (q.end - start) → (y : World) (longer path : List ℕ) (c : Place) (start' : ℕ) (path' : List ℕ)
      → longer ≡ dot q.path (label_bytes q.tables handle l) → LevelWalked c true start' x y path' → c ≡ place q.walk q.tables (q.below - 1) lower c.bytes c.base c.end longer
      → window_at c start' ≡ window_at q start → path ≡ q.path
      → FieldWalked q index first handle start x y path
  field_walked lower l e y longer path c start' path' is r ec window same =
      record {
        out = λ inside.
            let e' = e ∙ ap (kind_of q.walk q.tables q.below q.level handle) (sym size_here) in
            let s = sink_for q.walk q.tables (q.below - 1) true lower in
            r.out
            ∙ ap (λ (p : Place). played (level (sink_at p true) (window_at c start') p.path) x) ec
            ∙ ap₂ (λ (w : Window) (p : List ℕ). played (level s w p) x) window is
            ∙ played_array (entered_at (dot q.path (label_bytes q.tables handle l)) (window_at q start)) (level s (window_at q start) (dot q.path (label_bytes q.tables handle l))) x
            ∙ ap (λ (t : Trace). played t x) (sym (field_array q.walk q.tables q.below inside q.level index q.path first handle (window_at q start) lower l e'));
        kept = same;
      }

-- ---- for the code: what a step asks of a field

-- a field's label lies in its pool
pub kind_ready : {s : Spot} {p : Piece} {start plen adds : ℕ} → Ready s p start plen adds → (handle width : ℕ) {k : Kind} → k ≡ kind_at s handle width
    → KindLies (tables_of s.tables.now) k
kind_ready {s} r handle width e =
    let t = tables_of s.tables.now in
    subst (KindLies t) (sym e) (kind_lies s.walk t s.below s.level handle width r.labels.leaf r.labels.container)

-- a piece lies in its bytes from their first bit on
pub up_to_lem : (p : Piece) → Lies p.bytes.now 0 p.end
up_to_lem p = (omega arith, p.in_bytes, omega (arith, p.in_root))
